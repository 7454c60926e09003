-- The figures of a yard's blocks, and the least raise block by block.
use Rattle.std.proofs.Common.{◌≡◌, ℕ, ◌+◌, ◌-◌, ◌*◌, ◌<◌, ◌≤◌, min, List, length, Option, Some, None, refl, sym, ap, ◌∙◌, subst, inl, inr, arith, true, false}
use Rattle.std.specs.Prelude.{slice_get, is_some}
use Rattle.std.proofs.lemmas.Bool.{cases_lt, cond-true, true≢false}
use Rattle.common_lists.proofs.NumberLaws.{last_or}
use Rattle.shape_exact.specs.Yards.{PlainYard}
use Rattle.shape_exact.specs.declared.block.Block.{Block}
use Rattle.shape_exact.specs.Shapes.{cells}
use Rattle.common_lists.specs.Each.{sum_below}
use Rattle.code_table.specs.Costs.{lesser}
use Rattle.plan_rule.specs.declared.literal.Literal.{Literal}
use Rattle.plan_rule.specs.Choices.{Choices, blocks, count}
use Rattle.plan_rule.specs.Bounds.{IsLeastOf, IsBase, IsTight, IsRaise, IsEnergy, presses}
use Rattle.plan_rule.specs.Yards.{capacity, choices, standing}
use Rattle.plan_rule.proofs.WindowLaws.{due_is, weight_is, work_is, same_raise}
use Rattle.log_checker.specs.Windows.{HasRoom, IsLeastRaiseBelow, IsRaiseIn, plate_room, stood_at, work_in}

-- the capacity, plate by plate
pub capacity_is : (yard : PlainYard) (first last : ℕ) → (choices yard).capacity first last ≡ sum_below (length yard.plates) (plate_room yard first last)
unfolding choices capacity
capacity_is yard first last = refl

-- no raise of a block that presses, among these, is below v
abbrev pub IsLow : Choices → List Literal → ℕ → ℕ → ℕ → ℕ → Type 0
IsLow c side first last v b = (w : ℕ) → presses c side first last b ≡ true → IsRaise c last b w → v ≤ w

-- one block more
pub raise_more : (c : Choices) (side : List Literal) (first last n : ℕ) (o r : Option ℕ) → IsLeastRaiseBelow c side first last n o
    → IsRaiseIn c side first last n r → IsLeastRaiseBelow c side first last (n + 1) (lesser o r)
raise_more c side first last n None None h calm = λ b l. last_or (λ b. presses c side first last b ≡ false) n b l (h b) calm
raise_more c side first last n None (Some v) h (press, raise) = (
  (n, omega arith, press, raise),
  λ b w l. last_or (IsLow c side first last v) n b l
      (λ less u p r. absurd (true≢false (sym p ∙ h b less)))
      (λ u p r. let e = same_raise c last n v u raise r in omega arith) w,
)
raise_more c side first last n (Some v) None h calm = (
  (let (b, l, p, r) = h.0 in (b, omega arith, p, r)),
  λ b w l. last_or (IsLow c side first last v) n b l (λ less u. h.1 b u less) (λ u p r. absurd (true≢false (sym p ∙ calm))) w,
)
raise_more c side first last n (Some u) (Some v) h (press, raise) = (
  elim (cases_lt u v) [
    | inl less ↦ (let (b, l, p, r) = h.0 in (b, omega arith, p, subst (IsRaise c last b) (let e : u ≡ min u v = omega arith in e) r))
    | inr more ↦ (n, omega arith, press, subst (IsRaise c last n) (let e : v ≡ min u v = omega arith in e) raise)
  ],
  λ b w l. last_or (IsLow c side first last (min u v)) n b l
      (λ less x p r. let a = h.1 b x less p r in omega arith)
      (λ x p r. let e = same_raise c last n v x raise r in omega arith) w,
)

tight : (c : Choices) (side : List Literal) (first last v : ℕ) → IsLeastRaiseBelow c side first last (blocks c) (Some v) → (HasRoom c side first last → ⊥) → IsTight c side first last
tight c side first last v raise full = record {
  some = (let (b, l, p, r) = raise.0 in (b, l, p));
  above = elim (cases_lt (c.capacity first last) _) [ inl l ↦ l | inr room ↦ absurd (full room) ];
}

-- of a tight one up to the last day
pub energy_last : (c : Choices) (side : List Literal) (first last v : ℕ) → IsLeastRaiseBelow c side first last (blocks c) (Some v) → (HasRoom c side first last → ⊥)
    → last + 1 ≡ c.days → IsEnergy c first last side None
energy_last c side first last v raise full day = inr (tight c side first last v raise full, day)

-- of a tight one with a day after it
pub energy_tight : (c : Choices) (side : List Literal) (first last k v : ℕ) → IsBase c side (Some k) → IsLeastRaiseBelow c side first last (blocks c) (Some v)
    → (HasRoom c side first last → ⊥) → last + 1 < c.days → IsEnergy c first last side (Some (k + v))
energy_tight c side first last k v base raise full day = (k, base, inr (tight c side first last v raise full, day, (v, raise, refl)))

-- the work of a block that presses
pub work_pressing : (yard : PlainYard) (side : List Literal) (first last b duration area : ℕ) (block : Block) → presses (choices yard) side first last b ≡ true
    → slice_get yard.blocks b ≡ Some block → duration ≡ block.duration → area ≡ cells block.shape → duration * area ≡ work_in (choices yard) side first last b
work_pressing yard side first last b duration area block press at d a =
    ap (λ d. d * area) d ∙ ap (λ a. block.duration * a) a ∙ sym (work_is yard b block at)
    ∙ sym (cond-true (presses (choices yard) side first last b) ((choices yard).work b) 0 press)

-- the raise of a block that presses
pub raise_of : (yard : PlainYard) (side : List Literal) (first last b least weight late v : ℕ) (block : Block) → presses (choices yard) side first last b ≡ true
    → IsLeastOf (λ code. code < count (choices yard) b) ((choices yard).cost b) (Some least) → slice_get yard.blocks b ≡ Some block
    → weight ≡ block.weight → late ≡ last + 1 - block.due → v ≡ weight * late - least → IsRaiseIn (choices yard) side first last b (Some v)
raise_of yard side first last b least weight late v block press is at w l e =
    let w' = weight_is yard b block at in let d = due_is yard b block at in
    let f : weight * late ≡ (choices yard).weight b * (last + 1 - (choices yard).due b) =
    ap (λ w. w * late) (w ∙ sym w') ∙ ap (λ l. (choices yard).weight b * l) (l ∙ ap (λ d. last + 1 - d) (sym d)) in
    (press, (least, is, e ∙ ap (λ n. n - least) f))

-- an answer that is not some is none
pub none_of : (o p : Option ℕ) → o ≡ p → is_some o ≡ false → p ≡ None
none_of None p e f = sym e
none_of (Some d) p e f = absurd (true≢false f)

-- what the pieces take, piece by piece
pub standing_is : (yard : PlainYard) (first last n : ℕ) → n ≡ length yard.fixed → (choices yard).standing first last ≡ sum_below n (stood_at yard first last)
unfolding choices standing
standing_is yard first last n e = ap (λ n. sum_below n (stood_at yard first last)) (sym e)
