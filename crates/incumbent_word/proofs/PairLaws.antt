-- A branch over codes of block 1 beside block 0 at one code, where each of them clashes or costs too much, may be shared.
use Rattle.std.proofs.Common.{◌≡◌, ◌≢◌, ℕ, zero, suc, ◌+◌, ◌/◌, ◌^◌, ◌<◌, ◌≤◌, ◌⊎◌, List, [], ◌∷◌, All, ◌++◌, ◌-◌, length, Contains, Bool, true, false, Option, Result, Ok, Some, refl, sym, ap, ◌∙◌, subst, inl, inr, le_refl, arith}
use Rattle.std.specs.Prelude.{◌==◌, ◌&&◌, if◌then◌else◌, is_ok, IfOk}
use Rattle.std.proofs.lemmas.Bool.{eqb-true, and_parts}
use Rattle.std.proofs.lemmas.List.Elements.{All-nil, All-cons, All-head, All-tail, All-push, Contains-push}
use Rattle.std.proofs.lemmas.Option.{none-some, same_Some}
use Rattle.common_lists.specs.Each.{sum_below}
use Rattle.shape_exact.specs.Yards.{PlainYard}
use Rattle.plan_rule.specs.declared.literal.Literal.{Literal}
use Rattle.plan_rule.specs.Choices.{Choices, blocks, count}
use Rattle.plan_rule.specs.Plans.{IsPlan, IsFeasible, code_of, total}
use Rattle.plan_rule.specs.Paths.{key, IsWithin}
use Rattle.plan_rule.specs.Boxes.{AreLiterals, IsAscending, IsBox, IsLiteral, Holds, HasExact, exact}
use Rattle.plan_rule.specs.Bounds.{IsBase, IsLeastOf, MayTake}
use Rattle.plan_rule.specs.Yards.{choices}
use Rattle.plan_rule.proofs.BarLaws.{refutes_within, key_above}
use Rattle.plan_rule.proofs.BehindLaws.{fixes_at}
use Rattle.plan_rule.proofs.CountLaws.{blocks-length, count-length}
use Rattle.code_table.specs.Placements.{placements, own_cost}
use Rattle.refutation_log.specs.declared.record.Record.{Record}
use Rattle.refutation_log.specs.declared.record.Record.TheVariants.{Branch}
use Rattle.refutation_log.specs.Logs.{PlainCapsule}
use Rattle.refutation_log.specs.Steps.{result_of, IsStep, IsCovered}
use Rattle.incumbent_word.specs.Sittings.{Sitting, with_offer}
use Rattle.incumbent_word.specs.Sharing.{AreStepsUpTo, IsClearUpTo, IsPostable, IsShareable}

-- block 0 at one code
abbrev side : ℕ → List Literal
side code = exact 0 code ∷ []

-- both blocks at one code each
abbrev pair : ℕ → ℕ → List Literal
pair code d = exact 0 code ∷ exact 1 d ∷ []

-- the branch over a range of codes of block 1
abbrev pub branch_of : ℕ → ℕ → ℕ → Record
branch_of code lo hi = Branch 1 lo hi (side code) []

-- the two codes clash, or cost more than the bar leaves
abbrev pub IsShut : Choices → ℕ → ℕ → ℕ → Type 0
IsShut c bar code d = c.Clash 0 code 1 d ⊎ ((bar / 2 ^ 32 < c.cost 0 code + c.cost 1 d) × (c.cost 0 code + c.cost 1 d < 2 ^ 32))

pub record AreShut (c : Choices) (bar code lo hi : ℕ) : Type 0 where
  pub two : blocks c ≡ 2
  pub first : code < count c 0
  pub some : lo < hi
  pub second : hi ≤ count c 1
  pub each : (d : ℕ) → lo ≤ d → d < hi → IsShut c bar code d

one_ascends : (l : Literal) → IsAscending (l ∷ [])
one_ascends l i zero x y less e f = absurd (omega arith)
one_ascends l i (suc j) x y less e f = absurd (none-some y f)

pair_ascends : (code d : ℕ) → IsAscending (pair code d)
pair_ascends code d i zero x y less e f = absurd (omega arith)
pair_ascends code d zero (suc zero) x y less e f =
    let a : 0 ≡ x.block = ap (λ (l : Literal). l.block) (same_Some (exact 0 code) x e) in
    let b : 1 ≡ y.block = ap (λ (l : Literal). l.block) (same_Some (exact 1 d) y f) in
    omega arith
pair_ascends code d (suc i) (suc zero) x y less e f = absurd (omega arith)
pair_ascends code d i (suc (suc j)) x y less e f = absurd (none-some y f)

-- the code of a block that is exact in a box is the least that the block may take there
exact_least : (c : Choices) (box : List Literal) (b x : ℕ) → HasExact box b x → x < count c b → IsLeastOf (MayTake c box b) (c.cost b) (Some (c.cost b x))
exact_least c box b x has l = (
  (x, (l, λ d other. same_Some x d (sym has ∙ other)), refl),
  λ y may. subst (λ z. c.cost b x ≤ c.cost b z) (sym (may.1 x has)) (le_refl (c.cost b x)),
)

module _ (c : Choices) (bar code lo hi : ℕ) (h : AreShut c bar code lo hi) where
  -- the base of both blocks at a code each is what the codes cost
  pair_base : (d : ℕ) → d < hi → IsBase c (pair code d) (Some (c.cost 0 code + c.cost 1 d))
  pair_base d l =
      let box = pair code d in
      let first = exact_least c box 0 code (fixes_at box 0 0 code (pair_ascends code d) refl) h.first in
      let second = exact_least c box 1 d (fixes_at box 1 1 d (pair_ascends code d) refl) (let s = h.second in omega arith) in
      subst (λ n. Rattle.plan_rule.specs.Bounds.IsSumOfLeast (MayTake c box) c.cost n (c.cost 0 code + c.cost 1 d)) (sym h.two)
      (c.cost 0 code, c.cost 1 d, (0, c.cost 0 code, refl, first, (let e : c.cost 0 code ≡ 0 + c.cost 0 code = omega arith in e)), second, refl)

  side_is : IsBox c (side code)
  side_is = record {
    ascending = one_ascends (exact 0 code);
    each = All-cons (IsLiteral c) (exact 0 code) []
        record { block = let t = h.two in omega arith; some = omega arith; codes = let f = h.first in omega arith; part = λ w. let a = w.0 in let b = w.1 in omega arith }
        (All-nil (IsLiteral c));
  }

  covered : (t : Option (List ℕ)) → IsWithin c t bar → (d : ℕ) → lo ≤ d → d < hi → IsCovered c t [] (side code) [] 1 d
  covered t within d from to = elim (h.each d from to) [
    | inl clash ↦ inl (0, code, fixes_at (side code) 0 0 code (one_ascends (exact 0 code)) refl, clash)
    | inr (above, small) ↦ inr (inr (inl (Some (c.cost 0 code + c.cost 1 d), pair_base d to, refutes_within c t (pair code d) (Some (c.cost 0 code + c.cost 1 d)) bar within small above)))
  ]

  step : (t : Option (List ℕ)) → IsWithin c t bar → IsStep c t [] (branch_of code lo hi)
  step t within = record {
    side_is = side_is;
    block = let t = h.two in omega arith;
    free = All-cons (λ (l : Literal). l.block ≢ 1) (exact 0 code) [] (λ e. omega arith) (All-nil (λ (l : Literal). l.block ≢ 1));
    range = inl (h.some, h.second);
    earlier_only = All-nil (λ k. k < 0);
    covered = covered t within;
  }

  steps : AreStepsUpTo c bar (branch_of code lo hi ∷ [])
  steps t within zero l = (branch_of code lo hi, refl, step t within)
  steps t within (suc i) l = absurd (omega arith)

  -- the codes of a feasible plan in the result
  in_range : (b : Bool) (q : List ℕ) → (b ≡ true → (lo ≡ 0) × (hi ≡ count c 1)) → IsFeasible c q
      → Holds (if b then side code else (exact 0 code ∷ record { block = 1; lo = lo; hi = hi } ∷ [])) q
      → (code_of q 0 ≡ code) × (lo ≤ code_of q 1) × (code_of q 1 < hi)
  in_range true q whole can holds =
      let first = All-head (λ (l : Literal). (l.lo ≤ code_of q l.block) × (code_of q l.block < l.hi)) (exact 0 code) [] holds in
      let w = whole refl in
      let e = w.0 in
      let f = w.1 in
      let l = can.is_plan.in_range 1 (let t = h.two in omega arith) in
      (let a = first.0 in let b = first.1 in omega arith, omega arith, omega arith)
  in_range false q whole can holds =
      let P : Literal → Type 0 = λ l. (l.lo ≤ code_of q l.block) × (code_of q l.block < l.hi) in
      let range : Literal = record { block = 1; lo = lo; hi = hi } in
      let first = All-head P (exact 0 code) (range ∷ []) holds in
      let second = All-head P range [] (All-tail P (exact 0 code) (range ∷ []) holds) in
      (let a = first.0 in let b = first.1 in omega arith, second.0, second.1)

  -- a feasible plan of the two blocks has a key above the bar
  above : (q : List ℕ) → IsFeasible c q → (code_of q 0 ≡ code) × (lo ≤ code_of q 1) × (code_of q 1 < hi) → bar < key c q
  above q can (first, from, to) = elim (h.each (code_of q 1) from to) [
    | inl clash ↦ absurd (can.clear 0 1 (let t = h.two in omega arith) (let t = h.two in omega arith) (λ e. omega arith) (subst (λ x. c.Clash 0 x 1 (code_of q 1)) (sym first) clash))
    | inr (more, small) ↦
        let f : ℕ → ℕ = λ b. c.cost b (code_of q b) in
        let sum : total c q ≡ sum_below 2 f = ap (λ n. sum_below n f) h.two in
        let cost : c.cost 0 (code_of q 0) ≡ c.cost 0 code = ap (c.cost 0) first in
        key_above c q (Some (c.cost 0 code + c.cost 1 (code_of q 1))) bar (omega arith) more
  ]

  clear : IsClearUpTo c bar (branch_of code lo hi ∷ [])
  clear zero r last at q can holds =
      let whole : Bool = (lo == 0) && (hi == count c 1) in
      above q can (in_range whole q
      (λ e. let p = and_parts (lo == 0) (hi == count c 1) e in (eqb-true lo 0 p.0, eqb-true hi (count c 1) p.1))
      can (subst (λ (x : Record). Holds (result_of c x) q) (sym (same_Some (branch_of code lo hi) r at)) holds))
  clear (suc i) r last at q can holds = absurd (omega arith)

pub branch_may_be_shared : (yard : PlainYard) (bar code lo hi : ℕ) → AreShut (choices yard) bar code lo hi
    → IsShareable yard record { bar = bar; log = branch_of code lo hi ∷ [] }
branch_may_be_shared yard bar code lo hi h = record { steps = steps (choices yard) bar code lo hi h; clear = clear (choices yard) bar code lo hi h }

pub one_literal : (code : ℕ) → AreLiterals (exact 0 code ∷ [])
one_literal code = record { ascending = one_ascends (exact 0 code); some = All-cons (λ (l : Literal). l.lo < l.hi) (exact 0 code) [] (omega arith) (All-nil (λ (l : Literal). l.lo < l.hi)) }

-- a plan of two blocks
pub pair_is_plan : (yard : PlainYard) (a b : ℕ) → length yard.blocks ≡ 2 → a < length (placements yard 0) → b < length (placements yard 1) → IsPlan (choices yard) (a ∷ b ∷ [])
pair_is_plan yard a b two first second = record { one_each = sym (blocks-length yard ∙ two); in_range = each }
  where
    each : (k : ℕ) → k < blocks (choices yard) → code_of (a ∷ b ∷ []) k < count (choices yard) k
    each zero l = subst (λ n. a < n) (sym (count-length yard 0 (omega arith))) first
    each (suc zero) l = subst (λ n. b < n) (sym (count-length yard 1 (omega arith))) second
    each (suc (suc k)) l = let n = blocks-length yard in absurd (omega arith)

-- what is made of such a list is a plan
pub made_pair : {E : Type 0} (yard : PlainYard) (a b : ℕ) (r : Result (List ℕ) E) (p : List ℕ) → length yard.blocks ≡ 2 → a < length (placements yard 0) → b < length (placements yard 1)
    → IfOk r (λ plan. plan ≡ a ∷ b ∷ []) → r ≡ Ok p → IsPlan (choices yard) p
made_pair yard a b r p two first second made is =
    let same : p ≡ a ∷ b ∷ [] = subst (λ r. IfOk r (λ plan. plan ≡ a ∷ b ∷ [])) is made in
    subst (IsPlan (choices yard)) (sym same) (pair_is_plan yard a b two first second)

-- a capsule that is made of such a branch may be shared
pub shared_capsule : {E : Type 0} (yard : PlainYard) (bar code lo hi : ℕ) (log : List Record) (r : Result PlainCapsule E) (capsule : PlainCapsule) → AreShut (choices yard) bar code lo hi
    → log ≡ branch_of code lo hi ∷ [] → IfOk r (λ c. c ≡ record { bar = bar; log = log }) → r ≡ Ok capsule → IsShareable yard capsule
shared_capsule yard bar code lo hi log r capsule shut log_is made is =
    let same : capsule ≡ record { bar = bar; log = log } = subst (λ r. IfOk r (λ c. c ≡ record { bar = bar; log = log })) is made in
    subst (IsShareable yard) (sym (same ∙ ap (λ (l : List Record). record { bar = bar; log = l }) log_is)) (branch_may_be_shared yard bar code lo hi shut)

-- the codes of two blocks, told by the yard
pub are_shut : (yard : PlainYard) (bar code lo hi : ℕ) → length yard.blocks ≡ 2 → code < length (placements yard 0) → lo < hi → hi ≤ length (placements yard 1)
    → ((d : ℕ) → lo ≤ d → d < hi → (choices yard).Clash 0 code 1 d ⊎ ((bar / 2 ^ 32 < own_cost yard 0 code + own_cost yard 1 d) × (own_cost yard 0 code + own_cost yard 1 d < 2 ^ 32)))
    → AreShut (choices yard) bar code lo hi
unfolding choices
are_shut yard bar code lo hi two first some second each = record {
  two = blocks-length yard ∙ two;
  first = subst (λ n. code < n) (sym (count-length yard 0 (omega arith))) first;
  some = some;
  second = subst (λ n. hi ≤ n) (sym (count-length yard 1 (omega arith))) second;
  each = each;
}

-- a capsule whose bar is the key that an offer answered may be posted
pub postable_last : (old new : Sitting) (plan : List ℕ) (yard : PlainYard) (capsule : PlainCapsule) (n : ℕ) → new ≡ with_offer old plan n → capsule.bar ≡ n → IsShareable yard capsule
    → IsPostable yard new.seen capsule
postable_last old new plan yard capsule n is same good = record {
  shareable = good;
  bar = inl (subst (λ (s : Sitting). Contains s.seen capsule.bar) (sym is)
      (subst (λ (b : ℕ). Contains (old.seen ++ n ∷ []) b) (sym same) (Contains-push old.seen n)));
}

-- a capsule whose bar is the greatest u64 may be posted
pub postable_most : (yard : PlainYard) (seen : List ℕ) (capsule : PlainCapsule) → capsule.bar ≡ 2 ^ 64 - 1 → IsShareable yard capsule → IsPostable yard seen capsule
postable_most yard seen capsule most good = record { shareable = good; bar = inr most }

-- what holds of each element holds after a push that went well
pub pushed : {T E : Type 0} (P : List ℕ → Type 0) (old new : List (List ℕ)) (p : List ℕ) (r : Result T E) (x : T) → new ≡ (if is_ok r then old ++ p ∷ [] else old) → r ≡ Ok x → All P old → P p → All P new
pushed {T} {E} P old new p r x items is h good =
    subst (All P) (sym (items ∙ ap (λ (r : Result T E). if is_ok r then old ++ p ∷ [] else old) is)) (All-push P old p h good)
