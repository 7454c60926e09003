-- No bound of a box is above the total of a feasible plan in it, and a bound that refutes a box does so rightly.
use Rattle.std.proofs.lemmas.Bool.{cases_order, cases_lt, eqb-true}
use Rattle.std.proofs.Common.{◌≡◌, ◌≢◌, ℕ, zero, suc, ◌+◌, ◌<◌, ◌≤◌, List, Option, Some, None, refl, sym, ap, ◌∙◌, subst, inl, inr, arith}
use Rattle.std.specs.List.{All, Any}
use Rattle.std.proofs.lemmas.List.Elements.{All-contains, All-head, All-tail}
use Rattle.std.proofs.lemmas.Option.{none-some, same_Some}
use Rattle.std.specs.Prelude.{◌==◌, if◌then◌else◌, Bool, true, false, [], ◌∷◌}
use Rattle.std.proofs.lemmas.List.{get_or_past}
use Rattle.plan_rule.specs.declared.literal.Literal.{Literal}
use Rattle.plan_rule.specs.Choices.{Choices, blocks}
use Rattle.plan_rule.specs.Plans.{code_of, IsPlan, IsFeasible, total, IsLexLess, IsAnswer, IsNotBefore}
use Rattle.common_lists.specs.Each.{sum_below}
use Rattle.plan_rule.specs.Boxes.{Holds, HasExact, exact_code, exact, IsBox, IsLiteral}
use Rattle.plan_rule.specs.Bounds.{IsSumOfLeast, IsBound, MayTake, MayFit, IsBase, IsFit, IsBehind, Refutes, IsAtMost}

-- the sum of the least costs is at most the cost of any choice of codes
pub sum_of_least-le : (May : ℕ → ℕ → Type 0) (cost : ℕ → ℕ → ℕ) (n k : ℕ) (f : ℕ → ℕ)
    → IsSumOfLeast May cost n k → ((b : ℕ) → b < n → May b (f b)) → k ≤ sum_below n (λ b. cost b (f b))
sum_of_least-le May cost zero k f h may = omega arith
sum_of_least-le May cost (suc n) k f (s, m, hs, hm, e) may =
    let one = sum_of_least-le May cost n s f hs (λ b l. may b (omega arith)) in
    let two = hm.1 (f n) (may n (omega arith)) in
    omega arith

-- a bound is at most the cost of any choice of codes
pub bound-at_most : (May : ℕ → ℕ → Type 0) (cost : ℕ → ℕ → ℕ) (n : ℕ) (r : Option ℕ) (f : ℕ → ℕ)
    → IsBound May cost n r → ((b : ℕ) → b < n → May b (f b)) → IsAtMost r (sum_below n (λ b. cost b (f b)))
bound-at_most May cost n None f (b, l, none) may = none (f b) (may b l)
bound-at_most May cost n (Some k) f h may = sum_of_least-le May cost n k f h may

-- what holds of each literal of a box holds of the literal of a fixed code
pub exact-all : (P : Literal → Type 0) (box : List Literal) (b d : ℕ) → All P box → HasExact box b d → P (exact b d)
exact-all P [] b d h e = absurd (none-some d e)
exact-all P (l ∷ box) b d h e = exact-go P l box b d (l.block == b) (l.hi == l.lo + 1) (All-head P l box h) (eqb-true l.block b) (eqb-true l.hi (l.lo + 1))
    (λ f. exact-all P box b d (All-tail P l box h) f) e
  where
    exact-go : (P : Literal → Type 0) (l : Literal) (box : List Literal) (b d : ℕ) (at one : Bool) → P l → (at ≡ true → l.block ≡ b) → (one ≡ true → l.hi ≡ l.lo + 1)
        → (exact_code box b ≡ Some d → P (exact b d)) → (if at then (if one then Some l.lo else None) else exact_code box b) ≡ Some d → P (exact b d)
    exact-go P l box b d true true p is one rest e =
        let f : l.lo ≡ d = same_Some l.lo d e in
        let g : l.hi ≡ d + 1 = one refl ∙ ap (λ n. n + 1) f in
        subst (λ b. P (record { block = b; lo = d; hi = d + 1 })) (is refl)
        (subst (λ n. P (record { block = l.block; lo = n; hi = d + 1 })) f
        (subst (λ n. P (record { block = l.block; lo = l.lo; hi = n })) g p))
    exact-go P l box b d true false p is one rest e = absurd (none-some d e)
    exact-go P l box b d false one' p is one rest e = rest e

-- a plan in a box has the code that the box fixes
pub held_code : (box : List Literal) (q : List ℕ) (b d : ℕ) → Holds box q → HasExact box b d → code_of q b ≡ d
held_code box q b d h k =
    let two : (d ≤ code_of q b) × (code_of q b < d + 1) =
    exact-all (λ l. (l.lo ≤ code_of q l.block) × (code_of q l.block < l.hi)) box b d h k in
    omega (arith, two)

pub may_take : (c : Choices) (box : List Literal) (q : List ℕ) → IsPlan c q → Holds box q → (b : ℕ) → b < blocks c → MayTake c box b (code_of q b)
may_take c box q p h b l = (p.in_range b l, λ d k. held_code box q b d h k)

-- the blocks of a box exist
pub held_block : (c : Choices) (box : List Literal) (b d : ℕ) → IsBox c box → HasExact box b d → b < blocks c
held_block c box b d h k = let l : IsLiteral c (exact b d) = exact-all (IsLiteral c) box b d h.each k in l.block

may_fit : (c : Choices) (box : List Literal) (q : List ℕ) → IsBox c box → IsFeasible c q → Holds box q
    → (b : ℕ) → b < blocks c → MayFit c box b (code_of q b)
may_fit c box q w p h b l = (
  may_take c box q p.is_plan h b l,
  λ free a d k clash.
      let other : a ≢ b = λ e. none-some d (sym free ∙ subst (λ a. HasExact box a d) e k) in
      p.clear a b (held_block c box a d w k) l other
      (subst (λ d. c.Clash a d b (code_of q b)) (sym (held_code box q a d h k)) clash),
  λ free meets. p.unmet b l meets,
)

-- the base of a box is at most the total of a plan in it
pub base-at_most : (c : Choices) (box : List Literal) (q : List ℕ) (r : Option ℕ) → IsPlan c q → Holds box q → IsBase c box r → IsAtMost r (total c q)
base-at_most c box q r p h is = bound-at_most (MayTake c box) c.cost (blocks c) r (code_of q) is (may_take c box q p h)

-- the fit of a box is at most the total of a feasible plan in it
pub fit-at_most : (c : Choices) (box : List Literal) (q : List ℕ) (r : Option ℕ) → IsBox c box → IsFeasible c q → Holds box q → IsFit c box r → IsAtMost r (total c q)
fit-at_most c box q r w p h is = bound-at_most (MayFit c box) c.cost (blocks c) r (code_of q) is (may_fit c box q w p h)

-- of two lists at most one is lexicographically less than the other
pub IsLexLess-asym : (p q : List ℕ) → IsLexLess p q → IsLexLess q p → ⊥
IsLexLess-asym p q h k = elim (cases_order h.place k.place) [
  | inl e ↦
      let l : code_of p h.place < code_of q h.place = h.less in
      let m : code_of q h.place < code_of p h.place = subst (λ x. code_of q x < code_of p x) (sym e) k.less in
      absurd (omega arith)
  | inr o ↦ elim o [
    | inl l ↦ let e = k.same h.place l in let m = h.less in absurd (omega arith)
    | inr l ↦ let e = h.same k.place l in let m = k.less in absurd (omega arith)
  ]
]

-- a literal of a box on a block, above a code, keeps the plan's code above it
pub above_code : (box : List Literal) (q : List ℕ) (j d : ℕ) → Holds box q → Any (λ l. (l.block ≡ j) × (d < l.lo)) box → d < code_of q j
above_code box q j d h (k, l, within, is, (at, above)) =
    let two : (l.lo ≤ code_of q l.block) × (code_of q l.block < l.hi) =
    All-contains (λ l. (l.lo ≤ code_of q l.block) × (code_of q l.block < l.hi)) box l h (k, within, is) in
    let e : code_of q l.block ≡ code_of q j = ap (code_of q) at in
    omega (arith, two.0)

-- past its end a plan has the code 0
pub code_past : (c : Choices) (p : List ℕ) (b : ℕ) → IsPlan c p → blocks c ≤ b → code_of p b ≡ 0
code_past c p b h l = get_or_past p b 0 (let e = h.one_each in omega arith)

-- a plan in a box that is behind p is not lexicographically before p
pub behind_not_less : (c : Choices) (box : List Literal) (p q : List ℕ) → IsPlan c p → Holds box q → IsBehind c box p → IsLexLess q p → ⊥
behind_not_less c box p q is h w less = elim w [
  | inl one ↦
      let after : IsLexLess p q = record {
        place = one.0;
        same = λ b l. sym (held_code box q b (code_of p b) h (one.2 b l));
        less = above_code box q one.0 (code_of p one.0) h one.3;
      } in
      IsLexLess-asym p q after less
  | inr all ↦ elim (cases_lt less.place (blocks c)) [
    | inl l ↦ let e = held_code box q less.place (code_of p less.place) h (all less.place l) in let m = less.less in absurd (omega arith)
    | inr l ↦ let e = code_past c p less.place is l in let m = less.less in absurd (omega arith)
  ]
]

-- where a bound refutes a box, no feasible plan in it is before the answer
pub refuted : (c : Choices) (t : Option (List ℕ)) (box : List Literal) (q : List ℕ) (r : Option ℕ)
    → IsAnswer c t → IsPlan c q → Holds box q → IsAtMost r (total c q) → Refutes c t box r → IsNotBefore c q t
refuted c t box q None a p h m ref = absurd m
refuted c None box q (Some k) a p h m ref = absurd ref
refuted c (Some p) box q (Some k) a pq h m ref = λ before. elim ref [
  | inl l ↦ elim before [ inl x ↦ absurd (omega arith) | inr x ↦ let e = x.0 in absurd (omega arith) ]
  | inr e ↦ elim before [ inl x ↦ let f = e.0 in absurd (omega arith) | inr x ↦ behind_not_less c box p q a.is_plan h e.1 x.1 ]
]
