-- No energy of a box is above the total of a feasible plan in it.
use Rattle.std.proofs.Common.{◌≡◌, ℕ, zero, suc, ◌+◌, ◌-◌, ◌*◌, ◌<◌, ◌≤◌, List, Option, Some, None, ◌⊎◌, refl, sym, ap, ◌∙◌, subst, inl, inr, arith, Bool, true, false}
use Rattle.std.specs.Prelude.{◌&&◌, is_none, nat_le, if◌then◌else◌}
use Rattle.std.specs.Option.{option_map_or}
use Rattle.std.proofs.lemmas.Bool.{cases_lt, and_parts, leb-true, false≢true}
use Rattle.std.proofs.lemmas.Option.{none-some}
use Rattle.common_lists.specs.Each.{sum_below}
use Rattle.plan_rule.specs.declared.literal.Literal.{Literal}
use Rattle.plan_rule.specs.Choices.{Choices, blocks, count}
use Rattle.plan_rule.specs.Plans.{code_of, IsPlan, IsFeasible, total}
use Rattle.plan_rule.specs.Boxes.{Holds, exact_code}
use Rattle.plan_rule.specs.Bounds.{IsLeastOf, IsSumOfLeast, MayTake, IsAtMost, presses, demand, used, IsTight, IsEnergy}
use Rattle.plan_rule.proofs.BoundLaws.{base-at_most, held_code, may_take, sum_of_least-le}

-- what is so of the figures of a yard
pub record IsPacked (c : Choices) : Type 0 where
  -- the cells that the pieces and a feasible plan take in a window are there
  pub fits : (q : List ℕ) (first last : ℕ) → IsFeasible c q
      → c.standing first last + sum_below (blocks c) (λ b. c.taken first last b (code_of q b)) ≤ c.capacity first last
  -- a code of a block that is released in the window takes all its work there, or ends after it
  pub whole_or_late : (b code first last : ℕ) → b < blocks c → code < count c b → first ≤ c.release b → c.due b ≤ last
      → (c.work b ≤ c.taken first last b code) ⊎ ((last + 1 < c.days) × (c.weight b * (last + 1 - c.due b) ≤ c.cost b code))

-- sums are added and compared term by term
sums-le : (n : ℕ) (f g h : ℕ → ℕ) → ((b : ℕ) → b < n → f b + g b ≤ h b) → sum_below n f + sum_below n g ≤ sum_below n h
sums-le zero f g h le = omega arith
sums-le (suc n) f g h le = let a = sums-le n f g h (λ b l. le b (omega arith)) in let b = le n (omega arith) in omega arith

none_of : (o : Option ℕ) → is_none o ≡ true → o ≡ None
none_of None e = refl
none_of (Some x) e = absurd (false≢true e)

-- what it is to press
press_parts : (c : Choices) (box : List Literal) (first last b : ℕ) → presses c box first last b ≡ true
    → (exact_code box b ≡ None) × (first ≤ c.release b) × (c.due b ≤ last)
press_parts c box first last b e =
    let two = and_parts (is_none (exact_code box b) && nat_le first (c.release b)) (nat_le (c.due b) last) e in
    let one = and_parts (is_none (exact_code box b)) (nat_le first (c.release b)) two.0 in
    (none_of (exact_code box b) one.0, leb-true _ _ one.1, leb-true _ _ two.1)

-- each block that presses has its work in the window, or one of them is late
search_late : (c : Choices) (box : List Literal) (first last : ℕ) (q : List ℕ) → IsPacked c → IsPlan c q → (n : ℕ) → n ≤ blocks c
    → ((b : ℕ) → b < n → presses c box first last b ≡ true → c.work b ≤ c.taken first last b (code_of q b))
    ⊎ ((b : ℕ) × (b < blocks c) × (presses c box first last b ≡ true) × (last + 1 < c.days) × (c.weight b * (last + 1 - c.due b) ≤ c.cost b (code_of q b)))
search_late c box first last q packed p zero l = inl (λ b m. absurd (omega arith))
search_late c box first last q packed p (suc n) l = elim (search_late c box first last q packed p n (omega arith)) [
  | inr late ↦ inr late
  | inl whole ↦ go (presses c box first last n) refl whole
]
  where
    go : (t : Bool) → presses c box first last n ≡ t
        → ((b : ℕ) → b < n → presses c box first last b ≡ true → c.work b ≤ c.taken first last b (code_of q b))
        → ((b : ℕ) → b < suc n → presses c box first last b ≡ true → c.work b ≤ c.taken first last b (code_of q b))
        ⊎ ((b : ℕ) × (b < blocks c) × (presses c box first last b ≡ true) × (last + 1 < c.days) × (c.weight b * (last + 1 - c.due b) ≤ c.cost b (code_of q b)))
    go false e whole = inl (λ b m t. elim (cases_lt b n) [
      | inl below ↦ whole b below t
      | inr same ↦ let f : b ≡ n = omega arith in absurd (false≢true (sym e ∙ ap (presses c box first last) (sym f) ∙ t))
    ])
    go true e whole =
        let (free, a, d) = press_parts c box first last n e in
        elim (packed.whole_or_late n (code_of q n) first last (omega arith) (p.in_range n (omega arith)) a d) [
          | inr late ↦ inr (n, omega arith, e, late.0, late.1)
          | inl here ↦ inl (λ b m t. elim (cases_lt b n) [
            | inl below ↦ whole b below t
            | inr same ↦ subst (λ b. c.work b ≤ c.taken first last b (code_of q b)) (let f : n ≡ b = omega arith in f) here
          ])
        ]

one_block : (o : Option ℕ) (t : Bool) (w whole : ℕ) (taken : ℕ → ℕ) → (t ≡ true → o ≡ None) → (t ≡ true → w ≤ whole)
    → ((d : ℕ) → o ≡ Some d → taken d ≤ whole) → (if t then w else 0) + option_map_or taken o 0 ≤ whole
one_block None true w whole taken free a b = let h = a refl in omega arith
one_block None false w whole taken free a b = omega arith
one_block (Some d) true w whole taken free a b = absurd (none-some d (sym (free refl)))
one_block (Some d) false w whole taken free a b = let h = b d refl in omega arith

-- where the work is in the window, the window holds it
calm : (c : Choices) (box : List Literal) (first last : ℕ) (q : List ℕ) → IsPacked c → IsFeasible c q → Holds box q
    → ((b : ℕ) → b < blocks c → presses c box first last b ≡ true → c.work b ≤ c.taken first last b (code_of q b))
    → demand c box first last + used c box first last ≤ c.capacity first last
calm c box first last q packed p h whole =
    let le = sums-le (blocks c) (λ b. if presses c box first last b then c.work b else 0)
    (λ b. option_map_or (c.taken first last b) (exact_code box b) 0) (λ b. c.taken first last b (code_of q b))
    (λ b l. one_block (exact_code box b) (presses c box first last b) (c.work b) (c.taken first last b (code_of q b)) (c.taken first last b)
    (λ t. (press_parts c box first last b t).0) (whole b l)
    (λ d e. let f = ap (c.taken first last b) (held_code box q b d h e) in omega arith)) in
    let fits = packed.fits q first last p in omega arith

-- the least own cost of a block that is not fixed
free_least : (c : Choices) (box : List Literal) (b m : ℕ) → exact_code box b ≡ None
    → IsLeastOf (MayTake c box b) (c.cost b) (Some m) → IsLeastOf (λ code. code < count c b) (c.cost b) (Some m)
free_least c box b m free ((x, may, e), least) =
    ((x, may.0, e), λ y l. least y (l, λ d k. absurd (none-some d (sym free ∙ k))))

-- a plan that has a dear code for a block costs so much more than the base
dear : (c : Choices) (box : List Literal) (q : List ℕ) (b : ℕ) (n : ℕ) (s : ℕ) → IsPlan c q → Holds box q → exact_code box b ≡ None
    → b < n → n ≤ blocks c → IsSumOfLeast (MayTake c box) c.cost n s
    → (m : ℕ) × IsLeastOf (λ code. code < count c b) (c.cost b) (Some m) × (s + c.cost b (code_of q b) ≤ sum_below n (λ b. c.cost b (code_of q b)) + m)
dear c box q b zero s p h free l k is = absurd (omega arith)
dear c box q b (suc n) s p h free l k (x, y, hs, ht, sum) =
    let may = λ (b : ℕ) (l : b < blocks c). may_take c box q p h b l in
    elim (cases_lt b n) [
      | inl below ↦
          let (m, least, le) = dear c box q b n x p h free below (omega arith) hs in
          let one = ht.1 (code_of q n) (may n (omega arith)) in
          (m, least, omega arith)
      | inr last ↦
          let same : n ≡ b = omega arith in
          let ht = subst (λ n. IsLeastOf (MayTake c box n) (c.cost n) (Some y)) same ht in
          let below : x ≤ sum_below n (λ b. c.cost b (code_of q b)) =
          sum_of_least-le (MayTake c box) c.cost n x (code_of q) hs (λ b l. may b (omega arith)) in
          let cost = ap (λ b. c.cost b (code_of q b)) same in
          (y, free_least c box b y free ht, omega arith)
    ]

-- in a tight window a block that presses is late
late_in : (c : Choices) (box : List Literal) (first last : ℕ) (q : List ℕ) → IsPacked c → IsFeasible c q → Holds box q → IsTight c box first last
    → (b : ℕ) × (b < blocks c) × (presses c box first last b ≡ true) × (last + 1 < c.days) × (c.weight b * (last + 1 - c.due b) ≤ c.cost b (code_of q b))
late_in c box first last q packed p h tight = elim (search_late c box first last q packed p.is_plan (blocks c) (omega arith)) [
  | inl whole ↦ let fits = calm c box first last q packed p h whole in let above = tight.above in absurd (omega arith)
  | inr late ↦ late
]

-- the energy of a box is at most the total of a feasible plan in it
pub energy-at_most : (c : Choices) (first last : ℕ) (box : List Literal) (r : Option ℕ) (q : List ℕ) → IsPacked c → IsEnergy c first last box r
    → IsFeasible c q → Holds box q → IsAtMost r (total c q)
energy-at_most c first last box None q packed (inl base) p h = base-at_most c box q None p.is_plan h base
energy-at_most c first last box None q packed (inr (tight, day)) p h =
    let (b, l, e, early, dear) = late_in c box first last q packed p h tight in absurd (omega arith)
energy-at_most c first last box (Some r) q packed (k, base, cases) p h =
    let low : k ≤ total c q = base-at_most c box q (Some k) p.is_plan h base in
    elim cases [
      | inl quiet ↦ let e = quiet.1 in omega arith
      | inr raised ↦
          let (tight, day, (v, raise, is)) = raised in
          let (b, l, e, early, late) = late_in c box first last q packed p h tight in
          let (m, least, le) = dear c box q b (blocks c) k p.is_plan h (press_parts c box first last b e).0 l (omega arith) base in
          let most = raise.1 b (c.weight b * (last + 1 - c.due b) - m) l e (m, least, refl) in
          omega arith
    ]
