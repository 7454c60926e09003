-- What a box holds with a literal more, and what a box that covers another holds.
use Rattle.std.proofs.Common.{◌≡◌, ◌≢◌, ℕ, ◌<◌, ◌≤◌, List, [], ◌∷◌, ◌++◌, Bool, true, false, cond, ◌⊎◌, ap, inl, inr, arith}
use Rattle.std.specs.Prelude.{nat_lt}
use Rattle.std.specs.List.{All, Any, filter}
use Rattle.std.proofs.lemmas.List.Elements.{All-contains, All-filter, All-append, All-cons, All-head, All-tail, All-nil}
use Rattle.std.proofs.lemmas.Bool.{cases_order, lt-ltb, false≢true}
use Rattle.plan_rule.specs.declared.literal.Literal.{Literal}
use Rattle.plan_rule.specs.Choices.{Choices, blocks}
use Rattle.plan_rule.specs.Plans.{code_of, IsPlan}
use Rattle.plan_rule.specs.Boxes.{IsWhole, Holds, LeavesFree, Covers, with_literal}

-- the literal's range has the plan's code of its block
abbrev pub HoldsCode : List ℕ → Literal → Type 0
HoldsCode q l = (l.lo ≤ code_of q l.block) × (code_of q l.block < l.hi)

-- a box with a literal more holds what the box and the literal hold
pub held_with : (box : List Literal) (l : Literal) (q : List ℕ) → Holds box q → HoldsCode q l → Holds (with_literal box l) q
held_with box l q h k =
    All-append (HoldsCode q) (filter (λ m. nat_lt m.block l.block) box) (l ∷ filter (λ m. nat_lt l.block m.block) box)
    (All-filter (λ m. nat_lt m.block l.block) (HoldsCode q) box h)
    (All-cons (HoldsCode q) l (filter (λ m. nat_lt l.block m.block) box) k (All-filter (λ m. nat_lt l.block m.block) (HoldsCode q) box h))

-- what holds of the first part of a list, and of the second
pub All-front : {X : Type 0} (P : X → Type 0) (xs ys : List X) → All P (xs ++ ys) → All P xs
All-front P [] ys h = All-nil P
All-front P (x ∷ xs) ys h = All-cons P x xs (All-head P x (xs ++ ys) h) (All-front P xs ys (All-tail P x (xs ++ ys) h))

pub All-back : {X : Type 0} (P : X → Type 0) (xs ys : List X) → All P (xs ++ ys) → All P ys
All-back P [] ys h = h
All-back P (x ∷ xs) ys h = All-back P xs ys (All-tail P x (xs ++ ys) h)

kept_rest : {X : Type 0} (P : X → Type 0) (b : Bool) (x : X) (xs : List X) → All P (cond b (x ∷ xs) xs) → All P xs
kept_rest P true x xs h = All-tail P x xs h
kept_rest P false x xs h = h

kept_first : {X : Type 0} (P : X → Type 0) (b : Bool) (x : X) (xs : List X) → b ≡ true → All P (cond b (x ∷ xs) xs) → P x
kept_first P true x xs e h = All-head P x xs h
kept_first P false x xs e h = absurd (false≢true e)

-- what holds of those that pass one of two tests holds of all, where each passes one
All-two_filters : {X : Type 0} (P : X → Type 0) (f g : X → Bool) (xs : List X)
    → All (λ x. (f x ≡ true) ⊎ (g x ≡ true)) xs → All P (filter f xs) → All P (filter g xs) → All P xs
All-two_filters P f g [] one h k = All-nil P
All-two_filters P f g (x ∷ xs) one h k =
    let rest = All-two_filters P f g xs (All-tail (λ x. (f x ≡ true) ⊎ (g x ≡ true)) x xs one)
    (kept_rest P (f x) x (filter f xs) h) (kept_rest P (g x) x (filter g xs) k) in
    let first : P x = elim (All-head (λ x. (f x ≡ true) ⊎ (g x ≡ true)) x xs one) [
      | inl e ↦ kept_first P (f x) x (filter f xs) e h
      | inr e ↦ kept_first P (g x) x (filter g xs) e k
    ] in
    All-cons P x xs first rest

-- two different numbers are below one another
apart_tests : (a b : ℕ) → a ≢ b → (nat_lt a b ≡ true) ⊎ (nat_lt b a ≡ true)
apart_tests a b ne = elim (cases_order a b) [
  | inl e ↦ absurd (ne e)
  | inr o ↦ elim o [ inl l ↦ inl (lt-ltb a b l) | inr l ↦ inr (lt-ltb b a l) ]
]

-- a box holds what it holds with a literal more on a block that it leaves free
pub held_without : (box : List Literal) (l : Literal) (q : List ℕ) → LeavesFree box l.block → Holds (with_literal box l) q → Holds box q × HoldsCode q l
held_without box l q free h =
    let front = All-front (HoldsCode q) (filter (λ m. nat_lt m.block l.block) box) (l ∷ filter (λ m. nat_lt l.block m.block) box) h in
    let back = All-back (HoldsCode q) (filter (λ m. nat_lt m.block l.block) box) (l ∷ filter (λ m. nat_lt l.block m.block) box) h in (
      All-two_filters (HoldsCode q) (λ m. nat_lt m.block l.block) (λ m. nat_lt l.block m.block) box
          (λ k d w. apart_tests _ _ (free k d w)) front (All-tail (HoldsCode q) l (filter (λ m. nat_lt l.block m.block) box) back),
      All-head (HoldsCode q) l (filter (λ m. nat_lt l.block m.block) box) back,
    )

whole_holds : (c : Choices) (a : Literal) (q : List ℕ) → a.block < blocks c → IsPlan c q → IsWhole c a → HoldsCode q a
whole_holds c a q exist is w = let l = is.in_range a.block exist in (let e = w.0 in omega arith, let e = w.1 in omega arith)

covered_holds : (a : Literal) (inner : List Literal) (q : List ℕ) → Holds inner q
    → Any (λ b. (b.block ≡ a.block) × (a.lo ≤ b.lo) × (b.hi ≤ a.hi)) inner → HoldsCode q a
covered_holds a inner q h (k, b, within, is, (at, lo, hi)) =
    let two : HoldsCode q b = All-contains (HoldsCode q) inner b h (k, within, is) in
    let e : code_of q b.block ≡ code_of q a.block = ap (code_of q) at in
    (let x = two.0 in omega arith, let x = two.1 in omega arith)

-- a box that covers another holds the plans that the other holds
pub held_covered : (c : Choices) (outer inner : List Literal) (q : List ℕ)
    → All (λ l. l.block < blocks c) outer → IsPlan c q → Covers c outer inner → Holds inner q → Holds outer q
held_covered c outer inner q exist is cover h k d l = elim (cover k d l) [
  | inl w ↦ whole_holds c _ q (exist k d l) is w
  | inr some ↦ covered_holds _ inner q h some
]
