-- A side has a fit, if it can be told which codes clash.
use Rattle.std.proofs.Common.{◌≡◌, ℕ, zero, suc, ◌+◌, ◌<◌, ◌≤◌, List, Option, Some, None, ◌⊎◌, refl, sym, ◌∙◌, subst, inl, inr, arith}
use Rattle.std.proofs.lemmas.Bool.{cases_lt, cases_eq}
use Rattle.std.proofs.lemmas.Option.{none-some, same_Some}
use Rattle.common_lists.proofs.NumberLaws.{all_or_not}
use Rattle.plan_rule.specs.declared.literal.Literal.{Literal}
use Rattle.plan_rule.specs.Choices.{Choices, MeetsSome, blocks, count}
use Rattle.plan_rule.specs.Boxes.{HasExact, exact_code, IsBox}
use Rattle.plan_rule.specs.Bounds.{IsLeastOf, IsBound, IsFit, MayFit, MayTake}
use Rattle.plan_rule.proofs.BoundLaws.{held_block}
use Rattle.plan_rule.proofs.ExistLaws.{IsDecided}
use Rattle.log_checker.specs.Leasts.{Below}

-- no code to which the side fixes this block clashes with the code
abbrev pub IsClearOf : Choices → List Literal → ℕ → ℕ → ℕ → Type 0
IsClearOf c side b code a = (d : ℕ) → HasExact side a d → c.Clash a d b code → ⊥

clear_told : (c : Choices) (side : List Literal) (b code a : ℕ) (o : Option ℕ) → IsDecided c → exact_code side a ≡ o
    → IsClearOf c side b code a ⊎ (IsClearOf c side b code a → ⊥)
clear_told c side b code a None told e = inl (λ d fix clash. none-some d (sym e ∙ fix))
clear_told c side b code a (Some d) told e = elim (told.clash a d b code) [
  | inl clash ↦ inr (λ clear. clear d e clash)
  | inr apart ↦ inl (λ f fix clash. apart (subst (λ f. c.Clash a f b code) (same_Some f d (sym fix ∙ e)) clash))
]

-- the code fits where the block is not exact
abbrev FitsFree : Choices → List Literal → ℕ → ℕ → Type 0
FitsFree c side b code = exact_code side b ≡ None → (a d : ℕ) → HasExact side a d → c.Clash a d b code → ⊥

free_told : (c : Choices) (side : List Literal) (b code : ℕ) (o : Option ℕ) → IsDecided c → IsBox c side → exact_code side b ≡ o
    → FitsFree c side b code ⊎ (FitsFree c side b code → ⊥)
free_told c side b code (Some d) told box e = inl (λ free. absurd (none-some d (sym free ∙ e)))
free_told c side b code None told box e = elim (all_or_not (IsClearOf c side b code) (blocks c) (λ a. clear_told c side b code a (exact_code side a) told refl)) [
  | inl clear ↦ inl (λ free a d fix. clear a (held_block c side a d box fix) d fix)
  | inr broken ↦ inr (λ fits. broken (λ a l. fits e a))
]

take_told : (c : Choices) (side : List Literal) (b code : ℕ) (o : Option ℕ) → exact_code side b ≡ o → MayTake c side b code ⊎ (MayTake c side b code → ⊥)
take_told c side b code o e = elim (cases_lt code (count c b)) [
  | inr past ↦ inr (λ may. let l = may.0 in absurd (omega arith))
  | inl within ↦ only o e within
]
  where
    only : (o : Option ℕ) → exact_code side b ≡ o → code < count c b → MayTake c side b code ⊎ (MayTake c side b code → ⊥)
    only None e within = inl (within, λ d fix. absurd (none-some d (sym e ∙ fix)))
    only (Some d) e within = elim (cases_eq code d) [
      | inl same ↦ inl (within, λ f fix. same ∙ same_Some d f (sym e ∙ fix))
      | inr differ ↦ inr (λ may. differ (may.1 d e))
    ]

-- the code meets no piece where the block is not exact
abbrev MissesFree : Choices → List Literal → ℕ → ℕ → Type 0
MissesFree c side b code = exact_code side b ≡ None → MeetsSome c b code → ⊥

misses_told : (c : Choices) (side : List Literal) (b code : ℕ) (o : Option ℕ) → IsDecided c → exact_code side b ≡ o
    → MissesFree c side b code ⊎ (MissesFree c side b code → ⊥)
misses_told c side b code (Some d) told e = inl (λ free. absurd (none-some d (sym free ∙ e)))
misses_told c side b code None told e = elim (told.meets b code) [
  | inl met ↦ inr (λ h. h e met)
  | inr none ↦ inl (λ free. none)
]

-- it can be told which codes fit
fit_told : (c : Choices) (side : List Literal) (b code : ℕ) → IsDecided c → IsBox c side → MayFit c side b code ⊎ (MayFit c side b code → ⊥)
fit_told c side b code told box = elim (take_told c side b code (exact_code side b) refl) [
  | inr broken ↦ inr (λ may. broken may.0)
  | inl take ↦ elim (free_told c side b code (exact_code side b) told box refl) [
    | inr broken ↦ inr (λ may. broken may.1)
    | inl free ↦ elim (misses_told c side b code (exact_code side b) told refl) [
      | inl misses ↦ inl (take, free, misses)
      | inr broken ↦ inr (λ may. broken may.2)
    ]
  ]
]

-- one number more
least_more : (P : ℕ → Type 0) (value : ℕ → ℕ) (n : ℕ) (o : Option ℕ) → IsLeastOf (Below P n) value o → P n ⊎ (P n → ⊥) → (o : Option ℕ) × IsLeastOf (Below P (suc n)) value o
least_more P value n None h (inr not_here) = (
  None,
  λ x w. elim (cases_lt x n) [
    | inl less ↦ h x (less, w.1)
    | inr same ↦ let l = w.0 in not_here (subst P (let e : x ≡ n = omega arith in e) w.1)
  ],
)
least_more P value n None h (inl here) = (
  Some (value n),
  (
    (n, (omega arith, here), refl),
    λ x w. elim (cases_lt x n) [
      | inl less ↦ absurd (h x (less, w.1))
      | inr same ↦ let l = w.0 in subst (λ x. value n ≤ value x) (let e : n ≡ x = omega arith in e) (omega arith)
    ],
  ),
)
least_more P value n (Some m) h (inr not_here) = (
  Some m,
  (
    (let (x, w, is) = h.0 in let l = w.0 in (x, (omega arith, w.1), is)),
    λ x w. elim (cases_lt x n) [
      | inl less ↦ h.1 x (less, w.1)
      | inr same ↦ let l = w.0 in absurd (not_here (subst P (let e : x ≡ n = omega arith in e) w.1))
    ],
  ),
)
least_more P value n (Some m) h (inl here) = elim (cases_lt (value n) m) [
  | inl better ↦ (
    Some (value n),
    (
      (n, (omega arith, here), refl),
      λ x w. elim (cases_lt x n) [
        | inl less ↦ let a = h.1 x (less, w.1) in omega arith
        | inr same ↦ let l = w.0 in subst (λ x. value n ≤ value x) (let e : n ≡ x = omega arith in e) (omega arith)
      ],
    ),
  )
  | inr worse ↦ (
    Some m,
    (
      (let (x, w, is) = h.0 in let l = w.0 in (x, (omega arith, w.1), is)),
      λ x w. elim (cases_lt x n) [
        | inl less ↦ h.1 x (less, w.1)
        | inr same ↦ let l = w.0 in subst (λ x. m ≤ value x) (let e : n ≡ x = omega arith in e) worse
      ],
    ),
  )
]

-- of the numbers below n with a property that can be told there is a least value, or there are none
least_exists : (P : ℕ → Type 0) (value : ℕ → ℕ) (n : ℕ) → ((x : ℕ) → P x ⊎ (P x → ⊥)) → (o : Option ℕ) × IsLeastOf (Below P n) value o
least_exists P value zero told = (None, λ x w. let l = w.0 in absurd (omega arith))
least_exists P value (suc n) told = let (o, h) = least_exists P value n told in least_more P value n o h (told n)

-- all of them where they are below n
least_whole : (P : ℕ → Type 0) (value : ℕ → ℕ) (n : ℕ) (o : Option ℕ) → ((x : ℕ) → P x → x < n) → IsLeastOf (Below P n) value o → IsLeastOf P value o
least_whole P value n None low h = λ x p. h x (low x p, p)
least_whole P value n (Some m) low h = ((let (x, w, is) = h.0 in (x, w.1, is)), λ x p. h.1 x (low x p, p))

-- one block more
bound_more : (May : ℕ → ℕ → Type 0) (cost : ℕ → ℕ → ℕ) (n : ℕ) (k o : Option ℕ) → IsBound May cost n k → IsLeastOf (May n) (cost n) o → (k : Option ℕ) × IsBound May cost (suc n) k
bound_more May cost n None o (b, l, none) h = (None, (b, omega arith, none))
bound_more May cost n (Some s) None hs none = (None, (n, omega arith, none))
bound_more May cost n (Some s) (Some m) hs hm = (Some (s + m), (s, m, hs, hm, refl))

-- where each block has a least, or no code, there is a bound
bound_exists : (May : ℕ → ℕ → Type 0) (cost : ℕ → ℕ → ℕ) (n : ℕ) → ((b : ℕ) → (o : Option ℕ) × IsLeastOf (May b) (cost b) o) → (k : Option ℕ) × IsBound May cost n k
bound_exists May cost zero each = (Some 0, refl)
bound_exists May cost (suc n) each =
    let (k, h) = bound_exists May cost n each in let (o, l) = each n in bound_more May cost n k o h l

-- a side has a fit
pub fit_exists : (c : Choices) (side : List Literal) → IsDecided c → IsBox c side → (k : Option ℕ) × IsFit c side k
fit_exists c side told box = bound_exists (MayFit c side) c.cost (blocks c) (λ b.
    let (o, h) = least_exists (MayFit c side b) (c.cost b) (count c b) (λ x. fit_told c side b x told box) in
    (o, least_whole (MayFit c side b) (c.cost b) (count c b) o (λ x may. may.0.0) h))
