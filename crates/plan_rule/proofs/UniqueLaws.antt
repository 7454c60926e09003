-- A box has one base, one fit and one energy for a window.
use Rattle.std.proofs.Common.{◌≡◌, ℕ, zero, suc, ◌<◌, List, Option, Some, None, refl, sym, ap, ◌∙◌, subst, inl, inr, arith}
use Rattle.std.proofs.lemmas.Bool.{true≢false, cases_lt}
use Rattle.plan_rule.specs.declared.literal.Literal.{Literal}
use Rattle.plan_rule.specs.Choices.{Choices, blocks}
use Rattle.plan_rule.specs.Bounds.{IsLeastOf, IsSumOfLeast, IsBound, MayTake, IsCalm, IsTight, IsLeastRaise, IsEnergy}

pub least_unique : (P : ℕ → Type 0) (value : ℕ → ℕ) (m n : ℕ) → IsLeastOf P value (Some m) → IsLeastOf P value (Some n) → m ≡ n
least_unique P value m n ((x, px, ex), lx) ((y, py, ey), ly) = let a = lx y py in let b = ly x px in omega arith

sum_unique : (May : ℕ → ℕ → Type 0) (cost : ℕ → ℕ → ℕ) (n j k : ℕ) → IsSumOfLeast May cost n j → IsSumOfLeast May cost n k → j ≡ k
sum_unique May cost zero j k h i = omega arith
sum_unique May cost (suc n) j k (s, m, hs, hm, e) (t, l, ht, hl, f) =
    let a = sum_unique May cost n s t hs ht in let b = least_unique (May n) (cost n) m l hm hl in omega arith

never_or_sum : (May : ℕ → ℕ → Type 0) (cost : ℕ → ℕ → ℕ) (n k b : ℕ) → b < n → ((code : ℕ) → May b code → ⊥) → IsSumOfLeast May cost n k → ⊥
never_or_sum May cost zero k b l none h = absurd (omega arith)
never_or_sum May cost (suc n) k b l none (s, m, hs, ((x, may, e), least), f) = elim (cases_lt b n) [
  | inl below ↦ never_or_sum May cost n s b below none hs
  | inr last ↦ let g : n ≡ b = omega arith in none x (subst (λ n. May n x) g may)
]

-- a bound is one number, or Never
pub bound_unique : (May : ℕ → ℕ → Type 0) (cost : ℕ → ℕ → ℕ) (n : ℕ) (r s : Option ℕ) → IsBound May cost n r → IsBound May cost n s → r ≡ s
bound_unique May cost n None None h k = refl
bound_unique May cost n None (Some k) (b, l, none) h = absurd (never_or_sum May cost n k b l none h)
bound_unique May cost n (Some k) None h (b, l, none) = absurd (never_or_sum May cost n k b l none h)
bound_unique May cost n (Some j) (Some k) h i = ap Some (sum_unique May cost n j k h i)

calm_or_tight : (c : Choices) (box : List Literal) (first last : ℕ) → IsCalm c box first last → IsTight c box first last → ⊥
calm_or_tight c box first last (inl none) t = let (b, l, e) = t.some in true≢false (sym e ∙ none b l)
calm_or_tight c box first last (inr holds) t = let h = t.above in absurd (omega arith)

raise_unique : (c : Choices) (box : List Literal) (first last v w : ℕ) → IsLeastRaise c box first last v → IsLeastRaise c box first last w → v ≡ w
raise_unique c box first last v w ((a, la, pa, ra), va) ((b, lb, pb, rb), wb) =
    let x = va b w lb pb rb in let y = wb a v la pa ra in omega arith

never_energy : (c : Choices) (first last : ℕ) (box : List Literal) (r : ℕ) → IsEnergy c first last box None → IsEnergy c first last box (Some r) → ⊥
never_energy c first last box r (inl (b, l, none)) (k, base, cases) = never_or_sum (MayTake c box) c.cost (blocks c) k b l none base
never_energy c first last box r (inr (tight, day)) (k, base, inl calm) = calm_or_tight c box first last calm.0 tight
never_energy c first last box r (inr (tight, day)) (k, base, inr raised) = let d = raised.1 in absurd (omega arith)

-- an energy is one number, or Never
pub energy_unique : (c : Choices) (first last : ℕ) (box : List Literal) (r s : Option ℕ) → IsEnergy c first last box r → IsEnergy c first last box s → r ≡ s
energy_unique c first last box None None h i = refl
energy_unique c first last box (Some r) (Some s) (j, hj, cj) (k, hk, ck) =
    let same = sum_unique (MayTake c box) c.cost (blocks c) j k hj hk in
    elim cj [
      | inl x ↦ elim ck [
        | inl y ↦ ap Some (let e = x.1 in let f = y.1 in omega arith)
        | inr y ↦ absurd (calm_or_tight c box first last x.0 y.0)
      ]
      | inr x ↦ elim ck [
        | inl y ↦ absurd (calm_or_tight c box first last y.0 x.0)
        | inr y ↦
            let (t, d, (v, hv, e)) = x in let (t', d', (w, hw, f)) = y in
            let raise = raise_unique c box first last v w hv hw in ap Some (omega arith)
      ]
    ]
energy_unique c first last box None (Some s) h i = absurd (never_energy c first last box s h i)
energy_unique c first last box (Some r) None h i = absurd (never_energy c first last box r i h)
