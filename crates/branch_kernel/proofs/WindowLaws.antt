-- The best window is one.
use Rattle.std.proofs.Common.{◌≡◌, ℕ, ◌<◌, ◌≤◌, List, Option, Some, None, refl, sym, ap, subst, inl, inr}
use Rattle.std.proofs.lemmas.Bool.{cases_order}
use Rattle.plan_rule.specs.declared.literal.Literal.{Literal}
use Rattle.plan_rule.specs.Choices.{Choices}
use Rattle.plan_rule.specs.Bounds.{IsEnergy, IsFit, IsAtMost}
use Rattle.plan_rule.proofs.UniqueLaws.{energy_unique}
use Rattle.tardiness_bounds.specs.BestWindows.{AnyWindow, IsAbove, IsBestOf, IsBestWindow, ComesFirst}
use Rattle.branch_kernel.specs.Unbeaten.{IsUnbeaten}
use Rattle.branch_kernel.proofs.DropLaws.{base_exists}

same_bound : (r s : Option ℕ) → (IsAbove r s → ⊥) → (IsAbove s r → ⊥) → r ≡ s
same_bound None None h k = refl
same_bound None (Some s) h k = absurd (h tt)
same_bound (Some r) None h k = absurd (k tt)
same_bound (Some r) (Some s) h k = elim (cases_order r s) [ inl e ↦ ap Some e | inr o ↦ elim o [ inl l ↦ absurd (k l) | inr l ↦ absurd (h l) ] ]

same_days : (u e v f : ℕ) → (ComesFirst u e v f → ⊥) → (ComesFirst v f u e → ⊥) → (u ≡ v) × (e ≡ f)
same_days u e v f h k = elim (cases_order u v) [
  | inl same ↦ elim (cases_order e f) [ inl t ↦ (same, t) | inr o ↦ elim o [ inl l ↦ absurd (h (inr (same, l))) | inr l ↦ absurd (k (inr (sym same, l))) ] ]
  | inr o ↦ elim o [ inl l ↦ absurd (h (inl l)) | inr l ↦ absurd (k (inl l)) ]
]

-- two best windows are one
pub window_unique : (c : Choices) (box : List Literal) (u e v f : ℕ) (r s : Option ℕ) → IsBestOf c box AnyWindow u e r → IsBestOf c box AnyWindow v f s → (u ≡ v) × (e ≡ f)
window_unique c box u e v f r s one two =
    let same : r ≡ s = same_bound r s (two.greatest u e r tt one.candidate one.energy) (one.greatest v f s tt two.candidate two.energy) in
    same_days u e v f
    (λ h. two.first u e tt one.candidate (subst (IsEnergy c u e box) same one.energy) h)
    (λ h. one.first v f tt two.candidate (subst (IsEnergy c v f box) (sym same) two.energy) h)

-- where there is a best window, its candidates are days of the yard
pub window_days : (c : Choices) (box : List Literal) (w : ℕ × ℕ) → IsBestWindow c box (Some w) → (w.0 ≤ w.1) × (w.1 < c.days)
window_days c box w (r, best) = (best.candidate.order, best.candidate.days)

-- a box that its fit does not beat, and that has no best window, is not beaten
pub unbeaten_none : (c : Choices) (part : List Literal) (k total : ℕ) → IsFit c part (Some k) → k ≤ total → IsBestWindow c part None → IsUnbeaten c part total
unbeaten_none c part k total fit low none = record {
  fit = k;
  fit_is = fit;
  low = low;
  energy = λ u e r (s, best) is.
      let (b, base) = base_exists c part in
      absurd (none u e s b tt best.candidate best.energy base (best.above b base));
}

-- nor one whose energy in the best window does not beat it
pub unbeaten_some : (c : Choices) (part : List Literal) (k total : ℕ) (w : ℕ × ℕ) (r : Option ℕ) → IsFit c part (Some k) → k ≤ total → IsBestWindow c part (Some w) → IsEnergy c w.0 w.1 part r → IsAtMost r total
    → IsUnbeaten c part total
unbeaten_some c part k total w r fit low (s, best) energy most = record {
  fit = k;
  fit_is = fit;
  low = low;
  energy = λ u e r' (s', best') is.
      let (same_u, same_e) = window_unique c part u e w.0 w.1 s' s best' best in
      subst (λ r. IsAtMost r total)
      (energy_unique c w.0 w.1 part r r' energy (subst (λ e. IsEnergy c w.0 e part r') same_e (subst (λ u. IsEnergy c u e part r') same_u is))) most;
}

-- from what a bound was found to be
pub unbeaten : (c : Choices) (part : List Literal) (fit : Option ℕ) (total : ℕ) → IsFit c part fit → IsAtMost fit total
    → ((k : ℕ) → IsFit c part (Some k) → k ≤ total → IsUnbeaten c part total) → IsUnbeaten c part total
unbeaten c part None total is most go = absurd most
unbeaten c part (Some k) total is most go = go k is most
