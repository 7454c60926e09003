-- Codes of a block at which it clashes with no exact block, and those that fit.
use Rattle.std.proofs.Common.{◌≡◌, ℕ, List, Option, Some, None, sym, ◌∙◌, inl, inr}
use Rattle.std.specs.Prelude.{slice_get}
use Rattle.std.proofs.lemmas.Option.{none-some}
use Rattle.shape_exact.specs.Yards.{PlainYard}
use Rattle.code_table.specs.declared.placement.Placement.{Placement}
use Rattle.code_table.specs.Placements.{placements}
use Rattle.plan_rule.specs.declared.literal.Literal.{Literal}
use Rattle.plan_rule.specs.Choices.{IsCode}
use Rattle.plan_rule.specs.Boxes.{exact_code}
use Rattle.plan_rule.specs.Bounds.{MayFit}
use Rattle.plan_rule.specs.Yards.{choices}
use Rattle.log_checker.specs.declared.exact.Exact.{Exact}
use Rattle.log_checker.specs.ExactBlocks.{AreExact}
use Rattle.log_checker.specs.Walks.{IsHindered}
use Rattle.log_checker.specs.Leasts.{IsClear, IsLeastClear, IsLeastFit}
use Rattle.log_checker.proofs.ExactLaws.{met_or_clash}
use Rattle.log_checker.proofs.LeastLaws.{least_same}

-- a code that nothing hinders
pub clear_code : (yard : PlainYard) (exacts : List Exact) (b code : ℕ) → IsCode (choices yard) b code → (IsHindered yard exacts b code → ⊥)
    → IsClear yard exacts b code
clear_code yard exacts b code is free = (is.1, λ p at met. free (inl (p, at, met)), λ met. free (inr met))

-- is not hindered
pub not_clear : (yard : PlainYard) (exacts : List Exact) (b code : ℕ) → IsHindered yard exacts b code → IsClear yard exacts b code → ⊥
not_clear yard exacts b code hindered clear = elim hindered [ inl met ↦ clear.1 met.0 met.1 met.2 | inr met ↦ clear.2 met ]

met_placement : (yard : PlainYard) (a d b code : ℕ) → (choices yard).Clash a d b code → (p : Placement) × (slice_get (placements yard b) code ≡ Some p)
unfolding choices
met_placement yard a d b code clash = (clash.q, clash.q_is)

clear_fits : (yard : PlainYard) (side : List Literal) (exacts : List Exact) (b code : ℕ) → AreExact yard side exacts → exact_code side b ≡ None
    → IsClear yard exacts b code → MayFit (choices yard) side b code
clear_fits yard side exacts b code are free clear = (
  (clear.0, λ d fix. absurd (none-some d (sym free ∙ fix))),
  λ e a d fix clash.
      let (p, at) = met_placement yard a d b code clash in
      clear.1 p at ((met_or_clash yard side exacts b code p are at).1 (a, d, fix, clash)),
  λ e. clear.2,
)

fits_clear : (yard : PlainYard) (side : List Literal) (exacts : List Exact) (b code : ℕ) → AreExact yard side exacts → exact_code side b ≡ None
    → MayFit (choices yard) side b code → IsClear yard exacts b code
fits_clear yard side exacts b code are free may = (
  may.0.0,
  λ p at met. let (a, d, fix, clash) = (met_or_clash yard side exacts b code p are at).0 met in may.1 free a d fix clash,
  may.2 free,
)

-- the least of the clear codes of a block that is not exact is that of those that fit
pub least_clear_fits : (yard : PlainYard) (side : List Literal) (exacts : List Exact) (b limit : ℕ) (o : Option ℕ) → AreExact yard side exacts
    → exact_code side b ≡ None → IsLeastClear yard exacts b limit o → IsLeastFit (choices yard) side b limit o
least_clear_fits yard side exacts b limit o are free h =
    least_same (IsClear yard exacts b) (MayFit (choices yard) side b) ((choices yard).cost b) limit o
    (λ x. clear_fits yard side exacts b x are free) (λ x. fits_clear yard side exacts b x are free) h
