-- What covers a code of a branch: an exact block that its placement clashes with, the cut, or a span.
use Rattle.std.proofs.Common.{ℕ, ◌<◌, ◌≤◌, List, Option, Some, None, inl, inr, arith}
use Rattle.std.specs.Prelude.{◌↔◌, MatchOption}
use Rattle.common_lists.proofs.ListLaws.{element_at}
use Rattle.shape_exact.specs.Yards.{PlainYard}
use Rattle.code_table.specs.Placements.{placements}
use Rattle.plan_rule.specs.declared.literal.Literal.{Literal}
use Rattle.plan_rule.specs.Choices.{blocks, count, IsCode}
use Rattle.plan_rule.specs.Yards.{choices}
use Rattle.plan_rule.proofs.CountLaws.{code_exists}
use Rattle.refutation_log.specs.declared.record.Record.{Record}
use Rattle.refutation_log.specs.Steps.{IsCovered, IsRange}
use Rattle.log_checker.specs.declared.cut.Cut.{Cut}
use Rattle.log_checker.specs.declared.exact.Exact.{Exact}
use Rattle.log_checker.specs.declared.span.Span.{Span}
use Rattle.log_checker.specs.Cuts.{IsCut}
use Rattle.log_checker.specs.ExactBlocks.{AreExact}
use Rattle.log_checker.specs.Spans.{AreCited}
use Rattle.log_checker.specs.Walks.{IsSettled, IsFirstWithout}
use Rattle.log_checker.specs.Verdicts.{IsFirstUncovered}
use Rattle.log_checker.proofs.ExactLaws.{met_or_clash}

-- a code is settled exactly where it is covered
settled_covered : (yard : PlainYard) (t : Option (List ℕ)) (earlier : List Record) (side : List Literal) (cites : List ℕ) (b : ℕ)
    (cut : Cut) (exacts : List Exact) (spans : List Span) → IsCut (choices yard) t side b cut → AreExact yard side exacts
    → AreCited (choices yard) earlier cites side b spans → (code : ℕ) → IsCode (choices yard) b code
    → IsSettled yard b cut exacts spans code ↔ IsCovered (choices yard) t earlier side cites b code
settled_covered yard t earlier side cites b cut exacts spans cuts are cited code is = (
  λ h. elim h [
    | inl hindered ↦ elim hindered [
      | inl met ↦ inl ((met_or_clash yard side exacts b code met.0 are met.1).0 met.2)
      | inr piece ↦ inr (inl piece)
    ]
    | inr other ↦ elim other [
      | inl taken ↦ inr (inr (inl ((cuts code is).0 taken)))
      | inr inside ↦ inr (inr (inr ((cited code is).0 inside)))
    ]
  ],
  λ h. elim h [
    | inl clash ↦
        let (p, at) = element_at (placements yard b) code (code_exists yard b code is) in
        inl (inl (p, at, (met_or_clash yard side exacts b code p are at).1 clash))
    | inr others ↦ elim others [
      | inl piece ↦ inl (inr piece)
      | inr other ↦ elim other [
        | inl refuted ↦ inr (inl ((cuts code is).1 refuted))
        | inr cites ↦ inr (inr ((cited code is).1 cites))
      ]
    ]
  ],
)

-- the codes of a range exist
pub range_exists : (yard : PlainYard) (b lo hi : ℕ) → IsRange (choices yard) b lo hi → hi ≤ count (choices yard) b
range_exists yard b lo hi (inl (some, within)) = within
range_exists yard b lo hi (inr (first, last, none)) = omega arith

-- the first code that is not settled is the first that is not covered
pub found_uncovered : (yard : PlainYard) (t : Option (List ℕ)) (earlier : List Record) (side : List Literal) (cites : List ℕ) (b lo hi : ℕ)
    (cut : Cut) (exacts : List Exact) (spans : List Span) (found : Option ℕ) → b < blocks (choices yard) → IsRange (choices yard) b lo hi
    → IsCut (choices yard) t side b cut → AreExact yard side exacts → AreCited (choices yard) earlier cites side b spans
    → MatchOption found ((code : ℕ) → lo ≤ code → code < hi → IsSettled yard b cut exacts spans code)
    (λ code. IsFirstWithout (IsSettled yard b cut exacts spans) lo hi code)
    → MatchOption found ((code : ℕ) → lo ≤ code → code < hi → IsCovered (choices yard) t earlier side cites b code)
    (λ code. IsFirstUncovered (choices yard) t earlier b lo hi side cites code)
found_uncovered yard t earlier side cites b lo hi cut exacts spans None exists range cuts are cited h =
    λ code low high.
    let within = range_exists yard b lo hi range in
    (settled_covered yard t earlier side cites b cut exacts spans cuts are cited code (exists, omega arith)).0 (h code low high)
found_uncovered yard t earlier side cites b lo hi cut exacts spans (Some code) exists range cuts are cited h =
    let within = range_exists yard b lo hi range in
    let below = h.below in
    record {
      from = h.from;
      below = h.below;
      before = λ k low high.
          (settled_covered yard t earlier side cites b cut exacts spans cuts are cited k (exists, omega arith)).0 (h.before k low high);
      here = λ covered. h.here ((settled_covered yard t earlier side cites b cut exacts spans cuts are cited code (exists, omega arith)).1 covered);
    }
