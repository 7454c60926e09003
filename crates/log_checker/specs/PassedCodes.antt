-- Codes that may be passed at once.
use Rattle.std.specs.Prelude.{ℕ, ◌<◌, List, slice_index}
use Rattle.shape_exact.specs.Yards.{PlainYard}
use Rattle.log_checker.specs.declared.exact.Exact.{Exact}
use Rattle.log_checker.specs.declared.passed.Passed.{Passed}
use Rattle.log_checker.specs.Walks.{IsHindered}

-- the codes of the block below this number are all hindered
abbrev pub AreHinderedTo : PlainYard → List Exact → ℕ → ℕ → Type 0
AreHinderedTo yard exacts b n = (k : ℕ) → k < n → IsHindered yard exacts b k

-- so many of the first codes of each block are
abbrev pub ArePassed : PlainYard → Passed → Type 0
ArePassed yard passed = (b : ℕ) → b < 32 → AreHinderedTo yard passed.exacts.items b (slice_index passed.counts b)
