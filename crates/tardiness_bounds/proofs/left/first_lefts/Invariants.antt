use Rattle.std.proofs.Common.{◌≡◌, ◌≤◌, ℕ, [], length, Some}
use Rattle.std.specs.Prelude.{slice_get, vec_capacity}
use Rattle.tardiness_bounds.specs.declared.left.Left.{Left}
use Rattle.tardiness_bounds.specs.Lefts.{IsLeft}
use Rattle.tardiness_bounds.proofs.left.first_lefts.Given as goal

-- what is left to the blocks so far
abbrev pub invariant-loop-block : goal.invariant-loop-block
invariant-loop-block l = record {
  len : length l.lefts.items ≡ l.block;
  each : (b : ℕ) (x : Left) → slice_get l.lefts.items b ≡ Some x → IsLeft l.tables [] b x;
  room : l.room ≤ vec_capacity l.lefts;
}
