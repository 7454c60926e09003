use Rattle.std.proofs.Common.{◌≡◌, ◌+◌, ◌<◌, ◌≤◌, ℕ, length, take, Some}
use Rattle.std.specs.Prelude.{slice_get, vec_capacity}
use Rattle.tardiness_bounds.specs.declared.left.Left.{Left}
use Rattle.tardiness_bounds.specs.Lefts.{IsLeft}
use Rattle.tardiness_bounds.proofs.left.add_lefts.Given as goal

-- what was left before, and after it what is left to the blocks so far
abbrev pub invariant-loop-block : goal.invariant-loop-block
invariant-loop-block l = record {
  len : length l.lefts.items ≡ length l.initial.lefts.items + l.block;
  kept : take (length l.initial.lefts.items) l.lefts.items ≡ l.initial.lefts.items;
  each : (b : ℕ) (x : Left) → b < l.block → slice_get l.lefts.items (length l.initial.lefts.items + b) ≡ Some x → IsLeft l.tables l.list b x;
  room : vec_capacity l.initial.lefts ≤ vec_capacity l.lefts;
}
