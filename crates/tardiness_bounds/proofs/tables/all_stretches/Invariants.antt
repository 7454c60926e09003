use Rattle.std.proofs.Common.{◌≡◌, ℕ, Some, length}
use Rattle.std.specs.Prelude.{slice_get}
use Rattle.tardiness_bounds.specs.declared.stretches.StretchList.{StretchList}
use Rattle.tardiness_bounds.specs.Tables.{AreStretches}
use Rattle.tardiness_bounds.proofs.tables.all_stretches.Given as goal

-- each block so far has its stretches
abbrev pub invariant-loop-block : goal.invariant-loop-block
invariant-loop-block l = record {
  len : length l.stretches.items ≡ l.block;
  each : (b : ℕ) (s : StretchList) → slice_get l.stretches.items b ≡ Some s → AreStretches l.codes b s;
}
