use Rattle.std.proofs.Common.{◌≡◌, ℕ, ◌/◌, ◌%◌, Some, length}
use Rattle.std.specs.Prelude.{slice_get}
use Rattle.tardiness_bounds.specs.declared.lattice.Lattice.{Lattice}
use Rattle.tardiness_bounds.specs.Footprints.{turned_count}
use Rattle.tardiness_bounds.specs.Lattices.{IsLatticeAt}
use Rattle.tardiness_bounds.proofs.lattice.Lattices.new.Given as goal

-- the lattices so far
abbrev pub invariant-loop-k : goal.invariant-loop-k
invariant-loop-k l = record {
  len : length l.list.items ≡ l.k;
  each : (k : ℕ) (x : Lattice) → slice_get l.list.items k ≡ Some x → IsLatticeAt l.codes (k / turned_count l.codes) (k % turned_count l.codes) x;
}
