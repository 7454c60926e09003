use Rattle.std.proofs.Common.{◌≡◌, length}
use Rattle.tardiness_bounds.specs.Sides.{HaveExactPlaces}
use Rattle.tardiness_bounds.proofs.side.Side.of.Given as goal

-- the placements of the blocks so far
abbrev pub invariant-loop-block : goal.invariant-loop-block
invariant-loop-block l = record {
  len : length l.places.items ≡ l.block;
  each : HaveExactPlaces l.codes l.part l.places.items;
}
