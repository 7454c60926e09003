use Rattle.std.proofs.Common.{take}
use Rattle.std.specs.Prelude.{All}
use Rattle.lattice_free.specs.Clear.{IsClear}
use Rattle.plan_rule.specs.Clashes.{place_of}
use Rattle.tardiness_bounds.specs.Footprints.{pair_at}
use Rattle.tardiness_bounds.specs.Neighbours.{spot_of}
use Rattle.tardiness_bounds.proofs.apart.are_apart.Given as goal

-- it is clear of the first neighbours
abbrev pub invariant-loop-n : goal.invariant-loop-n
invariant-loop-n l = All (λ m. IsClear (place_of l.place) (pair_at l.tables.yard m.footprint l.moving) (spot_of m)) (take l.n-index l.near)
