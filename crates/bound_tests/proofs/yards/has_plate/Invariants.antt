use Rattle.std.proofs.Common.{◌≡◌, drop}
use Rattle.shape_exact.specs.Yards.{has_name, plate_names}
use Rattle.bound_tests.proofs.yards.has_plate.Given as goal

-- the name is among the plates that are left exactly where it is among all
abbrev pub invariant-loop-plate : goal.invariant-loop-plate
invariant-loop-plate l =
    has_name (plate_names (drop l.plate-index l.plates)) l.name ≡ has_name (plate_names l.plates) l.name
