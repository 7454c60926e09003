use Rattle.std.proofs.Common.{ℤ, pos, w64, FitsSigned, to_z, of_z, ◌≡◌, ◌↔◌, ◌≤ℤ◌, ◌<ℤ◌, ◌*ℤ◌}
use Rattle.std.specs.Int.{int_div_euclid}
use Rattle.std.proofs.lemmas.Int.{to_z-of_z}
use Rattle.shape_exact.proofs.RowLaws.{quotient_is}
use Rattle.minkowski_obstacles.proofs.interval.quotient.Goals as goal

plain : (d c r x : ℤ) → FitsSigned w64 d → FitsSigned w64 c → FitsSigned w64 r → pos 0 <ℤ d → r ≡ int_div_euclid (to_z w64 (of_z w64 c)) (to_z w64 (of_z w64 d)) → ((d *ℤ x) ≤ℤ c) ↔ (x ≤ℤ to_z w64 (of_z w64 r))
plain d c r x fd fc fr h e = rw (to_z-of_z w64 r fr, simp to_z-of_z at e) (quotient_is d c x h)

pub returns-clause-is : goal.returns-clause-is
returns-clause-is c = λ x. plain c.args.divisor c.args.number c.div_euclid.result x c.ranges.divisor c.ranges.number (record { sfits = c.div_euclid.type_inv }) c.requires.divisor c.div_euclid.ensures
