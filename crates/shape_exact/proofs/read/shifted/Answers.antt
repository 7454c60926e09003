use Rattle.std.proofs.Common.{◌≡◌, ◌≤◌, List, length, sym, subst}
use Rattle.std.specs.Prelude.{ℤ, unsigned_abs}
use Rattle.std.specs.List.{All}
use Rattle.shape_exact.specs.declared.point.Point.{Point}
use Rattle.shape_exact.specs.Shapes.{least}
use Rattle.shape_exact.specs.Separation.{IsWithin}
use Rattle.shape_exact.proofs.CornerLaws.{least_near}
use Rattle.shape_exact.proofs.read.shifted.Goals as goal

pub moved_back-requires-clause-corner : goal.moved_back-requires-clause-corner
moved_back-requires-clause-corner c =
    at c.args.points.now c.lower_corner.result c.requires.some c.requires.near c.lower_corner.ensures.x c.lower_corner.ensures.y
  where
    at : (vs : List Point) (corner : Point) → 1 ≤ length vs → All (IsWithin 1000) vs → corner.x ≡ least (λ p. p.x) vs → corner.y ≡ least (λ p. p.y) vs → IsWithin 1000 corner
    at vs corner some near x y = (
      subst (λ (z : ℤ). unsigned_abs z ≤ 1000) (sym x) (least_near (λ p. p.x) vs some (λ k d l. (near k d l).0)),
      subst (λ (z : ℤ). unsigned_abs z ≤ 1000) (sym y) (least_near (λ p. p.y) vs some (λ k d l. (near k d l).1)),
    )
