use Rattle.std.proofs.Common.{ap, sym, get_or, ◌∙◌, arith, pos}
use Rattle.shape_exact.specs.declared.point.Point.{Point}
use Rattle.shape_exact.proofs.RimLaws.{rim_inner, rim_closing}
use Rattle.minkowski_obstacles.proofs.edge.Edge.of.Goals as goal
use Rattle.minkowski_obstacles.proofs.edge.Edge.of.Goals.{then-i-points, else-i-points}

pub returns-clause-is : goal.returns-clause-is
returns-clause-is c = λ d.
    let o : Point = record { x = pos 0; y = pos 0 } in
    elim c.if-i-points.branch [
      | then-i-points w ↦ rim_inner c.args.points.now c.args.i d o (omega arith) ∙ ap (λ (t : Point). record { from = get_or c.args.points.now c.args.i o; to = t }) (sym w.to-is)
      | else-i-points w ↦ rim_closing c.args.points.now c.args.i d o (omega arith) ∙ ap (λ (t : Point). record { from = get_or c.args.points.now c.args.i o; to = t }) (sym w.to-is)
    ]
