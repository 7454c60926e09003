use Rattle.std.proofs.Common.{sym, subst, ◌∙◌}
use Rattle.shape_exact.specs.Yards.{IsYard}
use Rattle.tardiness_bounds.specs.Neighbours.{IsNeighbour}
use Rattle.tardiness_bounds.proofs.NearLaws.{made_piece, neighbour_piece}
use Rattle.tardiness_bounds.proofs.near.of_piece.Goals as goal

pub returns-clause-value : goal.returns-clause-value
returns-clause-value c = made_piece c.args.tables.now.yard c.yard.result.now c.blocks-2.result.now c.args.i c.args.piece.now c.blocks-2.ensures.value (c.yard.ensures.value ∙ c.codes.ensures)

pub returns-clause-neighbour : goal.returns-clause-neighbour
returns-clause-neighbour c =
    subst (IsNeighbour c.args.tables.now.yard) (sym (returns-clause-value c))
    (neighbour_piece c.args.tables.now.yard c.args.i c.args.piece.now (subst IsYard c.codes.ensures c.yard.ensures.limits) c.requires)
