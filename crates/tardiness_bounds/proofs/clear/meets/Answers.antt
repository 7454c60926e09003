use Rattle.std.proofs.Common.{refl, subst, ◌+◌, ◌*◌}
use Rattle.std.proofs.lemmas.Bool.{false≢true}
use Rattle.std.specs.Prelude.{IsTrue, ◌↔◌}
use Rattle.lattice_free.specs.Clear.{IsClear}
use Rattle.plan_rule.specs.Clashes.{place_of}
use Rattle.tardiness_bounds.specs.declared.near.Neighbour.{Neighbour}
use Rattle.tardiness_bounds.specs.Footprints.{pair_at}
use Rattle.tardiness_bounds.specs.Neighbours.{spot_of}
use Rattle.tardiness_bounds.proofs.ClashLaws.{meet_by_footprints, meets_may}
use Rattle.tardiness_bounds.proofs.clear.meets.Goals as goal

pub returns-then-not-may_meet_piece : goal.returns-then-not-may_meet_piece
returns-then-not-may_meet_piece c =
    (λ t. absurd (false≢true t), λ m. absurd (false≢true (c.if-not-may_meet_piece.ensures.1 (meets_may c.args.tables.now.yard c.args.i c.args.piece.now c.args.block c.args.place c.requires.piece m))))

pub returns : goal.returns
returns c =
    meet_by_footprints c.args.tables.now.yard c.args.i c.args.piece.now c.args.block c.args.place c.is_apart.result c.requires.piece c.requires.block c.requires.turn
    (c.if-not-may_meet_piece.ensures.0 refl)
    (subst (λ (n : Neighbour). IsTrue c.is_apart.result ↔ IsClear (place_of c.args.place) (pair_at c.args.tables.now.yard n.footprint (c.args.block * 4 + c.args.place.turn)) (spot_of n))
    c.of_piece.ensures.value c.is_apart.ensures)
