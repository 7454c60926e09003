use Rattle.std.proofs.Common.{◌≡◌, length, ap, sym, subst, ◌∙◌, arith}
use Rattle.std.specs.Prelude.{slice_get, Some}
use Rattle.std.proofs.lemmas.Option.{same_Some}
use Rattle.shape_exact.specs.Yards.{PlainYard}
use Rattle.shape_exact.specs.declared.block.Block.{Block}
use Rattle.code_table.specs.Placements.{IsPlacement}
use Rattle.code_table.specs.Spots.{spot_placement}
use Rattle.code_table.proofs.StandLaws.{placements-of}
use Rattle.code_table.proofs.ReadLaws.{read_at}
use Rattle.code_table.proofs.SpotLaws.{spot_exists, placed_code}
use Rattle.code_table.proofs.codes.Codes.place.Goals as goal

pub bounds-plates-spot : goal.bounds-plates-spot
bounds-plates-spot c =
    let exists = spot_exists c.args.self.now c.args.block c.args.code c.spot-spot.result c.requires.block c.spot-spot.ensures in
    let same = ap length (c.plates-plates.ensures.value ∙ ap (λ (y : PlainYard). y.plates) c.yard.ensures.value) in
    omega (arith, exists.0)

pub shape-requires-clause-turn : goal.shape-requires-clause-turn
shape-requires-clause-turn c =
    (spot_exists c.args.self.now c.args.block c.args.code c.spot-spot.result c.requires.block c.spot-spot.ensures).1

pub place_at-requires : goal.place_at-requires
place_at-requires c =
    let exists = spot_exists c.args.self.now c.args.block c.args.code c.spot-spot.result c.requires.block c.spot-spot.ensures in
    let at = read_at c.args.self.now.plates _ c.spot-spot.result.plate c.index-plates-spot.result (c.plates-plates.ensures.value ∙ ap (λ (y : PlainYard). y.plates) c.yard.ensures.value)
    exists.0 c.index-plates-spot.is in
    let (b, is, p) = placed_code c.args.self.now c.args.block c.args.code c.spot-spot.result c.index-plates-spot.result c.shape.result.now
    c.yard.ensures.limits c.requires.block c.spot-spot.ensures at c.shape.ensures in
    record {
      pitch = p.limits.pitch.0;
      width = p.limits.width.1;
      columns = p.some;
      y = p.range.y;
      x = p.range.x;
    }

pub returns : goal.returns
returns c =
    let exists = spot_exists c.args.self.now c.args.block c.args.code c.spot-spot.result c.requires.block c.spot-spot.ensures in
    let at = read_at c.args.self.now.plates _ c.spot-spot.result.plate c.index-plates-spot.result (c.plates-plates.ensures.value ∙ ap (λ (y : PlainYard). y.plates) c.yard.ensures.value)
    exists.0 c.index-plates-spot.is in
    let (b, is, p) = placed_code c.args.self.now c.args.block c.args.code c.spot-spot.result c.index-plates-spot.result c.shape.result.now
    c.yard.ensures.limits c.requires.block c.spot-spot.ensures at c.shape.ensures in
    let value = ap (λ ps. slice_get ps c.args.code) (placements-of c.args.self.now c.args.block b is) ∙ p.at in
    let placement : (b : Block) → slice_get c.args.self.now.blocks c.args.block ≡ Some b
    → IsPlacement c.args.self.now b (spot_placement c.index-plates-spot.result c.shape.result.now c.spot-spot.result) =
    λ other at. subst (λ b. IsPlacement c.args.self.now b (spot_placement c.index-plates-spot.result c.shape.result.now c.spot-spot.result))
    (same_Some b other (sym is ∙ at)) p.facts in
    rw c.place_at.ensures
    (record {
      value = value;
      placement = placement;
      plate = p.range.plate;
      turn = p.range.turn;
      start = p.range.start;
      end = p.range.end;
      order = p.range.order;
      x = p.range.x;
      y = p.range.y;
    })
