use Rattle.std.proofs.Common.{sym, subst}
use Rattle.plan_rule.specs.Boxes.{IsBox}
use Rattle.plan_rule.specs.Yards.{choices}
use Rattle.branch_kernel.specs.Marks.{has}
use Rattle.branch_kernel.proofs.DropLaws.{kept_box}
use Rattle.branch_search.proofs.FloorLaws.{kept_base, short_part}
use Rattle.branch_search.proofs.ViewLaws.{dear_handles, dear_new, needed_clash}
use Rattle.branch_search.proofs.covering.kept_covers.Goals as goal

pub returns-then-is_among-clause-covered : goal.returns-then-is_among-clause-covered
returns-then-is_among-clause-covered c = λ start s bar best.
    let (a, is, need) = c.is_among.ensures c.if-is_among.true in
    needed_clash (choices c.args.codes.now) start s c.args.side.now (has c.args.needs.now) c.args.block c.args.code a c.args.beside c.in-Some.hindrance c.requires.side c.requires.free c.requires.block
    c.requires.beside c.in-Some.is is need

pub returns-in-Some-dear_covers-clause-covered : goal.returns-in-Some-dear_covers-clause-covered
returns-in-Some-dear_covers-clause-covered c = λ start s bar best.
    let (d, is, cheap, beats) = c.in-Some-dear_covers.ensures in
    dear_handles (choices c.args.codes.now) start s c.args.bar c.args.best.now c.in-Some-dear_covers.tie c.args.side.now (has c.args.needs.now) c.args.block c.args.code c.args.dear.now d c.args.beside.cost
    c.requires.dear is c.requires.code cheap c.requires.beside.cost_is beats bar best

pub base-bound-requires : goal.base-bound-requires
base-bound-requires c =
    short_part (choices c.args.codes.now) c.args.side.now c.in_ok-short.short c.in_ok-part.part (has c.args.needs.now) c.args.block c.args.code c.exact.result c.in_ok-short.ensures c.exact.ensures c.in_ok-part.ensures
    c.requires.side c.requires.block c.requires.code

pub beats_from-requires-clause-part : goal.beats_from-requires-clause-part
beats_from-requires-clause-part c = subst (IsBox (choices c.args.codes.now)) (sym c.in_ok-short.ensures) (kept_box (choices c.args.codes.now) _ c.args.side.now c.requires.side)

pub returns-clause-covered : goal.returns-clause-covered
returns-clause-covered c = λ start s bar best.
    kept_base (choices c.args.codes.now) start s c.args.bar c.args.best.now c.in-Some-beats_from.tie c.args.side.now c.in_ok-short.short c.in_ok-part.part (has c.args.needs.now) c.args.block c.args.code c.exact.result _
    c.in_ok-short.ensures c.exact.ensures c.in_ok-part.ensures c.requires.side c.requires.free c.requires.block c.requires.code c.in-Some-beats_from.ensures.some c.base-bound.ensures bar best

pub returns-clause-dear : goal.returns-clause-dear
returns-clause-dear c =
    dear_new (choices c.args.codes.now) c.args.side.now (has c.args.needs.now) c.args.block c.args.code c.exact.result c.in_ok-part.part
    (record { short = c.in_ok-short.short; cost = c.args.beside.cost; bound = c.base-bound.result })
    c.requires.side c.requires.free c.requires.block c.requires.code c.in_ok-short.ensures c.exact.ensures c.in_ok-part.ensures c.base-bound.ensures c.requires.beside.cost_is
