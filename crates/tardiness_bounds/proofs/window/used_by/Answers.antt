use Rattle.tardiness_bounds.proofs.SideLaws.{has_entry, placed_there, unused, used_there}
use Rattle.tardiness_bounds.proofs.window.used_by.Goals as goal

pub place-requires : goal.place-requires
place-requires c = has_entry c.args.codes.now c.args.side.now c.args.block c.requires.side c.requires.block

pub taken-requires-clause-place : goal.taken-requires-clause-place
taken-requires-clause-place c = placed_there c.args.codes.now c.args.side.now c.args.block c.in-Some.place c.requires.side c.in-Some.ensures

pub returns-in-Some-clause-value : goal.returns-in-Some-clause-value
returns-in-Some-clause-value c =
    used_there c.args.codes.now c.args.side.now c.args.window.from c.args.window.to c.args.block c.taken.result c.in-Some.place c.requires.side c.in-Some.ensures
    c.taken.ensures.value

pub returns-in-None-clause-value : goal.returns-in-None-clause-value
returns-in-None-clause-value c =
    unused c.args.codes.now c.args.side.now c.args.window.from c.args.window.to c.args.block c.requires.side c.in-None.ensures
