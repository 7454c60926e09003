use Rattle.std.proofs.Common.{arith}
use Rattle.common_lists.proofs.ListLaws.{element_at}
use Rattle.code_table.proofs.StandLaws.{stand-early}
use Rattle.code_table.proofs.ReadLaws.{ends_never, calendar_at, ends_none, ends_some}
use Rattle.code_table.proofs.count.stand_end.Goals as goal

pub returns-then-at-block-clause-none : goal.returns-then-at-block-clause-none
returns-then-at-block-clause-none c =
    λ turn. stand-early c.args.yard.now c.args.block.now c.args.at.start c.args.at.plate turn c.if-at-block.true

pub returns-clause-none : goal.returns-clause-none
returns-clause-none c =
    let (plate, at) = element_at c.args.yard.now.plates c.args.at.plate c.requires.plate in
    ends_none c.args.yard.now c.args.block.now c.args.at.start c.args.at.plate plate c.index-calendars-at.result c.end.result at
    (calendar_at c.args.yard.now.days _ _ c.args.at.plate plate _ c.requires.calendars at c.requires.plate c.index-calendars-at.is) c.end.ensures

pub returns-clause-some : goal.returns-clause-some
returns-clause-some c =
    let (plate, at) = element_at c.args.yard.now.plates c.args.at.plate c.requires.plate in
    ends_some c.args.yard.now c.args.block.now c.args.at.start c.args.at.plate plate c.index-calendars-at.result c.end.result c.if-at-block.false at
    (calendar_at c.args.yard.now.days _ _ c.args.at.plate plate _ c.requires.calendars at c.requires.plate c.index-calendars-at.is) c.end.ensures

pub returns-then-at-block-clause-endless : goal.returns-then-at-block-clause-endless
returns-then-at-block-clause-endless c = λ end e. let l = e.released in let m = c.if-at-block.true in omega arith

pub returns-clause-endless : goal.returns-clause-endless
returns-clause-endless c =
    let (plate, at) = element_at c.args.yard.now.plates c.args.at.plate c.requires.plate in
    ends_never c.args.yard.now c.args.block.now c.args.at.start c.args.at.plate plate c.index-calendars-at.result c.end.result at
    (calendar_at c.args.yard.now.days _ _ c.args.at.plate plate _ c.requires.calendars at c.requires.plate c.index-calendars-at.is) c.end.ensures
