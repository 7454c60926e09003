use Rattle.std.proofs.Common.{◌≡◌, length, sym, ap, ◌∙◌, arith}
use Rattle.code_table.specs.Placements.{placements}
use Rattle.tardiness_bounds.proofs.WalkLaws.{first_on, none_more, none_past, past_walk}
use Rattle.tardiness_bounds.proofs.walk.next_code.Goals as goal

pub returns-then-is_some-clause-next : goal.returns-then-is_some-clause-next
returns-then-is_some-clause-next c =
    first_on c.args.tables.now.yard c.args.list.now c.args.block c.args.most c.args.walk.now.from c.loop-walk.walk.from c.step-found.new.walk c.step-found.result
    (sym c.is_some.ensures ∙ c.if-is_some.true) c.loop-walk.invariant.low c.loop-walk.invariant.none c.step-found.ensures.some

pub loop-walk-preserved : goal.loop-walk-preserved
loop-walk-preserved c =
    let past = none_past c.args.tables.now.yard c.args.list.now c.args.block c.args.most c.loop-walk.walk.from c.step-found.new.walk c.step-found.result
    (sym c.is_some.ensures ∙ c.if-is_some.false) c.step-found.ensures.none in
    record {
      low = (let l = c.loop-walk.invariant.low in let on = past.onward in omega arith);
      within = past.within;
      walk = past_walk c.args.tables.now.yard c.args.list.now c.args.block c.args.most c.loop-walk.walk.from c.step-found.new.walk past;
      none = none_more c.args.tables.now.yard c.args.list.now c.args.block c.args.most c.args.walk.now.from c.loop-walk.walk.from c.step-found.new.walk c.loop-walk.invariant.none past;
    }

pub returns-clause-next : goal.returns-clause-next
returns-clause-next c = λ x low below is.
    let e : c.count-count.result ≡ length (placements c.args.tables.now.yard c.args.block) =
    c.count-count.ensures.value ∙ ap (λ y. length (placements y c.args.block)) c.codes.ensures in
    let done = c.loop-walk-test.false in
    c.loop-walk.invariant.none x low (omega arith) is
