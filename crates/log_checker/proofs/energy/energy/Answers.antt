use Rattle.std.proofs.Common.{sym, ap, ◌∙◌, arith}
use Rattle.shape_exact.specs.Yards.{PlainYard}
use Rattle.std.proofs.lemmas.Bool.{iff_false}
use Rattle.plan_rule.specs.Yards.{choices}
use Rattle.plan_rule.proofs.WindowLaws.{days_are, codes_of_base}
use Rattle.log_checker.proofs.WindowLaws.{energy_last, energy_tight}
use Rattle.log_checker.proofs.energy.energy.Goals as goal

pub least_raise-requires : goal.least_raise-requires
least_raise-requires c = codes_of_base (choices c.args.codes.now) c.args.side.now c.in_ok-base.base c.in_ok-base.ensures.base

pub overflow_add-window : goal.overflow_add-window
overflow_add-window c = let e = days_are c.args.codes.now in let most = c.yard.ensures.limits.days in omega arith

pub returns-then-window-days : goal.returns-then-window-days
returns-then-window-days c =
    energy_last (choices c.args.codes.now) c.args.side.now c.args.window.from c.args.window.to c.in-Some.raise c.in-Some.ensures.raise
    (iff_false c.has_room.ensures c.if-has_room.false)
    (c.if-window-days.true ∙ c.days-days.ensures.value ∙ ap (λ (y : PlainYard). y.days) c.yard.ensures.value ∙ sym (days_are c.args.codes.now))

pub returns : goal.returns
returns c =
    let e = days_are c.args.codes.now in
    let f = ap (λ (y : PlainYard). y.days) c.yard.ensures.value in
    energy_tight (choices c.args.codes.now) c.args.side.now c.args.window.from c.args.window.to c.in_ok-base.base c.in-Some.raise c.in_ok-base.ensures.base
    c.in-Some.ensures.raise (iff_false c.has_room.ensures c.if-has_room.false) (omega arith)
