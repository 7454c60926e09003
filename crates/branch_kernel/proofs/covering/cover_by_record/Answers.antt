use Rattle.std.proofs.Common.{◌∙◌, refl, sym}
use Rattle.plan_rule.specs.Boxes.{exact, with_literal}
use Rattle.plan_rule.specs.Yards.{choices}
use Rattle.branch_kernel.specs.Marks.{has}
use Rattle.branch_kernel.proofs.SettleLaws.{by_a_record}
use Rattle.branch_kernel.proofs.covering.cover_by_record.Goals as goal

pub returns-clause-covered : goal.returns-clause-covered
returns-clause-covered c = λ start middle now same ready node grows shown.
    by_a_record (choices c.args.codes.now) c.args.job start middle now _ c.args.side.now (with_literal c.args.side.now (exact c.args.block c.args.code)) (has c.add_result.new.needs) c.args.block c.args.code c.args.shown.number
    (exact c.args.block c.args.code) c.records.result.now c.index-records-shown.result ready.known node refl refl grows shown (c.records.ensures.value ∙ sym same) c.index-records-shown.is c.add_result.ensures.added
