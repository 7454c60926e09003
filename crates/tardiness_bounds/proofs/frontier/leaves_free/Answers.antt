use Rattle.std.proofs.Common.{subst}
use Rattle.std.proofs.lemmas.List.{take_all}
use Rattle.plan_rule.specs.Boxes.{LeavesFree}
use Rattle.tardiness_bounds.specs.Standings.{literals_of}
use Rattle.tardiness_bounds.proofs.StackLaws.{free_next, not_free}
use Rattle.tardiness_bounds.proofs.frontier.leaves_free.Goals as goal

pub loop-f-preserved : goal.loop-f-preserved
loop-f-preserved c = free_next c.args.list.now c.loop-f.f-index c.args.block _ c.loop-f-test.true c.loop-f.invariant c.if-f-block.false

pub returns-then-f-block-clause-no : goal.returns-then-f-block-clause-no
returns-then-f-block-clause-no c = λ t. not_free c.args.list.now c.loop-f.f-index c.args.block _ c.loop-f-test.true c.if-f-block.true

pub returns-clause-yes : goal.returns-clause-yes
returns-clause-yes c = λ t. subst (λ fs. LeavesFree (literals_of fs) c.args.block) (take_all c.loop-f.f-index c.args.list.now c.loop-f-test.false) c.loop-f.invariant
