use Rattle.plan_rule.specs.Yards.{choices}
use Rattle.log_merge.proofs.ClosingLaws.{last_refutes}
use Rattle.log_merge.proofs.LeafLaws.{emptied_accepted}
use Rattle.log_merge.proofs.closing.close_empty.Goals as goal

pub returns : goal.returns
returns c = λ t answer steps.
    emptied_accepted (choices c.args.codes.now) t c.args.log.now c.push.new.self c.args.block _ _ c.requires.block c.requires.none c.in_ok-new.ensures c.in_ok-new-2.ensures c.in_ok-push.ensures.ok answer steps
