use Rattle.std.proofs.Common.{rules, get_or, ap, ◌∙◌}
use Rattle.common_lists.proofs.ListLaws.{get_or-default}
use Rattle.branch_workers.specs.Work.{place_of}
use Rattle.branch_workers.proofs.RoundLaws.{map-set, tried}
use Rattle.branch_workers.proofs.stealing.try_each.Goals as goal

pub returns-in-Got-clause-same : goal.returns-in-Got-clause-same
returns-in-Got-clause-same c =
    map-set place_of c.loop-i.reaches c.loop-i.i c.steal.new.self c.index-reaches-i.result (search rules) (ap place_of c.in-Got.ensures.stolen.2) ∙ c.loop-i.invariant.same

pub loop-i-preserved : goal.loop-i-preserved
loop-i-preserved c =
    tried _ c.loop-i.reaches _ _ c.loop-i.i (get_or c.loop-i.reaches c.loop-i.i c.index-reaches-i.result) _ c.loop-i.invariant (search rules)
    (get_or-default c.loop-i.reaches c.loop-i.i c.index-reaches-i.result _ (search rules)) (search rules) c.in_default.ensures.stolen
