use Rattle.branch_core.proofs.HitLaws.{hit_or_none, cites_first}
use Rattle.branch_core.proofs.region.search_part.Goals as goal

pub returns-in-Some-clause-hit : goal.returns-in-Some-clause-hit
returns-in-Some-clause-hit g c = λ place tag is.
    cites_first c.args.store.now.nogoods c.args.front.now c.in-Some.place c.in-Some.tag c.args.log.now c.take_hit.new.log c.take_hit.result c.in-Some.ensures.hit.1 c.take_hit.ensures.cites place tag is

pub returns-clause-hit : goal.returns-clause-hit
returns-clause-hit g c = λ place tag is. absurd (hit_or_none c.args.store.now.nogoods c.args.front.now place tag c.in_default.ensures.hit is)
