use Rattle.std.proofs.Common.{arith}
use Rattle.branch_core.proofs.RegionLaws.{hit_more}
use Rattle.branch_core.proofs.hits.+hit_from.Goals as goal

pub returns-clause-hit : goal.returns-clause-hit
returns-clause-hit t c =
    let far = c.if-place-front.false in
    let top = c.requires.place in
    hit_more _ _ c.args.front.now _ c.args.place _ c.hit_from-found.result (omega arith) c.requires.prefix c.enter.ensures.nogoods c.in_default.ensures c.hit_from-found.ensures.hit
