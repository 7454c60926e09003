use Rattle.std.proofs.Common.{◌≡◌, ◌+◌, ◌∙◌, ap, map}
use Rattle.std.proofs.lemmas.List.{take_all}
use Rattle.refutation_log.proofs.CiteLaws.{raised-are}
use Rattle.refutation_log.proofs.log.raised_cites.Goals as goal

pub from_list-requires : goal.from_list-requires
from_list-requires c =
    let all = take_all c.loop-cite.cite-index c.list-cite-items.result.now c.loop-cite-test.false in
    let is = c.loop-cite.invariant ∙ ap (map (λ k. k + c.args.by)) (all ∙ c.list-cite-items.ensures.value) in
    rw is (raised-are c.args.by c.args.cites.now (rw c.list-cite-items.ensures.value at c.list-cite-items.ensures.ascending) c.requires)
