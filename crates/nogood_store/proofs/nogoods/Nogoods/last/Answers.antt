use Rattle.std.proofs.Common.{◌≡◌, ◌-◌, length, get_or, Some, ap, sym, ◌∙◌, arith}
use Rattle.nogood_store.specs.declared.nogood.Nogood.{Nogood}
use Rattle.nogood_store.proofs.HitLaws.{last_is}
use Rattle.nogood_store.proofs.nogoods.Nogoods.last.Goals as goal

pub returns-else-len-eq0 : goal.returns-else-len-eq0
returns-else-len-eq0 c =
    let list = c.self.inside.list.items in
    let size = c.self.inside.list.ok.0 in
    let at : c.len-len.result ≡ length list = c.len-len.ensures ∙ size in
    rw (← c.self.view_is)
    (ap (λ (n : Nogood). Some n.tag) (c.index.ensures ∙ ap (λ k. get_or list (k - 1) c.index.result.now) at)
    ∙ sym (last_is list c.index.result.now (let some = c.if-len-eq0.false in omega arith)))
