use Rattle.std.proofs.Common.{rules, arith, length, ap}
use Rattle.steal_rule.proofs.PushLaws.{pushes_word}
use Rattle.steal_rule.proofs.owner.Owner.push.Goals as goal

pub store-requires : goal.store-requires
store-requires c =
    let i = c.self.invariant in
    let r = c.requires.room in
    let p = ap (λ o. length o.pushed) c.self.view_is in
    (search rules, search rules, pushes_word _ _ _ _ _ _ c.word.ensures c.requires.job i.2.live i.2.owns (omega arith) (omega arith))
