use Rattle.std.proofs.Common.{arith, ap, length, ◌≡◌, ◌+◌}
use Rattle.std.specs.List.{sum_by}
use Rattle.steal_rule.specs.Deques.{Reaching}
use Rattle.steal_rule.proofs.SettleLaws.{stolen_count}
use Rattle.steal_rule.proofs.SweptLaws.{taken_length}
use Rattle.steal_rule.proofs.deques.done.Goals as goal

pub overflow_sub-result : goal.overflow_sub-result
overflow_sub-result c =
    let n : length c.args.owner.pushed ≡ length c.args.owner.popped + sum_by (λ (r : Reaching). length r.stolen) c.args.reaches.items = stolen_count c.args.owner.pushed c.args.owner.popped c.args.reaches.items c.settle.ensures in
    let i = c.owner.invariant in
    let p = ap (λ o. length o.pushed) c.owner.view_is in
    let q = ap (λ o. length o.popped) c.owner.view_is in
    let t = taken_length c.owner.inside.place.me.0 in
    let e = c.from-pushed.ensures in let f = c.from-popped.ensures in omega (arith, i.1.0, i.1.1)

pub returns-clause-stolen : goal.returns-clause-stolen
returns-clause-stolen c =
    let n : length c.args.owner.pushed ≡ length c.args.owner.popped + sum_by (λ (r : Reaching). length r.stolen) c.args.reaches.items = stolen_count c.args.owner.pushed c.args.owner.popped c.args.reaches.items c.settle.ensures in
    let i = c.owner.invariant in
    let p = ap (λ o. length o.pushed) c.owner.view_is in
    let q = ap (λ o. length o.popped) c.owner.view_is in
    let t = taken_length c.owner.inside.place.me.0 in
    let e = c.from-pushed.ensures in let f = c.from-popped.ensures in omega (arith, i.1.0, i.1.1)
