use Rattle.std.proofs.Common.{rules, arith, ap}
use Rattle.steal_rule.proofs.SeatLaws.{cuts}
use Rattle.steal_rule.proofs.reach.Reach.split.Goals as goal

pub split_seat-place-requires : goal.split_seat-place-requires
split_seat-place-requires c =
    let i = c.self.invariant in
    let r = c.requires in
    let p = ap (λ o. o.parts) c.self.view_is in
    (search rules, search rules, cuts _ _ 1 i.2.live (omega arith) (omega arith) (λ _. omega arith))
