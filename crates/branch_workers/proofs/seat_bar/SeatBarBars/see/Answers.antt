use Rattle.std.proofs.Common.{arith, ap}
use Rattle.branch_workers.proofs.BarLaws.{seen_last, seen_falls}
use Rattle.branch_workers.proofs.seat_bar.SeatBarBars.see.Goals as goal

pub returns-clause-seen : goal.returns-clause-seen
returns-clause-seen c = seen_last _ _ _ (ap (λ s. s.seen) c.see.ensures.seen)

pub returns-clause-falls : goal.returns-clause-falls
returns-clause-falls c = seen_falls _ _ _ (omega (arith, c.see.type_inv)) c.see.ensures.least (ap (λ s. s.seen) c.see.ensures.seen)
