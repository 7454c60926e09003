use Rattle.std.proofs.Common.{ap, subst, sym, ◌∙◌}
use Rattle.branch_workers.proofs.BarLaws.{below_seen, last_is_bar}
use Rattle.branch_workers.proofs.seat_bar.SeatBar.beside.Goals as goal

pub returns-clause-least : goal.returns-clause-least
returns-clause-least c = below_seen _ _ _ _ (ap (λ s. s.seen) c.split-own.ensures.new) (ap (λ s. s.seen) c.see.ensures.seen) c.see.ensures.least

pub returns-clause-bar : goal.returns-clause-bar
returns-clause-bar c = last_is_bar _ _ _ _ _ c.requires (ap (λ s. s.seen) c.see.ensures.seen) c.see.ensures.key
