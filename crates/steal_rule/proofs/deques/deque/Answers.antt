use Rattle.std.proofs.Common.{rules, refl, arith, true≢false, ap, sym, subst}
use Rattle.atomic_table.specs.Table.{Splits}
use Rattle.steal_rule.specs.declared.rule.View.{View}
use Rattle.steal_rule.specs.Views.{opening, without_parts, reach_of}
use Rattle.steal_rule.specs.Rule.{Holds}
use Rattle.steal_rule.proofs.PushLaws.{opens}
use Rattle.steal_rule.proofs.SeatLaws.{cuts}
use Rattle.steal_rule.proofs.deques.deque.Goals as goal

pub of_words-requires : goal.of_words-requires
of_words-requires c = opens

pub split_seat-reach-requires : goal.split_seat-reach-requires
split_seat-reach-requires c = (
  search rules,
  search rules,
  subst (λ (v : View). Splits Holds c.in_ok-table.place.id v (without_parts v 16) (reach_of 16)) (sym (ap (λ m. m.0) c.in_ok-table.ensures.4))
      (cuts c.in_ok-table.place.id opening 16 refl (omega arith) (omega arith) (λ b. absurd (true≢false b))),
)
