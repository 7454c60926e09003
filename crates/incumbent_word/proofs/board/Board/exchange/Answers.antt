use Rattle.std.proofs.Common.{rules, arith, ap, ◌∙◌}
use Rattle.incumbent_word.proofs.TurnLaws.{takes_turn, gives_back, gives_empty, held, may_leave}
use Rattle.incumbent_word.proofs.board.Board.exchange.Goals as goal

pub compare_exchange-requires : goal.compare_exchange-requires
compare_exchange-requires c = let i = c.seat.invariant in (search rules, search rules, takes_turn _ _ _ _ _ (omega arith, omega (arith, c.requires.slot)) i.1 i.2)

pub swap-requires : goal.swap-requires
swap-requires c =
    let i = c.seat.invariant in
    let x = c.exchange-found.ensures in
    let h = held _ _ _ _ _ _ _ i.0 c.if-compare_exchange-ne0.false c.compare_exchange.ensures.2 x.2 x.3 in
    let may = may_leave _ _ _ _ _ _ _ h (ap (λ s. s.place.yard) c.seat.view_is ∙ ap (λ p. p.yard) c.requires.board) (ap (λ s. s.seen) c.seat.view_is) c.requires.content in
    (search rules, search rules, gives_back _ _ _ _ _ _ (omega arith, omega (arith, c.requires.slot)) (ap (λ v. v.live) h.view ∙ i.1) (ap (λ v. v.turn) h.view) h.carried may)

pub swap-requires-in-None : goal.swap-requires-in-None
swap-requires-in-None c =
    let i = c.seat.invariant in
    let x = c.exchange-found.ensures in
    let h = held _ _ _ _ _ _ _ i.0 c.if-compare_exchange-ne0.false c.compare_exchange.ensures.2 x.2 x.3 in
    let may = may_leave _ _ _ _ _ _ _ h (ap (λ s. s.place.yard) c.seat.view_is ∙ ap (λ p. p.yard) c.requires.board) (ap (λ s. s.seen) c.seat.view_is) c.requires.content in
    (search rules, search rules, gives_empty _ _ _ _ _ _ (omega arith, omega (arith, c.requires.slot)) (ap (λ v. v.live) h.view ∙ i.1) (ap (λ v. v.turn) h.view) h.carried may)
