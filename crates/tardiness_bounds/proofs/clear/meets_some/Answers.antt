use Rattle.std.proofs.Common.{◌≡◌, ◌∙◌, refl, subst, inl, inr, arith}
use Rattle.std.proofs.lemmas.Bool.{cases_lt, false≢true}
use Rattle.std.proofs.lemmas.Option.{slice_get_within}
use Rattle.plan_rule.proofs.MeetingLaws.{piece_read, pieces_read}
use Rattle.tardiness_bounds.specs.Standings.{MeetsAt}
use Rattle.tardiness_bounds.proofs.clear.meets_some.Goals as goal

pub meets-requires-clause-piece : goal.meets-requires-clause-piece
meets-requires-clause-piece c =
    piece_read c.args.tables.now.yard _ _ c.loop-i.i c.piece-item.result c.fixed-piece-items.ensures.value (c.yard-yard.ensures.value ∙ c.codes.ensures) c.loop-i-test.true c.piece-item.is

pub returns-then-meets-clause-yes : goal.returns-then-meets-clause-yes
returns-then-meets-clause-yes c = λ t. (c.loop-i.i, c.if-meets.ensures.0 refl)

pub loop-i-preserved : goal.loop-i-preserved
loop-i-preserved c = λ j below m. elim (cases_lt j c.loop-i.i) [
  | inl less ↦ c.loop-i.invariant j less m
  | inr here ↦
      let e : j ≡ c.loop-i.i = omega arith in
      false≢true (c.if-meets.ensures.1 (subst (MeetsAt c.args.tables.now.yard c.args.block c.args.place) e m))
]

pub returns-clause-no : goal.returns-clause-no
returns-clause-no c = λ t i m.
    let long = pieces_read c.args.tables.now.yard _ _ c.fixed-piece-items.ensures.value (c.yard-yard.ensures.value ∙ c.codes.ensures) in
    let within = slice_get_within c.args.tables.now.yard.fixed i m.piece m.piece_is in
    c.loop-i.invariant i (let past = c.loop-i-test.false in let l = c.loop-i.auto.i-end in omega arith) m
