use Rattle.std.proofs.Common.{◌≡◌, ◌+◌, ◌++◌, ◌∷◌, [], length, ap, ◌∙◌, sym, subst, refl, arith}
use Rattle.std.specs.Prelude.{All}
use Rattle.std.proofs.lemmas.Bool.{false≢true}
use Rattle.tardiness_bounds.specs.declared.near.Neighbour.{Neighbour}
use Rattle.plan_rule.proofs.MeetingLaws.{piece_read, pieces_read}
use Rattle.tardiness_bounds.specs.Neighbours.{AreNear, IsNeighbour}
use Rattle.tardiness_bounds.proofs.NearLaws.{neighbours_more, piece_next, piece_skip}
use Rattle.tardiness_bounds.proofs.near.near_to.Goals as goal
use Rattle.tardiness_bounds.proofs.near.near_to.Goals.{then-may_meet_piece, else-may_meet_piece}

pub loop-i-preserved : goal.loop-i-preserved
loop-i-preserved c =
    let few = c.loop-i.invariant.few in
    let here = c.yard-yard.ensures.value ∙ c.codes.ensures in
    let at = piece_read c.args.tables.now.yard _ _ c.loop-i.i c.piece-item.result c.fixed-piece-items.ensures.value here c.loop-i-test.true c.piece-item.is in
    elim c.if-may_meet_piece.branch [
      | then-may_meet_piece w ↦
          let pushed = ap (λ v. v.items) w.near-is ∙ w.push.ensures.items ∙ ap (λ (n : Neighbour). c.loop-i.near.items ++ n ∷ []) w.of_piece.ensures.value in
          record {
            few = let n : length c.if-may_meet_piece.near.items ≡ length c.loop-i.near.items + 1 = ap (λ v. length v.items) w.near-is ∙ w.push.ensures.len in omega arith;
            near = piece_next c.args.tables.now.yard c.args.place c.args.list.now c.loop-i.near.items c.if-may_meet_piece.near.items c.loop-i.i c.piece-item.result at
                pushed (w.if-may_meet_piece.ensures.0 refl) c.loop-i.invariant.near;
            each = neighbours_more c.args.tables.now.yard c.loop-i.near.items c.if-may_meet_piece.near.items w.of_piece.result (ap (λ v. v.items) w.near-is ∙ w.push.ensures.items)
                c.loop-i.invariant.each w.of_piece.ensures.neighbour;
          }
      | else-may_meet_piece w ↦ record {
        few = let n : length c.if-may_meet_piece.near.items ≡ length c.loop-i.near.items = ap (λ v. length v.items) w.near-is in omega arith;
        near = piece_skip c.args.tables.now.yard c.args.place c.args.list.now c.loop-i.near.items c.if-may_meet_piece.near.items c.loop-i.i c.piece-item.result at
            (ap (λ v. v.items) w.near-is) (λ m. false≢true (w.if-may_meet_piece.ensures.1 m)) c.loop-i.invariant.near;
        each = subst (λ v. All (IsNeighbour c.args.tables.now.yard) v.items) (sym w.near-is) c.loop-i.invariant.each;
      }
    ]

pub returns-clause-near : goal.returns-clause-near
returns-clause-near c =
    let long = pieces_read c.args.tables.now.yard _ _ c.fixed-piece-items.ensures.value (c.yard-yard.ensures.value ∙ c.codes.ensures) in
    let e : c.loop-i.i ≡ length c.args.tables.now.yard.fixed = (let past = c.loop-i-test.false in let l = c.loop-i.auto.i-end in omega arith) in
    subst (λ k. AreNear c.args.tables.now.yard c.args.place c.args.list.now k c.loop-i.near.items) e c.loop-i.invariant.near

pub of_piece-requires : goal.of_piece-requires
of_piece-requires c =
    piece_read c.args.tables.now.yard _ _ c.loop-i.i c.piece-item.result c.fixed-piece-items.ensures.value (c.yard-yard.ensures.value ∙ c.codes.ensures) c.loop-i-test.true c.piece-item.is
