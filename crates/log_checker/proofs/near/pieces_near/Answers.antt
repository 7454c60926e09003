use Rattle.std.proofs.Common.{◌≡◌, ◌+◌, length, ap, ◌∙◌, subst, sym, refl, arith}
use Rattle.std.proofs.lemmas.Bool.{false≢true}
use Rattle.plan_rule.proofs.MeetingLaws.{piece_read, pieces_read}
use Rattle.log_checker.proofs.NearPieceLaws.{AreNearBelow, piece_more, piece_kept, pieces_all}
use Rattle.log_checker.proofs.near.pieces_near.Goals as goal
use Rattle.log_checker.proofs.near.pieces_near.Goals.{then-may_meet_piece, else-may_meet_piece}

pub loop-i-preserved : goal.loop-i-preserved
loop-i-preserved c =
    let few = c.loop-i.invariant.few in
    let at = piece_read c.args.codes.now _ _ c.loop-i.i c.piece-item.result c.fixed-piece-items.ensures.value c.yard.ensures.value c.loop-i-test.true c.piece-item.is in
    elim c.if-may_meet_piece.branch [
      | then-may_meet_piece w ↦ record {
        few = let n : length c.if-may_meet_piece.list.items ≡ length c.loop-i.list.items + 1 = ap (λ v. length v.items) w.list-is ∙ w.push.ensures.len in omega arith;
        near = subst (AreNearBelow c.args.codes.now c.args.place (c.loop-i.i + 1)) (sym (ap (λ v. v.items) w.list-is ∙ w.push.ensures.items))
            (piece_more c.args.codes.now c.args.place c.loop-i.i c.piece-item.result c.loop-i.list.items at (w.if-may_meet_piece.ensures.0 refl) c.loop-i.invariant.near);
      }
      | else-may_meet_piece w ↦ record {
        few = let n : length c.if-may_meet_piece.list.items ≡ length c.loop-i.list.items = ap (λ v. length v.items) w.list-is in omega arith;
        near = subst (AreNearBelow c.args.codes.now c.args.place (c.loop-i.i + 1)) (sym (ap (λ v. v.items) w.list-is))
            (piece_kept c.args.codes.now c.args.place c.loop-i.i c.piece-item.result c.loop-i.list.items at
            (λ m. false≢true (w.if-may_meet_piece.ensures.1 m)) c.loop-i.invariant.near);
      }
    ]

pub returns : goal.returns
returns c =
    let long = pieces_read c.args.codes.now _ _ c.fixed-piece-items.ensures.value c.yard.ensures.value in
    pieces_all c.args.codes.now c.args.place c.loop-i.i c.loop-i.list.items (let past = c.loop-i-test.false in omega arith) c.loop-i.invariant.near
