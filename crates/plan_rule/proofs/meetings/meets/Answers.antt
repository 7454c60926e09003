use Rattle.std.proofs.Common.{refl, arith, below_more}
use Rattle.std.proofs.lemmas.Bool.{false≢true}
use Rattle.plan_rule.proofs.CountLaws.{block_exists, code_exists}
use Rattle.plan_rule.proofs.MeetingLaws.{piece_near, piece_in, piece_read, pieces_read, meets_at, misses_at, meets_no, first_piece}
use Rattle.plan_rule.proofs.meetings.meets.Goals as goal

pub place-placement-requires-clause-block : goal.place-placement-requires-clause-block
place-placement-requires-clause-block c = block_exists _ _ c.requires.0

pub place-placement-requires-clause-code : goal.place-placement-requires-clause-code
place-placement-requires-clause-code c = code_exists _ _ _ c.requires

pub meets_piece-requires-clause-block : goal.meets_piece-requires-clause-block
meets_piece-requires-clause-block c = block_exists _ _ c.requires.0

pub meets_piece-requires-clause-piece : goal.meets_piece-requires-clause-piece
meets_piece-requires-clause-piece c =
    let at = piece_read c.args.codes.now _ _ c.loop-i.i c.piece-item.result c.fixed-piece-items.ensures.value c.yard.ensures.value c.loop-i-test.true c.piece-item.is in
    piece_near c.args.codes.now c.piece-item.result c.yard.ensures.limits
    (piece_in c.args.codes.now c.loop-i.i c.piece-item.result c.yard.ensures.limits at)

pub returns-then-meets_piece : goal.returns-then-meets_piece
returns-then-meets_piece c =
    let at = piece_read c.args.codes.now _ _ c.loop-i.i c.piece-item.result c.fixed-piece-items.ensures.value c.yard.ensures.value c.loop-i-test.true c.piece-item.is in
    first_piece c.args.codes.now c.args.block c.args.code c.loop-i.i
    (meets_at c.args.codes.now c.args.block c.args.code c.loop-i.i c.place-placement.result c.piece-item.result (block_exists _ _ c.requires.0)
    c.place-placement.ensures.value at (λ block is. (c.if-meets_piece.ensures block is).0 refl)) c.loop-i.invariant

pub loop-i-preserved : goal.loop-i-preserved
loop-i-preserved c =
    let at = piece_read c.args.codes.now _ _ c.loop-i.i c.piece-item.result c.fixed-piece-items.ensures.value c.yard.ensures.value c.loop-i-test.true c.piece-item.is in
    below_more _ _ c.loop-i.invariant
    (misses_at c.args.codes.now c.args.block c.args.code c.loop-i.i c.place-placement.result c.piece-item.result
    c.place-placement.ensures.value at (λ block is m. false≢true ((c.if-meets_piece.ensures block is).1 m)))

pub returns : goal.returns
returns c =
    let long = pieces_read c.args.codes.now _ _ c.fixed-piece-items.ensures.value c.yard.ensures.value in
    meets_no c.args.codes.now c.args.block c.args.code c.loop-i.i (let past = c.loop-i-test.false in omega arith) c.loop-i.invariant
