use Rattle.std.proofs.Common.{◌-◌, ◌∷◌, length, ap, sym, ◌∙◌, arith}
use Rattle.nogood_store.proofs.HistoryLaws.{rewound}
use Rattle.nogood_store.proofs.moves.rewind.Goals as goal

pub loop-chains-preserved : goal.loop-chains-preserved
loop-chains-preserved c =
    let is = c.loop-chains.invariant in
    let back = c.undo.ensures.back in
    let fewer = ap length back in
    let above = is.above in
    let shorter = is.shorter in
    let count = c.open_moves.ensures in
    let test = c.loop-chains-test.true in
    let spare = c.undo.ensures.spare_moves in
    let room = is.spare_moves in
    record {
      above = omega arith;
      back = sym back ∙ rewound (c.args.chains.now.lists ∷ c.args.chains.now.past) c.loop-chains.chains.lists c.loop-chains.chains.past
          (length c.args.chains.now.past - length c.loop-chains.chains.past) (length c.args.chains.now.past - length c.undo.new.self.past) is.back (omega arith);
      shorter = omega arith;
      entries = c.undo.ensures.entries ∙ is.entries;
      spare_entries = c.undo.ensures.spare_entries ∙ is.spare_entries;
      spare_moves = omega arith;
    }
