use Rattle.std.proofs.Common.{◌≡◌, ◌-◌, ◌+◌, ◌≤◌, ◌∷◌, length, drop}
use Rattle.nogood_store.proofs.moves.rewind.Given as goal

abbrev pub invariant-loop-chains : goal.invariant-loop-chains
invariant-loop-chains l = record {
  above : l.mark ≤ length l.chains.past;
  back : l.chains.lists ∷ l.chains.past ≡ drop (length l.initial.chains.past - length l.chains.past) (l.initial.chains.lists ∷ l.initial.chains.past);
  shorter : length l.chains.past ≤ length l.initial.chains.past;
  entries : l.chains.entries ≡ l.initial.chains.entries;
  spare_entries : l.chains.spare_entries ≡ l.initial.chains.spare_entries;
  spare_moves : l.chains.spare_moves + length l.chains.past ≡ l.initial.chains.spare_moves + length l.initial.chains.past;
}

abbrev pub decreases-loop-chains : goal.decreases-loop-chains
decreases-loop-chains l = length l.chains.past - l.mark
