use Rattle.std.proofs.Common.{◌≡◌, ◌+◌, length, drop}
use Rattle.nogood_store.specs.Steps.{lists_after, past_after}
use Rattle.nogood_store.proofs.moves.advance.Given as goal

abbrev pub invariant-loop-step : goal.invariant-loop-step
invariant-loop-step l = record {
  lists : lists_after l.chains.lists (drop l.step-index l.steps) ≡ lists_after l.initial.chains.lists l.steps;
  past : past_after l.chains.lists l.chains.past (drop l.step-index l.steps) ≡ past_after l.initial.chains.lists l.initial.chains.past l.steps;
  entries : l.chains.entries ≡ l.initial.chains.entries;
  spare_moves : l.chains.spare_moves + l.step-index ≡ l.initial.chains.spare_moves;
  size : length l.chains.lists ≡ length l.initial.chains.lists;
}
