use Rattle.std.proofs.Common.{◌≡◌, ℕ, ◌<◌, length}
use Rattle.watch_chains.specs.Nodes.{node}
use Rattle.watch_chains.proofs.chains.Chains.new.Given as goal

abbrev pub invariant-loop-i : goal.invariant-loop-i
invariant-loop-i l = record {
  size : length l.nodes.items ≡ l.i;
  each : (k : ℕ) → k < l.i → node l.nodes.items k ≡ record { next = k; prev = k; chain = k };
}
