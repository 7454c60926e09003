use Rattle.std.proofs.Common.{◌≡◌, ◌++◌, take}
use Rattle.std.specs.Vec.{vec_capacity}
use Rattle.nogood_store.proofs.trail.copy_steps.Given as goal

abbrev pub invariant-loop-step : goal.invariant-loop-step
invariant-loop-step l = (l.trail.items ≡ l.initial.trail.items ++ take l.step-index l.steps)
    × (vec_capacity l.trail ≡ vec_capacity l.initial.trail)
