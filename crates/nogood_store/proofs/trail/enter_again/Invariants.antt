use Rattle.std.proofs.Common.{◌≡◌, take}
use Rattle.std.specs.Vec.{vec_capacity}
use Rattle.nogood_store.specs.Entered.{AreEntered}
use Rattle.nogood_store.proofs.trail.enter_again.Given as goal

abbrev pub invariant-loop-block : goal.invariant-loop-block
invariant-loop-block l = AreEntered l.list (take l.block l.codes) l.trail.marks l.trail.steps.items l.chains
    × (vec_capacity l.trail.steps ≡ vec_capacity l.initial.trail.steps)
