use Rattle.plan_rule.specs.Yards.{choices}
use Rattle.nogood_store.specs.Containers.{NoneContains}
use Rattle.nogood_store.proofs.containers.first_container.Given as goal

abbrev pub invariant-loop-place : goal.invariant-loop-place
invariant-loop-place l = NoneContains (choices l.codes) l.list l.part l.place
