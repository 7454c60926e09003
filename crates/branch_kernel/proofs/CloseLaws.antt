-- The record of a range, once its codes are settled.
use Rattle.std.proofs.Common.{◌≡◌, ℕ, ◌+◌, ◌/◌, ◌^◌, ◌<◌, ◌≤◌, List, length, Option, sym, subst, Bool}
use Rattle.std.specs.Prelude.{Result, Ok, Err, IfOk}
use Rattle.shape_exact.specs.declared.memory.NoMemory.{NoMemory}
use Rattle.plan_rule.specs.declared.literal.Literal.{Literal}
use Rattle.plan_rule.specs.declared.job.Job.{Job}
use Rattle.plan_rule.specs.Choices.{Choices}
use Rattle.refutation_log.specs.declared.record.Record.{Record}
use Rattle.nogood_store.specs.Hits.{PlainStore}
use Rattle.branch_kernel.specs.declared.steps.Shown.{Shown}
use Rattle.branch_kernel.specs.States.{State, state}
use Rattle.branch_kernel.specs.Boxes.{node_box}
use Rattle.branch_kernel.specs.Nodes.{IsPlace}
use Rattle.branch_kernel.specs.Unbeaten.{IsAskedSide}
use Rattle.branch_kernel.specs.Shows.{AreCited, IsHandledBy, IsShown}
use Rattle.branch_kernel.specs.Growth.{IsReady, Runs}
use Rattle.branch_kernel.specs.Written.{IsClosed}
use Rattle.branch_kernel.proofs.NodeLaws.{ready_later}
use Rattle.branch_kernel.proofs.DropLaws.{divide_shown}

pub closed_done : (c : Choices) (job : Job) (start : State) (bar : ℕ) (best : Option (List ℕ)) (log new : List Record) (store store' : PlainStore) (tie : Bool)
    (side : List Literal) (needs : ℕ → Bool) (items : List ℕ) (range : Literal) (last : ℕ) (result : Result Shown NoMemory)
    → IsReady c job start → Runs c job start (state bar best log store) → IsPlace c side range.block range.lo range.hi → IsAskedSide c side (start.bar / 2 ^ 32)
    → ((x : ℕ) → range.lo ≤ x → x < last → IsHandledBy c start (state bar best log store) tie side needs items range.block x) → range.hi ≤ last
    → AreCited c start (state bar best log store) tie items
    → IsClosed c tie side range needs items log new store store' result
    → Runs c job start (state bar best new store')
    × IfOk result (λ shown. (shown.number + 1 ≡ length new)
    × IsShown c start (state bar best new store') shown.tie shown.number (node_box c side range.block range.lo range.hi))
closed_done c job start bar best log new store store' tie side needs items range last (Ok shown) ready runs place asked handled end cited (tie_is, written, stored, prefix) =
    let later = ready_later c job start (state bar best log store) ready runs in
    let (grows, number, is) = divide_shown c start bar best log new store.nogoods store'.nogoods tie shown.number side needs items range last ready.fits later.stored place asked
    runs.grows handled end cited written stored in (
      record { grows = grows; held = runs.held; inside = runs.inside },
      (number, subst (λ tie. IsShown c start (state bar best new store') tie shown.number (node_box c side range.block range.lo range.hi)) (sym tie_is) is),
    )
closed_done c job start bar best log new store store' tie side needs items range last (Err e) ready runs place asked handled end cited (same_log, same_store) =
    (subst (λ log. Runs c job start (state bar best log store')) (sym same_log) (subst (λ store. Runs c job start (state bar best log store)) (sym same_store) runs), tt)
