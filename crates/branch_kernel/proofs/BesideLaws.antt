-- What hinders a code beside a box, case by case.
use Rattle.std.proofs.Common.{◌≡◌, ℕ, ◌+◌, ◌<◌, List, [], Bool, true, false, Some, None, refl, subst}
use Rattle.plan_rule.specs.declared.literal.Literal.{Literal}
use Rattle.plan_rule.specs.declared.job.Job.{Job}
use Rattle.plan_rule.specs.Choices.{Choices, MeetsSome}
use Rattle.plan_rule.specs.Boxes.{LeavesFree}
use Rattle.plan_rule.proofs.ExactLaws.{nothing_exact}
use Rattle.tardiness_bounds.specs.declared.beside.Beside.{Beside}
use Rattle.tardiness_bounds.specs.declared.beside.Hindrance.{Hindrance}
use Rattle.tardiness_bounds.specs.declared.beside.Hindrance.TheVariants.{Clash, Piece}
use Rattle.tardiness_bounds.specs.Besides.{IsHindered, TellsBeside}
use Rattle.branch_kernel.specs.Boxes.{Clashes}
use Rattle.branch_kernel.specs.Known.{AreKnown}
use Rattle.branch_kernel.specs.Nodes.{IsNode}
use Rattle.branch_kernel.specs.Shows.{AreCited, IsHandledBy}
use Rattle.branch_kernel.specs.States.{State}
use Rattle.branch_kernel.proofs.SettleLaws.{by_a_clash, by_a_piece}

-- what hinders a code covers it, where its block is needed
pub by_a_hindrance : (c : Choices) (job : Job) (start s : State) (side : List Literal) (needs : ℕ → Bool) (b code : ℕ) (told : Beside) (h : Hindrance) → AreKnown c
    → IsNode c job side b code (code + 1) → TellsBeside c side b code told → told.hindrance ≡ Some h → ((a : ℕ) → h ≡ Clash a → a < 32 → needs a ≡ true)
    → IsHandledBy c start s false side needs [] b code × AreCited c start s false []
by_a_hindrance c job start s side needs b code told h known node tells e marked = go h (subst (IsHindered c side b code) e tells.hindered) marked
  where
    go : (h : Hindrance) → IsHindered c side b code (Some h) → ((a : ℕ) → h ≡ Clash a → a < 32 → needs a ≡ true)
        → IsHandledBy c start s false side needs [] b code × AreCited c start s false []
    go (Clash a) (d, exacts, clash) marked = by_a_clash c job start s side needs b code a d known node (marked a refl) exacts clash
    go Piece met marked = by_a_piece c job start s side needs b code node met

-- a code that nothing hinders clashes with no exact code and meets no piece
pub told_clear : (c : Choices) (side : List Literal) (b code : ℕ) (told : Beside) → LeavesFree side b → TellsBeside c side b code told → told.hindrance ≡ None
    → (Clashes c side b code → ⊥) × (MeetsSome c b code → ⊥)
told_clear c side b code told free h e =
    let may = subst (IsHindered c side b code) e h.hindered in
    let none = nothing_exact side b free in
    ((λ (a, d, exacts, clash). may.1 none a d exacts clash), may.2 none)
