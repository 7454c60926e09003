-- What is kept of a side holds on while more is needed, and covers dear codes.
use Rattle.std.proofs.Common.{◌≡◌, ◌≢◌, ℕ, ◌+◌, ◌<◌, ◌≤◌, List, [], Bool, true, false, Option, Some, sym, ap, ◌∙◌, subst, inl, inr, arith, get_or}
use Rattle.std.specs.Prelude.{IfSome}
use Rattle.std.proofs.lemmas.List.Elements.{All-contains}
use Rattle.common_lists.proofs.ListLaws.{some_weaker}
use Rattle.shape_exact.specs.Yards.{PlainYard}
use Rattle.plan_rule.specs.declared.literal.Literal.{Literal}
use Rattle.plan_rule.specs.declared.job.Job.{Job}
use Rattle.plan_rule.specs.Choices.{Choices, IsCode, blocks, count}
use Rattle.plan_rule.specs.Boxes.{IsBox, LeavesFree, exact, with_literal}
use Rattle.plan_rule.specs.Bounds.{IsBase}
use Rattle.plan_rule.specs.Yards.{choices}
use Rattle.tardiness_bounds.specs.declared.beside.Beside.{Beside}
use Rattle.tardiness_bounds.specs.declared.beside.Hindrance.{Hindrance}
use Rattle.tardiness_bounds.specs.declared.beside.Hindrance.TheVariants.{Clash}
use Rattle.tardiness_bounds.specs.Besides.{IsHindered, TellsBeside}
use Rattle.tardiness_bounds.specs.Numbers.{number}
use Rattle.tardiness_bounds.specs.Stacks.{CanPush}
use Rattle.branch_kernel.specs.Boxes.{kept}
use Rattle.branch_kernel.specs.Nodes.{IsNode}
use Rattle.branch_kernel.specs.Shows.{IsHandledBy}
use Rattle.branch_kernel.specs.States.{State, relied}
use Rattle.branch_kernel.proofs.DropLaws.{by_clash, kept_box}
use Rattle.branch_search.specs.declared.view.Dear.{Dear}
use Rattle.branch_search.specs.declared.view.SideView.{SideView}
use Rattle.branch_search.specs.Floors.{BeatsFrom}
use Rattle.branch_search.specs.Views.{IsDear, IsView}
use Rattle.branch_search.proofs.FloorLaws.{dear_handled}

-- what is dear is so where more is needed
pub dear_more : (c : Choices) (side : List Literal) (needs more : ℕ → Bool) (b : ℕ) (dear : Dear) → ((x : ℕ) → needs x ≡ true → more x ≡ true) → IsDear c side needs b dear
    → IsDear c side more b dear
dear_more c side needs more b dear grows is = record {
  box = is.box;
  covers = λ start s tie x exists dearer beats keep some. is.covers start s tie x exists dearer beats keep (λ z need. some z (grows z need));
}

pub view_more : (yard : PlainYard) (side : List Literal) (needs more : ℕ → Bool) (b : ℕ) (view : SideView) → ((x : ℕ) → needs x ≡ true → more x ≡ true) → IsView yard side needs b view
    → IsView yard side more b view
view_more yard side needs more b view grows is = record {
  yard_is = is.yard_is;
  exacts = is.exacts;
  inside = is.inside;
  dear_is = some_weaker view.dear (IsDear (choices yard) side needs b) (IsDear (choices yard) side more b) (λ d h. dear_more (choices yard) side needs more b d grows h) is.dear_is;
}

-- a code that costs as much as what is dear is handled, where the bound beats now
pub dear_handles : (c : Choices) (start s : State) (bar : ℕ) (best : Option (List ℕ)) (tie : Bool) (side : List Literal) (needs : ℕ → Bool) (b code : ℕ) (dear : Option Dear) (d : Dear) (cost : ℕ)
    → IfSome dear (IsDear c side needs b) → dear ≡ Some d → code < count c b → d.cost ≤ cost → cost ≡ c.cost b code
    → BeatsFrom c bar (relied tie best) d.short (number d.bound) → s.bar ≡ bar → s.best ≡ best → IsHandledBy c start s tie side needs [] b code
dear_handles c start s bar best tie side needs b code dear d cost h is exists cheap same beats same_bar same_best =
    let it : IsDear c side needs b d = subst (λ o. IfSome o (IsDear c side needs b)) is h in
    it.covers start s tie code exists (omega arith)
    (subst (λ best. BeatsFrom c s.bar (relied tie best) d.short (number d.bound)) (sym same_best)
    (subst (λ bar. BeatsFrom c bar (relied tie best) d.short (number d.bound)) (sym same_bar) beats))

-- the base of what is needed with a code makes the code dear
pub dear_new : (c : Choices) (side : List Literal) (needs : ℕ → Bool) (b code : ℕ) (l : Literal) (part : List Literal) (dear : Dear) → IsBox c side → LeavesFree side b → b < blocks c
    → code < count c b → dear.short ≡ kept needs side → l ≡ exact b code → part ≡ with_literal dear.short l → IsBase c part (number dear.bound) → dear.cost ≡ c.cost b code
    → IsDear c side needs b dear
dear_new c side needs b code l part dear is free block exists e f g base cost = record {
  box = subst (IsBox c) (sym e) (kept_box c needs side is);
  covers = λ start s tie x inside dearer beats.
      dear_handled c start s tie side needs b x code (number dear.bound) is free block exists inside
      (subst (λ short. BeatsFrom c s.bar (relied tie s.best) short (number dear.bound)) e beats)
      (subst (λ short. IsBase c (with_literal short (exact b code)) (number dear.bound)) e
      (subst (λ l. IsBase c (with_literal dear.short l) (number dear.bound)) f (subst (λ part. IsBase c part (number dear.bound)) g base)))
      (omega arith);
}

-- a code of a range may be pushed onto the frontier of the side
pub can_push : (yard : PlainYard) (job : Job) (side : List Literal) (needs : ℕ → Bool) (b code : ℕ) (view : SideView) → IsNode (choices yard) job side b code (code + 1)
    → IsView yard side needs b view → CanPush view.front b code
can_push yard job side needs b code view node is = record {
  is_code = subst (λ y. IsCode (choices y) b code) (sym is.yard_is) (node.block, elim node.range [ inl (some, inside) ↦ omega arith | inr (low, none, empty) ↦ absurd (omega arith) ]);
  free = λ k d within.
      All-contains (λ l. l.block ≢ b) side (get_or view.front.literals k d) node.free (is.inside k d within);
}

-- a code that clashes with a needed literal is handled
pub needed_clash : (c : Choices) (start s : State) (side : List Literal) (needs : ℕ → Bool) (b code a : ℕ) (told : Beside) (h : Hindrance) → IsBox c side → LeavesFree side b → b < blocks c
    → TellsBeside c side b code told → told.hindrance ≡ Some h → h ≡ Clash a → needs a ≡ true → IsHandledBy c start s false side needs [] b code
needed_clash c start s side needs b code a told h is free block tells e f need =
    let (d, exacts, clash) = subst (IsHindered c side b code) (e ∙ ap Some f) tells.hindered in
    by_clash c start s false side needs [] b code a d is free block need exacts clash
