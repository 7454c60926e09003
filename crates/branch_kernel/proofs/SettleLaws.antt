-- The ways in which one code of a block is settled beside a side.
use Rattle.std.proofs.Common.{◌≡◌, ℕ, ◌+◌, ◌<◌, List, [], ◌∷◌, get_or, Option, Some, ap, ◌∙◌, subst, arith, Bool, true, false}
use Rattle.std.specs.Prelude.{slice_get}
use Rattle.std.proofs.lemmas.List.Elements.{All-contains}
use Rattle.std.proofs.lemmas.Option.{get_or_from_slice_get}
use Rattle.plan_rule.specs.declared.literal.Literal.{Literal}
use Rattle.plan_rule.specs.declared.job.Job.{Job}
use Rattle.plan_rule.specs.Choices.{Choices, MeetsSome}
use Rattle.plan_rule.specs.Plans.{IsFeasible, IsNotBefore}
use Rattle.plan_rule.specs.Boxes.{HasExact, Covers, exact, with_literal}
use Rattle.plan_rule.specs.Bounds.{IsBase}
use Rattle.plan_rule.proofs.BoundLaws.{held_block}
use Rattle.refutation_log.specs.declared.record.Record.{Record}
use Rattle.refutation_log.specs.Steps.{result_of}
use Rattle.nogood_store.specs.declared.nogood.Nogood.{Nogood}
use Rattle.branch_kernel.specs.Rivals.{Beats}
use Rattle.branch_kernel.specs.States.{State, IsHeld, relied}
use Rattle.branch_kernel.specs.Known.{AreKnown}
use Rattle.branch_kernel.specs.Boxes.{HasExactAll}
use Rattle.branch_kernel.specs.Marks.{MarksAll}
use Rattle.branch_kernel.specs.Nodes.{IsNode}
use Rattle.branch_kernel.specs.Stored.{IsStored, IsTagged}
use Rattle.branch_kernel.specs.Shows.{AreCited, IsHandledBy, IsShown}
use Rattle.branch_kernel.specs.Growth.{Grows}
use Rattle.branch_kernel.proofs.GrowthLaws.{cited_none}
use Rattle.branch_kernel.proofs.WithLaws.{at_place}
use Rattle.branch_kernel.proofs.NodeLaws.{base_handles, leaf_beats}
use Rattle.branch_kernel.proofs.DropLaws.{by_clash, by_piece, by_side, by_hit, child_handles, marks_box}

pub by_a_clash : (c : Choices) (job : Job) (start s : State) (side : List Literal) (needs : ℕ → Bool) (b code a d : ℕ) → AreKnown c → IsNode c job side b code (code + 1)
    → (a < 32 → needs a ≡ true) → HasExact side a d → c.Clash a d b code → IsHandledBy c start s false side needs [] b code × AreCited c start s false []
by_a_clash c job start s side needs b code a d known node marked exacts clash = (
  by_clash c start s false side needs [] b code a d node.side_is node.free node.block
      (marked (let l = held_block c side a d node.side_is exacts in let f = known.few in omega arith)) exacts clash,
  cited_none c start s false,
)

pub by_a_piece : (c : Choices) (job : Job) (start s : State) (side : List Literal) (needs : ℕ → Bool) (b code : ℕ) → IsNode c job side b code (code + 1) → MeetsSome c b code
    → IsHandledBy c start s false side needs [] b code × AreCited c start s false []
by_a_piece c job start s side needs b code node met = (by_piece c start s false side needs [] b code node.block met, cited_none c start s false)

pub by_a_base : (c : Choices) (job : Job) (start s : State) (tie : Bool) (side child : List Literal) (needs : ℕ → Bool) (b code : ℕ) (l : Literal) (r : Option ℕ) → AreKnown c
    → IsNode c job side b code (code + 1) → MarksAll needs side → l ≡ exact b code → child ≡ with_literal side l → IsBase c child r → Beats c s.bar (relied tie s.best) child r
    → IsHandledBy c start s tie side needs [] b code × AreCited c start s tie []
by_a_base c job start s tie side child needs b code l r known node marks e f base beats =
    let (handled, cited) = base_handles c start s tie side child b code r (f ∙ ap (with_literal side) e) base beats in
    (by_side c start s tie side needs [] b code (marks_box c needs side known node.side_is marks) handled, cited)

-- the plan of the side with the code is no better than the best
pub by_a_plan : (c : Choices) (job : Job) (start s : State) (side child : List Literal) (needs : ℕ → Bool) (b code : ℕ) (l : Literal) (q : List ℕ) → AreKnown c
    → IsNode c job side b code (code + 1) → MarksAll needs side → l ≡ exact b code → child ≡ with_literal side l → IsHeld c s.bar s.best → IsFeasible c q → HasExactAll c child q → IsNotBefore c q s.best
    → IsHandledBy c start s true side needs [] b code × AreCited c start s true []
by_a_plan c job start s side child needs b code l q known node marks e f held feasible exacts not =
    let (r, base, beats) = leaf_beats c s.bar child s.best q known held feasible exacts not in
    by_a_base c job start s true side child needs b code l r known node marks e f base beats

-- a stored box contains the side with the code
pub by_a_box : (c : Choices) (job : Job) (start s : State) (side child : List Literal) (needs : ℕ → Bool) (b code i : ℕ) (n : Nogood) → AreKnown c
    → IsNode c job side b code (code + 1) → MarksAll needs n.part → child ≡ with_literal side (exact b code) → IsStored c s.log s.store → Grows c start s
    → slice_get s.store i ≡ Some n → Covers c n.part child
    → IsHandledBy c start s false side needs (n.tag ∷ []) b code × AreCited c start s false (n.tag ∷ [])
by_a_box c job start s side child needs b code i n known node marks e stored g at cover =
    let t : IsTagged c s.log n = All-contains (IsTagged c s.log) s.store n stored (at_place s.store i n at) in
    by_hit c start s side needs b code n i node.free stored g at (subst (Covers c n.part) e cover) (marks_box c needs n.part known t.part_is marks)

-- a record shows the side with the code
pub by_a_record : (c : Choices) (job : Job) (start start' s : State) (tie : Bool) (side child : List Literal) (needs : ℕ → Bool) (b code k : ℕ) (l : Literal) (records : List Record) (d : Record) → AreKnown c
    → IsNode c job side b code (code + 1) → l ≡ exact b code → child ≡ with_literal side l → Grows c start start' → IsShown c start' s tie k child → records ≡ s.log → d ≡ get_or records k d
    → MarksAll needs (result_of c d)
    → IsHandledBy c start s tie side needs (k ∷ []) b code × AreCited c start s tie (k ∷ [])
by_a_record c job start start' s tie side child needs b code k l records d known node e f g shown same is marks =
    let here : d ≡ shown.record_is = is ∙ ap (λ log. get_or log k d) same ∙ get_or_from_slice_get s.log k shown.record_is d shown.at in
    child_handles c start start' s tie side child needs b code k node.free (f ∙ ap (with_literal side) e) g shown
    (marks_box c needs (result_of c shown.record_is) known shown.result_is (subst (λ r. MarksAll needs (result_of c r)) here marks))
