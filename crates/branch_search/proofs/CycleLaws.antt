-- What the steps of a search tell of one another.
use Rattle.std.proofs.Common.{◌≡◌, ℕ, ◌+◌, ◌^◌, ◌<◌, ◌≤◌, ◌++◌, ◌⊎◌, List, Bool, true, false, refl, sym, ap, ◌∙◌, subst, inl, inr, arith, length, get_or}
use Rattle.std.specs.Prelude.{◌||◌, ◌==◌, ◌&&◌, if◌then◌else◌}
use Rattle.std.specs.List.{All, AllWithin}
use Rattle.std.proofs.lemmas.List.Elements.{AllWithin-more, at_read}
use Rattle.std.proofs.lemmas.Bool.{ne_eqb}
use Rattle.std.proofs.lemmas.Option.{get_or_from_slice_get}
use Rattle.plan_rule.specs.declared.literal.Literal.{Literal}
use Rattle.plan_rule.specs.declared.job.Job.{Job}
use Rattle.plan_rule.specs.Choices.{Choices, count}
use Rattle.plan_rule.specs.Boxes.{Covers, LeavesFree, exact, with_literal}
use Rattle.refutation_log.specs.declared.record.Record.{Record}
use Rattle.refutation_log.specs.Steps.{result_of}
use Rattle.branch_kernel.specs.declared.covering.Covered.{Covered}
use Rattle.branch_kernel.specs.declared.covering.Coverage.{Coverage}
use Rattle.branch_kernel.specs.declared.covering.Coverage.TheVariants.{Done, Open}
use Rattle.branch_kernel.specs.States.{State}
use Rattle.branch_kernel.specs.Boxes.{kept, node_box}
use Rattle.branch_kernel.specs.Nodes.{IsNode, IsOpenBox}
use Rattle.branch_kernel.specs.Growth.{Grows}
use Rattle.branch_kernel.specs.Shows.{IsHandledBy, IsShown}
use Rattle.branch_kernel.specs.Covers.{CoversCode, IsCoverage}
use Rattle.branch_search.specs.Segments.{HaveAll, IsSegment}
use Rattle.branch_kernel.proofs.GrowthLaws.{cited_from, handled_from}
use Rattle.branch_kernel.proofs.WalkLaws.{node_part, settle_more}
use Rattle.branch_kernel.proofs.WithLaws.{with_contains}

-- a code that is not covered leaves the side with the code open
pub opened : (c : Choices) (job : Job) (start now : State) (side : List Literal) (needs : ℕ → Bool) (b code : ℕ) (r : Coverage) (child : List Literal)
    → IsCoverage c job start now side needs b code r → r ≡ Open child → (child ≡ with_literal side (exact b code)) × IsOpenBox c job child
opened c job start now side needs b code r child h e = subst (IsCoverage c job start now side needs b code) e h

pub covered_done : (c : Choices) (job : Job) (start now : State) (side : List Literal) (needs : ℕ → Bool) (b code : ℕ) (r : Coverage) (covered : Covered)
    → IsCoverage c job start now side needs b code r → r ≡ Done covered → CoversCode c start now side needs b code covered
covered_done c job start now side needs b code r covered h e = subst (IsCoverage c job start now side needs b code) e h

-- what covers a code from a later start covers it from an earlier one
pub covers_from : (c : Choices) (start middle now : State) (side : List Literal) (needs : ℕ → Bool) (b code : ℕ) (r : Covered) → Grows c start middle
    → CoversCode c middle now side needs b code r → CoversCode c start now side needs b code r
covers_from c start middle now side needs b code r g (handled, cited) = (
  λ keep some. handled_from c start middle now r.tie (kept keep side) _ b code g (handled keep some),
  cited_from c start middle now r.tie _ g cited,
)

pub coverage_from : (c : Choices) (job : Job) (start middle now : State) (side : List Literal) (needs : ℕ → Bool) (b code : ℕ) (r : Coverage) → Grows c start middle
    → IsCoverage c job middle now side needs b code r → IsCoverage c job start now side needs b code r
coverage_from c job start middle now side needs b code (Done r) g h = covers_from c start middle now side needs b code r g h
coverage_from c job start middle now side needs b code (Open child) g h = h

-- each code of the segment is handled
abbrev pub IsSegmentHandled : Choices → State → State → Bool → List Literal → (ℕ → Bool) → List ℕ → ℕ → Literal → Type 0
IsSegmentHandled c start s tie side needs cites b segment = (code : ℕ) → segment.lo ≤ code → code < segment.hi → IsHandledBy c start s tie side needs cites b code

-- the codes of a segment are those of its block
pub on_block : (c : Choices) (start s : State) (tie : Bool) (side : List Literal) (needs : ℕ → Bool) (cites : List ℕ) (b b' : ℕ) (segment : Literal) → b ≡ b'
    → IsSegmentHandled c start s tie side needs cites b segment → IsSegmentHandled c start s tie side needs cites b' segment
on_block c start s tie side needs cites b b' segment e h = subst (λ b. IsSegmentHandled c start s tie side needs cites b segment) e h

-- the next segment of a list is settled, beside those before it
pub handled_next : (c : Choices) (start s s' : State) (tie more_tie : Bool) (side : List Literal) (needs needs' : ℕ → Bool) (cites cites' more : List ℕ) (b at : ℕ) (segment : Literal) (list : List Literal)
    → start.bar < 2 ^ 64 → Grows c start s → Grows c s s' → cites' ≡ cites ++ more → ((x : ℕ) → needs x ≡ true → needs' x ≡ true) → at < length list → segment ≡ get_or list at segment
    → AllWithin (IsSegmentHandled c start s tie side needs cites b) list 0 at → IsSegmentHandled c s s' more_tie side needs' more b segment
    → AllWithin (IsSegmentHandled c start s' (tie || more_tie) side needs' cites' b) list 0 (at + 1)
handled_next c start s s' tie more_tie side needs needs' cites cites' more b at segment list fits first g e grow exists is before now =
    AllWithin-more (IsSegmentHandled c start s' (tie || more_tie) side needs' cites' b) list 0 at
    (λ k d low high code from to. settle_more c start s s' tie more_tie side needs needs' cites cites' more b (λ x. x ≡ code) (λ x. ⊥) fits first g e grow
    (λ x same. subst (IsHandledBy c start s tie side needs cites b) (sym same) (before k d low high code from to)) (λ x none. absurd none) code (inl refl))
    (at_read list (IsSegmentHandled c start s' (tie || more_tie) side needs' cites' b) at segment exists is
    (λ code from to. settle_more c start s s' tie more_tie side needs needs' cites cites' more b (λ x. ⊥) (λ x. x ≡ code) fits first g e grow
    (λ x none. absurd none) (λ x same. subst (IsHandledBy c s s' more_tie side needs' more b) (sym same) (now code from to)) code (inr refl)))

-- each code of a range is settled, where each segment of a list is that has them all
pub handled_all : (c : Choices) (start s : State) (tie : Bool) (side : List Literal) (needs : ℕ → Bool) (cites : List ℕ) (range : Literal) (n : ℕ) (list : List Literal)
    → HaveAll range list → length list ≤ n → AllWithin (IsSegmentHandled c start s tie side needs cites range.block) list 0 n
    → (x : ℕ) → range.lo ≤ x → x < range.hi → IsHandledBy c start s tie side needs cites range.block x
handled_all c start s tie side needs cites range n list each all within x low high =
    let (segment, (k, exists, is), from, to) = each x low high in
    subst (IsSegmentHandled c start s tie side needs cites range.block) is (within k segment (omega arith) (omega arith)) x from to

-- what stands in a list of segments of a range is a segment of it
pub listed : (list : List Literal) (range : Literal) (at : ℕ) (segment : Literal) → All (IsSegment range) list → at < length list → segment ≡ get_or list at segment → IsSegment range segment
listed list range at segment inside exists is = subst (IsSegment range) (sym is) (inside at segment exists)

-- a range that leaves out a code of its block is a literal of the node's box
pub cut_box : (c : Choices) (side : List Literal) (l : Literal) → (0 < l.lo) ⊎ (l.hi < count c l.block) → node_box c side l.block l.lo l.hi ≡ with_literal side l
cut_box c side l (inl low) =
    subst (λ s. (if s && (l.hi == count c l.block) then side else with_literal side l) ≡ with_literal side l) (sym (ne_eqb l.lo 0 (λ e. omega arith))) refl
cut_box c side l (inr high) =
    subst (λ t. (if (l.lo == 0) && t then side else with_literal side l) ≡ with_literal side l) (sym (ne_eqb l.hi (count c l.block) (λ e. omega arith))) (go (l.lo == 0))
  where
    go : (s : Bool) → (if s && false then side else with_literal side l) ≡ with_literal side l
    go true = refl
    go false = refl

-- a side that leaves a range's block free leaves that of its segments free
pub segment_free : (side : List Literal) (range segment : Literal) → LeavesFree side range.block → IsSegment range segment → LeavesFree side segment.block
segment_free side range segment free p = subst (LeavesFree side) (sym p.block) free

-- a segment of a node's range, beside its side, is a node
pub segment_node : (c : Choices) (job : Job) (side : List Literal) (range segment : Literal) → IsNode c job side range.block range.lo range.hi → IsSegment range segment → segment.lo < segment.hi
    → IsNode c job side segment.block segment.lo segment.hi
segment_node c job side range segment node p some =
    subst (λ b. IsNode c job side b segment.lo segment.hi) (sym p.block) (node_part c job side range.block range.lo range.hi segment.lo segment.hi node p.low p.high some)

-- a segment of several codes leaves out a code of its block
pub segment_cut : (c : Choices) (job : Job) (side : List Literal) (range segment : Literal) → IsNode c job side range.block range.lo range.hi → IsSegment range segment → segment.lo + 1 < segment.hi
    → (0 < segment.lo) ⊎ (segment.hi < count c segment.block)
segment_cut c job side range segment node p more = elim (p.part more) [
  | inl low ↦ inl (omega arith)
  | inr high ↦ inr (subst (λ b. segment.hi < count c b) (sym p.block) (elim node.range [ inl r ↦ (let h = r.1 in omega arith) | inr z ↦ (let h = z.1 in absurd (omega arith)) ]))
]

-- a box that has no literal on the block, and contains a side with a literal on it, contains the side
covers_less : (c : Choices) (outer side : List Literal) (l : Literal) → LeavesFree outer l.block → Covers c outer (with_literal side l) → Covers c outer side
covers_less c outer side l none cover k d w = elim (cover k d w) [
  | inl whole ↦ inl whole
  | inr some ↦
      let (j, m, within, is, (at, lo, hi)) = some in
      elim (with_contains side l m (j, within, is)) [
        | inl same ↦ absurd (none k d w (sym at ∙ ap (λ (l : Literal). l.block) same))
        | inr (i, v, e) ↦ inr (i, m, v, e, (at, lo, hi))
      ]
]

-- a record that shows a side with a segment, and names its block nowhere, shows the side
pub part_jumps : (c : Choices) (start s : State) (tie : Bool) (side part : List Literal) (l : Literal) (k : ℕ) (records : List Record) (d : Record) → part ≡ with_literal side l
    → IsShown c start s tie k part → records ≡ s.log → d ≡ get_or records k d → LeavesFree (result_of c d) l.block → IsShown c start s tie k side
part_jumps c start s tie side part l k records d e shown same is free =
    let here : d ≡ shown.record_is = is ∙ ap (λ log. get_or log k d) same ∙ get_or_from_slice_get s.log k shown.record_is d shown.at in
    let none : LeavesFree (result_of c shown.record_is) l.block = subst (λ r. LeavesFree (result_of c r) l.block) here free in
    record {
      record_is = shown.record_is;
      at = shown.at;
      result_is = shown.result_is;
      settles = shown.settles;
      clean = shown.clean;
      contains = covers_less c (result_of c shown.record_is) side l none (subst (Covers c (result_of c shown.record_is)) e shown.contains);
    }
