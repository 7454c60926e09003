-- A range of codes that one record settles, as the walk along the best plan needs it; and a record that shows a side without the code.
use Rattle.std.proofs.Common.{◌≡◌, ◌≢◌, ℕ, ◌+◌, ◌-◌, ◌^◌, ◌<◌, ◌≤◌, List, [], ◌∷◌, ◌++◌, get_or, Option, Some, None, ◌⊎◌, refl, sym, ap, ◌∙◌, subst, inl, inr, arith, Bool, true, false}
use Rattle.std.specs.Prelude.{not, ◌||◌, ◌==◌, ◌&&◌, if◌then◌else◌}
use Rattle.std.specs.List.{All, Contains}
use Rattle.std.proofs.lemmas.List.Elements.{All-contains_itself, Contains-append_left, Contains-append_right}
use Rattle.std.proofs.lemmas.List.Elements.{All-contains}
use Rattle.std.proofs.lemmas.Option.{get_or_from_slice_get}
use Rattle.plan_rule.proofs.BehindLaws.{exact_has}
use Rattle.branch_kernel.proofs.GrowthLaws.{handled_later, handled_from, grows_self, grows_onto}
use Rattle.std.proofs.lemmas.Bool.{cases_order, false≢true}
use Rattle.branch_kernel.proofs.NodeLaws.{or_first, or_second, cited_once_more}
use Rattle.plan_rule.specs.declared.literal.Literal.{Literal}
use Rattle.plan_rule.specs.declared.job.Job.{Job}
use Rattle.plan_rule.specs.Choices.{Choices, count}
use Rattle.plan_rule.specs.Boxes.{IsAscending, exact_code, IsBox, LeavesFree, HasExact, Covers, exact, with_literal}
use Rattle.plan_rule.proofs.BoxLaws.{held_without}
use Rattle.refutation_log.specs.declared.record.Record.{Record}
use Rattle.refutation_log.specs.Steps.{result_of}
use Rattle.branch_kernel.specs.States.{State}
use Rattle.branch_kernel.specs.Known.{AreKnown}
use Rattle.branch_kernel.specs.Boxes.{IsClear, node_box, kept, inexact}
use Rattle.branch_kernel.specs.Marks.{MarksAll}
use Rattle.branch_kernel.specs.Nodes.{IsNode, IsOpenBox}
use Rattle.branch_kernel.specs.Shows.{AreCited, IsHandled, IsHandledBy, IsShown}
use Rattle.branch_kernel.specs.Growth.{Grows}
use Rattle.branch_kernel.proofs.WithLaws.{with_box, with_rises, with_contains, contains_with, rises_from, exact_of_literal}
use Rattle.branch_kernel.proofs.CoverLaws.{covers_narrow, covers_jump}
use Rattle.branch_kernel.proofs.DropLaws.{child_handles, marks_box}
use Rattle.branch_kernel.proofs.SplitLaws.{shown_inside, inexact_le}

-- a range of more than one code makes no block exact
pub range_clear : (c : Choices) (side : List Literal) (l : Literal) → IsBox c side → l.lo + 1 < l.hi → IsClear c side → IsClear c (with_literal side l)
range_clear c side l is more clear = record {
  apart = λ a b d e fa fb differ clash. clear.apart a b d e (less a d fa) (less b e fb) differ clash;
  unmet = λ a d fa met. clear.unmet a d (less a d fa) met;
}
  where
    less : (x y : ℕ) → HasExact (with_literal side l) x y → HasExact side x y
    less x y exacts = elim (with_contains side l (exact x y) (exact_has (with_literal side l) x y exacts)) [
      | inl same ↦ (let f = ap (λ (m : Literal). m.lo) same in let g = ap (λ (m : Literal). m.hi) same in absurd (omega arith))
      | inr inside ↦ exact_of_literal side (exact x y) (rises_from side is.ascending) refl inside
    ]

-- a side's literals are among those of the node's box
pub side_inside : (c : Choices) (side : List Literal) (b lo hi : ℕ) → LeavesFree side b → All (Contains (node_box c side b lo hi)) side
side_inside c side b lo hi free = go ((lo == 0) && (hi == count c b))
  where
    go : (t : Bool) → All (Contains (if t then side else with_literal side (record { block = b; lo = lo; hi = hi }))) side
    go true = All-contains_itself side
    go false = contains_with side (record { block = b; lo = lo; hi = hi }) free

-- a record whose result has no literal on the block shows the side
pub jump_shown : (c : Choices) (start start' s : State) (tie : Bool) (side child : List Literal) (b code k : ℕ) (l : Literal) (records : List Record) (d : Record) → Grows c start start' → l ≡ exact b code
    → child ≡ with_literal side l → IsShown c start' s tie k child → records ≡ s.log → d ≡ get_or records k d → LeavesFree (result_of c d) b → IsShown c start s tie k side
jump_shown c start start' s tie side child b code k l records d g e f shown same is free =
    let here : d ≡ shown.record_is = is ∙ ap (λ log. get_or log k d) same ∙ get_or_from_slice_get s.log k shown.record_is d shown.at in
    let none : LeavesFree (result_of c shown.record_is) b = subst (λ r. LeavesFree (result_of c r) b) here free in
    record {
      record_is = shown.record_is;
      at = shown.at;
      result_is = shown.result_is;
      settles = λ right. shown.settles (g.settles right);
      clean = λ right. shown.clean (g.clean right);
      contains = covers_jump c (result_of c shown.record_is) side b code (λ i x w. inr (none i x w)) (subst (Covers c (result_of c shown.record_is)) (f ∙ ap (with_literal side) e) shown.contains);
    }

-- more codes are settled: those before, and those of the next step
pub settle_more : (c : Choices) (start s s' : State) (tie more_tie : Bool) (side : List Literal) (needs needs' : ℕ → Bool) (cites cites' more : List ℕ) (b : ℕ) (P Q : ℕ → Type 0) → start.bar < 2 ^ 64
    → Grows c start s → Grows c s s' → cites' ≡ cites ++ more → ((x : ℕ) → needs x ≡ true → needs' x ≡ true)
    → ((x : ℕ) → P x → IsHandledBy c start s tie side needs cites b x) → ((x : ℕ) → Q x → IsHandledBy c s s' more_tie side needs' more b x)
    → (x : ℕ) → P x ⊎ Q x → IsHandledBy c start s' (tie || more_tie) side needs' cites' b x
settle_more c start s s' tie more_tie side needs needs' cites cites' more b P Q fits first g e grow before now x either keep some =
    let d = first.later.falls in
    let d' = g.later.falls in
    subst (λ cites. IsHandled c start s' (tie || more_tie) (kept keep side) cites b x) (sym e) (elim either [
      | inl p ↦ handled_later c start s s' tie (tie || more_tie) (kept keep side) cites (cites ++ more) b x (omega arith) g (or_first tie more_tie)
          (λ k i. Contains-append_left cites more k i) (before x p keep (λ y i. some y (grow y i)))
      | inr q ↦ handled_later c start s' s' more_tie (tie || more_tie) (kept keep side) more (cites ++ more) b x (omega arith) (grows_self c s') (or_second tie more_tie)
          (λ k i. Contains-append_right cites more k i) (handled_from c start s s' more_tie (kept keep side) more b x first (now x q keep some))
    ])

-- a block with a range of more than one code is not exact in the box
pub range_inexact : (side : List Literal) (l : Literal) → IsAscending side → LeavesFree side l.block → l.lo + 1 < l.hi → exact_code (with_literal side l) l.block ≡ None
range_inexact side l up free more = go (exact_code (with_literal side l) l.block) refl
  where
    go : (o : Option ℕ) → exact_code (with_literal side l) l.block ≡ o → o ≡ None
    go None e = refl
    go (Some d) e = elim (with_contains side l (exact l.block d) (exact_has (with_literal side l) l.block d e)) [
      | inl same ↦ (let f = ap (λ (m : Literal). m.lo) same in let g = ap (λ (m : Literal). m.hi) same in absurd (omega arith))
      | inr inside ↦ absurd (All-contains (λ m. m.block ≢ l.block) side (exact l.block d) free inside refl)
    ]

-- and it leaves no more blocks inexact than the side
pub range_fewer : (c : Choices) (side part : List Literal) (l : Literal) → IsAscending side → LeavesFree side l.block → part ≡ with_literal side l → inexact c part ≤ inexact c side
range_fewer c side part l up free e = subst (λ part. inexact c part ≤ inexact c side) (sym e)
    (inexact_le c side (with_literal side l) (λ x d exacts. exact_of_literal (with_literal side l) (exact x d) (with_rises side l (rises_from side up)) refl
    (All-contains (Contains (with_literal side l)) side (exact x d) (contains_with side l free) (exact_has side x d exacts))))

-- a side with part of a node's range is an open box
pub part_open : (c : Choices) (job : Job) (side part : List Literal) (l : Literal) → IsNode c job side l.block l.lo l.hi → l.lo + 1 < l.hi → (0 < l.lo) ⊎ (l.hi < count c l.block) → part ≡ with_literal side l → IsOpenBox c job part
part_open c job side part l node more cut e = subst (IsOpenBox c job) (sym e) (record {
  part_is = with_box c side l node.side_is (record {
    block = node.block;
    some = omega arith;
    codes = top;
    part = λ whole. absurd (let z = whole.0 in let w = whole.1 in elim cut [ inl a ↦ omega arith | inr a ↦ omega arith ]);
  });
  clear = range_clear c side l node.side_is more node.clear;
  region = λ q feasible held.
      let (inside, at) = held_without side l q node.free held in
      node.region q feasible inside at.0 at.1;
})
  where
    top : l.hi ≤ count c l.block
    top = elim node.range [ inl r ↦ r.1 | inr z ↦ let h = z.1 in omega arith ]

-- a record that shows the side with the range settles each code of the range
pub by_a_part : (c : Choices) (start s : State) (tie : Bool) (side part : List Literal) (needs : ℕ → Bool) (l : Literal) (k : ℕ) (records : List Record) (d : Record) → AreKnown c → LeavesFree side l.block
    → part ≡ with_literal side l → IsShown c start s tie k part → records ≡ s.log → d ≡ get_or records k d → MarksAll needs (result_of c d)
    → l.lo < l.hi → ((code : ℕ) → l.lo ≤ code → code < l.hi → IsHandledBy c start s tie side needs (k ∷ []) l.block code) × AreCited c start s tie (k ∷ [])
by_a_part c start s tie side part needs l k records d known free e shown same is marks some =
    let here : d ≡ shown.record_is = is ∙ ap (λ log. get_or log k d) same ∙ get_or_from_slice_get s.log k shown.record_is d shown.at in
    let named = marks_box c needs (result_of c shown.record_is) known shown.result_is (subst (λ r. MarksAll needs (result_of c r)) here marks) in
    ((λ code low high. (one code low high named).0), (one l.lo (omega arith) some named).1)
  where
    one : (code : ℕ) → l.lo ≤ code → code < l.hi → All (λ l. needs l.block ≡ true) (result_of c shown.record_is)
        → IsHandledBy c start s tie side needs (k ∷ []) l.block code × AreCited c start s tie (k ∷ [])
    one code low high named =
        child_handles c start start s tie side (with_literal side (exact l.block code)) needs l.block code k free refl (grows_self c start)
        (record {
          record_is = shown.record_is;
          at = shown.at;
          result_is = shown.result_is;
          settles = shown.settles;
          clean = shown.clean;
          contains = covers_narrow c (result_of c shown.record_is) side l.block l.lo l.hi code free low high (subst (Covers c (result_of c shown.record_is)) e shown.contains);
        })
        named

-- some of a node's codes
pub node_part : (c : Choices) (job : Job) (side : List Literal) (b lo hi from to : ℕ) → IsNode c job side b lo hi → lo ≤ from → to ≤ hi → from < to → IsNode c job side b from to
node_part c job side b lo hi from to node low high some = record {
  side_is = node.side_is;
  clear = node.clear;
  block = node.block;
  free = node.free;
  range = inl (some, top);
  region = λ q feasible held x y. node.region q feasible held (omega arith) (omega arith);
}
  where
    top : to ≤ count c b
    top = elim node.range [ inl r ↦ let h = r.1 in omega arith | inr z ↦ let h = z.1 in omega arith ]

-- the plan's own code, the codes above it and the codes below it, one after another
pub along_settled : (c : Choices) (s1 s2 s3 s4 : State) (t1 t2 t3 : Bool) (side : List Literal) (n1 n2 n3 : ℕ → Bool) (k1 k2 k3 items : List ℕ) (b lo hi code : ℕ) → s1.bar < 2 ^ 64
    → Grows c s1 s2 → Grows c s2 s3 → Grows c s3 s4 → ((x : ℕ) → n1 x ≡ true → n2 x ≡ true) → ((x : ℕ) → n2 x ≡ true → n3 x ≡ true) → items ≡ (k1 ++ k2) ++ k3
    → IsHandledBy c s1 s2 t1 side n1 k1 b code × AreCited c s1 s2 t1 k1
    → ((x : ℕ) → code + 1 ≤ x → x < hi → IsHandledBy c s2 s3 t2 side n2 k2 b x) × AreCited c s2 s3 t2 k2
    → ((x : ℕ) → lo ≤ x → x < code → IsHandledBy c s3 s4 t3 side n3 k3 b x) × AreCited c s3 s4 t3 k3
    → ((x : ℕ) → lo ≤ x → x < hi → IsHandledBy c s1 s4 ((t1 || t2) || t3) side n3 items b x) × AreCited c s1 s4 ((t1 || t2) || t3) items
along_settled c s1 s2 s3 s4 t1 t2 t3 side n1 n2 n3 k1 k2 k3 items b lo hi code fits g1 g2 g3 grow1 grow2 e (own, cited1) (above, cited2) (below, cited3) =
    let d1 = g1.later.falls in
    let g12 = grows_onto c s1 s2 s3 fits g1 g2 in
    let two = settle_more c s1 s2 s3 t1 t2 side n1 n2 k1 (k1 ++ k2) k2 b (λ x. code ≡ x) (λ x. (code + 1 ≤ x) × (x < hi)) fits g1 g2 refl grow1
    (λ x same. subst (IsHandledBy c s1 s2 t1 side n1 k1 b) same own) (λ x h. above x h.0 h.1) in
    let three = settle_more c s1 s3 s4 (t1 || t2) t3 side n2 n3 (k1 ++ k2) items k3 b (λ x. (code ≡ x) ⊎ ((code + 1 ≤ x) × (x < hi))) (λ x. (lo ≤ x) × (x < code)) fits g12 g3 e grow2 two (λ x h. below x h.0 h.1) in (
      (λ x low high. three x (elim (cases_order x code) [
        | inl same ↦ inl (inl (sym same))
        | inr o ↦ elim o [ inl l ↦ inr (low, l) | inr l ↦ inl (inr (omega arith, high)) ]
      ])),
      cited_once_more c s1 s3 s4 (t1 || t2) t3 (k1 ++ k2) items k3 fits g12 g3 e
          (cited_once_more c s1 s2 s3 t1 t2 k1 (k1 ++ k2) k2 fits g1 g2 refl cited1 cited2) cited3,
    )

-- codes above one, and codes below one, are not all the codes
pub below_all : (c : Choices) (job : Job) (side : List Literal) (b lo hi code : ℕ) → IsNode c job side b lo hi → code < hi → code < count c b
below_all c job side b lo hi code node l = elim node.range [ inl r ↦ let h = r.1 in omega arith | inr z ↦ let h = z.1 in omega arith ]

pub open_inexact : (side part : List Literal) (l : Literal) → IsAscending side → LeavesFree side l.block → l.lo + 1 < l.hi → part ≡ with_literal side l → exact_code part l.block ≡ None
open_inexact side part l up free more e = subst (λ part. exact_code part l.block ≡ None) (sym e) (range_inexact side l up free more)

-- what is not so
pub flipped : (b : Bool) → not b ≡ true → b ≡ false
flipped true e = absurd (false≢true e)
flipped false e = refl

-- the record that jumps shows the node from an earlier start
pub jumped_node : (c : Choices) (start s s' : State) (tie : Bool) (k : ℕ) (side : List Literal) (b lo hi : ℕ) → LeavesFree side b → Grows c start s → IsShown c s s' tie k side → IsShown c start s' tie k (node_box c side b lo hi)
jumped_node c start s s' tie k side b lo hi free g shown =
    shown_inside c start s' tie k side (node_box c side b lo hi) (side_inside c side b lo hi free) (record {
      record_is = shown.record_is;
      at = shown.at;
      result_is = shown.result_is;
      contains = shown.contains;
      settles = λ right. shown.settles (g.settles right);
      clean = λ right. shown.clean (g.clean right);
    })
