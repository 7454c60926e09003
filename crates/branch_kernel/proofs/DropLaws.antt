-- Literals that a record does not need may be left out of its side.
use Rattle.std.proofs.Common.{◌≡◌, ◌≢◌, ℕ, zero, suc, ◌+◌, ◌/◌, ◌^◌, ◌<◌, ◌≤◌, List, [], ◌∷◌, length, Option, Some, None, ◌⊎◌, refl, sym, ap, ◌∙◌, subst, inl, inr, arith, Bool, true, false}
use Rattle.std.specs.List.{All, Contains}
use Rattle.std.specs.Prelude.{Ok, slice_get, ◌&&◌, ◌==◌, if◌then◌else◌}
use Rattle.std.proofs.lemmas.Bool.{cases_lt, cond-true}
use Rattle.std.proofs.lemmas.List.Elements.{All-filter, All-contains, All-contains_itself, All-weaker, All-head, All-tail}
use Rattle.std.proofs.lemmas.Option.{none-some, same_Some}
use Rattle.common_lists.proofs.ListLaws.{contains_filter}
use Rattle.plan_rule.specs.declared.literal.Literal.{Literal}
use Rattle.plan_rule.specs.Choices.{Choices, MeetsSome, blocks, count}
use Rattle.plan_rule.specs.Boxes.{IsBox, IsLiteral, IsWhole, LeavesFree, HasExact, exact_code, Covers, exact, with_literal}
use Rattle.plan_rule.specs.Bounds.{IsLeastOf, IsSumOfLeast, IsBound, MayTake, MayFit, IsBase, IsFit, IsAtMost, Refutes}
use Rattle.plan_rule.specs.Plans.{total}
use Rattle.plan_rule.proofs.BoxLaws.{held_covered}
use Rattle.plan_rule.proofs.WithLaws.{with_self}
use Rattle.plan_rule.proofs.BehindLaws.{exact_has}
use Rattle.refutation_log.specs.declared.record.Record.{Record}
use Rattle.refutation_log.specs.declared.record.Record.TheVariants.{Branch}
use Rattle.refutation_log.specs.Steps.{result_of}
use Rattle.nogood_store.specs.declared.nogood.Nogood.{Nogood}
use Rattle.branch_kernel.specs.Rivals.{IsRival, Beats}
use Rattle.branch_kernel.specs.States.{State}
use Rattle.branch_kernel.specs.Known.{AreKnown}
use Rattle.branch_kernel.specs.Boxes.{kept, IsClear, node_box}
use Rattle.branch_kernel.specs.Marks.{MarksAll}
use Rattle.branch_kernel.specs.Nodes.{IsPlace}
use Rattle.branch_kernel.specs.Stored.{IsKept, IsStored}
use Rattle.branch_kernel.specs.Unbeaten.{IsAskedSide}
use Rattle.branch_kernel.specs.Shows.{IsHandledBy, IsShown, IsHandled, IsAnswered, AreCited}
use Rattle.branch_kernel.specs.Growth.{Grows}
use Rattle.branch_kernel.specs.Written.{IsBranchWritten}
use Rattle.branch_kernel.proofs.GrowthLaws.{handled_clash, handled_piece, handled_cite, hit_answers, answered_from, cited_one}
use Rattle.branch_kernel.proofs.WithLaws.{Rises, rises_from, rises_to, rises_filter, exact_of_literal, with_contains, contains_with, with_all, at_place}
use Rattle.branch_kernel.proofs.CoverLaws.{exist-box, covers_by}
use Rattle.branch_kernel.proofs.NodeLaws.{divide_done, kept_done, node_is_box, shown_of}

pub kept_box : (c : Choices) (keep : ℕ → Bool) (side : List Literal) → IsBox c side → IsBox c (kept keep side)
kept_box c keep side h = record {
  ascending = rises_to (kept keep side) (rises_filter (λ l. keep l.block) side (rises_from side h.ascending));
  each = All-filter (λ l. keep l.block) (IsLiteral c) side h.each;
}

pub kept_free : (keep : ℕ → Bool) (side : List Literal) (b : ℕ) → LeavesFree side b → LeavesFree (kept keep side) b
kept_free keep side b h = All-filter (λ l. keep l.block) (λ l. l.block ≢ b) side h

pub kept_inside : (keep : ℕ → Bool) (side : List Literal) → All (Contains side) (kept keep side)
kept_inside keep side = All-filter (λ l. keep l.block) (Contains side) side (All-contains_itself side)

-- what is exact in a side is exact in what is kept of it
pub kept_has_exact : (keep : ℕ → Bool) (side : List Literal) (a d : ℕ) → Rises side → keep a ≡ true → HasExact side a d → HasExact (kept keep side) a d
kept_has_exact keep side a d r k exacts =
    exact_of_literal (kept keep side) (exact a d) (rises_filter (λ l. keep l.block) side r) refl
    (contains_filter (λ l. keep l.block) side (exact a d) k (exact_has side a d exacts))

pub side_has_exact : (keep : ℕ → Bool) (side : List Literal) (a d : ℕ) → Rises side → HasExact (kept keep side) a d → HasExact side a d
side_has_exact keep side a d r exacts =
    exact_of_literal side (exact a d) r refl (All-contains (Contains side) (kept keep side) (exact a d) (kept_inside keep side) (exact_has (kept keep side) a d exacts))

-- what is kept of a side without a clash has none
pub kept_clear : (c : Choices) (keep : ℕ → Bool) (side : List Literal) → Rises side → IsClear c side → IsClear c (kept keep side)
kept_clear c keep side r clear = record {
  apart = λ a b d e fa fb differ clash. clear.apart a b d e (side_has_exact keep side a d r fa) (side_has_exact keep side b e r fb) differ clash;
  unmet = λ a d fa met. clear.unmet a d (side_has_exact keep side a d r fa) met;
}

-- a result that contains the side with a code contains it without the literals of blocks that the result does not name
pub kept_covers : (c : Choices) (keep : ℕ → Bool) (outer side : List Literal) (b code : ℕ) → All (λ l. IsWhole c l ⊎ ((l.block ≡ b) ⊎ (keep l.block ≡ true))) outer
    → LeavesFree side b → Covers c outer (with_literal side (exact b code)) → Covers c outer (with_literal (kept keep side) (exact b code))
kept_covers c keep outer side b code needs free cover k d l = elim (cover k d l) [
  | inl whole ↦ inl whole
  | inr some ↦ elim (needs k d l) [
    | inl whole ↦ inl whole
    | inr named ↦
        let (j, m, within, is, (at, lo, hi)) = some in
        elim (with_contains side (exact b code) m (j, within, is)) [
          | inl same ↦
              let (i, w, e) = with_self (kept keep side) (exact b code) in
              inr (i, exact b code, w, e, (ap (λ (l : Literal). l.block) (sym same) ∙ at, (let f = ap (λ (l : Literal). l.lo) same in omega arith), (let f = ap (λ (l : Literal). l.hi) same in omega arith)))
          | inr inside ↦ elim named [
            | inl here ↦ absurd (All-contains (λ l. l.block ≢ b) side m free inside (at ∙ here))
            | inr needed ↦
                let stays : Contains (kept keep side) m = contains_filter (λ l. keep l.block) side m (ap keep at ∙ needed) inside in
                let (i, w, e) = All-contains (Contains (with_literal (kept keep side) (exact b code))) (kept keep side) m
                (contains_with (kept keep side) (exact b code) (kept_free keep side b free)) stays in
                inr (i, m, w, e, (at, lo, hi))
          ]
        ]
  ]
]

-- the sum of leasts falls where more may be taken
pub sum_falls : (May More : ℕ → ℕ → Type 0) (cost : ℕ → ℕ → ℕ) (n k j : ℕ) → ((b x : ℕ) → b < n → May b x → More b x) → IsSumOfLeast May cost n k → IsSumOfLeast More cost n j → j ≤ k
sum_falls May More cost zero k j more h i = omega arith
sum_falls May More cost (suc n) k j more (s, m, hs, ((x, may, e), least), f) (t, l, ht, (some, lowest), g) =
    let a = sum_falls May More cost n s t (λ b x l. more b x (omega arith)) hs ht in
    let b = lowest x (more n x (omega arith) may) in omega arith

pub sum_some : (May : ℕ → ℕ → Type 0) (cost : ℕ → ℕ → ℕ) (n k b : ℕ) → b < n → IsSumOfLeast May cost n k → (x : ℕ) × May b x
sum_some May cost zero k b l h = absurd (omega arith)
sum_some May cost (suc n) k b l (s, m, hs, ((x, may, e), least), f) = elim (cases_lt b n) [
  | inl below ↦ sum_some May cost n s b below hs
  | inr last ↦ let g : n ≡ b = omega arith in (x, subst (λ n. May n x) g may)
]

-- a bound falls where more may be taken
pub bound_falls : (May More : ℕ → ℕ → Type 0) (cost : ℕ → ℕ → ℕ) (n k : ℕ) (r : Option ℕ) → ((b x : ℕ) → b < n → May b x → More b x) → IsBound May cost n (Some k) → IsBound More cost n r
    → IsAtMost r k
bound_falls May More cost n k None more h (b, l, none) = let (x, may) = sum_some May cost n k b l h in none x (more b x l may)
bound_falls May More cost n k (Some j) more h i = sum_falls May More cost n k j more h i

-- a code that fits beside the side fits beside what is kept of it
kept_may_fit : (c : Choices) (keep : ℕ → Bool) (side : List Literal) (b x : ℕ) → Rises side → IsClear c side → MayFit c side b x → MayFit c (kept keep side) b x
kept_may_fit c keep side b x r clear ((below, at), fits, unmet) = (
  (below, λ d exacts. at d (side_has_exact keep side b d r exacts)),
  λ free a d exacts clash.
      let other : a ≢ b = λ e. none-some d (sym free ∙ subst (λ a. HasExact (kept keep side) a d) e exacts) in
      go (exact_code side b) refl a d (side_has_exact keep side a d r exacts) other clash,
  λ free met. meets (exact_code side b) refl met,
)
  where
    go : (o : Option ℕ) → exact_code side b ≡ o → (a d : ℕ) → HasExact side a d → a ≢ b → c.Clash a d b x → ⊥
    go None e a d exacts other clash = fits e a d exacts clash
    go (Some y) e a d exacts other clash = clear.apart a b d y exacts e other (subst (λ x. c.Clash a d b x) (at y e) clash)

    meets : (o : Option ℕ) → exact_code side b ≡ o → MeetsSome c b x → ⊥
    meets None e met = unmet e met
    meets (Some y) e met = clear.unmet b y e (subst (MeetsSome c b) (at y e) met)

-- so the fit never rises where literals are left out, once and again
pub kept_fit : (c : Choices) (keep more : ℕ → Bool) (side : List Literal) (k : ℕ) (r : Option ℕ) → Rises side → IsClear c side → IsFit c side (Some k)
    → IsFit c (kept keep (kept more side)) r → IsAtMost r k
kept_fit c keep more side k r rises clear fit fit' =
    bound_falls (MayFit c side) (MayFit c (kept keep (kept more side))) c.cost (blocks c) k r
    (λ b x l may. kept_may_fit c keep (kept more side) b x (rises_filter (λ l. more l.block) side rises) (kept_clear c more side rises clear)
    (kept_may_fit c more side b x rises clear may)) fit fit'

-- of finitely many codes there is a least cost, or there are none
least_below : (value : ℕ → ℕ) (n : ℕ) → (r : Option ℕ) × IsLeastOf (λ x. x < n) value r
least_below value zero = (None, λ x l. absurd (omega arith))
least_below value (suc n) = let (r, h) = least_below value n in more r h
  where
    more : (r : Option ℕ) → IsLeastOf (λ x. x < n) value r → (r : Option ℕ) × IsLeastOf (λ x. x < suc n) value r
    more None none = (
      Some (value n),
      (
        (n, omega arith, refl),
        λ x l. elim (cases_lt x n) [
          | inl below ↦ absurd (none x below)
          | inr last ↦ let e : value x ≡ value n = ap value (omega arith) in omega arith
        ],
      ),
    )
    more (Some m) ((y, l, e), least) = elim (cases_lt (value n) m) [
      | inl less ↦ (
        Some (value n),
        (
          (n, omega arith, refl),
          λ x l. elim (cases_lt x n) [
            | inl below ↦ let h = least x below in omega arith
            | inr last ↦ let e : value x ≡ value n = ap value (omega arith) in omega arith
          ],
        ),
      )
      | inr higher ↦ (
        Some m,
        (
          (y, omega arith, e),
          λ x l. elim (cases_lt x n) [
            | inl below ↦ least x below
            | inr last ↦ let e : value x ≡ value n = ap value (omega arith) in omega arith
          ],
        ),
      )
    ]

may_least : (c : Choices) (box : List Literal) (b : ℕ) → (r : Option ℕ) × IsLeastOf (MayTake c box b) (c.cost b) r
may_least c box b = go (exact_code box b) refl
  where
    go : (o : Option ℕ) → exact_code box b ≡ o → (r : Option ℕ) × IsLeastOf (MayTake c box b) (c.cost b) r
    go None e = let (r, h) = least_below (c.cost b) (count c b) in free r h
      where
        free : (r : Option ℕ) → IsLeastOf (λ x. x < count c b) (c.cost b) r → (r : Option ℕ) × IsLeastOf (MayTake c box b) (c.cost b) r
        free None none = (None, λ x may. none x may.0)
        free (Some m) ((y, l, f), least) = (Some m, ((y, (l, λ d exacts. absurd (none-some d (sym e ∙ exacts))), f), λ x may. least x may.0))
    go (Some d) e = elim (cases_lt d (count c b)) [
      | inl l ↦ (Some (c.cost b d), ((d, (l, λ d' exacts. same_Some d d' (sym e ∙ exacts)), refl), λ x may. let f : c.cost b x ≡ c.cost b d = ap (c.cost b) (may.1 d e) in omega arith))
      | inr higher ↦ (None, λ x may. let f = may.1 d e in let l = may.0 in absurd (omega arith))
    ]

bound_exists : (May : ℕ → ℕ → Type 0) (cost : ℕ → ℕ → ℕ) (n : ℕ) → ((b : ℕ) → (r : Option ℕ) × IsLeastOf (May b) (cost b) r) → (r : Option ℕ) × IsBound May cost n r
bound_exists May cost zero least = (Some 0, refl)
bound_exists May cost (suc n) least = let (r, h) = bound_exists May cost n least in let (s, k) = least n in more r h s k
  where
    more : (r : Option ℕ) → IsBound May cost n r → (s : Option ℕ) → IsLeastOf (May n) (cost n) s → (r : Option ℕ) × IsBound May cost (suc n) r
    more None (b, l, none) s k = (None, (b, omega arith, none))
    more (Some r) h None none = (None, (n, omega arith, none))
    more (Some r) h (Some m) k = (Some (r + m), (r, m, h, k, refl))

-- each box has a base
pub base_exists : (c : Choices) (box : List Literal) → (r : Option ℕ) × IsBase c box r
base_exists c box = bound_exists (MayTake c box) c.cost (blocks c) (may_least c box)

-- the blocks of a box that are marked
pub marks_box : (c : Choices) (needs : ℕ → Bool) (box : List Literal) → AreKnown c → IsBox c box → MarksAll needs box → All (λ l. needs l.block ≡ true) box
marks_box c needs box known is marks k d l = marks k d l (let x = is.each k d l in let b = x.block in let f = known.few in omega arith)

-- a code that meets a piece needs no literal
pub by_piece : (c : Choices) (start s : State) (tie : Bool) (side : List Literal) (needs : ℕ → Bool) (cites : List ℕ) (b code : ℕ) → b < blocks c → MeetsSome c b code
    → IsHandledBy c start s tie side needs cites b code
by_piece c start s tie side needs cites b code exists met keep some = handled_piece c start s tie (kept keep side) cites b code exists met

-- a clash needs the block with which the code clashes
pub by_clash : (c : Choices) (start s : State) (tie : Bool) (side : List Literal) (needs : ℕ → Bool) (cites : List ℕ) (b code a d : ℕ) → IsBox c side
    → LeavesFree side b → b < blocks c → needs a ≡ true → HasExact side a d → c.Clash a d b code → IsHandledBy c start s tie side needs cites b code
by_clash c start s tie side needs cites b code a d box free exists need exacts clash keep some =
    handled_clash c start s tie (kept keep side) cites b code a d (kept_box c keep side box) (kept_free keep side b free) exists
    (kept_has_exact keep side a d (rises_from side box.ascending) (some a need) exacts) clash

-- what all keep is the side
kept_all : (keep : ℕ → Bool) (side : List Literal) → All (λ l. keep l.block ≡ true) side → kept keep side ≡ side
kept_all keep [] h = refl
kept_all keep (l ∷ side) h = cond-true (keep l.block) _ _ (All-head (λ l. keep l.block ≡ true) l side h) ∙ ap (λ rest. l ∷ rest) (kept_all keep side (All-tail (λ l. keep l.block ≡ true) l side h))

-- what needs the whole side
pub by_side : (c : Choices) (start s : State) (tie : Bool) (side : List Literal) (needs : ℕ → Bool) (cites : List ℕ) (b code : ℕ) → All (λ l. needs l.block ≡ true) side
    → IsHandled c start s tie side cites b code → IsHandledBy c start s tie side needs cites b code
by_side c start s tie side needs cites b code named h keep some =
    subst (λ side. IsHandled c start s tie side cites b code) (sym (kept_all keep side (All-weaker (λ l. needs l.block ≡ true) (λ l. keep l.block ≡ true) (λ l i. some l.block i) side named))) h

-- what a box needs stays, where the blocks that it names are kept
needed : (c : Choices) (needs keep : ℕ → Bool) (outer : List Literal) (b : ℕ) → ((x : ℕ) → needs x ≡ true → keep x ≡ true) → All (λ l. needs l.block ≡ true) outer
    → All (λ l. IsWhole c l ⊎ ((l.block ≡ b) ⊎ (keep l.block ≡ true))) outer
needed c needs keep outer b some named =
    All-weaker (λ l. needs l.block ≡ true) (λ l. IsWhole c l ⊎ ((l.block ≡ b) ⊎ (keep l.block ≡ true))) (λ l i. inr (inr (some l.block i))) outer named

-- a record whose result settles its plans needs the blocks that the result names
pub by_shown : (c : Choices) (start s : State) (tie : Bool) (side : List Literal) (needs : ℕ → Bool) (b code k : ℕ) → LeavesFree side b
    → (shown : IsShown c start s tie k (with_literal side (exact b code))) → All (λ l. needs l.block ≡ true) (result_of c shown.record_is)
    → IsHandledBy c start s tie side needs (k ∷ []) b code
by_shown c start s tie side needs b code k free shown named keep some =
    let cover = kept_covers c keep (result_of c shown.record_is) side b code (needed c needs keep (result_of c shown.record_is) b some named) free shown.contains in
    handled_cite c start s tie (kept keep side) (k ∷ []) b code k (0, omega arith, refl) (record {
      record_is = shown.record_is;
      at = shown.at;
      contains = cover;
      settles = λ right q feasible held. shown.settles right q feasible
          (held_covered c (result_of c shown.record_is) _ q (exist-box c (result_of c shown.record_is) shown.result_is) feasible.is_plan cover held);
      clean = shown.clean;
    })

-- a stored box that contains the side with the code needs its own blocks
pub by_hit : (c : Choices) (start s : State) (side : List Literal) (needs : ℕ → Bool) (b code : ℕ) (e : Nogood) (i : ℕ) → LeavesFree side b → IsStored c s.log s.store → Grows c start s
    → slice_get s.store i ≡ Some e → Covers c e.part (with_literal side (exact b code)) → All (λ l. needs l.block ≡ true) e.part
    → IsHandledBy c start s false side needs (e.tag ∷ []) b code × AreCited c start s false (e.tag ∷ [])
by_hit c start s side needs b code e i free stored g at cover named =
    let (j, within, is) = at_place s.store i e at in (
      λ keep some. handled_cite c start s false (kept keep side) (e.tag ∷ []) b code e.tag (0, omega arith, refl)
          (answered_from c start s s false e.tag _ g
          (hit_answers c s false (with_literal (kept keep side) (exact b code)) e.tag stored
          (j, e, within, is, (refl, kept_covers c keep e.part side b code (needed c needs keep e.part b some named) free cover)))),
      cited_one c start s false e.tag _ (answered_from c start s s false e.tag _ g
          (hit_answers c s false (with_literal side (exact b code)) e.tag stored (j, e, within, is, (refl, cover)))),
    )

pub answered_of : (c : Choices) (start s : State) (tie : Bool) (k : ℕ) (box : List Literal) → IsShown c start s tie k box → IsAnswered c start s tie k box
answered_of c start s tie k box shown = record {
  record_is = shown.record_is;
  at = shown.at;
  contains = shown.contains;
  settles = λ right q feasible held. shown.settles right q feasible
      (held_covered c (result_of c shown.record_is) box q (exist-box c (result_of c shown.record_is) shown.result_is) feasible.is_plan shown.contains held);
  clean = shown.clean;
}

pub shown_from : (c : Choices) (start start' s : State) (tie : Bool) (k : ℕ) (box : List Literal) → Grows c start start' → IsShown c start' s tie k box → IsShown c start s tie k box
shown_from c start start' s tie k box g h = record {
  record_is = h.record_is;
  at = h.at;
  contains = h.contains;
  result_is = h.result_is;
  settles = λ right. h.settles (g.settles right);
  clean = λ right. h.clean (g.clean right);
}

-- a bound that is not below a bound above the bar beats all
pub beats_over : (c : Choices) (bar j : ℕ) (box : List Literal) (r : Option ℕ) → j < 2 ^ 32 → bar / 2 ^ 32 < j → ((k : ℕ) → r ≡ Some k → j ≤ k) → Beats c bar None box r
beats_over c bar j box r fits above over = go r over
  where
    go : (r : Option ℕ) → ((k : ℕ) → r ≡ Some k → j ≤ k) → Beats c bar None box r
    go None over = record { refutes = λ t rival. tt; settles = λ q feasible held most. absurd most }
    go (Some k) over =
        let l = over k refl in
        record { refutes = refutes k l; settles = λ q feasible held most. inl (omega arith) }
      where
        refutes : (k : ℕ) → j ≤ k → (t : Option (List ℕ)) → IsRival c bar None t → Refutes c t box (Some k)
        refutes k l None rival = absurd (omega arith)
        refutes k l (Some p) rival = let w = rival.1 in let h : total c p < j = omega arith in inl (omega arith)

-- the box without the literals that were left out contains the node's box
pub kept_node_covers : (c : Choices) (keep : ℕ → Bool) (side : List Literal) (b lo hi : ℕ) → LeavesFree side b
    → Covers c (node_box c (kept keep side) b lo hi) (node_box c side b lo hi)
kept_node_covers c keep side b lo hi free = go ((lo == 0) && (hi == count c b))
  where
    l : Literal
    l = record { block = b; lo = lo; hi = hi }

    go : (t : Bool) → Covers c (if t then kept keep side else with_literal (kept keep side) l) (if t then side else with_literal side l)
    go true = covers_by c (kept keep side) side (kept_inside keep side)
    go false = covers_by c (with_literal (kept keep side) l) (with_literal side l)
        (with_all (Contains (with_literal side l)) (kept keep side) l
        (All-weaker (Contains side) (Contains (with_literal side l)) (λ m h. All-contains (Contains (with_literal side l)) side m (contains_with side l free) h) (kept keep side) (kept_inside keep side))
        (with_self side l))

pub kept_place : (c : Choices) (keep : ℕ → Bool) (side : List Literal) (b lo hi : ℕ) → IsPlace c side b lo hi → IsPlace c (kept keep side) b lo hi
kept_place c keep side b lo hi p = record {
  side_is = kept_box c keep side p.side_is;
  block = p.block;
  free = kept_free keep side b p.free;
  range = p.range;
}

-- the record of a range whose codes are all handled, without the literals that no code needs; its box may have been stored
pub divide_shown : (c : Choices) (s : State) (bar : ℕ) (best : Option (List ℕ)) (log new : List Record) (store store' : List Nogood) (tie : Bool) (number : ℕ)
    (side : List Literal) (needs : ℕ → Bool) (items : List ℕ) (range : Literal) (last : ℕ) → s.bar < 2 ^ 64 → IsStored c log store → IsPlace c side range.block range.lo range.hi
    → IsAskedSide c side (s.bar / 2 ^ 32) → Grows c s (record { bar = bar; best = best; log = log; store = store })
    → ((x : ℕ) → range.lo ≤ x → x < last → IsHandledBy c s (record { bar = bar; best = best; log = log; store = store }) tie side needs items range.block x) → range.hi ≤ last
    → AreCited c s (record { bar = bar; best = best; log = log; store = store }) tie items
    → IsBranchWritten (Ok number) log new range (kept needs side) items
    → IsKept tie store store' (record { part = node_box c (kept needs side) range.block range.lo range.hi; tag = number })
    → Grows c s (record { bar = bar; best = best; log = new; store = store' })
    × (number + 1 ≡ length new)
    × IsShown c s (record { bar = bar; best = best; log = new; store = store' }) tie number (node_box c side range.block range.lo range.hi)
divide_shown c s bar best log new store store' tie number side needs items range last fits tagged place asked g handled end cited (cites, at, grown, same) stored =
    let (grows, last_is, answer, fresh) = divide_done c s bar best log new store tie number (kept needs side) cites items range.block range.lo range.hi last fits tagged
    (kept_place c needs side range.block range.lo range.hi place) (asked needs) g (λ x l h. handled x l h needs (λ y t. t)) end cited same (at, grown) in
    let (grows', answer') = kept_done c s bar best new store store' tie number (node_box c (kept needs side) range.block range.lo range.hi) grows answer fresh stored in (
      grows',
      last_is,
      shown_of c s (record { bar = bar; best = best; log = new; store = store' }) tie number (node_box c (kept needs side) range.block range.lo range.hi)
          (node_box c side range.block range.lo range.hi) fresh.record_is fresh.at fresh.result fresh.part_is answer'
          (kept_node_covers c needs side range.block range.lo range.hi place.free),
    )

-- by the record of the side with the code
pub child_handles : (c : Choices) (start start' s : State) (tie : Bool) (side child : List Literal) (needs : ℕ → Bool) (b code k : ℕ) → LeavesFree side b
    → child ≡ with_literal side (exact b code) → Grows c start start' → (shown : IsShown c start' s tie k child) → All (λ l. needs l.block ≡ true) (result_of c shown.record_is)
    → IsHandledBy c start s tie side needs (k ∷ []) b code × AreCited c start s tie (k ∷ [])
child_handles c start start' s tie side child needs b code k free e g shown named =
    let here : IsShown c start s tie k (with_literal side (exact b code)) = record {
      record_is = shown.record_is;
      at = shown.at;
      contains = subst (Covers c (result_of c shown.record_is)) e shown.contains;
      result_is = shown.result_is;
      settles = λ right. shown.settles (g.settles right);
      clean = λ right. shown.clean (g.clean right);
    } in (
      by_shown c start s tie side needs b code k free here named,
      cited_one c start s tie k (with_literal side (exact b code)) (answered_of c start s tie k (with_literal side (exact b code)) here),
    )

-- what is kept of a side leaves a place for the range
pub short_place : (c : Choices) (keep : ℕ → Bool) (side short : List Literal) (b lo hi : ℕ) → short ≡ kept keep side → IsPlace c side b lo hi → IsPlace c short b lo hi
short_place c keep side short b lo hi e place = subst (λ short. IsPlace c short b lo hi) (sym e) (kept_place c keep side b lo hi place)

-- the blocks of a node's box are among the first 32
pub place_blocks : (c : Choices) (side : List Literal) (b lo hi : ℕ) → blocks c ≤ 32 → IsPlace c side b lo hi → All (λ l. l.block < 32) (node_box c side b lo hi)
place_blocks c side b lo hi few place =
    All-weaker (λ l. l.block < blocks c) (λ l. l.block < 32) (λ l h. omega arith) (node_box c side b lo hi)
    (exist-box c (node_box c side b lo hi) (node_is_box c side b lo hi place))

-- a branch's result is marked, where its side and its block are
pub marks_branch : (c : Choices) (old new : ℕ → Bool) (b lo hi : ℕ) (side : List Literal) (cites : List ℕ) → MarksAll old side → ((x : ℕ) → old x ≡ true → new x ≡ true)
    → (b < 32 → new b ≡ true) → MarksAll new (result_of c (Branch b lo hi side cites))
marks_branch c old new b lo hi side cites all keeps here = go ((lo == 0) && (hi == count c b))
  where
    sides : MarksAll new side
    sides = All-weaker (λ l. l.block < 32 → old l.block ≡ true) (λ l. l.block < 32 → new l.block ≡ true) (λ l h few. keeps l.block (h few)) side all

    go : (t : Bool) → MarksAll new (if t then side else with_literal side (record { block = b; lo = lo; hi = hi }))
    go true = sides
    go false = with_all (λ l. l.block < 32 → new l.block ≡ true) side (record { block = b; lo = lo; hi = hi }) sides here
