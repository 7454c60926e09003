-- The shapes of a region: a hit in its prefix, a clash, one plan, a range.
use Rattle.std.proofs.Common.{◌≡◌, ℕ, ◌+◌, ◌<◌, ◌≤◌, List, [], ◌∷◌, ◌++◌, length, get_or, take, Option, Some, None, refl, sym, ap, ◌∙◌, subst, inl, inr, arith, Bool, true, false}
use Rattle.std.specs.Prelude.{Result, Ok, Err, IfOk, MatchOption}
use Rattle.std.specs.List.{Contains}
use Rattle.std.proofs.lemmas.Bool.{cases_lt}
use Rattle.std.proofs.lemmas.List.{take_more}
use Rattle.std.proofs.lemmas.List.Elements.{All-contains}
use Rattle.shape_exact.specs.declared.memory.NoMemory.{NoMemory}
use Rattle.plan_rule.specs.declared.literal.Literal.{Literal}
use Rattle.plan_rule.specs.declared.job.Job.{Job}
use Rattle.plan_rule.specs.Choices.{Choices, MeetsSome, blocks, count}
use Rattle.plan_rule.specs.Plans.{code_of, IsFeasible, IsNotBefore}
use Rattle.plan_rule.specs.Boxes.{Holds, HasExact, exact, with_literal}
use Rattle.plan_rule.specs.Paths.{IsInRegion}
use Rattle.plan_rule.specs.Regions.{IsRegionPart}
use Rattle.plan_rule.specs.RegionBoxes.{region_box}
use Rattle.plan_rule.proofs.BehindLaws.{exact_has}
use Rattle.refutation_log.specs.declared.record.Record.{Record}
use Rattle.refutation_log.specs.declared.record.Record.TheVariants.{Branch}
use Rattle.nogood_store.specs.declared.nogood.Nogood.{Nogood}
use Rattle.nogood_store.specs.Hits.{IsHit, PlainStore}
use Rattle.branch_kernel.specs.declared.steps.Shown.{Shown}
use Rattle.branch_core.specs.declared.front.Misfit.{Misfit}
use Rattle.branch_core.specs.Fronts.{IsMisfit}
use Rattle.branch_core.specs.Hits.{HasNoHitFrom, IsFirstHitFrom, GainsOneCiting}
use Rattle.branch_core.specs.Shapes.{IsRegionShown, IsEnded, IsOfRegion, IsSingle}
use Rattle.branch_kernel.specs.Boxes.{Clashes, IsClear, IsFront, node_box, kept}
use Rattle.branch_kernel.specs.Growth.{IsReady, Grows, Runs}
use Rattle.branch_kernel.specs.Known.{AreKnown}
use Rattle.branch_kernel.specs.Marks.{MarksAll}
use Rattle.branch_kernel.specs.Nodes.{IsPlace}
use Rattle.branch_kernel.specs.Shows.{AreCited, IsHandledBy, IsShown}
use Rattle.branch_kernel.specs.States.{State, state}
use Rattle.branch_kernel.specs.Stored.{IsBoxHit, IsStored}
use Rattle.branch_kernel.specs.Written.{IsClosed}
use Rattle.branch_core.proofs.SolveLaws.{front_more, front_free, codes_cover, front_holds, range_holds, region_holds, single_of_region, range_of_region, front_region, part_codes}
use Rattle.branch_kernel.proofs.CoverLaws.{exist-box}
use Rattle.branch_kernel.proofs.DropLaws.{by_clash, by_piece, by_side, marks_box, shown_from}
use Rattle.branch_kernel.proofs.EndLaws.{closed_last, ends_from, ends_onto}
use Rattle.branch_kernel.proofs.GrowthLaws.{hit_answers, handled_cite, cited_one}
use Rattle.branch_kernel.proofs.NodeLaws.{node_is_box, runs_self, cited_empty, leaf_beats, base_handles}
use Rattle.branch_kernel.proofs.WithLaws.{with_clear, rises_from, exact_of_literal, exact_feasible}

-- no hit here, and what comes after
pub hit_more : (store store' : List Nogood) (codes prefix : List ℕ) (place d : ℕ) (o : Option (ℕ × ℕ)) → place < length codes → prefix ≡ take place codes → store' ≡ store
    → IsHit store (prefix ++ get_or codes place d ∷ []) None
    → MatchOption o (HasNoHitFrom store' codes (place + 1)) (λ h. (place + 1 ≤ h.0) × IsFirstHitFrom store' codes (place + 1) h.0 h.1)
    → MatchOption o (HasNoHitFrom store codes place) (λ h. (place ≤ h.0) × IsFirstHitFrom store codes place h.0 h.1)
hit_more store store' codes prefix place d o within e same none rest = go o (subst (λ store. MatchOption o (HasNoHitFrom store codes (place + 1)) (λ h. (place + 1 ≤ h.0) × IsFirstHitFrom store codes (place + 1) h.0 h.1)) same rest)
  where
    here : IsHit store (take (place + 1) codes) None
    here = subst (λ codes. IsHit store codes None) (ap (λ p. p ++ get_or codes place d ∷ []) e ∙ sym (take_more codes place d within)) none

    at : (j : ℕ) → place ≤ j → j < place + 1 → IsHit store (take (j + 1) codes) None
    at j l h = let f : place ≡ j = omega arith in subst (λ j. IsHit store (take (j + 1) codes) None) f here

    go : (o : Option (ℕ × ℕ)) → MatchOption o (HasNoHitFrom store codes (place + 1)) (λ h. (place + 1 ≤ h.0) × IsFirstHitFrom store codes (place + 1) h.0 h.1)
        → MatchOption o (HasNoHitFrom store codes place) (λ h. (place ≤ h.0) × IsFirstHitFrom store codes place h.0 h.1)
    go None rest = λ j l m. elim (cases_lt j (place + 1)) [ inl first ↦ at j l first | inr later ↦ rest j later m ]
    go (Some h) (later, is) = (
      omega arith,
      record {
        within = is.within;
        hit = is.hit;
        first = λ j l m. elim (cases_lt j (place + 1)) [ inl first ↦ at j l first | inr after ↦ is.first j after m ];
      },
    )

-- one code more of a prefix without a clash
pub clear_more : (c : Choices) (codes : List ℕ) (n : ℕ) (box next : List Literal) (l : Literal) → AreKnown c → n < blocks c → code_of codes n < count c n → IsFront c codes n box → IsClear c box
    → (Clashes c box n (code_of codes n) → ⊥) → (MeetsSome c n (code_of codes n) → ⊥) → l ≡ exact n (code_of codes n) → next ≡ with_literal box l → IsFront c codes (n + 1) next × IsClear c next
clear_more c codes n box next l known exists below front clear none unmet e f = (
  front_more c codes n box next l exists below front e f,
  subst (IsClear c) (sym (f ∙ ap (with_literal box) e)) (with_clear c box n (code_of codes n) known.mutual_clash (rises_from box front.is.ascending) clear none unmet),
)

-- a range of one code of the prefix is a place beside the codes before
pub single_place : (c : Choices) (codes : List ℕ) (n : ℕ) (side : List Literal) (l : Literal) → n < blocks c → code_of codes n < count c n → IsFront c codes n side → l ≡ exact n (code_of codes n)
    → IsPlace c side l.block l.lo l.hi
single_place c codes n side l exists below front e = subst (λ (l : Literal). IsPlace c side l.block l.lo l.hi) (sym e) (record {
  side_is = front.is;
  block = exists;
  free = front_free c codes n side front;
  range = inl (omega arith, omega arith);
})

-- what is handled at the one code of a range
at_one : (c : Choices) (start s : State) (tie : Bool) (side : List Literal) (needs : ℕ → Bool) (cites : List ℕ) (b code : ℕ) (l : Literal) → l ≡ exact b code
    → IsHandledBy c start s tie side needs cites b code → (x : ℕ) → l.lo ≤ x → x < l.hi → IsHandledBy c start s tie side needs cites l.block x
at_one c start s tie side needs cites b code l e handled =
    subst (λ (l : Literal). (x : ℕ) → l.lo ≤ x → x < l.hi → IsHandledBy c start s tie side needs cites l.block x) (sym e)
    (λ x low high. let same : code ≡ x = omega arith in subst (IsHandledBy c start s tie side needs cites b) same handled)

-- the record of one code of the prefix shows the region
pub single_shown : (c : Choices) (job : Job) (codes : List ℕ) (lo hi n : ℕ) (side : List Literal) (l : Literal) (start : State) (bar : ℕ) (best : Option (List ℕ)) (log new : List Record) (store store' : PlainStore)
    (tie : Bool) (needs : ℕ → Bool) (items : List ℕ) (result : Result Shown NoMemory)
    → IsRegionPart c job codes lo hi → n < length codes → IsFront c codes n side → l ≡ exact n (code_of codes n)
    → IsReady c job start → Runs c job start (state bar best log store)
    → IsHandledBy c start (state bar best log store) tie side needs items n (code_of codes n) × AreCited c start (state bar best log store) tie items
    → IsClosed c tie side l needs items log new store store' result
    → IsEnded c job start (state bar best new store')
    × IfOk result (λ shown. (length new ≡ length log + 1) × IsRegionShown c job codes lo hi start (state bar best new store') shown.tie shown.number)
single_shown c job codes lo hi n side l start bar best log new store store' tie needs items result part less front e ready runs (handled, cited) closed =
    let (exists, below) = part_codes c job codes lo hi part n less in
    let place = single_place c codes n side l exists below front e in
    let (ends, shown) = closed_last c job start bar best log new store store' tie side needs items l l.hi result ready runs place
    (at_one c start (state bar best log store) tie side needs items n (code_of codes n) l e handled) (omega arith) cited closed in
    (record { ends = ends; held = runs.held; inside = runs.inside }, over result place shown)
  where
    over : (result : Result Shown NoMemory) → IsPlace c side l.block l.lo l.hi
        → IfOk result (λ shown. (length new ≡ length log + 1) × (shown.number + 1 ≡ length new) × IsShown c start (state bar best new store') shown.tie shown.number (node_box c side l.block l.lo l.hi))
        → IfOk result (λ shown. (length new ≡ length log + 1) × IsRegionShown c job codes lo hi start (state bar best new store') shown.tie shown.number)
    over (Err x) place h = tt
    over (Ok shown) place (one, last, is) = (
      one,
      record {
        box = node_box c side l.block l.lo l.hi;
        box_is = node_is_box c side l.block l.lo l.hi place;
        last = last;
        shown = is;
        holds = subst (λ (l : Literal). (q : List ℕ) → IsFeasible c q → IsInRegion c job q → Holds (node_box c side l.block l.lo l.hi) q) (sym e) (front_holds c job codes lo hi n side part less front);
        of = subst (λ (l : Literal). IsOfRegion c (region_box c codes lo hi) (node_box c side l.block l.lo l.hi)) (sym e) (single_of_region c codes lo hi n side less front);
      },
    )

-- a hit settles the code at which it comes
pub hit_settles : (c : Choices) (job : Job) (s : State) (codes : List ℕ) (n tag : ℕ) (side : List Literal) (needs : ℕ → Bool) → AreKnown c → IsStored c s.log s.store → n < blocks c → code_of codes n < count c n
    → IsFront c codes n side → MarksAll needs side → IsHit s.store (take (n + 1) codes) (Some tag)
    → IsHandledBy c s s false side needs (tag ∷ []) n (code_of codes n) × AreCited c s s false (tag ∷ [])
hit_settles c job s codes n tag side needs known stored exists below front marks ((k, e, within, at, (meets, same)), least) =
    let next = with_literal side (exact n (code_of codes n)) in
    let front' = front_more c codes n side next (exact n (code_of codes n)) exists below front refl refl in
    let hit : IsBoxHit c s.store next tag = (k, e, within, at, (same, codes_cover c codes e.part (n + 1) next front' meets)) in
    let answer = hit_answers c s false next tag stored hit in (
      by_side c s s false side needs (tag ∷ []) n (code_of codes n) (marks_box c needs side known front.is marks)
          (handled_cite c s s false side (tag ∷ []) n (code_of codes n) tag (0, omega arith, refl) answer),
      cited_one c s s false tag next answer,
    )

-- the record of the range shows the region
pub range_shown : (c : Choices) (job : Job) (codes : List ℕ) (lo hi : ℕ) (side : List Literal) (l : Literal) (start s : State) (tie : Bool) (number : ℕ)
    → IsRegionPart c job codes lo hi → 0 < hi → IsFront c codes (length codes) side → l ≡ record { block = length codes; lo = lo; hi = hi } → number + 1 ≡ length s.log
    → IsShown c start s tie number (node_box c side l.block l.lo l.hi) → IsRegionShown c job codes lo hi start s tie number
range_shown c job codes lo hi side l start s tie number part some front e last shown =
    subst (λ (l : Literal). IsShown c start s tie number (node_box c side l.block l.lo l.hi) → IsRegionShown c job codes lo hi start s tie number) (sym e) go shown
  where
    go : IsShown c start s tie number (node_box c side (length codes) lo hi) → IsRegionShown c job codes lo hi start s tie number
    go shown = elim part.range [
      | inl range ↦ (let next = range.0 in let two = range.1 in let top = range.2 in record {
        box = node_box c side (length codes) lo hi;
        box_is = node_is_box c side (length codes) lo hi (record { side_is = front.is; block = next; free = front_free c codes (length codes) side front; range = inl (omega arith, omega arith) });
        last = last;
        shown = shown;
        holds = range_holds c job codes lo hi side part next front;
        of = range_of_region c codes lo hi side (omega arith) front;
      })
      | inr whole ↦ let z = whole.2 in absurd (omega arith)
    ]

-- a record that shows the box of the prefix shows the region
pub front_shown : (c : Choices) (job : Job) (codes : List ℕ) (lo hi : ℕ) (side : List Literal) (start s : State) (tie : Bool) (number : ℕ)
    → IsRegionPart c job codes lo hi → IsFront c codes (length codes) side → number + 1 ≡ length s.log → IsShown c start s tie number side → IsRegionShown c job codes lo hi start s tie number
front_shown c job codes lo hi side start s tie number part front last shown = record {
  box = side;
  box_is = front.is;
  last = last;
  shown = shown;
  holds = region_holds c job codes lo hi (length codes) side part (omega arith) front;
  of = front_region c codes lo hi (length codes) side (omega arith) front;
}

pub ended_from : (c : Choices) (job : Job) (s s' : State) → Runs c job s s' → IsEnded c job s s'
ended_from c job s s' runs = record { ends = ends_from c s s' runs.grows; held = runs.held; inside = runs.inside }

-- the search of a region whose prefix meets a stored box
pub hit_single : (c : Choices) (job : Job) (codes : List ℕ) (lo hi place tag : ℕ) (side : List Literal) (l : Literal) (bar : ℕ) (best : Option (List ℕ)) (log new : List Record) (store store' : PlainStore)
    (needs : ℕ → Bool) (none items : List ℕ) (result : Result Shown NoMemory)
    → IsRegionPart c job codes lo hi → IsReady c job (state bar best log store) → IsFirstHitFrom store.nogoods codes 0 place tag → IsFront c codes place side → MarksAll needs side
    → l ≡ exact place (code_of codes place) → none ≡ [] → items ≡ none ++ tag ∷ [] → IsClosed c false side l needs items log new store store' result
    → IsSingle c job codes lo hi (state bar best log store) (state bar best new store') result
hit_single c job codes lo hi place tag side l bar best log new store store' needs none items result part ready hit front marks e f g closed =
    let s = state bar best log store in
    let (exists, below) = part_codes c job codes lo hi part place hit.within in
    let cites : items ≡ tag ∷ [] = g ∙ ap (λ none. none ++ tag ∷ []) f in
    let (handled, cited) = hit_settles c job s codes place tag side needs ready.known ready.stored exists below front marks hit.hit in
    single_shown c job codes lo hi place side l s bar best log new store store' false needs items result part hit.within front e ready (runs_self c job s ready)
    (subst (λ items. IsHandledBy c s s false side needs items place (code_of codes place)) (sym cites) handled, subst (AreCited c s s false) (sym cites) cited) closed

-- the code of a misfit is handled without a citation
misfit_handled : (c : Choices) (s : State) (codes : List ℕ) (misfit : Misfit) (needs : ℕ → Bool) (items : List ℕ) → AreKnown c → IsMisfit c codes misfit
    → misfit.place < blocks c → ((a : ℕ) → misfit.other ≡ Some a → a < 32 → needs a ≡ true)
    → IsHandledBy c s s false misfit.side needs items misfit.place (code_of codes misfit.place)
misfit_handled c s codes misfit needs items known is exists marked = go misfit.other refl is.reason
  where
    go : (other : Option ℕ) → misfit.other ≡ other
        → MatchOption other (MeetsSome c misfit.place (code_of codes misfit.place))
        (λ a. (d : ℕ) × HasExact misfit.side a d × c.Clash a d misfit.place (code_of codes misfit.place))
        → IsHandledBy c s s false misfit.side needs items misfit.place (code_of codes misfit.place)
    go None e met = by_piece c s s false misfit.side needs items misfit.place (code_of codes misfit.place) exists met
    go (Some a) e (d, exacts, clash) =
        let below : a < blocks c = All-contains (λ l. l.block < blocks c) misfit.side (exact a d) (exist-box c misfit.side is.front.is) (exact_has misfit.side a d exacts) in
        by_clash c s s false misfit.side needs items misfit.place (code_of codes misfit.place) a d is.front.is (front_free c codes misfit.place misfit.side is.front) exists
        (marked a e (let w = known.few in omega arith)) exacts clash

-- the search of a region whose prefix has a misfit
pub misfit_single : (c : Choices) (job : Job) (codes : List ℕ) (lo hi : ℕ) (misfit : Misfit) (l : Literal) (bar : ℕ) (best : Option (List ℕ)) (log new : List Record) (store store' : PlainStore)
    (needs : ℕ → Bool) (items : List ℕ) (result : Result Shown NoMemory)
    → IsRegionPart c job codes lo hi → IsReady c job (state bar best log store) → IsMisfit c codes misfit → ((a : ℕ) → misfit.other ≡ Some a → a < 32 → needs a ≡ true)
    → l ≡ exact misfit.place (code_of codes misfit.place) → items ≡ [] → IsClosed c false misfit.side l needs items log new store store' result
    → IsSingle c job codes lo hi (state bar best log store) (state bar best new store') result
misfit_single c job codes lo hi misfit l bar best log new store store' needs items result part ready is marked e f closed =
    let s = state bar best log store in
    let (exists, below) = part_codes c job codes lo hi part misfit.place is.within in
    single_shown c job codes lo hi misfit.place misfit.side l s bar best log new store store' false needs items result part is.within is.front e ready (runs_self c job s ready)
    (misfit_handled c s codes misfit needs items ready.known is exists marked, cited_empty c s s false items f) closed

-- a front fixes its blocks
pub front_fixes : (c : Choices) (codes : List ℕ) (n : ℕ) (box : List Literal) → IsFront c codes n box → (b : ℕ) → b < n → HasExact box b (code_of codes b)
front_fixes c codes n box front b l = exact_of_literal box (exact b (code_of codes b)) (rises_from box front.is.ascending) refl (front.has b l)

-- a region of one plan has a code for each block
pub part_whole : (c : Choices) (job : Job) (codes : List ℕ) (lo hi : ℕ) → IsRegionPart c job codes lo hi → hi ≡ 0 → length codes ≡ blocks c
part_whole c job codes lo hi part none = elim part.range [ inl some ↦ let x = some.1 in absurd (omega arith) | inr whole ↦ whole.0 ]

-- that plan is feasible, where no two of its codes clash, and it lies in the region
pub one_plan : (c : Choices) (job : Job) (codes : List ℕ) (lo hi : ℕ) (side : List Literal) → IsRegionPart c job codes lo hi → hi ≡ 0 → IsFront c codes (length codes) side → IsClear c side
    → IsFeasible c codes × IsInRegion c job codes
one_plan c job codes lo hi side part none front clear =
    let size = part_whole c job codes lo hi part none in
    let feasible = exact_feasible c side codes front.is clear (λ b l. front_fixes c codes (length codes) side front b (omega arith)) size in
    (feasible, (part.plans codes feasible.is_plan).1 ((λ b l. refl), λ next. absurd (omega arith)))

-- the search of a region of one plan
pub plan_single : (c : Choices) (job : Job) (codes : List ℕ) (lo hi n : ℕ) (side rest : List Literal) (l : Literal) (start : State) (bar : ℕ) (best : Option (List ℕ)) (log new : List Record) (store store' : PlainStore)
    (needs : ℕ → Bool) (items : List ℕ) (result : Result Shown NoMemory)
    → IsRegionPart c job codes lo hi → hi ≡ 0 → IsReady c job start → start.log ≡ log → Runs c job start (state bar best log store) → n + 1 ≡ length codes → IsFront c codes (length codes) side → IsClear c side
    → IsFront c codes n rest → MarksAll needs rest → IsNotBefore c codes best → l ≡ exact n (code_of codes n) → items ≡ [] → IsClosed c true rest l needs items log new store store' result
    → IsSingle c job codes lo hi start (state bar best new store') result
plan_single c job codes lo hi n side rest l start bar best log new store store' needs items result part none ready same runs last front clear rest_is marks not e f closed =
    let s = state bar best log store in
    let size = part_whole c job codes lo hi part none in
    let (exists, below) = part_codes c job codes lo hi part n (omega arith) in
    let (feasible, inside) = one_plan c job codes lo hi side part none front clear in
    let child = with_literal rest (exact n (code_of codes n)) in
    let child_is = front_more c codes n rest child (exact n (code_of codes n)) exists below rest_is refl refl in
    let (r, base, beats) = leaf_beats c bar child best codes ready.known runs.held feasible (λ b h. front_fixes c codes (n + 1) child child_is b (omega arith)) not in
    let (handled, cited) = base_handles c start s true rest child n (code_of codes n) r refl base beats in
    let (ended, shown) = single_shown c job codes lo hi n rest l start bar best log new store store' true needs items result part (omega arith) rest_is e ready runs (
      subst (λ items. IsHandledBy c start s true rest needs items n (code_of codes n)) (sym f)
          (by_side c start s true rest needs [] n (code_of codes n) (marks_box c needs rest ready.known rest_is.is marks) handled),
      cited_empty c start s true items f,
    ) closed in
    (ended, subst (λ log. IfOk result (λ shown. (length new ≡ length log + 1) × IsRegionShown c job codes lo hi start (state bar best new store') shown.tie shown.number)) (sym same) shown)

-- the record of a hit cites its tag
pub hit_cites : (c : Choices) (side : List Literal) (l : Literal) (tag : ℕ) (log new : List Record) (store store' : PlainStore) (needs : ℕ → Bool) (none items : List ℕ) (result : Result Shown NoMemory)
    → none ≡ [] → items ≡ none ++ tag ∷ [] → IsClosed c false side l needs items log new store store' result → IfOk result (λ _. GainsOneCiting log new tag)
hit_cites c side l tag log new store store' needs none items (Err e) f g closed = tt
hit_cites c side l tag log new store store' needs none items (Ok shown) f g (tie, (list, at, grown, same), kept_is, prefix) =
    let cites : items ≡ tag ∷ [] = g ∙ ap (λ none. none ++ tag ∷ []) f in
    (Branch l.block l.lo l.hi (kept needs side) list, grown, (same tag).1 (subst (λ items. Contains items tag) (sym cites) (0, omega arith, refl)))

-- what shows a region from a later start shows it from an earlier one
pub region_from : (c : Choices) (job : Job) (codes : List ℕ) (lo hi : ℕ) (s1 s2 s3 : State) (tie : Bool) (number : ℕ) → Grows c s1 s2
    → IsRegionShown c job codes lo hi s2 s3 tie number → IsRegionShown c job codes lo hi s1 s3 tie number
region_from c job codes lo hi s1 s2 s3 tie number g is = record {
  box = is.box;
  box_is = is.box_is;
  last = is.last;
  shown = shown_from c s1 s2 s3 tie number is.box g is.shown;
  holds = is.holds;
  of = is.of;
}

pub ended_onto : (c : Choices) (job : Job) (s1 s2 s3 : State) → IsReady c job s1 → Runs c job s1 s2 → IsEnded c job s2 s3 → IsEnded c job s1 s3
ended_onto c job s1 s2 s3 ready runs ended = record { ends = ends_onto c s1 s2 s3 ready.fits runs.grows ended.ends; held = ended.held; inside = ended.inside }

-- the record of a range shows the region from an earlier start
pub divided : (c : Choices) (job : Job) (codes : List ℕ) (lo hi : ℕ) (side : List Literal) (s1 s2 s3 : State) (result : Result Shown NoMemory) → IsRegionPart c job codes lo hi → (hi ≡ 0 → ⊥)
    → IsFront c codes (length codes) side → Grows c s1 s2
    → IfOk result (λ shown. (shown.number + 1 ≡ length s3.log) × IsShown c s2 s3 shown.tie shown.number (node_box c side (length codes) lo hi))
    → IfOk result (λ shown. IsRegionShown c job codes lo hi s1 s3 shown.tie shown.number)
divided c job codes lo hi side s1 s2 s3 (Err e) part some front g h = tt
divided c job codes lo hi side s1 s2 s3 (Ok shown) part some front g (last, is) =
    range_shown c job codes lo hi side (record { block = length codes; lo = lo; hi = hi }) s1 s3 shown.tie shown.number part
    (elim (cases_lt 0 hi) [ inl l ↦ l | inr z ↦ absurd (some (omega arith)) ]) front refl last
    (shown_from c s1 s2 s3 shown.tie shown.number (node_box c side (length codes) lo hi) g is)

-- the next block exists, where the region has a range
pub part_next : (c : Choices) (job : Job) (codes : List ℕ) (lo hi : ℕ) → IsRegionPart c job codes lo hi → (hi ≡ 0 → ⊥) → length codes < blocks c
part_next c job codes lo hi part some = elim part.range [ inl range ↦ range.0 | inr whole ↦ absurd (some whole.2) ]

-- what a single search shows from an earlier start
pub single_from : (c : Choices) (job : Job) (codes : List ℕ) (lo hi : ℕ) (s1 s2 s3 : State) (result : Result Shown NoMemory) → Grows c s1 s2
    → IfOk result (λ shown. (length s3.log ≡ length s2.log + 1) × IsRegionShown c job codes lo hi s2 s3 shown.tie shown.number)
    → IfOk result (λ shown. IsRegionShown c job codes lo hi s1 s3 shown.tie shown.number)
single_from c job codes lo hi s1 s2 s3 (Err e) g is = tt
single_from c job codes lo hi s1 s2 s3 (Ok shown) g (one, is) = region_from c job codes lo hi s1 s2 s3 shown.tie shown.number g is
