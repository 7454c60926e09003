-- The best of the reports is an answer of each search, and the log of the whole yard ends with the empty box.
use Rattle.std.proofs.Common.{◌≡◌, ◌≢◌, ℕ, zero, suc, ◌+◌, ◌-◌, ◌^◌, ◌<◌, ◌≤◌, List, [], ◌∷◌, ◌++◌, length, get_or, set, true, Option, Some, None, ◌⊎◌, refl, sym, ap, ◌∙◌, subst, inl, inr, arith, length-append}
use Rattle.std.specs.Prelude.{slice_get, slice_index, ◌↔◌, ◌==◌, ◌&&◌, Ok}
use Rattle.std.specs.List.{All, Contains}
use Rattle.std.proofs.lemmas.Bool.{cases_order}
use Rattle.std.proofs.lemmas.List.{length-set, get_or-set_same, get_or-set_other}
use Rattle.std.proofs.lemmas.List.Elements.{All-contains, All-cons, All-nil, All-contains_itself, recursion_from_All}
use Rattle.std.proofs.lemmas.List.Sorted.{IsPermutation-refl}
use Rattle.std.proofs.lemmas.Option.{same_Some, slice_get-get_or, get_or_from_slice_get}
use Rattle.common_lists.proofs.ListLaws.{get_last, if_true}
use Rattle.plan_rule.specs.declared.literal.Literal.{Literal}
use Rattle.plan_rule.specs.declared.job.Job.{Job}
use Rattle.plan_rule.specs.declared.region.Region.{Region}
use Rattle.plan_rule.specs.declared.region.Region.TheVariants.{Empty, Part}
use Rattle.plan_rule.specs.Choices.{Choices, blocks, count}
use Rattle.plan_rule.specs.Plans.{code_of, IsPlan, IsAnswer, IsFeasible, IsBefore, IsBest}
use Rattle.plan_rule.specs.Boxes.{IsBox, IsLiteral, IsWhole, Covers, exact, with_literal}
use Rattle.plan_rule.specs.Laws.{AreSmall}
use Rattle.plan_rule.specs.Paths.{key, IsInRegion, IsChain}
use Rattle.plan_rule.specs.Regions.{IsRegion, IsRegionPart}
use Rattle.plan_rule.specs.RegionBoxes.{region_box}
use Rattle.plan_rule.specs.Reports.{JobReport, AreReports, IsBar, IsReached, IsLeast, IsBestOf}
use Rattle.plan_rule.proofs.BoxLaws.{held_covered}
use Rattle.plan_rule.proofs.OrderLaws.{before_cases}
use Rattle.plan_rule.proofs.PathLaws.{key-before, path-below}
use Rattle.plan_rule.proofs.RegionBoxLaws.{region_box_holds}
use Rattle.plan_rule.proofs.ReportLaws.{merged}
use Rattle.plan_rule.proofs.SearchLaws.{before_self}
use Rattle.plan_rule.proofs.EmptyLaws.{empty_box}
use Rattle.refutation_log.specs.declared.record.Record.{Record}
use Rattle.refutation_log.specs.declared.record.Record.TheVariants.{Branch}
use Rattle.refutation_log.specs.Logs.{AreSteps}
use Rattle.refutation_log.specs.Spelling.{HasText, HaveText}
use Rattle.refutation_log.specs.Steps.{IsStep, IsAccepted, result_of}
use Rattle.refutation_log.proofs.AppendedLaws.{pushed_steps}
use Rattle.branch_kernel.specs.Rivals.{IsRival, IsNotAfter, Settles}
use Rattle.branch_kernel.specs.States.{State}
use Rattle.branch_kernel.specs.Written.{IsBranchWritten}
use Rattle.branch_kernel.proofs.CoverLaws.{exist-box}
use Rattle.branch_core.specs.declared.report.Report.{Report}
use Rattle.branch_core.specs.Answers.{RecordsAreSteps}
use Rattle.branch_core.specs.Closed.{IsClosedOff}
use Rattle.branch_core.specs.Proper.{AreProper}
use Rattle.branch_core.specs.Solved.{IsRefutation, IsSolvable, IsSolved, report_of, root}

-- the best of the reports is within the bar of each report, and not after its best
pub best_is_rival : (c : Choices) (reports : List JobReport) (t : Option (List ℕ)) (r : JobReport) → AreSmall c → AreReports c reports
    → IsBestOf c reports t → Contains reports r → IsRival c r.seen r.best t
best_is_rival c reports t r small are best found = go t best (merged c reports t (record { total_fits = small.total }) are best)
  where
    bar : IsBar c r.seen
    bar = All-contains (λ r. IsBar c r.seen) reports r are.bars found

    not_after : (p : List ℕ) → ((other : JobReport) (m : List ℕ) → Contains reports other → other.best ≡ Some m → IsBefore c m p → ⊥)
        → (o : Option (List ℕ)) → r.best ≡ o → IsNotAfter c o p
    not_after p least None e = tt
    not_after p least (Some m) e = least r m found e

    low : (p : List ℕ) → IsFeasible c p → ((q : List ℕ) → IsFeasible c q → IsBefore c q p → ⊥) → key c p ≤ r.seen
    low p good first = elim bar [
      | inl greatest ↦ let k = small.key p good.is_plan in omega arith
      | inr some ↦
          let (q, feasible, e) = some in
          elim (before_cases c p q good.is_plan feasible.is_plan) [
            | inl same ↦ let k = ap (key c) same in omega arith
            | inr differ ↦ elim differ [
              | inl before ↦ let k = key-before c p q good.is_plan feasible.is_plan before in omega arith
              | inr worse ↦ absurd (first q feasible worse)
            ]
          ]
    ]

    go : (t : Option (List ℕ)) → IsBestOf c reports t → IsBest c t → IsRival c r.seen r.best t
    go None of none = elim bar [ inl greatest ↦ greatest | inr some ↦ (let (p, feasible, e) = some in absurd (none p feasible)) ]
    go (Some p) (from, least) (good, first) = (good.is_plan, low p good first, not_after p least r.best refl)

-- so the new records of each search are steps against it
pub steps_of_best : (c : Choices) → AreSmall c → RecordsAreSteps c
steps_of_best c small reports t are best r old new found bar same ends i low less =
    let rival = best_is_rival c reports t r small are best found in
    ends.good i low less t (subst (λ best. IsRival c new.bar best t) (sym same) (subst (λ bar. IsRival c bar r.best t) (sym bar) rival))

-- some count is zero, or each is above it
zero_or : (counts : List ℕ) → ((b : ℕ) × (b < length counts) × (slice_index counts b ≡ 0)) ⊎ ((b : ℕ) → b < length counts → 0 < slice_index counts b)
zero_or [] = inr (λ b l. absurd (omega arith))
zero_or (zero ∷ xs) = inl (0, omega arith, refl)
zero_or (suc n ∷ xs) = elim (zero_or xs) [
  | inl some ↦ (let (b, l, e) = some in inl (suc b, omega arith, e))
  | inr all ↦ inr (positive all)
]
  where
    positive : ((b : ℕ) → b < length xs → 0 < slice_index xs b) → (b : ℕ) → b < length (suc n ∷ xs) → 0 < slice_index (suc n ∷ xs) b
    positive all zero l = omega arith
    positive all (suc b) l = all b (omega arith)

abbrev zeros : List ℕ → List ℕ
zeros [] = []
zeros (x ∷ xs) = 0 ∷ zeros xs

zeros_length : (xs : List ℕ) → length (zeros xs) ≡ length xs
zeros_length [] = refl
zeros_length (x ∷ xs) = ap suc (zeros_length xs)

zeros_at : (xs : List ℕ) (b : ℕ) → slice_index (zeros xs) b ≡ 0
zeros_at [] b = refl
zeros_at (x ∷ xs) zero = refl
zeros_at (x ∷ xs) (suc b) = zeros_at xs b

-- every plan is one of the job of all path numbers
pub plan_in_root : (c : Choices) (p : List ℕ) → IsPlan c p → IsInRegion c root p
plan_in_root c p plan = (plan, omega arith, (let l = path-below c p in l))

-- a plan of that job exists, or some block has no code
pub root_solvable : (c : Choices) → IsSolvable c root
root_solvable c none = elim (zero_or c.counts) [
  | inl some ↦ some
  | inr all ↦ absurd (none (zeros c.counts) (plan_in_root c (zeros c.counts) (record {
    one_each = zeros_length c.counts;
    in_range = λ b l. (let e = zeros_at c.counts b in let h = all b l in omega arith);
  })))
]

-- a box that contains the box of that job's region has literals that take every code of their blocks
root_whole : (c : Choices) (codes : List ℕ) (lo hi : ℕ) (box : List Literal) → IsRegionPart c root codes lo hi → IsBox c box
    → Covers c box (region_box c codes lo hi) → All (IsWhole c) box
root_whole c codes lo hi box part is cover k d l =
    let (q, inside) = part.some in
    let a = get_or box k d in
    let lit : IsLiteral c a = is.each k d l in
    let exists = lit.block in
    let some = lit.some in
    let top = lit.codes in
    let first = at q inside.0 a.block 0 exists (omega arith) k d l refl in
    let last = at q inside.0 a.block (count c a.block - 1) exists (omega arith) k d l refl in
    let x = first.0 in
    let y = last.1 in
    (omega arith, omega arith)
  where
    changed : (q : List ℕ) → IsPlan c q → (b code : ℕ) → b < blocks c → code < count c b → IsPlan c (set q b code)
    changed q plan b code exists below = record {
      one_each = length-set q b code ∙ plan.one_each;
      in_range = λ x l. elim (cases_order x b) [
        | inl same ↦ (let n = plan.one_each in let e = get_or-set_same q b code 0 (omega arith) in subst (λ x. code_of (set q b code) x < count c x) (sym same) (omega arith))
        | inr differ ↦ (let e = get_or-set_other q b x code 0 (elim differ [ inl m ↦ λ f. absurd (omega arith) | inr m ↦ λ f. absurd (omega arith) ]) in let h = plan.in_range x l in omega arith)
      ];
    }

    at : (q : List ℕ) → IsPlan c q → (b code : ℕ) → b < blocks c → code < count c b → (k : ℕ) (d : Literal) → k < length box → b ≡ (get_or box k d).block
        → ((get_or box k d).lo ≤ code) × (code < (get_or box k d).hi)
    at q plan b code exists below k d l e =
        let p = set q b code in
        let good = changed q plan b code exists below in
        let held = (region_box_holds c root codes lo hi part p good).1 (plan_in_root c p good) in
        let inside = held_covered c box (region_box c codes lo hi) p (exist-box c box is) good cover held k d l in
        let n = plan.one_each in
        let same : code_of p b ≡ code = get_or-set_same q b code 0 (omega arith) in
        let here : code_of p b ≡ code_of p (get_or box k d).block = ap (code_of p) e in
        let x = inside.0 in
        let y = inside.1 in
        (omega arith, omega arith)

-- so the result of a record that refutes that job has only such literals, where it has one
pub refuted_whole : (c : Choices) (region : Region) (e : Record) → IsRegion c root region → IsRefutation c root e → (result_of c e ≡ [] → ⊥) → All (IsWhole c) (result_of c e)
refuted_whole c Empty e none is some = let (b, exists, zero_) = root_solvable c none in absurd (some (is.empty b exists zero_))
refuted_whole c (Part codes lo hi) e part is some = root_whole c codes lo hi (result_of c e) part is.box (is.part codes lo hi part)

-- then some block has one code
pub one_code : (c : Choices) (box : List Literal) → IsBox c box → All (IsWhole c) box → (box ≡ [] → ⊥) → (b : ℕ) × (b < blocks c) × (count c b ≡ 1)
one_code c [] is whole some = absurd (some refl)
one_code c (l ∷ box) is whole some =
    let lit : IsLiteral c l = is.each 0 l (omega arith) in
    (l.block, lit.block, lit.part (whole 0 l (omega arith)))

-- the branch over the one code of a block, beside no literal, is covered by a record with such a result
close_step : (c : Choices) (t : Option (List ℕ)) (log : List Record) (b last : ℕ) (e : Record) (list : List ℕ) → b < blocks c → count c b ≡ 1 → last + 1 ≡ length log
    → slice_get log last ≡ Some e → All (IsWhole c) (result_of c e) → ((x : ℕ) → Contains list x ↔ Contains (last ∷ []) x) → IsStep c t log (Branch b 0 1 [] list)
close_step c t log b last e list exists one l at whole same = record {
  side_is = empty_box c;
  block = exists;
  free = All-nil (λ l. l.block ≢ b);
  range = inl (omega arith, omega arith);
  earlier_only = λ k d h. All-contains (λ k. k < length log) (last ∷ []) (get_or list k d)
      (All-cons (λ k. k < length log) last [] (omega arith) (All-nil (λ k. k < length log))) ((same (get_or list k d)).0 (All-contains_itself list k d h));
  covered = λ code low high. inr (inr (inr (last, e, (same last).1 (0, omega arith, refl), at, λ k d h. inl (whole k d h))));
}

-- its box is the empty one
close_result : (c : Choices) (b : ℕ) (list : List ℕ) → count c b ≡ 1 → result_of c (Branch b 0 1 [] list) ≡ []
close_result c b list one =
    if_true ((0 == 0) && (1 == count c b)) [] (with_literal [] (record { block = b; lo = 0; hi = 1 })) (subst (λ n. ((0 == 0) && (1 == n)) ≡ true) (sym one) refl)

-- with that record the log ends with the empty box
pub closed_off : (c : Choices) (log new : List Record) (b last : ℕ) (e : Record) (range : Literal) (side : List Literal) (none items : List ℕ) (number : ℕ) → b < blocks c → count c b ≡ 1
    → last + 1 ≡ length log → slice_get log last ≡ Some e → All (IsWhole c) (result_of c e) → range ≡ exact b 0 → side ≡ [] → none ≡ [] → items ≡ none ++ last ∷ []
    → IsBranchWritten (Ok number) log new range side items → IsClosedOff c log new
closed_off c log new b last e range side none items number exists one l at whole f g h i written =
    let cites : items ≡ last ∷ [] = i ∙ ap (λ none. none ++ last ∷ []) h in
    let (list, is, grown, same) = subst (λ items. IsBranchWritten (Ok number) log new (exact b 0) [] items) cites
    (subst (λ side. IsBranchWritten (Ok number) log new (exact b 0) side items) g (subst (λ range. IsBranchWritten (Ok number) log new range side items) f written)) in
    record {
      steps = λ t steps. subst (AreSteps c t) (sym grown) (pushed_steps c t log (Branch b 0 1 [] list) steps (close_step c t log b last e list exists one l at whole same));
      last = (
        length log,
        Branch b 0 1 [] list,
        (let n = length-append log (Branch b 0 1 [] list ∷ []) in let m = ap length grown in omega arith),
        subst (λ new. slice_get new (length log) ≡ Some (Branch b 0 1 [] list)) (sym grown) (get_last log (Branch b 0 1 [] list)),
        close_result c b list one,
      );
    }

-- the report on the job of all path numbers is one whose jobs tile
root_reports : (c : Choices) (old new : State) (r : Report) → old.store ≡ [] → IsSolved c root old new r → AreReports c (report_of r ∷ [])
root_reports c old new r none is = record {
  tile = (r.job ∷ [], IsPermutation-refl (r.job ∷ []), subst (λ job. IsChain 0 (job ∷ []) (2 ^ 32)) (sym is.job_is) (refl, refl));
  reached = All-cons (IsReached c) (report_of r) [] is.reached (All-nil (IsReached c));
  least = All-cons (IsLeast c) (report_of r) [] (is.least (subst (λ store. All (λ e. Settles c old.bar None e.part) store) (sym none) (All-nil (λ e. Settles c old.bar None e.part)))) (All-nil (IsLeast c));
  bars = All-cons (λ r. IsBar c r.seen) (report_of r) [] is.is_bar (All-nil (λ r. IsBar c r.seen));
}

-- its best is the best of the one report
best_of_one : (c : Choices) (r : JobReport) (o : Option (List ℕ)) → r.best ≡ o → IsBestOf c (r ∷ []) o
best_of_one c r None e = All-cons (λ r. r.best ≡ None) r [] e (All-nil (λ r. r.best ≡ None))
best_of_one c r (Some p) e = ((r, (0, omega arith, refl), e), only)
  where
    only : (other : JobReport) (m : List ℕ) → Contains (r ∷ []) other → other.best ≡ Some m → IsBefore c m p → ⊥
    only other m (zero, l, f) is worse =
        let same : p ≡ m = same_Some p m (sym e ∙ ap (λ (r : JobReport). r.best) f ∙ is) in before_self c p (subst (λ m. IsBefore c m p) (sym same) worse)
    only other m (suc k, l, f) is worse = absurd (omega arith)

-- so it is the best plan, and the records of its search are steps against it
pub root_solved : (c : Choices) (job : Job) (old new : State) (r : Report) → IsSolved c job old new r → job ≡ root → AreSmall c → old.store ≡ [] → old.log ≡ [] → new.best ≡ r.best
    → IsBest c r.best × AreSteps c r.best new.log
root_solved c job old new r solved at small none empty same =
    let is : IsSolved c root old new r = subst (λ job. IsSolved c job old new r) at solved in
    let reports = root_reports c old new r none is in
    let best = best_of_one c (report_of r) r.best refl in (
      merged c (report_of r ∷ []) r.best (record { total_fits = small.total }) reports best,
      λ i less. steps_of_best c small (report_of r ∷ []) r.best reports best (report_of r) old new (0, omega arith, refl) (sym is.seen) same is.ends i
          (let n = ap length empty in omega arith) less,
    )

pub best_answers : (c : Choices) (t : Option (List ℕ)) → IsBest c t → IsAnswer c t
best_answers c None is = tt
best_answers c (Some p) is = is.0

-- a log of steps that ends with the empty box is accepted
pub accepted_of : (c : Choices) (t : Option (List ℕ)) (log new : List Record) → IsBest c t → AreSteps c t log → IsClosedOff c log new → IsAccepted c t new
accepted_of c t log new best steps closed = record { answer = best_answers c t best; steps = closed.steps t steps; last = closed.last }

-- proper records have a text
pub proper_text : (c : Choices) (log : List Record) → AreProper c 0 log → HaveText log
proper_text c log proper = recursion_from_All HasText log (λ k d l. (proper k (get_or log k d) (omega arith) (slice_get-get_or log k d l)).text)

-- where the last record of that job's search refutes another box than the empty one, its box has literals on blocks with one code alone
pub close_facts : (c : Choices) (log items : List Record) (last : ℕ) (e entry d : Record) (job : Job) (region : Region) → items ≡ log → entry ≡ get_or items last d
    → slice_get log last ≡ Some e → IsRefutation c root e → job ≡ root → IsRegion c job region → (result_of c entry ≡ [] → ⊥)
    → All (IsWhole c) (result_of c e) × ((b : ℕ) × (b < blocks c) × (count c b ≡ 1))
close_facts c log items last e entry d job region same here there is f part some =
    let g : entry ≡ e = here ∙ ap (λ items. get_or items last d) same ∙ get_or_from_slice_get log last e d there in
    let other : result_of c e ≡ [] → ⊥ = λ none. some (ap (result_of c) g ∙ none) in
    let whole = refuted_whole c region e (subst (λ job. IsRegion c job region) f part) is other in
    (whole, one_code c (result_of c e) is.box whole other)
