-- The report of a solved job, and of a job without a plan.
use Rattle.std.proofs.Common.{◌≡◌, ℕ, suc, ◌<◌, ◌≤◌, List, [], ◌∷◌, ◌++◌, length, Option, Some, None, Result, Ok, Err, ◌⊎◌, refl, sym, ap, ◌∙◌, subst, inl, inr, arith}
use Rattle.std.specs.Prelude.{IfOk, slice_get, ◌^◌}
use Rattle.shape_exact.specs.declared.memory.NoMemory.{NoMemory}
use Rattle.std.specs.List.{All, Contains}
use Rattle.std.proofs.lemmas.Bool.{cases_lt}
use Rattle.std.proofs.lemmas.List.Elements.{All-weaker, Contains-push, Contains-append_left, Contains-append_right}
use Rattle.refutation_log.proofs.AppendedLaws.{earlier_step}
use Rattle.branch_core.specs.declared.report.Report.{Report}
use Rattle.branch_core.specs.Proper.{AreProper}
use Rattle.branch_core.specs.Solved.{IsRefutation, IsSolvable, IsSolved, report_of}
use Rattle.branch_kernel.specs.Growth.{Ends}
use Rattle.branch_kernel.specs.Rivals.{IsRival, IsNotAfter}
use Rattle.branch_kernel.specs.States.{State, state}
use Rattle.nogood_store.specs.Hits.{PlainStore}
use Rattle.plan_rule.specs.declared.job.Job.{Job}
use Rattle.plan_rule.specs.Choices.{Choices, blocks}
use Rattle.plan_rule.specs.Fronts.{HasCodes}
use Rattle.plan_rule.specs.Paths.{key, IsInRegion, IsWithin}
use Rattle.plan_rule.specs.Plans.{IsFeasible, IsBest}
use Rattle.plan_rule.specs.Regions.{IsRegionPart}
use Rattle.plan_rule.specs.Reports.{IsBar, IsReached}
use Rattle.plan_rule.specs.Laws.{AreSmall}
use Rattle.plan_rule.proofs.PathLaws.{key-before}
use Rattle.plan_rule.proofs.OrderLaws.{before_cases}
use Rattle.plan_rule.proofs.BoxLaws.{held_covered}
use Rattle.plan_rule.proofs.RegionBoxLaws.{region_box_holds}
use Rattle.refutation_log.specs.declared.record.Record.{Record}
use Rattle.shape_exact.specs.Yards.{PlainYard}
use Rattle.plan_rule.specs.Yards.{choices}
use Rattle.incumbent_word.specs.Sittings.{Place}
use Rattle.branch_workers.specs.Bars.{last_from, last_seen}
use Rattle.log_merge.specs.Merging.{RefutesJob}
use Rattle.branch_workers.specs.Stock.{IsPostable, IsStocked}
use Rattle.branch_workers.specs.Work.{HasSearched, IsSound, IsProved, IsEmptyRegion, IsKnown, LacksCodes}
use Rattle.branch_workers.proofs.LoggedLaws.{grown_seen}
use Rattle.branch_workers.proofs.StockLaws.{bar_fits, postable_after, stocked_after, stocked_seen}
use Rattle.plan_rule.specs.Boxes.{IsLiteral}
use Rattle.refutation_log.specs.Logs.{AreSteps}
use Rattle.refutation_log.specs.Steps.{IsStepAt, result_of}

-- the best plan is within a bar
pub best_within : (c : Choices) (t : Option (List ℕ)) (bar : ℕ) → AreSmall c → IsBest c t → IsBar c bar → IsWithin c t bar
best_within c None bar fit best is = elim is [ inl greatest ↦ greatest | inr some_p ↦ (let (p, feasible, e) = some_p in absurd (best p feasible)) ]
best_within c (Some p) bar fit (feasible, least) is = elim is [
  | inl greatest ↦ (feasible.is_plan, (let k = fit.key p feasible.is_plan in omega arith))
  | inr some_x ↦
      (let (x, good, e) = some_x in
      elim (before_cases c p x feasible.is_plan good.is_plan) [
        | inl same ↦ (feasible.is_plan, (let f = ap (key c) same in omega arith))
        | inr apart ↦ elim apart [
          | inl before ↦ (feasible.is_plan, (let k = key-before c p x feasible.is_plan good.is_plan before in omega arith))
          | inr after ↦ absurd (least x good after)
        ]
      ])
]

-- the best plan is a rival of what any search answers
pub best_rival : (c : Choices) (t : Option (List ℕ)) (r : Report) → AreSmall c → IsBest c t → IsReached c (report_of r) → IsBar c r.seen → IsRival c r.seen r.best t
best_rival c None r fit best reached bar = best_within c None r.seen fit best bar
best_rival c (Some p) r fit best reached bar = (best.0.is_plan, (best_within c (Some p) r.seen fit best bar).1, unbeaten r.best reached)
  where
    unbeaten : (m : Option (List ℕ)) → ((p : List ℕ) → m ≡ Some p → IsFeasible c p × IsInRegion c r.job p × (r.seen ≤ key c p)) → IsNotAfter c m p
    unbeaten None reached = tt
    unbeaten (Some m) reached = λ before. best.1 m (reached m refl).0 before

last_contained : (n : ℕ) (seen : List ℕ) → (last_from n seen ≡ n) ⊎ Contains seen (last_from n seen)
last_contained n [] = inl refl
last_contained n (k ∷ ks) = elim (last_contained k ks) [
  | inl same ↦ inr (0, omega arith, sym same)
  | inr (j, l, e) ↦ inr (suc j, omega arith, e)
]

-- what was seen last was seen
pub last_is_seen : (seen : List ℕ) → 0 < length seen → Contains seen (last_seen seen)
last_is_seen [] some = absurd (omega arith)
last_is_seen (k ∷ ks) some = elim (last_contained k ks) [
  | inl same ↦ (0, omega arith, sym same)
  | inr (j, l, e) ↦ (suc j, omega arith, e)
]

lacks_none : (c : Choices) → LacksCodes c → HasCodes c → ⊥
lacks_none c (b, l, none) has = let h = has b l in omega arith

pub known_solvable : (c : Choices) (job : Job) → IsKnown c job → IsSolvable c job
known_solvable c job known none = elim known [ inl (codes, lo, hi, part) ↦ absurd (none part.some.0 part.some.1) | inr lacks ↦ lacks ]

-- the record of a solved job refutes its region
refuted_shown : (c : Choices) (log : List Record) (k : ℕ) (job : Job) (e : Record) → IsKnown c job → slice_get log k ≡ Some e → IsRefutation c job e
    → (p : List ℕ) → IsInRegion c job p → RefutesJob c log k job
refuted_shown c log k job e known at h p inside = elim known [
  | inl (codes, lo, hi, part) ↦ (
    e,
    at,
    h.box,
    λ q in_q.
        held_covered c (result_of c e) _ q (All-weaker (IsLiteral c) (λ l. l.block < blocks c) (λ l is. is.block) (result_of c e) h.box.each) in_q.0 (h.part codes lo hi part)
        ((region_box_holds c job codes lo hi part q in_q.0).1 in_q),
  )
  | inr (b, l, none) ↦ (let r = inside.0.in_range b l in absurd (omega arith))
]

solved_proved : (c : Choices) (job : Job) (old new : State) (r : Report) → IsKnown c job → IsSolved c job old new r → IsProved c new.log r
solved_proved c job old new r known h =
    let (e, at, refutes) = h.refutes in record {
      number = inr (let n = h.last in omega arith);
      shown = λ p inside. subst (RefutesJob c new.log r.refutation) (sym h.job_is)
          (refuted_shown c new.log r.refutation job e known at refutes p (subst (λ (j : Job). IsInRegion c j p) h.job_is inside));
      part = λ codes lo hi part. (e, at, refutes.part codes lo hi (subst (λ (j : Job). IsRegionPart c j codes lo hi) h.job_is part));
      empty = λ lacks. (e, at, refutes.empty lacks.0 lacks.1 lacks.2);
    }

-- the records of a search are steps against an answer that is a rival of its report
ended_steps : (c : Choices) (old new : State) (t : Option (List ℕ)) → Ends c old new → IsRival c new.bar new.best t → AreSteps c t old.log → AreSteps c t new.log
ended_steps c old new t h rival s i l = elim (cases_lt i (length old.log)) [
  | inl below ↦ subst (λ log. IsStepAt c t log i) (sym h.more.1) (earlier_step c t old.log h.more.0 i (s i below))
  | inr above ↦ h.good i above l t rival
]

-- the log, the store and the seat after a search, beside which a seat was lent
pub searched_is : (c : Choices) (job : Job) (bar : ℕ) (old new : List Record) (store store' : PlainStore) (seen own seen' : List ℕ) (r : Report) → AreSmall c → IsKnown c job
    → IsBar c bar → All (λ k. bar ≤ k) seen → IsStocked c old store seen
    → IsSolved c job (state bar None old store) (state (last_seen own) r.best new store') r → AreProper c (length old) new → store'.prefix ≡ []
    → 0 < length own → seen' ≡ seen ++ own → HasSearched c old new store store' seen seen' r
searched_is c job bar old new store store' seen own seen' r small known bar_is low stocked h proper depth some joined = record {
  grown = record {
    grown = h.ends.more;
    kept = λ k i. subst (λ (l : List ℕ). Contains l k) (sym joined) (Contains-append_left seen own k i);
    steps = λ t best s. ended_steps c (state bar None old store) (state (last_seen own) r.best new store') t h.ends
        (subst (λ n. IsRival c n r.best t) h.seen (best_rival c t r small best h.reached h.is_bar)) s;
    proper = proper;
  };
  reported = record { proved = solved_proved c job (state bar None old store) (state (last_seen own) r.best new store') r known h; seen_is = subst (Contains seen') (sym h.seen) seen_last };
  stocked = stocked_after c bar (last_seen own) r.best old new store store' seen seen' (bar_fits c bar small bar_is) fits low seen_last depth h.ends stocked;
  postable = λ more tag last. subst (λ n. IsPostable c n new tag) (sym h.seen)
      (postable_after c bar (last_seen own) r.best old new store store' seen tag (bar_fits c bar small bar_is) low h.ends stocked more last);
}
  where
    seen_last : Contains seen' (last_seen own)
    seen_last = subst (λ (l : List ℕ). Contains l (last_seen own)) (sym joined) (Contains-append_right seen own (last_seen own) (last_is_seen own some))

    fits : last_seen own < 2 ^ 64
    fits = subst (λ n. n < 2 ^ 64) h.seen (bar_fits c r.seen small h.is_bar)

-- what is reported of a solved job is sound
pub solved_sound : (c : Choices) (job : Job) (bar : ℕ) (old : List Record) (store : PlainStore) (seen : List ℕ) (new : State) (r : Report) → All (λ k. bar ≤ k) seen → IsStocked c old store seen
    → IsSolved c job (state bar None old store) new r → IsSound c r
solved_sound c job bar old store seen new r low stocked h = record { reached = h.reached; least = h.least (stocked.settles bar low); bar = h.is_bar }

abbrev pub empty_report : Job → ℕ → Report
empty_report job seen = record { job = job; best = None; seen = seen; refutation = 0 }

pub empty_searched : (c : Choices) (log : List Record) (store : PlainStore) (job : Job) (k : ℕ) (seen seen' : List ℕ) → IsEmptyRegion c job → seen' ≡ seen ++ k ∷ []
    → IsStocked c log store seen → HasSearched c log log store store seen seen' (empty_report job k)
empty_searched c log store job k seen seen' (none, has) more stocked = record {
  grown = grown_seen c log seen seen' kept;
  reported = record {
    proved = record {
      number = inl refl;
      shown = λ p inside. absurd (none p inside);
      part = λ codes lo hi part. absurd (none part.some.0 part.some.1);
      empty = λ lacks. absurd (lacks_none c lacks has);
    };
    seen_is = subst (λ (l : List ℕ). Contains l k) (sym more) (Contains-push seen k);
  };
  stocked = stocked_seen c log store seen seen' kept stocked;
  postable = λ longer tag last. absurd (omega arith);
}
  where
    kept : (n : ℕ) → Contains seen n → Contains seen' n
    kept n i = subst (λ (l : List ℕ). Contains l n) (sym more) (Contains-append_left seen (k ∷ []) n i)

-- the same for what a search answers
pub searched_if : (c : Choices) (job : Job) (bar : ℕ) (old new : List Record) (store store' : PlainStore) (seen own seen' : List ℕ) (result : Result Report NoMemory) → AreSmall c → IsKnown c job
    → IsBar c bar → All (λ k. bar ≤ k) seen → IsStocked c old store seen
    → IfOk result (λ r. IsSolved c job (state bar None old store) (state (last_seen own) r.best new store') r) → AreProper c (length old) new → store'.prefix ≡ []
    → 0 < length own → seen' ≡ seen ++ own → IfOk result (HasSearched c old new store store' seen seen')
searched_if c job bar old new store store' seen own seen' (Ok r) = searched_is c job bar old new store store' seen own seen' r
searched_if c job bar old new store store' seen own seen' (Err e) = λ small known bar_is low stocked h proper depth some joined. tt

pub sound_if : (c : Choices) (job : Job) (bar : ℕ) (old : List Record) (store : PlainStore) (seen : List ℕ) (log : List Record) (store' : PlainStore) (bar' : ℕ) (result : Result Report NoMemory) → All (λ k. bar ≤ k) seen → IsStocked c old store seen
    → IfOk result (λ r. IsSolved c job (state bar None old store) (state bar' r.best log store') r) → IfOk result (IsSound c)
sound_if c job bar old store seen log store' bar' (Ok r) low stocked h = solved_sound c job bar old store seen (state bar' r.best log store') r low stocked h
sound_if c job bar old store seen log store' bar' (Err e) low stocked h = tt

-- a bar of a seat's board is one of the yard
pub bar_here : (a b : Place) (yard : PlainYard) (n : ℕ) → a ≡ b → b.yard ≡ yard → IsBar (choices a.yard) n → IsBar (choices yard) n
bar_here a b yard n same is h = subst (λ (y : PlainYard). IsBar (choices y) n) (ap (λ (p : Place). p.yard) same ∙ is) h

-- what was seen stays seen, as more is
pub seen_more : (seen seen' : List ℕ) (k : ℕ) → seen' ≡ seen ++ k ∷ [] → (n : ℕ) → Contains seen n → Contains seen' n
seen_more seen seen' k is n i = subst (λ (l : List ℕ). Contains l n) (sym is) (Contains-append_left seen (k ∷ []) n i)
