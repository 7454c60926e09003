-- The search of a region in which some block has no code.
use Rattle.std.proofs.Common.{◌≡◌, ◌≢◌, ℕ, zero, suc, ◌+◌, ◌<◌, ◌≤◌, List, [], ◌∷◌, length, get_or, Option, Some, None, refl, sym, ap, subst, inr, arith, true, length-append}
use Rattle.std.specs.Prelude.{Result, Ok, Err, IfOk, OnErr, slice_get, ◌==◌, ◌&&◌}
use Rattle.std.specs.List.{Contains}
use Rattle.std.proofs.lemmas.Option.{none-some}
use Rattle.std.proofs.lemmas.List.Elements.{All-nil}
use Rattle.common_lists.proofs.ListLaws.{get_last, if_true}
use Rattle.shape_exact.specs.declared.memory.NoMemory.{NoMemory}
use Rattle.plan_rule.specs.declared.literal.Literal.{Literal}
use Rattle.plan_rule.specs.declared.job.Job.{Job}
use Rattle.plan_rule.specs.Choices.{Choices, blocks, count}
use Rattle.plan_rule.specs.Boxes.{IsBox, with_literal}
use Rattle.plan_rule.specs.Paths.{IsInRegion}
use Rattle.plan_rule.specs.Reports.{IsBar}
use Rattle.plan_rule.proofs.EmptyLaws.{empty_box}
use Rattle.refutation_log.specs.declared.record.Record.{Record}
use Rattle.refutation_log.specs.declared.record.Record.TheVariants.{Branch}
use Rattle.refutation_log.specs.Steps.{IsStep, result_of}
use Rattle.nogood_store.specs.declared.nogood.Nogood.{Nogood}
use Rattle.nogood_store.specs.Hits.{PlainStore}
use Rattle.branch_kernel.specs.declared.steps.Shown.{Shown}
use Rattle.shape_exact.specs.Yards.{PlainYard}
use Rattle.plan_rule.specs.Regions.{IsRegionPart}
use Rattle.plan_rule.specs.Yards.{choices}
use Rattle.plan_rule.proofs.CountLaws.{blocks-length}
use Rattle.branch_core.specs.declared.report.Report.{Report}
use Rattle.branch_core.specs.Beaten.{IsBeaten, exact_box}
use Rattle.branch_core.specs.Hits.{GainsOneCiting, HasNoHit, IsFirstHit}
use Rattle.branch_core.specs.Shapes.{IsEmptyWritten}
use Rattle.branch_core.specs.Solved.{IsSolved, MakesOneRecord}
use Rattle.branch_kernel.specs.Growth.{Ends, IsReady}
use Rattle.branch_kernel.specs.States.{state}
use Rattle.branch_kernel.specs.Written.{IsBranchWritten}
use Rattle.branch_core.proofs.RegionLaws.{part_whole}
use Rattle.branch_core.proofs.SolveLaws.{ends_falls, part_same}
use Rattle.branch_kernel.proofs.EndLaws.{ends_add, ends_from}
use Rattle.branch_kernel.proofs.GrowthLaws.{grows_self}

empty_step : (c : Choices) (t : Option (List ℕ)) (log : List Record) (b : ℕ) (list : List ℕ) → b < blocks c → count c b ≡ 0 → ((x : ℕ) → Contains list x → ⊥) → IsStep c t log (Branch b 0 0 [] list)
empty_step c t log b list exists none no_cites = record {
  side_is = empty_box c;
  block = exists;
  free = All-nil (λ l. l.block ≢ b);
  range = inr (refl, refl, none);
  earlier_only = λ k d l. absurd (no_cites (get_or list k d) (k, l, same list k d (get_or list k d) l));
  covered = λ code l h. absurd (omega arith);
}
  where
    same : (xs : List ℕ) (k d e : ℕ) → k < length xs → get_or xs k e ≡ get_or xs k d
    same [] k d e l = absurd (omega arith)
    same (x ∷ xs) zero d e l = refl
    same (x ∷ xs) (suc k) d e l = same xs k d e (omega arith)

empty_result : (c : Choices) (b : ℕ) (list : List ℕ) → count c b ≡ 0 → result_of c (Branch b 0 0 [] list) ≡ []
empty_result c b list none =
    if_true ((0 == 0) && (0 == count c b)) [] (with_literal [] (record { block = b; lo = 0; hi = 0 })) (subst (λ n. ((0 == 0) && (0 == n)) ≡ true) (sym none) refl)

-- how the state ends
pub empty_left : (c : Choices) (bar : ℕ) (log new : List Record) (store : PlainStore) → new ≡ log → Ends c (state bar None log store) (state bar None new store)
empty_left c bar log new store same = subst (λ log'. Ends c (state bar None log store) (state bar None log' store)) (sym same) (ends_from c (state bar None log store) (state bar None log store) (grows_self c (state bar None log store)))

empty_ended : (c : Choices) (job : Job) (bar : ℕ) (log new : List Record) (store : PlainStore) (shown : Shown) → IsReady c job (state bar None log store)
    → IsEmptyWritten c log new shown → Ends c (state bar None log store) (state bar None new store)
empty_ended c job bar log new store shown ready is =
    let (list, at, grown, same) = is.written in
    subst (λ new. Ends c (state bar None log store) (state bar None new store)) (sym grown)
    (ends_add c (state bar None log store) bar None log store.nogoods (Branch is.block 0 0 [] list) ready.fits ready.stored (grows_self c (state bar None log store))
    (λ t rival. empty_step c t log is.block list is.exists is.none (λ x h. let (i, l, e) = (same x).0 h in absurd (omega arith))))

-- the report
pub empty_solved : (c : Choices) (job : Job) (bar bar' seen : ℕ) (log new : List Record) (store : PlainStore) (shown : Shown) → IsReady c job (state bar None log store) → bar' ≤ bar → seen ≡ bar' → IsBar c seen
    → IsEmptyWritten c log new shown
    → IsSolved c job (state bar None log store) (state bar' None new store) (record { job = job; best = None; seen = seen; refutation = shown.number })
empty_solved c job bar bar' seen log new store shown ready falls e is_bar is =
    let b = is.block in let exists = is.exists in let none = is.none in
    let (list, at, grown, same) = is.written in
    let no_plan : (q : List ℕ) → IsInRegion c job q → ⊥ = λ q inside. let l = inside.0.in_range b exists in absurd (omega arith) in
    record {
      job_is = refl;
      reached = λ p is. absurd (none-some p is);
      seen = e;
      is_bar = is_bar;
      least = λ right q feasible inside. absurd (no_plan q inside);
      ends = ends_falls c (state bar None log store) bar bar' None new store.nogoods ready.fits falls (empty_ended c job bar log new store shown ready is);
      last = (let n = length-append log (Branch b 0 0 [] list ∷ []) in let m = ap length grown in omega arith);
      refutes = (
        Branch b 0 0 [] list,
        subst (λ k. slice_get new k ≡ Some (Branch b 0 0 [] list)) (sym at) (subst (λ new. slice_get new (length log) ≡ Some (Branch b 0 0 [] list)) (sym grown) (get_last log (Branch b 0 0 [] list))),
        record { box = subst (IsBox c) (sym (empty_result c b list none)) (empty_box c); part = λ codes lo hi part. (let (q, inside) = part.some in absurd (no_plan q inside)); empty = λ _ _ _. empty_result c b list none },
      );
    }

-- how the state ends, whatever came of the record, once the bar was seen
pub empty_ends : (c : Choices) (job : Job) (bar bar' : ℕ) (log new : List Record) (store : PlainStore) (result : Result Shown NoMemory) → IsReady c job (state bar None log store)
    → bar' ≤ bar → IfOk result (IsEmptyWritten c log new) → OnErr result (new ≡ log) → Ends c (state bar None log store) (state bar' None new store)
empty_ends c job bar bar' log new store (Ok shown) ready falls is same =
    ends_falls c (state bar None log store) bar bar' None new store.nogoods ready.fits falls (empty_ended c job bar log new store shown ready is)
empty_ends c job bar bar' log new store (Err e) ready falls is same =
    ends_falls c (state bar None log store) bar bar' None new store.nogoods ready.fits falls (empty_left c bar log new store same)

-- what holds of each answer holds of the one that came
pub ok_of : {T E : Type 0} (r : Result T E) (x : T) (P : T → Type 0) → r ≡ Ok x → IfOk r P → P x
ok_of r x P e h = subst (λ r. IfOk r P) e h

-- nothing done
pub ends_self : (c : Choices) (bar : ℕ) (log : List Record) (store : PlainStore) → Ends c (state bar None log store) (state bar None log store)
ends_self c bar log store = empty_left c bar log log store refl

-- what holds anyway holds of an error
pub on_err : {T E : Type 0} (r : Result T E) (A : Type 0) → A → OnErr r A
on_err (Ok x) A h = tt
on_err (Err e) A h = h

-- the record of a block without a code was written
pub empty_written : (c : Choices) (block b : ℕ) (old new : List Record) (shown : Shown) (side : List Literal) (cites : List ℕ) (found : ℕ) → block ≤ b → b < blocks c → found ≡ count c block → found ≤ 0
    → side ≡ [] → cites ≡ [] → IsBranchWritten (Ok shown.number) old new (record { block = block; lo = 0; hi = 0 }) side cites → IsEmptyWritten c old new shown
empty_written c block b old new shown side cites found below exists value zero_ e f written = record {
  block = block;
  exists = omega arith;
  none = omega arith;
  written = subst (λ cites. IsBranchWritten (Ok shown.number) old new (record { block = block; lo = 0; hi = 0 }) [] cites) f
      (subst (λ side. IsBranchWritten (Ok shown.number) old new (record { block = block; lo = 0; hi = 0 }) side cites) e written);
}

-- a region of one plan has a block
pub part_some : (yard : PlainYard) (job : Job) (codes : List ℕ) (lo hi : ℕ) → 1 ≤ length yard.blocks → IsRegionPart (choices yard) job codes lo hi → hi ≡ 0 → 0 < length codes
part_some yard job codes lo hi some part none = let size = part_whole (choices yard) job codes lo hi part none in let n = blocks-length yard in omega arith

-- the clauses of a region's search, as one
pub one_record : (c : Choices) (job : Job) (codes : List ℕ) (lo hi bar : ℕ) (store : List Nogood) (old new : List Record) (result : Result Report NoMemory) → IsRegionPart c job codes lo hi
    → ((place tag : ℕ) → IsFirstHit store codes place tag → IfOk result (λ _. GainsOneCiting old new tag))
    → (HasNoHit store codes → IsBeaten c (exact_box 0 codes) bar → IfOk result (λ _. length new ≡ length old + 1))
    → IfOk result (λ _. MakesOneRecord c job bar store old new)
one_record c job codes lo hi bar store old new (Ok r) part hit bound = λ other low high also. part_same c job
    (λ codes lo hi. ((place tag : ℕ) → IsFirstHit store codes place tag → GainsOneCiting old new tag)
    × (HasNoHit store codes → IsBeaten c (exact_box 0 codes) bar → length new ≡ length old + 1))
    codes other lo hi low high part (hit, bound) also
one_record c job codes lo hi bar store old new (Err e) part hit bound = tt
