-- A log that is taken into another one keeps what its records show.
use Rattle.std.proofs.Common.{◌≡◌, ℕ, zero, suc, ◌+◌, ◌<◌, ◌≤◌, List, [], ◌∷◌, ◌++◌, length, map, take, get_or, Some, ◌⊎◌, refl, sym, ap, ◌∙◌, subst, inl, inr, arith}
use Rattle.std.specs.Prelude.{slice_get, slice_index}
use Rattle.std.specs.List.{All, Contains}
use Rattle.std.proofs.lemmas.List.{map_push, append_assoc}
use Rattle.std.proofs.lemmas.List.Sums.{sum_by_push, sum_by-append}
use Rattle.std.proofs.lemmas.List.Elements.{All-weaker, All-push, All-nil, All-cons, All-head, All-tail, All-contains, All-get_or}
use Rattle.std.proofs.lemmas.Option.{get_or_from_slice_get, none-some, same_Some, slice_get_read, slice_get_within}
use Rattle.branch_core.specs.declared.report.Report.{Report}
use Rattle.plan_rule.specs.declared.job.Job.{Job}
use Rattle.plan_rule.specs.Boxes.{Holds, IsBox}
use Rattle.plan_rule.specs.Choices.{Choices}
use Rattle.plan_rule.specs.Yards.{choices}
use Rattle.shape_exact.specs.Yards.{PlainYard}
use Rattle.refutation_log.specs.declared.record.Record.{Record}
use Rattle.refutation_log.specs.declared.record.Record.TheVariants.{Branch, Fit, Energy}
use Rattle.refutation_log.specs.Logs.{raised, AreSteps, CiteEarlier, KeepsSteps}
use Rattle.log_parts.specs.United.{IsRecited, IsUnited}
use Rattle.log_merge.specs.declared.merging.Leaf.{Leaf}
use Rattle.log_merge.specs.Closing.{AllExist, ExistsIn}
use Rattle.log_merge.specs.Merging.{RefutesJob}
use Rattle.branch_workers.specs.Taken.{AreShown, AreLeaves, KeepsLeaves, KeepsExisting, AreTaken, CanBeTaken}
use Rattle.branch_workers.specs.Gather.{reports_by}
use Rattle.log_merge.specs.Leaves.{job_of}
use Rattle.std.specs.List.{sum_by}
use Rattle.branch_workers.specs.declared.worker.Worker.{Worker}
use Rattle.branch_workers.specs.Work.{job_of_report}
use Rattle.log_merge.proofs.MergeLaws.{grown_shown}

same_exists : (c : Choices) (r e : Record) → IsRecited r e → ExistsIn c r → ExistsIn c e
same_exists c (Branch b lo hi side cites) e (list, is) exists = subst (ExistsIn c) (sym is) exists
same_exists c (Fit side) e is exists = subst (ExistsIn c) (sym is) exists
same_exists c (Energy from to side) e is exists = subst (ExistsIn c) (sym is) exists

-- what a record of the worker's log shows, the record with its box shows in the whole
united_shown : (yard : PlainYard) (log own whole : List Record) (numbers : List ℕ) (k : ℕ) (job : Job) → IsUnited log own whole numbers → RefutesJob (choices yard) own k job
    → RefutesJob (choices yard) whole (slice_index numbers k) job
united_shown yard log own whole numbers k job united (r, at, box, holds) =
    let (e, there, same) = united.boxes k r at in
    (e, there, subst (IsBox (choices yard)) (sym (same yard)) box, λ p in'. subst (λ b. Holds b p) (sym (same yard)) (holds p in'))

-- what stands at a place of two lists
pub place_of_two : {X : Type 0} (xs ys : List X) (i : ℕ) (x : X) → slice_get (xs ++ ys) i ≡ Some x → (slice_get xs i ≡ Some x) ⊎ ((j : ℕ) × (slice_get ys j ≡ Some x))
place_of_two [] ys i x e = inr (i, e)
place_of_two (y ∷ xs) ys zero x e = inl e
place_of_two (y ∷ xs) ys (suc i) x e = place_of_two xs ys i x e

pub unmapped : (n : ℕ) (log : List Record) (j : ℕ) (r : Record) → slice_get (map (raised n) log) j ≡ Some r → (s : Record) × (slice_get log j ≡ Some s) × (raised n s ≡ r)
unmapped n [] j r e = absurd (none-some r e)
unmapped n (s ∷ log) zero r e = (s, refl, same_Some (raised n s) r e)
unmapped n (s ∷ log) (suc j) r e = unmapped n log j r e

pub united_exist : (log own whole : List Record) (numbers : List ℕ) → IsUnited log own whole numbers → KeepsExisting log own whole
united_exist log own whole numbers united = λ yard all more i r at. by_place (choices yard) all more r i (place_of_two log united.grown.0 i r (subst (λ l. slice_get l i ≡ Some r) united.grown.1 at))
  where
    by_place : (c : Choices) → AllExist c log → AllExist c own → (r : Record) → (i : ℕ) → (slice_get log i ≡ Some r) ⊎ ((j : ℕ) × (slice_get united.grown.0 j ≡ Some r)) → ExistsIn c r
    by_place c all more r i (inl here) = all i r here
    by_place c all more r i (inr (j, there)) =
        let in_more : Contains united.grown.0 r = (j, slice_get_within united.grown.0 j r there, get_or_from_slice_get united.grown.0 j r r there) in
        let (s, (k, l, e), recited) = All-contains (λ x. (s : Record) × Contains own s × IsRecited s x) united.grown.0 r united.grown.2 in_more in
        same_exists c s r recited (more k s (slice_get_read own (length own) k s refl l (sym e)))

take_more : {X : Type 0} (rs : List X) (i : ℕ) (r : X) → i < length rs → r ≡ get_or rs i r → take (suc i) rs ≡ take i rs ++ r ∷ []
take_more [] i r l e = absurd (omega arith)
take_more (s ∷ rs) zero r l e = ap (λ t. t ∷ []) (sym e)
take_more (s ∷ rs) (suc i) r l e = ap (λ t. s ∷ t) (take_more rs i r (omega arith) e)

-- no report is taken yet
pub none_taken : (log own whole : List Record) (numbers : List ℕ) (leaves : List Leaf) (rs : List Report) → IsUnited log own whole numbers → KeepsLeaves log own whole leaves (take 0 rs) leaves
none_taken log own whole numbers leaves rs united = λ yard all shown.
    All-weaker (λ (l : Leaf). RefutesJob (choices yard) log l.record l.job) (λ (l : Leaf). RefutesJob (choices yard) whole l.record l.job) (λ l s. grown_shown (choices yard) log whole united.grown.0 l.record l.job united.grown.1 s) leaves all

-- the next report's leaf is there
pub one_taken : (log own whole : List Record) (numbers : List ℕ) (old now new : List Leaf) (rs : List Report) (i : ℕ) (r : Report) (leaf : Leaf) → IsUnited log own whole numbers → i < length rs → r ≡ get_or rs i r
    → leaf.job ≡ r.job → leaf.record ≡ slice_index numbers r.refutation → new ≡ now ++ leaf ∷ []
    → (map job_of now ≡ map job_of old ++ map job_of_report (take i rs)) × KeepsLeaves log own whole old (take i rs) now
    → (map job_of new ≡ map job_of old ++ map job_of_report (take (i + 1) rs)) × KeepsLeaves log own whole old (take (i + 1) rs) new
one_taken log own whole numbers old now new rs i r leaf united l at job number new_is (jobs, kept) = (
  ap (map job_of) new_is ∙ map_push job_of now leaf ∙ ap (λ j. map job_of now ++ j ∷ []) job ∙ ap (λ js. js ++ r.job ∷ []) jobs
      ∙ append_assoc (map job_of old) (map job_of_report (take i rs)) (r.job ∷ []) ∙ ap (λ js. map job_of old ++ js) (sym (ap (map job_of_report) more ∙ map_push job_of_report (take i rs) r)),
  λ yard all shown.
      let c = choices yard in
      let both = subst (AreShown c own) more shown in
      let before = All-prefix c (take i rs) r both in
      let last : RefutesJob c own r.refutation r.job = All-last c (take i rs) r both in
      let numbered = subst (λ k. RefutesJob c whole k r.job) (sym number) (united_shown yard log own whole numbers r.refutation r.job united last) in
      subst (AreLeaves c whole) (sym new_is) (All-push (λ (x : Leaf). RefutesJob c whole x.record x.job) now leaf (kept yard all before) (subst (RefutesJob c whole leaf.record) (sym job) numbered)),
)
  where
    more : take (i + 1) rs ≡ take i rs ++ r ∷ []
    more = ap (λ m. take m rs) (let e : i + 1 ≡ suc i = omega arith in e) ∙ take_more rs i r l at

    All-prefix : (c : Choices) (xs : List Report) (r : Report) → AreShown c own (xs ++ r ∷ []) → AreShown c own xs
    All-prefix c [] r all = All-nil (λ (x : Report). RefutesJob c own x.refutation x.job)
    All-prefix c (x ∷ xs) r all =
        All-cons (λ (x : Report). RefutesJob c own x.refutation x.job) x xs (All-head (λ (x : Report). RefutesJob c own x.refutation x.job) x (xs ++ r ∷ []) all) (All-prefix c xs r (All-tail (λ (x : Report). RefutesJob c own x.refutation x.job) x (xs ++ r ∷ []) all))

    All-last : (c : Choices) (xs : List Report) (r : Report) → AreShown c own (xs ++ r ∷ []) → RefutesJob c own r.refutation r.job
    All-last c [] r all = All-head (λ (x : Report). RefutesJob c own x.refutation x.job) r [] all
    All-last c (x ∷ xs) r all = All-last c xs r (All-tail (λ (x : Report). RefutesJob c own x.refutation x.job) x (xs ++ r ∷ []) all)

take_whole : {X : Type 0} (rs : List X) (i : ℕ) → length rs ≤ i → take i rs ≡ rs
take_whole [] zero l = refl
take_whole [] (suc i) l = refl
take_whole (r ∷ rs) zero l = absurd (omega arith)
take_whole (r ∷ rs) (suc i) l = ap (λ t. r ∷ t) (take_whole rs i (omega arith))

-- every report is taken
pub all_taken : (log own whole : List Record) (old new : List Leaf) (rs : List Report) (i : ℕ) → length rs ≤ i → KeepsLeaves log own whole old (take i rs) new → KeepsLeaves log own whole old rs new
all_taken log own whole old new rs i l kept = subst (λ (t : List Report). KeepsLeaves log own whole old t new) (take_whole rs i l) kept

-- no worker's log is taken yet
pub nothing_taken : (log : List Record) (leaves : List Leaf) → AreTaken log leaves [] log leaves
nothing_taken log leaves = record { weighed = λ h. omega arith; shown = λ yard all none_of. all; exist = λ yard all none_of. all; steps = λ yard t all none_of. all }

all_before : {X : Type 0} (P : X → Type 0) (xs : List X) (x : X) → All P (xs ++ x ∷ []) → All P xs
all_before P [] x all = All-nil P
all_before P (y ∷ xs) x all = All-cons P y xs (All-head P y (xs ++ x ∷ []) all) (all_before P xs x (All-tail P y (xs ++ x ∷ []) all))

last_of_all : {X : Type 0} (P : X → Type 0) (xs : List X) (x : X) → All P (xs ++ x ∷ []) → P x
last_of_all P [] x all = All-head P x [] all
last_of_all P (y ∷ xs) x all = last_of_all P xs x (All-tail P y (xs ++ x ∷ []) all)

-- the next worker's log is taken
pub next_taken : (log log1 log2 : List Record) (leaves leaves1 leaves2 : List Leaf) (ws : List Worker) (i : ℕ) (w : Worker) → i < length ws → w ≡ get_or ws i w
    → AreTaken log leaves (take i ws) log1 leaves1 → map job_of leaves2 ≡ map job_of leaves1 ++ map job_of_report w.reports
    → KeepsLeaves log1 w.log log2 leaves1 w.reports leaves2 → KeepsExisting log1 w.log log2 → KeepsSteps log1 w.log log2 → AreTaken log leaves (take (i + 1) ws) log2 leaves2
next_taken log log1 log2 leaves leaves1 leaves2 ws i w l at before jobs shown exist steps = subst (λ (t : List Worker). AreTaken log leaves t log2 leaves2) (sym more) record {
  weighed = λ h.
      let a = ap (sum_by h) jobs ∙ sum_by-append h (map job_of leaves1) (map job_of_report w.reports) in
      let b = before.weighed h in
      let d : reports_by h (take i ws ++ w ∷ []) ≡ reports_by h (take i ws) + sum_by h (map job_of_report w.reports) = sum_by_push (λ (v : Worker). sum_by h (map job_of_report v.reports)) (take i ws) w in
      omega arith;
  shown = λ yard all each.
      let P : Worker → Type 0 = λ (v : Worker). AreShown (choices yard) v.log v.reports in
      shown yard (before.shown yard all (all_before P (take i ws) w each)) (last_of_all P (take i ws) w each);
  exist = λ yard all each.
      let P : Worker → Type 0 = λ (v : Worker). AllExist (choices yard) v.log in
      exist yard (before.exist yard all (all_before P (take i ws) w each)) (last_of_all P (take i ws) w each);
  steps = λ yard t all each.
      let P : Worker → Type 0 = λ (v : Worker). AreSteps (choices yard) t v.log in
      steps yard t (before.steps yard t all (all_before P (take i ws) w each)) (last_of_all P (take i ws) w each);
}
  where
    more : take (i + 1) ws ≡ take i ws ++ w ∷ []
    more = ap (λ m. take m ws) (let e : i + 1 ≡ suc i = omega arith in e) ∙ take_more ws i w l at

pub next_list_taken : (log log1 log2 : List Record) (leaves leaves1 leaves2 : List Leaf) (ws : List Worker) (i : ℕ) (w : Worker) (rs : List Report) → i < length ws → w ≡ get_or ws i w → rs ≡ w.reports
    → AreTaken log leaves (take i ws) log1 leaves1 → map job_of leaves2 ≡ map job_of leaves1 ++ map job_of_report rs
    → KeepsLeaves log1 w.log log2 leaves1 rs leaves2 → KeepsExisting log1 w.log log2 → KeepsSteps log1 w.log log2 → AreTaken log leaves (take (i + 1) ws) log2 leaves2
next_list_taken log log1 log2 leaves leaves1 leaves2 ws i w rs l at same before jobs shown exist steps =
    let moved = subst (λ (t : List Report). (map job_of leaves2 ≡ map job_of leaves1 ++ map job_of_report t) × KeepsLeaves log1 w.log log2 leaves1 t leaves2) same (jobs, shown) in
    next_taken log log1 log2 leaves leaves1 leaves2 ws i w l at before moved.0 moved.1 exist steps

-- the next worker's log can be taken
pub can_take : (ws : List Worker) (i : ℕ) (w : Worker) → i < length ws → w ≡ get_or ws i w → All CanBeTaken ws → CiteEarlier w.log
can_take ws i w l at all = subst CanBeTaken (sym at) (All-get_or CanBeTaken ws i w l all)
