-- A swap of a cell with 0 keeps the rule.
use Rattle.std.proofs.Common.{◌≡◌, ◌≢◌, ℕ, ◌-◌, ◌<◌, ◌≤◌, ◌==◌, Bool, true, false, true≢false, List, [], ◌∷◌, ◌++◌, length, set, get_or, if◌then◌else◌, sym, refl, ap, ◌∙◌, subst, arith, All, MatchBool, Some, length-append, length-set, get_or-set_same, get_or-set_other, ne_eqb, eq-eqb, ltb-true}
use Rattle.std.specs.Prelude.{slice_index, slice_get, ◌&&◌, nat_lt}
use Rattle.std.proofs.lemmas.List.Elements.{All-push, All-weaker}
use Rattle.std.proofs.lemmas.List.Sums.{sum_by-set, sum_by_push, get_or-le-sum_by}
use mathlib.Core.Option.{some}
use mathlib.Core.Logic.{dite}
use native.Mathlib.Decide.{ℕ_discrete}
use lib.ListN.{get_elem?}
use Rattle.atomic_table.specs.Table.{keeps, Allows}
use Rattle.atomic_table.proofs.Lists.{at_index, set_again}
use Rattle.common_lists.proofs.ListLaws.{sum_of_ones, there, get_within, sum_set}
use Rattle.plan_rule.specs.declared.job.Job.{Job}
use Rattle.plan_rule.specs.Jobs.{IsJob}
use Rattle.steal_rule.specs.declared.rule.View.{View}
use Rattle.steal_rule.specs.Views.{job_of, took, passed}
use Rattle.steal_rule.specs.Rule.{IsEmptied, IsGone, Fits, times_emptied, is_full, weight_of, weight_taken, IsDeque, Holds}
use Rattle.steal_rule.specs.Plays.{Mine, Swapped}
use Rattle.steal_rule.proofs.ListLaws.{still_empty, index_of, fits_set, still_owner}

-- the gone cells of one who found the cell i empty
gone_more : (cells : List ℕ) (pushed : List Job) (i : ℕ) (v : View) → slice_index cells i ≡ 0 → (v.owns ≡ true → v.pushed ≡ pushed) → All (IsGone cells pushed) v.gone
    → (b c : Bool) → v.owns ≡ b → nat_lt i (length v.pushed) ≡ c → All (IsGone cells pushed) (if b && c then v.gone ++ i ∷ [] else v.gone)
gone_more cells pushed i v zero' own gone true true is in' = All-push (IsGone cells pushed) v.gone i gone (subst (λ (l : List Job). i < length l) (own is) (ltb-true i (length v.pushed) in'), zero')
gone_more cells pushed i v zero' own gone true false is in' = gone
gone_more cells pushed i v zero' own gone false c is in' = gone

-- the cell was empty
pub finds_nothing : (cells : List ℕ) (views : List View) (id i : ℕ) (v : View) → IsDeque cells views → get_elem? views id ≡ some v → v.live ≡ true → slice_index cells i ≡ 0
    → IsDeque cells (set views id (passed i v))
finds_nothing cells views id i v h at live zero' =
    let w = passed i v in
    let fit = h.fits id v at in
    record {
      owner = h.owner;
      pushed = h.pushed;
      owned = still_owner views h.owner id v w at refl h.owned;
      size = h.size;
      room = h.room;
      jobs = h.jobs;
      full = h.full;
      fits = fits_set (Fits cells h.pushed h.owner) (Fits cells h.pushed h.owner) views id w (λ j u f. f) h.fits record {
        owner = fit.owner;
        emptied = fit.emptied;
        gone = gone_more cells h.pushed i v zero' (λ b. (fit.owner b).1) fit.gone v.owns (nat_lt i (length v.pushed)) refl refl;
        parts = fit.parts;
        spent = λ dead. absurd (true≢false (sym live ∙ dead));
      };
      once = λ k low. let a = sum_set (times_emptied k) views id v w at in let b = h.once k low in omega arith;
      never = λ k far. let a = sum_set (times_emptied k) views id v w at in let b = h.never k far in omega arith;
      parts = let s = sum_set (λ (u : View). u.parts) views id v w at in let p = h.parts in omega arith;
      weighed = λ f. let s = sum_set (weight_taken f) views id v w at in let p = h.weighed f in omega arith;
    }

abbrev pub is_at : ℕ → ℕ → ℕ
is_at k i = if i == k then 1 else 0

pub hit : (k i : ℕ) → i ≡ k → is_at k i ≡ 1
hit k i e = ap (λ (b : Bool). if b then 1 else 0) (eq-eqb i k e)

pub miss : (k i : ℕ) → i ≢ k → is_at k i ≡ 0
miss k i n = ap (λ (b : Bool). if b then 1 else 0) (ne_eqb i k n)

pub full_is : (n : ℕ) → n ≢ 0 → is_full n ≡ 1
full_is n some' = ap (λ (b : Bool). if b then 0 else 1) (ne_eqb n 0 some')

pub empty_is : (n : ℕ) → n ≡ 0 → is_full n ≡ 0
empty_is n none' = ap (λ (b : Bool). if b then 0 else 1) (eq-eqb n 0 none')

-- the cell held a job
pub takes_one : (cells : List ℕ) (views : List View) (id i : ℕ) (v : View) → IsDeque cells views → i < 64 → get_elem? views id ≡ some v → v.live ≡ true → slice_index cells i ≢ 0
    → IsDeque (set cells i 0) (set views id (took i (job_of (slice_index cells i - 1)) v))
takes_one cells views id i v h low at live some_job =
    let job : Job = job_of (slice_index cells i - 1) in
    let w = took i job v in
    let fit = h.fits id v at in
    let cells' = set cells i 0 in
    let inside : i < length cells = subst (λ n. i < n) (sym h.size) low in
    let pushed : slice_get h.pushed i ≡ Some job = h.full i some_job in
    let zero' : slice_index cells' i ≡ 0 = get_or-set_same cells i 0 0 inside in
    record {
      owner = h.owner;
      pushed = h.pushed;
      owned = still_owner views h.owner id v w at refl h.owned;
      size = length-set cells i 0 ∙ h.size;
      room = h.room;
      jobs = h.jobs;
      full = λ k some'. dite (ℕ_discrete k i)
          (λ same. absurd (some' (ap (slice_index cells') same ∙ zero')))
          (λ apart. let e = get_or-set_other cells i k 0 0 apart in h.full k (λ z. some' (e ∙ z)) ∙ ap (λ n. Some (job_of (n - 1))) (sym e));
      fits = fits_set (Fits cells h.pushed h.owner) (Fits cells' h.pushed h.owner) views id w (λ j u f. emptier j u f) h.fits record {
        owner = fit.owner;
        emptied = All-push (IsEmptied cells' h.pushed) v.emptied (i, job) (emptier id v fit).emptied (pushed, zero');
        gone = (emptier id v fit).gone;
        parts = fit.parts;
        spent = λ dead. absurd (true≢false (sym live ∙ dead));
      };
      once = λ k in'.
          let a = sum_set (times_emptied k) views id v w at in
          let b = sum_by_push (λ (x : ℕ × Job). is_at k x.0) v.emptied (i, job) in
          let d = h.once k in' in dite (ℕ_discrete i k)
          (λ e.
          let c : is_at k i ≡ 1 = hit k i e in
          let f : is_full (slice_index cells k) ≡ 1 = full_is _ (subst (λ x. slice_index cells x ≢ 0) e some_job) in
          let g : is_full (slice_index cells' k) ≡ 0 = empty_is _ (ap (slice_index cells') (sym e) ∙ zero') in omega arith)
          (λ n.
          let c : is_at k i ≡ 0 = miss k i n in
          let g : is_full (slice_index cells' k) ≡ is_full (slice_index cells k) = ap is_full (get_or-set_other cells i k 0 0 (λ z. n (sym z))) in omega arith);
      never = λ k far. let a = sum_set (times_emptied k) views id v w at in let b = sum_by_push (λ (x : ℕ × Job). is_at k x.0) v.emptied (i, job) in
          let l = get_within h.pushed i job pushed in
          let c : is_at k i ≡ 0 = miss k i (λ z. omega arith) in
          let d = h.never k far in omega arith;
      parts = let s = sum_set (λ (u : View). u.parts) views id v w at in let p = h.parts in omega arith;
      weighed = λ f.
          let s = sum_set (weight_taken f) views id v w at in
          let p = h.weighed f in
          let more = sum_by_push (λ (e : ℕ × Job). f e.1) v.emptied (i, job) in
          let less = sum_by-set (weight_of f) cells i 0 0 inside in
          let was : weight_of f (get_or cells i 0) ≡ f job = ap (λ (b : Bool). if b then 0 else f job) (ne_eqb (slice_index cells i) 0 some_job) in
          omega arith;
    }
  where
    emptier : (j : ℕ) (u : View) → Fits cells h.pushed h.owner j u → Fits (set cells i 0) h.pushed h.owner j u
    emptier j u f = record {
      owner = f.owner;
      emptied = All-weaker (IsEmptied cells h.pushed) (IsEmptied (set cells i 0) h.pushed) (λ e p. (p.0, still_empty cells i e.0 p.1)) u.emptied f.emptied;
      gone = All-weaker (IsGone cells h.pushed) (IsGone (set cells i 0) h.pushed) (λ k p. (p.0, still_empty cells i k p.1)) u.gone f.gone;
      parts = f.parts;
      spent = f.spent;
    }

pub job_at : (cells : List ℕ) (views : List View) (i : ℕ) → IsDeque cells views → slice_index cells i ≢ 0 → IsJob (job_of (slice_index cells i - 1))
job_at cells views i h some_job =
    let job = job_of (slice_index cells i - 1) in
    let e = h.full i some_job in
    subst IsJob (index_of h.pushed i job job e) (h.jobs i job (get_within h.pushed i job e))

-- no view takes more than 64 jobs
few_more : (cells : List ℕ) (views : List View) (id i : ℕ) (v : View) → IsDeque cells views → i < 64 → get_elem? views id ≡ some v → slice_index cells i ≢ 0
    → length (took i (job_of (slice_index cells i - 1)) v).emptied ≤ 64
few_more cells views id i v h low at some_job =
    let one : Job → ℕ = λ _. 1 in
    let F : View → ℕ = weight_taken one in
    let r = there views id v at in
    let a = h.weighed one in
    let b = get_or-le-sum_by F views id v r.0 in
    let c : F (get_or views id v) ≡ F v = ap F r.1 in
    let d = sum_of_ones v.emptied in
    let e = sum_of_ones h.pushed in
    let f = h.room in
    let inside : i < length cells = subst (λ n. i < n) (sym h.size) low in
    let g = get_or-le-sum_by (weight_of one) cells i 0 inside in
    let was : weight_of one (get_or cells i 0) ≡ 1 = ap (λ (b : Bool). if b then 0 else 1) (ne_eqb (slice_index cells i) 0 some_job) in
    let l = length-append v.emptied ((i, job_of (slice_index cells i - 1)) ∷ []) in
    omega arith

abbrev pub SwappedIf : Bool → ℕ → ℕ → Mine → Mine → Type 0
SwappedIf b k found m n = MatchBool b (n ≡ (passed k m.0, m.1)) ((n ≡ (took k (job_of (found - 1)) m.0, m.1)) × IsJob (job_of (found - 1)) × (length n.0.emptied ≤ 64))

pub swaps : (slots id i : ℕ) (me : Mine) → i < 64 → me.0.live ≡ true → Allows Holds slots id me i (λ _. 0) (Swapped i me)
swaps slots id i me low live s h _ at _ = dite (ℕ_discrete (slice_index s.words i) 0)
    (λ is.
    let w = passed i me.0 in
    let inside : i < length s.words = subst (λ n. i < n) (sym h.size) low in
    let same : set s.words i 0 ≡ s.words = set_again s.words i 0 (at_index s.words i 0 inside (sym is)) in (
      w,
      keeps,
      tt,
      subst (λ cells. IsDeque cells (set s.views id w)) (sym same) (finds_nothing s.words s.views id i me.0 h at live is),
      subst (λ b. SwappedIf b i (slice_index s.words i) me (w, me.1)) (sym (eq-eqb (slice_index s.words i) 0 is)) refl,
    ))
    (λ some_job. let w = took i (job_of (slice_index s.words i - 1)) me.0 in (
      w,
      keeps,
      tt,
      takes_one s.words s.views id i me.0 h low at live some_job,
      subst (λ b. SwappedIf b i (slice_index s.words i) me (w, me.1)) (sym (ne_eqb (slice_index s.words i) 0 some_job)) (refl, job_at s.words s.views i h some_job, few_more s.words s.views id i me.0 h low at some_job),
    ))

-- a swap that found nothing
pub passed_of : (i : ℕ) (m n : Mine) (found : ℕ) → found ≤ 0 → Swapped i m found n → n ≡ (passed i m.0, m.1)
passed_of i m n found none' told = subst (λ b. SwappedIf b i found m n) (eq-eqb found 0 (omega arith)) told
