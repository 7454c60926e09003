-- The start of a deque, and a push, keep the rule.
use Rattle.std.proofs.Common.{◌≡◌, ℕ, zero, suc, ◌+◌, ◌-◌, ◌<◌, Bool, true, true≢false, List, [], ◌∷◌, ◌++◌, length, set, get_or, if◌then◌else◌, sym, refl, ap, ◌∙◌, subst, arith, All, Some, replicate, length-append, length-set, get_or-set_same, get_or-set_other, ne_eqb, eq-eqb}
use Rattle.std.specs.Prelude.{slice_index, slice_get}
use Rattle.std.proofs.lemmas.List.Elements.{All-nil, All-push, All-weaker}
use Rattle.std.proofs.lemmas.List.Sums.{sum_by-set, sum_by_push}
use mathlib.Core.Option.{some, some-ne-none, some-injective}
use mathlib.Core.Logic.{dite}
use native.Mathlib.Decide.{ℕ_discrete}
use lib.ListN.{get_elem?}
use Rattle.atomic_table.specs.Table.{keeps, Allows}
use Rattle.common_lists.proofs.ListLaws.{get_last, get_within, get_more, sum_set}
use Rattle.plan_rule.specs.declared.job.Job.{Job}
use Rattle.plan_rule.specs.Jobs.{IsJob, word}
use Rattle.steal_rule.specs.declared.rule.View.{View}
use Rattle.steal_rule.specs.Views.{job_of, opening, filled}
use Rattle.steal_rule.specs.Rule.{IsEmptied, IsGone, Fits, times_emptied, is_full, weight_of, weight_taken, IsDeque, Holds}
use Rattle.steal_rule.specs.Plays.{Mine, Pushed}
use Rattle.steal_rule.proofs.ListLaws.{fits_apart, still_owner}
use Rattle.steal_rule.proofs.JobWordLaws.{job_of_next}
use Rattle.steal_rule.proofs.SwapLaws.{full_is}

-- the start of a deque
pub opens : IsDeque (replicate 64 0) (opening ∷ [])
opens = record {
  owner = 0;
  pushed = [];
  owned = (opening, refl, refl);
  size = refl;
  room = omega arith;
  jobs = All-nil IsJob;
  full = λ k some'. absurd (some' (zeros 64 k));
  fits = fits_begin;
  once = λ k low. absurd (omega arith);
  never = λ k far. refl;
  parts = refl;
  weighed = λ f. refl;
}
  where
    zeros : (n k : ℕ) → slice_index (replicate n 0) k ≡ 0
    zeros zero k = refl
    zeros (suc n) zero = refl
    zeros (suc n) (suc k) = zeros n k

    fits_begin : (id : ℕ) (v : View) → get_elem? (opening ∷ []) id ≡ some v → Fits (replicate 64 0) [] 0 id v
    fits_begin zero v e = subst (Fits (replicate 64 0) [] 0 0) (some-injective _ _ e) record {
      owner = λ _. (refl, refl);
      emptied = All-nil (IsEmptied (replicate 64 0) []);
      gone = All-nil (IsGone (replicate 64 0) []);
      parts = λ _ owns'. absurd (true≢false owns');
      spent = λ dead. absurd (true≢false dead);
    }
    fits_begin (suc id) v e = absurd (some-ne-none v (sym e))

longer_emptied : (cells : List ℕ) (pushed : List Job) (i n : ℕ) (job : Job) → i ≡ length pushed → (es : List (ℕ × Job)) → All (IsEmptied cells pushed) es → All (IsEmptied (set cells i n) (pushed ++ job ∷ [])) es
longer_emptied cells pushed i n job end' es all = All-weaker (IsEmptied cells pushed) (IsEmptied (set cells i n) (pushed ++ job ∷ []))
    (λ e p. (get_more pushed job e.0 e.1 p.0, get_or-set_other cells i e.0 n 0 (λ z. let l = get_within pushed e.0 e.1 p.0 in omega arith) ∙ p.1)) es all

longer_gone : (cells : List ℕ) (pushed : List Job) (i n : ℕ) (job : Job) → i ≡ length pushed → (ks : List ℕ) → All (IsGone cells pushed) ks → All (IsGone (set cells i n) (pushed ++ job ∷ [])) ks
longer_gone cells pushed i n job end' ks all = All-weaker (IsGone cells pushed) (IsGone (set cells i n) (pushed ++ job ∷ []))
    (λ k p. let l = length-append pushed (job ∷ []) in (omega (arith, p.0), get_or-set_other cells i k n 0 (λ z. omega (arith, p.0)) ∙ p.1)) ks all

-- a push of the job whose word is one less than the number that is stored
pub pushes : (slots id : ℕ) (me : Mine) (i : ℕ) (job : Job) → IsJob job → me.0.live ≡ true → me.0.owns ≡ true → i ≡ length me.0.pushed → i < 64
    → Allows Holds slots id me i (λ _. word job + 1) (λ _ n. n ≡ (filled me.0 job, me.1))
pushes slots id me i job good live owns' at_end low s h _ at _ =
    let number : ℕ = word job + 1 in
    let v = me.0 in
    let w = filled v job in
    let fit = h.fits id v at in
    let own = fit.owner owns' in
    let cells = s.words in
    let cells' = set cells i number in
    let pushed' = h.pushed ++ job ∷ [] in
    let end' : i ≡ length h.pushed = at_end ∙ ap length own.1 in
    let inside : i < length cells = subst (λ n. i < n) (sym h.size) low in
    let new : slice_index cells' i ≡ number = get_or-set_same cells i number 0 inside in
    let read : job_of (number - 1) ≡ job = job_of_next job good.length in
    let was : slice_index cells i ≡ 0 = dite (ℕ_discrete (slice_index cells i) 0) (λ e. e) (λ n. let l = get_within h.pushed i (job_of (slice_index cells i - 1)) (h.full i n) in absurd (omega arith)) in
    let l = length-append h.pushed (job ∷ []) in (
      w,
      keeps,
      tt,
      record {
        owner = h.owner;
        pushed = pushed';
        owned = still_owner s.views h.owner id v w at refl h.owned;
        size = length-set cells i number ∙ h.size;
        room = omega arith;
        jobs = All-push IsJob h.pushed job h.jobs good;
        full = λ k some'. dite (ℕ_discrete k i)
            (λ same. ap (slice_get pushed') (same ∙ end') ∙ get_last h.pushed job ∙ ap (λ (x : Job). Some x) (sym read) ∙ ap (λ (n : ℕ). Some (job_of (n - 1))) (sym (ap (slice_index cells') same ∙ new)))
            (λ apart. let e = get_or-set_other cells i k number 0 apart in get_more h.pushed job k (job_of (slice_index cells' k - 1)) (h.full k (λ z. some' (e ∙ z)) ∙ ap (λ n. Some (job_of (n - 1))) (sym e)));
        fits = fits_apart (Fits cells' pushed' h.owner) s.views id w
            (λ j u apart e. let f = h.fits j u e in record {
              owner = λ b. absurd (apart ((f.owner b).0 ∙ sym own.0));
              emptied = longer_emptied cells h.pushed i number job end' u.emptied f.emptied;
              gone = longer_gone cells h.pushed i number job end' u.gone f.gone;
              parts = f.parts;
              spent = f.spent;
            })
            record {
              owner = λ _. (own.0, ap (λ l. l ++ job ∷ []) own.1);
              emptied = longer_emptied cells h.pushed i number job end' v.emptied fit.emptied;
              gone = longer_gone cells h.pushed i number job end' v.gone fit.gone;
              parts = fit.parts;
              spent = λ dead. absurd (true≢false (sym live ∙ dead));
            };
        once = λ k in'. let a = sum_set (times_emptied k) s.views id v w at in dite (ℕ_discrete k i)
            (λ e.
            let b = h.never k (omega arith) in
            let f : is_full (slice_index cells' k) ≡ 1 = ap is_full (ap (slice_index cells') e ∙ new) ∙ full_is number (λ z. omega arith) in omega arith)
            (λ apart.
            let b = h.once k (omega arith) in
            let f : is_full (slice_index cells' k) ≡ is_full (slice_index cells k) = ap is_full (get_or-set_other cells i k number 0 apart) in omega arith);
        never = λ k far. let a = sum_set (times_emptied k) s.views id v w at in let b = h.never k (omega arith) in omega arith;
        parts = let s' = sum_set (λ (u : View). u.parts) s.views id v w at in let p = h.parts in omega arith;
        weighed = λ f.
            let s' = sum_set (weight_taken f) s.views id v w at in
            let p = h.weighed f in
            let more = sum_by_push f h.pushed job in
            let less = sum_by-set (weight_of f) cells i number 0 inside in
            let none' : weight_of f (get_or cells i 0) ≡ 0 = ap (λ (b : Bool). if b then 0 else f (job_of (slice_index cells i - 1))) (eq-eqb (slice_index cells i) 0 was) in
            let some' : weight_of f number ≡ f job = ap (λ (b : Bool). if b then 0 else f (job_of (number - 1))) (ne_eqb number 0 (λ e. omega arith)) ∙ ap f read in
            omega arith;
      },
      refl,
    )

pub pushes_word : (slots id : ℕ) (me : Mine) (i n : ℕ) (job : Job) → n ≡ word job → IsJob job → me.0.live ≡ true → me.0.owns ≡ true → i ≡ length me.0.pushed → i < 64
    → Allows Holds slots id me i (λ _. n + 1) (λ _ m. Pushed (n + 1) me m)
pushes_word slots id me i n job is good live owns' at_end low =
    subst (λ (k : ℕ). Allows Holds slots id me i (λ _. k + 1) (λ _ m. Pushed (k + 1) me m)) (sym is)
    (subst (λ (x : Job). Allows Holds slots id me i (λ _. word job + 1) (λ _ (m : Mine). m ≡ (filled me.0 x, me.1))) (sym (job_of_next job good.length)) (pushes slots id me i job good live owns' at_end low))
