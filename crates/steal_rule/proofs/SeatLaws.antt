-- Splitting and joining keeps the rule.
use Rattle.std.proofs.Common.{◌≡◌, ℕ, ◌<◌, ◌≤◌, true, false, true≢false, set, sym, refl, ◌∙◌, subst, ⊎_elim, arith}
use Rattle.std.proofs.lemmas.List.Elements.{All-nil, All-append}
use Rattle.std.proofs.lemmas.List.Sums.{sum_by_push, sum_by-append}
use mathlib.Core.Option.{some}
use lib.ListN.{get_elem?}
use Rattle.atomic_table.specs.Table.{Splits, Joins}
use Rattle.atomic_table.proofs.Lists.{at_snoc, set_else}
use Rattle.common_lists.proofs.ListLaws.{sum_set}
use Rattle.plan_rule.specs.declared.job.Job.{Job}
use Rattle.steal_rule.specs.declared.rule.View.{View}
use Rattle.steal_rule.specs.Views.{without_parts, reach_of, gathered, spent}
use Rattle.steal_rule.specs.Rule.{IsEmptied, IsGone, Fits, times_emptied, weight_taken, Holds}
use Rattle.steal_rule.proofs.ListLaws.{fits_apart, still_owner, owner_before, owner_apart}
use Rattle.steal_rule.proofs.SwapLaws.{is_at}

-- a new reach takes n parts
pub cuts : (id : ℕ) (v : View) (n : ℕ) → v.live ≡ true → 0 < n → n ≤ v.parts → (v.owns ≡ false → n < v.parts) → Splits Holds id v (without_parts v n) (reach_of n)
cuts id v n live pos le more s h at =
    let w = without_parts v n in
    let fit = h.fits id v at in
    let views' = set s.views id w in
    record {
      owner = h.owner;
      pushed = h.pushed;
      owned = owner_before views' h.owner (reach_of n) (still_owner s.views h.owner id v w at refl h.owned);
      size = h.size;
      room = h.room;
      jobs = h.jobs;
      full = h.full;
      fits = λ j u e. ⊎_elim
          (λ was. fits_apart (Fits s.words h.pushed h.owner) s.views id w (λ k x _ g. h.fits k x g) record { owner = fit.owner; emptied = fit.emptied; gone = fit.gone; parts = λ l b. let m = more b in omega arith; spent = λ dead. absurd (true≢false (sym live ∙ dead)) } j u was)
          (λ (is : reach_of n ≡ u). subst (Fits s.words h.pushed h.owner j) is record {
            owner = λ b. absurd (true≢false (sym b));
            emptied = All-nil (IsEmptied s.words h.pushed);
            gone = All-nil (IsGone s.words h.pushed);
            parts = λ _ _. pos;
            spent = λ dead. absurd (true≢false dead);
          })
          (at_snoc views' (reach_of n) u j e);
      once = λ k low. let a = sum_set (times_emptied k) s.views id v w at in let q = sum_by_push (times_emptied k) views' (reach_of n) in let b = h.once k low in omega arith;
      never = λ k far. let a = sum_set (times_emptied k) s.views id v w at in let q = sum_by_push (times_emptied k) views' (reach_of n) in let b = h.never k far in omega arith;
      parts = let s' = sum_set (λ (u : View). u.parts) s.views id v w at in let q = sum_by_push (λ (u : View). u.parts) views' (reach_of n) in let p = h.parts in omega arith;
      weighed = λ f. let s' = sum_set (weight_taken f) s.views id v w at in let q = sum_by_push (weight_taken f) views' (reach_of n) in let p = h.weighed f in omega arith;
    }

-- the owner takes in a reach
pub takes_in : (id : ℕ) (v : View) (other : ℕ) (u : View) → v.live ≡ true → v.owns ≡ true → Joins Holds id v other u (gathered v u) spent
takes_in id v other u live owns' s h at apart there' =
    let w = gathered v u in
    let views' = set s.views id w in
    let was_there : get_elem? s.views other ≡ some u = sym (set_else s.views id other w apart) ∙ there' in
    let fit = h.fits id v at in
    let fit' = h.fits other u was_there in
    record {
      owner = h.owner;
      pushed = h.pushed;
      owned = owner_apart views' h.owner other spent (λ e. apart (sym e ∙ sym (fit.owner owns').0)) (still_owner s.views h.owner id v w at refl h.owned);
      size = h.size;
      room = h.room;
      jobs = h.jobs;
      full = h.full;
      fits = fits_apart (Fits s.words h.pushed h.owner) views' other spent
          (λ k x _ g. fits_apart (Fits s.words h.pushed h.owner) s.views id w (λ k x _ g. h.fits k x g) record {
            owner = fit.owner;
            emptied = All-append (IsEmptied s.words h.pushed) v.emptied u.emptied fit.emptied fit'.emptied;
            gone = fit.gone;
            parts = λ _ b. absurd (true≢false (sym owns' ∙ b));
            spent = λ dead. absurd (true≢false (sym live ∙ dead));
          } k x g)
          record {
            owner = λ b. absurd (true≢false (sym b));
            emptied = All-nil (IsEmptied s.words h.pushed);
            gone = All-nil (IsGone s.words h.pushed);
            parts = λ l. absurd (true≢false (sym l));
            spent = λ _. refl;
          };
      once = λ k low. let a = sum_set (times_emptied k) s.views id v w at in let b = sum_set (times_emptied k) views' other u spent there' in let c = sum_by-append (λ (e : ℕ × Job). is_at k e.0) v.emptied u.emptied in let p = h.once k low in omega arith;
      never = λ k far. let a = sum_set (times_emptied k) s.views id v w at in let b = sum_set (times_emptied k) views' other u spent there' in let c = sum_by-append (λ (e : ℕ × Job). is_at k e.0) v.emptied u.emptied in let p = h.never k far in omega arith;
      parts = let a = sum_set (λ (u : View). u.parts) s.views id v w at in let b = sum_set (λ (u : View). u.parts) views' other u spent there' in let p = h.parts in omega arith;
      weighed = λ f.
          let a = sum_set (weight_taken f) s.views id v w at in let b = sum_set (weight_taken f) views' other u spent there' in
          let c = sum_by-append (λ (e : ℕ × Job). f e.1) v.emptied u.emptied in let p = h.weighed f in omega arith;
    }
