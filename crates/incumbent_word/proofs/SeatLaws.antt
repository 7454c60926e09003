-- Splitting and joining seats keeps the rule.
use Rattle.std.proofs.Common.{◌≡◌, ◌≢◌, ℕ, ◌≤◌, true≢false, List, [], ◌∷◌, ◌++◌, None, set, refl, sym, ap, ◌∙◌, subst, inl, inr, ⊎_elim, le_refl, arith, Contains}
use Rattle.std.specs.List.{sum_by}
use Rattle.std.proofs.lemmas.List.Elements.{All-nil, All-append, Contains-append_left, Contains-append_right}
use Rattle.std.proofs.lemmas.List.Sums.{sum_by_push}
use mathlib.Core.Option.{some}
use mathlib.Core.Logic.{dite}
use native.Mathlib.Decide.{ℕ_discrete}
use lib.ListN.{get_elem?}
use Rattle.atomic_table.specs.Table.{Splits, Joins}
use Rattle.atomic_table.proofs.Lists.{at_snoc, set_again, set_else, at_longer}
use Rattle.common_lists.proofs.ListLaws.{sum_set}
use Rattle.shape_exact.specs.Yards.{PlainYard}
use Rattle.plan_rule.specs.Plans.{IsFeasible}
use Rattle.plan_rule.specs.Paths.{key}
use Rattle.plan_rule.specs.Yards.{choices}
use Rattle.incumbent_word.specs.declared.rule.View.{View}
use Rattle.incumbent_word.specs.Views.{spent, apart_of, both_of}
use Rattle.incumbent_word.specs.Rule.{best_key, holds_turn, WasOffered, IsKept}
use Rattle.incumbent_word.proofs.ViewLaws.{at_here, same_view, fits, fits_set, Fits}
use Rattle.incumbent_word.proofs.TurnLaws.{no_turn}

module _ (yard : PlainYard) where
  pub splits : (id : ℕ) (v : View) → Splits (IsKept yard) id v v (apart_of v)
  splits id v s h at =
      let fit = fits yard s h id v at in
      let n = best_key s in
      let same : set s.views id v ≡ s.views = set_again s.views id v at in
      let apart : Fits yard n (apart_of v) = record {
        own = record { same = fit.own.same; feasible = All-nil (IsFeasible (choices yard)) };
        low = record { seen = fit.low.seen; offered = All-nil (λ p. n ≤ key (choices yard) p) };
      } in
      let each = λ (j : ℕ) (u : View) (e : get_elem? (set s.views id v ++ apart_of v ∷ []) j ≡ some u). ⊎_elim
      (λ was. fits yard s h j u (subst (λ l. get_elem? l j ≡ some u) same was))
      (λ (is : apart_of v ≡ u). subst (Fits yard n) is apart)
      (at_snoc (set s.views id v) (apart_of v) u j e) in
      record {
        words = h.words;
        slots = h.slots;
        number = h.number;
        yards = λ j u e. (each j u e).own;
        best = ⊎_elim inl (λ (was : WasOffered yard s.views n). inr (was.0, was.1, at_longer (set s.views id v) (apart_of v ∷ []) was.0 was.1 (subst (λ l. get_elem? l was.0 ≡ some was.1) (sym same) was.2), was.3)) h.best;
        least = λ j u e. (each j u e).low;
        turns = λ j is. let t = h.turns j is in record {
          holders = let a = sum_by_push (holds_turn j) (set s.views id v) (apart_of v) in let b = t.holders in let c = no_turn j (apart_of v) refl in
              let d : sum_by (holds_turn j) (set s.views id v) ≡ sum_by (holds_turn j) s.views = ap (sum_by (holds_turn j)) same in omega arith;
          one = t.one;
          free = t.free;
          taken = t.taken;
        };
        capsules = h.capsules;
      }

  -- an offer of either view is an offer of both
  offer_joined : (n : ℕ) (views : List View) (id : ℕ) (v : View) (other : ℕ) (u : View) → get_elem? views id ≡ some v → other ≢ id → get_elem? views other ≡ some u
      → WasOffered yard views n → WasOffered yard (set (set views id (both_of v u)) other spent) n
  offer_joined n views id v other u at apart there' o =
      let w = both_of v u in
      let views' = set views id w in
      let here : get_elem? (set views' other spent) id ≡ some w = set_else views' other id spent (λ e. apart (sym e)) ∙ at_here views id v w at in
      dite (ℕ_discrete o.0 other)
      (λ same. (id, w, here, (o.3.0, Contains-append_right v.offered u.offered o.3.0 (subst (λ (x : View). Contains x.offered o.3.0) (same_view views o.0 other o.1 u same o.2 there') o.3.1), o.3.2)))
      (λ far. dite (ℕ_discrete o.0 id)
      (λ mine. (id, w, here, (o.3.0, Contains-append_left v.offered u.offered o.3.0 (subst (λ (x : View). Contains x.offered o.3.0) (same_view views o.0 id o.1 v mine o.2 at) o.3.1), o.3.2)))
      (λ apart'. (o.0, o.1, set_else views' other o.0 spent far ∙ set_else views id o.0 w apart' ∙ o.2, o.3)))

  pub joins : (id : ℕ) (v : View) (other : ℕ) (u : View) → u.turn ≡ None → Joins (IsKept yard) id v other u (both_of v u) spent
  joins id v other u idle s h at apart there' =
      let w = both_of v u in
      let views' = set s.views id w in
      let n = best_key s in
      let was : get_elem? s.views other ≡ some u = sym (set_else s.views id other w apart) ∙ there' in
      let fit = fits yard s h id v at in
      let fit' = fits yard s h other u was in
      let both : Fits yard n w = record {
        own = record { same = fit.own.same; feasible = All-append (IsFeasible (choices yard)) v.offered u.offered fit.own.feasible fit'.own.feasible };
        low = record {
          seen = All-append (λ x. n ≤ x) v.seen u.seen fit.low.seen fit'.low.seen;
          offered = All-append (λ p. n ≤ key (choices yard) p) v.offered u.offered fit.low.offered fit'.low.offered;
        };
      } in
      let over : Fits yard n spent = record {
        own = record { same = λ l. absurd (true≢false (sym l)); feasible = All-nil (IsFeasible (choices yard)) };
        low = record { seen = All-nil (λ x. n ≤ x); offered = All-nil (λ p. n ≤ key (choices yard) p) };
      } in
      let each = fits_set yard n n views' other spent (le_refl n) (fits_set yard n n s.views id w (le_refl n) (fits yard s h) both) over in
      record {
        words = h.words;
        slots = h.slots;
        number = h.number;
        yards = λ j x e. (each j x e).own;
        best = ⊎_elim inl (λ o. inr (offer_joined n s.views id v other u at apart was o)) h.best;
        least = λ j x e. (each j x e).low;
        turns = λ j is. let t = h.turns j is in record {
          holders = let a = sum_set (holds_turn j) s.views id v w at in let b = sum_set (holds_turn j) views' other u spent there' in let c = t.holders in
              let d = no_turn j u idle in let e = no_turn j spent refl in omega arith;
          one = t.one;
          free = t.free;
          taken = t.taken;
        };
        capsules = h.capsules;
      }
