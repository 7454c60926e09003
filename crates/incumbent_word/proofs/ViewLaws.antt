-- What the rule says of each view, where one view changes.
use Rattle.std.proofs.Common.{◌≡◌, ◌≢◌, ℕ, zero, suc, ◌≤◌, List, [], ◌∷◌, set, sym, refl, ap, ◌∙◌, subst, inl, inr, ⊎_elim, le_trans, All, Contains}
use Rattle.std.proofs.lemmas.List.Elements.{All-weaker, All-contains}
use mathlib.Core.Option.{some, some-ne-none, some-injective}
use mathlib.Core.Logic.{dite}
use native.Mathlib.Decide.{ℕ_discrete}
use lib.ListN.{get_elem?}
use Rattle.atomic_table.specs.Table.{State}
use Rattle.atomic_table.proofs.Lists.{at_set, set_else}
use Rattle.shape_exact.specs.Yards.{PlainYard}
use Rattle.plan_rule.specs.Plans.{IsFeasible}
use Rattle.plan_rule.specs.Paths.{key}
use Rattle.plan_rule.specs.Reports.{IsBar}
use Rattle.plan_rule.specs.Yards.{choices}
use Rattle.incumbent_word.specs.declared.rule.View.{View}
use Rattle.incumbent_word.specs.Rule.{Content, best_key, EachView, HasYard, IsLeast, IsOffered, WasOffered, IsKept}

pub at_here : (views : List View) (id : ℕ) (v w : View) → get_elem? views id ≡ some v → get_elem? (set views id w) id ≡ some w
at_here [] id v w at = absurd (some-ne-none v (sym at))
at_here (x ∷ xs) zero v w at = refl
at_here (x ∷ xs) (suc id) v w at = at_here xs id v w at

pub same_view : (views : List View) (i j : ℕ) (u v : View) → i ≡ j → get_elem? views i ≡ some u → get_elem? views j ≡ some v → u ≡ v
same_view views i j u v e a b = some-injective u v (sym a ∙ ap (get_elem? views) e ∙ b)

-- a view that a step on a turn word leaves: the turn and the finds alone may differ
pub record IsLike (v w : View) : Type 0 where
  pub live : w.live ≡ v.live
  pub yard : w.yard ≡ v.yard
  pub seen : w.seen ≡ v.seen
  pub offered : w.offered ≡ v.offered

-- both facts that the rule keeps of each view
pub record Fits (yard : PlainYard) (n : ℕ) (v : View) : Type 0 where
  pub own : HasYard yard v
  pub low : IsLeast yard n v

module _ (yard : PlainYard) where
  pub fits : (s : State Content View) → IsKept yard s → EachView s.views (Fits yard (best_key s))
  fits s h id v at = record { own = h.yards id v at; low = h.least id v at }

  pub lower : (n k : ℕ) (v : View) → k ≤ n → Fits yard n v → Fits yard k v
  lower n k v le fit = record {
    own = fit.own;
    low = record {
      seen = All-weaker (λ x. n ≤ x) (λ x. k ≤ x) (λ x h. le_trans le h) v.seen fit.low.seen;
      offered = All-weaker (λ p. n ≤ key (choices yard) p) (λ p. k ≤ key (choices yard) p) (λ p h. le_trans le h) v.offered fit.low.offered;
    };
  }

  pub fits_like : (n : ℕ) (v w : View) → IsLike v w → Fits yard n v → Fits yard n w
  fits_like n v w like fit = record {
    own = record {
      same = λ l. like.yard ∙ fit.own.same (sym like.live ∙ l);
      feasible = subst (λ l. All (IsFeasible (choices yard)) l) (sym like.offered) fit.own.feasible;
    };
    low = record {
      seen = subst (λ (l : List ℕ). All (λ x. n ≤ x) l) (sym like.seen) fit.low.seen;
      offered = subst (λ (l : List (List ℕ)). All (λ p. n ≤ key (choices yard) p) l) (sym like.offered) fit.low.offered;
    };
  }

  pub fits_set : (n k : ℕ) (views : List View) (id : ℕ) (w : View) → k ≤ n → EachView views (Fits yard n) → Fits yard k w
      → EachView (set views id w) (Fits yard k)
  fits_set n k views id w le others mine j u e = ⊎_elim
      (λ (x : (j ≡ id) × (w ≡ u)). subst (Fits yard k) x.1 mine)
      (λ (x : (j ≢ id) × (get_elem? views j ≡ some u)). lower n k u le (others j u x.1))
      (at_set views id j w u e)

  -- an offer stays where the view that has it keeps its offers
  pub offer_set : (n : ℕ) (views : List View) (id : ℕ) (v w : View) → get_elem? views id ≡ some v → ((p : List ℕ) → Contains v.offered p → Contains w.offered p)
      → WasOffered yard views n → WasOffered yard (set views id w) n
  offer_set n views id v w at more was = dite (ℕ_discrete was.0 id)
      (λ same. (id, w, at_here views id v w at, (was.3.0, more was.3.0 (subst (λ (u : View). Contains u.offered was.3.0) (same_view views was.0 id was.1 v same was.2 at) was.3.1), was.3.2)))
      (λ apart. (was.0, was.1, set_else views id was.0 w apart ∙ was.2, was.3))

  pub offered_set : (n : ℕ) (views : List View) (id : ℕ) (v w : View) → get_elem? views id ≡ some v → ((p : List ℕ) → Contains v.offered p → Contains w.offered p)
      → IsOffered yard views n → IsOffered yard (set views id w) n
  offered_set n views id v w at more = ⊎_elim inl (λ was. inr (offer_set n views id v w at more was))

  -- the best key is the greatest u64, or the key of a feasible plan
  pub is_bar : (n : ℕ) (views : List View) → EachView views (Fits yard n) → IsOffered yard views n → IsBar (choices yard) n
  is_bar n views each found = ⊎_elim inl (λ (was : WasOffered yard views n). inr (was.3.0, All-contains (IsFeasible (choices yard)) was.1.offered was.3.0 (each was.0 was.1 was.2).own.feasible was.3.1, was.3.2)) found
