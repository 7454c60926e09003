-- Lists of views and of jobs, where one element changes.
use Rattle.std.proofs.Common.{◌≡◌, ◌≢◌, ℕ, zero, suc, ◌+◌, List, [], ◌∷◌, ◌++◌, length, set, get_or, sym, refl, ap, ◌∙◌, subst, ⊎_elim, arith, Some}
use Rattle.std.specs.Prelude.{slice_index, slice_get}
use Rattle.std.specs.List.{sum_by}
use Rattle.std.proofs.lemmas.Option.{same_Some}
use mathlib.Core.Option.{some, some-ne-none, some-injective}
use mathlib.Core.Logic.{dite}
use native.Mathlib.Decide.{ℕ_discrete}
use lib.ListN.{get_elem?}
use Rattle.atomic_table.proofs.Lists.{at_set, set_here, set_else, at_longer}
use Rattle.common_lists.proofs.ListLaws.{there}
use Rattle.steal_rule.specs.declared.rule.View.{View}
use Rattle.steal_rule.specs.Rule.{HasOwner}

-- a cell that was empty still is
pub still_empty : (cells : List ℕ) (i k : ℕ) → slice_index cells k ≡ 0 → slice_index (set cells i 0) k ≡ 0
still_empty [] i k e = e
still_empty (c ∷ cs) zero zero e = refl
still_empty (c ∷ cs) zero (suc k) e = e
still_empty (c ∷ cs) (suc i) zero e = e
still_empty (c ∷ cs) (suc i) (suc k) e = still_empty cs i k e

pub index_of : {A : Type 0} (xs : List A) (k : ℕ) (x d : A) → slice_get xs k ≡ Some x → get_or xs k d ≡ x
index_of [] k x d e = absurd (cc)
index_of (y ∷ ys) zero x d e = same_Some y x e
index_of (y ∷ ys) (suc k) x d e = index_of ys k x d e

pub fits_set : (F G : ℕ → View → Type 0) (views : List View) (id : ℕ) (w : View) → ((j : ℕ) (u : View) → F j u → G j u) → ((j : ℕ) (u : View) → get_elem? views j ≡ some u → F j u) → G id w
    → (j : ℕ) (u : View) → get_elem? (set views id w) j ≡ some u → G j u
fits_set F G views id w more others mine j u e = ⊎_elim
    (λ (x : (j ≡ id) × (w ≡ u)). subst (λ (y : ℕ × View). G y.0 y.1) (λ i. (sym x.0 i, x.1 i)) mine)
    (λ (x : (j ≢ id) × (get_elem? views j ≡ some u)). more j u (others j u x.1))
    (at_set views id j w u e)

pub fits_apart : (G : ℕ → View → Type 0) (views : List View) (id : ℕ) (w : View) → ((j : ℕ) (u : View) → j ≢ id → get_elem? views j ≡ some u → G j u) → G id w
    → (j : ℕ) (u : View) → get_elem? (set views id w) j ≡ some u → G j u
fits_apart G views id w others mine j u e = ⊎_elim
    (λ (x : (j ≡ id) × (w ≡ u)). subst (λ (y : ℕ × View). G y.0 y.1) (λ i. (sym x.0 i, x.1 i)) mine)
    (λ (x : (j ≢ id) × (get_elem? views j ≡ some u)). others j u x.0 x.1)
    (at_set views id j w u e)

pub sum_none : {A : Type 0} (f : A → ℕ) (xs : List A) → length xs ≡ 0 → sum_by f xs ≡ 0
sum_none f [] e = refl
sum_none f (x ∷ xs) e = absurd (omega arith)

-- a change of one view, which owns where it did
pub still_owner : (views : List View) (owner id : ℕ) (v w : View) → get_elem? views id ≡ some v → w.owns ≡ v.owns → HasOwner views owner → HasOwner (set views id w) owner
still_owner views owner id v w at same (o, there', owns') = dite (ℕ_discrete owner id)
    (λ is.
    let o_is : o ≡ v = some-injective o v (sym there' ∙ ap (get_elem? views) is ∙ at) in
    (w, ap (get_elem? (set views id w)) is ∙ set_here views id w (there views id v at).0, same ∙ ap (λ (u : View). u.owns) (sym o_is) ∙ owns'))
    (λ apart. (o, set_else views id owner w apart ∙ there', owns'))

-- a change of another view
pub owner_apart : (views : List View) (owner id : ℕ) (w : View) → owner ≢ id → HasOwner views owner → HasOwner (set views id w) owner
owner_apart views owner id w apart (o, there', owns') = (o, set_else views id owner w apart ∙ there', owns')

-- one more view
pub owner_before : (views : List View) (owner : ℕ) (w : View) → HasOwner views owner → HasOwner (views ++ w ∷ []) owner
owner_before views owner w (o, there', owns') = (o, at_longer views (w ∷ []) owner o there', owns')
