-- The last swap: the owner that has all parts, and found each pushed cell empty, has all that was pushed.
use Rattle.std.proofs.Common.{◌≡◌, ◌≢◌, ℕ, zero, suc, ◌+◌, ◌-◌, ◌<◌, ◌⊎◌, Bool, true, false, List, [], ◌∷◌, length, set, get_or, if◌then◌else◌, sym, refl, ap, ◌∙◌, subst, inl, inr, ⊎_elim, arith, Contains, eq-eqb}
use Rattle.std.specs.Prelude.{slice_index}
use Rattle.std.specs.List.{sum_by}
use Rattle.std.proofs.lemmas.List.Elements.{All-contains}
use Rattle.std.proofs.lemmas.List.Sums.{sum_by-cons, get_or-le-sum_by}
use mathlib.Core.Option.{some, some-ne-none, some-injective}
use mathlib.Core.Logic.{dite}
use native.Mathlib.Decide.{ℕ_discrete}
use lib.ListN.{get_elem?}
use Rattle.atomic_table.specs.Table.{keeps, Allows}
use Rattle.atomic_table.proofs.Lists.{at_index, set_again}
use Rattle.common_lists.proofs.ListLaws.{sum_of_ones, there, get_within}
use Rattle.plan_rule.specs.declared.job.Job.{Job}
use Rattle.steal_rule.specs.declared.rule.View.{View}
use Rattle.steal_rule.specs.Views.{job_of, passed}
use Rattle.steal_rule.specs.Rule.{IsGone, Fits, weight_of, weight_taken, IsDeque, Holds}
use Rattle.steal_rule.specs.Plays.{Mine, Settled}
use Rattle.steal_rule.specs.Deques.{Reaching}
use Rattle.steal_rule.proofs.SwapLaws.{finds_nothing}

true_or_false : (b : Bool) → (b ≡ true) ⊎ (b ≡ false)
true_or_false true = inl refl
true_or_false false = inr refl

no_parts : (f : View → ℕ) (views : List View) → ((j : ℕ) (u : View) → get_elem? views j ≡ some u → u.parts ≡ 0 → f u ≡ 0) → sum_by (λ (u : View). u.parts) views ≡ 0 → sum_by f views ≡ 0
no_parts f [] none' total = refl
no_parts f (x ∷ xs) none' total =
    let a = sum_by-cons (λ (u : View). u.parts) x xs in
    let b = sum_by-cons f x xs in
    let c = none' 0 x refl (omega arith) in
    let d = no_parts f xs (λ j u e. none' (suc j) u e) (omega arith) in
    omega arith

-- where one view has all parts, the total is its own
lone : (f : View → ℕ) (views : List View) (id : ℕ) (v : View) → get_elem? views id ≡ some v → ((j : ℕ) (u : View) → j ≢ id → get_elem? views j ≡ some u → u.parts ≡ 0 → f u ≡ 0)
    → sum_by (λ (u : View). u.parts) views ≡ v.parts → sum_by f views ≡ f v
lone f [] id v at none' total = absurd (some-ne-none v (sym at))
lone f (x ∷ xs) zero v at none' total =
    let is = some-injective x v at in
    let a = sum_by-cons (λ (u : View). u.parts) x xs in
    let b = sum_by-cons f x xs in
    let p : x.parts ≡ v.parts = ap (λ (u : View). u.parts) is in
    let q : f x ≡ f v = ap f is in
    let d = no_parts f xs (λ j u e. none' (suc j) u (λ z. omega arith) e) (omega arith) in
    omega arith
lone f (x ∷ xs) (suc id) v at none' total =
    let a = sum_by-cons (λ (u : View). u.parts) x xs in
    let b = sum_by-cons f x xs in
    let r = there xs id v at in
    let m = get_or-le-sum_by (λ (u : View). u.parts) xs id v r.0 in
    let p : (get_or xs id v).parts ≡ v.parts = ap (λ (u : View). u.parts) r.1 in
    let c = none' 0 x (λ z. omega arith) refl (omega arith) in
    let d = lone f xs id v at (λ j u n e. none' (suc j) u (λ z. n (omega arith)) e) (omega arith) in
    omega arith

no_jobs : (f : Job → ℕ) (cells : List ℕ) → ((k : ℕ) → slice_index cells k ≡ 0) → sum_by (weight_of f) cells ≡ 0
no_jobs f [] empty = refl
no_jobs f (c ∷ cs) empty =
    let a = sum_by-cons (weight_of f) c cs in
    let b : weight_of f c ≡ 0 = ap (λ (x : Bool). if x then 0 else f (job_of (c - 1))) (eq-eqb c 0 (empty 0)) in
    let d = no_jobs f cs (λ k. empty (suc k)) in
    omega arith

-- a view with no part that is not the owner's has taken nothing
dead : (cells : List ℕ) (pushed : List Job) (owner_id : ℕ) (f : Job → ℕ) (j : ℕ) (u : View) → Fits cells pushed owner_id j u → (u.owns ≢ true) → u.parts ≡ 0 → weight_taken f u ≡ 0
dead cells pushed owner_id f j u fit other none' = ⊎_elim
    (λ (is : u.live ≡ true). ⊎_elim (λ (b : u.owns ≡ true). absurd (other b)) (λ (b : u.owns ≡ false). let p = fit.parts is b in absurd (omega arith)) (true_or_false u.owns))
    (λ (is : u.live ≡ false). ap (λ (x : View). weight_taken f x) (fit.spent is))
    (true_or_false u.live)

-- where the owner has found each cell empty that it had pushed to, no cell has a job
pub none_left : (cells : List ℕ) (views : List View) (id : ℕ) (v : View) → (h : IsDeque cells views) → get_elem? views id ≡ some v → v.owns ≡ true
    → ((k : ℕ) → k < length v.pushed → Contains v.gone k) → (k : ℕ) → slice_index cells k ≡ 0
none_left cells views id v h at owns' gone k =
    let fit = h.fits id v at in
    let own = fit.owner owns' in
    dite (ℕ_discrete (slice_index cells k) 0) (λ e. e) (λ n.
    let in' : k < length h.pushed = get_within h.pushed k (job_of (slice_index cells k - 1)) (h.full k n) in
    absurd (n (All-contains (IsGone cells h.pushed) v.gone k fit.gone (gone k (subst (λ (l : List Job). k < length l) (sym own.1) in'))).1))

pub settles : (slots id : ℕ) (me : Mine) → me.0.live ≡ true → me.0.owns ≡ true → me.0.parts ≡ 16 → ((k : ℕ) → k < length me.0.pushed → Contains me.0.gone k) → Allows Holds slots id me 0 (λ _. 0) (λ _ n. Settled me n)
settles slots id me live owns' parts' gone s h _ at _ =
    let v = me.0 in
    let own = (h.fits id v at).owner owns' in
    let empty = none_left s.words s.views id v h at owns' gone in
    let inside : 0 < length s.words = subst (λ n. 0 < n) (sym h.size) (omega arith) in
    let same : set s.words 0 0 ≡ s.words = set_again s.words 0 0 (at_index s.words 0 0 inside (sym (empty 0))) in
    let w = passed 0 v in (
      w,
      keeps,
      tt,
      subst (λ cells. IsDeque cells (set s.views id w)) (sym same) (finds_nothing s.words s.views id 0 v h at live (empty 0)),
      (
        refl,
        λ f.
            let a = h.weighed f in
            let b = no_jobs f s.words empty in
            let c : sum_by (weight_taken f) s.views ≡ weight_taken f v = lone (weight_taken f) s.views id v at (λ j u apart e none'. dead s.words h.pushed h.owner f j u (h.fits j u e) (λ is. apart (((h.fits j u e).owner is).0 ∙ sym own.0)) none') (h.parts ∙ sym parts') in
            let d : sum_by f v.pushed ≡ sum_by f h.pushed = ap (sum_by f) own.1 in
            omega arith,
      ),
    )

lengths : (reaches : List Reaching) → sum_by (λ (r : Reaching). sum_by (λ (j : Job). 1) r.stolen) reaches ≡ sum_by (λ (r : Reaching). length r.stolen) reaches
lengths [] = refl
lengths (r ∷ rs) =
    let a = sum_by-cons (λ (r : Reaching). sum_by (λ (j : Job). 1) r.stolen) r rs in
    let b = sum_by-cons (λ (r : Reaching). length r.stolen) r rs in
    let c = sum_of_ones r.stolen in let d = lengths rs in omega arith

-- how many jobs were stolen
pub stolen_count : (pushed popped : List Job) (reaches : List Reaching) → ((h : Job → ℕ) → sum_by h pushed ≡ sum_by h popped + sum_by (λ (r : Reaching). sum_by h r.stolen) reaches)
    → length pushed ≡ length popped + sum_by (λ (r : Reaching). length r.stolen) reaches
stolen_count pushed popped reaches taken = let a = taken (λ _. 1) in let b = sum_of_ones pushed in let c = sum_of_ones popped in let d = lengths reaches in omega arith
