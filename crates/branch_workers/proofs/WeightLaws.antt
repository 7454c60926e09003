-- What weights of jobs tell of their lists.
use Rattle.std.proofs.Common.{◌≡◌, ℕ, zero, suc, ◌+◌, ◌<◌, ◌≤◌, List, [], ◌∷◌, length, map, Bool, true, false, refl, sym, ap, ap₂, ◌∙◌, subst, inl, inr, arith}
use Rattle.std.specs.Prelude.{if◌then◌else◌, ◌==◌, ◌&&◌}
use Rattle.std.specs.List.{All, Contains, sum_by}
use Rattle.std.proofs.lemmas.Bool.{cases_eq, eq-eqb, ne_eqb}
use Rattle.std.proofs.lemmas.List.Elements.{All-contains, All-contains_itself, All-weaker}
use Rattle.std.proofs.lemmas.List.Sums.{sum_by-cons}
use Rattle.plan_rule.specs.declared.job.Job.{Job}

-- 1 for this job, and 0 for any other
abbrev pub is_job : Job → Job → ℕ
is_job j i = if (i.front == j.front) && (i.length == j.length) then 1 else 0

pub is_self : (j : Job) → is_job j j ≡ 1
is_self j = ap (λ (b : Bool). if b then 1 else 0) (ap₂ ◌&&◌ (eq-eqb j.front j.front refl) (eq-eqb j.length j.length refl))

pub same_is : (j i : Job) → 0 < is_job j i → i ≡ j
same_is j i l = elim (cases_eq i.front j.front) [
  | inl e ↦ elim (cases_eq i.length j.length) [
    | inl f ↦ (λ k. record { front = e k; length = f k })
    | inr other ↦ (let z : is_job j i ≡ 0 = ap (λ (b : Bool). if b then 1 else 0) (ap₂ ◌&&◌ (eq-eqb i.front j.front e) (ne_eqb i.length j.length other)) in absurd (omega arith))
  ]
  | inr other ↦ (let z : is_job j i ≡ 0 = ap (λ (b : Bool). if b && (i.length == j.length) then 1 else 0) (ne_eqb i.front j.front other) in absurd (omega arith))
]

weighs_here : {X : Type 0} (f : X → ℕ) (x : X) (xs : List X) (n : ℕ) → f x ≡ n → 0 < sum_by f (x ∷ xs) → (0 < sum_by f xs → (y : X) × Contains xs y × (0 < f y)) → (y : X) × Contains (x ∷ xs) y × (0 < f y)
weighs_here f x xs zero e l rest = let a = sum_by-cons f x xs in let (y, (k, m, at), some) = rest (omega arith) in (y, (suc k, omega arith, at), some)
weighs_here f x xs (suc n) e l rest = (x, (0, omega arith, refl), omega arith)

-- where a sum is above 0, some element has a weight
pub some_weighs : {X : Type 0} (f : X → ℕ) (xs : List X) → 0 < sum_by f xs → (x : X) × Contains xs x × (0 < f x)
some_weighs f [] l = absurd (omega arith)
some_weighs f (x ∷ xs) l = weighs_here f x xs (f x) refl l (some_weighs f xs)

-- an element weighs no more than the whole list
pub member_weighs : {X : Type 0} (f : X → ℕ) (xs : List X) (x : X) → Contains xs x → f x ≤ sum_by f xs
member_weighs f [] x (k, l, e) = absurd (omega arith)
member_weighs f (y ∷ xs) x (zero, l, e) = let a = sum_by-cons f y xs in let b = ap f e in omega arith
member_weighs f (y ∷ xs) x (suc k, l, e) = let a = sum_by-cons f y xs in let b = member_weighs f xs x (k, omega arith, e) in omega arith

-- what holds of each job of a list holds of each job of a list that weighs no more
pub all_by_weight : (P : Job → Type 0) (xs ys : List Job) → ((h : Job → ℕ) → sum_by h xs ≤ sum_by h ys) → All P ys → All P xs
all_by_weight P xs ys less all = All-weaker (Contains xs) P (λ j i.
    let a = member_weighs (is_job j) xs j i in let b = less (is_job j) in let s = is_self j in
    let (k, inside, some) = some_weighs (is_job j) ys (omega arith) in
    subst P (same_is j k some) (All-contains P ys k all inside)) xs (All-contains_itself xs)
