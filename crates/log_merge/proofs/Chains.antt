-- Jobs that have each path number once follow one another.
use Rattle.std.proofs.Common.{◌≡◌, ℕ, zero, suc, ◌+◌, ◌-◌, ◌^◌, ◌<◌, ◌≤◌, List, [], ◌∷◌, length, Bool, true, false, leb, ltb, ◌⊎◌, refl, sym, ap, ◌∙◌, inl, inr, arith, get_or}
use Rattle.std.specs.Prelude.{◌&&◌, if◌then◌else◌, remove}
use Rattle.std.specs.List.Sorted.{IsPermutation, IsNonDecreasingBy}
use Rattle.std.proofs.lemmas.List.Sorted.{IsPermutation-refl, IsPermutation-cons, IsPermutation-trans, IsPermutation-remove, length_permutation}
use Rattle.std.proofs.lemmas.List.Sums.{sum_by-cons, sum_by-remove}
use Rattle.std.proofs.lemmas.Bool.{cases_lt, leb-true, leb-false, ltb-true, ltb-false}
use Rattle.std.proofs.lemmas.Nat.{pow_pos}
use Rattle.std.proofs.Math.Nat.{pow-suc}
use Rattle.plan_rule.specs.declared.job.Job.{Job}
use Rattle.plan_rule.specs.Paths.{width, IsChain, Tile}
use Rattle.log_merge.specs.Tiles.{between, has, times, root}
use Rattle.plan_rule.specs.Jobs.{lower, upper}

both_tests : (a b : Bool) (P : ℕ → Type 0) → (a ≡ true → b ≡ true → P 1) → (a ≡ false → P 0) → (b ≡ false → P 0) → P (if a && b then 1 else 0)
both_tests true true P here left right = here refl refl
both_tests true false P here left right = right refl
both_tests false b P here left right = left refl

-- the two cases of a number and a range
pub between_cases : (from to x : ℕ) → ((between from to x ≡ 1) × (from ≤ x) × (x < to)) ⊎ ((between from to x ≡ 0) × ((x < from) ⊎ (to ≤ x)))
between_cases from to x = both_tests (leb from x) (ltb x to) (λ n. ((n ≡ 1) × (from ≤ x) × (x < to)) ⊎ ((n ≡ 0) × ((x < from) ⊎ (to ≤ x))))
    (λ e f. inl (refl, leb-true from x e, ltb-true x to f)) (λ e. inr (refl, inl (leb-false from x e))) (λ e. inr (refl, inr (ltb-false x to e)))

pub between_is : (from to x : ℕ) → from ≤ x → x < to → between from to x ≡ 1
between_is from to x a b = elim (between_cases from to x) [ inl h ↦ h.0 | inr h ↦ elim (h.1) [ inl l ↦ absurd (omega arith) | inr l ↦ absurd (omega arith) ] ]

pub between_not : (from to x : ℕ) → (x < from) ⊎ (to ≤ x) → between from to x ≡ 0
between_not from to x out = elim (between_cases from to x) [ inl h ↦ elim out [ inl l ↦ (let a = h.1 in absurd (omega arith)) | inr l ↦ (let a = h.2 in absurd (omega arith)) ] | inr h ↦ h.0 ]

pub within : (from to x : ℕ) → 0 < between from to x → (from ≤ x) × (x < to)
within from to x l = elim (between_cases from to x) [ inl h ↦ (h.1, h.2) | inr h ↦ (let a = h.0 in absurd (omega arith)) ]

-- a range cut in two
pub cut : (from mid to x : ℕ) → from ≤ mid → mid ≤ to → between from to x ≡ between from mid x + between mid to x
cut from mid to x a b = elim (cases_lt x from) [
  | inl l ↦
      let p = between_not from to x (inl l) in let q = between_not from mid x (inl l) in let r = between_not mid to x (inl (omega arith)) in omega arith
  | inr l ↦ elim (cases_lt x mid) [
    | inl m ↦
        let p = between_is from to x l (omega arith) in let q = between_is from mid x l m in let r = between_not mid to x (inl m) in omega arith
    | inr m ↦ elim (cases_lt x to) [
      | inl n ↦
          let p = between_is from to x l n in let q = between_not from mid x (inr m) in let r = between_is mid to x m n in omega arith
      | inr n ↦
          let p = between_not from to x (inr n) in let q = between_not from mid x (inr m) in let r = between_not mid to x (inr n) in omega arith
    ]
  ]
]

-- the intervals of a job's halves are disjoint and make up its own
pub halves_have : (x : ℕ) (job : Job) → job.length < 32 → has x job ≡ has x (lower job) + has x (upper job)
halves_have x job l =
    let w : 2 ^ (32 - job.length) ≡ 2 ^ (31 - job.length) + 2 ^ (31 - job.length) =
    ap (λ n. 2 ^ n) (let e : 32 - job.length ≡ suc (31 - job.length) = omega arith in e) ∙ (let h = pow-suc 2 (31 - job.length) in omega arith) in
    let v : 2 ^ (32 - (job.length + 1)) ≡ 2 ^ (31 - job.length) = ap (λ n. 2 ^ n) (let e : 32 - (job.length + 1) ≡ 31 - job.length = omega arith in e) in
    ap (λ n. between job.front n x) (let e : job.front + 2 ^ (32 - job.length) ≡ (job.front + 2 ^ (31 - job.length)) + 2 ^ (31 - job.length) = omega arith in e)
    ∙ cut job.front (job.front + 2 ^ (31 - job.length)) (job.front + 2 ^ (31 - job.length) + 2 ^ (31 - job.length)) x (omega arith) (omega arith)
    ∙ ap (λ n. between job.front (job.front + n) x + between (job.front + 2 ^ (31 - job.length)) (job.front + 2 ^ (31 - job.length) + n) x) (sym v)

-- a job has its front, and the last number of its interval
pub has_front : (job : Job) → has job.front job ≡ 1
has_front job = let w = pow_pos (32 - job.length) in between_is job.front (job.front + width job) job.front (omega arith) (omega arith)

pub has_last : (job : Job) → has (job.front + width job - 1) job ≡ 1
has_last job = let w = pow_pos (32 - job.length) in between_is job.front (job.front + width job) (job.front + width job - 1) (omega arith) (omega arith)

-- where a number is had, one of the jobs has it
one_has : (x : ℕ) (jobs : List Job) → 0 < times x jobs → (k : ℕ) × (k < length jobs) × (0 < has x (get_or jobs k root))
one_has x [] l = absurd (omega arith)
one_has x (job ∷ jobs) l = let s = sum_by-cons (has x) job jobs in elim (cases_lt 0 (has x job)) [
  | inl here ↦ (0, omega arith, here)
  | inr not_here ↦ let (k, i, h) = one_has x jobs (omega arith) in (suc k, omega arith, h)
]

-- a job of the list that begins where the range does: the others have the rest of the range once
first_out : (from to : ℕ) (job : Job) (rest : List Job) → ((x : ℕ) → times x rest + has x job ≡ between from to x) → 0 < has from job
    → (job.front ≡ from) × (from + width job ≤ to) × ((x : ℕ) → times x rest ≡ between (from + width job) to x)
first_out from to job rest once l =
    let w = pow_pos (32 - job.length) in
    let a = within job.front (job.front + width job) from l in
    let b = within from to job.front (let e = once job.front in let f = has_front job in omega arith) in
    let same : job.front ≡ from = let p = a.0 in let q = b.0 in omega arith in
    let c = within from to (job.front + width job - 1) (let e = once (job.front + width job - 1) in let f = has_last job in omega arith) in
    let fits : from + width job ≤ to = let p = c.1 in omega arith in (
      same,
      fits,
      λ x.
          let e = once x in
          let s : has x job ≡ between from (from + width job) x = ap (λ n. between n (n + width job) x) same in
          let t = cut from (from + width job) to x (omega arith) fits in omega arith,
    )

no_jobs : (from to : ℕ) → from ≤ to → ((x : ℕ) → times x [] ≡ between from to x) → from ≡ to
no_jobs from to l once = elim (cases_lt from to) [ inl m ↦ (let e = once from in let f = between_is from to from (omega arith) m in absurd (omega arith)) | inr m ↦ (omega arith) ]

-- the number where the range begins is had
begun : (from to : ℕ) (job : Job) (jobs : List Job) → ((x : ℕ) → times x (job ∷ jobs) ≡ between from to x) → 0 < times from (job ∷ jobs)
begun from to job jobs once =
    let s = sum_by-cons (has job.front) job jobs in let f = has_front job in let e = once job.front in
    let b = within from to job.front (omega arith) in
    let g = between_is from to from (omega arith) (let p = b.0 in let q = b.1 in omega arith) in let e' = once from in omega arith

-- jobs that have each number of a range once can be ordered so that they follow one another
pub ordered_chain : (n from to : ℕ) (jobs : List Job) → length jobs ≡ n → from ≤ to → ((x : ℕ) → times x jobs ≡ between from to x)
    → (ordered : List Job) × IsPermutation jobs ordered × IsChain from ordered to
ordered_chain n from to [] e l once = ([], IsPermutation-refl [], no_jobs from to l once)
ordered_chain zero from to (job ∷ jobs) e l once = absurd (omega arith)
ordered_chain (suc n) from to (job ∷ jobs) e l once =
    let (k, i, h) = one_has from (job ∷ jobs) (begun from to job jobs once) in
    let first = get_or (job ∷ jobs) k root in
    let rest = remove (job ∷ jobs) k in
    let (same, fits, others) = first_out from to first rest (λ x. sum_by-remove (has x) (job ∷ jobs) k root i ∙ once x) h in
    let moved : IsPermutation (job ∷ jobs) (first ∷ rest) = IsPermutation-remove (job ∷ jobs) k first i (at (job ∷ jobs) k i) in
    let len = length_permutation (job ∷ jobs) (first ∷ rest) moved in
    let (ordered, perm, chain) = ordered_chain n (from + width first) to rest (omega arith) fits others in
    (first ∷ ordered, IsPermutation-trans (job ∷ jobs) (first ∷ rest) (first ∷ ordered) moved (IsPermutation-cons first rest ordered perm), (same, chain))
  where
    at : (jobs : List Job) (k : ℕ) → k < length jobs → get_or jobs k root ≡ get_or jobs k (get_or jobs k root)
    at [] k i = absurd (omega arith)
    at (job ∷ jobs) zero i = refl
    at (job ∷ jobs) (suc k) i = at jobs k (omega arith)

-- where they are sorted by their fronts, they do so as they stand
pub sorted_chain : (from to : ℕ) (jobs : List Job) → IsNonDecreasingBy (λ (job : Job). job.front) jobs → from ≤ to → ((x : ℕ) → times x jobs ≡ between from to x) → IsChain from jobs to
sorted_chain from to [] up l once = no_jobs from to l once
sorted_chain from to (job ∷ jobs) up l once =
    let (k, i, h) = one_has from (job ∷ jobs) (begun from to job jobs once) in
    let a = within (get_or (job ∷ jobs) k root).front ((get_or (job ∷ jobs) k root).front + width (get_or (job ∷ jobs) k root)) from h in
    let least : job.front ≤ (get_or (job ∷ jobs) k root).front = up 0 k root (omega arith) i in
    let b = within from to job.front (let s = sum_by-cons (has job.front) job jobs in let f = has_front job in let e = once job.front in omega arith) in
    let same : job.front ≡ from = let p = a.0 in let q = b.0 in omega arith in
    let w = pow_pos (32 - job.length) in
    let here : has from job ≡ 1 = between_is job.front (job.front + width job) from (omega arith) (omega arith) in
    let (same', fits, others) = first_out from to job jobs (λ x. let s = sum_by-cons (has x) job jobs in let e = once x in omega arith) (omega arith) in
    (same, sorted_chain (from + width job) to jobs (λ i j d a b. up (suc i) (suc j) d (omega arith) (omega arith)) fits others)

-- jobs that have each path number as often as the root has it tile
pub tile : (jobs : List Job) → ((x : ℕ) → times x jobs ≡ has x root) → Tile jobs
tile jobs once = ordered_chain (length jobs) 0 (2 ^ 32) jobs refl (omega arith) once
