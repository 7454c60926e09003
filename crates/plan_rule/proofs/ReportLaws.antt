-- The best of the reports of jobs that tile is the best plan.
use Rattle.std.proofs.Common.{◌≡◌, ℕ, zero, suc, ◌+◌, ◌^◌, ◌<◌, ◌≤◌, List, [], ◌∷◌, length, map, get_or, Option, Some, None, refl, sym, ap, ◌∙◌, subst, inl, inr, arith}
use Rattle.std.specs.List.{Contains}
use Rattle.std.proofs.lemmas.List.Elements.{All-contains}
use Rattle.std.proofs.lemmas.List.Sorted.{IsPermutation-sym, Contains-permutation}
use Rattle.std.proofs.lemmas.Bool.{cases_lt}
use Rattle.std.proofs.lemmas.Option.{none-some}
use Rattle.common_lists.proofs.ListLaws.{contains_there}
use Rattle.plan_rule.specs.declared.job.Job.{Job}
use Rattle.plan_rule.specs.Choices.{Choices}
use Rattle.plan_rule.specs.Plans.{IsPlan, IsFeasible, total, IsBefore, IsBest}
use Rattle.plan_rule.specs.Paths.{path, key, width, IsInRegion, IsChain, Tile}
use Rattle.plan_rule.proofs.PathLaws.{path-below, key-before}
use Rattle.plan_rule.proofs.OrderLaws.{before_cases, before_trans}
use Rattle.plan_rule.specs.Reports.{JobReport, IsBar, IsReached, IsLeast, IsBestOf, AreReports}

-- an element of a list's images is the image of an element
image_of : {X Y : Type 0} (f : X → Y) (xs : List X) (y : Y) (k : ℕ) → k < length (map f xs) → get_or (map f xs) k y ≡ y
    → (x : X) × Contains xs x × (f x ≡ y)
image_of f [] y k l e = absurd (omega arith)
image_of f (x ∷ xs) y zero l e = (x, (0, omega arith, refl), e)
image_of f (x ∷ xs) y (suc k) l e = let (z, inside, is) = image_of f xs y k (omega arith) e in (z, contains_there x xs z inside, is)

-- a number between the ends of a chain lies in the interval of one of its jobs
chain_has : (from to n : ℕ) (jobs : List Job) → IsChain from jobs to → from ≤ n → n < to
    → (job : Job) × Contains jobs job × (job.front ≤ n) × (n < job.front + width job)
chain_has from to n [] h l m = absurd (omega arith)
chain_has from to n (job ∷ jobs) (first, rest) l m = elim (cases_lt n (from + width job)) [
  | inl here ↦ (job, (0, omega arith, refl), omega arith, omega arith)
  | inr later ↦
      let (j, inside, a, b) = chain_has (from + width job) to n jobs rest later m in
      (j, contains_there job jobs j inside, a, b)
]

-- a report of the list has the plan in its region
report_of : (c : Choices) (reports : List JobReport) (q : List ℕ) → Tile (map (λ r. r.job) reports) → IsPlan c q
    → (r : JobReport) × Contains reports r × IsInRegion c r.job q
report_of c reports q (ordered, same, chain) p =
    let (job, inside, a, b) = chain_has 0 (2 ^ 32) (path c q) ordered chain (omega arith) (path-below c q) in
    let (k, l, e) = Contains-permutation ordered (map (λ r. r.job) reports) job (IsPermutation-sym _ _ same) inside in
    let (r, found, is) = image_of (λ (r : JobReport). r.job) reports job k l e in
    (r, found, subst (λ job. IsInRegion c job q) (sym is) (p, a, b))

-- keys are below the greatest bar
pub record KeysFit (c : Choices) : Type 0 where
  pub total_fits : (p : List ℕ) → IsPlan c p → total c p < 2 ^ 31

-- a plan that is not after q is not after what q is not after
not_before_on : (c : Choices) (p q m : List ℕ) → IsPlan c p → IsPlan c q → key c p < key c q → (IsBefore c p m → ⊥) → IsBefore c q m → ⊥
not_before_on c p q m hp hq l not_after worse = elim (before_cases c p q hp hq) [
  | inl same ↦ let e = ap (key c) same in absurd (omega arith)
  | inr differ ↦ elim differ [
    | inl before ↦ not_after (before_trans c p q m before worse)
    | inr after ↦ let k = key-before c q p hq hp after in absurd (omega arith)
  ]
]

-- each feasible plan is not before the best of some report
reached : (c : Choices) (reports : List JobReport) → KeysFit c → AreReports c reports → (n : ℕ) (q : List ℕ) → key c q < n → IsFeasible c q
    → (r : JobReport) × (m : List ℕ) × Contains reports r × (r.best ≡ Some m) × (IsBefore c q m → ⊥)
reached c reports fit are zero q l p = absurd (omega arith)
reached c reports fit are (suc n) q l p =
    let (r, found, region) = report_of c reports q are.tile p.is_plan in
    let least : IsLeast c r = All-contains (IsLeast c) reports r are.least found in
    let bar : IsBar c r.seen = All-contains (λ r. IsBar c r.seen) reports r are.bars found in
    elim (least q p region) [
      | inl above ↦ elim bar [
        | inl greatest ↦ let t = fit.total_fits q p.is_plan in let w = path-below c q in absurd (omega arith)
        | inr some ↦
            let (x, hx, e) = some in
            let (r', m, found', is, not_after) = reached c reports fit are n x (omega arith) hx in
            (r', m, found', is, not_before_on c x q m hx.is_plan p.is_plan (omega arith) not_after)
      ]
      | inr best ↦ let (m, is, not_after) = best in (r, m, found, is, not_after)
    ]

-- the best of the reports is the best
pub merged : (c : Choices) (reports : List JobReport) (t : Option (List ℕ)) → KeysFit c → AreReports c reports → IsBestOf c reports t → IsBest c t
merged c reports None fit are best = λ q p.
    let (r, m, found, is, not_after) = reached c reports fit are (key c q + 1) q (omega arith) p in
    none-some m (sym (All-contains (λ r. r.best ≡ None) reports r best found) ∙ is)
merged c reports (Some t) fit are (from, least) =
    let (r, found, is) = from in
    let reach : IsReached c r = All-contains (IsReached c) reports r are.reached found in
    let good = (reach t is).0 in (
      good,
      λ q p before.
          let (r', m, found', is', not_after) = reached c reports fit are (key c q + 1) q (omega arith) p in
          let reach' : IsReached c r' = All-contains (IsReached c) reports r' are.reached found' in
          elim (before_cases c m t (reach' m is').0.is_plan good.is_plan) [
            | inl same ↦ not_after (subst (IsBefore c q) (sym same) before)
            | inr differ ↦ elim differ [
              | inl a ↦ least r' m found' is' a
              | inr a ↦ not_after (before_trans c q t m before a)
            ]
          ],
    )
