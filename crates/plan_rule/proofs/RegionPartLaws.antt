-- What is left once all bits of a job are used is the job's region.
use Rattle.std.proofs.Common.{◌≡◌, ℕ, zero, suc, ◌+◌, ◌-◌, ◌^◌, ◌<◌, ◌≤◌, List, [], ◌∷◌, ◌++◌, length, length-append, drop, ◌⊎◌, refl, sym, ap, ◌∙◌, subst, inl, inr, arith}
use Rattle.std.specs.Prelude.{replicate, ◌↔◌}
use Rattle.std.proofs.Math.Seq.{get_or-append_seam}
use Rattle.std.proofs.lemmas.Bool.{cases_order}
use Rattle.std.proofs.lemmas.List.{get_or_append_left, get_or-append-add, get_or-drop, length-drop, length-replicate}
use Rattle.plan_rule.specs.declared.job.Job.{Job}
use Rattle.plan_rule.specs.declared.region.Left.{Left}
use Rattle.plan_rule.specs.Choices.{Choices, blocks, count}
use Rattle.plan_rule.specs.Plans.{IsPlan, Extends, code_of}
use Rattle.plan_rule.specs.Paths.{number_of, path, width, IsInRegion}
use Rattle.plan_rule.specs.Fronts.{AreCodes, InRange, tail_of, HasCodes, IsRange, IsSettled, IsLeft}
use Rattle.plan_rule.specs.Regions.{Follows, HaveHalves, IsRegionPart}
use Rattle.plan_rule.proofs.PathLaws.{number-below}
use Rattle.plan_rule.specs.Jobs.{lower, upper}
use Rattle.plan_rule.proofs.FrontLaws.{codes_of_plan, lower_left, upper_left}

-- a list that begins with another is that one and the rest
front_splits : (front q : List ℕ) → length front ≤ length q → Extends front q → q ≡ front ++ drop (length front) q
front_splits [] q l same = refl
front_splits (x ∷ front) [] l same = absurd (omega arith)
front_splits (x ∷ front) (y ∷ q) l same =
    ap (λ y. y ∷ q) (sym (same 0 (omega arith)))
    ∙ ap (λ q. x ∷ q) (front_splits front q (omega arith) (λ b l. same (suc b) (omega arith)))

-- the code of the next block is the first that is left
next_code : (front r : List ℕ) → code_of (front ++ r) (length front) ≡ code_of r 0
next_code front r =
    ap (code_of (front ++ r)) (let e : length front ≡ length front + 0 = omega arith in e) ∙ get_or-append-add front r 0 0

range_first : (lo hi : ℕ) (r : List ℕ) → 0 < length r → InRange lo hi r → (lo ≤ code_of r 0) × (code_of r 0 < hi)
range_first lo hi [] l range = absurd (omega arith)
range_first lo hi (code ∷ r) l range = range

first_range : (lo hi : ℕ) (r : List ℕ) → (0 < length r → (lo ≤ code_of r 0) × (code_of r 0 < hi)) → InRange lo hi r
first_range lo hi [] range = tt
first_range lo hi (code ∷ r) range = range (omega arith)

-- a plan of the interval follows what is left
follows : (c : Choices) (front w : ℕ) (left : Left) (q : List ℕ) → IsLeft c front w left → IsPlan c q → front ≤ path c q → path c q < front + 2 ^ w
    → Follows c left.exact left.lo left.hi q
follows c front w left q is plan a b =
    let (r, e, codes, range) = is.part.only q (codes_of_plan c.counts q plan.one_each plan.in_range) a b in
    let long : length q ≡ length left.exact + length r = ap length e ∙ length-append left.exact r in
    let whole = plan.one_each in (
      λ b l. sym (ap (λ q. code_of q b) e ∙ get_or_append_left left.exact r 0 b l),
      λ exist.
          let next : code_of q (length left.exact) ≡ code_of r 0 = ap (λ q. code_of q (length left.exact)) e ∙ next_code left.exact r in
          let within = range_first left.lo left.hi r (omega arith) range in
          (let x = within.0 in omega arith, let x = within.1 in omega arith),
    )

-- a plan that follows what is left is one of the interval
pub in_interval : (c : Choices) (front w : ℕ) (left : Left) (q : List ℕ) → IsLeft c front w left → length left.exact ≤ blocks c → IsPlan c q
    → Follows c left.exact left.lo left.hi q → (front ≤ path c q) × (path c q < front + 2 ^ w)
in_interval c front w left q is few plan (same, next) =
    let k : ℕ = length left.exact in
    let r : List ℕ = drop k q in
    let one_each = plan.one_each in
    let e : q ≡ left.exact ++ r = front_splits left.exact q (omega arith) same in
    let long : length r ≡ length q - k = length-drop k q in
    let codes : AreCodes (drop k c.counts) r =
    codes_of_plan (drop k c.counts) r (let l = length-drop k c.counts in omega arith)
    (λ b l.
    let m = length-drop k c.counts in
    let x = get_or-drop k q b 0 in
    let y = get_or-drop k c.counts b 0 in
    let z = plan.in_range (k + b) (omega arith) in
    omega arith) in
    let first : code_of r 0 ≡ code_of q k = get_or-drop k q 0 0 ∙ ap (code_of q) (let f : k + 0 ≡ k = omega arith in f) in
    let range : InRange left.lo left.hi r = first_range left.lo left.hi r
    (λ some. let w = next (omega arith) in (let x = w.0 in omega arith, let x = w.1 in omega arith)) in
    let value : path c q ≡ front + number_of w (tail_of 32 is.m left.lo left.hi (drop k c.counts) r) = ap (path c) e ∙ is.part.inside r codes range in
    let below = number-below w (tail_of 32 is.m left.lo left.hi (drop k c.counts) r) in
    (omega arith, omega arith)

pub zeros : (n i : ℕ) → code_of (replicate n 0) i ≡ 0
zeros zero i = refl
zeros (suc n) zero = refl
zeros (suc n) (suc i) = zeros n i

-- some plan follows what is left
pub some_follows : (c : Choices) (left : Left) → HasCodes c → ((b : ℕ) → b < length left.exact → code_of left.exact b < count c b)
    → IsRange c left → (q : List ℕ) × IsPlan c q × Follows c left.exact left.lo left.hi q
some_follows c left has are_codes (inr (gone, lo, hi)) = (
  left.exact,
  record { one_each = gone; in_range = λ b l. are_codes b (omega arith) },
  (λ b l. refl, λ exist. absurd (omega arith)),
)
some_follows c left has are_codes (inl (exist, some, within)) =
    let k : ℕ = length left.exact in
    let zs : List ℕ = replicate (blocks c - (k + 1)) 0 in
    let q : List ℕ = left.exact ++ left.lo ∷ zs in
    let long : length q ≡ k + length (left.lo ∷ zs) = length-append left.exact (left.lo ∷ zs) in
    let rest : length zs ≡ blocks c - (k + 1) = length-replicate (blocks c - (k + 1)) 0 in
    let at : code_of q k ≡ left.lo = get_or-append_seam left.exact left.lo zs 0 in (
      q,
      record {
        one_each = omega arith;
        in_range = λ b l. elim (cases_order b k) [
          | inl e ↦ subst (λ b. code_of q b < count c b) (sym e) (omega arith)
          | inr o ↦ elim o [
            | inl below ↦ let same = get_or_append_left left.exact (left.lo ∷ zs) 0 b below in let f = are_codes b below in omega arith
            | inr above ↦
                let place : b ≡ k + suc (b - k - 1) = omega arith in
                let none : code_of q b ≡ 0 = ap (code_of q) place ∙ get_or-append-add left.exact (left.lo ∷ zs) (suc (b - k - 1)) 0 ∙ zeros (blocks c - (k + 1)) (b - k - 1) in
                let h = has b l in omega arith
          ]
        ];
      },
      (λ b l. sym (get_or_append_left left.exact (left.lo ∷ zs) 0 b l), λ exist. (omega arith, omega arith)),
    )

-- the plans of a job are those that follow what is left of its interval
region_plans : (c : Choices) (job : Job) (w : ℕ) (left : Left) → IsLeft c job.front w left → width job ≡ 2 ^ w → length left.exact ≤ blocks c
    → (q : List ℕ) → IsPlan c q → IsInRegion c job q ↔ Follows c left.exact left.lo left.hi q
region_plans c job w left is same few q plan = (
  λ in'. follows c job.front w left q is plan in'.1 (let b = in'.2 in omega arith),
  λ inside. let (a, b) = in_interval c job.front w left q is few plan inside in (plan, a, (omega arith)),
)

-- what is left of the halves of a job
left_halves : (c : Choices) (job : Job) (left : Left) → IsLeft c job.front (32 - job.length) left → length left.exact < blocks c → 1 < left.hi - left.lo → job.length < 32
    → HaveHalves c job left.exact left.lo left.hi
left_halves c job left is exist wide short =
    let w : ℕ = 31 - job.length in
    let whole = subst (λ n. IsLeft c job.front n left) (let e : 32 - job.length ≡ suc (31 - job.length) = omega arith in e) is in
    let half : 2 ^ (32 - (job.length + 1)) ≡ 2 ^ w = ap (λ n. 2 ^ n) (let e : 32 - (job.length + 1) ≡ 31 - job.length = omega arith in e) in
    record {
      low = λ q plan. region_plans c (lower job) w _ (lower_left c job.front w left whole exist wide) half (omega arith) q plan;
      high = λ q plan. region_plans c (upper job) w _ (upper_left c job.front w left whole exist wide) half (omega arith) q plan;
    }

-- once the bits of a job are used, what is left is its region
pub region_part : (c : Choices) (job : Job) (left : Left) → HasCodes c → IsLeft c job.front (32 - job.length) left → IsRange c left → IsSettled left
    → IsRegionPart c job left.exact left.lo left.hi
region_part c job left has is range settled =
    let few : length left.exact ≤ blocks c = few_exact range in
    let (p, plan, inside) = some_follows c left has is.are_codes range in
    record {
      range = wide range;
      some = (p, (let (a, b) = in_interval c job.front (32 - job.length) left p is few plan inside in (plan, a, b)));
      plans = λ q plan. (
        λ in'. follows c job.front (32 - job.length) left q is plan in'.1 in'.2,
        λ inside. let (a, b) = in_interval c job.front (32 - job.length) left q is few plan inside in (plan, a, b),
      );
      halves = λ exist short. left_halves c job left is exist (wider range exist) short;
    }
  where
    few_exact : IsRange c left → length left.exact ≤ blocks c
    few_exact (inl some) = let l = some.0 in omega arith
    few_exact (inr gone) = let e = gone.0 in omega arith

    wide : IsRange c left → ((length left.exact < blocks c) × (left.lo + 2 ≤ left.hi) × (left.hi ≤ count c (length left.exact)))
        ⊎ ((length left.exact ≡ blocks c) × (left.lo ≡ 0) × (left.hi ≡ 0))
    wide (inl (exist, some, within)) = inl (exist, (let differ : left.hi ≡ left.lo + 1 → ⊥ = settled in omega arith), within)
    wide (inr gone) = inr gone

    wider : IsRange c left → length left.exact < blocks c → 1 < left.hi - left.lo
    wider (inl (exist, some, within)) l = let differ : left.hi ≡ left.lo + 1 → ⊥ = settled in omega arith
    wider (inr gone) l = let e = gone.0 in absurd (omega arith)
