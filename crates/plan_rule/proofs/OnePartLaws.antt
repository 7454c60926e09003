-- A job's region is described by one part alone.
use Rattle.std.proofs.Common.{◌≡◌, ◌≢◌, ℕ, ◌+◌, ◌-◌, ◌<◌, ◌≤◌, List, length, set, ◌⊎◌, sym, ap, ◌∙◌, subst, inl, inr, arith}
use Rattle.std.proofs.lemmas.Bool.{cases_lt, cases_order}
use Rattle.std.proofs.lemmas.Grind.{same_number_lists}
use Rattle.std.proofs.lemmas.List.{get_or-set_other, get_or-set_same, length-set}
use Rattle.plan_rule.specs.declared.job.Job.{Job}
use Rattle.plan_rule.specs.Choices.{Choices, blocks, count}
use Rattle.plan_rule.specs.Plans.{IsPlan, Extends, code_of}
use Rattle.plan_rule.specs.Paths.{IsInRegion}
use Rattle.plan_rule.specs.Regions.{Follows, HasOnePart, IsRegionPart}

-- a plan with another code for one block
plan_set : (c : Choices) (p : List ℕ) (k code : ℕ) → IsPlan c p → code < count c k → IsPlan c (set p k code)
plan_set c p k code is l = record {
  one_each = length-set p k code ∙ is.one_each;
  in_range = λ b exists. elim (cases_order b k) [
    | inl e ↦
        let n = is.one_each in
        let at : code_of (set p k code) k ≡ code = get_or-set_same p k code 0 (omega arith) in
        subst (λ b. code_of (set p k code) b < count c b) (sym e) (omega arith)
    | inr o ↦
        let differ : b ≢ k = elim o [ inl l ↦ λ e. absurd (omega arith) | inr l ↦ λ e. absurd (omega arith) ] in
        let same : code_of (set p k code) b ≡ code_of p b = get_or-set_other p k b code 0 differ in
        let old = is.in_range b exists in omega arith
  ];
}

-- each code of the range stands in some plan of the region
each_code : (c : Choices) (job : Job) (front : List ℕ) (lo hi code : ℕ) → IsRegionPart c job front lo hi → length front < blocks c → hi ≤ count c (length front)
    → lo ≤ code → code < hi → (q : List ℕ) × IsInRegion c job q × (code_of q (length front) ≡ code)
each_code c job front lo hi code part exists within low high =
    let (p, region) = part.some in
    let plan : IsPlan c p = region.0 in
    let inside : Follows c front lo hi p = (part.plans p plan).0 region in
    let n = plan.one_each in
    let q : List ℕ = set p (length front) code in
    let new : IsPlan c q = plan_set c p (length front) code plan (omega arith) in
    let at : code_of q (length front) ≡ code = get_or-set_same p (length front) code 0 (omega arith) in
    let begins : Extends front q = λ b l. inside.0 b l ∙ sym (get_or-set_other p (length front) b code 0 (λ e. absurd (omega arith))) in
    (q, (part.plans q new).1 (begins, λ e. (omega arith, omega arith)), at)

-- a part with fewer exact codes leaves two codes to a block that the other makes exact
no_shorter : (c : Choices) (job : Job) (front other : List ℕ) (lo hi low high : ℕ) → IsRegionPart c job front lo hi → IsRegionPart c job other low high
    → length front < length other → ⊥
no_shorter c job front other lo hi low high part second less = elim part.range [
  | inl wide ↦
      let (p, in_p, at_p) = each_code c job front lo hi lo part wide.0 wide.2 (omega arith) (let w = wide.1 in omega arith) in
      let (q, in_q, at_q) = each_code c job front lo hi (lo + 1) part wide.0 wide.2 (omega arith) (let w = wide.1 in omega arith) in
      let one = ((second.plans p in_p.0).0 in_p).0 (length front) less in
      let two = ((second.plans q in_q.0).0 in_q).0 (length front) less in
      absurd (omega arith)
  | inr all ↦
      let whole : length front ≡ blocks c = all.0 in
      elim second.range [
        | inl wide ↦ let l = wide.0 in absurd (omega arith)
        | inr gone ↦ let e = gone.0 in absurd (omega arith)
      ]
]

-- the range of a part begins no lower and ends no higher than that of another
range_within : (c : Choices) (job : Job) (front other : List ℕ) (lo hi low high : ℕ) → IsRegionPart c job front lo hi → IsRegionPart c job other low high
    → length front ≡ length other → (lo ≤ low) × (high ≤ hi)
range_within c job front other lo hi low high part second same = elim second.range [
  | inl wide ↦
      let w = wide.1 in
      let l = wide.0 in
      let (p, in_p, at_p) = each_code c job other low high low second wide.0 wide.2 (omega arith) (omega arith) in
      let (q, in_q, at_q) = each_code c job other low high (high - 1) second wide.0 wide.2 (omega arith) (omega arith) in
      let one = ((part.plans p in_p.0).0 in_p).1 (omega arith) in
      let two = ((part.plans q in_q.0).0 in_q).1 (omega arith) in
      let first : code_of p (length front) ≡ low = ap (code_of p) same ∙ at_p in
      let last : code_of q (length front) ≡ high - 1 = ap (code_of q) same ∙ at_q in
      (let a = one.0 in omega arith, let b = two.1 in omega arith)
  | inr gone ↦
      let (e, none, end) = gone in elim part.range [
        | inl wide ↦ let l = wide.0 in absurd (omega arith)
        | inr all ↦ let x = all.1 in (omega arith, omega arith)
      ]
]

pub one_part : (c : Choices) (job : Job) → HasOnePart c job
one_part c job front other lo hi low high part second =
    let long : length front ≡ length other = elim (cases_order (length front) (length other)) [
      | inl e ↦ e
      | inr o ↦ elim o [
        | inl less ↦ absurd (no_shorter c job front other lo hi low high part second less)
        | inr more ↦ absurd (no_shorter c job other front low high lo hi second part more)
      ]
    ] in
    let (p, region) = part.some in
    let one : Extends front p = ((part.plans p region.0).0 region).0 in
    let two : Extends other p = ((second.plans p region.0).0 region).0 in
    let a = range_within c job front other lo hi low high part second long in
    let b = range_within c job other front low high lo hi second part (sym long) in
    let (a_low, a_high) = a in
    let (b_low, b_high) = b in (
      same_number_lists front other long (λ k l. one k l ∙ sym (two k (omega arith))),
      omega arith,
      omega arith,
    )
