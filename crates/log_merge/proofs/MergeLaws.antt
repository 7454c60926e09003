-- The merge of the records of jobs, half by half.
use Rattle.std.proofs.Common.{◌≡◌, ℕ, zero, suc, ◌+◌, ◌-◌, ◌*◌, ◌/◌, ◌^◌, ◌<◌, ◌≤◌, List, [], ◌∷◌, ◌++◌, length, map, drop, get_or, Option, Some, ◌⊎◌, refl, sym, ap, ◌∙◌, subst, inl, inr, arith, append_assoc, append-nil, length-append}
use Rattle.std.specs.Prelude.{slice_get}
use Rattle.std.proofs.lemmas.Bool.{cases_lt}
use Rattle.std.proofs.lemmas.Nat.{pow_pos, pow-add, mul-le}
use Rattle.std.proofs.Math.Nat.{pow-suc, mul_assoc}
use Rattle.std.proofs.lemmas.List.Elements.{All-get_or, All-weaker}
use Rattle.common_lists.proofs.ListLaws.{get_before, get_within}
use Rattle.plan_rule.specs.declared.job.Job.{Job}
use Rattle.plan_rule.specs.declared.literal.Literal.{Literal}
use Rattle.plan_rule.specs.Choices.{Choices}
use Rattle.plan_rule.specs.Boxes.{with_literal}
use Rattle.plan_rule.specs.Paths.{width, IsChain, IsInRegion}
use Rattle.refutation_log.specs.declared.record.Record.{Record}
use Rattle.refutation_log.specs.Steps.{result_of, IsStep}
use Rattle.plan_rule.specs.Jobs.{IsJob, lower, upper}
use Rattle.plan_rule.specs.Fronts.{HasCodes}
use Rattle.plan_rule.proofs.JobLaws.{halves_are, room}
use Rattle.plan_rule.proofs.MultipleLaws.{multiple_is}
use Rattle.refutation_log.specs.Logs.{AreSteps}
use Rattle.std.proofs.lemmas.Option.{none-some, same_Some}
use Rattle.log_merge.specs.Closing.{ExistsIn}
use Rattle.log_merge.specs.Merging.{RefutesBox, RefutesJob, IsBoxOf, IsRecordOf, HasTwo, IsRootOrHalf, literal, IsMergeable, IsMerged}
use Rattle.log_merge.specs.declared.merging.Leaf.{Leaf}
use Rattle.refutation_log.proofs.AppendedLaws.{pushed_steps, get_after}
use Rattle.log_merge.proofs.Halved.{halved_is_step}
use Rattle.log_merge.proofs.Covering.{covers_held}

-- the leaf with which a chain begins
leaf_here : (leaves : List Leaf) (at from to : ℕ) → IsChain from (map (λ (l : Leaf). l.job) (drop at leaves)) to → from < to
    → (at < length leaves) × ((d : Leaf) → ((get_or leaves at d).job.front ≡ from) × IsChain (from + width (get_or leaves at d).job) (map (λ (l : Leaf). l.job) (drop (suc at) leaves)) to)
leaf_here [] zero from to chain l = absurd (omega arith)
leaf_here [] (suc at) from to chain l = absurd (omega arith)
leaf_here (x ∷ leaves) zero from to (first, rest) l = (omega arith, λ d. (first, rest))
leaf_here (x ∷ leaves) (suc at) from to chain l = let (i, h) = leaf_here leaves at from to chain l in (omega arith, h)

parity : (n m V W : ℕ) → V ≡ W + W → 0 < W → n * V ≡ m * V + W → ⊥
parity n m V W twice pos e = elim (cases_lt m n) [
  | inl less ↦ (let a = mul-le (suc m) V n V (omega arith) (omega arith) in let b : suc m * V ≡ m * V + V = omega arith in absurd (omega arith))
  | inr more ↦ (let a = mul-le n V m V more (omega arith) in absurd (omega arith))
]

half_width : (job : Job) → job.length < 32 → width job ≡ 2 ^ (31 - job.length) + 2 ^ (31 - job.length)
half_width job l = ap (λ n. 2 ^ n) (let e : 32 - job.length ≡ suc (31 - job.length) = omega arith in e) ∙ (let h = pow-suc 2 (31 - job.length) in omega arith)

wider : (job leaf : Job) → job.length ≤ 32 → leaf.length ≤ job.length → width leaf ≡ 2 ^ (job.length - leaf.length) * width job
wider job leaf s l = ap (λ n. 2 ^ n) (let e : 32 - leaf.length ≡ (job.length - leaf.length) + (32 - job.length) = omega arith in e) ∙ pow-add 2 (job.length - leaf.length) (32 - job.length)

multiple : (job : Job) → IsJob job → (k : ℕ) × (job.front ≡ k * width job)
multiple job is = (job.front / width job, multiple_is job.front (width job) is.low)

-- a job that begins in the middle of another is shorter than that one
in_middle : (job leaf : Job) → IsJob job → IsJob leaf → job.length < 32 → leaf.front ≡ job.front + 2 ^ (31 - job.length) → job.length < leaf.length
in_middle job leaf a b l e = elim (cases_lt job.length leaf.length) [
  | inl h ↦ h
  | inr h ↦
      (let (m, low) = multiple job a in let (k, low') = multiple leaf b in
      let w = wider job leaf a.length h in
      let n : k * width leaf ≡ (k * 2 ^ (job.length - leaf.length)) * width job = ap (λ x. k * x) w ∙ sym (mul_assoc k (2 ^ (job.length - leaf.length)) (width job)) in
      let p = pow_pos (31 - job.length) in
      absurd (parity (k * 2 ^ (job.length - leaf.length)) m (width job) (2 ^ (31 - job.length)) (half_width job l) p (sym n ∙ sym low' ∙ e ∙ ap (λ x. x + 2 ^ (31 - job.length)) low)))
]

fits_of : (job : Job) → IsJob job → job.front + width job ≤ 2 ^ 32
fits_of job is = room job.front job.length is.length is.bits is.low

-- the first leaf of a job that is to be merged
first_leaf : (c : Choices) (job : Job) (leaves : List Leaf) (at : ℕ) (log : List Record) (d : Leaf) → IsMergeable c job leaves at log
    → (at < length leaves) × ((get_or leaves at d).job.front ≡ job.front) × IsChain (job.front + width (get_or leaves at d).job) (map (λ (l : Leaf). l.job) (drop (at + 1) leaves)) (2 ^ 32)
    × IsJob (get_or leaves at d).job × IsRootOrHalf c (get_or leaves at d).job
first_leaf c job leaves at log d m =
    let w = pow_pos (32 - job.length) in
    let (i, h) = leaf_here leaves at job.front (2 ^ 32) m.chain (let f = fits_of job m.job_is in omega arith) in
    let (front, chain) = h d in
    let g = All-get_or (λ (l : Leaf). IsJob l.job × IsRootOrHalf c l.job) leaves at d i m.jobs in
    (i, front, subst (λ n. IsChain (job.front + width (get_or leaves at d).job) (map (λ (l : Leaf). l.job) (drop n leaves)) (2 ^ 32)) (let e : suc at ≡ at + 1 = omega arith in e) chain, g.0, g.1)

-- the first leaf is the job
pub at_leaf : (c : Choices) (job : Job) (leaves : List Leaf) (at : ℕ) (log : List Record) (d : Leaf) → IsMergeable c job leaves at log → (get_or leaves at d).job.length ≤ job.length
    → IsMerged c job leaves log log (get_or leaves at d).record (at + 1)
at_leaf c job leaves at log d m l =
    let (i, front, chain, is_job, half) = first_leaf c job leaves at log d m in
    let length_is : (get_or leaves at d).job.length ≡ job.length = let k = m.deep d in omega arith in
    let same : (get_or leaves at d).job ≡ job = λ j. record { front = front j; length = length_is j } in
    record {
      shown = subst (RefutesJob c log (get_or leaves at d).record) same (All-get_or (λ (l : Leaf). RefutesJob c log l.record l.job) leaves at d i m.shown);
      grown = ([], sym (append-nil log));
      steps = λ t s. s;
      exist = λ all. all;
      chain = subst (λ (j : Job). IsChain (job.front + width j) (map (λ (l : Leaf). l.job) (drop (at + 1) leaves)) (2 ^ 32)) same chain;
    }

-- the job is longer than its first leaf, so it is not the last to be halved
pub longer : (c : Choices) (job : Job) (leaves : List Leaf) (at : ℕ) (log : List Record) (d : Leaf) → IsMergeable c job leaves at log → job.length < (get_or leaves at d).job.length → job.length < 32
longer c job leaves at log d m l = let (i, front, chain, is_job, half) = first_leaf c job leaves at log d m in let s = is_job.length in omega arith

half_is : (job : Job) → job.length < 32 → width (lower job) ≡ 2 ^ (31 - job.length)
half_is job l = ap (λ n. 2 ^ n) (let e : 32 - (job.length + 1) ≡ 31 - job.length = omega arith in e)

pub grown_shown : (c : Choices) (log log' more : List Record) (k : ℕ) (job : Job) → log' ≡ log ++ more → RefutesJob c log k job → RefutesJob c log' k job
grown_shown c log log' more k job is (r, at, box, holds) = (r, subst (λ l. slice_get l k ≡ Some r) (sym is) (get_before log more k r at), box, holds)

pub goes_upper : (c : Choices) (job low high : Job) (leaves : List Leaf) (at next result : ℕ) (log log' : List Record) (d : Leaf) → IsMergeable c job leaves at log → job.length < (get_or leaves at d).job.length
    → low ≡ lower job → high ≡ upper job → IsMerged c low leaves log log' result next → IsMergeable c high leaves next log'
goes_upper c job low high leaves at next result log log' d m l low_is high_is done =
    let short = longer c job leaves at log d m l in
    let v = half_is job short in
    let w = half_width job short in
    let p = pow_pos (31 - job.length) in
    let ends : low.front + width low ≡ job.front + 2 ^ (31 - job.length) = ap (λ (j : Job). j.front + width j) low_is ∙ ap (λ n. job.front + n) v in
    let chain : IsChain (job.front + 2 ^ (31 - job.length)) (map (λ (l : Leaf). l.job) (drop next leaves)) (2 ^ 32) = subst (λ n. IsChain n (map (λ (l : Leaf). l.job) (drop next leaves)) (2 ^ 32)) ends done.chain in
    subst (λ (j : Job). IsMergeable c j leaves next log') (sym high_is) record {
      job_is = (halves_are job short m.job_is).1;
      chain = chain;
      deep = λ e.
          (let (i, h) = leaf_here leaves next (job.front + 2 ^ (31 - job.length)) (2 ^ 32) chain (let f = fits_of job m.job_is in omega arith) in
          let g = All-get_or (λ (l : Leaf). IsJob l.job × IsRootOrHalf c l.job) leaves next e i m.jobs in
          let less = in_middle job (get_or leaves next e).job m.job_is g.0 short ((h e).0) in omega arith);
      jobs = m.jobs;
      shown = All-weaker (λ (l : Leaf). RefutesJob c log l.record l.job) (λ (l : Leaf). RefutesJob c log' l.record l.job) (λ l s. grown_shown c log log' done.grown.0 l.record l.job done.grown.1 s) leaves m.shown;
    }

-- the job's region has two plans, since its first leaf is a half of a job within it that has
pub has_two : (c : Choices) (job : Job) (leaves : List Leaf) (at : ℕ) (log : List Record) (d : Leaf) → IsMergeable c job leaves at log → job.length < (get_or leaves at d).job.length → HasTwo c job
has_two c job leaves at log d m l =
    let (i, front, chain, is_job, half) = first_leaf c job leaves at log d m in
    elim half [
      | inl is_root ↦ (let e = ap (λ (j : Job). j.length) is_root in absurd (omega arith))
      | inr is_half ↦
          (let (whole, whole_is, short, two, side) = is_half in
          elim side [
            | inl low ↦ inside whole whole_is two (let e = ap (λ (j : Job). j.front) low in omega arith) (let e = ap (λ (j : Job). j.length) low in omega arith)
            | inr high ↦
                (let e = ap (λ (j : Job). j.front) high in let n = ap (λ (j : Job). j.length) high in
                let less = in_middle whole job whole_is m.job_is short (sym front ∙ e) in absurd (omega arith))
          ])
    ]
  where
    inside : (whole : Job) → IsJob whole → HasTwo c whole → whole.front ≡ job.front → job.length ≤ whole.length → HasTwo c job
    inside whole is (p, q, hp, hq, apart) same longer' =
        let w = wider whole job is.length longer' in
        let o = mul-le 1 (width whole) (2 ^ (whole.length - job.length)) (width whole) (let x = pow_pos (whole.length - job.length) in omega arith) (omega arith) in
        let fits : width whole ≤ width job = omega arith in
        (p, q, within_job p hp fits, within_job q hq fits, apart)
      where
        within_job : (p : List ℕ) → IsInRegion c whole p → width whole ≤ width job → IsInRegion c job p
        within_job p (plan, a, b) fits = (plan, omega arith, omega arith)

-- what a record of a job's region shows of a box of the region
shows_box : (c : Choices) (log : List Record) (k : ℕ) (job : Job) (box : List Literal) → HasCodes c → IsBoxOf c job box → RefutesJob c log k job → RefutesBox c log k box
shows_box c log k job box some_codes of_job (r, at, is, holds) = (r, at, covers_held c box (result_of c r) some_codes of_job.box_is is (λ p plan h. holds p (of_job.inside p plan h)))

snoc_cases : (xs : List Record) (y r : Record) (i : ℕ) → slice_get (xs ++ y ∷ []) i ≡ Some r → (slice_get xs i ≡ Some r) ⊎ (y ≡ r)
snoc_cases [] y r zero e = inr (same_Some y r e)
snoc_cases [] y r (suc i) e = absurd (none-some r e)
snoc_cases (x ∷ xs) y r zero e = inl e
snoc_cases (x ∷ xs) y r (suc i) e = snoc_cases xs y r i e

pub put_together : (c : Choices) (job low high : Job) (leaves : List Leaf) (at n1 n2 r1 r2 k : ℕ) (log log1 log2 log3 : List Record) (d : Leaf) (rec : Record) → HasCodes c → IsMergeable c job leaves at log
    → job.length < (get_or leaves at d).job.length → low ≡ lower job → high ≡ upper job → IsMerged c low leaves log log1 r1 n1 → IsMerged c high leaves log1 log2 r2 n2
    → IsRecordOf c job r1 r2 rec → k ≡ length log2 → log3 ≡ log2 ++ rec ∷ [] → IsMerged c job leaves log log3 k n2
put_together c job low high leaves at n1 n2 r1 r2 k log log1 log2 log3 d rec some_codes m l low_is high_is done1 done2 (b, lo, mid, hi, side, cites, is, halved, (has1, has2, cites_only), box_job, box_low, box_high) k_is log3_is =
    let short = longer c job leaves at log d m l in
    let v = half_is job short in let w = half_width job short in
    let (more1, g1) = done1.grown in let (more2, g2) = done2.grown in
    let first : RefutesJob c log2 r1 (lower job) = grown_shown c log1 log2 more2 r1 (lower job) g2 (subst (RefutesJob c log1 r1) low_is done1.shown) in
    let second : RefutesJob c log2 r2 (upper job) = subst (RefutesJob c log2 r2) high_is done2.shown in
    let step : (t : Option (List ℕ)) → IsStep c t log2 rec = λ t. subst (IsStep c t log2) (sym is)
    (halved_is_step c t log2 b lo mid hi r1 r2 side cites halved
    (shows_box c log2 r1 (lower job) (with_literal side (literal b lo mid)) some_codes box_low first)
    (shows_box c log2 r2 (upper job) (with_literal side (literal b mid hi)) some_codes box_high second)
    (All-weaker (λ k. (k ≡ r1) ⊎ (k ≡ r2)) (λ k. k < length log2)
    (λ k one. elim one [ inl x ↦ (let a = get_within log2 r1 first.0 first.1 in omega arith) | inr x ↦ (let a = get_within log2 r2 second.0 second.1 in omega arith) ]) cites cites_only)
    has1 has2) in
    record {
      shown = (
        rec,
        subst (λ l. slice_get l k ≡ Some rec) (sym log3_is)
            (let e : length log2 + 0 ≡ k = omega arith in subst (λ i. slice_get (log2 ++ rec ∷ []) i ≡ Some rec) e (get_after log2 (rec ∷ []) 0 rec refl)),
        box_job.box_is,
        box_job.only,
      );
      grown = (more1 ++ more2 ++ rec ∷ [], log3_is ∙ ap (λ l. l ++ rec ∷ []) (g2 ∙ ap (λ l. l ++ more2) g1 ∙ append_assoc log more1 more2) ∙ append_assoc log (more1 ++ more2) (rec ∷ []));
      exist = λ all i r at. elim (snoc_cases log2 rec r i (subst (λ l. slice_get l i ≡ Some r) log3_is at)) [
        | inl was ↦ done2.exist (done1.exist all) i r was
        | inr same ↦ subst (ExistsIn c) (sym is ∙ same) halved.block
      ];
      steps = λ t s. subst (AreSteps c t) (sym log3_is) (pushed_steps c t log2 rec (done2.steps t (done1.steps t s)) (step t));
      chain = subst (λ n. IsChain n (map (λ (l : Leaf). l.job) (drop n2 leaves)) (2 ^ 32))
          (ap (λ (j : Job). j.front + width j) high_is ∙ (let e : (job.front + 2 ^ (31 - job.length)) + width (upper job) ≡ job.front + width job = omega arith in e)) done2.chain;
    }

-- the records' numbers fit the citations
pub small_numbers : (c : Choices) (low high : Job) (leaves : List Leaf) (r1 n1 r2 n2 : ℕ) (log log1 log2 : List Record) → IsMerged c low leaves log log1 r1 n1 → IsMerged c high leaves log1 log2 r2 n2
    → length log2 < 10 ^ 18 → (r1 < 10 ^ 18) × (r2 < 10 ^ 18)
small_numbers c low high leaves r1 n1 r2 n2 log log1 log2 done1 done2 few =
    let (more, g) = done2.grown in
    let a = get_within log1 r1 done1.shown.0 done1.shown.1 in
    let b = get_within log2 r2 done2.shown.0 done2.shown.1 in
    let l : length log2 ≡ length log1 + length more = ap length g ∙ length-append log1 more in
    (omega arith, omega arith)
