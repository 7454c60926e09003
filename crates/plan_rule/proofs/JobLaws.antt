-- The halves of a job are jobs.
use Rattle.std.proofs.Common.{◌≡◌, ℕ, ◌+◌, ◌-◌, ◌*◌, ◌/◌, ◌%◌, ◌^◌, ◌<◌, ◌≤◌, sym, ap, ◌∙◌, subst, inl, inr, arith}
use Rattle.std.proofs.lemmas.Bool.{cases_lt}
use Rattle.std.proofs.lemmas.Nat.{pow_pos, pow-add, div-add-mod', mul-le, mod-mul-add}
use Rattle.common_lists.proofs.NumberLaws.{power_step}
use Rattle.plan_rule.specs.declared.job.Job.{Job}
use Rattle.plan_rule.specs.Jobs.{IsJob, lower, upper}

-- a power of two below 2 ^ 32 and its complement
pub split-32 : (length : ℕ) → length ≤ 32 → 2 ^ 32 ≡ 2 ^ length * 2 ^ (32 - length)
split-32 length l = ap (λ n. 2 ^ n) (let e : 32 ≡ length + (32 - length) = omega arith in e) ∙ pow-add 2 length (32 - length)

-- a multiple of the width below 2 ^ 32 leaves room for one more
pub room : (front length : ℕ) → length ≤ 32 → front < 2 ^ 32 → front % 2 ^ (32 - length) ≡ 0 → front + 2 ^ (32 - length) ≤ 2 ^ 32
room front length l bits low =
    let w : ℕ = 2 ^ (32 - length) in
    let k : ℕ = front / w in
    let whole : k * w + front % w ≡ front = div-add-mod' front w in
    let all : 2 ^ 32 ≡ 2 ^ length * w = split-32 length l in
    elim (cases_lt k (2 ^ length)) [
      | inl below ↦ let more = mul-le (k + 1) w (2 ^ length) w (omega arith) (omega arith) in omega arith
      | inr above ↦ let more = mul-le (2 ^ length) w k w (omega arith) (omega arith) in absurd (omega arith)
    ]

-- a multiple of twice a number is one of the number, and so is the number more
pub multiple : (front w v : ℕ) → 0 < v → w ≡ v * 2 → front % w ≡ 0 → (front % v ≡ 0) × ((front + v) % v ≡ 0)
multiple front w v pos twice low =
    let k : ℕ = front / w in
    let whole : k * w + front % w ≡ front = div-add-mod' front w in
    let product : k * w ≡ k * (v * 2) = ap (λ w. k * w) twice in
    let even : front ≡ (2 * k) * v + 0 = omega arith in
    let odd : front + v ≡ (2 * k + 1) * v + 0 = omega arith in
    (ap (λ n. n % v) even ∙ mod-mul-add (2 * k) v 0 pos, ap (λ n. n % v) odd ∙ mod-mul-add (2 * k + 1) v 0 pos)

-- the halves of a job are jobs
pub halves_are : (job : Job) → job.length < 32 → IsJob job → IsJob (lower job) × IsJob (upper job)
halves_are job l is =
    let twice : 2 ^ (32 - job.length) ≡ 2 ^ (31 - job.length) * 2 = power_step job.length l in
    let pos : 0 < 2 ^ (31 - job.length) = pow_pos (31 - job.length) in
    let fits : job.front + 2 ^ (32 - job.length) ≤ 2 ^ 32 = room job.front job.length is.length is.bits is.low in
    let (low, high) = multiple job.front (2 ^ (32 - job.length)) (2 ^ (31 - job.length)) pos twice is.low in
    let same : 2 ^ (31 - job.length) ≡ 2 ^ (32 - (job.length + 1)) = ap (λ n. 2 ^ n) (let e : 31 - job.length ≡ 32 - (job.length + 1) = omega arith in e) in (
      record { length = omega arith; bits = is.bits; low = subst (λ w. job.front % w ≡ 0) same low },
      record { length = omega arith; bits = omega arith; low = subst (λ w. (job.front + 2 ^ (31 - job.length)) % w ≡ 0) same high },
    )

-- the fronts of the halves differ by the width of each
pub step-is : (length n p : ℕ) → n ≡ length + 1 → p ≡ 2 ^ (32 - n) → 2 ^ (31 - length) ≡ p
step-is length n p e f = ap (λ m. 2 ^ m) (let g : 31 - length ≡ 32 - n = omega arith in g) ∙ sym f
