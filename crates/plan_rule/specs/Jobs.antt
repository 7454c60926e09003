-- Jobs as numbers, and their halves.
use Rattle.std.specs.Prelude.{◌≡◌, ℕ, ◌+◌, ◌-◌, ◌*◌, ◌%◌, ◌^◌, ◌<◌, ◌≤◌, Option, Some, None}
use Rattle.plan_rule.specs.declared.job.Job.{Job}
use Rattle.plan_rule.specs.Paths.{width}

-- a front of 32 bits and a length; the bits of the front past the length are 0
pub record IsJob (job : Job) : Type 0 where
  pub length : job.length ≤ 32
  pub bits : job.front < 2 ^ 32
  pub low : job.front % width job ≡ 0

-- a job as one number
abbrev pub word : Job → ℕ
word job = job.front * 64 + job.length

-- the job of a number; none where the number is no job
abbrev pub IsJobOf : ℕ → Option Job → Type 0
IsJobOf n None = (job : Job) → IsJob job → word job ≡ n → ⊥
IsJobOf n (Some job) = IsJob job × (word job ≡ n)

-- the job's path numbers whose next bit is 0, and those whose next bit is 1
abbrev pub lower : Job → Job
lower job = record { front = job.front; length = job.length + 1 }

-- the upper half of a job
abbrev pub upper : Job → Job
upper job = record { front = job.front + 2 ^ (31 - job.length); length = job.length + 1 }

-- the halves of a job; none where its length is 32
abbrev pub AreHalves : Job → Option (Job × Job) → Type 0
AreHalves job None = job.length ≡ 32
AreHalves job (Some two) =
    (job.length < 32) × (two.0 ≡ lower job) × (two.1 ≡ upper job) × IsJob two.0 × IsJob two.1
