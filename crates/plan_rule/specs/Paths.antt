-- Path numbers and keys: an order on plans that a single number tells.
use Rattle.std.specs.Prelude.{◌≡◌, ℕ, zero, suc, ◌+◌, ◌-◌, ◌*◌, ◌/◌, ◌^◌, ◌<◌, ◌≤◌, Bool, List, [], ◌∷◌, ◌++◌, Option, Some, None, IsPermutation, nat_le, if◌then◌else◌}
use Rattle.plan_rule.specs.declared.job.Job.{Job}
use Rattle.plan_rule.specs.Choices.{Choices}
use Rattle.plan_rule.specs.Plans.{IsPlan, total}

-- the first n halvings that lead from the range lo..hi to a code: whether the code is in the upper half;
-- a range of one code is not halved
abbrev pub halvings : ℕ → ℕ → ℕ → ℕ → List Bool
halvings zero lo hi code = []
halvings (suc n) lo hi code =
    let middle = lo + (hi - lo) / 2 in
    let upper = nat_le middle code in
    if nat_le (hi - lo) 1 then [] else upper ∷ halvings n (if upper then middle else lo) (if upper then hi else middle) code

-- the first n halvings of block 0, then those of block 1, and so on
abbrev pub all_halvings : ℕ → List ℕ → List ℕ → List Bool
all_halvings n [] plan = []
all_halvings n (count ∷ counts) [] = []
all_halvings n (count ∷ counts) (code ∷ plan) = halvings n 0 count code ++ all_halvings n counts plan

-- the number of w bits, the first the highest; where the list ends, the other bits are 0
abbrev pub number_of : ℕ → List Bool → ℕ
number_of zero bits = 0
number_of (suc w) [] = 0
number_of (suc w) (bit ∷ bits) = (if bit then 2 ^ w else 0) + number_of w bits

-- the path number of a plan: the first 32 bits of its halvings
unfoldable pub path : Choices → List ℕ → ℕ
path c plan = number_of 32 (all_halvings 32 c.counts plan)

-- the key of a plan: its total, and below that its path number
abbrev pub key : Choices → List ℕ → ℕ
key c plan = total c plan * 2 ^ 32 + path c plan

-- how many path numbers a job has
abbrev pub width : Job → ℕ
width job = 2 ^ (32 - job.length)

-- the plans whose path number lies in the job's interval
abbrev pub IsInRegion : Choices → Job → List ℕ → Type 0
IsInRegion c job plan = IsPlan c plan × (job.front ≤ path c plan) × (path c plan < job.front + width job)

-- the first job begins at one number, each next one where the one before ends, and the last ends at the other number
abbrev pub IsChain : ℕ → List Job → ℕ → Type 0
IsChain from [] to = from ≡ to
IsChain from (job ∷ jobs) to = (job.front ≡ from) × IsChain (from + width job) jobs to

-- in the order of their fronts the jobs follow one another from 0 to 2 ^ 32
abbrev pub Tile : List Job → Type 0
Tile jobs = (ordered : List Job) × IsPermutation jobs ordered × IsChain 0 ordered (2 ^ 32)

-- the answer is within a bar: a plan of the yard whose key is at most the bar, or none where the bar is the greatest u64
abbrev pub IsWithin : Choices → Option (List ℕ) → ℕ → Type 0
IsWithin c None bar = bar ≡ 2 ^ 64 - 1
IsWithin c (Some p) bar = IsPlan c p × (key c p ≤ bar)

-- the bound is Never, or above the total that the bar leaves
abbrev pub IsAboveBar : Option ℕ → ℕ → Type 0
IsAboveBar None bar = Unit {0}
IsAboveBar (Some k) bar = bar / 2 ^ 32 < k
