-- What the words of a run ask for.
use Rattle.std.specs.Prelude.{ℕ, ◌<◌, ◌≤◌, ◌^◌, nat_le, List, [], ◌∷◌, Option, Some, None, if◌then◌else◌, codes}
use Rattle.std.specs.Str.{bytes_eq}
use Rattle.text_parts.specs.Parts.{◌>>=◌, number_of}
use Rattle.scheduler_run.specs.declared.command.Command.{Command}
use Rattle.scheduler_run.specs.declared.command.Command.TheVariants.{Plan, Check, Gen, Load}

-- a command, with the names of its files and its numbers
pub data Asked : Type 0 where
  AsksPlan : (yard log : List ℕ) → (workers split : ℕ) → Asked
  AsksCheck : (yard plan log : List ℕ) → Asked
  AsksGen : (seed blocks : ℕ) → Asked
  AsksLoad : (seed blocks workers : ℕ) → Asked

-- the number that a word is in decimal digits, without a sign or a leading zero, where it is within the limits
abbrev pub number_in : ℕ → ℕ → List ℕ → Option ℕ
number_in least most word = number_of most word >>= λ n. if nat_le least n then Some n else None

-- `plan YARD LOG WORKERS SPLIT`: the files have two names, and there are 1 to 16 workers and splits up to 20
abbrev pub plan_asked : (yard log workers split : List ℕ) → Option Asked
plan_asked yard log workers split =
    if bytes_eq yard log then None
    else (number_in 1 16 workers >>= λ w. number_in 0 20 split >>= λ s. Some (AsksPlan yard log w s))

-- a seed below 2^31, and a number of blocks from 1 to 32
abbrev pub drawn_by : List ℕ → List ℕ → Option (ℕ × ℕ)
drawn_by seed blocks = number_in 0 2147483647 seed >>= λ s. number_in 1 32 blocks >>= λ b. Some (s, b)

-- `gen SEED BLOCKS`
abbrev pub gen_asked : List ℕ → List ℕ → Option Asked
gen_asked seed blocks = drawn_by seed blocks >>= λ by. Some (AsksGen by.0 by.1)

-- `load SEED BLOCKS WORKERS`: there are 1 to 16 workers
abbrev pub load_asked : (seed blocks workers : List ℕ) → Option Asked
load_asked seed blocks workers = drawn_by seed blocks >>= λ by. number_in 1 16 workers >>= λ w. Some (AsksLoad by.0 by.1 w)

-- what the words ask for: `plan YARD LOG WORKERS SPLIT`, `check YARD PLAN LOG`, `gen SEED BLOCKS` or
-- `load SEED BLOCKS WORKERS`; none where they are others
abbrev pub asked : List (List ℕ) → Option Asked
asked (command ∷ yard ∷ log ∷ workers ∷ split ∷ []) =
    if bytes_eq command (codes "plan") then plan_asked yard log workers split else None
asked (command ∷ first ∷ second ∷ third ∷ []) =
    if bytes_eq command (codes "check") then Some (AsksCheck first second third)
    else if bytes_eq command (codes "load") then load_asked first second third else None
asked (command ∷ seed ∷ blocks ∷ []) = if bytes_eq command (codes "gen") then gen_asked seed blocks else None
asked words = None

-- what a command asks for
abbrev pub asked_by : Command → Asked
asked_by (Plan yard log workers split) = AsksPlan yard.now log.now workers split
asked_by (Check yard plan log) = AsksCheck yard.now plan.now log.now
asked_by (Gen seed blocks) = AsksGen seed blocks
asked_by (Load seed blocks workers) = AsksLoad seed blocks workers

-- the numbers of a command are within their limits
abbrev pub IsInRange : Command → Type 0
IsInRange (Plan yard log workers split) = (1 ≤ workers) × (workers ≤ 16) × (split ≤ 20)
IsInRange (Check yard plan log) = Unit {0}
IsInRange (Gen seed blocks) = (seed < 2 ^ 31) × (1 ≤ blocks) × (blocks ≤ 32)
IsInRange (Load seed blocks workers) = (seed < 2 ^ 31) × (1 ≤ blocks) × (blocks ≤ 32) × (1 ≤ workers) × (workers ≤ 16)
