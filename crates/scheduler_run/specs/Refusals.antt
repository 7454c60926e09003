-- The lines that refuse words and files.
use Rattle.std.specs.Prelude.{◌≡◌, ℕ, List, [], ◌∷◌, ◌++◌, None, codes}
use Rattle.scheduler_run.specs.Outcomes.{Outcome}

-- the usage line
abbrev pub usage_line : List ℕ
usage_line = codes "usage: plan YARD LOG WORKERS SPLIT | check YARD PLAN LOG | gen SEED BLOCKS | load SEED BLOCKS WORKERS" ++ 10 ∷ []

-- the usage line is said with status 2
abbrev pub IsUsage : Outcome → Type 0
IsUsage outcome = (outcome.status ≡ 2) × (outcome.made ≡ None) × (outcome.said ≡ usage_line)

-- the line of a refusal is said with status 1
abbrev pub IsRefusal : List ℕ → Outcome → Type 0
IsRefusal line outcome = (outcome.status ≡ 1) × (outcome.made ≡ None) × (outcome.said ≡ line)
