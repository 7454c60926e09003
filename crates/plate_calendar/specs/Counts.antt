-- How many open days come before each day.
use Rattle.std.specs.Prelude.{◌≡◌, ℕ, ◌≤◌, true, List, nat_lt, count_by, slice_index}
use Rattle.shape_exact.specs.Days.{are_days}

-- how many of the days are below a number
abbrev pub count_below : ℕ → List ℕ → ℕ
count_below d ds = count_by (λ e. nat_lt e d) ds

-- the days ascend below 400, and the counts are of the days below each number from 0 to 400
pub record IsCounted (opens counts : List ℕ) : Type 0 where
  pub ascending : are_days 0 400 opens ≡ true
  pub counted : (d : ℕ) → d ≤ 400 → slice_index counts d ≡ count_below d opens
