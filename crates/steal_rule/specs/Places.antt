-- What an owner and a reach keep of their place at the cells.
use Rattle.std.specs.Prelude.{◌≡◌, ℕ, ◌+◌, ◌<◌, ◌≤◌, true, false, List, [], length, Contains}
use Rattle.atomic_table.specs.Seated.{TableId}
use Rattle.steal_rule.specs.declared.rule.View.{View}

-- the place is at this table, which has 64 cells, and no slot is taken out
abbrev pub IsPlaced : TableId → TableId → List (ℕ × Unit {0}) → Type 0
IsPlaced cells table taken = (cells.words ≡ 64) × (table ≡ cells) × (taken ≡ [])

-- an owner's view: where it is idle it has found each cell empty that it had pushed to
pub record IsOwner (v : View) : Type 0 where
  pub live : v.live ≡ true
  pub owns : v.owns ≡ true
  pub parts : v.parts ≡ 0
  pub gone : v.idle ≡ true → (k : ℕ) → k < length v.pushed → Contains v.gone k

-- the owner's room and the number of jobs that it has popped
abbrev pub HasCounts : ℕ → ℕ → View → Type 0
HasCounts room popped v =
    (room + length v.pushed ≡ 64) × (popped ≡ length v.emptied) × (popped ≤ 64)

-- a reach's view
pub record IsReach (v : View) : Type 0 where
  pub live : v.live ≡ true
  pub owns : v.owns ≡ false
  pub parts : 0 < v.parts
