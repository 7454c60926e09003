-- The code of a placement.
use Rattle.std.specs.Prelude.{◌≡◌, ℕ, ◌<◌, true, false, unwrap_or, List, Option, Some, None, slice_get}
use Rattle.shape_exact.specs.Yards.{PlainYard}
use Rattle.shape_exact.specs.declared.block.Block.{Block}
use Rattle.code_table.specs.declared.placement.Placement.{Placement}
use Rattle.code_table.specs.Stands.{EndsOn}

-- a placement's code is its one position in the list: none where the list does not have it
abbrev pub IsCode : List Placement → Placement → Option ℕ → Type 0
IsCode ps p None = (d : ℕ) → slice_get ps d ≡ Some p → ⊥
IsCode ps p (Some c) = (slice_get ps c ≡ Some p) × ((d : ℕ) → slice_get ps d ≡ Some p → d ≡ c)

-- its start, end, plate and turn are such that the block may have them
pub record HasStand (yard : PlainYard) (block : Block) (p : Placement) : Type 0 where
  pub start : p.start < yard.days
  pub turn : p.turn < 4
  pub allowed : unwrap_or (slice_get block.turns p.turn) false ≡ true
  pub ends : EndsOn yard block p.start p.plate p.end
