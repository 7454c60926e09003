-- A walk over the free codes of a block.
use Rattle.std.specs.Prelude.{◌≡◌, ℕ, ◌+◌, ◌<◌, ◌≤◌, List, Some, length, slice_get}
use Rattle.shape_exact.specs.Yards.{PlainYard}
use Rattle.shape_exact.specs.declared.block.Block.{Block}
use Rattle.code_table.specs.declared.placement.Placement.{Placement}
use Rattle.code_table.specs.Placements.{cost_at, cost_on, placements}
use Rattle.tardiness_bounds.specs.declared.near.Neighbour.{Neighbour}
use Rattle.tardiness_bounds.specs.declared.standing.Standing.{Standing}
use Rattle.tardiness_bounds.specs.declared.walk.Walk.{Walk}
use Rattle.tardiness_bounds.specs.Firsts.{HasNone, IsFirst}
use Rattle.tardiness_bounds.specs.Neighbours.{IsClearOfNear}
use Rattle.tardiness_bounds.specs.Nexts.{IsCheap}
use Rattle.tardiness_bounds.specs.Stands.{IsStand, code_on}

-- the codes of a range cost more than so much
abbrev pub AreDear : PlainYard → ℕ → ℕ → ℕ → ℕ → Type 0
AreDear yard b most from end =
    (x : ℕ) (p : Placement) (block : Block) → from ≤ x → x < end → slice_get (placements yard b) x ≡ Some p → slice_get yard.blocks b ≡ Some block
    → most < cost_at block p

-- a code of the block whose placement is clear of what stands near
abbrev pub IsFreeBeside : PlainYard → List Neighbour → ℕ → ℕ → Type 0
IsFreeBeside yard near b code = (p : Placement) × (slice_get (placements yard b) code ≡ Some p) × IsClearOfNear yard near b p

-- the walk is at the row and the column of its next code, or past the last column of a row
pub record IsAt (w : Walk) : Type 0 where
  pub code : w.from ≡ code_on w.stand w.row w.column
  pub column : w.column ≤ w.stand.lattice.columns

-- it is there in a stand whose codes cost at most so much
pub record IsEntered (yard : PlainYard) (list : List Standing) (b most : ℕ) (w : Walk) : Type 0 where
  pub stand : IsStand yard list b w.stand
  pub cheap : (block : Block) → slice_get yard.blocks b ≡ Some block → cost_on block w.stand.stretch.place.end ≤ most
  pub at : IsAt w

-- a walk: it is past the codes of its stand, or there
abbrev pub IsWalk : PlainYard → List Standing → ℕ → ℕ → Walk → Type 0
IsWalk yard list b most w = w.from < w.stand.stretch.hi → IsEntered yard list b most w

-- it is in such a stand, at the code where it was
pub record IsHere (yard : PlainYard) (list : List Standing) (b most from : ℕ) (w : Walk) : Type 0 where
  pub same : w.from ≡ from
  pub within : w.from < w.stand.stretch.hi
  pub entered : IsEntered yard list b most w

-- it has gone on over codes that are not free or cost more
pub record IsPast (yard : PlainYard) (list : List Standing) (b most from : ℕ) (w : Walk) : Type 0 where
  pub onward : from < w.from
  pub within : w.from ≤ length (placements yard b)
  pub done : w.stand.stretch.hi ≤ w.from
  pub none : HasNone (IsCheap yard list b most) from w.from

-- it has gone on to the code after the next one that is free and costs at most so much
pub record IsFound (yard : PlainYard) (list : List Standing) (b most from code : ℕ) (w : Walk) : Type 0 where
  pub first : IsFirst (IsCheap yard list b most) from (length (placements yard b)) (Some code)
  pub from_is : w.from ≡ code + 1
  pub walk : IsWalk yard list b most w
