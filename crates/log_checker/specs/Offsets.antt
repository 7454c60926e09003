-- Whether two turned footprints are apart, by their offset.
use Rattle.std.specs.Prelude.{◌≡◌, ℕ, ◌<◌, Some, slice_get, length}
use Rattle.shape_exact.specs.Yards.{PlainYard}
use Rattle.shape_exact.specs.declared.block.Block.{Block}
use Rattle.shape_exact.specs.Shapes.{AreApart, origin, turned}
use Rattle.shape_exact.specs.Separation.{IsWithin, way}
use Rattle.code_table.specs.declared.placement.Placement.{Placement}
use Rattle.plan_rule.specs.Clashes.{place_of}
use Rattle.log_checker.specs.declared.exact.Exact.{Exact}
use Rattle.log_checker.specs.declared.offset.Offset.{Offset}

-- the blocks and turns exist, and the way is no longer than two plates
pub record IsOffset (yard : PlainYard) (o : Offset) : Type 0 where
  pub first : o.first < length yard.blocks
  pub second : o.second < length yard.blocks
  pub first_turn : o.first_turn < 4
  pub second_turn : o.second_turn < 4
  pub way : IsWithin 10000 o.way

-- the first footprint at the origin and the second one as far from it as the offset says are apart
pub record AreSoApart (yard : PlainYard) (o : Offset) : Type 0 where
  pub one : Block
  pub two : Block
  pub one_is : slice_get yard.blocks o.first ≡ Some one
  pub two_is : slice_get yard.blocks o.second ≡ Some two
  pub shapes : AreApart (turned o.first_turn one.shape) origin (turned o.second_turn two.shape) o.way

-- the offset of a block at a placement from an exact block
abbrev pub offset_of : Exact → ℕ → Placement → Offset
offset_of f b p = record {
  first = f.block;
  first_turn = f.place.turn;
  second = b;
  second_turn = p.turn;
  way = way (place_of f.place) (place_of p);
}
