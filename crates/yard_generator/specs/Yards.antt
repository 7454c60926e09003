-- The yard that a seed and a number of blocks give.
use Rattle.std.specs.Prelude.{ℕ, ◌+◌, ◌-◌, true, false, List, [], ◌∷◌, ◌++◌, map, pos, codes}
use Rattle.std.specs.Fmt.{decimal}
use Rattle.shape_exact.specs.Yards.{PlainYard}
use Rattle.shape_exact.specs.declared.block.Block.{Block}
use Rattle.shape_exact.specs.declared.plate.Plate.{Plate}
use Rattle.shape_exact.specs.declared.point.Point.{Point}
use Rattle.yard_generator.specs.declared.draws.Drawn.{Drawn}
use Rattle.yard_generator.specs.Draws.{blocks_from}
use Rattle.yard_generator.specs.Texts.{closed_days}

-- plate i
abbrev pub plate_at : ℕ → Plate
plate_at i = record { name = codes "P" ++ decimal i; width = 60; height = 40; pitch = 2; closed = closed_days }

-- the corners of a rectangle with the upper right corner cut off, counterclockwise
abbrev pub corners : ℕ → ℕ → ℕ → List (ℕ × ℕ)
corners w h c = (0, 0) ∷ (w, 0) ∷ (w, h - c) ∷ (w - c, h) ∷ (0, h) ∷ []

abbrev pub point_at : ℕ × ℕ → Point
point_at p = record { x = pos p.0; y = pos p.1 }

abbrev pub footprint : ℕ → ℕ → ℕ → List Point
footprint w h c = map point_at (corners w h c)

-- block i: it may stand as drawn and after one quarter turn
abbrev pub block_with : ℕ → Drawn → Block
block_with i b = record {
  name = codes "B" ++ decimal i;
  shape = footprint b.width b.height b.cut;
  turns = true ∷ true ∷ false ∷ false ∷ [];
  duration = b.duration;
  release = b.release;
  due = b.due;
  weight = b.weight;
  early = 0;
}

-- the blocks, numbered from i on
abbrev pub blocks_with : ℕ → List Drawn → List Block
blocks_with i [] = []
blocks_with i (b ∷ bs) = block_with i b ∷ blocks_with (i + 1) bs

-- 200 days, three plates, and so many blocks
unfoldable pub drawn_yard : ℕ → ℕ → PlainYard
drawn_yard seed blocks = record {
  days = 200;
  plates = plate_at 0 ∷ plate_at 1 ∷ plate_at 2 ∷ [];
  blocks = blocks_with 0 (blocks_from blocks seed);
  fixed = [];
}
