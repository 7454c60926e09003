-- What is left of the runs, one position after another.
use Rattle.std.proofs.Common.{◌≡◌, ℕ, suc, ◌+◌, ◌-◌, ◌<◌, List, [], ◌∷◌, ◌++◌, map, ap, arith}
use Rattle.std.specs.List.{All, range_with_len}
use Rattle.std.proofs.lemmas.List.Elements.{All-head}
use Rattle.lattice_free.specs.declared.run.Run.{Run}
use Rattle.lattice_free.specs.Runs.{place, points_of, IsPitch, IsRun}
use Rattle.lattice_free.specs.Left.{left_of, first_from, AreLeft}

range_more : (a b : ℕ) → a < b → range_with_len a (b - a) ≡ a ∷ range_with_len (a + 1) (b - (a + 1))
range_more a b h = ap (range_with_len a) e
  where
    e : b - a ≡ suc (b - (a + 1))
    e = omega arith

-- the next position, and what is left after it
pub left_more : (pitch column : ℕ) (r : Run) (rs : List Run) → column < r.to → left_of pitch column (r ∷ rs) ≡ place pitch r.row column ∷ left_of pitch (column + 1) (r ∷ rs)
left_more pitch column r rs h = ap (λ (ks : List ℕ). map (place pitch r.row) ks ++ points_of pitch rs) (range_more column r.to h)

pub left_whole : (pitch : ℕ) (rs : List Run) → IsPitch pitch → All IsRun rs → AreLeft pitch (first_from rs) rs
left_whole pitch [] p h = record { steps = p; each = h; within = tt }
left_whole pitch (r ∷ rs) p h = record { steps = p; each = h; within = (All-head IsRun r rs h).some }
