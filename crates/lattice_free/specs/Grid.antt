-- What the runs of so many rows hold.
use Rattle.std.specs.Prelude.{◌≡◌, ℕ, ◌*◌, ◌<◌, ◌≤◌, pos, ◌<ℤ◌, List, [], ◌∷◌, length}
use Rattle.shape_exact.specs.declared.point.Point.{Point}
use Rattle.shape_exact.specs.Plane.{Every, Some_of}
use Rattle.minkowski_obstacles.specs.Pairs.{Pair}
use Rattle.lattice_free.specs.declared.run.Run.{Run}
use Rattle.lattice_free.specs.Order.{IsBefore}
use Rattle.lattice_free.specs.Runs.{place, points_of, IsRun}
use Rattle.lattice_free.specs.Clear.{AreClear}

-- each position comes before the later ones
abbrev pub Rises : List Point → Type 0
Rises [] = Unit {0}
Rises (p ∷ ps) = Every (IsBefore p) ps × Rises ps

-- a clear position of a column and a row
abbrev pub IsPlaced : List (Pair × Point) → ℕ → ℕ → ℕ → Point → Type 0
IsPlaced fixed pitch columns rows p = (j : ℕ) × (k : ℕ) × (j < rows) × (k < columns) × (p ≡ place pitch j k) × AreClear fixed p

-- the runs of so many rows hold exactly the clear positions, in order
pub record IsGrid (fixed : List (Pair × Point)) (pitch columns rows : ℕ) (runs : List Run) : Type 0 where
  pub each : Every IsRun runs
  pub rises : Rises (points_of pitch runs)
  pub below : Every (λ p. p.y <ℤ pos (rows * pitch)) (points_of pitch runs)
  pub few : length (points_of pitch runs) ≤ 401 * rows
  pub sound : Every (IsPlaced fixed pitch columns rows) (points_of pitch runs)
  pub complete : (j k : ℕ) → j < rows → k < columns → AreClear fixed (place pitch j k) → Some_of (λ q. q ≡ place pitch j k) (points_of pitch runs)
