-- The edges of a closed line, by number.
use Rattle.std.proofs.Common.{◌≡◌, refl, arith, ℕ, zero, suc, ◌+◌, ◌<◌, List, [], ◌∷◌, length, get_or, add-one}
use Rattle.shape_exact.specs.declared.point.Point.{Point}
use Rattle.shape_exact.specs.Plane.{Edge, rim, links}

length-links : (first p : Point) (qs : List Point) → length (links first p qs) ≡ length qs + 1
length-links first p [] = refl
length-links first p (q ∷ qs) = let h = length-links first q qs in omega arith

pub length-rim : (ps : List Point) → length (rim ps) ≡ length ps
length-rim [] = refl
length-rim (p ∷ ps) = let h = length-links p p ps in omega arith

-- an edge before the last
inner : (first p : Point) (qs : List Point) (k : ℕ) (d : Edge) (o : Point) → k < length qs → get_or (links first p qs) k d ≡ record { from = get_or (p ∷ qs) k o; to = get_or qs k o }
inner first p [] k d o h = absurd (omega arith)
inner first p (q ∷ qs) zero d o h = refl
inner first p (q ∷ qs) (suc k) d o h = inner first q qs k d o (omega arith)

closing : (first p : Point) (qs : List Point) (k : ℕ) (d : Edge) (o : Point) → k ≡ length qs → get_or (links first p qs) k d ≡ record { from = get_or (p ∷ qs) k o; to = first }
closing first p [] zero d o h = refl
closing first p [] (suc k) d o h = absurd (omega arith)
closing first p (q ∷ qs) zero d o h = absurd (omega arith)
closing first p (q ∷ qs) (suc k) d o h = closing first q qs k d o (omega arith)

-- the edge from vertex k to the next
pub rim_inner : (ps : List Point) (k : ℕ) (d : Edge) (o : Point) → k + 1 < length ps → get_or (rim ps) k d ≡ record { from = get_or ps k o; to = get_or ps (k + 1) o }
rim_inner [] k d o h = absurd (omega arith)
rim_inner (p ∷ ps) k d o h = rw add-one (inner p p ps k d o (omega arith))

pub rim_closing : (ps : List Point) (k : ℕ) (d : Edge) (o : Point) → k + 1 ≡ length ps → get_or (rim ps) k d ≡ record { from = get_or ps k o; to = get_or ps 0 o }
rim_closing [] k d o h = absurd (omega arith)
rim_closing (p ∷ ps) k d o h = closing p p ps k d o (omega arith)
