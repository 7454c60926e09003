-- Closed lines in the plane: marks with a common denominator, edges, and the sides of an edge.
use Rattle.std.specs.Prelude.{ℤ, pos, ◌-ℤ◌, ◌*ℤ◌, ◌<ℤ◌, List, [], ◌∷◌, ◌⊎◌}
use Rattle.shape_exact.specs.declared.point.Point.{Point}

-- the point (x / n, y / n), or the direction (x, y) where n is 0
pub record Mark : Type 0 where
  pub x : ℤ
  pub y : ℤ
  pub n : ℤ

pub record Edge : Type 0 where
  pub from : Point
  pub to : Point

-- above 0 where the mark is strictly on the inner side of the edge
abbrev pub side : Edge → Mark → ℤ
side e z = (e.to.x -ℤ e.from.x) *ℤ (z.y -ℤ z.n *ℤ e.from.y) -ℤ (e.to.y -ℤ e.from.y) *ℤ (z.x -ℤ z.n *ℤ e.from.x)

abbrev pub links : Point → Point → List Point → List Edge
links first p [] = (record { from = p; to = first }) ∷ []
links first p (q ∷ qs) = (record { from = p; to = q }) ∷ links first q qs

-- the edges of a closed line, from each vertex to the next
abbrev pub rim : List Point → List Edge
rim [] = []
rim (p ∷ ps) = links p p ps

-- P holds of each element
abbrev pub Every : {A : Type 0} → (A → Type 0) → List A → Type 0
Every P [] = Unit {0}
Every P (x ∷ xs) = P x × Every P xs

-- P holds of some element
abbrev pub Some_of : {A : Type 0} → (A → Type 0) → List A → Type 0
Some_of P [] = ⊥
Some_of P (x ∷ xs) = P x ⊎ Some_of P xs

abbrev pub mark_of : Point → Mark
mark_of p = record { x = p.x; y = p.y; n = pos 1 }

-- the mark is strictly inside the closed line of ps
abbrev pub Inside : Mark → List Point → Type 0
Inside z ps = (pos 0 <ℤ z.n) × Every (λ e. pos 0 <ℤ side e z) (rim ps)
