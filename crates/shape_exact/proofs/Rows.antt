-- Worked examples of the definitions.
use Rattle.std.specs.Prelude.{◌≡◌, ℤ, pos, negsuc, [], ◌∷◌, Ok, Err, false, refl}
use Rattle.shape_exact.specs.declared.point.Point.{Point}
use Rattle.shape_exact.specs.declared.shape.ShapeFault.TheVariants.{TooFew, Range, Equal, NotConvex, Flat}
use Rattle.shape_exact.specs.Reading.{shape_of}
use Rattle.shape_exact.specs.Names.{is_name}
use Rattle.shape_exact.specs.Days.{with_day}

abbrev p : ℤ → ℤ → Point
p x y = record { x = x; y = y }

-- a clockwise square with a vertex within a side is read counterclockwise, from the same first vertex
square : shape_of (p (pos 0) (pos 0) ∷ p (pos 0) (pos 2) ∷ p (pos 1) (pos 2) ∷ p (pos 2) (pos 2) ∷ p (pos 2) (pos 0) ∷ [])
    ≡ Ok (p (pos 0) (pos 0) ∷ p (pos 2) (pos 0) ∷ p (pos 2) (pos 2) ∷ p (pos 1) (pos 2) ∷ p (pos 0) (pos 2) ∷ [])
unfolding shape_of
square = refl

-- a triangle is shifted to least x and least y 0
triangle : shape_of (p (negsuc 999) (pos 5) ∷ p (pos 1000) (pos 5) ∷ p (negsuc 999) (pos 6) ∷ [])
    ≡ Ok (p (pos 0) (pos 0) ∷ p (pos 2000) (pos 0) ∷ p (pos 0) (pos 1) ∷ [])
unfolding shape_of
triangle = refl

-- a star of five points turns left everywhere, but not every vertex is on the left of every edge
star : shape_of (p (pos 0) (pos 0) ∷ p (pos 10) (pos 6) ∷ p (negsuc 1) (pos 6) ∷ p (pos 8) (pos 0) ∷ p (pos 4) (pos 10) ∷ []) ≡ Err (NotConvex 0 3)
unfolding shape_of
star = refl

-- the first vertex once more at the end is an equal pair
closed : shape_of (p (pos 0) (pos 0) ∷ p (pos 2) (pos 0) ∷ p (pos 2) (pos 2) ∷ p (pos 0) (pos 0) ∷ []) ≡ Err (Equal 0 3)
unfolding shape_of
closed = refl

-- all on one line
line : shape_of (p (pos 0) (pos 0) ∷ p (pos 1) (pos 1) ∷ p (pos 2) (pos 2) ∷ []) ≡ Err Flat
unfolding shape_of
line = refl

-- out of range comes before equal, and too few before both
outside : shape_of (p (pos 0) (pos 0) ∷ p (pos 0) (pos 0) ∷ p (pos 1001) (pos 0) ∷ []) ≡ Err (Range 2)
unfolding shape_of
outside = refl

two : shape_of (p (pos 1001) (pos 0) ∷ p (pos 1001) (pos 0) ∷ []) ≡ Err TooFew
unfolding shape_of
two = refl

-- a name with a space is none
spaced : is_name (65 ∷ 32 ∷ 66 ∷ []) ≡ false
spaced = refl

-- a day goes in once, in its place
days : with_day 5 (with_day 9 (with_day 5 [])) ≡ 5 ∷ 9 ∷ []
days = refl
