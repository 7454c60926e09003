-- A shift keeps the cells of a shape.
use Rattle.std.proofs.Common.{◌≡◌, ℕ, ◌+◌, ◌*◌, ◌≤◌, List, [], ◌∷◌, refl, ap, ◌∙◌, arith, Bool}
use Rattle.std.specs.Prelude.{ℤ, pos, ◌+ℤ◌, ◌-ℤ◌, ◌*ℤ◌, int_lt, if◌then◌else◌, ◌&&◌}
use Rattle.std.specs.List.{list_all}
use Rattle.std.proofs.lemmas.Int.{ints}
use Rattle.shape_exact.specs.declared.point.Point.{Point}
use Rattle.common_lists.specs.Each.{sum_below}
use Rattle.shape_exact.specs.Shapes.{edges, side_of, is_inside, reach_x, reach_y, centre, origin, cells}
use Rattle.common_lists.proofs.EachLaws.{sum-le, sum-shift_le}

pub list_all-agree : {A : Type 0} (p r : A → Bool) (xs : List A) → ((x : A) → p x ≡ r x) → list_all p xs ≡ list_all r xs
list_all-agree p r [] h = refl
list_all-agree p r (x ∷ xs) h = ap (λ b. b && list_all p xs) (h x) ∙ ap (λ b. r x && b) (list_all-agree p r xs h)

part-shift : (v : ℤ) (x i : ℕ) → (pos (2 * (x + i) + 1) -ℤ pos 2 *ℤ (v +ℤ pos x)) ≡ (pos (2 * i + 1) -ℤ pos 2 *ℤ (v +ℤ pos 0))
part-shift v x i = omega (arith, ints)

-- a spot and a shape that are shifted together
side-shift : (a b : Point) (x y i j : ℕ) → side_of a b (record { x = pos x; y = pos y }) (centre (x + i) (y + j)) ≡ side_of a b origin (centre i j)
side-shift a b x y i j =
    ap (λ v. ((b.x -ℤ a.x) *ℤ v) -ℤ ((b.y -ℤ a.y) *ℤ (pos (2 * (x + i) + 1) -ℤ pos 2 *ℤ (a.x +ℤ pos x)))) (part-shift a.y y j)
    ∙ ap (λ v. ((b.x -ℤ a.x) *ℤ (pos (2 * j + 1) -ℤ pos 2 *ℤ (a.y +ℤ pos 0))) -ℤ ((b.y -ℤ a.y) *ℤ v)) (part-shift a.x x i)

pub inside-shift : (shape : List Point) (x y i j : ℕ)
    → is_inside shape (record { x = pos x; y = pos y }) (centre (x + i) (y + j)) ≡ is_inside shape origin (centre i j)
inside-shift shape x y i j =
    list_all-agree (λ e. int_lt (pos 0) (side_of e.0 e.1 (record { x = pos x; y = pos y }) (centre (x + i) (y + j))))
    (λ e. int_lt (pos 0) (side_of e.0 e.1 origin (centre i j))) (edges shape) (λ e. ap (int_lt (pos 0)) (side-shift e.0 e.1 x y i j))

-- a shape has its cells wherever it stands within a rectangle
pub cells-shift : (shape : List Point) (x y width height : ℕ) → x + reach_x shape ≤ width → y + reach_y shape ≤ height
    → cells shape ≤ sum_below height (λ j. sum_below width (λ i. if is_inside shape (record { x = pos x; y = pos y }) (centre i j) then 1 else 0))
cells-shift shape x y width height w h =
    let at : Point = record { x = pos x; y = pos y } in
    let cell : ℕ → ℕ → ℕ = λ j i. if is_inside shape at (centre i j) then 1 else 0 in
    let rows = sum-shift_le (reach_y shape) height y (λ j. sum_below width (cell j)) h in
    let each' : cells shape ≤ sum_below (reach_y shape) (λ j. sum_below width (cell (y + j))) =
    sum-le (reach_y shape) (λ j. sum_below (reach_x shape) (λ i. if is_inside shape origin (centre i j) then 1 else 0)) (λ j. sum_below width (cell (y + j)))
    (λ j l.
    let same = sum-le (reach_x shape) (λ i. if is_inside shape origin (centre i j) then 1 else 0) (λ i. cell (y + j) (x + i))
    (λ i m. let e : cell (y + j) (x + i) ≡ (if is_inside shape origin (centre i j) then 1 else 0) = ap (λ b. if b then 1 else 0) (inside-shift shape x y i j) in omega arith) in
    let row = sum-shift_le (reach_x shape) width x (cell (y + j)) w in omega arith) in
    omega arith
