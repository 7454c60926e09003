-- Each element of the list of placements is a placement.
use Rattle.std.proofs.Common.{◌≡◌, ℕ, ◌+◌, ◌*◌, ◌≤◌, ◌<◌, List, [], ◌∷◌, length, Some, refl, subst, true, false}
use Rattle.std.specs.Prelude.{slice_get, nat_le, unwrap_or}
use Rattle.std.proofs.lemmas.Bool.{leb-true}
use Rattle.common_lists.proofs.ListLaws.{told_true}
use Rattle.shape_exact.specs.Yards.{PlainYard}
use Rattle.shape_exact.specs.declared.block.Block.{Block}
use Rattle.shape_exact.specs.declared.plate.Plate.{Plate}
use Rattle.shape_exact.specs.Shapes.{turned, reach_x, reach_y}
use Rattle.plate_calendar.specs.Calendars.{open_days, end_of}
use Rattle.common_lists.specs.Each.{each, when, for_some}
use Rattle.common_lists.proofs.EachLaws.{from-each, from-when, from-some, from-one}
use Rattle.code_table.specs.declared.placement.Placement.{Placement}
use Rattle.code_table.specs.Placements.{placed, at_step, each_step, row_of, grid_of, placements_on, placements_of, IsPlacement}

from-step : {A : Type 0} (pitch long size k : ℕ) (f : ℕ → List A) (x : A) → slice_get (each_step pitch long size f) k ≡ Some x
    → (i : ℕ) × (i * pitch + long ≤ size) × (j : ℕ) × (slice_get (f (i * pitch)) j ≡ Some x)
from-step pitch long size k f x e =
    let (i, l, j, at) = from-each (size + 1) k (at_step pitch long size f) x e in
    let (fits, here) = from-when (nat_le (i * pitch + long) size) (f (i * pitch)) j x at in
    (i, leb-true _ _ fits, j, here)

-- where an element of a grid stands
pub record InGrid (plate : Plate) (high long : ℕ) (f : ℕ → ℕ → Placement) (p : Placement) : Type 0 where
  pub row : ℕ
  pub column : ℕ
  pub high_fits : row * plate.pitch + high ≤ plate.height
  pub long_fits : column * plate.pitch + long ≤ plate.width
  pub is : f (row * plate.pitch) (column * plate.pitch) ≡ p

pub in_grid : (plate : Plate) (high long : ℕ) (f : ℕ → ℕ → Placement) (k : ℕ) (p : Placement) → slice_get (grid_of plate high long f) k ≡ Some p → InGrid plate high long f p
in_grid plate high long f k p e =
    let (j, high', k1, e1) = from-step plate.pitch high plate.height k (λ y. row_of plate long (f y)) p e in
    let (i, wide, k2, e2) = from-step plate.pitch long plate.width k1 (λ x. f (j * plate.pitch) x ∷ []) p e1 in
    record { row = j; column = i; high_fits = high'; long_fits = wide; is = from-one (f (j * plate.pitch) (i * plate.pitch)) k2 p e2 }

-- the grid of a turn
abbrev turn_grid : Block → ℕ → ℕ → ℕ → Plate → ℕ → List Placement
turn_grid block start end pl plate turn =
    grid_of plate (reach_y (turned turn block.shape)) (reach_x (turned turn block.shape)) (placed start end pl turn)

in_turns : (block : Block) (start end pl n : ℕ) (plate : Plate) (k : ℕ) (p : Placement)
    → slice_get (each n (λ turn. when (unwrap_or (slice_get block.turns turn) false) (turn_grid block start end pl plate turn))) k ≡ Some p
    → (turn : ℕ) × (turn < n) × (slice_get block.turns turn ≡ Some true)
    × InGrid plate (reach_y (turned turn block.shape)) (reach_x (turned turn block.shape)) (placed start end pl turn) p
in_turns block start end pl n plate k p e =
    let (turn, l, k1, e1) = from-each n k (λ turn. when (unwrap_or (slice_get block.turns turn) false) (turn_grid block start end pl plate turn)) p e in
    let (allowed, e2) = from-when (unwrap_or (slice_get block.turns turn) false) (turn_grid block start end pl plate turn) k1 p e1 in
    (turn, l, told_true (slice_get block.turns turn) allowed, in_grid plate _ _ (placed start end pl turn) k1 p e2)

as_placement : (yard : PlainYard) (block : Block) (start end pl turn : ℕ) (plate : Plate) (p : Placement)
    → slice_get yard.plates pl ≡ Some plate → start < yard.days → block.release ≤ start
    → end_of (open_days yard.days plate.closed) start block.duration ≡ Some end → turn < 4 → slice_get block.turns turn ≡ Some true
    → InGrid plate (reach_y (turned turn block.shape)) (reach_x (turned turn block.shape)) (placed start end pl turn) p → IsPlacement yard block p
as_placement yard block start end pl turn plate p a b c d f g grid =
    subst (IsPlacement yard block) grid.is
    (record {
      plate = plate;
      plate_is = a;
      start = b;
      released = c;
      end_is = d;
      turn = f;
      allowed = g;
      x_step = (grid.column, refl);
      y_step = (grid.row, refl);
      x_fits = grid.long_fits;
      y_fits = grid.high_fits;
    })

on_facts : (yard : PlainYard) (block : Block) (start pl : ℕ) (plate : Plate) (k : ℕ) (p : Placement)
    → slice_get yard.plates pl ≡ Some plate → start < yard.days → block.release ≤ start
    → slice_get (placements_on yard.days block start pl plate) k ≡ Some p → IsPlacement yard block p
on_facts yard block start pl plate k p a b c e =
    let (end, end_is, e1) = from-some (end_of (open_days yard.days plate.closed) start block.duration)
    (λ end. each 4 (λ turn. when (unwrap_or (slice_get block.turns turn) false) (turn_grid block start end pl plate turn))) k p e in
    let (turn, four, allowed, grid) = in_turns block start end pl 4 plate k p e1 in
    as_placement yard block start end pl turn plate p a b c end_is four allowed grid

-- an element of the list is a placement
pub placed-facts : (yard : PlainYard) (block : Block) (k : ℕ) (p : Placement) → slice_get (placements_of yard block) k ≡ Some p → IsPlacement yard block p
placed-facts yard block k p e =
    let plates : ℕ → List Placement = λ start. each (length yard.plates) (λ p. for_some (slice_get yard.plates p) (placements_on yard.days block start p)) in
    let (start, in_days, k1, e1) = from-each yard.days k (λ start. when (nat_le block.release start) (plates start)) p e in
    let (released, e2) = from-when (nat_le block.release start) (plates start) k1 p e1 in
    let (pl, in_plates, k2, e3) = from-each (length yard.plates) k1 (λ p. for_some (slice_get yard.plates p) (placements_on yard.days block start p)) p e2 in
    let (plate, plate_is, e4) = from-some (slice_get yard.plates pl) (placements_on yard.days block start pl) k2 p e3 in
    on_facts yard block start pl plate k2 p plate_is in_days (leb-true _ _ released) e4
