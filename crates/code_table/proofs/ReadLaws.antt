-- What the plates, the calendars and the turned shapes of a yard say of a stand.
use Rattle.std.proofs.Common.{◌≡◌, ℕ, ◌*◌, ◌≤◌, ◌<◌, List, [], length, get_or, map, Option, Some, None, refl, sym, ap, ◌∙◌, subst, arith, Bool, true, false}
use Rattle.std.specs.Prelude.{slice_get, unwrap_or, IfNone, IfSome, All}
use Rattle.std.proofs.lemmas.Option.{none-some, same_Some, slice_get_read, slice_get-map, unwrap_or-slice_get, get_or_from_slice_get, slice_get_within}
use Rattle.std.proofs.lemmas.List.{length-map}
use Rattle.std.proofs.lemmas.List.Elements.{All-get_or}
use Rattle.std.specs.Option.{option_map}
use Rattle.shape_exact.specs.Yards.{PlainYard, IsYard, IsPlate, IsBlock}
use Rattle.shape_exact.specs.declared.block.Block.{Block}
use Rattle.shape_exact.specs.declared.plate.Plate.{Plate}
use Rattle.shape_exact.specs.declared.point.Point.{Point}
use Rattle.shape_exact.specs.Shapes.{turned, reach_x, reach_y}
use Rattle.plate_calendar.specs.Calendars.{open_days, end_of}
use Rattle.common_lists.specs.Each.{when}
use Rattle.code_table.specs.Placements.{placed}
use Rattle.code_table.specs.Grids.{rows, columns}
use Rattle.code_table.specs.Stands.{EndsOn, stand_at, nth_stand, stand_start, stand_plate, stand_turn}
use Rattle.code_table.proofs.GridLaws.{length-grid_of}
use Rattle.code_table.proofs.StandLaws.{stand_end, stand_grid, stand-endless, stand-ends}

-- an element that was read stands in the list
pub read_at : {A : Type 0} (xs ys : List A) (i : ℕ) (x : A) → ys ≡ xs → i < length xs → x ≡ get_or ys i x → slice_get xs i ≡ Some x
read_at xs ys i x same l is =
    slice_get_read xs (length xs) i x refl l (subst (λ zs. x ≡ get_or zs i x) same is)

-- the calendar of a plate is of its open days
pub calendar_at : (days : ℕ) (plates : List Plate) (calendars : List (List ℕ)) (p : ℕ) (plate : Plate) (opens : List ℕ)
    → calendars ≡ map (λ p. open_days days p.closed) plates → slice_get plates p ≡ Some plate → p < length plates
    → opens ≡ get_or calendars p opens → opens ≡ open_days days plate.closed
calendar_at days plates calendars p plate opens are at l is =
    let f : Plate → List ℕ = λ p. open_days days p.closed in
    let m : p < length (map f plates) = let e = length-map plates f in omega arith in
    let here : slice_get (map f plates) p ≡ Some opens = read_at (map f plates) calendars p opens are m is in
    same_Some opens (f plate) (sym here ∙ slice_get-map f plates p ∙ ap (option_map f) at)

-- the k-th stand by its parts
pub stand_of : (yard : PlainYard) (block : Block) (k start p turn : ℕ) → start ≡ stand_start yard k → p ≡ stand_plate yard k
    → turn ≡ stand_turn yard k → nth_stand yard block k ≡ stand_at yard block start p turn
unfolding nth_stand
stand_of yard block k start p turn a b c =
    ap (λ s. stand_at yard block s (stand_plate yard k) (stand_turn yard k)) (sym a)
    ∙ ap (λ p. stand_at yard block start p (stand_turn yard k)) (sym b) ∙ ap (stand_at yard block start p) (sym c)

-- the turn of a block is allowed or not
pub allowed_at : (turns : List Bool) (turn : ℕ) → unwrap_or (slice_get turns turn) false ≡ get_or turns turn false
allowed_at turns turn = unwrap_or-slice_get turns turn false

-- the grid of a stand by the turned shape that was read
pub grid_at : (block : Block) (plate : Plate) (start end p turn : ℕ) (shape : List Point) → shape ≡ turned turn block.shape → 0 < plate.pitch
    → length (stand_grid block plate start end p turn) ≡ rows plate shape * columns plate shape
grid_at block plate start end p turn shape is pitch =
    length-grid_of plate (reach_y (turned turn block.shape)) (reach_x (turned turn block.shape)) (placed start end p turn) pitch
    ∙ ap (λ s. rows plate s * columns plate s) (sym is)

-- a stand in a turn that is allowed
pub stand-allowed : (yard : PlainYard) (block : Block) (start p turn : ℕ) (plate : Plate) (end : ℕ) → block.release ≤ start
    → slice_get yard.plates p ≡ Some plate → stand_end yard block start plate ≡ Some end
    → unwrap_or (slice_get block.turns turn) false ≡ true → stand_at yard block start p turn ≡ stand_grid block plate start end p turn
stand-allowed yard block start p turn plate end l at is allowed =
    stand-ends yard block start p turn plate end l at is ∙ ap (λ b. when b (stand_grid block plate start end p turn)) allowed

-- a stand in a turn that is not
pub stand-turnless : (yard : PlainYard) (block : Block) (start p turn : ℕ) (plate : Plate) (end : ℕ) → block.release ≤ start
    → slice_get yard.plates p ≡ Some plate → stand_end yard block start plate ≡ Some end
    → unwrap_or (slice_get block.turns turn) false ≡ false → stand_at yard block start p turn ≡ []
stand-turnless yard block start p turn plate end l at is allowed =
    stand-ends yard block start p turn plate end l at is ∙ ap (λ b. when b (stand_grid block plate start end p turn)) allowed

-- what the calendar of a plate answers of an end: none, and then there is no placement, or the end
pub ends_none : (yard : PlainYard) (block : Block) (start p : ℕ) (plate : Plate) (opens : List ℕ) (o : Option ℕ)
    → slice_get yard.plates p ≡ Some plate → opens ≡ open_days yard.days plate.closed → o ≡ end_of opens start block.duration
    → IfNone o ((turn : ℕ) → stand_at yard block start p turn ≡ [])
ends_none yard block start p plate opens (Some e) at same is = tt
ends_none yard block start p plate opens None at same is =
    λ turn. stand-endless yard block start p turn plate at (ap (λ ds. end_of ds start block.duration) (sym same) ∙ sym is)

pub ends_some : (yard : PlainYard) (block : Block) (start p : ℕ) (plate : Plate) (opens : List ℕ) (o : Option ℕ) → block.release ≤ start
    → slice_get yard.plates p ≡ Some plate → opens ≡ open_days yard.days plate.closed → o ≡ end_of opens start block.duration
    → IfSome o (λ end. EndsOn yard block start p end)
ends_some yard block start p plate opens None l at same is = tt
ends_some yard block start p plate opens (Some e) l at same is =
    record { plate = plate; plate_is = at; released = l; end_is = ap (λ ds. end_of ds start block.duration) (sym same) ∙ sym is }

-- one plate has one number
pub same_plate : (yard : PlainYard) (block : Block) (start p end : ℕ) (plate : Plate) (e : EndsOn yard block start p end)
    → slice_get yard.plates p ≡ Some plate → e.plate ≡ plate
same_plate yard block start p end plate e at = same_Some e.plate plate (sym e.plate_is ∙ at)

-- a start with no end has none
pub ends_never : (yard : PlainYard) (block : Block) (start p : ℕ) (plate : Plate) (opens : List ℕ) (o : Option ℕ)
    → slice_get yard.plates p ≡ Some plate → opens ≡ open_days yard.days plate.closed → o ≡ end_of opens start block.duration
    → IfNone o ((end : ℕ) → EndsOn yard block start p end → ⊥)
ends_never yard block start p plate opens (Some e) at same is = tt
ends_never yard block start p plate opens None at same is = λ end e.
    let f : e.plate ≡ plate = same_plate yard block start p end plate e at in
    none-some end (is ∙ ap (λ ds. end_of ds start block.duration) same
    ∙ sym (ap (λ (pl : Plate). end_of (open_days yard.days pl.closed) start block.duration) f) ∙ e.end_is)

-- one start has one end
pub one_end : (yard : PlainYard) (block : Block) (start p a b : ℕ) → EndsOn yard block start p a → EndsOn yard block start p b → a ≡ b
one_end yard block start p a b e f =
    let same : e.plate ≡ f.plate = same_plate yard block start p a f.plate e f.plate_is in
    same_Some a b (sym e.end_is ∙ ap (λ (pl : Plate). end_of (open_days yard.days pl.closed) start block.duration) same ∙ f.end_is)

-- how many placements a stand has: none in a turn that the block may not have
pub len_turnless : (yard : PlainYard) (block : Block) (k start p turn end : ℕ) → start ≡ stand_start yard k → p ≡ stand_plate yard k
    → turn ≡ stand_turn yard k → EndsOn yard block start p end → get_or block.turns turn false ≡ false
    → 0 ≡ length (nth_stand yard block k)
len_turnless yard block k start p turn end a b c e not_allowed =
    sym (ap length (stand_of yard block k start p turn a b c
    ∙ stand-turnless yard block start p turn e.plate end e.released e.plate_is e.end_is (allowed_at block.turns turn ∙ not_allowed)))

-- the grid's in one that it may
pub len_allowed : (yard : PlainYard) (block : Block) (k start p turn end : ℕ) (plate : Plate) (shape : List Point) → start ≡ stand_start yard k
    → p ≡ stand_plate yard k → turn ≡ stand_turn yard k → EndsOn yard block start p end
    → get_or block.turns turn false ≡ true → slice_get yard.plates p ≡ Some plate → shape ≡ turned turn block.shape → 0 < plate.pitch
    → rows plate shape * columns plate shape ≡ length (nth_stand yard block k)
len_allowed yard block k start p turn end plate shape a b c e allowed at is pitch =
    let same = same_plate yard block start p end plate e at in
    sym (ap length (stand_of yard block k start p turn a b c
    ∙ stand-allowed yard block start p turn plate end e.released at
    (subst (λ plate. stand_end yard block start plate ≡ Some end) same e.end_is) (allowed_at block.turns turn ∙ allowed))
    ∙ grid_at block plate start end p turn shape is pitch)

-- what holds of each element holds of one that stands at a place
pub all_at : {A : Type 0} (P : A → Type 0) (xs : List A) (i : ℕ) (x : A) → All P xs → slice_get xs i ≡ Some x → P x
all_at P xs i x all at =
    subst P (get_or_from_slice_get xs i x x at) (All-get_or P xs i x (slice_get_within xs i x at) all)

-- a plate and a block of a yard are within the limits
pub plate_limits : (yard : PlainYard) (p : ℕ) (plate : Plate) → IsYard yard → slice_get yard.plates p ≡ Some plate → IsPlate yard.days plate
plate_limits yard p plate y at = all_at (IsPlate yard.days) yard.plates p plate y.plates at

pub block_limits : (yard : PlainYard) (b : ℕ) (block : Block) → IsYard yard → slice_get yard.blocks b ≡ Some block → IsBlock block
block_limits yard b block y at = all_at IsBlock yard.blocks b block y.blocks at
