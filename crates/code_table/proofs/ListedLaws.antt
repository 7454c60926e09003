-- Each placement of a block stands in the list of its placements.
use Rattle.std.proofs.Common.{◌≡◌, ℕ, ◌+◌, ◌*◌, ◌≤◌, ◌<◌, List, [], ◌∷◌, length, Option, Some, refl, sym, ap, ◌∙◌, subst, arith, Bool, true, false}
use Rattle.std.specs.Prelude.{slice_get, nat_le, unwrap_or}
use Rattle.std.proofs.lemmas.Bool.{le-leb}
use Rattle.std.proofs.lemmas.Nat.{mul-le}
use Rattle.std.proofs.lemmas.Option.{slice_get_within}
use Rattle.shape_exact.specs.Yards.{PlainYard, IsYard}
use Rattle.shape_exact.specs.declared.block.Block.{Block}
use Rattle.shape_exact.specs.declared.plate.Plate.{Plate}
use Rattle.shape_exact.specs.Shapes.{turned, reach_x, reach_y}
use Rattle.plate_calendar.specs.Calendars.{open_days, end_of}
use Rattle.common_lists.specs.Each.{each, when, for_some, sum_below}
use Rattle.common_lists.proofs.EachLaws.{get-each}
use Rattle.code_table.specs.declared.placement.Placement.{Placement}
use Rattle.code_table.specs.Placements.{placed, at_step, each_step, row_of, grid_of, placements_on, placements_of, placements, IsPlacement}
use Rattle.code_table.proofs.ReadLaws.{plate_limits}
use Rattle.code_table.proofs.StandLaws.{stand_grid, placements-of}

-- a value stands in a list
abbrev pub IsListed : {A : Type 0} → A → List A → Type 0
IsListed x xs = (k : ℕ) × (slice_get xs k ≡ Some x)

-- what stands in one of the lists stands in all of them, one after another
listed-each : {A : Type 0} (n i : ℕ) (f : ℕ → List A) (x : A) → i < n → IsListed x (f i) → IsListed x (each n f)
listed-each n i f x l (k, at) =
    (sum_below i (λ i. length (f i)) + k, get-each n i k f l (slice_get_within (f i) k x at) ∙ at)

-- where a test holds, its list stays
listed-when : {A : Type 0} (b : Bool) (xs : List A) (x : A) → b ≡ true → IsListed x xs → IsListed x (when b xs)
listed-when b xs x holds is = subst (λ b. IsListed x (when b xs)) (sym holds) is

-- where there is a value, its list stays
listed-some : {A B : Type 0} (o : Option A) (f : A → List B) (a : A) (x : B) → o ≡ Some a → IsListed x (f a) → IsListed x (for_some o f)
listed-some o f a x here is = subst (λ o. IsListed x (for_some o f)) (sym here) is

-- a step that fits is one of the steps
listed-step : {A : Type 0} (pitch long size i at : ℕ) (f : ℕ → List A) (x : A) → 0 < pitch → at ≡ i * pitch → at + long ≤ size
    → IsListed x (f at) → IsListed x (each_step pitch long size f)
listed-step pitch long size i at f x pos step fits is =
    let m : i * 1 ≤ i * pitch = mul-le i 1 i pitch (omega arith) (omega arith) in
    let here : IsListed x (f (i * pitch)) = subst (λ a. IsListed x (f a)) step is in
    listed-each (size + 1) i (at_step pitch long size f) x (omega arith)
    (listed-when (nat_le (i * pitch + long) size) (f (i * pitch)) x (le-leb (i * pitch + long) size (omega arith)) here)

-- a row and a column that fit are in the grid
pub listed-grid : (plate : Plate) (high long j i y x : ℕ) (f : ℕ → ℕ → Placement) → 0 < plate.pitch → y ≡ j * plate.pitch → x ≡ i * plate.pitch
    → y + high ≤ plate.height → x + long ≤ plate.width → IsListed (f y x) (grid_of plate high long f)
listed-grid plate high long j i y x f pos row column high_fits long_fits =
    listed-step plate.pitch high plate.height j y (λ y. row_of plate long (f y)) (f y x) pos row high_fits
    (listed-step plate.pitch long plate.width i x (λ x. f y x ∷ []) (f y x) pos column long_fits (0, refl))

-- in the list of a turn that the block may stand in
listed-turn : (block : Block) (start end p n turn : ℕ) (plate : Plate) (x : Placement) → turn < n → slice_get block.turns turn ≡ Some true
    → IsListed x (stand_grid block plate start end p turn)
    → IsListed x (each n (λ turn. when (unwrap_or (slice_get block.turns turn) false) (stand_grid block plate start end p turn)))
listed-turn block start end p n turn plate x l allowed is =
    listed-each n turn (λ turn. when (unwrap_or (slice_get block.turns turn) false) (stand_grid block plate start end p turn)) x l
    (listed-when (unwrap_or (slice_get block.turns turn) false) (stand_grid block plate start end p turn) x (ap (λ o. unwrap_or o false) allowed) is)

-- in the list of its start and plate
listed-on : (yard : PlainYard) (block : Block) (p : Placement) → IsYard yard → (is : IsPlacement yard block p)
    → IsListed p (placements_on yard.days block p.start p.plate is.plate)
listed-on yard block p y is =
    let pitch = (plate_limits yard p.plate is.plate y is.plate_is).pitch.0 in
    let (i, x_is) = is.x_step in
    let (j, y_is) = is.y_step in
    listed-some (end_of (open_days yard.days is.plate.closed) p.start block.duration)
    (λ end. each 4 (λ turn. when (unwrap_or (slice_get block.turns turn) false) (stand_grid block is.plate p.start end p.plate turn)))
    p.end p is.end_is
    (listed-turn block p.start p.end p.plate 4 p.turn is.plate p is.turn is.allowed
    (listed-grid is.plate (reach_y (turned p.turn block.shape)) (reach_x (turned p.turn block.shape)) j i p.y p.x
    (placed p.start p.end p.plate p.turn) pitch y_is x_is is.y_fits is.x_fits))

-- each placement of a block has a code
pub listed : (yard : PlainYard) (block : Block) (p : Placement) → IsYard yard → IsPlacement yard block p → IsListed p (placements_of yard block)
listed yard block p y is =
    let plates : ℕ → List Placement = λ start. each (length yard.plates) (λ p. for_some (slice_get yard.plates p) (placements_on yard.days block start p)) in
    listed-each yard.days p.start (λ start. when (nat_le block.release start) (plates start)) p is.start
    (listed-when (nat_le block.release p.start) (plates p.start) p (le-leb block.release p.start is.released)
    (listed-each (length yard.plates) p.plate (λ k. for_some (slice_get yard.plates k) (placements_on yard.days block p.start k)) p
    (slice_get_within yard.plates p.plate is.plate is.plate_is)
    (listed-some (slice_get yard.plates p.plate) (placements_on yard.days block p.start p.plate) is.plate p is.plate_is
    (listed-on yard block p y is))))

-- the same for a block by its number
pub listed_code : (yard : PlainYard) (b : ℕ) (block : Block) (p : Placement) → IsYard yard → slice_get yard.blocks b ≡ Some block
    → IsPlacement yard block p → IsListed p (placements yard b)
listed_code yard b block p y at is = subst (IsListed p) (sym (placements-of yard b block at)) (listed yard block p y is)
