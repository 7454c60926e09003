-- The free placements of a slot, turn by turn.
use Rattle.std.proofs.Common.{◌≡◌, ℕ, ◌+◌, ◌*◌, ◌<◌, ◌≤◌, List, length, get_or, Bool, true, false, Option, Some, None, pos, refl, sym, ap, ◌∙◌, subst, inl, inr, arith}
use Rattle.std.specs.Prelude.{slice_get, is_some, unwrap_or, All, IfNone}
use Rattle.std.proofs.lemmas.Bool.{cases_lt, false≢true}
use Rattle.std.proofs.lemmas.Option.{same_Some, slice_get-get_or, slice_get_within}
use Rattle.common_lists.proofs.ListLaws.{element_at, told_true}
use Rattle.shape_exact.specs.Yards.{PlainYard, IsPlate, IsYard}
use Rattle.shape_exact.specs.Shapes.{turned, reach_x, reach_y}
use Rattle.shape_exact.specs.declared.block.Block.{Block}
use Rattle.shape_exact.specs.declared.plate.Plate.{Plate}
use Rattle.shape_exact.specs.declared.point.Point.{Point}
use Rattle.plate_calendar.specs.Calendars.{open_days, end_of}
use Rattle.lattice_free.specs.Clear.{AreClear}
use Rattle.lattice_free.specs.Runs.{place}
use Rattle.code_table.specs.declared.placement.Placement.{Placement}
use Rattle.code_table.specs.Placements.{IsPlacement}
use Rattle.code_table.proofs.ReadLaws.{read_at}
use Rattle.plan_rule.specs.Clashes.{place_of}
use Rattle.tardiness_bounds.specs.declared.near.Neighbour.{Neighbour}
use Rattle.tardiness_bounds.specs.declared.slot.Slot.{Slot}
use Rattle.tardiness_bounds.specs.declared.standing.Standing.{Standing}
use Rattle.tardiness_bounds.specs.Tables.{PlainTables}
use Rattle.tardiness_bounds.specs.Slots.{AreSlots, IsIn, IsSlot, place_of_slot}
use Rattle.tardiness_bounds.specs.Neighbours.{AreNear, obstacles_of}
use Rattle.tardiness_bounds.specs.Standings.{IsStanding}
use Rattle.tardiness_bounds.specs.Witnesses.{AreFull, HasNoPlace, IsFree, IsFreeNear, IsFull, IsFullNear, IsWitness}
use Rattle.tardiness_bounds.proofs.ClashLaws.{HaveOneSpan, clear_near, near_clear}
use Rattle.tardiness_bounds.proofs.RowLaws.{HasNoClearFrom}
use Rattle.tardiness_bounds.proofs.LatticeLaws.{shape_in}
use Rattle.tardiness_bounds.specs.Firsts.{IsOnFrom}
use Rattle.tardiness_bounds.specs.Footprints.{footprint_at}
use Rattle.tardiness_bounds.specs.Lattices.{IsLatticeAt}
use Rattle.tardiness_bounds.specs.declared.lattice.Lattice.{Lattice}

-- the plate and the end of a placement in a slot
pub same_plate : (yard : PlainYard) (block : Block) (s : Slot) (p : Placement) (plate : Plate) → slice_get yard.plates s.plate ≡ Some plate
    → (is : IsPlacement yard block p) → IsIn s p → is.plate ≡ plate
same_plate yard block s p plate at is (start, on) = same_Some is.plate plate (sym is.plate_is ∙ ap (slice_get yard.plates) on ∙ at)

pub same_end : (yard : PlainYard) (block : Block) (s : Slot) (p : Placement) → IsSlot yard block s → IsPlacement yard block p → IsIn s p → p.end ≡ s.end
same_end yard block s p is placed (start, on) =
    let e = is.ends in
    let plate : placed.plate ≡ e.plate = same_Some placed.plate e.plate (sym placed.plate_is ∙ ap (slice_get yard.plates) on ∙ e.plate_is) in
    same_Some p.end s.end
    (sym placed.end_is
    ∙ ap (λ (q : Plate). end_of (open_days yard.days q.closed) p.start block.duration) plate
    ∙ ap (λ s. end_of (open_days yard.days e.plate.closed) s block.duration) start
    ∙ e.end_is)

-- what is known of a slot in one turn
pub record IsAtSlot (yard : PlainYard) (b : ℕ) (s : Slot) (turn : ℕ) (l : Lattice) : Type 0 where
  pub block : b < length yard.blocks
  pub turn_is : turn < 4
  pub slot : (block : Block) → slice_get yard.blocks b ≡ Some block → IsSlot yard block s
  pub at : IsLatticeAt yard s.plate (b * 4 + turn) l

-- a free placement of the turn stands at a row and a column whose position is clear
pub record StandsAtRow (yard : PlainYard) (near : List Neighbour) (b turn : ℕ) (l : Lattice) : Type 0 where
  pub j : ℕ
  pub k : ℕ
  pub row : j < l.rows
  pub column : k < l.columns
  pub clear : AreClear (obstacles_of yard (b * 4 + turn) near) (place l.pitch j k)

stands_at_row : (yard : PlainYard) (near : List Neighbour) (b : ℕ) (s : Slot) (turn : ℕ) (l : Lattice) → IsAtSlot yard b s turn l
    → (p : Placement) → p.turn ≡ turn → IsFreeNear yard near b s p → StandsAtRow yard near b turn l
stands_at_row yard near b s turn l h p t free =
    let is = free.placement in
    let plate : Plate = h.at.plate in
    let same : is.plate ≡ plate = same_plate yard free.block s p plate h.at.plate_is is free.within in
    let form : turned p.turn free.block.shape ≡ footprint_at yard (b * 4 + turn) =
    ap (λ q. turned q free.block.shape) t ∙ sym (shape_in yard b turn free.block h.block h.turn_is free.block_is) in
    let (j, y) = is.y_step in
    let (k, x) = is.x_step in
    let y_is : p.y ≡ j * plate.pitch = y ∙ ap (λ (q : Plate). j * q.pitch) same in
    let x_is : p.x ≡ k * plate.pitch = x ∙ ap (λ (q : Plate). k * q.pitch) same in
    let high : is.plate.height ≡ plate.height = ap (λ (q : Plate). q.height) same in
    let wide : is.plate.width ≡ plate.width = ap (λ (q : Plate). q.width) same in
    let reach_high : reach_y (turned p.turn free.block.shape) ≡ reach_y (footprint_at yard (b * 4 + turn)) = ap reach_y form in
    let reach_wide : reach_x (turned p.turn free.block.shape) ≡ reach_x (footprint_at yard (b * 4 + turn)) = ap reach_x form in
    let y_fits = is.y_fits in
    let x_fits = is.x_fits in
    let clear : AreClear (obstacles_of yard (b * 4 + turn) near) (place_of p) = subst (λ q. AreClear (obstacles_of yard (b * 4 + q) near) (place_of p)) t free.clear in
    let at : place_of p ≡ place plate.pitch j k =
    ap (λ x. (let q : Point = record { x = pos x; y = pos p.y } in q)) x_is ∙ ap (λ y. (let q : Point = record { x = pos (k * plate.pitch); y = pos y } in q)) y_is in
    record {
      j = j;
      k = k;
      row = (h.at.lattice.rows j).1 (omega arith);
      column = (h.at.lattice.columns k).1 (omega arith);
      clear = subst (λ q. AreClear (obstacles_of yard (b * 4 + turn) near) (place q j k)) (sym h.at.lattice.pitch)
          (subst (AreClear (obstacles_of yard (b * 4 + turn) near)) at clear);
    }

-- every row and column is the first one or after it
on_zero : (j k : ℕ) → IsOnFrom 0 0 j k
on_zero j k = elim (cases_lt 0 j) [ inl l ↦ inl l | inr z ↦ inr (omega arith, omega arith) ]

-- where no position is clear, no placement of the turn is free
pub turn_none : (yard : PlainYard) (near : List Neighbour) (b : ℕ) (s : Slot) (turn : ℕ) (l : Lattice) → IsAtSlot yard b s turn l
    → HasNoClearFrom (obstacles_of yard (b * 4 + turn) near) l.pitch l.rows l.columns 0 0
    → (p : Placement) → p.turn ≡ turn → IsFreeNear yard near b s p → ⊥
turn_none yard near b s turn l h none p t free =
    let at = stands_at_row yard near b s turn l h p t free in
    none at.j at.k at.row at.column (on_zero at.j at.k) at.clear

-- the placement of a slot in a turn, at a row and a column
abbrev pub placed_at : Slot → ℕ → ℕ → ℕ → Placement
placed_at s turn y x = record { start = s.start; end = s.end; plate = s.plate; turn = turn; y = y; x = x }

-- a clear position is a free placement
pub turn_some : (yard : PlainYard) (near : List Neighbour) (b : ℕ) (s : Slot) (turn : ℕ) (l : Lattice) (j k : ℕ) → IsAtSlot yard b s turn l
    → ((block : Block) → slice_get yard.blocks b ≡ Some block → unwrap_or (slice_get block.turns turn) false ≡ true)
    → j < l.rows → k < l.columns → AreClear (obstacles_of yard (b * 4 + turn) near) (place l.pitch j k)
    → IsFreeNear yard near b s (placed_at s turn (j * l.pitch) (k * l.pitch))
turn_some yard near b s turn l j k h allowed row column clear =
    let (block, block_is) = element_at yard.blocks b h.block in
    let slot = h.slot block block_is in
    let e = slot.ends in
    let plate : Plate = h.at.plate in
    let same : e.plate ≡ plate = same_Some e.plate plate (sym e.plate_is ∙ h.at.plate_is) in
    let form : footprint_at yard (b * 4 + turn) ≡ turned turn block.shape = shape_in yard b turn block h.block h.turn_is block_is in
    let high = (h.at.lattice.rows j).0 row in
    let wide = (h.at.lattice.columns k).0 column in
    let y_is : j * l.pitch ≡ j * plate.pitch = ap (λ p. j * p) h.at.lattice.pitch in
    let x_is : k * l.pitch ≡ k * plate.pitch = ap (λ p. k * p) h.at.lattice.pitch in
    let reach_high : reach_y (footprint_at yard (b * 4 + turn)) ≡ reach_y (turned turn block.shape) = ap reach_y form in
    let reach_wide : reach_x (footprint_at yard (b * 4 + turn)) ≡ reach_x (turned turn block.shape) = ap reach_x form in
    record {
      block = block;
      block_is = block_is;
      placement = record {
        plate = plate;
        plate_is = h.at.plate_is;
        start = slot.start;
        released = e.released;
        end_is = ap (λ (q : Plate). end_of (open_days yard.days q.closed) s.start block.duration) (sym same) ∙ e.end_is;
        turn = h.turn_is;
        allowed = told_true (slice_get block.turns turn) (allowed block block_is);
        x_step = (k, x_is);
        y_step = (j, y_is);
        x_fits = omega arith;
        y_fits = omega arith;
      };
      within = (refl, refl);
      clear = clear;
    }

-- no free placement of the slot has one of the first turns
abbrev pub AreTurnsFull : PlainYard → List Neighbour → ℕ → Slot → ℕ → Type 0
AreTurnsFull yard near b s n = (p : Placement) → p.turn < n → IsFreeNear yard near b s p → ⊥

pub turns_more : (yard : PlainYard) (near : List Neighbour) (b : ℕ) (s : Slot) (n : ℕ) → AreTurnsFull yard near b s n
    → ((p : Placement) → p.turn ≡ n → IsFreeNear yard near b s p → ⊥) → AreTurnsFull yard near b s (n + 1)
turns_more yard near b s n h here p l free = elim (cases_lt p.turn n) [ inl less ↦ h p less free | inr same ↦ here p (omega arith) free ]

-- a turn that the block may not take has no free placement
pub turn_refused : (yard : PlainYard) (near : List Neighbour) (b : ℕ) (s : Slot) (n : ℕ) (may : Bool) → b < length yard.blocks
    → ((block : Block) → slice_get yard.blocks b ≡ Some block → may ≡ unwrap_or (slice_get block.turns n) false) → may ≡ false
    → (p : Placement) → p.turn ≡ n → IsFreeNear yard near b s p → ⊥
turn_refused yard near b s n may l is no_turn p t free =
    let e : unwrap_or (slice_get free.block.turns p.turn) false ≡ true = ap (λ o. unwrap_or o false) free.placement.allowed in
    let f : unwrap_or (slice_get free.block.turns n) false ≡ true = ap (λ q. unwrap_or (slice_get free.block.turns q) false) (sym t) ∙ e in
    false≢true (sym no_turn ∙ is free.block free.block_is ∙ f)

-- a placement of a slot has the slot's span
slot_span : (yard : PlainYard) (block : Block) (s : Slot) (p : Placement) → IsSlot yard block s → IsPlacement yard block p → IsIn s p
    → HaveOneSpan (place_of_slot s) p
slot_span yard block s p slot is (start, on) = (sym on, sym start, sym (same_end yard block s p slot is (start, on)))

-- what is free of what stands near a slot is free
pub free_near : (yard : PlainYard) (list : List Standing) (near : List Neighbour) (b : ℕ) (s : Slot) (p : Placement)
    → ((block : Block) → slice_get yard.blocks b ≡ Some block → IsSlot yard block s) → All (IsStanding yard) list
    → AreNear yard (place_of_slot s) list (length yard.fixed) near → IsFreeNear yard near b s p → IsFree yard list b s p
free_near yard list near b s p slot stand are free = record {
  block = free.block;
  block_is = free.block_is;
  placement = free.placement;
  within = free.within;
  clear = near_clear yard list near b (place_of_slot s) p are stand (slice_get_within yard.blocks b free.block free.block_is) free.placement.turn
      (slot_span yard free.block s p (slot free.block free.block_is) free.placement free.within) free.clear;
}

-- and the other way round
pub near_free : (yard : PlainYard) (list : List Standing) (near : List Neighbour) (b : ℕ) (s : Slot) (p : Placement)
    → ((block : Block) → slice_get yard.blocks b ≡ Some block → IsSlot yard block s) → All (IsStanding yard) list
    → AreNear yard (place_of_slot s) list (length yard.fixed) near → IsFree yard list b s p → IsFreeNear yard near b s p
near_free yard list near b s p slot stand are free = record {
  block = free.block;
  block_is = free.block_is;
  placement = free.placement;
  within = free.within;
  clear = clear_near yard list near b (place_of_slot s) p are stand (slice_get_within yard.blocks b free.block free.block_is) free.placement.turn
      (slot_span yard free.block s p (slot free.block free.block_is) free.placement free.within) free.clear;
}

pub full_near : (yard : PlainYard) (list : List Standing) (near : List Neighbour) (b : ℕ) (s : Slot)
    → ((block : Block) → slice_get yard.blocks b ≡ Some block → IsSlot yard block s) → All (IsStanding yard) list
    → AreNear yard (place_of_slot s) list (length yard.fixed) near → IsFullNear yard near b s → IsFull yard list b s
full_near yard list near b s slot stand are full p free = full p (near_free yard list near b s p slot stand are free)

-- one slot more is full
pub full_next : (t : PlainTables) (list : List Standing) (b n : ℕ) (slots : List Slot) (s : Slot) → slice_get t.slots b ≡ Some slots → slice_get slots n ≡ Some s
    → AreFull t list b n → IsFull t.yard list b s → AreFull t list b (n + 1)
full_next t list b n slots s are at h full more i r more_are l here = elim (cases_lt i n) [
  | inl less ↦ h more i r more_are less here
  | inr same ↦
      let e : i ≡ n = omega arith in
      let same_slots : more ≡ slots = same_Some more slots (sym more_are ∙ are) in
      let same_slot : s ≡ r = same_Some s r (sym at ∙ ap (slice_get slots) (sym e) ∙ ap (λ ss. slice_get ss i) (sym same_slots) ∙ here) in
      subst (IsFull t.yard list b) same_slot full
]

-- where all slots are full the block has no place
pub full_all : (t : PlainTables) (list : List Standing) (b n : ℕ) (slots : List Slot) → slice_get t.slots b ≡ Some slots → length slots ≤ n
    → ((block : Block) → slice_get t.yard.blocks b ≡ Some block → AreSlots t.yard block slots) → AreFull t list b n → HasNoPlace t.yard list b
full_all t list b n slots are l each full block p at placed clear =
    let (j, s, within, s_is, inside) = (each block at).all p placed in
    full slots j s are (omega arith) (slice_get-get_or slots j s within ∙ ap Some s_is) p
    (record { block = block; block_is = at; placement = placed; within = inside; clear = clear })

-- the plate of a slot
pub slot_plate : (yard : PlainYard) (b : ℕ) (s : Slot) → b < length yard.blocks
    → ((block : Block) → slice_get yard.blocks b ≡ Some block → IsSlot yard block s) → s.plate < length yard.plates
slot_plate yard b s l slot =
    let (block, at) = element_at yard.blocks b l in
    let e = (slot block at).ends in
    slice_get_within yard.plates s.plate e.plate e.plate_is

-- the plate that was read is the slot's, within the limits
pub plate_read : (yard codes y : PlainYard) (plates : List Plate) (i : ℕ) (plate : Plate) → IsYard codes → codes ≡ yard → y ≡ codes → plates ≡ y.plates
    → i < length yard.plates → plate ≡ get_or plates i plate → (slice_get yard.plates i ≡ Some plate) × IsPlate yard.days plate
plate_read yard codes y plates i plate is e f g l read =
    let same : plates ≡ yard.plates = g ∙ ap (λ (y : PlainYard). y.plates) (f ∙ e) in
    let limits : IsYard yard = subst IsYard e is in
    let here : plate ≡ get_or yard.plates i plate = subst (λ (ps : List Plate). plate ≡ get_or ps i plate) same read in (
      read_at yard.plates plates i plate same l read,
      subst (IsPlate yard.days) (sym here) (limits.plates i plate l),
    )

-- what follows from what is so of an answer
pub none_so : {A : Type 0} (o : Option A) (P Q : Type 0) → (P → Q) → IfNone o P → IfNone o Q
none_so None P Q f h = f h
none_so (Some x) P Q f h = tt

-- the witness in the first slot that is not full
pub witness_at : (t : PlainTables) (list : List Standing) (b i : ℕ) (slots : List Slot) (d : Slot) (p : Placement) → slice_get t.slots b ≡ Some slots → i < length slots
    → IsFree t.yard list b (get_or slots i d) p → AreFull t list b i → IsWitness t list b (record { slot = i; cost = (get_or slots i d).cost; place = p })
witness_at t list b i slots d p are l free full = record {
  slots = slots;
  slot = get_or slots i d;
  slots_are = are;
  slot_is = slice_get-get_or slots i d l;
  cost = refl;
  free = free;
  before = full;
}

-- what is so where an answer is none
pub none_is : {A : Type 0} (o : Option A) (P : Type 0) → is_some o ≡ false → IfNone o P → P
none_is None P e h = h
none_is (Some x) P e h = absurd (false≢true (sym e))
