-- The placements of a block, stand by stand.
use Rattle.std.proofs.Common.{◌≡◌, ℕ, zero, suc, ◌+◌, ◌*◌, ◌/◌, ◌%◌, List, ◌++◌, length, Option, Some, None, refl, sym, ap, ◌∙◌, arith, Bool, true, false}
use Rattle.std.specs.Prelude.{slice_get, nat_le, unwrap_or}
use Rattle.std.proofs.lemmas.Nat.{div-mul-add, mod-mul-add}
use Rattle.shape_exact.specs.Yards.{PlainYard}
use Rattle.shape_exact.specs.declared.block.Block.{Block}
use Rattle.shape_exact.specs.declared.plate.Plate.{Plate}
use Rattle.shape_exact.specs.Shapes.{turned, reach_x, reach_y}
use Rattle.plate_calendar.specs.Calendars.{open_days, end_of}
use Rattle.common_lists.specs.Each.{each, when, for_some}
use Rattle.common_lists.proofs.EachLaws.{each-suc, each-add, each_agree, each-nil}
use Rattle.code_table.specs.declared.placement.Placement.{Placement}
use Rattle.code_table.specs.Placements.{placed, grid_of, placements_on, placements_of}
use Rattle.code_table.specs.Stands.{stand_at, nth_stand, stands}

-- a test before a list of lists is a test in each of them
when-each : {A : Type 0} (b : Bool) (n : ℕ) (f : ℕ → List A) → when b (each n f) ≡ each n (λ i. when b (f i))
when-each true n f = refl
when-each false n f = sym (each-nil n)

-- and so is a value
some-each : {A B : Type 0} (o : Option A) (n : ℕ) (f : A → ℕ → List B) → for_some o (λ x. each n (f x)) ≡ each n (λ i. for_some o (λ x. f x i))
some-each None n f = sym (each-nil n)
some-each (Some x) n f = refl

-- rows of one length, one after another, are one list
pub each-each : {A : Type 0} (m n : ℕ) (f : ℕ → ℕ → List A) → each m (λ i. each n (f i)) ≡ each (m * n) (λ k. f (k / n) (k % n))
each-each zero n f = ap (λ k. each k (λ k. f (k / n) (k % n))) (let e : 0 ≡ zero * n = omega arith in e)
each-each (suc m) n f =
    each-suc m (λ i. each n (f i))
    ∙ ap (λ xs. xs ++ each n (f m)) (each-each m n f)
    ∙ ap (λ xs. each (m * n) (λ k. f (k / n) (k % n)) ++ xs)
    (each_agree n (f m) (λ j. f ((m * n + j) / n) ((m * n + j) % n))
    (λ j l. ap (λ i. f i j) (sym (div-mul-add m n j l)) ∙ ap (f ((m * n + j) / n)) (sym (mod-mul-add m n j l))))
    ∙ sym (each-add (m * n) n (λ k. f (k / n) (k % n)))
    ∙ ap (λ k. each k (λ k. f (k / n) (k % n))) (let e : m * n + n ≡ suc m * n = omega arith in e)

-- the grid of a turn, where the block may stand in it
abbrev turn_list : Block → ℕ → ℕ → Plate → ℕ → ℕ → List Placement
turn_list block start p plate end turn =
    when (unwrap_or (slice_get block.turns turn) false)
    (grid_of plate (reach_y (turned turn block.shape)) (reach_x (turned turn block.shape)) (placed start end p turn))

-- the test and the values before the turns, put into each turn
into_turns : (yard : PlainYard) (block : Block) (start p n : ℕ)
    → when (nat_le block.release start) (for_some (slice_get yard.plates p) (λ plate.
    for_some (end_of (open_days yard.days plate.closed) start block.duration) (λ end. each n (turn_list block start p plate end))))
    ≡ each n (stand_at yard block start p)
unfolding stand_at
into_turns yard block start p n =
    ap (when (nat_le block.release start)) (ends (slice_get yard.plates p) ∙ some-each (slice_get yard.plates p) n (λ plate turn.
    for_some (end_of (open_days yard.days plate.closed) start block.duration) (λ end. turn_list block start p plate end turn)))
    ∙ when-each (nat_le block.release start) n (λ turn. for_some (slice_get yard.plates p) (λ plate.
    for_some (end_of (open_days yard.days plate.closed) start block.duration) (λ end. turn_list block start p plate end turn)))
  where
    ends : (o : Option Plate)
        → for_some o (λ plate. for_some (end_of (open_days yard.days plate.closed) start block.duration) (λ end. each n (turn_list block start p plate end)))
        ≡ for_some o (λ plate. each n (λ turn. for_some (end_of (open_days yard.days plate.closed) start block.duration) (λ end. turn_list block start p plate end turn)))
    ends None = refl
    ends (Some plate) = some-each (end_of (open_days yard.days plate.closed) start block.duration) n (turn_list block start p plate)

-- the placements of a start, in each plate and each turn
by_plates : (yard : PlainYard) (block : Block) (start n : ℕ)
    → when (nat_le block.release start) (each n (λ p. for_some (slice_get yard.plates p) (placements_on yard.days block start p)))
    ≡ each (n * 4) (λ k. stand_at yard block start (k / 4) (k % 4))
by_plates yard block start n =
    when-each (nat_le block.release start) n (λ p. for_some (slice_get yard.plates p) (placements_on yard.days block start p))
    ∙ each_agree n
    (λ p. when (nat_le block.release start) (for_some (slice_get yard.plates p) (placements_on yard.days block start p)))
    (λ p. each 4 (stand_at yard block start p)) (λ p l. into_turns yard block start p 4)
    ∙ each-each n 4 (stand_at yard block start)

-- the placements of a block are those of each stand, one after another
pub placements-stands : (yard : PlainYard) (block : Block) → placements_of yard block ≡ each (stands yard) (nth_stand yard block)
unfolding nth_stand
placements-stands yard block =
    let n : ℕ = length yard.plates in
    each_agree yard.days
    (λ start. when (nat_le block.release start) (each n (λ p. for_some (slice_get yard.plates p) (placements_on yard.days block start p))))
    (λ start. each (n * 4) (λ k. stand_at yard block start (k / 4) (k % 4))) (λ start l. by_plates yard block start n)
    ∙ each-each yard.days (n * 4) (λ start k. stand_at yard block start (k / 4) (k % 4))
