-- No block of a generated yard has too many placements.
use Rattle.std.proofs.Common.{◌≡◌, ℕ, zero, suc, ◌+◌, ◌*◌, ◌<◌, ◌≤◌, Bool, true, false, List, [], ◌∷◌, ◌++◌, length, Option, Some, None, refl, sym, ap, subst, ◌∙◌, arith}
use Rattle.std.specs.Prelude.{nat_le, slice_get, unwrap_or}
use Rattle.std.proofs.lemmas.List.{append-nil}
use Rattle.std.proofs.lemmas.Bool.{lt-leb}
use Rattle.common_lists.specs.Each.{each, when, for_some}
use Rattle.common_lists.proofs.EachLaws.{each-add, each_agree, each-nil, length-each, sum_below-const, sum-le, when_false}
use Rattle.shape_exact.specs.Shapes.{turned, reach_x, reach_y}
use Rattle.plate_calendar.specs.Calendars.{open_days, end_of}
use Rattle.code_table.specs.declared.placement.Placement.{Placement}
use Rattle.code_table.specs.Placements.{placed, at_step, each_step, row_of, grid_of, placements_on, placements_of, placements}
use Rattle.yard_generator.specs.declared.draws.Drawn.{Drawn}
use Rattle.yard_generator.specs.Draws.{blocks_from}
use Rattle.yard_generator.specs.Yards.{plate_at, block_with, blocks_with, drawn_yard}

-- so many lists, each with at most so many members
each_le : {A : Type 0} (n most : ℕ) (f : ℕ → List A) → ((i : ℕ) → i < n → length (f i) ≤ most) → length (each n f) ≤ n * most
each_le n most f h =
    let a = length-each n f in
    let b = sum-le n (λ i. length (f i)) (λ i. most) h in
    let c = sum_below-const n most (λ i. most) (λ i l. refl) in
    omega arith

when_le : {A : Type 0} (b : Bool) (xs : List A) (most : ℕ) → length xs ≤ most → length (when b xs) ≤ most
when_le true xs most h = h
when_le false xs most h = omega arith

some_le : {A B : Type 0} (o : Option A) (f : A → List B) (most : ℕ) → ((x : A) → length (f x) ≤ most) → length (for_some o f) ≤ most
some_le None f most h = omega arith
some_le (Some x) f most h = h x

-- steps of 2 within a size
step_le : {A : Type 0} (long size n r most : ℕ) (f : ℕ → List A) → size + 1 ≡ n + r → size < n * 2 → ((i : ℕ) → length (f i) ≤ most)
    → length (each_step 2 long size f) ≤ n * most
step_le {A} long size n r most f all past h =
    let cut : each_step 2 long size f ≡ each n (at_step 2 long size f) =
    ap (λ m. each m (at_step 2 long size f)) all
    ∙ each-add n r (at_step 2 long size f)
    ∙ ap (λ xs. each n (at_step 2 long size f) ++ xs)
    (each_agree r (λ i. at_step 2 long size f (n + i)) (λ i. [])
    (λ i l. when_false (nat_le ((n + i) * 2 + long) size) (f ((n + i) * 2)) (lt-leb _ _ (omega arith)))
    ∙ each-nil r)
    ∙ append-nil (each n (at_step 2 long size f)) in
    let few = each_le n most (at_step 2 long size f) (λ i l. when_le (nat_le (i * 2 + long) size) (f (i * 2)) most (h (i * 2))) in
    subst (λ xs. length xs ≤ n * most) (sym cut) few

-- the positions on a plate of 60 by 40 at a pitch of 2
grid_le : (i high long : ℕ) (f : ℕ → ℕ → Placement) → length (grid_of (plate_at i) high long f) ≤ 651
grid_le i high long f =
    step_le high 40 21 20 31 (λ y. row_of (plate_at i) long (f y)) (omega arith) (omega arith)
    (λ y. step_le long 60 31 30 1 (λ x. f y x ∷ []) (omega arith) (omega arith) (λ x. omega arith))

-- with two turns
abbrev grid_at : ℕ → Drawn → ℕ → ℕ → ℕ → ℕ → ℕ → List Placement
grid_at j b start p i end turn =
    grid_of (plate_at i) (reach_y (turned turn (block_with j b).shape)) (reach_x (turned turn (block_with j b).shape))
    (placed start end p turn)

abbrev turns_at : ℕ → Drawn → ℕ → ℕ → ℕ → ℕ → ℕ → List Placement
turns_at j b start p i end turn = when (unwrap_or (slice_get (block_with j b).turns turn) false) (grid_at j b start p i end turn)

turns_le : (j : ℕ) (b : Drawn) (start p i end : ℕ) → length (each 4 (turns_at j b start p i end)) ≤ 1302
turns_le j b start p i end =
    let sum : length (each 4 (turns_at j b start p i end))
    ≡ 0 + length (grid_at j b start p i end 0) + length (grid_at j b start p i end 1) + 0 + 0 =
    length-each 4 (turns_at j b start p i end) in
    let one = grid_le i (reach_y (turned 0 (block_with j b).shape)) (reach_x (turned 0 (block_with j b).shape)) (placed start end p 0) in
    let two = grid_le i (reach_y (turned 1 (block_with j b).shape)) (reach_x (turned 1 (block_with j b).shape)) (placed start end p 1) in
    omega arith

on_le : (j : ℕ) (b : Drawn) (start p i : ℕ) → length (placements_on 200 (block_with j b) start p (plate_at i)) ≤ 1302
on_le j b start p i =
    some_le (end_of (open_days 200 (plate_at i).closed) start b.duration)
    (λ (end : ℕ). each 4 (turns_at j b start p i end)) 1302 (turns_le j b start p i)

-- on three plates and 200 days
plates_le : (j : ℕ) (b : Drawn) (start p : ℕ) → p < 3
    → length (for_some (slice_get (plate_at 0 ∷ plate_at 1 ∷ plate_at 2 ∷ []) p) (placements_on 200 (block_with j b) start p)) ≤ 1302
plates_le j b start zero l = on_le j b start 0 0
plates_le j b start (suc zero) l = on_le j b start 1 1
plates_le j b start (suc (suc zero)) l = on_le j b start 2 2
plates_le j b start (suc (suc (suc p))) l = absurd (omega arith)

block_le : (seed blocks j : ℕ) (b : Drawn) → length (placements_of (drawn_yard seed blocks) (block_with j b)) ≤ 781200
unfolding drawn_yard
block_le seed blocks j b =
    each_le 200 3906 (λ start. when (nat_le b.release start)
    (each 3 (λ p. for_some (slice_get (plate_at 0 ∷ plate_at 1 ∷ plate_at 2 ∷ []) p) (placements_on 200 (block_with j b) start p))))
    (λ start l. when_le (nat_le b.release start)
    (each 3 (λ p. for_some (slice_get (plate_at 0 ∷ plate_at 1 ∷ plate_at 2 ∷ []) p) (placements_on 200 (block_with j b) start p))) 3906
    (each_le 3 1302 (λ p. for_some (slice_get (plate_at 0 ∷ plate_at 1 ∷ plate_at 2 ∷ []) p) (placements_on 200 (block_with j b) start p))
    (λ p m. plates_le j b start p m)))

at_le : (seed blocks j : ℕ) (bs : List Drawn) (k : ℕ)
    → length (for_some (slice_get (blocks_with j bs) k) (placements_of (drawn_yard seed blocks))) ≤ 781200
at_le seed blocks j [] zero = omega arith
at_le seed blocks j [] (suc k) = omega arith
at_le seed blocks j (b ∷ bs) zero = block_le seed blocks j b
at_le seed blocks j (b ∷ bs) (suc k) = at_le seed blocks (j + 1) bs k

-- each block
pub placements_le : (seed blocks b : ℕ) → length (placements (drawn_yard seed blocks) b) ≤ 781200
unfolding drawn_yard
placements_le seed blocks b = at_le seed blocks 0 (blocks_from blocks seed) b
