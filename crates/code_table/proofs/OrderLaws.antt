-- The placements of a block ascend.
use Rattle.std.proofs.Common.{◌≡◌, ℕ, zero, suc, ◌+◌, ◌*◌, ◌/◌, ◌%◌, ◌≤◌, ◌<◌, List, [], ◌∷◌, ◌++◌, length, Option, Some, None, refl, sym, ap, subst, arith, Bool, true, false, inl, inr}
use Rattle.std.specs.Prelude.{slice_get, unwrap_or, nat_le}
use Rattle.std.proofs.lemmas.Bool.{cases_order}
use Rattle.std.proofs.lemmas.Nat.{div-add-mod', mod_below, mul-le}
use Rattle.std.proofs.lemmas.Option.{none-some, slice_get_within}
use Rattle.shape_exact.specs.Yards.{PlainYard, IsYard}
use Rattle.shape_exact.specs.declared.block.Block.{Block}
use Rattle.shape_exact.specs.declared.plate.Plate.{Plate}
use Rattle.shape_exact.specs.Shapes.{turned, reach_x, reach_y}
use Rattle.common_lists.specs.Each.{each, when, for_some}
use Rattle.common_lists.proofs.EachLaws.{each-suc, get-append_cases, from-one, from-when, from-some}
use Rattle.plate_calendar.specs.Calendars.{open_days, end_of}
use Rattle.code_table.specs.declared.placement.Placement.{Placement}
use Rattle.code_table.specs.Grids.{steps}
use Rattle.code_table.specs.Orders.{LessThen, ComesBefore, AreAscending}
use Rattle.code_table.specs.Placements.{placed, grid_of, placements_of}
use Rattle.code_table.specs.Stands.{stands, stand_at, nth_stand, stand_start, stand_plate, stand_turn}
use Rattle.code_table.proofs.FlatLaws.{placements-stands}
use Rattle.code_table.proofs.GridLaws.{grid-flat}
use Rattle.code_table.proofs.StandLaws.{stand_grid}
use Rattle.code_table.proofs.PlacedLaws.{in_grid}
use Rattle.code_table.proofs.ReadLaws.{plate_limits}

-- each element before each later one, by a relation
abbrev pub Ascends : {A : Type 0} → (A → A → Type 0) → List A → Type 0
Ascends {A} R xs = (i j : ℕ) (x y : A) → i < j → slice_get xs i ≡ Some x → slice_get xs j ≡ Some y → R x y

-- each element of one list before each of another
abbrev pub AllBefore : {A : Type 0} → (A → A → Type 0) → List A → List A → Type 0
AllBefore {A} R xs ys = (i j : ℕ) (x y : A) → slice_get xs i ≡ Some x → slice_get ys j ≡ Some y → R x y

ascends-append : {A : Type 0} (R : A → A → Type 0) (xs ys : List A) → Ascends R xs → Ascends R ys → AllBefore R xs ys → Ascends R (xs ++ ys)
ascends-append R xs ys a b c i j x y l e f = elim (get-append_cases xs ys i x e) [
  | inl front ↦ elim (get-append_cases xs ys j y f) [
    | inl front' ↦ a i j x y l front front'
    | inr back' ↦ c i back'.0 x y front back'.1
  ]
  | inr back ↦ elim (get-append_cases xs ys j y f) [
    | inl front' ↦ let w = slice_get_within xs j y front' in let g = back.2 in absurd (omega arith)
    | inr back' ↦ let g = back.2 in let h = back'.2 in b back.0 back'.0 x y (omega arith) back.1 back'.1
  ]
]

before-append : {A : Type 0} (R : A → A → Type 0) (xs ys zs : List A) → AllBefore R xs zs → AllBefore R ys zs → AllBefore R (xs ++ ys) zs
before-append R xs ys zs a b i j x y e f = elim (get-append_cases xs ys i x e) [
  | inl front ↦ a i j x y front f
  | inr back ↦ b back.0 j x y back.1 f
]

before-each : {A : Type 0} (R : A → A → Type 0) (n m : ℕ) (f : ℕ → List A) → n ≤ m → ((k : ℕ) → k < n → AllBefore R (f k) (f m)) → AllBefore R (each n f) (f m)
before-each R zero m f l h = λ i j x y e g. absurd (none-some x e)
before-each R (suc n) m f l h =
    subst (λ xs. AllBefore R xs (f m)) (sym (each-suc n f))
    (before-append R (each n f) (f n) (f m) (before-each R n m f (omega arith) (λ k b. h k (omega arith))) (h n (omega arith)))

-- lists that ascend, each before the later ones, ascend together
pub ascends-each : {A : Type 0} (R : A → A → Type 0) (n : ℕ) (f : ℕ → List A) → ((k : ℕ) → k < n → Ascends R (f k))
    → ((k l : ℕ) → k < l → l < n → AllBefore R (f k) (f l)) → Ascends R (each n f)
ascends-each R zero f a h = λ i j x y l e g. absurd (none-some x e)
ascends-each R (suc n) f a h =
    subst (Ascends R) (sym (each-suc n f))
    (ascends-append R (each n f) (f n) (ascends-each R n f (λ k l. a k (omega arith)) (λ k l b c. h k l b (omega arith))) (a n (omega arith))
    (before-each R n n f (omega arith) (λ k b. h k n b (omega arith))))

-- of two numbers the less has the less quotient, or an equal one and the less rest
pub divided : (k l n : ℕ) → 0 < n → k < l → LessThen (k / n) (l / n) (k % n < l % n)
divided k l n p less =
    let a = div-add-mod' k n in let b = div-add-mod' l n in
    let c = mod_below k n p in let d = mod_below l n p in
    elim (cases_order (k / n) (l / n)) [
      | inl same ↦
          let m : k / n * n ≡ l / n * n = ap (λ q. q * n) same in
          inr (same, omega arith)
      | inr other ↦ elim other [
        | inl lower ↦ inl lower
        | inr higher ↦
            let m = mul-le (l / n + 1) n (k / n) n (omega arith) (omega arith) in absurd (omega arith)
      ]
    ]

scaled : (a b p : ℕ) → 0 < p → a < b → a * p < b * p
scaled a b p pos less = let m = mul-le (a + 1) p b p (omega arith) (omega arith) in omega arith

one_only : {A : Type 0} (R : A → A → Type 0) (x : A) → Ascends R (x ∷ [])
one_only R x i zero y z l e f = absurd (omega arith)
one_only R x i (suc j) y z l e f = absurd (none-some z f)

-- by y and then by x
abbrev InRows : Placement → Placement → Type 0
InRows p q = (p.start ≡ q.start) × (p.plate ≡ q.plate) × (p.turn ≡ q.turn) × LessThen p.y q.y (p.x < q.x)

nonzero : (l r c : ℕ) → l < r * c → 0 < c
nonzero l r zero h = let e : r * zero ≡ 0 = omega arith in absurd (omega arith)
nonzero l r (suc c) h = omega arith

in_rows : (k l r c p : ℕ) → 0 < p → k < l → l < r * c → LessThen (k / c * p) (l / c * p) (k % c * p < l % c * p)
in_rows k l r c p pos less within = elim (divided k l c (nonzero l r c within) less) [
  | inl row ↦ inl (scaled (k / c) (l / c) p pos row)
  | inr same ↦ inr (ap (λ q. q * p) same.0, scaled (k % c) (l % c) p pos same.1)
]

-- a grid ascends by y and x
grid_ascends : (plate : Plate) (high long start end p turn : ℕ) → 0 < plate.pitch
    → Ascends InRows (grid_of plate high long (placed start end p turn))
grid_ascends plate high long start end p turn pos =
    let c : ℕ = steps plate.pitch long plate.width in
    let r : ℕ = steps plate.pitch high plate.height in
    let f : ℕ → Placement = λ k. placed start end p turn (k / c * plate.pitch) (k % c * plate.pitch) in
    subst (Ascends InRows) (sym (grid-flat plate high long (placed start end p turn) pos))
    (ascends-each InRows (r * c) (λ k. f k ∷ []) (λ k l. one_only InRows (f k))
    (λ k l less within i j x y e g.
    let a = from-one (f k) i x e in let b = from-one (f l) j y g in
    subst (λ y. InRows x y) b (subst (λ x. InRows x (f l)) a (refl, refl, refl, in_rows k l r c plate.pitch pos less within))))

-- the placements of a stand ascend, and share their start, plate and turn
pub stand_placement : (yard : PlainYard) (block : Block) (start p turn k : ℕ) (x : Placement) → slice_get (stand_at yard block start p turn) k ≡ Some x
    → (x.start ≡ start) × (x.plate ≡ p) × (x.turn ≡ turn)
unfolding stand_at
stand_placement yard block start p turn k x e =
    let (released, e1) = from-when (nat_le block.release start) _ k x e in
    let (plate, plate_is, e2) = from-some (slice_get yard.plates p) _ k x e1 in
    let (end, end_is, e3) = from-some (end_of (open_days yard.days plate.closed) start block.duration) _ k x e2 in
    let (allowed, e4) = from-when (unwrap_or (slice_get block.turns turn) false) _ k x e3 in
    let g = in_grid plate (reach_y (turned turn block.shape)) (reach_x (turned turn block.shape)) (placed start end p turn) k x e4 in
    (sym (ap (λ (q : Placement). q.start) g.is), sym (ap (λ (q : Placement). q.plate) g.is), sym (ap (λ (q : Placement). q.turn) g.is))

when_ascends : {A : Type 0} (R : A → A → Type 0) (b : Bool) (xs : List A) → Ascends R xs → Ascends R (when b xs)
when_ascends R true xs a = a
when_ascends R false xs a = λ i j x y l e f. absurd (none-some x e)

some_ascends : {A B : Type 0} (R : A → A → Type 0) (o : Option B) (f : B → List A) → ((b : B) → o ≡ Some b → Ascends R (f b)) → Ascends R (for_some o f)
some_ascends R None f a = λ i j x y l e g. absurd (none-some x e)
some_ascends R (Some b) f a = a b refl

stand_ascends : (yard : PlainYard) (block : Block) (start p turn : ℕ) → IsYard yard → Ascends InRows (stand_at yard block start p turn)
unfolding stand_at
stand_ascends yard block start p turn y =
    when_ascends InRows (nat_le block.release start) _
    (some_ascends InRows (slice_get yard.plates p) _ (λ plate plate_is.
    some_ascends InRows (end_of (open_days yard.days plate.closed) start block.duration) _ (λ end end_is.
    when_ascends InRows (unwrap_or (slice_get block.turns turn) false) (stand_grid block plate start end p turn)
    (grid_ascends plate (reach_y (turned turn block.shape)) (reach_x (turned turn block.shape)) start end p turn
    (plate_limits yard p plate y plate_is).pitch.0))))

-- within a stand, then
within_stand : (p q : Placement) → InRows p q → ComesBefore p q
within_stand p q (a, b, c, d) = inr (a, inr (b, inr (c, d)))

-- of two stands the one with the less number has the less start, plate and turn
stands_in_order : (yard : PlainYard) (k l : ℕ) → k < l → l < stands yard
    → LessThen (stand_start yard k) (stand_start yard l) (LessThen (stand_plate yard k) (stand_plate yard l) (stand_turn yard k < stand_turn yard l))
stands_in_order yard k l less within =
    let n : ℕ = length yard.plates * 4 in
    elim (divided k l n (nonzero l yard.days n within) less) [
      | inl start ↦ inl start
      | inr same ↦ inr (same.0, divided (k % n) (l % n) 4 (omega arith) same.1)
    ]

chained : (p q : Placement) (a b c d e f : ℕ) → p.start ≡ a → p.plate ≡ b → p.turn ≡ c → q.start ≡ d → q.plate ≡ e → q.turn ≡ f
    → LessThen a d (LessThen b e (c < f)) → ComesBefore p q
chained p q a b c d e f pa pb pc qd qe qf order = elim order [
  | inl start ↦ inl (omega arith)
  | inr same ↦ elim same.1 [
    | inl plate ↦ let s = same.0 in inr (omega arith, inl (omega arith))
    | inr both ↦ let s = same.0 in let t = both.0 in let u = both.1 in inr (omega arith, inr (omega arith, inl (omega arith)))
  ]
]

-- the placements of a block ascend
pub placements_ascend : (yard : PlainYard) (block : Block) → IsYard yard → AreAscending (placements_of yard block)
unfolding nth_stand
placements_ascend yard block y =
    subst AreAscending (sym (placements-stands yard block))
    (ascends-each ComesBefore (stands yard) (nth_stand yard block)
    (λ k l i j p q less e f. within_stand p q (stand_ascends yard block (stand_start yard k) (stand_plate yard k) (stand_turn yard k) y i j p q less e f))
    (λ k l less within i j p q e f.
    let (a, b, c) = stand_placement yard block (stand_start yard k) (stand_plate yard k) (stand_turn yard k) i p e in
    let (d, g, h) = stand_placement yard block (stand_start yard l) (stand_plate yard l) (stand_turn yard l) j q f in
    chained p q _ _ _ _ _ _ a b c d g h (stands_in_order yard k l less within)))

-- no placement comes before itself
pub not_before_itself : (p : Placement) → ComesBefore p p → ⊥
not_before_itself p order = elim order [
  | inl a ↦ omega arith
  | inr s ↦ elim s.1 [
    | inl b ↦ omega arith
    | inr t ↦ elim t.1 [
      | inl c ↦ omega arith
      | inr u ↦ elim u.1 [
        | inl d ↦ omega arith
        | inr v ↦ let x = v.1 in omega arith
      ]
    ]
  ]
]

-- so a placement has one code
pub one_code : (yard : PlainYard) (block : Block) (i j : ℕ) (p : Placement) → IsYard yard → slice_get (placements_of yard block) i ≡ Some p
    → slice_get (placements_of yard block) j ≡ Some p → i ≡ j
one_code yard block i j p y e f = elim (cases_order i j) [
  | inl same ↦ same
  | inr other ↦ elim other [
    | inl less ↦ absurd (not_before_itself p (placements_ascend yard block y i j p p less e f))
    | inr more ↦ absurd (not_before_itself p (placements_ascend yard block y j i p p more f e))
  ]
]
