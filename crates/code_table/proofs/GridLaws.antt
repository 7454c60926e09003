-- A grid as one list: its length, and its placements by their places.
use Rattle.std.proofs.Common.{◌≡◌, ℕ, ◌+◌, ◌-◌, ◌*◌, ◌/◌, ◌%◌, ◌<◌, List, [], ◌∷◌, length, Some, refl, sym, ap, ◌∙◌, arith, cond, inl, inr}
use Rattle.std.specs.Prelude.{slice_get}
use Rattle.std.proofs.lemmas.Bool.{cases_lt, le-leb, lt-leb}
use Rattle.common_lists.specs.Each.{each, sum_below}
use Rattle.shape_exact.specs.declared.plate.Plate.{Plate}
use Rattle.common_lists.proofs.EachLaws.{each_agree, get-each, sum_below-const}
use Rattle.code_table.specs.declared.placement.Placement.{Placement}
use Rattle.code_table.specs.Placements.{each_step, row_of, grid_of}
use Rattle.code_table.specs.Grids.{steps}
use Rattle.code_table.proofs.StepLaws.{each_step-fits, each_step-none, length-one}
use Rattle.code_table.proofs.FlatLaws.{each-each}

-- the steps are the first multiples
pub each_step-steps : {A : Type 0} (pitch long size : ℕ) (f : ℕ → List A) → 0 < pitch
    → each_step pitch long size f ≡ each (steps pitch long size) (λ k. f (k * pitch))
each_step-steps pitch long size f p = elim (cases_lt size long) [
  | inl short ↦
      each_step-none pitch long size f short
      ∙ ap (λ b. each (cond b ((size - long) / pitch + 1) 0) (λ k. f (k * pitch))) (sym (lt-leb long size short))
  | inr room ↦
      each_step-fits pitch long size f p room
      ∙ ap (λ b. each (cond b ((size - long) / pitch + 1) 0) (λ k. f (k * pitch))) (sym (le-leb long size room))
]

-- a grid is one list, row after row
pub grid-flat : (plate : Plate) (high long : ℕ) (f : ℕ → ℕ → Placement) → 0 < plate.pitch
    → grid_of plate high long f ≡ each (steps plate.pitch high plate.height * steps plate.pitch long plate.width)
    (λ k. f (k / steps plate.pitch long plate.width * plate.pitch) (k % steps plate.pitch long plate.width * plate.pitch) ∷ [])
grid-flat plate high long f p =
    let r : ℕ = steps plate.pitch high plate.height in
    let c : ℕ = steps plate.pitch long plate.width in
    each_step-steps plate.pitch high plate.height (λ y. row_of plate long (f y)) p
    ∙ each_agree r (λ j. row_of plate long (f (j * plate.pitch))) (λ j. each c (λ i. f (j * plate.pitch) (i * plate.pitch) ∷ []))
    (λ j l. each_step-steps plate.pitch long plate.width (λ x. f (j * plate.pitch) x ∷ []) p)
    ∙ each-each r c (λ j i. f (j * plate.pitch) (i * plate.pitch) ∷ [])

-- the k-th of single elements
pub get-singles : {A : Type 0} (n k : ℕ) (g : ℕ → A) → k < n → slice_get (each n (λ k. g k ∷ [])) k ≡ Some (g k)
get-singles n k g l =
    ap (slice_get (each n (λ k. g k ∷ [])))
    (let s = sum_below-const k 1 (λ i. length (g i ∷ [])) (λ i m. refl) in
    let e : k ≡ sum_below k (λ i. length (g i ∷ [])) + 0 = omega arith in e)
    ∙ get-each n k 0 (λ k. g k ∷ []) l (omega arith)

-- a grid has so many rows of so many placements
pub length-grid_of : (plate : Plate) (high long : ℕ) (f : ℕ → ℕ → Placement) → 0 < plate.pitch
    → length (grid_of plate high long f) ≡ steps plate.pitch high plate.height * steps plate.pitch long plate.width
length-grid_of plate high long f p =
    let c : ℕ = steps plate.pitch long plate.width in
    ap length (grid-flat plate high long f p)
    ∙ length-one (steps plate.pitch high plate.height * c) (λ k. f (k / c * plate.pitch) (k % c * plate.pitch))

-- the place in a grid tells the row and the column
pub get-grid : (plate : Plate) (high long : ℕ) (f : ℕ → ℕ → Placement) (k : ℕ) → 0 < plate.pitch
    → k < length (grid_of plate high long f)
    → slice_get (grid_of plate high long f) k
    ≡ Some (f (k / steps plate.pitch long plate.width * plate.pitch) (k % steps plate.pitch long plate.width * plate.pitch))
get-grid plate high long f k p l =
    let c : ℕ = steps plate.pitch long plate.width in
    let n = length-grid_of plate high long f p in
    ap (λ ps. slice_get ps k) (grid-flat plate high long f p)
    ∙ get-singles (steps plate.pitch high plate.height * c) k (λ k. f (k / c * plate.pitch) (k % c * plate.pitch)) (omega arith)
