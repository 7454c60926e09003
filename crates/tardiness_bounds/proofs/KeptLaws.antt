-- The rows that are kept of obstacles.
use Rattle.std.proofs.Common.{◌≡◌, ℕ, ℤ, pos, negsuc, ◌+ℤ◌, ◌-ℤ◌, ◌≤ℤ◌, ◌+◌, ◌*◌, ◌/◌, ◌%◌, ◌<◌, ◌≤◌, List, [], ◌∷◌, ◌++◌, length, get_or, FitsSigned, w32, Option, Some, None, sym, ap, ◌∙◌, subst, inl, inr, arith}
use Rattle.std.specs.Prelude.{Bool, IfNone, IfSome, IsTrue, slice_get, ◌↔◌, ◌⊎◌, ◌<ℤ◌}
use Rattle.std.proofs.lemmas.Int.{by_lt_z, ints}
use Rattle.std.proofs.lemmas.Nat.{div-mul-add, mod-mul-add, mul-add-lt, mul-le}
use Rattle.std.proofs.lemmas.Option.{same_Some, slice_get-get_or}
use Rattle.std.proofs.Math.Nat.{mul_comm}
use Rattle.common_lists.proofs.ListLaws.{only_element}
use Rattle.shape_exact.specs.Yards.{IsYard, PlainYard}
use Rattle.common_lists.proofs.EachLaws.{get-append_cases}
use Rattle.shape_exact.specs.declared.point.Point.{Point}
use Rattle.minkowski_obstacles.specs.Pairs.{IsEmptyRow, IsRow, Pair}
use Rattle.lattice_free.specs.declared.forbidden.Forbidden.{Forbidden}
use Rattle.lattice_free.specs.Clear.{IsClear}
use Rattle.lattice_free.specs.Gaps.{IsBetween}
use Rattle.lattice_free.proofs.PlaceLaws.{clear_from, overlap_not}
use Rattle.tardiness_bounds.specs.Footprints.{footprint_count, turned_count}
use Rattle.tardiness_bounds.specs.Obstacles.{AreObstacles}
use Rattle.tardiness_bounds.specs.Rows.{AreRows, HaveRows, IsRowOf, span_of}

-- a row that an obstacle gives
pub row_is : (pair : Pair) (y : ℤ) (row : Option (ℤ × ℤ)) → IfNone row (IsEmptyRow pair y) → IfSome row (λ r. IsRow pair y r.0 r.1)
    → IfSome row (λ r. (negsuc 1999 ≤ℤ r.0) × (r.1 ≤ℤ pos 2000)) → IsRowOf pair y row
row_is pair y None none some few = none
row_is pair y (Some r) none some few = (some, few.0, few.1)

-- one row more
pub rows_more : (pairs : List Pair) (reach n : ℕ) (rows more : List (Option (ℤ × ℤ))) (pair : Pair) (y : ℤ) (row : Option (ℤ × ℤ))
    → length rows ≡ n → HaveRows pairs reach rows → slice_get pairs (n / span_of reach) ≡ Some pair → y ≡ pos (n % span_of reach) -ℤ pos reach
    → IsRowOf pair y row → more ≡ rows ++ row ∷ [] → HaveRows pairs reach more
rows_more pairs reach n rows more pair y row long old at y_is is pushed k p r in_pairs in_rows =
    elim (get-append_cases rows (row ∷ []) k r (ap (λ rs. slice_get rs k) (sym pushed) ∙ in_rows)) [
      | inl front ↦ old k p r in_pairs front
      | inr back ↦
          let (m, here, where_is) = back in
          let (first, same) = only_element row r m here in
          let e : k ≡ n = omega arith in
          let f : pair ≡ p = same_Some pair p (sym at ∙ ap (λ k. slice_get pairs (k / span_of reach)) (sym e) ∙ in_pairs) in
          subst (λ k. IsRowOf p (pos (k % span_of reach) -ℤ pos reach) r) (sym e)
          (subst (λ y. IsRowOf p y r) y_is (subst (λ p. IsRowOf p y r) f (subst (IsRowOf pair y) same is)))
    ]

-- the place of a row tells its pair and its offset
pub row_at : (pairs : List Pair) (reach : ℕ) (rows : List (Option (ℤ × ℤ))) (pair : Pair) (y : ℤ) (row : Option (ℤ × ℤ)) (number place k : ℕ)
    → AreRows pairs reach rows → slice_get pairs number ≡ Some pair → place < span_of reach → pos place -ℤ pos reach ≡ y
    → k ≡ number * span_of reach + place → slice_get rows k ≡ Some row → IsRowOf pair y row
row_at pairs reach rows pair y row number place k are at l y_is e here =
    let f : k / span_of reach ≡ number = ap (λ k. k / span_of reach) e ∙ div-mul-add number (span_of reach) place l in
    let m : k % span_of reach ≡ place = ap (λ k. k % span_of reach) e ∙ mod-mul-add number (span_of reach) place l in
    subst (λ y. IsRowOf pair y row) (ap (λ k. pos k -ℤ pos reach) m ∙ y_is) (are.each k pair row (ap (slice_get pairs) f ∙ at) here)

pub row_within : (pairs : List Pair) (reach : ℕ) (rows : List (Option (ℤ × ℤ))) (number place k : ℕ) → AreRows pairs reach rows
    → number < length pairs → place < span_of reach → k ≡ number * span_of reach + place → k < length rows
row_within pairs reach rows number place k are ln lp e =
    let m = mul-add-lt number (span_of reach) place (length pairs) ln lp in
    let c = mul_comm (span_of reach) (length pairs) in
    let n = are.len in omega arith

-- a row that is read by two coordinates
pub way_is : (k at y reach : ℕ) → k + at ≡ y + reach → pos k -ℤ pos reach ≡ pos y -ℤ pos at
way_is k at y reach e = let f : pos (k + at) ≡ pos (y + reach) = ap pos e in omega (arith, ints)

-- there are not too many obstacles
pub few_obstacles : (yard : PlainYard) (list : List Pair) → IsYard yard → AreObstacles yard list → length list ≤ 22528
few_obstacles yard list limits are =
    let blocks = limits.few_blocks in
    let fixed = limits.few_fixed in
    let most = mul-le (footprint_count yard) (turned_count yard) 176 128 (omega arith) (omega arith) in
    let len = are.len in omega arith

-- whether a footprint at a position is clear of one that stands, by the row of their obstacle
pub clear_by_row : (pair : Pair) (at p : Point) (x low high : ℤ) (outside : Bool) → x ≡ p.x -ℤ at.x → IsRow pair (p.y -ℤ at.y) low high
    → (IsTrue outside ↔ ((x <ℤ low) ⊎ (high <ℤ x))) → IsTrue outside ↔ IsClear p pair at
clear_by_row pair at p x low high outside e r told = (
  λ t. elim (told.0 t) [
    | inl l ↦ clear_from pair at p (r.left (p.x -ℤ at.x) (subst (λ (x : ℤ). x <ℤ low) e l))
    | inr h ↦ clear_from pair at p (r.right (p.x -ℤ at.x) (subst (λ (x : ℤ). high <ℤ x) e h))
  ],
  λ clear. told.1 (by_lt_z x low (λ l. inl l) (λ l. by_lt_z high x (λ h. inr h)
      (λ h. absurd (overlap_not pair at p (r.inside (p.x -ℤ at.x) (subst (λ (x : ℤ). low ≤ℤ x) e l) (subst (λ (x : ℤ). x ≤ℤ high) e h)) clear)))),
)

-- the ends of a row are small
pub ends_small : (low high : ℤ) → negsuc 1999 ≤ℤ low → low ≤ℤ high → high ≤ℤ pos 2000 → (low ≤ℤ pos 2000) × (negsuc 1999 ≤ℤ high)
ends_small low high h k l = (omega (arith, ints), omega (arith, ints))

-- the columns between two ends that were moved to where a footprint stands
pub moved_none : (low high a b : ℤ) (x pitch columns : ℕ) (r : Option Forbidden) → a ≡ low +ℤ pos x → b ≡ high +ℤ pos x
    → IfNone r ((k : ℕ) → k < columns → IsBetween a b (k * pitch) → ⊥)
    → IfNone r ((k : ℕ) → k < columns → IsBetween (low +ℤ pos x) (high +ℤ pos x) (k * pitch) → ⊥)
moved_none low high a b x pitch columns r e f h =
    subst (λ (a : ℤ). IfNone r ((k : ℕ) → k < columns → IsBetween a (high +ℤ pos x) (k * pitch) → ⊥)) e
    (subst (λ (b : ℤ). IfNone r ((k : ℕ) → k < columns → IsBetween a b (k * pitch) → ⊥)) f h)

pub moved_some : (low high a b : ℤ) (x pitch columns : ℕ) (r : Option Forbidden) → a ≡ low +ℤ pos x → b ≡ high +ℤ pos x
    → IfSome r (λ s. (k : ℕ) → k < columns → ((s.from ≤ k) × (k < s.to)) ↔ IsBetween a b (k * pitch))
    → IfSome r (λ s. (k : ℕ) → k < columns → ((s.from ≤ k) × (k < s.to)) ↔ IsBetween (low +ℤ pos x) (high +ℤ pos x) (k * pitch))
moved_some low high a b x pitch columns r e f h =
    subst (λ (a : ℤ). IfSome r (λ s. (k : ℕ) → k < columns → ((s.from ≤ k) × (k < s.to)) ↔ IsBetween a (high +ℤ pos x) (k * pitch))) e
    (subst (λ (b : ℤ). IfSome r (λ s. (k : ℕ) → k < columns → ((s.from ≤ k) × (k < s.to)) ↔ IsBetween a b (k * pitch))) f h)

pub ends_fit : (low high : ℤ) → negsuc 1999 ≤ℤ low → low ≤ℤ high → high ≤ℤ pos 2000 → FitsSigned w32 low × FitsSigned w32 high
ends_fit low high h k l = (omega (arith, ints), omega (arith, ints))

-- a row that is read by the numbers of its footprints and its place
pub row_read : (pairs : List Pair) (reach : ℕ) (rows here : List (Option (ℤ × ℤ))) (pair : Pair) (y : ℤ) (d : Option (ℤ × ℤ)) (number place k : ℕ)
    → here ≡ rows → AreRows pairs reach rows → slice_get pairs number ≡ Some pair → number < length pairs → place < span_of reach
    → pos place -ℤ pos reach ≡ y → k ≡ number * span_of reach + place → IsRowOf pair y (get_or here k d)
row_read pairs reach rows here pair y d number place k same are at ln l y_is e =
    let within : k < length here = subst (λ rs. k < length rs) (sym same) (row_within pairs reach rows number place k are ln l e) in
    row_at pairs reach rows pair y (get_or here k d) number place k are at l y_is e
    (subst (λ rs. slice_get rs k ≡ Some (get_or here k d)) same (slice_get-get_or here k d within))
