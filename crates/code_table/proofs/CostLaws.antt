-- The least cost of placements, stand by stand.
use Rattle.std.proofs.Common.{◌≡◌, ℕ, suc, ◌+◌, ◌-◌, ◌*◌, ◌≤◌, ◌<◌, List, [], ◌∷◌, ◌++◌, length, get_or, Option, Some, None, sym, ap, ◌∙◌, subst, arith, false, inl, inr}
use Rattle.std.specs.Prelude.{slice_get, unwrap_or, IfNone, IfSome}
use Rattle.std.proofs.lemmas.Bool.{cases_Bool, cases_lt}
use Rattle.std.proofs.lemmas.List.{append-nil, nil_from_length}
use Rattle.std.proofs.lemmas.Nat.{mul-le}
use Rattle.std.proofs.lemmas.Option.{slice_get_within}
use Rattle.common_lists.proofs.ListLaws.{get_before, element_at}
use Rattle.shape_exact.specs.Yards.{PlainYard, IsYard, IsBlock}
use Rattle.shape_exact.specs.declared.block.Block.{Block}
use Rattle.shape_exact.specs.declared.plate.Plate.{Plate}
use Rattle.shape_exact.specs.Shapes.{turned, reach_x, reach_y}
use Rattle.common_lists.specs.Each.{each}
use Rattle.common_lists.proofs.EachLaws.{each-suc, get-append_cases}
use Rattle.code_table.specs.declared.placement.Placement.{Placement}
use Rattle.code_table.specs.Costs.{IsLeastCost, lesser, IsAtMostEachCost, IsCostOfSome}
use Rattle.code_table.specs.Placements.{placed, placements, placements_of, cost_at, cost_of, cost_on, own_cost}
use Rattle.code_table.specs.Stands.{stands, nth_stand, stand_start, stand_plate, stand_turn, EndsOn}
use Rattle.code_table.specs.Tables.{IsSums}
use Rattle.code_table.proofs.FlatLaws.{placements-stands}
use Rattle.code_table.proofs.StandLaws.{sum_to-more, placements-of, stand_grid}
use Rattle.code_table.proofs.ReadLaws.{block_limits, stand_of, stand-allowed, stand-turnless}
use Rattle.code_table.proofs.PlacedLaws.{in_grid, placed-facts}
use Rattle.code_table.proofs.SpotLaws.{in_range}

back_at : {A : Type 0} (xs ys : List A) (k : ℕ) (x : A) → slice_get ys k ≡ Some x → (m : ℕ) × (slice_get (xs ++ ys) m ≡ Some x)
back_at [] ys k x e = (k, e)
back_at (z ∷ xs) ys k x e = let (m, f) = back_at xs ys k x e in (suc m, f)

-- of two lists the least is the less of both
pub least-append : (block : Block) (xs ys : List Placement) (a b : Option ℕ) → IsLeastCost block xs a → IsLeastCost block ys b
    → IsLeastCost block (xs ++ ys) (lesser a b)
least-append block xs ys None b x y = subst (λ zs. IsLeastCost block (zs ++ ys) b) (sym x) y
least-append block xs ys (Some a) None x y = subst (λ zs. IsLeastCost block zs (Some a)) (sym (ap (λ zs. xs ++ zs) y ∙ append-nil xs)) x
least-append block xs ys (Some a) (Some b) x y = (
  λ k p e. elim (get-append_cases xs ys k p e) [
    | inl front ↦ let l = x.0 k p front in omega arith
    | inr back ↦ let (m, at, long) = back in let l = y.0 m p at in omega arith
  ],
  elim (cases_lt a b) [
    | inl less ↦ let (k, p, at, is) = x.1 in (k, p, get_before xs ys k p at, omega arith)
    | inr other ↦ let (k, p, at, is) = y.1 in let (m, there) = back_at xs ys k p at in (m, p, there, omega arith)
  ],
)

-- one stand more
pub least_more : (yard : PlainYard) (block : Block) (k : ℕ) (a b : Option ℕ) → IsLeastCost block (each k (nth_stand yard block)) a
    → IsLeastCost block (nth_stand yard block k) b → IsLeastCost block (each (k + 1) (nth_stand yard block)) (lesser a b)
least_more yard block k a b x y =
    subst (λ ps. IsLeastCost block ps (lesser a b))
    (sym (ap (λ n. each n (nth_stand yard block)) (let e : k + 1 ≡ suc k = omega arith in e) ∙ each-suc k (nth_stand yard block)))
    (least-append block (each k (nth_stand yard block)) (nth_stand yard block k) a b x y)

-- all stands are all placements
pub least_all : (yard : PlainYard) (block : Block) (k : ℕ) (a : Option ℕ) → k ≡ stands yard
    → IsLeastCost block (each k (nth_stand yard block)) a → IsLeastCost block (placements_of yard block) a
least_all yard block k a e x =
    subst (λ ps. IsLeastCost block ps a)
    (ap (λ n. each n (nth_stand yard block)) e ∙ sym (placements-stands yard block)) x

-- where the sums do not step there is no placement
pub least_flat : (yard : PlainYard) (block : Block) (sums : List ℕ) (k : ℕ) → IsSums yard block sums → k < stands yard
    → get_or sums k 0 ≡ get_or sums (k + 1) 0 → nth_stand yard block k ≡ []
least_flat yard block sums k s l flat =
    let here = s.counted k (omega arith) in let next = s.counted (k + 1) (omega arith) in let more = sum_to-more yard block k in
    nil_from_length (nth_stand yard block k) (omega arith)

-- the placements of a stand share its end
pub end_in_grid : (block : Block) (plate : Plate) (start p turn end k : ℕ) (x : Placement)
    → slice_get (stand_grid block plate start end p turn) k ≡ Some x → x.end ≡ end
end_in_grid block plate start p turn end k x at =
    let g = in_grid plate (reach_y (turned turn block.shape)) (reach_x (turned turn block.shape)) (placed start end p turn) k x at in
    sym (ap (λ (q : Placement). q.end) g.is)

-- so they share their cost
pub least_stand : (yard : PlainYard) (block : Block) (sums : List ℕ) (k start p turn end cost : ℕ) → IsSums yard block sums → k < stands yard
    → (get_or sums k 0 ≡ get_or sums (k + 1) 0 → ⊥) → start ≡ stand_start yard k → p ≡ stand_plate yard k → turn ≡ stand_turn yard k
    → EndsOn yard block start p end → cost ≡ cost_on block end → IsLeastCost block (nth_stand yard block k) (Some cost)
least_stand yard block sums k start p turn end cost s l steps a b c e is =
    let here = s.counted k (omega arith) in let next = s.counted (k + 1) (omega arith) in let more = sum_to-more yard block k in
    let stand = stand_of yard block k start p turn a b c in
    elim (cases_Bool (unwrap_or (slice_get block.turns turn) false)) [
      | inl allowed ↦
          let grid : nth_stand yard block k ≡ stand_grid block e.plate start end p turn =
          stand ∙ stand-allowed yard block start p turn e.plate end e.released e.plate_is e.end_is allowed in
          let long = ap length grid in
          let one_cost : (j : ℕ) (x : Placement) → slice_get (stand_grid block e.plate start end p turn) j ≡ Some x → cost_at block x ≡ cost =
          λ j x at. ap (cost_on block) (end_in_grid block e.plate start p turn end j x at) ∙ sym is in
          let (x, at) = element_at (stand_grid block e.plate start end p turn) 0 (elim (cases_lt 0 (length (nth_stand yard block k))) [
            | inl some ↦ omega arith
            | inr none ↦ absurd (steps (omega arith))
          ]) in
          subst (λ ps. IsLeastCost block ps (Some cost)) (sym grid)
          ((λ j x at. let f = one_cost j x at in omega arith), (0, x, at, one_cost 0 x at))
      | inr not_allowed ↦
          let none : length (nth_stand yard block k) ≡ 0 =
          ap length (stand ∙ stand-turnless yard block start p turn e.plate end e.released e.plate_is e.end_is not_allowed) in
          absurd (steps (omega arith))
    ]

-- what a code costs by its placement
pub cost_of_code : (yard : PlainYard) (b code : ℕ) (block : Block) (p : Placement) → slice_get yard.blocks b ≡ Some block
    → slice_get (placements_of yard block) code ≡ Some p → own_cost yard b code ≡ cost_at block p
cost_of_code yard b code block p at is =
    ap (λ o. cost_of o (slice_get (placements yard b) code)) at
    ∙ ap (λ ps. cost_of (Some block) (slice_get ps code)) (placements-of yard b block at) ∙ ap (cost_of (Some block)) is

-- the least cost of a block by its codes
pub least_none : (yard : PlainYard) (b : ℕ) (block : Block) (o : Option ℕ) → slice_get yard.blocks b ≡ Some block
    → IsLeastCost block (placements_of yard block) o → IfNone o (length (placements yard b) ≡ 0)
least_none yard b block None at l = ap length (placements-of yard b block at ∙ l)
least_none yard b block (Some c) at l = tt

pub least_low : (yard : PlainYard) (b : ℕ) (block : Block) (o : Option ℕ) → slice_get yard.blocks b ≡ Some block
    → IsLeastCost block (placements_of yard block) o → IfSome o (IsAtMostEachCost yard b)
least_low yard b block None at l = tt
least_low yard b block (Some c) at l = λ code within.
    let same = placements-of yard b block at in
    let (p, is) = element_at (placements_of yard block) code (let e = ap length same in omega arith) in
    let m = l.0 code p is in let e = cost_of_code yard b code block p at is in omega arith

pub least_attained : (yard : PlainYard) (b : ℕ) (block : Block) (o : Option ℕ) → slice_get yard.blocks b ≡ Some block
    → IsLeastCost block (placements_of yard block) o → IfSome o (IsCostOfSome yard b)
least_attained yard b block None at l = tt
least_attained yard b block (Some c) at l =
    let (code, p, is, cost) = l.1 in
    let within = slice_get_within (placements_of yard block) code p is in
    (code, (let e = ap length (placements-of yard b block at) in omega arith), cost_of_code yard b code block p at is ∙ cost)

-- a day late or a day early costs at most 1,000, and no day is both
pub cost_few : (block : Block) (end : ℕ) → IsBlock block → end < 400 → cost_on block end ≤ 400000
cost_few block end is l =
    let weight = is.weight in let due = is.due in let low = is.early in
    elim (cases_lt end block.due) [
      | inl before ↦
          let m = mul-le block.early (block.due - end) 1000 400 low (omega arith) in
          let none : block.weight * (end - block.due) ≡ 0 = ap (λ n. block.weight * n) (let e : end - block.due ≡ 0 = omega arith in e) ∙ omega arith in
          omega arith
      | inr after ↦
          let m = mul-le block.weight (end - block.due) 1000 400 weight (omega arith) in
          let none : block.early * (block.due - end) ≡ 0 = ap (λ n. block.early * n) (let e : block.due - end ≡ 0 = omega arith in e) ∙ omega arith in
          omega arith
    ]

-- no cost is above 400,000
pub least_few : (yard : PlainYard) (b : ℕ) (block : Block) (o : Option ℕ) → IsYard yard → slice_get yard.blocks b ≡ Some block
    → IsLeastCost block (placements_of yard block) o → IfSome o (λ c. c ≤ 400000)
least_few yard b block None y at l = tt
least_few yard b block (Some c) y at l =
    let (code, p, is, cost) = l.1 in
    let limits = block_limits yard b block y at in
    let range = in_range yard block p y limits (placed-facts yard block code p is) in
    let end = range.end in let days = y.days in let weight = limits.weight in
    let m = cost_few block p.end limits (omega arith) in
    omega arith
