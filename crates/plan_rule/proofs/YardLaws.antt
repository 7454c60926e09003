-- What is so of the figures of a yard.
use Rattle.std.proofs.Common.{◌≡◌, ℕ, ◌+◌, ◌-◌, ◌*◌, ◌<◌, ◌≤◌, max, min, List, length, Option, Some, None, ◌⊎◌, refl, sym, ap, ◌∙◌, subst, inl, inr, arith}
use Rattle.std.specs.Prelude.{slice_get}
use Rattle.std.specs.Option.{option_map_or}
use Rattle.std.proofs.lemmas.Bool.{cases_lt}
use Rattle.std.proofs.lemmas.Nat.{mul-le}
use Rattle.std.proofs.lemmas.Option.{slice_get_within, get_or_from_slice_get}
use Rattle.std.proofs.lemmas.List.Elements.{All-contains}
use Rattle.common_lists.proofs.ListLaws.{element_at}
use Rattle.shape_exact.specs.Yards.{PlainYard, IsYard, IsPiece}
use Rattle.shape_exact.specs.declared.fixed.Fixed.{Fixed}
use Rattle.shape_exact.specs.declared.block.Block.{Block}
use Rattle.shape_exact.specs.Shapes.{cells}
use Rattle.shape_exact.proofs.TurnLaws.{turns_keep}
use Rattle.shape_exact.proofs.FormLaws.{normal}
use Rattle.common_lists.specs.Each.{sum_below, for_some}
use Rattle.common_lists.proofs.EachLaws.{sum-swap, sum-le, sum-add}
use Rattle.plate_calendar.proofs.DayLaws.{end_law}
use Rattle.code_table.specs.declared.placement.Placement.{Placement}
use Rattle.code_table.specs.Placements.{placements, placements_of, own_cost, cost_of, cost_on, IsPlacement}
use Rattle.code_table.proofs.PlacedLaws.{placed-facts}
use Rattle.code_table.proofs.ReadLaws.{block_limits}
use Rattle.plan_rule.specs.Choices.{blocks, count}
use Rattle.plan_rule.specs.Plans.{code_of, IsFeasible}
use Rattle.plan_rule.specs.Yards.{figure, plate_days, capacity, taken_by, taken, stood_by, standing, choices}
use Rattle.plan_rule.proofs.CountLaws.{blocks-length, count-length}
use Rattle.plan_rule.proofs.EnergyLaws.{IsPacked}
use Rattle.plan_rule.proofs.PackLaws.{covered_at, stood_of, piece_at_plate, block_at_plate, taken-le, stood-le, plate-le}

-- a code of a block
pub record Coded (yard : PlainYard) (b code : ℕ) : Type 0 where
  pub block : Block
  pub p : Placement
  pub block_is : slice_get yard.blocks b ≡ Some block
  pub p_is : slice_get (placements yard b) code ≡ Some p
  pub is : IsPlacement yard block p

pub coded : (yard : PlainYard) (b code : ℕ) → b < blocks (choices yard) → code < count (choices yard) b → Coded yard b code
coded yard b code l m =
    let n = blocks-length yard in
    let k : b < length yard.blocks = omega arith in
    let c = count-length yard b k in
    let (block, block_is) = element_at yard.blocks b k in
    let (p, p_is) = element_at (placements yard b) code (omega arith) in
    let same : placements yard b ≡ placements_of yard block = ap (λ o. for_some o (placements_of yard)) block_is in
    record {
      block = block;
      p = p;
      block_is = block_is;
      p_is = p_is;
      is = placed-facts yard block code p (ap (λ ps. slice_get ps code) (sym same) ∙ p_is);
    }

-- what a code takes is covered
code-le : (yard : PlainYard) (q : List ℕ) (first last b : ℕ) → IsYard yard → IsFeasible (choices yard) q → b < blocks (choices yard)
    → taken yard first last b (code_of q b)
    ≤ sum_below (length yard.plates) (covered_at yard first last (slice_get yard.blocks b) (slice_get (placements yard b) (code_of q b)))
unfolding taken
code-le yard q first last b fit f l =
    let c = coded yard b (code_of q b) l (f.is_plan.in_range b l) in
    let le = taken-le yard c.block c.p first last c.is (let (n, same) = turns_keep c.p.turn c.block.shape (normal c.block.shape (block_limits yard b c.block fit c.block_is).shape) in omega arith) in
    subst (λ o. taken_by yard first last o (slice_get (placements yard b) (code_of q b)) ≤ sum_below (length yard.plates) (covered_at yard first last o (slice_get (placements yard b) (code_of q b))))
    (sym c.block_is)
    (subst (λ r. taken_by yard first last (Some c.block) r ≤ sum_below (length yard.plates) (covered_at yard first last (Some c.block) r)) (sym c.p_is) le)

-- what a piece takes is covered
piece-le : (yard : PlainYard) (first last k : ℕ) (o : Option Fixed) → IsYard yard → slice_get yard.fixed k ≡ o
    → option_map_or (stood_by yard first last) o 0
    ≤ sum_below (length yard.plates) (λ pl. option_map_or (λ plate. option_map_or (λ f. stood_of yard first last f pl plate) o 0) (slice_get yard.plates pl) 0)
piece-le yard first last k None is e = omega arith
piece-le yard first last k (Some f) is e =
    stood-le yard k f first last (All-contains (IsPiece yard.days yard.plates) yard.fixed f is.fixed
    (k, slice_get_within yard.fixed k f e, get_or_from_slice_get yard.fixed k f f e))

fits-choices : (yard : PlainYard) (q : List ℕ) (first last : ℕ) → IsYard yard → IsFeasible (choices yard) q
    → standing yard first last + sum_below (blocks (choices yard)) (λ b. taken yard first last b (code_of q b)) ≤ capacity yard first last
unfolding capacity standing
fits-choices yard q first last fit f =
    let n : ℕ = blocks (choices yard) in
    let m : ℕ = length yard.fixed in
    let at : ℕ → ℕ → ℕ = λ b pl. block_at_plate yard q first last pl (slice_get yard.plates pl) b in
    let by : ℕ → ℕ → ℕ = λ k pl. piece_at_plate yard first last pl (slice_get yard.plates pl) k in
    let codes : sum_below n (λ b. taken yard first last b (code_of q b)) ≤ sum_below n (λ b. sum_below (length yard.plates) (at b)) =
    sum-le n _ _ (λ b l. code-le yard q first last b fit f l) in
    let pieces : sum_below m (λ i. option_map_or (stood_by yard first last) (slice_get yard.fixed i) 0) ≤ sum_below m (λ k. sum_below (length yard.plates) (by k)) =
    sum-le m _ _ (λ k l. piece-le yard first last k (slice_get yard.fixed k) fit refl) in
    let swap = sum-swap n (length yard.plates) at in
    let swap' = sum-swap m (length yard.plates) by in
    let both = sum-add (length yard.plates) (λ pl. sum_below m (λ k. by k pl)) (λ pl. sum_below n (λ b. at b pl)) in
    let plates : sum_below (length yard.plates) (λ pl. sum_below m (λ k. by k pl) + sum_below n (λ b. at b pl))
    ≤ sum_below (length yard.plates) (λ p. option_map_or (λ plate. plate_days yard first last plate * (plate.height * plate.width)) (slice_get yard.plates p) 0) =
    sum-le (length yard.plates) _ _ (λ pl l. plate-le yard q first last pl (slice_get yard.plates pl) fit f) in
    omega (arith, codes, pieces, swap, swap', both, plates)

whole_or_late-choices : (yard : PlainYard) (b code first last : ℕ) → IsYard yard → b < blocks (choices yard) → code < count (choices yard) b
    → first ≤ figure yard (λ block. block.release) b → figure yard (λ block. block.due) b ≤ last
    → (figure yard (λ block. block.duration * cells block.shape) b ≤ taken yard first last b code)
    ⊎ ((last + 1 < yard.days) × (figure yard (λ block. block.weight) b * (last + 1 - figure yard (λ block. block.due) b) ≤ own_cost yard b code))
unfolding taken
whole_or_late-choices yard b code first last fit l m early due =
    let c = coded yard b code l m in
    let at : (f : Block → ℕ) → figure yard f b ≡ f c.block = λ f. ap (λ o. option_map_or f o 0) c.block_is in
    let (before, in_days, days) = end_law yard.days c.p.start c.block.duration c.p.end c.is.plate.closed (let d = (block_limits yard b c.block fit c.block_is).duration in omega arith) c.is.end_is in
    let released = c.is.released in
    let r = at (λ block. block.release) in
    let d = at (λ block. block.due) in
    let w = at (λ block. block.weight) in
    let k = at (λ block. block.duration * cells block.shape) in
    elim (cases_lt last c.p.end) [
      | inl late ↦
          let cost : own_cost yard b code ≡ cost_on c.block c.p.end =
          ap (λ o. cost_of o (slice_get (placements yard b) code)) c.block_is ∙ ap (cost_of (Some c.block)) c.p_is in
          let more = mul-le c.block.weight (last + 1 - c.block.due) c.block.weight (c.p.end - c.block.due) (omega arith) (omega arith) in
          inr (
            omega arith,
            subst (λ w. w * (last + 1 - figure yard (λ block. block.due) b) ≤ own_cost yard b code) (sym w)
                (subst (λ d. c.block.weight * (last + 1 - d) ≤ own_cost yard b code) (sym d) (omega (arith, cost, more))),
          )
      | inr here ↦
          let start : max first c.p.start ≡ c.p.start = omega arith in
          let end : min last c.p.end ≡ c.p.end = omega arith in
          let taken' : taken_by yard first last (slice_get yard.blocks b) (slice_get (placements yard b) code) ≡ c.block.duration * cells c.block.shape =
          ap (λ o. taken_by yard first last o (slice_get (placements yard b) code)) c.block_is
          ∙ ap (taken_by yard first last (Some c.block)) c.p_is
          ∙ ap (λ o. option_map_or (plate_days yard (max first c.p.start) (min last c.p.end)) o 0 * cells c.block.shape) c.is.plate_is
          ∙ ap (λ f. plate_days yard f (min last c.p.end) c.is.plate * cells c.block.shape) start
          ∙ ap (λ e. plate_days yard c.p.start e c.is.plate * cells c.block.shape) end
          ∙ ap (λ n. n * cells c.block.shape) days in
          inl (omega (arith, taken', k))
    ]

-- the energy of a yard is a bound
pub packed : (yard : PlainYard) → IsYard yard → IsPacked (choices yard)
unfolding choices
packed yard fit = record {
  fits = λ q first last f. fits-choices yard q first last fit f;
  whole_or_late = λ b code first last l m e d. whole_or_late-choices yard b code first last fit l m e d;
}
