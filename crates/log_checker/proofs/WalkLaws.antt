-- The steps of a walk over the codes of a block.
use Rattle.std.proofs.Common.{◌≡◌, ℕ, ◌+◌, ◌<◌, ◌≤◌, List, [], length, get_or, Some, ◌⊎◌, sym, ap, ◌∙◌, subst, inl, inr, arith}
use Rattle.std.specs.Prelude.{slice_get, max, ◌↔◌}
use Rattle.std.specs.List.Sorted.{IsNonDecreasingBy}
use Rattle.std.proofs.lemmas.Bool.{cases_lt, cases_order}
use Rattle.std.proofs.lemmas.List.{get_or_default}
use Rattle.common_lists.proofs.ListLaws.{element_at}
use Rattle.shape_exact.specs.Yards.{PlainYard}
use Rattle.shape_exact.specs.declared.block.Block.{Block}
use Rattle.code_table.specs.declared.placement.Placement.{Placement}
use Rattle.code_table.specs.declared.stretch.Stretch.{Stretch}
use Rattle.code_table.specs.Placements.{placements, cost_at, cost_of, cost_on, own_cost}
use Rattle.code_table.specs.Stretches.{IsStretch, nth_place}
use Rattle.plan_rule.specs.Choices.{blocks}
use Rattle.plan_rule.specs.Yards.{choices}
use Rattle.plan_rule.proofs.CountLaws.{cost_is}
use Rattle.log_checker.specs.declared.cut.Cut.{Cut}
use Rattle.log_checker.specs.declared.exact.Exact.{Exact}
use Rattle.log_checker.specs.declared.span.Span.{Span}
use Rattle.log_checker.specs.Cuts.{Takes}
use Rattle.log_checker.specs.Spans.{InOne}
use Rattle.log_checker.specs.Walks.{ArePassed, IsHindered, IsSettled}

-- a span more is passed, on to its end
pub passed_more : (spans : List Span) (n code next : ℕ) (d : Span) → n < length spans → next ≡ max code (get_or spans n d).hi
    → ArePassed spans n code → ArePassed spans (n + 1) next
passed_more spans n code next d within is passed k e low below = elim (cases_lt k n) [
  | inl less ↦ let h = passed k e low less in omega arith
  | inr more ↦
      let same : k ≡ n = omega arith in
      let one : (get_or spans k e).hi ≡ (get_or spans n d).hi =
      ap (λ i. (get_or spans i e).hi) same ∙ ap (λ (s : Span). s.hi) (get_or_default spans n e d within) in
      omega arith
]

-- the codes up to its end are in a span
pub skipped_more : (spans : List Span) (Asked : ℕ → Type 0) (n code next : ℕ) (d : Span) → n < length spans → (get_or spans n d).lo ≤ code
    → next ≡ max code (get_or spans n d).hi → ((k : ℕ) → Asked k → k < code → InOne spans k) → (k : ℕ) → Asked k → k < next → InOne spans k
skipped_more spans Asked n code next d within begins is skipped k asked below = elim (cases_lt k code) [
  | inl less ↦ skipped k asked less
  | inr more ↦ (n, get_or spans n d, within, get_or_default spans n (get_or spans n d) d within, (omega arith, omega arith))
]

-- a code at which the first spans have ended and before which the next one does not begin is in no span
pub in_none : (spans : List Span) (n code : ℕ) (d : Span) → IsNonDecreasingBy (λ s. s.lo) spans → n < length spans
    → code < (get_or spans n d).lo → ArePassed spans n code → InOne spans code → ⊥
in_none spans n code d up within begins passed (k, s, inside, is, (low, high)) = elim (cases_lt k n) [
  | inl less ↦
      let ends = passed k s (omega arith) less in
      let one : (get_or spans k s).hi ≡ s.hi = ap (λ (s : Span). s.hi) is in absurd (omega arith)
  | inr more ↦
      let first = up n k s more inside in
      let one : (get_or spans k s).lo ≡ s.lo = ap (λ (s : Span). s.lo) is in
      let same : (get_or spans n s).lo ≡ (get_or spans n d).lo = ap (λ (s : Span). s.lo) (get_or_default spans n s d within) in
      absurd (omega arith)
]

-- the cost of a code's placement is its own cost
pub cost_of_place : (yard : PlainYard) (b code cost : ℕ) (p : Placement) → b < length yard.blocks → slice_get (placements yard b) code ≡ Some p
    → ((block : Block) → slice_get yard.blocks b ≡ Some block → cost ≡ cost_at block p) → cost ≡ (choices yard).cost b code
cost_of_place yard b code cost p exists at is =
    let (block, here) = element_at yard.blocks b exists in
    let own : own_cost yard b code ≡ cost_at block p =
    ap (λ o. cost_of o (slice_get (placements yard b) code)) here ∙ ap (cost_of (Some block)) at in
    is block here ∙ sym own ∙ sym (cost_is yard b code)

-- the codes of a stretch have the cost of its end
pub stretch_cost : (yard : PlainYard) (b cost code : ℕ) (s : Stretch) → b < length yard.blocks → IsStretch (placements yard b) s
    → s.lo ≤ code → code < s.hi → ((block : Block) → slice_get yard.blocks b ≡ Some block → cost ≡ cost_on block s.place.end)
    → cost ≡ (choices yard).cost b code
stretch_cost yard b cost code s exists is low high told =
    cost_of_place yard b code cost (nth_place s code) exists (is.each code low high) told

-- what the cut keeps of a stretch, as the costs of its codes tell
pub stretch_taken : (yard : PlainYard) (b cost kept end : ℕ) (cut : Cut) (s : Stretch) → b < length yard.blocks → IsStretch (placements yard b) s
    → end ≤ s.hi → ((block : Block) → slice_get yard.blocks b ≡ Some block → cost ≡ cost_on block s.place.end)
    → ((code : ℕ) → code < end → (kept ≤ code) ↔ Takes cut cost code)
    → (code : ℕ) → s.lo ≤ code → code < end → (kept ≤ code) ↔ Takes cut ((choices yard).cost b code) code
stretch_taken yard b cost kept end cut s exists is le told takes code low below =
    subst (λ n. (kept ≤ code) ↔ Takes cut n code) (stretch_cost yard b cost code s exists is low (omega arith) told) (takes code below)

-- a code more to which a walk has come is hindered, and those after it are in spans
pub hindered_to : (yard : PlainYard) (b : ℕ) (exacts : List Exact) (spans : List Span) (from code next : ℕ)
    → ((k : ℕ) → from ≤ k → k < code → InOne spans k ⊎ IsHindered yard exacts b k) → IsHindered yard exacts b code
    → ((k : ℕ) → code < k → k < next → InOne spans k)
    → (k : ℕ) → from ≤ k → k < next → InOne spans k ⊎ IsHindered yard exacts b k
hindered_to yard b exacts spans from code next before here skipped k low below = elim (cases_order k code) [
  | inl same ↦ inr (subst (IsHindered yard exacts b) (sym same) here)
  | inr differ ↦ elim differ [ inl less ↦ before k low less | inr more ↦ inl (skipped k more below) ]
]

-- no code is in one of no spans
pub in_no_span : (code : ℕ) → InOne [] code → ⊥
in_no_span code (k, s, within, is, inside) = absurd (omega arith)

-- the codes to which a walk has come are settled
pub settled_to : (yard : PlainYard) (b : ℕ) (cut : Cut) (exacts : List Exact) (spans : List Span) (lo hi code next : ℕ)
    → ((k : ℕ) → lo ≤ k → k < code → k < hi → IsSettled yard b cut exacts spans k)
    → ((k : ℕ) → code ≤ k → k < next → InOne spans k ⊎ IsHindered yard exacts b k)
    → (k : ℕ) → lo ≤ k → k < next → k < hi → IsSettled yard b cut exacts spans k
settled_to yard b cut exacts spans lo hi code next before skipped k low below high = elim (cases_lt k code) [
  | inl less ↦ before k low less high
  | inr more ↦ elim (skipped k more below) [ inl inside ↦ inr (inr inside) | inr hindered ↦ inl hindered ]
]

-- and so are those that the cut takes, and those that spans have
pub settled_on : (yard : PlainYard) (b : ℕ) (cut : Cut) (exacts : List Exact) (spans : List Span) (lo hi from code kept end next : ℕ)
    → from ≤ code → kept ≤ code → ((k : ℕ) → lo ≤ k → k < code → k < hi → IsSettled yard b cut exacts spans k)
    → ((k : ℕ) → from ≤ k → k < end → (kept ≤ k) ↔ Takes cut ((choices yard).cost b k) k)
    → ((k : ℕ) → code ≤ k → end ≤ k → k < next → InOne spans k)
    → (k : ℕ) → lo ≤ k → k < next → k < hi → IsSettled yard b cut exacts spans k
settled_on yard b cut exacts spans lo hi from code kept end next begins past before takes skipped k low below high = elim (cases_lt k code) [
  | inl less ↦ before k low less high
  | inr more ↦ elim (cases_lt k end) [
    | inl early ↦ inr (inl ((takes k (omega arith) early).0 (omega arith)))
    | inr late ↦ inr (inr (skipped k more late below))
  ]
]

-- a code that the cut keeps, that no span has and that nothing hinders is not settled
pub not_settled : (yard : PlainYard) (b : ℕ) (cut : Cut) (exacts : List Exact) (spans : List Span) (code kept : ℕ) → code < kept
    → ((kept ≤ code) ↔ Takes cut ((choices yard).cost b code) code) → (InOne spans code → ⊥) → (IsHindered yard exacts b code → ⊥)
    → IsSettled yard b cut exacts spans code → ⊥
not_settled yard b cut exacts spans code kept below takes left clear h = elim h [
  | inl hindered ↦ clear hindered
  | inr other ↦ elim other [
    | inl taken ↦ let past = takes.1 taken in omega arith
    | inr inside ↦ left inside
  ]
]

-- a walk that goes on from where another one came to
pub skipped_on : (yard : PlainYard) (exacts : List Exact) (spans : List Span) (b from code next : ℕ)
    → ((k : ℕ) → from ≤ k → k < code → InOne spans k ⊎ IsHindered yard exacts b k)
    → ((k : ℕ) → code ≤ k → k < next → InOne spans k ⊎ IsHindered yard exacts b k)
    → (k : ℕ) → from ≤ k → k < next → InOne spans k ⊎ IsHindered yard exacts b k
skipped_on yard exacts spans b from code next before after k low below = elim (cases_lt k code) [
  | inl less ↦ before k low less
  | inr more ↦ after k more below
]
