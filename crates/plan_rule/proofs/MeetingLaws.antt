-- To meet a piece is a meeting of the placement with it.
use Rattle.std.proofs.Common.{◌≡◌, ℕ, ◌<◌, ◌≤◌, List, length, get_or, Some, sym, ap, ◌∙◌, subst, arith, ◌+◌, inl, inr}
use Rattle.std.specs.Prelude.{slice_get}
use Rattle.std.proofs.lemmas.Option.{same_Some, slice_get_within, slice_get-get_or, get_or_from_slice_get}
use Rattle.std.proofs.lemmas.Bool.{cases_lt}
use Rattle.std.proofs.lemmas.List.Elements.{All-contains}
use Rattle.common_lists.proofs.ListLaws.{element_at}
use Rattle.shape_exact.specs.Yards.{PlainYard, IsYard, IsPiece}
use Rattle.shape_exact.proofs.YardLaws as yards
use Rattle.shape_exact.specs.declared.block.Block.{Block}
use Rattle.shape_exact.specs.declared.fixed.Fixed.{Fixed}
use Rattle.code_table.specs.declared.placement.Placement.{Placement}
use Rattle.code_table.specs.Placements.{placements}
use Rattle.plan_rule.specs.Clashes.{MeetPiece, MeetsPiece}
use Rattle.plan_rule.specs.Choices.{Choices, MeetsSome, blocks}
use Rattle.plan_rule.specs.Pieces.{IsFirstMet}
use Rattle.plan_rule.specs.Plans.{code_of, MeetsNone}
use Rattle.plan_rule.specs.Yards.{choices}

-- a piece of a yard has coordinates of at most 400
pub piece_near : (yard : PlainYard) (f : Fixed) → IsYard yard → IsPiece yard.days yard.plates f → (f.x ≤ 400) × (f.y ≤ 400)
piece_near yard f is p = yards.piece_near yard.days yard.plates f is.plates p

-- a piece of a yard stands inside its plate
pub piece_in : (yard : PlainYard) (i : ℕ) (f : Fixed) → IsYard yard → slice_get yard.fixed i ≡ Some f → IsPiece yard.days yard.plates f
piece_in yard i f is e = All-contains (IsPiece yard.days yard.plates) yard.fixed f is.fixed (i, slice_get_within yard.fixed i f e, get_or_from_slice_get yard.fixed i f f e)

-- a meeting of a code with a piece, by its placement
pub meets_at : (yard : PlainYard) (b code i : ℕ) (p : Placement) (f : Fixed) → b < length yard.blocks
    → slice_get (placements yard b) code ≡ Some p → slice_get yard.fixed i ≡ Some f
    → ((block : Block) → slice_get yard.blocks b ≡ Some block → MeetPiece block p f) → MeetsPiece yard b code i
meets_at yard b code i p f l p_is f_is meet =
    let (block, is) = element_at yard.blocks b l in
    record { block = block; p = p; piece = f; block_is = is; p_is = p_is; piece_is = f_is; meet = meet block is }

pub misses_at : (yard : PlainYard) (b code i : ℕ) (p : Placement) (f : Fixed)
    → slice_get (placements yard b) code ≡ Some p → slice_get yard.fixed i ≡ Some f
    → ((block : Block) → slice_get yard.blocks b ≡ Some block → MeetPiece block p f → ⊥) → MeetsPiece yard b code i → ⊥
misses_at yard b code i p f p_is f_is miss m =
    miss m.block m.block_is
    (subst (λ p. MeetPiece m.block p f) (same_Some _ _ (sym m.p_is ∙ p_is))
    (subst (λ f. MeetPiece m.block m.p f) (same_Some _ _ (sym m.piece_is ∙ f_is)) m.meet))

-- a code that meets none of the pieces
pub meets_no : (yard : PlainYard) (b code n : ℕ) → length yard.fixed ≤ n → ((i : ℕ) → i < n → MeetsPiece yard b code i → ⊥) → MeetsSome (choices yard) b code → ⊥
unfolding choices
meets_no yard b code n e none m =
    let l = slice_get_within yard.fixed m.0 m.1.piece m.1.piece_is in none m.0 (omega arith) m.1

-- the piece that was read
pub piece_read : (yard here : PlainYard) (items : List Fixed) (i : ℕ) (f : Fixed) → items ≡ here.fixed → here ≡ yard → i < length items
    → f ≡ get_or items i f → slice_get yard.fixed i ≡ Some f
piece_read yard here items i f e g l is =
    subst (λ (y : PlainYard). slice_get y.fixed i ≡ Some f) g (subst (λ fs. slice_get fs i ≡ Some f) e (slice_get-get_or items i f l ∙ ap Some (sym is)))

pub pieces_read : (yard here : PlainYard) (items : List Fixed) → items ≡ here.fixed → here ≡ yard → length items ≡ length yard.fixed
pieces_read yard here items e g = ap length (e ∙ ap (λ (y : PlainYard). y.fixed) g)

-- the first piece of a yard that a code meets
pub first_piece : (yard : PlainYard) (b code i : ℕ) → MeetsPiece yard b code i → ((k : ℕ) → k < i → MeetsPiece yard b code k → ⊥)
    → IsFirstMet (choices yard) b code i
unfolding choices
first_piece yard b code i meets first = record { meets = meets; first = first }

-- one block more of a plan that meets no piece
pub meets_next : (c : Choices) (plan list : List ℕ) (n : ℕ) → list ≡ plan
    → ((a : ℕ) → a < n → MeetsSome c a (code_of plan a) → ⊥) → (MeetsSome c n (code_of list n) → ⊥)
    → (a : ℕ) → a < n + 1 → MeetsSome c a (code_of plan a) → ⊥
meets_next c plan list n e below here a less m = elim (cases_lt a n) [
  | inl l ↦ below a l m
  | inr last ↦
      let f : a ≡ n = omega arith in
      here (subst (λ p. MeetsSome c n (code_of p n)) (sym e) (subst (λ a. MeetsSome c a (code_of plan a)) f m))
]

-- a plan of which no block meets a piece
pub meets_none : (c : Choices) (plan : List ℕ) (n : ℕ) → blocks c ≤ n
    → ((a : ℕ) → a < n → MeetsSome c a (code_of plan a) → ⊥) → MeetsNone c plan
meets_none c plan n e none b l m = none b (omega arith) m
