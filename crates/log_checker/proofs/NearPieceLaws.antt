-- Which fixed pieces a placement may meet, and that it meets no others.
use Rattle.std.proofs.Common.{◌≡◌, ℕ, ◌+◌, ◌<◌, ◌≤◌, List, [], ◌∷◌, ◌++◌, length, get_or, Bool, Some, sym, ap, ◌∙◌, subst, inl, inr, arith}
use Rattle.std.specs.Prelude.{◌↔◌, IsTrue, All, Contains, slice_get}
use Rattle.std.proofs.lemmas.Bool.{cases_lt}
use Rattle.std.proofs.lemmas.Option.{same_Some, slice_get_within}
use Rattle.std.proofs.lemmas.List.Elements.{Contains-get_or, Contains-append_left, Contains-push, Contains-push_cases}
use Rattle.common_lists.proofs.ListLaws.{element_at}
use Rattle.shape_exact.specs.Yards.{PlainYard}
use Rattle.shape_exact.specs.declared.block.Block.{Block}
use Rattle.shape_exact.specs.declared.fixed.Fixed.{Fixed}
use Rattle.code_table.specs.declared.placement.Placement.{Placement}
use Rattle.code_table.specs.Placements.{placements}
use Rattle.plan_rule.specs.Choices.{MeetsSome}
use Rattle.plan_rule.specs.Clashes.{MayMeetPiece, MeetPiece}
use Rattle.plan_rule.specs.Yards.{choices}
use Rattle.log_checker.specs.NearPieces.{AreNear, IsNearPiece, MeetsAt, MeetsOne}

-- the near ones of the first pieces
abbrev pub AreNearBelow : PlainYard → Placement → ℕ → List ℕ → Type 0
AreNearBelow yard p n list = (i : ℕ) → Contains list i ↔ ((i < n) × IsNearPiece yard p i)

-- one piece more that is near
pub piece_more : (yard : PlainYard) (p : Placement) (i : ℕ) (f : Fixed) (list : List ℕ) → slice_get yard.fixed i ≡ Some f → MayMeetPiece p f
    → AreNearBelow yard p i list → AreNearBelow yard p (i + 1) (list ++ i ∷ [])
piece_more yard p i f list at may h n = (
  λ inside. elim (Contains-push_cases list i n inside) [
    | inl old ↦ let (l, is) = (h n).0 old in (omega arith, is)
    | inr same ↦ subst (λ n. (n < i + 1) × IsNearPiece yard p n) same (omega arith, (f, at, may))
  ],
  λ told. elim (cases_lt n i) [
    | inl l ↦ Contains-append_left list (i ∷ []) n ((h n).1 (l, told.1))
    | inr last ↦ let l = told.0 in subst (Contains (list ++ i ∷ [])) (let e : i ≡ n = omega arith in e) (Contains-push list i)
  ],
)

-- one piece more that is not
pub piece_kept : (yard : PlainYard) (p : Placement) (i : ℕ) (f : Fixed) (list : List ℕ) → slice_get yard.fixed i ≡ Some f
    → (MayMeetPiece p f → ⊥) → AreNearBelow yard p i list → AreNearBelow yard p (i + 1) list
piece_kept yard p i f list at far h n = (
  λ inside. let (l, is) = (h n).0 inside in (omega arith, is),
  λ told. elim (cases_lt n i) [
    | inl l ↦ (h n).1 (l, told.1)
    | inr last ↦
        let l = told.0 in
        let (g, there, may) = told.1 in
        let e : n ≡ i = omega arith in
        absurd (far (subst (MayMeetPiece p) (same_Some g f (sym there ∙ ap (slice_get yard.fixed) e ∙ at)) may))
  ],
)

-- all pieces
pub pieces_all : (yard : PlainYard) (p : Placement) (n : ℕ) (list : List ℕ) → length yard.fixed ≤ n → AreNearBelow yard p n list
    → AreNear yard p list
pieces_all yard p n list long h i = (
  λ inside. ((h i).0 inside).1,
  λ is. let (f, at, may) = is in let l = slice_get_within yard.fixed i f at in (h i).1 (omega arith, is),
)

-- the pieces that are near exist
pub near_exist : (yard : PlainYard) (p : Placement) (list : List ℕ) → AreNear yard p list → All (λ i. i < length yard.fixed) list
near_exist yard p list h k d within =
    let (f, at, may) = (h (get_or list k d)).0 (Contains-get_or list k d within) in slice_get_within yard.fixed (get_or list k d) f at

-- a placement meets the piece that was read
pub met_at : (yard : PlainYard) (b i : ℕ) (p : Placement) (f : Fixed) (t : Bool) → b < length yard.blocks → slice_get yard.fixed i ≡ Some f
    → ((block : Block) → slice_get yard.blocks b ≡ Some block → IsTrue t ↔ MeetPiece block p f) → IsTrue t ↔ MeetsAt yard b p i
met_at yard b i p f t l at told = (
  λ h. let (block, is) = element_at yard.blocks b l in
      record { block = block; piece = f; block_is = is; piece_is = at; meet = (told block is).0 h },
  λ m. (told m.block m.block_is).1 (subst (MeetPiece m.block p) (same_Some m.piece f (sym m.piece_is ∙ at)) m.meet),
)

-- a code meets a piece exactly where its placement meets one of those near it
pub met_near : (yard : PlainYard) (b code : ℕ) (p : Placement) (list : List ℕ) → slice_get (placements yard b) code ≡ Some p
    → AreNear yard p list → MeetsOne yard list b p ↔ MeetsSome (choices yard) b code
unfolding choices
met_near yard b code p list at h = (
  λ met. let (k, i, within, is, m) = met in (
    i,
    record { block = m.block; p = p; piece = m.piece; block_is = m.block_is; p_is = at; piece_is = m.piece_is; meet = m.meet },
  ),
  λ some. let (i, m) = some in
      let meet = subst (λ p. MeetPiece m.block p m.piece) (same_Some m.p p (sym m.p_is ∙ at)) m.meet in
      let (k, within, is) = (h i).1 (m.piece, m.piece_is, (meet.plate, meet.starts, meet.ends)) in (
        k,
        i,
        within,
        is,
        record { block = m.block; piece = m.piece; block_is = m.block_is; piece_is = m.piece_is; meet = meet },
      ),
)
