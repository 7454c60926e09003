-- What stands near a placement, block by block and piece by piece.
use Rattle.std.proofs.Common.{◌≡◌, ℕ, ◌*◌, ◌<◌, List, [], ◌∷◌, ◌++◌, length, get_or, take, ◌+◌, Some, sym, ap, subst, ◌∙◌, inl, inr, arith}
use Rattle.std.specs.Prelude.{All, Contains, slice_get}
use Rattle.std.proofs.lemmas.Bool.{cases_lt}
use Rattle.std.proofs.lemmas.List.{take_more}
use Rattle.std.proofs.lemmas.List.Elements.{All-push, Contains-append_left, Contains-push, Contains-push_cases}
use Rattle.std.proofs.lemmas.Option.{same_Some, slice_get_within}
use Rattle.shape_exact.specs.Yards.{PlainYard, IsYard}
use Rattle.shape_exact.specs.declared.block.Block.{Block}
use Rattle.shape_exact.specs.declared.fixed.Fixed.{Fixed}
use Rattle.code_table.specs.declared.placement.Placement.{Placement}
use Rattle.plan_rule.specs.Clashes.{MayClash, MayMeetPiece}
use Rattle.plan_rule.proofs.MeetingLaws.{piece_in, piece_near}
use Rattle.tardiness_bounds.specs.declared.near.Neighbour.{Neighbour}
use Rattle.tardiness_bounds.specs.declared.standing.Standing.{Standing}
use Rattle.tardiness_bounds.specs.Neighbours.{AreNear, IsNeighbour, of_piece, of_standing}
use Rattle.tardiness_bounds.specs.Standings.{IsStanding}

-- nothing stands near where nothing stands
pub near_none : (yard : PlainYard) (p : Placement) → AreNear yard p [] 0 []
near_none yard p n = (
  λ inside. let (k, within, is) = inside in absurd (omega arith),
  λ told. elim told [
    | inl block ↦ (let (f, has, may, e) = block in let (k, within, is) = has in absurd (omega arith))
    | inr piece ↦ (let (i, g, below, is, may, e) = piece in absurd (omega arith))
  ],
)

-- one block more that is near
near_more : (yard : PlainYard) (p : Placement) (list : List Standing) (near : List Neighbour) (f : Standing) (k : ℕ) → MayClash f.place p
    → AreNear yard p list k near → AreNear yard p (list ++ f ∷ []) k (near ++ of_standing f ∷ [])
near_more yard p list near f k may h n = (
  λ inside. elim (Contains-push_cases near (of_standing f) n inside) [
    | inl old ↦ elim ((h n).0 old) [
      | inl block ↦ (let (g, has, is, e) = block in inl (g, Contains-append_left list (f ∷ []) g has, is, e))
      | inr piece ↦ inr piece
    ]
    | inr same ↦ inl (f, Contains-push list f, may, sym same)
  ],
  λ told. elim told [
    | inl block ↦
        let (g, has, is, e) = block in
        elim (Contains-push_cases list f g has) [
          | inl old ↦ Contains-append_left near (of_standing f ∷ []) n ((h n).1 (inl (g, old, is, e)))
          | inr same ↦ subst (Contains (near ++ of_standing f ∷ [])) (ap of_standing same ∙ sym e) (Contains-push near (of_standing f))
        ]
    | inr piece ↦ Contains-append_left near (of_standing f ∷ []) n ((h n).1 (inr piece))
  ],
)

-- one block more that is not
near_kept : (yard : PlainYard) (p : Placement) (list : List Standing) (near : List Neighbour) (f : Standing) (k : ℕ) → (MayClash f.place p → ⊥)
    → AreNear yard p list k near → AreNear yard p (list ++ f ∷ []) k near
near_kept yard p list near f k far h n = (
  λ inside. elim ((h n).0 inside) [
    | inl block ↦ (let (g, has, is, e) = block in inl (g, Contains-append_left list (f ∷ []) g has, is, e))
    | inr piece ↦ inr piece
  ],
  λ told. elim told [
    | inl block ↦
        let (g, has, is, e) = block in
        elim (Contains-push_cases list f g has) [
          | inl old ↦ (h n).1 (inl (g, old, is, e))
          | inr same ↦ absurd (far (subst (λ (g : Standing). MayClash g.place p) (sym same) is))
        ]
    | inr piece ↦ (h n).1 (inr piece)
  ],
)

-- the step of a walk over the blocks at one that is near
pub near_next : (yard : PlainYard) (p : Placement) (list : List Standing) (near new : List Neighbour) (i : ℕ) (d : Standing) → i < length list
    → new ≡ near ++ of_standing (get_or list i d) ∷ [] → MayClash (get_or list i d).place p → AreNear yard p (take i list) 0 near
    → AreNear yard p (take (i + 1) list) 0 new
near_next yard p list near new i d within is may h =
    subst (λ xs. AreNear yard p xs 0 new) (sym (take_more list i d within))
    (subst (AreNear yard p (take i list ++ get_or list i d ∷ []) 0) (sym is) (near_more yard p (take i list) near (get_or list i d) 0 may h))

-- the same at a block that is not
pub near_skip : (yard : PlainYard) (p : Placement) (list : List Standing) (near new : List Neighbour) (i : ℕ) (d : Standing) → i < length list
    → new ≡ near → (MayClash (get_or list i d).place p → ⊥) → AreNear yard p (take i list) 0 near → AreNear yard p (take (i + 1) list) 0 new
near_skip yard p list near new i d within is far h =
    subst (λ xs. AreNear yard p xs 0 new) (sym (take_more list i d within))
    (subst (AreNear yard p (take i list ++ get_or list i d ∷ []) 0) (sym is) (near_kept yard p (take i list) near (get_or list i d) 0 far h))

-- one piece more that is near
pub piece_next : (yard : PlainYard) (p : Placement) (list : List Standing) (near new : List Neighbour) (i : ℕ) (piece : Fixed)
    → slice_get yard.fixed i ≡ Some piece → new ≡ near ++ of_piece yard i piece ∷ [] → MayMeetPiece p piece → AreNear yard p list i near
    → AreNear yard p list (i + 1) new
piece_next yard p list near new i piece at pushed may h =
    subst (AreNear yard p list (i + 1)) (sym pushed) (piece_more yard p list near i piece at may h)
  where
    piece_more : (yard : PlainYard) (p : Placement) (list : List Standing) (near : List Neighbour) (i : ℕ) (piece : Fixed)
        → slice_get yard.fixed i ≡ Some piece → MayMeetPiece p piece → AreNear yard p list i near
        → AreNear yard p list (i + 1) (near ++ of_piece yard i piece ∷ [])
    piece_more yard p list near i piece at may h n = (
      λ inside. elim (Contains-push_cases near (of_piece yard i piece) n inside) [
        | inl old ↦ elim ((h n).0 old) [
          | inl block ↦ inl block
          | inr q ↦ (let (j, g, below, is, m, e) = q in inr (j, g, omega arith, is, m, e))
        ]
        | inr same ↦ inr (i, piece, omega arith, at, may, sym same)
      ],
      λ told. elim told [
        | inl block ↦ Contains-append_left near (of_piece yard i piece ∷ []) n ((h n).1 (inl block))
        | inr q ↦
            let (j, g, below, is, m, e) = q in
            elim (cases_lt j i) [
              | inl less ↦ Contains-append_left near (of_piece yard i piece ∷ []) n ((h n).1 (inr (j, g, less, is, m, e)))
              | inr here ↦
                  let same : j ≡ i = omega arith in
                  let one : g ≡ piece = same_Some g piece (sym is ∙ ap (slice_get yard.fixed) same ∙ at) in
                  subst (Contains (near ++ of_piece yard i piece ∷ [])) (sym (e ∙ ap (λ j. of_piece yard j g) same ∙ ap (of_piece yard i) one))
                  (Contains-push near (of_piece yard i piece))
            ]
      ],
    )

-- one piece more that is not
pub piece_skip : (yard : PlainYard) (p : Placement) (list : List Standing) (near new : List Neighbour) (i : ℕ) (piece : Fixed)
    → slice_get yard.fixed i ≡ Some piece → new ≡ near → (MayMeetPiece p piece → ⊥) → AreNear yard p list i near → AreNear yard p list (i + 1) new
piece_skip yard p list near new i piece at same_near far h =
    subst (AreNear yard p list (i + 1)) (sym same_near) (piece_kept yard p list near i piece at far h)
  where
    piece_kept : (yard : PlainYard) (p : Placement) (list : List Standing) (near : List Neighbour) (i : ℕ) (piece : Fixed)
        → slice_get yard.fixed i ≡ Some piece → (MayMeetPiece p piece → ⊥) → AreNear yard p list i near → AreNear yard p list (i + 1) near
    piece_kept yard p list near i piece at far h n = (
      λ inside. elim ((h n).0 inside) [
        | inl block ↦ inl block
        | inr q ↦ (let (j, g, below, is, m, e) = q in inr (j, g, omega arith, is, m, e))
      ],
      λ told. elim told [
        | inl block ↦ (h n).1 (inl block)
        | inr q ↦
            let (j, g, below, is, m, e) = q in
            elim (cases_lt j i) [
              | inl less ↦ (h n).1 (inr (j, g, less, is, m, e))
              | inr here ↦
                  let same : j ≡ i = omega arith in
                  let one : g ≡ piece = same_Some g piece (sym is ∙ ap (slice_get yard.fixed) same ∙ at) in
                  absurd (far (subst (MayMeetPiece p) one m))
            ]
      ],
    )

-- a block that stands, and a piece, are within the limits
pub neighbour_block : (yard : PlainYard) (f : Standing) → IsStanding yard f → IsNeighbour yard (of_standing f)
neighbour_block yard f s = record {
  footprint_is = (let b = s.block in let t = s.turn in omega arith);
  x_is = s.x;
  y_is = s.y;
}

pub neighbour_piece : (yard : PlainYard) (i : ℕ) (piece : Fixed) → IsYard yard → slice_get yard.fixed i ≡ Some piece → IsNeighbour yard (of_piece yard i piece)
neighbour_piece yard i piece is at =
    let within = slice_get_within yard.fixed i piece at in
    let small = piece_near yard piece is (piece_in yard i piece is at) in
    record { footprint_is = omega arith; x_is = small.0; y_is = small.1 }

-- one neighbour more
pub neighbours_more : (yard : PlainYard) (near new : List Neighbour) (n : Neighbour) → new ≡ near ++ n ∷ [] → All (IsNeighbour yard) near → IsNeighbour yard n
    → All (IsNeighbour yard) new
neighbours_more yard near new n pushed h is = subst (All (IsNeighbour yard)) (sym pushed) (All-push (IsNeighbour yard) near n h is)

-- the number of a block that stands is small
pub block_small : (yard codes : PlainYard) (list : List Standing) (i : ℕ) (d : Standing) → IsYard codes → codes ≡ yard → All (IsStanding yard) list
    → i < length list → (get_or list i d).block < 32
block_small yard codes list i d is e stand l =
    let b = (stand i d l).block in
    let n = ap (λ (y : PlainYard). length y.blocks) e in
    let few = is.few_blocks in
    omega arith

-- the neighbour that is made of a piece
pub made_piece : (yard here : PlainYard) (blocks : List Block) (i : ℕ) (piece : Fixed) → blocks ≡ here.blocks → here ≡ yard
    → (record { footprint = length blocks * 4 + i; x = piece.x; y = piece.y }) ≡ of_piece yard i piece
made_piece yard here blocks i piece e f =
    let make : ℕ → Neighbour = λ n. record { footprint = n * 4 + i; x = piece.x; y = piece.y } in
    ap make (ap length (e ∙ ap (λ (y : PlainYard). y.blocks) f))
