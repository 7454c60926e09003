-- It can be told which codes of a yard clash, and which meet a piece.
use Rattle.std.proofs.Common.{◌≡◌, ℕ, zero, suc, ◌<◌, length, List, [], ◌∷◌, Option, Some, None, ◌⊎◌, refl, sym, ◌∙◌, subst, inl, inr, arith}
use lib.IntN.{ℤ, pos, negsuc}
use Rattle.std.proofs.lemmas.Int.{ints}
use Rattle.std.specs.Prelude.{slice_get, All, Any}
use lib.Signed.{◌<ℤ◌, ◌≤ℤ◌}
use Rattle.std.proofs.lemmas.Bool.{cases_lt, cases_order}
use Rattle.std.proofs.lemmas.Option.{none-some, same_Some, slice_get_within}
use Rattle.std.proofs.lemmas.List.Elements.{All-nil, All-cons}
use Rattle.shape_exact.specs.Shapes.{IsShape, AreApart, turned, edges, cross}
use Rattle.shape_exact.specs.Separation.{HasSeparatingEdge, EachEdgeSees, moved, way}
use Rattle.shape_exact.specs.Yards.{PlainYard, IsYard, piece_at}
use Rattle.shape_exact.specs.declared.fixed.Fixed.{Fixed}
use Rattle.shape_exact.specs.declared.point.Point.{Point}
use Rattle.shape_exact.specs.declared.block.Block.{Block}
use Rattle.shape_exact.proofs.ApartLaws.{separation, apart_both, shared, shared_not_apart}
use Rattle.shape_exact.proofs.FormLaws.{shape-turned}
use Rattle.code_table.specs.declared.placement.Placement.{Placement}
use Rattle.code_table.specs.Placements.{placements}
use Rattle.code_table.proofs.ReadLaws.{block_limits}
use Rattle.plan_rule.specs.Clashes.{place_of, PlacementsClash, Clash, MeetPiece, MeetsPiece}
use Rattle.plan_rule.specs.Yards.{choices}
use Rattle.plan_rule.proofs.ExistLaws.{IsDecided}
use Rattle.plan_rule.proofs.MeetingLaws.{piece_in}

-- of what is one or the other of each element, one is so of all, or the other of some
all_or_any : {A : Type 0} (P Q : A → Type 0) → ((x : A) → P x ⊎ Q x) → (xs : List A) → All P xs ⊎ Any Q xs
all_or_any P Q told [] = inl (All-nil P)
all_or_any P Q told (x ∷ xs) = elim (told x) [
  | inr q ↦ inr (0, x, omega arith, refl, q)
  | inl p ↦ elim (all_or_any P Q told xs) [
    | inl h ↦ inl (All-cons P x xs p h)
    | inr some ↦ inr (suc some.0, some.1, (let l = some.2 in omega arith), some.3, some.4)
  ]
]

positive_or_not : (z : ℤ) → (z ≤ℤ pos 0) ⊎ (pos 0 <ℤ z)
positive_or_not (pos zero) = inl (omega (arith, ints))
positive_or_not (pos (suc n)) = inr (omega (arith, ints))
positive_or_not (negsuc n) = inl (omega (arith, ints))

turn_round : {A B : Type 0} → A ⊎ B → B ⊎ A
turn_round (inl a) = inr a
turn_round (inr b) = inl b

edge_or_sees : (a b : List Point) (by : Point) → HasSeparatingEdge a b by ⊎ EachEdgeSees a b by
edge_or_sees a b by = turn_round (all_or_any
    (λ e. Any (λ v. pos 0 <ℤ cross e.0 e.1 (moved by v)) b) (λ e. All (λ v. cross e.0 e.1 (moved by v) ≤ℤ pos 0) b)
    (λ e. turn_round (all_or_any (λ v. cross e.0 e.1 (moved by v) ≤ℤ pos 0) (λ v. pos 0 <ℤ cross e.0 e.1 (moved by v))
    (λ v. positive_or_not (cross e.0 e.1 (moved by v))) b)) (edges a))

-- whether two shapes are apart
apart_or_not : (a b : List Point) (p q : Point) → IsShape a → IsShape b → AreApart a p b q ⊎ (AreApart a p b q → ⊥)
apart_or_not a b p q s t = elim (edge_or_sees a b (way p q)) [
  | inl one ↦ inl (separation a b p q (let n = t.some in omega arith) one)
  | inr first ↦ elim (edge_or_sees b a (way q p)) [
    | inl other ↦ inl (apart_both b a q p (separation b a q p (let n = s.some in omega arith) other))
    | inr second ↦ inr (shared_not_apart a b p q (shared a b p q s t first second))
  ]
]

equal_or_not : (m n : ℕ) → (m ≡ n) ⊎ (m ≡ n → ⊥)
equal_or_not m n = elim (cases_order m n) [
  | inl e ↦ inl e
  | inr differ ↦ inr (λ e. elim differ [ inl l ↦ absurd (omega arith) | inr l ↦ absurd (omega arith) ])
]

placements_clash_or_not : (one : Block) (p : Placement) (two : Block) (q : Placement) → IsShape one.shape → IsShape two.shape
    → PlacementsClash one p two q ⊎ (PlacementsClash one p two q → ⊥)
placements_clash_or_not one p two q s t = elim (equal_or_not p.plate q.plate) [
  | inr other ↦ inr (λ m. other m.plate)
  | inl plate ↦ elim (cases_lt q.end p.start) [
    | inl before ↦ inr (λ m. let l = m.first_starts in absurd (omega arith))
    | inr first ↦ elim (cases_lt p.end q.start) [
      | inl after ↦ inr (λ m. let l = m.second_starts in absurd (omega arith))
      | inr second ↦ elim (apart_or_not (turned p.turn one.shape) (turned q.turn two.shape) (place_of p) (place_of q)
          (shape-turned p.turn one.shape s) (shape-turned q.turn two.shape t)) [
            | inl apart ↦ inr (λ m. m.shapes apart)
            | inr together ↦ inl (record { plate = plate; first_starts = first; second_starts = second; shapes = together })
          ]
    ]
  ]
]

clash_by : (yard : PlainYard) (a x b y : ℕ) (one two : Option Block) (p q : Option Placement) → IsYard yard
    → slice_get yard.blocks a ≡ one → slice_get yard.blocks b ≡ two → slice_get (placements yard a) x ≡ p → slice_get (placements yard b) y ≡ q
    → Clash yard a x b y ⊎ (Clash yard a x b y → ⊥)
clash_by yard a x b y None two p q is e f g h = inr (λ c. none-some c.one (sym e ∙ c.one_is))
clash_by yard a x b y (Some one) None p q is e f g h = inr (λ c. none-some c.two (sym f ∙ c.two_is))
clash_by yard a x b y (Some one) (Some two) None q is e f g h = inr (λ c. none-some c.p (sym g ∙ c.p_is))
clash_by yard a x b y (Some one) (Some two) (Some p) None is e f g h = inr (λ c. none-some c.q (sym h ∙ c.q_is))
clash_by yard a x b y (Some one) (Some two) (Some p) (Some q) is e f g h =
    elim (placements_clash_or_not one p two q (block_limits yard a one is e).shape (block_limits yard b two is f).shape) [
      | inl clash ↦ inl (record { one = one; two = two; p = p; q = q; one_is = e; two_is = f; p_is = g; q_is = h; clash = clash })
      | inr free ↦ inr (λ c. free
          (subst (λ k. PlacementsClash k p two q) (same_Some _ _ (sym c.one_is ∙ e)) (subst (λ k. PlacementsClash c.one p k q) (same_Some _ _ (sym c.two_is ∙ f))
          (subst (λ k. PlacementsClash c.one k c.two q) (same_Some _ _ (sym c.p_is ∙ g)) (subst (λ k. PlacementsClash c.one c.p c.two k) (same_Some _ _ (sym c.q_is ∙ h)) c.clash)))))
    ]

meet_piece_or_not : (block : Block) (p : Placement) (f : Fixed) → IsShape block.shape → IsShape f.shape
    → MeetPiece block p f ⊎ (MeetPiece block p f → ⊥)
meet_piece_or_not block p f s t = elim (equal_or_not p.plate f.plate) [
  | inr other ↦ inr (λ m. other m.plate)
  | inl plate ↦ elim (cases_lt f.to p.start) [
    | inl before ↦ inr (λ m. let l = m.starts in absurd (omega arith))
    | inr first ↦ elim (cases_lt p.end f.from) [
      | inl after ↦ inr (λ m. let l = m.ends in absurd (omega arith))
      | inr second ↦ elim (apart_or_not (turned p.turn block.shape) f.shape (place_of p) (piece_at f) (shape-turned p.turn block.shape s) t) [
        | inl apart ↦ inr (λ m. m.shapes apart)
        | inr together ↦ inl (record { plate = plate; starts = first; ends = second; shapes = together })
      ]
    ]
  ]
]

meets_by : (yard : PlainYard) (b x i : ℕ) (block : Option Block) (p : Option Placement) (piece : Option Fixed) → IsYard yard
    → slice_get yard.blocks b ≡ block → slice_get (placements yard b) x ≡ p → slice_get yard.fixed i ≡ piece
    → MeetsPiece yard b x i ⊎ (MeetsPiece yard b x i → ⊥)
meets_by yard b x i None p piece is e f g = inr (λ m. none-some m.block (sym e ∙ m.block_is))
meets_by yard b x i (Some block) None piece is e f g = inr (λ m. none-some m.p (sym f ∙ m.p_is))
meets_by yard b x i (Some block) (Some p) None is e f g = inr (λ m. none-some m.piece (sym g ∙ m.piece_is))
meets_by yard b x i (Some block) (Some p) (Some piece) is e f g =
    elim (meet_piece_or_not block p piece (block_limits yard b block is e).shape (piece_in yard i piece is g).shape) [
      | inl meet ↦ inl (record { block = block; p = p; piece = piece; block_is = e; p_is = f; piece_is = g; meet = meet })
      | inr free ↦ inr (λ m. free
          (subst (λ k. MeetPiece k p piece) (same_Some _ _ (sym m.block_is ∙ e)) (subst (λ k. MeetPiece m.block k piece) (same_Some _ _ (sym m.p_is ∙ f))
          (subst (λ k. MeetPiece m.block m.p k) (same_Some _ _ (sym m.piece_is ∙ g)) m.meet))))
    ]

-- the placement of the code meets a piece
abbrev MeetsOne : PlainYard → ℕ → ℕ → Type 0
MeetsOne yard b x = (i : ℕ) × MeetsPiece yard b x i

some_below : (yard : PlainYard) (b x n : ℕ) → IsYard yard
    → MeetsOne yard b x ⊎ ((i : ℕ) → i < n → MeetsPiece yard b x i → ⊥)
some_below yard b x zero is = inr (λ i l. absurd (omega arith))
some_below yard b x (suc n) is = elim (some_below yard b x n is) [
  | inl some ↦ inl some
  | inr none ↦ elim (meets_by yard b x n _ _ _ is refl refl refl) [
    | inl here ↦ inl (n, here)
    | inr free ↦ inr (λ i l m. elim (cases_lt i n) [
      | inl below ↦ none i below m
      | inr last ↦ free (subst (λ i. MeetsPiece yard b x i) (let e : i ≡ n = omega arith in e) m)
    ])
  ]
]

told_meets : (yard : PlainYard) (b x : ℕ) → IsYard yard → MeetsOne yard b x ⊎ (MeetsOne yard b x → ⊥)
told_meets yard b x is = elim (some_below yard b x (length yard.fixed) is) [
  | inl some ↦ inl some
  | inr none ↦ inr (λ m. none m.0 (slice_get_within yard.fixed m.0 m.1.piece m.1.piece_is) m.1)
]

told_clash : (yard : PlainYard) (a x b y : ℕ) → IsYard yard → Clash yard a x b y ⊎ (Clash yard a x b y → ⊥)
told_clash yard a x b y is = clash_by yard a x b y (slice_get yard.blocks a) (slice_get yard.blocks b) (slice_get (placements yard a) x) (slice_get (placements yard b) y) is refl refl refl refl

-- the clashes of a yard, and its meetings with pieces, can be told
pub told : (yard : PlainYard) → IsYard yard → IsDecided (choices yard)
unfolding choices
told yard is = record {
  clash = λ a x b y. told_clash yard a x b y is;
  meets = λ b x. told_meets yard b x is;
}
