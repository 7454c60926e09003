-- Which blocks that stand clash with which placements, and which pieces these meet.
use Rattle.std.proofs.Common.{◌≡◌, ℕ, ◌+◌, ◌-◌, ◌*◌, ◌/◌, ◌%◌, ◌<◌, ◌≤◌, List, [], length, get_or, Bool, true, false, Some, refl, sym, ap, ◌∙◌, subst, inl, inr, arith}
use Rattle.std.specs.Prelude.{slice_get, IsTrue, not, ◌↔◌, All, Contains, nat_lt}
use Rattle.std.specs.Option.{option_map_or}
use Rattle.std.proofs.lemmas.Bool.{cond-true, cond-false, false≢true, le-ltb, lt-ltb}
use Rattle.std.proofs.lemmas.List.{length-map, get_or-map}
use Rattle.std.proofs.lemmas.List.Elements.{All-contains, All-map, Contains-get_or}
use Rattle.std.proofs.lemmas.Nat.{div-mul-add, div_below, mod-mul-add}
use Rattle.std.proofs.lemmas.Option.{same_Some, slice_get-get_or, slice_get_within}
use Rattle.common_lists.proofs.ListLaws.{element_at}
use Rattle.shape_exact.specs.Yards.{PlainYard, piece_at}
use Rattle.shape_exact.specs.Shapes.{AreApart, turned}
use Rattle.shape_exact.specs.declared.block.Block.{Block}
use Rattle.shape_exact.specs.declared.fixed.Fixed.{Fixed}
use Rattle.shape_exact.specs.declared.point.Point.{Point}
use Rattle.minkowski_obstacles.specs.Pairs.{Pair}
use Rattle.lattice_free.specs.Clear.{AreClear, IsClear as IsClearOf}
use Rattle.code_table.specs.declared.placement.Placement.{Placement}
use Rattle.plan_rule.specs.Clashes.{MayClash, MayMeetPiece, place_of}
use Rattle.tardiness_bounds.specs.declared.near.Neighbour.{Neighbour}
use Rattle.tardiness_bounds.specs.declared.standing.Standing.{Standing}
use Rattle.tardiness_bounds.specs.Footprints.{footprint_at, footprint_count, pair_at, piece_shape, shape_of, turned_count}
use Rattle.tardiness_bounds.specs.Neighbours.{AreNear, IsClearOfNear, obstacle_of, obstacles_of, of_piece, of_standing, spot_of}
use Rattle.tardiness_bounds.specs.Standings.{ClashesAt, IsClear, IsStanding, MeetsAt}

-- the turned footprints of a block that stands and of another at a placement
pub record AreTurned (yard : PlainYard) (f : Standing) (b : ℕ) (p : Placement) (first second : List Point) : Type 0 where
  pub first_block : f.block < length yard.blocks
  pub second_block : b < length yard.blocks
  pub first_is : (one : Block) → slice_get yard.blocks f.block ≡ Some one → first ≡ turned f.place.turn one.shape
  pub second_is : (two : Block) → slice_get yard.blocks b ≡ Some two → second ≡ turned p.turn two.shape

-- placements that may clash, by their footprints
clash_by_places : (yard : PlainYard) (f : Standing) (b : ℕ) (p : Placement) (first second : List Point) (apart : Bool)
    → AreTurned yard f b p first second → MayClash f.place p → (IsTrue apart ↔ AreApart first (place_of f.place) second (place_of p))
    → IsTrue (not apart) ↔ ClashesAt yard f b p
clash_by_places yard f b p first second true s may told = (
  λ t. absurd (false≢true t),
  λ m. let clash = m.clash in
      absurd (clash.shapes (subst (λ g. AreApart g (place_of f.place) (turned p.turn m.two.shape) (place_of p)) (s.first_is m.one m.one_is)
      (subst (λ g. AreApart first (place_of f.place) g (place_of p)) (s.second_is m.two m.two_is) (told.0 refl)))),
)
clash_by_places yard f b p first second false s may told =
    let (one, one_is) = element_at yard.blocks f.block s.first_block in
    let (two, two_is) = element_at yard.blocks b s.second_block in (
      λ t. record {
        one = one;
        two = two;
        one_is = one_is;
        two_is = two_is;
        clash = record {
          plate = may.0;
          first_starts = may.1;
          second_starts = may.2;
          shapes = λ apart. false≢true (told.1
              (subst (λ g. AreApart g (place_of f.place) second (place_of p)) (sym (s.first_is one one_is))
              (subst (λ g. AreApart (turned f.place.turn one.shape) (place_of f.place) g (place_of p)) (sym (s.second_is two two_is)) apart)));
        };
      },
      λ m. refl,
    )

-- the shape of a block that is there
pub shape_is : (yard : PlainYard) (b : ℕ) (block : Block) → slice_get yard.blocks b ≡ Some block → shape_of yard b ≡ block.shape
shape_is yard b block at = ap (λ o. option_map_or (λ (block : Block). block.shape) o []) at

-- a placement whose footprint is apart from that of a block that stands does not clash with it
clear_not_clash : (yard : PlainYard) (f : Standing) (b turn : ℕ) (p : Placement) → p.turn ≡ turn
    → AreApart (turned f.place.turn (shape_of yard f.block)) (place_of f.place) (turned turn (shape_of yard b)) (place_of p)
    → ClashesAt yard f b p → ⊥
clear_not_clash yard f b turn p t apart m =
    m.clash.shapes
    (subst (λ g. AreApart (turned f.place.turn g) (place_of f.place) (turned p.turn m.two.shape) (place_of p)) (shape_is yard f.block m.one m.one_is)
    (subst (λ g. AreApart (turned f.place.turn (shape_of yard f.block)) (place_of f.place) (turned p.turn g) (place_of p)) (shape_is yard b m.two m.two_is)
    (subst (λ q. AreApart (turned f.place.turn (shape_of yard f.block)) (place_of f.place) (turned q (shape_of yard b)) (place_of p)) (sym t) apart)))

-- the footprint of a block with which a placement may clash, and does not, is apart from the placement's
not_clash_clear : (yard : PlainYard) (f : Standing) (b turn : ℕ) (p : Placement) → IsStanding yard f → b < length yard.blocks → p.turn ≡ turn → MayClash f.place p
    → (ClashesAt yard f b p → ⊥) → AreApart (turned f.place.turn (shape_of yard f.block)) (place_of f.place) (turned turn (shape_of yard b)) (place_of p)
not_clash_clear yard f b turn p s l t may free =
    let (one, one_is) = element_at yard.blocks f.block s.block in
    let (two, two_is) = element_at yard.blocks b l in
    subst (λ g. AreApart (turned f.place.turn g) (place_of f.place) (turned turn (shape_of yard b)) (place_of p)) (sym (shape_is yard f.block one one_is))
    (subst (λ g. AreApart (turned f.place.turn one.shape) (place_of f.place) (turned turn g) (place_of p)) (sym (shape_is yard b two two_is))
    (subst (λ q. AreApart (turned f.place.turn one.shape) (place_of f.place) (turned q two.shape) (place_of p)) t
    (λ spot n i j. free (record {
      one = one;
      two = two;
      one_is = one_is;
      two_is = two_is;
      clash = record { plate = may.0; first_starts = may.1; second_starts = may.2; shapes = λ apart. apart spot n i j };
    }))))

-- a turned footprint of a block, by its number
pub turned_is : (yard : PlainYard) (b q : ℕ) → b < length yard.blocks → q < 4 → footprint_at yard (b * 4 + q) ≡ turned q (shape_of yard b)
turned_is yard b q lb lq =
    cond-true (nat_lt (b * 4 + q) (turned_count yard)) (turned ((b * 4 + q) % 4) (shape_of yard ((b * 4 + q) / 4)))
    (piece_shape yard (b * 4 + q - turned_count yard)) (lt-ltb (b * 4 + q) (turned_count yard) (omega arith))
    ∙ ap (λ r. turned r (shape_of yard ((b * 4 + q) / 4))) (mod-mul-add b 4 q lq)
    ∙ ap (λ d. turned q (shape_of yard d)) (div-mul-add b 4 q lq)

-- placements that may clash, by the numbers of their footprints
pub clash_by_footprints : (yard : PlainYard) (f : Standing) (b : ℕ) (p : Placement) (apart : Bool) → IsStanding yard f → b < length yard.blocks → p.turn < 4
    → MayClash f.place p → (IsTrue apart ↔ IsClearOf (place_of p) (pair_at yard (of_standing f).footprint (b * 4 + p.turn)) (spot_of (of_standing f)))
    → IsTrue (not apart) ↔ ClashesAt yard f b p
clash_by_footprints yard f b p apart stand l t may told =
    clash_by_places yard f b p (footprint_at yard (f.block * 4 + f.place.turn)) (footprint_at yard (b * 4 + p.turn)) apart
    (record {
      first_block = stand.block;
      second_block = l;
      first_is = λ one at. turned_is yard f.block f.place.turn stand.block stand.turn ∙ ap (turned f.place.turn) (shape_is yard f.block one at);
      second_is = λ two at. turned_is yard b p.turn l t ∙ ap (turned p.turn) (shape_is yard b two at);
    })
    may told

-- the footprint of a piece, by its number
pub piece_is : (yard : PlainYard) (i : ℕ) (piece : Fixed) → slice_get yard.fixed i ≡ Some piece → footprint_at yard (turned_count yard + i) ≡ piece.shape
piece_is yard i piece at =
    cond-false (nat_lt (turned_count yard + i) (turned_count yard))
    (turned ((turned_count yard + i) % 4) (shape_of yard ((turned_count yard + i) / 4)))
    (piece_shape yard (turned_count yard + i - turned_count yard)) (le-ltb (turned_count yard + i) (turned_count yard) (omega arith))
    ∙ ap (piece_shape yard) (let e : turned_count yard + i - turned_count yard ≡ i = omega arith in e)
    ∙ ap (λ o. option_map_or (λ (piece : Fixed). piece.shape) o []) at

-- a placement that is clear of the obstacle of a block that stands does not clash with it
block_clear : (yard : PlainYard) (f : Standing) (b : ℕ) (p : Placement) → IsStanding yard f → b < length yard.blocks → p.turn < 4
    → IsClearOf (place_of p) (pair_at yard (f.block * 4 + f.place.turn) (b * 4 + p.turn)) (place_of f.place) → ClashesAt yard f b p → ⊥
block_clear yard f b p s l t clear =
    clear_not_clash yard f b p.turn p refl
    (subst (λ g. AreApart g (place_of f.place) (turned p.turn (shape_of yard b)) (place_of p)) (turned_is yard f.block f.place.turn s.block s.turn)
    (subst (λ g. AreApart (footprint_at yard (f.block * 4 + f.place.turn)) (place_of f.place) g (place_of p)) (turned_is yard b p.turn l t) clear))

block_apart : (yard : PlainYard) (f : Standing) (b : ℕ) (p : Placement) → IsStanding yard f → b < length yard.blocks → p.turn < 4 → MayClash f.place p
    → (ClashesAt yard f b p → ⊥) → IsClearOf (place_of p) (pair_at yard (f.block * 4 + f.place.turn) (b * 4 + p.turn)) (place_of f.place)
block_apart yard f b p s l t may free =
    subst (λ g. AreApart (footprint_at yard (f.block * 4 + f.place.turn)) (place_of f.place) g (place_of p)) (sym (turned_is yard b p.turn l t))
    (subst (λ g. AreApart g (place_of f.place) (turned p.turn (shape_of yard b)) (place_of p)) (sym (turned_is yard f.block f.place.turn s.block s.turn))
    (not_clash_clear yard f b p.turn p s l refl may free))

-- the same of a piece
piece_clear : (yard : PlainYard) (i : ℕ) (piece : Fixed) (b : ℕ) (p : Placement) → slice_get yard.fixed i ≡ Some piece → b < length yard.blocks → p.turn < 4
    → IsClearOf (place_of p) (pair_at yard (turned_count yard + i) (b * 4 + p.turn)) (piece_at piece) → MeetsAt yard b p i → ⊥
piece_clear yard i piece b p at l t clear m =
    let same : piece ≡ m.piece = same_Some piece m.piece (sym at ∙ m.piece_is) in
    let apart : AreApart piece.shape (piece_at piece) (turned p.turn (shape_of yard b)) (place_of p) =
    subst (λ g. AreApart g (piece_at piece) (turned p.turn (shape_of yard b)) (place_of p)) (piece_is yard i piece at)
    (subst (λ g. AreApart (footprint_at yard (turned_count yard + i)) (piece_at piece) g (place_of p)) (turned_is yard b p.turn l t) clear) in
    let here : AreApart m.piece.shape (piece_at m.piece) (turned p.turn m.block.shape) (place_of p) =
    subst (λ (f : Fixed). AreApart f.shape (piece_at f) (turned p.turn m.block.shape) (place_of p)) same
    (subst (λ g. AreApart piece.shape (piece_at piece) (turned p.turn g) (place_of p)) (shape_is yard b m.block m.block_is) apart) in
    m.meet.shapes (λ spot n i j. here spot n j i)

piece_apart : (yard : PlainYard) (i : ℕ) (piece : Fixed) (b : ℕ) (p : Placement) → slice_get yard.fixed i ≡ Some piece → b < length yard.blocks → p.turn < 4
    → MayMeetPiece p piece → (MeetsAt yard b p i → ⊥) → IsClearOf (place_of p) (pair_at yard (turned_count yard + i) (b * 4 + p.turn)) (piece_at piece)
piece_apart yard i piece b p at l t may free =
    let (block, block_is) = element_at yard.blocks b l in
    let apart : AreApart piece.shape (piece_at piece) (turned p.turn block.shape) (place_of p) =
    λ spot n k j. free (record {
      block = block;
      piece = piece;
      block_is = block_is;
      piece_is = at;
      meet = record { plate = may.0; starts = may.1; ends = may.2; shapes = λ apart. apart spot n j k };
    }) in
    subst (λ g. AreApart (footprint_at yard (turned_count yard + i)) (piece_at piece) g (place_of p)) (sym (turned_is yard b p.turn l t))
    (subst (λ g. AreApart g (piece_at piece) (turned p.turn (shape_of yard b)) (place_of p)) (sym (piece_is yard i piece at))
    (subst (λ g. AreApart piece.shape (piece_at piece) (turned p.turn g) (place_of p)) (sym (shape_is yard b block block_is)) apart))

-- what meets a piece may meet it
pub meets_may : (yard : PlainYard) (i : ℕ) (piece : Fixed) (b : ℕ) (p : Placement) → slice_get yard.fixed i ≡ Some piece → MeetsAt yard b p i → MayMeetPiece p piece
meets_may yard i piece b p at m =
    subst (MayMeetPiece p) (same_Some m.piece piece (sym m.piece_is ∙ at)) (m.meet.plate, m.meet.starts, m.meet.ends)

-- a placement that may meet a piece, by the numbers of their footprints
pub meet_by_footprints : (yard : PlainYard) (i : ℕ) (piece : Fixed) (b : ℕ) (p : Placement) (apart : Bool) → slice_get yard.fixed i ≡ Some piece
    → b < length yard.blocks → p.turn < 4 → MayMeetPiece p piece
    → (IsTrue apart ↔ IsClearOf (place_of p) (pair_at yard (of_piece yard i piece).footprint (b * 4 + p.turn)) (spot_of (of_piece yard i piece)))
    → IsTrue (not apart) ↔ MeetsAt yard b p i
meet_by_footprints yard i piece b p true at l t may told = (
  λ no. absurd (false≢true no),
  λ m. absurd (piece_clear yard i piece b p at l t (told.0 refl) m),
)
meet_by_footprints yard i piece b p false at l t may told =
    let (block, block_is) = element_at yard.blocks b l in (
      λ yes. record {
        block = block;
        piece = piece;
        block_is = block_is;
        piece_is = at;
        meet = record {
          plate = may.0;
          starts = may.1;
          ends = may.2;
          shapes = λ apart. false≢true (told.1 (piece_apart yard i piece b p at l t may (λ m. m.meet.shapes
              (subst (λ (f : Fixed). AreApart (turned p.turn m.block.shape) (place_of p) f.shape (piece_at f)) (same_Some piece m.piece (sym at ∙ m.piece_is))
              (subst (λ (one : Block). AreApart (turned p.turn one.shape) (place_of p) piece.shape (piece_at piece)) (same_Some block m.block (sym block_is ∙ m.block_is)) apart)))));
        };
      },
      λ m. refl,
    )

-- what is clear of all that stand near is clear of each
pub clear_at : (yard : PlainYard) (near : List Neighbour) (moving : ℕ) (at : Point) (n : Neighbour) → AreClear (obstacles_of yard moving near) at → Contains near n
    → IsClearOf at (pair_at yard n.footprint moving) (spot_of n)
clear_at yard near moving at n clear (k, within, is) =
    let here = clear k (obstacle_of yard moving n) (let e = length-map near (obstacle_of yard moving) in omega arith) in
    let e = get_or-map (obstacle_of yard moving) near k n (obstacle_of yard moving n) within ∙ ap (obstacle_of yard moving) is in
    subst (λ (o : Pair × Point). IsClearOf at o.0 o.1) e here

-- two placements are on one plate from the same day to the same day
abbrev pub HaveOneSpan : Placement → Placement → Type 0
HaveOneSpan p q = (p.plate ≡ q.plate) × (p.start ≡ q.start) × (p.end ≡ q.end)

-- a placement is clear of all where it is clear of what stands near one of its span
pub near_clear : (yard : PlainYard) (list : List Standing) (near : List Neighbour) (b : ℕ) (p q : Placement)
    → AreNear yard p list (length yard.fixed) near → All (IsStanding yard) list → b < length yard.blocks → q.turn < 4 → HaveOneSpan p q
    → IsClearOfNear yard near b q → IsClear yard list b q
near_clear yard list near b p q h stand l t (plate, start, end) clear = record {
  apart = λ k d w m.
      let may : MayClash (get_or list k d).place p = (
        m.clash.plate ∙ sym plate,
        (let a = m.clash.first_starts in omega arith),
        (let a = m.clash.second_starts in omega arith),
      ) in
      let inside = (h (of_standing (get_or list k d))).1 (inl (get_or list k d, Contains-get_or list k d w, may, refl)) in
      block_clear yard (get_or list k d) b q (stand k d w) l t
      (clear_at yard near (b * 4 + q.turn) (place_of q) (of_standing (get_or list k d)) clear inside) m;
  unmet = λ i m.
      let may : MayMeetPiece p m.piece = (
        plate ∙ m.meet.plate,
        (let a = m.meet.starts in omega arith),
        (let a = m.meet.ends in omega arith),
      ) in
      let inside = (h (of_piece yard i m.piece)).1 (inr (i, m.piece, slice_get_within yard.fixed i m.piece m.piece_is, m.piece_is, may, refl)) in
      piece_clear yard i m.piece b q m.piece_is l t
      (clear_at yard near (b * 4 + q.turn) (place_of q) (of_piece yard i m.piece) clear inside) m;
}

-- and the other way round
pub clear_near : (yard : PlainYard) (list : List Standing) (near : List Neighbour) (b : ℕ) (p q : Placement)
    → AreNear yard p list (length yard.fixed) near → All (IsStanding yard) list → b < length yard.blocks → q.turn < 4 → HaveOneSpan p q
    → IsClear yard list b q → IsClearOfNear yard near b q
clear_near yard list near b p q h stand l t (plate, start, end) clear =
    All-map (λ (o : Pair × Point). IsClearOf (place_of q) o.0 o.1) (obstacle_of yard (b * 4 + q.turn)) near
    (λ k d w. elim ((h (get_or near k d)).0 (Contains-get_or near k d w)) [
      | inl block ↦
          let (f, has, may, e) = block in
          subst (λ (n : Neighbour). IsClearOf (place_of q) (pair_at yard n.footprint (b * 4 + q.turn)) (spot_of n)) (sym e)
          (block_apart yard f b q (All-contains (IsStanding yard) list f stand has) l t (may.0 ∙ plate, omega arith, omega arith)
          (All-contains (λ f. ClashesAt yard f b q → ⊥) list f clear.apart has))
      | inr piece ↦
          let (i, g, below, is, may, e) = piece in
          subst (λ (n : Neighbour). IsClearOf (place_of q) (pair_at yard n.footprint (b * 4 + q.turn)) (spot_of n)) (sym e)
          (piece_apart yard i g b q is l t (sym plate ∙ may.0, omega arith, omega arith) (clear.unmet i))
    ])

-- a turned footprint of a block that was read, by its number
pub footprint_turned : (yard : PlainYard) (k : ℕ) (shape : List Point) → k < turned_count yard
    → ((block : Block) → slice_get yard.blocks (k / 4) ≡ Some block → shape ≡ turned (k % 4) block.shape) → shape ≡ footprint_at yard k
footprint_turned yard k shape l told =
    let (block, at) = element_at yard.blocks (k / 4) (div_below k 4 (length yard.blocks) (omega arith) l) in
    told block at ∙ ap (turned (k % 4)) (sym (shape_is yard (k / 4) block at))
    ∙ sym (cond-true (nat_lt k (turned_count yard)) (turned (k % 4) (shape_of yard (k / 4))) (piece_shape yard (k - turned_count yard)) (lt-ltb k (turned_count yard) l))

-- the footprint of a piece that was read, by its number
pub footprint_piece : (yard here : PlainYard) (blocks : List Block) (items : List Fixed) (k : ℕ) (d : Fixed) → here ≡ yard → blocks ≡ here.blocks
    → items ≡ here.fixed → length blocks * 4 ≤ k → k < footprint_count yard
    → (get_or items (k - length blocks * 4) d).shape ≡ footprint_at yard k
footprint_piece yard here blocks items k d e b f past within =
    let n : length blocks ≡ length yard.blocks = ap length (b ∙ ap (λ (y : PlainYard). y.blocks) e) in
    let same : items ≡ yard.fixed = f ∙ ap (λ (y : PlainYard). y.fixed) e in
    let long = ap length same in
    let read : slice_get yard.fixed (k - turned_count yard) ≡ Some (get_or items (k - length blocks * 4) d) =
    subst (λ (fs : List Fixed). slice_get fs (k - turned_count yard) ≡ Some (get_or items (k - length blocks * 4) d)) same
    (subst (λ n. slice_get items (k - n * 4) ≡ Some (get_or items (k - length blocks * 4) d)) n
    (slice_get-get_or items (k - length blocks * 4) d (omega arith))) in
    sym (ap (λ o. option_map_or (λ (piece : Fixed). piece.shape) o []) read)
    ∙ sym (cond-false (nat_lt k (turned_count yard)) (turned (k % 4) (shape_of yard (k / 4))) (piece_shape yard (k - turned_count yard))
    (le-ltb k (turned_count yard) (omega arith)))
