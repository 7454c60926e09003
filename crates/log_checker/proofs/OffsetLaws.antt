-- Footprints that are apart stay so when both are shifted alike, so that their offset tells it.
use Rattle.std.proofs.Common.{◌≡◌, ℕ, ◌<◌, ◌≤◌, List, Bool, Some, sym, ap, ◌∙◌, subst, arith}
use Rattle.std.specs.Prelude.{length, slice_get, unsigned_abs, IsTrue, not, ◌↔◌}
use Rattle.std.proofs.lemmas.Option.{same_Some}
use Rattle.std.proofs.lemmas.Int.{ints}
use Rattle.common_lists.proofs.ListLaws.{element_at}
use Rattle.shape_exact.specs.Yards.{PlainYard}
use Rattle.shape_exact.specs.Shapes.{AreApart, Spot, is_inside, origin, turned}
use Rattle.shape_exact.specs.Cells.{moved_spot}
use Rattle.shape_exact.specs.Separation.{moved, way}
use Rattle.shape_exact.specs.declared.block.Block.{Block}
use Rattle.shape_exact.specs.declared.point.Point.{Point}
use Rattle.shape_exact.proofs.ApartLaws.{inside-moved}
use Rattle.shape_exact.proofs.RingLaws.{linear}
use Rattle.code_table.specs.declared.placement.Placement.{Placement}
use Rattle.plan_rule.specs.Clashes.{MayClash, place_of}
use Rattle.log_checker.specs.declared.exact.Exact.{Exact}
use Rattle.log_checker.specs.declared.offset.Offset.{Offset}
use Rattle.log_checker.specs.ExactBlocks.{ClashesAt, IsStanding}
use Rattle.log_checker.specs.Offsets.{AreSoApart, IsOffset, offset_of}
use Rattle.log_checker.proofs.ExactLaws.{met_by_places}
use lib.IntN.{ℤ, pos, ◌+ℤ◌, ◌-ℤ◌}

same_point : (x y u v : ℤ) → x ≡ u → y ≡ v → (let p : Point = record { x = x; y = y } in p) ≡ record { x = u; y = v }
same_point x y u v e f = ap (λ x. let p : Point = record { x = x; y = y } in p) e ∙ ap (λ y. let p : Point = record { x = u; y = y } in p) f

taken_back : (a : ℤ) → a +ℤ (pos 0 -ℤ a) ≡ pos 0
taken_back a = omega (arith, linear)

taken_from : (a b : ℤ) → b +ℤ (pos 0 -ℤ a) ≡ b -ℤ a
taken_from a b = omega (arith, linear)

given_back : (a : ℤ) → pos 0 +ℤ a ≡ a
given_back a = omega (arith, linear)

given_on : (a b : ℤ) → (b -ℤ a) +ℤ a ≡ b
given_on a b = omega (arith, linear)

-- a spot is inside a shape at a place exactly where the shifted spot is inside it at the shifted place
inside_there : (vs : List Point) (at by to : Point) (s : Spot) → moved by at ≡ to → IsTrue (is_inside vs at s) → IsTrue (is_inside vs to (moved_spot by s))
inside_there vs at by to s e h =
    subst (λ t. IsTrue (is_inside vs t (moved_spot by s))) e (subst IsTrue (sym (inside-moved vs at by s)) h)

-- apart where the first stands at the origin is apart everywhere
pub apart_there : (a b : List Point) (p q : Point) → AreApart a origin b (way p q) → AreApart a p b q
apart_there a b p q h s n first second =
    let back : Point = way p origin in
    h (moved_spot back s) n
    (inside_there a p back origin s (same_point _ _ _ _ (taken_back p.x) (taken_back p.y)) first)
    (inside_there b q back (way p q) s (same_point _ _ _ _ (taken_from p.x q.x) (taken_from p.y q.y)) second)

-- and the other way round
pub apart_here : (a b : List Point) (p q : Point) → AreApart a p b q → AreApart a origin b (way p q)
apart_here a b p q h s n first second =
    h (moved_spot p s) n
    (inside_there a origin p p s (same_point _ _ _ _ (given_back p.x) (given_back p.y)) first)
    (inside_there b (way p q) p q s (same_point _ _ _ _ (given_on p.x q.x) (given_on p.y q.y)) second)

-- placements that may clash, by their offset
pub met_so : (yard : PlainYard) (f : Exact) (b : ℕ) (p : Placement) (apart : Bool) → f.block < length yard.blocks → b < length yard.blocks
    → MayClash f.place p → (IsTrue apart ↔ AreSoApart yard (offset_of f b p)) → IsTrue (not apart) ↔ ClashesAt yard f b p
met_so yard f b p apart first second may told =
    let (one, one_is) = element_at yard.blocks f.block first in
    let (two, two_is) = element_at yard.blocks b second in
    met_by_places yard f b p (turned f.place.turn one.shape) (turned p.turn two.shape) apart
    (record {
      first_block = first;
      second_block = second;
      first_is = λ other is. ap (λ (o : Block). turned f.place.turn o.shape) (same_Some one other (sym one_is ∙ is));
      second_is = λ other is. ap (λ (o : Block). turned p.turn o.shape) (same_Some two other (sym two_is ∙ is));
    })
    may (
      λ t. let so = told.0 t in
          apart_there (turned f.place.turn one.shape) (turned p.turn two.shape) (place_of f.place) (place_of p)
          (subst (λ (o : Block). AreApart (turned f.place.turn o.shape) origin (turned p.turn two.shape) (way (place_of f.place) (place_of p)))
          (same_Some so.one one (sym so.one_is ∙ one_is))
          (subst (λ (o : Block). AreApart (turned f.place.turn so.one.shape) origin (turned p.turn o.shape) (way (place_of f.place) (place_of p)))
          (same_Some so.two two (sym so.two_is ∙ two_is)) so.shapes)),
      λ are. told.1 (record {
        one = one;
        two = two;
        one_is = one_is;
        two_is = two_is;
        shapes = apart_here (turned f.place.turn one.shape) (turned p.turn two.shape) (place_of f.place) (place_of p) are;
      }),
    )

short : (a b : ℕ) → a ≤ 400 → b ≤ 400 → unsigned_abs (pos b -ℤ pos a) ≤ 10000
short a b l m = first_of (omega (arith, linear), grind (arith, linear), grind (arith, ints), search (arith, ints))

-- the offset of placements on plates
pub offset_within : (yard : PlainYard) (f : Exact) (b : ℕ) (p : Placement) (o : Offset) → IsStanding yard f → b < length yard.blocks → p.turn < 4
    → p.x ≤ 400 → p.y ≤ 400 → o ≡ offset_of f b p → IsOffset yard o
offset_within yard f b p o is exists turn x y e = subst (IsOffset yard) (sym e) (record {
  first = is.block;
  second = exists;
  first_turn = is.turn;
  second_turn = turn;
  way = (short f.place.x p.x is.x x, short f.place.y p.y is.y y);
})

-- two turned footprints that were asked
pub so_apart : (yard : PlainYard) (o : Offset) (first second : List Point) (apart : Bool) → IsOffset yard o
    → ((b : Block) → slice_get yard.blocks o.first ≡ Some b → first ≡ turned o.first_turn b.shape)
    → ((b : Block) → slice_get yard.blocks o.second ≡ Some b → second ≡ turned o.second_turn b.shape)
    → (IsTrue apart ↔ AreApart first origin second o.way) → IsTrue apart ↔ AreSoApart yard o
so_apart yard o first second apart is first_is second_is told =
    let (one, one_is) = element_at yard.blocks o.first is.first in
    let (two, two_is) = element_at yard.blocks o.second is.second in (
      λ t. record {
        one = one;
        two = two;
        one_is = one_is;
        two_is = two_is;
        shapes = subst (λ g. AreApart g origin (turned o.second_turn two.shape) o.way) (first_is one one_is)
            (subst (λ g. AreApart first origin g o.way) (second_is two two_is) (told.0 t));
      },
      λ so. told.1 (subst (λ g. AreApart g origin second o.way) (sym (first_is so.one so.one_is))
          (subst (λ g. AreApart (turned o.first_turn so.one.shape) origin g o.way) (sym (second_is so.two so.two_is)) so.shapes)),
    )
