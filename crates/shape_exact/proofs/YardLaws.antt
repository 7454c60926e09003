-- A yard with one more plate, block or piece.
use Rattle.std.proofs.Common.{◌≡◌, ℕ, zero, suc, ◌<◌, ◌≤◌, ◌∙◌, Some, List, [], ◌∷◌, ◌++◌, length, map, false, Bool, get_or, refl, ap, arith, subst, sym, length-append}
use Rattle.std.specs.List.{list_any, AllPairs}
use Rattle.std.specs.Str.{bytes_eq}
use Rattle.std.proofs.lemmas.List.Quantifiers.{all_pairs_push}
use Rattle.std.specs.Prelude.{slice_get}
use Rattle.std.proofs.lemmas.Option.{same_Some, slice_get_within, get_or_from_slice_get}
use Rattle.std.proofs.lemmas.List.Elements.{All-contains, All-push, All-weaker}
use Rattle.common_lists.proofs.ListLaws.{get_more}
use Rattle.shape_exact.specs.declared.plate.Plate.{Plate}
use Rattle.shape_exact.specs.declared.block.Block.{Block}
use Rattle.shape_exact.specs.declared.fixed.Fixed.{Fixed}
use Rattle.shape_exact.specs.Shapes.{IsShape}
use Rattle.shape_exact.specs.Yards.{AreDistinct, has_name, PlainYard, IsYard, IsPlate, IsBlock, IsPiece, StandApart, CanAddPlate, CanAddBlock, CanAddFixed, LiesWithin}
use Rattle.std.specs.Prelude.{◌↔◌, IsTrue, All}

-- a test that no element passes
none_at : {A : Type 0} (p : A → Bool) (xs : List A) → list_any p xs ≡ false → (k : ℕ) (d : A) → k < length xs → p (get_or xs k d) ≡ false
none_at p [] e k d h = absurd (omega arith)
none_at p (x ∷ xs) e zero d h = grind arith
none_at p (x ∷ xs) e (suc k) d h = none_at p xs (grind arith) k d (omega arith)

-- names stay distinct with a new one
pub distinct_more : (names : List (List ℕ)) (name : List ℕ) → AreDistinct names → has_name names name ≡ false → AreDistinct (names ++ name ∷ [])
distinct_more names name a new =
    all_pairs_push (λ n m. bytes_eq n m ≡ false) names name a (none_at (λ n. bytes_eq n name) names new)

-- the same of the names of the parts of a list
pub distinct_names_more : {A : Type 0} (name : A → List ℕ) (xs : List A) (x : A) → AreDistinct (map name xs) → has_name (map name xs) (name x) ≡ false → AreDistinct (map name (xs ++ x ∷ []))
distinct_names_more {A} name xs x a new = subst AreDistinct (sym (map_more xs)) (distinct_more (map name xs) (name x) a new)
  where
    map_more : (ys : List A) → map name (ys ++ x ∷ []) ≡ map name ys ++ name x ∷ []
    map_more [] = refl
    map_more (y ∷ ys) = ap (λ ns. name y ∷ ns) (map_more ys)

-- a piece stands inside its plate with one plate more
piece_more : (n : ℕ) (plates : List Plate) (p : Plate) (f : Fixed) → IsPiece n plates f → IsPiece n (plates ++ p ∷ []) f
piece_more n plates p f h = record {
  plate = h.plate;
  plate_is = get_more plates p f.plate h.plate h.plate_is;
  shape = h.shape;
  within = h.within;
}

-- a yard with one more plate
pub yard_with_plate : (y : PlainYard) (p : Plate) → IsYard y → CanAddPlate y p
    → IsYard (record { days = y.days; plates = y.plates ++ p ∷ []; blocks = y.blocks; fixed = y.fixed })
yard_with_plate y p h can = record {
  days = h.days;
  few_plates = let room = can.room in simp length-append (omega arith);
  few_blocks = h.few_blocks;
  plates = All-push (IsPlate y.days) y.plates p h.plates can.limits;
  blocks = h.blocks;
  plate_names = distinct_names_more (λ q. q.name) y.plates p h.plate_names can.new;
  block_names = h.block_names;
  few_fixed = h.few_fixed;
  fixed = All-weaker (IsPiece y.days y.plates) (IsPiece y.days (y.plates ++ p ∷ [])) (λ f i. piece_more y.days y.plates p f i) y.fixed h.fixed;
  fixed_apart = h.fixed_apart;
}

-- a yard with one more block
pub yard_with_block : (y : PlainYard) (b : Block) → IsYard y → CanAddBlock y b
    → IsYard (record { days = y.days; plates = y.plates; blocks = y.blocks ++ b ∷ []; fixed = y.fixed })
yard_with_block y b h can = record {
  days = h.days;
  few_plates = h.few_plates;
  few_blocks = let room = can.room in simp length-append (omega arith);
  plates = h.plates;
  blocks = All-push IsBlock y.blocks b h.blocks can.limits;
  plate_names = h.plate_names;
  block_names = distinct_names_more (λ c. c.name) y.blocks b h.block_names can.new;
  few_fixed = h.few_fixed;
  fixed = h.fixed;
  fixed_apart = h.fixed_apart;
}

-- a yard with one more piece
pub yard_with_fixed : (y : PlainYard) (f : Fixed) → IsYard y → CanAddFixed y f
    → IsYard (record { days = y.days; plates = y.plates; blocks = y.blocks; fixed = y.fixed ++ f ∷ [] })
yard_with_fixed y f h can = record {
  days = h.days;
  few_plates = h.few_plates;
  few_blocks = h.few_blocks;
  plates = h.plates;
  blocks = h.blocks;
  plate_names = h.plate_names;
  block_names = h.block_names;
  few_fixed = let room = can.room in simp length-append (omega arith);
  fixed = All-push (IsPiece y.days y.plates) y.fixed f h.fixed can.limits;
  fixed_apart = all_pairs_push StandApart y.fixed f h.fixed_apart can.apart;
}

-- what holds of each pair of a list holds of two of its elements
pub all_pairs_get : (fs : List Fixed) (i j : ℕ) (f g : Fixed) → AllPairs StandApart fs → i < j
    → slice_get fs i ≡ Some f → slice_get fs j ≡ Some g → StandApart f g
all_pairs_get fs i j f g h less at there =
    subst (λ a. StandApart a g) (get_or_from_slice_get fs i f f at)
    (subst (λ b. StandApart (get_or fs i f) b) (get_or_from_slice_get fs j g f there) (h i j f less (slice_get_within fs j g there)))

-- a piece stands in a yard where it lies within its plate
pub piece_within : (n : ℕ) (plates : List Plate) (f : Fixed) (plate : Plate) (t : Bool) → slice_get plates f.plate ≡ Some plate → IsShape f.shape
    → (IsTrue t ↔ LiesWithin n plate f) → IsTrue t ↔ IsPiece n plates f
piece_within n plates f plate t is shape told = (
  λ h. record { plate = plate; plate_is = is; shape = shape; within = told.0 h },
  λ p. told.1 (subst (λ q. LiesWithin n q f) (same_Some _ _ (sym p.plate_is ∙ is)) p.within),
)

-- a piece of a yard has coordinates of at most 400
pub piece_near : (n : ℕ) (plates : List Plate) (f : Fixed) → All (IsPlate n) plates → IsPiece n plates f → (f.x ≤ 400) × (f.y ≤ 400)
piece_near n plates f limits p =
    let plate : IsPlate n p.plate = All-contains (IsPlate n) plates p.plate limits
    (f.plate, slice_get_within plates f.plate p.plate p.plate_is, get_or_from_slice_get plates f.plate p.plate p.plate p.plate_is) in
    let w = plate.width in let h = plate.height in let a = p.within.wide in let b = p.within.high in
    (omega arith, omega arith)
