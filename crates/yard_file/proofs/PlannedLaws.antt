-- A yard that the rules of a file allow can be planned: it has a plate and a block, and no block has too many placements.
use Rattle.std.proofs.Common.{◌≡◌, ℕ, zero, ◌+◌, ◌<◌, ◌≤◌, Bool, true, false, List, [], ◌∷◌, ◌++◌, length, Option, Some, None, Result, Ok, Err, refl, sym, ap, subst, ◌∙◌, arith, length-append}
use Rattle.std.specs.Prelude.{nat_lt, if◌then◌else◌, IfOk}
use Rattle.std.proofs.lemmas.Bool.{ltb-false}
use Rattle.toml.specs.Data.{Items, no_items, item, Members}
use Rattle.shape_exact.specs.Yards.{PlainYard, plate_names, block_names}
use Rattle.shape_exact.specs.declared.plate.Plate.{Plate}
use Rattle.shape_exact.specs.declared.block.Block.{Block}
use Rattle.shape_exact.specs.declared.fixed.Fixed.{Fixed}
use Rattle.common_lists.specs.Firsts.{where_so}
use Rattle.common_lists.proofs.FirstLaws.{none_at}
use Rattle.code_table.specs.Placements.{placements}
use Rattle.code_table.specs.Sizes.{CanBePlanned, most_placements}
use Rattle.yard_file.specs.Values.{◌>>=◌, value_in, number_in}
use Rattle.yard_file.specs.Keys.{known_keys, top_keys}
use Rattle.yard_file.specs.Arrays.{count, told, tables_of, few_plates, few_blocks, plate_tables, block_tables, piece_tables}
use Rattle.yard_file.specs.Plates.{plate_of, plates_from}
use Rattle.yard_file.specs.Blocks.{block_of, blocks_from}
use Rattle.yard_file.specs.Pieces.{pieces_from}
use Rattle.yard_file.specs.Sizes.{too_many, first_too_many}
use Rattle.yard_file.specs.Reads.{version_in, unless, sized, rules}
use Rattle.yard_file.specs.declared.place.At.TheVariants as places
use Rattle.yard_file.specs.declared.place.Key.TheVariants as keys
use Rattle.yard_file.specs.declared.fault.YardFault.{YardFault}
use Rattle.yard_file.specs.declared.fault.YardFault.TheVariants.{NoPlate, TooManyPlates, NoBlock, TooManyBlocks, TooManyPlacements}

-- where two steps give a value, the first gives one, from which the second gives it
bound : {A B : Type 0} (r : Result A YardFault) (f : A → Result B YardFault) (y : B) → (r >>= f) ≡ Ok y → (x : A) × (r ≡ Ok x) × (f x ≡ Ok y)
bound (Err fault) f y e = cc
bound (Ok x) f y e = (x, refl, e)

-- an array that has to have an item has one
some_plate : (ds items : Items) → few_plates ds ≡ Ok items → 1 ≤ count items
some_plate no_items items e = cc
some_plate (item d ds) items e = by (nat_lt (count (item d ds)) 1) (nat_lt 8 (count (item d ds))) e
  where
    by : (none many : Bool)
        → (if none then Err NoPlate else if many then Err (TooManyPlates (told (count (item d ds)))) else Ok (item d ds)) ≡ Ok items
        → 1 ≤ count items
    by true many e = cc
    by false true e = cc
    by false false e = let same : item d ds ≡ items = cc in subst (λ i. 1 ≤ count i) same (omega arith)

some_block : (ds items : Items) → few_blocks ds ≡ Ok items → 1 ≤ count items
some_block no_items items e = cc
some_block (item d ds) items e = by (nat_lt (count (item d ds)) 1) (nat_lt 32 (count (item d ds))) e
  where
    by : (none many : Bool)
        → (if none then Err NoBlock else if many then Err (TooManyBlocks (told (count (item d ds)))) else Ok (item d ds)) ≡ Ok items
        → 1 ≤ count items
    by true many e = cc
    by false true e = cc
    by false false e = let same : item d ds ≡ items = cc in subst (λ i. 1 ≤ count i) same (omega arith)

plates_some : (ms : Members) (items : Items) → plate_tables ms ≡ Ok items → 1 ≤ count items
unfolding plate_tables
plates_some ms items e =
    let s = bound (tables_of keys.Plate (value_in keys.Plate ms)) few_plates items e in some_plate s.0 items s.2

blocks_some : (ms : Members) (items : Items) → block_tables ms ≡ Ok items → 1 ≤ count items
unfolding block_tables
blocks_some ms items e =
    let s = bound (tables_of keys.Block (value_in keys.Block ms)) few_blocks items e in some_block s.0 items s.2

-- each table becomes a plate
plates_long : (days i : ℕ) (done : List Plate) (items : Items) (ps : List Plate) → plates_from days i done items ≡ Ok ps
    → length done + count items ≤ length ps
plates_long days i done no_items ps e = let same : done ≡ ps = cc in subst (λ l. length done + zero ≤ length l) same (omega arith)
plates_long days i done (item d ds) ps e =
    let s = bound (plate_of days i (plate_names done) d) (λ plate. plates_from days (i + 1) (done ++ plate ∷ []) ds) ps e in
    let rest : length (done ++ s.0 ∷ []) + count ds ≤ length ps = plates_long days (i + 1) (done ++ s.0 ∷ []) ds ps s.2 in
    omega (arith, rest, length-append done (s.0 ∷ []))

-- each table becomes a block
blocks_long : (version i : ℕ) (done : List Block) (items : Items) (bs : List Block) → blocks_from version i done items ≡ Ok bs
    → length done + count items ≤ length bs
blocks_long version i done no_items bs e = let same : done ≡ bs = cc in subst (λ l. length done + zero ≤ length l) same (omega arith)
blocks_long version i done (item d ds) bs e =
    let s = bound (block_of version i (block_names done) d) (λ block. blocks_from version (i + 1) (done ++ block ∷ []) ds) bs e in
    let rest : length (done ++ s.0 ∷ []) + count ds ≤ length bs = blocks_long version (i + 1) (done ++ s.0 ∷ []) ds bs s.2 in
    omega (arith, rest, length-append done (s.0 ∷ []))

-- the yard of these parts
parts_yard : ℕ → List Plate → List Block → List Fixed → PlainYard
parts_yard days plates blocks fixed = record { days = days; plates = plates; blocks = blocks; fixed = fixed }

unless_ok : (fault : Option YardFault) (y yard : PlainYard) → unless fault y ≡ Ok yard → (fault ≡ None) × (y ≡ yard)
unless_ok None y yard e = (refl, (cc))
unless_ok (Some fault) y yard e = cc

-- the tables of the plates and of the blocks, from which the yard comes
record Tables (ms : Members) (yard : PlainYard) : Type 0 where
  version : ℕ
  days : ℕ
  plates : Items
  blocks : Items
  plates_are : plate_tables ms ≡ Ok plates
  blocks_are : block_tables ms ≡ Ok blocks
  plates_give : plates_from days 0 [] plates ≡ Ok yard.plates
  blocks_give : blocks_from version 0 [] blocks ≡ Ok yard.blocks
  none_many : first_too_many yard ≡ None

-- the rules in their order, each with what it gives
after_blocks : (days : ℕ) (fts : Items) (ps : List Plate) (bs : List Block) → Result PlainYard YardFault
after_blocks days fts ps bs = pieces_from days ps 0 [] fts >>= (λ fs. sized (parts_yard days ps bs fs))

after_plates : (version days : ℕ) → Items → Items → List Plate → Result PlainYard YardFault
after_plates version days bts fts ps = blocks_from version 0 [] bts >>= (λ bs. after_blocks days fts ps bs)

after_tables : (version days : ℕ) → Items → Items → Items → Result PlainYard YardFault
after_tables version days pts bts fts = plates_from days 0 [] pts >>= (λ ps. after_plates version days bts fts ps)

after_days : ℕ → Members → ℕ → Result PlainYard YardFault
after_days version ms days =
    plate_tables ms >>= (λ pts. block_tables ms >>= (λ bts. piece_tables ms >>= (λ fts. after_tables version days pts bts fts)))

after_version : Members → ℕ → Result PlainYard YardFault
after_version ms version =
    known_keys places.Top (top_keys version) ms >>= (λ known. number_in places.Top keys.Days 1 400 ms >>= (λ days. after_days version ms days))

tables_of_yard : (ms : Members) (yard : PlainYard) → rules ms ≡ Ok yard → Tables ms yard
unfolding rules after_version after_days after_tables after_plates after_blocks parts_yard
tables_of_yard ms yard e =
    let version = bound (version_in ms) (λ v. after_version ms v) yard e in
    let known = bound (known_keys places.Top (top_keys version.0) ms)
    (λ k. number_in places.Top keys.Days 1 400 ms >>= (λ days. after_days version.0 ms days)) yard version.2 in
    let days = bound (number_in places.Top keys.Days 1 400 ms) (λ days. after_days version.0 ms days) yard known.2 in
    let pts = bound (plate_tables ms)
    (λ pts. block_tables ms >>= (λ bts. piece_tables ms >>= (λ fts. after_tables version.0 days.0 pts bts fts))) yard days.2 in
    let bts = bound (block_tables ms) (λ bts. piece_tables ms >>= (λ fts. after_tables version.0 days.0 pts.0 bts fts)) yard pts.2 in
    let fts = bound (piece_tables ms) (λ fts. after_tables version.0 days.0 pts.0 bts.0 fts) yard bts.2 in
    let ps = bound (plates_from days.0 0 [] pts.0) (λ ps. after_plates version.0 days.0 bts.0 fts.0 ps) yard fts.2 in
    let bs = bound (blocks_from version.0 0 [] bts.0) (λ bs. after_blocks days.0 fts.0 ps.0 bs) yard ps.2 in
    let fs = bound (pieces_from days.0 ps.0 0 [] fts.0) (λ fs. sized (parts_yard days.0 ps.0 bs.0 fs)) yard bs.2 in
    let whole : PlainYard = parts_yard days.0 ps.0 bs.0 fs.0 in
    let s = unless_ok (first_too_many whole) whole yard fs.2 in
    record {
      version = version.0;
      days = days.0;
      plates = pts.0;
      blocks = bts.0;
      plates_are = pts.1;
      blocks_are = bts.1;
      plates_give = ps.1 ∙ ap (λ (y : PlainYard). Ok y.plates) s.1;
      blocks_give = bs.1 ∙ ap (λ (y : PlainYard). Ok y.blocks) s.1;
      none_many = subst (λ y. first_too_many y ≡ None) s.1 s.0;
    }

not_many : (b : Bool) (fault : YardFault) → where_so b fault ≡ None → b ≡ false
not_many true fault e = cc
not_many false fault e = refl

few_placements : (yard : PlainYard) → first_too_many yard ≡ None → (b : ℕ) → b < length yard.blocks → length (placements yard b) ≤ most_placements
unfolding too_many
few_placements yard e b below =
    ltb-false most_placements (length (placements yard b))
    (not_many _ (TooManyPlacements b (length (placements yard b))) (none_at (length yard.blocks) (too_many yard) e b below))

yard_planned : (ms : Members) (yard : PlainYard) → rules ms ≡ Ok yard → CanBePlanned yard
yard_planned ms yard e =
    let t = tables_of_yard ms yard e in
    let plate : 1 ≤ count t.plates = plates_some ms t.plates t.plates_are in
    let block : 1 ≤ count t.blocks = blocks_some ms t.blocks t.blocks_are in
    let plates : length {A = Plate} [] + count t.plates ≤ length yard.plates = plates_long t.days 0 [] t.plates yard.plates t.plates_give in
    let blocks : length {A = Block} [] + count t.blocks ≤ length yard.blocks = blocks_long t.version 0 [] t.blocks yard.blocks t.blocks_give in
    record { plates = omega (arith, plate, plates); blocks = omega (arith, block, blocks); few = few_placements yard t.none_many }

-- where the rules give a yard it can be planned
pub rules_planned : (ms : Members) (answer : Result PlainYard YardFault) → answer ≡ rules ms → IfOk answer CanBePlanned
rules_planned ms (Ok yard) e = yard_planned ms yard (sym e)
rules_planned ms (Err fault) e = tt
