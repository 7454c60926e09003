-- The text of each generated yard is read as that yard.
use Rattle.std.proofs.Common.{◌≡◌, ℕ, suc, ◌+◌, ◌-◌, ◌<◌, ◌≤◌, ◌&&◌, true, false, List, [], ◌∷◌, map, length, Some, None, Result, Ok, refl, ap, ◌∙◌, lit<, arith}
use Rattle.std.specs.Prelude.{nat_lt, nat_le}
use Rattle.std.specs.List.{AllByRecursion}
use Rattle.std.specs.Str.{is_utf8}
use Rattle.std.proofs.lemmas.Bool.{and_parts, leb-true}
use Rattle.std.proofs.lemmas.Bool.Decides.{nat_tests}
use Rattle.toml.specs.Data.{Items, no_items, Members}
use Rattle.toml.specs.Parse.{parse_document}
use Rattle.toml.specs.View.{items_of}
use Rattle.shape_exact.specs.Yards.{PlainYard}
use Rattle.shape_exact.specs.Days.{are_days}
use Rattle.common_lists.proofs.FirstLaws.{none_below}
use Rattle.shape_exact.specs.declared.plate.Plate.{Plate}
use Rattle.shape_exact.specs.declared.block.Block.{Block}
use Rattle.code_table.specs.Placements.{placements}
use Rattle.yard_file.specs.Values.{◌>>=◌, number_in}
use Rattle.yard_file.specs.Keys.{known_keys, top_keys}
use Rattle.yard_file.specs.Arrays.{count, few_blocks, plate_tables, block_tables, piece_tables}
use Rattle.yard_file.specs.Plates.{plates_from}
use Rattle.yard_file.specs.Blocks.{blocks_from}
use Rattle.yard_file.specs.Pieces.{pieces_from}
use Rattle.yard_file.specs.Sizes.{too_many, first_too_many}
use Rattle.yard_file.specs.Documents.{document}
use Rattle.yard_file.specs.Reads.{version_in, unless, sized, rules, yard_of}
use Rattle.yard_file.specs.declared.place.At.TheVariants as places
use Rattle.yard_file.specs.declared.place.Key.TheVariants as keys
use Rattle.yard_file.specs.declared.fault.YardFault.{YardFault}
use Rattle.yard_generator.specs.declared.draws.Drawn.{Drawn}
use Rattle.yard_generator.specs.Draws as draws
use Rattle.yard_generator.specs.Texts as texts
use Rattle.yard_generator.specs.Yards.{plate_at, blocks_with, drawn_yard}
use Rattle.yard_generator.proofs.DrawnLaws.{IsDrawn, blocks_are, blocks_count}
use Rattle.yard_generator.proofs.CountLaws.{placements_le}
use Rattle.yard_generator.proofs.FormLaws.{form_of, forms_from, yard_text, yard_same}
use Rattle.yard_generator.proofs.ValueLaws.{Fits63}
use Rattle.yard_generator.proofs.NameLaws.{none_before, name_short, name_bare}
use Rattle.yard_generator.proofs.RunLaws.{plate_data, block_data, yard_members}
use Rattle.yard_generator.proofs.SpellLaws.{HasPlateText, HasBlockText, HasYardText, yard_document}
use Rattle.yard_generator.proofs.ByteLaws.{yard_is_utf8}
use Rattle.yard_generator.proofs.LengthLaws.{IsSmall, HasShortPlate, HasShortBlock, yard_le}
use Rattle.yard_generator.proofs.ReadLaws.{closed_ascend, plates_read, blocks_read, blocks_are_tables, blocks_counted, forms_counted}

-- ---- every number is small

days_small : (low : ℕ) (ds : List ℕ) → are_days low 200 ds ≡ true → AllByRecursion IsSmall ds
days_small low [] up = tt
days_small low (d ∷ ds) up =
    let (here, more) = and_parts (nat_le low d && nat_lt d 200) (are_days (suc d) 200 ds) up in
    let (least, within) = and_parts (nat_le low d) (nat_lt d 200) here in
    (grind (arith, nat_tests), days_small (suc d) ds more)

small_fits : (ns : List ℕ) → AllByRecursion IsSmall ns → AllByRecursion Fits63 ns
small_fits [] small = tt
small_fits (n ∷ ns) small = (omega (arith, small.0), small_fits ns small.1)

days_few : length texts.closed_days ≤ 200
unfolding texts.closed_days
days_few = leb-true (length texts.closed_days) 200 refl

closed_small : AllByRecursion IsSmall texts.closed_days
closed_small = days_small 0 texts.closed_days closed_ascend

plate_has : (i : ℕ) → i < 100 → HasPlateText (plate_at i)
plate_has i l = record {
  name = name_bare 80 i l refl;
  width = lit< tt;
  height = lit< tt;
  pitch = lit< tt;
  closed = small_fits texts.closed_days closed_small;
}

plate_short : (i : ℕ) → i < 100 → HasShortPlate (plate_at i)
plate_short i l = record {
  name = omega (arith, name_short 80 i l);
  width = lit< tt;
  height = lit< tt;
  pitch = lit< tt;
  closed = closed_small;
  few = days_few;
}

-- the figures of a drawn block
record AreSmall (b : Drawn) : Type 0 where
  width : IsSmall b.width
  low : IsSmall (b.height - b.cut)
  near : IsSmall (b.width - b.cut)
  height : IsSmall b.height
  duration : IsSmall b.duration
  release : IsSmall b.release
  due : IsSmall b.due
  weight : IsSmall b.weight

are_small : (b : Drawn) → IsDrawn b → AreSmall b
are_small b is =
    let (k, below_k, wide) = is.wide in
    let (l, below_l, high) = is.high in
    record {
      width = omega arith;
      low = omega arith;
      near = omega arith;
      height = omega arith;
      duration = omega (arith, is.duration.1);
      release = omega (arith, is.release);
      due = omega (arith, is.due);
      weight = omega (arith, is.weight.1);
    }

block_has : (i : ℕ) (b : Drawn) → i < 100 → IsDrawn b → HasBlockText (form_of i b)
block_has i b l is =
    let s = are_small b is in
    let zero : Fits63 0 = lit< tt in
    let one : Fits63 1 = lit< tt in
    let width : Fits63 b.width = omega (arith, s.width) in
    let height : Fits63 b.height = omega (arith, s.height) in
    let low : Fits63 (b.height - b.cut) = omega (arith, s.low) in
    let near : Fits63 (b.width - b.cut) = omega (arith, s.near) in
    record {
      name = name_bare 66 i l refl;
      shape = ((zero, zero), ((width, zero), ((width, low), ((near, height), ((zero, height), tt)))));
      turns = (zero, (one, tt));
      duration = omega (arith, s.duration);
      release = omega (arith, s.release);
      due = omega (arith, s.due);
      weight = omega (arith, s.weight);
    }

block_short : (i : ℕ) (b : Drawn) → i < 100 → IsDrawn b → HasShortBlock (form_of i b)
block_short i b l is =
    let s = are_small b is in
    let zero : IsSmall 0 = lit< tt in
    let one : IsSmall 1 = lit< tt in
    record {
      name = omega (arith, name_short 66 i l);
      shape = ((zero, zero), ((s.width, zero), ((s.width, s.low), ((s.near, s.height), ((zero, s.height), tt)))));
      corners = omega arith;
      turns = (zero, (one, tt));
      few = omega arith;
      duration = s.duration;
      release = s.release;
      due = s.due;
      weight = s.weight;
    }

blocks_have : (i : ℕ) (bs : List Drawn) → i + length bs < 100 → AllByRecursion IsDrawn bs → AllByRecursion HasBlockText (forms_from i bs)
blocks_have i [] few are = tt
blocks_have i (b ∷ bs) few are = (block_has i b (omega (arith, few)) are.0, blocks_have (i + 1) bs (omega (arith, few)) are.1)

blocks_short : (i : ℕ) (bs : List Drawn) → i + length bs < 100 → AllByRecursion IsDrawn bs → AllByRecursion HasShortBlock (forms_from i bs)
blocks_short i [] few are = tt
blocks_short i (b ∷ bs) few are = (block_short i b (omega (arith, few)) are.0, blocks_short (i + 1) bs (omega (arith, few)) are.1)

-- ---- the document is read as the yard

then_ok : {A B : Type 0} (r : Result A YardFault) (f : A → Result B YardFault) (x : A) (y : B) → r ≡ Ok x → f x ≡ Ok y → (r >>= f) ≡ Ok y
then_ok r f x y e g = ap (λ r. r >>= f) e ∙ g

abbrev three : List Plate
three = plate_at 0 ∷ plate_at 1 ∷ plate_at 2 ∷ []

abbrev members : List Drawn → Members
members bs = yard_members 200 three (forms_from 0 bs)

version_read : (bs : List Drawn) → version_in (members bs) ≡ Ok 1
unfolding version_in
version_read bs = refl

keys_read : (bs : List Drawn) → known_keys places.Top (top_keys 1) (members bs) ≡ Ok tt
unfolding known_keys
keys_read bs = refl

plate_tables_read : (bs : List Drawn) → plate_tables (members bs) ≡ Ok (items_of (map plate_data three))
unfolding plate_tables
plate_tables_read bs = refl

few_read : (items : Items) → 1 ≤ count items → count items ≤ 32 → few_blocks items ≡ Ok items
few_read items some few =
    let low : nat_lt (count items) 1 ≡ false = grind (arith, nat_tests) in
    let high : nat_lt 32 (count items) ≡ false = grind (arith, nat_tests) in
    rw (low, high) refl

block_tables_read : (bs : List Drawn) → 1 ≤ length bs → length bs ≤ 32
    → block_tables (members bs) ≡ Ok (items_of (map block_data (forms_from 0 bs)))
unfolding block_tables
block_tables_read bs some few =
    let a = blocks_counted (forms_from 0 bs) in
    let b = forms_counted 0 bs in
    rw (blocks_are_tables (forms_from 0 bs)) (few_read (items_of (map block_data (forms_from 0 bs))) (omega arith) (omega arith))

piece_tables_read : (bs : List Drawn) → piece_tables (members bs) ≡ Ok no_items
unfolding piece_tables
piece_tables_read bs = refl

-- no block has too many placements
not_many : (seed blocks b : ℕ) → too_many (drawn_yard seed blocks) b ≡ None
unfolding too_many
not_many seed blocks b =
    let h = placements_le seed blocks b in
    let low : nat_lt 1048576 (length (placements (drawn_yard seed blocks) b)) ≡ false = grind (arith, nat_tests) in
    rw low refl

none_many : (seed blocks : ℕ) → first_too_many (drawn_yard seed blocks) ≡ None
none_many seed blocks =
    none_below (length (drawn_yard seed blocks).blocks) (too_many (drawn_yard seed blocks)) (λ b l. not_many seed blocks b)

-- the rules in their order, from each on
after_blocks : List Plate → List Block → Result PlainYard YardFault
after_blocks ps bs =
    pieces_from 200 ps 0 [] no_items >>= (λ fs. sized (record { days = 200; plates = ps; blocks = bs; fixed = fs }))

after_plates : Items → List Plate → Result PlainYard YardFault
after_plates bts ps = blocks_from 1 0 [] bts >>= (λ bs. after_blocks ps bs)

rules_read : (seed blocks : ℕ) → 1 ≤ blocks → blocks ≤ 32
    → rules (members (draws.blocks_from blocks seed)) ≡ Ok (drawn_yard seed blocks)
unfolding rules after_plates after_blocks drawn_yard
rules_read seed blocks some few =
    let drawn = draws.blocks_from blocks seed in
    let ms = members drawn in
    let n = blocks_count blocks seed in
    let yard = drawn_yard seed blocks in
    let bts = items_of (map block_data (forms_from 0 drawn)) in
    then_ok (version_in ms)
    (λ version. known_keys places.Top (top_keys version) ms >>= (λ known. number_in places.Top keys.Days 1 400 ms >>= (λ days.
    plate_tables ms >>= (λ pts. block_tables ms >>= (λ bts. piece_tables ms >>= (λ fts. plates_from days 0 [] pts >>= (λ ps.
    blocks_from version 0 [] bts >>= (λ bs. pieces_from days ps 0 [] fts >>= (λ fs.
    sized (record { days = days; plates = ps; blocks = bs; fixed = fs }))))))))))
    1 yard (version_read drawn)
    (then_ok (known_keys places.Top (top_keys 1) ms)
    (λ known. number_in places.Top keys.Days 1 400 ms >>= (λ days.
    plate_tables ms >>= (λ pts. block_tables ms >>= (λ bts. piece_tables ms >>= (λ fts. plates_from days 0 [] pts >>= (λ ps.
    blocks_from 1 0 [] bts >>= (λ bs. pieces_from days ps 0 [] fts >>= (λ fs.
    sized (record { days = days; plates = ps; blocks = bs; fixed = fs })))))))))
    tt yard (keys_read drawn)
    (then_ok (plate_tables ms)
    (λ pts. block_tables ms >>= (λ bts. piece_tables ms >>= (λ fts. plates_from 200 0 [] pts >>= (λ ps.
    blocks_from 1 0 [] bts >>= (λ bs. pieces_from 200 ps 0 [] fts >>= (λ fs.
    sized (record { days = 200; plates = ps; blocks = bs; fixed = fs })))))))
    (items_of (map plate_data three)) yard (plate_tables_read drawn)
    (then_ok (block_tables ms)
    (λ bts. piece_tables ms >>= (λ fts. plates_from 200 0 [] (items_of (map plate_data three)) >>= (λ ps.
    blocks_from 1 0 [] bts >>= (λ bs. pieces_from 200 ps 0 [] fts >>= (λ fs.
    sized (record { days = 200; plates = ps; blocks = bs; fixed = fs }))))))
    bts yard (block_tables_read drawn (omega arith) (omega arith))
    (then_ok (piece_tables ms)
    (λ fts. plates_from 200 0 [] (items_of (map plate_data three)) >>= (λ ps.
    blocks_from 1 0 [] bts >>= (λ bs. pieces_from 200 ps 0 [] fts >>= (λ fs.
    sized (record { days = 200; plates = ps; blocks = bs; fixed = fs })))))
    no_items yard (piece_tables_read drawn)
    (then_ok (plates_from 200 0 [] (items_of (map plate_data three))) (λ ps. after_plates bts ps) three yard plates_read
    (then_ok (blocks_from 1 0 [] bts) (λ bs. after_blocks three bs) (blocks_with 0 drawn) yard
    (blocks_read 0 [] drawn (blocks_are blocks seed) (omega arith) (none_before 66))
    (ap (λ fault. unless fault yard) (none_many seed blocks))))))))

-- ---- the bytes are read as the document

-- the tables of a yard with a block
some_forms : (bs : List Drawn) → 1 ≤ length bs → HasYardText 200 three (forms_from 0 bs)
    → parse_document (yard_text 200 three (forms_from 0 bs)) ≡ Some (members bs)
some_forms [] some has = absurd (omega arith)
some_forms (b ∷ bs) some has = yard_document 200 (plate_at 0) (plate_at 1 ∷ plate_at 2 ∷ []) (form_of 0 b) (forms_from 1 bs) has

yard_has : (seed blocks : ℕ) → blocks ≤ 32 → HasYardText 200 three (forms_from 0 (draws.blocks_from blocks seed))
yard_has seed blocks few =
    let n = blocks_count blocks seed in
    record {
      days = lit< tt;
      plates = (plate_has 0 (lit< tt), (plate_has 1 (lit< tt), (plate_has 2 (lit< tt), tt)));
      blocks = blocks_have 0 (draws.blocks_from blocks seed) (omega arith) (blocks_are blocks seed);
    }

yard_short : (seed blocks : ℕ) → blocks ≤ 32 → length (yard_text 200 three (forms_from 0 (draws.blocks_from blocks seed))) ≤ 1048576
yard_short seed blocks few =
    let n = blocks_count blocks seed in
    let m = forms_counted 0 (draws.blocks_from blocks seed) in
    yard_le 200 three (forms_from 0 (draws.blocks_from blocks seed)) (lit< tt)
    (plate_short 0 (lit< tt), (plate_short 1 (lit< tt), (plate_short 2 (lit< tt), tt)))
    (blocks_short 0 (draws.blocks_from blocks seed) (omega arith) (blocks_are blocks seed)) (omega arith) (omega arith)

-- a short text that is UTF-8 and is read as a document is read by the rules
read_by_rules : (bytes : List ℕ) (ms : Members) → length bytes ≤ 1048576 → is_utf8 bytes ≡ true → parse_document bytes ≡ Some ms
    → yard_of bytes ≡ rules ms
unfolding yard_of document
read_by_rules bytes ms short text parsed =
    let low : nat_lt 1048576 (length bytes) ≡ false = grind (arith, nat_tests) in
    rw (low, text, parsed) refl

-- the text of each generated yard is read as that yard
pub text_read : (seed blocks : ℕ) → 1 ≤ blocks → blocks ≤ 32 → yard_of (texts.yard_text seed blocks) ≡ Ok (drawn_yard seed blocks)
text_read seed blocks some few =
    let drawn = draws.blocks_from blocks seed in
    let n = blocks_count blocks seed in
    let has = yard_has seed blocks few in
    ap yard_of (yard_same seed blocks)
    ∙ read_by_rules (yard_text 200 three (forms_from 0 drawn)) (members drawn) (yard_short seed blocks few)
    (yard_is_utf8 200 three (forms_from 0 drawn) has) (some_forms drawn (omega arith) has)
    ∙ rules_read seed blocks some few
