-- The tables of a generated yard are read as its plates and blocks.
use Rattle.std.proofs.Common.{◌≡◌, ℕ, suc, ◌+◌, ◌<◌, ◌≤◌, true, false, ◌&&◌, eqb, ltb, List, [], ◌∷◌, ◌++◌, map, length, Ok, refl, sym, ap, subst, ◌∙◌, lit<, arith, append_assoc}
use Rattle.std.specs.Prelude.{nat_le}
use Rattle.std.specs.List.{AllByRecursion}
use Rattle.std.proofs.lemmas.Bool.{and_parts, le-leb, leb-true}
use Rattle.std.proofs.lemmas.Bool.Decides.{nat_tests}
use Rattle.std.proofs.lemmas.List.{append-nil, map_push}
use Rattle.toml.specs.Data.{Data, Items, no_items, item}
use Rattle.toml.specs.View.{items_of}
use Rattle.shape_exact.specs.Days.{has_day, insert_day, are_days}
use Rattle.shape_exact.specs.Names.{is_name}
use Rattle.shape_exact.specs.Yards.{has_name, plate_names, block_names}
use Rattle.shape_exact.specs.declared.plate.Plate.{Plate}
use Rattle.shape_exact.specs.declared.block.Block.{Block}
use Rattle.yard_file.specs.Values.{◌>>=◌}
use Rattle.yard_file.specs.Distinct.{all_integers, distinct_from}
use Rattle.yard_file.specs.Keys.{known_keys}
use Rattle.yard_file.specs.Arrays.{count, all_tables}
use Rattle.yard_file.specs.Plates.{plate_rules, plate_of, plates_from}
use Rattle.yard_file.specs.Blocks.{block_rules, block_of, blocks_from}
use Rattle.yard_generator.specs.declared.draws.Drawn.{Drawn}
use Rattle.yard_generator.specs.Texts.{closed_days}
use Rattle.yard_generator.specs.Yards.{plate_at, block_with, blocks_with}
use Rattle.yard_generator.proofs.DrawnLaws.{IsDrawn}
use Rattle.yard_generator.proofs.ShapeLaws.{shape_drawn}
use Rattle.yard_generator.proofs.FormLaws.{Form, form_of, forms_from}
use Rattle.yard_generator.proofs.ValueLaws.{whole_number}
use Rattle.yard_generator.proofs.NameLaws.{AreBefore, none_before, one_more_before, name_of, name_is}
use Rattle.yard_generator.proofs.RunLaws.{plate_data, block_data}

-- ---- closed days

numbers_are_integers : (ns : List ℕ) → all_integers (items_of (map whole_number ns)) ≡ true
numbers_are_integers [] = refl
numbers_are_integers (n ∷ ns) = numbers_are_integers ns

-- each is below the bound
abbrev AllBelow : ℕ → List ℕ → Type 0
AllBelow top ds = AllByRecursion (λ d. d < top) ds

not_seen : (d : ℕ) (seen : List ℕ) → AllBelow d seen → has_day d seen ≡ false
not_seen d [] below = refl
not_seen d (e ∷ es) below = let other : eqb e d ≡ false = grind (arith, nat_tests, below.0) in rw (other, not_seen d es below.1) refl

comes_last : (d : ℕ) (seen : List ℕ) → AllBelow d seen → insert_day d seen ≡ seen ++ d ∷ []
comes_last d [] below = refl
comes_last d (e ∷ es) below = let less : ltb e d ≡ true = grind (arith, nat_tests, below.0) in rw (less, comes_last d es below.1) refl

below_more : (d : ℕ) (seen : List ℕ) → AllBelow d seen → AllBelow (suc d) (seen ++ d ∷ [])
below_more d [] below = (omega arith, tt)
below_more d (e ∷ es) below = (omega (arith, below.0), below_more d es below.1)

below_wider : (low high : ℕ) (seen : List ℕ) → low ≤ high → AllBelow low seen → AllBelow high seen
below_wider low high [] le below = tt
below_wider low high (e ∷ es) le below = (omega (arith, below.0), below_wider low high es le below.1)

days_read : (days i low : ℕ) (seen ds : List ℕ) → AllBelow low seen → are_days low days ds ≡ true
    → distinct_from days i seen (items_of (map whole_number ds)) ≡ Ok (seen ++ ds)
days_read days i low seen [] below up = ap (λ (s : List ℕ). Ok s) (sym (append-nil seen))
days_read days i low seen (d ∷ ds) below up =
    let (here, more) = and_parts (nat_le low d && ltb d days) (are_days (suc d) days ds) up in
    let (least, within) = and_parts (nat_le low d) (ltb d days) here in
    let under = below_wider low d seen (leb-true low d least) below in
    rw (within, not_seen d seen under, comes_last d seen under)
    (days_read days (i + 1) (suc d) (seen ++ d ∷ []) ds (below_more d seen under) more
    ∙ ap (λ (s : List ℕ). Ok s) (append_assoc seen (d ∷ []) ds))

-- the closed days of a generated plate ascend
pub closed_ascend : are_days 0 200 closed_days ≡ true
unfolding closed_days
closed_ascend = refl

-- ---- one plate and one block

plate_read : (i : ℕ) (names : List (List ℕ)) → is_name (plate_at i).name ≡ true → has_name names (plate_at i).name ≡ false
    → plate_of 200 i names (plate_data (plate_at i)) ≡ Ok (plate_at i)
unfolding plate_rules known_keys
plate_read i names is other = rw (is, other, numbers_are_integers closed_days, days_read 200 0 0 [] closed_days tt closed_ascend) refl

block_read : (i : ℕ) (names : List (List ℕ)) (b : Drawn) → IsDrawn b → is_name (block_with i b).name ≡ true
    → has_name names (block_with i b).name ≡ false → block_of 1 i names (block_data (form_of i b)) ≡ Ok (block_with i b)
unfolding block_rules known_keys
block_read i names b drawn is other =
    let release : b.release ≤ 399 = omega (arith, drawn.release) in
    let due : b.due ≤ 399 = omega (arith, drawn.due) in
    let weight : b.weight ≤ 1000 = omega (arith, drawn.weight.1) in
    let duration : b.duration ≤ 400 = omega (arith, drawn.duration.1) in
    rw (
      is,
      other,
      shape_drawn b drawn,
      le-leb 1 b.duration drawn.duration.0,
      le-leb b.duration 400 duration,
      le-leb 0 b.release (omega arith),
      le-leb b.release 399 release,
      le-leb 0 b.due (omega arith),
      le-leb b.due 399 due,
      le-leb 0 b.weight (omega arith),
      le-leb b.weight 1000 weight,
    ) refl

-- ---- all of them

plate_step : (days i : ℕ) (done : List Plate) (d : Data) (ds : Items) (plate : Plate) → plate_of days i (plate_names done) d ≡ Ok plate
    → plates_from days i done (item d ds) ≡ plates_from days (i + 1) (done ++ plate ∷ []) ds
plate_step days i done d ds plate e = ap (λ r. r >>= (λ plate. plates_from days (i + 1) (done ++ plate ∷ []) ds)) e

block_step : (i : ℕ) (done : List Block) (d : Data) (ds : Items) (block : Block) → block_of 1 i (block_names done) d ≡ Ok block
    → blocks_from 1 i done (item d ds) ≡ blocks_from 1 (i + 1) (done ++ block ∷ []) ds
block_step i done d ds block e = ap (λ r. r >>= (λ block. blocks_from 1 (i + 1) (done ++ block ∷ []) ds)) e

pub plates_read : plates_from 200 0 [] (items_of (map plate_data (plate_at 0 ∷ plate_at 1 ∷ plate_at 2 ∷ [])))
    ≡ Ok (plate_at 0 ∷ plate_at 1 ∷ plate_at 2 ∷ [])
plates_read =
    let zero : AreBefore 80 0 [] = none_before 80 in
    let one : AreBefore 80 1 (name_of 80 0 ∷ []) = one_more_before 80 0 [] zero in
    let two : AreBefore 80 2 (name_of 80 0 ∷ name_of 80 1 ∷ []) = one_more_before 80 1 (name_of 80 0 ∷ []) one in
    plate_step 200 0 [] (plate_data (plate_at 0)) (items_of (map plate_data (plate_at 1 ∷ plate_at 2 ∷ []))) (plate_at 0)
    (plate_read 0 [] (name_is 80 0 (lit< tt) refl) (zero 0 (omega arith) (lit< tt)))
    ∙ plate_step 200 1 (plate_at 0 ∷ []) (plate_data (plate_at 1)) (items_of (map plate_data (plate_at 2 ∷ []))) (plate_at 1)
    (plate_read 1 (name_of 80 0 ∷ []) (name_is 80 1 (lit< tt) refl) (one 1 (omega arith) (lit< tt)))
    ∙ plate_step 200 2 (plate_at 0 ∷ plate_at 1 ∷ []) (plate_data (plate_at 2)) no_items (plate_at 2)
    (plate_read 2 (name_of 80 0 ∷ name_of 80 1 ∷ []) (name_is 80 2 (lit< tt) refl) (two 2 (omega arith) (lit< tt)))

pub blocks_read : (i : ℕ) (done : List Block) (bs : List Drawn) → AllByRecursion IsDrawn bs → i + length bs < 100
    → AreBefore 66 i (block_names done)
    → blocks_from 1 i done (items_of (map block_data (forms_from i bs))) ≡ Ok (done ++ blocks_with i bs)
blocks_read i done [] drawn few before = ap (λ (qs : List Block). Ok qs) (sym (append-nil done))
blocks_read i done (b ∷ bs) drawn few before =
    let here : i < 100 = omega arith in
    let names : AreBefore 66 (i + 1) (block_names (done ++ block_with i b ∷ [])) =
    subst (λ (names : List (List ℕ)). AreBefore 66 (i + 1) names) (sym (map_push (λ (q : Block). q.name) done (block_with i b)))
    (one_more_before 66 i (block_names done) before) in
    block_step i done (block_data (form_of i b)) (items_of (map block_data (forms_from (i + 1) bs))) (block_with i b)
    (block_read i (block_names done) b drawn.0 (name_is 66 i here refl) (before i (omega arith) here))
    ∙ blocks_read (i + 1) (done ++ block_with i b ∷ []) bs drawn.1 (omega (arith, few)) names
    ∙ ap (λ (qs : List Block). Ok qs) (append_assoc done (block_with i b ∷ []) (blocks_with (i + 1) bs))

-- ---- the arrays of tables

pub blocks_are_tables : (fs : List Form) → all_tables (items_of (map block_data fs)) ≡ true
blocks_are_tables [] = refl
blocks_are_tables (f ∷ fs) = blocks_are_tables fs

pub blocks_counted : (fs : List Form) → count (items_of (map block_data fs)) ≡ length fs
blocks_counted [] = refl
blocks_counted (f ∷ fs) = ap suc (blocks_counted fs)

pub forms_counted : (i : ℕ) (bs : List Drawn) → length (forms_from i bs) ≡ length bs
forms_counted i [] = refl
forms_counted i (b ∷ bs) = ap suc (forms_counted (i + 1) bs)
