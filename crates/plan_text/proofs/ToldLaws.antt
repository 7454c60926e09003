-- The plate, the code and the end that a row tells.
use Rattle.std.proofs.Common.{◌≡◌, ℕ, ◌<◌, [], ◌∷◌, Bool, true, false, eqb, ◌&&◌, List, length, get_or, Option, Some, None, refl, sym, ap, subst, ◌∙◌, inl, inr, arith}
use Rattle.std.specs.Prelude.{slice_get, position, nat_lt, option_map}
use Rattle.std.specs.List.{position_or_len}
use Rattle.std.specs.Str.{bytes_eq}
use Rattle.std.proofs.lemmas.Bool.{and_parts, eqb-true, eq-eqb, cases_lt, cases_Bool, cases_order}
use Rattle.std.proofs.lemmas.Bool.Decides.{nat_tests}
use Rattle.std.proofs.lemmas.Option.{none-some, same_Some, slice_get-get_or, slice_get_within, get_or_from_slice_get, slice_get-map}
use Rattle.std.proofs.lemmas.List.{length-map}
use Rattle.std.proofs.lemmas.List.Quantifiers.{position-Some}
use Rattle.std.proofs.lemmas.List.Sums.{position_or_len_is, passes_at_first}
use Rattle.std.proofs.lemmas.Slice.Eq.{bytes_eq-Decides}
use Rattle.text_parts.specs.Parts.{◌>>=◌}
use Rattle.text_parts.proofs.OptionLaws.{bind_some}
use Rattle.shape_exact.specs.Yards.{PlainYard, IsYard, AreDistinct, plate_names}
use Rattle.shape_exact.specs.declared.block.Block.{Block}
use Rattle.shape_exact.specs.declared.plate.Plate.{Plate}
use Rattle.plate_calendar.specs.Calendars.{open_days, end_of}
use Rattle.code_table.specs.declared.placement.Placement.{Placement}
use Rattle.code_table.specs.Codes.{IsCode}
use Rattle.code_table.specs.Placements.{placed, placements_of, IsPlacement}
use Rattle.code_table.proofs.PlacedLaws.{placed-facts}
use Rattle.code_table.proofs.ReadLaws.{plate_limits}
use Rattle.plan_text.specs.Rows.{Entry}
use Rattle.plan_text.specs.Told.{plate_named, end_on, is_same, code_in, HasFields, told_at}

-- ---- where something stands in a list

-- nowhere, where nothing passes
position-none : {A : Type 0} (p : A → Bool) (xs : List A) → A → ((i : ℕ) (x : A) → slice_get xs i ≡ Some x → p x ≡ true → ⊥) → position p xs ≡ None
position-none {A} p xs d none =
    elim (cases_lt (position_or_len p xs) (length xs)) [
      | inl inside ↦ absurd (none (position_or_len p xs) (get_or xs (position_or_len p xs) d) (slice_get-get_or xs (position_or_len p xs) d inside) (passes_at_first p xs d inside))
      | inr past ↦ let t : nat_lt (position_or_len p xs) (length xs) ≡ false = grind (arith, nat_tests) in rw t refl
    ]

-- where the one stands that passes
position-one : {A : Type 0} (p : A → Bool) (xs : List A) (i : ℕ) (x : A) → slice_get xs i ≡ Some x → p x ≡ true
    → ((j : ℕ) (y : A) → slice_get xs j ≡ Some y → p y ≡ true → j ≡ i) → position p xs ≡ Some i
position-one {A} p xs i x at passes one =
    let inside : i < length xs = slice_get_within xs i x at in
    let here : p (get_or xs i x) ≡ true = ap p (get_or_from_slice_get xs i x x at) ∙ passes in
    let first : position_or_len p xs ≡ i = position_or_len_is p xs i x (omega arith) (λ k l. not_before k l inside) (λ l. here) in
    let t : nat_lt i (length xs) ≡ true = grind (arith, nat_tests) in
    rw (first, t) refl
  where
    not_before : (k : ℕ) → k < i → i < length xs → p (get_or xs k x) ≡ false
    not_before k l inside = elim (cases_Bool (p (get_or xs k x))) [
      | inl t ↦ let same = one k (get_or xs k x) (slice_get-get_or xs k x (omega arith)) t in absurd (omega arith)
      | inr f ↦ f
    ]

-- ---- plates

-- a plate that is found has the name
pub plate-takes : (yard : PlainYard) (name : List ℕ) (i : ℕ) → plate_named yard name ≡ Some i
    → (plate : Plate) × (slice_get yard.plates i ≡ Some plate) × (plate.name ≡ name)
plate-takes yard name i e = by yard.plates e
  where
    by : (plates : List Plate) → position (λ (p : Plate). bytes_eq p.name name) plates ≡ Some i
        → (plate : Plate) × (slice_get plates i ≡ Some plate) × (plate.name ≡ name)
    by [] e = absurd (none-some i e)
    by (first ∷ more) e =
        let (inside, passes, others) = position-Some (λ (p : Plate). bytes_eq p.name name) (first ∷ more) i first e in
        let plate : Plate = get_or (first ∷ more) i first in
        (plate, slice_get-get_or (first ∷ more) i first inside, (bytes_eq-Decides plate.name name).0 passes)

-- of two places with one name neither is the earlier
name_at : (plates : List Plate) (i : ℕ) (p : Plate) (d : List ℕ) → slice_get plates i ≡ Some p → get_or (plate_names plates) i d ≡ p.name
name_at plates i p d at =
    get_or_from_slice_get (plate_names plates) i p.name d (slice_get-map (λ (p : Plate). p.name) plates i ∙ ap (option_map (λ (p : Plate). p.name)) at)

not_earlier : (plates : List Plate) (i j : ℕ) (p q : Plate) → AreDistinct (plate_names plates) → slice_get plates i ≡ Some p → slice_get plates j ≡ Some q
    → p.name ≡ q.name → i < j → ⊥
not_earlier plates i j p q distinct at there same l =
    let within : j < length (plate_names plates) = let m = slice_get_within plates j q there in let n = length-map plates (λ (p : Plate). p.name) in omega arith in
    let apart : bytes_eq (get_or (plate_names plates) i p.name) (get_or (plate_names plates) j p.name) ≡ false = distinct i j p.name l within in
    let equal : bytes_eq p.name q.name ≡ true = (bytes_eq-Decides p.name q.name).1 same in
    let names : bytes_eq (get_or (plate_names plates) i p.name) (get_or (plate_names plates) j p.name) ≡ bytes_eq p.name q.name =
    ap (λ n. bytes_eq n (get_or (plate_names plates) j p.name)) (name_at plates i p p.name at) ∙ ap (bytes_eq p.name) (name_at plates j q p.name there) in
    let bad : true ≡ false = sym equal ∙ sym names ∙ apart in
    absurd cc

-- each plate is found by its name
pub plate-again : (yard : PlainYard) (i : ℕ) (plate : Plate) → IsYard yard → slice_get yard.plates i ≡ Some plate → plate_named yard plate.name ≡ Some i
plate-again yard i plate is at =
    position-one (λ (p : Plate). bytes_eq p.name plate.name) yard.plates i plate at ((bytes_eq-Decides plate.name plate.name).1 refl) (λ j q there same.
    let names : q.name ≡ plate.name = (bytes_eq-Decides q.name plate.name).0 same in
    elim (cases_order j i) [
      | inl equal ↦ equal
      | inr other ↦ elim other [
        | inl less ↦ absurd (not_earlier yard.plates j i q plate is.plate_names there at names less)
        | inr more ↦ absurd (not_earlier yard.plates i j plate q is.plate_names at there (sym names) more)
      ]
    ])

-- ---- codes

same_is : (p q : Placement) → is_same p q ≡ true → q ≡ p
same_is p q h =
    let (abcde, six) = and_parts ((((eqb p.start q.start && eqb p.end q.end) && eqb p.plate q.plate) && eqb p.turn q.turn) && eqb p.y q.y) (eqb p.x q.x) h in
    let (abcd, five) = and_parts (((eqb p.start q.start && eqb p.end q.end) && eqb p.plate q.plate) && eqb p.turn q.turn) (eqb p.y q.y) abcde in
    let (abc, four) = and_parts ((eqb p.start q.start && eqb p.end q.end) && eqb p.plate q.plate) (eqb p.turn q.turn) abcd in
    let (ab, three) = and_parts (eqb p.start q.start && eqb p.end q.end) (eqb p.plate q.plate) abc in
    let (one, two) = and_parts (eqb p.start q.start) (eqb p.end q.end) ab in
    ap (λ v. placed v q.end q.plate q.turn q.y q.x) (sym (eqb-true p.start q.start one))
    ∙ ap (λ v. placed p.start v q.plate q.turn q.y q.x) (sym (eqb-true p.end q.end two))
    ∙ ap (λ v. placed p.start p.end v q.turn q.y q.x) (sym (eqb-true p.plate q.plate three))
    ∙ ap (λ v. placed p.start p.end p.plate v q.y q.x) (sym (eqb-true p.turn q.turn four))
    ∙ ap (λ v. placed p.start p.end p.plate p.turn v q.x) (sym (eqb-true p.y q.y five))
    ∙ ap (λ v. placed p.start p.end p.plate p.turn p.y v) (sym (eqb-true p.x q.x six))

self : (n : ℕ) → eqb n n ≡ true
self n = eq-eqb n n refl

same_self : (p : Placement) → is_same p p ≡ true
same_self p = rw (self p.start, self p.end, self p.plate, self p.turn, self p.y, self p.x) refl

-- what is found stands there
code-takes : (ps : List Placement) (p : Placement) (c : ℕ) → code_in ps p ≡ Some c → slice_get ps c ≡ Some p
code-takes ps p c e =
    let (inside, passes, others) = position-Some (is_same p) ps c p e in
    slice_get-get_or ps c p inside ∙ ap (λ (q : Placement). Some q) (same_is p (get_or ps c p) passes)

-- the code of a placement is found
pub code-is : (ps : List Placement) (p : Placement) (o : Option ℕ) → IsCode ps p o → code_in ps p ≡ o
code-is ps p None is = position-none (is_same p) ps p (λ i q at same. is i (at ∙ ap (λ (q : Placement). Some q) (same_is p q same)))
code-is ps p (Some c) is =
    position-one (is_same p) ps c p is.0 (same_self p) (λ j q at same. is.1 j (at ∙ ap (λ (q : Placement). Some q) (same_is p q same)))

-- ---- the placement that a row tells

abbrev pub told_placement : ℕ → ℕ → Entry → Placement
told_placement p end row = placed row.start end p row.turn row.y row.x

-- where there is no end there is no placement
pub no_end : (yard : PlainYard) (block : Block) (p : ℕ) (row : Entry) → end_on yard block p row.start ≡ None → told_at yard block p row ≡ None
unfolding told_at
no_end yard block p row none = rw none refl

-- the code and the end
pub told_code : (yard : PlainYard) (block : Block) (p : ℕ) (row : Entry) (end : ℕ) (o : Option ℕ) → end_on yard block p row.start ≡ Some end
    → IsCode (placements_of yard block) (told_placement p end row) o → told_at yard block p row ≡ (o >>= λ code. Some (code, end))
unfolding told_at
told_code yard block p row end o ends is = rw (ends, code-is (placements_of yard block) (told_placement p end row) o is) refl

-- the end that the calendar of the plate gives
pub end_by : (yard : PlainYard) (block : Block) (p start : ℕ) (plate : Plate) (opens : List ℕ) (o : Option ℕ) → slice_get yard.plates p ≡ Some plate
    → opens ≡ open_days yard.days plate.closed → o ≡ end_of opens start block.duration → end_on yard block p start ≡ o
end_by yard block p start plate opens o at are is =
    ap (λ found. found >>= λ (plate : Plate). end_of (open_days yard.days plate.closed) start block.duration) at
    ∙ ap (λ days. end_of days start block.duration) (sym are) ∙ sym is

-- a placement has small fields
has_fields : (yard : PlainYard) (block : Block) (p end : ℕ) (row : Entry) → IsYard yard → IsPlacement yard block (told_placement p end row) → HasFields row
has_fields yard block p end row limits is =
    let plate = plate_limits yard p is.plate limits is.plate_is in
    let wide = plate.width in
    let high = plate.height in
    let days = limits.days in
    let turn = is.turn in
    let start = is.start in
    let x = is.x_fits in
    let y = is.y_fits in
    record { turn = omega arith; x = omega arith; y = omega arith; start = omega arith }

-- larger figures tell none
pub too_large : (yard : PlainYard) (block : Block) (p : ℕ) (row : Entry) → IsYard yard → (HasFields row → ⊥) → told_at yard block p row ≡ None
too_large yard block p row limits large = by (end_on yard block p row.start) refl
  where
    by : (o : Option ℕ) → end_on yard block p row.start ≡ o → told_at yard block p row ≡ None
    by None e = no_end yard block p row e
    by (Some end) e =
        told_code yard block p row end None e (λ d at. large (has_fields yard block p end row limits (placed-facts yard block d (told_placement p end row) at)))

-- what is told stands in the list, and ends by the calendar
pub told-takes : (yard : PlainYard) (block : Block) (p : ℕ) (row : Entry) (at : ℕ × ℕ) → told_at yard block p row ≡ Some at
    → slice_get (placements_of yard block) at.0 ≡ Some (told_placement p at.1 row)
unfolding told_at
told-takes yard block p row at e =
    let (end, ends, more) = bind_some (end_on yard block p row.start) (λ end. code_in (placements_of yard block) (told_placement p end row) >>= λ code. Some (code, end)) at e in
    let (code, found, made) = bind_some (code_in (placements_of yard block) (told_placement p end row)) (λ code. Some (code, end)) at more in
    subst (λ (z : ℕ × ℕ). slice_get (placements_of yard block) z.0 ≡ Some (told_placement p z.1 row)) (same_Some (code, end) at made)
    (code-takes (placements_of yard block) (told_placement p end row) code found)
