-- The line that tells a code is the line of the block at its placement, and back.
use Rattle.std.proofs.Common.{◌≡◌, ℕ, ◌-◌, ◌≤◌, Bool, true, false, cond, eqb, List, [], ◌∷◌, ◌++◌, Option, Some, None, Result, Ok, Err, refl, sym, ap, subst, ◌∙◌, arith}
use Rattle.std.specs.Prelude.{slice_get}
use Rattle.std.specs.Option.{option_map_or}
use Rattle.std.specs.Str.{bytes_eq}
use Rattle.std.proofs.lemmas.Bool.{eqb-true, eq-eqb}
use Rattle.std.proofs.lemmas.Slice.Eq.{bytes_eq-Decides}
use Rattle.shape_exact.specs.Names.{is_name}
use Rattle.shape_exact.specs.Yards.{PlainYard, IsYard, IsBlock}
use Rattle.shape_exact.specs.declared.block.Block.{Block}
use Rattle.shape_exact.specs.declared.plate.Plate.{Plate}
use Rattle.plate_calendar.proofs.DayLaws.{end_law}
use Rattle.code_table.specs.declared.placement.Placement.{Placement}
use Rattle.code_table.specs.Placements.{placements_of, IsPlacement}
use Rattle.code_table.proofs.PlacedLaws.{placed-facts}
use Rattle.code_table.proofs.ReadLaws.{plate_limits}
use Rattle.code_table.proofs.CodeLaws.{only_code}
use Rattle.plan_text.specs.declared.fault.PlanFault.{PlanFault}
use Rattle.plan_text.specs.declared.fault.PlanFault.TheVariants.{Line, Name, NotAPlacement, Figure}
use Rattle.plan_text.specs.Texts.{plate_name, tells_early, block_line, row_at}
use Rattle.plan_text.specs.Rows.{Entry, row_of}
use Rattle.plan_text.specs.Told.{plate_named, end_on, told_at}
use Rattle.plan_text.specs.Reading.{◌>>=◌, or_fault, unless, is_right, are_right, figures, line_code}
use Rattle.plan_text.proofs.FormLaws.{row_text, HasEarly, HasRow, row-takes, row-again}
use Rattle.plan_text.proofs.ToldLaws.{plate-takes, plate-again, told_placement, told-takes, told_code}

-- ---- what was read before something that was read

pub then_ok : {A B P : Type 0} (r : Result A PlanFault) (f : A → Result B PlanFault) (y : B) → (r >>= f) ≡ Ok y → ((x : A) → r ≡ Ok x → f x ≡ Ok y → P) → P
then_ok (Ok x) f y e k = k x refl e
then_ok (Err d) f y e k = absurd cc

pub found_ok : {A : Type 0} (o : Option A) (e : PlanFault) (x : A) → or_fault o e ≡ Ok x → o ≡ Some x
found_ok (Some y) e x h = let same : y ≡ x = cc in ap (λ z. Some z) same
found_ok None e x h = absurd cc

pub test_ok : {A : Type 0} (test : Bool) (e : PlanFault) (rest : Result A PlanFault) (x : A) → unless test e rest ≡ Ok x → (test ≡ true) × (rest ≡ Ok x)
test_ok true e rest x h = (refl, h)
test_ok false e rest x h = absurd cc

ok_number : (a b : ℕ) → ◌≡◌ {A = Result ℕ PlanFault} (Ok a) (Ok b) → a ≡ b
ok_number a b e = cc

-- ---- the line of a block at a placement

-- the early days, where they are told
abbrev pub early_told : Bool → ℕ → Option ℕ
early_told told early = cond told (Some early) None

-- what it tells
abbrev pub tells : PlainYard → Block → Placement → Entry
tells yard block p = record {
  name = block.name;
  plate = plate_name yard p.plate;
  turn = p.turn;
  x = p.x;
  y = p.y;
  start = p.start;
  end = p.end;
  tardiness = p.end - block.due;
  early = early_told (tells_early yard) (block.due - p.end);
}

line_by : (told : Bool) (name plate : List ℕ) (due : ℕ) (p : Placement)
    → block_line told name due plate p
    ≡ row_text (record { name = name; plate = plate; turn = p.turn; x = p.x; y = p.y; start = p.start; end = p.end; tardiness = p.end - due; early = early_told told (due - p.end) })
    ++ 10 ∷ []
unfolding block_line row_text
line_by true name plate due p = refl
line_by false name plate due p = refl

-- the line is its row and a line feed
pub row_is_line : (yard : PlainYard) (block : Block) (p : Placement) → row_at yard (Some block) (Some p) ≡ row_text (tells yard block p) ++ 10 ∷ []
row_is_line yard block p = line_by (tells_early yard) block.name (plate_name yard p.plate) block.due p

abbrev entry_with : Entry → List ℕ → List ℕ → ℕ → ℕ → Option ℕ → Entry
entry_with e name plate end late early =
    record { name = name; plate = plate; turn = e.turn; x = e.x; y = e.y; start = e.start; end = end; tardiness = late; early = early }

-- a row that tells a placement is what its line tells
same_entry : (yard : PlainYard) (block : Block) (plate end : ℕ) (e : Entry) → e.name ≡ block.name → plate_name yard plate ≡ e.plate → e.end ≡ end
    → e.tardiness ≡ end - block.due → e.early ≡ early_told (tells_early yard) (block.due - end) → e ≡ tells yard block (told_placement plate end e)
same_entry yard block plate end e a b c d f =
    ap (λ v. entry_with e v e.plate e.end e.tardiness e.early) a
    ∙ ap (λ v. entry_with e block.name v e.end e.tardiness e.early) (sym b)
    ∙ ap (λ v. entry_with e block.name (plate_name yard plate) v e.tardiness e.early) c
    ∙ ap (λ v. entry_with e block.name (plate_name yard plate) end v e.early) d
    ∙ ap (λ v. entry_with e block.name (plate_name yard plate) end (end - block.due) v) f

-- what a line that was read says
pub record IsLine (yard : PlainYard) (block : Block) (line : List ℕ) (code : ℕ) : Type 0 where
  pub p : Placement
  pub there : slice_get (placements_of yard block) code ≡ Some p
  pub text : line ++ 10 ∷ [] ≡ row_at yard (Some block) (Some p)

-- ---- figures

-- a figure that is told as it is
pub right_is : (n told is : ℕ) (u : Unit {0}) → is_right n told is ≡ Ok u → told ≡ is
right_is n told is u e = eqb-true told is (test_ok (eqb told is) (Figure n told is) (Ok tt) u e).0

-- the first of some, and the others
first_right : (n told is : ℕ) (more : List (ℕ × ℕ)) (u : Unit {0}) → are_right n ((told, is) ∷ more) ≡ Ok u → (told ≡ is) × (are_right n more ≡ Ok u)
first_right n told is more u e =
    then_ok (is_right n told is) (λ first. are_right n more) u e (λ first one others. (right_is n told is first one, others))

abbrev early_figure : Option ℕ → ℕ → List (ℕ × ℕ)
early_figure early is = option_map_or (λ told. (told, is) ∷ []) early []

early_is : (told : Bool) (n : ℕ) (early : Option ℕ) (is : ℕ) (u : Unit {0}) → HasEarly told early → are_right n (early_figure early is) ≡ Ok u → early ≡ early_told told is
early_is true n (Some early) is u has e = ap (λ d. Some d) (first_right n early is [] u e).0
early_is true n None is u has e = absurd has
early_is false n (Some early) is u has e = absurd has
early_is false n None is u has e = refl

-- the figures that are as they are told
record AreRight (told : Bool) (row : Entry) (due end : ℕ) : Type 0 where
  end_is : row.end ≡ end
  late_is : row.tardiness ≡ end - due
  early_is : row.early ≡ early_told told (due - end)

figures-take : (told : Bool) (n : ℕ) (row : Entry) (due end : ℕ) (u : Unit {0}) → HasEarly told row.early → are_right n (figures row due end) ≡ Ok u → AreRight told row due end
figures-take told n row due end u has e =
    let first = first_right n row.end end ((row.tardiness, end - due) ∷ early_figure row.early (due - end)) u e in
    let second = first_right n row.tardiness (end - due) (early_figure row.early (due - end)) u first.1 in
    record { end_is = first.0; late_is = second.0; early_is = early_is told n row.early (due - end) u has second.1 }

early_again : (told : Bool) (n is : ℕ) → are_right n (early_figure (early_told told is) is) ≡ Ok tt
early_again true n is = rw (eq-eqb is is refl) refl
early_again false n is = refl

-- ---- lines

line_parts : (yard : PlainYard) (block : Block) (n : ℕ) (line : List ℕ) (code : ℕ) (row : Entry) (plate : ℕ) (at : ℕ × ℕ)
    → or_fault (row_of (tells_early yard) line) (Line n) ≡ Ok row → unless (bytes_eq row.name block.name) (Name n) (or_fault (plate_named yard row.plate) (Name n)) ≡ Ok plate
    → or_fault (told_at yard block plate row) (NotAPlacement n) ≡ Ok at → (u : Unit {0}) → are_right n (figures row block.due at.1) ≡ Ok u → at.0 ≡ code → IsLine yard block line code
line_parts yard block n line code row plate at h1 h2 h3 u h4 last =
    let (spelled, fits) = row-takes (tells_early yard) line row (found_ok (row_of (tells_early yard) line) (Line n) row h1) in
    let (name, named) = test_ok (bytes_eq row.name block.name) (Name n) (or_fault (plate_named yard row.plate) (Name n)) plate h2 in
    let (pl, plate_is, plate_has) = plate-takes yard row.plate plate (found_ok (plate_named yard row.plate) (Name n) plate named) in
    let stands = told-takes yard block plate row at (found_ok (told_at yard block plate row) (NotAPlacement n) at h3) in
    let right = figures-take (tells_early yard) n row block.due at.1 u fits.early h4 in
    let plate_said : plate_name yard plate ≡ row.plate = ap (λ (o : Option Plate). option_map_or (λ (p : Plate). p.name) o []) plate_is ∙ plate_has in
    let same = same_entry yard block plate at.1 row ((bytes_eq-Decides row.name block.name).0 name) plate_said right.end_is right.late_is right.early_is in
    record {
      p = told_placement plate at.1 row;
      there = subst (λ c. slice_get (placements_of yard block) c ≡ Some (told_placement plate at.1 row)) last stands;
      text = ap (λ (s : List ℕ). s ++ 10 ∷ []) (spelled ∙ ap row_text same) ∙ sym (row_is_line yard block (told_placement plate at.1 row));
    }

pub line-takes : (yard : PlainYard) (block : Block) (n : ℕ) (line : List ℕ) (code : ℕ) → line_code yard block n line ≡ Ok code → IsLine yard block line code
unfolding line_code
line-takes yard block n line code h =
    let named = λ (row : Entry). unless (bytes_eq row.name block.name) (Name n) (or_fault (plate_named yard row.plate) (Name n)) in
    let right = λ (row : Entry) (at : ℕ × ℕ). are_right n (figures row block.due at.1) >>= λ right. Ok at.0 in
    let stands = λ (row : Entry) (plate : ℕ). or_fault (told_at yard block plate row) (NotAPlacement n) >>= right row in
    then_ok (or_fault (row_of (tells_early yard) line) (Line n)) (λ row. named row >>= stands row) code h (λ row h1 m1.
    then_ok (named row) (stands row) code m1 (λ plate h2 m2.
    then_ok (or_fault (told_at yard block plate row) (NotAPlacement n)) (right row) code m2 (λ at h3 m3.
    then_ok (are_right n (figures row block.due at.1)) (λ right. Ok at.0) code m3 (λ u h4 m4.
    line_parts yard block n line code row plate at h1 h2 h3 u h4 (ok_number at.0 code m4)))))

-- ---- and back

-- what the line of a block of the yard tells fits a line
early_fits : (told : Bool) (early : ℕ) → early ≤ 4294967295 → HasEarly told (early_told told early)
early_fits true early le = le
early_fits false early le = tt

tells_fit : (yard : PlainYard) (block : Block) (p : Placement) → IsYard yard → IsBlock block → IsPlacement yard block p → HasRow (tells_early yard) (tells yard block p)
tells_fit yard block p limits fit is =
    let plate = plate_limits yard p.plate is.plate limits is.plate_is in
    let wide = plate.width in
    let high = plate.height in
    let days = limits.days in
    let turn = is.turn in
    let start = is.start in
    let x = is.x_fits in
    let y = is.y_fits in
    let (before, below, opens) = end_law yard.days p.start block.duration p.end is.plate.closed (let d = fit.duration in omega arith) is.end_is in
    record {
      name = fit.name;
      plate = ap (λ (o : Option Plate). is_name (option_map_or (λ (p : Plate). p.name) o [])) is.plate_is ∙ plate.name;
      turn = omega arith;
      x = omega arith;
      y = omega arith;
      start = omega arith;
      end = omega arith;
      tardiness = omega arith;
      early = early_fits (tells_early yard) (block.due - p.end) (let due = fit.due in omega arith);
    }

-- the code that is there is told
told-again : (yard : PlainYard) (block : Block) (code : ℕ) (p : Placement) → IsYard yard → slice_get (placements_of yard block) code ≡ Some p → IsPlacement yard block p
    → told_at yard block p.plate (tells yard block p) ≡ Some (code, p.end)
told-again yard block code p limits there is =
    let ends : end_on yard block p.plate p.start ≡ Some p.end = rw is.plate_is is.end_is in
    told_code yard block p.plate (tells yard block p) p.end (Some code) ends (only_code yard block p code limits there)

plate_read : (yard : PlainYard) (block : Block) (p : Placement) → IsYard yard → IsPlacement yard block p → plate_named yard (plate_name yard p.plate) ≡ Some p.plate
plate_read yard block p limits is =
    ap (λ (o : Option Plate). plate_named yard (option_map_or (λ (p : Plate). p.name) o [])) is.plate_is ∙ plate-again yard p.plate is.plate limits is.plate_is

pub line-again : (yard : PlainYard) (block : Block) (n code : ℕ) (p : Placement) → IsYard yard → IsBlock block → slice_get (placements_of yard block) code ≡ Some p
    → line_code yard block n (row_text (tells yard block p)) ≡ Ok code
unfolding line_code
line-again yard block n code p limits fit there =
    let is = placed-facts yard block code p there in
    let same = (bytes_eq-Decides block.name block.name).1 refl in
    let end = eq-eqb p.end p.end refl in
    let late = eq-eqb (p.end - block.due) (p.end - block.due) refl in
    let early = early_again (tells_early yard) n (block.due - p.end) in
    rw (row-again (tells_early yard) (tells yard block p) (tells_fit yard block p limits fit is), same, plate_read yard block p limits is, told-again yard block code p limits there is, end, late, early) refl

-- its fields fit a line
pub line_fits : (yard : PlainYard) (block : Block) (code : ℕ) (p : Placement) → IsYard yard → IsBlock block → slice_get (placements_of yard block) code ≡ Some p → HasRow (tells_early yard) (tells yard block p)
line_fits yard block code p limits fit there = tells_fit yard block p limits fit (placed-facts yard block code p there)
