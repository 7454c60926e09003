-- The text of a yard is read as the table of the yard.
use Rattle.std.proofs.Common.{◌≡◌, ℕ, ◌≤◌, List, [], ◌∷◌, ◌++◌, Some, refl, sym, ap, ◌∙◌, lit<, arith}
use Rattle.std.specs.Prelude.{codes}
use Rattle.std.specs.Fmt.{decimal}
use Rattle.std.specs.List.{flat_map, AllByRecursion}
use Rattle.std.proofs.lemmas.List.{append-nil}
use Rattle.toml_writer.specs.Text.{key_text}
use Rattle.toml.specs.Data.{Data, string, Members}
use Rattle.toml.specs.Tables.{Expression}
use Rattle.toml.specs.Parse.{parse_document}
use Rattle.toml.proofs.ReadLines.{AllPrinted}
use Rattle.shape_exact.specs.declared.plate.Plate.{Plate}
use Rattle.yard_generator.proofs.FormLaws.{Form, line, heading, quoted, numbers, points, plate_text, figures_text, block_text, yard_text}
use Rattle.yard_generator.proofs.PlainLaws.{IsPlain, plain_append, printed_append, plain_document}
use Rattle.yard_generator.proofs.QuoteLaws.{IsName}
use Rattle.yard_generator.proofs.ValueLaws.{IsWritten, whole_number, number_list, point_list, written_number, written_name, written_numbers, written_points, Fits63, PointFits}
use Rattle.yard_generator.proofs.RunLaws.{pair, heads, plate_lines, block_lines, yard_lines, yard_members, yard_run}

-- the text has a line for each expression, and `toml` would print it so
record Spells (es : List Expression) (text : List ℕ) : Type 0 where
  plain : IsPlain es text
  printed : AllPrinted es

none : Spells [] []
none = record { plain = refl; printed = tt }

after : (es fs : List Expression) (t u : List ℕ) → Spells es t → Spells fs u → Spells (es ++ fs) (t ++ u)
after es fs t u a b = record { plain = plain_append es fs t u a.plain b.plain; printed = printed_append es fs a.printed b.printed }

pair_line : (k : List ℕ) (d : Data) (t : List ℕ) → key_text k ≡ k → IsWritten d t 2 → Spells (pair k d ∷ []) (line k t)
pair_line k d t bare w = record {
  plain = (line k t, [], sym (append-nil (line k t)), (t, rw bare refl, w.text), refl);
  printed = ((refl, omega (arith, w.depth), w.dates), tt);
}

heads_line : (k : List ℕ) → key_text k ≡ k → Spells (heads k ∷ []) (heading k)
heads_line k bare = record { plain = (heading k, [], sym (append-nil (heading k)), rw bare refl, refl); printed = (omega arith, tt) }

-- ---- the keys are written as they stand

key_version : key_text (codes "version") ≡ codes "version"
unfolding key_text
key_version = refl

key_days : key_text (codes "days") ≡ codes "days"
unfolding key_text
key_days = refl

key_plate : key_text (codes "plate") ≡ codes "plate"
unfolding key_text
key_plate = refl

key_block : key_text (codes "block") ≡ codes "block"
unfolding key_text
key_block = refl

key_name : key_text (codes "name") ≡ codes "name"
unfolding key_text
key_name = refl

key_width : key_text (codes "width") ≡ codes "width"
unfolding key_text
key_width = refl

key_height : key_text (codes "height") ≡ codes "height"
unfolding key_text
key_height = refl

key_pitch : key_text (codes "pitch") ≡ codes "pitch"
unfolding key_text
key_pitch = refl

key_closed : key_text (codes "closed") ≡ codes "closed"
unfolding key_text
key_closed = refl

key_shape : key_text (codes "shape") ≡ codes "shape"
unfolding key_text
key_shape = refl

key_turns : key_text (codes "turns") ≡ codes "turns"
unfolding key_text
key_turns = refl

key_duration : key_text (codes "duration") ≡ codes "duration"
unfolding key_text
key_duration = refl

key_release : key_text (codes "release") ≡ codes "release"
unfolding key_text
key_release = refl

key_due : key_text (codes "due") ≡ codes "due"
unfolding key_text
key_due = refl

key_weight : key_text (codes "weight") ≡ codes "weight"
unfolding key_text
key_weight = refl

-- ---- what a plate, a block and a yard need to have a text

pub record HasPlateText (p : Plate) : Type 0 where
  pub name : IsName p.name
  pub width : Fits63 p.width
  pub height : Fits63 p.height
  pub pitch : Fits63 p.pitch
  pub closed : AllByRecursion Fits63 p.closed

pub record HasBlockText (b : Form) : Type 0 where
  pub name : IsName b.name
  pub shape : AllByRecursion PointFits b.shape
  pub turns : AllByRecursion Fits63 b.turns
  pub duration : Fits63 b.duration
  pub release : Fits63 b.release
  pub due : Fits63 b.due
  pub weight : Fits63 b.weight

deeper : (d : Data) (t : List ℕ) (deep : ℕ) → deep ≤ 2 → IsWritten d t deep → IsWritten d t 2
deeper d t deep le w = record { text = w.text; depth = omega (arith, w.depth); dates = w.dates }

number_line : (k : List ℕ) (n : ℕ) → key_text k ≡ k → Fits63 n → Spells (pair k (whole_number n) ∷ []) (line k (decimal n))
number_line k n bare fits = pair_line k (whole_number n) (decimal n) bare (deeper (whole_number n) (decimal n) 0 (omega arith)
    (written_number n fits))

name_line : (name : List ℕ) → IsName name → Spells (pair (codes "name") (string name) ∷ []) (line (codes "name") (quoted name))
name_line name is = pair_line (codes "name") (string name) (quoted name) key_name (deeper (string name) (quoted name) 0 (omega arith)
    (written_name name is))

numbers_line : (k : List ℕ) (ns : List ℕ) → key_text k ≡ k → AllByRecursion Fits63 ns
    → Spells (pair k (number_list ns) ∷ []) (line k (numbers ns))
numbers_line k ns bare fit = pair_line k (number_list ns) (numbers ns) bare (deeper (number_list ns) (numbers ns) 1 (omega arith)
    (written_numbers ns fit))

plate_spells : (p : Plate) → HasPlateText p → Spells (plate_lines p) (plate_text p)
unfolding plate_text
plate_spells p h =
    after _ _ _ _ (heads_line (codes "plate") key_plate) (after _ _ _ _ (name_line p.name h.name) (after _ _ _ _ (number_line
    (codes "width") p.width key_width h.width)
    (after _ _ _ _ (number_line (codes "height") p.height key_height h.height) (after _ _ _ _ (number_line
    (codes "pitch") p.pitch key_pitch h.pitch) (numbers_line (codes "closed") p.closed key_closed h.closed)))))

block_spells : (b : Form) → HasBlockText b → Spells (block_lines b) (block_text b)
unfolding block_text figures_text
block_spells b h =
    after _ _ _ _ (heads_line (codes "block") key_block) (after _ _ _ _ (name_line b.name h.name)
    (after _ _ _ _ (pair_line (codes "shape") (point_list b.shape) (points b.shape) key_shape (written_points b.shape h.shape))
    (after _ _ _ _ (numbers_line (codes "turns") b.turns key_turns h.turns) (after _ _ _ _ (number_line
    (codes "duration") b.duration key_duration h.duration)
    (after _ _ _ _ (number_line (codes "release") b.release key_release h.release) (after _ _ _ _ (number_line
    (codes "due") b.due key_due h.due)
    (number_line (codes "weight") b.weight key_weight h.weight)))))))

each_spells : {X : Type 0} (lines : X → List Expression) (text : X → List ℕ) (P : X → Type 0) → ((x : X) → P x
    → Spells (lines x) (text x)) → (xs : List X) → AllByRecursion P xs
    → Spells (flat_map lines xs) (flat_map text xs)
each_spells lines text P one [] ps = none
each_spells lines text P one (x ∷ xs) ps = after (lines x) (flat_map lines xs) (text x) (flat_map text xs) (one x ps.0)
    (each_spells lines text P one xs ps.1)

-- what all of them need
pub record HasYardText (count : ℕ) (ps : List Plate) (bs : List Form) : Type 0 where
  pub days : Fits63 count
  pub plates : AllByRecursion HasPlateText ps
  pub blocks : AllByRecursion HasBlockText bs

yard_spells : (days : ℕ) (ps : List Plate) (bs : List Form) → HasYardText days ps bs → Spells (yard_lines days ps bs) (yard_text days ps bs)
unfolding yard_text
yard_spells days ps bs h =
    after _ _ _ _ (number_line (codes "version") 1 key_version (lit< tt)) (after _ _ _ _ (number_line (codes "days") days key_days h.days)
    (after _ _ _ _ (each_spells plate_lines plate_text HasPlateText plate_spells ps h.plates)
    (each_spells block_lines block_text HasBlockText block_spells bs h.blocks)))

-- the text of a yard with a plate and a block is read as the table of the yard
pub yard_document : (days : ℕ) (p : Plate) (ps : List Plate) (b : Form) (bs : List Form) → HasYardText days (p ∷ ps) (b ∷ bs)
    → parse_document (yard_text days (p ∷ ps) (b ∷ bs)) ≡ Some (yard_members days (p ∷ ps) (b ∷ bs))
yard_document days p ps b bs h =
    let s = yard_spells days (p ∷ ps) (b ∷ bs) h in
    let (doc, ran, closes) = yard_run days p ps b bs in
    plain_document (pair (codes "version") (whole_number 1))
    (pair (codes "days") (whole_number days) ∷ (flat_map plate_lines (p ∷ ps) ++ flat_map block_lines (b ∷ bs)))
    (yard_text days (p ∷ ps) (b ∷ bs)) doc s.plain s.printed ran
    ∙ ap (λ (ms : Members). Some ms) closes
