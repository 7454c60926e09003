-- The form of a block's line and of the total's, and what they tell.
use Rattle.std.specs.Prelude.{ℕ, Bool, true, false, if◌then◌else◌, List, codes, Option, Some, None}
use Rattle.std.specs.Str.{bytes_eq}
use Rattle.text_parts.specs.Parts.{◌>>=◌, cut, field, number_of}
use Rattle.shape_exact.specs.Names.{is_name}
use Rattle.plan_text.specs.declared.form.Row.{Row}

-- what the line of a block tells
pub record Entry : Type 0 where
  pub name : List ℕ
  pub plate : List ℕ
  pub turn : ℕ
  pub x : ℕ
  pub y : ℕ
  pub start : ℕ
  pub end : ℕ
  pub tardiness : ℕ
  -- the early days, where the line tells them
  pub early : Option ℕ

-- the same of a row that borrows its names
abbrev pub entry : Row → Entry
entry r = record {
  name = r.name.now;
  plate = r.plate.now;
  turn = r.turn;
  x = r.x;
  y = r.y;
  start = r.start;
  end = r.end;
  tardiness = r.tardiness;
  early = r.early;
}

-- a word that is a name
abbrev pub name_of : List ℕ → Option (List ℕ)
name_of word = if is_name word then Some word else None

-- a decimal number without leading zeros, below 2^32
abbrev pub figure_of : List ℕ → Option ℕ
figure_of text = number_of 4294967295 text

-- what follows the word and a space
abbrev pub after_word : List ℕ → List ℕ → Option (List ℕ)
after_word word text = cut 32 text >>= λ p. if bytes_eq p.0 word then Some p.1 else None

-- what stands after the word, up to the next space, and what follows that
abbrev pub part_after : {X : Type 0} → (List ℕ → Option X) → List ℕ → List ℕ → Option (X × List ℕ)
part_after read word text = after_word word text >>= field read 32

-- the figures with which a block's line ends: the tardiness and, where they are to be told, the early days
abbrev pub last_figures : Bool → List ℕ → Option (ℕ × Option ℕ)
last_figures false text = do
  rest ← after_word (codes "tardiness") text
  tardiness ← figure_of rest
  Some (tardiness, None)
last_figures true text = do
  tardiness ← part_after figure_of (codes "tardiness") text
  rest ← after_word (codes "early") tardiness.1
  early ← figure_of rest
  Some (tardiness.0, Some early)

-- what the line of a block tells, without its line feed, with or without early days
unfoldable pub row_of : Bool → List ℕ → Option Entry
row_of with_early line = do
  name ← part_after name_of (codes "block") line
  plate ← part_after name_of (codes "plate") name.1
  turn ← part_after figure_of (codes "turn") plate.1
  x ← part_after figure_of (codes "x") turn.1
  y ← part_after figure_of (codes "y") x.1
  start ← part_after figure_of (codes "start") y.1
  end ← part_after figure_of (codes "end") start.1
  late ← last_figures with_early end.1
  Some (record {
    name = name.0;
    plate = plate.0;
    turn = turn.0;
    x = x.0;
    y = y.0;
    start = start.0;
    end = end.0;
    tardiness = late.0;
    early = late.1;
  })

-- the total that its line tells
abbrev pub total_in : List ℕ → Option ℕ
total_in line = after_word (codes "total") line >>= figure_of
