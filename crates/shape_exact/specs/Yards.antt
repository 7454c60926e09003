-- The plain yard: days, plates, blocks and fixed pieces within the limits.
use Rattle.std.specs.Prelude.{◌≡◌, ℕ, ◌+◌, ◌≤◌, ◌<◌, pos, Bool, true, false, List, length, All, map, Some, slice_get}
use Rattle.std.specs.List.{list_any, AllPairs}
use Rattle.std.specs.Str.{bytes_eq}
use Rattle.shape_exact.specs.Names.{is_name}
use Rattle.shape_exact.specs.Days.{are_days}
use Rattle.shape_exact.specs.Shapes.{IsShape, AreApart, reach_x, reach_y}
use Rattle.shape_exact.specs.declared.plate.Plate.{Plate}
use Rattle.shape_exact.specs.declared.block.Block.{Block}
use Rattle.shape_exact.specs.declared.fixed.Fixed.{Fixed}
use Rattle.shape_exact.specs.declared.point.Point.{Point}

-- a yard as contracts see it
pub record PlainYard : Type 0 where
  pub days : ℕ
  pub plates : List Plate
  pub blocks : List Block
  pub fixed : List Fixed

-- a plate within the limits, its closed days below the number of days
pub record IsPlate (days : ℕ) (p : Plate) : Type 0 where
  pub name : is_name p.name ≡ true
  pub width : (1 ≤ p.width) × (p.width ≤ 400)
  pub height : (1 ≤ p.height) × (p.height ≤ 400)
  pub pitch : (1 ≤ p.pitch) × (p.pitch ≤ 100)
  pub closed : are_days 0 days p.closed ≡ true

-- a block within the limits, with at least one turn
pub record IsBlock (b : Block) : Type 0 where
  pub name : is_name b.name ≡ true
  pub shape : IsShape b.shape
  pub turns : list_any (λ t. t) b.turns ≡ true
  pub duration : (1 ≤ b.duration) × (b.duration ≤ 400)
  pub release : b.release ≤ 399
  pub due : b.due ≤ 399
  pub weight : b.weight ≤ 1000
  pub early : b.early ≤ 1000

-- where a piece's footprint is shifted to
abbrev pub piece_at : Fixed → Point
piece_at f = record { x = pos f.x; y = pos f.y }

-- a piece lies inside the plate, and its days are in order and below the number of days
pub record LiesWithin (n : ℕ) (plate : Plate) (f : Fixed) : Type 0 where
  pub order : f.from ≤ f.to
  pub days : f.to < n
  pub wide : f.x + reach_x f.shape ≤ plate.width
  pub high : f.y + reach_y f.shape ≤ plate.height

-- a piece that stands inside a plate, on days below the number of days
pub record IsPiece (n : ℕ) (plates : List Plate) (f : Fixed) : Type 0 where
  pub plate : Plate
  pub plate_is : slice_get plates f.plate ≡ Some plate
  pub shape : IsShape f.shape
  pub within : LiesWithin n plate f

-- two pieces are apart where they are on one plate and share a day
abbrev pub StandApart : Fixed → Fixed → Type 0
StandApart f g = f.plate ≡ g.plate → f.from ≤ g.to → g.from ≤ f.to → AreApart f.shape (piece_at f) g.shape (piece_at g)

-- one of the names is this name
abbrev pub has_name : List (List ℕ) → List ℕ → Bool
has_name names name = list_any (λ n. bytes_eq n name) names

abbrev pub plate_names : List Plate → List (List ℕ)
plate_names plates = map (λ p. p.name) plates

abbrev pub block_names : List Block → List (List ℕ)
block_names blocks = map (λ b. b.name) blocks

-- no name stands in the list twice
abbrev pub AreDistinct : List (List ℕ) → Type 0
AreDistinct names = AllPairs (λ n m. bytes_eq n m ≡ false) names

-- what every yard keeps: each part within the limits, no name twice, and no two pieces on the same ground on one day
pub record IsYard (y : PlainYard) : Type 0 where
  pub days : (1 ≤ y.days) × (y.days ≤ 400)
  pub few_plates : length y.plates ≤ 8
  pub few_blocks : length y.blocks ≤ 32
  pub plates : All (IsPlate y.days) y.plates
  pub blocks : All IsBlock y.blocks
  pub plate_names : AreDistinct (plate_names y.plates)
  pub block_names : AreDistinct (block_names y.blocks)
  pub few_fixed : length y.fixed ≤ 48
  pub fixed : All (IsPiece y.days y.plates) y.fixed
  pub fixed_apart : AllPairs StandApart y.fixed

-- the plate may be added: there is room, it is within the limits, and its name is new
pub record CanAddPlate (y : PlainYard) (p : Plate) : Type 0 where
  pub room : length y.plates < 8
  pub limits : IsPlate y.days p
  pub new : has_name (plate_names y.plates) p.name ≡ false

-- the block may be added
pub record CanAddBlock (y : PlainYard) (b : Block) : Type 0 where
  pub room : length y.blocks < 32
  pub limits : IsBlock b
  pub new : has_name (block_names y.blocks) b.name ≡ false

-- the piece may be added: there is room, it stands inside its plate, and it is apart from the others
pub record CanAddFixed (y : PlainYard) (f : Fixed) : Type 0 where
  pub room : length y.fixed < 48
  pub limits : IsPiece y.days y.plates f
  pub apart : All (λ g. StandApart g f) y.fixed
