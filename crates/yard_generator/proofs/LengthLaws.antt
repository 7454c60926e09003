-- The text of a generated yard is short.
use Rattle.std.proofs.Common.{◌≡◌, ℕ, ◌+◌, ◌*◌, ◌<◌, ◌≤◌, List, [], ◌∷◌, ◌++◌, map, length, lit<, arith, length-append}
use Rattle.std.specs.Prelude.{codes}
use Rattle.std.specs.Fmt.{decimal}
use Rattle.std.specs.List.{flat_map, AllByRecursion}
use Rattle.std.proofs.lemmas.Fmt.{length-decimal-le}
use Rattle.shape_exact.specs.declared.plate.Plate.{Plate}
use Rattle.yard_generator.proofs.FormLaws.{Form, line, heading, quoted, further, numbers, point, points, plate_text, figures_text, block_text, yard_text}

-- a number of at most three digits
abbrev pub IsSmall : ℕ → Type 0
IsSmall n = n < 1000

abbrev pub IsSmallPoint : ℕ × ℕ → Type 0
IsSmallPoint p = IsSmall p.0 × IsSmall p.1

number_le : (n : ℕ) → IsSmall n → length (decimal n) ≤ 3
number_le n small = length-decimal-le 3 n (omega arith) (omega (arith, small)) (omega (arith, small))

further_le : (ns : List ℕ) → AllByRecursion IsSmall ns → length (further (map decimal ns)) ≤ 5 * length ns + 1
further_le [] small = omega arith
further_le (n ∷ ns) small =
    let a = number_le n small.0 in
    let b = further_le ns small.1 in
    let c = length-append (decimal n) (further (map decimal ns)) in
    omega arith

numbers_le : (ns : List ℕ) → AllByRecursion IsSmall ns → length (numbers ns) ≤ 5 * length ns + 2
numbers_le [] small = omega arith
numbers_le (n ∷ ns) small =
    let a = number_le n small.0 in
    let b = further_le ns small.1 in
    let c = length-append (decimal n) (further (map decimal ns)) in
    omega arith

point_le : (p : ℕ × ℕ) → IsSmallPoint p → length (point p) ≤ 12
point_le p small = numbers_le (p.0 ∷ p.1 ∷ []) (small.0, (small.1, tt))

further_points_le : (ps : List (ℕ × ℕ)) → AllByRecursion IsSmallPoint ps → length (further (map point ps)) ≤ 14 * length ps + 1
further_points_le [] small = omega arith
further_points_le (p ∷ ps) small =
    let a = point_le p small.0 in
    let b = further_points_le ps small.1 in
    let c = length-append (point p) (further (map point ps)) in
    omega arith

points_le : (ps : List (ℕ × ℕ)) → AllByRecursion IsSmallPoint ps → length (points ps) ≤ 14 * length ps + 2
points_le [] small = omega arith
points_le (p ∷ ps) small =
    let a = point_le p small.0 in
    let b = further_points_le ps small.1 in
    let c = length-append (point p) (further (map point ps)) in
    omega arith

line_le : (key value : List ℕ) (k v : ℕ) → length key ≤ k → length value ≤ v → length (line key value) ≤ k + v + 4
line_le key value k v short small =
    let a = length-append key (codes " = " ++ (value ++ codes "\n")) in
    let b = length-append value (codes "\n") in
    omega arith

name_le : (name : List ℕ) (n : ℕ) → length name ≤ n → length (quoted name) ≤ n + 2
name_le name n short = let a = length-append name (34 ∷ []) in omega arith

plate_heading : length (heading (codes "plate")) ≤ 10
plate_heading = omega arith

block_heading : length (heading (codes "block")) ≤ 10
block_heading = omega arith

-- what a plate and a block need to have a short text
pub record HasShortPlate (p : Plate) : Type 0 where
  pub name : length p.name ≤ 32
  pub width : IsSmall p.width
  pub height : IsSmall p.height
  pub pitch : IsSmall p.pitch
  pub closed : AllByRecursion IsSmall p.closed
  pub few : length p.closed ≤ 200

pub record HasShortBlock (b : Form) : Type 0 where
  pub name : length b.name ≤ 32
  pub shape : AllByRecursion IsSmallPoint b.shape
  pub corners : length b.shape ≤ 16
  pub turns : AllByRecursion IsSmall b.turns
  pub few : length b.turns ≤ 4
  pub duration : IsSmall b.duration
  pub release : IsSmall b.release
  pub due : IsSmall b.due
  pub weight : IsSmall b.weight

closed_le : (p : Plate) → HasShortPlate p → length (numbers p.closed) ≤ 1002
closed_le p h = let closed = numbers_le p.closed h.closed in let few = h.few in omega arith

-- a line of a number
figure_le : (key : List ℕ) (n k : ℕ) → length key ≤ k → IsSmall n → length (line key (decimal n)) ≤ k + 7
figure_le key n k short small = let a = line_le key (decimal n) k 3 short (number_le n small) in omega arith

named_le : (name : List ℕ) → length name ≤ 32 → length (line (codes "name") (quoted name)) ≤ 42
named_le name short = line_le (codes "name") (quoted name) 4 34 (omega arith) (name_le name 32 short)

sum_six : (a b c d e f : List ℕ) → length (a ++ (b ++ (c ++ (d ++ (e ++ f))))) ≡ length a + (length b + (length c + (length d +
    (length e + length f))))
sum_six a b c d e f =
    let one = length-append a (b ++ (c ++ (d ++ (e ++ f)))) in
    let two = length-append b (c ++ (d ++ (e ++ f))) in
    let three = length-append c (d ++ (e ++ f)) in
    let four = length-append d (e ++ f) in
    let five = length-append e f in
    omega arith

plate_le : (p : Plate) → HasShortPlate p → length (plate_text p) ≤ 2000
unfolding plate_text
plate_le p h =
    let sum = sum_six (heading (codes "plate")) (line (codes "name") (quoted p.name)) (line (codes "width") (decimal p.width))
    (line (codes "height") (decimal p.height)) (line (codes "pitch") (decimal p.pitch)) (line (codes "closed") (numbers p.closed)) in
    let a = plate_heading in
    let b = named_le p.name h.name in
    let c = figure_le (codes "width") p.width 5 (omega arith) h.width in
    let d = figure_le (codes "height") p.height 6 (omega arith) h.height in
    let e = figure_le (codes "pitch") p.pitch 5 (omega arith) h.pitch in
    let f = line_le (codes "closed") (numbers p.closed) 6 1002 (omega arith) (closed_le p h) in
    omega arith

sum_four : (a b c d : List ℕ) → length (a ++ (b ++ (c ++ d))) ≡ length a + (length b + (length c + length d))
sum_four a b c d =
    let one = length-append a (b ++ (c ++ d)) in
    let two = length-append b (c ++ d) in
    let three = length-append c d in
    omega arith

figures_le : (b : Form) → HasShortBlock b → length (figures_text b) ≤ 100
unfolding figures_text
figures_le b h =
    let sum = sum_four (line (codes "duration") (decimal b.duration)) (line (codes "release") (decimal b.release))
    (line (codes "due") (decimal b.due)) (line (codes "weight") (decimal b.weight)) in
    let c = figure_le (codes "duration") b.duration 8 (omega arith) h.duration in
    let d = figure_le (codes "release") b.release 7 (omega arith) h.release in
    let e = figure_le (codes "due") b.due 3 (omega arith) h.due in
    let f = figure_le (codes "weight") b.weight 6 (omega arith) h.weight in
    omega arith

shape_le : (b : Form) → HasShortBlock b → length (points b.shape) ≤ 226
shape_le b h = let shape = points_le b.shape h.shape in let corners = h.corners in omega arith

turns_le : (b : Form) → HasShortBlock b → length (numbers b.turns) ≤ 22
turns_le b h = let turns = numbers_le b.turns h.turns in let few = h.few in omega arith

block_le : (b : Form) → HasShortBlock b → length (block_text b) ≤ 2000
unfolding block_text
block_le b h =
    let sum = sum_four (heading (codes "block")) (line (codes "name") (quoted b.name)) (line (codes "shape") (points b.shape))
    (line (codes "turns") (numbers b.turns) ++ figures_text b) in
    let last = length-append (line (codes "turns") (numbers b.turns)) (figures_text b) in
    let a = block_heading in
    let c = named_le b.name h.name in
    let d = line_le (codes "shape") (points b.shape) 5 226 (omega arith) (shape_le b h) in
    let e = line_le (codes "turns") (numbers b.turns) 5 22 (omega arith) (turns_le b h) in
    let f = figures_le b h in
    omega arith

plates_le : (ps : List Plate) → AllByRecursion HasShortPlate ps → length (flat_map plate_text ps) ≤ 2000 * length ps
plates_le [] h = omega arith
plates_le (p ∷ ps) h =
    let a = plate_le p h.0 in
    let b = plates_le ps h.1 in
    let c = length-append (plate_text p) (flat_map plate_text ps) in
    omega arith

blocks_le : (bs : List Form) → AllByRecursion HasShortBlock bs → length (flat_map block_text bs) ≤ 2000 * length bs
blocks_le [] h = omega arith
blocks_le (b ∷ bs) h =
    let a = block_le b h.0 in
    let c = blocks_le bs h.1 in
    let d = length-append (block_text b) (flat_map block_text bs) in
    omega arith

-- a yard of at most 8 plates and 32 blocks
pub yard_le : (days : ℕ) (ps : List Plate) (bs : List Form) → IsSmall days → AllByRecursion HasShortPlate ps
    → AllByRecursion HasShortBlock bs
    → length ps ≤ 8 → length bs ≤ 32 → length (yard_text days ps bs) ≤ 1048576
unfolding yard_text
yard_le days ps bs small short_plates short_blocks few_plates few_blocks =
    let plates = plates_le ps short_plates in
    let blocks = blocks_le bs short_blocks in
    let sum = sum_four (line (codes "version") (decimal 1)) (line (codes "days") (decimal days)) (flat_map plate_text ps)
    (flat_map block_text bs) in
    let a = figure_le (codes "version") 1 7 (omega arith) (lit< tt) in
    let b = figure_le (codes "days") days 4 (omega arith) small in
    omega arith
