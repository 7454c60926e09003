-- The text of a generated yard.
use Rattle.std.specs.Prelude.{ℕ, ◌+◌, ◌-◌, ◌%◌, nat_le, List, [], ◌∷◌, ◌++◌, codes}
use Rattle.std.specs.List.{filter, range_with_len}
use Rattle.std.specs.Fmt.{decimal}
use Rattle.yard_generator.specs.declared.draws.Drawn.{Drawn}
use Rattle.yard_generator.specs.Draws.{blocks_from}

-- a line with a number
abbrev pub number_line : List ℕ → ℕ → List ℕ
number_line key n = key ++ (codes " = " ++ (decimal n ++ codes "\n"))

-- numbers after others, and the end of their list
abbrev pub further : List ℕ → List ℕ
further [] = codes "]"
further (n ∷ ns) = codes ", " ++ (decimal n ++ further ns)

-- numbers in brackets, with a comma and a space between them
abbrev pub numbers : List ℕ → List ℕ
numbers [] = codes "[]"
numbers (n ∷ ns) = codes "[" ++ (decimal n ++ further ns)

-- the days that are closed: the last two of each seven
unfoldable pub closed_days : List ℕ
closed_days = filter (λ day. nat_le 5 (day % 7)) (range_with_len 0 200)

-- the heading and the name of a table: plates are P0, P1 and so on, blocks B0, B1 and so on
abbrev pub head_text : List ℕ → List ℕ → ℕ → List ℕ
head_text table letter i = codes "[[" ++ (table ++ (codes "]]\nname = \"" ++ (letter ++ (decimal i ++ codes "\"\n"))))

-- the sides and the pitch of each plate
abbrev pub sides_text : List ℕ
sides_text = number_line (codes "width") 60 ++ (number_line (codes "height") 40 ++ number_line (codes "pitch") 2)

-- the line of the closed days
abbrev pub closed_text : List ℕ → List ℕ
closed_text days = codes "closed = " ++ (numbers days ++ codes "\n")

-- plate i
unfoldable pub plate_text : ℕ → List ℕ
plate_text i = head_text (codes "plate") (codes "P") i ++ (sides_text ++ closed_text closed_days)

-- the three lower corners of a rectangle, up to where its right side ends
abbrev pub lower_text : ℕ → ℕ → List ℕ
lower_text w low =
    codes "shape = [[0, 0], [" ++ (decimal w ++ (codes ", 0], [" ++ (decimal w ++ (codes ", " ++ (decimal low ++ codes "], ")))))

-- the two upper corners, from where its upper side begins
abbrev pub upper_text : ℕ → ℕ → List ℕ
upper_text near h = codes "[" ++ (decimal near ++ (codes ", " ++ (decimal h ++ (codes "], [0, " ++ (decimal h ++ codes "]]\n")))))

-- a rectangle with the upper right corner cut off
abbrev pub shape_text : ℕ → ℕ → ℕ → List ℕ
shape_text w h c = lower_text w (h - c) ++ upper_text (w - c) h

-- the days and the weight of a block
unfoldable pub figures_text : Drawn → List ℕ
figures_text b =
    number_line (codes "duration") b.duration ++ (number_line (codes "release") b.release
    ++ (number_line (codes "due") b.due ++ number_line (codes "weight") b.weight))

-- block i
unfoldable pub block_text : ℕ → Drawn → List ℕ
block_text i b =
    head_text (codes "block") (codes "B") i
    ++ (shape_text b.width b.height b.cut ++ (codes "turns = [0, 1]\n" ++ figures_text b))

-- the blocks, numbered from i on
abbrev pub blocks_text : ℕ → List Drawn → List ℕ
blocks_text i [] = []
blocks_text i (b ∷ bs) = block_text i b ++ blocks_text (i + 1) bs

-- the text of the yard of a seed and a number of blocks
unfoldable pub yard_text : ℕ → ℕ → List ℕ
yard_text seed blocks =
    codes "version = 1\ndays = 200\n"
    ++ (plate_text 0 ++ (plate_text 1 ++ (plate_text 2 ++ blocks_text 0 (blocks_from blocks seed))))
