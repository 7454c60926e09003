-- The refusal lines.
use Rattle.std.specs.Prelude.{ℕ, List, [], ◌∷◌, ◌++◌, codes, decimal}
use Rattle.std.specs.Fmt.{signed_decimal}
use Rattle.plate_calendar.specs.declared.day_fault.DayFault.{DayFault}
use Rattle.plate_calendar.specs.declared.day_fault.DayFault.TheVariants as day
use Rattle.shape_exact.specs.declared.shape.ShapeFault.{ShapeFault}
use Rattle.shape_exact.specs.declared.shape.ShapeFault.TheVariants as shape
use Rattle.yard_file.specs.Places.{at_text, word}
use Rattle.yard_file.specs.declared.place.At.TheVariants as places
use Rattle.yard_file.specs.declared.fault.YardFault.{YardFault}
use Rattle.yard_file.specs.declared.fault.YardFault.TheVariants as faults

-- words with one space between them, and a line feed
abbrev pub line_of : List (List ℕ) → List ℕ
line_of [] = 10 ∷ []
line_of (w ∷ []) = w ++ 10 ∷ []
line_of (w ∷ ws) = w ++ 32 ∷ line_of ws

-- what is wrong with a list of days, and where
abbrev pub day_words : DayFault → List (List ℕ)
day_words (day.Range i) = codes "Range" ∷ decimal i ∷ []
day_words (day.Twice i) = codes "Twice" ∷ decimal i ∷ []

-- what is wrong with the points of a footprint, and where
abbrev pub shape_words : ShapeFault → List (List ℕ)
shape_words shape.TooFew = codes "TooFew" ∷ []
shape_words shape.TooMany = codes "TooMany" ∷ []
shape_words (shape.Range i) = codes "Range" ∷ decimal i ∷ []
shape_words (shape.Equal i j) = codes "Equal" ∷ decimal i ∷ decimal j ∷ []
shape_words (shape.NotConvex e v) = codes "NotConvex" ∷ decimal e ∷ decimal v ∷ []
shape_words shape.Flat = codes "Flat" ∷ []

-- the words of a fault: its number, its name and its fields
abbrev pub words_of : YardFault → List (List ℕ)
words_of faults.TooLong = codes "refused yard 1 TooLong" ∷ []
words_of faults.NotToml = codes "refused yard 2 NotToml" ∷ []
words_of (faults.Missing at key) = codes "refused yard 3 Missing" ∷ at_text at ∷ word key ∷ []
words_of (faults.Unknown at w) = codes "refused yard 4 Unknown" ∷ at_text at ∷ w.items ∷ []
words_of (faults.Kind at key) = codes "refused yard 5 Kind" ∷ at_text at ∷ word key ∷ []
words_of (faults.Version z) = codes "refused yard 6 Version" ∷ signed_decimal z ∷ []
words_of (faults.Number at key z) = codes "refused yard 7 Number" ∷ at_text at ∷ word key ∷ signed_decimal z ∷ []
words_of faults.NoPlate = codes "refused yard 8 NoPlate" ∷ []
words_of (faults.TooManyPlates n) = codes "refused yard 9 TooManyPlates" ∷ decimal n ∷ []
words_of faults.NoBlock = codes "refused yard 10 NoBlock" ∷ []
words_of (faults.TooManyBlocks n) = codes "refused yard 11 TooManyBlocks" ∷ decimal n ∷ []
words_of (faults.NameTwice at) = codes "refused yard 12 NameTwice" ∷ at_text at ∷ []
words_of (faults.BadName at) = codes "refused yard 13 BadName" ∷ at_text at ∷ []
words_of (faults.Day i fault) = codes "refused yard 14 Day" ∷ at_text (places.Plate i) ∷ day_words fault
words_of (faults.Shape i fault) = codes "refused yard 15 Shape" ∷ at_text (places.Block i) ∷ shape_words fault
words_of (faults.Turn i n) = codes "refused yard 16 Turn" ∷ at_text (places.Block i) ∷ decimal n ∷ []
words_of (faults.TooManyPlacements b n) = codes "refused yard 17 TooManyPlacements" ∷ decimal b ∷ decimal n ∷ []
words_of (faults.TooManyFixed n) = codes "refused yard 19 TooManyFixed" ∷ decimal n ∷ []
words_of (faults.FixedPlate i) = codes "refused yard 20 FixedPlate" ∷ decimal i ∷ []
words_of (faults.FixedShape i fault) = codes "refused yard 21 FixedShape" ∷ at_text (places.Fixed i) ∷ shape_words fault
words_of (faults.FixedDays i) = codes "refused yard 22 FixedDays" ∷ decimal i ∷ []
words_of (faults.FixedOutside i) = codes "refused yard 23 FixedOutside" ∷ decimal i ∷ []
words_of (faults.FixedClash j i) = codes "refused yard 24 FixedClash" ∷ decimal j ∷ decimal i ∷ []
words_of faults.Memory = []

-- the line of a fault, and nothing for want of memory
abbrev pub line : YardFault → List ℕ
line faults.Memory = []
line fault = line_of (words_of fault)
