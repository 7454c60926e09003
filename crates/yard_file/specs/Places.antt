-- The words for tables and keys.
use Rattle.std.specs.Prelude.{ℕ, List, ◌++◌, codes, decimal}
use Rattle.yard_file.specs.declared.place.At.{At}
use Rattle.yard_file.specs.declared.place.At.TheVariants as places
use Rattle.yard_file.specs.declared.place.Key.{Key}
use Rattle.yard_file.specs.declared.place.Key.TheVariants as keys

-- a table, numbered from 0
abbrev pub at_text : At → List ℕ
at_text places.Top = codes "top"
at_text (places.Plate i) = codes "plate " ++ decimal i
at_text (places.Block i) = codes "block " ++ decimal i
at_text (places.Fixed i) = codes "fixed " ++ decimal i

-- a key as it stands in a file
abbrev pub word : Key → List ℕ
word keys.Version = codes "version"
word keys.Days = codes "days"
word keys.Plate = codes "plate"
word keys.Block = codes "block"
word keys.Name = codes "name"
word keys.Width = codes "width"
word keys.Height = codes "height"
word keys.Pitch = codes "pitch"
word keys.Closed = codes "closed"
word keys.Shape = codes "shape"
word keys.Turns = codes "turns"
word keys.Duration = codes "duration"
word keys.Release = codes "release"
word keys.Due = codes "due"
word keys.Weight = codes "weight"
word keys.Early = codes "early"
word keys.Fixed = codes "fixed"
word keys.Turn = codes "turn"
word keys.X = codes "x"
word keys.Y = codes "y"
word keys.From = codes "from"
word keys.To = codes "to"
