-- The keys that each table of a yard file may have.
use Rattle.std.specs.Prelude.{ℕ, zero, suc, Bool, ◌&&◌, List, [], ◌∷◌, Option, Some, None, Result, Ok, Err, if◌then◌else◌, nat_le, nat_lt}
use Rattle.std.specs.Str.{bytes_eq, chars}
use Rattle.std.specs.List.{list_any}
use Rattle.std.specs.Ordering.{nat_cmp, is_lt}
use Rattle.std.specs.Cmp.Lexicographic.{slice_cmp}
use Rattle.arrayvec.specs.ArrayVec.{ArrayVec}
use Rattle.toml.specs.Data.{Members, no_members, member}
use Rattle.yard_file.specs.Places.{word}
use Rattle.yard_file.specs.declared.place.At.{At}
use Rattle.yard_file.specs.declared.place.Key.{Key}
use Rattle.yard_file.specs.declared.place.Key.TheVariants as keys
use Rattle.yard_file.specs.declared.fault.YardFault.{YardFault}
use Rattle.yard_file.specs.declared.fault.YardFault.TheVariants as faults

-- the keys of the top table: pieces that stand come with version 2
abbrev pub top_keys : ℕ → List Key
top_keys version =
    if nat_lt version 2 then keys.Version ∷ keys.Days ∷ keys.Plate ∷ keys.Block ∷ []
    else keys.Version ∷ keys.Days ∷ keys.Plate ∷ keys.Block ∷ keys.Fixed ∷ []

-- the keys of a plate
abbrev pub plate_keys : List Key
plate_keys = keys.Name ∷ keys.Width ∷ keys.Height ∷ keys.Pitch ∷ keys.Closed ∷ []

-- the keys of a block: a cost for being early comes with version 3
abbrev pub block_keys : ℕ → List Key
block_keys version =
    if nat_lt version 3
    then keys.Name ∷ keys.Shape ∷ keys.Turns ∷ keys.Duration ∷ keys.Release ∷ keys.Due ∷ keys.Weight ∷ []
    else keys.Name ∷ keys.Shape ∷ keys.Turns ∷ keys.Duration ∷ keys.Release ∷ keys.Due ∷ keys.Weight ∷ keys.Early ∷ []

-- the keys of a fixed piece
abbrev pub piece_keys : List Key
piece_keys = keys.Plate ∷ keys.Shape ∷ keys.Turn ∷ keys.X ∷ keys.Y ∷ keys.From ∷ keys.To ∷ []

-- the bytes are one of the keys
abbrev pub is_known : List Key → List ℕ → Bool
is_known known k = list_any (λ key. bytes_eq (word key) k) known

-- the keys of a table
abbrev pub keys_in : Members → List (List ℕ)
keys_in no_members = []
keys_in (member k d ms) = k ∷ keys_in ms

-- the first of the keys that is not known
abbrev pub first_unknown : (List ℕ → Bool) → List (List ℕ) → Option (List ℕ)
first_unknown known [] = None
first_unknown known (k ∷ ks) = if known k then first_unknown known ks else Some k

-- the lesser, by its bytes, of a key and another, where there is another
abbrev pub lesser : List ℕ → Option (List ℕ) → List ℕ
lesser k None = k
lesser k (Some m) = if is_lt (slice_cmp nat_cmp k m) then k else m

-- the least of the keys that are not known
abbrev pub least_unknown : (List ℕ → Bool) → List (List ℕ) → Option (List ℕ)
least_unknown known [] = None
least_unknown known (k ∷ ks) = if known k then least_unknown known ks else Some (lesser k (least_unknown known ks))

-- a character of an unknown key as it is shown: a question mark, where it is not printable ASCII
abbrev pub shown : ℕ → ℕ
shown c = if nat_le 32 c && nat_le c 126 then c else 63

-- at most so many characters, as they are shown
abbrev pub shown_characters : ℕ → List ℕ → List ℕ
shown_characters zero cs = []
shown_characters (suc n) [] = []
shown_characters (suc n) (c ∷ cs) = shown c ∷ shown_characters n cs

-- the first 32 characters of a key
abbrev pub shown_word : List ℕ → ArrayVec ℕ
shown_word k = record { items = shown_characters 32 (chars k) }

-- the rule that a table has known keys alone: Unknown tells the least of the others
abbrev pub no_unknown : At → Option (List ℕ) → Result (Unit {0}) YardFault
no_unknown at None = Ok tt
no_unknown at (Some k) = Err (faults.Unknown at (shown_word k))

unfoldable pub known_keys : At → List Key → Members → Result (Unit {0}) YardFault
known_keys at known ms = no_unknown at (least_unknown (is_known known) (keys_in ms))
