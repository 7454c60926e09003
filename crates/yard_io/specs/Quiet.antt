-- What a desk in memory holds.
use Rattle.std.specs.Prelude.{ℕ, ◌-◌, min, List, length, Option, option_map, String, Vec}
use Rattle.std.specs.BTreeMap.{BTreeMap, get_by_text}
use Rattle.std.specs.declared.alloc.Global.{Global}

-- the bytes under a name in a map
abbrev pub text_at : BTreeMap (String Global) (Vec ℕ Global) → List ℕ → Option (List ℕ)
text_at files name = option_map (λ v. v.items) (get_by_text files name)

-- the most that one read gives: no more than the bite, the buffer, and what the file has from there on
abbrev pub read_piece : ℕ → List ℕ → ℕ → List ℕ → ℕ
read_piece bite buf at bytes = min (min bite (length buf)) (length bytes - at)
