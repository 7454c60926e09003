-- Names are text.
use Rattle.std.proofs.Common.{◌≡◌, ℕ, zero, suc, get_or, ◌<◌, true, List, [], ◌∷◌, length, arith, ◌&&◌}
use Rattle.std.specs.Prelude.{nat_le}
use Rattle.std.specs.List.{AllByRecursion}
use Rattle.std.specs.Str.{IsUtf8}
use Rattle.std.proofs.lemmas.Bool.{and_parts}
use Rattle.std.proofs.lemmas.Bool.Decides.{nat_tests}
use Rattle.std.proofs.lemmas.Str.{IsUtf8-from_ascii}
use Rattle.shape_exact.specs.Names.{is_name, is_name_byte, all_name_bytes}

name_byte : (b : ℕ) → is_name_byte b ≡ true → b < 128
name_byte b h = grind (arith, nat_tests)

below_128 : (name : List ℕ) → all_name_bytes name ≡ true → AllByRecursion (λ b. b < 128) name
below_128 [] h = tt
below_128 (b ∷ bs) h = let (one, more) = and_parts (is_name_byte b) (all_name_bytes bs) h in (name_byte b one, below_128 bs more)

ascii_at : (text : List ℕ) (i : ℕ) → AllByRecursion (λ b. b < 128) text → get_or text i 0 < 128
ascii_at [] i h = omega arith
ascii_at (b ∷ bs) zero h = h.0
ascii_at (b ∷ bs) (suc i) h = ascii_at bs i h.1

pub name_is_text : (name : List ℕ) → is_name name ≡ true → IsUtf8 name
name_is_text name h =
    IsUtf8-from_ascii name
    (λ i. ascii_at name i (below_128 name (and_parts (nat_le 1 (length name) && nat_le (length name) 32) (all_name_bytes name) h).1))
