-- Names of plates and blocks.
use Rattle.std.specs.Prelude.{ℕ, Bool, true, ◌||◌, ◌&&◌, ◌==◌, nat_le, List, [], ◌∷◌, length}

-- a byte that a name may have: A-Z, a-z, 0-9, _ or -
abbrev pub is_name_byte : ℕ → Bool
is_name_byte b = (((nat_le 65 b && nat_le b 90) || (nat_le 97 b && nat_le b 122)) || (nat_le 48 b && nat_le b 57)) || (b == 95 || b == 45)

-- each byte is one that a name may have
abbrev pub all_name_bytes : List ℕ → Bool
all_name_bytes [] = true
all_name_bytes (b ∷ bs) = is_name_byte b && all_name_bytes bs

-- 1 to 32 bytes, each of which a name may have
abbrev pub is_name : List ℕ → Bool
is_name bs = (nat_le 1 (length bs) && nat_le (length bs) 32) && all_name_bytes bs
