-- The bar as a seat has last seen it.
use Rattle.std.specs.Prelude.{ℕ, ◌-◌, ◌^◌, List, [], ◌∷◌}

-- the last of some keys; the greatest u64 where none was seen
abbrev pub last_from : ℕ → List ℕ → ℕ
last_from n [] = n
last_from n (k ∷ ks) = last_from k ks

abbrev pub last_seen : List ℕ → ℕ
last_seen seen = last_from (2 ^ 64 - 1) seen
