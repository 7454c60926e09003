-- The characters of an unknown key, as they are shown.
use Rattle.std.proofs.Common.{◌≡◌, ℕ, zero, suc, ◌+◌, ◌-◌, ◌<◌, ◌≤◌, List, [], ◌∷◌, ◌++◌, length, get_or, drop, refl, arith, append_assoc, append-nil}
use Rattle.std.proofs.lemmas.List.{at_drop_more, at_drop_all}
use Rattle.yard_file.specs.Keys.{shown, shown_characters}

pub shown_more : (cs done : List ℕ) (n c : ℕ) → n < 32 → n < length cs → c ≡ get_or cs n c
    → (done ++ shown c ∷ []) ++ shown_characters (32 - (n + 1)) (drop (n + 1) cs) ≡ done ++ shown_characters (32 - n) (drop n cs)
shown_more cs done n c room more is =
    let left : 32 - n ≡ suc (32 - (n + 1)) = omega arith in
    let next = at_drop_more (shown_characters (32 - n)) cs n c more in
    rw (next, left, ← is) (append_assoc done (shown c ∷ []) (shown_characters (32 - (n + 1)) (drop (n + 1) cs)))

no_characters : (n : ℕ) → shown_characters n [] ≡ []
no_characters zero = refl
no_characters (suc n) = refl

pub none_left : (cs done : List ℕ) (n : ℕ) → n ≡ length cs → done ++ shown_characters (32 - n) (drop n cs) ≡ done
none_left cs done n e =
    let past : length cs ≤ n = omega arith in
    rw (at_drop_all (shown_characters (32 - n)) cs n past, no_characters (32 - n)) (simp append-nil)
