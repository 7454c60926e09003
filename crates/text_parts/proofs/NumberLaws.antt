-- A number that is read is spelled so, and what is spelled so is read.
use Rattle.std.proofs.Common.{◌≡◌, ℕ, suc, ◌+◌, ◌-◌, ◌*◌, ◌^◌, ◌<◌, ◌≤◌, Bool, true, false, cond, eqb, leb, ◌&&◌, List, [], ◌∷◌, length, get_or, Option, Some, None, refl, sym, ap, ◌∙◌, inl, inr, arith, rules}
use Rattle.std.specs.Prelude.{IfSome}
use Rattle.std.specs.Fmt.{decimal}
use Rattle.std.specs.Str.{all_ascii_digits}
use Rattle.std.specs.Char.{is_ascii_digit}
use Rattle.std.proofs.lemmas.Bool.{cases_lt, cases_Bool, and_parts, and_from, le-leb, leb-true}
use Rattle.std.proofs.lemmas.Bool.Decides.{nat_tests}
use Rattle.std.proofs.lemmas.Option.{none-some, same_Some}
use Rattle.std.proofs.lemmas.Str.Parse.{IsNumeralModel, numerals_by_fold}
use Rattle.std.proofs.lemmas.Fmt.{digits_decimal, digits_value-decimal, decimal-digits_value, decimal_nonempty, first_decimal, decimal_digit}
use Rattle.text_parts.specs.Parts.{is_plain, read_on, number_of}

-- the number that digits stand for after one that was read
abbrev value_on : ℕ → List ℕ → ℕ
value_on n [] = n
value_on n (c ∷ cs) = value_on (n * 10 + (c - 48)) cs

own : IsNumeralModel (λ ds. all_ascii_digits ds ≡ true) (value_on 0)
own = numerals_by_fold _ (search rules) value_on (search rules)

pub if_some : {A : Type 0} (b : Bool) (o : Option A) (y : A) → cond b o None ≡ Some y → (b ≡ true) × (o ≡ Some y)
if_some true o y e = (refl, e)
if_some false o y e = absurd (none-some y e)

read-takes : (limit n m : ℕ) (text : List ℕ) → n ≤ limit → read_on limit n text ≡ Some m → (all_ascii_digits text ≡ true) × (value_on n text ≡ m) × (m ≤ limit)
read-takes limit n m [] le e = let same = same_Some n m e in (refl, same, omega arith)
read-takes limit n m (c ∷ cs) le e =
    let i = if_some (is_ascii_digit c && leb (n * 10 + (c - 48)) limit) (read_on limit (n * 10 + (c - 48)) cs) m e in
    let parts = and_parts (is_ascii_digit c) (leb (n * 10 + (c - 48)) limit) i.0 in
    let more = read-takes limit (n * 10 + (c - 48)) m cs (leb-true _ _ parts.1) i.1 in
    (and_from (is_ascii_digit c) (all_ascii_digits cs) parts.0 more.0, more.1, more.2)

value_grows : (n : ℕ) (text : List ℕ) → n ≤ value_on n text
value_grows n [] = omega arith
value_grows n (c ∷ cs) = omega (arith, value_grows (n * 10 + (c - 48)) cs)

read-again : (limit n : ℕ) (text : List ℕ) → all_ascii_digits text ≡ true → value_on n text ≤ limit → read_on limit n text ≡ Some (value_on n text)
read-again limit n [] digits within = refl
read-again limit n (c ∷ cs) digits within =
    let parts = and_parts (is_ascii_digit c) (all_ascii_digits cs) digits in
    let below = le-leb (n * 10 + (c - 48)) limit (omega (arith, value_grows (n * 10 + (c - 48)) cs)) in
    rw (parts.0, below) (read-again limit (n * 10 + (c - 48)) cs parts.1 within)

-- what `is_plain` says, in std's words
plain-length : (text : List ℕ) → is_plain text ≡ true → (0 < length text) × (get_or text 0 0 ≡ 48 → length text ≡ 1)
plain-length [] p = absurd cc
plain-length (c ∷ []) p = (omega arith, λ z. refl)
plain-length (c ∷ d ∷ ds) p = (omega arith, λ z. grind (arith, nat_tests))

plain-from : (text : List ℕ) → 0 < length text → (get_or text 0 0 ≡ 48 → length text ≡ 1) → is_plain text ≡ true
plain-from [] some alone = absurd (omega arith)
plain-from (c ∷ []) some alone = refl
plain-from (c ∷ d ∷ ds) some alone =
    elim (cases_Bool (eqb c 48)) [
      | inl t ↦ let bad : suc (suc (length ds)) ≡ 1 = alone (grind (arith, nat_tests)) in absurd (omega arith)
      | inr t ↦ rw t refl
    ]

pub number-takes : (limit n : ℕ) (text : List ℕ) → limit < 2 ^ 64 → number_of limit text ≡ Some n → (text ≡ decimal n) × (n ≤ limit)
unfolding number_of
number-takes limit n text wide e =
    let i = if_some (is_plain text) (read_on limit 0 text) n e in
    let plain = plain-length text i.0 in
    let read = read-takes limit 0 n text (omega arith) i.1 in
    let back = decimal-digits_value own text read.0 plain.0 plain.1 (omega (arith, read.1, read.2)) in
    (sym back ∙ ap decimal read.1, read.2)

decimal_alone : (n : ℕ) → n < 2 ^ 64 → get_or (decimal n) 0 0 ≡ 48 → length (decimal n) ≡ 1
decimal_alone n wide z =
    elim (cases_lt n 10) [
      | inl small ↦ ap length (decimal_digit n small)
      | inr large ↦ let first = first_decimal n (omega arith) wide in absurd (omega arith)
    ]

pub number-again : (limit n : ℕ) → limit < 2 ^ 64 → n ≤ limit → number_of limit (decimal n) ≡ Some n
unfolding number_of
number-again limit n wide within =
    let small : n < 2 ^ 64 = omega arith in
    let plain = plain-from (decimal n) (decimal_nonempty n small) (decimal_alone n small) in
    let value = digits_value-decimal own n small in
    rw plain (read-again limit 0 (decimal n) (digits_decimal own n small) (omega (arith, value)) ∙ ap (λ (k : ℕ). Some k) value)

-- a text that is read as a number is its spelling
pub spelled : (limit : ℕ) (text : List ℕ) (o : Option ℕ) → limit < 2 ^ 64 → o ≡ number_of limit text → IfSome o (λ n. text ≡ decimal n)
spelled limit text None wide is = tt
spelled limit text (Some n) wide is = (number-takes limit n text wide (sym is)).0
