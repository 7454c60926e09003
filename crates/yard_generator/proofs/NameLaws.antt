-- The names of generated plates and blocks: a letter and a number.
use Rattle.std.proofs.Common.{◌≡◌, ℕ, ◌+◌, ◌%◌, ◌<◌, ◌≤◌, ◌^◌, Bool, true, false, ◌||◌, List, [], ◌∷◌, ◌++◌, length, refl, sym, ap, ◌∙◌, inl, inr, lit<, arith}
use Rattle.std.specs.Prelude.{nat_le, ◌&&◌}
use Rattle.std.specs.Fmt.{decimal}
use Rattle.std.specs.List.{list_all}
use Rattle.std.specs.Str.Parse.{digits_value}
use Rattle.std.specs.Str.{bytes_eq}
use Rattle.std.proofs.lemmas.Bool.{and_from, and_parts, cases_Bool, le-leb}
use Rattle.std.proofs.lemmas.Bool.Decides.{nat_tests}
use Rattle.std.proofs.lemmas.Fmt.{decimal_by_steps, decimal_is_IsNumeral, length-decimal-le}
use Rattle.std.proofs.lemmas.Nat.{mod_below}
use Rattle.std.proofs.lemmas.List.Folds.{list_any-append}
use Rattle.std.proofs.lemmas.Slice.Eq.{bytes_eq-Decides}
use Rattle.toml_parser.specs.Lexical.{is_bare}
use Rattle.shape_exact.specs.Names.{is_name_byte, all_name_bytes, is_name}
use Rattle.shape_exact.specs.Yards.{has_name}
use Rattle.yard_generator.proofs.QuoteLaws.{IsName}

all_more : (xs ys : List ℕ) → all_name_bytes xs ≡ true → all_name_bytes ys ≡ true → all_name_bytes (xs ++ ys) ≡ true
all_more [] ys a b = b
all_more (x ∷ xs) ys a b =
    let (one, more) = and_parts (is_name_byte x) (all_name_bytes xs) a in
    and_from (is_name_byte x) (all_name_bytes (xs ++ ys)) one (all_more xs ys more b)

bare_more : (xs ys : List ℕ) → list_all is_bare xs ≡ true → list_all is_bare ys ≡ true → list_all is_bare (xs ++ ys) ≡ true
bare_more [] ys a b = b
bare_more (x ∷ xs) ys a b =
    let (one, more) = and_parts (is_bare x) (list_all is_bare xs) a in
    and_from (is_bare x) (list_all is_bare (xs ++ ys)) one (bare_more xs ys more b)

digit_name : (d : ℕ) → d < 10 → is_name_byte (48 + d) ≡ true
digit_name d l = grind (arith, nat_tests)

digit_bare : (d : ℕ) → d < 10 → is_bare (48 + d) ≡ true
digit_bare d l = grind (arith, nat_tests)

-- the digits of a number may stand in a name
digits_name : (n : ℕ) → n < 2 ^ 64 → all_name_bytes (decimal n) ≡ true
digits_name =
    decimal_by_steps (λ n ds. all_name_bytes ds ≡ true)
    (λ n l. and_from (is_name_byte (48 + n)) true (digit_name n l) refl)
    (λ n ds l h. all_more ds ((48 + n % 10) ∷ []) h (and_from (is_name_byte (48 + n % 10)) true (digit_name (n % 10) (mod_below n 10
    (lit< tt))) refl))

digits_bare : (n : ℕ) → n < 2 ^ 64 → list_all is_bare (decimal n) ≡ true
digits_bare =
    decimal_by_steps (λ n ds. list_all is_bare ds ≡ true)
    (λ n l. and_from (is_bare (48 + n)) true (digit_bare n l) refl)
    (λ n ds l h. bare_more ds ((48 + n % 10) ∷ []) h (and_from (is_bare (48 + n % 10)) true (digit_bare (n % 10) (mod_below n 10
    (lit< tt))) refl))

-- a letter and a number below 100
abbrev pub name_of : ℕ → ℕ → List ℕ
name_of letter i = letter ∷ decimal i

pub name_short : (letter i : ℕ) → i < 100 → length (name_of letter i) ≤ 3
name_short letter i l =
    let few = length-decimal-le 2 i (omega arith) (omega (arith, l)) (omega (arith, l)) in
    omega arith

pub name_is : (letter i : ℕ) → i < 100 → is_name_byte letter ≡ true → is_name (name_of letter i) ≡ true
name_is letter i l is =
    let few = name_short letter i l in
    and_from (nat_le 1 (length (name_of letter i)) && nat_le (length (name_of letter i)) 32) (all_name_bytes (name_of letter i))
    (and_from (nat_le 1 (length (name_of letter i))) (nat_le (length (name_of letter i)) 32)
    (le-leb 1 (length (name_of letter i)) (omega arith)) (le-leb (length (name_of letter i)) 32 (omega arith)))
    (and_from (is_name_byte letter) (all_name_bytes (decimal i)) is (digits_name i (omega (arith, l))))

pub name_bare : (letter i : ℕ) → i < 100 → is_bare letter ≡ true → IsName (name_of letter i)
name_bare letter i l is = and_from (is_bare letter) (list_all is_bare (decimal i)) is (digits_bare i (omega (arith, l)))

abbrev tail_of : List ℕ → List ℕ
tail_of [] = []
tail_of (x ∷ xs) = xs

-- two numbers with one text are one
same_number : (i j : ℕ) → i < 100 → j < 100 → decimal i ≡ decimal j → i ≡ j
same_number i j l m same =
    sym (decimal_is_IsNumeral i (omega (arith, l))).1 ∙ ap (digits_value 10) same ∙ (decimal_is_IsNumeral j (omega (arith, m))).1

pub names_differ : (letter i j : ℕ) → i < j → j < 100 → bytes_eq (name_of letter i) (name_of letter j) ≡ false
names_differ letter i j l m = elim (cases_Bool (bytes_eq (name_of letter i) (name_of letter j))) [
  | inl equal ↦
      let same = ap tail_of ((bytes_eq-Decides (name_of letter i) (name_of letter j)).0 equal) in
      let one = same_number i j (omega (arith, l, m)) m same in
      absurd (omega arith)
  | inr other ↦ other
]

-- no number from i on has its name among these
abbrev pub AreBefore : ℕ → ℕ → List (List ℕ) → Type 0
AreBefore letter i names = (j : ℕ) → i ≤ j → j < 100 → has_name names (name_of letter j) ≡ false

pub none_before : (letter : ℕ) → AreBefore letter 0 []
none_before letter j l m = refl

or_false : (a b : Bool) → a ≡ false → b ≡ false → (a || b) ≡ false
or_false false false e f = refl
or_false false true e f = f
or_false true b e f = e

pub one_more_before : (letter i : ℕ) (names : List (List ℕ)) → AreBefore letter i names
    → AreBefore letter (i + 1) (names ++ name_of letter i ∷ [])
one_more_before letter i names before j l m =
    list_any-append (λ n. bytes_eq n (name_of letter j)) names (name_of letter i ∷ [])
    ∙ or_false (has_name names (name_of letter j)) (bytes_eq (name_of letter i) (name_of letter j) || false)
    (before j (omega (arith, l)) m) (or_false (bytes_eq (name_of letter i) (name_of letter j)) false (names_differ letter i j (omega
    (arith, l)) m) refl)
