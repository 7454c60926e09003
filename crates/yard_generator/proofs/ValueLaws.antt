-- The texts of a yard's values are what `toml` writes for them.
use Rattle.std.proofs.Common.{◌≡◌, ℕ, suc, ◌^◌, ◌<◌, ◌≤◌, true, false, List, [], ◌∷◌, ◌++◌, map, pos, refl, arith, rules}
use Rattle.std.specs.Prelude.{codes}
use Rattle.std.specs.Fmt.{decimal}
use Rattle.std.specs.List.{AllByRecursion}
use Rattle.std.proofs.lemmas.Bool.{and_from}
use Rattle.std.proofs.lemmas.Int.{ints}
use Rattle.toml.specs.Data.{Data, string, integer, array, Items, no_items, item, depth, items_depth, has_valid_dates, items_have_valid_dates}
use Rattle.toml.specs.Text.{IsValueText, IsItemsText, breaks_lines}
use Rattle.toml.specs.View.{items_of}
use Rattle.yard_generator.proofs.FormLaws.{quoted, further, bracketed, numbers, point, points}
use Rattle.yard_generator.proofs.QuoteLaws.{IsName, quoted_name}

-- a value, its text, and what `toml` asks of it
pub record IsWritten (d : Data) (t : List ℕ) (deep : ℕ) : Type 0 where
  pub text : IsValueText false d t
  pub depth : depth d ≤ deep
  pub dates : has_valid_dates d ≡ true

abbrev pub whole_number : ℕ → Data
whole_number n = integer (pos n)

pub written_number : (n : ℕ) → n < 2 ^ 63 → IsWritten (whole_number n) (decimal n) 0
written_number n fits = record { text = (refl, search (rules, ints)); depth = omega arith; dates = refl }

pub written_name : (name : List ℕ) → IsName name → IsWritten (string name) (quoted name) 0
written_name name is = record { text = quoted_name name is; depth = omega arith; dates = refl }

no_breaks : (d : Data) (ds : Items) → breaks_lines false (item d ds) ≡ false
no_breaks d no_items = refl
no_breaks d (item e ds) = refl

module _ {X : Type 0} (data_of : X → Data) (text : X → List ℕ) (P : X → Type 0) (deep : ℕ) (one : (x : X) → P x
    → IsWritten (data_of x) (text x) deep) where
  items_text : (xs : List X) → AllByRecursion P xs → IsItemsText false false false (items_of (map data_of xs)) (further (map text xs))
  items_text [] ps = refl
  items_text (x ∷ xs) ps = (text x, further (map text xs), refl, (one x ps.0).text, items_text xs ps.1)

  items_within : (xs : List X) → AllByRecursion P xs → items_depth (items_of (map data_of xs)) ≤ deep
  items_within [] ps = omega arith
  items_within (x ∷ xs) ps = omega (arith, (one x ps.0).depth, items_within xs ps.1)

  items_dates : (xs : List X) → AllByRecursion P xs → items_have_valid_dates (items_of (map data_of xs)) ≡ true
  items_dates [] ps = refl
  items_dates (x ∷ xs) ps = and_from (has_valid_dates (data_of x)) (items_have_valid_dates (items_of (map data_of xs)))
      (one x ps.0).dates (items_dates xs ps.1)

  array_text : (xs : List X) → AllByRecursion P xs → IsValueText false (array (items_of (map data_of xs))) (bracketed (map text xs))
  array_text [] ps = (codes "]", refl, refl)
  array_text (x ∷ xs) ps =
      let flat = no_breaks (data_of x) (items_of (map data_of xs)) in (
        text x ++ further (map text xs),
        refl,
        (
          text x,
          further (map text xs),
          rw flat refl,
          (one x ps.0).text,
          rw flat
              (items_text xs ps.1),
        ),
      )

  pub written_array : (xs : List X) → AllByRecursion P xs → IsWritten (array (items_of (map data_of xs))) (bracketed (map text xs))
      (suc deep)
  written_array xs ps = record { text = array_text xs ps; depth = omega (arith, items_within xs ps); dates = items_dates xs ps }

abbrev pub Fits63 : ℕ → Type 0
Fits63 n = n < 2 ^ 63

abbrev pub number_list : List ℕ → Data
number_list ns = array (items_of (map whole_number ns))

pub written_numbers : (ns : List ℕ) → AllByRecursion Fits63 ns → IsWritten (number_list ns) (numbers ns) 1
written_numbers ns fit = written_array whole_number decimal Fits63 0 written_number ns fit

abbrev pub PointFits : ℕ × ℕ → Type 0
PointFits p = Fits63 p.0 × Fits63 p.1

abbrev pub point_data : ℕ × ℕ → Data
point_data p = number_list (p.0 ∷ p.1 ∷ [])

written_point : (p : ℕ × ℕ) → PointFits p → IsWritten (point_data p) (point p) 1
written_point p fit = written_numbers (p.0 ∷ p.1 ∷ []) (fit.0, (fit.1, tt))

abbrev pub point_list : List (ℕ × ℕ) → Data
point_list ps = array (items_of (map point_data ps))

pub written_points : (ps : List (ℕ × ℕ)) → AllByRecursion PointFits ps → IsWritten (point_list ps) (points ps) 2
written_points ps fit = written_array point_data point PointFits 1 written_point ps fit
