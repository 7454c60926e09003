-- The keys of a table as the map has them: they ascend, and so the first unknown one is the least.
use Rattle.std.proofs.Common.{◌≡◌, ℕ, Bool, List, [], ◌∷◌, map, refl, ap, inl, inr, Less, String, Global, string_bytes}
use Rattle.std.specs.Ordering.{nat_cmp}
use Rattle.std.specs.Cmp.Lexicographic.{slice_cmp}
use Rattle.std.specs.String.{string_cmp}
use Rattle.std.specs.List.{AllByRecursion}
use Rattle.std.specs.List.Sorted.{IsStrictlySortedBy}
use Rattle.std.specs.Map.{keys_of}
use Rattle.std.proofs.lemmas.Bool.{cases_Bool}
use Rattle.toml.specs.declared.value.Value.{Value}
use Rattle.toml.specs.View.{members_view}
use Rattle.yard_file.specs.Keys.{keys_in, first_unknown, least_unknown, lesser}

-- the keys of the members that a map stands for are the bytes of its keys
pub keys_in_view : (es : List (String Global × Value)) → keys_in (members_view es) ≡ map string_bytes (keys_of es)
keys_in_view [] = refl
keys_in_view (e ∷ es) = ap (λ ks. string_bytes e.0 ∷ ks) (keys_in_view es)

-- the key is below each of the others
abbrev Below : List ℕ → List (List ℕ) → Type 0
Below k ks = AllByRecursion (λ m. slice_cmp nat_cmp k m ≡ Less) ks

below_first : (known : List ℕ → Bool) (k : List ℕ) (ks : List (List ℕ)) → Below k ks → lesser k (first_unknown known ks) ≡ k
below_first known k [] h = refl
below_first known k (m ∷ ms) h =
    elim (cases_Bool (known m)) [
      | inl there ↦ rw there (below_first known k ms h.1)
      | inr other ↦ rw (other, h.0) refl
    ]

-- each key is below those after it
abbrev pub Ascend : List (List ℕ) → Type 0
Ascend [] = Unit {0}
Ascend (k ∷ ks) = Below k ks × Ascend ks

pub first_is_least : (known : List ℕ → Bool) (ks : List (List ℕ)) → Ascend ks → first_unknown known ks ≡ least_unknown known ks
first_is_least known [] h = refl
first_is_least known (k ∷ ks) h =
    elim (cases_Bool (known k)) [
      | inl there ↦ rw there (first_is_least known ks h.1)
      | inr other ↦ rw (other, ← first_is_least known ks h.1, below_first known k ks h.0) refl
    ]

below_bytes : (k : String Global) (ks : List (String Global)) → AllByRecursion (λ m. string_cmp k m ≡ Less) ks → Below (string_bytes k) (map string_bytes ks)
below_bytes k [] h = tt
below_bytes k (m ∷ ms) h = (h.0, below_bytes k ms h.1)

pub ascend_bytes : (ks : List (String Global)) → IsStrictlySortedBy string_cmp ks → Ascend (map string_bytes ks)
unfolding IsStrictlySortedBy
ascend_bytes [] h = tt
ascend_bytes (k ∷ ks) h = (below_bytes k ks h.0, ascend_bytes ks h.1)
