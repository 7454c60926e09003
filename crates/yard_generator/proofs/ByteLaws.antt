-- The text of a yard is UTF-8.
use Rattle.std.proofs.Common.{◌≡◌, ℕ, zero, suc, ◌<◌, Bool, true, List, [], ◌∷◌, ◌++◌, map, get_or, refl, lit<, arith}
use Rattle.std.specs.Prelude.{codes, nat_lt, ◌&&◌}
use Rattle.std.specs.Fmt.{decimal}
use Rattle.std.specs.List.{flat_map, list_all, AllByRecursion}
use Rattle.std.specs.Str.{IsUtf8, is_utf8}
use Rattle.std.proofs.lemmas.Bool.{and_parts, ltb-true}
use Rattle.std.proofs.lemmas.Bool.Decides.{nat_tests}
use Rattle.std.proofs.lemmas.Str.{IsUtf8-append, IsUtf8-nil, IsUtf8-from_ascii, is_utf8-from_IsUtf8}
use Rattle.std.proofs.lemmas.Fmt.{IsAscii-decimal}
use Rattle.toml_parser.specs.Lexical.{is_bare}
use Rattle.shape_exact.specs.declared.plate.Plate.{Plate}
use Rattle.yard_generator.proofs.FormLaws.{Form, line, heading, quoted, further, bracketed, numbers, point, points, plate_text, figures_text, block_text, yard_text}
use Rattle.yard_generator.proofs.QuoteLaws.{IsName}
use Rattle.yard_generator.proofs.ValueLaws.{Fits63, PointFits}
use Rattle.yard_generator.proofs.SpellLaws.{HasPlateText, HasBlockText, HasYardText}

-- a text of bytes below 128
abbrev is_ascii : List ℕ → Bool
is_ascii [] = true
is_ascii (c ∷ cs) = nat_lt c 128 && is_ascii cs

ascii_at : (t : List ℕ) (i : ℕ) → is_ascii t ≡ true → get_or t i 0 < 128
ascii_at [] i h = omega arith
ascii_at (c ∷ cs) zero h = ltb-true c 128 (and_parts (nat_lt c 128) (is_ascii cs) h).0
ascii_at (c ∷ cs) (suc i) h = ascii_at cs i (and_parts (nat_lt c 128) (is_ascii cs) h).1

literal : (t : List ℕ) → is_ascii t ≡ true → IsUtf8 t
literal t h = IsUtf8-from_ascii t (λ i. ascii_at t i h)

bare_below : (c : ℕ) → is_bare c ≡ true → c < 128
bare_below c h = grind (arith, nat_tests)

name_at : (name : List ℕ) (i : ℕ) → IsName name → get_or name i 0 < 128
name_at [] i h = omega arith
name_at (c ∷ cs) zero h = bare_below c (and_parts (is_bare c) (list_all is_bare cs) h).0
name_at (c ∷ cs) (suc i) h = name_at cs i (and_parts (is_bare c) (list_all is_bare cs) h).1

text_name : (name : List ℕ) → IsName name → IsUtf8 (quoted name)
text_name name is = IsUtf8-append (34 ∷ []) (name ++ 34 ∷ []) (literal (34 ∷ []) refl) (IsUtf8-append name (34 ∷ [])
    (IsUtf8-from_ascii name (λ i. name_at name i is)) (literal (34 ∷ []) refl))

text_number : (n : ℕ) → Fits63 n → IsUtf8 (decimal n)
text_number n fits = IsUtf8-from_ascii (decimal n) (IsAscii-decimal n (omega arith))

module _ {X : Type 0} (text : X → List ℕ) (P : X → Type 0) (one : (x : X) → P x → IsUtf8 (text x)) where
  text_further : (xs : List X) → AllByRecursion P xs → IsUtf8 (further (map text xs))
  text_further [] ps = literal (codes "]") refl
  text_further (x ∷ xs) ps = IsUtf8-append (codes ", ") (text x ++ further (map text xs)) (literal (codes ", ") refl) (IsUtf8-append
      (text x) (further (map text xs)) (one x ps.0) (text_further xs ps.1))

  text_bracketed : (xs : List X) → AllByRecursion P xs → IsUtf8 (bracketed (map text xs))
  text_bracketed [] ps = literal (codes "[]") refl
  text_bracketed (x ∷ xs) ps = IsUtf8-append (codes "[") (text x ++ further (map text xs)) (literal (codes "[") refl) (IsUtf8-append
      (text x) (further (map text xs)) (one x ps.0) (text_further xs ps.1))

  text_each : (xs : List X) → AllByRecursion P xs → IsUtf8 (flat_map text xs)
  text_each [] ps = IsUtf8-nil
  text_each (x ∷ xs) ps = IsUtf8-append (text x) (flat_map text xs) (one x ps.0) (text_each xs ps.1)

text_numbers : (ns : List ℕ) → AllByRecursion Fits63 ns → IsUtf8 (numbers ns)
text_numbers ns fit = text_bracketed decimal Fits63 text_number ns fit

text_point : (p : ℕ × ℕ) → PointFits p → IsUtf8 (point p)
text_point p fit = text_numbers (p.0 ∷ p.1 ∷ []) (fit.0, (fit.1, tt))

text_points : (ps : List (ℕ × ℕ)) → AllByRecursion PointFits ps → IsUtf8 (points ps)
text_points ps fit = text_bracketed point PointFits text_point ps fit

text_line : (key value : List ℕ) → is_ascii key ≡ true → IsUtf8 value → IsUtf8 (line key value)
text_line key value bare is =
    IsUtf8-append key (codes " = " ++ (value ++ 10 ∷ [])) (literal key bare)
    (IsUtf8-append (codes " = ") (value ++ 10 ∷ []) (literal (codes " = ") refl) (IsUtf8-append value (10 ∷ []) is (literal
    (10 ∷ []) refl)))

text_plate : (p : Plate) → HasPlateText p → IsUtf8 (plate_text p)
unfolding plate_text
text_plate p h =
    IsUtf8-append _ _ (literal (heading (codes "plate")) refl) (IsUtf8-append _ _ (text_line (codes "name") (quoted p.name) refl
    (text_name p.name h.name))
    (IsUtf8-append _ _ (text_line (codes "width") (decimal p.width) refl (text_number p.width h.width)) (IsUtf8-append _ _ (text_line
    (codes "height") (decimal p.height) refl (text_number p.height h.height))
    (IsUtf8-append _ _ (text_line (codes "pitch") (decimal p.pitch) refl (text_number p.pitch h.pitch)) (text_line (codes "closed")
    (numbers p.closed) refl (text_numbers p.closed h.closed))))))

text_block : (b : Form) → HasBlockText b → IsUtf8 (block_text b)
unfolding block_text figures_text
text_block b h =
    IsUtf8-append _ _ (literal (heading (codes "block")) refl) (IsUtf8-append _ _ (text_line (codes "name") (quoted b.name) refl
    (text_name b.name h.name))
    (IsUtf8-append _ _ (text_line (codes "shape") (points b.shape) refl (text_points b.shape h.shape)) (IsUtf8-append _ _ (text_line
    (codes "turns") (numbers b.turns) refl (text_numbers b.turns h.turns))
    (IsUtf8-append _ _ (text_line (codes "duration") (decimal b.duration) refl (text_number b.duration h.duration)) (IsUtf8-append _ _
    (text_line (codes "release") (decimal b.release) refl (text_number b.release h.release))
    (IsUtf8-append _ _ (text_line (codes "due") (decimal b.due) refl (text_number b.due h.due)) (text_line (codes "weight")
    (decimal b.weight) refl (text_number b.weight h.weight))))))))

-- the test that a reader makes
pub yard_is_utf8 : (days : ℕ) (ps : List Plate) (bs : List Form) → HasYardText days ps bs → is_utf8 (yard_text days ps bs) ≡ true
unfolding yard_text
yard_is_utf8 days ps bs h =
    is_utf8-from_IsUtf8 _ (IsUtf8-append _ _ (text_line (codes "version") (decimal 1) refl (text_number 1 (lit< tt)))
    (IsUtf8-append _ _ (text_line (codes "days") (decimal days) refl (text_number days h.days))
    (IsUtf8-append _ _ (text_each plate_text HasPlateText text_plate ps h.plates)
    (text_each block_text HasBlockText text_block bs h.blocks))))
