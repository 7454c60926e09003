-- A name is written in double quotes as it stands.
use Rattle.std.proofs.Common.{◌≡◌, ℕ, true, false, ◌==◌, List, [], ◌∷◌, refl, arith}
use Rattle.std.specs.Prelude.{nat_le}
use Rattle.std.specs.List.{list_all, list_any}
use Rattle.std.proofs.lemmas.Bool.{and_parts}
use Rattle.std.proofs.lemmas.Bool.Decides.{nat_tests}
use Rattle.toml_parser.specs.Lexical.{is_bare}
use Rattle.toml_writer.specs.Text.{is_control, needs_escape, quotes_after, escaped, encoding_of, string_text, has}
use Rattle.yard_generator.proofs.FormLaws.{quoted}

-- the bytes of names
abbrev pub IsName : List ℕ → Type 0
IsName name = list_all is_bare name ≡ true

record IsPlainByte (c : ℕ) : Type 0 where
  control : is_control c ≡ false
  backslash : (c == 92) ≡ false
  quote : (c == 34) ≡ false
  feed : (c == 10) ≡ false
  tab : (c == 9) ≡ false
  low : nat_le 32 c ≡ true
  delete : (c == 127) ≡ false

plain_byte : (c : ℕ) → is_bare c ≡ true → IsPlainByte c
plain_byte c h = record {
  control = grind (arith, nat_tests);
  backslash = grind (arith, nat_tests);
  quote = grind (arith, nat_tests);
  feed = grind (arith, nat_tests);
  tab = grind (arith, nat_tests);
  low = grind (arith, nat_tests);
  delete = grind (arith, nat_tests);
}

none_control : (name : List ℕ) → IsName name → list_any is_control name ≡ false
none_control [] h = refl
none_control (c ∷ cs) h =
    let (one, more) = and_parts (is_bare c) (list_all is_bare cs) h in
    rw ((plain_byte c one).control, none_control cs more) refl

has_no : (b : ℕ) (name : List ℕ) → ((c : ℕ) → is_bare c ≡ true → (c == b) ≡ false) → IsName name → has b name ≡ false
has_no b [] other h = refl
has_no b (c ∷ cs) other h =
    let (one, more) = and_parts (is_bare c) (list_all is_bare cs) h in
    rw (other c one, has_no b cs other more) refl

escaped_name : (name : List ℕ) → IsName name → escaped false 0 name ≡ name
unfolding escaped needs_escape quotes_after
escaped_name [] h = refl
escaped_name (c ∷ cs) h =
    let (one, more) = and_parts (is_bare c) (list_all is_bare cs) h in
    let p = plain_byte c one in
    rw (p.quote, p.feed, p.backslash, p.tab, p.low, p.delete, escaped_name cs more) refl

pub quoted_name : (name : List ℕ) → IsName name → quoted name ≡ string_text name
unfolding string_text encoding_of
quoted_name name h =
    let a = none_control name h in
    let b = has_no 92 name (λ c one. (plain_byte c one).backslash) h in
    let q = has_no 34 name (λ c one. (plain_byte c one).quote) h in
    let f = has_no 10 name (λ c one. (plain_byte c one).feed) h in
    rw (a, b, q, f, escaped_name name h) refl
