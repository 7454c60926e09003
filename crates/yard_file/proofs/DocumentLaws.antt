-- The document of bytes that TOML takes or refuses.
use Rattle.std.proofs.Common.{◌≡◌, List, ℕ, Some, None, inl, inr}
use Rattle.std.specs.Str.{IsUtf8, is_utf8}
use Rattle.std.proofs.lemmas.Str.{IsUtf8-from_is_utf8, is_utf8-from_IsUtf8}
use Rattle.std.proofs.lemmas.Bool.{cases_Bool}
use Rattle.toml.specs.Data.{Members}
use Rattle.toml.specs.Parse.{parse_document}
use Rattle.yard_file.specs.Documents.{document}

-- what TOML takes is the document
pub document_taken : (bytes : List ℕ) (ms : Members) → IsUtf8 bytes → parse_document bytes ≡ Some ms → document bytes ≡ Some ms
unfolding document
document_taken bytes ms text taken = rw (is_utf8-from_IsUtf8 bytes text) taken

-- where TOML takes no text of these bytes there is no document
pub document_refused : (bytes : List ℕ) → (IsUtf8 bytes → parse_document bytes ≡ None) → document bytes ≡ None
unfolding document
document_refused bytes refused =
    elim (cases_Bool (is_utf8 bytes)) [
      | inl text ↦ rw text (refused (IsUtf8-from_is_utf8 bytes text))
      | inr other ↦ rw other
    ]
