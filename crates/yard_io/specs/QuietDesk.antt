-- What contracts see of a desk in memory: its files, what it said, and its bite.
use Rattle.std.specs.Prelude.{◌≡◌, ◌<◌, ◌≤◌, ℕ, List, length, replicate, Option, IfSome}
use Rattle.yard_io.specs.declared.quiet.QuietDesk.{QuietDesk}
use Rattle.yard_io.specs.Quiet.{text_at, read_piece}

-- the most bytes that go in one piece
abbrev pub bite_of : QuietDesk → ℕ
bite_of desk = desk.bite

-- the bytes of the file under a name
abbrev pub file_of : QuietDesk → List ℕ → Option (List ℕ)
file_of desk name = text_at desk.files name

-- the bytes that were said
abbrev pub said_of : QuietDesk → List ℕ
said_of desk = desk.said.items

-- how many bytes a read gives: a piece of the file, or, of a missing file and at or past the end, the whole buffer,
-- filled with 0
pub record ReadsPiece (bite : ℕ) (file : Option (List ℕ)) (at : ℕ) (old new : List ℕ) (n : ℕ) : Type 0 where
  pub inside : IfSome file (λ bytes. at < length bytes → n ≡ read_piece bite old at bytes)
  pub whole : IfSome file (λ bytes. length bytes ≤ at) → n ≡ length old
  pub past : IfSome file (λ bytes. length bytes ≤ at) → new ≡ replicate (length old) 0
