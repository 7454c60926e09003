-- The text of a yard file that is put together from its parts.
use Rattle.std.specs.Prelude.{ℕ, List, ◌++◌, codes}
use Rattle.std.specs.Fmt.{decimal}

-- a file of version 1 with so many days, these plates and these blocks
abbrev pub file_of : ℕ → List ℕ → List ℕ → List ℕ
file_of days plates blocks =
    codes "version=1\ndays=" ++ (decimal days ++ (codes "\nplate=[" ++ (plates ++ (codes "]\nblock=[" ++ (blocks ++ codes "]\n")))))
