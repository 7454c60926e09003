-- The line that tells why a log is not accepted.
use Rattle.std.specs.Prelude.{ℕ, List, [], ◌∷◌, ◌++◌, codes, decimal}
use Rattle.log_checker.specs.declared.verdict.Refused.{Refused}
use Rattle.log_checker.specs.declared.verdict.Refused.TheVariants.{PlanNotFeasible, BadCite, Uncovered, BoundLow, NotEmpty, BadForm, PlanMeetsFixed}

-- a line of a word and one number
abbrev pub told : List ℕ → ℕ → List ℕ
told word n = word ++ decimal n ++ 10 ∷ []

-- a line of a word and two numbers
abbrev pub told_two : List ℕ → ℕ → ℕ → List ℕ
told_two word m n = word ++ decimal m ++ 32 ∷ (decimal n ++ 10 ∷ [])

-- the line
abbrev pub refused_line : Refused → List ℕ
refused_line (PlanNotFeasible a b) = told_two (codes "not certified 1 PlanNotFeasible ") a b
refused_line (BadCite step cite) = told_two (codes "not certified 2 BadCite ") step cite
refused_line (Uncovered step code) = told_two (codes "not certified 3 Uncovered ") step code
refused_line (BoundLow step bound) = told_two (codes "not certified 4 BoundLow ") step bound
refused_line NotEmpty = codes "not certified 5 NotEmpty\n"
refused_line (BadForm step) = told (codes "not certified 6 BadForm ") step
refused_line (PlanMeetsFixed block piece) = told_two (codes "not certified 7 PlanMeetsFixed ") block piece
