-- The first of several values.
use Rattle.std.specs.Prelude.{ℕ, zero, suc, Bool, true, false, Option, Some, None}
use Rattle.std.specs.Option.{option_or}

-- the first of f 0, f 1, .., f (n - 1) that there is
abbrev pub first_below : {A : Type 0} → ℕ → (ℕ → Option A) → Option A
first_below zero f = None
first_below (suc n) f = option_or (first_below n f) (f n)

-- the value, where the test holds
abbrev pub where_so : {A : Type 0} → Bool → A → Option A
where_so true x = Some x
where_so false x = None
