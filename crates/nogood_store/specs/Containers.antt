-- Stored boxes that contain a given one.
use Rattle.std.specs.Prelude.{◌≡◌, ℕ, ◌<◌, List, slice_get, Some}
use Rattle.plan_rule.specs.Choices.{Choices}
use Rattle.plan_rule.specs.Boxes.{Covers}
use Rattle.plan_rule.specs.declared.literal.Literal.{Literal}
use Rattle.nogood_store.specs.declared.nogood.Nogood.{Nogood}

-- none of the first i boxes contains this one
abbrev pub NoneContains : Choices → List Nogood → List Literal → ℕ → Type 0
NoneContains c nogoods part i = (j : ℕ) (n : Nogood) → j < i → slice_get nogoods j ≡ Some n → Covers c n.part part → ⊥

-- this one stands first among the boxes that contain the given one
abbrev pub IsFirstContainer : Choices → List Nogood → List Literal → Nogood → Type 0
IsFirstContainer c nogoods part n =
    (i : ℕ) × (slice_get nogoods i ≡ Some n) × Covers c n.part part × NoneContains c nogoods part i
