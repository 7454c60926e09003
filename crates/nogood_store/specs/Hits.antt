-- The stored boxes that a prefix of codes lies in.
use Rattle.std.specs.Prelude.{◌≡◌, ℕ, ◌<◌, ◌≤◌, List, [], ◌∷◌, length, slice_index, Option, Some, None, All, Any, min}
use Rattle.plan_rule.specs.declared.literal.Literal.{Literal}
use Rattle.nogood_store.specs.declared.nogood.Nogood.{Nogood}

-- what contracts see of a store: the boxes with their tags, and the codes of the first blocks
pub record PlainStore : Type 0 where
  pub nogoods : List Nogood
  pub prefix : List ℕ

-- the literal is on one of the first blocks, whose codes these are, and holds the code of its block
pub record IsMatched (codes : List ℕ) (l : Literal) : Type 0 where
  pub block_in : l.block < length codes
  pub low : l.lo ≤ slice_index codes l.block
  pub high : slice_index codes l.block < l.hi

-- the box contains the box of these exact codes
abbrev pub Matches : List ℕ → List Literal → Type 0
Matches codes box = All (IsMatched codes) box

-- the least tag of a box that contains the box of these exact codes; none where no box does
abbrev pub IsHit : List Nogood → List ℕ → Option ℕ → Type 0
IsHit nogoods codes None = All (λ n. Matches codes n.part → ⊥) nogoods
IsHit nogoods codes (Some tag) =
    Any (λ n. Matches codes n.part × (n.tag ≡ tag)) nogoods × All (λ n. Matches codes n.part → tag ≤ n.tag) nogoods

-- the tag of the box that stands last
abbrev pub last_tag : List Nogood → Option ℕ
last_tag [] = None
last_tag (n ∷ []) = Some n.tag
last_tag (n ∷ m ∷ rest) = last_tag (m ∷ rest)

-- the lesser of two tags, of which the first may be none
abbrev pub least_of : Option ℕ → ℕ → ℕ
least_of None tag = tag
least_of (Some other) tag = min other tag
