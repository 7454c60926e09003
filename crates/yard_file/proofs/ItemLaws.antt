-- The items of a list of values.
use Rattle.std.proofs.Common.{◌≡◌, List, [], ◌∷◌, suc, length, refl, ap}
use Rattle.toml.specs.declared.value.Value.{Value}
use Rattle.toml.specs.View.{items_view}
use Rattle.yard_file.specs.Arrays.{count}

-- there are as many items as values
pub count_items : (vs : List Value) → count (items_view vs) ≡ length vs
count_items [] = refl
count_items (v ∷ vs) = ap suc (count_items vs)
