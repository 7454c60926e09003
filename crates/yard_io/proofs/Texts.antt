-- The files of a map after one of them changes.
use Rattle.std.proofs.Common.{◌≡◌, ℕ, List, Option, Some, true, false, option_map, String, Vec, BTreeMap, Global, refl, ap, ◌∙◌, cond, Bool, string_bytes}
use Rattle.std.specs.BTreeMap.{UpdatesBy, get_by_text}
use Rattle.std.specs.Cmp.Lexicographic.{slice_cmp}
use Rattle.std.specs.Ordering.{nat_cmp}
use Rattle.std.specs.String.{string_cmp}
use Rattle.std.specs.Str.{bytes_eq}
use Rattle.std.proofs.lemmas.Map.Text.{btree_map_updates_text}
use Rattle.yard_io.specs.Quiet.{text_at}

map_cond : {X Y : Type 0} (f : X → Y) (b : Bool) (x y : Option X) → option_map f (cond b x y) ≡ cond b (option_map f x) (option_map f y)
map_cond f true x y = refl
map_cond f false x y = refl

pub text_put : (bs : List ℕ) (m n : BTreeMap (String Global) (Vec ℕ Global)) (v : Vec ℕ Global)
    → UpdatesBy string_cmp (λ k. slice_cmp nat_cmp bs (string_bytes k)) m n (Some v)
    → (k : List ℕ) → text_at n k ≡ cond (bytes_eq bs k) (Some v.items) (text_at m k)
text_put bs m n v u k = ap (option_map (λ w. w.items)) (btree_map_updates_text bs m n (Some v) u k) ∙ map_cond (λ w. w.items) (bytes_eq bs k) (Some v) (get_by_text m k)
