-- `AllZip` of two lists of different types, with one more element in each.
use Rattle.std.proofs.Common.{◌≡◌, sym, subst, ℕ, ◌+◌, ◌<◌, List, [], ◌∷◌, ◌++◌, length, take, get_or}
use Rattle.std.specs.List.{AllZip}
use Rattle.std.proofs.lemmas.List.{take_more}
use Rattle.shape_exact.specs.Plane.{Every, Some_of}
use Rattle.std.proofs.Common.{inl, inr}

pub zip_push : {X Y : Type 0} (R : X → Y → Type 0) (xs : List X) (ys : List Y) (x : X) (y : Y) → AllZip R xs ys → R x y → AllZip R (xs ++ x ∷ []) (ys ++ y ∷ [])
zip_push R [] [] x y h r = (r, tt)
zip_push R [] (b ∷ ys) x y h r = absurd h
zip_push R (a ∷ xs) [] x y h r = absurd h
zip_push R (a ∷ xs) (b ∷ ys) x y h r = (h.0, zip_push R xs ys x y h.1 r)

pub zip_more : {X Y : Type 0} (R : X → Y → Type 0) (xs : List X) (ys : List Y) (i : ℕ) (x : X) (y : Y) → i < length xs → get_or xs i x ≡ x → AllZip R (take i xs) ys → R x y → AllZip R (take (i + 1) xs) (ys ++ y ∷ [])
zip_more {X} {Y} R xs ys i x y l e h r =
    let m = take_more xs i x l in
    subst (λ (zs : List X). AllZip R zs (ys ++ y ∷ [])) (sym m) (subst (λ (a : X). AllZip R (take i xs ++ a ∷ []) (ys ++ y ∷ [])) (sym e) (zip_push R (take i xs) ys x y h r))

-- each of the first list has one of the second, and the other way round
pub zip_some : {X Y : Type 0} (R : X → Y → Type 0) (xs : List X) (ys : List Y) → AllZip R xs ys → Every (λ x. Some_of (R x) ys) xs
zip_some R [] ys h = tt
zip_some R (x ∷ xs) [] h = absurd h
zip_some R (x ∷ xs) (y ∷ ys) h = (inl h.0, widen xs (zip_some R xs ys h.1))
  where
    widen : (zs : List _) → Every (λ a. Some_of (R a) ys) zs → Every (λ a. Some_of (R a) (y ∷ ys)) zs
    widen [] k = tt
    widen (z ∷ zs) k = (inr k.0, widen zs k.1)

pub zip_back : {X Y : Type 0} (R : X → Y → Type 0) (xs : List X) (ys : List Y) → AllZip R xs ys → Every (λ y. Some_of (λ x. R x y) xs) ys
zip_back R [] [] h = tt
zip_back R [] (y ∷ ys) h = absurd h
zip_back R (x ∷ xs) [] h = tt
zip_back R (x ∷ xs) (y ∷ ys) h = (inl h.0, widen ys (zip_back R xs ys h.1))
  where
    widen : (zs : List _) → Every (λ b. Some_of (λ a. R a b) xs) zs → Every (λ b. Some_of (λ a. R a b) (x ∷ xs)) zs
    widen [] k = tt
    widen (z ∷ zs) k = (inr k.0, widen zs k.1)
