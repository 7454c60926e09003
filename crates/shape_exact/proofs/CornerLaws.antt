-- Least and greatest coordinates.
use Rattle.std.proofs.Common.{◌≡◌, ℕ, zero, suc, ◌+◌, ◌<◌, ◌≤◌, List, [], ◌∷◌, length, map, drop, get_or, refl, arith, add-one}
use Rattle.std.specs.Prelude.{ℤ, ◌≤ℤ◌, fold, negsuc, unsigned_abs}
use Rattle.std.specs.Int.{int_min, int_max}
use Rattle.std.specs.List.{All}
use Rattle.std.proofs.lemmas.Int.{ints, clamps}
use Rattle.std.proofs.lemmas.List.Elements.{All-nil, All-cons, All-head, All-tail}
use Rattle.shape_exact.specs.declared.point.Point.{Point}
use Rattle.shape_exact.specs.Shapes.{least, greatest}

-- one element more of a fold over what is left
pub fold_next : {A : Type 0} (f : ℤ → ℤ → ℤ) (h : A → ℤ) (a : ℤ) (xs : List A) (i : ℕ) (d : A) → i < length xs
    → fold f (f a (h (get_or xs i d))) (map h (drop (i + 1) xs)) ≡ fold f a (map h (drop i xs))
fold_next {A} f h a xs i d l = rw add-one (at xs i l)
  where
    at : (xs : List A) (i : ℕ) → i < length xs → fold f (f a (h (get_or xs i d))) (map h (drop (suc i) xs)) ≡ fold f a (map h (drop i xs))
    at [] i l = absurd (omega arith)
    at (x ∷ xs) zero l = refl
    at (x ∷ xs) (suc i) l = at xs i (omega arith)

fold_max_from : {A : Type 0} (f : A → ℤ) (a : ℤ) (xs : List A) → (a ≤ℤ fold int_max a (map f xs)) × All (λ x. f x ≤ℤ fold int_max a (map f xs)) xs
fold_max_from f a [] = (omega (arith, ints), All-nil _)
fold_max_from {A} f a (x ∷ xs) =
    let h = fold_max_from f (int_max a (f x)) xs in
    let r = fold int_max (int_max a (f x)) (map f xs) in
    (left a (f x) r h.0, All-cons (λ x. f x ≤ℤ r) x xs (right a (f x) r h.0) h.1)
  where
    left : (a b r : ℤ) → int_max a b ≤ℤ r → a ≤ℤ r
    left a b r h = omega (arith, ints, clamps)

    right : (a b r : ℤ) → int_max a b ≤ℤ r → b ≤ℤ r
    right a b r h = omega (arith, ints, clamps)

fold_min_from : {A : Type 0} (f : A → ℤ) (a : ℤ) (xs : List A) → (fold int_min a (map f xs) ≤ℤ a) × All (λ x. fold int_min a (map f xs) ≤ℤ f x) xs
fold_min_from f a [] = (omega (arith, ints), All-nil _)
fold_min_from {A} f a (x ∷ xs) =
    let h = fold_min_from f (int_min a (f x)) xs in
    let r = fold int_min (int_min a (f x)) (map f xs) in
    (left a (f x) r h.0, All-cons (λ x. r ≤ℤ f x) x xs (right a (f x) r h.0) h.1)
  where
    left : (a b r : ℤ) → r ≤ℤ int_min a b → r ≤ℤ a
    left a b r h = omega (arith, ints, clamps)

    right : (a b r : ℤ) → r ≤ℤ int_min a b → r ≤ℤ b
    right a b r h = omega (arith, ints, clamps)

-- each coordinate is at most the greatest one
pub below_greatest : (f : Point → ℤ) (vs : List Point) → All (λ v. f v ≤ℤ greatest f vs) vs
below_greatest f [] = All-nil _
below_greatest f (v ∷ vs) = let h = fold_max_from f (f v) vs in All-cons (λ w. f w ≤ℤ greatest f (v ∷ vs)) v vs h.0 h.1

-- and at least the least one
pub above_least : (f : Point → ℤ) (vs : List Point) → All (λ v. least f vs ≤ℤ f v) vs
above_least f [] = All-nil _
above_least f (v ∷ vs) = let h = fold_min_from f (f v) vs in All-cons (λ w. least f (v ∷ vs) ≤ℤ f w) v vs h.0 h.1

fold_max_within : {A : Type 0} (f : A → ℤ) (k a : ℤ) (xs : List A) → a ≤ℤ k → All (λ x. f x ≤ℤ k) xs → fold int_max a (map f xs) ≤ℤ k
fold_max_within f k a [] h i = h
fold_max_within {A} f k a (x ∷ xs) h i =
    fold_max_within f k (int_max a (f x)) xs (both a (f x) h (All-head (λ x. f x ≤ℤ k) x xs i)) (All-tail (λ x. f x ≤ℤ k) x xs i)
  where
    both : (a b : ℤ) → a ≤ℤ k → b ≤ℤ k → int_max a b ≤ℤ k
    both a b h i = omega (arith, ints, clamps)

fold_min_within : {A : Type 0} (f : A → ℤ) (k a : ℤ) (xs : List A) → k ≤ℤ a → All (λ x. k ≤ℤ f x) xs → k ≤ℤ fold int_min a (map f xs)
fold_min_within f k a [] h i = h
fold_min_within {A} f k a (x ∷ xs) h i =
    fold_min_within f k (int_min a (f x)) xs (both a (f x) h (All-head (λ x. k ≤ℤ f x) x xs i)) (All-tail (λ x. k ≤ℤ f x) x xs i)
  where
    both : (a b : ℤ) → k ≤ℤ a → k ≤ℤ b → k ≤ℤ int_min a b
    both a b h i = omega (arith, ints, clamps)

-- a bound of all coordinates is a bound of the greatest one
pub greatest_within : (f : Point → ℤ) (k : ℤ) (vs : List Point) → 1 ≤ length vs → All (λ v. f v ≤ℤ k) vs → greatest f vs ≤ℤ k
greatest_within f k [] n h = absurd (omega arith)
greatest_within f k (v ∷ vs) n h = fold_max_within f k (f v) vs (All-head (λ w. f w ≤ℤ k) v vs h) (All-tail (λ w. f w ≤ℤ k) v vs h)

-- and of the least one
pub least_within : (f : Point → ℤ) (k : ℤ) (vs : List Point) → 1 ≤ length vs → All (λ v. k ≤ℤ f v) vs → k ≤ℤ least f vs
least_within f k [] n h = absurd (omega arith)
least_within f k (v ∷ vs) n h = fold_min_within f k (f v) vs (All-head (λ w. k ≤ℤ f w) v vs h) (All-tail (λ w. k ≤ℤ f w) v vs h)

-- where all coordinates are near 0, the least one is
pub least_near : (f : Point → ℤ) (vs : List Point) → 1 ≤ length vs → All (λ v. unsigned_abs (f v) ≤ 1000) vs → unsigned_abs (least f vs) ≤ 1000
least_near f [] n h = absurd (omega arith)
least_near f (v ∷ vs) n h =
    at (least f (v ∷ vs)) (f v) (least_within f (negsuc 999) (v ∷ vs) n (λ k d l. low (f (get_or (v ∷ vs) k d)) (h k d l)))
    (above_least f (v ∷ vs) 0 v n) (h 0 v n)
  where
    low : (z : ℤ) → unsigned_abs z ≤ 1000 → negsuc 999 ≤ℤ z
    low z h = omega (arith, ints)

    at : (a b : ℤ) → negsuc 999 ≤ℤ a → a ≤ℤ b → unsigned_abs b ≤ 1000 → unsigned_abs a ≤ 1000
    at a b h i j = omega (arith, ints)
