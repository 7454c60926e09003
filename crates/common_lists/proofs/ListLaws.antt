-- Lists, options and truths: what is proved of them in more than one crate.
use Rattle.std.proofs.Common.{◌≡◌, ℕ, zero, suc, ◌-◌, [], ◌∷◌, Some, refl, Bool, true, false, ◌+◌, List, ◌++◌, length, ◌<◌, arith, subst, Option, None, get_or, ◌≢◌, cond, ap, ◌∙◌, take, map, drop, sym, ◌≤◌, set}
use Rattle.std.specs.Prelude.{slice_get, ◌&&◌, MatchOption, Result, Ok, Err, IfOk, if◌then◌else◌, IfSome, unwrap_or}
use Rattle.std.proofs.lemmas.Option.{same_Some, none-some}
use Rattle.std.proofs.lemmas.Bool.{false≢true}
use Rattle.std.specs.List.{All, Contains, filter, sum_by, Any}
use Rattle.std.specs.List.Sorted.{IsPermutation}
use Rattle.std.proofs.lemmas.List.Elements.{All-contains, All-contains_itself}
use Rattle.std.proofs.lemmas.List.Sorted.{Contains-permutation, IsPermutation-sym}
use Rattle.std.proofs.lemmas.List.Sums.{sum_by-cons, sum_by-set}
use mathlib.Core.Option.{some, some-ne-none, some-injective}
use lib.ListN.{get_elem?}
use Rattle.std.specs.Option.{option_map}

pub only_element : {A : Type 0} (x y : A) (m : ℕ) → slice_get (x ∷ []) m ≡ Some y → (m ≡ 0) × (x ≡ y)
only_element x y zero e = (refl, same_Some x y e)
only_element x y (suc m) e = absurd (none-some y e)

pub both_true : (s t : Bool) → (s && t) ≡ true → (s ≡ true) × (t ≡ true)
both_true true t e = (refl, e)
both_true false t e = absurd (false≢true e)

-- what stands in a list stands in it when it has grown
pub get_before : {X : Type 0} (xs ys : List X) (i : ℕ) (x : X) → slice_get xs i ≡ Some x → slice_get (xs ++ ys) i ≡ Some x
get_before [] ys i x e = absurd (none-some x e)
get_before (y ∷ xs) ys zero x e = e
get_before (y ∷ xs) ys (suc i) x e = get_before xs ys i x e

pub get_last : {X : Type 0} (xs : List X) (x : X) → slice_get (xs ++ x ∷ []) (length xs) ≡ Some x
get_last [] x = refl
get_last (y ∷ xs) x = get_last xs x

-- within a list something stands
pub element_at : {A : Type 0} (xs : List A) (i : ℕ) → i < length xs → (x : A) × (slice_get xs i ≡ Some x)
element_at [] i l = absurd (omega arith)
element_at (x ∷ xs) zero l = (x, refl)
element_at (x ∷ xs) (suc i) l = element_at xs i (omega arith)

pub match_some : {T : Type 0} (o : Option T) (A : Type 0) (F : T → Type 0) (x : T) → MatchOption o A F → o ≡ Some x → F x
match_some None A F x h e = absurd (none-some x e)
match_some (Some y) A F x h e = subst F (same_Some y x e) h

pub ok_weaker : {T E : Type 0} (r : Result T E) (P Q : T → Type 0) → ((x : T) → P x → Q x) → IfOk r P → IfOk r Q
ok_weaker (Ok x) P Q f h = f x h
ok_weaker (Err e) P Q f h = tt

pub all_permuted : {X : Type 0} (P : X → Type 0) (xs ys : List X) → IsPermutation xs ys → All P xs → All P ys
all_permuted P xs ys moved h k d l =
    All-contains P xs (get_or ys k d) h (Contains-permutation ys xs (get_or ys k d) (IsPermutation-sym xs ys moved) (All-contains_itself ys k d l))

pub if_true : {A : Type 0} (b : Bool) (x y : A) → b ≡ true → (if b then x else y) ≡ x
if_true true x y e = refl
if_true false x y e = absurd (false≢true e)

pub contains_filter : {X : Type 0} (p : X → Bool) (xs : List X) (x : X) → p x ≡ true → Contains xs x → Contains (filter p xs) x
contains_filter p [] x t (k, l, e) = absurd (omega arith)
contains_filter p (y ∷ xs) x t (zero, l, e) = first (p y) y (filter p xs) x (ap p e ∙ t) e
  where
    first : {X : Type 0} (b : Bool) (y : X) (rest : List X) (x : X) → b ≡ true → y ≡ x → Contains (cond b (y ∷ rest) rest) x
    first true y rest x t e = (0, omega arith, e)
    first false y rest x t e = absurd (false≢true t)
contains_filter p (y ∷ xs) x t (suc k, l, e) = later (p y) y (filter p xs) x (contains_filter p xs x t (k, omega arith, e))
  where
    later : {X : Type 0} (b : Bool) (y : X) (rest : List X) (x : X) → Contains rest x → Contains (cond b (y ∷ rest) rest) x
    later true y rest x (k, l, e) = (suc k, omega arith, e)
    later false y rest x h = h

pub some_weaker : {T : Type 0} (o : Option T) (P Q : T → Type 0) → ((x : T) → P x → Q x) → IfSome o P → IfSome o Q
some_weaker None P Q f h = tt
some_weaker (Some x) P Q f h = f x h

pub take_own : {X : Type 0} (n : ℕ) (xs zs : List X) → length xs ≡ n → take n (xs ++ zs) ≡ xs
take_own zero [] zs e = refl
take_own (suc n) [] zs e = absurd (omega arith)
take_own zero (x ∷ xs) zs e = absurd (omega arith)
take_own (suc n) (x ∷ xs) zs e = ap (λ l. x ∷ l) (take_own n xs zs (omega arith))

pub sum_of_ones : {A : Type 0} (xs : List A) → sum_by (λ (x : A). 1) xs ≡ length xs
sum_of_ones [] = refl
sum_of_ones (x ∷ xs) = let a = sum_by-cons (λ (y : _). 1) x xs in let b = sum_of_ones xs in omega arith

-- an element that stands in a list is there whatever the default
pub get_or-default : {X : Type 0} (xs : List X) (i : ℕ) (d e : X) → i < length xs → get_or xs i d ≡ get_or xs i e
get_or-default [] i d e l = absurd (omega arith)
get_or-default (x ∷ xs) zero d e l = refl
get_or-default (x ∷ xs) (suc i) d e l = get_or-default xs i d e (omega arith)

pub map_length : {X Y : Type 0} (f : X → Y) (xs : List X) → length (map f xs) ≡ length xs
map_length f [] = refl
map_length f (x ∷ xs) = ap suc (map_length f xs)

pub get_map : {X Y : Type 0} (f : X → Y) (xs : List X) (k : ℕ) (x : X) → slice_get xs k ≡ Some x → slice_get (map f xs) k ≡ Some (f x)
get_map f [] k x e = absurd (none-some x e)
get_map f (y ∷ xs) zero x e = ap (λ y. Some (f y)) (same_Some y x e)
get_map f (y ∷ xs) (suc k) x e = get_map f xs k x e

pub get_drop : (n k : ℕ) (xs : List ℕ) → slice_get (drop n xs) k ≡ slice_get xs (n + k)
get_drop zero k xs = ap (slice_get xs) (let e : k ≡ zero + k = omega arith in e)
get_drop (suc n) k [] = refl
get_drop (suc n) k (x ∷ xs) = get_drop n k xs ∙ ap (slice_get (x ∷ xs)) (let e : suc (n + k) ≡ suc n + k = omega arith in e)

pub told_true : (o : Option Bool) → unwrap_or o false ≡ true → o ≡ Some true
told_true None e = absurd (false≢true e)
told_true (Some b) e = ap Some e

pub there : {A : Type 0} (l : List A) (i : ℕ) (a : A) → get_elem? l i ≡ some a → (i < length l) × (get_or l i a ≡ a)
there [] i a e = absurd (some-ne-none a (sym e))
there (x ∷ xs) zero a e = (omega arith, some-injective x a e)
there (x ∷ xs) (suc i) a e = let r = there xs i a e in (omega arith, r.1)

pub any_permuted : {X : Type 0} (P : X → Type 0) (xs ys : List X) → IsPermutation xs ys → Any P xs → Any P ys
any_permuted P xs ys same (k, x, within, is, p) =
    let (j, inside, at) = Contains-permutation xs ys x same (k, within, is) in (j, x, inside, at, p)

pub contains_there : {X : Type 0} (y : X) (xs : List X) (x : X) → Contains xs x → Contains (y ∷ xs) x
contains_there y xs x (k, within, is) = (suc k, omega arith, is)

pub taken_get : {X : Type 0} (xs : List X) (n i : ℕ) (x : X) → i < n → slice_get xs i ≡ Some x → slice_get (take n xs) i ≡ Some x
taken_get [] n i x l e = absurd (none-some x e)
taken_get (y ∷ xs) zero i x l e = absurd (omega arith)
taken_get (y ∷ xs) (suc n) zero x l e = e
taken_get (y ∷ xs) (suc n) (suc i) x l e = taken_get xs n i x (omega arith) e

-- what stands in the front of a list stands in the list
pub get_taken : {X : Type 0} (xs : List X) (i k : ℕ) (x : X) → slice_get (take i xs) k ≡ Some x → (k < i) × (slice_get xs k ≡ Some x)
get_taken xs zero k x e = absurd (none-some x e)
get_taken [] (suc i) k x e = absurd (none-some x e)
get_taken (y ∷ xs) (suc i) zero x e = (omega arith, e)
get_taken (y ∷ xs) (suc i) (suc k) x e = let (l, f) = get_taken xs i k x e in (omega arith, f)

pub take_before : {X : Type 0} (xs ys : List X) (i : ℕ) → i ≤ length xs → take i (xs ++ ys) ≡ take i xs
take_before xs ys zero l = refl
take_before [] ys (suc i) l = absurd (omega arith)
take_before (x ∷ xs) ys (suc i) l = ap (λ l. x ∷ l) (take_before xs ys i (omega arith))

pub get_within : {X : Type 0} (xs : List X) (k : ℕ) (x : X) → slice_get xs k ≡ Some x → k < length xs
get_within [] k x e = absurd (none-some x e)
get_within (y ∷ xs) zero x e = omega arith
get_within (y ∷ xs) (suc k) x e = let r = get_within xs k x e in omega arith

pub map_none : {A B : Type 0} (f : A → B) (o : Option A) → option_map f o ≡ None → o ≡ None
map_none f None h = refl
map_none f (Some x) h = absurd (none-some (f x) (sym h))

-- what stands in a list stands there with one element more
pub get_more : {A : Type 0} (xs : List A) (y : A) (k : ℕ) (x : A) → slice_get xs k ≡ Some x → slice_get (xs ++ y ∷ []) k ≡ Some x
get_more [] y k x e = absurd (none-some x e)
get_more (z ∷ xs) y zero x e = e
get_more (z ∷ xs) y (suc k) x e = get_more xs y k x e

-- the sum of a list in which an element is exchanged
pub sum_set : {A : Type 0} (f : A → ℕ) (l : List A) (i : ℕ) (v w : A) → get_elem? l i ≡ some v → sum_by f (set l i w) + f v ≡ sum_by f l + f w
sum_set f l i v w e = let r = there l i v e in ap (λ x. sum_by f (set l i w) + f x) (sym r.1) ∙ sum_by-set f l i w v r.0
