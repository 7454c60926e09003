-- Lists that are made piece by piece: their lengths and their elements, by sums.
use Rattle.std.proofs.Common.{◌≡◌, ℕ, zero, suc, ◌+◌, ◌*◌, ◌≤◌, ◌<◌, List, [], ◌∷◌, ◌++◌, length, Option, Some, None, refl, sym, ap, ◌∙◌, subst, arith, inl, inr, ◌⊎◌, Bool, true, false, length-append}
use Rattle.std.specs.Prelude.{slice_get}
use Rattle.std.specs.List.{range_with_len, flat_map}
use Rattle.std.proofs.lemmas.List.Concat.{flat_map-append}
use Rattle.std.proofs.lemmas.List.{append-nil, append_assoc}
use Rattle.std.proofs.lemmas.Bool.{cases_lt}
use Rattle.std.proofs.lemmas.Option.{none-some, same_Some}
use Rattle.common_lists.specs.Each.{each, when, for_some, sum_below}

range_more : (a n : ℕ) → range_with_len a (suc n) ≡ range_with_len a n ++ (a + n) ∷ []
range_more a zero = let e : a ≡ a + 0 = omega arith in subst (λ b. a ∷ [] ≡ b ∷ []) e refl
range_more a (suc n) = let e : a + 1 + n ≡ a + suc n = omega arith in
    ap (λ xs. a ∷ xs) (subst (λ b. range_with_len (a + 1) (suc n) ≡ range_with_len (a + 1) n ++ b ∷ []) e (range_more (a + 1) n))

-- one list more
pub each-suc : {A : Type 0} (n : ℕ) (f : ℕ → List A) → each (suc n) f ≡ each n f ++ f n
each-suc n f =
    let e : 0 + n ≡ n = omega arith in
    ap (flat_map f) (subst (λ b. range_with_len 0 (suc n) ≡ range_with_len 0 n ++ b ∷ []) e (range_more 0 n))
    ∙ flat_map-append f (range_with_len 0 n) (n ∷ [])
    ∙ ap (λ xs. flat_map f (range_with_len 0 n) ++ xs) (append-nil (f n))

-- the length is the sum of the lengths
pub length-each : {A : Type 0} (n : ℕ) (f : ℕ → List A) → length (each n f) ≡ sum_below n (λ i. length (f i))
length-each zero f = refl
length-each (suc n) f =
    ap length (each-suc n f) ∙ length-append (each n f) (f n) ∙ ap (λ m. m + length (f n)) (length-each n f)

get_front : {A : Type 0} (xs ys : List A) (k : ℕ) → k < length xs → slice_get (xs ++ ys) k ≡ slice_get xs k
get_front [] ys k l = absurd (omega arith)
get_front (x ∷ xs) ys zero l = refl
get_front (x ∷ xs) ys (suc k) l = get_front xs ys k (omega arith)

get_back : {A : Type 0} (xs ys : List A) (k m : ℕ) → k ≡ length xs + m → slice_get (xs ++ ys) k ≡ slice_get ys m
get_back [] ys k m e = ap (slice_get ys) (let f : k ≡ m = omega arith in f)
get_back (x ∷ xs) ys zero m e = absurd (omega arith)
get_back (x ∷ xs) ys (suc k) m e = get_back xs ys k m (omega arith)

pub sum_below-le : (n i : ℕ) (f : ℕ → ℕ) → i < n → sum_below i f + f i ≤ sum_below n f
sum_below-le zero i f l = absurd (omega arith)
sum_below-le (suc n) i f l = elim (cases_lt i n) [
  | inl below ↦ let h = sum_below-le n i f below in omega arith
  | inr last ↦ let e : n ≡ i = omega arith in
      subst (λ n. sum_below i f + f i ≤ sum_below n f + f n) (sym e) (let r : sum_below i f + f i ≤ sum_below i f + f i = omega arith in r)
]

-- the j-th element of the i-th list stands after the lists before it
pub get-each : {A : Type 0} (n i j : ℕ) (f : ℕ → List A) → i < n → j < length (f i)
    → slice_get (each n f) (sum_below i (λ i. length (f i)) + j) ≡ slice_get (f i) j
get-each zero i j f l m = absurd (omega arith)
get-each (suc n) i j f l m =
    ap (λ xs. slice_get xs (sum_below i (λ i. length (f i)) + j)) (each-suc n f) ∙ elim (cases_lt i n) [
      | inl below ↦
          let a = sum_below-le n i (λ i. length (f i)) below in let b = length-each n f in
          get_front (each n f) (f n) (sum_below i (λ i. length (f i)) + j) (omega arith) ∙ get-each n i j f below m
      | inr last ↦
          let e : i ≡ n = omega arith in let b = length-each n f in
          let c = ap (λ n. sum_below n (λ i. length (f i))) e in
          get_back (each n f) (f n) (sum_below i (λ i. length (f i)) + j) j (omega arith) ∙ ap (λ n. slice_get (f n) j) (sym e)
    ]

-- a list is each of the first lists, and then each of the others
pub each-add : {A : Type 0} (m n : ℕ) (f : ℕ → List A) → each (m + n) f ≡ each m f ++ each n (λ i. f (m + i))
each-add m zero f = ap (λ n. each n f) (let e : m + zero ≡ m = omega arith in e) ∙ sym (append-nil (each m f))
each-add m (suc n) f =
    ap (λ n. each n f) (let e : m + suc n ≡ suc (m + n) = omega arith in e) ∙ each-suc (m + n) f
    ∙ ap (λ xs. xs ++ f (m + n)) (each-add m n f)
    ∙ append_assoc (each m f) (each n (λ i. f (m + i))) (f (m + n))
    ∙ ap (λ xs. each m f ++ xs) (sym (each-suc n (λ i. f (m + i))))

-- two functions that agree below n give one list
pub each_agree : {A : Type 0} (n : ℕ) (f g : ℕ → List A) → ((i : ℕ) → i < n → f i ≡ g i) → each n f ≡ each n g
each_agree zero f g h = refl
each_agree (suc n) f g h =
    each-suc n f ∙ ap (λ xs. xs ++ f n) (each_agree n f g (λ i l. h i (omega arith)))
    ∙ ap (λ xs. each n g ++ xs) (h n (omega arith)) ∙ sym (each-suc n g)

-- nothing, n times
pub each-nil : {A : Type 0} (n : ℕ) → each {A = A} n (λ i. []) ≡ []
each-nil zero = refl
each-nil {A} (suc n) = each-suc {A = A} n (λ i. []) ∙ append-nil (each {A = A} n (λ i. [])) ∙ each-nil n

-- so many of one length
pub sum_below-const : (n m : ℕ) (f : ℕ → ℕ) → ((i : ℕ) → i < n → f i ≡ m) → sum_below n f ≡ n * m
sum_below-const zero m f h = let e : 0 ≡ zero * m = omega arith in e
sum_below-const (suc n) m f h = let a = sum_below-const n m f (λ i l. h i (omega arith)) in let b = h n (omega arith) in omega arith

-- an element of a list stands in its front, or in its back
pub get-append_cases : {A : Type 0} (xs ys : List A) (k : ℕ) (x : A) → slice_get (xs ++ ys) k ≡ Some x
    → (slice_get xs k ≡ Some x) ⊎ ((m : ℕ) × (slice_get ys m ≡ Some x) × (k ≡ length xs + m))
get-append_cases [] ys k x e = inr (k, e, omega arith)
get-append_cases (y ∷ xs) ys zero x e = inl e
get-append_cases (y ∷ xs) ys (suc k) x e = elim (get-append_cases xs ys k x e) [ inl front ↦ inl front | inr back ↦ inr (back.0, back.1, omega arith) ]

-- an element of the lists stands in one of them
pub from-each : {A : Type 0} (n k : ℕ) (f : ℕ → List A) (x : A) → slice_get (each n f) k ≡ Some x
    → (i : ℕ) × (i < n) × (j : ℕ) × (slice_get (f i) j ≡ Some x)
from-each zero k f x e = absurd (none-some x e)
from-each (suc n) k f x e = elim (get-append_cases (each n f) (f n) k x (ap (λ xs. slice_get xs k) (sym (each-suc n f)) ∙ e)) [
  | inl front ↦ let (i, l, j, at) = from-each n k f x front in (i, omega arith, j, at)
  | inr back ↦ (n, omega arith, back.0, back.1)
]

pub from-when : {A : Type 0} (b : Bool) (xs : List A) (k : ℕ) (x : A) → slice_get (when b xs) k ≡ Some x → (b ≡ true) × (slice_get xs k ≡ Some x)
from-when true xs k x e = (refl, e)
from-when false xs k x e = absurd (none-some x e)

pub from-some : {A B : Type 0} (o : Option A) (f : A → List B) (k : ℕ) (y : B) → slice_get (for_some o f) k ≡ Some y
    → (x : A) × (o ≡ Some x) × (slice_get (f x) k ≡ Some y)
from-some None f k y e = absurd (none-some y e)
from-some (Some x) f k y e = (x, refl, e)

pub from-one : {A : Type 0} (x : A) (k : ℕ) (y : A) → slice_get (x ∷ []) k ≡ Some y → x ≡ y
from-one x zero y e = same_Some x y e
from-one x (suc k) y e = absurd (none-some y e)

pub sum-add : (n : ℕ) (f g : ℕ → ℕ) → sum_below n f + sum_below n g ≡ sum_below n (λ i. f i + g i)
sum-add zero f g = omega arith
sum-add (suc n) f g = let h = sum-add n f g in omega arith

pub sum-add_range : (m n : ℕ) (f : ℕ → ℕ) → sum_below (m + n) f ≡ sum_below m f + sum_below n (λ i. f (m + i))
sum-add_range m zero f = ap (λ n. sum_below n f) (let e : m + zero ≡ m = omega arith in e) ∙ (let e : sum_below m f ≡ sum_below m f + 0 = omega arith in e)
sum-add_range m (suc n) f =
    ap (λ n. sum_below n f) (let e : m + suc n ≡ suc (m + n) = omega arith in e)
    ∙ (let h = sum-add_range m n f in let e : sum_below (m + n) f + f (m + n) ≡ sum_below m f + (sum_below n (λ i. f (m + i)) + f (m + n)) = omega arith in e)

-- sums of sums in either order
pub sum-swap : (m n : ℕ) (f : ℕ → ℕ → ℕ) → sum_below m (λ i. sum_below n (f i)) ≡ sum_below n (λ j. sum_below m (λ i. f i j))
sum-swap zero n f = sym (sum_below-const n 0 (λ j. 0) (λ i l. refl) ∙ (let e : n * 0 ≡ 0 = omega arith in e))
sum-swap (suc m) n f =
    ap (λ s. s + sum_below n (f m)) (sum-swap m n f) ∙ sum-add n (λ j. sum_below m (λ i. f i j)) (f m)

-- sums compared term by term
pub sum-le : (n : ℕ) (f g : ℕ → ℕ) → ((i : ℕ) → i < n → f i ≤ g i) → sum_below n f ≤ sum_below n g
sum-le zero f g h = omega arith
sum-le (suc n) f g h = let a = sum-le n f g (λ i l. h i (omega arith)) in let b = h n (omega arith) in omega arith

-- at most one of them is not 0, and that one is 1
pub sum-at_most_one : (n : ℕ) (f : ℕ → ℕ) → ((i : ℕ) → i < n → f i ≤ 1) → ((i j : ℕ) → i < j → j < n → 0 < f i → 0 < f j → ⊥) → sum_below n f ≤ 1
sum-at_most_one zero f one alone = omega arith
sum-at_most_one (suc n) f one alone =
    let a = sum-at_most_one n f (λ i l. one i (omega arith)) (λ i j l m. alone i j l (omega arith)) in
    let b = one n (omega arith) in
    elim (cases_lt 0 (f n)) [
      | inl last ↦
          let none : sum_below n f ≡ 0 = sum_below-const n 0 f (λ i l. elim (cases_lt 0 (f i)) [
            | inl here ↦ absurd (alone i n l (omega arith) here last)
            | inr zero' ↦ omega arith
          ]) ∙ (let e : n * 0 ≡ 0 = omega arith in e) in
          omega arith
      | inr zero' ↦ omega arith
    ]

pub sum-front_le : (m n : ℕ) (f : ℕ → ℕ) → m ≤ n → sum_below m f ≤ sum_below n f
sum-front_le m zero f l = let e : m ≡ 0 = omega arith in subst (λ m. sum_below m f ≤ 0) (sym e) (let r : 0 ≤ 0 = omega arith in r)
sum-front_le m (suc n) f l = elim (cases_lt m (suc n)) [
  | inl below ↦ let h = sum-front_le m n f (omega arith) in omega arith
  | inr same ↦ let e : m ≡ suc n = omega arith in subst (λ m. sum_below m f ≤ sum_below (suc n) f) (sym e) (let r : sum_below (suc n) f ≤ sum_below (suc n) f = omega arith in r)
]

-- a shifted front of a sum
pub sum-shift_le : (m n x : ℕ) (f : ℕ → ℕ) → x + m ≤ n → sum_below m (λ i. f (x + i)) ≤ sum_below n f
sum-shift_le m n x f l = let a = sum-add_range x m f in let b = sum-front_le (x + m) n f l in omega arith

pub sum-times : (n m : ℕ) (f : ℕ → ℕ) → sum_below n f * m ≡ sum_below n (λ i. f i * m)
sum-times zero m f = omega arith
sum-times (suc n) m f = let h = sum-times n m f in omega arith

-- sums of terms that agree
pub sum-agree : (n : ℕ) (f g : ℕ → ℕ) → ((i : ℕ) → i < n → f i ≡ g i) → sum_below n f ≡ sum_below n g
sum-agree zero f g h = refl
sum-agree (suc n) f g h = let a = sum-agree n f g (λ i l. h i (omega arith)) in let b = h n (omega arith) in omega arith

pub when_false : {A : Type 0} (b : Bool) (xs : List A) → b ≡ false → when b xs ≡ []
when_false true xs e = cc
when_false false xs e = refl
