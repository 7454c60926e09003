-- The region of a job, bit by bit: a front of exact codes, and a range of the next block.
use Rattle.std.proofs.Common.{◌≡◌, ℕ, zero, suc, ◌+◌, ◌-◌, ◌/◌, ◌^◌, ◌<◌, ◌≤◌, List, [], ◌∷◌, ◌++◌, Bool, true, false, leb, refl, sym, ap, ◌∙◌, subst, inl, inr, arith, append_assoc}
use Rattle.std.specs.Prelude.{if◌then◌else◌}
use Rattle.std.proofs.lemmas.Bool.{cases_lt, leb-true, le-leb, lt-leb, true≢false, false≢true}
use Rattle.std.proofs.Math.Nat.{pow-suc}
use Rattle.plan_rule.specs.Paths.{halvings, all_halvings, number_of}
use Rattle.plan_rule.specs.Fronts.{AreCodes, InRange, tail_of, IsPart}
use Rattle.plan_rule.proofs.PathLaws.{number-below}

-- the bits of one halving, and of the rest
pub halved : (stop : Bool) (u : Bool) (w : ℕ) (us xs : List Bool) → (stop ≡ true → ⊥)
    → number_of (suc w) ((if stop then [] else u ∷ us) ++ xs) ≡ (if u then 2 ^ w else 0) + number_of w (us ++ xs)
halved true u w us xs go = absurd (go refl)
halved false u w us xs go = refl

-- the middle of a range
abbrev pub middle : ℕ → ℕ → ℕ
middle lo hi = lo + (hi - lo) / 2

pub lower_bits : (u : Bool) (w m lo hi code : ℕ) (xs : List Bool) → u ≡ false
    → (if u then 2 ^ w else 0) + number_of w (halvings m (if u then middle lo hi else lo) (if u then hi else middle lo hi) code ++ xs)
    ≡ number_of w (halvings m lo (middle lo hi) code ++ xs)
lower_bits true w m lo hi code xs e = absurd (true≢false e)
lower_bits false w m lo hi code xs e = omega arith

pub upper_bits : (u : Bool) (w m lo hi code : ℕ) (xs : List Bool) → u ≡ true
    → (if u then 2 ^ w else 0) + number_of w (halvings m (if u then middle lo hi else lo) (if u then hi else middle lo hi) code ++ xs)
    ≡ 2 ^ w + number_of w (halvings m (middle lo hi) hi code ++ xs)
upper_bits true w m lo hi code xs e = refl
upper_bits false w m lo hi code xs e = absurd (false≢true e)

-- the path number of a plan in the lower half, and in the upper half
low_value : (value : List ℕ → ℕ) (all : List ℕ) (n front w : ℕ) (exact : List ℕ) (m lo hi count : ℕ) (counts : List ℕ) (code : ℕ) (q : List ℕ)
    → IsPart value all n front (suc w) exact (suc m) lo hi (count ∷ counts) → 1 < hi - lo → AreCodes (count ∷ counts) (code ∷ q) → lo ≤ code → code < middle lo hi
    → value (exact ++ code ∷ q) ≡ front + number_of w (halvings m lo (middle lo hi) code ++ all_halvings n counts q)
low_value value all n front w exact m lo hi count counts code q part wide codes a b =
    part.inside (code ∷ q) codes (a, omega arith)
    ∙ ap (λ x. front + x) (halved (leb (hi - lo) 1) (leb (middle lo hi) code) w _ (all_halvings n counts q)
    (λ e. let h = leb-true (hi - lo) 1 e in absurd (omega arith))
    ∙ lower_bits (leb (middle lo hi) code) w m lo hi code (all_halvings n counts q) (lt-leb (middle lo hi) code b))

high_value : (value : List ℕ → ℕ) (all : List ℕ) (n front w : ℕ) (exact : List ℕ) (m lo hi count : ℕ) (counts : List ℕ) (code : ℕ) (q : List ℕ)
    → IsPart value all n front (suc w) exact (suc m) lo hi (count ∷ counts) → 1 < hi - lo → AreCodes (count ∷ counts) (code ∷ q) → middle lo hi ≤ code → code < hi
    → value (exact ++ code ∷ q) ≡ front + (2 ^ w + number_of w (halvings m (middle lo hi) hi code ++ all_halvings n counts q))
high_value value all n front w exact m lo hi count counts code q part wide codes a b =
    part.inside (code ∷ q) codes (omega arith, b)
    ∙ ap (λ x. front + x) (halved (leb (hi - lo) 1) (leb (middle lo hi) code) w _ (all_halvings n counts q)
    (λ e. let h = leb-true (hi - lo) 1 e in absurd (omega arith))
    ∙ upper_bits (leb (middle lo hi) code) w m lo hi code (all_halvings n counts q) (le-leb (middle lo hi) code a))

-- the lower half of a job has the lower half of the range
pub lower_half : (value : List ℕ → ℕ) (all : List ℕ) (n front w : ℕ) (exact : List ℕ) (m lo hi count : ℕ) (counts : List ℕ)
    → IsPart value all n front (suc w) exact (suc m) lo hi (count ∷ counts) → 1 < hi - lo
    → IsPart value all n front w exact m lo (middle lo hi) (count ∷ counts)
lower_half value all n front w exact m lo hi count counts part wide = record {
  inside = λ q codes range. lower_inside q codes range;
  only = λ p codes a b.
      let (q, e, rest, range) = part.only p codes a (let h = pow-suc 2 w in omega arith) in
      (q, e, rest, lower_only q rest range (subst (λ p. value p < front + 2 ^ w) e b));
}
  where
    lower_inside : (q : List ℕ) → AreCodes (count ∷ counts) q → InRange lo (middle lo hi) q → value (exact ++ q) ≡ front + number_of w (tail_of n m lo (middle lo hi) (count ∷ counts) q)
    lower_inside [] codes range = absurd codes
    lower_inside (code ∷ q) codes range = low_value value all n front w exact m lo hi count counts code q part wide codes range.0 range.1

    lower_only : (q : List ℕ) → AreCodes (count ∷ counts) q → InRange lo hi q → value (exact ++ q) < front + 2 ^ w → InRange lo (middle lo hi) q
    lower_only [] codes range l = absurd codes
    lower_only (code ∷ q) codes range l = elim (cases_lt code (middle lo hi)) [
      | inl below ↦ (range.0, below)
      | inr above ↦ let h = high_value value all n front w exact m lo hi count counts code q part wide codes above range.1 in absurd (omega arith)
    ]

-- the upper half of a job has the upper half of the range
pub upper_half : (value : List ℕ → ℕ) (all : List ℕ) (n front w : ℕ) (exact : List ℕ) (m lo hi count : ℕ) (counts : List ℕ)
    → IsPart value all n front (suc w) exact (suc m) lo hi (count ∷ counts) → 1 < hi - lo
    → IsPart value all n (front + 2 ^ w) w exact m (middle lo hi) hi (count ∷ counts)
upper_half value all n front w exact m lo hi count counts part wide = record {
  inside = λ q codes range. upper_inside q codes range;
  only = λ p codes a b.
      let (q, e, rest, range) = part.only p codes (omega arith) (let h = pow-suc 2 w in omega arith) in
      (q, e, rest, upper_only q rest range (subst (λ p. front + 2 ^ w ≤ value p) e a));
}
  where
    upper_inside : (q : List ℕ) → AreCodes (count ∷ counts) q → InRange (middle lo hi) hi q → value (exact ++ q) ≡ front + 2 ^ w + number_of w (tail_of n m (middle lo hi) hi (count ∷ counts) q)
    upper_inside [] codes range = absurd codes
    upper_inside (code ∷ q) codes range =
        high_value value all n front w exact m lo hi count counts code q part wide codes range.0 range.1 ∙ (omega arith)

    upper_only : (q : List ℕ) → AreCodes (count ∷ counts) q → InRange lo hi q → front + 2 ^ w ≤ value (exact ++ q) → InRange (middle lo hi) hi q
    upper_only [] codes range l = absurd codes
    upper_only (code ∷ q) codes range l = elim (cases_lt code (middle lo hi)) [
      | inl below ↦
          let h = low_value value all n front w exact m lo hi count counts code q part wide codes range.0 below in
          let b = number-below w (halvings m lo (middle lo hi) code ++ all_halvings n counts q) in absurd (omega arith)
      | inr above ↦ (above, range.1)
    ]

pub one_left : (n lo hi code : ℕ) → hi ≤ lo + 1 → halvings n lo hi code ≡ []
one_left zero lo hi code l = refl
one_left (suc n) lo hi code l = stopped (leb (hi - lo) 1) _ (le-leb (hi - lo) 1 (omega arith))
  where
    stopped : (stop : Bool) (xs : List Bool) → stop ≡ true → (if stop then [] else xs) ≡ []
    stopped true xs e = refl
    stopped false xs e = absurd (false≢true e)

-- the first count, or 0
abbrev pub first_count : List ℕ → ℕ
first_count [] = 0
first_count (count ∷ counts) = count

-- each code is in the whole range
pub whole : (counts q : List ℕ) → AreCodes counts q → InRange 0 (first_count counts) q
whole counts [] codes = tt
whole [] (code ∷ q) codes = absurd codes
whole (count ∷ counts) (code ∷ q) codes = (omega arith, codes.0)

-- a range of one code joins the front, and the next block has its whole range
pub settled : (value : List ℕ → ℕ) (all : List ℕ) (n front w : ℕ) (exact : List ℕ) (m lo hi count : ℕ) (counts : List ℕ)
    → IsPart value all n front w exact m lo hi (count ∷ counts) → hi ≡ lo + 1 → lo < count
    → IsPart value all n front w (exact ++ lo ∷ []) n 0 (first_count counts) counts
settled value all n front w exact m lo hi count counts part one exists = record {
  inside = λ q codes range.
      ap value (append_assoc exact (lo ∷ []) q) ∙ part.inside (lo ∷ q) (exists, codes) (omega arith, omega arith)
      ∙ ap (λ bits. front + number_of w (bits ++ all_halvings n counts q)) (one_left m lo hi lo (omega arith))
      ∙ ap (λ bits. front + number_of w bits) (rest_bits counts q codes);
  only = λ p codes a b.
      let (q, e, rest, range) = part.only p codes a b in only_one p q e rest range;
}
  where
    rest_bits : (counts q : List ℕ) → AreCodes counts q → all_halvings n counts q ≡ tail_of n n 0 (first_count counts) counts q
    rest_bits [] q codes = refl
    rest_bits (count ∷ counts) [] codes = absurd codes
    rest_bits (count ∷ counts) (code ∷ q) codes = refl

    only_one : (p q : List ℕ) → p ≡ exact ++ q → AreCodes (count ∷ counts) q → InRange lo hi q
        → (r : List ℕ) × (p ≡ (exact ++ lo ∷ []) ++ r) × AreCodes counts r × InRange 0 (first_count counts) r
    only_one p [] e codes range = absurd codes
    only_one p (code ∷ q) e codes range =
        let same : code ≡ lo = let a = range.0 in let b = range.1 in omega arith in
        (q, e ∙ ap (λ c. exact ++ c ∷ q) same ∙ sym (append_assoc exact (lo ∷ []) q), codes.1, whole counts q codes.1)
