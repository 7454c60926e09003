-- Path numbers never fall along the lexicographic order, and keys never fall along the order of plans.
use Rattle.std.proofs.Common.{◌≡◌, ℕ, zero, suc, ◌+◌, ◌-◌, ◌/◌, ◌^◌, ◌<◌, ◌≤◌, List, [], ◌∷◌, ◌++◌, length, Bool, true, false, leb, if◌then◌else◌, lit<, refl, subst, inl, inr, arith}
use Rattle.std.specs.Prelude.{slice_index}
use Rattle.std.proofs.lemmas.Bool.{true≢false, false≢true, leb-true, leb-false}
use Rattle.std.proofs.lemmas.Nat.{pow_pos}
use Rattle.std.proofs.Math.Nat.{pow-suc}
use Rattle.plan_rule.specs.Choices.{Choices}
use Rattle.plan_rule.specs.Plans.{code_of, IsPlan, IsLexLess, IsBefore}
use Rattle.plan_rule.specs.Paths.{halvings, all_halvings, number_of, path, key}

-- a number of w bits is below 2 ^ w
pub number-below : (w : ℕ) (bits : List Bool) → number_of w bits < 2 ^ w
number-below zero bits = lit< tt
number-below (suc w) [] = pow_pos (suc w)
number-below (suc w) (true ∷ bits) = let h = number-below w bits in rw pow-suc (omega arith)
number-below (suc w) (false ∷ bits) = let h = number-below w bits in rw pow-suc (omega arith)

-- a common front keeps the order of two numbers
front_keeps : (w : ℕ) (front xs ys : List Bool) → ((v : ℕ) → v ≤ w → number_of v xs ≤ number_of v ys) → number_of w (front ++ xs) ≤ number_of w (front ++ ys)
front_keeps zero front xs ys h = omega arith
front_keeps (suc w) [] xs ys h = h (suc w) (omega arith)
front_keeps (suc w) (bit ∷ front) xs ys h = let k = front_keeps w front xs ys (λ v l. h v (omega arith)) in omega arith

-- the first bits decide, or else the rest
less_step : (stop u v : Bool) (w : ℕ) (us vs xs ys : List Bool) → (stop ≡ true → ⊥) → (u ≡ true → v ≡ false → ⊥)
    → (u ≡ v → number_of w (us ++ xs) ≤ number_of w (vs ++ ys))
    → number_of (suc w) ((if stop then [] else u ∷ us) ++ xs) ≤ number_of (suc w) ((if stop then [] else v ∷ vs) ++ ys)
less_step true u v w us vs xs ys go up rest = absurd (go refl)
less_step false true true w us vs xs ys go up rest = let h = rest refl in omega arith
less_step false true false w us vs xs ys go up rest = absurd (up refl refl)
less_step false false true w us vs xs ys go up rest = let h = number-below w (us ++ xs) in omega arith
less_step false false false w us vs xs ys go up rest = let h = rest refl in omega arith

-- two codes in one half of a range
half_less : (n w lo middle hi c d : ℕ) (xs ys : List Bool) (u v : Bool) → leb middle c ≡ u → leb middle d ≡ v → u ≡ v → lo ≤ c → d < hi
    → ((lo hi : ℕ) → lo ≤ c → d < hi → number_of w (halvings n lo hi c ++ xs) ≤ number_of w (halvings n lo hi d ++ ys))
    → number_of w (halvings n (if u then middle else lo) (if u then hi else middle) c ++ xs)
    ≤ number_of w (halvings n (if v then middle else lo) (if v then hi else middle) d ++ ys)
half_less n w lo middle hi c d xs ys true true e f same a b ih = ih middle hi (leb-true middle c e) b
half_less n w lo middle hi c d xs ys true false e f same a b ih = absurd (true≢false same)
half_less n w lo middle hi c d xs ys false true e f same a b ih = absurd (false≢true same)
half_less n w lo middle hi c d xs ys false false e f same a b ih = ih lo middle a (leb-false middle d f)

-- the smaller code of a range has the smaller halvings, whatever follows
halvings-less : (n w lo hi c d : ℕ) (xs ys : List Bool) → w ≤ n → lo ≤ c → c < d → d < hi
    → number_of w (halvings n lo hi c ++ xs) ≤ number_of w (halvings n lo hi d ++ ys)
halvings-less n zero lo hi c d xs ys l a b e = omega arith
halvings-less zero (suc w) lo hi c d xs ys l a b e = absurd (omega arith)
halvings-less (suc n) (suc w) lo hi c d xs ys l a b e =
    less_step (leb (hi - lo) 1) (leb (lo + (hi - lo) / 2) c) (leb (lo + (hi - lo) / 2) d) w _ _ xs ys
    (λ s. let t = leb-true (hi - lo) 1 s in absurd (omega arith))
    (λ s t. let x = leb-true (lo + (hi - lo) / 2) c s in let y = leb-false (lo + (hi - lo) / 2) d t in absurd (omega arith))
    (λ same. half_less n w lo (lo + (hi - lo) / 2) hi c d xs ys _ _ refl refl same a e
    (λ lo' hi' a' e'. halvings-less n w lo' hi' c d xs ys (omega arith) a' b e'))

-- of two lists of codes within the counts, the one that is less at a first place has no larger path
paths-less : (n w : ℕ) (counts p q : List ℕ) (place : ℕ) → w ≤ n → length q ≡ length counts → length p ≡ length counts
    → ((b : ℕ) → b < length counts → code_of q b < slice_index counts b)
    → ((b : ℕ) → b < place → code_of p b ≡ code_of q b) → code_of p place < code_of q place
    → number_of w (all_halvings n counts p) ≤ number_of w (all_halvings n counts q)
paths-less n w [] p q place l e f within same less = omega arith
paths-less n w (m ∷ counts) [] q place l e f within same less = absurd (omega arith)
paths-less n w (m ∷ counts) (c ∷ p) [] place l e f within same less = absurd (omega arith)
paths-less n w (m ∷ counts) (c ∷ p) (d ∷ q) zero l e f within same less =
    halvings-less n w 0 m c d (all_halvings n counts p) (all_halvings n counts q) l (omega arith) less (within 0 (omega arith))
paths-less n w (m ∷ counts) (c ∷ p) (d ∷ q) (suc place) l e f within same less =
    let rest : (v : ℕ) → v ≤ w → number_of v (all_halvings n counts p) ≤ number_of v (all_halvings n counts q) =
    λ v k. paths-less n v counts p q place (omega arith) (omega arith) (omega arith)
    (λ b i. within (suc b) (omega arith)) (λ b i. same (suc b) (omega arith)) less in
    subst (λ d. number_of w (halvings n 0 m c ++ all_halvings n counts p) ≤ number_of w (halvings n 0 m d ++ all_halvings n counts q))
    (same 0 (omega arith)) (front_keeps w (halvings n 0 m c) (all_halvings n counts p) (all_halvings n counts q) rest)

-- path numbers never fall along the lexicographic order
pub path-less : (c : Choices) (p q : List ℕ) → IsPlan c p → IsPlan c q → IsLexLess p q → path c p ≤ path c q
unfolding path
path-less c p q hp hq l = paths-less 32 32 c.counts p q l.place (omega arith) hq.one_each hp.one_each hq.in_range l.same l.less

pub path-below : (c : Choices) (p : List ℕ) → path c p < 2 ^ 32
unfolding path
path-below c p = number-below 32 (all_halvings 32 c.counts p)

-- keys never fall along the order of plans
pub key-before : (c : Choices) (p q : List ℕ) → IsPlan c p → IsPlan c q → IsBefore c p q → key c p ≤ key c q
key-before c p q hp hq before = elim before [
  | inl l ↦ let a = path-below c p in omega arith
  | inr e ↦ let a = path-less c p q hp hq e.1 in let f = e.0 in omega arith
]
