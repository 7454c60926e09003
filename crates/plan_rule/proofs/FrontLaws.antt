-- What is left after each step: a block with one code is exact, a range is halved, and past the last block bits are 0.
use Rattle.std.proofs.Common.{◌≡◌, ℕ, zero, suc, ◌+◌, ◌-◌, ◌*◌, ◌^◌, ◌<◌, ◌≤◌, List, [], ◌∷◌, ◌++◌, length, length-append, drop, refl, sym, ap, ◌∙◌, subst, inl, inr, arith}
use Rattle.std.specs.Prelude.{slice_index}
use Rattle.std.proofs.Math.Nat.{pow-suc}
use Rattle.std.proofs.Math.Seq.{drop-cons, get_or-append_seam}
use Rattle.std.proofs.lemmas.Bool.{cases_lt}
use Rattle.std.proofs.lemmas.List.{get_or_append_left}
use Rattle.std.proofs.lemmas.Nat.{pow_pos}
use Rattle.plan_rule.specs.declared.region.Left.{Left}
use Rattle.plan_rule.specs.Choices.{Choices, blocks, count}
use Rattle.plan_rule.specs.Plans.{IsPlan, code_of}
use Rattle.plan_rule.specs.Paths.{all_halvings, number_of, path}
use Rattle.plan_rule.specs.Fronts.{AreCodes, tail_of, IsPart, HasCodes, IsRange, IsSettled, IsLeft}
use Rattle.plan_rule.proofs.RegionLaws.{first_count, middle, lower_half, upper_half, settled, whole}

first_of_drop : (counts : List ℕ) (i : ℕ) → first_count (drop i counts) ≡ slice_index counts i
first_of_drop [] zero = refl
first_of_drop [] (suc i) = refl
first_of_drop (count ∷ counts) zero = refl
first_of_drop (count ∷ counts) (suc i) = first_of_drop counts i

drop_all : (counts : List ℕ) (i : ℕ) → length counts ≤ i → drop i counts ≡ []
drop_all [] zero l = refl
drop_all [] (suc i) l = refl
drop_all (count ∷ counts) zero l = absurd (omega arith)
drop_all (count ∷ counts) (suc i) l = drop_all counts i (omega arith)

-- a plan's codes are codes
pub codes_of_plan : (counts q : List ℕ) → length q ≡ length counts → ((b : ℕ) → b < length counts → code_of q b < slice_index counts b) → AreCodes counts q
codes_of_plan [] [] e within = tt
codes_of_plan [] (code ∷ q) e within = absurd (omega arith)
codes_of_plan (count ∷ counts) [] e within = absurd (omega arith)
codes_of_plan (count ∷ counts) (code ∷ q) e within =
    (within 0 (omega arith), codes_of_plan counts q (omega arith) (λ b l. within (suc b) (omega arith)))

no_bits : (w : ℕ) → number_of w [] ≡ 0
no_bits zero = refl
no_bits (suc w) = refl

-- before the first bit each block has its whole range
start_part : (n : ℕ) (value : List ℕ → ℕ) (counts : List ℕ) → ((q : List ℕ) → value q ≡ number_of n (all_halvings n counts q))
    → IsPart value counts n 0 n [] n 0 (first_count counts) counts
start_part n value counts is = record {
  inside = λ q codes range. is q ∙ ap (number_of n) (same counts q codes) ∙ (let e : number_of n (tail_of n n 0 (first_count counts) counts q) ≡ 0 + number_of n (tail_of n n 0 (first_count counts) counts q) = omega arith in e);
  only = λ p codes a b. (p, refl, codes, whole counts p codes);
}
  where
    same : (counts q : List ℕ) → AreCodes counts q → all_halvings n counts q ≡ tail_of n n 0 (first_count counts) counts q
    same [] q codes = refl
    same (count ∷ counts) [] codes = absurd codes
    same (count ∷ counts) (code ∷ q) codes = refl

pub start_left : (c : Choices) (left : Left) → left.exact ≡ [] → left.lo ≡ 0 → left.hi ≡ count c 0 → IsLeft c 0 32 left
unfolding path
start_left c left e f g =
    let part : IsPart (path c) c.counts 32 0 32 [] 32 0 (first_count c.counts) c.counts = start_part 32 (path c) c.counts (λ q. refl) in
    let hi : first_count c.counts ≡ left.hi = first_of_drop c.counts 0 ∙ sym g in
    record {
      m = 32;
      enough = omega arith;
      few = omega arith;
      are_codes = λ b l. let none : length left.exact ≡ 0 = ap length e in absurd (omega arith);
      part = subst (λ exact. IsPart (path c) c.counts 32 0 32 exact 32 left.lo left.hi (drop (length exact) c.counts)) (sym e)
          (subst (λ lo. IsPart (path c) c.counts 32 0 32 [] 32 lo left.hi c.counts) (sym f)
          (subst (λ hi. IsPart (path c) c.counts 32 0 32 [] 32 0 hi c.counts) hi part));
    }

-- a range of one code is exact
abbrev pub exact_next : Choices → Left → ℕ → Left
exact_next c left hi = record { exact = left.exact ++ left.lo ∷ []; lo = 0; hi = hi }

more_length : (xs : List ℕ) (x : ℕ) → length (xs ++ x ∷ []) ≡ suc (length xs)
more_length xs x = length-append xs (x ∷ []) ∙ (let e : length xs + length (x ∷ []) ≡ suc (length xs) = omega arith in e)

pub settle_left : (c : Choices) (front w : ℕ) (left : Left) (hi : ℕ) → IsLeft c front w left → IsRange c left → left.hi ≡ left.lo + 1
    → hi ≡ count c (length (left.exact ++ left.lo ∷ [])) → IsLeft c front w (exact_next c left hi)
settle_left c front w left hi is (inr gone) one e = let h = gone.2 in absurd (omega arith)
settle_left c front w left hi is (inl (exist, some, within)) one e =
    let k : ℕ = length left.exact in
    let cs : List ℕ = c.counts in
    let cons : drop k cs ≡ slice_index cs k ∷ drop (suc k) cs = drop-cons cs k 0 exist in
    let here = subst (λ xs. IsPart (path c) cs 32 front w left.exact is.m left.lo left.hi xs) cons is.part in
    let next = settled (path c) cs 32 front w left.exact is.m left.lo left.hi (slice_index cs k) (drop (suc k) cs) here one (omega arith) in
    let long : suc k ≡ length (left.exact ++ left.lo ∷ []) = sym (more_length left.exact left.lo) in
    let high : first_count (drop (suc k) cs) ≡ hi = first_of_drop cs (suc k) ∙ ap (slice_index cs) long ∙ sym e in
    record {
      m = 32;
      enough = is.few;
      few = is.few;
      are_codes = λ b l. elim (cases_lt b k) [
        | inl below ↦ let same = get_or_append_left left.exact (left.lo ∷ []) 0 b below in let f = is.are_codes b below in omega arith
        | inr last ↦
            let at : b ≡ k = omega arith in
            subst (λ b. code_of (left.exact ++ left.lo ∷ []) b < count c b) (sym at)
            (let same = get_or-append_seam left.exact left.lo [] 0 in omega arith)
      ];
      part = subst (λ i. IsPart (path c) cs 32 front w (left.exact ++ left.lo ∷ []) 32 0 hi (drop i cs)) long
          (subst (λ h. IsPart (path c) cs 32 front w (left.exact ++ left.lo ∷ []) 32 0 h (drop (suc k) cs)) high next);
    }

pub settle_range : (c : Choices) (left : Left) (hi : ℕ) → HasCodes c → IsRange c left → left.hi ≡ left.lo + 1
    → hi ≡ count c (length (left.exact ++ left.lo ∷ [])) → IsRange c (exact_next c left hi)
settle_range c left hi has (inr gone) one e = let h = gone.2 in absurd (omega arith)
settle_range c left hi has (inl (exist, some, within)) one e =
    let long = more_length left.exact left.lo in
    elim (cases_lt (length (left.exact ++ left.lo ∷ [])) (blocks c)) [
      | inl more ↦ let h = has (length (left.exact ++ left.lo ∷ [])) more in inl (more, omega arith, omega arith)
      | inr done ↦
          let none : slice_index c.counts (length (left.exact ++ left.lo ∷ [])) ≡ 0 =
          sym (first_of_drop c.counts (length (left.exact ++ left.lo ∷ []))) ∙ ap first_count (drop_all c.counts (length (left.exact ++ left.lo ∷ [])) done) in
          inr (omega arith, refl, e ∙ none)
    ]

-- a half of what is left
abbrev pub with_range : Left → ℕ → ℕ → Left
with_range left lo hi = record { exact = left.exact; lo = lo; hi = hi }

lower_part : (value : List ℕ → ℕ) (all : List ℕ) (n front w : ℕ) (exact : List ℕ) (m lo hi count : ℕ) (counts : List ℕ)
    → suc w ≤ m → IsPart value all n front (suc w) exact m lo hi (count ∷ counts) → 1 < hi - lo
    → (k : ℕ) × (w ≤ k) × IsPart value all n front w exact k lo (middle lo hi) (count ∷ counts)
lower_part value all n front w exact zero lo hi count counts l part wide = absurd (omega arith)
lower_part value all n front w exact (suc m) lo hi count counts l part wide =
    (m, omega arith, lower_half value all n front w exact m lo hi count counts part wide)

upper_part : (value : List ℕ → ℕ) (all : List ℕ) (n front w : ℕ) (exact : List ℕ) (m lo hi count : ℕ) (counts : List ℕ)
    → suc w ≤ m → IsPart value all n front (suc w) exact m lo hi (count ∷ counts) → 1 < hi - lo
    → (k : ℕ) × (w ≤ k) × IsPart value all n (front + 2 ^ w) w exact k (middle lo hi) hi (count ∷ counts)
upper_part value all n front w exact zero lo hi count counts l part wide = absurd (omega arith)
upper_part value all n front w exact (suc m) lo hi count counts l part wide =
    (m, omega arith, upper_half value all n front w exact m lo hi count counts part wide)

pub lower_left : (c : Choices) (front w : ℕ) (left : Left) → IsLeft c front (suc w) left → length left.exact < blocks c → 1 < left.hi - left.lo
    → IsLeft c front w (with_range left left.lo (middle left.lo left.hi))
lower_left c front w left is exist wide =
    let k : ℕ = length left.exact in
    let cs : List ℕ = c.counts in
    let cons : drop k cs ≡ slice_index cs k ∷ drop (suc k) cs = drop-cons cs k 0 exist in
    let here = subst (λ xs. IsPart (path c) cs 32 front (suc w) left.exact is.m left.lo left.hi xs) cons is.part in
    let (m, enough, half) = lower_part (path c) cs 32 front w left.exact is.m left.lo left.hi (slice_index cs k) (drop (suc k) cs) is.enough here wide in
    let few = is.few in
    record {
      m = m;
      enough = enough;
      few = omega arith;
      are_codes = is.are_codes;
      part = subst (λ xs. IsPart (path c) cs 32 front w left.exact m left.lo (middle left.lo left.hi) xs) (sym cons) half;
    }

pub upper_left : (c : Choices) (front w : ℕ) (left : Left) → IsLeft c front (suc w) left → length left.exact < blocks c → 1 < left.hi - left.lo
    → IsLeft c (front + 2 ^ w) w (with_range left (middle left.lo left.hi) left.hi)
upper_left c front w left is exist wide =
    let k : ℕ = length left.exact in
    let cs : List ℕ = c.counts in
    let cons : drop k cs ≡ slice_index cs k ∷ drop (suc k) cs = drop-cons cs k 0 exist in
    let here = subst (λ xs. IsPart (path c) cs 32 front (suc w) left.exact is.m left.lo left.hi xs) cons is.part in
    let (m, enough, half) = upper_part (path c) cs 32 front w left.exact is.m left.lo left.hi (slice_index cs k) (drop (suc k) cs) is.enough here wide in
    let few = is.few in
    record {
      m = m;
      enough = enough;
      few = omega arith;
      are_codes = is.are_codes;
      part = subst (λ xs. IsPart (path c) cs 32 (front + 2 ^ w) w left.exact m (middle left.lo left.hi) left.hi xs) (sym cons) half;
    }

gone_part : (value : List ℕ → ℕ) (all : List ℕ) (n front w : ℕ) (exact : List ℕ) (m lo hi : ℕ)
    → IsPart value all n front (suc w) exact m lo hi [] → IsPart value all n front w exact m lo hi []
gone_part value all n front w exact m lo hi part = record {
  inside = λ q codes range. part.inside q codes range ∙ ap (λ n. front + n) (sym (no_bits w));
  only = λ p codes a b. part.only p codes a (let h = pow-suc 2 w in omega arith);
}

-- past the last block the next bit is 0
pub gone_left : (c : Choices) (front w : ℕ) (left : Left) → IsLeft c front (suc w) left → blocks c ≤ length left.exact → IsLeft c front w left
gone_left c front w left is gone =
    let none : drop (length left.exact) c.counts ≡ [] = drop_all c.counts (length left.exact) gone in
    let enough = is.enough in
    let few = is.few in
    record {
      m = is.m;
      enough = omega arith;
      few = omega arith;
      are_codes = is.are_codes;
      part = subst (λ xs. IsPart (path c) c.counts 32 front w left.exact is.m left.lo left.hi xs) (sym none)
          (gone_part (path c) c.counts 32 front w left.exact is.m left.lo left.hi
          (subst (λ xs. IsPart (path c) c.counts 32 front (suc w) left.exact is.m left.lo left.hi xs) none is.part));
    }

gone_value : (value : List ℕ → ℕ) (all : List ℕ) (n front w : ℕ) (exact : List ℕ) (m lo hi : ℕ) (p : List ℕ)
    → IsPart value all n front (suc w) exact m lo hi [] → AreCodes all p → front ≤ value p → value p < front + 2 ^ suc w → value p ≡ front
gone_value value all n front w exact m lo hi p part codes a b =
    let (q, e, rest, range) = part.only p codes a b in
    ap value e ∙ part.inside q rest range ∙ (let f : front + 0 ≡ front = omega arith in f)

pub gone_none : (c : Choices) (front w : ℕ) (left : Left) → IsLeft c front (suc w) left → blocks c ≤ length left.exact
    → (q : List ℕ) → IsPlan c q → front + 2 ^ w ≤ path c q → path c q < front + 2 ^ w * 2 → ⊥
gone_none c front w left is gone q plan a b =
    let none : drop (length left.exact) c.counts ≡ [] = drop_all c.counts (length left.exact) gone in
    let twice = pow-suc 2 w in
    let pos = pow_pos w in
    let same = gone_value (path c) c.counts 32 front w left.exact is.m left.lo left.hi q
    (subst (λ xs. IsPart (path c) c.counts 32 front (suc w) left.exact is.m left.lo left.hi xs) none is.part)
    (codes_of_plan c.counts q plan.one_each plan.in_range) (omega arith) (omega arith) in
    omega arith

-- an empty range says that no block is left
pub past_last : (c : Choices) (left : Left) → IsRange c left → left.hi ≡ 0 → blocks c ≤ length left.exact
past_last c left (inl some) none = let a = some.1 in absurd (omega arith)
past_last c left (inr gone) none = let e = gone.0 in omega arith

-- a range that is not empty has at least two codes of a block that is left
pub wide_range : (c : Choices) (left : Left) → IsRange c left → IsSettled left → (left.hi ≡ 0 → ⊥)
    → (length left.exact < blocks c) × (1 < left.hi - left.lo)
wide_range c left (inl (exist, some, within)) settled some' =
    (exist, let differ : left.hi - left.lo ≡ 1 → ⊥ = λ e. settled (omega arith) in omega arith)
wide_range c left (inr gone) settled some = absurd (some gone.2)
