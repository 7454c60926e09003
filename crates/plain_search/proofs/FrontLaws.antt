-- Fronts with one code more, what they cost, and the plans that begin with them.
use Rattle.std.proofs.Common.{◌≡◌, ℕ, zero, suc, ◌+◌, ◌<◌, ◌≤◌, List, [], ◌∷◌, ◌++◌, length, refl, sym, ap, ◌∙◌, subst, inl, inr, arith, length-append}
use Rattle.std.proofs.lemmas.Bool.{cases_lt}
use Rattle.std.proofs.lemmas.List.{get_or_append_left, get_or_push, get_or_past}
use Rattle.plan_rule.specs.Choices.{Choices, MeetsSome, blocks, count}
use Rattle.plan_rule.specs.Plans.{code_of, IsPlan, total, IsLexLess, IsBefore, Extends}
use Rattle.plan_rule.proofs.OrderLaws.{lex_trans}
use Rattle.plain_search.specs.Fronts.{cost_below, IsFront, IsClear, IsFloor}

pub old_code : (front : List ℕ) (code b : ℕ) → b < length front → code_of (front ++ code ∷ []) b ≡ code_of front b
old_code front code b l = get_or_append_left front (code ∷ []) 0 b l

pub new_code : (front : List ℕ) (code b : ℕ) → b ≡ length front → code_of (front ++ code ∷ []) b ≡ code
new_code front code b e = get_or_push front code 0 b (sym e)

-- a code more that clashes with none before it, and meets no piece
pub front_more : (c : Choices) (front : List ℕ) (code : ℕ) → IsFront c front → length front < blocks c → code < count c (length front)
    → IsClear c front code → IsFront c (front ++ code ∷ [])
front_more c front code h l m free =
    let n = length-append front (code ∷ []) in
    record {
      few = omega arith;
      in_range = λ b k. elim (cases_lt b (length front)) [
        | inl below ↦ subst (λ x. x < count c b) (sym (old_code front code b below)) (h.in_range b below)
        | inr last ↦
            let e : b ≡ length front = omega arith in
            subst (λ b. code_of (front ++ code ∷ []) b < count c b) (sym e)
            (subst (λ x. x < count c (length front)) (sym (new_code front code (length front) refl)) m)
      ];
      clear = λ a b k j clash. elim (cases_lt b (length front)) [
        | inl below ↦ h.clear a b k below
            (subst (λ x. c.Clash a x b (code_of front b)) (old_code front code a (omega arith))
            (subst (λ y. c.Clash a (code_of (front ++ code ∷ []) a) b y) (old_code front code b below) clash))
        | inr last ↦
            let e : b ≡ length front = omega arith in
            free.apart a (omega arith)
            (subst (λ x. c.Clash a x (length front) code) (old_code front code a (omega arith))
            (subst (λ y. c.Clash a (code_of (front ++ code ∷ []) a) (length front) y) (new_code front code (length front) refl)
            (subst (λ b. c.Clash a (code_of (front ++ code ∷ []) a) b (code_of (front ++ code ∷ []) b)) e clash)))
      ];
      unmet = λ b j meets. elim (cases_lt b (length front)) [
        | inl below ↦ h.unmet b below (subst (λ x. MeetsSome c b x) (old_code front code b below) meets)
        | inr last ↦
            let e : b ≡ length front = omega arith in
            free.unmet (subst (λ x. MeetsSome c (length front) x) (new_code front code (length front) refl)
            (subst (λ b. MeetsSome c b (code_of (front ++ code ∷ []) b)) e meets))
      ];
    }

-- plans with the same first codes cost the same there
pub cost_same : (c : Choices) (n : ℕ) (p q : List ℕ) → ((b : ℕ) → b < n → code_of p b ≡ code_of q b) → cost_below c n p ≡ cost_below c n q
cost_same c zero p q same = refl
cost_same c (suc n) p q same =
    let below : cost_below c n p ≡ cost_below c n q = cost_same c n p q (λ b l. same b (omega arith)) in
    let here : c.cost n (code_of p n) ≡ c.cost n (code_of q n) = ap (c.cost n) (same n (omega arith)) in
    omega arith

-- what a front costs with a code more
pub cost_more : (c : Choices) (front : List ℕ) (code : ℕ)
    → cost_below c (length (front ++ code ∷ [])) (front ++ code ∷ []) ≡ cost_below c (length front) front + c.cost (length front) code
cost_more c front code =
    let e : length (front ++ code ∷ []) ≡ suc (length front) = let n = length-append front (code ∷ []) in omega arith in
    let below : cost_below c (length front) (front ++ code ∷ []) ≡ cost_below c (length front) front =
    cost_same c (length front) (front ++ code ∷ []) front (λ b l. old_code front code b l) in
    let here : c.cost (length front) (code_of (front ++ code ∷ []) (length front)) ≡ c.cost (length front) code =
    ap (c.cost (length front)) (new_code front code (length front) refl) in
    ap (λ n. cost_below c n (front ++ code ∷ [])) e
    ∙ (let r : cost_below c (length front) (front ++ code ∷ []) + c.cost (length front) (code_of (front ++ code ∷ []) (length front))
    ≡ cost_below c (length front) front + c.cost (length front) code = omega arith in r)

-- a place at which a list has a number above 0 is within the list
within : (front : List ℕ) (k n : ℕ) → n < code_of front k → k < length front
within front k n l = elim (cases_lt k (length front)) [
  | inl m ↦ m
  | inr past ↦ let e : code_of front k ≡ 0 = get_or_past front k 0 past in absurd (omega arith)
]

-- what comes before a front comes before each plan that begins with it
pub lex_extends : (p front q : List ℕ) → IsLexLess p front → Extends front q → IsLexLess p q
lex_extends p front q h x =
    let l = within front h.place (code_of p h.place) h.less in
    record {
      place = h.place;
      same = λ b m. h.same b m ∙ x b (omega arith);
      less = subst (λ n. code_of p h.place < n) (x h.place l) h.less;
    }

pub lex_more : (p front : List ℕ) (code : ℕ) → IsLexLess p front → IsLexLess p (front ++ code ∷ [])
lex_more p front code h = lex_extends p front (front ++ code ∷ []) h (λ b l. sym (old_code front code b l))

-- a plan that begins with a front comes before the front with a greater code
pub lex_next : (p front : List ℕ) (code : ℕ) → Extends front p → code_of p (length front) < code → IsLexLess p (front ++ code ∷ [])
lex_next p front code x l = record {
  place = length front;
  same = λ b m. sym (x b m) ∙ sym (old_code front code b m);
  less = subst (λ n. code_of p (length front) < n) (sym (new_code front code (length front) refl)) l;
}

-- what comes before a front with a code comes before it with a greater code
pub lex_later : (p front : List ℕ) (code later : ℕ) → code ≤ later → IsLexLess p (front ++ code ∷ []) → IsLexLess p (front ++ later ∷ [])
lex_later p front code later l h = elim (cases_lt h.place (length front)) [
  | inl below ↦ record {
    place = h.place;
    same = λ b m. h.same b m ∙ old_code front code b (omega arith) ∙ sym (old_code front later b (omega arith));
    less = subst (λ n. code_of p h.place < n) (old_code front code h.place below ∙ sym (old_code front later h.place below)) h.less;
  }
  | inr past ↦
      let i = within (front ++ code ∷ []) h.place (code_of p h.place) h.less in
      let n = length-append front (code ∷ []) in
      let e : h.place ≡ length front = omega arith in
      let less : code_of p (length front) < code =
      subst (λ n. code_of p (length front) < n) (new_code front code (length front) refl)
      (subst (λ k. code_of p k < code_of (front ++ code ∷ []) k) e h.less) in
      lex_next p front later (λ b m. sym (h.same b (omega arith) ∙ old_code front code b m)) (omega arith)
]

-- a plan that comes later and costs no less is not before
pub not_before_later : (c : Choices) (p q : List ℕ) → IsLexLess p q → total c p ≤ total c q → IsBefore c q p → ⊥
not_before_later c p q h l (inl less) = absurd (omega arith)
not_before_later c p q h l (inr (same, less)) =
    let both = lex_trans p q p h less in
    let k = both.less in absurd (omega arith)

-- every plan with a front costs what the front costs and the floor of the other blocks
pub floor_holds : (c : Choices) (front q : List ℕ) (sum floor : ℕ) → sum ≡ cost_below c (length front) front → IsFloor c (length front) floor
    → IsPlan c q → Extends front q → sum + floor ≤ total c q
floor_holds c front q sum floor e least p x =
    let same = cost_same c (length front) front q x in
    let l = least q p in
    omega arith
