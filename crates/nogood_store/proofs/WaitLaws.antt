-- For which block a box waits as codes are entered.
use Rattle.std.proofs.Common.{◌≡◌, ◌≢◌, ℕ, suc, ◌+◌, ◌<◌, ◌≤◌, List, [], ◌∷◌, ◌++◌, length, slice_index, ◌⊎◌, Bool, true, false, cond, refl, sym, ap, ◌∙◌, subst, inl, inr, arith}
use Rattle.std.specs.Prelude.{◌&&◌, ◌||◌, nat_lt, nat_le, nat_eq}
use Rattle.std.proofs.lemmas.Bool.{cases_lt, cases_order, lt-ltb, le-ltb, le-leb, lt-leb, eq-eqb, ne_eqb, false≢true}
use Rattle.std.proofs.lemmas.List.{get_or_append_left, get_or_push, length_push}
use Rattle.std.proofs.lemmas.List.Elements.{All-cons, All-head, All-tail, All-nil}
use Rattle.plan_rule.specs.declared.literal.Literal.{Literal}
use Rattle.nogood_store.specs.Hits.{IsMatched, Matches}
use Rattle.nogood_store.specs.Waits.{is_matched, waits, past, Rising}
use Rattle.nogood_store.specs.Places.{later_in}

and_is : (a b c : Bool) → a ≡ true → b ≡ true → c ≡ true → (a && (b && c)) ≡ true
and_is true true true x y z = refl
and_is false b c x y z = absurd (false≢true x)
and_is true false c x y z = absurd (false≢true y)
and_is true true false x y z = absurd (false≢true z)

and_first : (a b c : Bool) → a ≡ false → (a && (b && c)) ≡ false
and_first false b c x = refl
and_first true b c x = absurd (false≢true (sym x))

and_second : (a b c : Bool) → b ≡ false → (a && (b && c)) ≡ false
and_second false b c x = refl
and_second true false c x = refl
and_second true true c x = absurd (false≢true (sym x))

and_third : (a b c : Bool) → c ≡ false → (a && (b && c)) ≡ false
and_third false b c x = refl
and_third true false c x = refl
and_third true true false x = refl
and_third true true true x = absurd (false≢true (sym x))

pub matched_if : (codes : List ℕ) (l : Literal) → IsMatched codes l → is_matched codes l ≡ true
matched_if codes l m = and_is (nat_lt l.block (length codes)) (nat_le l.lo (slice_index codes l.block)) (nat_lt (slice_index codes l.block) l.hi) (lt-ltb _ _ m.block_in) (le-leb _ _ m.low) (lt-ltb _ _ m.high)

pub matched_unless : (codes : List ℕ) (l : Literal) → (IsMatched codes l → ⊥) → is_matched codes l ≡ false
matched_unless codes l not = elim (cases_lt l.block (length codes)) [
  | inr out ↦ and_first (nat_lt l.block (length codes)) (nat_le l.lo (slice_index codes l.block)) (nat_lt (slice_index codes l.block) l.hi) (le-ltb _ _ out)
  | inl block ↦ elim (cases_lt (slice_index codes l.block) l.lo) [
    | inl low ↦ and_second (nat_lt l.block (length codes)) (nat_le l.lo (slice_index codes l.block)) (nat_lt (slice_index codes l.block) l.hi) (lt-leb _ _ low)
    | inr low ↦ elim (cases_lt (slice_index codes l.block) l.hi) [
      | inr high ↦ and_third (nat_lt l.block (length codes)) (nat_le l.lo (slice_index codes l.block)) (nat_lt (slice_index codes l.block) l.hi) (le-ltb _ _ high)
      | inl high ↦ absurd (not (record { block_in = block; low = low; high = high }))
    ]
  ]
]

pub matched_tells : (codes : List ℕ) (l : Literal) → IsMatched codes l ⊎ (IsMatched codes l → ⊥)
matched_tells codes l = elim (cases_lt l.block (length codes)) [
  | inr out ↦ inr (λ m. let b = m.block_in in absurd (omega arith))
  | inl block ↦ elim (cases_lt (slice_index codes l.block) l.lo) [
    | inl low ↦ inr (λ m. let b = m.low in absurd (omega arith))
    | inr low ↦ elim (cases_lt (slice_index codes l.block) l.hi) [
      | inr high ↦ inr (λ m. let b = m.high in absurd (omega arith))
      | inl high ↦ inl (record { block_in = block; low = low; high = high })
    ]
  ]
]

pub waits_met : (codes : List ℕ) (l : Literal) (box : List Literal) → IsMatched codes l → waits codes (l ∷ box) ≡ waits codes box
waits_met codes l box m = ap (λ t. cond t (waits codes box) l.block) (matched_if codes l m)

pub waits_at : (codes : List ℕ) (l : Literal) (box : List Literal) → (IsMatched codes l → ⊥) → waits codes (l ∷ box) ≡ l.block
waits_at codes l box not = ap (λ t. cond t (waits codes box) l.block) (matched_unless codes l not)

-- codes with one more
more : List ℕ → ℕ → List ℕ
more codes code = codes ++ code ∷ []

pub matched_more : (codes : List ℕ) (code : ℕ) (l : Literal) → IsMatched codes l → IsMatched (codes ++ code ∷ []) l
matched_more codes code l m =
    let size = length_push codes code in
    let same : slice_index (codes ++ code ∷ []) l.block ≡ slice_index codes l.block = get_or_append_left codes (code ∷ []) 0 l.block m.block_in in
    let b = m.block_in in let low = m.low in let high = m.high in
    record { block_in = omega arith; low = omega arith; high = omega arith }

pub matched_less : (codes : List ℕ) (code : ℕ) (l : Literal) → l.block < length codes → IsMatched (codes ++ code ∷ []) l → IsMatched codes l
matched_less codes code l block m =
    let same : slice_index (codes ++ code ∷ []) l.block ≡ slice_index codes l.block = get_or_append_left codes (code ∷ []) 0 l.block block in
    let low = m.low in let high = m.high in
    record { block_in = block; low = omega arith; high = omega arith }

matched_new : (codes : List ℕ) (code : ℕ) (l : Literal) → l.block ≡ length codes → l.lo ≤ code → code < l.hi → IsMatched (codes ++ code ∷ []) l
matched_new codes code l block low high =
    let size = length_push codes code in
    let at : slice_index (codes ++ code ∷ []) l.block ≡ code = get_or_push codes code 0 l.block (sym block) in
    record { block_in = omega arith; low = omega arith; high = omega arith }

matched_not_new : (codes : List ℕ) (code : ℕ) (l : Literal) → l.block ≡ length codes → (code < l.lo) ⊎ (l.hi ≤ code) → IsMatched (codes ++ code ∷ []) l → ⊥
matched_not_new codes code l block out m =
    let at : slice_index (codes ++ code ∷ []) l.block ≡ code = get_or_push codes code 0 l.block (sym block) in
    let low = m.low in let high = m.high in
    elim out [ inl a ↦ omega arith | inr a ↦ omega arith ]

matched_not_after : (codes : List ℕ) (code : ℕ) (l : Literal) → length codes < l.block → IsMatched (codes ++ code ∷ []) l → ⊥
matched_not_after codes code l after m = let size = length_push codes code in let b = m.block_in in omega arith

-- the test of the walk
past_before : (b code : ℕ) (l : Literal) (box : List Literal) → l.block < b → past b code (l ∷ box) ≡ past b code box
past_before b code l box before =
    ap (λ t. cond (t || (nat_eq l.block b && (nat_lt code l.lo || nat_le l.hi code))) l.block (past b code box)) (le-ltb b l.block (omega arith))
    ∙ ap (λ t. cond (t && (nat_lt code l.lo || nat_le l.hi code)) l.block (past b code box)) (ne_eqb l.block b (omega arith))

past_after : (b code : ℕ) (l : Literal) (box : List Literal) → b < l.block → past b code (l ∷ box) ≡ l.block
past_after b code l box after =
    ap (λ t. cond (t || (nat_eq l.block b && (nat_lt code l.lo || nat_le l.hi code))) l.block (past b code box)) (lt-ltb b l.block after)

past_here : (b code : ℕ) (l : Literal) (box : List Literal) → l.block ≡ b → past b code (l ∷ box) ≡ cond (nat_lt code l.lo || nat_le l.hi code) l.block (past b code box)
past_here b code l box here =
    ap (λ t. cond (t || (nat_eq l.block b && (nat_lt code l.lo || nat_le l.hi code))) l.block (past b code box)) (le-ltb b l.block (omega arith))
    ∙ ap (λ t. cond (t && (nat_lt code l.lo || nat_le l.hi code)) l.block (past b code box)) (eq-eqb l.block b here)

past_holds : (b code : ℕ) (l : Literal) (box : List Literal) → l.block ≡ b → l.lo ≤ code → code < l.hi → past b code (l ∷ box) ≡ past b code box
past_holds b code l box here low high = past_here b code l box here
    ∙ ap (λ t. cond (t || nat_le l.hi code) l.block (past b code box)) (le-ltb code l.lo low)
    ∙ ap (λ t. cond t l.block (past b code box)) (lt-leb l.hi code high)

or_right : (a : Bool) {X : Type 0} (x y : X) → cond (a || true) x y ≡ x
or_right true x y = refl
or_right false x y = refl

past_out : (b code : ℕ) (l : Literal) (box : List Literal) → l.block ≡ b → (code < l.lo) ⊎ (l.hi ≤ code) → past b code (l ∷ box) ≡ l.block
past_out b code l box here out = past_here b code l box here ∙ elim out [
  | inl low ↦ ap (λ t. cond (t || nat_le l.hi code) l.block (past b code box)) (lt-ltb code l.lo low)
  | inr high ↦ ap (λ t. cond (nat_lt code l.lo || t) l.block (past b code box)) (le-leb l.hi code high) ∙ or_right (nat_lt code l.lo) l.block (past b code box)
]

rest_is : (codes : List ℕ) (code : ℕ) (box : List Literal) → Rising (suc (length codes)) box → waits (codes ++ code ∷ []) box ≡ past (length codes) code box
rest_is codes code [] rising = refl
rest_is codes code (l ∷ box) rising =
    let low = rising.0 in
    waits_at (codes ++ code ∷ []) l box (matched_not_after codes code l (omega arith)) ∙ sym (past_after (length codes) code l box (omega arith))

-- the walk gives the block for which the box waits once the code is entered
pub past_is : (codes : List ℕ) (code low : ℕ) (box : List Literal) → Rising low box → (waits codes box ≡ length codes) ⊎ (waits codes box ≡ 32) → length codes < 32
    → waits (codes ++ code ∷ []) box ≡ past (length codes) code box
past_is codes code low [] rising is few = refl
past_is codes code low (l ∷ box) rising is few = elim (cases_order l.block (length codes)) [
  | inl here ↦ elim (cases_lt code l.lo) [
    | inl out ↦ waits_at (codes ++ code ∷ []) l box (matched_not_new codes code l here (inl out)) ∙ sym (past_out (length codes) code l box here (inl out))
    | inr low ↦ elim (cases_lt code l.hi) [
      | inr out ↦ waits_at (codes ++ code ∷ []) l box (matched_not_new codes code l here (inr out)) ∙ sym (past_out (length codes) code l box here (inr out))
      | inl high ↦ waits_met (codes ++ code ∷ []) l box (matched_new codes code l here low high)
          ∙ rest_is codes code box (subst (λ b. Rising (suc b) box) here rising.2)
          ∙ sym (past_holds (length codes) code l box here low high)
    ]
  ]
  | inr other ↦ elim other [
    | inr after ↦ waits_at (codes ++ code ∷ []) l box (matched_not_after codes code l after) ∙ sym (past_after (length codes) code l box after)
    | inl before ↦ elim (matched_tells codes l) [
      | inl met ↦ waits_met (codes ++ code ∷ []) l box (matched_more codes code l met)
          ∙ past_is codes code (suc l.block) box rising.2
          (elim is [ inl a ↦ inl (sym (waits_met codes l box met) ∙ a) | inr a ↦ inr (sym (waits_met codes l box met) ∙ a) ]) few
          ∙ sym (past_before (length codes) code l box before)
      | inr not ↦ let at = waits_at codes l box not in let below = rising.1 in
          absurd (elim is [ inl a ↦ omega arith | inr a ↦ omega arith ])
    ]
  ]
]

-- a box that waits for another block waits for it still
pub waits_else : (codes : List ℕ) (code : ℕ) (box : List Literal) → waits codes box ≢ length codes → waits (codes ++ code ∷ []) box ≡ waits codes box
waits_else codes code [] other = refl
waits_else codes code (l ∷ box) other = elim (matched_tells codes l) [
  | inl met ↦ waits_met (codes ++ code ∷ []) l box (matched_more codes code l met)
      ∙ waits_else codes code box (λ is. other (waits_met codes l box met ∙ is)) ∙ sym (waits_met codes l box met)
  | inr not ↦ waits_at (codes ++ code ∷ []) l box
      (λ m. let size = length_push codes code in let b = m.block_in in let at = waits_at codes l box not in
      not (matched_less codes code l (let ne : l.block ≢ length codes = λ is. other (at ∙ is) in omega arith) m))
      ∙ sym (waits_at codes l box not)
]

-- a box waits for no block where it contains the box of the codes
pub matched_waits : (codes : List ℕ) (box : List Literal) → Matches codes box → waits codes box ≡ 32
matched_waits codes [] all = refl
matched_waits codes (l ∷ box) all = waits_met codes l box (All-head (IsMatched codes) l box all) ∙ matched_waits codes box (All-tail (IsMatched codes) l box all)

pub waits_matched : (codes : List ℕ) (low : ℕ) (box : List Literal) → Rising low box → waits codes box ≡ 32 → Matches codes box
waits_matched codes low [] rising is = All-nil (IsMatched codes)
waits_matched codes low (l ∷ box) rising is = elim (matched_tells codes l) [
  | inl met ↦ All-cons (IsMatched codes) l box met (waits_matched codes (suc l.block) box rising.2 (sym (waits_met codes l box met) ∙ is))
  | inr not ↦ absurd (let at = waits_at codes l box not in let below = rising.1 in omega arith)
]

-- a box that will be matched waits for the next block, or for none
pub comes_to : (codes : List ℕ) (code : ℕ) (box : List Literal) → Matches (codes ++ code ∷ []) box → (waits codes box ≡ length codes) ⊎ (waits codes box ≡ 32)
comes_to codes code [] all = inr refl
comes_to codes code (l ∷ box) all =
    let met : IsMatched (codes ++ code ∷ []) l = All-head (IsMatched (codes ++ code ∷ [])) l box all in
    let rest = comes_to codes code box (All-tail (IsMatched (codes ++ code ∷ [])) l box all) in
    let size = length_push codes code in
    let b = met.block_in in
    elim (cases_lt l.block (length codes)) [
      | inl before ↦ let same = waits_met codes l box (matched_less codes code l before met) in
          elim rest [ inl a ↦ inl (same ∙ a) | inr a ↦ inr (same ∙ a) ]
      | inr here ↦ inl (waits_at codes l box (λ m. let c = m.block_in in omega arith) ∙ (let at : l.block ≡ length codes = omega arith in at))
    ]

-- the walk does not go back
pub past_ge : (b code : ℕ) (box : List Literal) → b ≤ 32 → b ≤ past b code box
past_ge b code [] few = few
past_ge b code (l ∷ box) few = elim (cases_order l.block b) [
  | inl here ↦ elim (cases_lt code l.lo) [
    | inl out ↦ let at = past_out b code l box here (inl out) in omega arith
    | inr low ↦ elim (cases_lt code l.hi) [
      | inr out ↦ let at = past_out b code l box here (inr out) in omega arith
      | inl high ↦ let at = past_holds b code l box here low high in let rest = past_ge b code box few in omega arith
    ]
  ]
  | inr other ↦ elim other [
    | inl before ↦ let at = past_before b code l box before in let rest = past_ge b code box few in omega arith
    | inr after ↦ let at = past_after b code l box after in omega arith
  ]
]

pub waits_le : (codes : List ℕ) (low : ℕ) (box : List Literal) → Rising low box → waits codes box ≤ 32
waits_le codes low [] rising = omega arith
waits_le codes low (l ∷ box) rising = elim (matched_tells codes l) [
  | inl met ↦ let at = waits_met codes l box met in let rest = waits_le codes (suc l.block) box rising.2 in omega arith
  | inr not ↦ let at = waits_at codes l box not in let below = rising.1 in omega arith
]

later_yes : (i : ℕ) (l : Literal) (box : List Literal) → i ≤ l.block → later_in i (l ∷ box) ≡ 1 + later_in i box
later_yes i l box h = ap (λ t. cond t 1 0 + later_in i box) (le-leb i l.block h)

later_no : (i : ℕ) (l : Literal) (box : List Literal) → l.block < i → later_in i (l ∷ box) ≡ 0 + later_in i box
later_no i l box h = ap (λ t. cond t 1 0 + later_in i box) (lt-leb i l.block h)

-- fewer literals are on later blocks
pub later_le : (i j : ℕ) (box : List Literal) → i ≤ j → later_in j box ≤ later_in i box
later_le i j [] h = omega arith
later_le i j (l ∷ box) h = elim (cases_lt l.block j) [
  | inr in_j ↦ let a = later_yes j l box in_j in let b = later_yes i l box (omega arith) in let rest = later_le i j box h in omega arith
  | inl out ↦ let a = later_no j l box out in let rest = later_le i j box h in
      elim (cases_lt l.block i) [
        | inl o ↦ let b = later_no i l box o in omega arith
        | inr o ↦ let b = later_yes i l box o in omega arith
      ]
]

-- a box that waits for a block has a literal there
pub later_lt : (codes : List ℕ) (b j : ℕ) (box : List Literal) → waits codes box ≡ b → b < 32 → b < j → later_in j box + 1 ≤ later_in b box
later_lt codes b j [] is few more = absurd (omega arith)
later_lt codes b j (l ∷ box) is few more = elim (matched_tells codes l) [
  | inl met ↦ let rest = later_lt codes b j box (sym (waits_met codes l box met) ∙ is) few more in
      elim (cases_lt l.block j) [
        | inl out ↦ let a = later_no j l box out in elim (cases_lt l.block b) [
          | inl o ↦ let c = later_no b l box o in omega arith
          | inr o ↦ let c = later_yes b l box o in omega arith
        ]
        | inr in_j ↦ let a = later_yes j l box in_j in let c = later_yes b l box (omega arith) in omega arith
      ]
  | inr not ↦ let at = waits_at codes l box not in
      let a = later_no j l box (omega arith) in let c = later_yes b l box (omega arith) in let rest = later_le b j box (omega arith) in omega arith
]

pub later_le-length : (i : ℕ) (box : List Literal) → later_in i box ≤ length box
later_le-length i [] = omega arith
later_le-length i (l ∷ box) = elim (cases_lt l.block i) [
  | inl o ↦ let c = later_no i l box o in let rest = later_le-length i box in omega arith
  | inr o ↦ let c = later_yes i l box o in let rest = later_le-length i box in omega arith
]
