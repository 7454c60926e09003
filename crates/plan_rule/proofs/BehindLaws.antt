-- How far a box agrees with a plan, and what that says of being behind it.
use Rattle.std.proofs.Common.{◌≡◌, ◌≢◌, ℕ, zero, suc, ◌+◌, ◌<◌, ◌≤◌, List, [], ◌∷◌, length, Option, Some, None, refl, sym, ap, ◌∙◌, subst, inl, inr, arith, Bool, true, false}
use Rattle.std.specs.Prelude.{slice_get, ◌==◌, ◌↔◌, IsTrue, if◌then◌else◌}
use Rattle.std.specs.List.{All, Contains}
use Rattle.std.proofs.lemmas.Bool.{cases_lt, cases_order, cases_Bool, eqb-true, eq-eqb, true≢false}
use Rattle.std.proofs.lemmas.Option.{none-some, same_Some, slice_get-get_or, slice_get_within, get_or_from_slice_get}
use Rattle.std.proofs.lemmas.List.Elements.{All-contains, All-contains_itself}
use Rattle.plan_rule.specs.declared.literal.Literal.{Literal}
use Rattle.plan_rule.specs.Plans.{code_of}
use Rattle.plan_rule.specs.Boxes.{IsAscending, AreAmong, HasExact, exact_code, exact}
use Rattle.plan_rule.specs.Bounds.{IsBehindOn}
use Rattle.plan_rule.proofs.BoundLaws.{exact-all}

-- the first i literals fix the first i blocks to the plan's codes
abbrev pub Agrees : List Literal → List ℕ → ℕ → Type 0
Agrees box p i = (k : ℕ) → k < i → slice_get box k ≡ Some (exact k (code_of p k))

same_block : (t one : Bool) (code : ℕ) (o : Option ℕ) → t ≡ true → one ≡ true → (if t then (if one then Some code else None) else o) ≡ Some code
same_block true true code o e f = refl
same_block true false code o e f = absurd (true≢false (sym f))
same_block false one code o e f = absurd (true≢false (sym e))

other_block : (t : Bool) (x o : Option ℕ) → t ≡ false → (if t then x else o) ≡ o
other_block true x o e = absurd (true≢false e)
other_block false x o e = refl

-- a literal of one code fixes its block
pub fixes_at : (box : List Literal) (k b code : ℕ) → IsAscending box → slice_get box k ≡ Some (exact b code) → HasExact box b code
fixes_at [] k b code up e = absurd (none-some (exact b code) e)
fixes_at (l ∷ box) zero b code up e =
    subst (λ l. HasExact (l ∷ box) b code) (sym (same_Some l (exact b code) e))
    (same_block (b == b) (code + 1 == code + 1) code (exact_code box b) (eq-eqb b b refl) (eq-eqb (code + 1) (code + 1) refl))
fixes_at (l ∷ box) (suc k) b code up e =
    let below : l.block < b = up 0 (suc k) l (exact b code) (omega arith) refl e in
    let rest = fixes_at box k b code (λ i j x y less p q. up (suc i) (suc j) x y (omega arith) p q) e in
    elim (cases_Bool (l.block == b)) [
      | inl same ↦ let f = eqb-true l.block b same in absurd (omega arith)
      | inr other ↦ other_block (l.block == b) (if l.hi == l.lo + 1 then Some l.lo else None) (exact_code box b) other ∙ rest
    ]

-- a block that is fixed has its literal of one code
pub exact_has : (box : List Literal) (b code : ℕ) → HasExact box b code → Contains box (exact b code)
exact_has box b code f = exact-all (Contains box) box b code (All-contains_itself box) f

place_in : (box : List Literal) (l : Literal) → Contains box l → (k : ℕ) × (slice_get box k ≡ Some l)
place_in box l (k, within, is) = (k, slice_get-get_or box k l within ∙ ap Some is)

-- a block has one literal
pub one_literal : (box : List Literal) (i : ℕ) (l m : Literal) → IsAscending box → Contains box l → slice_get box i ≡ Some m → l.block ≡ m.block → l ≡ m
one_literal box i l m up inside at same =
    let (k, here) = place_in box l inside in
    elim (cases_order k i) [
      | inl e ↦ same_Some l m (sym here ∙ ap (slice_get box) e ∙ at)
      | inr o ↦ elim o [
        | inl less ↦ let a = up k i l m less here at in absurd (omega arith)
        | inr more ↦ let a = up i k m l more at here in absurd (omega arith)
      ]
    ]

-- no literal of the box on the block is the plan's code alone, or above it
abbrev pub Parts : List Literal → List ℕ → ℕ → Type 0
Parts box p i = (l : Literal) → Contains box l → l.block ≡ i → (l ≢ exact i (code_of p i)) × (l.lo ≤ code_of p i)

-- a box that agrees with a plan up to a block, and neither agrees nor is above it there, is not behind it
pub not_behind : (n : ℕ) (box : List Literal) (p : List ℕ) (i : ℕ) → IsAscending box → Agrees box p i → i < n → Parts box p i → IsBehindOn n box p → ⊥
not_behind n box p i up agrees exist parts (inr all) =
    (parts (exact i (code_of p i)) (exact_has box i (code_of p i) (all i exist)) refl).0 refl
not_behind n box p i up agrees exist parts (inl (j, within, same, (k, l, lt, is, (at, above)))) =
    let inside : Contains box l = (k, lt, is) in
    elim (cases_order j i) [
      | inl e ↦ let low = (parts l inside (at ∙ e)).1 in let f : code_of p j ≡ code_of p i = ap (code_of p) e in absurd (omega arith)
      | inr o ↦ elim o [
        | inl less ↦
            let f : l ≡ exact j (code_of p j) = one_literal box j l (exact j (code_of p j)) up inside (agrees j less) at in
            let g : l.lo ≡ code_of p j = ap (λ (l : Literal). l.lo) f in
            absurd (omega arith)
        | inr more ↦ (parts (exact i (code_of p i)) (exact_has box i (code_of p i) (same i more)) refl).0 refl
      ]
    ]

-- a literal that is not on the next block is past it
pub past_gap : (box : List Literal) (p : List ℕ) (i : ℕ) (l : Literal) → IsAscending box → Agrees box p i → slice_get box i ≡ Some l → l.block ≢ i → i < l.block
past_gap box p i l up agrees at differ = elim (cases_order l.block i) [
  | inl e ↦ absurd (differ e)
  | inr o ↦ elim o [
    | inl less ↦
        let a : l.block < l.block = up l.block i (exact l.block (code_of p l.block)) l less (agrees l.block less) at in
        absurd (omega arith)
    | inr more ↦ more
  ]
]

-- where the next literal is past the block, no literal is on it
pub gap_parts : (box : List Literal) (p : List ℕ) (i : ℕ) (l : Literal) → IsAscending box → Agrees box p i → slice_get box i ≡ Some l → l.block ≢ i → Parts box p i
gap_parts box p i l up agrees at differ m inside on =
    let past : i < l.block = past_gap box p i l up agrees at differ in
    let (k, here) = place_in box m inside in
    absurd (elim (cases_order k i) [
      | inl e ↦ differ (ap (λ (l : Literal). l.block) (same_Some l m (sym at ∙ ap (slice_get box) (sym e) ∙ here)) ∙ on)
      | inr o ↦ elim o [
        | inl less ↦
            let f : exact k (code_of p k) ≡ m = same_Some _ m (sym (agrees k less) ∙ here) in
            let g : k ≡ m.block = ap (λ (l : Literal). l.block) f in
            omega arith
        | inr more ↦ let a = up i k l m more at here in omega arith
      ]
    ])

-- where the next literal is on the block, it decides
pub here_parts : (box : List Literal) (p : List ℕ) (i : ℕ) (l : Literal) → IsAscending box → slice_get box i ≡ Some l → l.block ≡ i
    → l ≢ exact i (code_of p i) → l.lo ≤ code_of p i → Parts box p i
here_parts box p i l up at on differ low m inside same =
    let e : m ≡ l = one_literal box i m l up inside at (same ∙ sym on) in
    (λ f. differ (sym e ∙ f), subst (λ (m : Literal). m.lo ≤ code_of p i) (sym e) low)

-- past the last literal there is none
pub end_parts : (box : List Literal) (p : List ℕ) → Agrees box p (length box) → Parts box p (length box)
end_parts box p agrees m inside on =
    let (k, here) = place_in box m inside in
    let lt : k < length box = slice_get_within box k m here in
    let f : exact k (code_of p k) ≡ m = same_Some _ m (sym (agrees k lt) ∙ here) in
    let g : k ≡ m.block = ap (λ (l : Literal). l.block) f in
    absurd (omega arith)

-- a box whose next literal is above the plan's code is behind the plan
pub above_is_behind : (n : ℕ) (box : List Literal) (p : List ℕ) (i : ℕ) (l : Literal) → IsAscending box → Agrees box p i → i < n → slice_get box i ≡ Some l
    → l.block ≡ i → code_of p i < l.lo → IsBehindOn n box p
above_is_behind n box p i l up agrees exist at on above =
    inl (
      i,
      exist,
      λ b less. fixes_at box b b (code_of p b) up (agrees b less),
      (i, l, slice_get_within box i l at, get_or_from_slice_get box i l l at, (on, above)),
    )

-- a box that agrees with a plan on every block is behind it
pub agrees_is_behind : (n : ℕ) (box : List Literal) (p : List ℕ) → IsAscending box → Agrees box p n → IsBehindOn n box p
agrees_is_behind n box p up agrees = inr (λ b less. fixes_at box b b (code_of p b) up (agrees b less))

-- one literal more
pub agrees_more : (box : List Literal) (p : List ℕ) (i : ℕ) → Agrees box p i → slice_get box i ≡ Some (exact i (code_of p i)) → Agrees box p (i + 1)
agrees_more box p i agrees at k less = elim (cases_lt k i) [
  | inl below ↦ agrees k below
  | inr last ↦ subst (λ k. slice_get box k ≡ Some (exact k (code_of p k))) (let e : i ≡ k = omega arith in e) at
]

-- a box that agrees with a plan throughout has no more literals than there are blocks
pub few_literals : (n : ℕ) (box : List Literal) (p : List ℕ) → All (λ l. l.block < n) box → Agrees box p (length box) → length box ≤ n
few_literals n box p among agrees = elim (cases_lt n (length box)) [
  | inl more ↦
      let e : exact n (code_of p n) ≡ exact n (code_of p n) = refl in
      let here = agrees n more in
      let inside : Contains box (exact n (code_of p n)) = (n, more, get_or_from_slice_get box n _ _ here) in
      let less : n < n = All-contains (λ l. l.block < n) box (exact n (code_of p n)) among inside in
      absurd (omega arith)
  | inr few ↦ few
]

-- an answer about a box and a plan is one about what equals them
pub carried : (b : Bool) (box box' : List Literal) (p p' : List ℕ) → box ≡ box' → p ≡ p'
    → (AreAmong (length p) box → IsTrue b ↔ IsBehindOn (length p) box p) → AreAmong (length p') box' → IsTrue b ↔ IsBehindOn (length p') box' p'
carried b box box' p p' e f h =
    subst (λ p. AreAmong (length p) box' → IsTrue b ↔ IsBehindOn (length p) box' p) f
    (subst (λ box. AreAmong (length p) box → IsTrue b ↔ IsBehindOn (length p) box p) e h)

-- the next literal is not on the next block
pub gap_decides : (box : List Literal) (p : List ℕ) (i : ℕ) (l : Literal) → IsAscending box → Agrees box p i → slice_get box i ≡ Some l → l.block ≢ i
    → AreAmong (length p) box → IsTrue false ↔ IsBehindOn (length p) box p
gap_decides box p i l up agrees at differ among =
    let past : i < l.block = past_gap box p i l up agrees at differ in
    let exist : l.block < length p = All-contains (λ l. l.block < length p) box l among (i, slice_get_within box i l at, get_or_from_slice_get box i l l at) in (
      λ t. absurd (true≢false (sym t)),
      λ h. absurd (not_behind (length p) box p i up agrees (omega arith) (gap_parts box p i l up agrees at differ) h),
    )

-- the next literal is on the next block, not above the plan's code, and not that code alone
pub part_decides : (box : List Literal) (p : List ℕ) (i : ℕ) (l : Literal) → IsAscending box → Agrees box p i → slice_get box i ≡ Some l → l.block ≡ i
    → l ≢ exact l.block (code_of p i) → l.lo ≤ code_of p i → AreAmong (length p) box → IsTrue false ↔ IsBehindOn (length p) box p
part_decides box p i l up agrees at on differ low among =
    let exist : l.block < length p = All-contains (λ l. l.block < length p) box l among (i, slice_get_within box i l at, get_or_from_slice_get box i l l at) in (
      λ t. absurd (true≢false (sym t)),
      λ h. absurd (not_behind (length p) box p i up agrees (omega arith)
          (here_parts box p i l up at on (λ e. differ (e ∙ ap (λ b. exact b (code_of p i)) (sym on))) low) h),
    )

-- the next literal is above the plan's code
pub above_decides : (box : List Literal) (p : List ℕ) (i : ℕ) (l : Literal) → IsAscending box → Agrees box p i → slice_get box i ≡ Some l → l.block ≡ i
    → code_of p i < l.lo → AreAmong (length p) box → IsTrue true ↔ IsBehindOn (length p) box p
above_decides box p i l up agrees at on above among =
    let exist : l.block < length p = All-contains (λ l. l.block < length p) box l among (i, slice_get_within box i l at, get_or_from_slice_get box i l l at) in
    (λ t. above_is_behind (length p) box p i l up agrees (omega arith) at on above, λ h. refl)

-- there is no next literal
pub end_decides : (box : List Literal) (p : List ℕ) (n m : ℕ) → IsAscending box → Agrees box p (length box) → n ≡ length box → m ≡ length p
    → AreAmong (length p) box → IsTrue (n == m) ↔ IsBehindOn (length p) box p
end_decides box p n m up agrees en em among = (
  λ t. let e : n ≡ m = eqb-true n m t in
      agrees_is_behind (length p) box p up (subst (Agrees box p) (let f : length box ≡ length p = omega arith in f) agrees),
  λ h. elim (cases_Bool (n == m)) [
    | inl t ↦ t
    | inr f ↦
        let few : length box ≤ length p = few_literals (length p) box p among agrees in
        let less : length box < length p = elim (cases_order (length box) (length p)) [
          | inl e ↦ absurd (true≢false (sym (eq-eqb n m (omega arith)) ∙ f))
          | inr o ↦ elim o [ inl l ↦ l | inr l ↦ absurd (omega arith) ]
        ] in
        absurd (not_behind (length p) box p (length box) up agrees less (end_parts box p agrees) h)
  ],
)
