-- A side with one exact literal more.
use Rattle.std.proofs.Common.{◌≡◌, ◌≢◌, ℕ, zero, suc, ◌+◌, ◌<◌, ◌≤◌, List, [], ◌∷◌, ◌++◌, length, get_or, Bool, true, false, cond, Some, ◌⊎◌, refl, sym, ap, ◌∙◌, subst, inl, inr, arith}
use Rattle.std.specs.Prelude.{nat_lt, slice_get, ◌==◌, if◌then◌else◌}
use Rattle.std.specs.List.{All, Contains, filter}
use Rattle.std.proofs.lemmas.List.Elements.{All-contains, All-filter, All-append, All-cons, All-head, All-tail, All-nil, All-weaker, All-contains_itself, Contains-append_left, Contains-append_right}
use Rattle.std.proofs.lemmas.Bool.{cases_lt, cases_order, lt-ltb, ltb-true, eq-eqb, ne_eqb, true≢false}
use Rattle.std.proofs.lemmas.Option.{none-some, same_Some, slice_get_within, slice_get-get_or, get_or_from_slice_get}
use Rattle.common_lists.proofs.ListLaws.{if_true, contains_filter}
use Rattle.plan_rule.specs.declared.literal.Literal.{Literal}
use Rattle.plan_rule.specs.declared.job.Job.{Job}
use Rattle.common_lists.specs.Each.{sum_below}
use Rattle.plan_rule.specs.Bounds.{IsBase, IsSumOfLeast, MayTake}
use Rattle.plan_rule.proofs.BoundLaws.{exact-all}
use Rattle.plan_rule.proofs.BoxLaws.{held_without}
use Rattle.plan_rule.proofs.BehindLaws.{exact_has}
use Rattle.refutation_log.specs.Steps.{IsRange}
use Rattle.plan_rule.specs.Choices.{Choices, MeetsSome, blocks, count}
use Rattle.plan_rule.specs.Plans.{code_of, IsPlan, IsFeasible, total}
use Rattle.plan_rule.specs.Boxes.{IsBox, IsLiteral, IsAscending, LeavesFree, HasExact, exact, with_literal}
use Rattle.branch_kernel.specs.Known.{AreKnown}
use Rattle.branch_kernel.specs.Boxes.{IsClear, Clashes, HasExactAll}
use Rattle.branch_kernel.specs.Nodes.{IsNode, IsOpenBox}

-- the blocks rise along the list
abbrev pub Rises : List Literal → Type 0
Rises [] = Unit {0}
Rises (l ∷ box) = All (λ m. l.block < m.block) box × Rises box

-- an element has a place
pub place_of : {X : Type 0} (xs : List X) (x : X) → Contains xs x → (k : ℕ) × (slice_get xs k ≡ Some x)
place_of xs x (k, l, e) = (k, slice_get-get_or xs k x l ∙ ap Some e)

pub at_place : {X : Type 0} (xs : List X) (k : ℕ) (x : X) → slice_get xs k ≡ Some x → Contains xs x
at_place xs k x e = (k, slice_get_within xs k x e, get_or_from_slice_get xs k x x e)

pub rises_from : (box : List Literal) → IsAscending box → Rises box
rises_from [] h = tt
rises_from (l ∷ box) h = (
  λ k d m. h 0 (suc k) l (get_or box k d) (omega arith) refl (slice_get-get_or box k d m),
  rises_from box (λ i j l' m' lt e f. h (suc i) (suc j) l' m' (omega arith) e f),
)

pub rises_to : (box : List Literal) → Rises box → IsAscending box
rises_to [] r i j l m lt e f = absurd (none-some l e)
rises_to (x ∷ box) r zero zero l m lt e f = absurd (omega arith)
rises_to (x ∷ box) r zero (suc j) l m lt e f =
    let w : x.block < m.block = All-contains (λ m. x.block < m.block) box m r.0 (at_place box j m f) in
    subst (λ (l : Literal). l.block < m.block) (same_Some x l e) w
rises_to (x ∷ box) r (suc i) zero l m lt e f = absurd (omega arith)
rises_to (x ∷ box) r (suc i) (suc j) l m lt e f = rises_to box r.1 i j l m (omega arith) e f

pub rises_filter : (p : Literal → Bool) (box : List Literal) → Rises box → Rises (filter p box)
rises_filter p [] r = tt
rises_filter p (x ∷ box) r = go (p x) x (filter p box) (All-filter p (λ m. x.block < m.block) box r.0) (rises_filter p box r.1)
  where
    go : (b : Bool) (x : Literal) (rest : List Literal) → All (λ m. x.block < m.block) rest → Rises rest → Rises (cond b (x ∷ rest) rest)
    go true x rest all r = (all, r)
    go false x rest all r = r

rises_append : (xs ys : List Literal) → Rises xs → Rises ys → All (λ x. All (λ y. x.block < y.block) ys) xs → Rises (xs ++ ys)
rises_append [] ys r k h = k
rises_append (x ∷ xs) ys r k h = (
  All-append (λ y. x.block < y.block) xs ys r.0 (All-head (λ x. All (λ y. x.block < y.block) ys) x xs h),
  rises_append xs ys r.1 k (All-tail (λ x. All (λ y. x.block < y.block) ys) x xs h),
)

-- what a filter keeps passes its test
pub passed : {X : Type 0} (p : X → Bool) (xs : List X) → All (λ x. p x ≡ true) (filter p xs)
passed p [] = All-nil (λ x. p x ≡ true)
passed p (x ∷ xs) = go p (p x) x (filter p xs) refl (passed p xs)
  where
    go : {X : Type 0} (p : X → Bool) (b : Bool) (x : X) (rest : List X) → p x ≡ b → All (λ x. p x ≡ true) rest → All (λ x. p x ≡ true) (cond b (x ∷ rest) rest)
    go p true x rest e all = All-cons (λ x. p x ≡ true) x rest e all
    go p false x rest e all = all

-- what holds of a box and of a literal holds of the box with the literal
pub with_all : (P : Literal → Type 0) (box : List Literal) (l : Literal) → All P box → P l → All P (with_literal box l)
with_all P box l h k =
    All-append P (filter (λ m. nat_lt m.block l.block) box) (l ∷ filter (λ m. nat_lt l.block m.block) box)
    (All-filter (λ m. nat_lt m.block l.block) P box h)
    (All-cons P l (filter (λ m. nat_lt l.block m.block) box) k (All-filter (λ m. nat_lt l.block m.block) P box h))

pub with_rises : (box : List Literal) (l : Literal) → Rises box → Rises (with_literal box l)
with_rises box l r =
    let low : All (λ m. m.block < l.block) (filter (λ m. nat_lt m.block l.block) box) =
    All-weaker (λ m. nat_lt m.block l.block ≡ true) (λ m. m.block < l.block) (λ m e. ltb-true m.block l.block e) _ (passed (λ m. nat_lt m.block l.block) box) in
    let high : All (λ m. l.block < m.block) (filter (λ m. nat_lt l.block m.block) box) =
    All-weaker (λ m. nat_lt l.block m.block ≡ true) (λ m. l.block < m.block) (λ m e. ltb-true l.block m.block e) _ (passed (λ m. nat_lt l.block m.block) box) in
    rises_append (filter (λ m. nat_lt m.block l.block) box) (l ∷ filter (λ m. nat_lt l.block m.block) box)
    (rises_filter (λ m. nat_lt m.block l.block) box r) (high, rises_filter (λ m. nat_lt l.block m.block) box r)
    (All-weaker (λ m. m.block < l.block) (λ m. All (λ y. m.block < y.block) (l ∷ filter (λ m. nat_lt l.block m.block) box))
    (λ m lt. All-cons (λ y. m.block < y.block) l _ lt (All-weaker (λ y. l.block < y.block) (λ y. m.block < y.block) (λ y gt. omega arith) _ high)) _ low)

pub with_box : (c : Choices) (box : List Literal) (l : Literal) → IsBox c box → IsLiteral c l → IsBox c (with_literal box l)
with_box c box l h k = record {
  ascending = rises_to (with_literal box l) (with_rises box l (rises_from box h.ascending));
  each = with_all (IsLiteral c) box l h.each k;
}

pub if_false : {A : Type 0} (b : Bool) (x y : A) → b ≡ false → (if b then x else y) ≡ y
if_false true x y e = absurd (true≢false e)
if_false false x y e = refl

-- the block of an exact literal of a box is exact in it
pub exact_of_literal : (box : List Literal) (m : Literal) → Rises box → m.hi ≡ m.lo + 1 → Contains box m → HasExact box m.block m.lo
exact_of_literal [] m r one (k, l, e) = absurd (omega arith)
exact_of_literal (x ∷ box) m r one (zero, l, e) =
    let one' : x.hi ≡ x.lo + 1 = subst (λ (l : Literal). l.hi ≡ l.lo + 1) (sym e) one in
    subst (λ m. HasExact (x ∷ box) m.block m.lo) e
    (if_true (x.block == x.block) _ _ (eq-eqb x.block x.block refl) ∙ if_true (x.hi == x.lo + 1) _ _ (eq-eqb x.hi (x.lo + 1) one'))
exact_of_literal (x ∷ box) m r one (suc k, l, e) =
    let inside : Contains box m = (k, omega arith, e) in
    let below : x.block < m.block = All-contains (λ m. x.block < m.block) box m r.0 inside in
    if_false (x.block == m.block) _ _ (ne_eqb x.block m.block (λ e. absurd (omega arith))) ∙ exact_of_literal box m r.1 one inside

-- a literal of a box with a literal more
pub with_contains : (box : List Literal) (l m : Literal) → Contains (with_literal box l) m → (m ≡ l) ⊎ Contains box m
with_contains box l m h =
    All-contains (λ m. (m ≡ l) ⊎ Contains box m) (with_literal box l) m
    (with_all (λ m. (m ≡ l) ⊎ Contains box m) box l (All-weaker (Contains box) (λ m. (m ≡ l) ⊎ Contains box m) (λ m i. inr i) box (All-contains_itself box)) (inl refl)) h

-- which codes are exact in a box with an exact literal more
pub with_has_exact : (box : List Literal) (b code a d : ℕ) → Rises box → HasExact (with_literal box (exact b code)) a d → ((a ≡ b) × (d ≡ code)) ⊎ HasExact box a d
with_has_exact box b code a d r h = elim (with_contains box (exact b code) (exact a d) (exact_has (with_literal box (exact b code)) a d h)) [
  | inl e ↦ inl (ap (λ (l : Literal). l.block) e, ap (λ (l : Literal). l.lo) e)
  | inr i ↦ inr (exact_of_literal box (exact a d) r refl i)
]

pub with_clear : (c : Choices) (box : List Literal) (b code : ℕ) → ((a d b e : ℕ) → c.Clash a d b e → c.Clash b e a d) → Rises box → IsClear c box
    → (Clashes c box b code → ⊥) → (MeetsSome c b code → ⊥) → IsClear c (with_literal box (exact b code))
with_clear c box b code mutual_clash r clear none free = record { apart = apart; unmet = unmet }
  where
    apart : (x y d e : ℕ) → HasExact (with_literal box (exact b code)) x d → HasExact (with_literal box (exact b code)) y e → x ≢ y → c.Clash x d y e → ⊥
    apart x y d e fx fy ne clash = elim (with_has_exact box b code x d r fx) [
      | inl p ↦ elim (with_has_exact box b code y e r fy) [
        | inl q ↦ ne (p.0 ∙ sym q.0)
        | inr fy' ↦ none (y, e, fy', mutual_clash b code y e (subst (λ d. c.Clash b d y e) p.1 (subst (λ x. c.Clash x d y e) p.0 clash)))
      ]
      | inr fx' ↦ elim (with_has_exact box b code y e r fy) [
        | inl q ↦ none (x, d, fx', subst (λ e. c.Clash x d b e) q.1 (subst (λ y. c.Clash x d y e) q.0 clash))
        | inr fy' ↦ clear.apart x y d e fx' fy' ne clash
      ]
    ]

    unmet : (x d : ℕ) → HasExact (with_literal box (exact b code)) x d → MeetsSome c x d → ⊥
    unmet x d fx met = elim (with_has_exact box b code x d r fx) [
      | inl p ↦ free (subst (MeetsSome c b) p.1 (subst (λ x. MeetsSome c x d) p.0 met))
      | inr fx' ↦ clear.unmet x d fx' met
    ]

-- a box contains it with a literal more
pub contains_with : (box : List Literal) (l : Literal) → LeavesFree box l.block → All (Contains (with_literal box l)) box
contains_with box l free k d m =
    let x = get_or box k d in
    let inside : Contains box x = All-contains_itself box k d m in
    elim (cases_order x.block l.block) [
      | inl e ↦ absurd (free k d m e)
      | inr o ↦ elim o [
        | inl lt ↦ Contains-append_left (filter (λ m. nat_lt m.block l.block) box) (l ∷ filter (λ m. nat_lt l.block m.block) box) x
            (contains_filter (λ m. nat_lt m.block l.block) box x (lt-ltb x.block l.block lt) inside)
        | inr gt ↦ Contains-append_right (filter (λ m. nat_lt m.block l.block) box) (l ∷ filter (λ m. nat_lt l.block m.block) box) x
            (let (k, w, e) = contains_filter (λ m. nat_lt l.block m.block) box x (lt-ltb l.block x.block gt) inside in (suc k, omega arith, e))
      ]
    ]

-- the literal of a code that exists
pub exact_literal : (c : Choices) (b code : ℕ) → b < blocks c → code < count c b → IsLiteral c (exact b code)
exact_literal c b code exists l = record {
  block = exists;
  some = omega arith;
  codes = omega arith;
  part = λ w. let e = w.0 in let f = w.1 in omega arith;
}

pub in_range_below : (c : Choices) (b lo hi code : ℕ) → IsRange c b lo hi → code < hi → code < count c b
in_range_below c b lo hi code r l = elim r [ inl a ↦ let h = a.1 in omega arith | inr z ↦ let h = z.1 in absurd (omega arith) ]

pub whole_range : (c : Choices) (b : ℕ) → IsRange c b 0 (count c b)
whole_range c b = elim (cases_lt 0 (count c b)) [ inl l ↦ inl (l, omega arith) | inr l ↦ let e : count c b ≡ 0 = omega arith in inr (refl, e, e) ]

-- a node's child: one code of its block
pub child_open : (c : Choices) (job : Job) (side : List Literal) (b lo hi code : ℕ) → AreKnown c → IsNode c job side b lo hi → lo ≤ code → code < hi
    → (Clashes c side b code → ⊥) → (MeetsSome c b code → ⊥) → IsOpenBox c job (with_literal side (exact b code))
child_open c job side b lo hi code known node l h none free = record {
  part_is = with_box c side (exact b code) node.side_is (exact_literal c b code node.block (in_range_below c b lo hi code node.range h));
  clear = with_clear c side b code known.mutual_clash (rises_from side node.side_is.ascending) node.clear none free;
  region = λ q feasible held.
      let (inside, at) = held_without side (exact b code) q node.free held in
      let x = at.0 in let y = at.1 in
      node.region q feasible inside (omega arith) (omega arith);
}

-- a plan whose codes are exact in a clear box is feasible
pub exact_feasible : (c : Choices) (box q : _) → IsBox c box → IsClear c box → HasExactAll c box q → length q ≡ blocks c → IsFeasible c q
exact_feasible c box q is clear exacts n = record {
  is_plan = record {
    one_each = n;
    in_range = λ b l. let m : IsLiteral c (exact b (code_of q b)) = exact-all (IsLiteral c) box b (code_of q b) is.each (exacts b l) in let h = m.codes in omega arith;
  };
  clear = λ x y lx ly ne clash. clear.apart x y (code_of q x) (code_of q y) (exacts x lx) (exacts y ly) ne clash;
  unmet = λ b l met. clear.unmet b (code_of q b) (exacts b l) met;
}

-- and its total is the box's base
pub exact_base : (c : Choices) (box : List Literal) (q : List ℕ) → IsPlan c q → HasExactAll c box q → IsBase c box (Some (total c q))
exact_base c box q plan exacts = go (blocks c) (omega arith)
  where
    go : (n : ℕ) → n ≤ blocks c → IsSumOfLeast (MayTake c box) c.cost n (sum_below n (λ b. c.cost b (code_of q b)))
    go zero l = refl
    go (suc n) l =
        let here : HasExact box n (code_of q n) = exacts n (omega arith) in (
          sum_below n (λ b. c.cost b (code_of q b)),
          c.cost n (code_of q n),
          go n (omega arith),
          (
            (code_of q n, (plan.in_range n (omega arith), λ d f. same_Some (code_of q n) d (sym here ∙ f)), refl),
            λ x may. let e : c.cost n x ≡ c.cost n (code_of q n) = ap (c.cost n) (may.1 (code_of q n) here) in omega arith,
          ),
          refl,
        )
