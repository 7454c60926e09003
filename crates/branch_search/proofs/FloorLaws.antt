-- Bounds that beat a box and each box with more literals, and the dear codes that a base covers by them.
use Rattle.std.proofs.Common.{◌≡◌, ◌≢◌, ℕ, zero, suc, ◌+◌, ◌/◌, ◌^◌, ◌<◌, ◌≤◌, List, [], Option, Some, None, Bool, true, refl, sym, subst, inl, inr, arith, get_or, length}
use Rattle.std.specs.List.{All, Contains}
use Rattle.common_lists.proofs.ListLaws.{contains_filter}
use Rattle.plan_rule.proofs.WithLaws.{with_self}
use Rattle.plan_rule.proofs.BehindLaws.{exact_has}
use Rattle.tardiness_bounds.specs.declared.bound.Bound.{Bound}
use Rattle.tardiness_bounds.specs.declared.bound.Bound.TheVariants.{Number}
use Rattle.tardiness_bounds.specs.Numbers.{number}
use Rattle.std.proofs.lemmas.Bool.{cases_eq, cases_lt}
use Rattle.std.proofs.lemmas.List.Elements.{All-contains}
use Rattle.std.proofs.lemmas.Option.{same_Some}
use Rattle.plan_rule.specs.declared.literal.Literal.{Literal}
use Rattle.plan_rule.specs.Choices.{Choices, blocks, count}
use Rattle.plan_rule.specs.Plans.{total}
use Rattle.plan_rule.proofs.PathLaws.{path-below}
use Rattle.plan_rule.specs.Boxes.{IsBox, LeavesFree, HasExact, exact, with_literal}
use Rattle.plan_rule.specs.Bounds.{IsBase, IsBehind, IsBehindOn, IsBound, IsSumOfLeast, MayTake}
use Rattle.branch_kernel.specs.Known.{AreKnown}
use Rattle.branch_kernel.specs.States.{State, IsHeld, relied}
use Rattle.branch_kernel.specs.Boxes.{kept}
use Rattle.branch_kernel.specs.Shows.{IsHandledBy}
use Rattle.branch_kernel.proofs.RivalLaws.{beats_later, beats_tie, later_none}
use Rattle.branch_kernel.proofs.NodeLaws.{key_fits}
use Rattle.branch_kernel.proofs.WithLaws.{Rises, rises_from, rises_filter, passed, with_box, with_rises, with_has_exact, contains_with, exact_of_literal, exact_literal}
use Rattle.branch_kernel.proofs.DropLaws.{base_exists, beats_over, kept_box, kept_free, kept_inside, sum_some}
use Rattle.branch_kernel.proofs.GrowthLaws.{handled_base}
use Rattle.branch_search.specs.Floors.{IsNoLess, BeatsFrom}

-- the sum of leasts rises where each code that may be taken has one that is no dearer
sum_rises : (May More : ℕ → ℕ → Type 0) (cost : ℕ → ℕ → ℕ) (n k j : ℕ) → ((b x : ℕ) → b < n → May b x → (y : ℕ) × More b y × (cost b y ≤ cost b x))
    → IsSumOfLeast May cost n k → IsSumOfLeast More cost n j → j ≤ k
sum_rises May More cost zero k j more h i = omega arith
sum_rises May More cost (suc n) k j more (s, m, hs, ((x, may, e), least), f) (t, l, ht, (some, lowest), g) =
    let a = sum_rises May More cost n s t (λ b x l. more b x (omega arith)) hs ht in
    let (y, is, cheap) = more n x (omega arith) may in
    let b = lowest y is in omega arith

-- and so does a bound
bound_rises : (May More : ℕ → ℕ → Type 0) (cost : ℕ → ℕ → ℕ) (n : ℕ) (k r : Option ℕ) → ((b x : ℕ) → b < n → May b x → (y : ℕ) × More b y × (cost b y ≤ cost b x))
    → IsBound May cost n k → IsBound More cost n r → IsNoLess k r
bound_rises May More cost n None r more h i = tt
bound_rises May More cost n (Some k) None more h (b, l, none) =
    let (x, may) = sum_some May cost n k b l h in
    let (y, is, cheap) = more b x l may in none y is
bound_rises May More cost n (Some k) (Some j) more h i = sum_rises May More cost n k j more h i

-- what is kept of a side for some blocks stands in the side kept for more blocks, with a literal more
pub kept_in : (keep needs : ℕ → Bool) (side : List Literal) (l : Literal) → LeavesFree side l.block → ((z : ℕ) → needs z ≡ true → keep z ≡ true)
    → All (Contains (with_literal (kept keep side) l)) (kept needs side)
kept_in keep needs side l free some = λ k d w.
    All-contains (Contains (with_literal (kept keep side) l)) (kept keep side) (get_or (kept needs side) k d) (contains_with (kept keep side) l (kept_free keep side l.block free))
    (contains_filter (λ l. keep l.block) side (get_or (kept needs side) k d) (some _ (passed (λ l. needs l.block) side k d w)) (kept_inside needs side k d w))

-- what is exact among what is kept is exact where more is kept, beside an exact literal more
exact_in_more : (keep needs : ℕ → Bool) (side : List Literal) (b x a d : ℕ) → Rises side → LeavesFree side b → ((z : ℕ) → needs z ≡ true → keep z ≡ true)
    → HasExact (kept needs side) a d → HasExact (with_literal (kept keep side) (exact b x)) a d
exact_in_more keep needs side b x a d rises free some exacts =
    exact_of_literal (with_literal (kept keep side) (exact b x)) (exact a d) (with_rises (kept keep side) (exact b x) (rises_filter (λ l. keep l.block) side rises)) refl
    (All-contains (Contains (with_literal (kept keep side) (exact b x))) (kept needs side) (exact a d) (kept_in keep needs side (exact b x) free some)
    (exact_has (kept needs side) a d exacts))

-- the base with a dearer code, and with more literals, is not below
pub base_rises : (c : Choices) (keep needs : ℕ → Bool) (side : List Literal) (b x y : ℕ) (k r : Option ℕ) → IsBox c side → LeavesFree side b → y < count c b
    → ((z : ℕ) → needs z ≡ true → keep z ≡ true) → c.cost b y ≤ c.cost b x
    → IsBase c (with_literal (kept keep side) (exact b x)) k → IsBase c (with_literal (kept needs side) (exact b y)) r → IsNoLess k r
base_rises c keep needs side b x y k r is free exists some cheap base base' =
    bound_rises (MayTake c (with_literal (kept keep side) (exact b x))) (MayTake c (with_literal (kept needs side) (exact b y))) c.cost (blocks c) k r more base base'
  where
    rises : Rises side
    rises = rises_from side is.ascending

    own : HasExact (with_literal (kept keep side) (exact b x)) b x
    own = exact_of_literal (with_literal (kept keep side) (exact b x)) (exact b x) (with_rises (kept keep side) (exact b x) (rises_filter (λ l. keep l.block) side rises)) refl
        (with_self (kept keep side) (exact b x))

    lone : (d : ℕ) → HasExact (with_literal (kept needs side) (exact b y)) b d → y ≡ d
    lone d exacts = elim (with_has_exact (kept needs side) b y b d (rises_filter (λ l. needs l.block) side rises) exacts) [
      | inl same ↦ sym same.1
      | inr inside ↦ absurd (All-contains (λ l. l.block ≢ b) side (exact b d) free
          (All-contains (Contains side) (kept needs side) (exact b d) (kept_inside needs side) (exact_has (kept needs side) b d inside)) refl)
    ]

    more : (a z : ℕ) → a < blocks c → MayTake c (with_literal (kept keep side) (exact b x)) a z
        → (w : ℕ) × MayTake c (with_literal (kept needs side) (exact b y)) a w × (c.cost a w ≤ c.cost a z)
    more a z l (below, at) = elim (cases_eq a b) [
      | inl e ↦ (
        y,
        (subst (λ a. y < count c a) (sym e) exists, λ d exacts. lone d (subst (λ a. HasExact (with_literal (kept needs side) (exact b y)) a d) e exacts)),
        (let f : z ≡ x = at x (subst (λ a. HasExact (with_literal (kept keep side) (exact b x)) a x) (sym e) own) in
            subst (λ a. c.cost a y ≤ c.cost a z) (sym e) (subst (λ z. c.cost b y ≤ c.cost b z) (sym f) cheap)),
      )
      | inr differ ↦ (
        z,
        (
          below,
          λ d exacts. elim (with_has_exact (kept needs side) b y a d (rises_filter (λ l. needs l.block) side rises) exacts) [
            | inl same ↦ absurd (differ same.0)
            | inr inside ↦ at d (exact_in_more keep needs side b x a d rises free some inside)
          ],
        ),
        omega arith,
      )
    ]

-- a box is behind a plan where a box with fewer literals is
behind_more : (c : Choices) (part box : List Literal) (m : List ℕ) → IsBox c box → All (Contains box) part → IsBehind c part m → IsBehind c box m
behind_more c part box m is inside behind = elim behind [
  | inl one ↦
      let (j, exists, exacts, (k, l, within, is_l, above)) = one in
      let (k', within', e) = All-contains (Contains box) part l inside (k, within, is_l) in
      inl (j, exists, (λ b i. move b _ (exacts b i)), (k', l, within', e, above))
  | inr all ↦ inr (λ b i. move b _ (all b i))
]
  where
    move : (b d : ℕ) → HasExact part b d → HasExact box b d
    move b d exacts = exact_of_literal box (exact b d) (rises_from box is.ascending) refl
        (All-contains (Contains box) part (exact b d) inside (exact_has part b d exacts))

-- a bound that ties with the best, at a box behind it, beats from there on
pub tie_from : (c : Choices) (bar : ℕ) (m : List ℕ) (part : List Literal) → AreKnown c → bar < 2 ^ 64 → IsHeld c bar (Some m) → IsBehind c part m
    → BeatsFrom c bar (Some m) part (Some (total c m))
tie_from c bar m part known fits held behind box None is inside less = record { refutes = λ t rival. tt; settles = λ q feasible held most. absurd most }
tie_from c bar m part known fits held behind box (Some k) is inside less = elim (cases_lt (total c m) k) [
  | inl above ↦
      let low = held.1 in
      let small = known.small.total m held.0.is_plan in
      let top = path-below c m in
      let h : bar / 2 ^ 32 < total c m + 1 = omega arith in
      beats_later c bar bar None (Some m) box (Some k) fits (later_none c bar (Some m))
      (beats_over c bar (total c m + 1) box (Some k) (omega arith) h (λ n e. let f = same_Some k n e in omega arith))
  | inr not ↦ beats_tie c bar m box k held.0 (key_fits c m known held.0.is_plan) held.1 (omega arith) (behind_more c part box m is inside behind)
]

-- a code that is no cheaper than one with which the base beats, beside what is needed
pub dear_handled : (c : Choices) (start s : State) (tie : Bool) (side : List Literal) (needs : ℕ → Bool) (b x y : ℕ) (r : Option ℕ) → IsBox c side → LeavesFree side b → b < blocks c
    → y < count c b → x < count c b → BeatsFrom c s.bar (relied tie s.best) (kept needs side) r → IsBase c (with_literal (kept needs side) (exact b y)) r
    → c.cost b y ≤ c.cost b x → IsHandledBy c start s tie side needs [] b x
dear_handled c start s tie side needs b x y r is free block exists inside beats base cheap keep some =
    let (k, here) = base_exists c (with_literal (kept keep side) (exact b x)) in
    handled_base c start s tie (kept keep side) [] b x k here
    (beats (with_literal (kept keep side) (exact b x)) k (with_box c (kept keep side) (exact b x) (kept_box c keep side is) (exact_literal c b x block inside))
    (kept_in keep needs side (exact b x) free some) (base_rises c keep needs side b x y k r is free exists some cheap here base))

-- the same, in the words of the best and of the bound
pub tie_bound : (c : Choices) (bar : ℕ) (best : Option (List ℕ)) (part : List Literal) (m : List ℕ) (bound : Bound) (k : ℕ) → AreKnown c → bar < 2 ^ 64 → IsHeld c bar best
    → best ≡ Some m → bound ≡ Number k → k ≡ total c m → IsBehindOn (length m) part m → BeatsFrom c bar best part (number bound)
tie_bound c bar best part m bound k known fits held is least same behind =
    let two : IsHeld c bar (Some m) = subst (IsHeld c bar) is held in
    subst (λ best. BeatsFrom c bar best part (number bound)) (sym is)
    (subst (λ b. BeatsFrom c bar (Some m) part (number b)) (sym least)
    (subst (λ k. BeatsFrom c bar (Some m) part (Some k)) (sym same)
    (tie_from c bar m part known fits two (subst (λ n. IsBehindOn n part m) two.0.is_plan.one_each behind))))

-- a code with which the base of the needed literals beats
pub kept_base : (c : Choices) (start s : State) (bar : ℕ) (best : Option (List ℕ)) (tie : Bool) (side short part : List Literal) (needs : ℕ → Bool) (b code : ℕ) (l : Literal) (r : Option ℕ)
    → short ≡ kept needs side → l ≡ exact b code → part ≡ with_literal short l → IsBox c side → LeavesFree side b → b < blocks c → code < count c b
    → BeatsFrom c bar (relied tie best) short r → IsBase c part r → s.bar ≡ bar → s.best ≡ best → IsHandledBy c start s tie side needs [] b code
kept_base c start s bar best tie side short part needs b code l r e f g is free block exists beats base same_bar same_best =
    dear_handled c start s tie side needs b code code r is free block exists exists
    (subst (λ short. BeatsFrom c s.bar (relied tie s.best) short r) e
    (subst (λ best. BeatsFrom c s.bar (relied tie best) short r) (sym same_best) (subst (λ bar. BeatsFrom c bar (relied tie best) short r) (sym same_bar) beats)))
    (subst (λ short. IsBase c (with_literal short (exact b code)) r) e (subst (λ l. IsBase c (with_literal short l) r) f (subst (λ part. IsBase c part r) g base)))
    (omega arith)

-- the needed literals with the code are a box
pub short_part : (c : Choices) (side short part : List Literal) (needs : ℕ → Bool) (b code : ℕ) (l : Literal) → short ≡ kept needs side → l ≡ exact b code → part ≡ with_literal short l
    → IsBox c side → b < blocks c → code < count c b → IsBox c part
short_part c side short part needs b code l e f g is block exists =
    subst (IsBox c) (sym g) (subst (λ l. IsBox c (with_literal short l)) (sym f)
    (with_box c short (exact b code) (subst (IsBox c) (sym e) (kept_box c needs side is)) (exact_literal c b code block exists)))
