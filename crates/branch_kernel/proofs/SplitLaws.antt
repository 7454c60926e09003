-- A box split at a block: what is left of it, and the range of the block.
use Rattle.std.proofs.Common.{◌≡◌, ◌≢◌, ℕ, zero, suc, ◌+◌, ◌<◌, ◌≤◌, List, [], ◌∷◌, ◌++◌, length, get_or, Option, Some, None, refl, sym, ap, ◌∙◌, subst, inl, inr, arith, Bool, true, false, append_assoc, length-append}
use Rattle.std.specs.Prelude.{◌==◌, ◌&&◌, if◌then◌else◌, not, nat_lt}
use Rattle.std.specs.List.{All, Contains, filter}
use Rattle.std.proofs.lemmas.Bool.{cases_lt, cases_order, eq-eqb, ne_eqb, true≢false, false≢true}
use Rattle.std.proofs.lemmas.Option.{none-some}
use Rattle.std.proofs.lemmas.List.{get_or_append_left}
use Rattle.std.proofs.lemmas.List.Elements.{All-contains, All-contains_itself, All-filter, All-weaker}
use Rattle.common_lists.specs.Each.{sum_below}
use Rattle.common_lists.proofs.EachLaws.{sum-le}
use Rattle.common_lists.proofs.ListLaws.{if_true, contains_filter}
use Rattle.plan_rule.specs.declared.literal.Literal.{Literal}
use Rattle.plan_rule.specs.declared.job.Job.{Job}
use Rattle.plan_rule.specs.Choices.{Choices, blocks, count}
use Rattle.plan_rule.specs.Plans.{code_of, IsPlan}
use Rattle.plan_rule.specs.Boxes.{AreLiterals, IsAscending, IsBox, IsLiteral, Holds, LeavesFree, HasExact, exact_code, exact, with_literal}
use Rattle.plan_rule.proofs.BoxLaws.{HoldsCode}
use Rattle.plan_rule.proofs.BehindLaws.{one_literal, exact_has}
use Rattle.plan_rule.proofs.ExactLaws.{nothing_exact}
use Rattle.plan_rule.proofs.WithLaws.{with_self}
use Rattle.refutation_log.specs.Steps.{IsRange, result_of}
use Rattle.branch_kernel.specs.States.{State}
use Rattle.branch_kernel.specs.Boxes.{IsRangeOn, IsWholePlan, HasExactAll, Clashes, kept, others, node_box, inexact, free_mark}
use Rattle.branch_kernel.specs.Nodes.{IsOpenBox, IsNode}
use Rattle.branch_kernel.specs.Shows.{IsShown}
use Rattle.branch_kernel.proofs.WithLaws.{Rises, rises_from, rises_to, rises_filter, exact_of_literal, contains_with, with_rises, with_all, passed, whole_range, place_of}
use Rattle.branch_kernel.proofs.CoverLaws.{covers_more}
use Rattle.branch_kernel.proofs.DropLaws.{kept_box, kept_clear, kept_has_exact, kept_inside}

pub literals_kept : (keep : ℕ → Bool) (box : List Literal) → AreLiterals box → AreLiterals (kept keep box)
literals_kept keep box h = record {
  ascending = rises_to (kept keep box) (rises_filter (λ l. keep l.block) box (rises_from box h.ascending));
  some = All-filter (λ l. keep l.block) (λ l. l.lo < l.hi) box h.some;
}

pub literals_with : (box : List Literal) (l : Literal) → AreLiterals box → l.lo < l.hi → AreLiterals (with_literal box l)
literals_with box l h some = record {
  ascending = rises_to (with_literal box l) (with_rises box l (rises_from box h.ascending));
  some = with_all (λ l. l.lo < l.hi) box l h.some some;
}

-- another block
pub other : (b x : ℕ) → x ≢ b → others b x ≡ true
other b x ne = go (x == b) (ne_eqb x b ne)
  where
    go : (t : Bool) → t ≡ false → not t ≡ true
    go true e = absurd (true≢false e)
    go false e = refl

pub other_is : (b x : ℕ) → others b x ≡ true → x ≢ b
other_is b x t e = go (x == b) (eq-eqb x b e) t
  where
    go : (t : Bool) → t ≡ true → not t ≡ true → ⊥
    go true e f = false≢true f
    go false e f = false≢true e

-- what is left without a block leaves it free
pub without_free : (b : ℕ) (part : List Literal) → LeavesFree (kept (others b) part) b
without_free b part = All-weaker (λ m. others b m.block ≡ true) (λ m. m.block ≢ b) (λ m t. other_is b m.block t) (kept (others b) part) (passed (λ m. others b m.block) part)

-- a literal of another block is left
left_in : (b : ℕ) (part : List Literal) (m : Literal) → Contains part m → m.block ≢ b → Contains (kept (others b) part) m
left_in b part m inside ne = contains_filter (λ m. others b m.block) part m (other b m.block ne) inside

-- a plan in what is left, with a code in the range, lies in the box
split_holds : (c : Choices) (part : List Literal) (b : ℕ) (l : Literal) (q : List ℕ) → IsAscending part → IsRangeOn c part b l → Holds (kept (others b) part) q
    → l.lo ≤ code_of q b → code_of q b < l.hi → Holds part q
split_holds c part b l q up (at, range) held low high k d w = go (get_or part k d) (All-contains_itself part k d w)
  where
    same : (m : Literal) → Contains part m → m.block ≡ b → HoldsCode q m
    same m inside e = elim range [
      | inl here ↦
          let (i, place) = place_of part m inside in
          let f : l ≡ m = one_literal part i l m up here place (at ∙ sym e) in
          subst (HoldsCode q) f (let g : code_of q l.block ≡ code_of q b = ap (code_of q) at in (omega arith, omega arith))
      | inr free ↦ absurd (All-contains (λ m. m.block ≢ b) part m free.0 inside e)
    ]

    go : (m : Literal) → Contains part m → HoldsCode q m
    go m inside = elim (cases_order m.block b) [
      | inl e ↦ same m inside e
      | inr o ↦ All-contains (HoldsCode q) (kept (others b) part) m held
          (left_in b part m inside (elim o [ inl l ↦ (λ e. absurd (omega arith)) | inr l ↦ (λ e. absurd (omega arith)) ]))
    ]

-- an open box split at a block is a node
pub split_node : (c : Choices) (job : Job) (part side : List Literal) (b : ℕ) (l : Literal) → IsOpenBox c job part → b < blocks c → IsRangeOn c part b l
    → side ≡ kept (others b) part → IsNode c job side l.block l.lo l.hi
split_node c job part side b l open' exists on e =
    subst (λ b. IsNode c job side b l.lo l.hi) (sym on.0) (subst (λ side. IsNode c job side b l.lo l.hi) (sym e) (record {
      side_is = kept_box c (others b) part open'.part_is;
      clear = kept_clear c (others b) part (rises_from part open'.part_is.ascending) open'.clear;
      block = exists;
      free = without_free b part;
      range = range on;
      region = λ q feasible held low high. open'.region q feasible (split_holds c part b l q open'.part_is.ascending on held low high);
    }))
  where
    range : IsRangeOn c part b l → IsRange c b l.lo l.hi
    range (at, inl here) =
        let m : IsLiteral c l = All-contains (IsLiteral c) part l open'.part_is.each here in
        let x = m.some in let y = m.codes in let f : count c l.block ≡ count c b = ap (count c) at in inl (omega arith, omega arith)
    range (at, inr (free, low, high)) =
        subst (λ lo. IsRange c b lo l.hi) (sym low) (subst (λ hi. IsRange c b 0 hi) (sym high) (whole_range c b))

-- the node's box has no literal that the box has not
pub split_inside : (c : Choices) (part side : List Literal) (b : ℕ) (l : Literal) → IsRangeOn c part b l → side ≡ kept (others b) part
    → All (Contains part) (node_box c side l.block l.lo l.hi)
split_inside c part side b l (at, range) e =
    subst (λ side. All (Contains part) (node_box c side l.block l.lo l.hi)) (sym e) (elim range [
      | inl here ↦ either ((l.lo == 0) && (l.hi == count c l.block)) here
      | inr free ↦
          subst (All (Contains part)) (sym (if_true ((l.lo == 0) && (l.hi == count c l.block)) (kept (others b) part) (with_literal (kept (others b) part) (record { block = l.block; lo = l.lo; hi = l.hi }))
          (both (l.lo == 0) (l.hi == count c l.block) (eq-eqb l.lo 0 free.1) (eq-eqb l.hi (count c l.block) (free.2 ∙ sym (ap (count c) at))))))
          (kept_inside (others b) part)
    ])
  where
    both : (s t : Bool) → s ≡ true → t ≡ true → (s && t) ≡ true
    both true t e f = f
    both false t e f = e

    either : (t : Bool) → Contains part l → All (Contains part) (if t then kept (others b) part else with_literal (kept (others b) part) (record { block = l.block; lo = l.lo; hi = l.hi }))
    either true here = kept_inside (others b) part
    either false here = with_all (Contains part) (kept (others b) part) l (kept_inside (others b) part) here

-- a record that shows a box shows each box that has its literals
pub shown_inside : (c : Choices) (start s : State) (tie : Bool) (k : ℕ) (mid part : List Literal) → All (Contains part) mid → IsShown c start s tie k mid → IsShown c start s tie k part
shown_inside c start s tie k mid part all shown = record {
  record_is = shown.record_is;
  at = shown.at;
  contains = covers_more c (result_of c shown.record_is) mid part all shown.contains;
  result_is = shown.result_is;
  settles = shown.settles;
  clean = shown.clean;
}

mark_le : (o o' : Option ℕ) → ((d : ℕ) → o ≡ Some d → o' ≡ Some d) → free_mark o' ≤ free_mark o
mark_le None None h = omega arith
mark_le None (Some d) h = omega arith
mark_le (Some d) None h = absurd (none-some d (h d refl))
mark_le (Some d) (Some e) h = omega arith

sum_less : (n b : ℕ) (f g : ℕ → ℕ) → b < n → ((x : ℕ) → x < n → f x ≤ g x) → f b < g b → sum_below n f < sum_below n g
sum_less zero b f g l h less = absurd (omega arith)
sum_less (suc n) b f g l h less = elim (cases_lt b n) [
  | inl below ↦ let a = sum_less n b f g below (λ x m. h x (omega arith)) less in let e = h n (omega arith) in omega arith
  | inr last ↦
      let a = sum-le n f g (λ x m. h x (omega arith)) in
      let e : b ≡ n = omega arith in
      let w : f n < g n = subst (λ x. f x < g x) e less in omega arith
]

-- where what is exact in one box is so in another, no more blocks of the other are not exact
pub inexact_le : (c : Choices) (box box' : List Literal) → ((x d : ℕ) → HasExact box x d → HasExact box' x d) → inexact c box' ≤ inexact c box
inexact_le c box box' h = sum-le (blocks c) _ _ (λ x l. mark_le (exact_code box x) (exact_code box' x) (h x))

-- what is left without a block that was not exact has as many blocks that are not
pub split_inexact : (c : Choices) (part side : List Literal) (b : ℕ) → IsAscending part → exact_code part b ≡ None → side ≡ kept (others b) part → inexact c side ≤ inexact c part
split_inexact c part side b up none e = subst (λ side. inexact c side ≤ inexact c part) (sym e)
    (inexact_le c part (kept (others b) part) (λ x d exacts. kept_has_exact (others b) part x d (rises_from part up)
    (other b x (λ same. none-some d (sym none ∙ subst (λ x. HasExact part x d) same exacts))) exacts))

-- a code more is a block fewer
pub child_inexact : (c : Choices) (side child : List Literal) (b code : ℕ) → IsAscending side → b < blocks c → LeavesFree side b → child ≡ with_literal side (exact b code)
    → inexact c child < inexact c side
child_inexact c side child b code up exists free e = subst (λ child. inexact c child < inexact c side) (sym e)
    (sum_less (blocks c) b _ _ exists (λ x l. mark_le (exact_code side x) (exact_code (with_literal side (exact b code)) x) (stays x)) less)
  where
    r : Rises (with_literal side (exact b code))
    r = with_rises side (exact b code) (rises_from side up)

    stays : (x d : ℕ) → HasExact side x d → HasExact (with_literal side (exact b code)) x d
    stays x d exacts = exact_of_literal (with_literal side (exact b code)) (exact x d) r refl
        (All-contains (Contains (with_literal side (exact b code))) side (exact x d) (contains_with side (exact b code) free) (exact_has side x d exacts))

    here : HasExact (with_literal side (exact b code)) b code
    here = exact_of_literal (with_literal side (exact b code)) (exact b code) r refl (with_self side (exact b code))

    less : free_mark (exact_code (with_literal side (exact b code)) b) < free_mark (exact_code side b)
    less = let e = ap free_mark here in let f = ap free_mark (nothing_exact side b free) in omega arith

-- the literals before, the literal, and those after
pub in_place : (none before mid after first second side : List Literal) (l : Literal) → none ≡ [] → first ≡ side → before ≡ none ++ filter (λ m. nat_lt m.block l.block) first
    → mid ≡ before ++ l ∷ [] → second ≡ side → after ≡ mid ++ filter (λ m. nat_lt l.block m.block) second → after ≡ with_literal side l
in_place none before mid after first second side l e f g h i j =
    let same : before ≡ filter (λ m. nat_lt m.block l.block) side =
    g ∙ ap (λ none. none ++ filter (λ m. nat_lt m.block l.block) first) e ∙ ap (filter (λ m. nat_lt m.block l.block)) f in
    j ∙ ap (λ mid. mid ++ filter (λ m. nat_lt l.block m.block) second) (h ∙ ap (λ before. before ++ l ∷ []) same)
    ∙ ap (λ second. (filter (λ m. nat_lt m.block l.block) side ++ l ∷ []) ++ filter (λ m. nat_lt l.block m.block) second) i
    ∙ append_assoc (filter (λ m. nat_lt m.block l.block) side) (l ∷ []) (filter (λ m. nat_lt l.block m.block) side)

-- the exact code of a block is the first of the range that the box leaves it
pub range_has_exact : (c : Choices) (part : List Literal) (b d : ℕ) (l : Literal) → IsAscending part → IsRangeOn c part b l → HasExact part b d → l.lo ≡ d
range_has_exact c part b d l up (at, range) exacts = elim range [
  | inl here ↦
      let (i, place) = place_of part (exact b d) (exact_has part b d exacts) in
      ap (λ (l : Literal). l.lo) (one_literal part i l (exact b d) up here place at)
  | inr free ↦ absurd (none-some d (sym (nothing_exact part b free.0) ∙ exacts))
]

-- one code more
pub exact_more : (c : Choices) (part : List Literal) (list new : List ℕ) (n : ℕ) (l : Literal) → IsAscending part → IsWholePlan c part → n < blocks c → length list ≡ n
    → ((b : ℕ) → b < n → HasExact part b (code_of list b)) → IsRangeOn c part n l → new ≡ list ++ l.lo ∷ []
    → (length new ≡ n + 1) × ((b : ℕ) → b < n + 1 → HasExact part b (code_of new b))
exact_more c part list new n l up whole exists size exacts on e =
    subst (λ new. (length new ≡ n + 1) × ((b : ℕ) → b < n + 1 → HasExact part b (code_of new b))) (sym e) (
      (let m = length-append list (l.lo ∷ []) in omega arith),
      λ b h. elim (cases_lt b n) [
        | inl old ↦ subst (HasExact part b) (sym (get_or_append_left list (l.lo ∷ []) 0 b (omega arith))) (exacts b old)
        | inr new ↦
            let same : n ≡ b = omega arith in
            let (d, f) = whole n exists in
            let g : l.lo ≡ d = range_has_exact c part n d l up on f in
            subst (λ b. HasExact part b (code_of (list ++ l.lo ∷ []) b)) same
            (subst (HasExact part n) (sym (get_or-last list l.lo n size ∙ g)) f)
      ],
    )
  where
    get_or-last : (xs : List ℕ) (x n : ℕ) → length xs ≡ n → code_of (xs ++ x ∷ []) n ≡ x
    get_or-last [] x zero e = refl
    get_or-last [] x (suc n) e = absurd (omega arith)
    get_or-last (y ∷ xs) x zero e = absurd (omega arith)
    get_or-last (y ∷ xs) x (suc n) e = get_or-last xs x n (omega arith)

-- a plan whose codes are exact in a box
pub whole_plan : (c : Choices) (part : List Literal) (list : List ℕ) → IsBox c part → length list ≡ blocks c → ((b : ℕ) → b < blocks c → HasExact part b (code_of list b)) → IsPlan c list
whole_plan c part list is size exacts = record {
  one_each = size;
  in_range = λ b l. let m : IsLiteral c (exact b (code_of list b)) = All-contains (IsLiteral c) part (exact b (code_of list b)) is.each (exact_has part b (code_of list b) (exacts b l)) in let h = m.codes in omega arith;
}

-- an exact literal that the box has
pub exact_in : (part : List Literal) (l : Literal) (i : ℕ) (d : Literal) → IsAscending part → i < length part → get_or part i d ≡ l → l ≡ exact l.block l.lo → HasExact part l.block l.lo
exact_in part l i d up within at one =
    exact_of_literal part l (rises_from part up) (ap (λ (l : Literal). l.hi) one) (All-contains_at part i d l within at)
  where
    All-contains_at : (part : List Literal) (i : ℕ) (d l : Literal) → i < length part → get_or part i d ≡ l → Contains part l
    All-contains_at part i d l within at = subst (Contains part) at (All-contains_itself part i d within)

-- no exact literal clashes with the code
pub no_clash : (c : Choices) (part : List Literal) (b code : ℕ) → All (λ m. m.hi ≡ m.lo + 1 → c.Clash m.block m.lo b code → ⊥) part → Clashes c part b code → ⊥
no_clash c part b code none (a, d, exacts, clash) =
    All-contains (λ m. m.hi ≡ m.lo + 1 → c.Clash m.block m.lo b code → ⊥) part (exact a d) none (exact_has part a d exacts) refl clash

pub exact_found : (items side : List Literal) (l : Literal) (i : ℕ) (d : Literal) → items ≡ side → IsAscending items → i < length items → get_or items i d ≡ l → l ≡ exact l.block l.lo
    → HasExact side l.block l.lo
exact_found items side l i d e up within at one = subst (λ box. HasExact box l.block l.lo) e (exact_in items l i d up within at one)

pub no_clash_in : (c : Choices) (items side : List Literal) (b code : ℕ) → items ≡ side → All (λ m. m.hi ≡ m.lo + 1 → c.Clash m.block m.lo b code → ⊥) items → Clashes c side b code → ⊥
no_clash_in c items side b code e none = no_clash c side b code (subst (All (λ m. m.hi ≡ m.lo + 1 → c.Clash m.block m.lo b code → ⊥)) e none)

-- a plan whose codes are exact in a box lies in it
pub exact_holds : (c : Choices) (box : List Literal) (q : List ℕ) → IsBox c box → HasExactAll c box q → Holds box q
exact_holds c box q is exacts k d w = go (get_or box k d) (All-contains_itself box k d w)
  where
    go : (m : Literal) → Contains box m → HoldsCode q m
    go m inside =
        let exists : m.block < blocks c = let x = All-contains (IsLiteral c) box m is.each inside in x.block in
        let (i, place) = place_of box m inside in
        let e : exact m.block (code_of q m.block) ≡ m = one_literal box i (exact m.block (code_of q m.block)) m is.ascending (exact_has box m.block (code_of q m.block) (exacts m.block exists)) place refl in
        subst (HoldsCode q) e (omega arith, omega arith)
