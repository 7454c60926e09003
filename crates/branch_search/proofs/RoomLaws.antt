-- How much a box leaves to a search: the codes of each block, and the blocks that are not exact.
use Rattle.std.proofs.Common.{◌≡◌, ◌≢◌, ℕ, zero, suc, ◌+◌, ◌<◌, ◌≤◌, ◌⊎◌, List, [], ◌∷◌, Bool, true, false, refl, sym, ap, ◌∙◌, subst, inl, inr, arith}
use Rattle.std.specs.Prelude.{◌==◌, ◌&&◌, nat_le, nat_lt, if◌then◌else◌, not, filter}
use Rattle.std.specs.List.{All, Contains}
use Rattle.std.proofs.lemmas.Bool.{cases_lt, cases_order, and_parts, eqb-true, eq-eqb, ne_eqb, le-leb, lt-ltb, leb-true, ltb-true, true≢false}
use Rattle.std.proofs.lemmas.List.Elements.{All-nil, All-cons, All-head, All-tail, All-contains, All-contains_itself, All-weaker, Contains-append_right}
use Rattle.common_lists.specs.Each.{sum_below}
use Rattle.common_lists.proofs.EachLaws.{sum-le}
use Rattle.common_lists.proofs.ListLaws.{contains_filter}
use Rattle.plan_rule.specs.declared.literal.Literal.{Literal}
use Rattle.plan_rule.specs.Choices.{Choices, blocks, count}
use Rattle.plan_rule.specs.Boxes.{IsAscending, LeavesFree, exact, with_literal}
use Rattle.refutation_log.specs.Steps.{IsRange}
use Rattle.branch_kernel.specs.Boxes.{IsRangeOn, kept, node_box, others}
use Rattle.branch_kernel.proofs.WithLaws.{contains_with, place_of, with_all}
use Rattle.plan_rule.proofs.BehindLaws.{one_literal}
use Rattle.branch_search.specs.Segments.{IsSegment}

-- whether each literal of the box on the block has the code
abbrev leaves : List Literal → ℕ → ℕ → Bool
leaves [] b x = true
leaves (l ∷ box) b x = (if l.block == b then nat_le l.lo x && nat_lt x l.hi else true) && leaves box b x

abbrev mark : Bool → ℕ
mark true = 1
mark false = 0

-- how many codes the box leaves to all blocks
abbrev pub room : Choices → List Literal → ℕ
room c box = sum_below (blocks c) (λ b. sum_below (count c b) (λ x. mark (leaves box b x)))

abbrev HasOn : ℕ → ℕ → Literal → Type 0
HasOn b x l = l.block ≡ b → (l.lo ≤ x) × (x < l.hi)

abbrev Left : List Literal → ℕ → ℕ → Type 0
Left box b x = All (HasOn b x) box

from_leaves : (box : List Literal) (b x : ℕ) → leaves box b x ≡ true → Left box b x
from_leaves [] b x e = All-nil (HasOn b x)
from_leaves (l ∷ box) b x e =
    let two = and_parts _ _ e in
    All-cons (HasOn b x) l box (λ same. one (l.block == b) (eq-eqb l.block b same) two.0) (from_leaves box b x two.1)
  where
    one : (t : Bool) → t ≡ true → (if t then nat_le l.lo x && nat_lt x l.hi else true) ≡ true → (l.lo ≤ x) × (x < l.hi)
    one true f g = let parts = and_parts _ _ g in (leb-true l.lo x parts.0, ltb-true x l.hi parts.1)
    one false f g = absurd (true≢false (sym f))

to_leaves : (box : List Literal) (b x : ℕ) → Left box b x → leaves box b x ≡ true
to_leaves [] b x h = refl
to_leaves (l ∷ box) b x h = both (if l.block == b then nat_le l.lo x && nat_lt x l.hi else true) (leaves box b x) (one (l.block == b) refl) (to_leaves box b x (All-tail (HasOn b x) l box h))
  where
    both : (s t : Bool) → s ≡ true → t ≡ true → (s && t) ≡ true
    both true t e f = f
    both false t e f = e

    one : (t : Bool) → (l.block == b) ≡ t → (if t then nat_le l.lo x && nat_lt x l.hi else true) ≡ true
    one true e = let w = All-head (HasOn b x) l box h (eqb-true l.block b e) in both (nat_le l.lo x) (nat_lt x l.hi) (le-leb l.lo x w.0) (lt-ltb x l.hi w.1)
    one false e = refl

mark_le : (s t : Bool) → (s ≡ true → t ≡ true) → mark s ≤ mark t
mark_le true true h = omega arith
mark_le true false h = absurd (true≢false (sym (h refl)))
mark_le false t h = omega arith

mark_less : (s t : Bool) → (s ≡ true → ⊥) → t ≡ true → mark s < mark t
mark_less true t h e = absurd (h refl)
mark_less false true h e = omega arith
mark_less false false h e = absurd (true≢false (sym e))

sum_less : (n b : ℕ) (f g : ℕ → ℕ) → b < n → ((x : ℕ) → x < n → f x ≤ g x) → f b < g b → sum_below n f < sum_below n g
sum_less zero b f g l h less = absurd (omega arith)
sum_less (suc n) b f g l h less = elim (cases_lt b n) [
  | inl below ↦ let a = sum_less n b f g below (λ x m. h x (omega arith)) less in let e = h n (omega arith) in omega arith
  | inr last ↦
      let a = sum-le n f g (λ x m. h x (omega arith)) in
      let e : b ≡ n = omega arith in
      let w : f n < g n = subst (λ x. f x < g x) e less in omega arith
]

-- a box that leaves no code which another does not leaves no more
room_le : (c : Choices) (inner outer : List Literal) → ((b x : ℕ) → x < count c b → Left inner b x → Left outer b x) → room c inner ≤ room c outer
room_le c inner outer h =
    sum-le (blocks c) _ _ (λ b l. sum-le (count c b) _ _ (λ x m. mark_le (leaves inner b x) (leaves outer b x) (λ e. to_leaves outer b x (h b x m (from_leaves inner b x e)))))

-- and less, where it leaves out one that the other leaves
room_less : (c : Choices) (inner outer : List Literal) (b x : ℕ) → b < blocks c → x < count c b → ((b x : ℕ) → x < count c b → Left inner b x → Left outer b x)
    → (Left inner b x → ⊥) → Left outer b x → room c inner < room c outer
room_less c inner outer b x l m h out in' =
    sum_less (blocks c) b _ _ l
    (λ b l. sum-le (count c b) _ _ (λ x m. mark_le (leaves inner b x) (leaves outer b x) (λ e. to_leaves outer b x (h b x m (from_leaves inner b x e)))))
    (sum_less (count c b) x _ _ m
    (λ x m. mark_le (leaves inner b x) (leaves outer b x) (λ e. to_leaves outer b x (h b x m (from_leaves inner b x e))))
    (mark_less (leaves inner b x) (leaves outer b x) (λ e. out (from_leaves inner b x e)) (to_leaves outer b x in')))

-- a literal of another block is left
left_in : (b : ℕ) (part : List Literal) (m : Literal) → Contains part m → m.block ≢ b → Contains (kept (others b) part) m
left_in b part m inside ne = contains_filter (λ m. others b m.block) part m (ap not (ne_eqb m.block b ne)) inside

-- what the box of a side with a literal leaves
left_with : (side : List Literal) (l : Literal) (b x : ℕ) → Left side b x → HasOn b x l → Left (with_literal side l) b x
left_with side l b x left has = with_all (HasOn b x) side l left has

side_left : (side : List Literal) (l : Literal) (b x : ℕ) → LeavesFree side l.block → Left (with_literal side l) b x → Left side b x
side_left side l b x free h = All-weaker (Contains (with_literal side l)) (HasOn b x) (λ m i. All-contains (HasOn b x) (with_literal side l) m h i) side (contains_with side l free)

literal_left : (side : List Literal) (l : Literal) (b x : ℕ) → Left (with_literal side l) b x → HasOn b x l
literal_left side l b x h = All-contains (HasOn b x) (with_literal side l) l h (has side l)
  where
    has : (side : List Literal) (l : Literal) → Contains (with_literal side l) l
    has side l = Contains-append_right (filter (λ m. nat_lt m.block l.block) side) (l ∷ filter (λ m. nat_lt l.block m.block) side) l (0, omega arith, refl)

-- what a node's box leaves
node_left : (c : Choices) (side : List Literal) (b lo hi b' x : ℕ) → Left side b' x → (b ≡ b' → (lo ≤ x) × (x < hi)) → Left (node_box c side b lo hi) b' x
node_left c side b lo hi b' x left has = go ((lo == 0) && (hi == count c b))
  where
    go : (t : Bool) → Left (if t then side else with_literal side (record { block = b; lo = lo; hi = hi })) b' x
    go true = left
    go false = left_with side (record { block = b; lo = lo; hi = hi }) b' x left has

left_node : (c : Choices) (side : List Literal) (b lo hi b' x : ℕ) → LeavesFree side b → x < count c b' → Left (node_box c side b lo hi) b' x → Left side b' x × (b ≡ b' → (lo ≤ x) × (x < hi))
left_node c side b lo hi b' x free below = go ((lo == 0) && (hi == count c b)) refl
  where
    go : (t : Bool) → ((lo == 0) && (hi == count c b)) ≡ t → Left (if t then side else with_literal side (record { block = b; lo = lo; hi = hi })) b' x
        → Left side b' x × (b ≡ b' → (lo ≤ x) × (x < hi))
    go true e h = (
      h,
      λ same.
          let two = and_parts _ _ e in
          let low = eqb-true lo 0 two.0 in
          let high = eqb-true hi (count c b) two.1 in
          let top : count c b ≡ count c b' = ap (count c) same in
          (omega arith, omega arith),
    )
    go false e h = (side_left side (record { block = b; lo = lo; hi = hi }) b' x free h, literal_left side (record { block = b; lo = lo; hi = hi }) b' x h)

-- a code of a node's range leaves no more than the node
pub code_room : (c : Choices) (side : List Literal) (b lo hi code : ℕ) → LeavesFree side b → lo ≤ code → code < hi → room c (node_box c side b code (code + 1)) ≤ room c (node_box c side b lo hi)
code_room c side b lo hi code free low high = room_le c (node_box c side b code (code + 1)) (node_box c side b lo hi) (λ b' x below h.
    let two = left_node c side b code (code + 1) b' x free below h in
    node_left c side b lo hi b' x two.0 (λ same. let w = two.1 same in (omega arith, omega arith)))

-- and the side with the code no more than that
pub child_room : (c : Choices) (side child : List Literal) (b code : ℕ) → LeavesFree side b → child ≡ with_literal side (exact b code) → room c child ≤ room c (node_box c side b code (code + 1))
child_room c side child b code free e = subst (λ child. room c child ≤ room c (node_box c side b code (code + 1))) (sym e)
    (room_le c (with_literal side (exact b code)) (node_box c side b code (code + 1)) (λ b' x below h.
    node_left c side b code (code + 1) b' x (side_left side (exact b code) b' x free h) (literal_left side (exact b code) b' x h)))

-- the node of a box leaves no more than the box
pub split_room : (c : Choices) (part side : List Literal) (b : ℕ) (l : Literal) → IsAscending part → IsRangeOn c part b l → LeavesFree side l.block → side ≡ kept (others b) part
    → room c (node_box c side l.block l.lo l.hi) ≤ room c part
split_room c part side b l up (at, range) free e = room_le c (node_box c side l.block l.lo l.hi) part (λ b' x below h.
    let two = left_node c side l.block l.lo l.hi b' x free below h in
    All-weaker (Contains part) (HasOn b' x) (λ m inside same. one b' x two m inside same) part (All-contains_itself part))
  where
    one : (b' x : ℕ) → Left side b' x × (l.block ≡ b' → (l.lo ≤ x) × (x < l.hi)) → (m : Literal) → Contains part m → m.block ≡ b' → (m.lo ≤ x) × (x < m.hi)
    one b' x two m inside same = elim (cases_order m.block b) [
      | inl here ↦ elim range [
        | inl has ↦
            let (i, place) = place_of part m inside in
            let f : l ≡ m = one_literal part i l m up has place (at ∙ sym here) in
            subst (λ (m : Literal). (m.lo ≤ x) × (x < m.hi)) f (two.1 (at ∙ sym here ∙ same))
        | inr none ↦ absurd (All-contains (λ m. m.block ≢ b) part m none.0 inside here)
      ]
      | inr o ↦
          let ne : m.block ≢ b = elim o [ inl l ↦ (λ e. absurd (omega arith)) | inr l ↦ (λ e. absurd (omega arith)) ] in
          All-contains (HasOn b' x) (kept (others b) part) m (subst (λ side. Left side b' x) e two.0) (left_in b part m inside ne) same
    ]

-- a segment of a node's range that has several codes leaves less than the node
pub segment_room : (c : Choices) (side part : List Literal) (range segment : Literal) → range.block < blocks c → LeavesFree side range.block → IsRange c range.block range.lo range.hi
    → IsSegment range segment → segment.lo + 1 < segment.hi → part ≡ with_literal side segment → room c part < room c (node_box c side range.block range.lo range.hi)
segment_room c side part range segment exists free is p more e = subst (λ part. room c part < room c (node_box c side range.block range.lo range.hi)) (sym e) (elim (p.part more) [
  | inl low ↦ (let h = p.high in out range.lo (omega arith) (omega arith) (inl low))
  | inr high ↦ (let l = p.low in out segment.hi (omega arith) high (inr (omega arith)))
])
  where
    free' : LeavesFree side segment.block
    free' = subst (LeavesFree side) (sym p.block) free

    top : range.hi ≤ count c range.block
    top = elim is [ inl r ↦ r.1 | inr z ↦ let h = z.1 in omega arith ]

    out : (x : ℕ) → range.lo ≤ x → x < range.hi → (x < segment.lo) ⊎ (segment.hi ≤ x) → room c (with_literal side segment) < room c (node_box c side range.block range.lo range.hi)
    out x low high not = room_less c (with_literal side segment) (node_box c side range.block range.lo range.hi) range.block x exists (let t = top in omega arith)
        (λ b' x' below h. node_left c side range.block range.lo range.hi b' x' (side_left side segment b' x' free' h)
        (λ same. let w = literal_left side segment b' x' h (p.block ∙ same) in let l = p.low in let g = p.high in (omega arith, omega arith)))
        (λ h. let w = literal_left side segment range.block x h p.block in elim not [ inl a ↦ absurd (omega arith) | inr a ↦ absurd (omega arith) ])
        (node_left c side range.block range.lo range.hi range.block x
        (All-weaker (λ m. m.block ≢ range.block) (HasOn range.block x) (λ m ne same. absurd (ne same)) side free) (λ same. (low, high)))
