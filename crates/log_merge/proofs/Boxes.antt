-- The boxes of a job that is halved, and of its halves.
use Rattle.std.proofs.Common.{◌≡◌, ◌≢◌, ℕ, zero, suc, ◌+◌, ◌-◌, ◌<◌, ◌≤◌, List, [], ◌∷◌, ◌++◌, length, drop, get_or, Bool, true, false, true≢false, Some, refl, sym, ap, ◌∙◌, subst, inl, inr, arith, append-nil, eq-eqb, ne_eqb}
use Rattle.std.specs.Prelude.{if◌then◌else◌, ◌==◌, ◌&&◌, slice_get, nat_lt}
use Rattle.std.specs.List.{All, Contains, filter}
use Rattle.std.proofs.lemmas.Bool.{lt-ltb, le-ltb}
use Rattle.std.proofs.lemmas.Option.{none-some, same_Some}
use Rattle.std.proofs.lemmas.List.Elements.{All-nil, All-cons, All-head, All-tail, All-push, All-append, All-contains, All-weaker}
use Rattle.plan_rule.specs.declared.job.Job.{Job}
use Rattle.plan_rule.specs.declared.literal.Literal.{Literal}
use Rattle.plan_rule.specs.Boxes.{AreLiterals, IsBox, IsLiteral, IsAscending, Holds, with_literal, exact}
use Rattle.plan_rule.specs.Choices.{Choices, blocks, count}
use Rattle.plan_rule.specs.Jobs.{lower, upper}
use Rattle.plan_rule.specs.Paths.{IsInRegion}
use Rattle.plan_rule.specs.Plans.{IsPlan, code_of}
use Rattle.plan_rule.specs.RegionBoxes.{exact_literals, range_literal, region_box}
use Rattle.plan_rule.specs.Regions.{Follows, IsRegionPart, middle}
use Rattle.plan_rule.proofs.RegionBoxLaws.{region_box_holds}
use Rattle.refutation_log.specs.declared.record.Record.TheVariants.{Branch}
use Rattle.refutation_log.specs.Steps.{result_of}
use Rattle.log_merge.specs.Merging.{AreCodesOf, literal, IsBoxOf, AreBoth, IsRecordOf, HasTwo}

get_contains : (xs : List Literal) (k : ℕ) (x : Literal) → slice_get xs k ≡ Some x → Contains xs x
get_contains [] k x e = absurd (none-some x e)
get_contains (y ∷ xs) zero x e = (0, omega arith, same_Some y x e)
get_contains (y ∷ xs) (suc k) x e = let (j, l, f) = get_contains xs k x e in (suc j, omega arith, f)

-- a literal before those of later blocks
ascend_cons : (l : Literal) (xs : List Literal) → All (λ (m : Literal). l.block < m.block) xs → IsAscending xs
    → (i j : ℕ) (a b : Literal) → i < j → slice_get (l ∷ xs) i ≡ Some a → slice_get (l ∷ xs) j ≡ Some b → a.block < b.block
ascend_cons l xs above up i zero a b less e f = absurd (omega arith)
ascend_cons l xs above up zero (suc j) a b less e f =
    subst (λ (x : Literal). x.block < b.block) (same_Some l a e) (All-contains (λ (m : Literal). l.block < m.block) xs b above (get_contains xs j b f))
ascend_cons l xs above up (suc i) (suc j) a b less e f = up i j a b (omega arith) e f

ascend_none : IsAscending []
ascend_none = λ i j l m less e f. absurd (none-some l e)

ascend_tail : (l : Literal) (xs : List Literal) → IsAscending (l ∷ xs) → IsAscending xs
ascend_tail l xs up = λ i j a b less e f. up (suc i) (suc j) a b (omega arith) e f

pub contains_get : (xs : List Literal) (k : ℕ) (x : Literal) → k < length xs → get_or xs k x ≡ x → slice_get xs k ≡ Some x
contains_get [] k x l e = absurd (omega arith)
contains_get (y ∷ xs) zero x l e = ap (λ y. Some y) e
contains_get (y ∷ xs) (suc k) x l e = contains_get xs k x (omega arith) e

-- the first literal of an ascending list is below the others
head_below : (l : Literal) (xs : List Literal) → IsAscending (l ∷ xs) → All (λ (m : Literal). l.block < m.block) xs
head_below l xs up = λ k d low. up 0 (suc k) l (get_or xs k d) (omega arith) refl (contains_get xs k (get_or xs k d) low (default xs k d low))
  where
    default : (xs : List Literal) (k : ℕ) (d : Literal) → k < length xs → get_or xs k (get_or xs k d) ≡ get_or xs k d
    default [] k d l = absurd (omega arith)
    default (x ∷ xs) zero d l = refl
    default (x ∷ xs) (suc k) d l = default xs k d (omega arith)

-- a literal after those of earlier blocks
ascend_push : (xs : List Literal) (l : Literal) → IsAscending xs → All (λ (m : Literal). m.block < l.block) xs → IsAscending (xs ++ l ∷ [])
ascend_push [] l up below = ascend_cons l [] (All-nil (λ (m : Literal). l.block < m.block)) ascend_none
ascend_push (x ∷ xs) l up below =
    ascend_cons x (xs ++ l ∷ [])
    (All-push (λ (m : Literal). x.block < m.block) xs l (head_below x xs up) (All-head (λ (m : Literal). m.block < l.block) x xs below))
    (ascend_push xs l (ascend_tail x xs up) (All-tail (λ (m : Literal). m.block < l.block) x xs below))

-- literals of a box on n blocks from b on
pub record AreFrom (c : Choices) (b n : ℕ) (box : List Literal) : Type 0 where
  pub ascending : IsAscending box
  pub each : All (IsLiteral c) box
  pub from : All (λ (l : Literal). b ≤ l.block) box
  pub below : All (λ (l : Literal). l.block < b + n) box

first_more : (c : Choices) (b code n : ℕ) (rest : List Literal) (stop : Bool) → AreFrom c (suc b) n rest → b < blocks c → code < count c b
    → AreFrom c b (suc n) ((if stop then [] else exact b code ∷ []) ++ rest)
first_more c b code n rest true h block low = record {
  ascending = h.ascending;
  each = h.each;
  from = All-weaker (λ (l : Literal). suc b ≤ l.block) (λ (l : Literal). b ≤ l.block) (λ l e. omega arith) rest h.from;
  below = All-weaker (λ (l : Literal). l.block < suc b + n) (λ (l : Literal). l.block < b + suc n) (λ l e. omega arith) rest h.below;
}
first_more c b code n rest false h block low = record {
  ascending = ascend_cons (exact b code) rest h.from h.ascending;
  each = All-cons (IsLiteral c) (exact b code) rest (record { block = block; some = omega arith; codes = omega arith; part = λ w. (let x = w.0 in let y = w.1 in omega arith) }) h.each;
  from = All-cons (λ (l : Literal). b ≤ l.block) (exact b code) rest (omega arith) (All-weaker (λ (l : Literal). suc b ≤ l.block) (λ (l : Literal). b ≤ l.block) (λ l e. omega arith) rest h.from);
  below = All-cons (λ (l : Literal). l.block < b + suc n) (exact b code) rest (omega arith) (All-weaker (λ (l : Literal). l.block < suc b + n) (λ (l : Literal). l.block < b + suc n) (λ l e. omega arith) rest h.below);
}

pub exacts : (c : Choices) (b : ℕ) (codes : List ℕ) → b + length codes ≤ blocks c → ((i : ℕ) → i < length codes → code_of codes i < count c (b + i)) → AreFrom c b (length codes) (exact_literals c b codes)
exacts c b [] few within = record { ascending = ascend_none; each = All-nil (IsLiteral c); from = All-nil (λ (l : Literal). b ≤ l.block); below = All-nil (λ (l : Literal). l.block < b + 0) }
exacts c b (code ∷ codes) few within =
    first_more c b code (length codes) (exact_literals c (suc b) codes) (count c b == 1)
    (exacts c (suc b) codes (omega arith) (λ i l. subst (λ n. code_of codes i < count c n) (let e : b + suc i ≡ suc b + i = omega arith in e) (within (suc i) (omega arith))))
    (omega arith) (subst (λ n. code < count c n) (let e : b + 0 ≡ b = omega arith in e) (within 0 (omega arith)))

filter_all : (f : Literal → Bool) (xs : List Literal) → All (λ x. f x ≡ true) xs → filter f xs ≡ xs
filter_all f [] all = refl
filter_all f (x ∷ xs) all = ap (λ (b : Bool). if b then x ∷ filter f xs else filter f xs) (All-head (λ x. f x ≡ true) x xs all) ∙ ap (λ l. x ∷ l) (filter_all f xs (All-tail (λ x. f x ≡ true) x xs all))

filter_none : (f : Literal → Bool) (xs : List Literal) → All (λ x. f x ≡ false) xs → filter f xs ≡ []
filter_none f [] all = refl
filter_none f (x ∷ xs) all = ap (λ (b : Bool). if b then x ∷ filter f xs else filter f xs) (All-head (λ x. f x ≡ false) x xs all) ∙ filter_none f xs (All-tail (λ x. f x ≡ false) x xs all)

-- a literal on a later block comes last
pub with_last : (side : List Literal) (l : Literal) → All (λ (m : Literal). m.block < l.block) side → with_literal side l ≡ side ++ l ∷ []
with_last side l below =
    ap (λ xs. xs ++ l ∷ filter (λ (m : Literal). nat_lt l.block m.block) side)
    (filter_all (λ (m : Literal). nat_lt m.block l.block) side (All-weaker (λ (m : Literal). m.block < l.block) (λ m. nat_lt m.block l.block ≡ true) (λ m h. lt-ltb m.block l.block h) side below))
    ∙ ap (λ xs. side ++ l ∷ xs)
    (filter_none (λ (m : Literal). nat_lt l.block m.block) side (All-weaker (λ (m : Literal). m.block < l.block) (λ m. nat_lt l.block m.block ≡ false) (λ m h. le-ltb l.block m.block (omega arith)) side below))

-- a box and a literal on a later block
box_push : (c : Choices) (n : ℕ) (side : List Literal) (l : Literal) → AreFrom c 0 n side → n ≤ l.block → IsLiteral c l → IsBox c (side ++ l ∷ [])
box_push c n side l h le is = record {
  ascending = ascend_push side l h.ascending (All-weaker (λ (m : Literal). m.block < 0 + n) (λ (m : Literal). m.block < l.block) (λ m e. omega arith) side h.below);
  each = All-push (IsLiteral c) side l h.each is;
}

abbrev HoldsCode : List ℕ → Literal → Type 0
HoldsCode p l = (l.lo ≤ code_of p l.block) × (code_of p l.block < l.hi)

front_held : (p : List ℕ) (xs ys : List Literal) → Holds (xs ++ ys) p → Holds xs p
front_held p [] ys h = All-nil (HoldsCode p)
front_held p (x ∷ xs) ys h = All-cons (HoldsCode p) x xs (All-head (HoldsCode p) x (xs ++ ys) h) (front_held p xs ys (All-tail (HoldsCode p) x (xs ++ ys) h))

last_held : (p : List ℕ) (xs : List Literal) (l : Literal) → Holds (xs ++ l ∷ []) p → HoldsCode p l
last_held p [] l h = All-head (HoldsCode p) l [] h
last_held p (x ∷ xs) l h = last_held p xs l (All-tail (HoldsCode p) x (xs ++ l ∷ []) h)

-- what the box of a part with a range is
range_is : (c : Choices) (k lo hi : ℕ) (side : List Literal) (none whole : Bool) → none ≡ false
    → (if whole then side else side ++ literal k lo hi ∷ []) ≡ side ++ (if none then [] else (if whole then [] else literal k lo hi ∷ []))
range_is c k lo hi side true whole e = absurd (true≢false e)
range_is c k lo hi side false true e = sym (append-nil side)
range_is c k lo hi side false false e = refl

module _ (c : Choices) (job : Job) (codes : List ℕ) (lo hi : ℕ) (part : IsRegionPart c job codes lo hi) (exist : length codes < blocks c) (wide : lo + 2 ≤ hi) (within : hi ≤ count c (length codes)) where
  abbrev k : ℕ
  k = length codes

  abbrev side : List Literal
  side = exact_literals c 0 codes

  pub are_codes : AreCodesOf c codes
  are_codes =
      let (p, in') = part.some in
      let follow = (part.plans p in'.0).0 in' in
      record {
        few = omega arith;
        codes = λ b l. let e = follow.0 b l in let h = in'.0.in_range b (omega arith) in omega arith;
      }

  from : AreFrom c 0 k side
  from = exacts c 0 codes (omega arith) (λ i l. subst (λ n. code_of codes i < count c n) (let e : i ≡ 0 + i = omega arith in e) (are_codes.codes i l))

  before : All (λ (m : Literal). m.block < k) side
  before = All-weaker (λ (m : Literal). m.block < 0 + k) (λ (m : Literal). m.block < k) (λ m e. omega arith) side from.below

  with_range : (a b : ℕ) → with_literal side (literal k a b) ≡ side ++ literal k a b ∷ []
  with_range a b = with_last side (literal k a b) before

  -- the plans that the side and a range within the range hold
  range_held : (a b : ℕ) → lo ≤ a → b ≤ hi → (p : List ℕ) → IsPlan c p → Holds (side ++ literal k a b ∷ []) p → Follows c codes a b p
  range_held a b low high p plan h =
      let in' = (region_box_holds c job codes lo hi part p plan).0 (in_box (last_held p side (literal k a b) h) (front_held p side (literal k a b ∷ []) h)) in
      (((part.plans p plan).0 in').0, λ _. last_held p side (literal k a b) h)
    where
      in_box : HoldsCode p (literal k a b) → Holds side p → Holds (region_box c codes lo hi) p
      in_box at front = All-append (HoldsCode p) side (range_literal c k lo hi) front (held (hi == 0) ((lo == 0) && (hi == count c k)))
        where
          held : (none whole : Bool) → Holds (if none then [] else (if whole then [] else literal k lo hi ∷ [])) p
          held true whole = All-nil (HoldsCode p)
          held false true = All-nil (HoldsCode p)
          held false false = All-cons (HoldsCode p) (literal k lo hi) [] ((let x = at.0 in omega arith), (let x = at.1 in omega arith)) (All-nil (HoldsCode p))

  held_range : (a b : ℕ) → lo ≤ a → b ≤ hi → (p : List ℕ) → IsPlan c p → Follows c codes a b p → Holds (side ++ literal k a b ∷ []) p
  held_range a b low high p plan (same, next) =
      let at = next exist in
      let in' : IsInRegion c job p = (part.plans p plan).1 (same, λ _. ((let x = at.0 in omega arith), (let x = at.1 in omega arith))) in
      All-push (HoldsCode p) side (literal k a b) (front_held p side (range_literal c k lo hi) ((region_box_holds c job codes lo hi part p plan).1 in')) at

  -- a range within the range is a box of a job's region, where the job has its plans
  range_box : (half : Job) (a b : ℕ) → lo ≤ a → a < b → b ≤ hi → b < a + (hi - lo) → ((p : List ℕ) → IsPlan c p → (IsInRegion c half p → Follows c codes a b p) × (Follows c codes a b p → IsInRegion c half p))
      → IsBoxOf c half (with_literal side (literal k a b))
  range_box half a b low some' high less plans = subst (IsBoxOf c half) (sym (with_range a b)) record {
    box_is = box_push c k side (literal k a b) from (omega arith) record {
      block = exist;
      some = some';
      codes = omega arith;
      part = λ w. (let x = w.0 in let y = w.1 in omega arith);
    };
    inside = λ p plan h. (plans p plan).1 (range_held a b low high p plan h);
    only = λ p in'. held_range a b low high p in'.0 ((plans p in'.0).0 in');
  }

  -- the result of a branch over the whole range
  result_is : (cites : List ℕ) → result_of c (Branch k lo hi side cites) ≡ region_box c codes lo hi
  result_is cites =
      ap (λ (xs : List Literal). if (lo == 0) && (hi == count c k) then side else xs) (with_range lo hi)
      ∙ range_is c k lo hi side (hi == 0) ((lo == 0) && (hi == count c k)) (ne_eqb hi 0 (λ e. omega arith))

  region_is_box : IsBox c (region_box c codes lo hi)
  region_is_box = choose (hi == 0) ((lo == 0) && (hi == count c k)) (ne_eqb hi 0 (λ e. omega arith)) refl
    where
      whole_is : (a b : ℕ) → lo ≡ 0 → hi ≡ count c k → ((lo == 0) && (hi == count c k)) ≡ true
      whole_is a b e f = (λ i. eq-eqb lo 0 e i && eq-eqb hi (count c k) f i)

      choose : (none whole : Bool) → none ≡ false → ((lo == 0) && (hi == count c k)) ≡ whole → IsBox c (side ++ (if none then [] else (if whole then [] else literal k lo hi ∷ [])))
      choose true whole e is = absurd (true≢false e)
      choose false true e is = subst (IsBox c) (sym (append-nil side)) record { ascending = from.ascending; each = from.each }
      choose false false e is = box_push c k side (literal k lo hi) from (omega arith) record {
        block = exist;
        some = omega arith;
        codes = within;
        part = λ w. absurd (true≢false (sym (whole_is 0 0 w.0 w.1) ∙ is));
      }

  pub record_is : (first second : ℕ) (cites : List ℕ) → job.length < 32 → AreBoth first second cites → IsRecordOf c job first second (Branch k lo hi side cites)
  record_is first second cites short both =
      let halves = part.halves exist short in
      let mid : ℕ = middle lo hi in (
        k,
        lo,
        mid,
        hi,
        side,
        cites,
        refl,
        record {
          side_is = record { ascending = from.ascending; each = from.each };
          block = exist;
          free = All-weaker (λ (m : Literal). m.block < k) (λ (m : Literal). m.block ≢ k) (λ m h e. omega arith) side before;
          below = omega arith;
          above = omega arith;
          codes = within;
        },
        both,
        subst (IsBoxOf c job) (sym (result_is cites)) record {
          box_is = region_is_box;
          inside = λ p plan h. (region_box_holds c job codes lo hi part p plan).0 h;
          only = λ p in'. (region_box_holds c job codes lo hi part p in'.0).1 in';
        },
        range_box (lower job) lo mid (omega arith) (omega arith) (omega arith) (omega arith) halves.low,
        range_box (upper job) mid hi (omega arith) (omega arith) (omega arith) (omega arith) halves.high,
      )

-- a region with two plans is a part with a range
pub is_range : (c : Choices) (job : Job) (codes : List ℕ) (lo hi : ℕ) → IsRegionPart c job codes lo hi → HasTwo c job → (length codes < blocks c) × (lo + 2 ≤ hi) × (hi ≤ count c (length codes))
is_range c job codes lo hi part (p, q, in_p, in_q, apart) = elim part.range [
  | inl some ↦ some
  | inr gone ↦
      let e = gone.0 in
      let f = ((part.plans p in_p.0).0 in_p).0 in
      let g = ((part.plans q in_q.0).0 in_q).0 in
      let a = in_p.0.one_each in
      let b = in_q.0.one_each in
      absurd (apart (same_list p q (omega arith) (λ i l. sym (f i (omega arith)) ∙ g i (omega arith))))
]
  where
    same_list : (xs ys : List ℕ) → length xs ≡ length ys → ((i : ℕ) → i < length xs → code_of xs i ≡ code_of ys i) → xs ≡ ys
    same_list [] [] e same = refl
    same_list [] (y ∷ ys) e same = absurd (omega arith)
    same_list (x ∷ xs) [] e same = absurd (omega arith)
    same_list (x ∷ xs) (y ∷ ys) e same = (λ i. same 0 (omega arith) i ∷ same_list xs ys (omega arith) (λ j l. same (suc j) (omega arith)) i)

-- a literal that is pushed where the block has other codes
pub pushed_none : (n : ℕ) (xs : List Literal) (l : Literal) → n ≡ 1 → xs ≡ xs ++ (if n == 1 then [] else l ∷ [])
pushed_none n xs l e = sym (ap (λ (b : Bool). xs ++ (if b then [] else l ∷ [])) (eq-eqb n 1 e) ∙ append-nil xs)

pub pushed_one : (n : ℕ) (xs ys : List Literal) (l : Literal) → n ≢ 1 → ys ≡ xs ++ l ∷ [] → ys ≡ xs ++ (if n == 1 then [] else l ∷ [])
pushed_one n xs ys l e is = is ∙ sym (ap (λ (b : Bool). xs ++ (if b then [] else l ∷ [])) (ne_eqb n 1 e))

pub all_exacts : (c : Choices) (codes : List ℕ) (xs all : List Literal) (b : ℕ) → length codes ≤ b → xs ++ exact_literals c b (drop b codes) ≡ all → xs ≡ all
all_exacts c codes xs all b far is = sym (append-nil xs) ∙ ap (λ l. xs ++ exact_literals c b l) (sym (drop_all codes b far)) ∙ is
  where
    drop_all : (ns : List ℕ) (i : ℕ) → length ns ≤ i → drop i ns ≡ []
    drop_all [] zero l = refl
    drop_all [] (suc i) l = refl
    drop_all (n ∷ ns) zero l = absurd (omega arith)
    drop_all (n ∷ ns) (suc i) l = drop_all ns i (omega arith)

-- the exact codes are a list of literals
pub exact_list : (c : Choices) (codes : List ℕ) (xs : List Literal) → AreCodesOf c codes → xs ≡ exact_literals c 0 codes → AreLiterals xs
exact_list c codes xs are is =
    let few = are.few in
    let h = exacts c 0 codes (omega arith) (λ i l. subst (λ n. code_of codes i < count c n) (let e : i ≡ 0 + i = omega arith in e) (are.codes i l)) in
    subst AreLiterals (sym is) record { ascending = h.ascending; some = All-weaker (IsLiteral c) (λ l. l.lo < l.hi) (λ l one. one.some) (exact_literals c 0 codes) h.each }

-- the record of a halved job, as it was made
pub as_record : (c : Choices) (job : Job) (codes : List ℕ) (lo hi first second k : ℕ) (side : List Literal) (cites : List ℕ) → IsRegionPart c job codes lo hi → HasTwo c job → job.length < 32
    → k ≡ length codes → side ≡ exact_literals c 0 codes → AreBoth first second cites → IsRecordOf c job first second (Branch k lo hi side cites)
as_record c job codes lo hi first second k literals cites part two short k_is side_is both =
    let (exist, wide, within) = is_range c job codes lo hi part two in
    subst (λ (z : ℕ × List Literal). IsRecordOf c job first second (Branch z.0 lo hi z.1 cites)) (λ i. (sym k_is i, sym side_is i))
    (record_is c job codes lo hi part exist wide within first second cites short both)
