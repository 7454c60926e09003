-- Literals pushed and popped.
use Rattle.std.proofs.Common.{◌≡◌, ◌≢◌, ℕ, zero, suc, ◌+◌, ◌-◌, ◌*◌, ◌<◌, ◌≤◌, List, [], ◌∷◌, ◌++◌, length, take, get_or, Some, refl, sym, ap, ◌∙◌, subst, inl, inr, arith, length-append}
use Rattle.std.specs.Prelude.{slice_get, All}
use Rattle.std.proofs.Math.Nat.{mul-le-mul, mul-le-mul_right, suc-mul}
use Rattle.std.proofs.lemmas.Bool.{cases_lt}
use Rattle.std.proofs.lemmas.List.{get_or-map, take_more}
use Rattle.std.proofs.lemmas.Option.{none-some, slice_get_within}
use Rattle.std.proofs.lemmas.List.Elements.{All-nil, All-push, All-head, All-tail, All-cons}
use Rattle.common_lists.proofs.EachLaws.{get-append_cases}
use Rattle.common_lists.proofs.ListLaws.{only_element, taken_get, get_taken, take_before}
use Rattle.shape_exact.specs.Yards.{IsYard}
use Rattle.plan_rule.specs.declared.literal.Literal.{Literal}
use Rattle.plan_rule.specs.Boxes.{LeavesFree, exact}
use Rattle.tardiness_bounds.specs.declared.left.Left.{Left}
use Rattle.tardiness_bounds.specs.declared.standing.Standing.{Standing}
use Rattle.tardiness_bounds.specs.Lefts.{AreLefts, AreLeftsBefore}
use Rattle.tardiness_bounds.specs.Tables.{PlainTables}
use Rattle.tardiness_bounds.specs.Stacks.{IsStack}
use Rattle.tardiness_bounds.specs.Standings.{IsStanding, literals_of}

pub take_whole : {A : Type 0} (xs : List A) → take (length xs) xs ≡ xs
take_whole [] = refl
take_whole (x ∷ xs) = ap (λ zs. x ∷ zs) (take_whole xs)

take_less : {A : Type 0} (xs : List A) (k n : ℕ) → k ≤ n → take k (take n xs) ≡ take k xs
take_less xs zero n l = refl
take_less [] (suc k) zero l = absurd (omega arith)
take_less [] (suc k) (suc n) l = refl
take_less (x ∷ xs) (suc k) zero l = absurd (omega arith)
take_less (x ∷ xs) (suc k) (suc n) l = ap (λ zs. x ∷ zs) (take_less xs k n (omega arith))

pub length_taken : {A : Type 0} (xs : List A) (n : ℕ) → n ≤ length xs → length (take n xs) ≡ n
length_taken xs zero l = refl
length_taken [] (suc n) l = absurd (omega arith)
length_taken (x ∷ xs) (suc n) l = ap suc (length_taken xs n (omega arith))

all_taken : {A : Type 0} (P : A → Type 0) (xs : List A) (n : ℕ) → All P xs → All P (take n xs)
all_taken P xs zero h = All-nil P
all_taken P [] (suc n) h = All-nil P
all_taken P (x ∷ xs) (suc n) h = All-cons P x (take n xs) (All-head P x xs h) (all_taken P xs n (All-tail P x xs h))

-- the literals of blocks that stand, with one more and one fewer
pub literals_push : (list : List Standing) (f : Standing) → literals_of (list ++ f ∷ []) ≡ literals_of list ++ exact f.block f.code ∷ []
literals_push [] f = refl
literals_push (g ∷ list) f = ap (λ ls. exact g.block g.code ∷ ls) (literals_push list f)

pub literals_length : (list : List Standing) → length (literals_of list) ≡ length list
literals_length [] = refl
literals_length (g ∷ list) = ap suc (literals_length list)

-- one time more
one_more : (a n : ℕ) → (a + 1) * n ≡ a * n + n
one_more a n =
    let e : suc a ≡ a + 1 = omega arith in
    subst (λ k. k * n ≡ a * n + n) e (suc-mul a n)

-- what is left where nothing stands, in place of the first of no blocks
none_taken : (t : PlainTables) (lefts : List Left) (k : ℕ) → k ≤ 0 → AreLefts t [] lefts 0 → AreLefts t (take k []) lefts (k * length t.yard.blocks)
none_taken t lefts zero l h = let e : 0 ≡ 0 * length t.yard.blocks = omega arith in subst (AreLefts t [] lefts) e h
none_taken t lefts (suc k) l h = absurd (omega arith)

-- a stack with no literal
pub stack_start : (t : PlainTables) (list : List Standing) (lefts : List Left) (capacity : ℕ) → IsYard t.yard → list ≡ [] → 1056 ≤ capacity
    → length lefts ≡ length t.yard.blocks → AreLefts t [] lefts 0 → IsStack t list lefts capacity
stack_start t list lefts capacity limits none room long h =
    subst (λ fs. IsStack t fs lefts capacity) (sym none)
    (record {
      limits = limits;
      room = room;
      len = (let m = one_more 0 (length t.yard.blocks) in omega arith);
      few = omega arith;
      standing = All-nil (IsStanding t.yard);
      each = λ k l. none_taken t lefts k l h;
      once = λ k f at. absurd (none-some f at);
    })

-- an element of a list stands where it stood, where the list goes on
pub kept_get : {A : Type 0} (xs more : List A) (k : ℕ) (x : A) → take (length xs) more ≡ xs → k < length xs → slice_get more k ≡ Some x → slice_get xs k ≡ Some x
kept_get xs more k x kept l at = subst (λ ys. slice_get ys k ≡ Some x) kept (taken_get more (length xs) k x l at)

-- what is left stands in a list that goes on
lefts_longer : (t : PlainTables) (list : List Standing) (lefts more : List Left) (from : ℕ) → take (length lefts) more ≡ lefts → length lefts ≤ length more
    → AreLefts t list lefts from → AreLefts t list more from
lefts_longer t list lefts more from kept long h = record {
  len = (let l = h.len in omega arith);
  each = λ b x l at. h.each b x l (kept_get lefts more (from + b) x kept (let k = h.len in omega arith) at);
}

-- and in the front of one
lefts_shorter : (t : PlainTables) (list : List Standing) (lefts : List Left) (from n : ℕ) → n ≤ length lefts → from + length t.yard.blocks ≤ n
    → AreLefts t list lefts from → AreLefts t list (take n lefts) from
lefts_shorter t list lefts from n l within h = record {
  len = (let long = length_taken lefts n l in omega arith);
  each = λ b x below at. h.each b x below (get_taken lefts n (from + b) x at).1;
}

-- where the last ones begin
last_place : (t : PlainTables) (list : List Standing) (lefts : List Left) (from capacity : ℕ) → IsStack t list lefts capacity
    → from + length t.yard.blocks ≡ length lefts → from ≡ length list * length t.yard.blocks
last_place t list lefts from capacity s e =
    let m = one_more (length list) (length t.yard.blocks) in
    let l = s.len in
    omega arith

-- what all blocks leave stands last
pub last_lefts : (t : PlainTables) (list : List Standing) (lefts : List Left) (from capacity : ℕ) → IsStack t list lefts capacity
    → from + length t.yard.blocks ≡ length lefts → AreLefts t list lefts from
last_lefts t list lefts from capacity s e =
    subst (λ fs. AreLefts t fs lefts from) (take_whole list)
    (subst (AreLefts t (take (length list) list) lefts) (sym (last_place t list lefts from capacity s e)) (s.each (length list) (omega arith)))

-- a stack has what is left to each block
pub stack_long : (t : PlainTables) (list : List Standing) (lefts : List Left) (capacity : ℕ) → IsStack t list lefts capacity → length t.yard.blocks ≤ length lefts
stack_long t list lefts capacity s =
    let m = one_more (length list) (length t.yard.blocks) in
    let l = s.len in
    omega arith

-- and room for one push more
pub stack_room : (t : PlainTables) (list : List Standing) (lefts : List Left) (capacity : ℕ) → IsStack t list lefts capacity → length list < length t.yard.blocks
    → length lefts + 32 ≤ capacity
stack_room t list lefts capacity s fewer =
    let few = s.limits.few_blocks in
    let up : length list + 1 ≤ 32 = omega arith in
    let wide : length t.yard.blocks ≤ 32 = omega arith in
    let most : (length list + 1) * length t.yard.blocks ≤ 32 * 32 =
    mul-le-mul {n₁ = length list + 1} {m₁ = length t.yard.blocks} {n₂ = 32} {m₂ = 32} up wide in
    let l = s.len in
    let r = s.room in
    omega arith

-- what one block more leaves from what was left before
pub pushed_lefts : (t : PlainTables) (list more : List Standing) (new : Standing) (lefts : List Left) (from capacity : ℕ) → IsStack t list lefts capacity
    → more ≡ list ++ new ∷ [] → LeavesFree (literals_of list) new.block → from + length t.yard.blocks ≡ length lefts
    → AreLeftsBefore t more new lefts from
pushed_lefts t list more new lefts from capacity s is free e = record {
  before = list;
  ends = is;
  free = free;
  lefts_are = last_lefts t list lefts from capacity s e;
}

-- a stack with one literal more
pub stack_push : (t : PlainTables) (list more : List Standing) (new : Standing) (lefts more_lefts : List Left) (capacity room : ℕ)
    → IsStack t list lefts capacity → more ≡ list ++ new ∷ [] → take (length lefts) more_lefts ≡ lefts
    → length more_lefts ≡ length lefts + length t.yard.blocks → AreLefts t more more_lefts (length lefts) → IsStanding t.yard new
    → LeavesFree (literals_of list) new.block → length list < length t.yard.blocks → 1056 ≤ room → IsStack t more more_lefts room
stack_push t list more new lefts more_lefts capacity room s is kept tall last stand free fewer enough =
    let long : length more ≡ length list + 1 = ap length is ∙ length-append list (new ∷ []) in
    let times : (length more + 1) * length t.yard.blocks ≡ (length list + 1) * length t.yard.blocks + length t.yard.blocks =
    ap (λ n. (n + 1) * length t.yard.blocks) long ∙ one_more (length list + 1) (length t.yard.blocks) in
    record {
      limits = s.limits;
      room = enough;
      len = (let l = s.len in omega arith);
      few = omega arith;
      standing = subst (All (IsStanding t.yard)) (sym is) (All-push (IsStanding t.yard) list new s.standing stand);
      each = λ k within. elim (cases_lt k (length more)) [
        | inl before ↦
            let le : k ≤ length list = omega arith in
            subst (λ fs. AreLefts t fs more_lefts (k * length t.yard.blocks)) (sym (take_before list (new ∷ []) k le) ∙ ap (take k) (sym is))
            (lefts_longer t (take k list) lefts more_lefts (k * length t.yard.blocks) kept (omega arith) (s.each k le))
        | inr after ↦
            let e : length more ≡ k = omega arith in
            let at : length lefts ≡ k * length t.yard.blocks = s.len ∙ ap (λ n. n * length t.yard.blocks) (sym long ∙ e) in
            subst (AreLefts t (take k more) more_lefts) at
            (subst (λ k. AreLefts t (take k more) more_lefts (length lefts)) e
            (subst (λ fs. AreLefts t fs more_lefts (length lefts)) (sym (take_whole more)) last))
      ];
      once = λ k f at. elim (get-append_cases list (new ∷ []) k f (ap (λ fs. slice_get fs k) (sym is) ∙ at)) [
        | inl front ↦
            let l = slice_get_within list k f front in
            subst (λ fs. LeavesFree (literals_of fs) f.block) (sym (take_before list (new ∷ []) k (omega arith)) ∙ ap (take k) (sym is)) (s.once k f front)
        | inr back ↦
            let (m, last, where_is) = back in
            let (first, same) = only_element new f m last in
            let e : length list ≡ k = omega arith in
            subst (λ (f : Standing). LeavesFree (literals_of (take k more)) f.block) same
            (subst (λ fs. LeavesFree (literals_of fs) new.block)
            (sym (take_whole list) ∙ ap (λ k. take k list) e ∙ sym (take_before list (new ∷ []) k (omega arith)) ∙ ap (take k) (sym is)) free)
      ];
    }

-- a stack with one literal fewer
pub stack_pop : (t : PlainTables) (list fewer : List Standing) (lefts fewer_lefts : List Left) (from capacity room : ℕ) → IsStack t list lefts capacity
    → 0 < length list → fewer ≡ take (length list - 1) list → from + length t.yard.blocks ≡ length lefts → fewer_lefts ≡ take from lefts → 1056 ≤ room
    → IsStack t fewer fewer_lefts room
stack_pop t list fewer lefts fewer_lefts from capacity room s some is begins are enough =
    let short : length fewer ≡ length list - 1 = ap length is ∙ length_taken list (length list - 1) (omega arith) in
    let low : length fewer_lefts ≡ from = ap length are ∙ length_taken lefts from (omega arith) in
    let place = last_place t list lefts from capacity s begins in
    let again : length fewer + 1 ≡ length list = omega arith in
    record {
      limits = s.limits;
      room = enough;
      len = low ∙ place ∙ ap (λ n. n * length t.yard.blocks) (sym again);
      few = (let l = s.few in omega arith);
      standing = subst (All (IsStanding t.yard)) (sym is) (all_taken (IsStanding t.yard) list (length list - 1) s.standing);
      each = λ k l.
          let le : k ≤ length list - 1 = omega arith in
          let more = one_more k (length t.yard.blocks) in
          let most : (k + 1) * length t.yard.blocks ≤ length list * length t.yard.blocks = mul-le-mul_right (length t.yard.blocks) (omega arith) in
          subst (λ ls. AreLefts t (take k fewer) ls (k * length t.yard.blocks)) (sym are)
          (subst (λ fs. AreLefts t fs (take from lefts) (k * length t.yard.blocks)) (sym (take_less list k (length list - 1) le) ∙ ap (take k) (sym is))
          (lefts_shorter t (take k list) lefts (k * length t.yard.blocks) from (omega arith) (omega arith) (s.each k (omega arith))));
      once = λ k f at.
          let (l, here) = get_taken list (length list - 1) k f (ap (λ fs. slice_get fs k) (sym is) ∙ at) in
          subst (λ fs. LeavesFree (literals_of fs) f.block) (sym (take_less list k (length list - 1) (omega arith)) ∙ ap (take k) (sym is)) (s.once k f here);
    }

-- the first blocks of a list leave a block free, and so does the next one
pub free_next : (list : List Standing) (n b : ℕ) (d : Standing) → n < length list → LeavesFree (literals_of (take n list)) b → ((get_or list n d).block ≡ b → ⊥)
    → LeavesFree (literals_of (take (n + 1) list)) b
free_next list n b d l free ne =
    subst (λ fs. LeavesFree (literals_of fs) b) (sym (take_more list n d l))
    (subst (λ ls. LeavesFree ls b) (sym (literals_push (take n list) (get_or list n d)))
    (All-push (λ (m : Literal). m.block ≢ b) (literals_of (take n list)) (exact (get_or list n d).block (get_or list n d).code) free ne))

-- a block that stands is not left free
pub not_free : (list : List Standing) (n b : ℕ) (d : Standing) → n < length list → (get_or list n d).block ≡ b → LeavesFree (literals_of list) b → ⊥
not_free list n b d l e free =
    free n (exact d.block d.code) (let k = literals_length list in omega arith)
    (ap (λ (m : Literal). m.block) (get_or-map (λ (f : Standing). exact f.block f.code) list n d (exact d.block d.code) l) ∙ e)
