-- The history of the lists as moves are opened and undone, and the marks in it.
use Rattle.std.proofs.Common.{◌≡◌, ℕ, zero, suc, ◌+◌, ◌-◌, ◌<◌, ◌≤◌, List, [], ◌∷◌, ◌++◌, length, take, drop, reverse, slice_index, get_or, refl, sym, ap, ◌∙◌, inl, inr, arith, length-set, slice_set}
use Rattle.std.proofs.lemmas.Bool.{cases_eq}
use Rattle.std.proofs.lemmas.List.{nil_from_length, take-take, length-append, length-drop, drop-drop, drop-take, take-append-le, drop-append-le, get_or-set_same, get_or-set_other, get_or_append_left, get_or_push, length-reverse, reverse-append, take_all}
use Rattle.std.proofs.Math.Seq.{drop-append_seam}
use Rattle.nogood_store.specs.declared.step.Step.{Step}
use Rattle.nogood_store.specs.Steps.{lists_after, past_after}
use Rattle.nogood_store.specs.Entered.{stage, segment, AreMarks}
use Rattle.watch_chains.specs.Lists.{Chained, moved}

pub rewound : {X : Type 0} (h : List X) (x : X) (p : List X) (k j : ℕ) → x ∷ p ≡ drop k h → j ≡ k + 1 → p ≡ drop j h
rewound h x p k j is more = ap (drop 1) is ∙ drop-drop 1 k h ∙ ap (λ n. drop n h) (sym more)

rev_cons : {X : Type 0} (x : X) (h : List X) → reverse (x ∷ h) ≡ reverse h ++ x ∷ []
rev_cons x h = reverse-append (x ∷ []) h

-- the lists now are those of the last stage
pub stage_now : (v : Chained) → stage v (length v.past) ≡ v.lists
stage_now v = ap (λ h. get_or h (length v.past) []) (rev_cons v.lists v.past) ∙ get_or_push (reverse v.past) v.lists [] (length v.past) (length-reverse v.past)

-- steps leave the earlier stages
pub length-past_after : (lists : List (List ℕ)) (past : List (List (List ℕ))) (steps : List Step)
    → length (past_after lists past steps) ≡ length past + length steps
length-past_after lists past [] = let e : length past ≡ length past + 0 = omega arith in e
length-past_after lists past (s ∷ steps) = let rest = length-past_after (moved lists s.entry s.chain) (lists ∷ past) steps in omega arith

stages_after : (lists : List (List ℕ)) (past : List (List (List ℕ))) (steps : List Step) (m : ℕ) → m ≤ length past
    → get_or (reverse (lists_after lists steps ∷ past_after lists past steps)) m [] ≡ get_or (reverse (lists ∷ past)) m []
stages_after lists past [] m few = refl
stages_after lists past (s ∷ steps) m few =
    let next = moved lists s.entry s.chain in
    stages_after next (lists ∷ past) steps m (omega arith)
    ∙ ap (λ h. get_or h m []) (rev_cons next (lists ∷ past))
    ∙ get_or_append_left (reverse (lists ∷ past)) (next ∷ []) [] m (let size = length-reverse (lists ∷ past) in omega arith)

pub stage_after : (v w : Chained) (steps : List Step) (m : ℕ) → w.lists ≡ lists_after v.lists steps → w.past ≡ past_after v.lists v.past steps
    → m ≤ length v.past → stage w m ≡ stage v m
stage_after v w steps m lists past few =
    ap (λ l. get_or (reverse (l ∷ w.past)) m []) lists ∙ ap (λ p. get_or (reverse (lists_after v.lists steps ∷ p)) m []) past
    ∙ stages_after v.lists v.past steps m few

-- after a rewind the stages that are left are as they were
stages_back : (k : ℕ) (h : List (List (List ℕ))) (m : ℕ) → m + k < length h → get_or (reverse (drop k h)) m [] ≡ get_or (reverse h) m []
stages_back zero h m few = refl
stages_back (suc k) [] m few = refl
stages_back (suc k) (x ∷ h) m few =
    stages_back k h m (omega arith) ∙ sym (ap (λ t. get_or t m []) (rev_cons x h) ∙ get_or_append_left (reverse h) (x ∷ []) [] m (let size = length-reverse h in omega arith))

pub stage_back : (v w : Chained) (mark m : ℕ) → w.lists ∷ w.past ≡ drop (length v.past - mark) (v.lists ∷ v.past) → mark ≤ length v.past → m ≤ mark
    → stage w m ≡ stage v m
stage_back v w mark m is less few =
    ap (λ h. get_or (reverse h) m []) is ∙ stages_back (length v.past - mark) (v.lists ∷ v.past) m (omega arith)

-- what a rewind to no open move leaves
pub rewound_all : (old now : Chained) → now.lists ∷ now.past ≡ drop (length old.past - 0) (old.lists ∷ old.past) → (now.past ≡ []) × (now.lists ≡ stage old 0)
rewound_all old now back =
    let none : length now.past ≡ 0 = let long = ap length back ∙ length-drop (length old.past - 0) (old.lists ∷ old.past) in omega arith in
    let past : now.past ≡ [] = nil_from_length now.past none in
    let same : stage now 0 ≡ stage old 0 = stage_back old now 0 0 back (omega arith) (omega arith) in
    (past, ap (λ p. get_or (reverse (now.lists ∷ p)) 0 []) (sym past) ∙ same)

-- the marks of fewer codes
pub marks_less : (marks : List ℕ) (depth d : ℕ) → AreMarks marks depth → d ≤ depth → AreMarks marks d
marks_less marks depth d is le = record {
  depths = is.depths;
  few = let f = is.few in omega arith;
  none = is.none;
  order = λ a b less top. is.order a b less (omega arith);
}

-- one mark more
pub marks_more : (marks : List ℕ) (b open_now : ℕ) → AreMarks marks b → b < 32 → slice_index marks b ≤ open_now → AreMarks (slice_set marks (b + 1) open_now) (b + 1)
marks_more marks b open_now is few rise =
    let depths = is.depths in
    let at_new : slice_index (slice_set marks (b + 1) open_now) (b + 1) ≡ open_now = get_or-set_same marks (b + 1) open_now 0 (omega arith) in
    let at_old : (d : ℕ) → d ≤ b → slice_index (slice_set marks (b + 1) open_now) d ≡ slice_index marks d =
    λ d within. get_or-set_other marks (b + 1) d open_now 0 (omega arith) in
    record {
      depths = length-set marks (b + 1) open_now ∙ depths;
      few = omega arith;
      none = at_old 0 (omega arith) ∙ is.none;
      order = λ d e le within. elim (cases_eq e (b + 1)) [
        | inl top ↦ let e_is : slice_index (slice_set marks (b + 1) open_now) e ≡ open_now = ap (slice_index (slice_set marks (b + 1) open_now)) top ∙ at_new in
            elim (cases_eq d (b + 1)) [
              | inl same ↦ let d_is : slice_index (slice_set marks (b + 1) open_now) d ≡ open_now = ap (slice_index (slice_set marks (b + 1) open_now)) same ∙ at_new in omega arith
              | inr below ↦ let d_is = at_old d (omega arith) in let le_b = is.order d b (omega arith) (omega arith) in omega arith
            ]
        | inr below ↦ let e_is = at_old e (omega arith) in let d_is = at_old d (omega arith) in
            let le_e = is.order d e le (omega arith) in omega arith
      ];
    }

-- the segments of a trail with steps more
cut_front : (trail steps : List Step) (m n : ℕ) → m + n ≤ length trail → take n (drop m (trail ++ steps)) ≡ take n (drop m trail)
cut_front trail steps m n within =
    let size = length-drop m trail in
    ap (take n) (drop-append-le m trail steps (omega arith)) ∙ take-append-le n (drop m trail) steps (omega arith)

cut_last : (trail steps : List Step) (m n : ℕ) → m ≡ length trail → n ≡ length steps → take n (drop m (trail ++ steps)) ≡ steps
cut_last trail steps m n at size =
    ap (λ k. take n (drop k (trail ++ steps))) at ∙ ap (take n) (drop-append_seam trail steps) ∙ take_all n steps (omega arith)

-- what comes after a trail
pub cut_from : (trail steps all : List Step) (m : ℕ) → all ≡ trail ++ steps → m ≡ length trail → take (length all - m) (drop m all) ≡ steps
cut_from trail steps all m is at =
    ap (λ t. take (length t - m) (drop m t)) is
    ∙ cut_last trail steps m (length (trail ++ steps) - m) at (let size = length-append trail steps in omega arith)

pub segment_old : (trail steps : List Step) (marks : List ℕ) (b open_now d : ℕ) → AreMarks marks b → slice_index marks b ≡ length trail → d < b
    → segment (trail ++ steps) (slice_set marks (b + 1) open_now) d ≡ segment trail marks d
segment_old trail steps marks b open_now d is last below =
    let here : slice_index (slice_set marks (b + 1) open_now) d ≡ slice_index marks d = get_or-set_other marks (b + 1) d open_now 0 (omega arith) in
    let there : slice_index (slice_set marks (b + 1) open_now) (d + 1) ≡ slice_index marks (d + 1) = get_or-set_other marks (b + 1) (d + 1) open_now 0 (omega arith) in
    let rise = is.order d (d + 1) (omega arith) (omega arith) in
    let top = is.order (d + 1) b (omega arith) (omega arith) in
    ap (λ n. take (n - slice_index (slice_set marks (b + 1) open_now) d) (drop (slice_index (slice_set marks (b + 1) open_now) d) (trail ++ steps))) there
    ∙ ap (λ m. take (slice_index marks (d + 1) - m) (drop m (trail ++ steps))) here
    ∙ cut_front trail steps (slice_index marks d) (slice_index marks (d + 1) - slice_index marks d) (omega arith)

pub segment_new : (trail steps : List Step) (marks : List ℕ) (b open_now : ℕ) → AreMarks marks b → b < 32 → slice_index marks b ≡ length trail
    → open_now ≡ length trail + length steps → segment (trail ++ steps) (slice_set marks (b + 1) open_now) b ≡ steps
segment_new trail steps marks b open_now is few last count =
    let depths = is.depths in
    let here : slice_index (slice_set marks (b + 1) open_now) b ≡ slice_index marks b = get_or-set_other marks (b + 1) b open_now 0 (omega arith) in
    let there : slice_index (slice_set marks (b + 1) open_now) (b + 1) ≡ open_now = get_or-set_same marks (b + 1) open_now 0 (omega arith) in
    cut_last trail steps (slice_index (slice_set marks (b + 1) open_now) b)
    (slice_index (slice_set marks (b + 1) open_now) (b + 1) - slice_index (slice_set marks (b + 1) open_now) b) (here ∙ last) (omega arith)

-- the segments of a trail's front
pub segment_front : (trail : List Step) (marks : List ℕ) (depth d e : ℕ) → AreMarks marks depth → d < e → e ≤ depth
    → segment (take (slice_index marks e) trail) marks d ≡ segment trail marks d
segment_front trail marks depth d e is below within =
    let m = slice_index marks d in
    let n = slice_index marks (d + 1) - m in
    let top = slice_index marks e in
    let rise = is.order d (d + 1) (omega arith) (omega arith) in
    let last = is.order (d + 1) e (omega arith) within in
    let split : m + (top - m) ≡ top = omega arith in
    ap (λ t. take n (drop m (take t trail))) (sym split) ∙ ap (take n) (drop-take m (top - m) trail) ∙ take-take n (top - m) (drop m trail) (omega arith)
