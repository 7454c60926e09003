-- A store with one box more.
use Rattle.std.proofs.Common.{◌≡◌, ℕ, zero, suc, ◌+◌, ◌*◌, ◌<◌, ◌≤◌, List, [], ◌∷◌, ◌++◌, length, take, reverse, replicate, slice_index, get_or, ◌⊎◌, Some, refl, sym, ap, ◌∙◌, subst, inl, inr, arith, length-set}
use Rattle.std.specs.List.{All, slice_get}
use Rattle.std.proofs.lemmas.Bool.{cases_lt, cases_eq}
use Rattle.std.proofs.lemmas.List.{get_or_append_left, get_or_push, length_push, length-replicate, get_or-replicate, get_or_past}
use Rattle.std.proofs.lemmas.List.Sums.{sum_by-le, sum_by_push}
use Rattle.std.proofs.lemmas.List.Elements.{All-head, All-tail, All-from_get_or}
use Rattle.plan_rule.specs.declared.literal.Literal.{Literal}
use Rattle.plan_rule.specs.Boxes.{IsAscending}
use Rattle.nogood_store.specs.declared.nogood.Nogood.{Nogood}
use Rattle.nogood_store.specs.declared.step.Step.{Step}
use Rattle.nogood_store.specs.Waits.{no_nogood, box_of, waits, Rising}
use Rattle.nogood_store.specs.Places.{AreFor, later, later_in, weight, to_match, literals_of}
use Rattle.nogood_store.specs.Entered.{stage, AreMarks, AreEntered}
use Rattle.nogood_store.proofs.WaitLaws.{later_le-length}
use Rattle.nogood_store.proofs.PlaceLaws.{to_match-put}
use Rattle.watch_chains.specs.Lists.{Chained, Has, entries_of, put_first}
use Rattle.watch_chains.proofs.ListLaws.{entries_put, entries_put_off}

entries_none : (n i : ℕ) → entries_of (replicate n []) i ≡ []
entries_none n i = elim (cases_lt i n) [
  | inl within ↦ get_or-replicate n i [] [] within
  | inr out ↦ get_or_past (replicate n []) i [] (let size = length-replicate {A = List ℕ} n [] in omega arith)
]

to_match_none : (list : List Nogood) (i n : ℕ) → to_match list i (replicate n []) ≡ 0
to_match_none list i zero = refl
to_match_none list i (suc n) = let rest = to_match_none list (suc i) n in omega arith

-- the marks with no code entered
first_mark : (marks : List ℕ) → length marks ≡ 33 → slice_index marks 0 ≡ 0 → AreMarks marks 0
first_mark marks depths none = record {
  depths = depths;
  few = omega arith;
  none = none;
  order = λ d e le top. let d0 : d ≡ 0 = omega arith in let e0 : e ≡ 0 = omega arith in
      let a : slice_index marks d ≡ slice_index marks 0 = ap (slice_index marks) d0 in
      let b : slice_index marks e ≡ slice_index marks 0 = ap (slice_index marks) e0 in omega arith;
}

-- a store with nothing in it
pub fresh : (marks : List ℕ) (n : ℕ) (v : Chained) → n ≡ 33 → length marks ≡ 33 → slice_index marks 0 ≡ 0 → v.lists ≡ replicate n [] → v.past ≡ [] → v.entries ≡ 0
    → AreEntered [] [] marks [] v
fresh marks n v all depths none lists past entries =
    let stage_is : stage v 0 ≡ replicate n [] = ap (λ p. get_or (reverse (v.lists ∷ p)) 0 []) past ∙ lists in
    let size : length v.past ≡ 0 = ap length past in
    let nothing : to_match [] 0 (stage v 0) ≡ 0 = ap (to_match [] 0) stage_is ∙ to_match_none [] 0 n in
    let stand : AreFor [] [] (replicate n []) = record {
      chains = length-replicate n [] ∙ all;
      there = λ e within. absurd (omega arith);
      known = λ i e has. absurd (subst (Has e) (entries_none n i) has);
      only = λ i e has. absurd (subst (Has e) (entries_none n i) has);
    } in
    record {
      entries = entries;
      rising = λ e within. absurd (omega arith);
      marked = first_mark marks depths none;
      now = none ∙ sym size;
      size = sym size;
      each = λ d top. let d0 : d ≡ 0 = omega arith in
          subst (λ t. AreFor [] (take t []) (stage v (slice_index marks t))) (sym d0)
          (subst (λ m. AreFor [] [] (stage v m)) (sym none) (subst (AreFor [] []) (sym stage_is) stand));
      steps = λ d top. absurd (omega arith);
      falling = λ d top. let d0 : d ≡ 0 = omega arith in
          let mark : slice_index marks d ≡ 0 = ap (slice_index marks) d0 ∙ none in
          let same : to_match [] 0 (stage v (slice_index marks d)) ≡ to_match [] 0 (stage v 0) = ap (λ t. to_match [] 0 (stage v t)) mark in omega arith;
      room = omega arith;
    }

-- the literals of a box on rising blocks
length-rising : (low : ℕ) (box : List Literal) → Rising low box → low ≤ 32 → low + length box ≤ 32
length-rising low [] rising few = omega arith
length-rising low (l ∷ box) rising few =
    let a = rising.0 in let b = rising.1 in let rest = length-rising (suc l.block) box rising.2 (omega arith) in omega arith

rising_from : (low : ℕ) (box : List Literal) → ((i : ℕ) (l : Literal) → slice_get box i ≡ Some l → low ≤ l.block) → IsAscending box → All (λ l. l.block < 32) box → Rising low box
rising_from low [] above ascending below = tt
rising_from low (l ∷ box) above ascending below = (
  above 0 l refl,
  All-head (λ m. m.block < 32) l box below,
  rising_from (suc l.block) box (λ i m at. ascending 0 (suc i) l m (omega arith) refl at)
      (λ i j m n less at there. ascending (suc i) (suc j) m n (omega arith) at there) (All-tail (λ m. m.block < 32) l box below),
)

pub rising_of : (box : List Literal) → IsAscending box → All (λ l. l.block < 32) box → Rising 0 box
rising_of box ascending below = rising_from 0 box (λ i l at. omega arith) ascending below

pub length-box : (box : List Literal) → Rising 0 box → length box ≤ 32
length-box box rising = let all = length-rising 0 box rising (omega arith) in omega arith

pub literals_le : (list : List Nogood) → ((e : ℕ) → e < length list → Rising 0 (box_of list e)) → literals_of list ≤ length list * 32
literals_le list rising = sum_by-le (λ n. length n.part) 32 list
    (All-from_get_or (λ n. length n.part ≤ 32) list no_nogood (λ i within. length-box (box_of list i) (rising i within)))

-- the boxes of a list with one more
pub box_old : (list : List Nogood) (n : Nogood) (e : ℕ) → e < length list → box_of (list ++ n ∷ []) e ≡ box_of list e
box_old list n e within = ap (λ (m : Nogood). m.part) (get_or_append_left list (n ∷ []) no_nogood e within)

pub box_new : (list : List Nogood) (n : Nogood) → box_of (list ++ n ∷ []) (length list) ≡ n.part
box_new list n = ap (λ (m : Nogood). m.part) (get_or_push list n no_nogood (length list) refl)

weight_old : (list : List Nogood) (n : Nogood) (i : ℕ) (es : List ℕ) → ((e : ℕ) → Has e es → e < length list) → weight (list ++ n ∷ []) i es ≡ weight list i es
weight_old list n i [] known = refl
weight_old list n i (e ∷ es) known =
    let here : later (list ++ n ∷ []) i e ≡ later list i e = ap (later_in i) (box_old list n e (known e (inl refl))) in
    let rest = weight_old list n i es (λ x has. known x (inr has)) in omega arith

to_match_old : (list : List Nogood) (n : Nogood) (i : ℕ) (lists : List (List ℕ)) → ((j e : ℕ) → Has e (entries_of lists j) → e < length list)
    → to_match (list ++ n ∷ []) i lists ≡ to_match list i lists
to_match_old list n i [] known = refl
to_match_old list n i (es ∷ lists) known =
    let here = weight_old list n i es (λ e has. known 0 e has) in
    let rest = to_match_old list n (suc i) lists (λ j e has. known (suc j) e has) in omega arith

put_has : (lists : List (List ℕ)) (e b i x : ℕ) → b < length lists → Has x (entries_of (put_first lists e b) i) → ((x ≡ e) × (i ≡ b)) ⊎ Has x (entries_of lists i)
put_has lists e b i x within has = elim (cases_eq i b) [
  | inl same ↦ elim (subst (Has x) (ap (entries_of (put_first lists e b)) same ∙ entries_put e lists b within) has) [
    | inl is ↦ inl (sym is, same)
    | inr rest ↦ inr (subst (λ j. Has x (entries_of lists j)) (sym same) rest)
  ]
  | inr other ↦ inr (subst (Has x) (entries_put_off e lists b i other) has)
]

has_put : (lists : List (List ℕ)) (e b i x : ℕ) → b < length lists → Has x (entries_of lists i) → Has x (entries_of (put_first lists e b) i)
has_put lists e b i x within has = elim (cases_eq i b) [
  | inl same ↦ subst (Has x) (sym (ap (entries_of (put_first lists e b)) same ∙ entries_put e lists b within))
      (inr (subst (λ j. Has x (entries_of lists j)) same has))
  | inr other ↦ subst (Has x) (sym (entries_put_off e lists b i other)) has
]

-- a box more, with no code entered
added_for : (list : List Nogood) (n : Nogood) (lists : List (List ℕ)) (b : ℕ) → AreFor list [] lists → b ≡ waits [] n.part → b < 33
    → AreFor (list ++ n ∷ []) [] (put_first lists (length list) b)
added_for list n lists b stand goes below =
    let within : b < length lists = let c = stand.chains in omega arith in
    let size = length_push list n in
    let e = length list in
    record {
      chains = length-set lists b _ ∙ stand.chains;
      there = λ x xin. elim (cases_eq x e) [
        | inl same ↦ subst (λ j. Has j (entries_of (put_first lists e b) (waits [] (box_of (list ++ n ∷ []) j)))) (sym same)
            (subst (λ j. Has e (entries_of (put_first lists e b) j)) (goes ∙ ap (waits []) (sym (box_new list n)))
            (subst (Has e) (sym (entries_put e lists b within)) (inl refl)))
        | inr other ↦ let old : x < length list = omega arith in
            subst (λ j. Has x (entries_of (put_first lists e b) j)) (ap (waits []) (sym (box_old list n x old)))
            (has_put lists e b (waits [] (box_of list x)) x within (stand.there x old))
      ];
      known = λ i x has. elim (put_has lists e b i x within has) [
        | inl is ↦ let s = is.0 in omega arith
        | inr was ↦ let w = stand.known i x was in omega arith
      ];
      only = λ i x has. elim (put_has lists e b i x within has) [
        | inl is ↦ ap (λ j. waits [] (box_of (list ++ n ∷ []) j)) is.0 ∙ ap (waits []) (box_new list n) ∙ sym goes ∙ sym is.1
        | inr was ↦ ap (waits []) (box_old list n x (stand.known i x was)) ∙ stand.only i x was
      ];
    }

-- the lists with no move open
pub first_for : (list : List Nogood) (codes marks : List ℕ) (trail : List Step) (v : Chained) → AreEntered list codes marks trail v → AreFor list [] (stage v 0)
first_for list codes marks trail v is = subst (λ m. AreFor list [] (stage v m)) is.marked.none (is.each 0 (omega arith))

-- the box stands where it waits, and no code is entered
pub added : (list : List Nogood) (n : Nogood) (codes marks marks' : List ℕ) (trail : List Step) (old now : Chained) (b : ℕ) → AreEntered list codes marks trail old
    → AreMarks marks' 0
    → Rising 0 n.part → b ≡ waits [] n.part → b < 33
    → now.lists ≡ put_first (stage old 0) (length list) b → now.past ≡ [] → now.entries ≡ length list + 1 → literals_of (list ++ n ∷ []) ≤ now.spare_moves
    → AreEntered (list ++ n ∷ []) [] marks' [] now
added list n codes marks marks' trail old now b is marked rising goes below lists past entries spare =
    let none = is.marked.none in
    let none' = marked.none in
    let zero_for : AreFor list [] (stage old 0) = first_for list codes marks trail old is in
    let stand : AreFor (list ++ n ∷ []) [] (put_first (stage old 0) (length list) b) = added_for list n (stage old 0) b zero_for goes below in
    let stage_is : stage now 0 ≡ put_first (stage old 0) (length list) b = ap (λ p. get_or (reverse (now.lists ∷ p)) 0 []) past ∙ lists in
    let size = length_push list n in
    let open_none : length now.past ≡ 0 = ap length past in
    let put = to_match-put (list ++ n ∷ []) 0 (length list) b (stage old 0) (let c = zero_for.chains in omega arith) in
    let old_same = to_match_old list n 0 (stage old 0) zero_for.known in
    let mine : later (list ++ n ∷ []) (0 + b) (length list) ≤ length n.part =
    rw (box_new list n) (later_le-length (0 + b) n.part) in
    let all : literals_of (list ++ n ∷ []) ≡ literals_of list + length n.part = sum_by_push (λ m. length m.part) list n in
    let zero_mark : to_match list 0 (stage old (slice_index marks 0)) ≡ to_match list 0 (stage old 0) = ap (λ m. to_match list 0 (stage old m)) none in
    let base = is.falling 0 (omega arith) in
    let now_is : to_match (list ++ n ∷ []) 0 (stage now 0) ≡ to_match (list ++ n ∷ []) 0 (put_first (stage old 0) (length list) b) =
    ap (to_match (list ++ n ∷ []) 0) stage_is in
    record {
      entries = entries ∙ sym size;
      rising = λ e within. elim (cases_eq e (length list)) [
        | inl same ↦ subst (λ j. Rising 0 (box_of (list ++ n ∷ []) j)) (sym same) (subst (Rising 0) (sym (box_new list n)) rising)
        | inr other ↦ let o : e < length list = omega arith in subst (Rising 0) (sym (box_old list n e o)) (is.rising e o)
      ];
      marked = marked;
      now = none' ∙ sym open_none;
      size = sym open_none;
      each = λ d top. let d0 : d ≡ 0 = omega arith in
          subst (λ t. AreFor (list ++ n ∷ []) (take t []) (stage now (slice_index marks' t))) (sym d0)
          (subst (λ m. AreFor (list ++ n ∷ []) [] (stage now m)) (sym none') (subst (AreFor (list ++ n ∷ []) []) (sym stage_is) stand));
      steps = λ d top. absurd (omega arith);
      falling = λ d top. let d0 : d ≡ 0 = omega arith in
          let mark : slice_index marks' d ≡ 0 = ap (slice_index marks') d0 ∙ none' in
          let same : to_match (list ++ n ∷ []) 0 (stage now (slice_index marks' d)) ≡ to_match (list ++ n ∷ []) 0 (stage now 0) =
          ap (λ t. to_match (list ++ n ∷ []) 0 (stage now t)) mark in omega arith;
      room = omega arith;
    }
