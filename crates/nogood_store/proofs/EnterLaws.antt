-- A store as codes are entered and left.
use Rattle.std.proofs.Common.{◌≡◌, ℕ, ◌+◌, ◌-◌, ◌<◌, ◌≤◌, List, [], ◌∷◌, ◌++◌, length, take, drop, reverse, slice_index, get_or, sym, ap, ◌∙◌, subst, inl, inr, arith, slice_set}
use Rattle.std.proofs.lemmas.Bool.{cases_eq}
use Rattle.std.proofs.lemmas.List.{take_all, take-take, take-append-le, length-take-le, length-drop, length-append, get_or_append_left, get_or_push, get_or-set_same, get_or-set_other, get_or-take, length_push}
use Rattle.nogood_store.specs.declared.nogood.Nogood.{Nogood}
use Rattle.nogood_store.specs.declared.step.Step.{Step}
use Rattle.nogood_store.specs.Places.{AreFor, to_match, literals_of}
use Rattle.nogood_store.specs.Steps.{lists_after, past_after, AreSteps}
use Rattle.nogood_store.specs.Entered.{stage, segment, AreEntered}
use Rattle.nogood_store.proofs.HistoryLaws.{stage_now, stage_after, stage_back, length-past_after, marks_less, marks_more, segment_old, segment_new, segment_front}
use Rattle.nogood_store.proofs.StepLaws.{are_open, steps_fit, stepped_for}
use Rattle.watch_chains.specs.Lists.{Chained}

-- the lists now are for all codes that are entered
pub entered_now : (list : List Nogood) (codes marks : List ℕ) (trail : List Step) (v : Chained) → AreEntered list codes marks trail v → AreFor list codes v.lists
entered_now list codes marks trail v entered =
    let here_now : stage v (slice_index marks (length codes)) ≡ v.lists = ap (stage v) entered.now ∙ stage_now v in
    let all : take (length codes) codes ≡ codes = take_all (length codes) codes (omega arith) in
    subst (λ t. AreFor list t v.lists) all (subst (AreFor list (take (length codes) codes)) here_now (entered.each (length codes) (omega arith)))

-- the literals that are left to match now, with the open moves, are no more than there are
pub left_now : (list : List Nogood) (codes marks : List ℕ) (trail : List Step) (v : Chained) → AreEntered list codes marks trail v
    → to_match list 0 v.lists + length v.past ≤ literals_of list
left_now list codes marks trail v entered =
    let here_now : stage v (slice_index marks (length codes)) ≡ v.lists = ap (stage v) entered.now ∙ stage_now v in
    let same : to_match list 0 (stage v (slice_index marks (length codes))) ≡ to_match list 0 v.lists = ap (to_match list 0) here_now in
    let fall = entered.falling (length codes) (omega arith) in
    let now = entered.now in
    omega arith

-- the steps of the next code fit
pub steps_left : (list : List Nogood) (codes marks : List ℕ) (code : ℕ) (trail steps : List Step) (v : Chained) → AreEntered list codes marks trail v
    → length codes < 32 → AreSteps list codes code steps
    → to_match list 0 (lists_after v.lists steps) + length steps ≤ to_match list 0 v.lists
steps_left list codes marks code trail steps v entered few is =
    steps_fit list codes code v.lists steps few entered.rising
    (are_open list codes code v.lists steps (entered_now list codes marks trail v entered) is.each is.distinct)

pub steps_spare : (list : List Nogood) (codes marks : List ℕ) (code : ℕ) (trail steps : List Step) (v : Chained) → AreEntered list codes marks trail v
    → length codes < 32 → AreSteps list codes code steps → length steps ≤ v.spare_moves
steps_spare list codes marks code trail steps v entered few is =
    let fit = steps_left list codes marks code trail steps v entered few is in
    let left = left_now list codes marks trail v entered in
    let room = entered.room in
    omega arith

-- all steps are made: the code is entered
pub stepped : (list : List Nogood) (codes marks : List ℕ) (code : ℕ) (trail steps : List Step) (old now : Chained) (open_now : ℕ)
    → AreEntered list codes marks trail old → length codes < 32 → AreSteps list codes code steps
    → now.lists ≡ lists_after old.lists steps → now.past ≡ past_after old.lists old.past steps → now.entries ≡ old.entries
    → now.spare_moves + length steps ≡ old.spare_moves → open_now ≡ length now.past
    → AreEntered list (codes ++ code ∷ []) (slice_set marks (length codes + 1) open_now) (trail ++ steps) now
stepped list codes marks code trail steps old now open_now entered few is lists past entries spare count =
    let b = length codes in
    let marks' = slice_set marks (b + 1) open_now in
    let size : length (codes ++ code ∷ []) ≡ b + 1 = length_push codes code in
    let depths = entered.marked.depths in
    let long : length now.past ≡ length old.past + length steps = ap length past ∙ length-past_after old.lists old.past steps in
    let last = entered.now in
    let trailed = entered.size in
    let at_new : slice_index marks' (b + 1) ≡ length now.past = get_or-set_same marks (b + 1) open_now 0 (omega arith) ∙ count in
    let at_old : (d : ℕ) → d ≤ b → slice_index marks' d ≡ slice_index marks d =
    λ d within. get_or-set_other marks (b + 1) d open_now 0 (omega arith) in
    let was : (d : ℕ) → d ≤ b → stage now (slice_index marks' d) ≡ stage old (slice_index marks d) =
    λ d within. ap (stage now) (at_old d within)
    ∙ stage_after old now steps (slice_index marks d) lists past (let o = entered.marked.order d b within (omega arith) in omega arith) in
    let now_is : (d : ℕ) → d ≡ b + 1 → stage now (slice_index marks' d) ≡ now.lists =
    λ d top. ap (stage now) (ap (slice_index marks') top ∙ at_new) ∙ stage_now now in
    record {
      entries = entries ∙ entered.entries;
      rising = entered.rising;
      marked = rw size (marks_more marks b open_now entered.marked few (omega arith));
      now = ap (slice_index marks') size ∙ at_new;
      size = length-append trail steps ∙ (let e : length trail + length steps ≡ length now.past = omega arith in e);
      each = λ d within. elim (cases_eq d (b + 1)) [
        | inl top ↦ let all : take d (codes ++ code ∷ []) ≡ codes ++ code ∷ [] = take_all d (codes ++ code ∷ []) (omega arith) in
            subst (λ t. AreFor list t (stage now (slice_index marks' d))) (sym all)
            (subst (AreFor list (codes ++ code ∷ [])) (sym (now_is d top ∙ lists))
            (stepped_for list codes code old.lists steps entered.rising (entered_now list codes marks trail old entered) is))
        | inr below ↦ let le : d ≤ b = omega arith in
            subst (λ t. AreFor list t (stage now (slice_index marks' d))) (sym (take-append-le d codes (code ∷ []) le))
            (subst (AreFor list (take d codes)) (sym (was d le)) (entered.each d le))
      ];
      steps = λ d within. elim (cases_eq d b) [
        | inl top ↦
            let codes_are : take d (codes ++ code ∷ []) ≡ codes = take-append-le d codes (code ∷ []) (omega arith) ∙ take_all d codes (omega arith) in
            let code_is : slice_index (codes ++ code ∷ []) d ≡ code = get_or_push codes code 0 d (sym top) in
            let cut : segment (trail ++ steps) marks' d ≡ steps = ap (segment (trail ++ steps) marks') top
            ∙ segment_new trail steps marks b open_now entered.marked few (omega arith) (omega arith) in
            subst (λ t. AreSteps list t (slice_index (codes ++ code ∷ []) d) (segment (trail ++ steps) marks' d)) (sym codes_are)
            (subst (λ t. AreSteps list codes t (segment (trail ++ steps) marks' d)) (sym code_is)
            (subst (AreSteps list codes code) (sym cut) is))
        | inr below ↦ let less : d < b = omega arith in
            let codes_are : take d (codes ++ code ∷ []) ≡ take d codes = take-append-le d codes (code ∷ []) (omega arith) in
            let code_is : slice_index (codes ++ code ∷ []) d ≡ slice_index codes d = get_or_append_left codes (code ∷ []) 0 d less in
            let cut = segment_old trail steps marks b open_now d entered.marked (omega arith) less in
            subst (λ t. AreSteps list t (slice_index (codes ++ code ∷ []) d) (segment (trail ++ steps) marks' d)) (sym codes_are)
            (subst (λ t. AreSteps list (take d codes) t (segment (trail ++ steps) marks' d)) (sym code_is)
            (subst (AreSteps list (take d codes) (slice_index codes d)) (sym cut) (entered.steps d less)))
      ];
      falling = λ d within. elim (cases_eq d (b + 1)) [
        | inl top ↦
            let same : to_match list 0 (stage now (slice_index marks' d)) ≡ to_match list 0 (lists_after old.lists steps) = ap (to_match list 0) (now_is d top ∙ lists) in
            let mark : slice_index marks' d ≡ length now.past = ap (slice_index marks') top ∙ at_new in
            let fit = steps_left list codes marks code trail steps old entered few is in
            let left = left_now list codes marks trail old entered in
            omega arith
        | inr below ↦ let le : d ≤ b = omega arith in
            let same : to_match list 0 (stage now (slice_index marks' d)) ≡ to_match list 0 (stage old (slice_index marks d)) = ap (to_match list 0) (was d le) in
            let mark = at_old d le in
            let fall = entered.falling d le in
            omega arith
      ];
      room = let room = entered.room in omega arith;
    }

-- codes are left: the moves that were opened since are undone
pub left : (list : List Nogood) (codes marks : List ℕ) (trail : List Step) (old now : Chained) (d : ℕ) → AreEntered list codes marks trail old → d ≤ length codes
    → now.lists ∷ now.past ≡ drop (length old.past - slice_index marks d) (old.lists ∷ old.past) → now.entries ≡ old.entries
    → now.spare_moves + length now.past ≡ old.spare_moves + length old.past
    → AreEntered list (take d codes) marks (take (slice_index marks d) trail) now
left list codes marks trail old now d is within back entries spare =
    let size : length (take d codes) ≡ d = length-take-le d codes within in
    let mark_le : slice_index marks d ≤ length old.past = let a = is.marked.order d (length codes) within (omega arith) in let b = is.now in omega arith in
    let long : length (now.lists ∷ now.past) ≡ length (old.lists ∷ old.past) - (length old.past - slice_index marks d) =
    ap length back ∙ length-drop (length old.past - slice_index marks d) (old.lists ∷ old.past) in
    let now_is : slice_index marks d ≡ length now.past = omega arith in
    let trailed = is.size in
    let same : (m : ℕ) → m ≤ slice_index marks d → stage now m ≡ stage old m = λ m le. stage_back old now (slice_index marks d) m back mark_le le in
    let mark_a : (a : ℕ) → a ≤ d → slice_index marks a ≤ slice_index marks d = λ a le. is.marked.order a d le within in
    let codes_same : (a : ℕ) → a ≤ d → take a (take d codes) ≡ take a codes = λ a le. take-take a d codes le in
    record {
      entries = entries ∙ is.entries;
      rising = is.rising;
      marked = rw size (marks_less marks (length codes) d is.marked within);
      now = ap (slice_index marks) size ∙ now_is;
      size = length-take-le (slice_index marks d) trail (omega arith) ∙ now_is;
      each = λ a top.
          subst (λ t. AreFor list t (stage now (slice_index marks a))) (sym (codes_same a (omega arith)))
          (subst (AreFor list (take a codes)) (sym (same (slice_index marks a) (mark_a a (omega arith)))) (is.each a (omega arith)));
      steps = λ a top. let below : a < d = omega arith in
          let code_is : slice_index (take d codes) a ≡ slice_index codes a = get_or-take d codes a 0 below in
          let cut = segment_front trail marks (length codes) a d is.marked below within in
          subst (λ t. AreSteps list t (slice_index (take d codes) a) (segment (take (slice_index marks d) trail) marks a)) (sym (codes_same a (omega arith)))
          (subst (λ t. AreSteps list (take a codes) t (segment (take (slice_index marks d) trail) marks a)) (sym code_is)
          (subst (AreSteps list (take a codes) (slice_index codes a)) (sym cut) (is.steps a (omega arith))));
      falling = λ a top. let m_same : to_match list 0 (stage now (slice_index marks a)) ≡ to_match list 0 (stage old (slice_index marks a)) =
          ap (to_match list 0) (same (slice_index marks a) (mark_a a (omega arith))) in
          let was = is.falling a (omega arith) in omega arith;
      room = let room = is.room in omega arith;
    }

-- more room leaves all else
pub reserved : (list : List Nogood) (codes marks : List ℕ) (trail : List Step) (old now : Chained) → AreEntered list codes marks trail old
    → now.lists ≡ old.lists → now.past ≡ old.past → now.entries ≡ old.entries → old.spare_moves ≤ now.spare_moves → AreEntered list codes marks trail now
reserved list codes marks trail old now is lists past entries spare =
    let same : (m : ℕ) → stage now m ≡ stage old m = λ m. ap (λ l. get_or (reverse (l ∷ now.past)) m []) lists ∙ ap (λ p. get_or (reverse (old.lists ∷ p)) m []) past in
    let size : length now.past ≡ length old.past = ap length past in
    record {
      entries = entries ∙ is.entries;
      rising = is.rising;
      marked = is.marked;
      now = is.now ∙ sym size;
      size = is.size ∙ sym size;
      each = λ d top. subst (AreFor list (take d codes)) (sym (same (slice_index marks d))) (is.each d top);
      steps = is.steps;
      falling = λ d top. let m_same : to_match list 0 (stage now (slice_index marks d)) ≡ to_match list 0 (stage old (slice_index marks d)) = ap (to_match list 0) (same (slice_index marks d)) in
          let was = is.falling d top in omega arith;
      room = let room = is.room in omega arith;
    }

pub open_le : (list : List Nogood) (codes marks : List ℕ) (trail : List Step) (v : Chained) → AreEntered list codes marks trail v → length v.past ≤ literals_of list
open_le list codes marks trail v is = let left = left_now list codes marks trail v is in omega arith
