-- The records on which a record rests, and their copies.
use Rattle.std.proofs.Common.{◌≡◌, ℕ, zero, suc, ◌+◌, ◌-◌, ◌<◌, ◌≤◌, List, [], ◌∷◌, ◌++◌, length, take, get_or, Option, Some, refl, sym, ap, ◌∙◌, subst, inl, inr, arith, append_assoc, append-nil, length-append}
use Rattle.std.specs.Prelude.{◌↔◌, IsPermutation, slice_get, slice_index}
use Rattle.std.specs.List.{All, Contains}
use Rattle.std.proofs.lemmas.Bool.{cases_lt}
use Rattle.std.proofs.lemmas.List.{take_more, get_or_append_left, length-take}
use Rattle.std.proofs.lemmas.List.Elements.{All-append, All-contains, All-contains_itself, All-get_or, All-nil, All-cons, All-push, All-weaker, Contains-append_left, Contains-get_or, Contains-push, Contains-push_cases}
use Rattle.std.proofs.lemmas.List.Sorted.{Contains-permutation, IsPermutation-sym}
use Rattle.std.proofs.lemmas.Option.{none-some, same_Some, slice_get-get_or}
use Rattle.common_lists.proofs.ListLaws.{get_before, get_last, all_permuted, get_or-default, taken_get}
use Rattle.plan_rule.specs.Boxes.{Covers, exact, with_literal}
use Rattle.plan_rule.specs.Choices.{Choices}
use Rattle.plan_rule.specs.Yards.{choices}
use Rattle.plan_rule.specs.declared.literal.Literal.{Literal}
use Rattle.refutation_log.specs.declared.record.Record.{Record}
use Rattle.refutation_log.specs.declared.record.Record.TheVariants.{Branch, Fit, Energy}
use Rattle.refutation_log.specs.Logs.{CiteEarlier, cites_of}
use Rattle.refutation_log.specs.Steps.{IsCited, IsCovered, IsStep, result_of}
use Rattle.branch_kernel.specs.Clean.{Leads}
use Rattle.log_parts.specs.Picked.{AreCopied, AreFoundIn, IsAdded, IsClosedUnder, IsDerivation, IsOneAdded, IsRenumbered, Rises}

pub added_none : (xs : List ℕ) → IsAdded [] xs xs
added_none xs = record { grown = ([], sym (append-nil xs), All-nil (Contains [])); has = All-nil (Contains xs) }

pub added_one : (numbers old now new : List ℕ) (i : ℕ) → i < length numbers → IsAdded (take i numbers) old now → IsOneAdded (get_or numbers i 0) now new → IsAdded (take (i + 1) numbers) old new
added_one numbers old now new i l h (is, held) = subst (λ ns. IsAdded ns old new) (sym (take_more numbers i 0 l)) record {
  grown = elim is [
    | inl same ↦ (h.grown.0, same ∙ h.grown.1, more)
    | inr pushed ↦ (h.grown.0 ++ x ∷ [], pushed ∙ ap (λ l. l ++ x ∷ []) h.grown.1 ∙ append_assoc old h.grown.0 (x ∷ []), All-push (Contains (take i numbers ++ x ∷ [])) h.grown.0 x more (Contains-push (take i numbers) x))
  ];
  has = All-push (Contains new) (take i numbers) x (All-weaker (Contains now) (Contains new) kept (take i numbers) h.has) held;
}
  where
    x : ℕ
    x = get_or numbers i 0

    more : All (Contains (take i numbers ++ x ∷ [])) h.grown.0
    more = All-weaker (Contains (take i numbers)) (Contains (take i numbers ++ x ∷ [])) (λ k c. Contains-append_left (take i numbers) (x ∷ []) k c) h.grown.0 h.grown.2

    kept : (k : ℕ) → Contains now k → Contains new k
    kept k c = elim is [
      | inl same ↦ subst (λ l. Contains l k) (sym same) c
      | inr pushed ↦ subst (λ l. Contains l k) (sym pushed) (Contains-append_left now (x ∷ []) k c)
    ]

-- what is cited by the first i of the numbers that are picked is picked too
pub record IsClosing (log : List Record) (last : ℕ) (picked : List ℕ) (i : ℕ) : Type 0 where
  pub within : i ≤ length picked
  pub has : Contains picked last
  pub done : (j : ℕ) (r : Record) → j < i → slice_get log (get_or picked j 0) ≡ Some r → All (Contains picked) (cites_of r)
  pub led : All (λ k. (k ≤ last) × ((n : ℕ) × Leads log n last k)) picked

pub closing_begins : (log : List Record) (last : ℕ) (picked : List ℕ) → picked ≡ last ∷ [] → IsClosing log last picked 0
closing_begins log last picked is = subst (λ l. IsClosing log last l 0) (sym is) record {
  within = omega arith;
  has = (0, omega arith, refl);
  done = λ j r l at. absurd (omega arith);
  led = All-cons (λ k. (k ≤ last) × ((n : ℕ) × Leads log n last k)) last [] (omega arith, (0, refl)) (All-nil (λ k. (k ≤ last) × ((n : ℕ) × Leads log n last k)));
}

leads_on : (log : List Record) (n k i j : ℕ) (r : Record) → Leads log n k i → slice_get log i ≡ Some r → Contains (cites_of r) j → j < i → Leads log (suc n) k j
leads_on log zero k i j r same at cited below =
    (r, j, subst (λ x. slice_get log x ≡ Some r) (sym same) at, cited, omega arith, refl)
leads_on log (suc n) k i j r (s, m, at', cited', below', rest) at cited below = (s, m, at', cited', below', leads_on log n m i j r rest at cited below)

pub picked_within : (log : List Record) (last : ℕ) (picked : List ℕ) (i : ℕ) → last < length log → IsClosing log last picked i → i < length picked → get_or picked i 0 < length log
picked_within log last picked i l h m = let a = (All-get_or (λ k. (k ≤ last) × ((n : ℕ) × Leads log n last k)) picked i 0 m h.led).0 in omega arith

pub closing_more : (log : List Record) (last : ℕ) (picked next : List ℕ) (i : ℕ) (e : Record) → CiteEarlier log → IsClosing log last picked i → i < length picked
    → slice_get log (get_or picked i 0) ≡ Some e → IsAdded (cites_of e) picked next → IsClosing log last next (i + 1)
closing_more log last picked next i e earlier h l at added =
    let (more, is, from) = added.grown in
    let own = get_or picked i 0 in
    let (low, (n, leads)) = All-get_or (λ k. (k ≤ last) × ((n : ℕ) × Leads log n last k)) picked i 0 l h.led in
    let long : length next ≡ length picked + length more = ap length is ∙ length-append picked more in
    record {
      within = omega arith;
      has = subst (λ l. Contains l last) (sym is) (Contains-append_left picked more last h.has);
      done = λ j r m at'. go more is j r m (subst (λ l. slice_get log (get_or l j 0) ≡ Some r) is at');
      led = subst (All (λ k. (k ≤ last) × ((n : ℕ) × Leads log n last k))) (sym is)
          (All-append (λ k. (k ≤ last) × ((n : ℕ) × Leads log n last k)) picked more h.led
          (All-weaker (Contains (cites_of e)) (λ k. (k ≤ last) × ((n : ℕ) × Leads log n last k))
          (λ k c. let below = All-contains (λ k. k < own) (cites_of e) k (earlier own e at) c in (omega arith, (suc n, leads_on log n last own k e leads at c below))) more from));
    }
  where
    go : (more : List ℕ) → next ≡ picked ++ more → (j : ℕ) (r : Record) → j < i + 1 → slice_get log (get_or (picked ++ more) j 0) ≡ Some r → All (Contains next) (cites_of r)
    go more is j r m at' =
        let at'' : slice_get log (get_or picked j 0) ≡ Some r = subst (λ k. slice_get log k ≡ Some r) (get_or_append_left picked more 0 j (omega arith)) at' in
        elim (cases_lt j i) [
          | inl below ↦ All-weaker (Contains picked) (Contains next) (λ k c. subst (λ l. Contains l k) (sym is) (Contains-append_left picked more k c)) (cites_of r) (h.done j r below at'')
          | inr here ↦
              (let same : i ≡ j = omega arith in
              let e_is : e ≡ r = same_Some e r (sym at ∙ subst (λ k. slice_get log (get_or picked k 0) ≡ Some r) (sym same) at'') in
              subst (λ r. All (Contains next) (cites_of r)) e_is added.has)
        ]

pub closing_ends : (log : List Record) (last : ℕ) (picked : List ℕ) (i : ℕ) → i ≡ length picked → IsClosing log last picked i → IsClosedUnder log last picked
closing_ends log last picked i e h = record {
  has = h.has;
  closed = λ k r (j, l, is) at. h.done j r (omega arith) (subst (λ k. slice_get log k ≡ Some r) (sym (get_or-default picked j 0 k l ∙ is)) at);
  led = h.led;
}

-- the order of the numbers does not matter
pub closed_permuted : (log : List Record) (last : ℕ) (xs ys : List ℕ) → IsPermutation xs ys → IsClosedUnder log last xs → IsClosedUnder log last ys
closed_permuted log last xs ys moved h = record {
  has = Contains-permutation xs ys last moved h.has;
  closed = λ k r c at. All-weaker (Contains xs) (Contains ys) (λ k c. Contains-permutation xs ys k moved c) (cites_of r)
      (h.closed k r (Contains-permutation ys xs k (IsPermutation-sym xs ys moved) c) at);
  led = all_permuted (λ k. (k ≤ last) × ((n : ℕ) × Leads log n last k)) xs ys moved h.led;
}

pub found_none : (picked places : List ℕ) → places ≡ [] → AreFoundIn picked [] places
found_none picked places none = subst (AreFoundIn picked []) (sym none) record {
  each = λ k (j, l, e). absurd (omega arith);
  only = All-nil (λ j. (j < length picked) × Contains [] (slice_index picked j));
}

pub found_one : (picked numbers places : List ℕ) (i place : ℕ) → i < length numbers → AreFoundIn picked (take i numbers) places → place < length picked → get_or picked place 0 ≡ get_or numbers i 0
    → AreFoundIn picked (take (i + 1) numbers) (places ++ place ∷ [])
found_one picked numbers places i place l h within is = subst (λ ns. AreFoundIn picked ns (places ++ place ∷ [])) (sym (take_more numbers i 0 l)) record {
  each = λ k c. elim (Contains-push_cases (take i numbers) x k c) [
    | inl was ↦ (let (j, at, low, same) = h.each k was in (j, Contains-append_left places (place ∷ []) j at, low, same))
    | inr new ↦ (place, Contains-push places place, within, is ∙ new)
  ];
  only = All-push (λ j. (j < length picked) × Contains (take i numbers ++ x ∷ []) (slice_index picked j)) places place
      (All-weaker (λ j. (j < length picked) × Contains (take i numbers) (slice_index picked j)) (λ j. (j < length picked) × Contains (take i numbers ++ x ∷ []) (slice_index picked j))
      (λ j f. (f.0, Contains-append_left (take i numbers) (x ∷ []) (slice_index picked j) f.1)) places h.only)
      (within, subst (Contains (take i numbers ++ x ∷ [])) (sym is) (Contains-push (take i numbers) x));
}
  where
    x : ℕ
    x = get_or numbers i 0

pub copied_none : (log part : List Record) (picked : List ℕ) → part ≡ [] → AreCopied log picked part 0
copied_none log part picked none = record { size = ap length none; each = λ j l. absurd (omega arith) }

pub copied_one : (log part next : List Record) (picked : List ℕ) (i : ℕ) (e : Record) → AreCopied log picked part i → slice_get log (slice_index picked i) ≡ Some e
    → (r : Record) × (next ≡ part ++ r ∷ []) × IsRenumbered picked (length part) e r → AreCopied log picked next (i + 1)
copied_one log part next picked i e h at (r, is, copy) = record {
  size = ap length is ∙ length-append part (r ∷ []) ∙ ap (λ n. n + 1) h.size;
  each = λ j l. elim (cases_lt j i) [
    | inl below ↦ (let (e', r', at', here, same) = h.each j below in (e', r', at', subst (λ l. slice_get l j ≡ Some r') (sym is) (get_before part (r ∷ []) j r' here), same))
    | inr last ↦
        (let same : i ≡ j = omega arith in
        let long : length part ≡ j = h.size ∙ same in (
          e,
          r,
          subst (λ k. slice_get log (slice_index picked k) ≡ Some e) same at,
          subst (λ k. slice_get next k ≡ Some r) long (subst (λ l. slice_get l (length part) ≡ Some r) (sym is) (get_last part r)),
          subst (λ k. IsRenumbered picked k e r) long copy,
        ))
  ];
}

renumbered_result : (c : Choices) (picked : List ℕ) (n : ℕ) (e r : Record) → IsRenumbered picked n e r → result_of c r ≡ result_of c e
renumbered_result c picked n (Branch b lo hi side cites) r (list, is, low, found) = ap (result_of c) is
renumbered_result c picked n (Fit side) r is = ap (result_of c) is
renumbered_result c picked n (Energy from to side) r is = ap (result_of c) is

get_untaken : {X : Type 0} (xs : List X) (n i : ℕ) (x : X) → slice_get (take n xs) i ≡ Some x → slice_get xs i ≡ Some x
get_untaken [] zero i x e = e
get_untaken [] (suc n) i x e = e
get_untaken (y ∷ xs) zero i x e = absurd (none-some x e)
get_untaken (y ∷ xs) (suc n) zero x e = e
get_untaken (y ∷ xs) (suc n) (suc i) x e = get_untaken xs n i x e

-- a copy of a step is a step
step_copied : (c : Choices) (t : Option (List ℕ)) (log part : List Record) (picked : List ℕ) (own j : ℕ) (e r : Record) → AreCopied log picked part (length picked) → j < length part
    → IsRenumbered picked j e r → IsStep c t (take own log) e → IsStep c t (take j part) r
step_copied c t log part picked own j (Branch b lo hi side cites) r h l (list, is, low, found) step = subst (IsStep c t (take j part)) (sym is) record {
  side_is = step.side_is;
  block = step.block;
  free = step.free;
  range = step.range;
  earlier_only = All-weaker (λ k. k < j) (λ k. k < length (take j part)) (λ k m. let n = length-take j part in omega arith) list low;
  covered = λ code a m. covered code (step.covered code a m);
}
  where
    cited : (code : ℕ) → IsCited c (take own log) cites (with_literal side (exact b code)) → IsCited c (take j part) list (with_literal side (exact b code))
    cited code (k, rec, held, at, covers) =
        let (m, in_list, in_picked, same) = found k held in
        let below : m < j = All-contains (λ k. k < j) list m low in_list in
        let (e', r', at', here, renumbered) = h.each m in_picked in
        let rec_is : e' ≡ rec = same_Some e' rec (sym at' ∙ subst (λ k. slice_get log k ≡ Some rec) (sym same) (get_untaken log own k rec at)) in (
          m,
          r',
          in_list,
          taken_get part j m r' below here,
          subst (λ box. Covers c box (with_literal side (exact b code))) (sym (renumbered_result c picked m e' r' renumbered ∙ ap (result_of c) rec_is)) covers,
        )

    covered : (code : ℕ) → IsCovered c t (take own log) side cites b code → IsCovered c t (take j part) side list b code
    covered code h = elim h [
      | inl clash ↦ inl clash
      | inr other ↦ elim other [
        | inl piece ↦ inr (inl piece)
        | inr rest ↦ elim rest [ inl base ↦ inr (inr (inl base)) | inr cite ↦ inr (inr (inr (cited code cite))) ]
      ]
    ]
step_copied c t log part picked own j (Fit side) r h l is step = subst (IsStep c t (take j part)) (sym is) step
step_copied c t log part picked own j (Energy from to side) r h l is step = subst (IsStep c t (take j part)) (sym is) step

pub derived : (log part : List Record) (last : ℕ) (picked : List ℕ) → Rises picked → IsClosedUnder log last picked → AreCopied log picked part (length picked) → IsDerivation log last part
derived log part last picked rises closed h = record {
  steps = λ yard t steps j l.
      let (e, r, at, here, renumbered) = h.each j (let n = h.size in omega arith) in
      let (low, (n, leads)) = All-get_or (λ k. (k ≤ last) × ((n : ℕ) × Leads log n last k)) picked j 0 (let n = h.size in omega arith) closed.led in
      let (e', at', step) = steps n (get_or picked j 0) leads in
      let same : e' ≡ e = same_Some e' e (sym at' ∙ at) in
      (r, here, step_copied (choices yard) t log part picked (get_or picked j 0) j e r h l renumbered (subst (IsStep (choices yard) t (take (get_or picked j 0) log)) same step));
  result = λ i r e here.
      let (s, r', at, here', renumbered) = h.each i (let n = h.size in omega arith) in
      let r_is : r' ≡ r = same_Some r' r (sym here' ∙ here) in
      let (j, l, at_j) = closed.has in
      let long : i + 1 ≡ length picked = e ∙ h.size in
      let low = (All-get_or (λ k. (k ≤ last) × ((n : ℕ) × Leads log n last k)) picked i 0 (omega arith) closed.led).0 in
      let high = rises j i (omega arith) (omega arith) in
      let is_j : get_or picked j 0 ≡ last = get_or-default picked j 0 last l ∙ at_j in
      let is_last : get_or picked i 0 ≡ last = omega arith in
      (s, subst (λ k. slice_get log k ≡ Some s) is_last at, λ yard. ap (result_of (choices yard)) (sym r_is) ∙ renumbered_result (choices yard) picked i s r' renumbered);
}

pub not_missing : (picked : List ℕ) (x i : ℕ) → Contains picked x → ((k : ℕ) → k < i → get_or picked k 0 < x) → ((k : ℕ) → i ≤ k → k < length picked → x < get_or picked k 0) → ⊥
not_missing picked x i (j, l, e) low high =
    let is : get_or picked j 0 ≡ x = get_or-default picked j 0 x l ∙ e in
    elim (cases_lt j i) [ inl below ↦ (let a = low j below in omega arith) | inr above ↦ (let a = high j above l in omega arith) ]

-- the places of what is cited are places before the copy's
pub places_early : (picked numbers places : List ℕ) (n : ℕ) → ((j : ℕ) → j < length picked → Contains numbers (slice_index picked j) → j < n) → AreFoundIn picked numbers places → All (λ j. j < n) places
places_early picked numbers places n early h = All-weaker (λ j. (j < length picked) × Contains numbers (slice_index picked j)) (λ j. j < n) (λ j f. early j f.0 f.1) places h.only

-- the copy of a branch
pub branch_copied : (picked numbers places : List ℕ) (part next : List Record) (entry : Record) (b lo hi : ℕ) (side side' : List Literal) (cites : List ℕ)
    → entry ≡ Branch b lo hi side cites → numbers ≡ cites → side' ≡ side → AreFoundIn picked numbers places → All (λ j. j < length part) places
    → (list : List ℕ) × (next ≡ part ++ Branch b lo hi side' list ∷ []) × ((x : ℕ) → Contains list x ↔ Contains places x)
    → (r : Record) × (next ≡ part ++ r ∷ []) × IsRenumbered picked (length part) entry r
branch_copied picked numbers places part next entry b lo hi side side' cites is same side_is found early (list, next_is, both) = (
  Branch b lo hi side' list,
  next_is,
  subst (λ e. IsRenumbered picked (length part) e (Branch b lo hi side' list)) (sym is) (
    list,
    ap (λ s. Branch b lo hi s list) side_is,
    All-weaker (Contains list) (λ j. j < length part) (λ j c. All-contains (λ j. j < length part) places j early ((both j).0 c)) list (All-contains_itself list),
    λ k c. let (j, at, within, at_k) = found.each k (subst (λ l. Contains l k) (sym same) c) in (j, (both j).1 at, within, at_k),
  ),
)

-- a record that is picked, and what it cites
pub picked_cites : (log : List Record) (last : ℕ) (picked : List ℕ) (i : ℕ) (e : Record) → IsClosedUnder log last picked → i < length picked → slice_get log (slice_index picked i) ≡ Some e → All (Contains picked) (cites_of e)
picked_cites log last picked i e h l at = h.closed (get_or picked i 0) e (Contains-get_or picked i 0 l) at

pub picked_early : (log : List Record) (picked : List ℕ) (i j : ℕ) (e : Record) → CiteEarlier log → Rises picked → i < length picked → slice_get log (slice_index picked i) ≡ Some e → j < length picked
    → Contains (cites_of e) (slice_index picked j) → j < i
picked_early log picked i j e earlier rises l at m c = elim (cases_lt j i) [
  | inl below ↦ below
  | inr above ↦ (let a = rises i j above m in let b = All-contains (λ k. k < get_or picked i 0) (cites_of e) (get_or picked j 0) (earlier (get_or picked i 0) e at) c in absurd (omega arith))
]

pub picked_bound : (log : List Record) (last : ℕ) (picked : List ℕ) (i : ℕ) → last < length log → IsClosedUnder log last picked → i < length picked → slice_index picked i < length log
picked_bound log last picked i l h m = let a = (All-get_or (λ k. (k ≤ last) × ((n : ℕ) × Leads log n last k)) picked i 0 m h.led).0 in omega arith

pub read_at : (slice log : List Record) (k : ℕ) (e : Record) → slice ≡ log → k < length log → e ≡ get_or slice k e → slice_get log k ≡ Some e
read_at slice log k e same l is = slice_get-get_or log k e l ∙ ap (λ r. Some r) (sym (is ∙ ap (λ l. get_or l k e) same))
