-- A log that is taken into another one keeps what its records show.
use Rattle.std.proofs.Common.{◌≡◌, ℕ, zero, suc, ◌+◌, ◌<◌, ◌≤◌, List, [], ◌∷◌, ◌++◌, length, map, take, get_or, Some, ◌⊎◌, refl, sym, ap, ◌∙◌, subst, inl, inr, arith, append_assoc, length-append}
use Rattle.std.specs.Prelude.{◌↔◌, slice_get, slice_index, Option}
use Rattle.std.specs.List.{All, Contains}
use Rattle.std.proofs.lemmas.Bool.{cases_lt}
use Rattle.std.proofs.lemmas.List.{get_or_append_left, length-map, take-append-le}
use Rattle.std.proofs.lemmas.List.Elements.{All-contains, All-contains_itself, All-map, All-push, All-weaker}
use Rattle.std.proofs.lemmas.Option.{get_or_from_slice_get, none-some, same_Some, slice_get-get_or, slice_get_within}
use Rattle.common_lists.proofs.ListLaws.{get_before, get_last, taken_get}
use Rattle.plan_rule.specs.Boxes.{Covers, exact, with_literal}
use Rattle.plan_rule.specs.Choices.{Choices}
use Rattle.plan_rule.specs.Yards.{choices}
use Rattle.plan_rule.specs.declared.literal.Literal.{Literal}
use Rattle.shape_exact.specs.Yards.{PlainYard}
use Rattle.refutation_log.specs.declared.record.Record.{Record}
use Rattle.refutation_log.specs.declared.record.Record.TheVariants.{Branch, Fit, Energy}
use Rattle.refutation_log.specs.Logs.{AreSteps, CiteEarlier, cites_of}
use Rattle.refutation_log.specs.Steps.{IsCited, IsCovered, IsStep, IsStepAt, result_of}
use Rattle.log_parts.specs.United.{HasBoxAt, IsPlaced, IsRecited, IsRecitedBy, IsSameBox, IsUnited}

-- the first n records of the other log are taken
pub record IsUniting (log own whole : List Record) (numbers : List ℕ) (n : ℕ) : Type 0 where
  pub grown : (more : List Record) × (whole ≡ log ++ more) × All (λ e. (r : Record) × Contains own r × IsRecited r e) more
  pub size : length numbers ≡ n
  pub boxes : (i : ℕ) (r : Record) → i < n → slice_get own i ≡ Some r → HasBoxAt whole r (slice_index numbers i)
  pub steps : (yard : PlainYard) (t : Option (List ℕ)) → AreSteps (choices yard) t log → AreSteps (choices yard) t own → AreSteps (choices yard) t whole

pub uniting_ends : (log own whole : List Record) (numbers : List ℕ) (n : ℕ) → length own ≡ n → IsUniting log own whole numbers n → IsUnited log own whole numbers
uniting_ends log own whole numbers n long h = record {
  grown = h.grown;
  size = h.size ∙ sym long;
  boxes = λ i r at. let l = slice_get_within own i r at in h.boxes i r (omega arith) at;
  steps = λ yard t all more. h.steps yard t all more;
}

-- every number of those that are taken is one of the log
pub uniting_within : (log own whole : List Record) (numbers : List ℕ) (n k : ℕ) → n ≤ length own → IsUniting log own whole numbers n → k < length numbers → slice_index numbers k < length whole
uniting_within log own whole numbers n k few h l =
    let size = h.size in
    let (e, at, same) = h.boxes k (get_or own k (Fit [])) (omega arith) (slice_get-get_or own k (Fit []) (omega arith)) in
    slice_get_within whole (slice_index numbers k) e at

box_stays : (log more : List Record) (r : Record) (n : ℕ) → HasBoxAt log r n → HasBoxAt (log ++ more) r n
box_stays log more r n (e, at, same) = (e, get_before log more n e at, same)

-- one number more
boxes_more : (own now new : List Record) (numbers : List ℕ) (n k : ℕ) (r : Record) → length numbers ≡ n → slice_get own n ≡ Some r → HasBoxAt new r k
    → ((i : ℕ) (s : Record) → i < n → slice_get own i ≡ Some s → HasBoxAt new s (slice_index numbers i))
    → (i : ℕ) (s : Record) → i < n + 1 → slice_get own i ≡ Some s → HasBoxAt new s (slice_index (numbers ++ k ∷ []) i)
boxes_more own now new numbers n k r size at here before i s l at' = elim (cases_lt i n) [
  | inl below ↦ subst (HasBoxAt new s) (sym (get_or_append_left numbers (k ∷ []) 0 i (omega arith))) (before i s below at')
  | inr last ↦
      (let same : n ≡ i = omega arith in
      let s_is : r ≡ s = same_Some r s (sym at ∙ subst (λ m. slice_get own m ≡ Some s) (sym same) at') in
      let place : slice_index (numbers ++ k ∷ []) i ≡ k = ap (slice_index (numbers ++ k ∷ [])) (sym (size ∙ same)) ∙ last_is numbers k in
      subst (λ m. HasBoxAt new s m) (sym place) (subst (λ q. HasBoxAt new q k) s_is here))
]
  where
    last_is : (xs : List ℕ) (x : ℕ) → slice_index (xs ++ x ∷ []) (length xs) ≡ x
    last_is [] x = refl
    last_is (y ∷ xs) x = last_is xs x

recited : (numbers : List ℕ) (n : ℕ) (r e : Record) → IsRecitedBy numbers n r e → IsRecited r e
recited numbers n (Branch b lo hi side cites) e (list, is, low, found) = (list, is)
recited numbers n (Fit side) e is = is
recited numbers n (Energy from to side) e is = is

recited_box : (numbers : List ℕ) (n : ℕ) (r e : Record) → IsRecitedBy numbers n r e → IsSameBox r e
recited_box numbers n (Branch b lo hi side cites) e (list, is, low, found) = λ yard. ap (result_of (choices yard)) is
recited_box numbers n (Fit side) e is = λ yard. ap (result_of (choices yard)) is
recited_box numbers n (Energy from to side) e is = λ yard. ap (result_of (choices yard)) is

get_untaken : {X : Type 0} (xs : List X) (n i : ℕ) (x : X) → slice_get (take n xs) i ≡ Some x → slice_get xs i ≡ Some x
get_untaken [] zero i x e = e
get_untaken [] (suc n) i x e = e
get_untaken (y ∷ xs) zero i x e = absurd (none-some x e)
get_untaken (y ∷ xs) (suc n) zero x e = e
get_untaken (y ∷ xs) (suc n) (suc i) x e = get_untaken xs n i x e

low_in_taken : {X : Type 0} (xs : List X) (n i : ℕ) (x : X) → slice_get (take n xs) i ≡ Some x → i < n
low_in_taken [] zero i x e = absurd (none-some x e)
low_in_taken [] (suc n) i x e = absurd (none-some x e)
low_in_taken (y ∷ xs) zero i x e = absurd (none-some x e)
low_in_taken (y ∷ xs) (suc n) zero x e = omega arith
low_in_taken (y ∷ xs) (suc n) (suc i) x e = let l = low_in_taken xs n i x e in omega arith

-- a copy of a step, which cites records of the same boxes, is a step after them
step_recited : (yard : PlainYard) (t : Option (List ℕ)) (own now : List Record) (numbers : List ℕ) (n : ℕ) (r e : Record)
    → ((i : ℕ) (s : Record) → i < n → slice_get own i ≡ Some s → HasBoxAt now s (slice_index numbers i))
    → IsRecitedBy numbers (length now) r e → IsStep (choices yard) t (take n own) r → IsStep (choices yard) t now e
step_recited yard t own now numbers n (Branch b lo hi side cites) e boxes (list, is, low, found) step = subst (IsStep (choices yard) t now) (sym is) record {
  side_is = step.side_is;
  block = step.block;
  free = step.free;
  range = step.range;
  earlier_only = low;
  covered = λ code a m. covered code (step.covered code a m);
}
  where
    cited : (code : ℕ) → IsCited (choices yard) (take n own) cites (with_literal side (exact b code)) → IsCited (choices yard) now list (with_literal side (exact b code))
    cited code (k, s, held, at, covers) =
        let (s', here, same) = boxes k s (low_in_taken own n k s at) (get_untaken own n k s at) in
        (slice_index numbers k, s', found k held, here, subst (λ box. Covers (choices yard) box (with_literal side (exact b code))) (sym (same yard)) covers)

    covered : (code : ℕ) → IsCovered (choices yard) t (take n own) side cites b code → IsCovered (choices yard) t now side list b code
    covered code h = elim h [
      | inl clash ↦ inl clash
      | inr other ↦ elim other [
        | inl piece ↦ inr (inl piece)
        | inr rest ↦ elim rest [ inl base ↦ inr (inr (inl base)) | inr cite ↦ inr (inr (inr (cited code cite))) ]
      ]
    ]
step_recited yard t own now numbers n (Fit side) e boxes is step = subst (IsStep (choices yard) t now) (sym is) step
step_recited yard t own now numbers n (Energy from to side) e boxes is step = subst (IsStep (choices yard) t now) (sym is) step

-- the records before the added one are steps as before, and it is one
steps_more : (yard : PlainYard) (t : Option (List ℕ)) (now : List Record) (e : Record) → AreSteps (choices yard) t now → IsStep (choices yard) t now e → AreSteps (choices yard) t (now ++ e ∷ [])
steps_more yard t now e all last i l = elim (cases_lt i (length now)) [
  | inl below ↦
      (let (r, at, step) = all i below in
      (r, get_before now (e ∷ []) i r at, subst (λ rs. IsStep (choices yard) t rs r) (sym (take-append-le i now (e ∷ []) (omega arith))) step))
  | inr here ↦
      (let long = length-append now (e ∷ []) in
      let same : length now ≡ i = omega arith in
      subst (IsStepAt (choices yard) t (now ++ e ∷ [])) same (e, get_last now e, subst (λ rs. IsStep (choices yard) t rs e) (sym (take_all now (e ∷ []))) last))
]
  where
    take_all : (xs ys : List Record) → take (length xs) (xs ++ ys) ≡ xs
    take_all [] ys = refl
    take_all (x ∷ xs) ys = ap (λ l. x ∷ l) (take_all xs ys)

-- a record is taken
pub uniting_more : (log own now new : List Record) (numbers next : List ℕ) (n k : ℕ) (r : Record) → slice_get own n ≡ Some r → IsUniting log own now numbers n → IsPlaced numbers now new r k → next ≡ numbers ++ k ∷ []
    → IsUniting log own new next (n + 1)
uniting_more log own now new numbers next n k r at h (inl (same, here)) is = subst (λ ns. IsUniting log own new ns (n + 1)) (sym is) (subst (λ l. IsUniting log own l (numbers ++ k ∷ []) (n + 1)) (sym same) record {
  grown = h.grown;
  size = length-append numbers (k ∷ []) ∙ ap (λ m. m + 1) h.size;
  boxes = boxes_more own now now numbers n k r h.size at here h.boxes;
  steps = h.steps;
})
uniting_more log own now new numbers next n k r at h (inr (k_is, (e, new_is, by))) is = subst (λ ns. IsUniting log own new ns (n + 1)) (sym is) (subst (λ l. IsUniting log own l (numbers ++ k ∷ []) (n + 1)) (sym new_is) record {
  grown = (
    h.grown.0 ++ e ∷ [],
    ap (λ l. l ++ e ∷ []) h.grown.1 ∙ append_assoc log h.grown.0 (e ∷ []),
    All-push (λ x. (s : Record) × Contains own s × IsRecited s x) h.grown.0 e h.grown.2 (r, contains_at own n r at, recited numbers (length now) r e by),
  );
  size = length-append numbers (k ∷ []) ∙ ap (λ m. m + 1) h.size;
  boxes = boxes_more own now (now ++ e ∷ []) numbers n k r h.size at
      (subst (HasBoxAt (now ++ e ∷ []) r) (sym k_is) (e, get_last now e, recited_box numbers (length now) r e by))
      (λ i s l at'. box_stays now (e ∷ []) s (slice_index numbers i) (h.boxes i s l at'));
  steps = λ yard t all more.
      let (s, at', step) = more n (slice_get_within own n r at) in
      let s_is : s ≡ r = same_Some s r (sym at' ∙ at) in
      steps_more yard t now e (h.steps yard t all more)
      (step_recited yard t own now numbers n r e h.boxes by (subst (IsStep (choices yard) t (take n own)) s_is step));
})
  where
    contains_at : (xs : List Record) (i : ℕ) (x : Record) → slice_get xs i ≡ Some x → Contains xs x
    contains_at xs i x e = (i, slice_get_within xs i x e, get_or_from_slice_get xs i x x e)

-- the copy of a branch
pub branch_recited : (numbers listed : List ℕ) (old new : List Record) (entry : Record) (b lo hi : ℕ) (side side' : List Literal) (cites cites' : List ℕ)
    → entry ≡ Branch b lo hi side cites → cites' ≡ cites → side' ≡ side → listed ≡ map (slice_index numbers) cites' → All (λ k. k < length old) listed
    → (list : List ℕ) × (new ≡ old ++ Branch b lo hi side' list ∷ []) × ((x : ℕ) → Contains list x ↔ Contains listed x)
    → (e : Record) × (new ≡ old ++ e ∷ []) × IsRecitedBy numbers (length old) entry e
branch_recited numbers listed old new entry b lo hi side side' cites cites' is same side_is listed_is low (list, new_is, both) = (
  Branch b lo hi side' list,
  new_is,
  subst (λ x. IsRecitedBy numbers (length old) x (Branch b lo hi side' list)) (sym is) (
    list,
    ap (λ s. Branch b lo hi s list) side_is,
    All-weaker (Contains list) (λ j. j < length old) (λ j c. All-contains (λ j. j < length old) listed j low ((both j).0 c)) list (All-contains_itself list),
    λ k c. (both (slice_index numbers k)).1 (subst (λ l. Contains l (slice_index numbers k)) (sym (listed_is ∙ ap (map (slice_index numbers)) same)) (mapped (slice_index numbers) cites k c)),
  ),
)
  where
    mapped : (f : ℕ → ℕ) (xs : List ℕ) (x : ℕ) → Contains xs x → Contains (map f xs) (f x)
    mapped f xs x (j, l, e) = (j, (let m = length-map xs f in omega arith), mapped_at f xs j x ∙ ap f e)
      where
        mapped_at : (f : ℕ → ℕ) (xs : List ℕ) (j x : ℕ) → get_or (map f xs) j (f x) ≡ f (get_or xs j x)
        mapped_at f [] zero x = refl
        mapped_at f [] (suc j) x = refl
        mapped_at f (y ∷ xs) zero x = refl
        mapped_at f (y ∷ xs) (suc j) x = mapped_at f xs j x

-- each listed number is one of the log
pub listed_low : (numbers listed cites : List ℕ) (n : ℕ) → listed ≡ map (slice_index numbers) cites → All (λ k. k < length numbers) cites → ((k : ℕ) → k < length numbers → slice_index numbers k < n) → All (λ k. k < n) listed
listed_low numbers listed cites n is few low = subst (All (λ k. k < n)) (sym is) (go cites few)
  where
    go : (ks : List ℕ) → All (λ k. k < length numbers) ks → All (λ k. k < n) (map (slice_index numbers) ks)
    go ks all = All-map (λ k. k < n) (slice_index numbers) ks (All-weaker (λ k. k < length numbers) (λ k. slice_index numbers k < n) low ks all)
