-- Leaves that are put in order.
use Rattle.std.proofs.Common.{◌≡◌, ℕ, ◌+◌, ◌^◌, ◌<◌, List, [], ◌∷◌, ◌++◌, length, map, get_or, Option, Some, refl, sym, ap, ◌∙◌, subst, inr, arith, length-append}
use Rattle.std.specs.Prelude.{IsPermutation, slice_get}
use Rattle.std.specs.List.{sum_by}
use Rattle.std.specs.List.Sorted.{IsNonDecreasingBy}
use Rattle.std.proofs.lemmas.List.Elements.{All-nil}
use Rattle.std.proofs.lemmas.List.Sorted.{sum_by-IsPermutation}
use Rattle.common_lists.proofs.ListLaws.{all_permuted, map_length}
use Rattle.plan_rule.specs.declared.job.Job.{Job}
use Rattle.plan_rule.specs.declared.literal.Literal.{Literal}
use Rattle.plan_rule.specs.Choices.{Choices, blocks, count}
use Rattle.plan_rule.specs.Fronts.{HasCodes}
use Rattle.plan_rule.specs.Jobs.{IsJob}
use Rattle.plan_rule.specs.Plans.{IsAnswer}
use Rattle.plan_rule.proofs.EmptyLaws.{empty_box}
use Rattle.refutation_log.specs.declared.record.Record.{Record}
use Rattle.refutation_log.specs.declared.record.Record.TheVariants.{Branch}
use Rattle.refutation_log.specs.Logs.{AreSteps}
use Rattle.refutation_log.specs.Steps.{IsStep, IsAccepted}
use Rattle.std.proofs.lemmas.List.{get_or-map}
use Rattle.std.proofs.lemmas.List.Sums.{sum_by-cons}
use Rattle.refutation_log.proofs.AppendedLaws.{get_after, pushed_steps}
use Rattle.log_merge.specs.declared.merging.Leaf.{Leaf}
use Rattle.log_merge.specs.Leaves.{AreLeavesOf, job_of}
use Rattle.log_merge.specs.Merging.{IsMergeable, IsRootOrHalf, RefutesJob}
use Rattle.log_merge.specs.Tiles.{has, root, times}
use Rattle.log_merge.proofs.Chains.{sorted_chain}
use Rattle.refutation_log.proofs.EmptyLaws.{branch_empty}
use Rattle.log_merge.proofs.ClosingLaws.{last_refutes}

map_rises : (leaves : List Leaf) → IsNonDecreasingBy (λ (l : Leaf). l.job.front) leaves → IsNonDecreasingBy (λ (j : Job). j.front) (map job_of leaves)
map_rises leaves up = λ i j d l m.
    let n : length (map job_of leaves) ≡ length leaves = map_length job_of leaves in
    let in_j : j < length leaves = omega arith in
    let e = some_leaf leaves j in_j in
    let a : (get_or (map job_of leaves) i d).front ≡ (get_or leaves i e).job.front = ap (λ (j : Job). j.front) (get_or-map job_of leaves i e d (omega arith)) in
    let b : (get_or (map job_of leaves) j d).front ≡ (get_or leaves j e).job.front = ap (λ (j : Job). j.front) (get_or-map job_of leaves j e d in_j) in
    let h = up i j e l in_j in omega arith
  where
    some_leaf : (l : List Leaf) (k : ℕ) → k < length l → Leaf
    some_leaf [] k l = absurd (omega arith)
    some_leaf (x ∷ xs) k l = x

times_moved : (x : ℕ) (xs ys : List Leaf) → IsPermutation xs ys → times x (map job_of ys) ≡ times x (map job_of xs)
times_moved x xs ys moved = over ys ∙ sum_by-IsPermutation (λ (l : Leaf). has x l.job) xs ys moved ∙ sym (over xs)
  where
    over : (ls : List Leaf) → times x (map job_of ls) ≡ sum_by (λ (l : Leaf). has x l.job) ls
    over [] = refl
    over (l ∷ ls) = let a = sum_by-cons (has x) l.job (map job_of ls) in let b = sum_by-cons (λ (l : Leaf). has x l.job) l ls in let i = over ls in omega arith

-- leaves in order can be merged
pub ordered_mergeable : (c : Choices) (log : List Record) (leaves ordered : List Leaf) → HasCodes c → AreLeavesOf c log leaves → IsPermutation leaves ordered
    → IsNonDecreasingBy (λ (l : Leaf). l.job.front) ordered → IsMergeable c root ordered 0 log
ordered_mergeable c log leaves ordered some_codes h moved up = record {
  job_is = record { length = omega arith; bits = omega arith; low = refl };
  chain = sorted_chain 0 (2 ^ 32) (map job_of ordered) (map_rises ordered up) (omega arith) (λ x. times_moved x leaves ordered moved ∙ h.once x);
  deep = λ d. omega arith;
  jobs = all_permuted (λ (l : Leaf). IsJob l.job × IsRootOrHalf c l.job) leaves ordered moved h.jobs;
  shown = all_permuted (λ (l : Leaf). RefutesJob c log l.record l.job) leaves ordered moved (h.shown some_codes);
}

empty_step : (c : Choices) (t : Option (List ℕ)) (log : List Record) (b : ℕ) → b < blocks c → count c b ≡ 0 → IsStep c t log (Branch b 0 0 [] [])
empty_step c t log b l none = record {
  side_is = empty_box c;
  block = l;
  free = All-nil (λ l. l.block ≡ b → ⊥);
  range = inr (refl, refl, none);
  earlier_only = All-nil (λ k. k < length log);
  covered = λ code a m. absurd (omega arith);
}

-- a log is closed by a branch over no code
pub emptied_accepted : (c : Choices) (t : Option (List ℕ)) (log log' : List Record) (b : ℕ) (side : List Literal) (cites : List ℕ) → b < blocks c → count c b ≡ 0 → side ≡ [] → cites ≡ []
    → log' ≡ log ++ Branch b 0 0 side cites ∷ [] → IsAnswer c t → AreSteps c t log → IsAccepted c t log'
emptied_accepted c t log log' b side cites l none no_side no_cites grown answer steps =
    let is : Branch b 0 0 side cites ≡ Branch b 0 0 [] [] = λ i. Branch b 0 0 (no_side i) (no_cites i) in
    let step = subst (IsStep c t log) (sym is) (empty_step c t log b l none) in
    let at : slice_get (log ++ Branch b 0 0 side cites ∷ []) (length log) ≡ Some (Branch b 0 0 side cites) = subst (λ n. slice_get (log ++ Branch b 0 0 side cites ∷ []) n ≡ Some (Branch b 0 0 side cites)) (let e : length log + 0 ≡ length log = omega arith in e) (get_after log (Branch b 0 0 side cites ∷ []) 0 (Branch b 0 0 side cites) refl) in
    let long = length-append log (Branch b 0 0 side cites ∷ []) in
    subst (IsAccepted c t) (sym grown) (last_refutes c t (log ++ Branch b 0 0 side cites ∷ []) (length log) (Branch b 0 0 side cites) (omega arith) at (branch_empty c b 0 0 side cites (no_side, refl, sym none)) answer (pushed_steps c t log (Branch b 0 0 side cites) steps step))
