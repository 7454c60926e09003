use Rattle.std.proofs.Common.{◌<◌, ◌^◌}
use Rattle.std.proofs.lemmas.List.Filters.{dedup_is, All-dedup}
use Rattle.std.proofs.lemmas.List.Kept.{Contains-dedup_nat, Contains-from_dedup}
use Rattle.std.proofs.lemmas.List.Sorted.{Contains-permutation, IsPermutation-sym}
use Rattle.std.proofs.lemmas.Map.Keys.{IsStrictlyIncreasing-dedup}
use Rattle.common_lists.proofs.ListLaws.{all_permuted}
use Rattle.branch_kernel.proofs.OrderLaws.{cites_from}
use Rattle.branch_kernel.proofs.records.in_order.Goals as goal

pub returns-clause-cites : goal.returns-clause-cites
returns-clause-cites c =
    let is = dedup_is _ _ _ c.dedup.ensures.filtered in
    let moved = c.sort_unstable.ensures.permutation in
    rw is (cites_from _ (IsStrictlyIncreasing-dedup _ c.sort_unstable.ensures.sorted) (All-dedup _ (λ k. k < 10 ^ 18) _ (all_permuted (λ k. k < 10 ^ 18) _ _ moved c.requires.few)))

pub returns-clause-same : goal.returns-clause-same
returns-clause-same c = λ x.
    let is = dedup_is _ _ _ c.dedup.ensures.filtered in
    let moved = c.sort_unstable.ensures.permutation in (
      (λ h. Contains-permutation _ _ x (IsPermutation-sym _ _ moved) (Contains-from_dedup _ _ x (rw is at h))),
      (λ h. rw is (Contains-dedup_nat _ x (Contains-permutation _ _ x moved h))),
    )
