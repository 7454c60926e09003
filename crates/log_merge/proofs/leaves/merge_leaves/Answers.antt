use Rattle.std.proofs.Common.{rules, subst, sym}
use Rattle.std.proofs.lemmas.List.Sorted.{IsNonDecreasingBy-from_sort_by_key}
use Rattle.plan_rule.specs.Yards.{choices}
use Rattle.log_merge.specs.declared.merging.Leaf.{Leaf}
use Rattle.log_merge.specs.Merging.{IsMergeable}
use Rattle.log_merge.specs.Tiles.{root}
use Rattle.log_merge.proofs.LeafLaws.{ordered_mergeable}
use Rattle.log_merge.proofs.leaves.merge_leaves.Goals as goal

pub merge_all-requires-clause-mergeable : goal.merge_all-requires-clause-mergeable
merge_all-requires-clause-mergeable c =
    subst (λ ls. IsMergeable (choices c.args.codes.now) root ls 0 c.args.log.now) (sym c.as_slice.ensures.value)
    (ordered_mergeable (choices c.args.codes.now) c.args.log.now c.args.leaves.items _ c.in_default.ensures c.requires c.sort_unstable_by_key.ensures.permutation
    (IsNonDecreasingBy-from_sort_by_key (λ (l : Leaf). l.job.front) _ c.sort_unstable_by_key.ensures.sorted (λ a r q k. search rules)))
