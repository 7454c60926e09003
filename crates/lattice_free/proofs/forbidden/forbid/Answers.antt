use Rattle.std.proofs.Common.{rules}
use Rattle.std.proofs.lemmas.List.Sorted.{IsNonDecreasingBy-from_sort_by_key}
use Rattle.lattice_free.specs.declared.forbidden.Forbidden.{Forbidden}
use Rattle.lattice_free.proofs.ForbidLaws.{forbidden_permuted}
use Rattle.lattice_free.proofs.forbidden.forbid.Goals as goal

pub returns-clause-forbidden : goal.returns-clause-forbidden
returns-clause-forbidden c = forbidden_permuted c.args.pitch c.args.row c.args.columns c.args.fixed.now c.gather.new.forbidden.items c.sort_unstable_by_key.new.self.items c.sort_unstable_by_key.ensures.permutation c.in_ok-gather.ensures

pub returns-clause-ascending : goal.returns-clause-ascending
returns-clause-ascending c = IsNonDecreasingBy-from_sort_by_key (λ (s : Forbidden). s.from) _ c.sort_unstable_by_key.ensures.sorted (λ a r q k. search rules)
