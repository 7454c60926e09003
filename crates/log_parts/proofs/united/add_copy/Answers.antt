use Rattle.std.proofs.Common.{◌<◌, ap, subst, sym, ◌∙◌, length}
use Rattle.std.specs.List.{All}
use Rattle.refutation_log.specs.Logs.{cites_of}
use Rattle.log_parts.proofs.UniteLaws.{branch_recited, listed_low}
use Rattle.log_parts.proofs.united.add_copy.Goals as goal

pub write_branch-requires : goal.write_branch-requires
write_branch-requires c =
    listed_low c.args.numbers.now c.in_ok-list-in-Branch.list.items c.list.result.now (length c.args.log.now) c.in_ok-list-in-Branch.ensures
    (subst (All (λ k. k < length c.args.numbers.now)) (ap cites_of c.in-Branch.is ∙ sym c.list.ensures.value) c.requires.earlier) c.requires.within

pub returns-in_ok-number-in-Branch : goal.returns-in_ok-number-in-Branch
returns-in_ok-number-in-Branch c =
    let w = c.in_ok-number-in-Branch.ensures in (
      w.1,
      branch_recited c.args.numbers.now c.in_ok-list-in-Branch.list.items c.args.log.now c.write_branch.new.log c.args.entry.now _ _ _ _ _ _ _ c.in-Branch.is
          c.list.ensures.value c.in_ok-copy-in-Branch.ensures c.in_ok-list-in-Branch.ensures
          (listed_low c.args.numbers.now c.in_ok-list-in-Branch.list.items c.list.result.now (length c.args.log.now) c.in_ok-list-in-Branch.ensures
          (subst (All (λ k. k < length c.args.numbers.now)) (ap cites_of c.in-Branch.is ∙ sym c.list.ensures.value) c.requires.earlier) c.requires.within)
          (w.0, w.2, w.3),
    )
