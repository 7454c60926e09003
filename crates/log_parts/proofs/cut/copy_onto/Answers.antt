use Rattle.std.proofs.Common.{ap, subst, sym, refl, ◌∙◌, length, arith}
use Rattle.std.specs.List.{All, Contains}
use Rattle.std.specs.Prelude.{slice_index}
use Rattle.refutation_log.specs.Logs.{cites_of}
use Rattle.log_parts.proofs.PartLaws.{branch_copied, places_early}
use Rattle.log_parts.proofs.cut.copy_onto.Goals as goal

pub places_of-requires-clause-found : goal.places_of-requires-clause-found
places_of-requires-clause-found c =
    subst (All (Contains c.args.picked.now)) (ap cites_of c.in-Branch.is ∙ sym c.list.ensures.value) c.requires.found

pub write_branch-requires : goal.write_branch-requires
write_branch-requires c =
    places_early c.args.picked.now c.list.result.now c.in_ok-places-in-Branch.places.items (length c.args.part.now)
    (λ j l held. c.requires.earlier j l (subst (λ xs. Contains xs (slice_index c.args.picked.now j)) (sym (ap cites_of c.in-Branch.is ∙ sym c.list.ensures.value)) held))
    c.in_ok-places-in-Branch.ensures

pub returns-in_ok-write_branch-in-Branch : goal.returns-in_ok-write_branch-in-Branch
returns-in_ok-write_branch-in-Branch c =
    let w = c.in_ok-write_branch-in-Branch.ensures in
    branch_copied c.args.picked.now c.list.result.now c.in_ok-places-in-Branch.places.items c.args.part.now c.write_branch.new.log c.args.entry.now _ _ _ _ _ _ c.in-Branch.is
    c.list.ensures.value c.in_ok-copy-in-Branch.ensures c.in_ok-places-in-Branch.ensures
    (places_early c.args.picked.now c.list.result.now c.in_ok-places-in-Branch.places.items (length c.args.part.now)
    (λ j l held. c.requires.earlier j l (subst (λ xs. Contains xs (slice_index c.args.picked.now j)) (sym (ap cites_of c.in-Branch.is ∙ sym c.list.ensures.value)) held))
    c.in_ok-places-in-Branch.ensures) (w.0, w.2, w.3)
