use Rattle.std.proofs.Common.{◌^◌, ◌<◌, ◌≤◌, ◌∙◌, ap, arith, length, subst, sym}
use Rattle.refutation_log.specs.Logs.{CiteEarlier, appended}
use Rattle.branch_workers.proofs.SharingLaws.{shared_earlier, shared_proper, shared_storable}
use Rattle.branch_workers.proofs.sharing.import.Goals as goal

pub append-requires : goal.append-requires
append-requires c =
    let n = c.requires.seen.0 in
    let fits : c.args.capsule.now.bar < 2 ^ 64 = let e = c.bar-bar.ensures in let t = c.bar-bar.type_inv in omega arith in
    subst CiteEarlier (sym c.log.ensures.value) (shared_earlier c.args.codes.now n c.args.capsule.now c.requires.shareable fits c.requires.seen.1 c.requires.seen.2)

pub store_last-requires : goal.store_last-requires
store_last-requires c =
    let n = c.requires.seen.0 in
    let fits : c.args.capsule.now.bar < 2 ^ 64 = let e = c.bar-bar.ensures in let t = c.bar-bar.type_inv in omega arith in
    let whole = c.in_ok-first.ensures.ok ∙ ap (appended c.args.log.now) c.log.ensures.value in
    let some = subst (λ l. 1 ≤ length l) c.log.ensures.value c.log.ensures.small.some in
    shared_storable c.args.codes.now n c.args.capsule.now c.args.log.now c.append.new.self c.choices_are_known.ensures some c.requires.shareable fits c.requires.seen.1 c.requires.seen.2 whole

pub returns : goal.returns
returns c =
    let n = c.requires.seen.0 in
    let fits : c.args.capsule.now.bar < 2 ^ 64 = let e = c.bar-bar.ensures in let t = c.bar-bar.type_inv in omega arith in
    let whole = c.in_ok-first.ensures.ok ∙ ap (appended c.args.log.now) c.log.ensures.value in
    record {
      some = subst (λ l. 1 ≤ length l) c.log.ensures.value c.log.ensures.small.some;
      whole = whole;
      proper = shared_proper c.args.codes.now n c.args.capsule.now c.args.log.now c.append.new.self c.in_ok-first.first c.requires.shareable fits c.requires.seen.1 c.requires.seen.2 whole c.in_ok-first.ensures.number c.records_are_proper.ensures;
      prefix = c.store_last.ensures.prefix;
      kept = c.store_last.ensures.kept;
    }
