use Rattle.std.proofs.Common.{◌≡◌, ◌-◌, length, take, drop, ◌∙◌, arith}
use Rattle.nogood_store.proofs.HistoryLaws.{cut_from}
use Rattle.nogood_store.proofs.StepLaws.{chains_below}
use Rattle.nogood_store.proofs.EnterLaws.{entered_now, left_now, steps_spare, stepped}
use Rattle.nogood_store.proofs.trail.enter.Goals as goal

pub gather-requires-clause-stand : goal.gather-requires-clause-stand
gather-requires-clause-stand c =
    entered_now c.args.list.now c.args.codes.now c.args.trail.now.marks c.args.trail.now.steps.items c.args.chains.now c.requires.entered

pub gather-requires-clause-room : goal.gather-requires-clause-room
gather-requires-clause-room c =
    let left = left_now c.args.list.now c.args.codes.now c.args.trail.now.marks c.args.trail.now.steps.items c.args.chains.now c.requires.entered in
    let size = c.requires.entered.size in
    let room = c.requires.room in
    omega arith

pub advance-requires-clause-spare : goal.advance-requires-clause-spare
advance-requires-clause-spare c =
    let old = c.args.trail.now in
    let (steps, is, all) = c.gather.ensures.steps in
    let cut : take (length c.deref.result.now - c.len-mark.result) (drop c.len-mark.result c.deref.result.now) ≡ steps =
    cut_from old.steps.items steps c.deref.result.now c.len-mark.result (c.deref.ensures.value ∙ is) (c.len-mark.ensures ∙ old.steps.ok.0) in
    rw cut (steps_spare c.args.list.now c.args.codes.now old.marks c.args.code old.steps.items steps c.args.chains.now c.requires.entered c.requires.few all)

pub advance-requires-clause-chains_in : goal.advance-requires-clause-chains_in
advance-requires-clause-chains_in c =
    let old = c.args.trail.now in
    let (steps, is, all) = c.gather.ensures.steps in
    let cut : take (length c.deref.result.now - c.len-mark.result) (drop c.len-mark.result c.deref.result.now) ≡ steps =
    cut_from old.steps.items steps c.deref.result.now c.len-mark.result (c.deref.ensures.value ∙ is) (c.len-mark.ensures ∙ old.steps.ok.0) in
    let stand = entered_now c.args.list.now c.args.codes.now old.marks old.steps.items c.args.chains.now c.requires.entered in
    rw cut (chains_below c.args.list.now c.args.codes.now c.args.code (length c.args.chains.now.lists) steps stand.chains c.requires.entered.rising all.each)

pub returns-clause-entered : goal.returns-clause-entered
returns-clause-entered c =
    let old = c.args.trail.now in
    let (steps, is, all) = c.gather.ensures.steps in
    let cut : take (length c.deref.result.now - c.len-mark.result) (drop c.len-mark.result c.deref.result.now) ≡ steps =
    cut_from old.steps.items steps c.deref.result.now c.len-mark.result (c.deref.ensures.value ∙ is) (c.len-mark.ensures ∙ old.steps.ok.0) in
    rw is (stepped c.args.list.now c.args.codes.now old.marks c.args.code old.steps.items steps c.args.chains.now c.advance.new.chains c.open_moves.result
    c.requires.entered c.requires.few all (rw cut at c.advance.ensures.lists) (rw cut at c.advance.ensures.past) c.advance.ensures.entries
    (rw cut at c.advance.ensures.spare_moves) c.open_moves.ensures)
