use Rattle.std.proofs.Common.{true, false, refl, sym, ◌∙◌, arith, below_more, get_or, length-set}
use Rattle.std.proofs.lemmas.Option.{slice_get-get_or}
use Rattle.std.proofs.lemmas.List.{get_or-replicate}
use Rattle.plate_calendar.specs.Faults.{IsGoodEntry}
use Rattle.plate_calendar.proofs.FaultLaws.{marks_more, good_entry, good_all, open_days-marks}
use Rattle.plate_calendar.proofs.calendar.Calendar.new.Goals as goal

pub loop-i-init : goal.loop-i-init
loop-i-init c = (refl, (λ k l. absurd (omega arith)), λ d l. get_or-replicate 400 d false false l)

pub returns-then-day-days-clause-fault : goal.returns-then-day-days-clause-fault
returns-then-day-days-clause-fault c =
    (c.loop-i.invariant.1, (get_or c.args.closed.now c.loop-i.i 0, slice_get-get_or c.args.closed.now c.loop-i.i 0 (omega arith), omega arith))

pub returns-then-is_closed-day-clause-fault : goal.returns-then-is_closed-day-clause-fault
returns-then-is_closed-day-clause-fault c = (
  c.loop-i.invariant.1,
  (
    get_or c.args.closed.now c.loop-i.i 0,
    slice_get-get_or c.args.closed.now c.loop-i.i 0 (omega arith),
    sym (c.loop-i.invariant.2 (get_or c.args.closed.now c.loop-i.i 0) (omega arith)) ∙ c.if-is_closed-day.true,
  ),
)

pub loop-i-preserved : goal.loop-i-preserved
loop-i-preserved c = (
  length-set c.loop-i.is_closed (get_or c.args.closed.now c.loop-i.i 0) true ∙ c.loop-i.invariant.0,
  below_more (IsGoodEntry c.args.days c.args.closed.now) c.loop-i.i c.loop-i.invariant.1
      (good_entry c.args.days c.args.closed.now c.loop-i.i (omega arith) (omega arith)
      (sym (c.loop-i.invariant.2 (get_or c.args.closed.now c.loop-i.i 0) (omega arith)) ∙ c.if-is_closed-day.false)),
  marks_more c.loop-i.is_closed c.args.closed.now c.loop-i.i (omega arith) (omega arith) c.loop-i.invariant.2,
)

pub returns-clause-value : goal.returns-clause-value
returns-clause-value c =
    c.calendar_of.ensures
    ∙ open_days-marks c.args.days c.loop-i.i c.loop-i.is_closed c.args.closed.now (omega arith) (omega arith) c.loop-i.invariant.2

pub returns-clause-good : goal.returns-clause-good
returns-clause-good c = good_all c.args.days c.args.closed.now c.loop-i.i (omega arith) c.loop-i.invariant.1
