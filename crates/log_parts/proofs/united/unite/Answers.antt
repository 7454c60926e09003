use Rattle.std.proofs.Common.{ℕ, ◌<◌, List, ap, subst, sym, length, arith}
use Rattle.std.specs.Prelude.{slice_index}
use Rattle.log_parts.specs.United.{IsPlaced}
use Rattle.log_parts.proofs.PartLaws.{read_at}
use Rattle.log_parts.proofs.UniteLaws.{uniting_ends, uniting_more, uniting_within}
use Rattle.log_parts.proofs.united.unite.Goals as goal

pub place-requires-clause-within : goal.place-requires-clause-within
place-requires-clause-within c =
    subst (λ (ns : List ℕ). (k : ℕ) → k < length ns → slice_index ns k < length c.loop-entry.log) (sym c.as_slice.ensures.value)
    (λ k l. uniting_within c.args.log.now c.args.own.now c.loop-entry.log c.loop-entry.numbers.items c.loop-entry.entry-index k
    (let n = ap length c.records-entry-items.ensures.value in let t = c.loop-entry-test.true in omega arith) c.loop-entry.invariant l)

pub loop-entry-preserved : goal.loop-entry-preserved
loop-entry-preserved c =
    uniting_more c.args.log.now c.args.own.now c.loop-entry.log c.place.new.log c.loop-entry.numbers.items c.push.new.self.items c.loop-entry.entry-index c.in_ok-number.number c.entry-item.result
    (read_at c.records-entry-items.result.now c.args.own.now _ _ c.records-entry-items.ensures.value
    (let n = ap length c.records-entry-items.ensures.value in let t = c.loop-entry-test.true in omega arith) c.entry-item.is)
    c.loop-entry.invariant
    (subst (λ (ns : List ℕ). IsPlaced ns c.loop-entry.log c.place.new.log c.entry-item.result c.in_ok-number.number) c.as_slice.ensures.value c.in_ok-number.ensures)
    c.in_ok-push.ensures.items

pub returns : goal.returns
returns c =
    uniting_ends c.args.log.now c.args.own.now c.loop-entry.log c.loop-entry.numbers.items c.loop-entry.entry-index
    (let n = ap length c.records-entry-items.ensures.value in let t = c.loop-entry-test.false in let e = c.loop-entry.auto.entry-index-end in omega arith) c.loop-entry.invariant
