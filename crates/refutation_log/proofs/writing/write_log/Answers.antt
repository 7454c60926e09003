use Rattle.std.proofs.Common.{refl}
use Rattle.std.proofs.lemmas.List.{take_all}
use Rattle.refutation_log.specs.Spelling.{log_text}
use Rattle.refutation_log.proofs.writing.write_log.Goals as goal

pub returns : goal.returns
unfolding log_text
returns c =
    let all = take_all c.loop-entry.entry-index c.records-entry-items.result.now c.loop-entry-test.false in
    rw (c.into_bytes.ensures.value, c.in_ok-push_str-2.ensures.bytes, c.loop-entry.invariant, all, c.records-entry-items.ensures.value) refl
