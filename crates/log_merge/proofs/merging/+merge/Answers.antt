use Rattle.std.proofs.Common.{rules, subst, length, ◌<◌, ◌^◌}
use Rattle.log_merge.proofs.MergeLaws.{at_leaf, longer, goes_upper, has_two, put_together, small_numbers}
use Rattle.log_merge.proofs.merging.+merge.Goals as goal

pub returns-then-leaves-at : goal.returns-then-leaves-at
returns-then-leaves-at t c = record { merged = at_leaf _ _ _ _ _ _ c.requires.mergeable c.if-leaves-at.true }

pub merge-requires-2 : goal.merge-requires-2
merge-requires-2 t c = (
  let s = longer _ _ _ _ _ _ c.requires.mergeable c.if-leaves-at.false in let e = c.in-Some.ensures.2 in search rules,
  (c.requires.codes, goes_upper _ _ _ _ _ _ _ _ _ _ _ c.requires.mergeable c.if-leaves-at.false c.in-Some.ensures.1 c.in-Some.ensures.2 c.in_ok-first.ensures.merged),
)

pub halved_record-requires-clause-two : goal.halved_record-requires-clause-two
halved_record-requires-clause-two t c = has_two _ _ _ _ _ _ c.requires.mergeable c.if-leaves-at.false

pub halved_record-requires-clause-numbers : goal.halved_record-requires-clause-numbers
halved_record-requires-clause-numbers t c = small_numbers _ _ _ _ _ _ _ _ _ _ _ c.in_ok-first.ensures.merged c.in_ok-second.ensures.merged (subst (λ l. length l < 10 ^ 18) c.records-few.ensures.value c.records-few.ensures.few)

pub returns : goal.returns
returns t c = record {
  merged = put_together _ _ _ _ _ _ _ _ _ _ _ _ _ _ _ _ _ c.requires.codes c.requires.mergeable c.if-leaves-at.false c.in-Some.ensures.1 c.in-Some.ensures.2
      c.in_ok-first.ensures.merged c.in_ok-second.ensures.merged c.in_ok-rec.ensures c.in_ok-record.ensures.number c.in_ok-record.ensures.ok;
}
