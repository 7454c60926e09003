use Rattle.std.proofs.Common.{◌≡◌, ◌+◌, ◌<◌, ◌≤◌, ap, subst, sym, ◌∙◌, arith}
use Rattle.plan_rule.specs.declared.literal.Literal.{Literal}
use Rattle.plan_rule.specs.Boxes.{AreLiterals}
use Rattle.bound_tests.proofs.BoxLaws.{ComeBefore, before_more, literals_more}
use Rattle.bound_tests.proofs.boxes.box_of.Goals as goal
use Rattle.bound_tests.proofs.boxes.box_of.Goals.{then-next-from+then-l-lt4294967295+in_ok-push, else-next-from}

pub loop-l-preserved : goal.loop-l-preserved
loop-l-preserved c = elim c.if-next-from.branch [
  | then-next-from+then-l-lt4294967295+in_ok-push w ↦
      let pushed = ap (λ v. v.items) w.list-is ∙ w.in_ok-push.ensures.items in
      let block = ap (λ (l : Literal). l.block) w.exact.ensures in
      let low = ap (λ (l : Literal). l.lo) w.exact.ensures in
      let high = ap (λ (l : Literal). l.hi) w.exact.ensures in
      let some : w.exact.result.lo < w.exact.result.hi = omega arith in
      let after : c.loop-l.next ≤ w.exact.result.block = (let t = w.if-next-from.true in let f = c.from.ensures in omega arith) in
      let next : w.exact.result.block + 1 ≡ c.if-next-from.next = (let t = w.next-is in let f = w.from-next.ensures in omega arith) in
      record {
        literals = literals_more c.loop-l.list.items c.if-next-from.list.items w.exact.result c.loop-l.next c.loop-l.invariant.literals c.loop-l.invariant.before after some pushed;
        before = subst (λ n. ComeBefore n c.if-next-from.list.items) next
            (before_more c.loop-l.list.items c.if-next-from.list.items w.exact.result c.loop-l.next c.loop-l.invariant.before after pushed);
      }
  | else-next-from w ↦ record {
    literals = subst (λ v. AreLiterals v.items) (sym w.list-is) c.loop-l.invariant.literals;
    before = subst (λ n. ComeBefore n c.if-next-from.list.items) (sym w.next-is) (subst (λ v. ComeBefore c.loop-l.next v.items) (sym w.list-is) c.loop-l.invariant.before);
  }
]
