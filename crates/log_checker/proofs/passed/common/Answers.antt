use Rattle.std.proofs.Common.{◌≡◌, ◌+◌, length, ap, sym, ◌∙◌, subst, arith}
use Rattle.std.specs.Prelude.{All, Contains}
use Rattle.std.proofs.lemmas.List.Elements.{All-push}
use Rattle.log_checker.proofs.passed.common.Goals as goal
use Rattle.log_checker.proofs.passed.common.Goals.{then-has, else-has}

pub loop-f-preserved : goal.loop-f-preserved
loop-f-preserved c =
    let few = c.loop-f.invariant.few in elim c.if-has.branch [
      | then-has w ↦ record {
        few = let n : length c.if-has.both.items ≡ length c.loop-f.both.items + 1 = ap (λ v. length v.items) w.both-is ∙ w.push.ensures.len in omega arith;
        among = subst (All (Contains c.args.others.now)) (sym (ap (λ v. v.items) w.both-is ∙ w.push.ensures.items))
            (All-push (Contains c.args.others.now) c.loop-f.both.items _ c.loop-f.invariant.among (c.has.ensures w.if-has.true));
      }
      | else-has w ↦ record {
        few = let n : length c.if-has.both.items ≡ length c.loop-f.both.items = ap (λ v. length v.items) w.both-is in omega arith;
        among = subst (All (Contains c.args.others.now)) (sym (ap (λ v. v.items) w.both-is)) c.loop-f.invariant.among;
      }
    ]
