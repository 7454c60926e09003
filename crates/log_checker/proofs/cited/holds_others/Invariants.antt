use Rattle.std.proofs.Common.{◌≡◌, ℕ, ◌<◌, ◌≤◌, length, get_or}
use Rattle.plan_rule.specs.declared.literal.Literal.{Literal}
use Rattle.plan_rule.specs.Yards.{choices}
use Rattle.plan_rule.proofs.CoverLaws.{Passed}
use Rattle.log_checker.specs.Spans.{HoldsOne}
use Rattle.log_checker.proofs.cited.holds_others.Given as goal

abbrev pub invariant-loop-l : goal.invariant-loop-l
invariant-loop-l l = record {
  held : (k : ℕ) (d : Literal) → k < l.l-index → ((get_or l.l-items k d).block ≡ l.block → ⊥) → HoldsOne (choices l.codes) l.others (get_or l.l-items k d);
  within : l.at ≤ length l.others;
  passed : Passed l.l-items l.others l.l-index l.at;
}
