-- Laws that more than one crate cites.
use Rattle.std.proofs.Common.{[]}
use Rattle.std.proofs.lemmas.Option.{none-some}
use Rattle.std.proofs.lemmas.List.Elements.{All-nil}
use Rattle.plan_rule.specs.Choices.{Choices}
use Rattle.plan_rule.specs.Boxes.{IsBox, IsLiteral}

pub empty_box : (c : Choices) → IsBox c []
empty_box c = record { ascending = λ i j l m lt e f. absurd (none-some l e); each = All-nil (IsLiteral c) }
