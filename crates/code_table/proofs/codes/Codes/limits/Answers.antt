use Rattle.code_table.proofs.TableLaws.{all_few}
use Rattle.code_table.proofs.codes.Codes.limits.Goals as goal

pub returns-clause-few : goal.returns-clause-few
returns-clause-few c = λ b. rw (← c.self.view_is) (all_few _ _ _ b c.self.invariant)
