use Rattle.yard_file.proofs.PlannedLaws.{rules_planned}
use Rattle.yard_file.proofs.reader.read_yard.Goals as goal

pub returns-clause-planned : goal.returns-clause-planned
returns-clause-planned c = rules_planned _ _ c.table_yard.ensures
