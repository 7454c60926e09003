use Rattle.code_table.proofs.ListedLaws.{listed_code}
use Rattle.code_table.proofs.codes.Codes.placements_have_codes.Goals as goal

pub returns : goal.returns
returns c = λ b p at is. listed_code c.args.self.now c.args.block b p c.limits.ensures.limits at is
