use Rattle.plan_text.proofs.NameLaws.{name_is_text}
use Rattle.plan_text.proofs.names.text_of.Goals as goal

pub returns-in-Err : goal.returns-in-Err
returns-in-Err c = absurd (c.in-Err.ensures.cases.0 (name_is_text c.bytes.result.now c.bytes.ensures.name))
