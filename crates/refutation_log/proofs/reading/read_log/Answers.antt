use Rattle.std.proofs.Common.{ap, subst, ◌∙◌}
use Rattle.refutation_log.specs.Reading.{Gives, log_of}
use Rattle.refutation_log.proofs.WholeLaws.{is_found, log-again}
use Rattle.refutation_log.proofs.reading.read_log.Goals as goal

pub returns-clause-found : goal.returns-clause-found
returns-clause-found c = is_found c.args.bytes.now c.log_of.result c.log_of.ensures

pub returns-clause-only : goal.returns-clause-only
returns-clause-only c = λ log have e. subst (λ r. Gives (λ x. x) c.log_of.result r) (ap log_of e ∙ log-again log have) c.log_of.ensures
