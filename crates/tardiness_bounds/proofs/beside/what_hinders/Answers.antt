use Rattle.tardiness_bounds.proofs.beside.what_hinders.Goals as goal

pub returns : goal.returns
returns c = record {
  apart = c.in_default.ensures;
  unmet = c.meets_some.ensures.no c.if-meets_some.false;
}
