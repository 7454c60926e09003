use Rattle.tardiness_bounds.proofs.clear.is_clear.Goals as goal

pub returns-then-meets_some-clause-no : goal.returns-then-meets_some-clause-no
returns-then-meets_some-clause-no c = λ t clear. let (i, m) = c.meets_some.ensures.yes c.if-meets_some.true in clear.unmet i m

pub returns-clause-yes : goal.returns-clause-yes
returns-clause-yes c = λ t. record {
  apart = c.clashes_with_none.ensures.yes c.if-not-clashes_with_none.false;
  unmet = c.meets_some.ensures.no c.if-meets_some.false;
}
