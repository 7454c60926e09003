use Rattle.plan_rule.proofs.CountLaws.{block_exists, code_exists}
use Rattle.tardiness_bounds.proofs.frontier.standing_at.Goals as goal

pub place-place-requires-clause-block : goal.place-place-requires-clause-block
place-place-requires-clause-block c =
    block_exists c.args.tables.now.yard c.args.block c.requires.0

pub place-place-requires-clause-code : goal.place-place-requires-clause-code
place-place-requires-clause-code c =
    code_exists c.args.tables.now.yard c.args.block c.args.code c.requires

pub returns-clause-standing : goal.returns-clause-standing
returns-clause-standing c = record {
  block = block_exists c.args.tables.now.yard c.args.block c.requires.0;
  code = c.place-place.ensures.value;
  turn = c.place-place.ensures.turn;
  x = c.place-place.ensures.x;
  y = c.place-place.ensures.y;
}
