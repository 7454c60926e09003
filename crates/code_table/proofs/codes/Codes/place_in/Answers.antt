use Rattle.std.proofs.Common.{refl}
use Rattle.code_table.proofs.StretchLaws.{stretch_limits}
use Rattle.code_table.proofs.codes.Codes.place_in.Goals as goal

pub nth-requires-clause-y : goal.nth-requires-clause-y
nth-requires-clause-y c =
    (stretch_limits c.args.self.now c.args.block c.args.code c.args.stretch c.limits.ensures.limits c.requires.block c.requires.stretch
    c.requires.from c.requires.to).y

pub nth-requires-clause-x : goal.nth-requires-clause-x
nth-requires-clause-x c =
    (stretch_limits c.args.self.now c.args.block c.args.code c.args.stretch c.limits.ensures.limits c.requires.block c.requires.stretch
    c.requires.from c.requires.to).x

pub returns : goal.returns
returns c =
    let limits = stretch_limits c.args.self.now c.args.block c.args.code c.args.stretch c.limits.ensures.limits c.requires.block
    c.requires.stretch c.requires.from c.requires.to in
    rw c.nth.ensures
    (record {
      value = c.requires.stretch.each c.args.code c.requires.from c.requires.to;
      place = refl;
      turn = limits.turn;
      x = limits.x;
      y = limits.y;
    })
