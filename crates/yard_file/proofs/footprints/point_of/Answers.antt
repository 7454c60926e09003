use Rattle.std.proofs.Common.{sym, rules}
use Rattle.yard_file.proofs.FootprintLaws.{no_point}
use Rattle.yard_file.proofs.footprints.point_of.Goals as goal

pub returns-then-len-ne2 : goal.returns-then-len-ne2
returns-then-len-ne2 c =
    let none = no_point c.in_ok-pair.pair.now.items (search rules) in
    rw (← c.in_ok-pair.ensures) (sym none)
