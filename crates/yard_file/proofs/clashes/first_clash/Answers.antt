use Rattle.std.proofs.Common.{subst}
use Rattle.std.specs.List.{All}
use Rattle.std.proofs.lemmas.List.{take_all}
use Rattle.shape_exact.specs.Yards.{StandApart}
use Rattle.yard_file.proofs.clashes.first_clash.Goals as goal

pub returns-clause-apart : goal.returns-clause-apart
returns-clause-apart c = λ none.
    let whole = take_all c.loop-j.j c.args.pieces.now c.loop-j-test.false in
    subst (λ fs. All (λ f. StandApart f c.args.piece.now) fs) whole c.loop-j.invariant.0
