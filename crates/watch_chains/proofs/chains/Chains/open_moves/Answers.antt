use Rattle.std.proofs.Common.{◌≡◌, length, arith, ap, reverse}
use Rattle.std.proofs.lemmas.List.{length-reverse}
use Rattle.watch_chains.specs.Nodes.{past_of}
use Rattle.watch_chains.proofs.SoundLaws.{length-past}
use Rattle.watch_chains.proofs.chains.Chains.open_moves.Goals as goal

pub returns : goal.returns
returns c =
    let size : length (past_of c.self.inside.chains c.self.inside.nodes.items (reverse c.self.inside.moves.items)) ≡ length c.args.self.now.past = ap (λ v. length v.past) c.self.view_is in
    let moves = length-past c.self.inside.chains c.self.inside.nodes.items (reverse c.self.inside.moves.items) in
    let same = length-reverse c.self.inside.moves.items in
    let len = c.self.inside.moves.ok.0 in
    let is = c.len.ensures in
    omega arith
