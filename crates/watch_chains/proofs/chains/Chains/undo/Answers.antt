use Rattle.std.proofs.Common.{◌≡◌, ap, ◌∙◌, subst, ◌∷◌, reverse}
use Rattle.watch_chains.specs.Nodes.{IsSound}
use Rattle.watch_chains.proofs.SoundLaws.{reverse_push, loose_back}
use Rattle.watch_chains.proofs.chains.Chains.undo.Goals as goal

pub shift-requires-clause-loose : goal.shift-requires-clause-loose
shift-requires-clause-loose c =
    let last : reverse c.self.inside.moves.items ≡ c.in-Some.back ∷ reverse c.pop.new.self.items =
    ap reverse c.in-Some.ensures.items ∙ reverse_push c.pop.new.self.items c.in-Some.back in
    rw c.as_mut_slice.ensures.value
    (loose_back c.self.inside.chains c.self.inside.nodes.items c.in-Some.back (reverse c.pop.new.self.items)
    (subst (IsSound c.self.inside.chains c.self.inside.nodes.items) last c.self.invariant.0))
