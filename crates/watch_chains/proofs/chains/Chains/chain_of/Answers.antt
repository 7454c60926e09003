use Rattle.std.proofs.Common.{◌≡◌, ◌+◌, ◌-◌, ◌<◌, length, arith, ap, reverse}
use Rattle.watch_chains.proofs.SoundLaws.{rings_of, chain_alone}
use Rattle.watch_chains.proofs.chains.Chains.chain_of.Goals as goal

pub overflow_add-self-inside : goal.overflow_add-self-inside
overflow_add-self-inside c =
    let rings = rings_of c.self.inside.chains c.self.inside.nodes.items (reverse c.self.inside.moves.items) c.self.invariant.0 in
    let ein : c.self.inside.chains + c.args.entry < length c.self.inside.nodes.items =
    let entries : c.self.inside.nodes.len - c.self.inside.chains ≡ c.args.self.now.entries = ap (λ v. v.entries) c.self.view_is in
    let len = c.self.inside.nodes.ok.0 in omega arith in
    let few = rings.few in omega arith

pub returns-clause-chain_in : goal.returns-clause-chain_in
returns-clause-chain_in c =
    let rings = rings_of c.self.inside.chains c.self.inside.nodes.items (reverse c.self.inside.moves.items) c.self.invariant.0 in
    let ein : c.self.inside.chains + c.args.entry < length c.self.inside.nodes.items =
    let entries : c.self.inside.nodes.len - c.self.inside.chains ≡ c.args.self.now.entries = ap (λ v. v.entries) c.self.view_is in
    let len = c.self.inside.nodes.ok.0 in omega arith in
    rw (c.read.ensures, ← c.self.view_is, c.as_slice.ensures.value)
    (let one = rings.one_each in let in_range = rings.chain_in (c.self.inside.chains + c.args.entry) ein in omega arith)

pub returns-clause-stands : goal.returns-clause-stands
returns-clause-stands c =
    let rings = rings_of c.self.inside.chains c.self.inside.nodes.items (reverse c.self.inside.moves.items) c.self.invariant.0 in
    let ein : c.self.inside.chains + c.args.entry < length c.self.inside.nodes.items =
    let entries : c.self.inside.nodes.len - c.self.inside.chains ≡ c.args.self.now.entries = ap (λ v. v.entries) c.self.view_is in
    let len = c.self.inside.nodes.ok.0 in omega arith in
    rw (c.read.ensures, ← c.self.view_is, c.as_slice.ensures.value) (rings.stands c.args.entry ein)

pub returns-clause-alone : goal.returns-clause-alone
returns-clause-alone c =
    let rings = rings_of c.self.inside.chains c.self.inside.nodes.items (reverse c.self.inside.moves.items) c.self.invariant.0 in
    rw (c.read.ensures, ← c.self.view_is, c.as_slice.ensures.value) (λ i has. chain_alone _ _ _ c.args.entry i rings has)
