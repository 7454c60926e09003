use Rattle.std.proofs.Common.{◌≡◌, ◌+◌, ◌-◌, ◌<◌, length, arith, ap, sym, ◌∙◌, reverse, Some}
use Rattle.watch_chains.specs.declared.nodes.Node.{Node}
use Rattle.watch_chains.specs.Nodes.{node, next, chain}
use Rattle.watch_chains.proofs.SoundLaws.{rings_of, head_none, head_some, next_law, some_in}
use Rattle.watch_chains.proofs.chains.Chains.next.Goals as goal

pub overflow_add-self-inside : goal.overflow_add-self-inside
overflow_add-self-inside c =
    let rings = rings_of c.self.inside.chains c.self.inside.nodes.items (reverse c.self.inside.moves.items) c.self.invariant.0 in
    let entries : c.self.inside.nodes.len - c.self.inside.chains ≡ c.args.self.now.entries = ap (λ v. v.entries) c.self.view_is in
    let len = c.self.inside.nodes.ok.0 in
    let ein : c.self.inside.chains + c.args.entry < length c.self.inside.nodes.items = omega arith in
    let few = rings.few in omega arith

pub overflow_sub-result : goal.overflow_sub-result
overflow_sub-result c =
    let rings = rings_of c.self.inside.chains c.self.inside.nodes.items (reverse c.self.inside.moves.items) c.self.invariant.0 in
    let entries : c.self.inside.nodes.len - c.self.inside.chains ≡ c.args.self.now.entries = ap (λ v. v.entries) c.self.view_is in
    let len = c.self.inside.nodes.ok.0 in
    let ein : c.self.inside.chains + c.args.entry < length c.self.inside.nodes.items = omega arith in
    let node_is : node c.self.inside.nodes.items (c.self.inside.chains + c.args.entry) ≡ c.read-node.result =
    ap (λ t. node t (c.self.inside.chains + c.args.entry)) (sym c.as_slice.ensures.value) ∙ sym c.read-node.ensures in
    let next_is : next c.self.inside.nodes.items (c.self.inside.chains + c.args.entry) ≡ c.read-node.result.next = ap (λ (n : Node). n.next) node_is in
    let chain_is : chain c.self.inside.nodes.items (c.self.inside.chains + c.args.entry) ≡ c.read-node.result.chain = ap (λ (n : Node). n.chain) node_is in
    let within = some_in c.self.inside.chains c.self.inside.nodes.items _ c.args.entry rings ein (λ same. c.if-node.false (sym next_is ∙ same ∙ chain_is)) in
    let le = within.0 in
    omega arith

pub returns-then-node-clause-next : goal.returns-then-node-clause-next
returns-then-node-clause-next c =
    let rings = rings_of c.self.inside.chains c.self.inside.nodes.items (reverse c.self.inside.moves.items) c.self.invariant.0 in
    let node_is : node c.self.inside.nodes.items (c.self.inside.chains + c.args.entry) ≡ c.read-node.result =
    ap (λ t. node t (c.self.inside.chains + c.args.entry)) (sym c.as_slice.ensures.value) ∙ sym c.read-node.ensures in
    let next_is : next c.self.inside.nodes.items (c.self.inside.chains + c.args.entry) ≡ c.read-node.result.next = ap (λ (n : Node). n.next) node_is in
    let chain_is : chain c.self.inside.nodes.items (c.self.inside.chains + c.args.entry) ≡ c.read-node.result.chain = ap (λ (n : Node). n.chain) node_is in
    rw (← c.self.view_is) (λ i before after is.
    let (ic, at, path, once) = next_law _ _ _ i c.args.entry before after rings is in
    sym (head_none _ _ i _ after ic path (next_is ∙ c.if-node.true ∙ sym chain_is ∙ at)))

pub returns-then-node-clause-once : goal.returns-then-node-clause-once
returns-then-node-clause-once c =
    let rings = rings_of c.self.inside.chains c.self.inside.nodes.items (reverse c.self.inside.moves.items) c.self.invariant.0 in
    rw (← c.self.view_is) (λ i before after is. (next_law _ _ _ i c.args.entry before after rings is).3)

pub returns-else-node-clause-next : goal.returns-else-node-clause-next
returns-else-node-clause-next c =
    let rings = rings_of c.self.inside.chains c.self.inside.nodes.items (reverse c.self.inside.moves.items) c.self.invariant.0 in
    let node_is : node c.self.inside.nodes.items (c.self.inside.chains + c.args.entry) ≡ c.read-node.result =
    ap (λ t. node t (c.self.inside.chains + c.args.entry)) (sym c.as_slice.ensures.value) ∙ sym c.read-node.ensures in
    let next_is : next c.self.inside.nodes.items (c.self.inside.chains + c.args.entry) ≡ c.read-node.result.next = ap (λ (n : Node). n.next) node_is in
    let chain_is : chain c.self.inside.nodes.items (c.self.inside.chains + c.args.entry) ≡ c.read-node.result.chain = ap (λ (n : Node). n.chain) node_is in
    rw (← c.self.view_is) (λ i before after is.
    let (ic, at, path, once) = next_law _ _ _ i c.args.entry before after rings is in
    let some = head_some _ _ i _ after path (λ same. c.if-node.false (sym next_is ∙ same ∙ sym at ∙ chain_is)) in
    ap (λ n. Some (n - c.self.inside.chains)) (sym next_is) ∙ sym some.1)

pub returns-else-node-clause-once : goal.returns-else-node-clause-once
returns-else-node-clause-once c =
    let rings = rings_of c.self.inside.chains c.self.inside.nodes.items (reverse c.self.inside.moves.items) c.self.invariant.0 in
    rw (← c.self.view_is) (λ i before after is. (next_law _ _ _ i c.args.entry before after rings is).3)

pub returns-else-node-clause-entry_in : goal.returns-else-node-clause-entry_in
returns-else-node-clause-entry_in c =
    let rings = rings_of c.self.inside.chains c.self.inside.nodes.items (reverse c.self.inside.moves.items) c.self.invariant.0 in
    let entries : c.self.inside.nodes.len - c.self.inside.chains ≡ c.args.self.now.entries = ap (λ v. v.entries) c.self.view_is in
    let len = c.self.inside.nodes.ok.0 in
    let ein : c.self.inside.chains + c.args.entry < length c.self.inside.nodes.items = omega arith in
    let node_is : node c.self.inside.nodes.items (c.self.inside.chains + c.args.entry) ≡ c.read-node.result =
    ap (λ t. node t (c.self.inside.chains + c.args.entry)) (sym c.as_slice.ensures.value) ∙ sym c.read-node.ensures in
    let next_is : next c.self.inside.nodes.items (c.self.inside.chains + c.args.entry) ≡ c.read-node.result.next = ap (λ (n : Node). n.next) node_is in
    let chain_is : chain c.self.inside.nodes.items (c.self.inside.chains + c.args.entry) ≡ c.read-node.result.chain = ap (λ (n : Node). n.chain) node_is in
    let within = some_in c.self.inside.chains c.self.inside.nodes.items _ c.args.entry rings ein (λ same. c.if-node.false (sym next_is ∙ same ∙ chain_is)) in
    let le = within.0 in
    let next_in = within.1 in
    omega arith
