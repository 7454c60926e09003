use Rattle.std.proofs.Common.{◌≡◌, ◌-◌, ◌<◌, length, arith, ap, sym, ◌∙◌, reverse, Some}
use Rattle.watch_chains.specs.declared.nodes.Node.{Node}
use Rattle.watch_chains.specs.Nodes.{next, lists_of}
use Rattle.watch_chains.proofs.SoundLaws.{rings_of, head_none, head_some, path_distinct}
use Rattle.watch_chains.proofs.chains.Chains.first.Goals as goal

pub read-next-requires : goal.read-next-requires
read-next-requires c =
    let rings = rings_of c.self.inside.chains c.self.inside.nodes.items (reverse c.self.inside.moves.items) c.self.invariant.0 in
    let ic : c.args.chain < c.self.inside.chains =
    let size : length (lists_of c.self.inside.chains c.self.inside.nodes.items) ≡ length c.args.self.now.lists = ap (λ v. length v.lists) c.self.view_is in
    let one = rings.one_each in omega arith in
    let heads = rings.heads in rw c.as_slice.ensures.value (omega arith)

pub overflow_sub-result : goal.overflow_sub-result
overflow_sub-result c =
    let rings = rings_of c.self.inside.chains c.self.inside.nodes.items (reverse c.self.inside.moves.items) c.self.invariant.0 in
    let ic : c.args.chain < c.self.inside.chains =
    let size : length (lists_of c.self.inside.chains c.self.inside.nodes.items) ≡ length c.args.self.now.lists = ap (λ v. length v.lists) c.self.view_is in
    let one = rings.one_each in omega arith in
    let at : next c.self.inside.nodes.items c.args.chain ≡ c.read-next.result.next =
    ap (λ t. next t c.args.chain) (sym c.as_slice.ensures.value) ∙ sym (ap (λ (n : Node). n.next) c.read-next.ensures) in
    let some = head_some _ _ c.args.chain c.args.chain _ (rings.paths c.args.chain ic) (λ same. c.if-next-chain.false (sym at ∙ same)) in
    let le = some.0 in
    omega arith

pub returns-then-next-chain-clause-first : goal.returns-then-next-chain-clause-first
returns-then-next-chain-clause-first c =
    let rings = rings_of c.self.inside.chains c.self.inside.nodes.items (reverse c.self.inside.moves.items) c.self.invariant.0 in
    let ic : c.args.chain < c.self.inside.chains =
    let size : length (lists_of c.self.inside.chains c.self.inside.nodes.items) ≡ length c.args.self.now.lists = ap (λ v. length v.lists) c.self.view_is in
    let one = rings.one_each in omega arith in
    let at : next c.self.inside.nodes.items c.args.chain ≡ c.read-next.result.next =
    ap (λ t. next t c.args.chain) (sym c.as_slice.ensures.value) ∙ sym (ap (λ (n : Node). n.next) c.read-next.ensures) in
    rw (← c.self.view_is) (sym (head_none _ _ c.args.chain c.args.chain _ ic (rings.paths c.args.chain ic) (at ∙ c.if-next-chain.true)))

pub returns-else-next-chain-clause-first : goal.returns-else-next-chain-clause-first
returns-else-next-chain-clause-first c =
    let rings = rings_of c.self.inside.chains c.self.inside.nodes.items (reverse c.self.inside.moves.items) c.self.invariant.0 in
    let ic : c.args.chain < c.self.inside.chains =
    let size : length (lists_of c.self.inside.chains c.self.inside.nodes.items) ≡ length c.args.self.now.lists = ap (λ v. length v.lists) c.self.view_is in
    let one = rings.one_each in omega arith in
    let at : next c.self.inside.nodes.items c.args.chain ≡ c.read-next.result.next =
    ap (λ t. next t c.args.chain) (sym c.as_slice.ensures.value) ∙ sym (ap (λ (n : Node). n.next) c.read-next.ensures) in
    let some = head_some _ _ c.args.chain c.args.chain _ (rings.paths c.args.chain ic) (λ same. c.if-next-chain.false (sym at ∙ same)) in
    let le = some.0 in
    rw (← c.self.view_is) (ap (λ n. Some (n - c.self.inside.chains)) (sym at) ∙ sym some.1)

pub returns-else-next-chain-clause-entry_in : goal.returns-else-next-chain-clause-entry_in
returns-else-next-chain-clause-entry_in c =
    let rings = rings_of c.self.inside.chains c.self.inside.nodes.items (reverse c.self.inside.moves.items) c.self.invariant.0 in
    let ic : c.args.chain < c.self.inside.chains =
    let size : length (lists_of c.self.inside.chains c.self.inside.nodes.items) ≡ length c.args.self.now.lists = ap (λ v. length v.lists) c.self.view_is in
    let one = rings.one_each in omega arith in
    let at : next c.self.inside.nodes.items c.args.chain ≡ c.read-next.result.next =
    ap (λ t. next t c.args.chain) (sym c.as_slice.ensures.value) ∙ sym (ap (λ (n : Node). n.next) c.read-next.ensures) in
    let some = head_some _ _ c.args.chain c.args.chain _ (rings.paths c.args.chain ic) (λ same. c.if-next-chain.false (sym at ∙ same)) in
    let le = some.0 in
    let entries : c.self.inside.nodes.len - c.self.inside.chains ≡ c.args.self.now.entries = ap (λ v. v.entries) c.self.view_is in
    let len = c.self.inside.nodes.ok.0 in
    let heads = rings.heads in
    let next_in = rings.next_in c.args.chain (omega arith) in
    omega arith

pub returns-then-next-chain-clause-distinct : goal.returns-then-next-chain-clause-distinct
returns-then-next-chain-clause-distinct c =
    let rings = rings_of c.self.inside.chains c.self.inside.nodes.items (reverse c.self.inside.moves.items) c.self.invariant.0 in
    let ic : c.args.chain < c.self.inside.chains =
    let size : length (lists_of c.self.inside.chains c.self.inside.nodes.items) ≡ length c.args.self.now.lists = ap (λ v. length v.lists) c.self.view_is in
    let one = rings.one_each in omega arith in
    rw (← c.self.view_is) (path_distinct _ _ c.args.chain c.args.chain _ ic (rings.paths c.args.chain ic))

pub returns-else-next-chain-clause-distinct : goal.returns-else-next-chain-clause-distinct
returns-else-next-chain-clause-distinct c =
    let rings = rings_of c.self.inside.chains c.self.inside.nodes.items (reverse c.self.inside.moves.items) c.self.invariant.0 in
    let ic : c.args.chain < c.self.inside.chains =
    let size : length (lists_of c.self.inside.chains c.self.inside.nodes.items) ≡ length c.args.self.now.lists = ap (λ v. length v.lists) c.self.view_is in
    let one = rings.one_each in omega arith in
    rw (← c.self.view_is) (path_distinct _ _ c.args.chain c.args.chain _ ic (rings.paths c.args.chain ic))
