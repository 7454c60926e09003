use Rattle.std.proofs.Common.{◌≡◌, ℕ, ◌+◌, ◌<◌, ◌^◌, length, arith, ap, sym, inl, inr, ◌∙◌, subst, List, [], ◌∷◌, ◌++◌, replicate}
use Rattle.std.proofs.lemmas.List.{get_or_append_left, get_or_push, length_push}
use Rattle.std.proofs.lemmas.Bool.{cases_eq}
use Rattle.watch_chains.specs.declared.nodes.Node.{Node}
use Rattle.watch_chains.specs.Nodes.{no_node, node, AreRings}
use Rattle.watch_chains.proofs.RingLaws.{lists_are}
use Rattle.watch_chains.proofs.SoundLaws.{empty_rings}
use Rattle.watch_chains.proofs.chains.Chains.new.Goals as goal

pub loop-i-init : goal.loop-i-init
loop-i-init c = record {
  size = ap length c.in_ok-nodes.ensures.items;
  each = λ k below. absurd (omega arith);
}

pub loop-i-preserved : goal.loop-i-preserved
loop-i-preserved c =
    let v : Node = record { next = c.loop-i.i; prev = c.loop-i.i; chain = c.loop-i.i } in
    let items : c.push.new.self.items ≡ c.loop-i.nodes.items ++ v ∷ [] = c.in_ok-push.ensures.items in
    let size = c.loop-i.invariant.size in
    rw items (record {
      size = length_push c.loop-i.nodes.items v ∙ ap (λ n. n + 1) size;
      each = λ k below. elim (cases_eq k c.loop-i.i) [
        | inl same ↦ ap (node (c.loop-i.nodes.items ++ v ∷ [])) same ∙ get_or_push c.loop-i.nodes.items v no_node c.loop-i.i size
            ∙ ap (λ j. let n : Node = record { next = j; prev = j; chain = j } in n) (sym same)
        | inr other ↦ get_or_append_left c.loop-i.nodes.items (v ∷ []) no_node k (omega arith) ∙ c.loop-i.invariant.each k (omega arith)
      ];
    })

made : (c : ℕ) (ns : List Node) (i : ℕ) → i ≡ c → c < 2 ^ 32 → length ns ≡ i → ((k : ℕ) → k < i → node ns k ≡ record { next = k; prev = k; chain = k })
    → AreRings c ns (replicate c [])
made c ns i all few size each = empty_rings c ns (size ∙ all) few
    (λ k kc. let is = each k (omega arith) in (ap (λ (n : Node). n.next) is, ap (λ (n : Node). n.prev) is, ap (λ (n : Node). n.chain) is))

pub invariant_of-result : goal.invariant_of-result
invariant_of-result c =
    let rings : AreRings c.args.chains c.loop-i.nodes.items (replicate c.args.chains []) =
    made c.args.chains c.loop-i.nodes.items c.loop-i.i (omega arith) (omega arith) c.loop-i.invariant.size c.loop-i.invariant.each in
    rw c.new.ensures.items (
      subst (AreRings c.args.chains c.loop-i.nodes.items) (sym (lists_are c.args.chains c.loop-i.nodes.items (replicate c.args.chains []) rings)) rings,
      omega arith,
    )

pub returns-clause-lists : goal.returns-clause-lists
returns-clause-lists c =
    lists_are c.args.chains c.loop-i.nodes.items (replicate c.args.chains [])
    (made c.args.chains c.loop-i.nodes.items c.loop-i.i (omega arith) (omega arith) c.loop-i.invariant.size c.loop-i.invariant.each)

pub returns-clause-entries : goal.returns-clause-entries
returns-clause-entries c =
    let size = c.loop-i.invariant.size in
    let len = c.loop-i.nodes.ok.0 in
    omega arith
