use Rattle.std.proofs.Common.{◌≡◌, ◌+◌, ◌-◌, ◌<◌, ◌^◌, length, arith, ap, sym, ◌∙◌, subst, refl, [], ◌∷◌, ◌++◌, reverse, min, take, drop}
use Rattle.std.proofs.lemmas.List.{length_push}
use Rattle.watch_chains.specs.Nodes.{no_node, linked, lists_of, IsSound}
use Rattle.watch_chains.proofs.SoundLaws.{rings_of, written_back, length-linked, settled, next_pushed, lists_added, sound_added}
use Rattle.watch_chains.proofs.chains.Chains.add.Goals as goal

pub link-requires-clause-after_in : goal.link-requires-clause-after_in
link-requires-clause-after_in c =
    let rings = rings_of c.self.inside.chains c.self.inside.nodes.items (reverse c.self.inside.moves.items) c.self.invariant.0 in
    let ic : c.args.chain < c.self.inside.chains =
    let size : length (lists_of c.self.inside.chains c.self.inside.nodes.items) ≡ length c.args.self.now.lists = ap (λ v. length v.lists) c.self.view_is in
    let one = rings.one_each in omega arith in
    let entries : c.self.inside.nodes.len - c.self.inside.chains ≡ c.args.self.now.entries = ap (λ v. v.entries) c.self.view_is in
    let spare : min c.self.inside.nodes.cap (2 ^ 32) - c.self.inside.nodes.len ≡ c.args.self.now.spare_entries = ap (λ v. v.spare_entries) c.self.view_is in
    let spare_moves : min c.self.inside.moves.cap (2 ^ 32 - 1) - c.self.inside.moves.len ≡ c.args.self.now.spare_moves = ap (λ v. v.spare_moves) c.self.view_is in
    let nlen = c.self.inside.nodes.ok.0 in
    let mlen = c.self.inside.moves.ok.0 in
    let heads = rings.heads in
    let few = rings.few in
    let grown : c.push_reserved.new.self.items ≡ c.self.inside.nodes.items ++ no_node ∷ [] = c.push_reserved.ensures.items in
    let slice : c.as_mut_slice.result.now ≡ c.self.inside.nodes.items ++ no_node ∷ [] = c.as_mut_slice.ensures.value ∙ grown in
    let size : length (c.self.inside.nodes.items ++ no_node ∷ []) ≡ length c.self.inside.nodes.items + 1 = length_push c.self.inside.nodes.items no_node in
    let at : c.len-node.result ≡ length c.self.inside.nodes.items = c.len-node.ensures ∙ nlen in
    rw slice (omega arith)

pub link-requires-clause-next_in : goal.link-requires-clause-next_in
link-requires-clause-next_in c =
    let rings = rings_of c.self.inside.chains c.self.inside.nodes.items (reverse c.self.inside.moves.items) c.self.invariant.0 in
    let ic : c.args.chain < c.self.inside.chains =
    let size : length (lists_of c.self.inside.chains c.self.inside.nodes.items) ≡ length c.args.self.now.lists = ap (λ v. length v.lists) c.self.view_is in
    let one = rings.one_each in omega arith in
    let entries : c.self.inside.nodes.len - c.self.inside.chains ≡ c.args.self.now.entries = ap (λ v. v.entries) c.self.view_is in
    let spare : min c.self.inside.nodes.cap (2 ^ 32) - c.self.inside.nodes.len ≡ c.args.self.now.spare_entries = ap (λ v. v.spare_entries) c.self.view_is in
    let spare_moves : min c.self.inside.moves.cap (2 ^ 32 - 1) - c.self.inside.moves.len ≡ c.args.self.now.spare_moves = ap (λ v. v.spare_moves) c.self.view_is in
    let nlen = c.self.inside.nodes.ok.0 in
    let mlen = c.self.inside.moves.ok.0 in
    let heads = rings.heads in
    let few = rings.few in
    let grown : c.push_reserved.new.self.items ≡ c.self.inside.nodes.items ++ no_node ∷ [] = c.push_reserved.ensures.items in
    let slice : c.as_mut_slice.result.now ≡ c.self.inside.nodes.items ++ no_node ∷ [] = c.as_mut_slice.ensures.value ∙ grown in
    let size : length (c.self.inside.nodes.items ++ no_node ∷ []) ≡ length c.self.inside.nodes.items + 1 = length_push c.self.inside.nodes.items no_node in
    let at : c.len-node.result ≡ length c.self.inside.nodes.items = c.len-node.ensures ∙ nlen in
    rw slice (next_pushed c.self.inside.chains c.self.inside.nodes.items no_node c.args.chain rings ic)

pub overflow_sub-result : goal.overflow_sub-result
overflow_sub-result c =
    let rings = rings_of c.self.inside.chains c.self.inside.nodes.items (reverse c.self.inside.moves.items) c.self.invariant.0 in
    let entries : c.self.inside.nodes.len - c.self.inside.chains ≡ c.args.self.now.entries = ap (λ v. v.entries) c.self.view_is in
    let spare : min c.self.inside.nodes.cap (2 ^ 32) - c.self.inside.nodes.len ≡ c.args.self.now.spare_entries = ap (λ v. v.spare_entries) c.self.view_is in
    let spare_moves : min c.self.inside.moves.cap (2 ^ 32 - 1) - c.self.inside.moves.len ≡ c.args.self.now.spare_moves = ap (λ v. v.spare_moves) c.self.view_is in
    let nlen = c.self.inside.nodes.ok.0 in
    let mlen = c.self.inside.moves.ok.0 in
    let heads = rings.heads in
    let few = rings.few in
    let at : c.len-node.result ≡ length c.self.inside.nodes.items = c.len-node.ensures ∙ nlen in omega arith

pub invariant_of-self : goal.invariant_of-self
invariant_of-self c =
    let rings = rings_of c.self.inside.chains c.self.inside.nodes.items (reverse c.self.inside.moves.items) c.self.invariant.0 in
    let ic : c.args.chain < c.self.inside.chains =
    let size : length (lists_of c.self.inside.chains c.self.inside.nodes.items) ≡ length c.args.self.now.lists = ap (λ v. length v.lists) c.self.view_is in
    let one = rings.one_each in omega arith in
    let entries : c.self.inside.nodes.len - c.self.inside.chains ≡ c.args.self.now.entries = ap (λ v. v.entries) c.self.view_is in
    let spare : min c.self.inside.nodes.cap (2 ^ 32) - c.self.inside.nodes.len ≡ c.args.self.now.spare_entries = ap (λ v. v.spare_entries) c.self.view_is in
    let spare_moves : min c.self.inside.moves.cap (2 ^ 32 - 1) - c.self.inside.moves.len ≡ c.args.self.now.spare_moves = ap (λ v. v.spare_moves) c.self.view_is in
    let nlen = c.self.inside.nodes.ok.0 in
    let mlen = c.self.inside.moves.ok.0 in
    let heads = rings.heads in
    let few = rings.few in
    let grown : c.push_reserved.new.self.items ≡ c.self.inside.nodes.items ++ no_node ∷ [] = c.push_reserved.ensures.items in
    let slice : c.as_mut_slice.result.now ≡ c.self.inside.nodes.items ++ no_node ∷ [] = c.as_mut_slice.ensures.value ∙ grown in
    let size : length (c.self.inside.nodes.items ++ no_node ∷ []) ≡ length c.self.inside.nodes.items + 1 = length_push c.self.inside.nodes.items no_node in
    let at : c.len-node.result ≡ length c.self.inside.nodes.items = c.len-node.ensures ∙ nlen in
    let e = c.len-node.result - c.self.inside.chains in
    let node_is : c.self.inside.chains + e ≡ c.len-node.result = omega arith in
    let last : c.self.inside.chains + e ≡ length c.self.inside.nodes.items = omega arith in
    let link : c.link.new.nodes ≡ linked (c.self.inside.nodes.items ++ no_node ∷ []) (c.self.inside.chains + e) c.args.chain =
    c.link.ensures ∙ ap (λ t. linked t c.len-node.result c.args.chain) slice ∙ ap (λ x. linked (c.self.inside.nodes.items ++ no_node ∷ []) x c.args.chain) (sym node_is) in
    let same_size : length (linked (c.self.inside.nodes.items ++ no_node ∷ []) (c.self.inside.chains + e) c.args.chain) ≡ length (c.self.inside.nodes.items ++ no_node ∷ []) =
    length-linked (c.self.inside.nodes.items ++ no_node ∷ []) (c.self.inside.chains + e) c.args.chain (omega arith) (omega arith) (next_pushed c.self.inside.chains c.self.inside.nodes.items no_node c.args.chain rings ic) in
    let new_size : length c.link.new.nodes ≡ c.push_reserved.new.self.len =
    ap length link ∙ same_size ∙ ap length (sym grown) ∙ sym c.push_reserved.new.self.ok.0 in
    let table : take c.push_reserved.new.self.len (c.link.new.nodes ++ drop (length c.link.new.nodes) c.push_reserved.new.self.items) ≡ linked (c.self.inside.nodes.items ++ no_node ∷ []) (c.self.inside.chains + e) c.args.chain =
    written_back c.link.new.nodes c.push_reserved.new.self.items c.push_reserved.new.self.len new_size ∙ link in
    let none : reverse c.self.inside.moves.items ≡ [] = settled c.self.inside.chains c.self.inside.nodes.items c.self.inside.moves.items (ap (λ v. v.past) c.self.view_is ∙ c.requires.settled) in
    let sound : IsSound c.self.inside.chains c.self.inside.nodes.items [] = subst (IsSound c.self.inside.chains c.self.inside.nodes.items) none c.self.invariant.0 in
    (rw (table, none) (sound_added c.self.inside.chains c.self.inside.nodes.items no_node e c.args.chain sound last (omega arith) ic), c.self.invariant.1)

pub returns-clause-lists : goal.returns-clause-lists
returns-clause-lists c =
    let rings = rings_of c.self.inside.chains c.self.inside.nodes.items (reverse c.self.inside.moves.items) c.self.invariant.0 in
    let ic : c.args.chain < c.self.inside.chains =
    let size : length (lists_of c.self.inside.chains c.self.inside.nodes.items) ≡ length c.args.self.now.lists = ap (λ v. length v.lists) c.self.view_is in
    let one = rings.one_each in omega arith in
    let entries : c.self.inside.nodes.len - c.self.inside.chains ≡ c.args.self.now.entries = ap (λ v. v.entries) c.self.view_is in
    let spare : min c.self.inside.nodes.cap (2 ^ 32) - c.self.inside.nodes.len ≡ c.args.self.now.spare_entries = ap (λ v. v.spare_entries) c.self.view_is in
    let spare_moves : min c.self.inside.moves.cap (2 ^ 32 - 1) - c.self.inside.moves.len ≡ c.args.self.now.spare_moves = ap (λ v. v.spare_moves) c.self.view_is in
    let nlen = c.self.inside.nodes.ok.0 in
    let mlen = c.self.inside.moves.ok.0 in
    let heads = rings.heads in
    let few = rings.few in
    let grown : c.push_reserved.new.self.items ≡ c.self.inside.nodes.items ++ no_node ∷ [] = c.push_reserved.ensures.items in
    let slice : c.as_mut_slice.result.now ≡ c.self.inside.nodes.items ++ no_node ∷ [] = c.as_mut_slice.ensures.value ∙ grown in
    let size : length (c.self.inside.nodes.items ++ no_node ∷ []) ≡ length c.self.inside.nodes.items + 1 = length_push c.self.inside.nodes.items no_node in
    let at : c.len-node.result ≡ length c.self.inside.nodes.items = c.len-node.ensures ∙ nlen in
    let e = c.len-node.result - c.self.inside.chains in
    let node_is : c.self.inside.chains + e ≡ c.len-node.result = omega arith in
    let last : c.self.inside.chains + e ≡ length c.self.inside.nodes.items = omega arith in
    let link : c.link.new.nodes ≡ linked (c.self.inside.nodes.items ++ no_node ∷ []) (c.self.inside.chains + e) c.args.chain =
    c.link.ensures ∙ ap (λ t. linked t c.len-node.result c.args.chain) slice ∙ ap (λ x. linked (c.self.inside.nodes.items ++ no_node ∷ []) x c.args.chain) (sym node_is) in
    let same_size : length (linked (c.self.inside.nodes.items ++ no_node ∷ []) (c.self.inside.chains + e) c.args.chain) ≡ length (c.self.inside.nodes.items ++ no_node ∷ []) =
    length-linked (c.self.inside.nodes.items ++ no_node ∷ []) (c.self.inside.chains + e) c.args.chain (omega arith) (omega arith) (next_pushed c.self.inside.chains c.self.inside.nodes.items no_node c.args.chain rings ic) in
    let new_size : length c.link.new.nodes ≡ c.push_reserved.new.self.len =
    ap length link ∙ same_size ∙ ap length (sym grown) ∙ sym c.push_reserved.new.self.ok.0 in
    let table : take c.push_reserved.new.self.len (c.link.new.nodes ++ drop (length c.link.new.nodes) c.push_reserved.new.self.items) ≡ linked (c.self.inside.nodes.items ++ no_node ∷ []) (c.self.inside.chains + e) c.args.chain =
    written_back c.link.new.nodes c.push_reserved.new.self.items c.push_reserved.new.self.len new_size ∙ link in
    let none : reverse c.self.inside.moves.items ≡ [] = settled c.self.inside.chains c.self.inside.nodes.items c.self.inside.moves.items (ap (λ v. v.past) c.self.view_is ∙ c.requires.settled) in
    let sound : IsSound c.self.inside.chains c.self.inside.nodes.items [] = subst (IsSound c.self.inside.chains c.self.inside.nodes.items) none c.self.invariant.0 in
    rw (table, ← c.self.view_is) (lists_added c.self.inside.chains c.self.inside.nodes.items no_node e c.args.chain sound last (omega arith) ic)

pub returns-clause-past : goal.returns-clause-past
returns-clause-past c =
    let rings = rings_of c.self.inside.chains c.self.inside.nodes.items (reverse c.self.inside.moves.items) c.self.invariant.0 in
    let ic : c.args.chain < c.self.inside.chains =
    let size : length (lists_of c.self.inside.chains c.self.inside.nodes.items) ≡ length c.args.self.now.lists = ap (λ v. length v.lists) c.self.view_is in
    let one = rings.one_each in omega arith in
    let entries : c.self.inside.nodes.len - c.self.inside.chains ≡ c.args.self.now.entries = ap (λ v. v.entries) c.self.view_is in
    let spare : min c.self.inside.nodes.cap (2 ^ 32) - c.self.inside.nodes.len ≡ c.args.self.now.spare_entries = ap (λ v. v.spare_entries) c.self.view_is in
    let spare_moves : min c.self.inside.moves.cap (2 ^ 32 - 1) - c.self.inside.moves.len ≡ c.args.self.now.spare_moves = ap (λ v. v.spare_moves) c.self.view_is in
    let nlen = c.self.inside.nodes.ok.0 in
    let mlen = c.self.inside.moves.ok.0 in
    let heads = rings.heads in
    let few = rings.few in
    let grown : c.push_reserved.new.self.items ≡ c.self.inside.nodes.items ++ no_node ∷ [] = c.push_reserved.ensures.items in
    let slice : c.as_mut_slice.result.now ≡ c.self.inside.nodes.items ++ no_node ∷ [] = c.as_mut_slice.ensures.value ∙ grown in
    let size : length (c.self.inside.nodes.items ++ no_node ∷ []) ≡ length c.self.inside.nodes.items + 1 = length_push c.self.inside.nodes.items no_node in
    let at : c.len-node.result ≡ length c.self.inside.nodes.items = c.len-node.ensures ∙ nlen in
    let e = c.len-node.result - c.self.inside.chains in
    let node_is : c.self.inside.chains + e ≡ c.len-node.result = omega arith in
    let last : c.self.inside.chains + e ≡ length c.self.inside.nodes.items = omega arith in
    let link : c.link.new.nodes ≡ linked (c.self.inside.nodes.items ++ no_node ∷ []) (c.self.inside.chains + e) c.args.chain =
    c.link.ensures ∙ ap (λ t. linked t c.len-node.result c.args.chain) slice ∙ ap (λ x. linked (c.self.inside.nodes.items ++ no_node ∷ []) x c.args.chain) (sym node_is) in
    let same_size : length (linked (c.self.inside.nodes.items ++ no_node ∷ []) (c.self.inside.chains + e) c.args.chain) ≡ length (c.self.inside.nodes.items ++ no_node ∷ []) =
    length-linked (c.self.inside.nodes.items ++ no_node ∷ []) (c.self.inside.chains + e) c.args.chain (omega arith) (omega arith) (next_pushed c.self.inside.chains c.self.inside.nodes.items no_node c.args.chain rings ic) in
    let new_size : length c.link.new.nodes ≡ c.push_reserved.new.self.len =
    ap length link ∙ same_size ∙ ap length (sym grown) ∙ sym c.push_reserved.new.self.ok.0 in
    let table : take c.push_reserved.new.self.len (c.link.new.nodes ++ drop (length c.link.new.nodes) c.push_reserved.new.self.items) ≡ linked (c.self.inside.nodes.items ++ no_node ∷ []) (c.self.inside.chains + e) c.args.chain =
    written_back c.link.new.nodes c.push_reserved.new.self.items c.push_reserved.new.self.len new_size ∙ link in
    let none : reverse c.self.inside.moves.items ≡ [] = settled c.self.inside.chains c.self.inside.nodes.items c.self.inside.moves.items (ap (λ v. v.past) c.self.view_is ∙ c.requires.settled) in
    let sound : IsSound c.self.inside.chains c.self.inside.nodes.items [] = subst (IsSound c.self.inside.chains c.self.inside.nodes.items) none c.self.invariant.0 in
    rw (table, none) refl

pub returns-clause-entries : goal.returns-clause-entries
returns-clause-entries c =
    let rings = rings_of c.self.inside.chains c.self.inside.nodes.items (reverse c.self.inside.moves.items) c.self.invariant.0 in
    let entries : c.self.inside.nodes.len - c.self.inside.chains ≡ c.args.self.now.entries = ap (λ v. v.entries) c.self.view_is in
    let spare : min c.self.inside.nodes.cap (2 ^ 32) - c.self.inside.nodes.len ≡ c.args.self.now.spare_entries = ap (λ v. v.spare_entries) c.self.view_is in
    let spare_moves : min c.self.inside.moves.cap (2 ^ 32 - 1) - c.self.inside.moves.len ≡ c.args.self.now.spare_moves = ap (λ v. v.spare_moves) c.self.view_is in
    let nlen = c.self.inside.nodes.ok.0 in
    let mlen = c.self.inside.moves.ok.0 in
    let heads = rings.heads in
    let few = rings.few in
    let grown : c.push_reserved.new.self.items ≡ c.self.inside.nodes.items ++ no_node ∷ [] = c.push_reserved.ensures.items in
    let slice : c.as_mut_slice.result.now ≡ c.self.inside.nodes.items ++ no_node ∷ [] = c.as_mut_slice.ensures.value ∙ grown in
    let size : length (c.self.inside.nodes.items ++ no_node ∷ []) ≡ length c.self.inside.nodes.items + 1 = length_push c.self.inside.nodes.items no_node in
    let at : c.len-node.result ≡ length c.self.inside.nodes.items = c.len-node.ensures ∙ nlen in
    let now = c.push_reserved.new.self.ok.0 in let long = ap length grown in omega arith

pub returns-clause-spare_entries : goal.returns-clause-spare_entries
returns-clause-spare_entries c =
    let rings = rings_of c.self.inside.chains c.self.inside.nodes.items (reverse c.self.inside.moves.items) c.self.invariant.0 in
    let entries : c.self.inside.nodes.len - c.self.inside.chains ≡ c.args.self.now.entries = ap (λ v. v.entries) c.self.view_is in
    let spare : min c.self.inside.nodes.cap (2 ^ 32) - c.self.inside.nodes.len ≡ c.args.self.now.spare_entries = ap (λ v. v.spare_entries) c.self.view_is in
    let spare_moves : min c.self.inside.moves.cap (2 ^ 32 - 1) - c.self.inside.moves.len ≡ c.args.self.now.spare_moves = ap (λ v. v.spare_moves) c.self.view_is in
    let nlen = c.self.inside.nodes.ok.0 in
    let mlen = c.self.inside.moves.ok.0 in
    let heads = rings.heads in
    let few = rings.few in
    let grown : c.push_reserved.new.self.items ≡ c.self.inside.nodes.items ++ no_node ∷ [] = c.push_reserved.ensures.items in
    let slice : c.as_mut_slice.result.now ≡ c.self.inside.nodes.items ++ no_node ∷ [] = c.as_mut_slice.ensures.value ∙ grown in
    let size : length (c.self.inside.nodes.items ++ no_node ∷ []) ≡ length c.self.inside.nodes.items + 1 = length_push c.self.inside.nodes.items no_node in
    let at : c.len-node.result ≡ length c.self.inside.nodes.items = c.len-node.ensures ∙ nlen in
    let now = c.push_reserved.new.self.ok.0 in let long = ap length grown in
    let cap = c.push_reserved.ensures.capacity in
    omega arith
