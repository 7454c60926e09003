use Rattle.std.proofs.Common.{◌≡◌, ◌+◌, ◌-◌, ◌<◌, ◌^◌, length, arith, ap, sym, ◌∙◌, [], ◌∷◌, ◌++◌, reverse, min, take, drop}
use Rattle.watch_chains.specs.declared.nodes.Node.{Node}
use Rattle.watch_chains.specs.declared.nodes.Move.{Move}
use Rattle.watch_chains.specs.Nodes.{prev, shifted, lists_of}
use Rattle.watch_chains.proofs.RingLaws.{next_loose}
use Rattle.watch_chains.proofs.SoundLaws.{rings_of, written_back, lists_moved, sound_moved, past_moved, length-shifted, reverse_push}
use Rattle.watch_chains.proofs.chains.Chains.move_to.Goals as goal

pub overflow_add-node : goal.overflow_add-node
overflow_add-node c =
    let rings = rings_of c.self.inside.chains c.self.inside.nodes.items (reverse c.self.inside.moves.items) c.self.invariant.0 in
    let entries : c.self.inside.nodes.len - c.self.inside.chains ≡ c.args.self.now.entries = ap (λ v. v.entries) c.self.view_is in
    let spare : min c.self.inside.nodes.cap (2 ^ 32) - c.self.inside.nodes.len ≡ c.args.self.now.spare_entries = ap (λ v. v.spare_entries) c.self.view_is in
    let spare_moves : min c.self.inside.moves.cap (2 ^ 32 - 1) - c.self.inside.moves.len ≡ c.args.self.now.spare_moves = ap (λ v. v.spare_moves) c.self.view_is in
    let nlen = c.self.inside.nodes.ok.0 in
    let mlen = c.self.inside.moves.ok.0 in
    let heads = rings.heads in
    let few = rings.few in
    omega arith

pub shift-requires-clause-after_in : goal.shift-requires-clause-after_in
shift-requires-clause-after_in c =
    let rings = rings_of c.self.inside.chains c.self.inside.nodes.items (reverse c.self.inside.moves.items) c.self.invariant.0 in
    let ic : c.args.chain < c.self.inside.chains =
    let size : length (lists_of c.self.inside.chains c.self.inside.nodes.items) ≡ length c.args.self.now.lists = ap (λ v. length v.lists) c.self.view_is in
    let one = rings.one_each in omega arith in
    let entries : c.self.inside.nodes.len - c.self.inside.chains ≡ c.args.self.now.entries = ap (λ v. v.entries) c.self.view_is in
    let spare : min c.self.inside.nodes.cap (2 ^ 32) - c.self.inside.nodes.len ≡ c.args.self.now.spare_entries = ap (λ v. v.spare_entries) c.self.view_is in
    let spare_moves : min c.self.inside.moves.cap (2 ^ 32 - 1) - c.self.inside.moves.len ≡ c.args.self.now.spare_moves = ap (λ v. v.spare_moves) c.self.view_is in
    let nlen = c.self.inside.nodes.ok.0 in
    let mlen = c.self.inside.moves.ok.0 in
    let heads = rings.heads in
    let few = rings.few in
    let ein : c.self.inside.chains + c.args.entry < length c.self.inside.nodes.items = omega arith in
    let slice : c.as_mut_slice.result.now ≡ c.self.inside.nodes.items = c.as_mut_slice.ensures.value in
    rw slice (omega arith)

pub shift-requires-clause-next_in : goal.shift-requires-clause-next_in
shift-requires-clause-next_in c =
    let rings = rings_of c.self.inside.chains c.self.inside.nodes.items (reverse c.self.inside.moves.items) c.self.invariant.0 in
    let entries : c.self.inside.nodes.len - c.self.inside.chains ≡ c.args.self.now.entries = ap (λ v. v.entries) c.self.view_is in
    let spare : min c.self.inside.nodes.cap (2 ^ 32) - c.self.inside.nodes.len ≡ c.args.self.now.spare_entries = ap (λ v. v.spare_entries) c.self.view_is in
    let spare_moves : min c.self.inside.moves.cap (2 ^ 32 - 1) - c.self.inside.moves.len ≡ c.args.self.now.spare_moves = ap (λ v. v.spare_moves) c.self.view_is in
    let nlen = c.self.inside.nodes.ok.0 in
    let mlen = c.self.inside.moves.ok.0 in
    let heads = rings.heads in
    let few = rings.few in
    let ein : c.self.inside.chains + c.args.entry < length c.self.inside.nodes.items = omega arith in
    let slice : c.as_mut_slice.result.now ≡ c.self.inside.nodes.items = c.as_mut_slice.ensures.value in
    rw slice (rings.next_in (c.self.inside.chains + c.args.entry) ein)

pub shift-requires-clause-prev_in : goal.shift-requires-clause-prev_in
shift-requires-clause-prev_in c =
    let rings = rings_of c.self.inside.chains c.self.inside.nodes.items (reverse c.self.inside.moves.items) c.self.invariant.0 in
    let entries : c.self.inside.nodes.len - c.self.inside.chains ≡ c.args.self.now.entries = ap (λ v. v.entries) c.self.view_is in
    let spare : min c.self.inside.nodes.cap (2 ^ 32) - c.self.inside.nodes.len ≡ c.args.self.now.spare_entries = ap (λ v. v.spare_entries) c.self.view_is in
    let spare_moves : min c.self.inside.moves.cap (2 ^ 32 - 1) - c.self.inside.moves.len ≡ c.args.self.now.spare_moves = ap (λ v. v.spare_moves) c.self.view_is in
    let nlen = c.self.inside.nodes.ok.0 in
    let mlen = c.self.inside.moves.ok.0 in
    let heads = rings.heads in
    let few = rings.few in
    let ein : c.self.inside.chains + c.args.entry < length c.self.inside.nodes.items = omega arith in
    let slice : c.as_mut_slice.result.now ≡ c.self.inside.nodes.items = c.as_mut_slice.ensures.value in
    rw slice (rings.prev_in (c.self.inside.chains + c.args.entry) ein)

pub shift-requires-clause-loose : goal.shift-requires-clause-loose
shift-requires-clause-loose c =
    let rings = rings_of c.self.inside.chains c.self.inside.nodes.items (reverse c.self.inside.moves.items) c.self.invariant.0 in
    let ic : c.args.chain < c.self.inside.chains =
    let size : length (lists_of c.self.inside.chains c.self.inside.nodes.items) ≡ length c.args.self.now.lists = ap (λ v. length v.lists) c.self.view_is in
    let one = rings.one_each in omega arith in
    let entries : c.self.inside.nodes.len - c.self.inside.chains ≡ c.args.self.now.entries = ap (λ v. v.entries) c.self.view_is in
    let spare : min c.self.inside.nodes.cap (2 ^ 32) - c.self.inside.nodes.len ≡ c.args.self.now.spare_entries = ap (λ v. v.spare_entries) c.self.view_is in
    let spare_moves : min c.self.inside.moves.cap (2 ^ 32 - 1) - c.self.inside.moves.len ≡ c.args.self.now.spare_moves = ap (λ v. v.spare_moves) c.self.view_is in
    let nlen = c.self.inside.nodes.ok.0 in
    let mlen = c.self.inside.moves.ok.0 in
    let heads = rings.heads in
    let few = rings.few in
    let ein : c.self.inside.chains + c.args.entry < length c.self.inside.nodes.items = omega arith in
    let slice : c.as_mut_slice.result.now ≡ c.self.inside.nodes.items = c.as_mut_slice.ensures.value in
    rw slice (next_loose c.self.inside.chains c.self.inside.nodes.items (lists_of c.self.inside.chains c.self.inside.nodes.items) c.args.entry c.args.chain rings ein (omega arith) (omega arith))

pub shift-requires-clause-few : goal.shift-requires-clause-few
shift-requires-clause-few c =
    let rings = rings_of c.self.inside.chains c.self.inside.nodes.items (reverse c.self.inside.moves.items) c.self.invariant.0 in
    let entries : c.self.inside.nodes.len - c.self.inside.chains ≡ c.args.self.now.entries = ap (λ v. v.entries) c.self.view_is in
    let spare : min c.self.inside.nodes.cap (2 ^ 32) - c.self.inside.nodes.len ≡ c.args.self.now.spare_entries = ap (λ v. v.spare_entries) c.self.view_is in
    let spare_moves : min c.self.inside.moves.cap (2 ^ 32 - 1) - c.self.inside.moves.len ≡ c.args.self.now.spare_moves = ap (λ v. v.spare_moves) c.self.view_is in
    let nlen = c.self.inside.nodes.ok.0 in
    let mlen = c.self.inside.moves.ok.0 in
    let heads = rings.heads in
    let few = rings.few in
    let ein : c.self.inside.chains + c.args.entry < length c.self.inside.nodes.items = omega arith in
    let slice : c.as_mut_slice.result.now ≡ c.self.inside.nodes.items = c.as_mut_slice.ensures.value in
    rw slice few

pub invariant_of-self : goal.invariant_of-self
invariant_of-self c =
    let rings = rings_of c.self.inside.chains c.self.inside.nodes.items (reverse c.self.inside.moves.items) c.self.invariant.0 in
    let ic : c.args.chain < c.self.inside.chains =
    let size : length (lists_of c.self.inside.chains c.self.inside.nodes.items) ≡ length c.args.self.now.lists = ap (λ v. length v.lists) c.self.view_is in
    let one = rings.one_each in omega arith in
    let entries : c.self.inside.nodes.len - c.self.inside.chains ≡ c.args.self.now.entries = ap (λ v. v.entries) c.self.view_is in
    let spare : min c.self.inside.nodes.cap (2 ^ 32) - c.self.inside.nodes.len ≡ c.args.self.now.spare_entries = ap (λ v. v.spare_entries) c.self.view_is in
    let spare_moves : min c.self.inside.moves.cap (2 ^ 32 - 1) - c.self.inside.moves.len ≡ c.args.self.now.spare_moves = ap (λ v. v.spare_moves) c.self.view_is in
    let nlen = c.self.inside.nodes.ok.0 in
    let mlen = c.self.inside.moves.ok.0 in
    let heads = rings.heads in
    let few = rings.few in
    let ein : c.self.inside.chains + c.args.entry < length c.self.inside.nodes.items = omega arith in
    let slice : c.as_mut_slice.result.now ≡ c.self.inside.nodes.items = c.as_mut_slice.ensures.value in
    let table : take c.self.inside.nodes.len (c.shift.new.nodes ++ drop (length c.shift.new.nodes) c.self.inside.nodes.items) ≡ shifted c.self.inside.nodes.items (c.self.inside.chains + c.args.entry) c.args.chain =
    let to : c.shift.new.nodes ≡ shifted c.self.inside.nodes.items (c.self.inside.chains + c.args.entry) c.args.chain = c.shift.ensures ∙ ap (λ t. shifted t (c.self.inside.chains + c.args.entry) c.args.chain) slice in
    let size : length c.shift.new.nodes ≡ c.self.inside.nodes.len =
    ap length to ∙ length-shifted c.self.inside.chains c.self.inside.nodes.items (reverse c.self.inside.moves.items) c.args.entry c.args.chain c.self.invariant.0 ein (omega arith) (omega arith) ∙ sym nlen in
    written_back c.shift.new.nodes c.self.inside.nodes.items c.self.inside.nodes.len size ∙ to in
    let after_is : c.read-after.result.prev ≡ prev c.self.inside.nodes.items (c.self.inside.chains + c.args.entry) =
    ap (λ (n : Node). n.prev) c.read-after.ensures ∙ ap (λ t. prev t (c.self.inside.chains + c.args.entry)) c.as_slice.ensures.value in
    let m : Move = record { node = c.self.inside.chains + c.args.entry; after = prev c.self.inside.nodes.items (c.self.inside.chains + c.args.entry) } in
    let pushed : c.push_reserved.new.self.items ≡ c.self.inside.moves.items ++ m ∷ [] =
    c.push_reserved.ensures.items ∙ ap (λ p. c.self.inside.moves.items ++ record { node = c.self.inside.chains + c.args.entry; after = p } ∷ []) after_is in
    let moves : reverse c.push_reserved.new.self.items ≡ m ∷ reverse c.self.inside.moves.items =
    ap reverse pushed ∙ reverse_push c.self.inside.moves.items m in (
      rw (table, moves) (sound_moved c.self.inside.chains c.self.inside.nodes.items (reverse c.self.inside.moves.items) c.args.entry c.args.chain c.self.invariant.0 ein ic),
      (let len = c.push_reserved.new.self.ok.0 in let long = c.push_reserved.ensures.len in omega arith),
    )

pub returns-clause-lists : goal.returns-clause-lists
returns-clause-lists c =
    let rings = rings_of c.self.inside.chains c.self.inside.nodes.items (reverse c.self.inside.moves.items) c.self.invariant.0 in
    let ic : c.args.chain < c.self.inside.chains =
    let size : length (lists_of c.self.inside.chains c.self.inside.nodes.items) ≡ length c.args.self.now.lists = ap (λ v. length v.lists) c.self.view_is in
    let one = rings.one_each in omega arith in
    let entries : c.self.inside.nodes.len - c.self.inside.chains ≡ c.args.self.now.entries = ap (λ v. v.entries) c.self.view_is in
    let spare : min c.self.inside.nodes.cap (2 ^ 32) - c.self.inside.nodes.len ≡ c.args.self.now.spare_entries = ap (λ v. v.spare_entries) c.self.view_is in
    let spare_moves : min c.self.inside.moves.cap (2 ^ 32 - 1) - c.self.inside.moves.len ≡ c.args.self.now.spare_moves = ap (λ v. v.spare_moves) c.self.view_is in
    let nlen = c.self.inside.nodes.ok.0 in
    let mlen = c.self.inside.moves.ok.0 in
    let heads = rings.heads in
    let few = rings.few in
    let ein : c.self.inside.chains + c.args.entry < length c.self.inside.nodes.items = omega arith in
    let slice : c.as_mut_slice.result.now ≡ c.self.inside.nodes.items = c.as_mut_slice.ensures.value in
    let table : take c.self.inside.nodes.len (c.shift.new.nodes ++ drop (length c.shift.new.nodes) c.self.inside.nodes.items) ≡ shifted c.self.inside.nodes.items (c.self.inside.chains + c.args.entry) c.args.chain =
    let to : c.shift.new.nodes ≡ shifted c.self.inside.nodes.items (c.self.inside.chains + c.args.entry) c.args.chain = c.shift.ensures ∙ ap (λ t. shifted t (c.self.inside.chains + c.args.entry) c.args.chain) slice in
    let size : length c.shift.new.nodes ≡ c.self.inside.nodes.len =
    ap length to ∙ length-shifted c.self.inside.chains c.self.inside.nodes.items (reverse c.self.inside.moves.items) c.args.entry c.args.chain c.self.invariant.0 ein (omega arith) (omega arith) ∙ sym nlen in
    written_back c.shift.new.nodes c.self.inside.nodes.items c.self.inside.nodes.len size ∙ to in
    let after_is : c.read-after.result.prev ≡ prev c.self.inside.nodes.items (c.self.inside.chains + c.args.entry) =
    ap (λ (n : Node). n.prev) c.read-after.ensures ∙ ap (λ t. prev t (c.self.inside.chains + c.args.entry)) c.as_slice.ensures.value in
    let m : Move = record { node = c.self.inside.chains + c.args.entry; after = prev c.self.inside.nodes.items (c.self.inside.chains + c.args.entry) } in
    let pushed : c.push_reserved.new.self.items ≡ c.self.inside.moves.items ++ m ∷ [] =
    c.push_reserved.ensures.items ∙ ap (λ p. c.self.inside.moves.items ++ record { node = c.self.inside.chains + c.args.entry; after = p } ∷ []) after_is in
    let moves : reverse c.push_reserved.new.self.items ≡ m ∷ reverse c.self.inside.moves.items =
    ap reverse pushed ∙ reverse_push c.self.inside.moves.items m in
    rw (table, ← c.self.view_is) (lists_moved c.self.inside.chains c.self.inside.nodes.items (reverse c.self.inside.moves.items) c.args.entry c.args.chain c.self.invariant.0 ein ic)

pub returns-clause-past : goal.returns-clause-past
returns-clause-past c =
    let rings = rings_of c.self.inside.chains c.self.inside.nodes.items (reverse c.self.inside.moves.items) c.self.invariant.0 in
    let ic : c.args.chain < c.self.inside.chains =
    let size : length (lists_of c.self.inside.chains c.self.inside.nodes.items) ≡ length c.args.self.now.lists = ap (λ v. length v.lists) c.self.view_is in
    let one = rings.one_each in omega arith in
    let entries : c.self.inside.nodes.len - c.self.inside.chains ≡ c.args.self.now.entries = ap (λ v. v.entries) c.self.view_is in
    let spare : min c.self.inside.nodes.cap (2 ^ 32) - c.self.inside.nodes.len ≡ c.args.self.now.spare_entries = ap (λ v. v.spare_entries) c.self.view_is in
    let spare_moves : min c.self.inside.moves.cap (2 ^ 32 - 1) - c.self.inside.moves.len ≡ c.args.self.now.spare_moves = ap (λ v. v.spare_moves) c.self.view_is in
    let nlen = c.self.inside.nodes.ok.0 in
    let mlen = c.self.inside.moves.ok.0 in
    let heads = rings.heads in
    let few = rings.few in
    let ein : c.self.inside.chains + c.args.entry < length c.self.inside.nodes.items = omega arith in
    let slice : c.as_mut_slice.result.now ≡ c.self.inside.nodes.items = c.as_mut_slice.ensures.value in
    let table : take c.self.inside.nodes.len (c.shift.new.nodes ++ drop (length c.shift.new.nodes) c.self.inside.nodes.items) ≡ shifted c.self.inside.nodes.items (c.self.inside.chains + c.args.entry) c.args.chain =
    let to : c.shift.new.nodes ≡ shifted c.self.inside.nodes.items (c.self.inside.chains + c.args.entry) c.args.chain = c.shift.ensures ∙ ap (λ t. shifted t (c.self.inside.chains + c.args.entry) c.args.chain) slice in
    let size : length c.shift.new.nodes ≡ c.self.inside.nodes.len =
    ap length to ∙ length-shifted c.self.inside.chains c.self.inside.nodes.items (reverse c.self.inside.moves.items) c.args.entry c.args.chain c.self.invariant.0 ein (omega arith) (omega arith) ∙ sym nlen in
    written_back c.shift.new.nodes c.self.inside.nodes.items c.self.inside.nodes.len size ∙ to in
    let after_is : c.read-after.result.prev ≡ prev c.self.inside.nodes.items (c.self.inside.chains + c.args.entry) =
    ap (λ (n : Node). n.prev) c.read-after.ensures ∙ ap (λ t. prev t (c.self.inside.chains + c.args.entry)) c.as_slice.ensures.value in
    let m : Move = record { node = c.self.inside.chains + c.args.entry; after = prev c.self.inside.nodes.items (c.self.inside.chains + c.args.entry) } in
    let pushed : c.push_reserved.new.self.items ≡ c.self.inside.moves.items ++ m ∷ [] =
    c.push_reserved.ensures.items ∙ ap (λ p. c.self.inside.moves.items ++ record { node = c.self.inside.chains + c.args.entry; after = p } ∷ []) after_is in
    let moves : reverse c.push_reserved.new.self.items ≡ m ∷ reverse c.self.inside.moves.items =
    ap reverse pushed ∙ reverse_push c.self.inside.moves.items m in
    rw (table, moves, ← c.self.view_is) (past_moved c.self.inside.chains c.self.inside.nodes.items (reverse c.self.inside.moves.items) c.args.entry c.args.chain c.self.invariant.0 ein ic)

pub returns-clause-spare_moves : goal.returns-clause-spare_moves
returns-clause-spare_moves c =
    let rings = rings_of c.self.inside.chains c.self.inside.nodes.items (reverse c.self.inside.moves.items) c.self.invariant.0 in
    let entries : c.self.inside.nodes.len - c.self.inside.chains ≡ c.args.self.now.entries = ap (λ v. v.entries) c.self.view_is in
    let spare : min c.self.inside.nodes.cap (2 ^ 32) - c.self.inside.nodes.len ≡ c.args.self.now.spare_entries = ap (λ v. v.spare_entries) c.self.view_is in
    let spare_moves : min c.self.inside.moves.cap (2 ^ 32 - 1) - c.self.inside.moves.len ≡ c.args.self.now.spare_moves = ap (λ v. v.spare_moves) c.self.view_is in
    let nlen = c.self.inside.nodes.ok.0 in
    let mlen = c.self.inside.moves.ok.0 in
    let heads = rings.heads in
    let few = rings.few in
    let now = c.push_reserved.new.self.ok.0 in let long = c.push_reserved.ensures.len in
    let cap = c.push_reserved.ensures.capacity in
    omega arith
