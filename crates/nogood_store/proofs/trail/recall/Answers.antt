use Rattle.std.proofs.Common.{◌≡◌, ◌+◌, ◌∷◌, ◌++◌, [], length, append_assoc, length-append, ap, ◌∙◌, arith}
use Rattle.nogood_store.proofs.GatherLaws.{all_go, known_room, steps_room}
use Rattle.nogood_store.proofs.trail.recall.Goals as goal

pub copy_steps-requires : goal.copy_steps-requires
copy_steps-requires c =
    let (front, n, is, steps) = c.requires.known in
    let fit = known_room c.args.list.now front n c.args.codes.now c.args.code c.args.chains.now.lists c.args.known.now is
    c.requires.stand c.requires.few c.requires.rising steps in
    let room = c.requires.room in
    omega arith

pub push_reserved-requires : goal.push_reserved-requires
push_reserved-requires c =
    let (front, n, is, steps) = c.requires.known in
    let known = c.args.known.now in
    let all = all_go c.args.list.now front n c.args.codes.now c.args.code known c.in-Some.step is steps c.in-Some.ensures.1 c.in-Some.ensures.0 in
    let fit = steps_room c.args.list.now c.args.codes.now c.args.code c.args.chains.now.lists (known ++ c.in-Some.step ∷ [])
    c.requires.stand c.requires.few c.requires.rising all.each all.distinct in
    let longer = length-append known (c.in-Some.step ∷ []) in
    let len = c.copy_steps.new.trail.ok.0 in
    let items : length c.copy_steps.new.trail.items ≡ length c.args.trail.now.items + length known =
    ap length c.copy_steps.ensures.items ∙ length-append c.args.trail.now.items known in
    let cap = c.copy_steps.ensures.capacity in
    let room = c.requires.room in
    omega arith

pub returns-in-Some-clause-steps : goal.returns-in-Some-clause-steps
returns-in-Some-clause-steps c =
    let (front, n, is, steps) = c.requires.known in
    let known = c.args.known.now in (
      known ++ c.in-Some.step ∷ [],
      c.push_reserved.ensures.items ∙ ap (λ t. t ++ c.in-Some.step ∷ []) c.copy_steps.ensures.items ∙ append_assoc c.args.trail.now.items known (c.in-Some.step ∷ []),
      all_go c.args.list.now front n c.args.codes.now c.args.code known c.in-Some.step is steps c.in-Some.ensures.1 c.in-Some.ensures.0,
    )
