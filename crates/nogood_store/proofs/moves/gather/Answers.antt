use Rattle.std.proofs.Common.{◌≡◌, ◌+◌, ◌<◌, [], ◌∷◌, ◌++◌, length, append_assoc, append-nil, length-append, refl, sym, ap, ◌∙◌, subst, inl, arith}
use Rattle.std.proofs.lemmas.List.{get_or_default}
use Rattle.nogood_store.specs.declared.nogood.Nogood.{Nogood}
use Rattle.nogood_store.specs.declared.step.Step.{Step}
use Rattle.nogood_store.specs.Waits.{no_nogood, box_of, waits}
use Rattle.nogood_store.specs.Steps.{IsStep}
use Rattle.nogood_store.proofs.AmongLaws.{at_cursor, smaller_rest}
use Rattle.nogood_store.proofs.PlaceLaws.{distinct_before}
use Rattle.nogood_store.proofs.GatherLaws.{gather_none, gather_stay, gather_go, steps_room}
use Rattle.watch_chains.specs.Lists.{AreDistinct, entries_of}
use Rattle.nogood_store.proofs.moves.gather.Goals as goal
use Rattle.nogood_store.proofs.moves.gather.Goals.{then-chain-block, else-chain-block}

pub loop-cursor-init : goal.loop-cursor-init
loop-cursor-init c = (
  [],
  entries_of c.args.chains.now.lists (length c.args.codes.now),
  [],
  refl,
  c.first-cursor.ensures.first,
  sym (append-nil c.args.trail.now.items),
  gather_none c.args.list.now c.args.codes.now c.args.code,
  refl,
)

pub bounds-list-entry : goal.bounds-list-entry
bounds-list-entry c =
    let list = c.args.list.now in
    let codes = c.args.codes.now in
    let lists = c.args.chains.now.lists in
    let e = c.in-Some.entry in
    let (before, rest, steps, split, cur, items, is, cap) = c.loop-cursor.invariant in
    let (after, at, has) = at_cursor (entries_of lists (length codes)) before rest c.loop-cursor.cursor e split cur c.in-Some.is in
    let within : e < length list = c.requires.stand.known (length codes) e has in
    within

pub waits_on-requires-clause-rising : goal.waits_on-requires-clause-rising
waits_on-requires-clause-rising c =
    let list = c.args.list.now in
    let codes = c.args.codes.now in
    let lists = c.args.chains.now.lists in
    let e = c.in-Some.entry in
    let (before, rest, steps, split, cur, items, is, cap) = c.loop-cursor.invariant in
    let (after, at, has) = at_cursor (entries_of lists (length codes)) before rest c.loop-cursor.cursor e split cur c.in-Some.is in
    let within : e < length list = c.requires.stand.known (length codes) e has in
    let box : c.literals.result.now ≡ box_of list e = c.literals.ensures.value
    ∙ ap (λ (n : Nogood). n.part) (get_or_default list e c.index-list-entry.result no_nogood within) in
    rw box (c.requires.rising e within)

pub waits_on-requires-clause-matched : goal.waits_on-requires-clause-matched
waits_on-requires-clause-matched c =
    let list = c.args.list.now in
    let codes = c.args.codes.now in
    let lists = c.args.chains.now.lists in
    let e = c.in-Some.entry in
    let (before, rest, steps, split, cur, items, is, cap) = c.loop-cursor.invariant in
    let (after, at, has) = at_cursor (entries_of lists (length codes)) before rest c.loop-cursor.cursor e split cur c.in-Some.is in
    let within : e < length list = c.requires.stand.known (length codes) e has in
    let box : c.literals.result.now ≡ box_of list e = c.literals.ensures.value
    ∙ ap (λ (n : Nogood). n.part) (get_or_default list e c.index-list-entry.result no_nogood within) in
    rw box (inl (c.requires.stand.only (length codes) e has))

pub push_reserved-requires : goal.push_reserved-requires
push_reserved-requires c =
    let list = c.args.list.now in
    let codes = c.args.codes.now in
    let lists = c.args.chains.now.lists in
    let e = c.in-Some.entry in
    let (before, rest, steps, split, cur, items, is, cap) = c.loop-cursor.invariant in
    let (after, at, has) = at_cursor (entries_of lists (length codes)) before rest c.loop-cursor.cursor e split cur c.in-Some.is in
    let within : e < length list = c.requires.stand.known (length codes) e has in
    let box : c.literals.result.now ≡ box_of list e = c.literals.ensures.value
    ∙ ap (λ (n : Nogood). n.part) (get_or_default list e c.index-list-entry.result no_nogood within) in
    let goes : c.from-chain.result ≡ waits (codes ++ c.args.code ∷ []) (box_of list e) =
    c.from-chain.ensures ∙ c.waits_on.ensures.waits ∙ ap (waits (codes ++ c.args.code ∷ [])) box in
    let s : Step = record { entry = e; chain = c.from-chain.result } in
    let distinct : AreDistinct (before ++ e ∷ after) = subst AreDistinct at c.first-cursor.ensures.distinct in
    let step : IsStep list codes c.args.code s = record {
      known = within;
      waited = c.requires.stand.only (length codes) e has;
      goes = sym goes;
      other = c.if-chain-block.true;
    } in
    let more = gather_go list codes c.args.code before steps s is step (distinct_before e before after distinct) in
    let fit = steps_room list codes c.args.code lists (steps ++ s ∷ []) c.requires.stand c.requires.few c.requires.rising more.each more.distinct in
    let longer = length-append steps (s ∷ []) in
    let len = c.loop-cursor.trail.ok.0 in
    let size : length c.loop-cursor.trail.items ≡ length c.args.trail.now.items + length steps = ap length items ∙ length-append c.args.trail.now.items steps in
    let room = c.requires.room in
    omega arith

pub next-cursor-requires : goal.next-cursor-requires
next-cursor-requires c =
    let list = c.args.list.now in
    let codes = c.args.codes.now in
    let lists = c.args.chains.now.lists in
    let e = c.in-Some.entry in
    let (before, rest, steps, split, cur, items, is, cap) = c.loop-cursor.invariant in
    let (after, at, has) = at_cursor (entries_of lists (length codes)) before rest c.loop-cursor.cursor e split cur c.in-Some.is in
    let within : e < length list = c.requires.stand.known (length codes) e has in
    let entries = c.requires.entries in
    omega arith

pub loop-cursor-smaller : goal.loop-cursor-smaller
loop-cursor-smaller c =
    let list = c.args.list.now in
    let codes = c.args.codes.now in
    let lists = c.args.chains.now.lists in
    let e = c.in-Some.entry in
    let (before, rest, steps, split, cur, items, is, cap) = c.loop-cursor.invariant in
    let (after, at, has) = at_cursor (entries_of lists (length codes)) before rest c.loop-cursor.cursor e split cur c.in-Some.is in
    let within : e < length list = c.requires.stand.known (length codes) e has in
    smaller_rest (entries_of lists (length codes)) before after e c.loop-cursor.cursor c.next-cursor.result
    c.first-cursor.ensures.distinct at c.in-Some.is (c.next-cursor.ensures.next (length codes) before after at)

pub loop-cursor-preserved : goal.loop-cursor-preserved
loop-cursor-preserved c =
    let list = c.args.list.now in
    let codes = c.args.codes.now in
    let lists = c.args.chains.now.lists in
    let e = c.in-Some.entry in
    let (before, rest, steps, split, cur, items, is, cap) = c.loop-cursor.invariant in
    let (after, at, has) = at_cursor (entries_of lists (length codes)) before rest c.loop-cursor.cursor e split cur c.in-Some.is in
    let within : e < length list = c.requires.stand.known (length codes) e has in
    let box : c.literals.result.now ≡ box_of list e = c.literals.ensures.value
    ∙ ap (λ (n : Nogood). n.part) (get_or_default list e c.index-list-entry.result no_nogood within) in
    let goes : c.from-chain.result ≡ waits (codes ++ c.args.code ∷ []) (box_of list e) =
    c.from-chain.ensures ∙ c.waits_on.ensures.waits ∙ ap (waits (codes ++ c.args.code ∷ [])) box in
    let s : Step = record { entry = e; chain = c.from-chain.result } in
    let distinct : AreDistinct (before ++ e ∷ after) = subst AreDistinct at c.first-cursor.ensures.distinct in
    let split_next = at ∙ sym (append_assoc before (e ∷ []) after) in
    let goes_next = c.next-cursor.ensures.next (length codes) before after at in
    elim c.if-chain-block.branch [
      | then-chain-block w ↦ rw w.trail-is (
        before ++ e ∷ [],
        after,
        steps ++ s ∷ [],
        split_next,
        goes_next,
        w.push_reserved.ensures.items ∙ ap (λ t. t ++ s ∷ []) items ∙ append_assoc c.args.trail.now.items steps (s ∷ []),
        gather_go list codes c.args.code before steps s is (record {
          known = within;
          waited = c.requires.stand.only (length codes) e has;
          goes = sym goes;
          other = w.if-chain-block.true;
        }) (distinct_before e before after distinct),
        w.push_reserved.ensures.capacity ∙ cap,
      )
      | else-chain-block w ↦ rw w.trail-is (
        before ++ e ∷ [],
        after,
        steps,
        split_next,
        goes_next,
        items,
        gather_stay list codes c.args.code e before steps is (sym goes ∙ w.if-chain-block.false),
        cap,
      )
    ]
