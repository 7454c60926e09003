use Rattle.std.proofs.Common.{◌≡◌, ◌<◌, [], ◌∷◌, ◌++◌, length, get_or, append-nil, append_assoc, refl, sym, ap, ◌∙◌, subst, inl, inr, arith}
use Rattle.std.proofs.lemmas.List.{get_or_default}
use Rattle.nogood_store.specs.declared.nogood.Nogood.{Nogood}
use Rattle.nogood_store.specs.Waits.{no_nogood, box_of, tag_of, waits}
use Rattle.nogood_store.specs.Among.{IsHitAmong}
use Rattle.nogood_store.proofs.WaitLaws.{matched_waits, waits_matched}
use Rattle.nogood_store.proofs.AmongLaws.{among_skip, among_take, at_cursor, smaller_rest, pushed, at_end}
use Rattle.watch_chains.specs.Lists.{entries_of}
use Rattle.nogood_store.proofs.hits.least_on.Goals as goal
use Rattle.nogood_store.proofs.hits.least_on.Goals.{then-waits_on-eq32, else-waits_on-eq32}

pub loop-cursor-init : goal.loop-cursor-init
loop-cursor-init c = (
  [],
  entries_of c.args.chains.now.lists c.args.chain,
  refl,
  c.first-cursor.ensures.first,
  λ seen hit. subst (λ es. IsHitAmong c.args.list.now (c.args.codes.now ++ c.args.code ∷ []) es c.args.least) (sym (append-nil seen)) hit,
)

pub bounds-list-entry : goal.bounds-list-entry
bounds-list-entry c =
    let (before, rest, split, cur, hit) = c.loop-cursor.invariant in
    let (after, at, has) = at_cursor (entries_of c.args.chains.now.lists c.args.chain) before rest c.loop-cursor.cursor c.in-Some.entry split cur c.in-Some.is in
    c.requires.stand.known c.args.chain c.in-Some.entry has

pub waits_on-requires-clause-rising : goal.waits_on-requires-clause-rising
waits_on-requires-clause-rising c =
    let (before, rest, split, cur, hit) = c.loop-cursor.invariant in
    let (after, at, has) = at_cursor (entries_of c.args.chains.now.lists c.args.chain) before rest c.loop-cursor.cursor c.in-Some.entry split cur c.in-Some.is in
    let within = c.requires.stand.known c.args.chain c.in-Some.entry has in
    let box : c.literals.result.now ≡ box_of c.args.list.now c.in-Some.entry = c.literals.ensures.value
    ∙ ap (λ (n : Nogood). n.part) (c.index-list-entry.is ∙ get_or_default c.args.list.now c.in-Some.entry c.index-list-entry.result no_nogood within) in
    rw box (c.requires.rising c.in-Some.entry within)

pub waits_on-requires-clause-matched : goal.waits_on-requires-clause-matched
waits_on-requires-clause-matched c =
    let (before, rest, split, cur, hit) = c.loop-cursor.invariant in
    let (after, at, has) = at_cursor (entries_of c.args.chains.now.lists c.args.chain) before rest c.loop-cursor.cursor c.in-Some.entry split cur c.in-Some.is in
    let within = c.requires.stand.known c.args.chain c.in-Some.entry has in
    let box : c.literals.result.now ≡ box_of c.args.list.now c.in-Some.entry = c.literals.ensures.value
    ∙ ap (λ (n : Nogood). n.part) (c.index-list-entry.is ∙ get_or_default c.args.list.now c.in-Some.entry c.index-list-entry.result no_nogood within) in
    let waits_at = c.requires.stand.only c.args.chain c.in-Some.entry has in
    rw box (elim c.requires.chain_is [ inl a ↦ inl (waits_at ∙ a) | inr a ↦ inr (waits_at ∙ a) ])

pub next-cursor-requires : goal.next-cursor-requires
next-cursor-requires c =
    let (before, rest, split, cur, hit) = c.loop-cursor.invariant in
    let (after, at, has) = at_cursor (entries_of c.args.chains.now.lists c.args.chain) before rest c.loop-cursor.cursor c.in-Some.entry split cur c.in-Some.is in
    let within = c.requires.stand.known c.args.chain c.in-Some.entry has in
    let entries = c.requires.entries in
    omega arith

pub loop-cursor-smaller : goal.loop-cursor-smaller
loop-cursor-smaller c =
    let (before, rest, split, cur, hit) = c.loop-cursor.invariant in
    let (after, at, has) = at_cursor (entries_of c.args.chains.now.lists c.args.chain) before rest c.loop-cursor.cursor c.in-Some.entry split cur c.in-Some.is in
    smaller_rest (entries_of c.args.chains.now.lists c.args.chain) before after c.in-Some.entry c.loop-cursor.cursor c.next-cursor.result
    c.first-cursor.ensures.distinct at c.in-Some.is (c.next-cursor.ensures.next c.args.chain before after at)

pub loop-cursor-preserved : goal.loop-cursor-preserved
loop-cursor-preserved c =
    let (before, rest, split, cur, hit) = c.loop-cursor.invariant in
    let e = c.in-Some.entry in
    let list = c.args.list.now in
    let codes = c.args.codes.now ++ c.args.code ∷ [] in
    let (after, at, has) = at_cursor (entries_of c.args.chains.now.lists c.args.chain) before rest c.loop-cursor.cursor c.in-Some.entry split cur c.in-Some.is in
    let within : e < length list = c.requires.stand.known c.args.chain e has in
    let item : c.index-list-entry.result ≡ get_or list e no_nogood = c.index-list-entry.is ∙ get_or_default list e c.index-list-entry.result no_nogood within in
    let box : c.literals.result.now ≡ box_of list e = c.literals.ensures.value ∙ ap (λ (n : Nogood). n.part) item in
    let tag : c.index-list-entry.result.tag ≡ tag_of list e = ap (λ (n : Nogood). n.tag) item in
    let test : c.waits_on.result ≡ waits codes (box_of list e) = c.waits_on.ensures.waits ∙ ap (waits codes) box in (
      before ++ e ∷ [],
      after,
      at ∙ sym (append_assoc before (e ∷ []) after),
      c.next-cursor.ensures.next c.args.chain before after at,
      λ seen old. subst (λ es. IsHitAmong list codes es c.if-waits_on-eq32.least) (pushed seen before e)
          (elim c.if-waits_on-eq32.branch [
            | then-waits_on-eq32 w ↦ rw (w.least-is, w.lesser.ensures, tag)
                (among_take list codes (seen ++ before) e c.loop-cursor.least
                (waits_matched codes 0 (box_of list e) (c.requires.rising e within) (sym test ∙ w.if-waits_on-eq32.true)) (hit seen old))
            | else-waits_on-eq32 w ↦ rw w.least-is
                (among_skip list codes (seen ++ before) e c.loop-cursor.least
                (λ does. w.if-waits_on-eq32.false (test ∙ matched_waits codes (box_of list e) does)) (hit seen old))
          ]),
    )

pub returns : goal.returns
returns c =
    let (before, rest, split, cur, hit) = c.loop-cursor.invariant in
    let all = at_end (entries_of c.args.chains.now.lists c.args.chain) before rest c.loop-cursor.cursor split cur c.in_default.is in
    λ seen old. subst (λ es. IsHitAmong c.args.list.now (c.args.codes.now ++ c.args.code ∷ []) (seen ++ es) c.loop-cursor.least) all (hit seen old)
