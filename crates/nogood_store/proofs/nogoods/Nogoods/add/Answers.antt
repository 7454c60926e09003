use Rattle.std.proofs.Common.{◌≡◌, ◌+◌, ◌*◌, ◌≤◌, ◌<◌, [], ◌∷◌, ◌++◌, length, take, ap, sym, ◌∙◌, subst, arith}
use Rattle.std.proofs.lemmas.List.Sums.{sum_by_push}
use Rattle.plan_rule.specs.Boxes.{IsAscending}
use Rattle.nogood_store.specs.declared.nogood.Nogood.{Nogood}
use Rattle.nogood_store.specs.declared.trail.Trail.{Trail}
use Rattle.nogood_store.specs.Waits.{waits, Rising}
use Rattle.nogood_store.specs.Places.{literals_of}
use Rattle.nogood_store.specs.Entered.{stage, AreMarks, AreEntered}
use Rattle.nogood_store.proofs.WaitLaws.{waits_le}
use Rattle.nogood_store.proofs.HistoryLaws.{rewound_all}
use Rattle.nogood_store.proofs.EnterLaws.{reserved, open_le}
use Rattle.nogood_store.proofs.AddLaws.{added, rising_of, length-box, literals_le, first_for}
use Rattle.watch_chains.specs.Lists.{put_first}
use Rattle.nogood_store.proofs.nogoods.Nogoods.add.Goals as goal

pub overflow_cast-literals : goal.overflow_cast-literals
overflow_cast-literals c =
    let is = c.self.invariant in
    let was = c.self.inside in
    let list = was.list.items in
    let codes = take was.depth was.codes in
    let marks = was.trail.marks in
    let trail = was.trail.steps.items in
    let rising : Rising 0 c.args.part = rising_of c.args.part (subst IsAscending c.literals.ensures.value c.literals.ensures.ordered.ascending) c.requires.blocks in
    let room : length list < 65536 = subst (λ n. n < 65536) (sym (ap (λ v. length v.nogoods) c.self.view_is)) c.requires.few in
    let counted = is.counted in
    let total : was.literals + length c.literals.result.now ≤ 65536 * 32 =
    let a = literals_le list is.entered.rising in let b = length-box c.args.part rising in
    let n : length c.literals.result.now ≡ length c.args.part = ap length c.literals.ensures.value in omega arith in
    omega arith

pub reserve-requires-clause-moves_fit : goal.reserve-requires-clause-moves_fit
reserve-requires-clause-moves_fit c =
    let is = c.self.invariant in
    let was = c.self.inside in
    let list = was.list.items in
    let codes = take was.depth was.codes in
    let marks = was.trail.marks in
    let trail = was.trail.steps.items in
    let rising : Rising 0 c.args.part = rising_of c.args.part (subst IsAscending c.literals.ensures.value c.literals.ensures.ordered.ascending) c.requires.blocks in
    let room : length list < 65536 = subst (λ n. n < 65536) (sym (ap (λ v. length v.nogoods) c.self.view_is)) c.requires.few in
    let counted = is.counted in
    let total : was.literals + length c.literals.result.now ≤ 65536 * 32 =
    let a = literals_le list is.entered.rising in let b = length-box c.args.part rising in
    let n : length c.literals.result.now ≡ length c.args.part = ap length c.literals.ensures.value in omega arith in
    let opened = open_le list codes marks trail was.chains is.entered in
    let all = literals_le list is.entered.rising in
    omega arith

pub add-requires-clause-settled : goal.add-requires-clause-settled
add-requires-clause-settled c = (rewound_all c.reserve.new.self c.rewind.new.chains c.rewind.ensures.back).0

pub add-requires-clause-chain_in : goal.add-requires-clause-chain_in
add-requires-clause-chain_in c =
    let is = c.self.invariant in
    let was = c.self.inside in
    let list = was.list.items in
    let codes = take was.depth was.codes in
    let marks = was.trail.marks in
    let trail = was.trail.steps.items in
    let rising : Rising 0 c.args.part = rising_of c.args.part (subst IsAscending c.literals.ensures.value c.literals.ensures.ordered.ascending) c.requires.blocks in
    let old = c.reserve.new.self in
    let now = c.rewind.new.chains in
    let kept : AreEntered list codes marks trail old = reserved list codes marks trail was.chains old is.entered
    c.reserve.ensures.lists c.reserve.ensures.past c.reserve.ensures.entries c.reserve.ensures.kept_moves in
    let (none, start) = rewound_all old now c.rewind.ensures.back in
    let goes : c.first_block-chain.result ≡ waits [] c.args.part = c.first_block-chain.ensures ∙ ap (waits []) c.literals-2.ensures.value in
    let below : c.first_block-chain.result < 33 = let w = waits_le [] 0 c.args.part rising in omega arith in
    let chains = (first_for list codes marks trail old kept).chains in
    let same = ap length start in
    omega arith

pub enter_again-requires-clause-entered : goal.enter_again-requires-clause-entered
enter_again-requires-clause-entered c =
    let is = c.self.invariant in
    let was = c.self.inside in
    let list = was.list.items in
    let codes = take was.depth was.codes in
    let marks = was.trail.marks in
    let trail = was.trail.steps.items in
    let rising : Rising 0 c.args.part = rising_of c.args.part (subst IsAscending c.literals.ensures.value c.literals.ensures.ordered.ascending) c.requires.blocks in
    let old = c.reserve.new.self in
    let now = c.rewind.new.chains in
    let kept : AreEntered list codes marks trail old = reserved list codes marks trail was.chains old is.entered
    c.reserve.ensures.lists c.reserve.ensures.past c.reserve.ensures.entries c.reserve.ensures.kept_moves in
    let (none, start) = rewound_all old now c.rewind.ensures.back in
    let goes : c.first_block-chain.result ≡ waits [] c.args.part = c.first_block-chain.ensures ∙ ap (waits []) c.literals-2.ensures.value in
    let below : c.first_block-chain.result < 33 = let w = waits_le [] 0 c.args.part rising in omega arith in
    let n : Nogood = record { part = c.args.part; tag = c.args.tag } in
    let grown : c.push.new.self.items ≡ list ++ n ∷ [] = c.in_ok-push.ensures.items in
    let e : c.add.result ≡ length list = c.add.ensures.number ∙ c.rewind.ensures.entries ∙ kept.entries in
    let lists : c.add.new.self.lists ≡ put_first (stage old 0) (length list) c.first_block-chain.result =
    c.add.ensures.lists ∙ ap (λ x. put_first now.lists x c.first_block-chain.result) e ∙ ap (λ l. put_first l (length list) c.first_block-chain.result) start in
    let entries : c.add.new.self.entries ≡ length list + 1 = c.add.ensures.entries ∙ ap (λ x. x + 1) (c.rewind.ensures.entries ∙ kept.entries) in
    let all : literals_of (list ++ n ∷ []) ≡ literals_of list + length n.part = sum_by_push (λ m. length m.part) list n in
    let part_len : length c.literals.result.now ≡ length c.args.part = ap length c.literals.ensures.value in
    let counted = is.counted in
    let made : was.literals + length c.literals.result.now ≤ old.spare_moves = c.in_ok-reserve.ensures.spare_moves in
    let back = c.rewind.ensures.spare_moves in
    let spare = c.add.ensures.spare_moves in
    let zero : length now.past ≡ 0 = ap length none in
    let marked : AreMarks c.swap.new.x.marks 0 = rw (ap (λ (t : Trail). t.marks) c.swap.ensures.x_after) is.spare_marked in
    rw (c.as_slice.ensures.value, grown, c.clear.ensures.items)
    (added list n codes marks c.swap.new.x.marks trail old c.add.new.self c.first_block-chain.result kept marked rising goes below lists c.add.ensures.past entries (omega arith))
