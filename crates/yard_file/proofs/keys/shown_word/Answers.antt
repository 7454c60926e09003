use Rattle.std.proofs.Common.{◌<◌, length, ◌∙◌, arith, sym}
use Rattle.std.proofs.lemmas.Iterator.{YieldsList-from_chars}
use Rattle.std.proofs.lemmas.List.{length_push}
use Rattle.std.proofs.lemmas.Iterator.Consumers.{YieldsList-turn, YieldsList-end}
use Rattle.std.proofs.lemmas.Grind.{common_steps}
use Rattle.std.proofs.lemmas.Bool.Decides.{nat_tests}
use Rattle.yard_file.proofs.WordLaws.{shown_more, none_left}
use Rattle.yard_file.proofs.keys.shown_word.Goals as goal

pub loop-c-preserved : goal.loop-c-preserved
loop-c-preserved c =
    let t = YieldsList-turn (YieldsList-from_chars c.args.key.now c.utf8.key cc) c.loop-c.yielded _ c.loop-c.yielded_by _ _ c.in-Some.c c.in-Some.is c.next.ensures.steps in
    let n = length_push c.loop-c.yielded c.in-Some.c in
    let room : length c.loop-c.yielded < 32 = grind (arith, nat_tests, c.is_full.ensures.value, c.is_full.ensures.fits, c.loop-c.invariant) in
    let e = shown_more _ c.loop-c.word.items _ _ room t.0 t.1 in
    (rw n (grind (arith, common_steps, c.push.ensures.len, c.loop-c.invariant)), omega arith, rw (c.push.ensures.items, c.shown.ensures, n) (e ∙ c.loop-c.invariant.2))

pub returns-in-None : goal.returns-in-None
returns-in-None c =
    let t = YieldsList-end (YieldsList-from_chars c.args.key.now c.utf8.key cc) c.loop-c.yielded _ c.loop-c.yielded_by _ _ c.in-None.is c.next.ensures.steps in
    sym (none_left _ _ _ t.1) ∙ c.loop-c.invariant.2
