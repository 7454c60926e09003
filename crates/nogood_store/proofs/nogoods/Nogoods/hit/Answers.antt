use Rattle.std.proofs.Common.{◌≡◌, [], ◌∷◌, ◌++◌, length, take, ap, sym, ◌∙◌, subst}
use Rattle.nogood_store.specs.Among.{IsHitAmong}
use Rattle.nogood_store.proofs.AmongLaws.{hit_of, among_none}
use Rattle.nogood_store.proofs.EnterLaws.{entered_now}
use Rattle.watch_chains.specs.Lists.{entries_of}
use Rattle.nogood_store.proofs.nogoods.Nogoods.hit.Goals as goal

pub least_on-matched-requires-clause-stand : goal.least_on-matched-requires-clause-stand
least_on-matched-requires-clause-stand c =
    rw c.as_slice.ensures.value (entered_now c.self.inside.list.items (take c.self.inside.depth c.self.inside.codes)
    c.self.inside.trail.marks c.self.inside.trail.steps.items c.self.inside.chains c.self.invariant.entered)

pub least_on-requires-clause-stand : goal.least_on-requires-clause-stand
least_on-requires-clause-stand c =
    rw c.as_slice-2.ensures.value (entered_now c.self.inside.list.items (take c.self.inside.depth c.self.inside.codes)
    c.self.inside.trail.marks c.self.inside.trail.steps.items c.self.inside.chains c.self.invariant.entered)

pub returns : goal.returns
returns c =
    let list = c.self.inside.list.items in
    let codes = take c.self.inside.depth c.self.inside.codes in
    let lists = c.self.inside.chains.lists in
    let code = c.args.code in
    let at : c.from.result ≡ length codes = c.from.ensures ∙ c.requires.next ∙ sym (ap (λ v. length v.prefix) c.self.view_is) in
    let first : IsHitAmong list (codes ++ code ∷ []) ([] ++ entries_of lists 32) c.least_on-matched.result =
    subst (λ l. IsHitAmong l (codes ++ code ∷ []) ([] ++ entries_of lists 32) c.least_on-matched.result) c.as_slice.ensures.value
    (c.least_on-matched.ensures [] (among_none c.as_slice.result.now (codes ++ code ∷ []))) in
    let second : IsHitAmong list (codes ++ code ∷ []) (entries_of lists 32 ++ entries_of lists (length codes)) c.least_on.result =
    subst (λ b. IsHitAmong list (codes ++ code ∷ []) (entries_of lists 32 ++ entries_of lists b) c.least_on.result) at
    (subst (λ l. IsHitAmong l (codes ++ code ∷ []) (entries_of lists 32 ++ entries_of lists c.from.result) c.least_on.result) c.as_slice-2.ensures.value
    (c.least_on.ensures (entries_of lists 32)
    (subst (λ l. IsHitAmong l (codes ++ code ∷ []) (entries_of lists 32) c.least_on-matched.result) (sym c.as_slice-2.ensures.value) first))) in
    rw (← c.self.view_is)
    (hit_of list codes code lists c.least_on.result
    (entered_now list codes c.self.inside.trail.marks c.self.inside.trail.steps.items c.self.inside.chains c.self.invariant.entered) second)
