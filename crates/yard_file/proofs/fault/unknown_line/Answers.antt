use Rattle.std.proofs.Common.{append_assoc, ◌∙◌, ap, ◌++◌, List, [], ◌∷◌, ℕ}
use Rattle.yard_file.proofs.fault.unknown_line.Goals as goal

pub returns : goal.returns
returns c =
    let start = c.in_ok-format.ensures.ok in
    rw (c.in_ok-push.ensures.items, c.in_ok-extend_from_slice.ensures.items, c.into_bytes-text.ensures.value) (ap (λ (t : List ℕ). (t ++ c.args.word.now) ++ 10 ∷ []) start ∙ simp append_assoc)
