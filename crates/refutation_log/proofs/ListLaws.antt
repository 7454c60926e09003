-- Reading the pieces of a list one after the other, as a loop does.
use Rattle.std.proofs.Common.{◌≡◌, ℕ, ◌+◌, List, [], ◌∷◌, ◌++◌, Option, Some, None, option_map, refl, sym, ap, ◌∙◌, append_assoc}
use Rattle.text_parts.specs.Parts.{◌>>=◌, cut}
use Rattle.refutation_log.specs.declared.fault.Unread.{Unread}
use Rattle.refutation_log.specs.declared.fault.Unread.TheVariants as unread
use Rattle.refutation_log.specs.Reading.{next_of, ascending, IsUnread}
use Rattle.text_parts.proofs.CutLaws.{pieces, cut-takes, split-whole}

-- what was read before, and what is still read
abbrev pub with_front : {X : Type 0} → List X → Option (List X) → Option (List X)
with_front front read = option_map (λ xs. front ++ xs) read

regroup : {X : Type 0} (front : List X) (x : X) (read : Option (List X)) → with_front front (read >>= λ xs. Some (x ∷ xs)) ≡ with_front (front ++ x ∷ []) read
regroup {X} front x None = refl
regroup {X} front x (Some xs) = ap (λ (ys : List X). Some ys) (simp append_assoc)

module _ {X : Type 0} (key : X → ℕ) (read : List ℕ → Option X) (n : ℕ) (front : List X) (rest : List ℕ) (total : Option (List X))
    (so_far : with_front front (ascending key read n (pieces 44 rest)) ≡ total) where
  pub reads_more : (piece more : List ℕ) (x : X) → cut 44 rest ≡ Some (piece, more) → next_of key read n piece ≡ Some x
      → with_front (front ++ x ∷ []) (ascending key read (key x + 1) (pieces 44 more)) ≡ total
  reads_more piece more x cuts found =
      let parts = cut-takes 44 rest (piece, more) cuts in
      let one : with_front front (ascending key read n (pieces 44 rest)) ≡ with_front (front ++ x ∷ []) (ascending key read (key x + 1) (pieces 44 more)) =
      rw (parts.split, found) (regroup front x (ascending key read (key x + 1) (pieces 44 more))) in
      sym one ∙ so_far

  pub reads_none : (piece more : List ℕ) → cut 44 rest ≡ Some (piece, more) → next_of key read n piece ≡ None → total ≡ None
  reads_none piece more cuts found =
      let parts = cut-takes 44 rest (piece, more) cuts in
      let one : with_front front (ascending key read n (pieces 44 rest)) ≡ None = rw (parts.split, found) refl in
      sym so_far ∙ one

  pub reads_last : (x : X) → cut 44 rest ≡ None → next_of key read n rest ≡ Some x → total ≡ Some (front ++ x ∷ [])
  reads_last x cuts found =
      let one : with_front front (ascending key read n (pieces 44 rest)) ≡ Some (front ++ x ∷ []) = rw (split-whole 44 rest cuts, found) refl in
      sym so_far ∙ one

  pub reads_no_last : cut 44 rest ≡ None → next_of key read n rest ≡ None → total ≡ None
  reads_no_last cuts found =
      let one : with_front front (ascending key read n (pieces 44 rest)) ≡ None = rw (split-whole 44 rest cuts, found) refl in
      sym so_far ∙ one

-- a fault of a part is one of the whole
pub unread_so : {X Y : Type 0} (e : Unread) (part : Option X) (whole : Option Y) → (part ≡ None → whole ≡ None) → IsUnread e part → IsUnread e whole
unread_so unread.Form part whole f h = f h
unread_so unread.Memory part whole f h = tt
