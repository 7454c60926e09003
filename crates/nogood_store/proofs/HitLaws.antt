-- The lesser of two tags, and the last box.
use Rattle.std.proofs.Common.{◌≡◌, ℕ, suc, ◌-◌, ◌<◌, ◌≤◌, List, [], ◌∷◌, length, min, get_or, Some, ◌⊎◌, inl, inr, refl, ap, ◌∙◌, arith}
use Rattle.std.proofs.lemmas.Bool.Decides.{leb_tells}
use Rattle.nogood_store.specs.declared.nogood.Nogood.{Nogood}
use Rattle.nogood_store.specs.Hits.{last_tag}

pub lesser_of : (other tag : ℕ) → ((min other tag ≡ other) × (other ≤ tag)) ⊎ ((min other tag ≡ tag) × (tag ≤ other))
lesser_of other tag = elim (leb_tells other tag) [ inl t ↦ inl (let l = t.1 in (omega arith, l)) | inr f ↦ inr (let l = f.1 in (omega arith, omega arith)) ]

-- the last of a list that is not empty
pub last_is : (list : List Nogood) (d : Nogood) → 0 < length list → last_tag list ≡ Some (get_or list (length list - 1) d).tag
last_is [] d some = absurd (omega arith)
last_is (n ∷ []) d some = refl
last_is (n ∷ m ∷ rest) d some = last_is (m ∷ rest) d (omega arith)
    ∙ ap (λ k. Some (get_or (n ∷ m ∷ rest) k d).tag) (let e : suc (suc (length rest) - 1) ≡ suc (suc (length rest)) - 1 = omega arith in e)
