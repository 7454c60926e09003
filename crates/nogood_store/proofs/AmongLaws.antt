-- The least tag among entries, and a walk along a chain.
use Rattle.std.proofs.Common.{◌≡◌, ℕ, ◌<◌, List, [], ◌∷◌, ◌++◌, length, get_or, append_assoc, append-nil, ◌⊎◌, Option, Some, None, refl, sym, ap, ◌∙◌, subst, inl, inr, arith}
use Rattle.std.proofs.lemmas.List.{get_or_default}
use Rattle.nogood_store.specs.declared.nogood.Nogood.{Nogood}
use Rattle.nogood_store.specs.Hits.{Matches, IsHit, least_of}
use Rattle.nogood_store.specs.Waits.{no_nogood, box_of, tag_of}
use Rattle.nogood_store.specs.Places.{AreFor}
use Rattle.nogood_store.specs.Among.{IsHitAmong, rest_from}
use Rattle.nogood_store.proofs.HitLaws.{lesser_of}
use Rattle.nogood_store.proofs.WaitLaws.{comes_to}
use Rattle.nogood_store.proofs.PlaceLaws.{rest_is}
use Rattle.watch_chains.specs.Lists.{Has, AreDistinct, entries_of, first_of}

pub has_push : (x e : ℕ) (es : List ℕ) → Has x (es ++ e ∷ []) → Has x es ⊎ (x ≡ e)
has_push x e [] has = elim has [ inl is ↦ inr (sym is) | inr other ↦ absurd other ]
has_push x e (y ∷ es) has = elim has [
  | inl is ↦ inl (inl is)
  | inr rest ↦ elim (has_push x e es rest) [ inl a ↦ inl (inr a) | inr a ↦ inr a ]
]

pub has_left : (x : ℕ) (es fs : List ℕ) → Has x es → Has x (es ++ fs)
has_left x [] fs has = absurd has
has_left x (y ∷ es) fs has = elim has [ inl is ↦ inl is | inr rest ↦ inr (has_left x es fs rest) ]

pub has_right : (x : ℕ) (es fs : List ℕ) → Has x fs → Has x (es ++ fs)
has_right x [] fs has = has
has_right x (y ∷ es) fs has = inr (has_right x es fs has)

pub among_skip : (list : List Nogood) (codes es : List ℕ) (e : ℕ) (least : Option ℕ) → (Matches codes (box_of list e) → ⊥) → IsHitAmong list codes es least
    → IsHitAmong list codes (es ++ e ∷ []) least
among_skip list codes es e None not hit = λ x has does. elim (has_push x e es has) [
  | inl old ↦ hit x old does
  | inr is ↦ not (subst (λ j. Matches codes (box_of list j)) is does)
]
among_skip list codes es e (Some tag) not hit = (
  (hit.0.0, has_left _ es (e ∷ []) hit.0.1, hit.0.2, hit.0.3),
  λ x has does. elim (has_push x e es has) [
    | inl old ↦ hit.1 x old does
    | inr is ↦ absurd (not (subst (λ j. Matches codes (box_of list j)) is does))
  ],
)

pub among_take : (list : List Nogood) (codes es : List ℕ) (e : ℕ) (least : Option ℕ) → Matches codes (box_of list e) → IsHitAmong list codes es least
    → IsHitAmong list codes (es ++ e ∷ []) (Some (least_of least (tag_of list e)))
among_take list codes es e None does hit = (
  (e, has_right e es (e ∷ []) (inl refl), does, refl),
  λ x has it. elim (has_push x e es has) [
    | inl old ↦ absurd (hit x old it)
    | inr is ↦ let same : tag_of list x ≡ tag_of list e = ap (tag_of list) is in omega arith
  ],
)
among_take list codes es e (Some other) does hit =
    let tag = tag_of list e in (
      (elim (lesser_of other tag) [
        | inl is ↦ (hit.0.0, has_left _ es (e ∷ []) hit.0.1, hit.0.2, hit.0.3 ∙ sym is.0)
        | inr is ↦ (e, has_right e es (e ∷ []) (inl refl), does, sym is.0)
      ]),
      λ x has it. elim (has_push x e es has) [
        | inl old ↦ let le = hit.1 x old it in omega arith
        | inr is ↦ let same : tag_of list x ≡ tag_of list e = ap (tag_of list) is in omega arith
      ],
    )

pub among_none : (list : List Nogood) (codes : List ℕ) → IsHitAmong list codes [] None
among_none list codes = λ x has does. has

hit_go : (list : List Nogood) (codes es : List ℕ) (least : Option ℕ)
    → ((k : ℕ) (d : Nogood) → k < length list → get_or list k d ≡ get_or list k no_nogood)
    → ((k : ℕ) → Has k es → k < length list)
    → ((k : ℕ) → k < length list → Matches codes (box_of list k) → Has k es)
    → IsHitAmong list codes es least → IsHit list codes least
hit_go list codes es None same known comes hit = λ k d within does.
    let it : Matches codes (box_of list k) = subst (λ (n : Nogood). Matches codes n.part) (same k d within) does in
    hit k (comes k within it) it
hit_go list codes es (Some tag) same known comes hit =
    let (e, has, does, is) = hit.0 in (
      (e, get_or list e no_nogood, known e has, same e (get_or list e no_nogood) (known e has), (does, is)),
      λ k d within does. let it : Matches codes (box_of list k) = subst (λ (n : Nogood). Matches codes n.part) (same k d within) does in
          let le = hit.1 k (comes k within it) it in
          let tag_same : (get_or list k d).tag ≡ (get_or list k no_nogood).tag = ap (λ (n : Nogood). n.tag) (same k d within) in
          omega arith,
    )

has_append : (x : ℕ) (es fs : List ℕ) → Has x (es ++ fs) → Has x es ⊎ Has x fs
has_append x [] fs has = inr has
has_append x (y ∷ es) fs has = elim has [
  | inl is ↦ inl (inl is)
  | inr rest ↦ elim (has_append x es fs rest) [ inl a ↦ inl (inr a) | inr a ↦ inr a ]
]

-- a hit among all entries that can be matched is a hit
pub hit_of : (list : List Nogood) (codes : List ℕ) (code : ℕ) (lists : List (List ℕ)) (least : Option ℕ) → AreFor list codes lists
    → IsHitAmong list (codes ++ code ∷ []) (entries_of lists 32 ++ entries_of lists (length codes)) least
    → IsHit list (codes ++ code ∷ []) least
hit_of list codes code lists least stand hit =
    let box_same : (k : ℕ) (d : Nogood) → k < length list → get_or list k d ≡ get_or list k no_nogood = λ k d within. get_or_default list k d no_nogood within in
    let comes : (k : ℕ) → k < length list → Matches (codes ++ code ∷ []) (box_of list k) → Has k (entries_of lists 32 ++ entries_of lists (length codes)) =
    λ k within does. elim (comes_to codes code (box_of list k) does) [
      | inl next ↦ has_right k (entries_of lists 32) (entries_of lists (length codes)) (subst (λ j. Has k (entries_of lists j)) next (stand.there k within))
      | inr done ↦ has_left k (entries_of lists 32) (entries_of lists (length codes)) (subst (λ j. Has k (entries_of lists j)) done (stand.there k within))
    ] in
    let known : (k : ℕ) → Has k (entries_of lists 32 ++ entries_of lists (length codes)) → k < length list =
    λ k has. elim (has_append k (entries_of lists 32) (entries_of lists (length codes)) has) [
      | inl a ↦ stand.known 32 k a
      | inr a ↦ stand.known (length codes) k a
    ] in
    hit_go list (codes ++ code ∷ []) (entries_of lists 32 ++ entries_of lists (length codes)) least box_same known comes hit

-- one entry on a walk
pub at_cursor : (es before rest : List ℕ) (cursor : Option ℕ) (e : ℕ) → es ≡ before ++ rest → cursor ≡ first_of rest → cursor ≡ Some e
    → (after : List ℕ) × (es ≡ before ++ e ∷ after) × Has e es
at_cursor es before [] cursor e split at is = absurd (cc)
at_cursor es before (y ∷ after) cursor e split at is =
    let same : y ≡ e = cc in
    let here : es ≡ before ++ e ∷ after = split ∙ ap (λ j. before ++ j ∷ after) same in
    (after, here, subst (Has e) (sym here) (has_right e before (e ∷ after) (inl refl)))

pub smaller_rest : (es before after : List ℕ) (e : ℕ) (cursor next : Option ℕ) → AreDistinct es → es ≡ before ++ e ∷ after → cursor ≡ Some e → next ≡ first_of after
    → length (rest_from next es) < length (rest_from cursor es)
smaller_rest es before after e cursor next distinct split is goes =
    let there : AreDistinct (before ++ e ∷ after) = subst AreDistinct split distinct in
    let again : (before ++ e ∷ []) ++ after ≡ before ++ e ∷ after = append_assoc before (e ∷ []) after in
    let now : rest_from cursor es ≡ e ∷ after = ap (λ c. rest_from c es) is ∙ ap (rest_from (Some e)) split ∙ rest_is before (e ∷ after) there in
    let then : rest_from next es ≡ after = ap (λ c. rest_from c es) goes ∙ ap (rest_from (first_of after)) (split ∙ sym again)
    ∙ rest_is (before ++ e ∷ []) after (subst AreDistinct (sym again) there) in
    rw (now, then) (omega arith)

pub pushed : (seen before : List ℕ) (e : ℕ) → (seen ++ before) ++ e ∷ [] ≡ seen ++ (before ++ e ∷ [])
pushed seen before e = append_assoc seen before (e ∷ [])

pub at_end : (es before rest : List ℕ) (cursor : Option ℕ) → es ≡ before ++ rest → cursor ≡ first_of rest → cursor ≡ None → before ≡ es
at_end es before [] cursor split at is = sym (split ∙ append-nil before)
at_end es before (y ∷ rest) cursor split at is = absurd (cc)
