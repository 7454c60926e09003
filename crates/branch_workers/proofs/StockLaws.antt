-- A worker's store from one search to the next.
use Rattle.std.proofs.Common.{◌≡◌, ℕ, suc, ◌+◌, ◌-◌, ◌^◌, ◌<◌, ◌≤◌, List, [], ◌∷◌, ◌++◌, length, Option, Some, None, refl, sym, ap, ◌∙◌, subst, inl, inr, arith, length-append}
use Rattle.std.specs.List.{All, Contains}
use Rattle.std.proofs.lemmas.List.Elements.{All-contains, All-contains_itself, All-nil, All-weaker, Contains-append_right}
use Rattle.std.proofs.lemmas.Option.{same_Some}
use Rattle.plan_rule.specs.Choices.{Choices}
use Rattle.plan_rule.specs.Laws.{AreSmall}
use Rattle.plan_rule.specs.Reports.{IsBar}
use Rattle.refutation_log.specs.declared.record.Record.{Record}
use Rattle.nogood_store.specs.declared.nogood.Nogood.{Nogood}
use Rattle.nogood_store.specs.Hits.{PlainStore, last_tag}
use Rattle.branch_kernel.specs.Clean.{IsClean}
use Rattle.branch_kernel.specs.Growth.{Ends}
use Rattle.branch_kernel.specs.Rivals.{Settles}
use Rattle.branch_kernel.specs.States.{State, state}
use Rattle.branch_kernel.specs.Stored.{IsTagged, IsStored, IsFresh}
use Rattle.branch_kernel.proofs.GrowthLaws.{clean_falls, settles_falls, stored_ends}
use Rattle.branch_workers.specs.Stock.{IsPostable, IsStocked}

-- what is at or below all keys that are seen now was at or below all that were seen before
pub all_below : (n : ℕ) (seen seen' : List ℕ) → ((k : ℕ) → Contains seen k → Contains seen' k) → All (λ k. n ≤ k) seen' → All (λ k. n ≤ k) seen
all_below n seen seen' kept low =
    All-weaker (Contains seen) (λ k. n ≤ k) (λ k i. All-contains (λ k. n ≤ k) seen' k low (kept k i)) seen (All-contains_itself seen)

-- a store serves as well once more is seen
pub stocked_seen : (c : Choices) (log : List Record) (store : PlainStore) (seen seen' : List ℕ) → ((k : ℕ) → Contains seen k → Contains seen' k)
    → IsStocked c log store seen → IsStocked c log store seen'
stocked_seen c log store seen seen' kept h = record {
  depth = h.depth;
  stored = h.stored;
  settles = λ n low. h.settles n (all_below n seen seen' kept low);
  clean = λ n fits low. h.clean n fits (all_below n seen seen' kept low);
}

-- an empty store serves
pub stocked_none : (c : Choices) (log : List Record) (store : PlainStore) (seen : List ℕ) → store.nogoods ≡ [] → store.prefix ≡ [] → IsStocked c log store seen
stocked_none c log store seen none no_prefix = record {
  depth = no_prefix;
  stored = subst (IsStored c log) (sym none) (All-nil (IsTagged c log));
  settles = λ n low. subst (All (λ (e : Nogood). Settles c n None e.part)) (sym none) (All-nil (λ (e : Nogood). Settles c n None e.part));
  clean = λ n fits low. subst (All (λ (e : Nogood). IsClean c n log e.tag)) (sym none) (All-nil (λ (e : Nogood). IsClean c n log e.tag));
}

-- a bar fits a u64
pub bar_fits : (c : Choices) (bar : ℕ) → AreSmall c → IsBar c bar → bar < 2 ^ 64
bar_fits c bar small is = elim is [ inl greatest ↦ omega arith | inr some_p ↦ (let (p, feasible, e) = some_p in let k = small.key p feasible.is_plan in omega arith) ]

-- a store after a search that ended with a bar that was seen
pub stocked_after : (c : Choices) (bar bar' : ℕ) (best : Option (List ℕ)) (old new : List Record) (store store' : PlainStore) (seen seen' : List ℕ) → bar < 2 ^ 64 → bar' < 2 ^ 64
    → All (λ k. bar ≤ k) seen → Contains seen' bar' → store'.prefix ≡ [] → Ends c (state bar None old store) (state bar' best new store') → IsStocked c old store seen → IsStocked c new store' seen'
stocked_after c bar bar' best old new store store' seen seen' fits fits' low some_seen no_prefix ends h = record {
  depth = no_prefix;
  stored = stored_ends c (state bar None old store) (state bar' best new store') ends h.stored;
  settles = λ n below. All-weaker (λ (e : Nogood). Settles c bar' None e.part) (λ (e : Nogood). Settles c n None e.part)
      (λ e s. settles_falls c bar' n e.part (All-contains (λ k. n ≤ k) seen' bar' below some_seen) s) store'.nogoods (ends.settles (h.settles bar low));
  clean = λ n within below. All-weaker (λ (e : Nogood). IsClean c bar' new e.tag) (λ (e : Nogood). IsClean c n new e.tag)
      (λ e s. clean_falls c bar' n new e.tag fits' (All-contains (λ k. n ≤ k) seen' bar' below some_seen) s) store'.nogoods (ends.clean (h.clean bar fits low));
}

-- the box that stands last is one of those that were added
last_added : (old added : List Nogood) (tag : ℕ) → 0 < length added → last_tag (old ++ added) ≡ Some tag → (e : Nogood) × Contains added e × (e.tag ≡ tag)
last_added [] [] tag some is = absurd (omega arith)
last_added [] (e ∷ []) tag some is = (e, (0, omega arith, refl), same_Some e.tag tag is)
last_added [] (e ∷ f ∷ added) tag some is =
    let (g, (k, l, at), same) = last_added [] (f ∷ added) tag (omega arith) is in (g, (suc k, omega arith, at), same)
last_added (e ∷ []) [] tag some is = absurd (omega arith)
last_added (e ∷ []) (f ∷ added) tag some is = last_added [] (f ∷ added) tag (omega arith) is
last_added (e ∷ f ∷ old) added tag some is = last_added (f ∷ old) added tag some is

-- where a box was stored, its record may be posted
pub postable_after : (c : Choices) (bar bar' : ℕ) (best : Option (List ℕ)) (old new : List Record) (store store' : PlainStore) (seen : List ℕ) (tag : ℕ) → bar < 2 ^ 64
    → All (λ k. bar ≤ k) seen → Ends c (state bar None old store) (state bar' best new store') → IsStocked c old store seen
    → length store.nogoods < length store'.nogoods → last_tag store'.nogoods ≡ Some tag → IsPostable c bar' new tag
postable_after c bar bar' best old new store store' seen tag fits low ends h more last =
    let (added, is, fresh) = ends.stored in
    let longer : length store'.nogoods ≡ length store.nogoods + length added = ap length is ∙ length-append store.nogoods added in
    let (e, inside, tag_is) = last_added store.nogoods added tag (omega arith) (subst (λ l. last_tag l ≡ Some tag) is last) in
    let within : Contains store'.nogoods e = subst (λ l. Contains l e) (sym is) (Contains-append_right store.nogoods added e inside) in
    let f = All-contains (IsFresh c (length old) new) added e fresh inside in
    subst (IsPostable c bar' new) tag_is record {
      record_is = f.record_is;
      at = f.at;
      settles = subst (Settles c bar' None) (sym f.result) (All-contains (λ (e : Nogood). Settles c bar' None e.part) store'.nogoods e (ends.settles (h.settles bar low)) within);
      clean = All-contains (λ (e : Nogood). IsClean c bar' new e.tag) store'.nogoods e (ends.clean (h.clean bar fits low)) within;
    }
