-- A view after the first cells were found empty.
use Rattle.std.proofs.Common.{◌≡◌, ℕ, zero, suc, ◌+◌, ◌<◌, ◌≤◌, Bool, true, false, true≢false, List, [], ◌∷◌, ◌++◌, length, set, if◌then◌else◌, sym, refl, ap, ap₂, ◌∙◌, subst, arith, Contains, add-one, ltb-false, ne_eqb, length-append}
use Rattle.std.specs.Prelude.{slice_index, ◌&&◌, nat_lt, map}
use Rattle.std.proofs.lemmas.List.{map-append}
use Rattle.std.proofs.lemmas.List.Elements.{Contains-push, Contains-append_left}
use mathlib.Core.Logic.{dite}
use native.Mathlib.Decide.{ℕ_discrete}
use Rattle.atomic_table.specs.Seated.{TableId}
use Rattle.plan_rule.specs.declared.job.Job.{Job}
use Rattle.steal_rule.specs.declared.rule.View.{View}
use Rattle.steal_rule.specs.Views.{passed, swept, took, gone_after}
use Rattle.steal_rule.specs.Deques.{Owned, Reaching, raised, owned, reaching, popping, found_none, stealing, stole_none, jobs_taken}
use Rattle.steal_rule.specs.Places.{IsOwner, IsReach}

pub swept_live : (k : ℕ) (v : View) → (swept k v).live ≡ v.live
unfolding swept
swept_live zero v = refl
swept_live (suc k) v = swept_live k v

pub swept_owns : (k : ℕ) (v : View) → (swept k v).owns ≡ v.owns
unfolding swept
swept_owns zero v = refl
swept_owns (suc k) v = swept_owns k v

pub swept_parts : (k : ℕ) (v : View) → (swept k v).parts ≡ v.parts
unfolding swept
swept_parts zero v = refl
swept_parts (suc k) v = swept_parts k v

pub swept_pushed : (k : ℕ) (v : View) → (swept k v).pushed ≡ v.pushed
unfolding swept
swept_pushed zero v = refl
swept_pushed (suc k) v = swept_pushed k v

pub swept_emptied : (k : ℕ) (v : View) → (swept k v).emptied ≡ v.emptied
unfolding swept
swept_emptied zero v = refl
swept_emptied (suc k) v = swept_emptied k v

raised_more : (k : ℕ) (finds : List ℕ) → set (raised k finds) k (slice_index (raised k finds) k + 1) ≡ raised (suc k) finds
raised_more zero [] = refl
raised_more zero (n ∷ finds) = refl
raised_more (suc k) [] = refl
raised_more (suc k) (n ∷ finds) = ap (λ l. (n + 1) ∷ l) (raised_more k finds)

pub swept_finds : (k : ℕ) (v : View) → (swept k v).finds ≡ raised k v.finds
unfolding swept
swept_finds zero v = refl
swept_finds (suc k) v = ap (λ (l : List ℕ). set l k (slice_index l k + 1)) (swept_finds k v) ∙ raised_more k v.finds

-- before the last cell the look goes on
pub swept_looks : (k : ℕ) (v : View) → k < 64 → (swept k v).looks ≡ v.looks
unfolding swept
swept_looks zero v low = refl
swept_looks (suc k) v low =
    ap (λ (b : Bool). if b then (swept k v).looks + 1 else (swept k v).looks) (ne_eqb k 63 (λ z. omega arith)) ∙ swept_looks k v (omega arith)

pub swept_more : (k : ℕ) (v : View) → swept (k + 1) v ≡ passed k (swept k v)
unfolding swept
swept_more k v = ap (λ (n : ℕ). swept n v) (add-one k)

pub swept_none : (v : View) → swept 0 v ≡ v
unfolding swept
swept_none v = refl

pub all_looks : (v : View) → (swept 64 v).looks ≡ v.looks + 1
all_looks v = ap (λ (u : View). u.looks) (swept_more 63 v) ∙ ap (λ (n : ℕ). n + 1) (swept_looks 63 v (omega arith))

pub all_idle : (v : View) → (swept 64 v).idle ≡ true
all_idle v = ap (λ (u : View). u.idle) (swept_more 63 v)

gone_here : (u : View) (k j : ℕ) (b : Bool) → u.owns ≡ true → nat_lt k (length u.pushed) ≡ b → j < suc k → j < length u.pushed → (j < k → Contains u.gone j) → Contains (gone_after u k) j
gone_here u k j true owns' test low in' before = subst (λ (c : Bool). Contains (if c then u.gone ++ k ∷ [] else u.gone) j) (sym (ap₂ ◌&&◌ owns' test))
    (dite (ℕ_discrete j k) (λ same. subst (Contains (u.gone ++ k ∷ [])) (sym same) (Contains-push u.gone k)) (λ apart. Contains-append_left u.gone (k ∷ []) j (before (omega arith))))
gone_here u k j false owns' test low in' before = let far = ltb-false k (length u.pushed) test in subst (λ (c : Bool). Contains (if c then u.gone ++ k ∷ [] else u.gone) j) (sym (ap₂ ◌&&◌ owns' test)) (before (omega arith))

pub swept_gone : (k : ℕ) (v : View) → v.owns ≡ true → (j : ℕ) → j < k → j < length v.pushed → Contains (swept k v).gone j
unfolding swept
swept_gone zero v owns' j low in' = absurd (omega arith)
swept_gone (suc k) v owns' j low in' = let u = swept k v in gone_here u k j (nat_lt k (length u.pushed)) (swept_owns k v ∙ owns') refl low (subst (λ (l : List Job). j < length l) (sym (swept_pushed k v)) in') (λ l. swept_gone k v owns' j l in')

jobs_swept : (k : ℕ) (v : View) → jobs_taken (swept k v) ≡ jobs_taken v
jobs_swept k v = ap (λ (l : List (ℕ × Job)). map (λ (e : ℕ × Job). e.1) l) (swept_emptied k v)

jobs_took : (k : ℕ) (job : Job) (v : View) → jobs_taken (took k job (swept k v)) ≡ jobs_taken v ++ job ∷ []
jobs_took k job v = map-append (λ (e : ℕ × Job). e.1) (swept k v).emptied ((k, job) ∷ []) ∙ ap (λ (l : List Job). l ++ job ∷ []) (jobs_swept k v)

-- an owner or a reach after a look
pub owner_left : (v w : View) → length v.pushed ≤ 64 → IsOwner v → w ≡ swept 64 v → IsOwner w
owner_left v w few own is = subst IsOwner (sym is) record {
  live = swept_live 64 v ∙ own.live;
  owns = swept_owns 64 v ∙ own.owns;
  parts = swept_parts 64 v ∙ own.parts;
  gone = λ _ k in'. let low : k < length v.pushed = subst (λ (l : List Job). k < length l) (swept_pushed 64 v) in' in swept_gone 64 v own.owns k (omega arith) low;
}

pub owner_took : (v w : View) (k : ℕ) (job : Job) → IsOwner v → w ≡ took k job (swept k v) → IsOwner w
owner_took v w k job own is = subst IsOwner (sym is) record {
  live = swept_live k v ∙ own.live;
  owns = swept_owns k v ∙ own.owns;
  parts = swept_parts k v ∙ own.parts;
  gone = λ idle. absurd (true≢false (sym idle));
}

pub reach_left : (v w : View) → IsReach v → w ≡ swept 64 v → IsReach w
reach_left v w own is = subst IsReach (sym is) record { live = swept_live 64 v ∙ own.live; owns = swept_owns 64 v ∙ own.owns; parts = subst (λ n. 0 < n) (sym (swept_parts 64 v)) own.parts }

pub reach_took : (v w : View) (k : ℕ) (job : Job) → IsReach v → w ≡ took k job (swept k v) → IsReach w
reach_took v w k job own is = subst IsReach (sym is) record { live = swept_live k v ∙ own.live; owns = swept_owns k v ∙ own.owns; parts = subst (λ n. 0 < n) (sym (swept_parts k v)) own.parts }

-- the same as contracts see it
pub pop_none : (t t' : TableId) (number : ℕ) (v w : View) (o : Owned) → t' ≡ t → w ≡ swept 64 v → owned t number v ≡ o → owned t' number w ≡ found_none o
pop_none t t' number v w o te we is =
    (λ i. owned (te i) number (we i))
    ∙ (λ i. record { deque = t; number = number; pushed = swept_pushed 64 v i; popped = jobs_swept 64 v i; finds = swept_finds 64 v i; idle = all_idle v i })
    ∙ ap found_none is

pub pop_job : (t t' : TableId) (number k : ℕ) (job : Job) (v w : View) (o : Owned) → t' ≡ t → w ≡ took k job (swept k v) → owned t number v ≡ o → owned t' number w ≡ popping o k job
pop_job t t' number k job v w o te we is =
    (λ i. owned (te i) number (we i))
    ∙ (λ i. record { deque = t; number = number; pushed = swept_pushed k v i; popped = jobs_took k job v i; finds = swept_finds k v i; idle = false })
    ∙ ap (λ (x : Owned). popping x k job) is

pub steal_none : (t t' : TableId) (number : ℕ) (v w : View) (r : Reaching) → t' ≡ t → w ≡ swept 64 v → reaching t number v ≡ r → reaching t' number w ≡ stole_none r
steal_none t t' number v w r te we is =
    (λ i. reaching (te i) number (we i))
    ∙ (λ i. record { deque = t; number = number; parts = swept_parts 64 v i; stolen = jobs_swept 64 v i; finds = swept_finds 64 v i; steals = all_looks v i; empty = all_idle v i })
    ∙ ap stole_none is

pub steal_job : (t t' : TableId) (number k : ℕ) (job : Job) (v w : View) (r : Reaching) → k < 64 → t' ≡ t → w ≡ took k job (swept k v) → reaching t number v ≡ r → reaching t' number w ≡ stealing r k job
steal_job t t' number k job v w r low te we is =
    (λ i. reaching (te i) number (we i))
    ∙ (λ i. record { deque = t; number = number; parts = swept_parts k v i; stolen = jobs_took k job v i; finds = swept_finds k v i; steals = swept_looks k v low i + 1; empty = false })
    ∙ ap (λ (x : Reaching). stealing x k job) is

pub taken_length : (v : View) → length (jobs_taken v) ≡ length v.emptied
taken_length v = map_length v.emptied
  where
    map_length : (es : List (ℕ × Job)) → length (map (λ (e : ℕ × Job). e.1) es) ≡ length es
    map_length [] = refl
    map_length (e ∷ es) = ap suc (map_length es)

pub took_length : (k : ℕ) (job : Job) (v w : View) → w ≡ took k job (swept k v) → length w.emptied ≡ length v.emptied + 1
took_length k job v w is = ap (λ (u : View). length u.emptied) is ∙ length-append (swept k v).emptied ((k, job) ∷ []) ∙ ap (λ (l : List (ℕ × Job)). length l + 1) (swept_emptied k v)
