-- What the rings say of their lists, and soundness through moves.
use Rattle.std.proofs.Common.{◌≡◌, ◌≢◌, ℕ, zero, suc, ◌+◌, ◌-◌, ◌<◌, ◌≤◌, ◌^◌, List, [], ◌∷◌, ◌++◌, length, reverse, replicate, take, drop, ◌⊎◌, Some, None, refl, sym, ap, ◌∙◌, subst, inl, inr, arith, length-append, append_assoc, zero-add}
use Rattle.std.proofs.lemmas.Bool.Decides.{leb_tells}
use Rattle.std.proofs.lemmas.List.{take_at, nil_from_length, get_or_append_left, length_push, get_or_past, reverse-append, length-replicate, get_or-replicate}
use Rattle.std.proofs.lemmas.List.Sums.{sum_by-cons}
use Rattle.std.specs.Prelude.{sum_by}
use Rattle.watch_chains.specs.declared.nodes.Node.{Node}
use Rattle.watch_chains.specs.declared.nodes.Move.{Move}
use Rattle.watch_chains.specs.Lists.{AreDistinct, Has, Lacks, entries_of, first_of, moved, put_first}
use Rattle.watch_chains.specs.Nodes.{no_node, next, prev, chain, unlinked, linked, shifted, Path, lists_of, past_of, AreRings, IsSound}
use Rattle.watch_chains.proofs.NodeLaws.{has_left, has_joined}
use Rattle.watch_chains.proofs.RingLaws.{may_leave, rings_moved, rings_added, lists_are, next_loose}
use Rattle.watch_chains.proofs.RestoreLaws.{restored}

pub rings_of : (c : ℕ) (ns : List Node) (ms : List Move) → IsSound c ns ms → AreRings c ns (lists_of c ns)
rings_of c ns [] sound = sound
rings_of c ns (m ∷ ms) sound = sound.0

pub length-past : (c : ℕ) (ns : List Node) (ms : List Move) → length (past_of c ns ms) ≡ length ms
length-past c ns [] = refl
length-past c ns (m ∷ ms) = ap suc (length-past c (shifted ns m.node m.after) ms)

-- either below, or not
cases_le : (i c : ℕ) → (i < c) ⊎ (c ≤ i)
cases_le i c = elim (leb_tells c i) [ inl t ↦ inr t.1 | inr f ↦ inl f.1 ]

has_there : (before after : List ℕ) (e : ℕ) → Has e (before ++ e ∷ after)
has_there [] after e = inl refl
has_there (y ∷ before) after e = inr (has_there before after e)

sum-none : (c : ℕ) → sum_by (length {A = ℕ}) (replicate c []) ≡ 0
sum-none zero = refl
sum-none (suc c) = sum_by-cons (length {A = ℕ}) [] (replicate c []) ∙ zero-add _ ∙ sum-none c

entries_past : (lists : List (List ℕ)) (i : ℕ) → length lists ≤ i → entries_of lists i ≡ []
entries_past lists i h = get_or_past lists i [] h

path_chain : (c : ℕ) (ns : List Node) (i k e : ℕ) (es : List ℕ) → Path c ns i k es → Has e es → chain ns (c + e) ≡ i
path_chain c ns i k e [] path has = absurd has
path_chain c ns i k e (y ∷ es) path has = elim has [
  | inl same ↦ ap (λ j. chain ns (c + j)) (sym same) ∙ path.2
  | inr rest ↦ path_chain c ns i (c + y) e es path.3 rest
]

-- a chain that has an entry is the entry's
pub chain_alone : (c : ℕ) (ns : List Node) (lists : List (List ℕ)) (e i : ℕ) → AreRings c ns lists → Has e (entries_of lists i) → i ≡ chain ns (c + e)
chain_alone c ns lists e i rings has = elim (cases_le i c) [
  | inl less ↦ sym (path_chain c ns i i e (entries_of lists i) (rings.paths i less) has)
  | inr past ↦ absurd (subst (Has e) (entries_past lists i (let one = rings.one_each in omega arith)) has)
]

-- where a path goes next
pub head_none : (c : ℕ) (ns : List Node) (i k : ℕ) (es : List ℕ) → i < c → Path c ns i k es → next ns k ≡ i → first_of es ≡ None
head_none c ns i k [] ic path at = refl
head_none c ns i k (y ∷ es) ic path at = absurd (let e = path.0 in omega arith)

pub head_some : (c : ℕ) (ns : List Node) (i k : ℕ) (es : List ℕ) → Path c ns i k es → next ns k ≢ i → (c ≤ next ns k) × (first_of es ≡ Some (next ns k - c))
head_some c ns i k [] path other = absurd (other path.0)
head_some c ns i k (y ∷ es) path other = let at = path.0 in (omega arith, ap Some (let e : y ≡ next ns k - c = omega arith in e))

path_after : (c : ℕ) (ns : List Node) (i k e : ℕ) (before after : List ℕ) → Path c ns i k (before ++ e ∷ after) → Path c ns i (c + e) after
path_after c ns i k e [] after path = path.3
path_after c ns i k e (y ∷ before) after path = path_after c ns i (c + y) e before after path.3

path_unique : (c : ℕ) (ns : List Node) (i k : ℕ) (es fs : List ℕ) → i < c → Path c ns i k es → Path c ns i k fs → length es ≡ length fs
path_unique c ns i k [] [] ic p q = refl
path_unique c ns i k [] (z ∷ fs) ic p q = absurd (let a = p.0 in let b = q.0 in omega arith)
path_unique c ns i k (y ∷ es) [] ic p q = absurd (let a = p.0 in let b = q.0 in omega arith)
path_unique c ns i k (y ∷ es) (z ∷ fs) ic p q =
    let same : z ≡ y = let a = p.0 in let b = q.0 in omega arith in
    ap suc (path_unique c ns i (c + y) es fs ic p.3 (subst (λ j. Path c ns i (c + j) fs) same q.3))

pub lacks_if : (e : ℕ) (es : List ℕ) → (Has e es → ⊥) → Lacks e es
lacks_if e [] h = tt
lacks_if e (y ∷ es) h = ((λ same. h (inl same)), lacks_if e es (λ rest. h (inr rest)))

has_split : (e : ℕ) (es : List ℕ) → Has e es → (before : List ℕ) × (after : List ℕ) × (es ≡ before ++ e ∷ after)
has_split e [] h = absurd h
has_split e (y ∷ es) h = elim h [
  | inl same ↦ ([], es, ap (λ j. j ∷ es) same)
  | inr rest ↦ let s = has_split e es rest in (y ∷ s.0, s.1, ap (λ l. y ∷ l) s.2)
]

longer : (b : List ℕ) (e : ℕ) (a : List ℕ) → length (b ++ e ∷ a) ≡ length b + suc (length a)
longer b e a = length-append b (e ∷ a)

-- an entry stands once in its chain
pub once : (c : ℕ) (ns : List Node) (i k e : ℕ) (before after : List ℕ) → i < c → Path c ns i k (before ++ e ∷ after) → Lacks e before × Lacks e after
once c ns i k e before after ic path =
    let rest = path_after c ns i k e before after path in (
      lacks_if e before (λ has.
          let s = has_split e before has in
          let again : Path c ns i k (s.0 ++ e ∷ (s.1 ++ e ∷ after)) =
          subst (Path c ns i k) (ap (λ l. l ++ e ∷ after) s.2 ∙ append_assoc s.0 (e ∷ s.1) (e ∷ after)) path in
          let same = path_unique c ns i (c + e) (s.1 ++ e ∷ after) after ic (path_after c ns i k e s.0 (s.1 ++ e ∷ after) again) rest in
          let long = longer s.1 e after in
          omega arith),
      lacks_if e after (λ has.
          let s = has_split e after has in
          let again : Path c ns i (c + e) (s.0 ++ e ∷ s.1) = subst (Path c ns i (c + e)) s.2 rest in
          let same = path_unique c ns i (c + e) s.1 after ic (path_after c ns i (c + e) e s.0 s.1 again) rest in
          let long = longer s.0 e s.1 in
          let size = ap length s.2 in
          omega arith),
    )

splits_in : (c : ℕ) (ns : List Node) (lists : List (List ℕ)) (i e : ℕ) (before after : List ℕ) → AreRings c ns lists → entries_of lists i ≡ before ++ e ∷ after
    → (i < c) × Path c ns i i (before ++ e ∷ after)
splits_in c ns lists i e before after rings is = elim (cases_le i c) [
  | inl less ↦ (less, subst (Path c ns i i) is (rings.paths i less))
  | inr past ↦ absurd (let size = ap length (sym is ∙ entries_past lists i (let one = rings.one_each in omega arith)) in
      let long = longer before e after in omega arith)
]

-- what follows an entry in its chain
pub next_law : (c : ℕ) (ns : List Node) (lists : List (List ℕ)) (i e : ℕ) (before after : List ℕ) → AreRings c ns lists → entries_of lists i ≡ before ++ e ∷ after
    → (i < c) × (chain ns (c + e) ≡ i) × Path c ns i (c + e) after × (Lacks e before × Lacks e after)
next_law c ns lists i e before after rings is =
    let (ic, path) = splits_in c ns lists i e before after rings is in
    (ic, sym (chain_alone c ns lists e i rings (subst (Has e) (sym is) (has_there before after e))), path_after c ns i i e before after path, once c ns i i e before after ic path)

-- the rings with no entry
pub empty_rings : (c : ℕ) (ns : List Node) → length ns ≡ c → c < 2 ^ 32 → ((i : ℕ) → i < c → (next ns i ≡ i) × (prev ns i ≡ i) × (chain ns i ≡ i))
    → AreRings c ns (replicate c [])
empty_rings c ns size few each = record {
  few = omega arith;
  heads = omega arith;
  next_in = λ x h. let e = (each x (omega arith)).0 in omega arith;
  prev_in = λ x h. let e = (each x (omega arith)).1 in omega arith;
  next_prev = λ x h. let e = each x (omega arith) in ap (next ns) e.1 ∙ e.0;
  prev_next = λ x h. let e = each x (omega arith) in ap (prev ns) e.0 ∙ e.1;
  chain_in = λ x h. let e = (each x (omega arith)).2 in omega arith;
  chain_prev = λ x h. let e = each x (omega arith) in ap (chain ns) e.1;
  head = λ i ic. (each i ic).2;
  one_each = length-replicate c [];
  paths = λ i ic. let e = each i ic in subst (Path c ns i i) (sym (get_or-replicate c i [] [] ic)) (e.0, e.1);
  stands = λ e h. absurd (omega arith);
  all = let none = sum-none c in omega arith;
}

-- an entry moves: the table stays sound, and the lists are as they should be
pub lists_moved : (c : ℕ) (ns : List Node) (ms : List Move) (e b : ℕ) → IsSound c ns ms → c + e < length ns → b < c
    → lists_of c (shifted ns (c + e) b) ≡ moved (lists_of c ns) e b
lists_moved c ns ms e b sound ein bc = lists_are c (shifted ns (c + e) b) (moved (lists_of c ns) e b) (rings_moved c ns (lists_of c ns) e b (rings_of c ns ms sound) ein bc)

pub length-shifted : (c : ℕ) (ns : List Node) (ms : List Move) (e b : ℕ) → IsSound c ns ms → c + e < length ns → b < length ns → b ≢ c + e
    → length (shifted ns (c + e) b) ≡ length ns
unfolding shifted
length-shifted c ns ms e b sound ein bin ne =
    let rings = rings_of c ns ms sound in
    let left = has_left ns (c + e) (rings.prev_in (c + e) ein) (rings.next_in (c + e) ein) in
    let size : length (unlinked ns (c + e)) ≡ length ns = left.size in
    let joined = has_joined (unlinked ns (c + e)) (c + e) b (rw size ein) (rw size bin) (rw size (next_loose c ns (lists_of c ns) e b rings ein bin ne)) in
    joined.size ∙ size

pub sound_moved : (c : ℕ) (ns : List Node) (ms : List Move) (e b : ℕ) → IsSound c ns ms → c + e < length ns → b < c
    → IsSound c (shifted ns (c + e) b) (record { node = c + e; after = prev ns (c + e) } ∷ ms)
sound_moved c ns ms e b sound ein bc =
    let rings = rings_of c ns ms sound in
    let heads = rings.heads in
    let size = length-shifted c ns ms e b sound ein (omega arith) (omega arith) in (
      subst (AreRings c (shifted ns (c + e) b)) (sym (lists_moved c ns ms e b sound ein bc)) (rings_moved c ns (lists_of c ns) e b rings ein bc),
      omega arith,
      rw size ein,
      rw size (rings.prev_in (c + e) ein),
      (may_leave c ns (lists_of c ns) e rings ein).p_other,
      subst (λ t. IsSound c t ms) (sym (restored c ns (lists_of c ns) e b rings ein bc)) sound,
    )

pub past_moved : (c : ℕ) (ns : List Node) (ms : List Move) (e b : ℕ) → IsSound c ns ms → c + e < length ns → b < c
    → past_of c (shifted ns (c + e) b) (record { node = c + e; after = prev ns (c + e) } ∷ ms) ≡ lists_of c ns ∷ past_of c ns ms
past_moved c ns ms e b sound ein bc =
    ap (λ t. lists_of c t ∷ past_of c t ms) (restored c ns (lists_of c ns) e b (rings_of c ns ms sound) ein bc)

-- the moves with one more, the last first
pub reverse_push : (ms : List Move) (m : Move) → reverse (ms ++ m ∷ []) ≡ m ∷ reverse ms
reverse_push ms m = reverse-append ms (m ∷ [])

-- a new entry
pub lists_added : (c : ℕ) (ns : List Node) (v : Node) (e b : ℕ) → IsSound c ns [] → c + e ≡ length ns → length ns + 1 ≤ 2 ^ 32 → b < c
    → lists_of c (linked (ns ++ v ∷ []) (c + e) b) ≡ put_first (lists_of c ns) e b
lists_added c ns v e b sound last few bc = lists_are c _ _ (rings_added c ns v (lists_of c ns) e b sound last few bc)

pub sound_added : (c : ℕ) (ns : List Node) (v : Node) (e b : ℕ) → IsSound c ns [] → c + e ≡ length ns → length ns + 1 ≤ 2 ^ 32 → b < c
    → IsSound c (linked (ns ++ v ∷ []) (c + e) b) []
sound_added c ns v e b sound last few bc =
    subst (AreRings c (linked (ns ++ v ∷ []) (c + e) b)) (sym (lists_added c ns v e b sound last few bc))
    (rings_added c ns v (lists_of c ns) e b sound last few bc)

-- the node after an entry that is not the last of its chain is an entry's
pub some_in : (c : ℕ) (ns : List Node) (lists : List (List ℕ)) (e : ℕ) → AreRings c ns lists → c + e < length ns → next ns (c + e) ≢ chain ns (c + e)
    → (c ≤ next ns (c + e)) × (next ns (c + e) < length ns)
some_in c ns lists e rings ein other =
    let i = chain ns (c + e) in
    let ic : i < c = rings.chain_in (c + e) ein in
    let s = has_split e (entries_of lists i) (rings.stands e ein) in
    let law = next_law c ns lists i e s.0 s.1 rings s.2 in
    ((head_some c ns i (c + e) s.1 law.2 other).0, rings.next_in (c + e) ein)

-- a slice written back into a Vec of its length
pub written_back : (xs ys : List Node) (n : ℕ) → length xs ≡ n → take n (xs ++ drop (length xs) ys) ≡ xs
written_back xs ys n h = take_at xs (drop (length xs) ys) n h

pub length-linked : (ns : List Node) (x a : ℕ) → x < length ns → a < length ns → next ns a < length ns → length (linked ns x a) ≡ length ns
length-linked ns x a xin ain hin = let joined = has_joined ns x a xin ain hin in joined.size

-- no open move
pub settled : (c : ℕ) (ns : List Node) (ms : List Move) → past_of c ns (reverse ms) ≡ [] → reverse ms ≡ []
settled c ns ms none = nil_from_length (reverse ms) (sym (length-past c ns (reverse ms)) ∙ ap length none)

-- the link of a head in a table with one node more
pub next_pushed : (c : ℕ) (ns : List Node) (v : Node) (b : ℕ) → AreRings c ns (lists_of c ns) → b < c → next (ns ++ v ∷ []) b < length (ns ++ v ∷ [])
next_pushed c ns v b rings bc =
    let heads = rings.heads in
    let same : next (ns ++ v ∷ []) b ≡ next ns b = ap (λ (n : Node). n.next) (get_or_append_left ns (v ∷ []) no_node b (omega arith)) in
    let in_range = rings.next_in b (omega arith) in
    let size = length_push ns v in
    omega arith

-- the way back stays in the table
pub loose_back : (c : ℕ) (ns : List Node) (m : Move) (ms : List Move) → IsSound c ns (m ∷ ms) → next (unlinked ns m.node) m.after < length ns
loose_back c ns m ms sound =
    let e = m.node - c in
    let at : c + e ≡ m.node = let low = sound.1 in omega arith in
    subst (λ x. next (unlinked ns x) m.after < length ns) at
    (next_loose c ns (lists_of c ns) e m.after sound.0 (rw at sound.2) sound.3 (λ same. sound.4 (same ∙ at)))

-- no entry is on a path twice
pub path_distinct : (c : ℕ) (ns : List Node) (i k : ℕ) (es : List ℕ) → i < c → Path c ns i k es → AreDistinct es
path_distinct c ns i k [] ic path = tt
path_distinct c ns i k (y ∷ es) ic path = ((once c ns i k y [] es ic path).1, path_distinct c ns i (c + y) es ic path.3)
