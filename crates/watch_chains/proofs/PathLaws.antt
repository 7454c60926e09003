-- The list of a ring as a node leaves it and as a node joins it.
use Rattle.std.proofs.Common.{◌≡◌, ◌≢◌, ℕ, zero, suc, ◌+◌, ◌-◌, ◌<◌, List, [], ◌∷◌, length, true, false, cond, sym, ap, ◌∙◌, subst, inl, inr, arith}
use Rattle.std.specs.Prelude.{◌==◌}
use Rattle.std.proofs.lemmas.Bool.Decides.{eqb_tells}
use Rattle.watch_chains.specs.declared.nodes.Node.{Node}
use Rattle.watch_chains.specs.Lists.{without, Has, Lacks}
use Rattle.watch_chains.specs.Nodes.{next, prev, chain, Path, follow}
use Rattle.watch_chains.proofs.ListLaws.{without_same, without_other}
use Rattle.watch_chains.proofs.NodeLaws.{HasLeft, HasJoined}

-- in a list that leads from another node to the head, an entry has another node before it
pub not_alone : (c : ℕ) (ns : List Node) (i k e : ℕ) (es : List ℕ) → k ≢ c + e → Path c ns i k es → Has e es → prev ns (c + e) ≢ c + e
not_alone c ns i k e [] ne path h = absurd h
not_alone c ns i k e (y ∷ es) ne path h = elim (eqb_tells y e) [
  | inl t ↦ λ self. ne (sym path.1 ∙ ap (λ j. prev ns (c + j)) t.1 ∙ self)
  | inr f ↦ elim h [
    | inl same ↦ absurd (f.1 same)
    | inr rest ↦ not_alone c ns i (c + y) e es (λ s. f.1 (omega (arith, s))) path.3 rest
  ]
]

-- what a node that leaves has about it
pub record MayLeave (c : ℕ) (ns : List Node) (e p n : ℕ) : Type 0 where
  pub p_is : prev ns (c + e) ≡ p
  pub n_is : next ns (c + e) ≡ n
  pub next_p : next ns p ≡ c + e
  pub prev_n : prev ns n ≡ c + e
  pub p_other : p ≢ c + e
  pub n_other : n ≢ c + e

abbrev LeavesWell : (c : ℕ) (ns after : List Node) (e p i : ℕ) (es : List ℕ) → Type 0
LeavesWell c ns after e p i es =
    ((k : ℕ) → k ≢ c + e → Path c ns i k es → Path c after i k (without e es))
    × (Path c ns i (c + e) es → Path c after i p (without e es))

leaves_at_end : (c : ℕ) (ns after : List Node) (e p n i : ℕ) → i < c → MayLeave c ns e p n → HasLeft ns after (c + e) p n → LeavesWell c ns after e p i []
leaves_at_end c ns after e p n i ic may left = (
  λ k ne path. (
    left.next_other k (λ same. let a : next ns k ≡ c + e = ap (next ns) same ∙ may.next_p in let b = path.0 in omega arith) ∙ path.0,
    left.prev_other i (λ same. ne (sym path.1 ∙ ap (prev ns) same ∙ may.prev_n)) ∙ path.1,
  ),
  λ path. let at : n ≡ i = sym may.n_is ∙ path.0 in
      (left.next_p ∙ at, ap (prev after) (sym at) ∙ left.prev_n),
)

leaves_more : (c : ℕ) (ns after : List Node) (e p n i y : ℕ) (es : List ℕ) → i < c → MayLeave c ns e p n → HasLeft ns after (c + e) p n
    → LeavesWell c ns after e p i es → LeavesWell c ns after e p i (y ∷ es)
leaves_more c ns after e p n i y es ic may left rest = elim (eqb_tells y e) [
  | inl t ↦ let here : without e (y ∷ es) ≡ without e es = without_same e y es t.1 in
      let node_is : c + y ≡ c + e = ap (λ j. c + j) t.1 in (
        λ k ne path.
            let at : k ≡ p = sym path.1 ∙ ap (prev ns) node_is ∙ may.p_is in
            let from : Path c ns i (c + e) es = subst (λ j. Path c ns i j es) node_is path.3 in
            subst (λ j. Path c after i j (without e (y ∷ es))) (sym at) (subst (Path c after i p) (sym here) (rest.1 from)),
        λ path. absurd (may.n_other (sym may.n_is ∙ path.0 ∙ node_is)),
      )
  | inr f ↦ let here : without e (y ∷ es) ≡ y ∷ without e es = without_other e y es f.1 in
      let other : c + y ≢ c + e = λ same. f.1 (omega (arith, same)) in (
        λ k ne path. subst (Path c after i k) (sym here) (
          left.next_other k (λ same. other (sym path.0 ∙ ap (next ns) same ∙ may.next_p)) ∙ path.0,
          left.prev_other (c + y) (λ same. ne (sym path.1 ∙ ap (prev ns) same ∙ may.prev_n)) ∙ path.1,
          left.chain_all (c + y) ∙ path.2,
          rest.0 (c + y) other path.3,
        ),
        λ path. let at : n ≡ c + y = sym may.n_is ∙ path.0 in
            subst (Path c after i p) (sym here) (
              left.next_p ∙ at,
              ap (prev after) (sym at) ∙ left.prev_n,
              left.chain_all (c + y) ∙ path.2,
              rest.0 (c + y) other path.3,
            ),
      )
]

leaves_well : (c : ℕ) (ns after : List Node) (e p n i : ℕ) (es : List ℕ) → i < c → MayLeave c ns e p n → HasLeft ns after (c + e) p n → LeavesWell c ns after e p i es
leaves_well c ns after e p n i [] ic may left = leaves_at_end c ns after e p n i ic may left
leaves_well c ns after e p n i (y ∷ es) ic may left = leaves_more c ns after e p n i y es ic may left (leaves_well c ns after e p n i es ic may left)

-- once the node has left its ring, each ring has the list without it
pub path_without : (c : ℕ) (ns after : List Node) (e p n i : ℕ) (es : List ℕ) → i < c → MayLeave c ns e p n → HasLeft ns after (c + e) p n
    → Path c ns i i es → Path c after i i (without e es)
path_without c ns after e p n i es ic may left path = (leaves_well c ns after e p n i es ic may left).0 i (omega arith) path

-- a path that does not start at a is kept as a node joins after a
pub path_kept : (c : ℕ) (ns after : List Node) (e a h i k : ℕ) (es : List ℕ) → i < c → a < c → prev ns h ≡ a → HasJoined ns after (c + e) a h
    → k ≢ c + e → k ≢ a → Lacks e es → Path c ns i k es → Path c after i k es
path_kept c ns after e a h i k [] ic ac was joined nx na lacks path = (
  joined.next_other k nx na ∙ path.0,
  joined.prev_other i (omega arith) (λ same. na (sym path.1 ∙ ap (prev ns) same ∙ was)) ∙ path.1,
)
path_kept c ns after e a h i k (y ∷ es) ic ac was joined nx na lacks path =
    let other : c + y ≢ c + e = λ same. lacks.0 (omega (arith, same)) in (
      joined.next_other k nx na ∙ path.0,
      joined.prev_other (c + y) other (λ same. na (sym path.1 ∙ ap (prev ns) same ∙ was)) ∙ path.1,
      joined.chain_other (c + y) other ∙ path.2,
      path_kept c ns after e a h i (c + y) es ic ac was joined other (omega arith) lacks.1 path.3,
    )

-- the node that joins after the head stands first
pub path_first : (c : ℕ) (ns after : List Node) (e a h : ℕ) (es : List ℕ) → a < c → next ns a ≡ h → prev ns h ≡ a → chain ns a ≡ a
    → HasJoined ns after (c + e) a h → Lacks e es → Path c ns a a es → Path c after a a (e ∷ es)
path_first c ns after e a h [] ac nexth was of joined lacks path =
    let at : h ≡ a = sym nexth ∙ path.0 in (
      joined.next_a (omega arith),
      joined.prev_x,
      joined.chain_x ∙ of,
      (joined.next_x ∙ at, ap (prev after) (sym at) ∙ joined.prev_h (omega arith)),
    )
path_first c ns after e a h (y ∷ es) ac nexth was of joined lacks path =
    let at : h ≡ c + y = sym nexth ∙ path.0 in
    let other : c + y ≢ c + e = λ same. lacks.0 (omega (arith, same)) in (
      joined.next_a (omega arith),
      joined.prev_x,
      joined.chain_x ∙ of,
      (
        joined.next_x ∙ at,
        ap (prev after) (sym at) ∙ joined.prev_h (λ same. other (sym at ∙ same)),
        joined.chain_other (c + y) other ∙ path.2,
        path_kept c ns after e a h a (c + y) es ac ac was joined other (omega arith) lacks.1 path.3,
      ),
    )

eq_test : (a b : ℕ) → a ≡ b → (a == b) ≡ true
eq_test a b e = elim (eqb_tells a b) [ inl t ↦ t.0 | inr f ↦ absurd (f.1 e) ]

ne_test : (a b : ℕ) → a ≢ b → (a == b) ≡ false
ne_test a b ne = elim (eqb_tells a b) [ inl t ↦ absurd (ne t.1) | inr f ↦ f.0 ]

-- the walk along a path gives its list
pub follow_is : (c : ℕ) (ns : List Node) (i n k : ℕ) (es : List ℕ) → i < c → length es < n → Path c ns i k es → follow c ns i n (next ns k) ≡ es
follow_is c ns i zero k es ic few path = absurd (omega arith)
follow_is c ns i (suc n) k [] ic few path =
    ap (λ b. cond b [] ((next ns k - c) ∷ follow c ns i n (next ns (next ns k)))) (eq_test (next ns k) i path.0)
follow_is c ns i (suc n) k (y ∷ es) ic few path =
    ap (λ b. cond b [] ((next ns k - c) ∷ follow c ns i n (next ns (next ns k))))
    (ne_test (next ns k) i (let e = path.0 in λ same. omega arith))
    ∙ ap (λ j. (j - c) ∷ follow c ns i n (next ns j)) path.0
    ∙ ap (λ j. j ∷ follow c ns i n (next ns (c + y))) (let e : c + y - c ≡ y = omega arith in e)
    ∙ ap (λ rest. y ∷ rest) (follow_is c ns i n (c + y) es ic (omega arith) path.3)
