-- Rings stay rings as a node is moved to the front of one, and the way back gives the table as it was.
use Rattle.std.proofs.Common.{◌≡◌, ◌≢◌, ℕ, ◌+◌, ◌<◌, ◌≤◌, ◌^◌, List, [], ◌∷◌, ◌++◌, length, map, refl, sym, ap, ◌∙◌, subst, inl, inr, arith, length-set}
use Rattle.std.specs.Prelude.{sum_by}
use Rattle.std.proofs.lemmas.Bool.{cases_eq}
use Rattle.std.proofs.lemmas.List.{length-map, get_or_append_left, length_push}
use Rattle.std.proofs.lemmas.List.Sums.{sum_by-set, get_or-le-sum_by}
use Rattle.std.proofs.lemmas.List.FromFn.{fill_by_all}
use Rattle.watch_chains.specs.declared.nodes.Node.{Node}
use Rattle.watch_chains.specs.Lists.{without, Has, Lacks, entries_of, put_first, moved}
use Rattle.watch_chains.specs.Nodes.{no_node, node, next, prev, chain, unlinked, linked, shifted, Path, follow, lists_of, AreRings}
use Rattle.watch_chains.proofs.ListLaws.{without_lacks, without_has, entries_without, entries_put, entries_put_off, sum-without-lt}
use Rattle.watch_chains.proofs.NodeLaws.{HasLeft, has_left, has_joined}
use Rattle.watch_chains.proofs.PathLaws.{MayLeave, not_alone, path_without, path_kept, path_first, follow_is}

-- the nodes other than x are linked among themselves
pub record IsLoose (ns one : List Node) (x : ℕ) : Type 0 where
  pub size : length one ≡ length ns
  pub next_in : (k : ℕ) → k < length ns → k ≢ x → next one k < length ns
  pub prev_in : (k : ℕ) → k < length ns → k ≢ x → prev one k < length ns
  pub next_off : (k : ℕ) → k < length ns → k ≢ x → next one k ≢ x
  pub prev_off : (k : ℕ) → k < length ns → k ≢ x → prev one k ≢ x
  pub next_prev : (k : ℕ) → k < length ns → k ≢ x → next one (prev one k) ≡ k
  pub prev_next : (k : ℕ) → k < length ns → k ≢ x → prev one (next one k) ≡ k

pub may_leave : (c : ℕ) (ns : List Node) (lists : List (List ℕ)) (e : ℕ) → AreRings c ns lists → c + e < length ns
    → MayLeave c ns e (prev ns (c + e)) (next ns (c + e))
may_leave c ns lists e rings ein =
    let i = chain ns (c + e) in
    let ic : i < c = rings.chain_in (c + e) ein in
    let alone = not_alone c ns i i e (entries_of lists i) (omega arith) (rings.paths i ic) (rings.stands e ein) in
    record {
      p_is = refl;
      n_is = refl;
      next_p = rings.next_prev (c + e) ein;
      prev_n = rings.prev_next (c + e) ein;
      p_other = alone;
      n_other = λ same. alone (ap (prev ns) (sym same) ∙ rings.prev_next (c + e) ein);
    }

pub loose : (c : ℕ) (ns one : List Node) (lists : List (List ℕ)) (e p n : ℕ) → AreRings c ns lists → c + e < length ns
    → p < length ns → n < length ns → MayLeave c ns e p n → HasLeft ns one (c + e) p n → IsLoose ns one (c + e)
loose c ns one lists e p n rings ein pin nin may left = record {
  size = left.size;
  next_in = λ k kin off. elim (cases_eq k p) [
    | inl same ↦ let at : next one k ≡ n = ap (next one) same ∙ left.next_p in rw at nin
    | inr other ↦ let at : next one k ≡ next ns k = left.next_other k other in rw at (rings.next_in k kin)
  ];
  prev_in = λ k kin off. elim (cases_eq k n) [
    | inl same ↦ let at : prev one k ≡ p = ap (prev one) same ∙ left.prev_n in rw at pin
    | inr other ↦ let at : prev one k ≡ prev ns k = left.prev_other k other in rw at (rings.prev_in k kin)
  ];
  next_off = λ k kin off. elim (cases_eq k p) [
    | inl same ↦ λ is. may.n_other (sym left.next_p ∙ ap (next one) (sym same) ∙ is)
    | inr other ↦ λ is. other (sym (rings.prev_next k kin) ∙ ap (prev ns) (sym (left.next_other k other) ∙ is) ∙ may.p_is)
  ];
  prev_off = λ k kin off. elim (cases_eq k n) [
    | inl same ↦ λ is. may.p_other (sym left.prev_n ∙ ap (prev one) (sym same) ∙ is)
    | inr other ↦ λ is. other (sym (rings.next_prev k kin) ∙ ap (next ns) (sym (left.prev_other k other) ∙ is) ∙ may.n_is)
  ];
  next_prev = λ k kin off. elim (cases_eq k n) [
    | inl same ↦ ap (next one) (ap (prev one) same ∙ left.prev_n) ∙ left.next_p ∙ sym same
    | inr other ↦ ap (next one) (left.prev_other k other)
        ∙ left.next_other (prev ns k) (λ is. off (sym (rings.next_prev k kin) ∙ ap (next ns) is ∙ may.next_p))
        ∙ rings.next_prev k kin
  ];
  prev_next = λ k kin off. elim (cases_eq k p) [
    | inl same ↦ ap (prev one) (ap (next one) same ∙ left.next_p) ∙ left.prev_n ∙ sym same
    | inr other ↦ ap (prev one) (left.next_other k other)
        ∙ left.prev_other (next ns k) (λ is. off (sym (rings.prev_next k kin) ∙ ap (prev ns) is ∙ may.prev_n))
        ∙ rings.prev_next k kin
  ];
}

-- the lists of rings are those that the walks give
pub lists_are : (c : ℕ) (ns : List Node) (lists : List (List ℕ)) → AreRings c ns lists → lists_of c ns ≡ lists
unfolding lists_of
lists_are c ns lists rings = sym (fill_by_all (λ i. follow c ns i (length ns) (next ns i)) lists c [] rings.one_each
    (λ i ic. let iin : i < length lists = omega (arith, rings.one_each) in
    let few = get_or-le-sum_by length lists i [] iin in
    let all = rings.all in
    sym (follow_is c ns i (length ns) i (entries_of lists i) ic (omega arith) (rings.paths i ic))))

-- rings that node x, which is entry e's, stands outside of
record AreLooseRings (c : ℕ) (one : List Node) (e : ℕ) (lists : List (List ℕ)) : Type 0 where
  few : length one ≤ 2 ^ 32
  heads : c ≤ length one
  node_in : c + e < length one
  next_in : (k : ℕ) → k < length one → k ≢ c + e → next one k < length one
  prev_in : (k : ℕ) → k < length one → k ≢ c + e → prev one k < length one
  next_off : (k : ℕ) → k < length one → k ≢ c + e → next one k ≢ c + e
  prev_off : (k : ℕ) → k < length one → k ≢ c + e → prev one k ≢ c + e
  next_prev : (k : ℕ) → k < length one → k ≢ c + e → next one (prev one k) ≡ k
  prev_next : (k : ℕ) → k < length one → k ≢ c + e → prev one (next one k) ≡ k
  chain_in : (k : ℕ) → k < length one → k ≢ c + e → chain one k < c
  chain_prev : (k : ℕ) → k < length one → k ≢ c + e → chain one (prev one k) ≡ chain one k
  head : (i : ℕ) → i < c → chain one i ≡ i
  one_each : length lists ≡ c
  paths : (i : ℕ) → i < c → Path c one i i (entries_of lists i)
  lacks : (i : ℕ) → i < c → Lacks e (entries_of lists i)
  stands : (z : ℕ) → c + z < length one → z ≢ e → Has z (entries_of lists (chain one (c + z)))
  all : sum_by length lists + c + 1 ≤ length one

rings_leave : (c : ℕ) (ns : List Node) (lists : List (List ℕ)) (e : ℕ) → AreRings c ns lists → c + e < length ns
    → AreLooseRings c (unlinked ns (c + e)) e (map (without e) lists)
rings_leave c ns lists e rings ein =
    let one = unlinked ns (c + e) in
    let may = may_leave c ns lists e rings ein in
    let pin = rings.prev_in (c + e) ein in
    let nin = rings.next_in (c + e) ein in
    let left = has_left ns (c + e) pin nin in
    let off = loose c ns one lists e (prev ns (c + e)) (next ns (c + e)) rings ein pin nin may left in
    let size : length one ≡ length ns = left.size in
    let within : (k : ℕ) → k < length one → k < length ns = λ k kin. omega arith in
    record {
      few = rw size rings.few;
      heads = rw size rings.heads;
      node_in = rw size ein;
      next_in = λ k kin ne. rw size (off.next_in k (within k kin) ne);
      prev_in = λ k kin ne. rw size (off.prev_in k (within k kin) ne);
      next_off = λ k kin ne. off.next_off k (within k kin) ne;
      prev_off = λ k kin ne. off.prev_off k (within k kin) ne;
      next_prev = λ k kin ne. off.next_prev k (within k kin) ne;
      prev_next = λ k kin ne. off.prev_next k (within k kin) ne;
      chain_in = λ k kin ne. rw (left.chain_all k) (rings.chain_in k (within k kin));
      chain_prev = λ k kin ne. elim (cases_eq k (next ns (c + e))) [
        | inl same ↦ let at : prev one k ≡ prev ns (c + e) = ap (prev one) same ∙ left.prev_n in
            ap (chain one) at ∙ left.chain_all (prev ns (c + e)) ∙ rings.chain_prev (c + e) ein
            ∙ ap (chain ns) (sym (rings.prev_next (c + e) ein)) ∙ rings.chain_prev (next ns (c + e)) nin ∙ ap (chain ns) (sym same)
            ∙ sym (left.chain_all k)
        | inr other ↦ ap (chain one) (left.prev_other k other) ∙ left.chain_all (prev ns k) ∙ rings.chain_prev k (within k kin) ∙ sym (left.chain_all k)
      ];
      head = λ i ic. left.chain_all i ∙ rings.head i ic;
      one_each = length-map lists (without e) ∙ rings.one_each;
      paths = λ i ic. rw (entries_without e lists i) (path_without c ns one e _ _ i (entries_of lists i) ic may left (rings.paths i ic));
      lacks = λ i ic. rw (entries_without e lists i) (without_lacks e (entries_of lists i));
      stands = λ z zin ne. rw (left.chain_all (c + z), entries_without e lists (chain ns (c + z)))
          (without_has e z (entries_of lists (chain ns (c + z))) ne (rings.stands z (within (c + z) zin)));
      all = let less = sum-without-lt e lists (chain ns (c + e)) (rings.stands e ein) in let all = rings.all in omega arith;
    }

rings_join : (c : ℕ) (one : List Node) (lists : List (List ℕ)) (e b : ℕ) → AreLooseRings c one e lists → b < c
    → AreRings c (linked one (c + e) b) (put_first lists e b)
rings_join c one lists e b rings bc =
    let two = linked one (c + e) b in
    let h = next one b in
    let bin : b < length one = let x = rings.heads in omega arith in
    let b_other : b ≢ c + e = omega arith in
    let hin : h < length one = rings.next_in b bin b_other in
    let h_other : h ≢ c + e = rings.next_off b bin b_other in
    let prev_h : prev one h ≡ b = rings.prev_next b bin b_other in
    let joined = has_joined one (c + e) b rings.node_in bin hin in
    let size : length two ≡ length one = joined.size in
    let within : (k : ℕ) → k < length two → k < length one = λ k kin. omega arith in
    let blists : b < length lists = let x = rings.one_each in omega arith in
    record {
      few = rw size rings.few;
      heads = rw size rings.heads;
      next_in = λ k kin. rw size (elim (cases_eq k (c + e)) [
        | inl same ↦ let at : next two k ≡ h = ap (next two) same ∙ joined.next_x in rw at hin
        | inr off ↦ elim (cases_eq k b) [
          | inl same ↦ let at : next two k ≡ c + e = ap (next two) same ∙ joined.next_a b_other in rw at rings.node_in
          | inr other ↦ let at : next two k ≡ next one k = joined.next_other k off other in rw at (rings.next_in k (within k kin) off)
        ]
      ]);
      prev_in = λ k kin. rw size (elim (cases_eq k (c + e)) [
        | inl same ↦ let at : prev two k ≡ b = ap (prev two) same ∙ joined.prev_x in rw at bin
        | inr off ↦ elim (cases_eq k h) [
          | inl same ↦ let at : prev two k ≡ c + e = ap (prev two) same ∙ joined.prev_h h_other in rw at rings.node_in
          | inr other ↦ let at : prev two k ≡ prev one k = joined.prev_other k off other in rw at (rings.prev_in k (within k kin) off)
        ]
      ]);
      next_prev = λ k kin. elim (cases_eq k (c + e)) [
        | inl same ↦ ap (next two) (ap (prev two) same ∙ joined.prev_x) ∙ joined.next_a b_other ∙ sym same
        | inr off ↦ elim (cases_eq k h) [
          | inl same ↦ ap (next two) (ap (prev two) same ∙ joined.prev_h h_other) ∙ joined.next_x ∙ sym same
          | inr other ↦ ap (next two) (joined.prev_other k off other)
              ∙ joined.next_other (prev one k) (rings.prev_off k (within k kin) off)
              (λ is. other (sym (rings.next_prev k (within k kin) off) ∙ ap (next one) is))
              ∙ rings.next_prev k (within k kin) off
        ]
      ];
      prev_next = λ k kin. elim (cases_eq k (c + e)) [
        | inl same ↦ ap (prev two) (ap (next two) same ∙ joined.next_x) ∙ joined.prev_h h_other ∙ sym same
        | inr off ↦ elim (cases_eq k b) [
          | inl same ↦ ap (prev two) (ap (next two) same ∙ joined.next_a b_other) ∙ joined.prev_x ∙ sym same
          | inr other ↦ ap (prev two) (joined.next_other k off other)
              ∙ joined.prev_other (next one k) (rings.next_off k (within k kin) off)
              (λ is. other (sym (rings.prev_next k (within k kin) off) ∙ ap (prev one) is ∙ prev_h))
              ∙ rings.prev_next k (within k kin) off
        ]
      ];
      chain_in = λ k kin. elim (cases_eq k (c + e)) [
        | inl same ↦ let at : chain two k ≡ b = ap (chain two) same ∙ joined.chain_x ∙ rings.head b bc in rw at bc
        | inr off ↦ rw (joined.chain_other k off) (rings.chain_in k (within k kin) off)
      ];
      chain_prev = λ k kin. elim (cases_eq k (c + e)) [
        | inl same ↦ ap (chain two) (ap (prev two) same ∙ joined.prev_x) ∙ joined.chain_other b b_other ∙ sym joined.chain_x ∙ ap (chain two) (sym same)
        | inr off ↦ elim (cases_eq k h) [
          | inl same ↦ ap (chain two) (ap (prev two) same ∙ joined.prev_h h_other) ∙ joined.chain_x
              ∙ ap (chain one) (sym prev_h) ∙ rings.chain_prev h hin h_other ∙ ap (chain one) (sym same) ∙ sym (joined.chain_other k off)
          | inr other ↦ ap (chain two) (joined.prev_other k off other)
              ∙ joined.chain_other (prev one k) (rings.prev_off k (within k kin) off)
              ∙ rings.chain_prev k (within k kin) off ∙ sym (joined.chain_other k off)
        ]
      ];
      head = λ i ic. joined.chain_other i (omega arith) ∙ rings.head i ic;
      one_each = length-set lists b _ ∙ rings.one_each;
      paths = λ i ic. elim (cases_eq i b) [
        | inl same ↦ subst (λ j. Path c two j j (entries_of (put_first lists e b) j)) (sym same)
            (rw (entries_put e lists b blists)
            (path_first c one two e b h (entries_of lists b) bc refl prev_h (rings.head b bc) joined (rings.lacks b bc) (rings.paths b bc)))
        | inr off ↦ rw (entries_put_off e lists b i off)
            (path_kept c one two e b h i i (entries_of lists i) ic bc prev_h joined (omega arith) off (rings.lacks i ic) (rings.paths i ic))
      ];
      stands = λ z zin. elim (cases_eq z e) [
        | inl same ↦ let at : chain two (c + z) ≡ b = ap (λ j. chain two (c + j)) same ∙ joined.chain_x ∙ rings.head b bc in
            rw (at, entries_put e lists b blists) (inl (sym same))
        | inr ne ↦
            let off : c + z ≢ c + e = λ is. ne (omega (arith, is)) in
            let had = rings.stands z (within (c + z) zin) ne in
            rw (joined.chain_other (c + z) off) (elim (cases_eq (chain one (c + z)) b) [
              | inl at ↦ rw (at, entries_put e lists b blists) (inr (subst (λ j. Has z (entries_of lists j)) at had))
              | inr at ↦ rw (entries_put_off e lists b (chain one (c + z)) at) had
            ])
      ];
      all = let set = sum_by-set length lists b (e ∷ entries_of lists b) [] blists in let all = rings.all in rw size (omega arith);
    }

-- an entry moves to the front of a chain
pub rings_moved : (c : ℕ) (ns : List Node) (lists : List (List ℕ)) (e b : ℕ) → AreRings c ns lists → c + e < length ns → b < c
    → AreRings c (shifted ns (c + e) b) (moved lists e b)
unfolding shifted
rings_moved c ns lists e b rings ein bc = rings_join c (unlinked ns (c + e)) (map (without e) lists) e b (rings_leave c ns lists e rings ein) bc

-- an entry that no node is is in no list
path_lacks : (c : ℕ) (ns : List Node) (i k e : ℕ) (es : List ℕ) → c + e ≡ length ns → k < length ns
    → ((x : ℕ) → x < length ns → next ns x < length ns) → Path c ns i k es → Lacks e es
path_lacks c ns i k e [] past kin within path = tt
path_lacks c ns i k e (y ∷ es) last kin within path =
    let at : next ns k ≡ c + y = path.0 in
    let in_range : next ns k < length ns = within k kin in (
      (λ same. absurd (omega arith)),
      path_lacks c ns i (c + y) e es last (omega arith) within path.3,
    )

path_pushed : (c : ℕ) (ns : List Node) (v : Node) (i k : ℕ) (es : List ℕ) → i < length ns → k < length ns
    → ((x : ℕ) → x < length ns → next ns x < length ns) → Path c ns i k es → Path c (ns ++ v ∷ []) i k es
path_pushed c ns v i k [] iin kin within path = (
  ap (λ (n : Node). n.next) (get_or_append_left ns (v ∷ []) no_node k kin) ∙ path.0,
  ap (λ (n : Node). n.prev) (get_or_append_left ns (v ∷ []) no_node i iin) ∙ path.1,
)
path_pushed c ns v i k (y ∷ es) iin kin within path =
    let at : next ns k ≡ c + y = path.0 in
    let in_range : next ns k < length ns = within k kin in
    let yin : c + y < length ns = omega arith in
    let same : node (ns ++ v ∷ []) (c + y) ≡ node ns (c + y) = get_or_append_left ns (v ∷ []) no_node (c + y) yin in (
      ap (λ (n : Node). n.next) (get_or_append_left ns (v ∷ []) no_node k kin) ∙ path.0,
      ap (λ (n : Node). n.prev) same ∙ path.1,
      ap (λ (n : Node). n.chain) same ∙ path.2,
      path_pushed c ns v i (c + y) es iin yin within path.3,
    )

rings_push : (c : ℕ) (ns : List Node) (v : Node) (lists : List (List ℕ)) (e : ℕ) → AreRings c ns lists → c + e ≡ length ns → length ns + 1 ≤ 2 ^ 32
    → AreLooseRings c (ns ++ v ∷ []) e lists
rings_push c ns v lists e rings last few =
    let one = ns ++ v ∷ [] in
    let size : length one ≡ length ns + 1 = length_push ns v in
    let heads = rings.heads in
    let within : (k : ℕ) → k < length one → k ≢ c + e → k < length ns = λ k kin ne. omega arith in
    let same : (k : ℕ) → k < length ns → node one k ≡ node ns k = λ k kin. get_or_append_left ns (v ∷ []) no_node k kin in
    let n_same : (k : ℕ) → k < length ns → next one k ≡ next ns k = λ k kin. ap (λ (n : Node). n.next) (same k kin) in
    let p_same : (k : ℕ) → k < length ns → prev one k ≡ prev ns k = λ k kin. ap (λ (n : Node). n.prev) (same k kin) in
    let c_same : (k : ℕ) → k < length ns → chain one k ≡ chain ns k = λ k kin. ap (λ (n : Node). n.chain) (same k kin) in
    record {
      few = rw size few;
      heads = rw size (omega arith);
      node_in = rw size (omega arith);
      next_in = λ k kin ne. let w = within k kin ne in let a = n_same k w in let b = rings.next_in k w in rw size (omega arith);
      prev_in = λ k kin ne. let w = within k kin ne in let a = p_same k w in let b = rings.prev_in k w in rw size (omega arith);
      next_off = λ k kin ne is. let w = within k kin ne in let a = n_same k w in let b = rings.next_in k w in omega arith;
      prev_off = λ k kin ne is. let w = within k kin ne in let a = p_same k w in let b = rings.prev_in k w in omega arith;
      next_prev = λ k kin ne. let w = within k kin ne in
          ap (next one) (p_same k w) ∙ n_same (prev ns k) (rings.prev_in k w) ∙ rings.next_prev k w;
      prev_next = λ k kin ne. let w = within k kin ne in
          ap (prev one) (n_same k w) ∙ p_same (next ns k) (rings.next_in k w) ∙ rings.prev_next k w;
      chain_in = λ k kin ne. let w = within k kin ne in rw (c_same k w) (rings.chain_in k w);
      chain_prev = λ k kin ne. let w = within k kin ne in
          ap (chain one) (p_same k w) ∙ c_same (prev ns k) (rings.prev_in k w) ∙ rings.chain_prev k w ∙ sym (c_same k w);
      head = λ i ic. c_same i (omega arith) ∙ rings.head i ic;
      one_each = rings.one_each;
      paths = λ i ic. path_pushed c ns v i i (entries_of lists i) (omega arith) (omega arith) rings.next_in (rings.paths i ic);
      lacks = λ i ic. path_lacks c ns i i e (entries_of lists i) last (omega arith) rings.next_in (rings.paths i ic);
      stands = λ z zin ne. let w : c + z < length ns = within (c + z) zin (λ is. ne (omega (arith, is))) in
          rw (c_same (c + z) w) (rings.stands z w);
      all = let all = rings.all in rw size (omega arith);
    }

-- a new entry stands first in a chain
pub rings_added : (c : ℕ) (ns : List Node) (v : Node) (lists : List (List ℕ)) (e b : ℕ) → AreRings c ns lists → c + e ≡ length ns → length ns + 1 ≤ 2 ^ 32 → b < c
    → AreRings c (linked (ns ++ v ∷ []) (c + e) b) (put_first lists e b)
rings_added c ns v lists e b rings last few bc = rings_join c (ns ++ v ∷ []) lists e b (rings_push c ns v lists e rings last few) bc

-- links stay in the table while a node is out
pub next_loose : (c : ℕ) (ns : List Node) (lists : List (List ℕ)) (e k : ℕ) → AreRings c ns lists → c + e < length ns → k < length ns → k ≢ c + e
    → next (unlinked ns (c + e)) k < length ns
next_loose c ns lists e k rings ein kin ne =
    let left = has_left ns (c + e) (rings.prev_in (c + e) ein) (rings.next_in (c + e) ein) in
    let size : length (unlinked ns (c + e)) ≡ length ns = left.size in
    rw size at ((rings_leave c ns lists e rings ein).next_in k (rw size kin) ne)
