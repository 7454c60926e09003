-- Chains in one table of nodes: the chains' heads, and then the entries. Each chain is a ring through its head.
use Rattle.std.specs.Prelude.{◌≡◌, ◌≢◌, ℕ, zero, suc, ◌+◌, ◌-◌, ◌<◌, ◌≤◌, ◌^◌, List, [], ◌∷◌, length, map, slice_set, slice_index_or, ◌==◌, if◌then◌else◌, sum_by}
use Rattle.std.specs.List.{range_with_len}
use Rattle.watch_chains.specs.declared.nodes.Node.{Node}
use Rattle.watch_chains.specs.declared.nodes.Move.{Move}
use Rattle.watch_chains.specs.Lists.{entries_of, Has}

-- the node that stands for one past the end
abbrev pub no_node : Node
no_node = record { next = 0; prev = 0; chain = 0 }

-- the node of a number
abbrev pub node : List Node → ℕ → Node
node nodes x = slice_index_or nodes x no_node

-- the node after it in its ring
abbrev pub next : List Node → ℕ → ℕ
next nodes x = (node nodes x).next

-- the node before it in its ring
abbrev pub prev : List Node → ℕ → ℕ
prev nodes x = (node nodes x).prev

-- the chain in whose ring it is
abbrev pub chain : List Node → ℕ → ℕ
chain nodes x = (node nodes x).chain

-- the table with one link on written anew
unfoldable pub set_next : List Node → ℕ → ℕ → List Node
set_next nodes x y = slice_set nodes x (record { next = y; prev = prev nodes x; chain = chain nodes x })

-- the table with one link back written anew
unfoldable pub set_prev : List Node → ℕ → ℕ → List Node
set_prev nodes x y = slice_set nodes x (record { next = next nodes x; prev = y; chain = chain nodes x })

-- the node leaves its ring
unfoldable pub unlinked : List Node → ℕ → List Node
unlinked nodes x = set_prev (set_next nodes (prev nodes x) (next nodes x)) (next nodes x) (prev nodes x)

-- the node stands after another, in its ring
unfoldable pub linked : List Node → ℕ → ℕ → List Node
linked nodes x after =
    slice_set (set_next (set_prev nodes (next nodes after) x) after x) x
    (record { next = next nodes after; prev = after; chain = chain nodes after })

-- the node leaves its ring and stands after another
unfoldable pub shifted : List Node → ℕ → ℕ → List Node
shifted nodes x after = linked (unlinked nodes x) x after

-- the entries from a node up to the head, at most so many
abbrev pub follow : ℕ → List Node → ℕ → ℕ → ℕ → List ℕ
follow c nodes i zero x = []
follow c nodes i (suc n) x = if x == i then [] else (x - c) ∷ follow c nodes i n (next nodes x)

-- the entries of each chain, of which there are c
unfoldable pub lists_of : ℕ → List Node → List (List ℕ)
lists_of c nodes = map (λ i. follow c nodes i (length nodes) (next nodes i)) (range_with_len 0 c)

-- the lists before each of the moves, the last of which is the first here
abbrev pub past_of : ℕ → List Node → List Move → List (List (List ℕ))
past_of c nodes [] = []
past_of c nodes (m ∷ moves) =
    lists_of c (shifted nodes m.node m.after) ∷ past_of c (shifted nodes m.node m.after) moves

-- from node x the entries lead to the head i
abbrev pub Path : ℕ → List Node → ℕ → ℕ → List ℕ → Type 0
Path c nodes i x [] = (next nodes x ≡ i) × (prev nodes i ≡ x)
Path c nodes i x (e ∷ es) =
    (next nodes x ≡ c + e) × (prev nodes (c + e) ≡ x) × (chain nodes (c + e) ≡ i) × Path c nodes i (c + e) es

-- the rings have these lists: the links on and back agree and stay in the table, all nodes of a ring have its chain,
-- the walk from each head gives the chain's list, and each entry stands in the list of its chain
pub record AreRings (c : ℕ) (nodes : List Node) (lists : List (List ℕ)) : Type 0 where
  pub few : length nodes ≤ 2 ^ 32
  pub heads : c ≤ length nodes
  pub next_in : (x : ℕ) → x < length nodes → next nodes x < length nodes
  pub prev_in : (x : ℕ) → x < length nodes → prev nodes x < length nodes
  pub next_prev : (x : ℕ) → x < length nodes → next nodes (prev nodes x) ≡ x
  pub prev_next : (x : ℕ) → x < length nodes → prev nodes (next nodes x) ≡ x
  pub chain_in : (x : ℕ) → x < length nodes → chain nodes x < c
  pub chain_prev : (x : ℕ) → x < length nodes → chain nodes (prev nodes x) ≡ chain nodes x
  pub head : (i : ℕ) → i < c → chain nodes i ≡ i
  pub one_each : length lists ≡ c
  pub paths : (i : ℕ) → i < c → Path c nodes i i (entries_of lists i)
  pub stands : (e : ℕ) → c + e < length nodes → Has e (entries_of lists (chain nodes (c + e)))
  pub all : sum_by length lists + c ≤ length nodes

-- the rings are sound, and stay so as the moves are undone
abbrev pub IsSound : ℕ → List Node → List Move → Type 0
IsSound c nodes [] = AreRings c nodes (lists_of c nodes)
IsSound c nodes (m ∷ moves) =
    AreRings c nodes (lists_of c nodes) × (c ≤ m.node) × (m.node < length nodes) × (m.after < length nodes) × (m.after ≢ m.node)
    × IsSound c (shifted nodes m.node m.after) moves
