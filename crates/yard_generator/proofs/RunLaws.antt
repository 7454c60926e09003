-- What the lines of a yard define, one after the other.
use Rattle.std.proofs.Common.{◌≡◌, ℕ, List, [], ◌∷◌, ◌++◌, map, Some, refl, sym, ◌∙◌}
use Rattle.std.specs.Prelude.{codes}
use Rattle.std.specs.List.{flat_map}
use Rattle.toml.specs.Data.{Data, string, array, table, Items, no_items, Members, no_members, member, push_item}
use Rattle.toml.specs.Tables.{value, open_array, Nodes, no_nodes, node, Document, Expression, key_value, array_table, define, at_key, along_dots, along_header, close}
use Rattle.toml.specs.View.{items_of}
use Rattle.toml.proofs.ReadLines.{run}
use Rattle.toml.proofs.ReadValues.{item_join, item_join-none, item_join-push}
use Rattle.shape_exact.specs.declared.plate.Plate.{Plate}
use Rattle.yard_generator.proofs.FormLaws.{Form}
use Rattle.yard_generator.proofs.PlainLaws.{run_append}
use Rattle.yard_generator.proofs.ValueLaws.{whole_number, number_list, point_list}

abbrev pub pair : List ℕ → Data → Expression
pair k d = (([], k), key_value d)

abbrev pub heads : List ℕ → Expression
heads k = (([], k), array_table)

abbrev pub plate_lines : Plate → List Expression
plate_lines p =
    heads (codes "plate") ∷ pair (codes "name") (string p.name) ∷ pair (codes "width") (whole_number p.width) ∷ pair (codes "height")
    (whole_number p.height)
    ∷ pair (codes "pitch") (whole_number p.pitch) ∷ pair (codes "closed") (number_list p.closed) ∷ []

-- the table of a plate: its keys ascend
abbrev pub plate_nodes : Plate → Nodes
plate_nodes p =
    node (codes "closed") (value (number_list p.closed)) (node (codes "height") (value (whole_number p.height)) (node (codes "name")
    (value (string p.name))
    (node (codes "pitch") (value (whole_number p.pitch)) (node (codes "width") (value (whole_number p.width)) no_nodes))))

abbrev pub plate_data : Plate → Data
plate_data p = table (close (plate_nodes p))

abbrev pub block_lines : Form → List Expression
block_lines b =
    heads (codes "block") ∷ pair (codes "name") (string b.name) ∷ pair (codes "shape") (point_list b.shape) ∷ pair (codes "turns")
    (number_list b.turns)
    ∷ pair (codes "duration") (whole_number b.duration) ∷ pair (codes "release") (whole_number b.release) ∷ pair (codes "due")
    (whole_number b.due)
    ∷ pair (codes "weight") (whole_number b.weight) ∷ []

abbrev pub block_nodes : Form → Nodes
block_nodes b =
    node (codes "due") (value (whole_number b.due)) (node (codes "duration") (value (whole_number b.duration)) (node (codes "name")
    (value (string b.name))
    (node (codes "release") (value (whole_number b.release)) (node (codes "shape") (value (point_list b.shape)) (node (codes "turns")
    (value (number_list b.turns))
    (node (codes "weight") (value (whole_number b.weight)) no_nodes))))))

abbrev pub block_data : Form → Data
block_data b = table (close (block_nodes b))

abbrev pub top_lines : ℕ → List Expression
top_lines days = pair (codes "version") (whole_number 1) ∷ pair (codes "days") (whole_number days) ∷ []

-- the document after the top lines; in the middle of the plates; in the middle of the blocks
abbrev at_top : ℕ → Document
at_top days = (node (codes "days") (value (whole_number days)) (node (codes "version") (value (whole_number 1)) no_nodes), [])

abbrev with_plates : ℕ → Items → Nodes → Nodes
with_plates days done last =
    node (codes "days") (value (whole_number days)) (node (codes "plate") (open_array done last) (node (codes "version") (value
    (whole_number 1)) no_nodes))

abbrev at_plates : ℕ → Items → Nodes → Document
at_plates days done last = (with_plates days done last, codes "plate" ∷ [])

abbrev at_blocks : Nodes → Items → Nodes → Document
at_blocks others done last = (node (codes "block") (open_array done last) others, codes "block" ∷ [])

top_run : (days : ℕ) → run (no_nodes, []) (top_lines days) ≡ Some (at_top days)
unfolding define at_key along_dots along_header
top_run days = refl

first_plate : (days : ℕ) (p : Plate) → run (at_top days) (plate_lines p) ≡ Some (at_plates days no_items (plate_nodes p))
unfolding define at_key along_dots along_header
first_plate days p = refl

next_plate : (days : ℕ) (done : Items) (last : Nodes) (p : Plate)
    → run (at_plates days done last) (plate_lines p) ≡ Some (at_plates days (push_item done (table (close last))) (plate_nodes p))
unfolding define at_key along_dots along_header
next_plate days done last p = refl

first_block : (days : ℕ) (done : Items) (last : Nodes) (b : Form)
    → run (at_plates days done last) (block_lines b) ≡ Some (at_blocks (with_plates days done last) no_items (block_nodes b))
unfolding define at_key along_dots along_header
first_block days done last b = refl

next_block : (others : Nodes) (done : Items) (last : Nodes) (b : Form)
    → run (at_blocks others done last) (block_lines b) ≡ Some (at_blocks others (push_item done (table (close last))) (block_nodes b))
unfolding define at_key along_dots along_header
next_block others done last b = refl

-- ---- any number of tables, after the first

module _ {X : Type 0} (lines : X → List Expression) (nodes : X → Nodes) (state : Items → Nodes → Document)
    (next : (done : Items) (last : Nodes) (x : X) → run (state done last) (lines x) ≡ Some (state (push_item done (table
    (close last))) (nodes x))) where
  -- where the tables end, and what they are then
  abbrev pub Ends : Items → Nodes → List X → Type 0
  Ends done last xs =
      (after : Items) × (end : Nodes) × (run (state done last) (flat_map lines xs) ≡ Some (state after end))
      × (push_item after (table (close end)) ≡ item_join (push_item done (table (close last))) (items_of (map (λ x. table (close
      (nodes x))) xs)))

  pub tables_run : (done : Items) (last : Nodes) (xs : List X) → Ends done last xs
  tables_run done last [] = (done, last, refl, sym (item_join-none (push_item done (table (close last)))))
  tables_run done last (x ∷ xs) =
      let more = push_item done (table (close last)) in
      let (after, end, ran, same) = tables_run more (nodes x) xs in (
        after,
        end,
        run_append (state done last) (lines x) (flat_map lines xs) ∙ rw (next done last x) ran,
        same ∙ item_join-push more (table (close (nodes x))) (items_of (map (λ y. table (close (nodes y))) xs)),
      )

-- ---- the whole yard

abbrev pub yard_lines : ℕ → List Plate → List Form → List Expression
yard_lines days ps bs = top_lines days ++ (flat_map plate_lines ps ++ flat_map block_lines bs)

-- the table that the text of a yard is
abbrev pub yard_members : ℕ → List Plate → List Form → Members
yard_members days ps bs =
    member (codes "block") (array (items_of (map block_data bs))) (member (codes "days") (whole_number days)
    (member (codes "plate") (array (items_of (map plate_data ps))) (member (codes "version") (whole_number 1) no_members)))

pub yard_run : (days : ℕ) (p : Plate) (ps : List Plate) (b : Form) (bs : List Form)
    → (doc : Document) × (run (no_nodes, []) (yard_lines days (p ∷ ps) (b ∷ bs)) ≡ Some doc) × (close doc.0 ≡ yard_members days
    (p ∷ ps) (b ∷ bs))
yard_run days p ps b bs =
    let plates = flat_map plate_lines (p ∷ ps) in
    let blocks = flat_map block_lines (b ∷ bs) in
    let (after, end, ran, same) = tables_run plate_lines plate_nodes (at_plates days) (next_plate days) no_items (plate_nodes p) ps in
    let others = with_plates days after end in
    let (after_b, end_b, ran_b, same_b) = tables_run block_lines block_nodes (at_blocks others) (next_block others) no_items
    (block_nodes b) bs in
    let some_plates : run (at_top days) plates ≡ Some (at_plates days after end) = run_append (at_top days) (plate_lines p)
    (flat_map plate_lines ps) ∙ rw (first_plate days p) ran in
    let some_blocks : run (at_plates days after end) blocks ≡ Some (at_blocks others after_b end_b) = run_append
    (at_plates days after end) (block_lines b) (flat_map block_lines bs) ∙ rw (first_block days after end b) ran_b in
    let rest : run (at_top days) (plates ++ blocks) ≡ Some (at_blocks others after_b end_b) = run_append (at_top days) plates blocks
    ∙ rw some_plates some_blocks in (
      at_blocks others after_b end_b,
      run_append (no_nodes, []) (top_lines days) (plates ++ blocks)
          ∙ rw (top_run days) rest,
      rw (same, same_b) refl,
    )
