-- What the line of a block tells is spelled so, and what is spelled so is told.
use Rattle.std.proofs.Common.{◌≡◌, ℕ, ◌≤◌, Bool, true, false, cond, leb, ◌&&◌, List, [], ◌∷◌, ◌++◌, length, Option, Some, None, refl, sym, ap, subst, ◌∙◌, arith}
use Rattle.std.specs.Prelude.{codes}
use Rattle.std.specs.Fmt.{decimal}
use Rattle.std.specs.List.{join_with_byte}
use Rattle.std.specs.Str.{bytes_eq}
use Rattle.std.proofs.lemmas.Bool.{and_parts, leb-true}
use Rattle.std.proofs.lemmas.Bool.Decides.{nat_tests}
use Rattle.std.proofs.lemmas.Option.{same_Some, cond_some, option_and_then_some}
use Rattle.std.proofs.lemmas.Slice.Eq.{bytes_eq-Decides}
use Rattle.text_parts.specs.Parts.{◌>>=◌, cut, field}
use Rattle.text_parts.proofs.OptionLaws.{bind_some}
use Rattle.text_parts.proofs.CutLaws.{Lacks, cut-takes, cut-again}
use Rattle.text_parts.proofs.NumberLaws.{number-takes, number-again}
use Rattle.text_parts.proofs.FieldLaws.{Within, within_append, within_wider, field-takes, field-again, decimal_within, lacks_below}
use Rattle.shape_exact.specs.Names.{is_name, is_name_byte, all_name_bytes}
use Rattle.plan_text.specs.Rows.{Entry, name_of, after_word, part_after, figure_of, last_figures, row_of, total_in}

-- a word, a space and what follows
abbrev pub begins : List ℕ → List ℕ → List ℕ
begins front rest = front ++ 32 ∷ rest

-- the words on early days, where they are told
abbrev pub early_words : Option ℕ → List (List ℕ)
early_words None = []
early_words (Some early) = codes "early" ∷ decimal early ∷ []

-- the words with which the line of a block ends
abbrev pub ending : ℕ → Option ℕ → List (List ℕ)
ending late early = codes "tardiness" ∷ decimal late ∷ early_words early

-- the words of the line of a block
abbrev pub words : Entry → List (List ℕ)
words e =
    codes "block" ∷ e.name ∷ codes "plate" ∷ e.plate ∷ codes "turn" ∷ decimal e.turn ∷ codes "x" ∷ decimal e.x ∷ codes "y" ∷ decimal e.y
    ∷ codes "start" ∷ decimal e.start ∷ codes "end" ∷ decimal e.end ∷ ending e.tardiness e.early

-- the line without its line feed
unfoldable pub row_text : Entry → List ℕ
row_text e = join_with_byte 32 (words e)

-- early days are told, or they are not
abbrev pub HasEarly : Bool → Option ℕ → Type 0
HasEarly true (Some early) = early ≤ 4294967295
HasEarly true None = ⊥
HasEarly false (Some early) = ⊥
HasEarly false None = Unit {0}

-- what has a line, with or without early days
pub record HasRow (with_early : Bool) (e : Entry) : Type 0 where
  pub name : is_name e.name ≡ true
  pub plate : is_name e.plate ≡ true
  pub turn : e.turn ≤ 4294967295
  pub x : e.x ≤ 4294967295
  pub y : e.y ≤ 4294967295
  pub start : e.start ≤ 4294967295
  pub end : e.end ≤ 4294967295
  pub tardiness : e.tardiness ≤ 4294967295
  pub early : HasEarly with_early e.early

-- ---- parts

after-takes : (word text rest : List ℕ) → after_word word text ≡ Some rest → text ≡ begins word rest
after-takes word text rest e =
    let (p, cuts, more) = bind_some (cut 32 text) (λ p. cond (bytes_eq p.0 word) (Some p.1) None) rest e in
    let (same, is) = cond_some (bytes_eq p.0 word) p.1 rest more in
    (cut-takes 32 text p cuts).whole ∙ ap (λ (w : List ℕ). begins w p.1) ((bytes_eq-Decides p.0 word).0 same) ∙ ap (begins word) is

part-takes : {X : Type 0} (read : List ℕ → Option X) (text : X → List ℕ) (P : X → Type 0) → ((t : List ℕ) (x : X) → read t ≡ Some x → (t ≡ text x) × P x)
    → (word bs : List ℕ) (y : X × List ℕ) → part_after read word bs ≡ Some y → (bs ≡ begins word (begins (text y.0) y.1)) × P y.0
part-takes read text P takes word bs y e =
    let (rest, found, more) = bind_some (after_word word bs) (field read 32) y e in
    let f = field-takes read text P takes 32 rest y more in
    (after-takes word bs rest found ∙ ap (begins word) f.0, f.1)

name_takes : (t name : List ℕ) → name_of t ≡ Some name → (t ≡ name) × (is_name name ≡ true)
name_takes t name e = let (is, same) = cond_some (is_name t) t name e in (same, subst (λ (s : List ℕ). is_name s ≡ true) same is)

pub figure_takes : (t : List ℕ) (n : ℕ) → figure_of t ≡ Some n → (t ≡ decimal n) × (n ≤ 4294967295)
figure_takes t n e = number-takes 4294967295 n t (omega arith) e

abbrev IsFigure : ℕ → Type 0
IsFigure n = n ≤ 4294967295

name_part : (word bs : List ℕ) (y : List ℕ × List ℕ) → part_after name_of word bs ≡ Some y → (bs ≡ begins word (begins y.0 y.1)) × (is_name y.0 ≡ true)
name_part word bs y e = part-takes name_of (λ name. name) (λ name. is_name name ≡ true) name_takes word bs y e

figure_part : (word bs : List ℕ) (y : ℕ × List ℕ) → part_after figure_of word bs ≡ Some y → (bs ≡ begins word (begins (decimal y.0) y.1)) × (y.0 ≤ 4294967295)
figure_part word bs y e = part-takes figure_of decimal IsFigure figure_takes word bs y e

-- ---- the end of a line

-- what the end of a line says
record IsEnd (with_early : Bool) (text : List ℕ) (x : ℕ × Option ℕ) : Type 0 where
  text_is : text ≡ join_with_byte 32 (ending x.0 x.1)
  tardiness : x.0 ≤ 4294967295
  early : HasEarly with_early x.1

last-takes : (with_early : Bool) (text : List ℕ) (x : ℕ × Option ℕ) → last_figures with_early text ≡ Some x → IsEnd with_early text x
last-takes false text x e =
    let (rest, found, more) = bind_some (after_word (codes "tardiness") text) (λ rest. figure_of rest >>= λ late. Some (late, None)) x e in
    let (late, figure, made) = bind_some (figure_of rest) (λ late. Some (late, None)) x more in
    let is = figure_takes rest late figure in
    subst (IsEnd false text) (same_Some (late, None) x made)
    (record { text_is = after-takes (codes "tardiness") text rest found ∙ ap (begins (codes "tardiness")) is.0; tardiness = is.1; early = tt })
last-takes true text x e =
    let (late, found, more) = bind_some (part_after figure_of (codes "tardiness") text) (λ late. after_word (codes "early") late.1 >>= λ rest. figure_of rest >>= λ early. Some (late.0, Some early)) x e in
    let (rest, word, figures) = bind_some (after_word (codes "early") late.1) (λ rest. figure_of rest >>= λ early. Some (late.0, Some early)) x more in
    let (early, figure, made) = bind_some (figure_of rest) (λ early. Some (late.0, Some early)) x figures in
    let first = figure_part (codes "tardiness") text late found in
    let is = figure_takes rest early figure in
    let ends = after-takes (codes "early") late.1 rest word ∙ ap (begins (codes "early")) is.0 in
    subst (IsEnd true text) (same_Some (late.0, Some early) x made)
    (record { text_is = first.0 ∙ ap (λ s. begins (codes "tardiness") (begins (decimal late.0) s)) ends; tardiness = first.1; early = is.1 })

-- ---- the line of a block

-- the texts from a label on
abbrev from_tardiness : Entry → List ℕ
from_tardiness e = join_with_byte 32 (ending e.tardiness e.early)

abbrev from_end : Entry → List ℕ
from_end e = begins (codes "end") (begins (decimal e.end) (from_tardiness e))

abbrev from_start : Entry → List ℕ
from_start e = begins (codes "start") (begins (decimal e.start) (from_end e))

abbrev from_y : Entry → List ℕ
from_y e = begins (codes "y") (begins (decimal e.y) (from_start e))

abbrev from_x : Entry → List ℕ
from_x e = begins (codes "x") (begins (decimal e.x) (from_y e))

abbrev from_turn : Entry → List ℕ
from_turn e = begins (codes "turn") (begins (decimal e.turn) (from_x e))

abbrev from_plate : Entry → List ℕ
from_plate e = begins (codes "plate") (begins e.plate (from_turn e))

abbrev from_block : Entry → List ℕ
from_block e = begins (codes "block") (begins e.name (from_plate e))

-- what is read after each value
abbrev made : List ℕ → List ℕ → ℕ → ℕ → ℕ → ℕ → ℕ → ℕ × Option ℕ → Entry
made name plate turn x y start end late =
    record { name = name; plate = plate; turn = turn; x = x; y = y; start = start; end = end; tardiness = late.0; early = late.1 }

abbrev with_end : Bool → List ℕ → List ℕ → ℕ → ℕ → ℕ → ℕ → ℕ × List ℕ → Option Entry
with_end told name plate turn x y start end = last_figures told end.1 >>= λ late. Some (made name plate turn x y start end.0 late)

abbrev with_start : Bool → List ℕ → List ℕ → ℕ → ℕ → ℕ → ℕ × List ℕ → Option Entry
with_start told name plate turn x y start = part_after figure_of (codes "end") start.1 >>= with_end told name plate turn x y start.0

abbrev with_y : Bool → List ℕ → List ℕ → ℕ → ℕ → ℕ × List ℕ → Option Entry
with_y told name plate turn x y = part_after figure_of (codes "start") y.1 >>= with_start told name plate turn x y.0

abbrev with_x : Bool → List ℕ → List ℕ → ℕ → ℕ × List ℕ → Option Entry
with_x told name plate turn x = part_after figure_of (codes "y") x.1 >>= with_y told name plate turn x.0

abbrev with_turn : Bool → List ℕ → List ℕ → ℕ × List ℕ → Option Entry
with_turn told name plate turn = part_after figure_of (codes "x") turn.1 >>= with_x told name plate turn.0

abbrev with_plate : Bool → List ℕ → List ℕ × List ℕ → Option Entry
with_plate told name plate = part_after figure_of (codes "turn") plate.1 >>= with_turn told name plate.0

abbrev with_name : Bool → List ℕ × List ℕ → Option Entry
with_name told name = part_after name_of (codes "plate") name.1 >>= with_plate told name.0

abbrev IsRow : Bool → List ℕ → Entry → Type 0
IsRow told line e = (line ≡ from_block e) × HasRow told e

row_parts : (told : Bool) (line : List ℕ) (name plate : List ℕ × List ℕ) (turn x y start end : ℕ × List ℕ) (late : ℕ × Option ℕ)
    → part_after name_of (codes "block") line ≡ Some name → part_after name_of (codes "plate") name.1 ≡ Some plate
    → part_after figure_of (codes "turn") plate.1 ≡ Some turn → part_after figure_of (codes "x") turn.1 ≡ Some x
    → part_after figure_of (codes "y") x.1 ≡ Some y → part_after figure_of (codes "start") y.1 ≡ Some start
    → part_after figure_of (codes "end") start.1 ≡ Some end → last_figures told end.1 ≡ Some late
    → IsRow told line (made name.0 plate.0 turn.0 x.0 y.0 start.0 end.0 late)
row_parts told line name plate turn x y start end late e0 e1 e2 e3 e4 e5 e6 e7 =
    let t0 = name_part (codes "block") line name e0 in
    let t1 = name_part (codes "plate") name.1 plate e1 in
    let t2 = figure_part (codes "turn") plate.1 turn e2 in
    let t3 = figure_part (codes "x") turn.1 x e3 in
    let t4 = figure_part (codes "y") x.1 y e4 in
    let t5 = figure_part (codes "start") y.1 start e5 in
    let t6 = figure_part (codes "end") start.1 end e6 in
    let t7 = last-takes told end.1 late e7 in
    let s6 = t6.0 ∙ ap (λ s. begins (codes "end") (begins (decimal end.0) s)) t7.text_is in
    let s5 = t5.0 ∙ ap (λ s. begins (codes "start") (begins (decimal start.0) s)) s6 in
    let s4 = t4.0 ∙ ap (λ s. begins (codes "y") (begins (decimal y.0) s)) s5 in
    let s3 = t3.0 ∙ ap (λ s. begins (codes "x") (begins (decimal x.0) s)) s4 in
    let s2 = t2.0 ∙ ap (λ s. begins (codes "turn") (begins (decimal turn.0) s)) s3 in
    let s1 = t1.0 ∙ ap (λ s. begins (codes "plate") (begins plate.0 s)) s2 in (
      t0.0 ∙ ap (λ s. begins (codes "block") (begins name.0 s)) s1,
      record { name = t0.1; plate = t1.1; turn = t2.1; x = t3.1; y = t4.1; start = t5.1; end = t6.1; tardiness = t7.tardiness; early = t7.early },
    )

row-parts : (told : Bool) (line : List ℕ) (e : Entry) → row_of told line ≡ Some e → IsRow told line e
unfolding row_of
row-parts told line e h =
    option_and_then_some (with_name told) (part_after name_of (codes "block") line) e h (λ name e0 m0.
    option_and_then_some (with_plate told name.0) (part_after name_of (codes "plate") name.1) e m0 (λ plate e1 m1.
    option_and_then_some (with_turn told name.0 plate.0) (part_after figure_of (codes "turn") plate.1) e m1 (λ turn e2 m2.
    option_and_then_some (with_x told name.0 plate.0 turn.0) (part_after figure_of (codes "x") turn.1) e m2 (λ x e3 m3.
    option_and_then_some (with_y told name.0 plate.0 turn.0 x.0) (part_after figure_of (codes "y") x.1) e m3 (λ y e4 m4.
    option_and_then_some (with_start told name.0 plate.0 turn.0 x.0 y.0) (part_after figure_of (codes "start") y.1) e m4 (λ start e5 m5.
    option_and_then_some (with_end told name.0 plate.0 turn.0 x.0 y.0 start.0) (part_after figure_of (codes "end") start.1) e m5 (λ end e6 m6.
    option_and_then_some (λ late. Some (made name.0 plate.0 turn.0 x.0 y.0 start.0 end.0 late)) (last_figures told end.1) e m6 (λ late e7 m7.
    subst (IsRow told line) (same_Some (made name.0 plate.0 turn.0 x.0 y.0 start.0 end.0 late) e m7)
    (row_parts told line name plate turn x y start end late e0 e1 e2 e3 e4 e5 e6 e7)))))))))

-- the text by its words
by_words : (e : Entry) → row_text e ≡ from_block e
unfolding row_text
by_words e = refl

pub row-takes : (told : Bool) (line : List ℕ) (e : Entry) → row_of told line ≡ Some e → (line ≡ row_text e) × HasRow told e
row-takes told line e h = let (spelled, fits) = row-parts told line e h in (spelled ∙ sym (by_words e), fits)

-- ---- and back

-- each byte of a name is one of a line, and no space
name_low : (b : ℕ) → is_name_byte b ≡ true → 45 ≤ b
name_low b h = grind (arith, nat_tests)

name_high : (b : ℕ) → is_name_byte b ≡ true → b ≤ 122
name_high b h = grind (arith, nat_tests)

name_within : (name : List ℕ) → all_name_bytes name ≡ true → Within 45 122 name
name_within [] h = tt
name_within (b ∷ bs) h =
    let (one, more) = and_parts (is_name_byte b) (all_name_bytes bs) h in
    ((name_low b one, name_high b one), name_within bs more)

within_name : (name : List ℕ) → is_name name ≡ true → Within 45 122 name
within_name name h = name_within name (and_parts (leb 1 (length name) && leb (length name) 32) (all_name_bytes name) h).1

name_again : (word name rest : List ℕ) → Lacks 32 word → is_name name ≡ true → part_after name_of word (begins word (begins name rest)) ≡ Some (name, rest)
name_again word name rest lacks is =
    let same = (bytes_eq-Decides word word).1 refl in
    rw (cut-again 32 word (begins name rest) lacks, same)
    (field-again name_of name name 32 rest (lacks_below 32 45 122 name (omega arith) (within_name name is)) (rw is refl))

figure_again : (word : List ℕ) (n : ℕ) (rest : List ℕ) → Lacks 32 word → n ≤ 4294967295 → part_after figure_of word (begins word (begins (decimal n) rest)) ≡ Some (n, rest)
figure_again word n rest lacks le =
    let same = (bytes_eq-Decides word word).1 refl in
    let digits = lacks_below 32 48 57 (decimal n) (omega arith) (decimal_within n (omega arith)) in
    rw (cut-again 32 word (begins (decimal n) rest) lacks, same) (field-again figure_of (decimal n) n 32 rest digits (number-again 4294967295 n (omega arith) le))

last-again : (told : Bool) (late : ℕ) (early : Option ℕ) → late ≤ 4294967295 → HasEarly told early → last_figures told (join_with_byte 32 (ending late early)) ≡ Some (late, early)
last-again false late None le has = rw (number-again 4294967295 late (omega arith) le) refl
last-again false late (Some early) le has = absurd has
last-again true late None le has = absurd has
last-again true late (Some early) le has =
    rw (
      figure_again (codes "tardiness") late (begins (codes "early") (decimal early)) (refl, (refl, (refl, (refl, (refl, (refl, (refl, (refl, (refl, tt))))))))) le,
      number-again 4294967295 early (omega arith) has,
    ) refl

parts_again : (told : Bool) (e : Entry) → HasRow told e → row_of told (from_block e) ≡ Some e
unfolding row_of
parts_again told e h =
    rw (
      name_again (codes "block") e.name (from_plate e) (refl, (refl, (refl, (refl, (refl, tt))))) h.name,
      name_again (codes "plate") e.plate (from_turn e) (refl, (refl, (refl, (refl, (refl, tt))))) h.plate,
      figure_again (codes "turn") e.turn (from_x e) (refl, (refl, (refl, (refl, tt)))) h.turn,
      figure_again (codes "x") e.x (from_y e) (refl, tt) h.x,
      figure_again (codes "y") e.y (from_start e) (refl, tt) h.y,
      figure_again (codes "start") e.start (from_end e) (refl, (refl, (refl, (refl, (refl, tt))))) h.start,
      figure_again (codes "end") e.end (from_tardiness e) (refl, (refl, (refl, tt))) h.end,
      last-again told e.tardiness e.early h.tardiness h.early,
    ) refl

pub row-again : (told : Bool) (e : Entry) → HasRow told e → row_of told (row_text e) ≡ Some e
row-again told e h = ap (row_of told) (by_words e) ∙ parts_again told e h

-- ---- the total's line

pub total-takes : (line : List ℕ) (n : ℕ) → total_in line ≡ Some n → line ≡ begins (codes "total") (decimal n)
total-takes line n e =
    let (rest, found, more) = bind_some (after_word (codes "total") line) figure_of n e in
    after-takes (codes "total") line rest found ∙ ap (begins (codes "total")) (figure_takes rest n more).0

pub total-again : (n : ℕ) → n ≤ 4294967295 → total_in (begins (codes "total") (decimal n)) ≡ Some n
total-again n le = number-again 4294967295 n (omega arith) le

-- ---- lines have no line feed

spaced : (front rest : List ℕ) → Within 32 122 front → Within 32 122 rest → Within 32 122 (begins front rest)
spaced front rest f r = within_append 32 122 front (32 ∷ rest) f ((omega arith, omega arith), r)

number_line : (n : ℕ) → n ≤ 4294967295 → Within 32 122 (decimal n)
number_line n le = within_wider 48 57 32 122 (decimal n) (omega arith) (omega arith) (decimal_within n (omega arith))

name_line : (name : List ℕ) → is_name name ≡ true → Within 32 122 name
name_line name is = within_wider 45 122 32 122 name (omega arith) (omega arith) (within_name name is)

abbrev is_within : List ℕ → Bool
is_within [] = true
is_within (b ∷ bs) = leb 32 b && (leb b 122 && is_within bs)

word_line : (word : List ℕ) → is_within word ≡ true → Within 32 122 word
word_line [] e = tt
word_line (b ∷ bs) e =
    let (low, more) = and_parts (leb 32 b) (leb b 122 && is_within bs) e in
    let (high, rest) = and_parts (leb b 122) (is_within bs) more in
    ((leb-true 32 b low, leb-true b 122 high), word_line bs rest)

-- a word and a figure, or a word and a name, before the rest
figure_then : (word : List ℕ) (n : ℕ) (rest : List ℕ) → is_within word ≡ true → n ≤ 4294967295 → Within 32 122 rest → Within 32 122 (begins word (begins (decimal n) rest))
figure_then word n rest w le r = spaced word (begins (decimal n) rest) (word_line word w) (spaced (decimal n) rest (number_line n le) r)

name_then : (word name rest : List ℕ) → is_within word ≡ true → is_name name ≡ true → Within 32 122 rest → Within 32 122 (begins word (begins name rest))
name_then word name rest w is r = spaced word (begins name rest) (word_line word w) (spaced name rest (name_line name is) r)

last_within : (told : Bool) (late : ℕ) (early : Option ℕ) → late ≤ 4294967295 → HasEarly told early → Within 32 122 (join_with_byte 32 (ending late early))
last_within false late None le has = spaced (codes "tardiness") (decimal late) (word_line (codes "tardiness") refl) (number_line late le)
last_within false late (Some early) le has = absurd has
last_within true late None le has = absurd has
last_within true late (Some early) le has =
    figure_then (codes "tardiness") late (begins (codes "early") (decimal early)) refl le
    (spaced (codes "early") (decimal early) (word_line (codes "early") refl) (number_line early has))

row_within : (told : Bool) (e : Entry) → HasRow told e → Within 32 122 (from_block e)
row_within told e h =
    name_then (codes "block") e.name (from_plate e) refl h.name
    (name_then (codes "plate") e.plate (from_turn e) refl h.plate
    (figure_then (codes "turn") e.turn (from_x e) refl h.turn
    (figure_then (codes "x") e.x (from_y e) refl h.x
    (figure_then (codes "y") e.y (from_start e) refl h.y
    (figure_then (codes "start") e.start (from_end e) refl h.start
    (figure_then (codes "end") e.end (from_tardiness e) refl h.end
    (last_within told e.tardiness e.early h.tardiness h.early)))))))

pub row_line : (told : Bool) (e : Entry) → HasRow told e → Lacks 10 (row_text e)
row_line told e h = subst (Lacks 10) (sym (by_words e)) (lacks_below 10 32 122 (from_block e) (omega arith) (row_within told e h))

pub total_line : (n : ℕ) → n ≤ 4294967295 → Lacks 10 (begins (codes "total") (decimal n))
total_line n le = lacks_below 10 32 122 (begins (codes "total") (decimal n)) (omega arith) (spaced (codes "total") (decimal n) (word_line (codes "total") refl) (number_line n le))
