-- Plates and blocks as tables of a yard file, and the text of each, line by line.
use Rattle.std.proofs.Common.{◌≡◌, ℕ, ◌+◌, ◌-◌, List, [], ◌∷◌, ◌++◌, map, refl, sym, ap, ◌∙◌, lit<, arith, append_assoc}
use Rattle.std.specs.Prelude.{codes}
use Rattle.std.specs.List.{flat_map}
use Rattle.std.specs.Fmt.{decimal}
use Rattle.std.proofs.lemmas.Fmt.{decimal_digit, decimal_step}
use Rattle.shape_exact.specs.declared.plate.Plate.{Plate}
use Rattle.yard_generator.specs.declared.draws.Drawn.{Drawn}
use Rattle.yard_generator.specs.Draws.{blocks_from}
use Rattle.yard_generator.specs.Texts as texts
use Rattle.yard_generator.specs.Yards.{plate_at, corners}

-- what the table of a block has
pub record Form : Type 0 where
  pub name : List ℕ
  pub shape : List (ℕ × ℕ)
  pub turns : List ℕ
  pub duration : ℕ
  pub release : ℕ
  pub due : ℕ
  pub weight : ℕ

abbrev pub form_of : ℕ → Drawn → Form
form_of i b = record {
  name = codes "B" ++ decimal i;
  shape = corners b.width b.height b.cut;
  turns = 0 ∷ 1 ∷ [];
  duration = b.duration;
  release = b.release;
  due = b.due;
  weight = b.weight;
}

abbrev pub forms_from : ℕ → List Drawn → List Form
forms_from i [] = []
forms_from i (b ∷ bs) = form_of i b ∷ forms_from (i + 1) bs

-- a line `key = value`, and a line `[[key]]`
abbrev pub line : List ℕ → List ℕ → List ℕ
line key value = key ++ (codes " = " ++ (value ++ codes "\n"))

abbrev pub heading : List ℕ → List ℕ
heading key = codes "[[" ++ (key ++ codes "]]\n")

abbrev pub quoted : List ℕ → List ℕ
quoted name = 34 ∷ (name ++ 34 ∷ [])

-- in brackets, with a comma and a space between the texts
abbrev pub further : List (List ℕ) → List ℕ
further [] = codes "]"
further (t ∷ ts) = codes ", " ++ (t ++ further ts)

abbrev pub bracketed : List (List ℕ) → List ℕ
bracketed [] = codes "[]"
bracketed (t ∷ ts) = codes "[" ++ (t ++ further ts)

abbrev pub numbers : List ℕ → List ℕ
numbers ns = bracketed (map decimal ns)

abbrev pub point : ℕ × ℕ → List ℕ
point p = numbers (p.0 ∷ p.1 ∷ [])

abbrev pub points : List (ℕ × ℕ) → List ℕ
points ps = bracketed (map point ps)

unfoldable pub plate_text : Plate → List ℕ
plate_text p =
    heading (codes "plate") ++ (line (codes "name") (quoted p.name) ++ (line (codes "width") (decimal p.width)
    ++ (line (codes "height") (decimal p.height) ++ (line (codes "pitch") (decimal p.pitch) ++ line (codes "closed") (numbers p.closed)))))

unfoldable pub figures_text : Form → List ℕ
figures_text b =
    line (codes "duration") (decimal b.duration) ++ (line (codes "release") (decimal b.release)
    ++ (line (codes "due") (decimal b.due) ++ line (codes "weight") (decimal b.weight)))

unfoldable pub block_text : Form → List ℕ
block_text b =
    heading (codes "block") ++ (line (codes "name") (quoted b.name) ++ (line (codes "shape") (points b.shape)
    ++ (line (codes "turns") (numbers b.turns) ++ figures_text b)))

unfoldable pub yard_text : ℕ → List Plate → List Form → List ℕ
yard_text days ps bs =
    line (codes "version") (decimal 1) ++ (line (codes "days") (decimal days) ++ (flat_map plate_text ps ++ flat_map block_text bs))

-- ---- these are the texts that are written

further_same : (ns : List ℕ) → texts.further ns ≡ further (map decimal ns)
further_same [] = refl
further_same (n ∷ ns) = ap (λ t. codes ", " ++ (decimal n ++ t)) (further_same ns)

numbers_same : (ns : List ℕ) → texts.numbers ns ≡ numbers ns
numbers_same [] = refl
numbers_same (n ∷ ns) = ap (λ t. codes "[" ++ (decimal n ++ t)) (further_same ns)

-- the pieces of a text, whichever way they are put together
plate_parts : (h n w g p c : List ℕ) → (h ++ n) ++ ((w ++ (g ++ p)) ++ c) ≡ h ++ (n ++ (w ++ (g ++ (p ++ c))))
plate_parts h n w g p c = simp append_assoc

block_parts : (h n s t f : List ℕ) → (h ++ n) ++ (s ++ (t ++ f)) ≡ h ++ (n ++ (s ++ (t ++ f)))
block_parts h n s t f = simp append_assoc

three_parts : (p q r b : List ℕ) → p ++ (q ++ (r ++ b)) ≡ (p ++ (q ++ (r ++ []))) ++ b
three_parts p q r b = simp append_assoc

-- the heading and the name of a plate and of a block
plate_head : (i : ℕ) → texts.head_text (codes "plate") (codes "P") i
    ≡ heading (codes "plate") ++ line (codes "name") (quoted (codes "P" ++ decimal i))
plate_head i = ap (λ t. codes "[[plate]]\nname = \"P" ++ t) (sym (append_assoc (decimal i) (34 ∷ []) (codes "\n")))

block_head : (i : ℕ) → texts.head_text (codes "block") (codes "B") i
    ≡ heading (codes "block") ++ line (codes "name") (quoted (codes "B" ++ decimal i))
block_head i = ap (λ t. codes "[[block]]\nname = \"B" ++ t) (sym (append_assoc (decimal i) (34 ∷ []) (codes "\n")))

abbrev sides : List ℕ
sides = line (codes "width") (decimal 60) ++ (line (codes "height") (decimal 40) ++ line (codes "pitch") (decimal 2))

plate_same : (i : ℕ) → texts.plate_text i ≡ plate_text (plate_at i)
unfolding texts.plate_text plate_text
plate_same i =
    ap (λ t. t ++ (sides ++ texts.closed_text texts.closed_days)) (plate_head i)
    ∙ ap (λ t. (heading (codes "plate") ++ line (codes "name") (quoted (codes "P" ++ decimal i)))
    ++ (sides ++ (codes "closed = " ++ (t ++ codes "\n")))) (numbers_same texts.closed_days)
    ∙ plate_parts (heading (codes "plate")) (line (codes "name") (quoted (codes "P" ++ decimal i))) (line (codes "width") (decimal 60))
    (line (codes "height") (decimal 40)) (line (codes "pitch") (decimal 2)) (line (codes "closed") (numbers texts.closed_days))

-- the numbers that every text has
zero_text : decimal 0 ≡ codes "0"
zero_text = decimal_digit 0 (lit< tt)

one_text : decimal 1 ≡ codes "1"
one_text = decimal_digit 1 (lit< tt)

days_text : decimal 200 ≡ codes "200"
days_text =
    decimal_step 200 (omega arith) (omega arith)
    ∙ ap (λ t. t ++ codes "0") (decimal_step 20 (omega arith) (omega arith) ∙ ap (λ t. t ++ codes "0") (decimal_digit 2 (lit< tt)))

turns_text : line (codes "turns") (numbers (0 ∷ 1 ∷ [])) ≡ codes "turns = [0, 1]\n"
turns_text =
    ap (λ z. codes "turns = " ++ ((codes "[" ++ (z ++ (codes ", " ++ (decimal 1 ++ codes "]")))) ++ codes "\n")) zero_text
    ∙ ap (λ o. codes "turns = " ++ ((codes "[0, " ++ (o ++ codes "]")) ++ codes "\n")) one_text

-- a point, and five points, of any texts of numbers
abbrev point_with : (o k e : List ℕ) → List ℕ → List ℕ → List ℕ
point_with o k e a b = o ++ (a ++ (k ++ (b ++ e)))

abbrev five_with : (s o k e v z w l n h : List ℕ) → List ℕ
five_with s o k e v z w l n h =
    s ++ ((o ++ (point_with o k e z z ++ (k ++ (point_with o k e w z ++ (k ++ (point_with o k e w l
    ++ (k ++ (point_with o k e n h ++ (k ++ (point_with o k e z h ++ e)))))))))) ++ v)

five_parts : (s o k e v z w l n h : List ℕ) → five_with s o k e v z w l n h
    ≡ s ++ (o ++ (o ++ (z ++ (k ++ (z ++ (e ++ (k ++ (o ++ (w ++ (k ++ (z ++ (e ++ (k ++ (o ++ (w ++ (k ++ (l ++ (e ++ (k
    ++ (o ++ (n ++ (k ++ (h ++ (e ++ (k ++ (o ++ (z ++ (k ++ (h ++ (e ++ (e ++ v)))))))))))))))))))))))))))))))
five_parts s o k e v z w l n h = simp append_assoc

two_parts : (a b c d e f g i w l n h : List ℕ)
    → (a ++ (w ++ (b ++ (w ++ (c ++ (l ++ d)))))) ++ (e ++ (n ++ (f ++ (h ++ (g ++ (h ++ i))))))
    ≡ a ++ (w ++ (b ++ (w ++ (c ++ (l ++ (d ++ (e ++ (n ++ (f ++ (h ++ (g ++ (h ++ i))))))))))))
two_parts a b c d e f g i w l n h = simp append_assoc

-- the five corners, with a text for 0
corners_same : (w l n h : List ℕ)
    → (codes "shape = [[0, 0], [" ++ (w ++ (codes ", 0], [" ++ (w ++ (codes ", " ++ (l ++ codes "], "))))))
    ++ (codes "[" ++ (n ++ (codes ", " ++ (h ++ (codes "], [0, " ++ (h ++ codes "]]\n"))))))
    ≡ five_with (codes "shape = ") (codes "[") (codes ", ") (codes "]") (codes "\n") (codes "0") w l n h
corners_same w l n h =
    two_parts (codes "shape = [[0, 0], [") (codes ", 0], [") (codes ", ") (codes "], ") (codes "[") (codes ", ") (codes "], [0, ")
    (codes "]]\n") w l n h
    ∙ sym (five_parts (codes "shape = ") (codes "[") (codes ", ") (codes "]") (codes "\n") (codes "0") w l n h)

shape_same : (w h c : ℕ) → texts.shape_text w h c ≡ line (codes "shape") (points (corners w h c))
shape_same w h c =
    corners_same (decimal w) (decimal (h - c)) (decimal (w - c)) (decimal h)
    ∙ ap (λ z. five_with (codes "shape = ") (codes "[") (codes ", ") (codes "]") (codes "\n") z (decimal w) (decimal (h - c))
    (decimal (w - c)) (decimal h)) (sym zero_text)

block_same : (i : ℕ) (b : Drawn) → texts.block_text i b ≡ block_text (form_of i b)
unfolding texts.block_text texts.figures_text block_text figures_text
block_same i b =
    let figures = figures_text (form_of i b) in
    ap (λ t. t ++ (texts.shape_text b.width b.height b.cut ++ (codes "turns = [0, 1]\n" ++ figures))) (block_head i)
    ∙ ap (λ t. (heading (codes "block") ++ line (codes "name") (quoted (codes "B" ++ decimal i))) ++ (t ++
    (codes "turns = [0, 1]\n" ++ figures)))
    (shape_same b.width b.height b.cut)
    ∙ ap (λ t. (heading (codes "block") ++ line (codes "name") (quoted (codes "B" ++ decimal i)))
    ++ (line (codes "shape") (points (corners b.width b.height b.cut)) ++ (t ++ figures))) (sym turns_text)
    ∙ block_parts (heading (codes "block")) (line (codes "name") (quoted (codes "B" ++ decimal i)))
    (line (codes "shape") (points (corners b.width b.height b.cut))) (line (codes "turns") (numbers (0 ∷ 1 ∷ []))) figures

blocks_same : (i : ℕ) (bs : List Drawn) → texts.blocks_text i bs ≡ flat_map block_text (forms_from i bs)
blocks_same i [] = refl
blocks_same i (b ∷ bs) =
    ap (λ t. t ++ texts.blocks_text (i + 1) bs) (block_same i b) ∙ ap (λ t. block_text (form_of i b) ++ t) (blocks_same (i + 1) bs)

-- the first two lines
top_same : (rest : List ℕ)
    → codes "version = 1\ndays = 200\n" ++ rest ≡ line (codes "version") (decimal 1) ++ (line (codes "days") (decimal 200) ++ rest)
top_same rest =
    sym (ap (λ t. line (codes "version") t ++ (line (codes "days") (decimal 200) ++ rest)) one_text
    ∙ ap (λ t. line (codes "version") (codes "1") ++ (line (codes "days") t ++ rest)) days_text)

-- the text of a generated yard, as that of its tables
pub yard_same : (seed blocks : ℕ)
    → texts.yard_text seed blocks
    ≡ yard_text 200 (plate_at 0 ∷ plate_at 1 ∷ plate_at 2 ∷ []) (forms_from 0 (blocks_from blocks seed))
unfolding texts.yard_text yard_text
yard_same seed blocks =
    let drawn = blocks_from blocks seed in
    ap (λ t. codes "version = 1\ndays = 200\n" ++ (t ++ (texts.plate_text 1 ++ (texts.plate_text 2 ++ texts.blocks_text 0 drawn))))
    (plate_same 0)
    ∙ ap (λ t. codes "version = 1\ndays = 200\n" ++ (plate_text (plate_at 0) ++ (t ++
    (texts.plate_text 2 ++ texts.blocks_text 0 drawn)))) (plate_same 1)
    ∙ ap (λ t. codes "version = 1\ndays = 200\n" ++ (plate_text (plate_at 0) ++ (plate_text (plate_at 1) ++
    (t ++ texts.blocks_text 0 drawn)))) (plate_same 2)
    ∙ ap (λ t. codes "version = 1\ndays = 200\n" ++ t)
    (ap (λ t. plate_text (plate_at 0) ++ (plate_text (plate_at 1) ++ (plate_text (plate_at 2) ++ t))) (blocks_same 0 drawn)
    ∙ three_parts (plate_text (plate_at 0)) (plate_text (plate_at 1)) (plate_text (plate_at 2)) (flat_map block_text (forms_from 0 drawn)))
    ∙ top_same ((plate_text (plate_at 0) ++ (plate_text (plate_at 1) ++ (plate_text (plate_at 2) ++ []))) ++ flat_map block_text
    (forms_from 0 drawn))
