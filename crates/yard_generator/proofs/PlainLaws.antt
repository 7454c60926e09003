-- A text of lines with no empty line between them is read as the expressions of its lines.
use Rattle.std.proofs.Common.{◌≡◌, ℕ, suc, ◌-◌, ◌<◌, true, false, List, [], ◌∷◌, ◌++◌, length, Option, Some, None, option_and_then, refl, sym, ap, ◌∙◌, ◌==◌, arith, append_assoc}
use Rattle.std.proofs.lemmas.Bool.Decides.{nat_tests}
use Rattle.toml_parser.specs.Lexical.{skip_blank}
use Rattle.toml_parser.proofs.LexicalLemmas.{skip_from-nil}
use Rattle.toml.specs.Tables.{Document, Expression, define, close, no_nodes}
use Rattle.toml.specs.Parse.{line as line_of, lines, skip_bom, parse_document}
use Rattle.toml.specs.Text.{IsLineText}
use Rattle.toml.proofs.Turns.{lines_end, lines_more, lines_refused, document_some}
use Rattle.toml.proofs.Blanks.{skip_newline, skip_within}
use Rattle.toml.proofs.ReadLines.{run, AllPrinted, line_turn}

-- the text has a line for each expression
abbrev pub IsPlain : List Expression → List ℕ → Type 0
IsPlain [] text = text ≡ []
IsPlain (e ∷ es) text = (this : List ℕ) × (rest : List ℕ) × (text ≡ this ++ rest) × IsLineText false false e.0 e.1 this × IsPlain es rest

step : (m : ℕ) (doc : Document) (x : List ℕ) (e : Expression) (after : List ℕ) (es : List Expression) (defined : Option Document)
    → defined ≡ define doc e → 0 < m → (length (skip_blank x) == 0) ≡ false
    → line_of (skip_blank x) ≡ Some (e, after) → ((next : Document) → lines (m - 1) next after ≡ run next es)
    → lines m doc x ≡ option_and_then (λ n. run n es) defined
step m doc x e after es None same some other read more = lines_refused m doc x e after some other read (sym same)
step m doc x e after es (Some next) same some other read more = lines_more m doc next x e after some other read (sym same) ∙ more next

read_plain : (es : List Expression) (text x : List ℕ) (doc : Document) (m : ℕ) → IsPlain es text → AllPrinted es
    → skip_blank x ≡ skip_blank text → length x < m → lines m doc x ≡ run doc es
read_plain [] text x doc m h ok skip room = lines_end m doc x (omega arith) (rw (skip, h, skip_from-nil true false) refl)
read_plain (e ∷ es) text x doc m h ok skip room =
    let (this, rest, whole, line_text, more) = h in
    let (s, at_start, read, some, shorter, not_bom) = line_turn false false e.0 e.1 this rest line_text ok.0 in
    let same : skip_blank x ≡ s = skip ∙ rw whole at_start in
    let other : (length (skip_blank x) == 0) ≡ false = rw same (grind (arith, nat_tests)) in
    let within = skip_within x in
    step m doc x e (10 ∷ rest) es (define doc e) refl (omega arith) other (rw same read) (λ next. read_plain es rest (10 ∷ rest) next
    (m - 1) more ok.1 (skip_newline rest) (omega (arith, ap length same)))

no_bom : (e : Expression) (es : List Expression) (text : List ℕ) → IsPlain (e ∷ es) text → AllPrinted (e ∷ es) → skip_bom text ≡ text
unfolding skip_bom
no_bom e es text h ok =
    let (this, rest, whole, line_text, more) = h in
    let turn = line_turn false false e.0 e.1 this rest line_text ok.0 in
    rw whole (rw turn.5 refl)

-- the document that a text of lines is
pub plain_document : (e : Expression) (es : List Expression) (text : List ℕ) (doc : Document) → IsPlain (e ∷ es) text
    → AllPrinted (e ∷ es) → run (no_nodes, []) (e ∷ es) ≡ Some doc
    → parse_document text ≡ Some (close doc.0)
plain_document e es text doc h ok ran =
    document_some text doc (rw (no_bom e es text h ok) (read_plain (e ∷ es) text text (no_nodes, []) (suc (length text)) h ok refl
    (omega arith) ∙ ran))

-- ---- lines one after the other

pub plain_append : (es fs : List Expression) (t u : List ℕ) → IsPlain es t → IsPlain fs u → IsPlain (es ++ fs) (t ++ u)
plain_append [] fs t u h k = rw h k
plain_append (e ∷ es) fs t u h k =
    let (this, rest, whole, line_text, more) = h in
    (this, rest ++ u, rw whole (append_assoc this rest u), line_text, plain_append es fs rest u more k)

pub printed_append : (es fs : List Expression) → AllPrinted es → AllPrinted fs → AllPrinted (es ++ fs)
printed_append [] fs a b = b
printed_append (e ∷ es) fs a b = (a.0, printed_append es fs a.1 b)

bind_assoc : (o : Option Document) (f g h : Document → Option Document) → ((d : Document) → h d ≡ option_and_then g (f d))
    → option_and_then h o ≡ option_and_then g (option_and_then f o)
bind_assoc None f g h same = refl
bind_assoc (Some d) f g h same = same d

pub run_append : (doc : Document) (es fs : List Expression) → run doc (es ++ fs) ≡ option_and_then (λ next. run next fs) (run doc es)
run_append doc [] fs = refl
run_append doc (e ∷ es) fs = bind_assoc (define doc e) (λ next. run next es) (λ next. run next fs) (λ next. run next (es ++ fs))
    (λ next. run_append next es fs)
