-- What is written in the words of a protocol stands on one line: numbers, words, terms, facts, constraints and clauses.
use Rattle.std.proofs.Common.{◌≡◌, ℕ, zero, suc, ◌-◌, ◌/◌, ◌%◌, ◌==◌, ◌&&◌, not, if◌then◌else◌, Bool, true, false, cond, nat_lt, List, [], ◌∷◌, ◌++◌, option_map, unwrap_or, codes, refl, ap, subst, ◌∙◌, arith}
use Rattle.std.proofs.lemmas.Bool.Decides.{nat_tests}
use Rattle.std.proofs.lemmas.List.Folds.{list_all-append}
use Rattle.std.specs.Fmt.{decimal, digits, digits_onto, digit_glyph}
use Rattle.std.specs.List.{list_all, AllByRecursion}
use Rattle.spec_trees.specs.Tree.{Trees, Leaf, Node, none, more, trees}
use Rattle.spec_calculus.specs.Syntax.{Declared, Process, Nil, Output, Input, Parallel, Replication, New, Let, Event, Phase, Insert, Get, Protocol}
use Rattle.spec_calculus.specs.Points.{numbered, nodes}
use Rattle.spec_calculus.proofs.Items.{each-append, each-numbered, if_some-is, if_some-map, if_some-unwrap}
use Rattle.spec_well_formed.specs.Processes.{EachWord}
use Rattle.spec_protocol_tokens.specs.Bytes.{is_in_word}
use Rattle.spec_protocol_scope.specs.Words.{IsIdentifier, IsSymbolWord, HasWords}
use Rattle.spec_terms.specs.Term.{Sym, Ctor, Data, Tuple, Free, Point, Attacker, Term}
use Rattle.spec_clauses.specs.Diff.{Diff}
use Rattle.spec_clauses.specs.Fact.{Fact, Att, Mess, Tab, Ev, Mev, Bad, Clause}
use Rattle.spec_certificate_text.specs.Loose.{Head, Applied, Tupled, Made, Attackers, Loose, LooseRow, opening, closing, onto, row, behind}
use Rattle.spec_certificate_text.specs.Sides.{first_bound, variable_word, spelled_diff}
use Rattle.spec_certificate_text.specs.Words.{declared_word, word_of_process, symbol_word, event_word, table_word}
use Rattle.spec_certificate_text.specs.Written.{applied, headed, written, written_row, written_event, written_entry, LooseFact, written_fact}
use Rattle.spec_certificate_text.specs.Text.{phase_text, fact_text, diff_text, later_diffs, diffs_text, later_hypotheses, hypotheses_text, clause_text}
use Rattle.spec_certificate_text.proofs.Runs.{both_left, both_right}
use Rattle.spec_certificate_text.proofs.Parts.{equal_byte}
use Rattle.spec_certificate_text.specs.ReportText.{in_line}

-- no byte of it ends a line
abbrev pub IsOneLine : List ℕ → Type 0
IsOneLine bytes = list_all in_line bytes ≡ true

both : (a b : Bool) → a ≡ true → b ≡ true → (a && b) ≡ true
both a b x y = ap (λ c. c && b) x ∙ y

pub joined : (xs ys : List ℕ) → IsOneLine xs → IsOneLine ys → IsOneLine (xs ++ ys)
joined xs ys x y = list_all-append in_line xs ys ∙ both (list_all in_line xs) (list_all in_line ys) x y

-- Numbers.

glyph_in_line : (d : ℕ) → in_line (digit_glyph false d) ≡ true
glyph_in_line d = grind (arith, nat_tests)

either : (is : Bool) (xs ys : List ℕ) → IsOneLine xs → IsOneLine ys → IsOneLine (if is then xs else ys)
either true xs ys x y = x
either false xs ys x y = y

digits_in_line : (k n : ℕ) (acc : List ℕ) → IsOneLine acc → IsOneLine (digits_onto k 10 false n acc)
digits_in_line zero n acc is = is
digits_in_line (suc k) n acc is =
    let glyph = digit_glyph false (n % 10) in
    let further : IsOneLine (glyph ∷ acc) = both (in_line glyph) (list_all in_line acc) (glyph_in_line (n % 10)) is in
    either (n / 10 == 0) (glyph ∷ acc) (digits_onto k 10 false (n / 10) (glyph ∷ acc)) further (digits_in_line k (n / 10) (glyph ∷ acc) further)

pub decimal_in_line : (n : ℕ) → IsOneLine (decimal n)
unfolding digits
decimal_in_line n = digits_in_line 64 n [] refl

-- Words.

in_word_in_line : (b : ℕ) → is_in_word b ≡ true → in_line b ≡ true
in_word_in_line b is = by_test (b == 10) refl
  where
    by_test : (test : Bool) → (b == 10) ≡ test → in_line b ≡ true
    by_test true e = let never : false ≡ true = subst (λ c. is_in_word c ≡ true) (equal_byte b 10 e) is in absurd (cc)
    by_test false e = ap not e

word_in_line : (word : List ℕ) → list_all is_in_word word ≡ true → IsOneLine word
word_in_line [] is = refl
word_in_line (b ∷ word) is =
    both (in_line b) (list_all in_line word)
    (in_word_in_line b (both_left (is_in_word b) (list_all is_in_word word) is)) (word_in_line word (both_right (is_in_word b) (list_all is_in_word word) is))

identifier_in_line : (word : List ℕ) → IsIdentifier word → IsOneLine word
identifier_in_line word is = word_in_line word is.goes_on

-- the word of the item of a number, and of none
numbered_in_line : {A : Type 0} (Q : A → Type 0) (word : A → List ℕ) → ((x : A) → Q x → IsOneLine (word x)) → (xs : List A) (n : ℕ) → AllByRecursion Q xs → IsOneLine (unwrap_or (option_map word (numbered xs n)) [])
numbered_in_line Q word on xs n all =
    if_some-unwrap IsOneLine (option_map word (numbered xs n)) []
    (if_some-map IsOneLine word (numbered xs n) (λ x is. on x (if_some-is Q (numbered xs n) x (each-numbered Q xs n all) is))) refl

declared_in_line : (Q : Declared → Type 0) → ((d : Declared) → Q d → IsOneLine d.word) → (ds : List Declared) (n : ℕ) → AllByRecursion Q ds → IsOneLine (declared_word ds n)
declared_in_line Q on ds n all = numbered_in_line Q (λ d. d.word) on ds n all

-- the word of a restriction, and of another process
abbrev OnOneLine : Process → Type 0
OnOneLine p = IsOneLine (word_of_process p)

nodes_in_line : (p : Process) → EachWord IsIdentifier p → AllByRecursion OnOneLine (nodes p)
nodes_in_line Nil each = (refl, tt)
nodes_in_line (Output channel message next) each = (refl, nodes_in_line next each)
nodes_in_line (Input channel pattern next) each = (refl, nodes_in_line next each)
nodes_in_line (Parallel left right) each = (refl, each-append OnOneLine (nodes left) (nodes right) (nodes_in_line left each.0) (nodes_in_line right each.1))
nodes_in_line (Replication copied) each = (refl, nodes_in_line copied each)
nodes_in_line (New word next) each = (identifier_in_line word each.0, nodes_in_line next each.1)
nodes_in_line (Let pattern e next otherwise) each = (refl, each-append OnOneLine (nodes next) (nodes otherwise) (nodes_in_line next each.0) (nodes_in_line otherwise each.1))
nodes_in_line (Event performed next) each = (refl, nodes_in_line next each)
nodes_in_line (Phase number next) each = (refl, nodes_in_line next each)
nodes_in_line (Insert table arguments next) each = (refl, nodes_in_line next each)
nodes_in_line (Get table patterns condition next otherwise) each = (refl, each-append OnOneLine (nodes next) (nodes otherwise) (nodes_in_line next each.0) (nodes_in_line otherwise each.1))

symbol_word_in_line : (d : Declared) → IsSymbolWord d.word → IsOneLine d.word
symbol_word_in_line d is = identifier_in_line d.word is.0

symbol_in_line : (P : Protocol) → HasWords P → (f : Sym) → IsOneLine (symbol_word P f)
symbol_in_line P words (Ctor f) = declared_in_line (λ d. IsSymbolWord d.word) symbol_word_in_line P.constructors f words.constructors
symbol_in_line P words (Data f) = declared_in_line (λ d. IsSymbolWord d.word) symbol_word_in_line P.constructors f words.constructors
symbol_in_line P words (Tuple parts) = refl
symbol_in_line P words (Free name) = declared_in_line (λ d. IsSymbolWord d.word) symbol_word_in_line P.frees name words.frees
symbol_in_line P words (Point point) = numbered_in_line OnOneLine word_of_process (λ p is. is) (nodes P.main) point (nodes_in_line P.main words.restrictions)
symbol_in_line P words Attacker = refl

event_in_line : (P : Protocol) → HasWords P → (event : ℕ) → IsOneLine (event_word P event)
event_in_line P words event = declared_in_line (λ d. IsIdentifier d.word) (λ d is. identifier_in_line d.word is) P.events event words.events

table_in_line : (P : Protocol) → HasWords P → (table : ℕ) → IsOneLine (table_word P table)
table_in_line P words table = declared_in_line (λ d. IsIdentifier d.word) (λ d is. identifier_in_line d.word is) P.tables table words.tables

-- Loose trees whose words and digits stand on one line.

abbrev HeadInLine : Head → Type 0
HeadInLine (Applied word) = IsOneLine word
HeadInLine Tupled = Unit {0}
HeadInLine (Made word digits) = IsOneLine word × IsOneLine digits
HeadInLine Attackers = Unit {0}

abbrev mutual
  LooseInLine : Loose → Type 0
  LooseInLine (Leaf word) = IsOneLine word
  LooseInLine (Node head arguments) = HeadInLine head × RowInLine arguments

  RowInLine : LooseRow → Type 0
  RowInLine none = Unit {0}
  RowInLine (more t ts) = LooseInLine t × RowInLine ts

opening_in_line : (head : Head) (rest : List ℕ) → HeadInLine head → IsOneLine rest → IsOneLine (opening head rest)
opening_in_line (Applied word) rest is k = joined word (40 ∷ rest) is k
opening_in_line Tupled rest is k = k
opening_in_line (Made word digits) rest is k = joined word (64 ∷ (digits ++ (91 ∷ rest))) is.0 (joined digits (91 ∷ rest) is.1 k)
opening_in_line Attackers rest is k = k

closing_in_line : (head : Head) (rest : List ℕ) → IsOneLine rest → IsOneLine (closing head ∷ rest)
closing_in_line (Applied word) rest k = k
closing_in_line Tupled rest k = k
closing_in_line (Made word digits) rest k = k
closing_in_line Attackers rest k = k

mutual
  onto_in_line : (t : Loose) (rest : List ℕ) → LooseInLine t → IsOneLine rest → IsOneLine (onto t rest)
  onto_in_line (Leaf word) rest is k = joined word rest is k
  onto_in_line (Node head ts) rest is k = opening_in_line head (row ts (closing head ∷ rest)) is.0 (row_in_line ts (closing head ∷ rest) is.1 (closing_in_line head rest k))

  row_in_line : (ts : LooseRow) (rest : List ℕ) → RowInLine ts → IsOneLine rest → IsOneLine (row ts rest)
  row_in_line none rest is k = k
  row_in_line (more t ts) rest is k = onto_in_line t (behind ts rest) is.0 (behind_in_line ts rest is.1 k)

  behind_in_line : (ts : LooseRow) (rest : List ℕ) → RowInLine ts → IsOneLine rest → IsOneLine (behind ts rest)
  behind_in_line none rest is k = k
  behind_in_line (more t ts) rest is k = onto_in_line t (behind ts rest) is.0 (behind_in_line ts rest is.1 k)

-- Terms, facts, constraints and clauses.

-- the word of a variable, which may be a bound one
variable_in_line : (x : ℕ) → IsOneLine (variable_word x)
variable_in_line x = by (nat_lt x first_bound)
  where
    by : (low : Bool) → IsOneLine (cond low (118 ∷ decimal x) (63 ∷ decimal (x - first_bound)))
    by true = decimal_in_line x
    by false = decimal_in_line (x - first_bound)

applied_in_line : (word : List ℕ) (ts : LooseRow) → IsOneLine word → RowInLine ts → LooseInLine (applied word ts)
applied_in_line word none is are = is
applied_in_line word (more t ts) is are = (is, are)

headed_in_line : (P : Protocol) → HasWords P → (f : Sym) (ts : LooseRow) → RowInLine ts → LooseInLine (headed P f ts)
headed_in_line P words (Ctor f) ts are = applied_in_line (symbol_word P (Ctor f)) ts (symbol_in_line P words (Ctor f)) are
headed_in_line P words (Data f) ts are = applied_in_line (symbol_word P (Data f)) ts (symbol_in_line P words (Data f)) are
headed_in_line P words (Tuple parts) ts are = (tt, are)
headed_in_line P words (Free name) ts are = applied_in_line (symbol_word P (Free name)) ts (symbol_in_line P words (Free name)) are
headed_in_line P words (Point point) ts are = ((symbol_in_line P words (Point point), decimal_in_line point), are)
headed_in_line P words Attacker ts are = (tt, are)

mutual
  written_in_line : (P : Protocol) → HasWords P → (t : Term) → LooseInLine (written P t)
  written_in_line P words (Leaf x) = variable_in_line x
  written_in_line P words (Node f ts) = headed_in_line P words f (written_row P ts) (written_row_in_line P words ts)

  written_row_in_line : (P : Protocol) → HasWords P → (ts : Trees ℕ Sym) → RowInLine (written_row P ts)
  written_row_in_line P words none = tt
  written_row_in_line P words (more t ts) = (written_in_line P words t, written_row_in_line P words ts)

event_written_in_line : (P : Protocol) → HasWords P → (event : ℕ) (ts : List Term) → LooseInLine (written_event P event ts)
event_written_in_line P words event ts = applied_in_line (event_word P event) (written_row P (trees ts)) (event_in_line P words event) (written_row_in_line P words (trees ts))

entry_written_in_line : (P : Protocol) → HasWords P → (table : ℕ) (ts : List Term) → LooseInLine (written_entry P table ts)
entry_written_in_line P words table ts = applied_in_line (table_word P table) (written_row P (trees ts)) (table_in_line P words table) (written_row_in_line P words (trees ts))

-- a predicate and its arguments are
record FactInLine (f : LooseFact) : Type 0 where
  predicate : IsOneLine f.predicate
  arguments : RowInLine f.arguments

fact_written_in_line : (P : Protocol) → HasWords P → (f : Fact Term) → FactInLine (written_fact P f)
fact_written_in_line P words (Att phase t) = record { predicate = refl; arguments = (written_in_line P words t, tt) }
fact_written_in_line P words (Mess phase t u) = record { predicate = refl; arguments = (written_in_line P words t, (written_in_line P words u, tt)) }
fact_written_in_line P words (Tab table ts) = record { predicate = refl; arguments = (entry_written_in_line P words table ts, tt) }
fact_written_in_line P words (Ev event ts) = record { predicate = refl; arguments = (event_written_in_line P words event ts, tt) }
fact_written_in_line P words (Mev event ts) = record { predicate = refl; arguments = (event_written_in_line P words event ts, tt) }
fact_written_in_line P words (Bad ts) = record { predicate = refl; arguments = written_row_in_line P words (trees ts) }

phase_in_line : (k : ℕ) (rest : List ℕ) → IsOneLine rest → IsOneLine (phase_text k rest)
phase_in_line zero rest is = is
phase_in_line (suc k) rest is = joined (decimal (suc k)) rest (decimal_in_line (suc k)) is

fact_in_line : (P : Protocol) → HasWords P → (f : Fact Term) (rest : List ℕ) → IsOneLine rest → IsOneLine (fact_text P f rest)
fact_in_line P words f rest k =
    let loose = written_fact P f in
    let is = fact_written_in_line P words f in
    joined loose.predicate (phase_text loose.phase (40 ∷ row loose.arguments (41 ∷ rest))) is.predicate
    (phase_in_line loose.phase (40 ∷ row loose.arguments (41 ∷ rest)) (row_in_line loose.arguments (41 ∷ rest) is.arguments k))

diff_in_line : (P : Protocol) → HasWords P → (d : Diff) (rest : List ℕ) → IsOneLine rest → IsOneLine (diff_text P d rest)
diff_in_line P words d rest k =
    let sides = spelled_diff d in
    let right = row (written_row P (trees sides.right)) (41 ∷ rest) in
    joined (codes "diff(") (row (written_row P (trees sides.left)) (59 ∷ right)) refl
    (row_in_line (written_row P (trees sides.left)) (59 ∷ right) (written_row_in_line P words (trees sides.left)) (row_in_line (written_row P (trees sides.right)) (41 ∷ rest) (written_row_in_line P words (trees sides.right)) k))

later_diffs_in_line : (P : Protocol) → HasWords P → (ds : List Diff) (rest : List ℕ) → IsOneLine rest → IsOneLine (later_diffs P ds rest)
later_diffs_in_line P words [] rest k = k
later_diffs_in_line P words (d ∷ ds) rest k = diff_in_line P words d (later_diffs P ds rest) (later_diffs_in_line P words ds rest k)

diffs_in_line : (P : Protocol) → HasWords P → (ds : List Diff) (rest : List ℕ) → IsOneLine rest → IsOneLine (diffs_text P ds rest)
diffs_in_line P words [] rest k = k
diffs_in_line P words (d ∷ ds) rest k = diff_in_line P words d (later_diffs P ds rest) (later_diffs_in_line P words ds rest k)

later_in_line : (P : Protocol) → HasWords P → (hs : List (Fact Term)) (ds : List Diff) (rest : List ℕ) → IsOneLine rest → IsOneLine (later_hypotheses P hs ds rest)
later_in_line P words [] ds rest k = later_diffs_in_line P words ds rest k
later_in_line P words (h ∷ hs) ds rest k = fact_in_line P words h (later_hypotheses P hs ds rest) (later_in_line P words hs ds rest k)

hypotheses_in_line : (P : Protocol) → HasWords P → (hs : List (Fact Term)) (ds : List Diff) (rest : List ℕ) → IsOneLine rest → IsOneLine (hypotheses_text P hs ds rest)
hypotheses_in_line P words [] ds rest k = diffs_in_line P words ds rest k
hypotheses_in_line P words (h ∷ hs) ds rest k = fact_in_line P words h (later_hypotheses P hs ds rest) (later_in_line P words hs ds rest k)

pub clause_in_line : (P : Protocol) → HasWords P → (c : Clause Term) (rest : List ℕ) → IsOneLine rest → IsOneLine (clause_text P c rest)
clause_in_line P words c rest k = hypotheses_in_line P words c.hypotheses c.diffs (61 ∷ 62 ∷ 32 ∷ fact_text P c.conclusion rest) (fact_in_line P words c.conclusion rest k)
