-- The kinds of events, facts and constraints by numbers, as the grammar has them, where the table has these terms.
use Rattle.std.specs.Prelude.{◌≡◌, ◌≢◌, ℕ, ◌≤◌, true, false, List, length, codes}
use Rattle.spec_calculus.specs.Syntax.{Protocol}
use Rattle.spec_terms.specs.Term.{Term}
use Rattle.spec_certificate_text.specs.Sides.{SidesOf, sides_in_order}
use Rattle.spec_certificate_text.specs.OfProtocol.{IsEvent}
use Rattle.spec_certificate_text.specs.Terms.{Code, Arity}
use Rattle.spec_certificate_faults.specs.Grammar.{EndsAt}
use Rattle.spec_first_faults.specs.Kinds.{fixed, nothing_before}
use Rattle.spec_first_faults.specs.Kinds as plain
use Rattle.spec_certificate_text.specs.Names.{with_tables}
use Rattle.spec_first_faults.specs.Facts.{words, WordFault, event_goes_on, phases}
use Rattle.spec_node_tables.specs.Text.{number_text, event_over, sides_over}
use Rattle.spec_node_reading.specs.Kinds.{KindIn, kept, changing, behind, one_of, marked, row_of}
use Rattle.spec_node_reading.specs.Walked.{Walked, with_signs, MayFollowAll, table_numbers}

module _ (P : Protocol) (table : List Term) where
  -- numbers, a comma between each two, and `)`
  abbrev pub arguments : KindIn Walked
  arguments = row_of (table_numbers false table) (codes ",") (codes ")")

  -- Events: a word alone, or over numbers.

  -- what stands behind the word: `(` and numbers, or nothing
  abbrev pub applications : KindIn Walked
  applications = one_of (behind (kept (fixed (codes "("))) arguments) (kept (nothing_before (EndsAt event_goes_on)))

  abbrev pub performances : KindIn Walked
  performances = behind (kept (plain.marked words (WordFault P))) applications

  -- Arity: an event over numbers that may follow, of which it takes another number
  pub record IsMisperformed (w : Walked) (bytes : List ℕ) : Type 0 where
    pub event : ℕ
    pub takes : ℕ
    pub numbers : List ℕ
    pub rest : List ℕ
    pub is_event : IsEvent P event takes
    pub each : MayFollowAll false table w numbers
    pub wrong : takes ≢ length numbers
    pub text : bytes ≡ event_over number_text P event numbers rest
    pub whole : performances.Text bytes rest

  abbrev pub EventFault : Walked → Code → List ℕ → Type 0
  EventFault w Arity bytes = IsMisperformed w bytes
  EventFault w code bytes = ⊥

  abbrev pub events : KindIn Walked
  events = marked performances EventFault

-- Facts.

module _ (P : Protocol) (table : List Term) where
  -- entries of tables, which are spelled as events are
  abbrev pub entries : KindIn Walked
  entries = events (with_tables P) table

  -- the word of a predicate, and `(` where it has no phase, which are so many symbols
  abbrev pub opening : List ℕ → ℕ → KindIn Walked
  opening word signs = changing word (with_signs signs)

  abbrev pub closing : KindIn Walked
  closing = kept (fixed (codes ")"))

  -- a predicate with its phase, `(` and what it speaks of
  abbrev pub in_phase : List ℕ → KindIn Walked → KindIn Walked
  in_phase word K = behind (opening word 1) (behind (kept (phases P)) (behind (kept (fixed (codes "("))) K))

  -- `att` with its phase, `(`, a number and `)`
  abbrev pub known : KindIn Walked
  known = in_phase (codes "att") (behind (table_numbers false table) closing)

  -- `mess` with its phase, `(`, a number, a comma, a number and `)`
  abbrev pub sent : KindIn Walked
  sent = in_phase (codes "mess") (behind (table_numbers false table) (behind (kept (fixed (codes ","))) (behind (table_numbers false table) closing)))

  -- `tab(`, an entry and `)`
  abbrev pub stored : KindIn Walked
  stored = behind (opening (codes "tab(") 2) (behind entries closing)

  -- `ev(` or `mev(`, an event and `)`
  abbrev pub performed : List ℕ → KindIn Walked
  performed word = behind (opening word 2) (behind (events P table) closing)

  -- `bad(`, numbers, of which there may be none, and `)`
  abbrev pub violated : KindIn Walked
  violated = behind (opening (codes "bad(") 1) (one_of closing (arguments P table))

  -- any fact but `bad`
  abbrev pub hypotheses : KindIn Walked
  hypotheses = one_of (one_of (performed (codes "mev(")) sent) (one_of (performed (codes "ev(")) (one_of stored known))

  -- any fact but `mev`
  abbrev pub conclusions : KindIn Walked
  conclusions = one_of sent (one_of (performed (codes "ev(")) (one_of violated (one_of stored known)))

  -- Constraints.

  -- numbers, a comma between each two, and what stands behind the last
  abbrev pub sides_before : List ℕ → KindIn Walked
  sides_before close = row_of (table_numbers true table) (codes ",") close

  abbrev pub pairings : KindIn Walked
  pairings = behind (opening (codes "diff(") 1) (behind (sides_before (codes ";")) (sides_before (codes ")")))

  -- Arity: another number of left sides than of right sides, one at least of both, all of which may follow
  pub record IsUnpaired (w : Walked) (bytes : List ℕ) : Type 0 where
    pub sides : SidesOf ℕ
    pub rest : List ℕ
    pub each : MayFollowAll true table (with_signs 1 w) (sides_in_order sides)
    pub left_some : 1 ≤ length sides.left
    pub right_some : 1 ≤ length sides.right
    pub wrong : length sides.left ≢ length sides.right
    pub text : bytes ≡ sides_over number_text P sides rest

  abbrev pub DiffFault : Walked → Code → List ℕ → Type 0
  DiffFault w Arity bytes = IsUnpaired w bytes
  DiffFault w code bytes = ⊥

  -- `diff(`, numbers, `;`, numbers and `)`
  abbrev pub diffs : KindIn Walked
  diffs = marked pairings DiffFault
