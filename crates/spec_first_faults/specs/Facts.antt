-- The kinds of events, phases, facts and constraints, as the grammar has them.
use Rattle.std.specs.Prelude.{◌≡◌, ◌≢◌, ℕ, ◌≤◌, ◌||◌, ◌==◌, Bool, false, List, [], ◌∷◌, length, codes}
use Rattle.std.specs.Char.{is_ascii_digit}
use Rattle.std.specs.Fmt.{decimal}
use Rattle.std.specs.List.{AllByRecursion}
use Rattle.spec_calculus.specs.Syntax.{Protocol}
use Rattle.spec_calculus.specs.Points.{greatest_phase}
use Rattle.spec_protocol_tokens.specs.Bytes.{begins_word, is_in_word}
use Rattle.spec_terms.specs.Term.{Term}
use Rattle.spec_certificate_text.specs.Loose.{onto}
use Rattle.spec_certificate_text.specs.OfProtocol.{IsShort, IsEvent}
use Rattle.spec_certificate_text.specs.Names.{with_tables}
use Rattle.spec_certificate_text.specs.Outcomes.{front}
use Rattle.spec_certificate_text.specs.Words.{event_word}
use Rattle.spec_certificate_text.specs.Written.{written_event}
use Rattle.spec_certificate_text.specs.Terms.{Code, Symbol, Arity}
use Rattle.spec_certificate_text.specs.Readable.{MayStand, SideMayStand}
use Rattle.spec_certificate_text.specs.Text.{sides_text}
use Rattle.spec_certificate_faults.specs.Grammar.{EndsAt}
use Rattle.spec_certificate_faults.specs.First.{Kind, terms, sides}
use Rattle.spec_first_faults.specs.Kinds.{fixed, IsRun, runs, nothing_before, behind, one_of, marked, row_of}
use Rattle.spec_first_faults.specs.Numbers.{numbers}

-- terms, a comma between each two, and `)`
abbrev pub arguments : Protocol → Kind
arguments P = row_of (terms P) (codes ",") (codes ")")

-- Events: a word alone, or over terms.

-- a word
abbrev pub words : Kind
words = runs begins_word is_in_word

-- Symbol: the word is that of no event
pub record NamesNoEvent (P : Protocol) (bytes : List ℕ) : Type 0 where
  pub rest : List ℕ
  pub word : IsRun begins_word is_in_word bytes rest
  pub none : (e n : ℕ) → IsEvent P e n → event_word P e ≢ word.run

abbrev pub WordFault : Protocol → Code → List ℕ → Type 0
WordFault P Symbol bytes = NamesNoEvent P bytes
WordFault P code bytes = ⊥

-- an event that stands alone could go on with the byte
abbrev pub event_goes_on : ℕ → Bool
event_goes_on b = is_in_word b || (b == 40)

abbrev pub EndsEvent : List Term → List ℕ → Type 0
EndsEvent [] rest = EndsAt event_goes_on rest
EndsEvent (t ∷ ts) rest = Unit {0}

-- Arity: an event over terms of the protocol, none too deep, of which it takes another number
pub record IsMisperformed (P : Protocol) (bytes : List ℕ) : Type 0 where
  pub event : ℕ
  pub takes : ℕ
  pub arguments : List Term
  pub rest : List ℕ
  pub is_event : IsEvent P event takes
  pub each : AllByRecursion (MayStand P) arguments
  pub wrong : takes ≢ length arguments
  pub text : bytes ≡ onto (written_event P event arguments) rest
  pub ends : EndsEvent arguments rest

abbrev pub EventFault : Protocol → Code → List ℕ → Type 0
EventFault P Arity bytes = IsMisperformed P bytes
EventFault P code bytes = ⊥

-- what stands behind the word: `(` and terms, or nothing
abbrev pub applications : Protocol → Kind
applications P = one_of (behind (fixed (codes "(")) (arguments P)) (nothing_before (EndsAt event_goes_on))

abbrev pub events : Protocol → Kind
events P = marked (behind (marked words (WordFault P)) (applications P)) (EventFault P)

-- Entries of tables, which are spelled as events are.

abbrev pub entries : Protocol → Kind
entries P = events (with_tables P)

-- Phases.

-- Symbol: a number that is no phase of the protocol past the first
pub record IsNoPhase (P : Protocol) (bytes : List ℕ) : Type 0 where
  pub rest : List ℕ
  pub digits : IsRun is_ascii_digit is_ascii_digit bytes rest
  pub number : ℕ
  pub short : IsShort number
  pub is : digits.run ≡ decimal number
  pub none : 1 ≤ number → number ≤ greatest_phase P.main → ⊥

abbrev pub PhaseFault : Protocol → Code → List ℕ → Type 0
PhaseFault P Symbol bytes = IsNoPhase P bytes
PhaseFault P code bytes = ⊥

-- no phase begins
abbrev pub BeginsNoPhase : List ℕ → Type 0
BeginsNoPhase bytes = (front bytes == 64) ≡ false

-- what stands behind a predicate: `@` and a phase past the first, or nothing
abbrev pub phases : Protocol → Kind
phases P = one_of (behind (fixed (codes "@")) (marked numbers (PhaseFault P))) (nothing_before BeginsNoPhase)

-- Facts.

-- a predicate with its phase, `(` and what it speaks of
abbrev pub in_phase : List ℕ → Protocol → Kind → Kind
in_phase word P K = behind (fixed word) (behind (phases P) (behind (fixed (codes "(")) K))

-- `att` with its phase, `(`, a term and `)`
abbrev pub known : Protocol → Kind
known P = in_phase (codes "att") P (behind (terms P) (fixed (codes ")")))

-- `mess` with its phase, `(`, a term, a comma, a term and `)`
abbrev pub sent : Protocol → Kind
sent P = in_phase (codes "mess") P (behind (terms P) (behind (fixed (codes ",")) (behind (terms P) (fixed (codes ")")))))

-- `tab(`, an entry and `)`
abbrev pub stored : Protocol → Kind
stored P = behind (fixed (codes "tab(")) (behind (entries P) (fixed (codes ")")))

-- `ev(` or `mev(`, an event and `)`
abbrev pub performed : List ℕ → Protocol → Kind
performed word P = behind (fixed word) (behind (events P) (fixed (codes ")")))

-- `bad(`, terms, of which there may be none, and `)`
abbrev pub violated : Protocol → Kind
violated P = behind (fixed (codes "bad(")) (one_of (fixed (codes ")")) (arguments P))

-- any fact but `bad`
abbrev pub hypotheses : Protocol → Kind
hypotheses P = one_of (one_of (performed (codes "mev(") P) (sent P)) (one_of (performed (codes "ev(") P) (one_of (stored P) (known P)))

-- any fact but `mev`
abbrev pub conclusions : Protocol → Kind
conclusions P = one_of (sent P) (one_of (performed (codes "ev(") P) (one_of (violated P) (one_of (stored P) (known P))))

-- Constraints.

-- sides, a comma between each two, and what stands behind the last
abbrev pub sides_before : Protocol → List ℕ → Kind
sides_before P close = row_of (sides P) (codes ",") close

-- Arity: another number of left sides than of right sides, none too deep
pub record IsUnpaired (P : Protocol) (bytes : List ℕ) : Type 0 where
  pub left : List Term
  pub right : List Term
  pub rest : List ℕ
  pub left_each : AllByRecursion (SideMayStand P) left
  pub right_each : AllByRecursion (SideMayStand P) right
  pub left_some : 1 ≤ length left
  pub right_some : 1 ≤ length right
  pub wrong : length left ≢ length right
  pub text : bytes ≡ sides_text P record { left = left; right = right } rest

abbrev pub DiffFault : Protocol → Code → List ℕ → Type 0
DiffFault P Arity bytes = IsUnpaired P bytes
DiffFault P code bytes = ⊥

-- `diff(`, sides, `;`, sides and `)`
abbrev pub diffs : Protocol → Kind
diffs P = marked (behind (fixed (codes "diff(")) (behind (sides_before P (codes ";")) (sides_before P (codes ")")))) (DiffFault P)
