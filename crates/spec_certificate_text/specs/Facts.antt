-- Reading facts and constraints.
use Rattle.std.specs.Prelude.{ℕ, ◌+◌, ◌==◌, ◌&&◌, nat_lt, nat_le, if◌then◌else◌, Bool, true, false, List, [], length, take, drop, Option, Some, None, codes}
use Rattle.std.specs.List.{prefix_len}
use Rattle.spec_calculus.specs.Syntax.{Declared, Protocol}
use Rattle.spec_calculus.specs.Points.{greatest_phase}
use Rattle.spec_protocol_tokens.specs.Bytes.{begins_word, is_in_word}
use Rattle.spec_terms.specs.Term.{Term}
use Rattle.spec_clauses.specs.Fact.{Fact, Att, Mess, Tab, Ev, Mev, Bad}
use Rattle.spec_certificate_text.specs.Sides.{SidesOf}
use Rattle.spec_certificate_text.specs.Names.{CalledEvent, called_in}
use Rattle.spec_certificate_text.specs.Terms.{Syntax, Symbol, Arity}
use Rattle.spec_certificate_text.specs.Runs.{Read, Done, Refused, read_tree}
use Rattle.spec_certificate_text.specs.Outcomes.{Outcome, Found, Faulty, next, front, ended, read_fixed, read_number, Reader, things}

-- what was read of a term
abbrev pub term_outcome : Read → Outcome Term
term_outcome (Done t place rest) = Found t place rest
term_outcome (Refused place code) = Faulty place code

-- a term of a fact, or a side of a constraint
abbrev pub one_tree : Bool → Protocol → Reader Term
one_tree binds P bytes at = term_outcome (read_tree binds P bytes at)

abbrev pub one_term : Protocol → Reader Term
one_term P bytes at = one_tree false P bytes at

-- a term or a side and what stands behind it: `,` where another follows, or the byte that closes their row
abbrev pub item_before : ℕ → Reader Term → Reader (Term × Bool)
item_before closing one bytes at = next (one bytes at) (λ t place rest.
    if front rest == 44 then Found (t, true) (place + 1) (drop 1 rest)
    else (if front rest == closing then Found (t, false) (place + 1) (drop 1 rest) else Faulty place Syntax))

-- a term and `,` behind it where another follows, or `)`
abbrev pub argument : Protocol → Reader (Term × Bool)
argument P bytes at = item_before 41 (one_term P) bytes at

-- terms, a comma between each two, and `)` behind the last
abbrev pub read_terms : Protocol → Reader (List Term)
read_terms P bytes at = things (argument P) bytes at

-- an event or a table over terms
pub record Performed : Type 0 where
  pub event : ℕ
  pub arguments : List Term

-- what is called so over these arguments, if it takes as many
abbrev pub performed : ℕ → CalledEvent → List Term → ℕ → List ℕ → Outcome Performed
performed from called ts place rest =
    if length ts == called.arity then Found (record { event = called.number; arguments = ts }) place rest else Faulty from Arity

-- an event or an entry whose word, which begins at the first place, names this, if anything, and ends at the other
abbrev pub event_named : Protocol → Option CalledEvent → ℕ → ℕ → List ℕ → Outcome Performed
event_named P None from place rest = Faulty from Symbol
event_named P (Some called) from place rest =
    if front rest == 40 then next (read_terms P (drop 1 rest) (place + 1)) (λ ts p r. performed from called ts p r)
    else performed from called [] place rest

-- what one of these declarations over terms is, of which the word stands before these bytes
abbrev pub call_before : Protocol → List Declared → List ℕ → ℕ → ℕ → List ℕ → Outcome Performed
call_before P declarations word from place rest = ended place rest (event_named P (called_in declarations word) from place rest)

abbrev pub read_call : Protocol → List Declared → Reader Performed
read_call P declarations bytes at =
    if begins_word (front bytes)
    then call_before P declarations (take (prefix_len is_in_word bytes) bytes) at (at + prefix_len is_in_word bytes) (drop (prefix_len is_in_word bytes) bytes)
    else Faulty at Syntax

-- an event
abbrev pub read_event : Protocol → Reader Performed
read_event P bytes at = read_call P P.events bytes at

-- an entry of a table
abbrev pub read_entry : Protocol → Reader Performed
read_entry P bytes at = read_call P P.tables bytes at

-- Phases of predicates.

-- whether facts may have it in their texts: a phase of the protocol but 0
abbrev pub is_later_phase : Protocol → ℕ → Bool
is_later_phase P k = nat_lt 0 k && nat_le k (greatest_phase P.main)

-- a number that begins at the first place, as a phase
abbrev pub as_phase : Protocol → ℕ → ℕ → ℕ → List ℕ → Outcome ℕ
as_phase P from k place rest = if is_later_phase P k then Found k place rest else Faulty from Symbol

-- a later phase
abbrev pub read_later_phase : Protocol → Reader ℕ
read_later_phase P bytes at = next (read_number bytes at) (λ k place rest. as_phase P at k place rest)

-- `@` and a later phase, or nothing for phase 0
abbrev pub read_phase : Protocol → Reader ℕ
read_phase P bytes at = if front bytes == 64 then read_later_phase P (drop 1 bytes) (at + 1) else Found 0 at bytes

-- Facts of each kind.

abbrev pub read_att : Protocol → Reader (Fact Term)
read_att P bytes at =
    next (read_fixed (codes "att") bytes at) (λ _ p r.
    next (read_phase P r p) (λ k p r.
    next (read_fixed (codes "(") r p) (λ _ p r.
    next (one_term P r p) (λ t p r.
    next (read_fixed (codes ")") r p) (λ _ p r. Found (Att k t) p r)))))

abbrev pub read_mess : Protocol → Reader (Fact Term)
read_mess P bytes at =
    next (read_fixed (codes "mess") bytes at) (λ _ p r.
    next (read_phase P r p) (λ k p r.
    next (read_fixed (codes "(") r p) (λ _ p r.
    next (one_term P r p) (λ t p r.
    next (read_fixed (codes ",") r p) (λ _ p r.
    next (one_term P r p) (λ u p r.
    next (read_fixed (codes ")") r p) (λ _ p r. Found (Mess k t u) p r)))))))

abbrev pub read_tab : Protocol → Reader (Fact Term)
read_tab P bytes at =
    next (read_fixed (codes "tab(") bytes at) (λ _ p r.
    next (read_entry P r p) (λ e p r.
    next (read_fixed (codes ")") r p) (λ _ p r. Found (Tab e.event e.arguments) p r)))

abbrev pub read_ev : Protocol → Reader (Fact Term)
read_ev P bytes at =
    next (read_fixed (codes "ev(") bytes at) (λ _ p r.
    next (read_event P r p) (λ e p r.
    next (read_fixed (codes ")") r p) (λ _ p r. Found (Ev e.event e.arguments) p r)))

abbrev pub read_mev : Protocol → Reader (Fact Term)
read_mev P bytes at =
    next (read_fixed (codes "mev(") bytes at) (λ _ p r.
    next (read_event P r p) (λ e p r.
    next (read_fixed (codes ")") r p) (λ _ p r. Found (Mev e.event e.arguments) p r)))

-- the arguments of `bad`, of which there may be none
abbrev pub bad_arguments : Protocol → Reader (List Term)
bad_arguments P bytes at = if front bytes == 41 then Found [] (at + 1) (drop 1 bytes) else read_terms P bytes at

abbrev pub read_bad : Protocol → Reader (Fact Term)
read_bad P bytes at =
    next (read_fixed (codes "bad(") bytes at) (λ _ p r.
    next (bad_arguments P r p) (λ ts p r. Found (Bad ts) p r))

-- a fact that begins with `m`: its third byte tells `mev` from `mess`
abbrev pub read_mev_or_mess : Protocol → Reader (Fact Term)
read_mev_or_mess P bytes at = if front (drop 2 bytes) == 118 then read_mev P bytes at else read_mess P bytes at

-- a fact that may be a hypothesis: any but `bad`
abbrev pub read_hypothesis : Protocol → Reader (Fact Term)
read_hypothesis P bytes at =
    if front bytes == 109 then read_mev_or_mess P bytes at
    else (if front bytes == 101 then read_ev P bytes at
    else (if front bytes == 116 then read_tab P bytes at else read_att P bytes at))

-- a fact that may be a conclusion: any but `mev`
abbrev pub read_conclusion : Protocol → Reader (Fact Term)
read_conclusion P bytes at =
    if front bytes == 109 then read_mess P bytes at
    else (if front bytes == 101 then read_ev P bytes at
    else (if front bytes == 98 then read_bad P bytes at
    else (if front bytes == 116 then read_tab P bytes at else read_att P bytes at)))

-- Constraints.

-- a side
abbrev pub one_side : Protocol → Reader Term
one_side P bytes at = one_tree true P bytes at

-- sides, a comma between each two, and behind the last the byte that closes their row
abbrev pub read_sides : Protocol → ℕ → Reader (List Term)
read_sides P closing bytes at = things (item_before closing (one_side P)) bytes at

-- as many left sides as right sides, of a constraint that begins at the place
abbrev pub paired : ℕ → List Term → List Term → ℕ → List ℕ → Outcome (SidesOf Term)
paired from left right place rest = if length left == length right then Found (record { left = left; right = right }) place rest else Faulty from Arity

abbrev pub read_diff : Protocol → Reader (SidesOf Term)
read_diff P bytes at =
    next (read_fixed (codes "diff(") bytes at) (λ _ p r.
    next (read_sides P 59 r p) (λ left p r.
    next (read_sides P 41 r p) (λ right p r. paired at left right p r)))
