-- Reading facts and constraints that have numbers of nodes for terms: on the walk of the counts.
use Rattle.std.specs.Prelude.{ℕ, Bool, List, Option}
use Rattle.spec_calculus.specs.Syntax.{Protocol}
use Rattle.spec_terms.specs.Term.{Term}
use Rattle.spec_clauses.specs.Fact.{Fact}
use Rattle.spec_certificate_text.specs.Sides.{SidesOf}
use Rattle.spec_certificate_text.specs.Names.{CalledEvent}
use Rattle.spec_certificate_text.specs.Outcomes.{Reader}
use Rattle.spec_certificate_text.specs.Facts.{Performed}
use Rattle.spec_certificate_text.specs.Walks as walks
use Rattle.spec_node_counts.specs.Nodes.{Table}
use Rattle.spec_node_counts.specs.Counts.{Counted, with_symbols, read_term, read_side}

-- what reads something, where the walk has come so far, and walks on
abbrev pub Walk : Type 0 → Type 0
Walk A = Counted → Reader (A × Counted)

-- a term and what stands behind it: `,` where another follows, or `)`
abbrev pub argument : Table → Walk (Term × Bool)
argument T w bytes at = walks.argument (read_term T) w bytes at

-- terms, a comma between each two, and `)` behind the last
abbrev pub read_terms : Table → Walk (List Term)
read_terms T w bytes at = walks.read_terms (read_term T) w bytes at

-- what stands behind the word of an event or a table
abbrev pub applied : Table → Walk (List Term)
applied T w bytes at = walks.applied (read_term T) w bytes at

-- an event or an entry whose word, which begins at the first place, names this, if anything
abbrev pub event_named : Table → Option CalledEvent → ℕ → Walk Performed
event_named T called from w bytes at = walks.event_named (read_term T) called from w bytes at

-- an event
abbrev pub read_event : Protocol → Table → Walk Performed
read_event P T w bytes at = walks.read_event (read_term T) P w bytes at

-- an entry of a table
abbrev pub read_entry : Protocol → Table → Walk Performed
read_entry P T w bytes at = walks.read_entry (read_term T) P w bytes at

-- Facts of each kind.

abbrev pub read_att : Protocol → Table → Walk (Fact Term)
read_att P T w bytes at = walks.read_att (read_term T) with_symbols P w bytes at

abbrev pub read_mess : Protocol → Table → Walk (Fact Term)
read_mess P T w bytes at = walks.read_mess (read_term T) with_symbols P w bytes at

abbrev pub read_tab : Protocol → Table → Walk (Fact Term)
read_tab P T w bytes at = walks.read_tab (read_term T) with_symbols P w bytes at

abbrev pub read_ev : Protocol → Table → Walk (Fact Term)
read_ev P T w bytes at = walks.read_ev (read_term T) with_symbols P w bytes at

abbrev pub read_mev : Protocol → Table → Walk (Fact Term)
read_mev P T w bytes at = walks.read_mev (read_term T) with_symbols P w bytes at

-- the arguments of `bad`, of which there may be none
abbrev pub bad_arguments : Table → Walk (List Term)
bad_arguments T w bytes at = walks.bad_arguments (read_term T) w bytes at

abbrev pub read_bad : Table → Walk (Fact Term)
read_bad T w bytes at = walks.read_bad (read_term T) with_symbols w bytes at

-- a fact that begins with `m`: its third byte tells `mev` from `mess`
abbrev pub read_mev_or_mess : Protocol → Table → Walk (Fact Term)
read_mev_or_mess P T w bytes at = walks.read_mev_or_mess (read_term T) with_symbols P w bytes at

-- a fact that may be a hypothesis: any but `bad`
abbrev pub read_hypothesis : Protocol → Table → Walk (Fact Term)
read_hypothesis P T w bytes at = walks.read_hypothesis (read_term T) with_symbols P w bytes at

-- a fact that may be a conclusion: any but `mev`
abbrev pub read_conclusion : Protocol → Table → Walk (Fact Term)
read_conclusion P T w bytes at = walks.read_conclusion (read_term T) with_symbols P w bytes at

-- Constraints.

-- sides, a comma between each two, and behind the last the byte that closes their row
abbrev pub read_sides : Table → ℕ → Walk (List Term)
read_sides T closing w bytes at = walks.read_row (read_side T) closing w bytes at

abbrev pub read_diff : Table → Walk (SidesOf Term)
read_diff T w bytes at = walks.read_diff (read_side T) with_symbols w bytes at
