-- Reading facts, constraints and clauses on a walk: each term that is read leads from a state to another, and so do the symbols that stand besides
-- terms. Both formats of certificates are read so: one whose terms are spelled keeps its state.
use Rattle.std.specs.Prelude.{ℕ, suc, ◌==◌, if◌then◌else◌, Bool, true, false, List, [], ◌∷◌, length, drop, Option, Some, None, codes}
use Rattle.spec_calculus.specs.Syntax.{Protocol}
use Rattle.spec_terms.specs.Term.{Term}
use Rattle.spec_clauses.specs.Fact.{Fact, Att, Mess, Tab, Ev, Mev, Bad, Clause}
use Rattle.spec_certificate_text.specs.Names.{CalledEvent, event_called, table_called}
use Rattle.spec_certificate_text.specs.Terms.{Symbol}
use Rattle.spec_certificate_text.specs.Outcomes.{Outcome, Found, Faulty, next, front, read_fixed, Reader}
use Rattle.spec_certificate_text.specs.Facts.{Performed, performed, one_tree, paired, read_phase}
use Rattle.spec_certificate_text.specs.Clauses.{has_next_hypothesis, Premises}
use Rattle.spec_certificate_text.specs.Sides.{SidesOf, SpelledClause, meant_clause}
use Rattle.spec_certificate_text.specs.ReadWords.{read_word}
use Rattle.spec_certificate_text.specs.Rounds.{rounds, collects}

-- what reads something from a state on, and leads to another
abbrev pub Walk : Type 0 → Type 0 → Type 0
Walk S A = S → Reader (A × S)

-- Rows of terms and events, by what reads a term.
module _ {S : Type 0} (term : Walk S Term) where
  -- a term and what stands behind it: `,` where another follows, or the byte that closes their row
  abbrev pub item_before : ℕ → Walk S (Term × Bool)
  item_before closing s bytes at = next (term s bytes at) (λ t place rest.
      if front rest == 44 then next (read_fixed (codes ",") rest place) (λ _ p r. Found ((t.0, true), t.1) p r)
      else next (read_fixed (closing ∷ []) rest place) (λ _ p r. Found ((t.0, false), t.1) p r))

  -- terms, a comma between each two, and behind the last the byte that closes their row
  abbrev pub read_row : ℕ → Walk S (List Term)
  read_row closing s bytes at = rounds (collects (item_before closing)) (suc (length bytes)) ([], s) bytes at

  -- those of a fact, which `)` closes
  abbrev pub argument : Walk S (Term × Bool)
  argument s bytes at = item_before 41 s bytes at

  abbrev pub read_terms : Walk S (List Term)
  read_terms s bytes at = read_row 41 s bytes at

  -- what stands behind the word of an event or a table
  abbrev pub applied : Walk S (List Term)
  applied s bytes at =
      if front bytes == 40 then next (read_fixed (codes "(") bytes at) (λ _ p r. read_terms s r p) else Found ([], s) at bytes

  -- an event or an entry whose word, which begins at the first place, names this, if anything
  abbrev pub event_named : Option CalledEvent → ℕ → Walk S Performed
  event_named None from s bytes at = Faulty from Symbol
  event_named (Some called) from s bytes at =
      next (applied s bytes at) (λ ts p r. next (performed from called ts.0 p r) (λ e p r. Found (e, ts.1) p r))

  -- an event
  abbrev pub read_event : Protocol → Walk S Performed
  read_event P s bytes at = next (read_word bytes at) (λ word p r. event_named (event_called P word) at s r p)

  -- an entry of a table
  abbrev pub read_entry : Protocol → Walk S Performed
  read_entry P s bytes at = next (read_word bytes at) (λ word p r. event_named (table_called P word) at s r p)

  -- the arguments of `bad`, of which there may be none
  abbrev pub bad_arguments : Walk S (List Term)
  bad_arguments s bytes at =
      if front bytes == 41 then next (read_fixed (codes ")") bytes at) (λ _ p r. Found ([], s) p r) else read_terms s bytes at

-- Facts of each kind, by what reads a term and what counts symbols: the predicate counts as a symbol, and the name of an event or a table
-- as another.
module _ {S : Type 0} (term : Walk S Term) (counts : ℕ → S → S) where
  abbrev pub read_att : Protocol → Walk S (Fact Term)
  read_att P s bytes at =
      next (read_fixed (codes "att") bytes at) (λ _ p r.
      next (read_phase P r p) (λ k p r.
      next (read_fixed (codes "(") r p) (λ _ p r.
      next (term (counts 1 s) r p) (λ t p r.
      next (read_fixed (codes ")") r p) (λ _ p r. Found (Att k t.0, t.1) p r)))))

  abbrev pub read_mess : Protocol → Walk S (Fact Term)
  read_mess P s bytes at =
      next (read_fixed (codes "mess") bytes at) (λ _ p r.
      next (read_phase P r p) (λ k p r.
      next (read_fixed (codes "(") r p) (λ _ p r.
      next (term (counts 1 s) r p) (λ t p r.
      next (read_fixed (codes ",") r p) (λ _ p r.
      next (term t.1 r p) (λ u p r.
      next (read_fixed (codes ")") r p) (λ _ p r. Found (Mess k t.0 u.0, u.1) p r)))))))

  abbrev pub read_tab : Protocol → Walk S (Fact Term)
  read_tab P s bytes at =
      next (read_fixed (codes "tab(") bytes at) (λ _ p r.
      next (read_entry term P (counts 2 s) r p) (λ e p r.
      next (read_fixed (codes ")") r p) (λ _ p r. Found (Tab e.0.event e.0.arguments, e.1) p r)))

  abbrev pub read_ev : Protocol → Walk S (Fact Term)
  read_ev P s bytes at =
      next (read_fixed (codes "ev(") bytes at) (λ _ p r.
      next (read_event term P (counts 2 s) r p) (λ e p r.
      next (read_fixed (codes ")") r p) (λ _ p r. Found (Ev e.0.event e.0.arguments, e.1) p r)))

  abbrev pub read_mev : Protocol → Walk S (Fact Term)
  read_mev P s bytes at =
      next (read_fixed (codes "mev(") bytes at) (λ _ p r.
      next (read_event term P (counts 2 s) r p) (λ e p r.
      next (read_fixed (codes ")") r p) (λ _ p r. Found (Mev e.0.event e.0.arguments, e.1) p r)))

  abbrev pub read_bad : Walk S (Fact Term)
  read_bad s bytes at =
      next (read_fixed (codes "bad(") bytes at) (λ _ p r.
      next (bad_arguments term (counts 1 s) r p) (λ ts p r. Found (Bad ts.0, ts.1) p r))

  -- a fact that begins with `m`: its third byte tells `mev` from `mess`
  abbrev pub read_mev_or_mess : Protocol → Walk S (Fact Term)
  read_mev_or_mess P s bytes at = if front (drop 2 bytes) == 118 then read_mev P s bytes at else read_mess P s bytes at

  -- a fact that may be a hypothesis: any but `bad`
  abbrev pub read_hypothesis : Protocol → Walk S (Fact Term)
  read_hypothesis P s bytes at =
      if front bytes == 109 then read_mev_or_mess P s bytes at
      else (if front bytes == 101 then read_ev P s bytes at
      else (if front bytes == 116 then read_tab P s bytes at else read_att P s bytes at))

  -- a fact that may be a conclusion: any but `mev`
  abbrev pub read_conclusion : Protocol → Walk S (Fact Term)
  read_conclusion P s bytes at =
      if front bytes == 109 then read_mess P s bytes at
      else (if front bytes == 101 then read_ev P s bytes at
      else (if front bytes == 98 then read_bad s bytes at
      else (if front bytes == 116 then read_tab P s bytes at else read_att P s bytes at)))

  -- a hypothesis, and `, ` behind it where another follows
  abbrev pub one_hypothesis : Protocol → Walk S (Fact Term × Bool)
  one_hypothesis P s bytes at = next (read_hypothesis P s bytes at) (λ h place rest.
      if has_next_hypothesis rest then next (read_fixed (codes ", ") rest place) (λ _ p r. Found ((h.0, true), h.1) p r)
      else Found ((h.0, false), h.1) place rest)

  -- hypotheses, a comma and a space between each two
  abbrev pub some_hypotheses : Protocol → Walk S (List (Fact Term))
  some_hypotheses P s bytes at = rounds (collects (one_hypothesis P)) (suc (length bytes)) ([], s) bytes at

-- Constraints, by what reads a side and what counts symbols: a constraint counts as a symbol.
module _ {S : Type 0} (side : Walk S Term) (counts : ℕ → S → S) where
  abbrev pub read_diff : Walk S (SidesOf Term)
  read_diff s bytes at =
      next (read_fixed (codes "diff(") bytes at) (λ _ p r.
      next (read_row side 59 (counts 1 s) r p) (λ left p r.
      next (read_row side 41 left.1 r p) (λ right p r.
      next (paired at left.0 right.0 p r) (λ d p r. Found (d, right.1) p r))))

  -- a constraint, and `, ` behind it where another follows
  abbrev pub one_diff : Walk S (SidesOf Term × Bool)
  one_diff s bytes at = next (read_diff s bytes at) (λ d place rest.
      if front rest == 44 then next (read_fixed (codes ", ") rest place) (λ _ p r. Found ((d.0, true), d.1) p r)
      else Found ((d.0, false), d.1) place rest)

  -- constraints, a comma and a space between each two
  abbrev pub some_diffs : Walk S (List (SidesOf Term))
  some_diffs s bytes at = rounds (collects one_diff) (suc (length bytes)) ([], s) bytes at

  -- constraints behind hypotheses, of which there may be none
  abbrev pub read_diffs : Walk S (List (SidesOf Term))
  read_diffs s bytes at = if front bytes == 44 then next (read_fixed (codes ", ") bytes at) (λ _ p r. some_diffs s r p) else Found ([], s) at bytes

-- Clauses, by what reads a term, what reads a side and what counts symbols.
module _ {S : Type 0} (term side : Walk S Term) (counts : ℕ → S → S) where
  -- premises, behind which a space stands
  abbrev pub spaced : List (Fact Term) → Outcome (List (SidesOf Term) × S) → Outcome (Premises × S)
  spaced hs diffs = next diffs (λ ds p r. next (read_fixed (codes " ") r p) (λ _ p r. Found (record { hypotheses = hs; diffs = ds.0 }, ds.1) p r))

  -- constraints without hypotheses, or hypotheses and then constraints
  abbrev pub some_premises : Protocol → Walk S Premises
  some_premises P s bytes at =
      if front bytes == 100 then spaced [] (some_diffs side counts s bytes at)
      else next (some_hypotheses term counts P s bytes at) (λ hs p r. spaced hs.0 (read_diffs side counts hs.1 r p))

  -- premises, which may be none
  abbrev pub read_premises : Protocol → Walk S Premises
  read_premises P s bytes at = if front bytes == 61 then Found (record { hypotheses = []; diffs = [] }, s) at bytes else some_premises P s bytes at

  -- a clause as it is spelled: its premises, `=> `, and its conclusion
  abbrev pub read_spelled_clause : Protocol → Walk S (SpelledClause Term)
  read_spelled_clause P s bytes at =
      next (read_premises P s bytes at) (λ ps p r.
      next (read_fixed (codes "=> ") r p) (λ _ p r.
      next (read_conclusion term counts P ps.1 r p) (λ c p r. Found (record { hypotheses = ps.0.hypotheses; diffs = ps.0.diffs; conclusion = c.0 }, c.1) p r)))

  -- a clause
  abbrev pub read_clause : Protocol → Walk S (Clause Term)
  read_clause P s bytes at = next (read_spelled_clause P s bytes at) (λ c p r. Found (meant_clause c.0, c.1) p r)

-- Walks that keep their state.

-- a term, and a side, as it is spelled
abbrev pub spelled_tree : {S : Type 0} → Bool → Protocol → Walk S Term
spelled_tree binds P s bytes at = next (one_tree binds P bytes at) (λ t place rest. Found (t, s) place rest)

abbrev pub spelled_term : {S : Type 0} → Protocol → Walk S Term
spelled_term P s bytes at = spelled_tree false P s bytes at

abbrev pub spelled_side : {S : Type 0} → Protocol → Walk S Term
spelled_side P s bytes at = spelled_tree true P s bytes at

-- nothing is counted
abbrev pub no_counts : {S : Type 0} → ℕ → S → S
no_counts n s = s

-- what was read, with a state
abbrev pub with_state : {S A : Type 0} → S → Outcome A → Outcome (A × S)
with_state s outcome = next outcome (λ x place rest. Found (x, s) place rest)
