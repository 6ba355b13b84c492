-- Reading clauses by numbers, where the table has these terms.
use Rattle.std.specs.Prelude.{ℕ, zero, suc, ◌+◌, ◌==◌, ◌&&◌, ◌||◌, not, Bool, true, false, if◌then◌else◌, List, [], ◌∷◌, ◌++◌, length, take, drop, Option, Some, None, codes}
use Rattle.std.specs.List.{prefix_len}
use Rattle.spec_trees.specs.Tree.{size}
use Rattle.spec_calculus.specs.Bounds.{most_symbols}
use Rattle.spec_calculus.specs.Syntax.{Declared, Protocol}
use Rattle.spec_protocol_tokens.specs.Bytes.{begins_word, is_in_word}
use Rattle.spec_terms.specs.Term.{Term}
use Rattle.spec_clauses.specs.Fact.{Fact, Att, Mess, Tab, Ev, Mev, Bad, Clause}
use Rattle.spec_certificate_text.specs.Names.{CalledEvent, called_in}
use Rattle.spec_certificate_text.specs.Terms.{Syntax, Symbol, NodeOrder, NodeLarge}
use Rattle.spec_certificate_text.specs.Outcomes.{Outcome, Found, Faulty, next, front, ended, read_fixed, read_number, Reader}
use Rattle.spec_certificate_text.specs.Facts.{Performed, performed, paired, read_phase}
use Rattle.spec_certificate_text.specs.Clauses.{has_next_hypothesis, Premises}
use Rattle.spec_certificate_text.specs.Sides.{SidesOf, holds_bound, meant_clause}
use Rattle.spec_node_tables.specs.Nodes.{term_at}
use Rattle.spec_node_tables.specs.Large.{is_over, most_certificate_symbols}
use Rattle.spec_node_faults.specs.Clauses.{is_out_of_order}
use Rattle.spec_node_reading.specs.Walked.{Walked, next_clause, with_signs, with_term}
use Rattle.spec_node_reading.specs.Loops.{Behind, with, row_from}

module _ (P : Protocol) (table : List Term) where
  -- a number whose term may follow
  abbrev pub judged_number : Bool → Walked → ℕ → ℕ → ℕ → List ℕ → Outcome (Behind Term)
  judged_number binds w from n place rest =
      let t = term_at table n in
      if not binds && holds_bound t then Faulty from Symbol
      else (if is_out_of_order table w.seen n then Faulty from NodeOrder
      else (if is_over most_symbols (w.clause + size t) || is_over most_certificate_symbols (w.all + size t) then Faulty from NodeLarge
      else Found (with t (with_term t w)) place rest))

  -- a number of a fact, and one of a constraint
  abbrev pub one_term : Walked → Reader (Behind Term)
  one_term w bytes at = next (read_number bytes at) (λ n p r. judged_number false w at n p r)

  abbrev pub one_side : Walked → Reader (Behind Term)
  one_side w bytes at = next (read_number bytes at) (λ n p r. judged_number true w at n p r)

  -- terms, a comma between each two, and `)` behind the last: of them there are no more than bytes
  abbrev pub read_terms : Walked → Reader (Behind (List Term))
  read_terms w bytes at = row_from one_term 44 [] (codes ")") (suc (length bytes)) (with [] w) bytes at

  -- Events and entries.

  -- what stands behind the word of an event
  abbrev pub read_applied : Walked → Reader (Behind (List Term))
  read_applied w bytes at =
      if front bytes == 40 then next (read_fixed (codes "(") bytes at) (λ _ p r. read_terms w r p) else Found (with [] w) at bytes

  abbrev pub event_named : Option CalledEvent → Walked → ℕ → ℕ → List ℕ → Outcome (Behind Performed)
  event_named None w from place rest = Faulty from Symbol
  event_named (Some called) w from place rest =
      next (read_applied w rest place) (λ x p r. next (performed from called x.value p r) (λ e p r. Found (with e x.walked) p r))

  abbrev pub read_call : List Declared → Walked → Reader (Behind Performed)
  read_call declarations w bytes at =
      if begins_word (front bytes)
      then ended (at + prefix_len is_in_word bytes) (drop (prefix_len is_in_word bytes) bytes)
      (event_named (called_in declarations (take (prefix_len is_in_word bytes) bytes)) w at (at + prefix_len is_in_word bytes) (drop (prefix_len is_in_word bytes) bytes))
      else Faulty at Syntax

  abbrev pub read_event : Walked → Reader (Behind Performed)
  read_event w bytes at = read_call P.events w bytes at

  abbrev pub read_entry : Walked → Reader (Behind Performed)
  read_entry w bytes at = read_call P.tables w bytes at

  -- Facts of each kind.

  abbrev pub read_att : Walked → Reader (Behind (Fact Term))
  read_att w bytes at =
      next (read_fixed (codes "att") bytes at) (λ _ p r.
      next (read_phase P r p) (λ k p r.
      next (read_fixed (codes "(") r p) (λ _ p r.
      next (one_term (with_signs 1 w) r p) (λ x p r.
      next (read_fixed (codes ")") r p) (λ _ p r. Found (with (Att k x.value) x.walked) p r)))))

  abbrev pub read_mess : Walked → Reader (Behind (Fact Term))
  read_mess w bytes at =
      next (read_fixed (codes "mess") bytes at) (λ _ p r.
      next (read_phase P r p) (λ k p r.
      next (read_fixed (codes "(") r p) (λ _ p r.
      next (one_term (with_signs 1 w) r p) (λ x p r.
      next (read_fixed (codes ",") r p) (λ _ p r.
      next (one_term x.walked r p) (λ y p r.
      next (read_fixed (codes ")") r p) (λ _ p r. Found (with (Mess k x.value y.value) y.walked) p r)))))))

  abbrev pub read_called : (Walked → Reader (Behind Performed)) → List ℕ → (ℕ → List Term → Fact Term) → Walked → Reader (Behind (Fact Term))
  read_called call word fact w bytes at =
      next (read_fixed word bytes at) (λ _ p r.
      next (call (with_signs 2 w) r p) (λ e p r.
      next (read_fixed (codes ")") r p) (λ _ p r. Found (with (fact e.value.event e.value.arguments) e.walked) p r)))

  abbrev pub read_performed : List ℕ → (ℕ → List Term → Fact Term) → Walked → Reader (Behind (Fact Term))
  read_performed word fact w bytes at = read_called read_event word fact w bytes at

  abbrev pub read_tab : Walked → Reader (Behind (Fact Term))
  read_tab w bytes at = read_called read_entry (codes "tab(") (λ t ts. Tab t ts) w bytes at

  -- the arguments of `bad`, of which there may be none
  abbrev pub read_bad : Walked → Reader (Behind (Fact Term))
  read_bad w bytes at =
      next (read_fixed (codes "bad(") bytes at) (λ _ p r.
      if front r == 41 then next (read_fixed (codes ")") r p) (λ _ p r. Found (with (Bad []) (with_signs 1 w)) p r)
      else next (read_terms (with_signs 1 w) r p) (λ x p r. Found (with (Bad x.value) x.walked) p r))

  -- a fact that may be a hypothesis: any but `bad`; of those that begin with `m` the third byte tells `mev` from `mess`
  abbrev pub read_hypothesis : Walked → Reader (Behind (Fact Term))
  read_hypothesis w bytes at =
      if front bytes == 109
      then (if front (drop 2 bytes) == 118 then read_performed (codes "mev(") (λ e ts. Mev e ts) w bytes at else read_mess w bytes at)
      else (if front bytes == 101 then read_performed (codes "ev(") (λ e ts. Ev e ts) w bytes at
      else (if front bytes == 116 then read_tab w bytes at else read_att w bytes at))

  -- a fact that may be a conclusion: any but `mev`
  abbrev pub read_conclusion : Walked → Reader (Behind (Fact Term))
  read_conclusion w bytes at =
      if front bytes == 109 then read_mess w bytes at
      else (if front bytes == 101 then read_performed (codes "ev(") (λ e ts. Ev e ts) w bytes at
      else (if front bytes == 98 then read_bad w bytes at
      else (if front bytes == 116 then read_tab w bytes at else read_att w bytes at)))

  -- Constraints.

  -- sides, a comma between each two, and the byte behind the last
  abbrev pub read_sides : List ℕ → Walked → Reader (Behind (List Term))
  read_sides close w bytes at = row_from one_side 44 [] close (suc (length bytes)) (with [] w) bytes at

  abbrev pub read_diff : Walked → Reader (Behind (SidesOf Term))
  read_diff w bytes at =
      next (read_fixed (codes "diff(") bytes at) (λ _ p r.
      next (read_sides (codes ";") (with_signs 1 w) r p) (λ left p r.
      next (read_sides (codes ")") left.walked r p) (λ right p r.
      next (paired at left.value right.value p r) (λ s p r. Found (with s right.walked) p r))))

  -- Clauses.

  -- hypotheses behind these, at most so many: behind each but the last stand a comma and a space, and no constraint
  unfoldable pub hypotheses_from : ℕ → Behind (List (Fact Term)) → Reader (Behind (List (Fact Term)))
  hypotheses_from zero hs bytes at = Faulty at Syntax
  hypotheses_from (suc most) hs bytes at =
      next (read_hypothesis hs.walked bytes at) (λ h p r.
      if has_next_hypothesis r then next (read_fixed (codes ", ") r p) (λ _ p r. hypotheses_from most (with (hs.value ++ h.value ∷ []) h.walked) r p)
      else Found (with (hs.value ++ h.value ∷ []) h.walked) p r)

  -- one at least: of them there are no more than bytes
  abbrev pub read_hypotheses : Walked → Reader (Behind (List (Fact Term)))
  read_hypotheses w bytes at = hypotheses_from (suc (length bytes)) (with [] w) bytes at

  -- constraints, a comma and a space between each two, and ` => ` behind the last
  abbrev pub read_diffs : Walked → Reader (Behind (List (SidesOf Term)))
  read_diffs w bytes at = row_from read_diff 44 (32 ∷ []) (codes " => ") (suc (length bytes)) (with [] w) bytes at

  -- what stands behind hypotheses: constraints, or ` => ` alone
  abbrev pub read_diffs_behind : Walked → Reader (Behind (List (SidesOf Term)))
  read_diffs_behind w bytes at =
      if front bytes == 44 then next (read_fixed (codes ", ") bytes at) (λ _ p r. read_diffs w r p)
      else next (read_fixed (codes " => ") bytes at) (λ _ p r. Found (with [] w) p r)

  -- the hypotheses of a clause, its constraints, and ` => `, or `=> ` where there are none
  abbrev pub with_diffs : List (Fact Term) → Outcome (Behind (List (SidesOf Term))) → Outcome (Behind Premises)
  with_diffs hs diffs = next diffs (λ ds p r. Found (with (record { hypotheses = hs; diffs = ds.value }) ds.walked) p r)

  abbrev pub read_premises : Walked → Reader (Behind Premises)
  read_premises w bytes at =
      if front bytes == 61 then next (read_fixed (codes "=> ") bytes at) (λ _ p r. Found (with (record { hypotheses = []; diffs = [] }) w) p r)
      else (if front bytes == 100 then with_diffs [] (read_diffs w bytes at)
      else next (read_hypotheses w bytes at) (λ hs p r. with_diffs hs.value (read_diffs_behind hs.walked r p)))

  -- `c `, a clause and the end of its line, behind other clauses
  abbrev pub read_clause_line : Behind (List (Clause Term)) → Reader (Behind (List (Clause Term)))
  read_clause_line before bytes at =
      next (read_fixed (codes "c ") bytes at) (λ _ p r.
      next (read_premises (next_clause before.walked) r p) (λ ps p r.
      next (read_conclusion ps.walked r p) (λ f p r.
      next (read_fixed (codes "\n") r p) (λ _ p r.
      let c = meant_clause record { hypotheses = ps.value.hypotheses; diffs = ps.value.diffs; conclusion = f.value } in
      Found (with (before.value ++ c ∷ []) f.walked) p r))))
