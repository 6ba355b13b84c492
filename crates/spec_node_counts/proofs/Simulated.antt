-- Facts, clauses and certificates are read by counts as they are read by all terms.
use Rattle.std.proofs.Common.{◌≡◌, ℕ, zero, suc, ◌+◌, ◌==◌, if◌then◌else◌, Bool, true, false, List, [], ◌∷◌, ◌++◌, length, take, drop, codes, Option, Some, None, refl, sym, ◌∙◌, ap, subst}
use Rattle.std.specs.List.{prefix_len}
use Rattle.spec_calculus.specs.Syntax.{Declared, Protocol}
use Rattle.spec_protocol_tokens.specs.Bytes.{begins_word, is_in_word}
use Rattle.spec_terms.specs.Term.{Term}
use Rattle.spec_clauses.specs.Fact.{Fact, Att, Mess, Tab, Ev, Mev, Bad, Clause}
use Rattle.spec_certificate_text.specs.Names.{CalledEvent, called_in}
use Rattle.spec_certificate_text.specs.Terms.{Syntax, Symbol}
use Rattle.spec_certificate_text.specs.Outcomes.{Outcome, Found, Faulty, next, front, ended, read_fixed, read_number, Reader}
use Rattle.spec_certificate_text.specs.Facts.{Performed, performed, paired, read_phase}
use Rattle.spec_certificate_text.specs.Clauses.{has_next_hypothesis, Premises}
use Rattle.spec_certificate_text.specs.Sides.{SidesOf, SpelledClause, meant_clause}
use Rattle.spec_certificate_text.specs.ReadWords.{word_of}
use Rattle.spec_certificate_text.specs.Rounds.{rounds, collects, puts}
use Rattle.spec_certificate_text.proofs.Rounds.{behind_round, one_more, none_left}
use Rattle.spec_certificate_text.proofs.Alike.{Alike, found, faulty, next_alike, same_alike, if_alike, within_alike, both}
use Rattle.spec_first_faults.proofs.Premises.{fixed_joined}
use Rattle.spec_node_starts.specs.Tables.{HaveStarts}
use Rattle.spec_node_reading.specs.Walked as walks
use Rattle.spec_node_reading.specs.ReadClauses as kept
use Rattle.spec_node_reading.specs.Loops.{Behind, with, row_from}
use Rattle.spec_node_counts.specs.Nodes.{Table}
use Rattle.spec_node_counts.specs.Counts as counts
use Rattle.spec_node_counts.specs.Counts.{Counted}
use Rattle.spec_node_counts.specs.ReadFacts as facts
use Rattle.spec_node_counts.specs.ReadClauses as clauses
use Rattle.spec_node_counts.proofs.Bounds.{HaveBounds}
use Rattle.spec_node_counts.proofs.Counting.{IsAlong, Along, along, symbols_along, clause_along, number_alike}

module _ (P : Protocol) (T : Table) (starts : HaveStarts T.terms T.starts) (bounds : HaveBounds T.terms T.bounds) where
  -- both walks read alike
  abbrev Go : {A : Type 0} → (walks.Walked → Reader (Behind A)) → (Counted → Reader (A × Counted)) → Type 0
  Go {A} one other = (w : walks.Walked) (v : Counted) (bytes : List ℕ) (at : ℕ) → IsAlong T w v → Alike (Along {A = A} T) (one w bytes at) (other v bytes at)

  -- behind what both walks read
  then_alike : {A B : Type 0} (o : Outcome (Behind A)) (p : Outcome (A × Counted)) (f : Behind A → ℕ → List ℕ → Outcome (Behind B)) (g : A × Counted → ℕ → List ℕ → Outcome (B × Counted))
      → Alike (Along {A = A} T) o p → ((x : A) (w : walks.Walked) (v : Counted) (place : ℕ) (rest : List ℕ) → IsAlong T w v → Alike (Along {A = B} T) (f (with x w) place rest) (g (x, v) place rest))
      → Alike (Along {A = B} T) (next o f) (next p g)
  then_alike {A} {B} o p f g alike more = next_alike (Along {A = A} T) (Along {A = B} T) o p f g alike (λ x y place rest is. by x y place rest is)
    where
      by : (x : Behind A) (y : A × Counted) (place : ℕ) (rest : List ℕ) → Along {A = A} T x y → Alike (Along {A = B} T) (f x place rest) (g y place rest)
      by _ _ place rest (along x w v is) = more x w v place rest is

  term_alike : Go (kept.one_term P T.terms) (counts.read_term T)
  term_alike w v bytes at is = same_alike (Along T) (read_number bytes at) _ _ (λ n place rest. number_alike false P T w v at n place rest starts bounds is)

  side_alike : Go (kept.one_side P T.terms) (counts.read_side T)
  side_alike w v bytes at is = same_alike (Along T) (read_number bytes at) _ _ (λ n place rest. number_alike true P T w v at n place rest starts bounds is)

  -- a thing and what stands behind it, as one round reads it
  abbrev told_by : {A : Type 0} → (comma close : List ℕ) → (Counted → Reader (A × Counted)) → Counted → Reader ((A × Bool) × Counted)
  told_by comma close one v bytes at = next (one v bytes at) (λ x place rest.
      if front rest == 44 then next (read_fixed comma rest place) (λ _ p r. Found ((x.0, true), x.1) p r)
      else next (read_fixed close rest place) (λ _ p r. Found ((x.0, false), x.1) p r))

  abbrev put_by : {A : Type 0} → List A → (A × Bool) × Counted → ℕ → List ℕ → Outcome ((List A × Counted) × Bool)
  put_by xs x place rest = Found ((xs ++ x.0.0 ∷ [], x.1), x.0.1) place rest

  abbrev tell_by : {A : Type 0} → (comma close : List ℕ) → A → Counted → ℕ → List ℕ → Bool → Outcome ((A × Bool) × Counted)
  tell_by comma close x v place rest b = if b then next (read_fixed comma rest place) (λ _ p r. Found ((x, true), v) p r) else next (read_fixed close rest place) (λ _ p r. Found ((x, false), v) p r)

  abbrev goes_from : {A : Type 0} → (one : walks.Walked → Reader (Behind A)) → (cs close : List ℕ) → ℕ → List A → A → walks.Walked → ℕ → List ℕ → Bool → Outcome (Behind (List A))
  goes_from one cs close m xs x w place rest b =
      if b then next (read_fixed (44 ∷ cs) rest place) (λ _ p r. row_from one 44 cs close m (with (xs ++ x ∷ []) w) r p) else next (read_fixed close rest place) (λ _ p r. Found (with (xs ++ x ∷ []) w) p r)

  row_more : {A : Type 0} (one : walks.Walked → Reader (Behind A)) (cs close : List ℕ) (m : ℕ) (xs : List A) (w : walks.Walked) (bytes : List ℕ) (at : ℕ)
      → row_from one 44 cs close (suc m) (with xs w) bytes at ≡ next (one w bytes at) (λ x p r. goes_from one cs close m xs x.value x.walked p r (front r == 44))
  unfolding row_from
  row_more one cs close m xs w bytes at = refl

  row_none : {A : Type 0} (one : walks.Walked → Reader (Behind A)) (cs close : List ℕ) (xs : List A) (w : walks.Walked) (bytes : List ℕ) (at : ℕ) → row_from one 44 cs close 0 (with xs w) bytes at ≡ Faulty at Syntax
  unfolding row_from
  row_none one cs close xs w bytes at = refl

  -- things in a row
  row_alike : {A : Type 0} (cs close : List ℕ) (one : walks.Walked → Reader (Behind A)) (other : Counted → Reader (A × Counted)) → Go one other
      → (most : ℕ) (xs : List A) (w : walks.Walked) (v : Counted) (bytes : List ℕ) (at : ℕ) → IsAlong T w v
      → Alike (Along {A = List A} T) (row_from one 44 cs close most (with xs w) bytes at) (rounds (collects (told_by (44 ∷ cs) close other)) most (xs, v) bytes at)
  row_alike {A} cs close one other alike zero xs w v bytes at is =
      both (Along {A = List A} T) _ _ _ _ (row_none one cs close xs w bytes at) (none_left (collects (told_by (44 ∷ cs) close other)) (xs, v) bytes at) (faulty at Syntax)
  row_alike {A} cs close one other alike (suc m) xs w v bytes at is =
      both (Along {A = List A} T) _ _ _ _ (row_more one cs close m xs w bytes at) (one_more (collects (told_by (44 ∷ cs) close other)) m (xs, v) bytes at)
      (within_alike (Along {A = List A} T) _ (told_by (44 ∷ cs) close other v bytes at) (put_by xs) (behind_round (collects (told_by (44 ∷ cs) close other)) m)
      (within_alike (Along {A = List A} T) _ (other v bytes at) (λ x place rest. tell_by (44 ∷ cs) close x.0 x.1 place rest (front rest == 44)) (λ x place rest. next (put_by xs x place rest) (behind_round (collects (told_by (44 ∷ cs) close other)) m))
      (then_alike {A = A} {B = List A} (one w bytes at) (other v bytes at) (λ x p r. goes_from one cs close m xs x.value x.walked p r (front r == 44))
      (λ x place rest. next (tell_by (44 ∷ cs) close x.0 x.1 place rest (front rest == 44)) (λ x place rest. next (put_by xs x place rest) (behind_round (collects (told_by (44 ∷ cs) close other)) m)))
      (alike w v bytes at is) (λ x w v place rest is. by x (λ w v p r is. row_alike cs close one other alike m (xs ++ x ∷ []) w v r p is) w v place rest is (front rest == 44)))))
    where
      by : (x : A) → ((w : walks.Walked) (v : Counted) (place : ℕ) (rest : List ℕ) → IsAlong T w v → Alike (Along {A = List A} T) (row_from one 44 cs close m (with (xs ++ x ∷ []) w) rest place) (rounds (collects (told_by (44 ∷ cs) close other)) m (xs ++ x ∷ [], v) rest place))
          → (w : walks.Walked) (v : Counted) (place : ℕ) (rest : List ℕ) → IsAlong T w v → (b : Bool)
          → Alike (Along {A = List A} T) (goes_from one cs close m xs x w place rest b)
          (next (tell_by (44 ∷ cs) close x v place rest b) (λ x place rest. next (put_by xs x place rest) (behind_round (collects (told_by (44 ∷ cs) close other)) m)))
      by x later w v place rest is true =
          within_alike (Along {A = List A} T) _ (read_fixed (44 ∷ cs) rest place) _ _
          (same_alike (Along {A = List A} T) (read_fixed (44 ∷ cs) rest place) _ _ (λ _ p r. later w v p r is))
      by x later w v place rest is false =
          within_alike (Along {A = List A} T) _ (read_fixed close rest place) _ _
          (same_alike (Along {A = List A} T) (read_fixed close rest place) _ _ (λ _ p r. found _ _ p r (along (xs ++ x ∷ []) w v is)))

  terms_alike : Go (kept.read_terms P T.terms) (facts.read_terms T)
  terms_alike w v bytes at is = row_alike [] (codes ")") (kept.one_term P T.terms) (counts.read_term T) term_alike (suc (length bytes)) [] w v bytes at is

  applied_alike : Go (kept.read_applied P T.terms) (facts.applied T)
  applied_alike w v bytes at is = if_alike (Along T) (front bytes == 40) _ _ _ _
      (same_alike (Along T) (read_fixed (codes "(") bytes at) _ _ (λ _ p r. terms_alike w v r p is))
      (found _ _ at bytes (along [] w v is))

  event_alike : (called : Option CalledEvent) (w : walks.Walked) (v : Counted) (from place : ℕ) (rest : List ℕ) → IsAlong T w v
      → Alike (Along T) (kept.event_named P T.terms called w from place rest) (facts.event_named T called from v rest place)
  event_alike None w v from place rest is = faulty from Symbol
  event_alike (Some called) w v from place rest is =
      then_alike (kept.read_applied P T.terms w rest place) (facts.applied T v rest place) _ _ (applied_alike w v rest place is)
      (λ ts w v p r is. same_alike (Along T) (performed from called ts p r) _ _ (λ e p r. found _ _ p r (along e w v is)))

  -- an event or an entry is read behind its word
  words_alike : (ds : List Declared) (w : walks.Walked) (v : Counted) (bytes : List ℕ) (at size : ℕ) → IsAlong T w v
      → Alike (Along T) (ended (at + size) (drop size bytes) (kept.event_named P T.terms (called_in ds (take size bytes)) w at (at + size) (drop size bytes)))
      (next (word_of size bytes at) (λ word p r. facts.event_named T (called_in ds word) at v r p))
  words_alike ds w v bytes at size is = by (drop size bytes)
    where
      by : (rest : List ℕ) → Alike (Along T) (ended (at + size) rest (kept.event_named P T.terms (called_in ds (take size bytes)) w at (at + size) rest))
          (next (ended (at + size) rest (Found (take size bytes) (at + size) rest)) (λ word p r. facts.event_named T (called_in ds word) at v r p))
      by [] = faulty (at + size) Syntax
      by (b ∷ rest) = event_alike (called_in ds (take size bytes)) w v at (at + size) (b ∷ rest) is

  words_if : (ds : List Declared) (w : walks.Walked) (v : Counted) (bytes : List ℕ) (at size : ℕ) → IsAlong T w v → (b : Bool)
      → Alike (Along {A = Performed} T) (if b then ended (at + size) (drop size bytes) (kept.event_named P T.terms (called_in ds (take size bytes)) w at (at + size) (drop size bytes)) else Faulty at Syntax)
      (next (if b then word_of size bytes at else Faulty at Syntax) (λ word p r. facts.event_named T (called_in ds word) at v r p))
  words_if ds w v bytes at size is true = words_alike ds w v bytes at size is
  words_if ds w v bytes at size is false = faulty at Syntax

  read_event_alike : Go (kept.read_event P T.terms) (facts.read_event P T)
  read_event_alike w v bytes at is = words_if P.events w v bytes at (prefix_len is_in_word bytes) is (begins_word (front bytes))

  read_entry_alike : Go (kept.read_entry P T.terms) (facts.read_entry P T)
  read_entry_alike w v bytes at is = words_if P.tables w v bytes at (prefix_len is_in_word bytes) is (begins_word (front bytes))

  -- Facts.

  att_alike : Go (kept.read_att P T.terms) (facts.read_att P T)
  att_alike w v bytes at is = same_alike (Along T) (read_fixed (codes "att") bytes at) _ _ (λ _ p r.
      same_alike (Along T) (read_phase P r p) _ _ (λ k p r.
      same_alike (Along T) (read_fixed (codes "(") r p) _ _ (λ _ p r.
      then_alike _ _ _ _ (term_alike (walks.with_signs 1 w) (counts.with_symbols 1 v) r p (symbols_along T w v 1 is)) (λ t w v p r is.
      same_alike (Along T) (read_fixed (codes ")") r p) _ _ (λ _ p r. found _ _ p r (along (Att k t) w v is))))))

  mess_alike : Go (kept.read_mess P T.terms) (facts.read_mess P T)
  mess_alike w v bytes at is = same_alike (Along T) (read_fixed (codes "mess") bytes at) _ _ (λ _ p r.
      same_alike (Along T) (read_phase P r p) _ _ (λ k p r.
      same_alike (Along T) (read_fixed (codes "(") r p) _ _ (λ _ p r.
      then_alike _ _ _ _ (term_alike (walks.with_signs 1 w) (counts.with_symbols 1 v) r p (symbols_along T w v 1 is)) (λ t w v p r is.
      same_alike (Along T) (read_fixed (codes ",") r p) _ _ (λ _ p r.
      then_alike _ _ _ _ (term_alike w v r p is) (λ u w v p r is.
      same_alike (Along T) (read_fixed (codes ")") r p) _ _ (λ _ p r. found _ _ p r (along (Mess k t u) w v is))))))))

  ev_alike : Go (kept.read_performed P T.terms (codes "ev(") (λ e ts. Ev e ts)) (facts.read_ev P T)
  ev_alike w v bytes at is = same_alike (Along T) (read_fixed (codes "ev(") bytes at) _ _ (λ _ p r.
      then_alike _ _ _ _ (read_event_alike (walks.with_signs 2 w) (counts.with_symbols 2 v) r p (symbols_along T w v 2 is)) (λ e w v p r is.
      same_alike (Along T) (read_fixed (codes ")") r p) _ _ (λ _ p r. found _ _ p r (along (Ev e.event e.arguments) w v is))))

  mev_alike : Go (kept.read_performed P T.terms (codes "mev(") (λ e ts. Mev e ts)) (facts.read_mev P T)
  mev_alike w v bytes at is = same_alike (Along T) (read_fixed (codes "mev(") bytes at) _ _ (λ _ p r.
      then_alike _ _ _ _ (read_event_alike (walks.with_signs 2 w) (counts.with_symbols 2 v) r p (symbols_along T w v 2 is)) (λ e w v p r is.
      same_alike (Along T) (read_fixed (codes ")") r p) _ _ (λ _ p r. found _ _ p r (along (Mev e.event e.arguments) w v is))))

  tab_alike : Go (kept.read_tab P T.terms) (facts.read_tab P T)
  tab_alike w v bytes at is = same_alike (Along T) (read_fixed (codes "tab(") bytes at) _ _ (λ _ p r.
      then_alike _ _ _ _ (read_entry_alike (walks.with_signs 2 w) (counts.with_symbols 2 v) r p (symbols_along T w v 2 is)) (λ e w v p r is.
      same_alike (Along T) (read_fixed (codes ")") r p) _ _ (λ _ p r. found _ _ p r (along (Tab e.event e.arguments) w v is))))

  bad_if : (w : walks.Walked) (v : Counted) (p : ℕ) (r : List ℕ) → IsAlong T w v → (b : Bool) → Alike (Along {A = Fact Term} T)
      (if b then next (read_fixed (codes ")") r p) (λ _ p r. Found (with (Bad []) w) p r) else next (kept.read_terms P T.terms w r p) (λ x p r. Found (with (Bad x.value) x.walked) p r))
      (next (if b then next (read_fixed (codes ")") r p) (λ _ p r. Found ([], v) p r) else facts.read_terms T v r p) (λ ts p r. Found (Bad ts.0, ts.1) p r))
  bad_if w v p r is true = within_alike (Along T) _ (read_fixed (codes ")") r p) _ _
      (same_alike (Along T) (read_fixed (codes ")") r p) _ _ (λ _ p r. found _ _ p r (along (Bad []) w v is)))
  bad_if w v p r is false = then_alike _ _ _ _ (terms_alike w v r p is) (λ ts w v p r is. found _ _ p r (along (Bad ts) w v is))

  bad_alike : Go (kept.read_bad P T.terms) (facts.read_bad T)
  bad_alike w v bytes at is = same_alike (Along T) (read_fixed (codes "bad(") bytes at) _ _ (λ _ p r.
      bad_if (walks.with_signs 1 w) (counts.with_symbols 1 v) p r (symbols_along T w v 1 is) (front r == 41))

  hypothesis_alike : Go (kept.read_hypothesis P T.terms) (facts.read_hypothesis P T)
  hypothesis_alike w v bytes at is = if_alike (Along T) (front bytes == 109) _ _ _ _
      (if_alike (Along T) (front (drop 2 bytes) == 118) _ _ _ _ (mev_alike w v bytes at is) (mess_alike w v bytes at is))
      (if_alike (Along T) (front bytes == 101) _ _ _ _ (ev_alike w v bytes at is)
      (if_alike (Along T) (front bytes == 116) _ _ _ _ (tab_alike w v bytes at is) (att_alike w v bytes at is)))

  conclusion_alike : Go (kept.read_conclusion P T.terms) (facts.read_conclusion P T)
  conclusion_alike w v bytes at is = if_alike (Along T) (front bytes == 109) _ _ _ _ (mess_alike w v bytes at is)
      (if_alike (Along T) (front bytes == 101) _ _ _ _ (ev_alike w v bytes at is)
      (if_alike (Along T) (front bytes == 98) _ _ _ _ (bad_alike w v bytes at is)
      (if_alike (Along T) (front bytes == 116) _ _ _ _ (tab_alike w v bytes at is) (att_alike w v bytes at is))))

  -- Constraints.

  sides_alike : (closing : ℕ) → Go (kept.read_sides P T.terms (closing ∷ [])) (facts.read_sides T closing)
  sides_alike closing w v bytes at is = row_alike [] (closing ∷ []) (kept.one_side P T.terms) (counts.read_side T) side_alike (suc (length bytes)) [] w v bytes at is

  diff_alike : Go (kept.read_diff P T.terms) (facts.read_diff T)
  diff_alike w v bytes at is = same_alike (Along T) (read_fixed (codes "diff(") bytes at) _ _ (λ _ p r.
      then_alike _ _ _ _ (sides_alike 59 (walks.with_signs 1 w) (counts.with_symbols 1 v) r p (symbols_along T w v 1 is)) (λ left w v p r is.
      then_alike _ _ _ _ (sides_alike 41 w v r p is) (λ right w v p r is.
      same_alike (Along T) (paired at left right p r) _ _ (λ d p r. found _ _ p r (along d w v is)))))

  abbrev Diffs : Type 0
  Diffs = List (SidesOf Term)

  -- ` => ` behind constraints
  abbrev arrow_behind : Diffs × Counted → ℕ → List ℕ → Outcome (Diffs × Counted)
  arrow_behind ds p r = next (read_fixed (codes " => ") r p) (λ _ q s. Found ds q s)

  -- what stands behind a constraint, and what comes of it behind these
  abbrev tell_diff : SidesOf Term → Counted → ℕ → List ℕ → Bool → Outcome ((SidesOf Term × Bool) × Counted)
  tell_diff d v p r b = if b then next (read_fixed (codes ", ") r p) (λ _ q s. Found ((d, true), v) q s) else Found ((d, false), v) p r

  abbrev round_then : ℕ → (Diffs × Counted) × Bool → ℕ → List ℕ → Outcome (Diffs × Counted)
  round_then m x p r = next (behind_round (collects (clauses.one_diff T)) m x p r) arrow_behind

  abbrev put_then : ℕ → Diffs → (SidesOf Term × Bool) × Counted → ℕ → List ℕ → Outcome (Diffs × Counted)
  put_then m xs x p r = next (put_by xs x p r) (round_then m)

  closed_either : (m : ℕ) (xs : Diffs) (d : SidesOf Term)
      → ((w : walks.Walked) (v : Counted) (p : ℕ) (r : List ℕ) → IsAlong T w v → Alike (Along {A = Diffs} T) (row_from (kept.read_diff P T.terms) 44 (32 ∷ []) (codes " => ") m (with (xs ++ d ∷ []) w) r p) (next (rounds (collects (clauses.one_diff T)) m (xs ++ d ∷ [], v) r p) arrow_behind))
      → (w : walks.Walked) (v : Counted) (p : ℕ) (r : List ℕ) → IsAlong T w v → (b : Bool)
      → Alike (Along {A = Diffs} T) (goes_from (kept.read_diff P T.terms) (32 ∷ []) (codes " => ") m xs d w p r b) (next (tell_diff d v p r b) (put_then m xs))
  closed_either m xs d later w v p r is true =
      within_alike (Along {A = Diffs} T) _ (read_fixed (codes ", ") r p) _ _
      (same_alike (Along {A = Diffs} T) (read_fixed (codes ", ") r p) _ _ (λ _ q s. later w v q s is))
  closed_either m xs d later w v p r is false =
      same_alike (Along {A = Diffs} T) (read_fixed (codes " => ") r p) _ _ (λ _ q s. found _ _ q s (along (xs ++ d ∷ []) w v is))

  -- constraints and ` => `, which stands behind the last or behind all
  closed_alike : (most : ℕ) (xs : Diffs) (w : walks.Walked) (v : Counted) (bytes : List ℕ) (at : ℕ) → IsAlong T w v
      → Alike (Along {A = Diffs} T) (row_from (kept.read_diff P T.terms) 44 (32 ∷ []) (codes " => ") most (with xs w) bytes at) (next (rounds (collects (clauses.one_diff T)) most (xs, v) bytes at) arrow_behind)
  closed_alike zero xs w v bytes at is =
      both (Along {A = Diffs} T) _ _ _ _ (row_none (kept.read_diff P T.terms) (32 ∷ []) (codes " => ") xs w bytes at) (ap (λ o. next o arrow_behind) (none_left (collects (clauses.one_diff T)) (xs, v) bytes at)) (faulty at Syntax)
  closed_alike (suc m) xs w v bytes at is =
      both (Along {A = Diffs} T) _ _ _ _ (row_more (kept.read_diff P T.terms) (32 ∷ []) (codes " => ") m xs w bytes at) (ap (λ o. next o arrow_behind) (one_more (collects (clauses.one_diff T)) m (xs, v) bytes at))
      (within_alike (Along {A = Diffs} T) _ (collects (clauses.one_diff T) (xs, v) bytes at) (behind_round (collects (clauses.one_diff T)) m) arrow_behind
      (within_alike (Along {A = Diffs} T) _ (clauses.one_diff T v bytes at) (put_by xs) (round_then m)
      (within_alike (Along {A = Diffs} T) _ (facts.read_diff T v bytes at) (λ d p r. tell_diff d.0 d.1 p r (front r == 44)) (put_then m xs)
      (then_alike {A = SidesOf Term} {B = Diffs} (kept.read_diff P T.terms w bytes at) (facts.read_diff T v bytes at) (λ d p r. goes_from (kept.read_diff P T.terms) (32 ∷ []) (codes " => ") m xs d.value d.walked p r (front r == 44))
      (λ d p r. next (tell_diff d.0 d.1 p r (front r == 44)) (put_then m xs)) (diff_alike w v bytes at is)
      (λ d w v p r is. closed_either m xs d (λ w v p r is. closed_alike m (xs ++ d ∷ []) w v r p is) w v p r is (front r == 44))))))

  diffs_alike : (w : walks.Walked) (v : Counted) (bytes : List ℕ) (at : ℕ) → IsAlong T w v → Alike (Along {A = Diffs} T) (kept.read_diffs P T.terms w bytes at) (next (clauses.some_diffs T v bytes at) arrow_behind)
  diffs_alike w v bytes at is = closed_alike (suc (length bytes)) [] w v bytes at is

  -- constraints behind hypotheses, or none
  diffs_behind-alike : (w : walks.Walked) (v : Counted) (bytes : List ℕ) (at : ℕ) → IsAlong T w v → Alike (Along {A = Diffs} T) (kept.read_diffs_behind P T.terms w bytes at) (next (clauses.read_diffs T v bytes at) arrow_behind)
  diffs_behind-alike w v bytes at is = by (front bytes == 44)
    where
      by : (b : Bool) → Alike (Along {A = Diffs} T) (if b then next (read_fixed (codes ", ") bytes at) (λ _ p r. kept.read_diffs P T.terms w r p) else next (read_fixed (codes " => ") bytes at) (λ _ p r. Found (with [] w) p r))
          (next (if b then next (read_fixed (codes ", ") bytes at) (λ _ p r. clauses.some_diffs T v r p) else Found ([], v) at bytes) arrow_behind)
      by true = within_alike (Along {A = Diffs} T) _ (read_fixed (codes ", ") bytes at) _ _ (same_alike (Along {A = Diffs} T) (read_fixed (codes ", ") bytes at) _ _ (λ _ p r. diffs_alike w v r p is))
      by false = same_alike (Along {A = Diffs} T) (read_fixed (codes " => ") bytes at) _ _ (λ _ p r. found _ _ p r (along [] w v is))

  -- Hypotheses.

  abbrev Hypotheses : Type 0
  Hypotheses = List (Fact Term)

  abbrev tell_hypothesis : Fact Term → Counted → ℕ → List ℕ → Bool → Outcome ((Fact Term × Bool) × Counted)
  tell_hypothesis h v p r b = if b then next (read_fixed (codes ", ") r p) (λ _ q s. Found ((h, true), v) q s) else Found ((h, false), v) p r

  abbrev hypotheses_go : ℕ → Hypotheses → Fact Term → walks.Walked → ℕ → List ℕ → Bool → Outcome (Behind Hypotheses)
  hypotheses_go m xs h w p r b = if b then next (read_fixed (codes ", ") r p) (λ _ q s. kept.hypotheses_from P T.terms m (with (xs ++ h ∷ []) w) s q) else Found (with (xs ++ h ∷ []) w) p r

  hypotheses_more : (m : ℕ) (xs : Hypotheses) (w : walks.Walked) (bytes : List ℕ) (at : ℕ)
      → kept.hypotheses_from P T.terms (suc m) (with xs w) bytes at ≡ next (kept.read_hypothesis P T.terms w bytes at) (λ h p r. hypotheses_go m xs h.value h.walked p r (has_next_hypothesis r))
  unfolding kept.hypotheses_from
  hypotheses_more m xs w bytes at = refl

  hypotheses_none : (xs : Hypotheses) (w : walks.Walked) (bytes : List ℕ) (at : ℕ) → kept.hypotheses_from P T.terms 0 (with xs w) bytes at ≡ Faulty at Syntax
  unfolding kept.hypotheses_from
  hypotheses_none xs w bytes at = refl

  abbrev put_round : ℕ → Hypotheses → (Fact Term × Bool) × Counted → ℕ → List ℕ → Outcome (Hypotheses × Counted)
  put_round m xs x p r = next (put_by xs x p r) (behind_round (collects (clauses.one_hypothesis P T)) m)

  hypotheses_either : (m : ℕ) (xs : Hypotheses) (h : Fact Term)
      → ((w : walks.Walked) (v : Counted) (p : ℕ) (r : List ℕ) → IsAlong T w v → Alike (Along {A = Hypotheses} T) (kept.hypotheses_from P T.terms m (with (xs ++ h ∷ []) w) r p) (rounds (collects (clauses.one_hypothesis P T)) m (xs ++ h ∷ [], v) r p))
      → (w : walks.Walked) (v : Counted) (p : ℕ) (r : List ℕ) → IsAlong T w v → (b : Bool) → Alike (Along {A = Hypotheses} T) (hypotheses_go m xs h w p r b) (next (tell_hypothesis h v p r b) (put_round m xs))
  hypotheses_either m xs h later w v p r is true =
      within_alike (Along {A = Hypotheses} T) _ (read_fixed (codes ", ") r p) _ _
      (same_alike (Along {A = Hypotheses} T) (read_fixed (codes ", ") r p) _ _ (λ _ q s. later w v q s is))
  hypotheses_either m xs h later w v p r is false = found _ _ p r (along (xs ++ h ∷ []) w v is)

  hypotheses_from-alike : (most : ℕ) (xs : Hypotheses) (w : walks.Walked) (v : Counted) (bytes : List ℕ) (at : ℕ) → IsAlong T w v
      → Alike (Along {A = Hypotheses} T) (kept.hypotheses_from P T.terms most (with xs w) bytes at) (rounds (collects (clauses.one_hypothesis P T)) most (xs, v) bytes at)
  hypotheses_from-alike zero xs w v bytes at is =
      both (Along {A = Hypotheses} T) _ _ _ _ (hypotheses_none xs w bytes at) (none_left (collects (clauses.one_hypothesis P T)) (xs, v) bytes at) (faulty at Syntax)
  hypotheses_from-alike (suc m) xs w v bytes at is =
      both (Along {A = Hypotheses} T) _ _ _ _ (hypotheses_more m xs w bytes at) (one_more (collects (clauses.one_hypothesis P T)) m (xs, v) bytes at)
      (within_alike (Along {A = Hypotheses} T) _ (clauses.one_hypothesis P T v bytes at) (put_by xs) (behind_round (collects (clauses.one_hypothesis P T)) m)
      (within_alike (Along {A = Hypotheses} T) _ (facts.read_hypothesis P T v bytes at) (λ h p r. tell_hypothesis h.0 h.1 p r (has_next_hypothesis r)) (put_round m xs)
      (then_alike {A = Fact Term} {B = Hypotheses} (kept.read_hypothesis P T.terms w bytes at) (facts.read_hypothesis P T v bytes at) (λ h p r. hypotheses_go m xs h.value h.walked p r (has_next_hypothesis r))
      (λ h p r. next (tell_hypothesis h.0 h.1 p r (has_next_hypothesis r)) (put_round m xs)) (hypothesis_alike w v bytes at is)
      (λ h w v p r is. hypotheses_either m xs h (λ w v p r is. hypotheses_from-alike m (xs ++ h ∷ []) w v r p is) w v p r is (has_next_hypothesis r)))))

  -- Premises.

  abbrev made_of : Hypotheses → Diffs → Premises
  made_of hs ds = record { hypotheses = hs; diffs = ds }

  -- `=> ` behind premises
  abbrev arrowed : Outcome (Premises × Counted) → Outcome (Premises × Counted)
  arrowed o = next o (λ ps p r. next (read_fixed (codes "=> ") r p) (λ _ q s. Found ps q s))

  abbrev behind_space : Hypotheses → Outcome (Diffs × Counted) → Outcome (Premises × Counted)
  behind_space hs o = next o (λ ds p r. next (read_fixed (codes " ") r p) (λ _ q s. Found (made_of hs ds.0, ds.1) q s))

  spaced_as : (hs : Hypotheses) (o : Outcome (Diffs × Counted))
      → arrowed (next o (λ ds p r. next (read_fixed (codes " ") r p) (λ _ q s. Found (made_of hs ds.0, ds.1) q s))) ≡ next (next o arrow_behind) (λ ds p r. Found (made_of hs ds.0, ds.1) p r)
  spaced_as hs (Faulty p c) = refl
  spaced_as hs (Found ds p r) =
      apart (read_fixed (codes " ") r p) ∙ (fixed_joined (codes " ") (codes "=> ") r p (λ _ q s. Found (made_of hs ds.0, ds.1) q s) ∙ together (read_fixed (codes " => ") r p))
    where
      apart : (o : Outcome (Unit {0})) → arrowed (next {B = Premises × Counted} o (λ _ q s. Found (made_of hs ds.0, ds.1) q s)) ≡ next {B = Premises × Counted} o (λ _ q s. next (read_fixed (codes "=> ") s q) (λ _ y k. Found (made_of hs ds.0, ds.1) y k))
      apart (Faulty p c) = refl
      apart (Found u p r) = refl

      together : (o : Outcome (Unit {0})) → next {B = Premises × Counted} o (λ _ q s. Found (made_of hs ds.0, ds.1) q s) ≡ next {B = Premises × Counted} (next {B = Diffs × Counted} o (λ _ q s. Found ds q s)) (λ es p r. Found (made_of hs es.0, es.1) p r)
      together (Faulty p c) = refl
      together (Found u p r) = refl

  with_alike : (hs : Hypotheses) (o : Outcome (Behind Diffs)) (q : Outcome (Diffs × Counted)) → Alike (Along {A = Diffs} T) o (next q arrow_behind)
      → Alike (Along {A = Premises} T) (kept.with_diffs P T.terms hs o) (arrowed (next q (λ ds p r. next (read_fixed (codes " ") r p) (λ _ q s. Found (made_of hs ds.0, ds.1) q s))))
  with_alike hs o q alike =
      subst (λ (x : Outcome (Premises × Counted)). Alike (Along {A = Premises} T) (kept.with_diffs P T.terms hs o) x) (sym (spaced_as hs q))
      (then_alike {A = Diffs} {B = Premises} o (next q arrow_behind) _ _ alike (λ ds w v p r is. found _ _ p r (along (made_of hs ds) w v is)))

  premises_alike : (w : walks.Walked) (v : Counted) (bytes : List ℕ) (at : ℕ) → IsAlong T w v → Alike (Along {A = Premises} T) (kept.read_premises P T.terms w bytes at) (arrowed (clauses.read_premises P T v bytes at))
  premises_alike w v bytes at is = by (front bytes == 61) (front bytes == 100)
    where
      by : (none diffs : Bool)
          → Alike (Along {A = Premises} T)
          (if none then next (read_fixed (codes "=> ") bytes at) (λ _ p r. Found (with (made_of [] []) w) p r)
          else (if diffs then kept.with_diffs P T.terms [] (kept.read_diffs P T.terms w bytes at) else next (kept.read_hypotheses P T.terms w bytes at) (λ hs p r. kept.with_diffs P T.terms hs.value (kept.read_diffs_behind P T.terms hs.walked r p))))
          (arrowed (if none then Found (made_of [] [], v) at bytes
          else (if diffs then behind_space [] (clauses.some_diffs T v bytes at) else next (clauses.some_hypotheses P T v bytes at) (λ hs p r. behind_space hs.0 (clauses.read_diffs T hs.1 r p)))))
      by true diffs = same_alike (Along {A = Premises} T) (read_fixed (codes "=> ") bytes at) _ _ (λ _ p r. found _ _ p r (along (made_of [] []) w v is))
      by false true = with_alike [] (kept.read_diffs P T.terms w bytes at) (clauses.some_diffs T v bytes at) (diffs_alike w v bytes at is)
      by false false =
          within_alike (Along {A = Premises} T) _ (clauses.some_hypotheses P T v bytes at) _ _
          (then_alike {A = Hypotheses} {B = Premises} (kept.read_hypotheses P T.terms w bytes at) (clauses.some_hypotheses P T v bytes at) _ _ (hypotheses_from-alike (suc (length bytes)) [] w v bytes at is)
          (λ hs w v p r is. with_alike hs (kept.read_diffs_behind P T.terms w r p) (clauses.read_diffs T v r p) (diffs_behind-alike w v r p is)))

  -- Clauses.

  abbrev spelled : Premises → Fact Term → SpelledClause Term
  spelled ps f = record { hypotheses = ps.hypotheses; diffs = ps.diffs; conclusion = f }

  -- what is read behind premises and `=> `
  abbrev behind_arrow : Premises × Counted → ℕ → List ℕ → Outcome (Clause Term × Counted)
  behind_arrow ps p r = next (facts.read_conclusion P T ps.1 r p) (λ f p r. Found (meant_clause (spelled ps.0 f.0), f.1) p r)

  clause_as : (o : Outcome (Premises × Counted))
      → next {A = SpelledClause Term × Counted} {B = Clause Term × Counted} (next o (λ ps p r. next (read_fixed (codes "=> ") r p) (λ _ p r. next (facts.read_conclusion P T ps.1 r p) (λ f p r. Found (spelled ps.0 f.0, f.1) p r)))) (λ c p r. Found (meant_clause c.0, c.1) p r) ≡ next (arrowed o) behind_arrow
  clause_as (Faulty p c) = refl
  clause_as (Found ps p r) = arrow (read_fixed (codes "=> ") r p)
    where
      last : (o : Outcome (Fact Term × Counted)) → next {A = SpelledClause Term × Counted} {B = Clause Term × Counted} (next o (λ f p r. Found (spelled ps.0 f.0, f.1) p r)) (λ c p r. Found (meant_clause c.0, c.1) p r) ≡ next {B = Clause Term × Counted} o (λ f p r. Found (meant_clause (spelled ps.0 f.0), f.1) p r)
      last (Faulty p c) = refl
      last (Found f p r) = refl

      arrow : (o : Outcome (Unit {0}))
          → next {A = SpelledClause Term × Counted} {B = Clause Term × Counted} (next o (λ _ p r. next (facts.read_conclusion P T ps.1 r p) (λ f p r. Found (spelled ps.0 f.0, f.1) p r))) (λ c p r. Found (meant_clause c.0, c.1) p r) ≡ next (next {B = Premises × Counted} o (λ _ q s. Found ps q s)) behind_arrow
      arrow (Faulty p c) = refl
      arrow (Found u p r) = last (facts.read_conclusion P T ps.1 r p)

  pub clause_alike : (before : Behind (List (Clause Term))) (counted : List (Clause Term) × Counted) (bytes : List ℕ) (at : ℕ) → Along T before counted
      → Alike (Along T) (kept.read_clause_line P T.terms before bytes at) (puts (clauses.clause_line P T) counted bytes at)
  clause_alike _ _ bytes at (along cs w v is) =
      within_alike (Along T) _ (read_fixed (codes "c ") bytes at) _ _
      (same_alike (Along T) (read_fixed (codes "c ") bytes at) _ _ (λ _ p r.
      subst (λ (o : Outcome (Clause Term × Counted)). Alike (Along {A = List (Clause Term)} T) (behind_line cs w p r) (next (next o (λ c p r. next (read_fixed (codes "\n") r p) (λ _ p r. Found c p r))) (λ x p r. Found (cs ++ x.0 ∷ [], x.1) p r)))
      (sym (clause_as (clauses.read_premises P T (counts.at_clause v) r p)))
      (within_alike (Along T) _ (next (arrowed (clauses.read_premises P T (counts.at_clause v) r p)) behind_arrow) _ _
      (within_alike (Along T) _ (arrowed (clauses.read_premises P T (counts.at_clause v) r p)) _ _
      (then_alike _ _ _ _ (premises_alike (walks.next_clause w) (counts.at_clause v) r p (clause_along T w v is)) (λ ps w v p r is.
      within_alike (Along T) _ (facts.read_conclusion P T v r p) _ _
      (then_alike _ _ _ _ (conclusion_alike w v r p is) (λ f w v p r is.
      within_alike (Along T) _ (read_fixed (codes "\n") r p) _ _
      (same_alike (Along T) (read_fixed (codes "\n") r p) _ _ (λ _ p r. found _ _ p r (along (cs ++ meant_clause (spelled ps f) ∷ []) w v is)))))))))))
    where
      behind_line : List (Clause Term) → walks.Walked → ℕ → List ℕ → Outcome (Behind (List (Clause Term)))
      behind_line cs w p r =
          next (kept.read_premises P T.terms (walks.next_clause w) r p) (λ ps p r.
          next (kept.read_conclusion P T.terms ps.walked r p) (λ f p r.
          next (read_fixed (codes "\n") r p) (λ _ p r. Found (with (cs ++ meant_clause (spelled ps.value f.value) ∷ []) f.walked) p r)))
