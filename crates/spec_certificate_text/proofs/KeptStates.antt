-- Facts and clauses are read as they are on a walk that keeps its state.
use Rattle.std.proofs.Common.{◌≡◌, ◌≢◌, ℕ, zero, suc, ◌+◌, ◌≤◌, ◌==◌, if◌then◌else◌, Bool, true, false, List, [], ◌∷◌, ◌++◌, length, take, drop, codes, Option, Some, None, refl, sym, subst, arith}
use Rattle.std.specs.List.{prefix_len}
use Rattle.spec_calculus.specs.Syntax.{Declared, Protocol}
use Rattle.spec_protocol_tokens.specs.Bytes.{begins_word, is_in_word}
use Rattle.spec_terms.specs.Term.{Term}
use Rattle.spec_clauses.specs.Fact.{Fact, Att, Mess, Tab, Ev, Mev, Bad, Clause}
use Rattle.spec_certificate_text.specs.Names.{CalledEvent, called_in}
use Rattle.spec_certificate_text.specs.Terms.{Syntax, Symbol}
use Rattle.spec_certificate_text.specs.Outcomes.{Outcome, Found, Faulty, next, front, ended, read_fixed, Reader, things_from, things}
use Rattle.spec_certificate_text.specs.Facts as facts
use Rattle.spec_certificate_text.specs.Facts.{Performed, performed, one_tree, one_term, read_phase}
use Rattle.spec_certificate_text.specs.Clauses as clauses
use Rattle.spec_certificate_text.specs.Clauses.{Premises}
use Rattle.spec_certificate_text.specs.Sides.{SidesOf, SpelledClause, meant_clause}
use Rattle.spec_certificate_text.specs.ReadWords.{word_of}
use Rattle.spec_certificate_text.specs.Rounds.{rounds, collects}
use Rattle.spec_certificate_text.specs.Walks as walks
use Rattle.spec_certificate_text.specs.Walks.{Walk, spelled_tree, spelled_term, spelled_side, no_counts, with_state}
use Rattle.spec_certificate_text.proofs.Rounds.{behind_round, one_more, none_left}
use Rattle.spec_certificate_text.proofs.Alike.{Alike, found, faulty, next_alike, same_alike, if_alike, within_alike, both}
use Rattle.spec_certificate_text.proofs.Parts.{fixed_byte}
use Rattle.spec_certificate_text.proofs.Things as row
use Rattle.spec_certificate_text.proofs.Things.{behind_one, things_enough}
use Rattle.spec_certificate_text.proofs.FactsThere.{item_there}
use Rattle.spec_certificate_text.proofs.FactsFound.{item_long}
use Rattle.spec_certificate_text.proofs.SidesRead.{one_diff_there, one_diff_long}
use Rattle.spec_certificate_text.proofs.ClausesRead.{one_hypothesis_there, hypothesis_long}

-- something that was read, with the state
pub data Kept {S A : Type 0} (s : S) : A → A × S → Type 0 where
  still : (x : A) → Kept s x (x, s)

module _ {S : Type 0} (s : S) where
  abbrev As : {A : Type 0} → A → A × S → Type 0
  As {A} = Kept {S = S} {A = A} s

  -- both read alike
  abbrev Go : {A : Type 0} → Reader A → Walk S A → Type 0
  Go {A} one other = (bytes : List ℕ) (at : ℕ) → Alike (As {A = A}) (one bytes at) (other s bytes at)

  -- behind what both read
  then_alike : {A B : Type 0} (o : Outcome A) (p : Outcome (A × S)) (f : A → ℕ → List ℕ → Outcome B) (g : A × S → ℕ → List ℕ → Outcome (B × S)) → Alike (As {A = A}) o p
      → ((x : A) (place : ℕ) (rest : List ℕ) → Alike (As {A = B}) (f x place rest) (g (x, s) place rest)) → Alike (As {A = B}) (next o f) (next p g)
  then_alike {A} {B} o p f g alike more = next_alike (As {A = A}) (As {A = B}) o p f g alike (λ x y place rest is. by x y place rest is)
    where
      by : (x : A) (y : A × S) (place : ℕ) (rest : List ℕ) → Kept {S = S} {A = A} s x y → Alike (As {A = B}) (f x place rest) (g y place rest)
      by _ _ place rest (still x) = more x place rest

  -- so what the second finds is what the first finds
  pub same_found : {A : Type 0} (o : Outcome A) (p : Outcome (A × S)) → Alike (As {A = A}) o p → p ≡ with_state s o
  same_found {A} _ _ (found x y place rest is) = by x y is
    where
      by : (x : A) (y : A × S) → Kept {S = S} {A = A} s x y → Found y place rest ≡ Found (x, s) place rest
      by _ _ (still x) = refl
  same_found {A} _ _ (faulty place code) = refl

  -- what is read, beside the same with the state
  itself_alike : {A : Type 0} (o : Outcome A) → Alike (As {A = A}) o (next o (λ x place rest. Found (x, s) place rest))
  itself_alike (Found x place rest) = found x (x, s) place rest (still x)
  itself_alike (Faulty place code) = faulty place code

  -- Rows.

  abbrev put_by : {A : Type 0} → List A → (A × Bool) × S → ℕ → List ℕ → Outcome ((List A × S) × Bool)
  put_by xs x place rest = Found ((xs ++ x.0.0 ∷ [], x.1), x.0.1) place rest

  row_alike : {A : Type 0} (one : Reader (A × Bool)) (other : Walk S (A × Bool)) → Go one other → (most : ℕ) (xs : List A) (bytes : List ℕ) (at : ℕ)
      → Alike (As {A = List A}) (things_from one most xs bytes at) (rounds (collects other) most (xs, s) bytes at)
  row_alike {A} one other alike zero xs bytes at =
      both (As {A = List A}) _ _ _ _ (row.none_left one xs bytes at) (none_left (collects other) (xs, s) bytes at) (faulty at Syntax)
  row_alike {A} one other alike (suc m) xs bytes at =
      both (As {A = List A}) _ _ _ _ (row.one_more one m xs bytes at) (one_more (collects other) m (xs, s) bytes at)
      (within_alike (As {A = List A}) _ (other s bytes at) (put_by xs) (behind_round (collects other) m)
      (then_alike {A = A × Bool} {B = List A} (one bytes at) (other s bytes at) (behind_one one m xs) (λ x place rest. next (put_by xs x place rest) (behind_round (collects other) m)) (alike bytes at)
      (λ x place rest. by x.0 x.1 place rest (row_alike one other alike m (xs ++ x.0 ∷ []) rest place))))
    where
      by : (x : A) (b : Bool) (place : ℕ) (rest : List ℕ) → Alike (As {A = List A}) (things_from one m (xs ++ x ∷ []) rest place) (rounds (collects other) m (xs ++ x ∷ [], s) rest place)
          → Alike (As {A = List A}) (behind_one one m xs (x, b) place rest) (next (put_by xs ((x, b), s) place rest) (behind_round (collects other) m))
      by x true place rest later = later
      by x false place rest later = found (xs ++ x ∷ []) (xs ++ x ∷ [], s) place rest (still (xs ++ x ∷ []))

  -- a row has no more things than bytes, so a further round reads nothing
  things_alike : {A : Type 0} (one : Reader (A × Bool)) (other : Walk S (A × Bool)) → Go one other → ((at : ℕ) → one [] at ≡ Faulty at Syntax) → ((bytes : List ℕ) (at : ℕ) (x : A × Bool) (place : ℕ) (rest : List ℕ) → one bytes at ≡ Found x place rest → length rest + 1 ≤ length bytes)
      → (bytes : List ℕ) (at : ℕ) → Alike (As {A = List A}) (things one bytes at) (rounds (collects other) (suc (length bytes)) ([], s) bytes at)
  things_alike {A} one other alike none takes bytes at =
      subst (λ (o : Outcome (List A)). Alike (As {A = List A}) o (rounds (collects other) (suc (length bytes)) ([], s) bytes at)) (sym (things_enough one none takes (length bytes) [] bytes at (omega arith)))
      (row_alike one other alike (suc (length bytes)) [] bytes at)

  module _ (P : Protocol) where
    tree_alike : (binds : Bool) → Go (one_tree binds P) (spelled_tree binds P)
    tree_alike binds bytes at = itself_alike (one_tree binds P bytes at)

    term_alike : Go (one_term P) (spelled_term P)
    term_alike bytes at = tree_alike false bytes at

    -- what stands behind a term of a row: one byte, or none of the two
    told_by : (t : Term) (place : ℕ) (rest : List ℕ) (comma close : Bool) → Alike (As {A = Term × Bool})
        (if comma then Found (t, true) (place + 1) (drop 1 rest) else (if close then Found (t, false) (place + 1) (drop 1 rest) else Faulty place Syntax))
        (if comma then next (if comma then Found (tt {0}) (place + 1) (drop 1 rest) else Faulty place Syntax) (λ _ p r. Found ((t, true), s) p r)
        else next (if close then Found (tt {0}) (place + 1) (drop 1 rest) else Faulty place Syntax) (λ _ p r. Found ((t, false), s) p r))
    told_by t place rest true close = found (t, true) ((t, true), s) (place + 1) (drop 1 rest) (still (t, true))
    told_by t place rest false true = found (t, false) ((t, false), s) (place + 1) (drop 1 rest) (still (t, false))
    told_by t place rest false false = faulty place Syntax

    tell_alike : (closing : ℕ) → (0 == closing) ≡ false → (t : Term) (place : ℕ) (rest : List ℕ) → Alike (As {A = Term × Bool})
        (if front rest == 44 then Found (t, true) (place + 1) (drop 1 rest) else (if front rest == closing then Found (t, false) (place + 1) (drop 1 rest) else Faulty place Syntax))
        (if front rest == 44 then next (read_fixed (codes ",") rest place) (λ _ p r. Found ((t, true), s) p r) else next (read_fixed (closing ∷ []) rest place) (λ _ p r. Found ((t, false), s) p r))
    tell_alike closing some t place rest =
        let first : Outcome (Term × Bool) = if front rest == 44 then Found (t, true) (place + 1) (drop 1 rest) else (if front rest == closing then Found (t, false) (place + 1) (drop 1 rest) else Faulty place Syntax) in
        subst (λ (o : Outcome (Unit {0})). Alike (As {A = Term × Bool}) first (if front rest == 44 then next o (λ _ p r. Found ((t, true), s) p r) else next (read_fixed (closing ∷ []) rest place) (λ _ p r. Found ((t, false), s) p r)))
        (sym (fixed_byte 44 rest place refl))
        (subst (λ (o : Outcome (Unit {0})). Alike (As {A = Term × Bool}) first (if front rest == 44 then next (if front rest == 44 then Found (tt {0}) (place + 1) (drop 1 rest) else Faulty place Syntax) (λ _ p r. Found ((t, true), s) p r) else next o (λ _ p r. Found ((t, false), s) p r)))
        (sym (fixed_byte closing rest place some)) (told_by t place rest (front rest == 44) (front rest == closing)))

    item_alike : (binds : Bool) (closing : ℕ) → (0 == closing) ≡ false → Go (facts.item_before closing (one_tree binds P)) (walks.item_before (spelled_tree binds P) closing)
    item_alike binds closing some bytes at =
        then_alike {A = Term} {B = Term × Bool} (one_tree binds P bytes at) (spelled_tree binds P s bytes at) _ _ (tree_alike binds bytes at) (λ t place rest. tell_alike closing some t place rest)

    item_takes : (binds : Bool) (closing : ℕ) → 0 ≢ closing → (bytes : List ℕ) (at : ℕ) (x : Term × Bool) (place : ℕ) (rest : List ℕ) → facts.item_before closing (one_tree binds P) bytes at ≡ Found x place rest → length rest + 1 ≤ length bytes
    item_takes binds closing some bytes at x place rest e = let there = item_there binds P closing some bytes at x place rest e in subst (λ (bs : List ℕ). length rest + 1 ≤ length bs) (sym there.text) (item_long P closing x rest)

    row_of_alike : (binds : Bool) (closing : ℕ) → 0 ≢ closing → (0 == closing) ≡ false → Go (things (facts.item_before closing (one_tree binds P))) (walks.read_row (spelled_tree binds P) closing)
    row_of_alike binds closing some other bytes at =
        things_alike (facts.item_before closing (one_tree binds P)) (walks.item_before (spelled_tree binds P) closing) (item_alike binds closing other) (λ place. refl) (item_takes binds closing some) bytes at

    terms_alike : Go (facts.read_terms P) (walks.read_terms (spelled_term P))
    terms_alike bytes at = row_of_alike false 41 (λ never. absurd (cc)) refl bytes at

    sides_alike : (closing : ℕ) → 0 ≢ closing → (0 == closing) ≡ false → Go (facts.read_sides P closing) (walks.read_row (spelled_side P) closing)
    sides_alike closing some other bytes at = row_of_alike true closing some other bytes at

    -- Events.

    applied_alike : (called : CalledEvent) (from place : ℕ) (rest : List ℕ) → Alike (As {A = Performed}) (facts.event_named P (Some called) from place rest) (walks.event_named (spelled_term P) (Some called) from s rest place)
    applied_alike called from place rest =
        subst (λ (o : Outcome (Unit {0})). Alike (As {A = Performed}) (facts.event_named P (Some called) from place rest)
        (next (if front rest == 40 then next o (λ _ p r. walks.read_terms (spelled_term P) s r p) else Found ([], s) place rest) (λ ts p r. next (performed from called ts.0 p r) (λ e p r. Found (e, ts.1) p r))))
        (sym (fixed_byte 40 rest place refl)) (by (front rest == 40))
      where
        by : (b : Bool) → Alike (As {A = Performed})
            (if b then next (facts.read_terms P (drop 1 rest) (place + 1)) (λ ts p r. performed from called ts p r) else performed from called [] place rest)
            (next (if b then next (if b then Found (tt {0}) (place + 1) (drop 1 rest) else Faulty place Syntax) (λ _ p r. walks.read_terms (spelled_term P) s r p) else Found ([], s) place rest) (λ ts p r. next (performed from called ts.0 p r) (λ e p r. Found (e, ts.1) p r)))
        by true = then_alike {A = List Term} {B = Performed} (facts.read_terms P (drop 1 rest) (place + 1)) (walks.read_terms (spelled_term P) s (drop 1 rest) (place + 1)) _ _ (terms_alike (drop 1 rest) (place + 1)) (λ ts p r. itself_alike (performed from called ts p r))
        by false = itself_alike (performed from called [] place rest)

    named_alike : (called : Option CalledEvent) (from place : ℕ) (rest : List ℕ) → Alike (As {A = Performed}) (facts.event_named P called from place rest) (walks.event_named (spelled_term P) called from s rest place)
    named_alike None from place rest = faulty from Symbol
    named_alike (Some called) from place rest = applied_alike called from place rest

    -- an event or an entry is read behind its word
    words_alike : (ds : List Declared) (bytes : List ℕ) (at size : ℕ) → Alike (As {A = Performed}) (facts.call_before P ds (take size bytes) at (at + size) (drop size bytes)) (next (word_of size bytes at) (λ word p r. walks.event_named (spelled_term P) (called_in ds word) at s r p))
    words_alike ds bytes at size = by (drop size bytes)
      where
        by : (rest : List ℕ) → Alike (As {A = Performed}) (ended (at + size) rest (facts.event_named P (called_in ds (take size bytes)) at (at + size) rest))
            (next (ended (at + size) rest (Found (take size bytes) (at + size) rest)) (λ word p r. walks.event_named (spelled_term P) (called_in ds word) at s r p))
        by [] = faulty (at + size) Syntax
        by (b ∷ rest) = named_alike (called_in ds (take size bytes)) at (at + size) (b ∷ rest)

    words_if : (ds : List Declared) (bytes : List ℕ) (at size : ℕ) (b : Bool) → Alike (As {A = Performed}) (if b then facts.call_before P ds (take size bytes) at (at + size) (drop size bytes) else Faulty at Syntax)
        (next (if b then word_of size bytes at else Faulty at Syntax) (λ word p r. walks.event_named (spelled_term P) (called_in ds word) at s r p))
    words_if ds bytes at size true = words_alike ds bytes at size
    words_if ds bytes at size false = faulty at Syntax

    event_alike : Go (facts.read_event P) (walks.read_event (spelled_term P) P)
    event_alike bytes at = words_if P.events bytes at (prefix_len is_in_word bytes) (begins_word (front bytes))

    entry_alike : Go (facts.read_entry P) (walks.read_entry (spelled_term P) P)
    entry_alike bytes at = words_if P.tables bytes at (prefix_len is_in_word bytes) (begins_word (front bytes))

    -- Facts.

    att_alike : Go (facts.read_att P) (walks.read_att (spelled_term P) no_counts P)
    att_alike bytes at = same_alike (As {A = Fact Term}) (read_fixed (codes "att") bytes at) _ _ (λ _ p r.
        same_alike (As {A = Fact Term}) (read_phase P r p) _ _ (λ k p r.
        same_alike (As {A = Fact Term}) (read_fixed (codes "(") r p) _ _ (λ _ p r.
        then_alike {A = Term} {B = Fact Term} (one_term P r p) (spelled_term P s r p) _ _ (term_alike r p) (λ t p r.
        same_alike (As {A = Fact Term}) (read_fixed (codes ")") r p) _ _ (λ _ p r. found (Att k t) (Att k t, s) p r (still (Att k t)))))))

    mess_alike : Go (facts.read_mess P) (walks.read_mess (spelled_term P) no_counts P)
    mess_alike bytes at = same_alike (As {A = Fact Term}) (read_fixed (codes "mess") bytes at) _ _ (λ _ p r.
        same_alike (As {A = Fact Term}) (read_phase P r p) _ _ (λ k p r.
        same_alike (As {A = Fact Term}) (read_fixed (codes "(") r p) _ _ (λ _ p r.
        then_alike {A = Term} {B = Fact Term} (one_term P r p) (spelled_term P s r p) _ _ (term_alike r p) (λ t p r.
        same_alike (As {A = Fact Term}) (read_fixed (codes ",") r p) _ _ (λ _ p r.
        then_alike {A = Term} {B = Fact Term} (one_term P r p) (spelled_term P s r p) _ _ (term_alike r p) (λ u p r.
        same_alike (As {A = Fact Term}) (read_fixed (codes ")") r p) _ _ (λ _ p r. found (Mess k t u) (Mess k t u, s) p r (still (Mess k t u)))))))))

    tab_alike : Go (facts.read_tab P) (walks.read_tab (spelled_term P) no_counts P)
    tab_alike bytes at = same_alike (As {A = Fact Term}) (read_fixed (codes "tab(") bytes at) _ _ (λ _ p r.
        then_alike {A = Performed} {B = Fact Term} (facts.read_entry P r p) (walks.read_entry (spelled_term P) P s r p) _ _ (entry_alike r p) (λ e p r.
        same_alike (As {A = Fact Term}) (read_fixed (codes ")") r p) _ _ (λ _ p r. found (Tab e.event e.arguments) (Tab e.event e.arguments, s) p r (still (Tab e.event e.arguments)))))

    ev_alike : Go (facts.read_ev P) (walks.read_ev (spelled_term P) no_counts P)
    ev_alike bytes at = same_alike (As {A = Fact Term}) (read_fixed (codes "ev(") bytes at) _ _ (λ _ p r.
        then_alike {A = Performed} {B = Fact Term} (facts.read_event P r p) (walks.read_event (spelled_term P) P s r p) _ _ (event_alike r p) (λ e p r.
        same_alike (As {A = Fact Term}) (read_fixed (codes ")") r p) _ _ (λ _ p r. found (Ev e.event e.arguments) (Ev e.event e.arguments, s) p r (still (Ev e.event e.arguments)))))

    mev_alike : Go (facts.read_mev P) (walks.read_mev (spelled_term P) no_counts P)
    mev_alike bytes at = same_alike (As {A = Fact Term}) (read_fixed (codes "mev(") bytes at) _ _ (λ _ p r.
        then_alike {A = Performed} {B = Fact Term} (facts.read_event P r p) (walks.read_event (spelled_term P) P s r p) _ _ (event_alike r p) (λ e p r.
        same_alike (As {A = Fact Term}) (read_fixed (codes ")") r p) _ _ (λ _ p r. found (Mev e.event e.arguments) (Mev e.event e.arguments, s) p r (still (Mev e.event e.arguments)))))

    arguments_alike : Go (facts.bad_arguments P) (walks.bad_arguments (spelled_term P))
    arguments_alike bytes at =
        subst (λ (o : Outcome (Unit {0})). Alike (As {A = List Term}) (facts.bad_arguments P bytes at) (if front bytes == 41 then next o (λ _ p r. Found ([], s) p r) else walks.read_terms (spelled_term P) s bytes at))
        (sym (fixed_byte 41 bytes at refl)) (by (front bytes == 41))
      where
        by : (b : Bool) → Alike (As {A = List Term}) (if b then Found [] (at + 1) (drop 1 bytes) else facts.read_terms P bytes at)
            (if b then next (if b then Found (tt {0}) (at + 1) (drop 1 bytes) else Faulty at Syntax) (λ _ p r. Found ([], s) p r) else walks.read_terms (spelled_term P) s bytes at)
        by true = found [] ([], s) (at + 1) (drop 1 bytes) (still [])
        by false = terms_alike bytes at

    bad_alike : Go (facts.read_bad P) (walks.read_bad (spelled_term P) no_counts)
    bad_alike bytes at = same_alike (As {A = Fact Term}) (read_fixed (codes "bad(") bytes at) _ _ (λ _ p r.
        then_alike {A = List Term} {B = Fact Term} (facts.bad_arguments P r p) (walks.bad_arguments (spelled_term P) s r p) _ _ (arguments_alike r p) (λ ts p r. found (Bad ts) (Bad ts, s) p r (still (Bad ts))))

    hypothesis_alike : Go (facts.read_hypothesis P) (walks.read_hypothesis (spelled_term P) no_counts P)
    hypothesis_alike bytes at = if_alike (As {A = Fact Term}) (front bytes == 109) _ _ _ _
        (if_alike (As {A = Fact Term}) (front (drop 2 bytes) == 118) _ _ _ _ (mev_alike bytes at) (mess_alike bytes at))
        (if_alike (As {A = Fact Term}) (front bytes == 101) _ _ _ _ (ev_alike bytes at)
        (if_alike (As {A = Fact Term}) (front bytes == 116) _ _ _ _ (tab_alike bytes at) (att_alike bytes at)))

    conclusion_alike : Go (facts.read_conclusion P) (walks.read_conclusion (spelled_term P) no_counts P)
    conclusion_alike bytes at = if_alike (As {A = Fact Term}) (front bytes == 109) _ _ _ _ (mess_alike bytes at)
        (if_alike (As {A = Fact Term}) (front bytes == 101) _ _ _ _ (ev_alike bytes at)
        (if_alike (As {A = Fact Term}) (front bytes == 98) _ _ _ _ (bad_alike bytes at)
        (if_alike (As {A = Fact Term}) (front bytes == 116) _ _ _ _ (tab_alike bytes at) (att_alike bytes at))))

    -- Constraints.

    diff_alike : Go (facts.read_diff P) (walks.read_diff (spelled_side P) no_counts)
    diff_alike bytes at = same_alike (As {A = SidesOf Term}) (read_fixed (codes "diff(") bytes at) _ _ (λ _ p r.
        then_alike {A = List Term} {B = SidesOf Term} (facts.read_sides P 59 r p) (walks.read_row (spelled_side P) 59 s r p) _ _ (sides_alike 59 (λ never. absurd (cc)) refl r p) (λ left p r.
        then_alike {A = List Term} {B = SidesOf Term} (facts.read_sides P 41 r p) (walks.read_row (spelled_side P) 41 s r p) _ _ (sides_alike 41 (λ never. absurd (cc)) refl r p) (λ right p r.
        itself_alike (facts.paired at left right p r))))

    one_diff_alike : Go (clauses.one_diff P) (walks.one_diff (spelled_side P) no_counts)
    one_diff_alike bytes at =
        then_alike {A = SidesOf Term} {B = SidesOf Term × Bool} (facts.read_diff P bytes at) (walks.read_diff (spelled_side P) no_counts s bytes at) _ _ (diff_alike bytes at) (λ d place rest.
        if_alike (As {A = SidesOf Term × Bool}) (front rest == 44) _ _ _ _
        (same_alike (As {A = SidesOf Term × Bool}) (read_fixed (codes ", ") rest place) _ _ (λ _ p r. found (d, true) ((d, true), s) p r (still (d, true))))
        (found (d, false) ((d, false), s) place rest (still (d, false))))

    diff_takes : (bytes : List ℕ) (at : ℕ) (x : SidesOf Term × Bool) (place : ℕ) (rest : List ℕ) → clauses.one_diff P bytes at ≡ Found x place rest → length rest + 1 ≤ length bytes
    diff_takes bytes at x place rest e =
        let there = one_diff_there P bytes at x place rest e in subst (λ (bs : List ℕ). length rest + 1 ≤ length bs) (sym there.text) (one_diff_long P x rest)

    no_diff : (at : ℕ) → clauses.one_diff P [] at ≡ Faulty at Syntax
    unfolding read_fixed
    no_diff at = refl

    some_diffs_alike : Go (things (clauses.one_diff P)) (walks.some_diffs (spelled_side P) no_counts)
    some_diffs_alike bytes at = things_alike (clauses.one_diff P) (walks.one_diff (spelled_side P) no_counts) one_diff_alike no_diff diff_takes bytes at

    diffs_alike : Go (clauses.read_diffs P) (walks.read_diffs (spelled_side P) no_counts)
    diffs_alike bytes at = if_alike (As {A = List (SidesOf Term)}) (front bytes == 44) _ _ _ _
        (same_alike (As {A = List (SidesOf Term)}) (read_fixed (codes ", ") bytes at) _ _ (λ _ p r. some_diffs_alike r p))
        (found [] ([], s) at bytes (still []))

    -- Clauses.

    one_alike : Go (clauses.one_hypothesis P) (walks.one_hypothesis (spelled_term P) no_counts P)
    one_alike bytes at =
        then_alike {A = Fact Term} {B = Fact Term × Bool} (facts.read_hypothesis P bytes at) (walks.read_hypothesis (spelled_term P) no_counts P s bytes at) _ _ (hypothesis_alike bytes at) (λ h place rest.
        if_alike (As {A = Fact Term × Bool}) (clauses.has_next_hypothesis rest) _ _ _ _
        (same_alike (As {A = Fact Term × Bool}) (read_fixed (codes ", ") rest place) _ _ (λ _ p r. found (h, true) ((h, true), s) p r (still (h, true))))
        (found (h, false) ((h, false), s) place rest (still (h, false))))

    hypothesis_takes : (bytes : List ℕ) (at : ℕ) (x : Fact Term × Bool) (place : ℕ) (rest : List ℕ) → clauses.one_hypothesis P bytes at ≡ Found x place rest → length rest + 1 ≤ length bytes
    hypothesis_takes bytes at x place rest e =
        let there = one_hypothesis_there P bytes at x place rest e in subst (λ (bs : List ℕ). length rest + 1 ≤ length bs) (sym there.text) (hypothesis_long P x rest)

    no_hypothesis : (at : ℕ) → clauses.one_hypothesis P [] at ≡ Faulty at Syntax
    unfolding read_fixed
    no_hypothesis at = refl

    hypotheses_alike : Go (things (clauses.one_hypothesis P)) (walks.some_hypotheses (spelled_term P) no_counts P)
    hypotheses_alike bytes at = things_alike (clauses.one_hypothesis P) (walks.one_hypothesis (spelled_term P) no_counts P) one_alike no_hypothesis hypothesis_takes bytes at

    abbrev made_of : List (Fact Term) → List (SidesOf Term) → Premises
    made_of hs ds = record { hypotheses = hs; diffs = ds }

    spaced_alike : (hs : List (Fact Term)) (o : Outcome (List (SidesOf Term))) (p : Outcome (List (SidesOf Term) × S)) → Alike (As {A = List (SidesOf Term)}) o p
        → Alike (As {A = Premises}) (clauses.spaced hs o) (walks.spaced (spelled_term P) (spelled_side P) no_counts hs p)
    spaced_alike hs o p alike =
        then_alike {A = List (SidesOf Term)} {B = Premises} o p _ _ alike (λ ds q r.
        same_alike (As {A = Premises}) (read_fixed (codes " ") r q) _ _ (λ _ q r. found (made_of hs ds) (made_of hs ds, s) q r (still (made_of hs ds))))

    some_premises_alike : Go (clauses.some_premises P) (walks.some_premises (spelled_term P) (spelled_side P) no_counts P)
    some_premises_alike bytes at = if_alike (As {A = Premises}) (front bytes == 100) _ _ _ _
        (spaced_alike [] (things (clauses.one_diff P) bytes at) (walks.some_diffs (spelled_side P) no_counts s bytes at) (some_diffs_alike bytes at))
        (then_alike {A = List (Fact Term)} {B = Premises} (things (clauses.one_hypothesis P) bytes at) (walks.some_hypotheses (spelled_term P) no_counts P s bytes at) _ _ (hypotheses_alike bytes at)
        (λ hs p r. spaced_alike hs (clauses.read_diffs P r p) (walks.read_diffs (spelled_side P) no_counts s r p) (diffs_alike r p)))

    premises_alike : Go (clauses.read_premises P) (walks.read_premises (spelled_term P) (spelled_side P) no_counts P)
    premises_alike bytes at = if_alike (As {A = Premises}) (front bytes == 61) _ _ _ _ (found (made_of [] []) (made_of [] [], s) at bytes (still (made_of [] []))) (some_premises_alike bytes at)

    abbrev concluded : Premises → Fact Term → SpelledClause Term
    concluded ps f = record { hypotheses = ps.hypotheses; diffs = ps.diffs; conclusion = f }

    spelled_alike : Go (clauses.read_spelled_clause P) (walks.read_spelled_clause (spelled_term P) (spelled_side P) no_counts P)
    spelled_alike bytes at =
        then_alike {A = Premises} {B = SpelledClause Term} (clauses.read_premises P bytes at) (walks.read_premises (spelled_term P) (spelled_side P) no_counts P s bytes at) _ _ (premises_alike bytes at) (λ ps p r.
        same_alike (As {A = SpelledClause Term}) (read_fixed (codes "=> ") r p) _ _ (λ _ p r.
        then_alike {A = Fact Term} {B = SpelledClause Term} (facts.read_conclusion P r p) (walks.read_conclusion (spelled_term P) no_counts P s r p) _ _ (conclusion_alike r p) (λ c p r.
        found (concluded ps c) (concluded ps c, s) p r (still (concluded ps c)))))

    pub clause_alike : Go (clauses.read_clause P) (walks.read_clause (spelled_term P) (spelled_side P) no_counts P)
    clause_alike bytes at =
        then_alike {A = SpelledClause Term} {B = Clause Term} (clauses.read_spelled_clause P bytes at) (walks.read_spelled_clause (spelled_term P) (spelled_side P) no_counts P s bytes at) _ _ (spelled_alike bytes at) (λ c p r.
        found (meant_clause c) (meant_clause c, s) p r (still (meant_clause c)))
