-- Facts by numbers: readers of hypotheses and of conclusions go on with the walk, and tell the first fault.
use Rattle.std.proofs.Common.{◌≡◌, ℕ, suc, ◌≤◌, ◌==◌, if◌then◌else◌, Bool, Option, Some, None, true, false, List, [], ◌∷◌, ◌++◌, length, drop, codes, refl, sym, ◌∙◌, ap, subst, arith, take, ◌+◌}
use Rattle.std.specs.Char.{is_ascii_digit}
use Rattle.spec_calculus.specs.Syntax.{Protocol}
use Rattle.spec_terms.specs.Term.{Term}
use Rattle.spec_clauses.specs.Fact.{Fact, Att, Mess, Tab, Ev, Mev, Bad}
use Rattle.spec_certificate_text.specs.OfProtocol.{HasNames}
use Rattle.spec_certificate_text.specs.Names.{CalledEvent, called_in, with_tables}
use Rattle.spec_certificate_text.specs.Terms.{Syntax}
use Rattle.spec_protocol_tokens.specs.Bytes.{begins_word, is_in_word}
use Rattle.std.specs.List.{prefix_len}
use Rattle.spec_certificate_text.specs.Outcomes.{Found, Faulty, next, front, ended, Reader, read_fixed}
use Rattle.spec_certificate_text.specs.Facts.{Performed, read_phase}
use Rattle.spec_certificate_text.specs.Facts as called
use Rattle.spec_certificate_text.proofs.Parts.{other_byte}
use Rattle.spec_certificate_faults.specs.Grammar.{EndsAt}
use Rattle.spec_first_faults.specs.Kinds.{fixed, IsRun, last, further}
use Rattle.spec_first_faults.specs.Facts.{event_goes_on, phases}
use Rattle.spec_first_faults.proofs.Tells.{Anything, mapped}
use Rattle.spec_first_faults.proofs.Behind.{then_read}
use Rattle.spec_first_faults.proofs.OneOf.{chosen, IsToldBy, told_by_front, told_alone, either_told}
use Rattle.spec_first_faults.proofs.Small.{fixed_forms}
use Rattle.spec_first_faults.proofs.Closed.{closed_by}
use Rattle.spec_first_faults.proofs.Phases.{EndsPhase, phases_tell}
use Rattle.spec_first_faults.proofs.Tables.{names_with_tables}
use Rattle.spec_node_reading.specs.Kinds.{KindIn, in_state, kept, changing, behind, one_of}
use Rattle.spec_node_reading.specs.Walked.{Walked, with_signs, table_numbers}
use Rattle.spec_node_reading.specs.Loops.{Behind, with, row_from}
use Rattle.spec_node_reading.specs.Facts.{arguments, events, entries, closing, known, sent, stored, performed, violated, hypotheses, conclusions}
use Rattle.spec_node_reading.specs.ReadClauses.{one_term, read_terms, read_applied, event_named, read_event, read_entry, read_att, read_mess, read_performed, read_tab, read_bad, read_hypothesis, read_conclusion}
use Rattle.spec_node_first_faults.proofs.Alike.{shared_local}
use Rattle.spec_node_first_faults.proofs.InState.{FormsIn, TellsIn, same_tells-in, kept_forms, kept_tells, one_of_forms-in, both_forms-in, both_tell-in}
use Rattle.spec_node_first_faults.proofs.InClosed.{closes_in, closed_thing-forms, closed_thing-in, opened_forms, opened_tells, behind_fixed-in, behind_fixed-forms, mapped_tells-in, choice_tells-in, front_tells-in}
use Rattle.spec_node_first_faults.proofs.InMany.{behind_told-in}
use Rattle.spec_node_first_faults.proofs.InRows.{walked_of}
use Rattle.spec_node_first_faults.proofs.WalkedNumbers.{number_tells, number_forms, arguments_forms, arguments_tell}
use Rattle.spec_node_first_faults.proofs.WalkedEvents.{events_forms, events_tell}

-- What begins with `mev(` or `mess(`, told apart by the third byte.

abbrev third_is : List ℕ → Bool
third_is bytes = front (drop 2 bytes) == 118

-- no digits begin with `)`
digits_front : (bytes rest : List ℕ) → IsRun is_ascii_digit is_ascii_digit bytes rest → (front bytes == 41) ≡ false
digits_front bytes rest is = ap (λ bs. front bs == 41) is.text ∙ by is.run is.some is.begin
  where
    by : (w : List ℕ) → 1 ≤ length w → is_ascii_digit (front w) ≡ true → (front (w ++ rest) == 41) ≡ false
    by [] some begin = absurd (omega (arith, some))
    by (b ∷ w) some begin = other_byte b 41 (λ same. let never : false ≡ true = ap is_ascii_digit (sym same) ∙ begin in cc)

module _ (P : Protocol) (names : HasNames P) (table : List Term) where
  -- The kinds.

  abbrev second_number : KindIn Walked
  second_number = behind (table_numbers false table) (closing P table)

  abbrev comma_and_number : KindIn Walked
  comma_and_number = behind (kept (fixed (codes ","))) second_number

  second_forms : FormsIn second_number Anything
  second_forms = closed_thing-forms (table_numbers false table) (EndsAt is_ascii_digit) (codes ")") (number_forms false P table) (λ rest. refl)

  -- a phase and `(`, and what stands behind them
  abbrev in_brackets : KindIn Walked → KindIn Walked
  in_brackets K = behind (kept (fixed (codes "("))) K

  abbrev behind_phase : KindIn Walked → KindIn Walked
  behind_phase K = behind (kept (phases P)) (in_brackets K)

  ends_phase : (K : KindIn Walked) (bytes rest : List ℕ) → (in_brackets K).Text bytes rest → EndsPhase bytes
  ends_phase K bytes rest (mid, text, more) = subst EndsPhase (sym text) (refl, refl)

  phase_forms : (K : KindIn Walked) → FormsIn K Anything → FormsIn (behind_phase K) Anything
  phase_forms K forms = both_forms-in (kept (phases P)) (in_brackets K) EndsPhase Anything (kept_forms (phases P) EndsPhase (phases_tell P).forms) (behind_fixed-forms (codes "(") K Anything forms) (ends_phase K)

  known_forms : FormsIn (known P table) Anything
  known_forms = opened_forms (codes "att") (with_signs 1) (behind_phase second_number) Anything (phase_forms second_number second_forms)

  comma_forms : FormsIn comma_and_number Anything
  comma_forms = behind_fixed-forms (codes ",") second_number Anything second_forms

  comma_ends : (bytes rest : List ℕ) → comma_and_number.Text bytes rest → EndsAt is_ascii_digit bytes
  comma_ends bytes rest (mid, text, more) = subst (EndsAt is_ascii_digit) (sym text) refl

  abbrev after_number : KindIn Walked
  after_number = behind (table_numbers false table) comma_and_number

  after_forms : FormsIn after_number Anything
  after_forms = both_forms-in (table_numbers false table) comma_and_number (EndsAt is_ascii_digit) Anything (number_forms false P table) comma_forms comma_ends

  sent_forms : FormsIn (sent P table) Anything
  sent_forms = opened_forms (codes "mess") (with_signs 1) (behind_phase after_number) Anything (phase_forms after_number after_forms)

  -- entries are the events of the protocol in which tables stand for these
  entries_forms : FormsIn (entries P table) (EndsAt event_goes_on)
  entries_forms = events_forms (with_tables P) (names_with_tables P names) table

  abbrev closed_entries : KindIn Walked
  closed_entries = behind (entries P table) (closing P table)

  closed_entries-forms : FormsIn closed_entries Anything
  closed_entries-forms = closed_thing-forms (entries P table) (EndsAt event_goes_on) (codes ")") entries_forms (λ rest. refl)

  stored_forms : FormsIn (stored P table) Anything
  stored_forms = opened_forms (codes "tab(") (with_signs 2) closed_entries Anything closed_entries-forms

  performed_forms : (word : List ℕ) → FormsIn (performed P table word) Anything
  performed_forms word = opened_forms word (with_signs 2) (behind (events P table) (closing P table)) Anything (closed_thing-forms (events P table) (EndsAt event_goes_on) (codes ")") (events_forms P names table) (λ rest. refl))

  violated_forms : FormsIn (violated P table) Anything
  violated_forms = opened_forms (codes "bad(") (with_signs 1) (one_of (closing P table) (arguments P table)) Anything (one_of_forms-in (closing P table) (arguments P table) Anything (kept_forms (fixed (codes ")")) Anything (fixed_forms (codes ")"))) (arguments_forms P table))

  -- The readers.

  abbrev closed_number : {A : Type 0} → (Behind Term → Behind A) → Walked → Reader (Behind A)
  closed_number f v = then_read (one_term P table v) (λ at x. closed_by (codes ")") (f x))

  number_closed : {A : Type 0} (f : Behind Term → Behind A) → ((x : Behind Term) → (f x).walked ≡ x.walked) → (v : Walked) → TellsIn second_number v Anything Anything walked_of (closed_number f v)
  number_closed f stays v = closed_thing-in (table_numbers false table) v (EndsAt is_ascii_digit) (codes ")") walked_of walked_of (one_term P table v) f (number_tells false table v P) (number_forms false P table) (λ rest. refl) stays

  -- a phase and `(`, and the reader of what stands behind them in that phase
  abbrev phase_then : {A : Type 0} → (ℕ → Reader (Behind A)) → Reader (Behind A)
  phase_then m = then_read (read_phase P) (λ at k. then_read (read_fixed (codes "(")) (λ _ _. m k))

  phase_tells : {A : Type 0} (K : KindIn Walked) (v : Walked) (m : ℕ → Reader (Behind A)) → ((k : ℕ) → TellsIn K v Anything Anything walked_of (m k)) → FormsIn K Anything → TellsIn (behind_phase K) v Anything Anything walked_of (phase_then m)
  phase_tells K v m each forms =
      both_tell-in (kept (phases P)) (in_brackets K) v Anything Anything EndsPhase Anything (λ (k : ℕ). v) walked_of (read_phase P) (λ at k. then_read (read_fixed (codes "(")) (λ _ _. m k))
      (kept_tells (phases P) v Anything EndsPhase (λ (k : ℕ). v) (read_phase P) (phases_tell P) (λ bytes at place x rest e. refl))
      (λ at k. behind_fixed-in (codes "(") v K Anything walked_of (m k) (each k) forms)
      (kept_forms (phases P) EndsPhase (phases_tell P).forms) (behind_fixed-forms (codes "(") K Anything forms) (ends_phase K) (λ bs mid of text. tt)

  abbrev att_of : ℕ → Behind Term → Behind (Fact Term)
  att_of k x = with (Att k x.value) x.walked

  abbrev mess_of : ℕ → Term → Behind Term → Behind (Fact Term)
  mess_of k t y = with (Mess k t y.value) y.walked

  abbrev att_read : Walked → ℕ → Reader (Behind (Fact Term))
  att_read v k = closed_number (att_of k) v

  known_tells : (w : Walked) → TellsIn (known P table) w Anything Anything walked_of (read_att P table w)
  known_tells w =
      let v = with_signs 1 w in
      opened_tells (codes "att") (with_signs 1) w (behind_phase second_number) Anything walked_of (phase_then (att_read v))
      (phase_tells second_number v (att_read v) (λ k. number_closed (att_of k) (λ x. refl) v) second_forms) (phase_forms second_number second_forms)

  abbrev behind_first : ℕ → Behind Term → Reader (Behind (Fact Term))
  behind_first k x = then_read (read_fixed (codes ",")) (λ _ _. closed_number (mess_of k x.value) x.walked)

  abbrev mess_read : Walked → ℕ → Reader (Behind (Fact Term))
  mess_read v k = then_read (one_term P table v) (λ at x. behind_first k x)

  mess_tells : (v : Walked) (k : ℕ) → TellsIn after_number v Anything Anything walked_of (mess_read v k)
  mess_tells v k =
      both_tell-in (table_numbers false table) comma_and_number v Anything Anything (EndsAt is_ascii_digit) Anything walked_of walked_of (one_term P table v) (λ at x. behind_first k x) (number_tells false table v P)
      (λ at x. behind_fixed-in (codes ",") x.walked second_number Anything walked_of (closed_number (mess_of k x.value) x.walked) (number_closed (mess_of k x.value) (λ y. refl) x.walked) second_forms)
      (number_forms false P table) comma_forms comma_ends (λ bs mid of text. tt)

  message_tells : (v : Walked) → TellsIn (behind_phase after_number) v Anything Anything walked_of (phase_then (mess_read v))
  message_tells v = phase_tells after_number v (mess_read v) (mess_tells v) after_forms

  sent_tells : (w : Walked) → TellsIn (sent P table) w Anything Anything walked_of (read_mess P table w)
  sent_tells w =
      let v = with_signs 1 w in
      opened_tells (codes "mess") (with_signs 1) w (behind_phase after_number) Anything walked_of (phase_then (mess_read v)) (message_tells v) (phase_forms after_number after_forms)

  abbrev fact_of : (ℕ → List Term → Fact Term) → Behind Performed → Behind (Fact Term)
  fact_of fact e = with (fact e.value.event e.value.arguments) e.walked

  abbrev closed_event : (ℕ → List Term → Fact Term) → Walked → Reader (Behind (Fact Term))
  closed_event fact v = then_read (read_event P table v) (λ at e. closed_by (codes ")") (fact_of fact e))

  event_closed : (fact : ℕ → List Term → Fact Term) (v : Walked) → TellsIn (behind (events P table) (closing P table)) v Anything Anything walked_of (closed_event fact v)
  event_closed fact v = closed_thing-in (events P table) v (EndsAt event_goes_on) (codes ")") walked_of walked_of (read_event P table v) (fact_of fact) (events_tell P names table v) (events_forms P names table) (λ rest. refl) (λ x. refl)

  performed_tells : (word : List ℕ) (fact : ℕ → List Term → Fact Term) (w : Walked) → TellsIn (performed P table word) w Anything Anything walked_of (read_performed P table word fact w)
  performed_tells word fact w =
      opened_tells word (with_signs 2) w (behind (events P table) (closing P table)) Anything walked_of (closed_event fact (with_signs 2 w)) (event_closed fact (with_signs 2 w))
      (closed_thing-forms (events P table) (EndsAt event_goes_on) (codes ")") (events_forms P names table) (λ rest. refl))

  -- Entries.

  one_alike : one_term P table ≡ one_term (with_tables P) table
  one_alike = refl

  applied_alike : (w : Walked) (bytes : List ℕ) (at : ℕ) → read_applied P table w bytes at ≡ read_applied (with_tables P) table w bytes at
  applied_alike w bytes at =
      ap (λ (one : Walked → Reader (Behind Term)). if front bytes == 40 then next (read_fixed (codes "(") bytes at) (λ _ p r. row_from one 44 [] (codes ")") (suc (length r)) (with [] w) r p) else Found (with [] w) at bytes) one_alike

  named_alike : (found : Option CalledEvent) (w : Walked) (from place : ℕ) (rest : List ℕ) → event_named P table found w from place rest ≡ event_named (with_tables P) table found w from place rest
  named_alike None w from place rest = refl
  named_alike (Some named) w from place rest = ap (λ o. next o (λ x p r. next (called.performed from named x.value p r) (λ e p r. Found (with e x.walked) p r))) (applied_alike w rest place)

  entry_as : (w : Walked) (bytes : List ℕ) (at : ℕ) → read_entry P table w bytes at ≡ read_event (with_tables P) table w bytes at
  entry_as w bytes at =
      let long = prefix_len is_in_word bytes in
      let rest = drop long bytes in
      ap (λ o. if begins_word (front bytes) then ended (at + long) rest o else Faulty at Syntax) (named_alike (called_in P.tables (take long bytes)) w at (at + long) rest)

  entries_tell : (w : Walked) → TellsIn (entries P table) w Anything (EndsAt event_goes_on) walked_of (read_entry P table w)
  entries_tell w =
      same_tells-in (entries P table) w Anything (EndsAt event_goes_on) walked_of (read_entry P table w) (read_event (with_tables P) table w) (entry_as w) (events_tell (with_tables P) (names_with_tables P names) table w)

  abbrev as_tab : ℕ → List Term → Fact Term
  as_tab n ts = Tab n ts

  abbrev closed_entry : Walked → Reader (Behind (Fact Term))
  closed_entry v = then_read (read_entry P table v) (λ at e. closed_by (codes ")") (fact_of as_tab e))

  entry_closed : (v : Walked) → TellsIn closed_entries v Anything Anything walked_of (closed_entry v)
  entry_closed v = closed_thing-in (entries P table) v (EndsAt event_goes_on) (codes ")") walked_of walked_of (read_entry P table v) (fact_of as_tab) (entries_tell v) entries_forms (λ rest. refl) (λ x. refl)

  stored_tells : (w : Walked) → TellsIn (stored P table) w Anything Anything walked_of (read_tab P table w)
  stored_tells w = opened_tells (codes "tab(") (with_signs 2) w closed_entries Anything walked_of (closed_entry (with_signs 2 w)) (entry_closed (with_signs 2 w)) closed_entries-forms

  arguments_front : (bytes rest : List ℕ) → (arguments P table).Text bytes rest → (front bytes == 41) ≡ false
  arguments_front bytes rest (last (mid, one, text)) = digits_front bytes mid one
  arguments_front bytes rest (further inner (mid, one, text) more) = digits_front bytes mid one

  abbrev bad_of : Behind (List Term) → Behind (Fact Term)
  bad_of x = with (Bad x.value) x.walked

  bad_inner : (v : Walked) → TellsIn (one_of (closing P table) (arguments P table)) v Anything Anything walked_of (chosen (λ bs. front bs == 41) (closed_by (codes ")") (bad_of (with [] v))) (mapped bad_of (read_terms P table v)))
  bad_inner v =
      front_tells-in (closing P table) (arguments P table) v Anything 41 walked_of (closed_by (codes ")") (bad_of (with [] v))) (mapped bad_of (read_terms P table v)) (closes_in (codes ")") v walked_of (bad_of (with [] v)) refl)
      (mapped_tells-in (arguments P table) v Anything Anything walked_of walked_of (read_terms P table v) bad_of (λ x. refl) (arguments_tell P table v)) (kept_forms (fixed (codes ")")) Anything (fixed_forms (codes ")"))) (arguments_forms P table)
      (told_alone (codes ")") (λ bs. front bs == 41) true (λ rest. refl)) (told_by_front (in_state (arguments P table) v) Anything (λ b. b == 41) false ((arguments_forms P table).each v) arguments_front)

  violated_tells : (w : Walked) → TellsIn (violated P table) w Anything Anything walked_of (read_bad P table w)
  violated_tells w =
      let v = with_signs 1 w in
      opened_tells (codes "bad(") (with_signs 1) w (one_of (closing P table) (arguments P table)) Anything walked_of (chosen (λ bs. front bs == 41) (closed_by (codes ")") (bad_of (with [] v))) (mapped bad_of (read_terms P table v))) (bad_inner v)
      (one_of_forms-in (closing P table) (arguments P table) Anything (kept_forms (fixed (codes ")")) Anything (fixed_forms (codes ")"))) (arguments_forms P table))

  -- Hypotheses and conclusions.

  -- what a fact begins with tells it
  told_fact : (word : List ℕ) (signs : ℕ) (L : KindIn Walked) (w : Walked) (test : List ℕ → Bool) (is : Bool) → ((rest : List ℕ) → test (word ++ rest) ≡ is) → IsToldBy (in_state (behind (changing word (with_signs signs)) L) w) test is
  told_fact word signs L w test is told = behind_told-in (changing word (with_signs signs)) L w test is (λ bytes rest t leads. leads.0) (told_alone word test is told)

  abbrev closed_events : KindIn Walked
  closed_events = behind (events P table) (closing P table)

  abbrev of_ev : (w : Walked) (test : List ℕ → Bool) (is : Bool) → ((rest : List ℕ) → test (codes "ev(" ++ rest) ≡ is) → IsToldBy (in_state (performed P table (codes "ev(")) w) test is
  of_ev w test is told = told_fact (codes "ev(") 2 closed_events w test is told

  abbrev of_mev : (w : Walked) (test : List ℕ → Bool) (is : Bool) → ((rest : List ℕ) → test (codes "mev(" ++ rest) ≡ is) → IsToldBy (in_state (performed P table (codes "mev(")) w) test is
  of_mev w test is told = told_fact (codes "mev(") 2 closed_events w test is told

  abbrev of_att : (w : Walked) (test : List ℕ → Bool) (is : Bool) → ((rest : List ℕ) → test (codes "att" ++ rest) ≡ is) → IsToldBy (in_state (known P table) w) test is
  of_att w test is told = told_fact (codes "att") 1 (behind_phase second_number) w test is told

  abbrev of_tab : (w : Walked) (test : List ℕ → Bool) (is : Bool) → ((rest : List ℕ) → test (codes "tab(" ++ rest) ≡ is) → IsToldBy (in_state (stored P table) w) test is
  of_tab w test is told = told_fact (codes "tab(") 2 closed_entries w test is told

  abbrev of_mess : (w : Walked) (test : List ℕ → Bool) (is : Bool) → ((rest : List ℕ) → test (codes "mess" ++ rest) ≡ is) → IsToldBy (in_state (sent P table) w) test is
  of_mess w test is told = told_fact (codes "mess") 1 (behind_phase after_number) w test is told

  abbrev of_bad : (w : Walked) (test : List ℕ → Bool) (is : Bool) → ((rest : List ℕ) → test (codes "bad(" ++ rest) ≡ is) → IsToldBy (in_state (violated P table) w) test is
  of_bad w test is told = told_fact (codes "bad(") 1 (one_of (closing P table) (arguments P table)) w test is told

  abbrev mev : KindIn Walked
  mev = performed P table (codes "mev(")

  abbrev ev : KindIn Walked
  ev = performed P table (codes "ev(")

  abbrev as_ev : ℕ → List Term → Fact Term
  as_ev e ts = Ev e ts

  abbrev as_mev : ℕ → List Term → Fact Term
  as_mev e ts = Mev e ts

  mev_or_mess-tell : (w : Walked) → TellsIn (one_of mev (sent P table)) w Anything Anything walked_of (chosen third_is (read_performed P table (codes "mev(") as_mev w) (read_mess P table w))
  mev_or_mess-tell w =
      choice_tells-in mev (sent P table) w Anything third_is walked_of (read_performed P table (codes "mev(") as_mev w) (read_mess P table w) (performed_tells (codes "mev(") as_mev w) (sent_tells w) (performed_forms (codes "mev(")) sent_forms
      (of_mev w third_is true (λ rest. refl)) (of_mess w third_is false (λ rest. refl))
      (shared_local (codes "me") (codes "v(") (codes "ss") (λ b. b == 118) (closed_event as_mev (with_signs 2 w)) (phase_then (mess_read (with_signs 1 w))) (event_closed as_mev (with_signs 2 w)).tells.local (message_tells (with_signs 1 w)).tells.local)

  -- an entry, or what the attacker knows
  abbrev tab_or : KindIn Walked
  tab_or = one_of (stored P table) (known P table)

  abbrev read_tab-or : Walked → Reader (Behind (Fact Term))
  read_tab-or w = chosen (λ bs. front bs == 116) (read_tab P table w) (read_att P table w)

  tab_or-forms : FormsIn tab_or Anything
  tab_or-forms = one_of_forms-in (stored P table) (known P table) Anything stored_forms known_forms

  told_tab-or : (w : Walked) (test : List ℕ → Bool) (is : Bool) → ((rest : List ℕ) → test (codes "tab(" ++ rest) ≡ is) → ((rest : List ℕ) → test (codes "att" ++ rest) ≡ is) → IsToldBy (in_state tab_or w) test is
  told_tab-or w test is tab att = either_told (in_state (stored P table) w) (in_state (known P table) w) test is (of_tab w test is tab) (of_att w test is att)

  tab_or-tell : (w : Walked) → TellsIn tab_or w Anything Anything walked_of (read_tab-or w)
  tab_or-tell w =
      let is_t = λ (bs : List ℕ). front bs == 116 in
      front_tells-in (stored P table) (known P table) w Anything 116 walked_of (read_tab P table w) (read_att P table w) (stored_tells w) (known_tells w) stored_forms known_forms (of_tab w is_t true (λ rest. refl)) (of_att w is_t false (λ rest. refl))

  ev_or_att-tell : (w : Walked) → TellsIn (one_of ev tab_or) w Anything Anything walked_of (chosen (λ bs. front bs == 101) (read_performed P table (codes "ev(") as_ev w) (read_tab-or w))
  ev_or_att-tell w =
      let is_e = λ (bs : List ℕ). front bs == 101 in
      front_tells-in ev tab_or w Anything 101 walked_of (read_performed P table (codes "ev(") as_ev w) (read_tab-or w) (performed_tells (codes "ev(") as_ev w) (tab_or-tell w) (performed_forms (codes "ev(")) tab_or-forms
      (of_ev w is_e true (λ rest. refl)) (told_tab-or w is_e false (λ rest. refl) (λ rest. refl))

  abbrev with_m : KindIn Walked
  with_m = one_of mev (sent P table)

  abbrev without_m : KindIn Walked
  without_m = one_of ev tab_or

  pub hypotheses_forms : FormsIn (hypotheses P table) Anything
  hypotheses_forms = one_of_forms-in with_m without_m Anything (one_of_forms-in mev (sent P table) Anything (performed_forms (codes "mev(")) sent_forms) (one_of_forms-in ev tab_or Anything (performed_forms (codes "ev(")) tab_or-forms)

  -- a test of the first byte that is so of both, and one that is so of neither
  told_with : (w : Walked) (test : ℕ → Bool) (is : Bool) → test 109 ≡ is → IsToldBy (in_state with_m w) (λ bs. test (front bs)) is
  told_with w test is told = either_told (in_state mev w) (in_state (sent P table) w) (λ bs. test (front bs)) is (of_mev w (λ bs. test (front bs)) is (λ rest. told)) (of_mess w (λ bs. test (front bs)) is (λ rest. told))

  told_without : (w : Walked) (test : ℕ → Bool) (is : Bool) → test 101 ≡ is → test 116 ≡ is → test 97 ≡ is → IsToldBy (in_state without_m w) (λ bs. test (front bs)) is
  told_without w test is e t a = either_told (in_state ev w) (in_state tab_or w) (λ bs. test (front bs)) is (of_ev w (λ bs. test (front bs)) is (λ rest. e)) (told_tab-or w (λ bs. test (front bs)) is (λ rest. t) (λ rest. a))

  pub hypotheses_tell : (w : Walked) → TellsIn (hypotheses P table) w Anything Anything walked_of (read_hypothesis P table w)
  hypotheses_tell w =
      front_tells-in with_m without_m w Anything 109 walked_of (chosen third_is (read_performed P table (codes "mev(") as_mev w) (read_mess P table w)) (chosen (λ bs. front bs == 101) (read_performed P table (codes "ev(") as_ev w) (read_tab-or w)) (mev_or_mess-tell w) (ev_or_att-tell w)
      (one_of_forms-in mev (sent P table) Anything (performed_forms (codes "mev(")) sent_forms) (one_of_forms-in ev tab_or Anything (performed_forms (codes "ev(")) tab_or-forms)
      (told_with w (λ b. b == 109) true refl) (told_without w (λ b. b == 109) false refl refl refl)

  -- the first byte of a hypothesis is none of the others
  pub hypothesis_front : (w : Walked) (b : ℕ) → (109 == b) ≡ false → (101 == b) ≡ false → (116 == b) ≡ false → (97 == b) ≡ false → IsToldBy (in_state (hypotheses P table) w) (λ bs. front bs == b) false
  hypothesis_front w b m e t a = either_told (in_state with_m w) (in_state without_m w) (λ bs. front bs == b) false (told_with w (λ c. c == b) false m) (told_without w (λ c. c == b) false e t a)

  abbrev bad_or : KindIn Walked
  bad_or = one_of (violated P table) tab_or

  abbrev ev_or : KindIn Walked
  ev_or = one_of ev bad_or

  bad_or-forms : FormsIn bad_or Anything
  bad_or-forms = one_of_forms-in (violated P table) tab_or Anything violated_forms tab_or-forms

  ev_or-forms : FormsIn ev_or Anything
  ev_or-forms = one_of_forms-in ev bad_or Anything (performed_forms (codes "ev(")) bad_or-forms

  pub conclusions_forms : FormsIn (conclusions P table) Anything
  conclusions_forms = one_of_forms-in (sent P table) ev_or Anything sent_forms ev_or-forms

  pub conclusions_tell : (w : Walked) → TellsIn (conclusions P table) w Anything Anything walked_of (read_conclusion P table w)
  conclusions_tell w =
      let is_m = λ (bs : List ℕ). front bs == 109 in
      let is_e = λ (bs : List ℕ). front bs == 101 in
      let is_b = λ (bs : List ℕ). front bs == 98 in
      let bad = chosen is_b (read_bad P table w) (read_tab-or w) in
      let ev_read = chosen is_e (read_performed P table (codes "ev(") as_ev w) bad in
      front_tells-in (sent P table) ev_or w Anything 109 walked_of (read_mess P table w) ev_read (sent_tells w)
      (front_tells-in ev bad_or w Anything 101 walked_of (read_performed P table (codes "ev(") as_ev w) bad (performed_tells (codes "ev(") as_ev w)
      (front_tells-in (violated P table) tab_or w Anything 98 walked_of (read_bad P table w) (read_tab-or w) (violated_tells w) (tab_or-tell w) violated_forms tab_or-forms (of_bad w is_b true (λ rest. refl)) (told_tab-or w is_b false (λ rest. refl) (λ rest. refl)))
      (performed_forms (codes "ev(")) bad_or-forms (of_ev w is_e true (λ rest. refl))
      (either_told (in_state (violated P table) w) (in_state tab_or w) is_e false (of_bad w is_e false (λ rest. refl)) (told_tab-or w is_e false (λ rest. refl) (λ rest. refl))))
      sent_forms ev_or-forms (of_mess w is_m true (λ rest. refl))
      (either_told (in_state ev w) (in_state bad_or w) is_m false (of_ev w is_m false (λ rest. refl)) (either_told (in_state (violated P table) w) (in_state tab_or w) is_m false (of_bad w is_m false (λ rest. refl)) (told_tab-or w is_m false (λ rest. refl) (λ rest. refl))))
