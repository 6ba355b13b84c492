-- Events by numbers: a reader of them goes on with the walk, and tells the first fault.
use Rattle.std.proofs.Common.{◌≡◌, ◌≢◌, ℕ, ◌+◌, ◌≤◌, ◌==◌, ◌⊎◌, inl, inr, if◌then◌else◌, Bool, true, false, List, [], ◌∷◌, ◌++◌, map, length, take, drop, Option, Some, None, codes, refl, sym, ◌∙◌, ap, subst, arith, length-append}
use Rattle.std.specs.List.{list_all, prefix_len}
use Rattle.std.proofs.lemmas.List.{length-map}
use Rattle.spec_calculus.specs.Syntax.{Protocol}
use Rattle.spec_protocol_tokens.specs.Bytes.{begins_word, is_in_word}
use Rattle.spec_terms.specs.Term.{Term}
use Rattle.spec_certificate_text.specs.OfProtocol.{HasNames, IsEvent}
use Rattle.spec_certificate_text.specs.Words.{event_word}
use Rattle.spec_certificate_text.proofs.Names.{event_word_is_word}
use Rattle.spec_certificate_text.proofs.Runs.{both_left, both_right}
use Rattle.spec_certificate_text.specs.Names.{CalledEvent, event_called}
use Rattle.spec_certificate_text.specs.Terms.{Code, Syntax, Number, Symbol, Arity, Count, NodeOrder, NodeLarge}
use Rattle.spec_certificate_text.specs.Outcomes.{Outcome, Found, Faulty, next, front, ended, Reader, read_fixed}
use Rattle.spec_certificate_text.specs.Facts.{Performed, performed}
use Rattle.spec_certificate_text.proofs.Parts.{Finds, parts, other_byte, same_byte, when_false}
use Rattle.spec_certificate_text.proofs.Called.{event_word_called, event_called_is}
use Rattle.spec_reading_faults.proofs.Shared.{choice_local, found_local}
use Rattle.spec_certificate_faults.specs.Grammar.{EndsAt}
use Rattle.spec_first_faults.specs.Kinds as plain
use Rattle.spec_first_faults.specs.Kinds.{fixed, IsRun, nothing_before}
use Rattle.spec_first_faults.specs.Facts.{words, WordFault, event_goes_on}
use Rattle.spec_first_faults.proofs.Tells.{Anything, GoesPastIt, mapped, shorter, extends_to}
use Rattle.spec_first_faults.proofs.Behind.{first_extends, then_read}
use Rattle.spec_first_faults.proofs.OneOf.{IsToldBy, told_alone}
use Rattle.spec_first_faults.proofs.Small.{nothing_forms, nothing_tells}
use Rattle.spec_first_faults.proofs.Marked.{judged, checked, IsJudged, Judges}
use Rattle.spec_first_faults.proofs.Numbers.{run_long, run_past}
use Rattle.spec_first_faults.proofs.Events.{word_tests, judge_found, judge_word, word_read, word_tells, stands_alone, not_applied, ends_word, word_run, word_is_read, word_was_read}
use Rattle.spec_node_tables.specs.Nodes.{term_at}
use Rattle.spec_node_tables.specs.Text.{number_text, terms_text, event_over}
use Rattle.spec_node_reading.specs.Kinds.{KindIn, in_state, kept, behind}
use Rattle.spec_node_reading.specs.Walked.{Walked, MayFollowAll}
use Rattle.spec_node_reading.specs.Loops.{Behind, with}
use Rattle.spec_node_reading.specs.Facts.{arguments, applications, performances, IsMisperformed, EventFault, events}
use Rattle.spec_node_reading.specs.ReadClauses.{read_terms, read_applied, event_named, read_event}
use Rattle.spec_node_reading.proofs.Parts.{past_all, numbers_go}
use Rattle.spec_node_reading.proofs.FactsFound.{terms_found}
use Rattle.spec_node_reading.proofs.FactsThere.{applied_there}
use Rattle.spec_node_first_faults.proofs.InState.{FormsIn, TellsIn, same_tells-in, tells_of-in, kept_forms, kept_tells, one_of_forms-in, one_of_tells-in, both_forms-in, both_tell-in}
use Rattle.spec_node_first_faults.proofs.InClosed.{mapped_tells-in, forms_before, tells_before-in, behind_fixed-in, behind_fixed-forms, marked_forms-in, marked_tells-in}
use Rattle.spec_node_first_faults.proofs.InMany.{behind_told-in}
use Rattle.spec_node_first_faults.proofs.InRows.{walked_of}
use Rattle.spec_node_first_faults.proofs.WalkedNumbers.{arguments_forms, arguments_tell}

-- an event, of which it was found what stands behind its word
abbrev walked_behind : CalledEvent × Behind (List Term) → Walked
walked_behind x = x.1.walked

-- a word that the bytes begin with is not longer than all that stand there
no_longer : (w run rest inner : List ℕ) → list_all is_in_word w ≡ true → w ++ rest ≡ run ++ 40 ∷ inner → length w ≤ length run
no_longer [] run rest inner all e = omega arith
no_longer (b ∷ w) [] rest inner all e =
    let first : b ≡ 40 = cc in
    let goes_on : is_in_word b ≡ true = both_left (is_in_word b) (list_all is_in_word w) all in
    absurd (let never : false ≡ true = ap is_in_word (sym first) ∙ goes_on in cc)
no_longer (b ∷ w) (c ∷ run) rest inner all e =
    let later : w ++ rest ≡ run ++ 40 ∷ inner = cc in
    let less = no_longer w run rest inner (both_right (is_in_word b) (list_all is_in_word w) all) later in
    omega (arith, less)

module _ (P : Protocol) (names : HasNames P) (table : List Term) where
  -- What stands behind the word of an event.

  may_follow : (bytes rest : List ℕ) → (applications P table).Text bytes rest → EndsAt is_in_word bytes
  may_follow bytes rest (inl (mid, text, more)) = subst (EndsAt is_in_word) (sym text) refl
  may_follow bytes rest (inr (same, ends)) = subst (EndsAt is_in_word) (sym same) (ends_word rest ends)

  abbrev over : KindIn Walked
  over = behind (kept (fixed (codes "("))) (arguments P table)

  abbrev alone : KindIn Walked
  alone = kept (nothing_before (EndsAt event_goes_on))

  over_forms : FormsIn over (EndsAt event_goes_on)
  over_forms = forms_before over Anything (EndsAt event_goes_on) (41 ∷ []) (λ other is. tt) refl (behind_fixed-forms (codes "(") (arguments P table) Anything (arguments_forms P table))

  alone_forms : FormsIn alone (EndsAt event_goes_on)
  alone_forms = kept_forms (nothing_before (EndsAt event_goes_on)) (EndsAt event_goes_on) (nothing_forms (EndsAt event_goes_on) (41 ∷ []) refl)

  applied_forms : FormsIn (applications P table) (EndsAt event_goes_on)
  applied_forms = one_of_forms-in over alone (EndsAt event_goes_on) over_forms alone_forms

  alone_told : IsToldBy (nothing_before (EndsAt event_goes_on)) (λ bs. front bs == 40) false
  alone_told = record { texts = λ bytes rest text. ap (λ bs. front bs == 40) text.0 ∙ not_applied rest text.1; faults = λ code bytes there fault. absurd fault }

  applied_tells : (w : Walked) → TellsIn (applications P table) w (EndsAt is_in_word) (EndsAt event_goes_on) walked_of (read_applied P table w)
  applied_tells w =
      let test = λ (bs : List ℕ). front bs == 40 in
      let read = then_read (read_fixed (codes "(")) (λ _ _. read_terms P table w) in
      let none : Reader (Behind (List Term)) = λ bytes at. Found (with [] w) at bytes in
      let over_tells = behind_fixed-in (codes "(") w (arguments P table) Anything walked_of (read_terms P table w) (arguments_tell P table w) (arguments_forms P table) in
      let alone_tells = kept_tells (nothing_before (EndsAt event_goes_on)) w (EndsAt event_goes_on) (EndsAt event_goes_on) walked_of none (nothing_tells (EndsAt event_goes_on) (41 ∷ []) refl (with [] w)) stays in
      one_of_tells-in over alone w (EndsAt is_in_word) (EndsAt event_goes_on) test walked_of read none (over_forms.text w) (alone_forms.text w)
      (tells_before-in over w (λ bs. EndsAt is_in_word bs × (test bs ≡ true)) Anything (EndsAt event_goes_on) walked_of read (41 ∷ []) (λ other is. tt) refl (tells_of-in over w Anything (λ bs. EndsAt is_in_word bs × (test bs ≡ true)) Anything walked_of read (λ bs of. tt) over_tells))
      (tells_of-in alone w (EndsAt event_goes_on) (λ bs. EndsAt is_in_word bs × (test bs ≡ false)) (EndsAt event_goes_on) walked_of none (λ bs of. stands_alone bs of.0 of.1) alone_tells)
      (behind_told-in (kept (fixed (codes "("))) (arguments P table) w test true (λ bytes rest t leads. leads.0) (told_alone (codes "(") test true (λ rest. refl))) alone_told
      (choice_local (λ b. b == 40) read none over_tells.tells.local (found_local (with [] w)))
    where
      stays : (bytes : List ℕ) (at place : ℕ) (x : Behind (List Term)) (rest : List ℕ) → Found (with [] w) at bytes ≡ Found x place rest → x.walked ≡ w
      stays bytes at place x rest e = let same : with [] w ≡ x = cc in ap walked_of (sym same)

  -- The whole.

  abbrev with_arguments : Walked → Reader (CalledEvent × Behind (List Term))
  with_arguments w = then_read (word_read P) (λ at called. mapped (λ x. (called, x)) (read_applied P table w))

  abbrev made_of : CalledEvent → Behind (List Term) → Performed
  made_of called x = record { event = called.number; arguments = x.value }

  abbrev performed_as : CalledEvent → Behind (List Term) → Behind Performed
  performed_as called x = with (made_of called x) x.walked

  judge_fits : CalledEvent × Behind (List Term) → Bool → Code ⊎ Behind Performed
  judge_fits x true = inr (performed_as x.0 x.1)
  judge_fits x false = inl Arity

  judge_performed : CalledEvent × Behind (List Term) → Code ⊎ Behind Performed
  judge_performed x = judge_fits x (length x.1.value == x.0.arity)

  fits : (called : CalledEvent) (x : Behind (List Term)) (from q : ℕ) (r : List ℕ) → next (performed from called x.value q r) (λ e p r. Found (with e x.walked) p r) ≡ judged (judge_performed (called, x)) from q r
  unfolding judge_performed judge_fits
  fits called x from q r = so (length x.value == called.arity)
    where
      so : (t : Bool) → next (if t then Found (made_of called x) q r else Faulty from Arity) (λ e p r. Found (with e x.walked) p r) ≡ judged (judge_fits (called, x) t) from q r
      so true = refl
      so false = refl

  applied_as : (w : Walked) (called : CalledEvent) (from place : ℕ) (rest : List ℕ)
      → event_named P table (Some called) w from place rest ≡ next (next (read_applied P table w rest place) (λ x q r. Found (called, x) q r)) (λ x q r. judged (judge_performed x) from q r)
  applied_as w called from place rest = by (read_applied P table w rest place)
    where
      by : (o : Outcome (Behind (List Term))) → next o (λ x p r. next (performed from called x.value p r) (λ e p r. Found (with e x.walked) p r)) ≡ next (next o (λ x q r. Found (called, x) q r)) (λ x q r. judged (judge_performed x) from q r)
      by (Faulty p c) = refl
      by (Found x q r) = fits called x from q r

  word_as : (w : Walked) (word : List ℕ) (from place : ℕ) (rest : List ℕ)
      → ended place rest (event_named P table (event_called P word) w from place rest)
      ≡ next (next (next (ended place rest (Found word place rest)) (λ v q r. judged (judge_word P v) from q r)) (λ called q r. next (read_applied P table w r q) (λ x y s. Found (called, x) y s))) (λ x q r. judged (judge_performed x) from q r)
  unfolding judge_word judge_found
  word_as w word from place [] = refl
  word_as w word from place (b ∷ rest) = by (event_called P word)
    where
      by : (found : Option CalledEvent) → event_named P table found w from place (b ∷ rest) ≡ next (next (judged (judge_found found) from place (b ∷ rest)) (λ called q r. next (read_applied P table w r q) (λ x y s. Found (called, x) y s))) (λ x q r. judged (judge_performed x) from q r)
      by None = refl
      by (Some called) = applied_as w called from place (b ∷ rest)

  event_as : (w : Walked) (bytes : List ℕ) (at : ℕ) → read_event P table w bytes at ≡ checked judge_performed (with_arguments w) bytes at
  unfolding word_read
  event_as w bytes at = by (begins_word (front bytes))
    where
      by : (t : Bool)
          → (if t then ended (at + prefix_len is_in_word bytes) (drop (prefix_len is_in_word bytes) bytes) (event_named P table (event_called P (take (prefix_len is_in_word bytes) bytes)) w at (at + prefix_len is_in_word bytes) (drop (prefix_len is_in_word bytes) bytes)) else Faulty at Syntax)
          ≡ next (next (next (if t then ended (at + prefix_len is_in_word bytes) (drop (prefix_len is_in_word bytes) bytes) (Found (take (prefix_len is_in_word bytes) bytes) (at + prefix_len is_in_word bytes) (drop (prefix_len is_in_word bytes) bytes)) else Faulty at Syntax)
          (λ v q r. judged (judge_word P v) at q r)) (λ called q r. next (read_applied P table w r q) (λ x y s. Found (called, x) y s))) (λ x q r. judged (judge_performed x) at q r)
      by true = word_as w (take (prefix_len is_in_word bytes) bytes) at (at + prefix_len is_in_word bytes) (drop (prefix_len is_in_word bytes) bytes)
      by false = refl

  -- an event over numbers that may follow: its word, and what stands behind it, as they are read
  record IsPerformedSo (w : Walked) (event : ℕ) (ns : List ℕ) (bytes rest : List ℕ) : Type 0 where
    mid : List ℕ
    word : IsRun begins_word is_in_word bytes mid
    is : word.run ≡ event_word P event
    there : (at : ℕ) → Finds (read_applied P table w mid at) (with (map (term_at table) ns) (past_all table w ns)) rest

  -- what stands behind an event over no numbers
  ends_alone : (event takes : ℕ) (bytes rest : List ℕ) → IsEvent P event takes → bytes ≡ event_word P event ++ rest → (performances P table).Text bytes rest → EndsAt event_goes_on rest
  ends_alone event takes bytes rest is text (mid, run, inr (same, ends)) = ends
  ends_alone event takes bytes rest is text (mid, run, inl (inner, opens, more)) =
      let whole : event_word P event ++ rest ≡ run.run ++ 40 ∷ inner = sym text ∙ (run.text ∙ ap (λ k. run.run ++ k) opens) in
      let less = no_longer (event_word P event) run.run rest inner (event_word_is_word P event takes names is).goes_on whole in
      let within = shorter (in_state (arguments P table) none) Anything inner rest (((arguments_forms P table).each none).moved inner rest more) in
      absurd (omega (arith, less, within, ap length whole, length-append (event_word P event) rest, length-append run.run (40 ∷ inner)))
    where
      none : Walked
      none = record { seen = []; clause = 0; all = 0 }

  over_found : (w : Walked) (n : ℕ) (ns rest : List ℕ) → MayFollowAll false table w (n ∷ ns) → (at : ℕ) → Finds (read_applied P table w (40 ∷ terms_text number_text P (n ∷ ns) (41 ∷ rest)) at) (with (map (term_at table) (n ∷ ns)) (past_all table w (n ∷ ns))) rest
  unfolding read_fixed
  over_found w n ns rest each at = let found = terms_found P names table w n ns rest (at + 1) each in record { place = found.place; is = found.is }

  performed_so : (w : Walked) (bytes : List ℕ) → (is : IsMisperformed P table w bytes) → IsPerformedSo w is.event is.numbers bytes is.rest
  performed_so w bytes is = by is.numbers is.each is.text
    where
      by : (ns : List ℕ) → MayFollowAll false table w ns → bytes ≡ event_over number_text P is.event ns is.rest → IsPerformedSo w is.event ns bytes is.rest
      by [] each text =
          let ends = ends_alone is.event is.takes bytes is.rest is.is_event text is.whole in
          let run = word_run (event_word P is.event) bytes is.rest (event_word_is_word P is.event is.takes names is.is_event) (ends_word is.rest ends) text in
          record {
            mid = is.rest;
            word = run.0;
            is = run.1;
            there = λ at. when_false (front is.rest == 40) (then_read (read_fixed (codes "(")) (λ _ _. read_terms P table w) is.rest at) (Found (with [] w) at is.rest) (with [] w) is.rest (not_applied is.rest ends) record { place = at; is = refl };
          }
      by (n ∷ ns) each text =
          let inner = terms_text number_text P (n ∷ ns) (41 ∷ is.rest) in
          let run = word_run (event_word P is.event) bytes (40 ∷ inner) (event_word_is_word P is.event is.takes names is.is_event) refl text in
          record { mid = 40 ∷ inner; word = run.0; is = run.1; there = λ at. over_found w n ns is.rest each at }

  performed_judged : (called : CalledEvent) (x : Behind (List Term)) → called.arity ≢ length x.value → judge_performed (called, x) ≡ inl Arity
  unfolding judge_performed judge_fits
  performed_judged called x other = ap (judge_fits (called, x)) (other_byte (length x.value) called.arity (λ same. other (sym same)))

  judged_performed : (x : CalledEvent × Behind (List Term)) (code : Code) → judge_performed x ≡ inl code → (x.0.arity ≢ length x.1.value) × (code ≡ Arity)
  unfolding judge_performed judge_fits
  judged_performed x code e = by (length x.1.value == x.0.arity) refl e
    where
      by : (t : Bool) → (length x.1.value == x.0.arity) ≡ t → judge_fits x t ≡ inl code → (x.0.arity ≢ length x.1.value) × (code ≡ Arity)
      by true same told = absurd (cc)
      by false other told = let codes : Arity ≡ code = cc in (λ same. let never : true ≡ false = sym (same_byte (length x.1.value)) ∙ (ap (λ n. length x.1.value == n) (sym same) ∙ other) in cc, sym codes)

  judged_keeps : (x : CalledEvent × Behind (List Term)) (y : Behind Performed) → judge_performed x ≡ inr y → y.walked ≡ x.1.walked
  unfolding judge_performed judge_fits
  judged_keeps x y e = by (length x.1.value == x.0.arity) e
    where
      by : (t : Bool) → judge_fits x t ≡ inr y → y.walked ≡ x.1.walked
      by true told = let same : performed_as x.0 x.1 ≡ y = cc in ap (λ z. z.walked) (sym same)
      by false told = absurd (cc)

  abbrev parts_of : KindIn Walked
  parts_of = performances P table

  parts_forms : FormsIn parts_of (EndsAt event_goes_on)
  parts_forms = both_forms-in (kept (plain.marked words (WordFault P))) (applications P table) (EndsAt is_in_word) (EndsAt event_goes_on) (kept_forms (plain.marked words (WordFault P)) (EndsAt is_in_word) (word_tells P names).forms) applied_forms may_follow

  parts_tell : (w : Walked) → TellsIn parts_of w Anything (EndsAt event_goes_on) walked_behind (with_arguments w)
  parts_tell w =
      let K = plain.marked words (WordFault P) in
      both_tell-in (kept K) (applications P table) w Anything (EndsAt is_in_word) (EndsAt is_in_word) (EndsAt event_goes_on) (λ (called : CalledEvent). w) walked_behind (word_read P) (λ at called. mapped (λ x. (called, x)) (read_applied P table w))
      (kept_tells K w Anything (EndsAt is_in_word) (λ (called : CalledEvent). w) (word_read P) (word_tells P names) (λ bytes at place x rest e. refl))
      (λ at called. mapped_tells-in (applications P table) w (EndsAt is_in_word) (EndsAt event_goes_on) walked_of walked_behind (read_applied P table w) (λ x. (called, x)) (λ x. refl) (applied_tells w))
      (kept_forms K (EndsAt is_in_word) (word_tells P names).forms) applied_forms may_follow (λ bs mid of text. text.ends)

  event_judges : (w : Walked) → Judges (in_state parts_of w) Anything (with_arguments w) judge_performed (EventFault P table w)
  event_judges w = record {
    text_long = λ bytes rest text. omega (arith, run_long begins_word is_in_word bytes text.0 text.1, shorter (in_state (applications P table) w) (EndsAt event_goes_on) text.0 rest ((applied_forms.each w).moved text.0 rest text.2));
    judged_so = λ code bytes at of here. so code bytes at here;
    is_here = λ code bytes at place x rest of e so. there code bytes at place x rest e (judged_performed x code so);
    past = λ code bytes here. past_it code bytes here;
    other = λ bytes here. here;
    never = λ x code so e. let codes = (judged_performed x code so).1 in let never : Arity ≡ Syntax = sym codes ∙ e in cc;
  }
    where
      so : (code : Code) (bytes : List ℕ) (at : ℕ) → EventFault P table w code bytes → IsJudged judge_performed (with_arguments w bytes at) code
      so Arity bytes at here =
          let is = performed_so w bytes here in
          let called : CalledEvent = record { number = here.event; arity = here.takes } in
          let x = with (map (term_at table) here.numbers) (past_all table w here.numbers) in
          let found = is.there (at + length is.word.run) in
          let named : event_called P is.word.run ≡ Some called = ap (event_called P) is.is ∙ event_word_called P names here.event here.takes here.is_event in
          record {
            value = (called, x);
            place = found.place;
            rest = here.rest;
            is = ap (λ o. next o (λ c q r. next (read_applied P table w r q) (λ ts y s. Found (c, ts) y s))) (word_is_read P bytes is.mid at called is.word named) ∙ ap (λ o. next o (λ ts y s. Found (called, ts) y s)) found.is;
            so = performed_judged called x (λ same. here.wrong (same ∙ length-map here.numbers (term_at table)));
          }
      so Syntax bytes at here = absurd here
      so Number bytes at here = absurd here
      so Symbol bytes at here = absurd here
      so Count bytes at here = absurd here
      so NodeOrder bytes at here = absurd here
      so NodeLarge bytes at here = absurd here

      there : (code : Code) (bytes : List ℕ) (at place : ℕ) (x : CalledEvent × Behind (List Term)) (rest : List ℕ) → with_arguments w bytes at ≡ Found x place rest → (x.0.arity ≢ length x.1.value) × (code ≡ Arity) → EventFault P table w code bytes
      there code bytes at place x rest e (other, codes) =
          let cut = parts (word_read P bytes at) (λ c q r. next (read_applied P table w r q) (λ ts y s. Found (c, ts) y s)) x place rest e in
          let behind_it = parts (read_applied P table w cut.rest cut.place) (λ ts y s. Found (cut.value, ts) y s) x place rest cut.later in
          let same : (cut.value, behind_it.value) ≡ x = cc in
          let word = word_was_read P bytes at cut.place cut.value cut.rest cut.first in
          let named = event_called_is P word.run.run cut.value word.is in
          let read = applied_there P table w word.run.run cut.rest cut.place behind_it.value behind_it.place behind_it.rest behind_it.first in
          let many : length behind_it.value.value ≡ length read.numbers = ap length read.value ∙ length-map read.numbers (term_at table) in
          let differs : cut.value.arity ≢ length read.numbers = λ is. other (ap (λ y. y.0.arity) (sym same) ∙ (is ∙ (sym many ∙ ap (λ y. length y.1.value) same))) in
          let found = (applied_tells w).tells.found cut.rest cut.place behind_it.place behind_it.value behind_it.rest word.run.ends behind_it.first in
          subst (λ c. EventFault P table w c bytes) (sym codes) record {
            event = cut.value.number;
            takes = cut.value.arity;
            numbers = read.numbers;
            rest = behind_it.rest;
            is_event = named.is_of;
            each = numbers_go table false w read.numbers read.short read.through.own read.through.order read.through.small read.through.together;
            wrong = differs;
            text = word.run.text ∙ read.text P.events cut.value.number named.has_word;
            whole = (cut.rest, word.run, found);
          }

      past_it : (code : Code) (bytes : List ℕ) → EventFault P table w code bytes → GoesPastIt (in_state parts_of w) bytes bytes
      past_it Arity bytes here =
          let is = performed_so w bytes here in
          let K = plain.marked words (WordFault P) in
          let L = in_state (applications P table) w in
          let past = run_past begins_word is_in_word word_tests bytes is.mid is.word in
          let first = (word_tells P names).forms in
          record {
            before = past.before;
            text = past.text;
            first = past.first;
            later = past.later;
            begins = past.begins;
            extends = extends_to (plain.behind K L) (in_state parts_of w) (past.before ++ past.first ∷ []) (λ bs r t. t)
                (first_extends K L (EndsAt is_in_word) (EndsAt event_goes_on) (past.before ++ past.first ∷ []) first.moved may_follow (applied_forms.each w).some
                (extends_to words K (past.before ++ past.first ∷ []) (λ bs r t. t) past.extends));
          }
      past_it Syntax bytes here = absurd here
      past_it Number bytes here = absurd here
      past_it Symbol bytes here = absurd here
      past_it Count bytes here = absurd here
      past_it NodeOrder bytes here = absurd here
      past_it NodeLarge bytes here = absurd here

  pub events_forms : FormsIn (events P table) (EndsAt event_goes_on)
  events_forms = marked_forms-in parts_of (EndsAt event_goes_on) (EventFault P table) parts_forms (λ w code bytes here. (event_judges w).past code bytes here) (λ w bytes here. here)

  pub events_tell : (w : Walked) → TellsIn (events P table) w Anything (EndsAt event_goes_on) walked_of (read_event P table w)
  events_tell w =
      same_tells-in (events P table) w Anything (EndsAt event_goes_on) walked_of (read_event P table w) (checked judge_performed (with_arguments w)) (event_as w)
      (marked_tells-in parts_of w Anything (EndsAt event_goes_on) walked_behind walked_of (with_arguments w) judge_performed (EventFault P table) parts_forms (parts_tell w) (event_judges w) judged_keeps)
