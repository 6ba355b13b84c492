-- Events: a reader of them tells their first fault.
use Rattle.std.proofs.Common.{◌≡◌, ◌≢◌, ℕ, ◌+◌, ◌==◌, ◌⊎◌, inl, inr, if◌then◌else◌, Bool, true, false, List, [], ◌∷◌, ◌++◌, length, take, drop, Option, Some, None, codes, refl, sym, ◌∙◌, ap, subst, arith}
use Rattle.std.specs.List.{AllByRecursion, prefix_len}
use Rattle.spec_trees.specs.Tree.{trees}
use Rattle.spec_trees.proofs.Occurrence.{or_false}
use Rattle.spec_calculus.proofs.Leaves.{or_false-both}
use Rattle.spec_calculus.specs.Syntax.{Protocol}
use Rattle.spec_protocol_tokens.specs.Bytes.{begins_word, is_in_word}
use Rattle.spec_protocol_tokens.proofs.Sizes.{begins_word-in_word}
use Rattle.spec_terms.specs.Term.{Term}
use Rattle.spec_certificate_text.specs.Spelled.{IsWord, goes_on}
use Rattle.spec_certificate_text.specs.Loose.{onto, row}
use Rattle.spec_certificate_text.specs.OfProtocol.{HasNames, IsEvent}
use Rattle.spec_certificate_text.specs.Words.{event_word}
use Rattle.spec_certificate_text.specs.Written.{written_row, written_event}
use Rattle.spec_certificate_text.proofs.Names.{event_word_is_word}
use Rattle.spec_certificate_text.specs.Names.{CalledEvent, event_called}
use Rattle.spec_certificate_text.specs.Terms.{Code, Syntax, Number, Symbol, Arity, Count, NodeOrder, NodeLarge}
use Rattle.spec_certificate_text.specs.Outcomes.{Outcome, Found, Faulty, next, front, ended, Reader, read_fixed, things}
use Rattle.spec_certificate_text.specs.Facts.{one_tree, item_before, read_terms, Performed, performed, event_named, read_event}
use Rattle.spec_certificate_text.specs.Readable.{MayStand}
use Rattle.spec_certificate_text.proofs.Parts.{Finds, parts, equal_byte, other_byte, same_byte, front_is, when_false}
use Rattle.spec_certificate_text.proofs.Called.{event_word_called, event_called_is}
use Rattle.spec_certificate_text.proofs.FactsThere.{terms_there}
use Rattle.spec_certificate_text.proofs.FactsFound.{terms_found}
use Rattle.spec_reading_faults.proofs.Shared.{choice_local, found_local}
use Rattle.spec_reading_faults.proofs.Facts.{row_local}
use Rattle.spec_certificate_faults.specs.Grammar.{EndsAt}
use Rattle.spec_certificate_faults.specs.First.{terms_in}
use Rattle.spec_first_faults.specs.Kinds.{fixed, IsRun, nothing_before, behind, marked, row_of}
use Rattle.spec_first_faults.specs.Facts.{arguments, words, WordFault, event_goes_on, EndsEvent, IsMisperformed, EventFault, applications, events}
use Rattle.spec_first_faults.proofs.Tells.{Anything, GoesPastIt, Tells, mapped, mapped_tells, same_tells, shorter, extends_to, tells_of, tells_before}
use Rattle.spec_first_faults.proofs.Behind.{first_extends, then_read, both_tell}
use Rattle.spec_first_faults.proofs.OneOf.{chosen, IsToldBy, one_of_tells, told_by_fixed}
use Rattle.spec_first_faults.proofs.Small.{AreTests, EndsWord, nothing_tells, run_read, run_is_read, run_kept, runs_tell, terms_tell}
use Rattle.spec_first_faults.proofs.Closed.{behind_fixed}
use Rattle.spec_first_faults.proofs.Marked.{judged, checked, IsJudged, Judges, marked_tells}
use Rattle.spec_first_faults.proofs.Numbers.{run_long, run_past}
use Rattle.spec_first_faults.proofs.Rows.{separated, found_one, next_same, row_tells}

-- Rows of terms.

item_as : (binds : Bool) (P : Protocol) (closing : ℕ) → (0 == closing) ≡ false → (bytes : List ℕ) (at : ℕ) → item_before closing (one_tree binds P) bytes at ≡ separated (one_tree binds P) 44 [] (closing ∷ []) bytes at
unfolding read_fixed
item_as binds P closing some bytes at = next_same (one_tree binds P bytes at) _ _ (λ t p k. by t p k)
  where
    by : (t : Term) (p : ℕ) (k : List ℕ)
        → (if front k == 44 then found_one t true (p + 1) (drop 1 k) else (if front k == closing then found_one t false (p + 1) (drop 1 k) else Faulty p Syntax))
        ≡ (if front k == 44 then next (read_fixed (44 ∷ []) k p) (λ _ q r. found_one t true q r) else next (read_fixed (closing ∷ []) k p) (λ _ q r. found_one t false q r))
    by t p [] = ap (λ z. if z then found_one t false (p + 1) [] else Faulty p Syntax) some
    by t p (b ∷ k) = both (b == 44) (b == closing)
      where
        both : (c z : Bool)
            → (if c then found_one t true (p + 1) k else (if z then found_one t false (p + 1) k else Faulty p Syntax))
            ≡ (if c then next {A = Unit {0}} {B = Term × Bool} (if c then Found tt (p + 1) k else Faulty p Syntax) (λ _ q r. found_one t true q r) else next {A = Unit {0}} {B = Term × Bool} (if z then Found tt (p + 1) k else Faulty p Syntax) (λ _ q r. found_one t false q r))
        both true z = refl
        both false true = refl
        both false false = refl

-- the byte that closes a row: some byte, but no comma, and no term goes on with it
pub record ClosesRow (closing : ℕ) : Type 0 where
  pub some : (0 == closing) ≡ false
  pub no_comma : (closing == 44) ≡ false
  pub ends : goes_on closing ≡ false

pub rows_tell : (binds : Bool) (P : Protocol) (closing : ℕ) → HasNames P → ClosesRow closing → Tells ⊥ (row_of (terms_in binds P) (codes ",") (closing ∷ [])) Anything Anything (things (item_before closing (one_tree binds P)))
rows_tell binds P closing names closes =
    row_tells (terms_in binds P) EndsWord 44 [] closing [] (one_tree binds P) (item_before closing (one_tree binds P)) (item_as binds P closing closes.some) (row_local binds P closing) (terms_tell binds P names)
    record { apart = closes.no_comma; comma = λ rest. refl; close = λ rest. closes.ends }

pub arguments_tell : (P : Protocol) → HasNames P → Tells ⊥ (arguments P) Anything Anything (read_terms P)
arguments_tell P names = rows_tell false P 41 names record { some = refl; no_comma = refl; ends = refl }

-- The word.

pub word_tests : AreTests begins_word is_in_word
word_tests = record { passing = begins_word-in_word; first = 97; is_first = refl; stop = 41; is_stop = refl }

unfoldable pub judge_found : Option CalledEvent → Code ⊎ CalledEvent
judge_found None = inl Symbol
judge_found (Some called) = inr called

unfoldable pub judge_word : Protocol → List ℕ → Code ⊎ CalledEvent
judge_word P w = judge_found (event_called P w)

unfoldable pub word_read : Protocol → Reader CalledEvent
word_read P = checked (judge_word P) (run_read begins_word is_in_word)

found_judged : (found : Option CalledEvent) (code : Code) → judge_found found ≡ inl code → (found ≡ None) × (code ≡ Symbol)
unfolding judge_found
found_judged None code e = let codes : Symbol ≡ code = cc in (refl, sym codes)
found_judged (Some called) code e = absurd (cc)

found_as : (found : Option CalledEvent) (called : CalledEvent) → judge_found found ≡ inr called → found ≡ Some called
unfolding judge_found
found_as None called e = absurd (cc)
found_as (Some other) called e = let same : other ≡ called = cc in ap (λ c. Some c) same

none_called : (P : Protocol) (w : List ℕ) → ((e n : ℕ) → IsEvent P e n → event_word P e ≢ w) → event_called P w ≡ None
none_called P w none = by (event_called P w) refl
  where
    by : (found : Option CalledEvent) → event_called P w ≡ found → event_called P w ≡ None
    by None is = is
    by (Some called) is = let named = event_called_is P w called is in absurd (none called.number called.arity named.is_of named.has_word)

word_judges : (P : Protocol) → HasNames P → Judges words Anything (run_read begins_word is_in_word) (judge_word P) (WordFault P)
unfolding judge_word judge_found
word_judges P names = record {
  text_long = λ bytes rest text. run_long begins_word is_in_word bytes rest text;
  judged_so = λ code bytes at of here. so code bytes at here;
  is_here = λ code bytes at place w rest of e so. there code bytes at place w rest e (found_judged (event_called P w) code so);
  past = λ code bytes here. past_it code bytes here;
  other = λ bytes here. here;
  never = λ w code so e. let codes = (found_judged (event_called P w) code so).1 in let never : Symbol ≡ Syntax = sym codes ∙ e in cc;
}
  where
    so : (code : Code) (bytes : List ℕ) (at : ℕ) → WordFault P code bytes → IsJudged (judge_word P) (run_read begins_word is_in_word bytes at) code
    so Symbol bytes at here = record {
      value = here.word.run;
      place = at + length here.word.run;
      rest = here.rest;
      is = run_is_read begins_word is_in_word bytes here.rest at here.word;
      so = ap judge_found (none_called P here.word.run here.none);
    }
    so Syntax bytes at here = absurd here
    so Number bytes at here = absurd here
    so Arity bytes at here = absurd here
    so Count bytes at here = absurd here
    so NodeOrder bytes at here = absurd here
    so NodeLarge bytes at here = absurd here

    there : (code : Code) (bytes : List ℕ) (at place : ℕ) (w rest : List ℕ) → run_read begins_word is_in_word bytes at ≡ Found w place rest → (event_called P w ≡ None) × (code ≡ Symbol) → WordFault P code bytes
    there code bytes at place w rest e (none, codes) =
        let kept = run_kept begins_word is_in_word word_tests bytes at place w rest e in
        subst (λ c. WordFault P c bytes) (sym codes) record {
          rest = rest;
          word = kept.0;
          none = λ e n is same.
              let some = event_word_called P names e n is in
              let never : None ≡ Some record { number = e; arity = n } = sym none ∙ (ap (event_called P) (kept.1 ∙ sym same) ∙ some) in
              cc;
        }

    past_it : (code : Code) (bytes : List ℕ) → WordFault P code bytes → GoesPastIt words bytes bytes
    past_it Symbol bytes here = run_past begins_word is_in_word word_tests bytes here.rest here.word
    past_it Syntax bytes here = absurd here
    past_it Number bytes here = absurd here
    past_it Arity bytes here = absurd here
    past_it Count bytes here = absurd here
    past_it NodeOrder bytes here = absurd here
    past_it NodeLarge bytes here = absurd here

pub word_tells : (P : Protocol) → HasNames P → Tells ⊥ (marked words (WordFault P)) Anything (EndsAt is_in_word) (word_read P)
unfolding word_read
word_tells P names = marked_tells words Anything (EndsAt is_in_word) (run_read begins_word is_in_word) (judge_word P) (WordFault P) (runs_tell begins_word is_in_word word_tests) (word_judges P names)

-- What stands behind it.

pub stands_alone : (bytes : List ℕ) → EndsAt is_in_word bytes → (front bytes == 40) ≡ false → EndsAt event_goes_on bytes
stands_alone [] ends other = absurd ends
stands_alone (b ∷ bytes) ends other = or_false-both (is_in_word b) (b == 40) ends other

pub not_applied : (bytes : List ℕ) → EndsAt event_goes_on bytes → (front bytes == 40) ≡ false
not_applied [] ends = refl
not_applied (b ∷ bytes) ends = (or_false (is_in_word b) (b == 40) ends).1

pub ends_word : (bytes : List ℕ) → EndsAt event_goes_on bytes → EndsAt is_in_word bytes
ends_word [] ends = absurd ends
ends_word (b ∷ bytes) ends = (or_false (is_in_word b) (b == 40) ends).0

may_follow : (P : Protocol) (bytes rest : List ℕ) → (applications P).Text bytes rest → EndsAt is_in_word bytes
may_follow P bytes rest (inl (mid, text, more)) = subst (EndsAt is_in_word) (sym text) refl
may_follow P bytes rest (inr (same, ends)) = subst (EndsAt is_in_word) (sym same) (ends_word rest ends)

abbrev applied : Protocol → Reader (List Term)
applied P = chosen (λ bs. front bs == 40) (then_read (read_fixed (codes "(")) (λ _ _. read_terms P)) (λ bytes at. Found [] at bytes)

applied_tells : (P : Protocol) → HasNames P → Tells ⊥ (applications P) (EndsAt is_in_word) (EndsAt event_goes_on) (applied P)
applied_tells P names =
    let test = λ (bs : List ℕ). front bs == 40 in
    let over = then_read (read_fixed (codes "(")) (λ _ _. read_terms P) in
    let over_tells = behind_fixed (codes "(") (arguments P) Anything (λ _ _. read_terms P) (λ at u. arguments_tell P names) in
    let alone_tells = nothing_tells {A = List Term} (EndsAt event_goes_on) (41 ∷ []) refl [] in
    let K = behind (fixed (codes "(")) (arguments P) in
    let L = nothing_before (EndsAt event_goes_on) in
    one_of_tells K L (EndsAt is_in_word) (EndsAt event_goes_on) test over (λ bytes at. Found [] at bytes)
    (tells_before K (λ bs. EndsAt is_in_word bs × (test bs ≡ true)) Anything (EndsAt event_goes_on) over (41 ∷ []) (λ other is. tt) refl (tells_of K Anything (λ bs. EndsAt is_in_word bs × (test bs ≡ true)) Anything over (λ bs of. tt) over_tells))
    (tells_of L (EndsAt event_goes_on) (λ bs. EndsAt is_in_word bs × (test bs ≡ false)) (EndsAt event_goes_on) (λ bytes at. Found [] at bytes) (λ bs of. stands_alone bs of.0 of.1) alone_tells)
    (told_by_fixed (codes "(") (arguments P) test true (λ rest. refl)) (alone P)
    (choice_local (λ b. b == 40) over (λ bytes at. Found [] at bytes) over_tells.local (found_local []))
  where
    alone : (P : Protocol) → IsToldBy (nothing_before (EndsAt event_goes_on)) (λ bs. front bs == 40) false
    alone P = record { texts = λ bytes rest text. ap (λ bs. front bs == 40) text.0 ∙ not_applied rest text.1; faults = λ code bytes there fault. absurd fault }

-- The whole.

abbrev with_arguments : Protocol → Reader (CalledEvent × List Term)
with_arguments P = then_read (word_read P) (λ at called. mapped (λ ts. (called, ts)) (applied P))

abbrev performed_as : CalledEvent → List Term → Performed
performed_as called ts = record { event = called.number; arguments = ts }

judge_performed : CalledEvent × List Term → Code ⊎ Performed
judge_performed x = if length x.1 == x.0.arity then inr (performed_as x.0 x.1) else inl Arity

applied_as : (P : Protocol) (called : CalledEvent) (from place b : ℕ) (rest : List ℕ)
    → event_named P (Some called) from place (b ∷ rest) ≡ next (next (applied P (b ∷ rest) place) (λ ts q r. Found (called, ts) q r)) (λ x q r. judged (judge_performed x) from q r)
unfolding read_fixed judge_performed
applied_as P called from place b rest = by (b == 40)
  where
    fits : (ts : List Term) (q : ℕ) (r : List ℕ) → performed from called ts q r ≡ judged (judge_performed (called, ts)) from q r
    fits ts q r = so (length ts == called.arity)
      where
        so : (t : Bool) → (if t then Found (performed_as called ts) q r else Faulty from Arity) ≡ judged (if t then inr (performed_as called ts) else inl Arity) from q r
        so true = refl
        so false = refl

    over : (o : Outcome (List Term)) → next o (λ ts q r. performed from called ts q r) ≡ next (next o (λ ts q r. Found (called, ts) q r)) (λ x q r. judged (judge_performed x) from q r)
    over (Faulty p c) = refl
    over (Found ts q r) = fits ts q r

    by : (t : Bool) → (if t then next (read_terms P rest (place + 1)) (λ ts q r. performed from called ts q r) else performed from called [] place (b ∷ rest))
        ≡ next (next (if t then next {A = Unit {0}} {B = List Term} (if t then Found tt (place + 1) rest else Faulty place Syntax) (λ _ q r. read_terms P r q) else Found [] place (b ∷ rest)) (λ ts q r. Found (called, ts) q r)) (λ x q r. judged (judge_performed x) from q r)
    by true = over (read_terms P rest (place + 1))
    by false = fits [] place (b ∷ rest)

word_as : (P : Protocol) (w : List ℕ) (from place : ℕ) (rest : List ℕ)
    → ended place rest (event_named P (event_called P w) from place rest)
    ≡ next (next (next (ended place rest (Found w place rest)) (λ v q r. judged (judge_word P v) from q r)) (λ called q r. next (applied P r q) (λ ts y s. Found (called, ts) y s))) (λ x q r. judged (judge_performed x) from q r)
unfolding judge_word judge_found
word_as P w from place [] = refl
word_as P w from place (b ∷ rest) = by (event_called P w)
  where
    by : (found : Option CalledEvent) → event_named P found from place (b ∷ rest) ≡ next (next (judged (judge_found found) from place (b ∷ rest)) (λ called q r. next (applied P r q) (λ ts y s. Found (called, ts) y s))) (λ x q r. judged (judge_performed x) from q r)
    by None = refl
    by (Some called) = applied_as P called from place b rest

event_as : (P : Protocol) (bytes : List ℕ) (at : ℕ) → read_event P bytes at ≡ checked judge_performed (with_arguments P) bytes at
unfolding word_read
event_as P bytes at = by (begins_word (front bytes))
  where
    by : (t : Bool) → (if t then ended (at + prefix_len is_in_word bytes) (drop (prefix_len is_in_word bytes) bytes) (event_named P (event_called P (take (prefix_len is_in_word bytes) bytes)) at (at + prefix_len is_in_word bytes) (drop (prefix_len is_in_word bytes) bytes)) else Faulty at Syntax)
        ≡ next (next (next (if t then ended (at + prefix_len is_in_word bytes) (drop (prefix_len is_in_word bytes) bytes) (Found (take (prefix_len is_in_word bytes) bytes) (at + prefix_len is_in_word bytes) (drop (prefix_len is_in_word bytes) bytes)) else Faulty at Syntax)
        (λ v q r. judged (judge_word P v) at q r)) (λ called q r. next (applied P r q) (λ ts y s. Found (called, ts) y s))) (λ x q r. judged (judge_performed x) at q r)
    by true = word_as P (take (prefix_len is_in_word bytes) bytes) at (at + prefix_len is_in_word bytes) (drop (prefix_len is_in_word bytes) bytes)
    by false = refl

-- an event with another number of arguments: its word, and what stands behind it, as they are read
record IsPerformedSo (P : Protocol) (event : ℕ) (ts : List Term) (bytes rest : List ℕ) : Type 0 where
  mid : List ℕ
  word : IsRun begins_word is_in_word bytes mid
  is : word.run ≡ event_word P event
  there : (at : ℕ) → Finds (applied P mid at) ts rest

pub word_run : (w bytes mid : List ℕ) → IsWord w → EndsAt is_in_word mid → bytes ≡ w ++ mid → (run : IsRun begins_word is_in_word bytes mid) × (run.run ≡ w)
word_run [] bytes mid is ends text = absurd (let never : false ≡ true = is.begins in cc)
word_run (b ∷ w) bytes mid is ends text = (record { run = b ∷ w; some = omega arith; begin = is.begins; all = is.goes_on; ends = ends; text = text }, refl)

performed_so : (P : Protocol) → HasNames P → (bytes : List ℕ) → (is : IsMisperformed P bytes) → IsPerformedSo P is.event is.arguments bytes is.rest
unfolding read_fixed
performed_so P names bytes is = by is.arguments is.each is.text is.ends
  where
    by : (ts : List Term) → AllByRecursion (MayStand P) ts → bytes ≡ onto (written_event P is.event ts) is.rest → EndsEvent ts is.rest → IsPerformedSo P is.event ts bytes is.rest
    by [] each text ends =
        let run = word_run (event_word P is.event) bytes is.rest (event_word_is_word P is.event is.takes names is.is_event) (ends_word is.rest ends) text in
        record {
          mid = is.rest;
          word = run.0;
          is = run.1;
          there = λ at. when_false (front is.rest == 40) (then_read (read_fixed (codes "(")) (λ _ _. read_terms P) is.rest at) (Found [] at is.rest) [] is.rest (not_applied is.rest ends) record { place = at; is = refl };
        }
    by (t ∷ ts) each text ends =
        let inner = row (written_row P (trees (t ∷ ts))) (41 ∷ is.rest) in
        let run = word_run (event_word P is.event) bytes (40 ∷ inner) (event_word_is_word P is.event is.takes names is.is_event) refl text in
        record { mid = 40 ∷ inner; word = run.0; is = run.1; there = λ at. let found = terms_found P names t ts is.rest (at + 1) each in record { place = found.place; is = found.is } }

performed_judged : (P : Protocol) (called : CalledEvent) (ts : List Term) → called.arity ≢ length ts → judge_performed (called, ts) ≡ inl Arity
unfolding judge_performed
performed_judged P called ts other = ap (λ t. if t then inr (performed_as called ts) else inl Arity) (other_byte (length ts) called.arity (λ same. other (sym same)))

judged_performed : (x : CalledEvent × List Term) (code : Code) → judge_performed x ≡ inl code → (x.0.arity ≢ length x.1) × (code ≡ Arity)
unfolding judge_performed
judged_performed x code e = by (length x.1 == x.0.arity) refl e
  where
    by : (t : Bool) → (length x.1 == x.0.arity) ≡ t → (if t then inr (performed_as x.0 x.1) else inl Arity) ≡ inl code → (x.0.arity ≢ length x.1) × (code ≡ Arity)
    by true same told = absurd (cc)
    by false other told = let codes : Arity ≡ code = cc in (λ same. let never : true ≡ false = sym (same_byte (length x.1)) ∙ (ap (λ n. length x.1 == n) (sym same) ∙ other) in cc, sym codes)

pub word_is_read : (P : Protocol) (bytes mid : List ℕ) (at : ℕ) (called : CalledEvent) → (run : IsRun begins_word is_in_word bytes mid) → event_called P run.run ≡ Some called → word_read P bytes at ≡ Found called (at + length run.run) mid
unfolding word_read judge_word judge_found
word_is_read P bytes mid at called run is =
    ap (λ o. next o (λ v q r. judged (judge_word P v) at q r)) (run_is_read begins_word is_in_word bytes mid at run) ∙ ap (λ found. judged (judge_found found) at (at + length run.run) mid) is

-- what was read of the word
pub record WordRead (P : Protocol) (bytes : List ℕ) (called : CalledEvent) (rest : List ℕ) : Type 0 where
  pub run : IsRun begins_word is_in_word bytes rest
  pub is : event_called P run.run ≡ Some called

pub word_was_read : (P : Protocol) (bytes : List ℕ) (at place : ℕ) (called : CalledEvent) (rest : List ℕ) → word_read P bytes at ≡ Found called place rest → WordRead P bytes called rest
unfolding word_read judge_word
word_was_read P bytes at place called rest e =
    let cut = parts (run_read begins_word is_in_word bytes at) (λ v q r. judged (judge_word P v) at q r) called place rest e in
    by cut.value cut.place cut.rest cut.first (judge_found (event_called P cut.value)) refl cut.later
  where
    by : (w : List ℕ) (p : ℕ) (k : List ℕ) → run_read begins_word is_in_word bytes at ≡ Found w p k → (j : Code ⊎ CalledEvent) → judge_found (event_called P w) ≡ j → judged j at p k ≡ Found called place rest → WordRead P bytes called rest
    by w p k read (inl code) so told = absurd (cc)
    by w p k read (inr other) so told =
        let same : other ≡ called = cc in
        let rests : k ≡ rest = cc in
        let kept = run_kept begins_word is_in_word word_tests bytes at p w k read in
        subst (WordRead P bytes called) rests record { run = kept.0; is = ap (event_called P) (sym kept.1) ∙ found_as (event_called P w) called (so ∙ ap (λ c. inr c) same) }

-- the arguments that were read behind a word, and what they are
record ArgumentsRead (P : Protocol) (word : List ℕ) (ts : List Term) (bytes mid rest : List ℕ) : Type 0 where
  each : AllByRecursion (MayStand P) ts
  text : (event : ℕ) → event_word P event ≡ word → bytes ≡ word ++ mid → bytes ≡ onto (written_event P event ts) rest
  ends : EndsEvent ts rest

arguments_were_read : (P : Protocol) (word bytes mid : List ℕ) (at place : ℕ) (ts : List Term) (rest : List ℕ) → EndsAt is_in_word mid → applied P mid at ≡ Found ts place rest → ArgumentsRead P word ts bytes mid rest
unfolding read_fixed
arguments_were_read P word bytes mid at place ts rest ends e = by (front mid == 40) refl e
  where
    over : mid ≡ 40 ∷ drop 1 mid → read_terms P (drop 1 mid) (at + 1) ≡ Found ts place rest → ArgumentsRead P word ts bytes mid rest
    over opens read =
        let there = terms_there P (drop 1 mid) (at + 1) ts place rest read in
        subst (λ us. ArgumentsRead P word us bytes mid rest) (sym there.is) record {
          each = there.each;
          text = λ event is text. text ∙ (ap (λ k. word ++ k) opens ∙ (ap (λ k. word ++ 40 ∷ k) there.text ∙ ap (λ w. w ++ 40 ∷ row (written_row P (trees (there.first ∷ there.others))) (41 ∷ rest)) (sym is)));
          ends = tt;
        }

    opened : (k : List ℕ) → k ≡ 40 ∷ drop 1 k → then_read (read_fixed (codes "(")) (λ _ _. read_terms P) k at ≡ read_terms P (drop 1 k) (at + 1)
    opened k is = ap (λ bs. then_read (read_fixed (codes "(")) (λ _ _. read_terms P) bs at) is

    by : (t : Bool) → (front mid == 40) ≡ t → (if t then then_read (read_fixed (codes "(")) (λ _ _. read_terms P) mid at else Found [] at mid) ≡ Found ts place rest → ArgumentsRead P word ts bytes mid rest
    by true is told =
        let opens : mid ≡ 40 ∷ drop 1 mid = front_is mid 40 (equal_byte (front mid) 40 is) (λ never. absurd (cc)) in
        over opens (sym (opened mid opens) ∙ told)
    by false other told =
        let none : [] ≡ ts = cc in
        let rests : mid ≡ rest = cc in
        subst (λ us. ArgumentsRead P word us bytes mid rest) none (subst (ArgumentsRead P word [] bytes mid) rests record {
          each = tt;
          text = λ event is text. text ∙ ap (λ w. w ++ mid) (sym is);
          ends = stands_alone mid ends other;
        })

event_judges : (P : Protocol) → HasNames P → Judges (behind (marked words (WordFault P)) (applications P)) Anything (with_arguments P) judge_performed (EventFault P)
event_judges P names = record {
  text_long = λ bytes rest text. let forms = (applied_tells P names).forms in omega (arith, run_long begins_word is_in_word bytes text.0 text.1, shorter (applications P) (EndsAt event_goes_on) text.0 rest (forms.moved text.0 rest text.2));
  judged_so = λ code bytes at of here. so code bytes at here;
  is_here = λ code bytes at place x rest of e so. there code bytes at place x rest e (judged_performed x code so);
  past = λ code bytes here. past_it code bytes here;
  other = λ bytes here. here;
  never = λ x code so e. let codes = (judged_performed x code so).1 in let never : Arity ≡ Syntax = sym codes ∙ e in cc;
}
  where
    so : (code : Code) (bytes : List ℕ) (at : ℕ) → EventFault P code bytes → IsJudged judge_performed (with_arguments P bytes at) code
    so Arity bytes at here =
        let is = performed_so P names bytes here in
        let called : CalledEvent = record { number = here.event; arity = here.takes } in
        let found = is.there (at + length is.word.run) in
        let named : event_called P is.word.run ≡ Some called = ap (event_called P) is.is ∙ event_word_called P names here.event here.takes here.is_event in
        record {
          value = (called, here.arguments);
          place = found.place;
          rest = here.rest;
          is = ap (λ o. next o (λ c q r. next (applied P r q) (λ ts y s. Found (c, ts) y s))) (word_is_read P bytes is.mid at called is.word named) ∙ ap (λ o. next o (λ ts y s. Found (called, ts) y s)) found.is;
          so = performed_judged P called here.arguments here.wrong;
        }
    so Syntax bytes at here = absurd here
    so Number bytes at here = absurd here
    so Symbol bytes at here = absurd here
    so Count bytes at here = absurd here
    so NodeOrder bytes at here = absurd here
    so NodeLarge bytes at here = absurd here

    there : (code : Code) (bytes : List ℕ) (at place : ℕ) (x : CalledEvent × List Term) (rest : List ℕ) → with_arguments P bytes at ≡ Found x place rest → (x.0.arity ≢ length x.1) × (code ≡ Arity) → EventFault P code bytes
    there code bytes at place x rest e (other, codes) =
        let cut = parts (word_read P bytes at) (λ c q r. next (applied P r q) (λ ts y s. Found (c, ts) y s)) x place rest e in
        let behind_it = parts (applied P cut.rest cut.place) (λ ts y s. Found (cut.value, ts) y s) x place rest cut.later in
        let same : (cut.value, behind_it.value) ≡ x = cc in
        let rests : behind_it.rest ≡ rest = cc in
        let word = word_was_read P bytes at cut.place cut.value cut.rest cut.first in
        let named = event_called_is P word.run.run cut.value word.is in
        let read = arguments_were_read P word.run.run bytes cut.rest cut.place behind_it.place behind_it.value behind_it.rest word.run.ends behind_it.first in
        let differs : cut.value.arity ≢ length behind_it.value = λ is. other (ap (λ y. y.0.arity) (sym same) ∙ (is ∙ ap (λ y. length y.1) same)) in
        subst (λ c. EventFault P c bytes) (sym codes) record {
          event = cut.value.number;
          takes = cut.value.arity;
          arguments = behind_it.value;
          rest = behind_it.rest;
          is_event = named.is_of;
          each = read.each;
          wrong = differs;
          text = read.text cut.value.number named.has_word word.run.text;
          ends = read.ends;
        }

    past_it : (code : Code) (bytes : List ℕ) → EventFault P code bytes → GoesPastIt (behind (marked words (WordFault P)) (applications P)) bytes bytes
    past_it Arity bytes here =
        let is = performed_so P names bytes here in
        let past = run_past begins_word is_in_word word_tests bytes is.mid is.word in
        let first = (word_tells P names).forms in
        let second = (applied_tells P names).forms in
        record {
          before = past.before;
          text = past.text;
          first = past.first;
          later = past.later;
          begins = past.begins;
          extends = first_extends (marked words (WordFault P)) (applications P) (EndsAt is_in_word) (EndsAt event_goes_on) (past.before ++ past.first ∷ []) first.moved (may_follow P) second.some
              (extends_to words (marked words (WordFault P)) (past.before ++ past.first ∷ []) (λ bs r t. t) past.extends);
        }
    past_it Syntax bytes here = absurd here
    past_it Number bytes here = absurd here
    past_it Symbol bytes here = absurd here
    past_it Count bytes here = absurd here
    past_it NodeOrder bytes here = absurd here
    past_it NodeLarge bytes here = absurd here

pub events_tell : (P : Protocol) → HasNames P → Tells ⊥ (events P) Anything (EndsAt event_goes_on) (read_event P)
events_tell P names =
    let K = marked words (WordFault P) in
    let L = applications P in
    same_tells (events P) Anything (EndsAt event_goes_on) (read_event P) (checked judge_performed (with_arguments P)) (event_as P)
    (marked_tells (behind K L) Anything (EndsAt event_goes_on) (with_arguments P) judge_performed (EventFault P)
    (both_tell K L Anything (EndsAt is_in_word) (EndsAt is_in_word) (EndsAt event_goes_on) (word_read P) (λ at called. mapped (λ ts. (called, ts)) (applied P)) (word_tells P names)
    (λ at called. mapped_tells L (EndsAt is_in_word) (EndsAt event_goes_on) (applied P) (λ ts. (called, ts)) (applied_tells P names))
    (applied_tells P names).forms (may_follow P) (λ bs mid of text. text.ends))
    (event_judges P names))
