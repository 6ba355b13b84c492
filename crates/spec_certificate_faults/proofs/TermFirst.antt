-- What is told of a term is its first fault.
use Rattle.std.proofs.Common.{◌≡◌, ◌≢◌, ℕ, zero, suc, ◌+◌, ◌≤◌, ◌⊎◌, inl, inr, Bool, true, false, List, [], ◌∷◌, ◌++◌, length, Option, Some, None, ◌==◌, ◌||◌, refl, sym, ◌∙◌, ap, subst, arith, append_assoc, length-append}
use Rattle.std.proofs.lemmas.List.{append-nil}
use Rattle.std.specs.Char.{is_ascii_digit}
use Rattle.spec_trees.specs.Tree.{Leaf, Node}
use Rattle.spec_protocol_tokens.specs.Bytes.{is_in_word}
use Rattle.spec_calculus.specs.Syntax.{Protocol}
use Rattle.spec_terms.specs.Term.{Term}
use Rattle.spec_run_text.specs.Reading.{numeral}
use Rattle.spec_certificate_text.specs.Loose.{Loose, onto}
use Rattle.spec_certificate_text.specs.Spelled.{IsWord, IsBoundWord, goes_on}
use Rattle.spec_certificate_text.specs.Sides.{first_bound}
use Rattle.spec_certificate_text.specs.Written.{written}
use Rattle.spec_certificate_text.specs.OfProtocol.{HasNames}
use Rattle.spec_certificate_text.specs.Terms.{Code, Syntax, Number, Symbol, Arity, Count, NodeOrder, NodeLarge, Begins, InWord, InDigits, InBound, Ended, Reading, Step, Goes, Ends, Fault}
use Rattle.spec_certificate_text.specs.Names.{Named, symbol_called}
use Rattle.spec_certificate_text.specs.Steps.{goes, after_term, apply, after_bound, bound_ended, step}
use Rattle.spec_certificate_text.specs.Runs.{Read, Done, Refused, followed, read_on, read_tree}
use Rattle.spec_certificate_text.proofs.Complete.{reading, taken, passed}
use Rattle.spec_certificate_text.proofs.ReadRuns.{none_at_end, read_tree-sound, read_on-place}
use Rattle.spec_certificate_text.proofs.Kept.{read_tree-kept}
use Rattle.spec_reading_faults.proofs.Shared.{shares_behind}
use Rattle.spec_reading_faults.proofs.Terms.{read_fault, read_passed}
use Rattle.spec_certificate_faults.specs.Grammar.{IsInGrammar, EndsAt, EndsBefore}
use Rattle.spec_certificate_faults.specs.TermFaults.{StandsInTerm}
use Rattle.spec_certificate_faults.specs.First.{Kind, NoneGoesOn, IsFault, StandsAt, code_number, NotAfter, IsFirstFault, IsTermText, terms_in}
use Rattle.spec_certificate_faults.proofs.Comes.{either, Through, Stopped, EndedAt, none_before, word_through}
use Rattle.spec_certificate_faults.proofs.Bound.{bound_through}
use Rattle.spec_certificate_faults.proofs.Trees.{tree_read}
use Rattle.spec_certificate_faults.proofs.Told.{IsTold}
use Rattle.spec_certificate_faults.proofs.AnyFault.{term_fault_told}
use Rattle.spec_certificate_faults.proofs.Standing.{written_in}
use Rattle.spec_certificate_faults.proofs.Explained.{Stands, term_told_stands}
use Rattle.spec_certificate_faults.proofs.Shown.{fault_shown}
use Rattle.spec_certificate_faults.proofs.GoesOn.{term_goes_on}

-- a text of the grammar is read as a term, or a fault is told that is none of syntax
text_no_syntax : (binds : Bool) (P : Protocol) (bytes rest : List ℕ) (at place : ℕ) → IsTermText bytes rest → read_tree binds P bytes at ≡ Refused place Syntax → ⊥
text_no_syntax binds P bytes rest at place is e =
    either (subst (λ bs. Stopped binds P bs at (reading [] Begins at) rest ⊎ EndedAt binds P bs at (reading [] Begins at) rest []) (sym is.text) (tree_read binds P is.tree is.is rest at [] at is.ends (none_before at)))
    (λ stopped. stopped.other (let same : Refused stopped.place stopped.code ≡ Refused place Syntax = sym stopped.is ∙ e in cc))
    (λ one.
    let ended : read_on binds P bytes at (reading [] Begins at) ≡ Done one.term one.through.place (is.next ∷ is.later) = one.through.is ∙ ap (λ bs. read_on binds P bs one.through.place (reading [] (Ended one.term) one.since)) is.more in
    let never : Done one.term one.through.place (is.next ∷ is.later) ≡ Refused place Syntax = sym ended ∙ e in
    cc)

syntax_stops : (binds : Bool) (P : Protocol) (before there : List ℕ) (at : ℕ) → read_tree binds P (before ++ there) at ≡ Refused (at + length before) Syntax → NoneGoesOn (terms_in binds P) before there
syntax_stops binds P before [] at e = λ rest is. text_no_syntax binds P before rest at (at + length before) is (ap (λ bs. read_tree binds P bs at) (sym (append-nil before)) ∙ e)
syntax_stops binds P before (b ∷ k) at e = λ other rest is.
    text_no_syntax binds P (before ++ b ∷ other) rest at (at + length before) is
    (read_fault binds P (length before) (before ++ b ∷ k) (before ++ b ∷ other) at (at + length before) (reading [] Begins at) (shares_behind before b k other) refl e)

-- a told fault stands there
syntax_stands : (binds : Bool) (P : Protocol) → HasNames P → (bytes : List ℕ) (at place : ℕ) → read_tree binds P bytes at ≡ Refused place Syntax → StandsAt (terms_in binds P) bytes at place Syntax
syntax_stands binds P names bytes at place e =
    let told = term_goes_on binds P names bytes at place e in
    let on = told.goes_on in
    let there : place ≡ at + length on.before = omega (arith, told.counted, ap length on.text, length-append on.before told.there) in
    record {
      there = told.there;
      is = record {
        before = on.before;
        text = on.text;
        other = on.other;
        rest = on.behind;
        goes_on = on.is;
        stops = syntax_stops binds P on.before told.there at (ap (λ bs. read_tree binds P bs at) (sym on.text) ∙ (e ∙ ap (λ p. Refused p Syntax) there));
      };
      counted = told.counted;
    }

fault_is : (binds : Bool) (P : Protocol) (code : Code) (bytes there : List ℕ) → StandsInTerm binds P code bytes there → IsFault (terms_in binds P) code bytes there
fault_is binds P Syntax bytes there stands = absurd stands.fault
fault_is binds P Number bytes there stands = stands
fault_is binds P Symbol bytes there stands = stands
fault_is binds P Arity bytes there stands = stands
fault_is binds P Count bytes there stands = stands
fault_is binds P NodeOrder bytes there stands = absurd stands.fault
fault_is binds P NodeLarge bytes there stands = absurd stands.fault

told_stands_at : (binds : Bool) (P : Protocol) → HasNames P → (bytes : List ℕ) (at place : ℕ) (code : Code) → read_tree binds P bytes at ≡ Refused place code → StandsAt (terms_in binds P) bytes at place code
told_stands_at binds P names bytes at place code e =
    either (term_told_stands binds P names bytes at place code e)
    (λ syntax. subst (StandsAt (terms_in binds P) bytes at place) (sym syntax) (syntax_stands binds P names bytes at place (e ∙ ap (Refused place) syntax)))
    (λ stands. record { there = stands.there; is = fault_is binds P code bytes stands.there stands.is; counted = stands.counted })

-- Bytes of which some text shares more than another can.

pub is_longer : (before longer there behind : List ℕ) → before ++ there ≡ longer ++ behind → length before + 1 ≤ length longer → (first : ℕ) × (between : List ℕ) × (longer ≡ before ++ first ∷ between) × (there ≡ first ∷ (between ++ behind))
is_longer [] [] there behind e long = absurd (omega (arith, long))
is_longer [] (c ∷ longer) there behind e long = (c, longer, refl, e)
is_longer (b ∷ before) [] there behind e long = absurd (omega (arith, long))
is_longer (b ∷ before) (c ∷ longer) there behind e long =
    let first : b ≡ c = cc in
    let later : before ++ there ≡ longer ++ behind = cc in
    let rest = is_longer before longer there behind later (omega (arith, long)) in
    (rest.0, rest.1, ap (λ bs. c ∷ bs) rest.2 ∙ ap (λ d. d ∷ (before ++ rest.0 ∷ rest.1)) (sym first), rest.3)

no_longer : (binds : Bool) (P : Protocol) (before there longer behind other rest : List ℕ) → before ++ there ≡ longer ++ behind → length before + 1 ≤ length longer → NoneGoesOn (terms_in binds P) before there → IsTermText (longer ++ other) rest → ⊥
no_longer binds P before there longer behind other rest e long stops is =
    let cut = is_longer before longer there behind e long in
    let none : (others end : List ℕ) → IsTermText (before ++ cut.0 ∷ others) end → ⊥ = subst (NoneGoesOn (terms_in binds P) before) cut.3 stops in
    none (cut.1 ++ other) rest (subst (λ bs. IsTermText bs rest) (ap (λ bs. bs ++ other) cut.2 ∙ append_assoc before (cut.0 ∷ cut.1) other) is)

-- A term that was read is a text of the grammar.

no_end : (binds : Bool) (P : Protocol) (w : List ℕ) (b place : ℕ) (at : ℕ) (t : Term) → goes_on b ≡ true → step binds P place (reading [] (InWord w) at) b ≡ Ends t → ⊥
no_end binds P w b place at t more e = by_letter (is_in_word b) refl
  where
    by_name : (found : Option Named) → apply [] at found ≡ Ends t → ⊥
    by_name None is = cc
    by_name (Some named) is = cc

    by_point : (is_in_word b) ≡ false → (b == 40) ≡ false → ⊥
    by_point letter opens =
        let point : (b == 64) ≡ true = sym (ap (λ c. c || (b == 40) || (b == 64)) letter ∙ ap (λ c. c || (b == 64)) opens) ∙ more in
        let never : goes [] (InDigits w []) at ≡ Ends t =
        sym (passed (is_in_word b) _ _ _ letter (passed (b == 40) (apply [] at (symbol_called P w)) _ _ opens (taken (b == 64) (goes [] (InDigits w []) at) _ _ point refl))) ∙ e in
        cc

    by_open : (is_in_word b) ≡ false → (opens : Bool) → (b == 40) ≡ opens → ⊥
    by_open letter true opens = by_name (symbol_called P w) (sym (passed (is_in_word b) _ _ _ letter (taken (b == 40) (apply [] at (symbol_called P w)) _ _ opens refl)) ∙ e)
    by_open letter false opens = by_point letter opens

    by_letter : (letter : Bool) → is_in_word b ≡ letter → ⊥
    by_letter true letter = let never : goes [] (InWord (w ++ b ∷ [])) at ≡ Ends t = sym (taken (is_in_word b) (goes [] (InWord (w ++ b ∷ [])) at) _ _ letter refl) ∙ e in cc
    by_letter false letter = by_open letter (b == 40) refl

done_some : (binds : Bool) (P : Protocol) (bytes : List ℕ) (at : ℕ) (r : Reading) (t : Term) (place : ℕ) (rest : List ℕ) → read_on binds P bytes at r ≡ Done t place rest → (next : ℕ) × (later : List ℕ) × (rest ≡ next ∷ later)
done_some binds P [] at r t place rest e = absurd (none_at_end at r.heads r.from r.mode t place rest e)
done_some binds P (b ∷ bytes) at r t place rest e = by (step binds P at r b) e (λ s. done_some binds P bytes (at + 1) s t place rest)
  where
    by : (s : Step) → followed (read_on binds P bytes (at + 1)) at (b ∷ bytes) s ≡ Done t place rest → ((s : Reading) → read_on binds P bytes (at + 1) s ≡ Done t place rest → (next : ℕ) × (later : List ℕ) × (rest ≡ next ∷ later)) → (next : ℕ) × (later : List ℕ) × (rest ≡ next ∷ later)
    by (Goes s) told later = later s told
    by (Ends u) told later = let rests : b ∷ bytes ≡ rest = cc in (b, bytes, sym rests)
    by (Fault p c) told later = absurd (cc)

-- nor the digits of a bound variable
no_bound_end : (binds : Bool) (P : Protocol) (ds : List ℕ) (b place at : ℕ) (t : Term) → goes_on b ≡ true → step binds P place (reading [] (InBound ds) at) b ≡ Ends t → ⊥
no_bound_end binds P ds b place at t more e = by_digit (is_ascii_digit b) refl
  where
    by_number : (digits : List ℕ) (number : Option ℕ) → after_bound place [] at digits number b ≡ Ends t → ⊥
    by_number digits None is = cc
    by_number digits (Some i) is =
        let never : Fault place Syntax ≡ Ends t = sym (taken (goes_on b) (Fault place Syntax) (after_term place (Leaf (first_bound + i)) [] at b) _ more refl) ∙ is in cc

    by_digits : (digits : List ℕ) → bound_ended place [] at digits b ≡ Ends t → ⊥
    by_digits [] is = cc
    by_digits (d ∷ others) is = by_number (d ∷ others) (numeral (d ∷ others)) is

    by_digit : (digit : Bool) → is_ascii_digit b ≡ digit → ⊥
    by_digit true digit =
        let never : goes [] (InBound (ds ++ b ∷ [])) at ≡ Ends t = sym (taken (is_ascii_digit b) (goes [] (InBound (ds ++ b ∷ [])) at) (bound_ended place [] at ds b) _ digit refl) ∙ e in cc
    by_digit false other = by_digits ds (sym (passed (is_ascii_digit b) (goes [] (InBound (ds ++ b ∷ [])) at) (bound_ended place [] at ds b) _ other refl) ∙ e)

-- where a term does not end before a byte, it ends later
done_later : (binds : Bool) (P : Protocol) (r : Reading) (b : ℕ) (k : List ℕ) (q : ℕ) (t : Term) (place : ℕ) → ((u : Term) → step binds P q r b ≡ Ends u → ⊥) → read_on binds P (b ∷ k) q r ≡ Done t place (b ∷ k) → q + 1 ≤ place
done_later binds P r b k q t place never e = by (step binds P q r b) refl e
  where
    by : (s : Step) → step binds P q r b ≡ s → followed (read_on binds P k (q + 1)) q (b ∷ k) s ≡ Done t place (b ∷ k) → q + 1 ≤ place
    by (Goes s) is told = let cut = read_passed binds P k (q + 1) place t (b ∷ k) s told in omega (arith, cut.there)
    by (Ends u) is told = absurd (never u is)
    by (Fault p c) is told = absurd (cc)

-- so a leaf ends only before a byte with which it could not go on
leaf_ended : (binds : Bool) (P : Protocol) (bytes : List ℕ) (b : ℕ) (k : List ℕ) (at place : ℕ) (t : Term) (rest : List ℕ) (r : Reading) → (goes_on b ≡ true → (q : ℕ) (u : Term) → step binds P q r b ≡ Ends u → ⊥) → read_tree binds P bytes at ≡ Done t place (b ∷ k)
    → Stopped binds P bytes at (reading [] Begins at) rest ⊎ Through binds P bytes at (reading [] Begins at) (b ∷ k) r → goes_on b ≡ false
leaf_ended binds P bytes b k at place t rest r never e read = by (goes_on b) refl
  where
    counted : place + length (b ∷ k) ≡ at + length bytes
    counted = read_on-place binds P bytes at (reading [] Begins at) t place (b ∷ k) e

    by : (more : Bool) → goes_on b ≡ more → goes_on b ≡ false
    by false ends = ends
    by true more =
        either read
        (λ stopped. absurd (let never_so : Refused stopped.place stopped.code ≡ Done t place (b ∷ k) = sym stopped.is ∙ e in cc))
        (λ one. absurd (let late = done_later binds P r b k one.place t place (λ u. never more one.place u) (sym one.is ∙ e) in omega (arith, late, counted, one.counted)))

word_ended : (binds : Bool) (P : Protocol) (w : List ℕ) (b : ℕ) (k : List ℕ) (at place : ℕ) (t : Term) → IsWord w ⊎ IsBoundWord w → read_tree binds P (w ++ b ∷ k) at ≡ Done t place (b ∷ k) → goes_on b ≡ false
word_ended binds P w b k at place t (inl word) e =
    leaf_ended binds P (w ++ b ∷ k) b k at place t (w ++ b ∷ k) (reading [] (InWord w) at) (λ more q u. no_end binds P w b q at u more) e (word_through binds P w (b ∷ k) at [] at word (none_before at))
word_ended binds P w b k at place t (inr bound) e =
    let ds = bound.digits in
    let same : w ++ b ∷ k ≡ 63 ∷ (ds ++ b ∷ k) = ap (λ u. u ++ b ∷ k) bound.is in
    leaf_ended binds P (63 ∷ (ds ++ b ∷ k)) b k at place t (ds ++ b ∷ k) (reading [] (InBound ds) at) (λ more q u. no_bound_end binds P ds b q at u more) (ap (λ bs. read_tree binds P bs at) (sym same) ∙ e)
    (bound_through binds P ds (b ∷ k) at [] at bound.all (none_before at))

ends_so : (binds : Bool) (P : Protocol) (tree : Loose) (bytes rest : List ℕ) (at place : ℕ) (t : Term) → IsInGrammar tree → (next : ℕ) (later : List ℕ) → rest ≡ next ∷ later → bytes ≡ onto tree rest → read_tree binds P bytes at ≡ Done t place rest → EndsBefore tree rest
ends_so binds P (Node h ts) bytes rest at place t is next later more text e = tt
ends_so binds P (Leaf w) bytes rest at place t is next later more text e =
    let whole : bytes ≡ w ++ next ∷ later = text ∙ ap (λ k. w ++ k) more in
    let done : read_tree binds P (w ++ next ∷ later) at ≡ Done t place (next ∷ later) = ap (λ bs. read_tree binds P bs at) (sym whole) ∙ (e ∙ ap (Done t place) more) in
    subst (EndsAt goes_on) (sym more) (word_ended binds P w next later at place t is done)

pub done_text : (binds : Bool) (P : Protocol) → HasNames P → (bytes : List ℕ) (at place : ℕ) (t : Term) (rest : List ℕ) → read_tree binds P bytes at ≡ Done t place rest → IsTermText bytes rest
done_text binds P names bytes at place t rest e =
    let text = read_tree-sound binds P bytes at t place rest e in
    let is = written_in binds P names t (read_tree-kept binds P bytes at t place rest e).0 in
    let some = done_some binds P bytes at (reading [] Begins at) t place rest e in
    record { tree = written P t; is = is; ends = ends_so binds P (written P t) bytes rest at place t is some.0 some.1 some.2 text e; next = some.0; later = some.1; more = some.2; text = text }

-- Where a fault of syntax stands, a fault is told that does not stand after it.

pub compare : (m n : ℕ) → (m + 1 ≤ n) ⊎ ((m ≡ n) ⊎ (n + 1 ≤ m))
compare zero zero = inr (inl refl)
compare zero (suc n) = inl (omega arith)
compare (suc m) zero = inr (inr (omega arith))
compare (suc m) (suc n) = either (compare m n) (λ less. inl (omega (arith, less))) (λ rest. either rest (λ same. inr (inl (ap suc same))) (λ more. inr (inr (omega (arith, more)))))

pub syntax_or : (c : Code) → (c ≡ Syntax) ⊎ (c ≢ Syntax)
syntax_or Syntax = inl refl
syntax_or Number = inr (λ e. cc)
syntax_or Symbol = inr (λ e. cc)
syntax_or Arity = inr (λ e. cc)
syntax_or Count = inr (λ e. cc)
syntax_or NodeOrder = inr (λ e. cc)
syntax_or NodeLarge = inr (λ e. cc)

no_done : (binds : Bool) (P : Protocol) (before there rest : List ℕ) → NoneGoesOn (terms_in binds P) before there → IsTermText (before ++ there) rest → ⊥
no_done binds P before [] rest stops is = stops rest (subst (λ bs. IsTermText bs rest) (append-nil before) is)
no_done binds P before (b ∷ k) rest stops is = stops k rest is

-- a fault of another code is told no later, since some text goes on with the byte there
other_early : (binds : Bool) (P : Protocol) → HasNames P → (before there : List ℕ) (at place : ℕ) (code : Code) → NoneGoesOn (terms_in binds P) before there → Stands binds P (before ++ there) (at + length (before ++ there)) place code → at + length before ≤ place → ⊥
other_early binds P names before there at place code stops stands late =
    let past = fault_shown binds P names code (before ++ there) stands.there stands.is in
    let longer = past.before ++ past.first ∷ [] in
    let text : before ++ there ≡ longer ++ past.later = past.text ∙ (ap (λ bs. past.before ++ bs) past.begins ∙ sym (append_assoc past.before (past.first ∷ []) past.later)) in
    let long : length before + 1 ≤ length longer = omega (arith, late, stands.counted, ap length past.text, length-append past.before stands.there, length-append past.before (past.first ∷ [])) in
    no_longer binds P before there longer past.later past.other past.rest text long stops (subst (λ bs. IsTermText bs past.rest) (sym (append_assoc past.before (past.first ∷ []) past.other)) past.is)

syntax_early : (binds : Bool) (P : Protocol) → HasNames P → (before there : List ℕ) (at place : ℕ) → NoneGoesOn (terms_in binds P) before there → read_tree binds P (before ++ there) at ≡ Refused place Syntax → at + length before + 1 ≤ place → ⊥
syntax_early binds P names before there at place stops e late =
    let told = term_goes_on binds P names (before ++ there) at place e in
    let on = told.goes_on in
    no_longer binds P before there on.before told.there on.other on.behind on.text (omega (arith, late, told.counted, ap length on.text, length-append on.before told.there)) stops on.is

syntax_is_told : (binds : Bool) (P : Protocol) → HasNames P → (before there : List ℕ) (at : ℕ) → NoneGoesOn (terms_in binds P) before there → IsTold binds P (before ++ there) at (reading [] Begins at) there Syntax
syntax_is_told binds P names before there at stops = by (read_tree binds P (before ++ there) at) refl
  where
    long : length (before ++ there) ≡ length before + length there
    long = length-append before there

    by_place : (place : ℕ) (code : Code) → read_tree binds P (before ++ there) at ≡ Refused place code → (place + 1 ≤ at + length before) ⊎ ((place ≡ at + length before) ⊎ (at + length before + 1 ≤ place)) → (code ≡ Syntax) ⊎ (code ≢ Syntax) → IsTold binds P (before ++ there) at (reading [] Begins at) there Syntax
    by_place place code e (inl less) kind = record { place = place; told = code; is = e; not_after = inl (omega (arith, less, long)) }
    by_place place code e (inr (inl same)) (inl syntax) = record { place = place; told = code; is = e; not_after = inr (omega (arith, same, long), omega (arith, ap code_number syntax)) }
    by_place place code e (inr (inr more)) (inl syntax) = absurd (syntax_early binds P names before there at place stops (e ∙ ap (Refused place) syntax) more)
    by_place place code e (inr late) (inr other) =
        absurd (either (term_told_stands binds P names (before ++ there) at place code e) other
        (λ stands. other_early binds P names before there at place code stops stands (either late (λ same. omega (arith, same)) (λ more. omega (arith, more)))))

    by : (o : Read) → read_tree binds P (before ++ there) at ≡ o → IsTold binds P (before ++ there) at (reading [] Begins at) there Syntax
    by (Done t place rest) e = absurd (no_done binds P before there rest stops (done_text binds P names (before ++ there) at place t rest e))
    by (Refused place code) e = by_place place code e (compare place (at + length before)) (syntax_or code)

-- All faults.

any_told : (binds : Bool) (P : Protocol) → HasNames P → (code : Code) (bytes there : List ℕ) (at : ℕ) → IsFault (terms_in binds P) code bytes there → IsTold binds P bytes at (reading [] Begins at) there code
any_told binds P names Syntax bytes there at is = subst (λ bs. IsTold binds P bs at (reading [] Begins at) there Syntax) (sym is.text) (syntax_is_told binds P names is.before there at is.stops)
any_told binds P names Number bytes there at is = term_fault_told binds P names bytes at there Number is
any_told binds P names Symbol bytes there at is = term_fault_told binds P names bytes at there Symbol is
any_told binds P names Arity bytes there at is = term_fault_told binds P names bytes at there Arity is
any_told binds P names Count bytes there at is = term_fault_told binds P names bytes at there Count is
any_told binds P names NodeOrder bytes there at is = absurd is.fault
any_told binds P names NodeLarge bytes there at is = absurd is.fault

-- the fault that is told does not stand after another
record TellsFirst (binds : Bool) (P : Protocol) (bytes : List ℕ) (at other : ℕ) (another : Code) : Type 0 where
  place : ℕ
  code : Code
  is : read_tree binds P bytes at ≡ Refused place code
  first : NotAfter place code other another

tells_first : (binds : Bool) (P : Protocol) → HasNames P → (bytes : List ℕ) (at other : ℕ) (another : Code) → StandsAt (terms_in binds P) bytes at other another → TellsFirst binds P bytes at other another
tells_first binds P names bytes at other another stands =
    let told = any_told binds P names another bytes stands.there at stands.is in
    record {
      place = told.place;
      code = told.told;
      is = told.is;
      first = either told.not_after (λ early. inl (omega (arith, early, stands.counted))) (λ same. inr (omega (arith, same.0, stands.counted), same.1));
    }

same_refusal : (p q : ℕ) (c d : Code) → Refused p c ≡ Refused q d → (p ≡ q) × (c ≡ d)
same_refusal p q c d e = (cc, cc)

pub told_is_first : (binds : Bool) (P : Protocol) → HasNames P → (bytes : List ℕ) (at place : ℕ) (code : Code) → read_tree binds P bytes at ≡ Refused place code → IsFirstFault (terms_in binds P) bytes at place code
told_is_first binds P names bytes at place code e = record {
  stands = told_stands_at binds P names bytes at place code e;
  first = λ other another stands.
      let told = tells_first binds P names bytes at other another stands in
      let same = same_refusal told.place place told.code code (sym told.is ∙ e) in
      subst (λ c. NotAfter place c other another) same.1 (subst (λ p. NotAfter p told.code other another) same.0 told.first);
}

number_tells : (c d : Code) → code_number c ≡ code_number d → c ≡ d
number_tells Syntax Syntax e = refl
number_tells Syntax Number e = absurd (omega (arith, e))
number_tells Syntax Symbol e = absurd (omega (arith, e))
number_tells Syntax Arity e = absurd (omega (arith, e))
number_tells Syntax Count e = absurd (omega (arith, e))
number_tells Syntax NodeOrder e = absurd (omega (arith, e))
number_tells Syntax NodeLarge e = absurd (omega (arith, e))
number_tells Number Syntax e = absurd (omega (arith, e))
number_tells Number Number e = refl
number_tells Number Symbol e = absurd (omega (arith, e))
number_tells Number Arity e = absurd (omega (arith, e))
number_tells Number Count e = absurd (omega (arith, e))
number_tells Number NodeOrder e = absurd (omega (arith, e))
number_tells Number NodeLarge e = absurd (omega (arith, e))
number_tells Symbol Syntax e = absurd (omega (arith, e))
number_tells Symbol Number e = absurd (omega (arith, e))
number_tells Symbol Symbol e = refl
number_tells Symbol Arity e = absurd (omega (arith, e))
number_tells Symbol Count e = absurd (omega (arith, e))
number_tells Symbol NodeOrder e = absurd (omega (arith, e))
number_tells Symbol NodeLarge e = absurd (omega (arith, e))
number_tells Arity Syntax e = absurd (omega (arith, e))
number_tells Arity Number e = absurd (omega (arith, e))
number_tells Arity Symbol e = absurd (omega (arith, e))
number_tells Arity Arity e = refl
number_tells Arity Count e = absurd (omega (arith, e))
number_tells Arity NodeOrder e = absurd (omega (arith, e))
number_tells Arity NodeLarge e = absurd (omega (arith, e))
number_tells Count Syntax e = absurd (omega (arith, e))
number_tells Count Number e = absurd (omega (arith, e))
number_tells Count Symbol e = absurd (omega (arith, e))
number_tells Count Arity e = absurd (omega (arith, e))
number_tells Count Count e = refl
number_tells Count NodeOrder e = absurd (omega (arith, e))
number_tells Count NodeLarge e = absurd (omega (arith, e))
number_tells NodeOrder Syntax e = absurd (omega (arith, e))
number_tells NodeOrder Number e = absurd (omega (arith, e))
number_tells NodeOrder Symbol e = absurd (omega (arith, e))
number_tells NodeOrder Arity e = absurd (omega (arith, e))
number_tells NodeOrder Count e = absurd (omega (arith, e))
number_tells NodeOrder NodeOrder e = refl
number_tells NodeOrder NodeLarge e = absurd (omega (arith, e))
number_tells NodeLarge Syntax e = absurd (omega (arith, e))
number_tells NodeLarge Number e = absurd (omega (arith, e))
number_tells NodeLarge Symbol e = absurd (omega (arith, e))
number_tells NodeLarge Arity e = absurd (omega (arith, e))
number_tells NodeLarge Count e = absurd (omega (arith, e))
number_tells NodeLarge NodeOrder e = absurd (omega (arith, e))
number_tells NodeLarge NodeLarge e = refl

pub first_is_one : (K : Kind) (bytes : List ℕ) (at p q : ℕ) (c d : Code) → IsFirstFault K bytes at p c → IsFirstFault K bytes at q d → (p ≡ q) × (c ≡ d)
first_is_one K bytes at p q c d one two = by (one.first q d two.stands) (two.first p c one.stands)
  where
    by : NotAfter p c q d → NotAfter q d p c → (p ≡ q) × (c ≡ d)
    by (inl less) (inl more) = absurd (omega (arith, less, more))
    by (inl less) (inr same) = absurd (omega (arith, less, same.0))
    by (inr same) (inl less) = absurd (omega (arith, less, same.0))
    by (inr same) (inr again) = (same.0, number_tells c d (omega (arith, same.1, again.1)))

pub first_is_told : (binds : Bool) (P : Protocol) → HasNames P → (bytes : List ℕ) (at place : ℕ) (code : Code) → IsFirstFault (terms_in binds P) bytes at place code → read_tree binds P bytes at ≡ Refused place code
first_is_told binds P names bytes at place code is =
    let told = tells_first binds P names bytes at place code is.stands in
    let same = first_is_one (terms_in binds P) bytes at told.place place told.code code (told_is_first binds P names bytes at told.place told.code told.is) is in
    told.is ∙ (ap (λ p. Refused p told.code) same.0 ∙ ap (Refused place) same.1)

pub read_has_none : (binds : Bool) (P : Protocol) → HasNames P → (bytes : List ℕ) (at place : ℕ) (t : Term) (rest : List ℕ) → read_tree binds P bytes at ≡ Done t place rest → (other : ℕ) (another : Code) → StandsAt (terms_in binds P) bytes at other another → ⊥
read_has_none binds P names bytes at place t rest e other another stands =
    let told = tells_first binds P names bytes at other another stands in
    let never : Done t place rest ≡ Refused told.place told.code = sym e ∙ told.is in
    cc
