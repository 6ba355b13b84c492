-- Entries of tables are spelled as the events of the protocol in which tables stand for these.
use Rattle.std.proofs.Common.{◌≡◌, ℕ, zero, suc, ◌+◌, ◌==◌, if◌then◌else◌, Bool, true, false, List, [], ◌∷◌, ◌++◌, length, take, drop, Option, Some, None, refl, sym, ◌∙◌, ap}
use Rattle.std.specs.List.{prefix_len}
use Rattle.spec_calculus.specs.Syntax.{Protocol}
use Rattle.spec_well_formed.specs.Signature.{signature_of}
use Rattle.spec_well_formed.specs.Words.{DeclaredName, Free, Constructor, Destructor, Event, Table, word_of}
use Rattle.spec_protocol_tokens.specs.Bytes.{begins_word, is_in_word}
use Rattle.spec_certificate_text.specs.OfProtocol.{HasNames}
use Rattle.spec_certificate_text.specs.Names.{CalledEvent, called_in, with_tables}
use Rattle.spec_certificate_text.specs.Terms.{Syntax, Mode, Begins, InWord, InDigits, AtBracket, InBound, Ended, Reading, Step, Goes, Ends, Fault}
use Rattle.spec_certificate_text.specs.Steps.{step_in, step}
use Rattle.spec_certificate_text.specs.Runs.{Read, followed, read_on}
use Rattle.spec_certificate_text.specs.Outcomes.{Outcome, Found, Faulty, next, front, ended, Reader, things_from}
use Rattle.spec_certificate_text.specs.Facts.{term_outcome, one_tree, argument, read_terms, performed, event_named, read_event, read_entry}
use Rattle.spec_first_faults.proofs.Rows.{next_same}

-- the name of an event of that protocol is that of a table of this one
as_table : DeclaredName → DeclaredName
as_table (Event number) = Table number
as_table other = other

as_event : DeclaredName → DeclaredName
as_event (Table number) = Event number
as_event other = other

record IsNameOf (P : Protocol) (a : DeclaredName) (word : List ℕ) : Type 0 where
  has_word : word_of (signature_of P) (as_table a) ≡ Some word
  back : as_event (as_table a) ≡ a

named_before : (P : Protocol) (a : DeclaredName) (word : List ℕ) → word_of (signature_of (with_tables P)) a ≡ Some word → IsNameOf P a word
unfolding as_table as_event
named_before P (Free number) word e = record { has_word = e; back = refl }
named_before P (Constructor number) word e = record { has_word = e; back = refl }
named_before P (Destructor number) word e = record { has_word = e; back = refl }
named_before P (Event number) word e = record { has_word = e; back = refl }
named_before P (Table zero) word e = absurd (let same = e in cc)
named_before P (Table (suc number)) word e = absurd (let same = e in cc)

pub names_with_tables : (P : Protocol) → HasNames P → HasNames (with_tables P)
names_with_tables P names = record {
  words = record {
    frees = names.words.frees;
    constructors = names.words.constructors;
    destructors = names.words.destructors;
    events = names.words.tables;
    tables = tt;
    restrictions = names.words.restrictions;
  };
  distinct = λ a b word is_a is_b.
      let here = named_before P a word is_a in
      let there = named_before P b word is_b in
      sym here.back ∙ (ap as_event (names.distinct (as_table a) (as_table b) word here.has_word there.has_word) ∙ there.back);
}

-- Terms are read alike in both.

step_alike : (binds : Bool) (P : Protocol) (at : ℕ) (r : Reading) (b : ℕ) → step binds P at r b ≡ step binds (with_tables P) at r b
step_alike binds P at r b = by r.mode
  where
    by : (mode : Mode) → step_in binds P at r.heads r.from mode b ≡ step_in binds (with_tables P) at r.heads r.from mode b
    by Begins = refl
    by (InWord word) = refl
    by (InDigits word digits) = refl
    by AtBracket = refl
    by (InBound digits) = refl
    by (Ended t) = refl

followed_alike : (f g : Reading → Read) (at : ℕ) (bytes : List ℕ) → ((r : Reading) → f r ≡ g r) → (s : Step) → followed f at bytes s ≡ followed g at bytes s
followed_alike f g at bytes alike (Goes r) = alike r
followed_alike f g at bytes alike (Ends t) = refl
followed_alike f g at bytes alike (Fault place code) = refl

read_on_alike : (binds : Bool) (P : Protocol) (bytes : List ℕ) (at : ℕ) (r : Reading) → read_on binds P bytes at r ≡ read_on binds (with_tables P) bytes at r
read_on_alike binds P [] at r = refl
read_on_alike binds P (b ∷ bytes) at r =
    ap (followed (read_on binds P bytes (at + 1)) at (b ∷ bytes)) (step_alike binds P at r b)
    ∙ followed_alike (read_on binds P bytes (at + 1)) (read_on binds (with_tables P) bytes (at + 1)) at (b ∷ bytes) (read_on_alike binds P bytes (at + 1)) (step binds (with_tables P) at r b)

one_tree_alike : (binds : Bool) (P : Protocol) (bytes : List ℕ) (at : ℕ) → one_tree binds P bytes at ≡ one_tree binds (with_tables P) bytes at
one_tree_alike binds P bytes at = ap term_outcome (read_on_alike binds P bytes at record { heads = []; mode = Begins; from = at })

argument_alike : (P : Protocol) (bytes : List ℕ) (at : ℕ) → argument P bytes at ≡ argument (with_tables P) bytes at
argument_alike P bytes at =
    ap (λ o. next o (λ t place rest. if front rest == 44 then Found (t, true) (place + 1) (drop 1 rest) else (if front rest == 41 then Found (t, false) (place + 1) (drop 1 rest) else Faulty place Syntax))) (one_tree_alike false P bytes at)

things_alike : {A : Type 0} (r s : Reader (A × Bool)) → ((bytes : List ℕ) (at : ℕ) → r bytes at ≡ s bytes at) → (most : ℕ) (xs : List A) (bytes : List ℕ) (at : ℕ) → things_from r most xs bytes at ≡ things_from s most xs bytes at
unfolding things_from
things_alike r s alike zero xs bytes at = refl
things_alike {A} r s alike (suc most) xs bytes at =
    ap (λ o. next o (λ x place rest. if x.1 then things_from r most (xs ++ x.0 ∷ []) rest place else Found (xs ++ x.0 ∷ []) place rest)) (alike bytes at)
    ∙ next_same (s bytes at) _ _ (λ x place rest. by x.1 (things_from r most (xs ++ x.0 ∷ []) rest place) (things_from s most (xs ++ x.0 ∷ []) rest place) (Found (xs ++ x.0 ∷ []) place rest) (things_alike r s alike most (xs ++ x.0 ∷ []) rest place))
  where
    by : (goes_on : Bool) (x y z : Outcome (List A)) → x ≡ y → (if goes_on then x else z) ≡ (if goes_on then y else z)
    by true x y z same = same
    by false x y z same = refl

terms_alike : (P : Protocol) (bytes : List ℕ) (at : ℕ) → read_terms P bytes at ≡ read_terms (with_tables P) bytes at
terms_alike P bytes at = things_alike (argument P) (argument (with_tables P)) (argument_alike P) (length bytes) [] bytes at

named_alike : (P : Protocol) (called : Option CalledEvent) (from place : ℕ) (rest : List ℕ) → event_named P called from place rest ≡ event_named (with_tables P) called from place rest
named_alike P None from place rest = refl
named_alike P (Some called) from place rest =
    ap (λ o. if front rest == 40 then next o (λ ts p r. performed from called ts p r) else performed from called [] place rest) (terms_alike P (drop 1 rest) (place + 1))

pub entry_as : (P : Protocol) (bytes : List ℕ) (at : ℕ) → read_entry P bytes at ≡ read_event (with_tables P) bytes at
entry_as P bytes at =
    let long = prefix_len is_in_word bytes in
    let rest = drop long bytes in
    ap (λ o. if begins_word (front bytes) then ended (at + long) rest o else Faulty at Syntax) (named_alike P (called_in P.tables (take long bytes)) at (at + long) rest)
