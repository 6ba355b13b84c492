-- The words of symbols and events of a protocol: each is a word, and the word of one name.
use Rattle.std.proofs.Common.{◌≡◌, ℕ, zero, suc, ◌<◌, ◌≤◌, Bool, true, ◌&&◌, List, [], ◌∷◌, ◌++◌, length, Some, slice_get, option_map, unwrap_or, refl, sym, ◌∙◌, ap, subst, arith}
use Rattle.std.specs.Char.{is_ascii_digit}
use Rattle.std.specs.Str.{all_ascii_digits}
use Rattle.std.specs.Str.Parse.{digits_value}
use Rattle.std.specs.Fmt.{decimal}
use Rattle.std.specs.List.{list_all, AllByRecursion}
use Rattle.std.proofs.lemmas.Fmt.{digits_decimal, decimal_nonempty, decimal_injective}
use Rattle.std.proofs.lemmas.Str.Parse.{IsNumeralModel, numerals_by_value, tells_all_ascii_digits}
use Rattle.spec_calculus.specs.Syntax.{Declared, Process, Nil, Output, Input, Parallel, Replication, New, Let, Event, Phase, Insert, Get, Protocol}
use Rattle.spec_calculus.specs.Points.{numbered, nodes}
use Rattle.spec_well_formed.specs.Signature.{signature_of}
use Rattle.spec_well_formed.specs.Words as declared
use Rattle.spec_well_formed.specs.Processes.{EachWord}
use Rattle.spec_protocol_scope.specs.Names.{is_variable}
use Rattle.spec_protocol_scope.specs.Words.{IsIdentifier, IsSymbolWord}
use Rattle.spec_certificate_text.specs.Words.{declared_word, word_of_process, word_at}
use Rattle.spec_certificate_text.specs.Spelled.{IsWord, AreDigits}
use Rattle.spec_certificate_text.proofs.Apart.{digits_in_word}
use Rattle.spec_certificate_text.specs.OfProtocol.{IsDeclared, IsConstructor, IsDeclaredOver, IsEvent, IsTable, IsRestriction, IsShort, HasNames}

-- what holds of all holds of the one of a number
all_at : {A : Type 0} (Q : A → Type 0) (xs : List A) (i : ℕ) (x : A) → AllByRecursion Q xs → slice_get xs i ≡ Some x → Q x
all_at Q [] zero x all there = absurd (cc)
all_at Q [] (suc i) x all there = absurd (cc)
all_at Q (y ∷ ys) zero x all there = let same : y ≡ x = cc in subst Q same all.0
all_at Q (y ∷ ys) (suc i) x all there = all_at Q ys i x all.1 there

pub all_numbered : {A : Type 0} (Q : A → Type 0) (xs : List A) (n : ℕ) (x : A) → AllByRecursion Q xs → numbered xs n ≡ Some x → Q x
all_numbered Q xs zero x all there = absurd (cc)
all_numbered Q xs (suc i) x all there = all_at Q xs i x all there

pub word_is : (ds : List Declared) (n : ℕ) (d : Declared) → numbered ds n ≡ Some d → declared_word ds n ≡ d.word
word_is ds n d there = ap (λ o. unwrap_or (option_map (λ e. e.word) o) []) there

identifier_is_word : (w : List ℕ) → IsIdentifier w → IsWord w
identifier_is_word w is = record { begins = is.begins; goes_on = is.goes_on }

-- the word of a constructor and of a free name
pub constructor_word : (P : Protocol) (is_data : Bool) (f n : ℕ) → HasNames P → IsConstructor P is_data f n → IsSymbolWord (declared_word P.constructors f)
constructor_word P is_data f n names is =
    subst IsSymbolWord (sym (word_is P.constructors f is.declared is.there)) (all_numbered (λ d. IsSymbolWord d.word) P.constructors f is.declared names.words.constructors is.there)

pub free_word : (P : Protocol) (a : ℕ) → HasNames P → IsDeclared P.frees a → IsSymbolWord (declared_word P.frees a)
free_word P a names is =
    subst IsSymbolWord (sym (word_is P.frees a is.declared is.there)) (all_numbered (λ d. IsSymbolWord d.word) P.frees a is.declared names.words.frees is.there)

pub symbol_word_is_word : (w : List ℕ) → IsSymbolWord w → IsWord w
symbol_word_is_word w is = identifier_is_word w is.0

-- the word of an event and of a table
declared_word_is_word : (ds : List Declared) (e n : ℕ) → AllByRecursion (λ d. IsIdentifier d.word) ds → IsDeclaredOver ds e n → IsWord (declared_word ds e)
declared_word_is_word ds e n words is =
    identifier_is_word (declared_word ds e) (subst IsIdentifier (sym (word_is ds e is.declared is.there)) (all_numbered (λ d. IsIdentifier d.word) ds e is.declared words is.there))

pub event_word_is_word : (P : Protocol) (e n : ℕ) → HasNames P → IsEvent P e n → IsWord (declared_word P.events e)
event_word_is_word P e n names is = declared_word_is_word P.events e n names.words.events is

pub table_word_is_word : (P : Protocol) (t n : ℕ) → HasNames P → IsTable P t n → IsWord (declared_word P.tables t)
table_word_is_word P t n names is = declared_word_is_word P.tables t n names.words.tables is

-- the word of a restriction
at_new : Process → Type 0
at_new (New word next) = IsIdentifier word
at_new other = Unit {0}

both_all : {A : Type 0} (Q : A → Type 0) (xs ys : List A) → AllByRecursion Q xs → AllByRecursion Q ys → AllByRecursion Q (xs ++ ys)
both_all Q [] ys all_x all_y = all_y
both_all Q (x ∷ xs) ys all_x all_y = (all_x.0, both_all Q xs ys all_x.1 all_y)

nodes_have_words : (p : Process) → EachWord IsIdentifier p → AllByRecursion at_new (nodes p)
unfolding at_new
nodes_have_words Nil each = (tt, tt)
nodes_have_words (Output c m next) each = (tt, nodes_have_words next each)
nodes_have_words (Input c pattern next) each = (tt, nodes_have_words next each)
nodes_have_words (Parallel left right) each = (tt, both_all at_new (nodes left) (nodes right) (nodes_have_words left each.0) (nodes_have_words right each.1))
nodes_have_words (Replication copied) each = (tt, nodes_have_words copied each)
nodes_have_words (New word next) each = (each.0, nodes_have_words next each.1)
nodes_have_words (Let pattern e next otherwise) each = (tt, both_all at_new (nodes next) (nodes otherwise) (nodes_have_words next each.0) (nodes_have_words otherwise each.1))
nodes_have_words (Event performed next) each = (tt, nodes_have_words next each)
nodes_have_words (Phase number next) each = (tt, nodes_have_words next each)
nodes_have_words (Insert table arguments next) each = (tt, nodes_have_words next each)
nodes_have_words (Get table patterns condition next otherwise) each = (tt, both_all at_new (nodes next) (nodes otherwise) (nodes_have_words next each.0) (nodes_have_words otherwise each.1))

pub restriction_word_is_word : (P : Protocol) (point n : ℕ) → HasNames P → IsRestriction P point n → IsWord (word_at P point)
unfolding at_new
restriction_word_is_word P point n names is =
    let identifier : IsIdentifier is.word = all_numbered at_new (nodes P.main) point (New is.word is.next) (nodes_have_words P.main names.words.restrictions) is.there in
    let same : word_at P point ≡ is.word = ap (λ o. unwrap_or (option_map word_of_process o) []) is.there in
    identifier_is_word (word_at P point) (subst IsIdentifier (sym same) identifier)

-- digits
digits_model : IsNumeralModel (λ text. all_ascii_digits text ≡ true) (digits_value 10)
digits_model = numerals_by_value _ tells_all_ascii_digits

all_digits : (bytes : List ℕ) → all_ascii_digits bytes ≡ list_all is_ascii_digit bytes
all_digits [] = refl
all_digits (b ∷ bytes) = ap (λ r. is_ascii_digit b && r) (all_digits bytes)

pub decimal_digits : (n : ℕ) → IsShort n → AreDigits (decimal n)
decimal_digits n short = sym (all_digits (decimal n)) ∙ digits_decimal digits_model n (omega arith)

pub one_decimal : (m n : ℕ) → IsShort m → IsShort n → decimal m ≡ decimal n → m ≡ n
one_decimal m n short_m short_n e = decimal_injective m n (omega arith) (omega arith) e

-- the name of a variable
pub variable_is_word : (x : ℕ) → IsShort x → IsWord (118 ∷ decimal x)
variable_is_word x short = record { begins = refl; goes_on = digits_in_word (decimal x) (decimal_digits x short) }

some_digits : (digits : List ℕ) → 0 < length digits → AreDigits digits → is_variable (118 ∷ digits) ≡ true
some_digits [] some digits = absurd (omega (arith, some))
some_digits (d ∷ ds) some digits = digits

-- a number has a digit
pub decimal_some : (n : ℕ) → IsShort n → 1 ≤ length (decimal n)
decimal_some n short = decimal_nonempty n (omega arith)

pub variable_is_variable : (x : ℕ) → IsShort x → is_variable (118 ∷ decimal x) ≡ true
variable_is_variable x short = some_digits (decimal x) (decimal_nonempty x (omega arith)) (decimal_digits x short)

-- a word is the word of one name
pub one_name : (P : Protocol) → HasNames P → (a b : declared.DeclaredName) (v w : List ℕ) → declared.word_of (signature_of P) a ≡ Some v → declared.word_of (signature_of P) b ≡ Some w → v ≡ w → a ≡ b
one_name P names a b v w is_a is_b same = names.distinct a b w (is_a ∙ ap Some same) is_b

pub constructor_named : (P : Protocol) (is_data : Bool) (f n : ℕ) → IsConstructor P is_data f n → declared.word_of (signature_of P) (declared.Constructor f) ≡ Some (declared_word P.constructors f)
constructor_named P is_data f n is = ap (option_map (λ d. d.word)) is.there ∙ ap Some (sym (word_is P.constructors f is.declared is.there))

pub free_named : (P : Protocol) (a : ℕ) → IsDeclared P.frees a → declared.word_of (signature_of P) (declared.Free a) ≡ Some (declared_word P.frees a)
free_named P a is = ap (option_map (λ d. d.word)) is.there ∙ ap Some (sym (word_is P.frees a is.declared is.there))

pub event_named : (P : Protocol) (e n : ℕ) → IsEvent P e n → declared.word_of (signature_of P) (declared.Event e) ≡ Some (declared_word P.events e)
event_named P e n is = ap (option_map (λ d. d.word)) is.there ∙ ap Some (sym (word_is P.events e is.declared is.there))

pub table_named : (P : Protocol) (t n : ℕ) → IsTable P t n → declared.word_of (signature_of P) (declared.Table t) ≡ Some (declared_word P.tables t)
table_named P t n is = ap (option_map (λ d. d.word)) is.there ∙ ap Some (sym (word_is P.tables t is.declared is.there))
