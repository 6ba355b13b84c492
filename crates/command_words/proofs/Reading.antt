-- What the getters of `clap` read of the matches, and what its parse says of the words.
use Rattle.std.proofs.Common.{◌≡◌, ◌∙◌, ◌<◌, ℕ, Bool, true, false, cond, List, [], ◌∷◌, Option, Some, None, Result, Ok, Err, refl, sym, ap, subst, ⊎_elim, arith}
use Rattle.std.specs.Prelude.{◌^◌, ◌-◌, option_and_then, option_map}
use Rattle.std.specs.Borrow.{Bor}
use Rattle.std.proofs.lemmas.Bool.{ne_eqb}
use Rattle.std.specs.declared.num.ParseIntError.{ParseIntError}
use Rattle.std.specs.Str.Parse.{ExplainsUnsignedError, HasUnsignedDigitsIfOk, IsNumeral, ParsesUnsigned, digits_value, without_leading_plus}
use Rattle.clap.specs.declared.parser.matches.Found.{Found}
use Rattle.clap.specs.declared.builder.value_parser.ValueParser.TheVariants.{Unsigned}
use Rattle.clap.specs.declared.error.Error.{Error}
use Rattle.clap.specs.declared.error.kind.ErrorKind.{ErrorKind}
use Rattle.clap.specs.declared.error.kind.ErrorKind.TheVariants.{OutOfMemory}
use Rattle.clap.specs.ValueTests.{is_unsigned_in}
use Rattle.clap.specs.Walk.{is_empty}
use Rattle.clap.specs.Words.{App, HasKind, IsAmong, Kinds, ReadsOne, Row, Text, fault_of, first_of, first_value, is_simple, is_simple_and_free, kind_of, matches_of, one_of, one_text, rows_of, subcommand_of}
use Rattle.clap.proofs.ValueTestLemmas.{Accepts-accepts, accepts-Accepts}
use Rattle.clap.proofs.WalkLemmas.{first_value-rows, one_text-rows}
use Rattle.command_words.specs.Commands.{program_app}
use Rattle.command_words.specs.Request.{Request, asked, number_of, request_of}

-- the text that `get_str` answers, by the rows
pub text_read : (f : Found) (id : Text) (r v : Option (Bor Text)) → option_map (λ s. s.now) r ≡ first_value f id → r ≡ v
    → first_of id (rows_of f) ≡ option_map (λ s. s.now) v
text_read f id r v given is = sym (first_value-rows f id) ∙ sym given ∙ ap (option_map (λ s. s.now)) is

-- what `u64` reads of a text is what the text spells
spelled : (t : Text) (n : ℕ) (r : Result ℕ ParseIntError) → r ≡ Ok n → ParsesUnsigned 64 10 t r → number_of t ≡ Some n
spelled t n r is parsed =
    let h = subst (λ x. ParsesUnsigned 64 10 t x) is parsed in
    let all : is_unsigned_in 0 (2 ^ 64 - 1) t ≡ true =
    Accepts-accepts false (Unsigned 0 (2 ^ 64 - 1)) t (h.0.0, h.0.1, omega arith, omega (arith, h.0.1)) in
    rw all (ap Some (sym h.1))

misspelled : (t : Text) (e : ParseIntError) (r : Result ℕ ParseIntError) → r ≡ Err e → ParsesUnsigned 64 10 t r → number_of t ≡ None
misspelled t e r is parsed = go (is_unsigned_in 0 (2 ^ 64 - 1) t) refl (subst (λ x. ParsesUnsigned 64 10 t x) is parsed)
  where
    go : (b : Bool) → is_unsigned_in 0 (2 ^ 64 - 1) t ≡ b → (IsNumeral 10 (without_leading_plus t) × (digits_value 10 (without_leading_plus t) < 2 ^ 64) → ⊥) → number_of t ≡ None
    go false is_not none = rw is_not refl
    go true is_one none =
        let all = accepts-Accepts false (Unsigned 0 (2 ^ 64 - 1)) t is_one in
        absurd (none (all.0, all.1))

-- how `from_str` reads a `u64`
abbrev pub ReadsNumber : Text → Result ℕ ParseIntError → Type 0
ReadsNumber t r = ParsesUnsigned 64 10 t r × ExplainsUnsignedError 10 t r × HasUnsignedDigitsIfOk t r

-- the number that `get_one` answers, by the rows
pub number_read : (f : Found) (id : Text) (r : Option ℕ) → (one_text f id ≡ None → r ≡ None) → ((t : Text) → one_text f id ≡ Some t → ReadsOne ReadsNumber t r)
    → option_and_then number_of (one_of id (rows_of f)) ≡ r
number_read f id r none value = ap (option_and_then number_of) (sym (one_text-rows f id)) ∙ go (one_text f id) none value
  where
    read : (t : Text) (n : Option ℕ) → ReadsOne ReadsNumber t n → number_of t ≡ n
    read t (Some n) h = spelled t n (Ok n) refl h.0
    read t None h = misspelled t h.0 (Err h.0) refl h.1.0

    go : (o : Option Text) → (o ≡ None → r ≡ None) → ((t : Text) → o ≡ Some t → ReadsOne ReadsNumber t r) → option_and_then number_of o ≡ r
    go None absent present = sym (absent refl)
    go (Some t) absent present = read t r (present t refl)

-- a request is made where there is no fault
pub chosen : (faults : Kinds) (request : Option Request) → faults ≡ [] → cond (is_empty faults) request None ≡ request
chosen faults request none = rw none refl

unchosen : (faults : Kinds) (request : Option Request) (k : ErrorKind) → IsAmong k faults → cond (is_empty faults) request None ≡ None
unchosen [] request k among = absurd among
unchosen (x ∷ xs) request k among =
    let some : is_empty (x ∷ xs) ≡ false = ne_eqb _ _ (λ e. absurd (omega arith)) in
    rw some refl

-- words that `clap` takes ask what its matches say
pub asked_is : (a : App) (words : List Text) (sub : Option (Text × List Row)) (own : List Row) → a ≡ program_app
    → (is_simple_and_free a ≡ true → fault_of a words ≡ []) → (is_simple a ≡ true → (own ≡ matches_of a words) × (sub ≡ subcommand_of a words))
    → asked sub ≡ request_of words
asked_is a words sub own is taken matches =
    let none : fault_of program_app words ≡ [] = ap (λ x. fault_of x words) (sym is) ∙ taken (ap is_simple_and_free is) in
    let given : sub ≡ subcommand_of program_app words = (matches (ap is_simple is)).1 ∙ ap (λ x. subcommand_of x words) is in
    ap asked given ∙ sym (chosen (fault_of program_app words) (asked (subcommand_of program_app words)) none)

-- and words that it refuses, for another cause than memory, ask nothing
pub nothing_asked : (a : App) (words : List Text) (e : Error) → a ≡ program_app → (is_simple_and_free a ≡ true → HasKind (fault_of a words) e)
    → (kind_of e ≡ OutOfMemory → ⊥) → request_of words ≡ None
nothing_asked a words e is fails other =
    let kinds : HasKind (fault_of program_app words) e = subst (λ x. HasKind (fault_of x words) e) is (fails (ap is_simple_and_free is)) in
    ⊎_elim (λ memory. absurd (other memory)) (λ among. unchosen (fault_of program_app words) (asked (subcommand_of program_app words)) (kind_of e) among) kinds
