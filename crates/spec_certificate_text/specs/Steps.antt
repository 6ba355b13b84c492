-- What each byte does.
use Rattle.std.specs.Prelude.{ℕ, ◌+◌, ◌-◌, ◌==◌, ◌&&◌, nat_le, if◌then◌else◌, Bool, true, false, List, [], ◌∷◌, ◌++◌, length, drop, Option, Some, None}
use Rattle.std.specs.Char.{is_ascii_digit}
use Rattle.spec_trees.specs.Tree.{Leaf, node}
use Rattle.spec_calculus.specs.Bounds.{most_arguments, most_term_levels}
use Rattle.spec_calculus.specs.Syntax.{Protocol}
use Rattle.spec_protocol_tokens.specs.Bytes.{begins_word, is_in_word}
use Rattle.spec_protocol_scope.specs.Names.{is_variable}
use Rattle.spec_terms.specs.Term.{Sym, Tuple, Point, Attacker, Term}
use Rattle.spec_run_text.specs.Reading.{numeral}
use Rattle.spec_certificate_text.specs.Sides.{first_bound}
use Rattle.spec_certificate_text.specs.Spelled.{goes_on}
use Rattle.spec_certificate_text.specs.Names.{Named, symbol_called, name_called}
use Rattle.spec_certificate_text.specs.Terms.{Syntax, Number, Symbol, Arity, Count, Open, Mode, Begins, InWord, InDigits, AtBracket, InBound, Ended, Reading, Step, Goes, Ends, Fault}

-- whether a term that begins here would be too deep: so many are open
abbrev pub is_deep : List Open → Bool
is_deep heads = nat_le most_term_levels (length heads)

-- reading goes on in this way
abbrev pub goes : List Open → Mode → ℕ → Step
goes heads mode from = Goes record { heads = heads; mode = mode; from = from }

-- unless the term is too deep, which is a fault where it begins
abbrev pub unless_deep : List Open → ℕ → Step → Step
unless_deep heads from step = if is_deep heads then Fault from Count else step

-- the symbol is opened
abbrev pub opened : List Open → Named → ℕ → Step
opened heads named from = goes (record { symbol = named.symbol; arity = named.arity; place = from; arguments = [] } ∷ heads) Begins from

-- the symbol of so many arguments: a tuple is that of as many parts
abbrev pub with_parts : Sym → ℕ → Sym
with_parts (Tuple n) parts = Tuple parts
with_parts symbol parts = symbol

-- whether a symbol may have so many arguments
abbrev pub has_arity : Sym → ℕ → ℕ → Bool
has_arity (Tuple n) arity parts = nat_le parts most_arguments
has_arity symbol arity parts = parts == arity

-- the arguments of a symbol end
abbrev pub closed : Open → List Open → List Term → Step
closed o heads arguments =
    if has_arity o.symbol o.arity (length arguments)
    then unless_deep heads o.place (goes heads (Ended (node (with_parts o.symbol (length arguments)) arguments)) o.place)
    else Fault o.place Arity

-- the byte that ends the arguments of a symbol
abbrev pub closing_byte : Sym → ℕ
closing_byte (Point p) = 93
closing_byte Attacker = 93
closing_byte symbol = 41

-- whether an argument may be the last, being the one of that number: a tuple has two at least
abbrev pub may_close : Sym → ℕ → Bool
may_close (Tuple n) number = nat_le 2 number
may_close symbol number = true

-- whether an argument may be followed by another: an attacker's name has one
abbrev pub may_go_on : Sym → Bool
may_go_on Attacker = false
may_go_on symbol = true

-- whether the arguments may end before the first: those of a restricted name
abbrev pub may_be_empty : Sym → List Term → Bool
may_be_empty (Point p) [] = true
may_be_empty symbol arguments = false

-- a term ended, and this byte comes
abbrev pub after_term : ℕ → Term → List Open → ℕ → ℕ → Step
after_term at t [] from b = Ends t
after_term at t (o ∷ heads) from b =
    if (b == 44) && may_go_on o.symbol
    then goes (record o { arguments = o.arguments ++ t ∷ [] } ∷ heads) Begins from
    else (if (b == closing_byte o.symbol) && may_close o.symbol (length o.arguments + 1)
    then closed o heads (o.arguments ++ t ∷ [])
    else Fault at Syntax)

-- a bound variable begins: it may stand in a constraint alone
abbrev pub begin_bound : Bool → ℕ → List Open → Step
begin_bound binds at heads = if binds then unless_deep heads at (goes heads (InBound []) at) else Fault at Symbol

-- a term begins with this byte
abbrev pub begin_term : Bool → ℕ → List Open → ℕ → Step
begin_term binds at heads b =
    if begins_word b then goes heads (InWord (b ∷ [])) at
    else (if b == 40 then unless_deep heads at (opened heads record { symbol = Tuple 0; arity = 0 } at)
    else (if b == 64 then unless_deep heads at (goes heads AtBracket at)
    else (if b == 63 then begin_bound binds at heads
    else Fault at Syntax)))

-- where a term may begin: within a symbol that is too deep itself, none may
abbrev pub at_begin : Bool → ℕ → List Open → ℕ → Step
at_begin binds at [] b = begin_term binds at [] b
at_begin binds at (o ∷ heads) b =
    if (b == 93) && may_be_empty o.symbol o.arguments then closed o heads []
    else unless_deep heads o.place (begin_term binds at (o ∷ heads) b)

-- a variable ended with these digits, which are this number, if one
abbrev pub after_variable : ℕ → List Open → ℕ → List ℕ → Option ℕ → ℕ → Step
after_variable at heads from digits None b = Fault (at - length digits) Number
after_variable at heads from digits (Some x) b = after_term at (Leaf x) heads from b

-- a word alone that names this, if anything
abbrev pub after_name : ℕ → List Open → ℕ → Option Named → ℕ → Step
after_name at heads from None b = Fault from Symbol
after_name at heads from (Some named) b =
    if named.arity == 0 then unless_deep heads from (after_term at (node named.symbol []) heads from b) else Fault from Arity

-- a word alone ended
abbrev pub after_word : Protocol → ℕ → List Open → ℕ → List ℕ → ℕ → Step
after_word P at heads from word b =
    if is_variable word then unless_deep heads from (after_variable at heads from (drop 1 word) (numeral (drop 1 word)) b)
    else after_name at heads from (symbol_called P word) b

-- a word that names this, if anything, before its arguments
abbrev pub apply : List Open → ℕ → Option Named → Step
apply heads from None = Fault from Symbol
apply heads from (Some named) = unless_deep heads from (opened heads named from)

abbrev pub in_word : Protocol → ℕ → List Open → ℕ → List ℕ → ℕ → Step
in_word P at heads from word b =
    if is_in_word b then goes heads (InWord (word ++ b ∷ [])) from
    else (if b == 40 then apply heads from (symbol_called P word)
    else (if b == 64 then goes heads (InDigits word []) from
    else after_word P at heads from word b))

-- the name of a restriction, if there is one
abbrev pub after_point : ℕ → List Open → ℕ → Option Named → ℕ → Step
after_point at heads from None b = Fault from Symbol
after_point at heads from (Some named) b = if b == 91 then opened heads named from else unless_deep heads from (Fault at Syntax)

-- a word, `@` and these digits ended, which are this number, if one
abbrev pub after_number : Protocol → ℕ → List Open → ℕ → List ℕ → List ℕ → Option ℕ → ℕ → Step
after_number P at heads from word digits None b = unless_deep heads from (Fault (at - length digits) Number)
after_number P at heads from word digits (Some point) b = after_point at heads from (name_called P word point) b

-- digits behind a word and `@` ended
abbrev pub after_digits : Protocol → ℕ → List Open → ℕ → List ℕ → List ℕ → ℕ → Step
after_digits P at heads from word [] b = unless_deep heads from (Fault at Syntax)
after_digits P at heads from word (d ∷ ds) b = after_number P at heads from word (d ∷ ds) (numeral (d ∷ ds)) b

abbrev pub in_digits : Protocol → ℕ → List Open → ℕ → List ℕ → List ℕ → ℕ → Step
in_digits P at heads from word digits b =
    if is_ascii_digit b then goes heads (InDigits word (digits ++ b ∷ [])) from else after_digits P at heads from word digits b

abbrev pub at_bracket : ℕ → List Open → ℕ → ℕ → Step
at_bracket at heads from b = if b == 91 then opened heads record { symbol = Attacker; arity = 1 } from else Fault at Syntax

-- a bound variable ended with these digits, which are this number, if one: no byte of a word, `(` or `@` may stand behind it
abbrev pub after_bound : ℕ → List Open → ℕ → List ℕ → Option ℕ → ℕ → Step
after_bound at heads from digits None b = Fault (at - length digits) Number
after_bound at heads from digits (Some i) b = if goes_on b then Fault at Syntax else after_term at (Leaf (first_bound + i)) heads from b

-- digits behind a `?` ended
abbrev pub bound_ended : ℕ → List Open → ℕ → List ℕ → ℕ → Step
bound_ended at heads from [] b = Fault at Syntax
bound_ended at heads from (d ∷ ds) b = after_bound at heads from (d ∷ ds) (numeral (d ∷ ds)) b

abbrev pub in_bound : ℕ → List Open → ℕ → List ℕ → ℕ → Step
in_bound at heads from digits b =
    if is_ascii_digit b then goes heads (InBound (digits ++ b ∷ [])) from else bound_ended at heads from digits b

abbrev pub step_in : Bool → Protocol → ℕ → List Open → ℕ → Mode → ℕ → Step
step_in binds P at heads from Begins b = at_begin binds at heads b
step_in binds P at heads from (InWord word) b = in_word P at heads from word b
step_in binds P at heads from (InDigits word digits) b = in_digits P at heads from word digits b
step_in binds P at heads from AtBracket b = at_bracket at heads from b
step_in binds P at heads from (InBound digits) b = in_bound at heads from digits b
step_in binds P at heads from (Ended t) b = after_term at t heads from b

-- what the byte b does that stands at the place, in a constraint or in a fact
abbrev pub step : Bool → Protocol → ℕ → Reading → ℕ → Step
step binds P at r b = step_in binds P at r.heads r.from r.mode b
