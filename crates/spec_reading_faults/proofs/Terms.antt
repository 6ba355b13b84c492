-- Terms: a fault of syntax, and what is found, is told by the bytes up to the place.
use Rattle.std.proofs.Common.{◌≡◌, ℕ, zero, suc, ◌+◌, ◌-◌, ◌≤◌, Bool, true, false, ◌==◌, ◌&&◌, if◌then◌else◌, List, [], ◌∷◌, ◌++◌, length, drop, Option, Some, None, refl, sym, ◌∙◌, ap, arith}
use Rattle.std.specs.Char.{is_ascii_digit}
use Rattle.spec_trees.specs.Tree.{Leaf, node}
use Rattle.spec_calculus.specs.Syntax.{Protocol}
use Rattle.spec_protocol_tokens.specs.Bytes.{begins_word, is_in_word}
use Rattle.spec_protocol_scope.specs.Names.{is_variable}
use Rattle.spec_terms.specs.Term.{Tuple, Attacker, Term}
use Rattle.spec_run_text.specs.Reading.{numeral}
use Rattle.spec_certificate_text.specs.Sides.{first_bound}
use Rattle.spec_certificate_text.specs.Spelled.{goes_on}
use Rattle.spec_certificate_text.specs.Names.{Named, symbol_called, name_called}
use Rattle.spec_certificate_text.specs.Terms.{Code, Syntax, Number, Symbol, Arity, Count, Open, Mode, Begins, InWord, InDigits, AtBracket, InBound, Ended, Reading, Step, Goes, Ends, Fault}
use Rattle.spec_certificate_text.specs.Steps.{is_deep, goes, unless_deep, opened, with_parts, has_arity, closed, closing_byte, may_close, may_go_on, may_be_empty, after_term, begin_bound, begin_term, at_begin, after_variable, after_name, after_word, apply, in_word, after_point, after_number, after_digits, after_bound, bound_ended, step_in, step}
use Rattle.spec_certificate_text.specs.Runs.{Read, Done, Refused, followed, cut_off, at_end, read_on, read_tree}
use Rattle.spec_certificate_text.specs.Outcomes.{Faulty}
use Rattle.spec_certificate_text.specs.Facts.{term_outcome, one_tree}
use Rattle.spec_certificate_text.proofs.ReadRuns.{none_at_end}
use Rattle.spec_certificate_text.proofs.FactsThere.{as_done}
use Rattle.spec_reading_faults.proofs.Shared.{Shares, Passed, IsLocal}

-- a fault of syntax stands at the byte that is looked at
unfoldable pub Ahead : ℕ → Step → Type 0
Ahead at (Goes r) = Unit {0}
Ahead at (Ends t) = Unit {0}
Ahead at (Fault place code) = code ≡ Syntax → at ≡ place

goes_ahead : (at : ℕ) (heads : List Open) (mode : Mode) (from : ℕ) → Ahead at (goes heads mode from)
unfolding Ahead
goes_ahead at heads mode from = tt

ends_ahead : (at : ℕ) (t : Term) → Ahead at (Ends t)
unfolding Ahead
ends_ahead at t = tt

opened_ahead : (at : ℕ) (heads : List Open) (named : Named) (from : ℕ) → Ahead at (opened heads named from)
unfolding Ahead
opened_ahead at heads named from = tt

here_ahead : (at : ℕ) → Ahead at (Fault at Syntax)
unfolding Ahead
here_ahead at = λ e. refl

number_ahead : (at place : ℕ) → Ahead at (Fault place Number)
unfolding Ahead
number_ahead at place = λ e. absurd (cc)

symbol_ahead : (at place : ℕ) → Ahead at (Fault place Symbol)
unfolding Ahead
symbol_ahead at place = λ e. absurd (cc)

arity_ahead : (at place : ℕ) → Ahead at (Fault place Arity)
unfolding Ahead
arity_ahead at place = λ e. absurd (cc)

count_ahead : (at place : ℕ) → Ahead at (Fault place Count)
unfolding Ahead
count_ahead at place = λ e. absurd (cc)

either : (at : ℕ) (test : Bool) (x y : Step) → Ahead at x → Ahead at y → Ahead at (if test then x else y)
either at true x y first second = first
either at false x y first second = second

unless_deep-ahead : (at : ℕ) (heads : List Open) (from : ℕ) (s : Step) → Ahead at s → Ahead at (unless_deep heads from s)
unless_deep-ahead at heads from s ahead = either at (is_deep heads) (Fault from Count) s (count_ahead at from) ahead

closed-ahead : (at : ℕ) (o : Open) (heads : List Open) (ts : List Term) → Ahead at (closed o heads ts)
closed-ahead at o heads ts =
    let end = goes heads (Ended (node (with_parts o.symbol (length ts)) ts)) o.place in
    either at (has_arity o.symbol o.arity (length ts)) (unless_deep heads o.place end) (Fault o.place Arity)
    (unless_deep-ahead at heads o.place end (goes_ahead at heads (Ended (node (with_parts o.symbol (length ts)) ts)) o.place)) (arity_ahead at o.place)

after_term-ahead : (at : ℕ) (t : Term) (heads : List Open) (from b : ℕ) → Ahead at (after_term at t heads from b)
after_term-ahead at t [] from b = ends_ahead at t
after_term-ahead at t (o ∷ heads) from b =
    let longer = record o { arguments = o.arguments ++ t ∷ [] } ∷ heads in
    let end = closed o heads (o.arguments ++ t ∷ []) in
    let ends = (b == closing_byte o.symbol) && may_close o.symbol (length o.arguments + 1) in
    either at ((b == 44) && may_go_on o.symbol) (goes longer Begins from) (if ends then end else Fault at Syntax)
    (goes_ahead at longer Begins from) (either at ends end (Fault at Syntax) (closed-ahead at o heads (o.arguments ++ t ∷ [])) (here_ahead at))

begin_bound-ahead : (binds : Bool) (at : ℕ) (heads : List Open) → Ahead at (begin_bound binds at heads)
begin_bound-ahead true at heads = unless_deep-ahead at heads at (goes heads (InBound []) at) (goes_ahead at heads (InBound []) at)
begin_bound-ahead false at heads = symbol_ahead at at

begin_term-ahead : (binds : Bool) (at : ℕ) (heads : List Open) (b : ℕ) → Ahead at (begin_term binds at heads b)
begin_term-ahead binds at heads b =
    let tuple = opened heads record { symbol = Tuple 0; arity = 0 } at in
    let bracket = goes heads AtBracket at in
    let bound = if b == 63 then begin_bound binds at heads else Fault at Syntax in
    let mark = if b == 64 then unless_deep heads at bracket else bound in
    either at (begins_word b) (goes heads (InWord (b ∷ [])) at) (if b == 40 then unless_deep heads at tuple else mark)
    (goes_ahead at heads (InWord (b ∷ [])) at)
    (either at (b == 40) (unless_deep heads at tuple) mark
    (unless_deep-ahead at heads at tuple (opened_ahead at heads record { symbol = Tuple 0; arity = 0 } at))
    (either at (b == 64) (unless_deep heads at bracket) bound
    (unless_deep-ahead at heads at bracket (goes_ahead at heads AtBracket at))
    (either at (b == 63) (begin_bound binds at heads) (Fault at Syntax) (begin_bound-ahead binds at heads) (here_ahead at))))

at_begin-ahead : (binds : Bool) (at : ℕ) (heads : List Open) (b : ℕ) → Ahead at (at_begin binds at heads b)
at_begin-ahead binds at [] b = begin_term-ahead binds at [] b
at_begin-ahead binds at (o ∷ heads) b =
    either at ((b == 93) && may_be_empty o.symbol o.arguments) (closed o heads []) (unless_deep heads o.place (begin_term binds at (o ∷ heads) b))
    (closed-ahead at o heads []) (unless_deep-ahead at heads o.place (begin_term binds at (o ∷ heads) b) (begin_term-ahead binds at (o ∷ heads) b))

after_variable-ahead : (at : ℕ) (heads : List Open) (from : ℕ) (digits : List ℕ) (number : Option ℕ) (b : ℕ) → Ahead at (after_variable at heads from digits number b)
after_variable-ahead at heads from digits None b = number_ahead at (at - length digits)
after_variable-ahead at heads from digits (Some x) b = after_term-ahead at (Leaf x) heads from b

after_name-ahead : (at : ℕ) (heads : List Open) (from : ℕ) (found : Option Named) (b : ℕ) → Ahead at (after_name at heads from found b)
after_name-ahead at heads from None b = symbol_ahead at from
after_name-ahead at heads from (Some named) b =
    let ended = after_term at (node named.symbol []) heads from b in
    either at (named.arity == 0) (unless_deep heads from ended) (Fault from Arity)
    (unless_deep-ahead at heads from ended (after_term-ahead at (node named.symbol []) heads from b)) (arity_ahead at from)

after_word-ahead : (P : Protocol) (at : ℕ) (heads : List Open) (from : ℕ) (word : List ℕ) (b : ℕ) → Ahead at (after_word P at heads from word b)
after_word-ahead P at heads from word b =
    let number = after_variable at heads from (drop 1 word) (numeral (drop 1 word)) b in
    either at (is_variable word) (unless_deep heads from number) (after_name at heads from (symbol_called P word) b)
    (unless_deep-ahead at heads from number (after_variable-ahead at heads from (drop 1 word) (numeral (drop 1 word)) b))
    (after_name-ahead at heads from (symbol_called P word) b)

apply-ahead : (at : ℕ) (heads : List Open) (from : ℕ) (found : Option Named) → Ahead at (apply heads from found)
apply-ahead at heads from None = symbol_ahead at from
apply-ahead at heads from (Some named) = unless_deep-ahead at heads from (opened heads named from) (opened_ahead at heads named from)

in_word-ahead : (P : Protocol) (at : ℕ) (heads : List Open) (from : ℕ) (word : List ℕ) (b : ℕ) → Ahead at (in_word P at heads from word b)
in_word-ahead P at heads from word b =
    let longer = goes heads (InWord (word ++ b ∷ [])) from in
    let applied = apply heads from (symbol_called P word) in
    let behind = goes heads (InDigits word []) from in
    let ended = after_word P at heads from word b in
    either at (is_in_word b) longer (if b == 40 then applied else (if b == 64 then behind else ended))
    (goes_ahead at heads (InWord (word ++ b ∷ [])) from)
    (either at (b == 40) applied (if b == 64 then behind else ended)
    (apply-ahead at heads from (symbol_called P word))
    (either at (b == 64) behind ended (goes_ahead at heads (InDigits word []) from) (after_word-ahead P at heads from word b)))

after_point-ahead : (at : ℕ) (heads : List Open) (from : ℕ) (found : Option Named) (b : ℕ) → Ahead at (after_point at heads from found b)
after_point-ahead at heads from None b = symbol_ahead at from
after_point-ahead at heads from (Some named) b =
    either at (b == 91) (opened heads named from) (unless_deep heads from (Fault at Syntax))
    (opened_ahead at heads named from) (unless_deep-ahead at heads from (Fault at Syntax) (here_ahead at))

after_number-ahead : (P : Protocol) (at : ℕ) (heads : List Open) (from : ℕ) (word digits : List ℕ) (number : Option ℕ) (b : ℕ) → Ahead at (after_number P at heads from word digits number b)
after_number-ahead P at heads from word digits None b = unless_deep-ahead at heads from (Fault (at - length digits) Number) (number_ahead at (at - length digits))
after_number-ahead P at heads from word digits (Some point) b = after_point-ahead at heads from (name_called P word point) b

after_digits-ahead : (P : Protocol) (at : ℕ) (heads : List Open) (from : ℕ) (word digits : List ℕ) (b : ℕ) → Ahead at (after_digits P at heads from word digits b)
after_digits-ahead P at heads from word [] b = unless_deep-ahead at heads from (Fault at Syntax) (here_ahead at)
after_digits-ahead P at heads from word (d ∷ ds) b = after_number-ahead P at heads from word (d ∷ ds) (numeral (d ∷ ds)) b

after_bound-ahead : (at : ℕ) (heads : List Open) (from : ℕ) (digits : List ℕ) (number : Option ℕ) (b : ℕ) → Ahead at (after_bound at heads from digits number b)
after_bound-ahead at heads from digits None b = number_ahead at (at - length digits)
after_bound-ahead at heads from digits (Some i) b =
    let ended = after_term at (Leaf (first_bound + i)) heads from b in
    either at (goes_on b) (Fault at Syntax) ended (here_ahead at) (after_term-ahead at (Leaf (first_bound + i)) heads from b)

bound_ended-ahead : (at : ℕ) (heads : List Open) (from : ℕ) (digits : List ℕ) (b : ℕ) → Ahead at (bound_ended at heads from digits b)
bound_ended-ahead at heads from [] b = here_ahead at
bound_ended-ahead at heads from (d ∷ ds) b = after_bound-ahead at heads from (d ∷ ds) (numeral (d ∷ ds)) b

pub step-ahead : (binds : Bool) (P : Protocol) (at : ℕ) (heads : List Open) (from : ℕ) (mode : Mode) (b : ℕ) → Ahead at (step_in binds P at heads from mode b)
step-ahead binds P at heads from Begins b = at_begin-ahead binds at heads b
step-ahead binds P at heads from (InWord word) b = in_word-ahead P at heads from word b
step-ahead binds P at heads from (InDigits word digits) b =
    either at (is_ascii_digit b) (goes heads (InDigits word (digits ++ b ∷ [])) from) (after_digits P at heads from word digits b)
    (goes_ahead at heads (InDigits word (digits ++ b ∷ [])) from) (after_digits-ahead P at heads from word digits b)
step-ahead binds P at heads from AtBracket b =
    either at (b == 91) (opened heads record { symbol = Attacker; arity = 1 } from) (Fault at Syntax) (opened_ahead at heads record { symbol = Attacker; arity = 1 } from) (here_ahead at)
step-ahead binds P at heads from (InBound digits) b =
    either at (is_ascii_digit b) (goes heads (InBound (digits ++ b ∷ [])) from) (bound_ended at heads from digits b)
    (goes_ahead at heads (InBound (digits ++ b ∷ [])) from) (bound_ended-ahead at heads from digits b)
step-ahead binds P at heads from (Ended t) b = after_term-ahead at t heads from b

-- Reading on.

followed_later : (next : Reading → Read) (at : ℕ) (bytes : List ℕ) (s : Step) (place : ℕ) → Ahead at s → ((r : Reading) → next r ≡ Refused place Syntax → at ≤ place) → followed next at bytes s ≡ Refused place Syntax → at ≤ place
unfolding Ahead
followed_later next at bytes (Goes r) place ahead later e = later r e
followed_later next at bytes (Ends t) place ahead later e = absurd (cc)
followed_later next at bytes (Fault p c) place ahead later e =
    let places : p ≡ place = cc in
    let codes : c ≡ Syntax = cc in
    omega (arith, ahead codes, places)

cut_later : (at : ℕ) (heads : List Open) (from place : ℕ) → cut_off at heads from ≡ Refused place Syntax → at ≤ place
cut_later at heads from place e = by (is_deep heads) e
  where
    by : (deep : Bool) → (if deep then Refused from Count else Refused at Syntax) ≡ Refused place Syntax → at ≤ place
    by true told = absurd (cc)
    by false told = let places : at ≡ place = cc in omega (arith, places)

end_later : (at : ℕ) (heads : List Open) (from : ℕ) (mode : Mode) (place : ℕ) → at_end at heads from mode ≡ Refused place Syntax → at ≤ place
end_later at [] from Begins place e = let places : at ≡ place = cc in omega (arith, places)
end_later at (o ∷ heads) from Begins place e = cut_later at heads o.place place e
end_later at heads from (InWord word) place e = cut_later at heads from place e
end_later at heads from (InDigits word digits) place e = cut_later at heads from place e
end_later at heads from AtBracket place e = cut_later at heads from place e
end_later at heads from (InBound digits) place e = cut_later at heads from place e
end_later at heads from (Ended t) place e = cut_later at heads from place e

read_later : (binds : Bool) (P : Protocol) (bytes : List ℕ) (at place : ℕ) (r : Reading) → read_on binds P bytes at r ≡ Refused place Syntax → at ≤ place
read_later binds P [] at place r e = end_later at r.heads r.from r.mode place e
read_later binds P (b ∷ bytes) at place r e =
    followed_later (read_on binds P bytes (at + 1)) at (b ∷ bytes) (step binds P at r b) place (step-ahead binds P at r.heads r.from r.mode b)
    (λ s told. omega (arith, read_later binds P bytes (at + 1) place s told)) e

pub read_fault : (binds : Bool) (P : Protocol) (n : ℕ) (bytes others : List ℕ) (at place : ℕ) (r : Reading) → Shares n bytes others → place ≡ at + n → read_on binds P bytes at r ≡ Refused place Syntax → read_on binds P others at r ≡ Refused place Syntax
unfolding Shares
read_fault binds P n [] others at place r shares there e = absurd shares
read_fault binds P n (b ∷ bytes) [] at place r shares there e = absurd shares
read_fault binds P zero (b ∷ bytes) (c ∷ others) at place r shares there e = ap (λ d. read_on binds P (d ∷ others) at r) (sym shares) ∙ by (step binds P at r b) e
  where
    by : (s : Step) → followed (read_on binds P bytes (at + 1)) at (b ∷ bytes) s ≡ Refused place Syntax → followed (read_on binds P others (at + 1)) at (b ∷ others) s ≡ Refused place Syntax
    by (Goes s) told = absurd (omega (arith, read_later binds P bytes (at + 1) place s told, there))
    by (Ends t) told = absurd (cc)
    by (Fault p code) told = told
read_fault binds P (suc n) (b ∷ bytes) (c ∷ others) at place r shares there e = ap (λ d. read_on binds P (d ∷ others) at r) (sym shares.0) ∙ by (step binds P at r b) e (λ s. read_fault binds P n bytes others (at + 1) place s shares.1 (omega (arith, there)))
  where
    by : (s : Step) → followed (read_on binds P bytes (at + 1)) at (b ∷ bytes) s ≡ Refused place Syntax
        → ((s : Reading) → read_on binds P bytes (at + 1) s ≡ Refused place Syntax → read_on binds P others (at + 1) s ≡ Refused place Syntax)
        → followed (read_on binds P others (at + 1)) at (b ∷ others) s ≡ Refused place Syntax
    by (Goes s) told again = again s told
    by (Ends t) told again = absurd (cc)
    by (Fault p code) told again = told

pub read_passed : (binds : Bool) (P : Protocol) (bytes : List ℕ) (at place : ℕ) (t : Term) (rest : List ℕ) (r : Reading) → read_on binds P bytes at r ≡ Done t place rest → Passed bytes at place rest
read_passed binds P [] at place t rest r e = absurd (none_at_end at r.heads r.from r.mode t place rest e)
read_passed binds P (b ∷ bytes) at place t rest r e = by (step binds P at r b) e (λ s. read_passed binds P bytes (at + 1) place t rest s)
  where
    by : (s : Step) → followed (read_on binds P bytes (at + 1)) at (b ∷ bytes) s ≡ Done t place rest → ((s : Reading) → read_on binds P bytes (at + 1) s ≡ Done t place rest → Passed bytes (at + 1) place rest) → Passed (b ∷ bytes) at place rest
    by (Goes s) told again = let cut = again s told in record { count = suc cut.count; there = omega (arith, cut.there); is = cut.is }
    by (Ends u) told again = let places : at ≡ place = cc in let rests : b ∷ bytes ≡ rest = cc in record { count = 0; there = omega (arith, places); is = sym rests }
    by (Fault p code) told again = absurd (cc)

read_found : (binds : Bool) (P : Protocol) (n : ℕ) (bytes others : List ℕ) (at place : ℕ) (t : Term) (rest : List ℕ) (r : Reading) → Shares n bytes others → place ≡ at + n → read_on binds P bytes at r ≡ Done t place rest → read_on binds P others at r ≡ Done t place (drop n others)
unfolding Shares
read_found binds P n [] others at place t rest r shares there e = absurd shares
read_found binds P n (b ∷ bytes) [] at place t rest r shares there e = absurd shares
read_found binds P zero (b ∷ bytes) (c ∷ others) at place t rest r shares there e = ap (λ d. read_on binds P (d ∷ others) at r) (sym shares) ∙ (by (step binds P at r b) e ∙ ap (λ d. Done t place (d ∷ others)) shares)
  where
    by : (s : Step) → followed (read_on binds P bytes (at + 1)) at (b ∷ bytes) s ≡ Done t place rest → followed (read_on binds P others (at + 1)) at (b ∷ others) s ≡ Done t place (b ∷ others)
    by (Goes s) told = let cut = read_passed binds P bytes (at + 1) place t rest s told in absurd (omega (arith, cut.there, there))
    by (Ends u) told = let same : u ≡ t = cc in let places : at ≡ place = cc in ap (λ v. Done v at (b ∷ others)) same ∙ ap (λ p. Done t p (b ∷ others)) places
    by (Fault p code) told = absurd (cc)
read_found binds P (suc n) (b ∷ bytes) (c ∷ others) at place t rest r shares there e = ap (λ d. read_on binds P (d ∷ others) at r) (sym shares.0) ∙ by (step binds P at r b) e (λ s. read_found binds P n bytes others (at + 1) place t rest s shares.1 (omega (arith, there)))
  where
    by : (s : Step) → followed (read_on binds P bytes (at + 1)) at (b ∷ bytes) s ≡ Done t place rest
        → ((s : Reading) → read_on binds P bytes (at + 1) s ≡ Done t place rest → read_on binds P others (at + 1) s ≡ Done t place (drop n others))
        → followed (read_on binds P others (at + 1)) at (b ∷ others) s ≡ Done t place (drop n others)
    by (Goes s) told again = again s told
    by (Ends u) told again = let places : at ≡ place = cc in absurd (omega (arith, places, there))
    by (Fault p code) told again = absurd (cc)

-- What comes of a term's reading.

pub as_refused : (o : Read) (place : ℕ) (code : Code) → term_outcome o ≡ Faulty place code → o ≡ Refused place code
as_refused (Done t p rest) place code e = absurd (cc)
as_refused (Refused p c) place code e =
    let places : p ≡ place = cc in
    let codes : c ≡ code = cc in
    ap (λ q. Refused q c) places ∙ ap (Refused place) codes

pub tree_local : (binds : Bool) (P : Protocol) → IsLocal (one_tree binds P)
tree_local binds P = record {
  fault = λ bytes others at n place shares there e. ap term_outcome (read_fault binds P n bytes others at place record { heads = []; mode = Begins; from = at } shares there (as_refused (read_tree binds P bytes at) place Syntax e));
  found = λ bytes others at n place t rest shares there e. ap term_outcome (read_found binds P n bytes others at place t rest record { heads = []; mode = Begins; from = at } shares there (as_done (read_tree binds P bytes at) t place rest e));
  passed = λ bytes at place t rest e. read_passed binds P bytes at place t rest record { heads = []; mode = Begins; from = at } (as_done (read_tree binds P bytes at) t place rest e);
  later = λ bytes at place e. read_later binds P bytes at place record { heads = []; mode = Begins; from = at } (as_refused (read_tree binds P bytes at) place Syntax e);
}
