-- Where a term is too deep, a fault is told at its first byte.
use Rattle.std.proofs.Common.{◌≡◌, ℕ, suc, ◌+◌, ◌<◌, ◌≤◌, inr, Bool, true, false, ◌==◌, ◌&&◌, if◌then◌else◌, List, [], ◌∷◌, ◌++◌, length, drop, Option, Some, None, refl, sym, ◌∙◌, ap, subst, arith}
use Rattle.std.proofs.lemmas.Bool.Decides.{nat_tests}
use Rattle.std.specs.Char.{is_ascii_digit}
use Rattle.spec_trees.specs.Tree.{node}
use Rattle.spec_calculus.specs.Bounds.{most_term_levels}
use Rattle.spec_calculus.specs.Syntax.{Protocol}
use Rattle.spec_protocol_tokens.specs.Bytes.{begins_word, is_in_word}
use Rattle.spec_protocol_scope.specs.Names.{is_variable}
use Rattle.spec_terms.specs.Term.{Tuple}
use Rattle.spec_run_text.specs.Reading.{numeral}
use Rattle.spec_certificate_text.specs.Names.{Named, symbol_called, name_called}
use Rattle.spec_certificate_text.specs.Terms.{Code, Syntax, Symbol, Arity, Count, Open, Begins, InWord, InDigits, AtBracket, InBound, Ended, Reading, Step, Goes, Fault}
use Rattle.spec_certificate_text.specs.Steps.{is_deep, goes, unless_deep, opened, with_parts, has_arity, closed, may_be_empty, apply, after_term, after_variable, after_name, after_word, after_point, after_number, after_digits, begin_bound, begin_term, step}
use Rattle.spec_certificate_text.specs.Runs.{Refused, followed, cut_off, read_on}
use Rattle.spec_certificate_text.proofs.Complete.{reading, taken, head_over}
use Rattle.spec_certificate_faults.specs.TermFaults.{IsTooDeep}
use Rattle.spec_certificate_faults.specs.First.{code_number}
use Rattle.spec_certificate_faults.proofs.Comes.{either, StandsBefore, begins_no_bracket, begins_or}
use Rattle.spec_certificate_faults.proofs.Told.{IsTold, told_before}

-- a fault of terms is told at the place
record TellsAt (binds : Bool) (P : Protocol) (bytes : List ℕ) (at : ℕ) (r : Reading) (from : ℕ) : Type 0 where
  code : Code
  is : read_on binds P bytes at r ≡ Refused from code
  least : code_number code ≤ 5

-- so after a step
record Tells (binds : Bool) (P : Protocol) (b : ℕ) (bytes : List ℕ) (at : ℕ) (s : Step) (from : ℕ) : Type 0 where
  code : Code
  is : followed (read_on binds P bytes (at + 1)) at (b ∷ bytes) s ≡ Refused from code
  least : code_number code ≤ 5

tells_fault : (binds : Bool) (P : Protocol) (b : ℕ) (bytes : List ℕ) (at from : ℕ) (code : Code) → code_number code ≤ 5 → Tells binds P b bytes at (Fault from code) from
tells_fault binds P b bytes at from code least = record { code = code; is = refl; least = least }

tells_deep : (binds : Bool) (P : Protocol) (b : ℕ) (bytes : List ℕ) (at : ℕ) (heads : List Open) (from : ℕ) (s : Step) → is_deep heads ≡ true → Tells binds P b bytes at (unless_deep heads from s) from
tells_deep binds P b bytes at heads from s deep = record { code = Count; is = ap (followed (read_on binds P bytes (at + 1)) at (b ∷ bytes)) (taken (is_deep heads) (Fault from Count) s _ deep refl); least = omega arith }

tells_either : (binds : Bool) (P : Protocol) (b : ℕ) (bytes : List ℕ) (at : ℕ) (test : Bool) (x y : Step) (from : ℕ) → Tells binds P b bytes at x from → Tells binds P b bytes at y from → Tells binds P b bytes at (if test then x else y) from
tells_either binds P b bytes at true x y from first second = first
tells_either binds P b bytes at false x y from first second = second

tells_on : (binds : Bool) (P : Protocol) (b : ℕ) (bytes : List ℕ) (at : ℕ) (r : Reading) (from : ℕ) → TellsAt binds P bytes (at + 1) r from → Tells binds P b bytes at (Goes r) from
tells_on binds P b bytes at r from later = record { code = later.code; is = later.is; least = later.least }

tells_step : (binds : Bool) (P : Protocol) (b : ℕ) (bytes : List ℕ) (at : ℕ) (r : Reading) (from : ℕ) → Tells binds P b bytes at (step binds P at r b) from → TellsAt binds P (b ∷ bytes) at r from
tells_step binds P b bytes at r from told = record { code = told.code; is = told.is; least = told.least }

cut_deep : (at : ℕ) (heads : List Open) (from : ℕ) → is_deep heads ≡ true → cut_off at heads from ≡ Refused from Count
cut_deep at heads from deep = ap (λ b. if b then Refused from Count else Refused at Syntax) deep

-- within the arguments of a symbol that is too deep
begins_deep : (binds : Bool) (P : Protocol) (bytes : List ℕ) (at : ℕ) (o : Open) (heads : List Open) (from : ℕ) → is_deep heads ≡ true → TellsAt binds P bytes at (reading (o ∷ heads) Begins from) o.place
begins_deep binds P [] at o heads from deep = record { code = Count; is = cut_deep at heads o.place deep; least = omega arith }
begins_deep binds P (b ∷ bytes) at o heads from deep =
    let ended = goes heads (Ended (node (with_parts o.symbol 0) [])) o.place in
    tells_step binds P b bytes at (reading (o ∷ heads) Begins from) o.place
    (tells_either binds P b bytes at ((b == 93) && may_be_empty o.symbol o.arguments) (closed o heads []) (unless_deep heads o.place (begin_term binds at (o ∷ heads) b)) o.place
    (tells_either binds P b bytes at (has_arity o.symbol o.arity 0) (unless_deep heads o.place ended) (Fault o.place Arity) o.place (tells_deep binds P b bytes at heads o.place ended deep) (tells_fault binds P b bytes at o.place Arity (omega arith)))
    (tells_deep binds P b bytes at heads o.place (begin_term binds at (o ∷ heads) b) deep))

point_deep : (binds : Bool) (P : Protocol) (b : ℕ) (bytes : List ℕ) (at : ℕ) (heads : List Open) (from : ℕ) (found : Option Named) → is_deep heads ≡ true → Tells binds P b bytes at (after_point at heads from found b) from
point_deep binds P b bytes at heads from None deep = tells_fault binds P b bytes at from Symbol (omega arith)
point_deep binds P b bytes at heads from (Some named) deep =
    tells_either binds P b bytes at (b == 91) (opened heads named from) (unless_deep heads from (Fault at Syntax)) from
    (tells_on binds P b bytes at (reading (head_over named from [] ∷ heads) Begins from) from (begins_deep binds P bytes (at + 1) (head_over named from []) heads from deep))
    (tells_deep binds P b bytes at heads from (Fault at Syntax) deep)

number_deep : (binds : Bool) (P : Protocol) (b : ℕ) (bytes : List ℕ) (at : ℕ) (heads : List Open) (from : ℕ) (word digits : List ℕ) (number : Option ℕ) → is_deep heads ≡ true → Tells binds P b bytes at (after_number P at heads from word digits number b) from
number_deep binds P b bytes at heads from word digits None deep = tells_deep binds P b bytes at heads from _ deep
number_deep binds P b bytes at heads from word digits (Some point) deep = point_deep binds P b bytes at heads from (name_called P word point) deep

after_digits_deep : (binds : Bool) (P : Protocol) (b : ℕ) (bytes : List ℕ) (at : ℕ) (heads : List Open) (from : ℕ) (word digits : List ℕ) → is_deep heads ≡ true → Tells binds P b bytes at (after_digits P at heads from word digits b) from
after_digits_deep binds P b bytes at heads from word [] deep = tells_deep binds P b bytes at heads from (Fault at Syntax) deep
after_digits_deep binds P b bytes at heads from word (d ∷ ds) deep = number_deep binds P b bytes at heads from word (d ∷ ds) (numeral (d ∷ ds)) deep

digits_deep : (binds : Bool) (P : Protocol) (bytes : List ℕ) (at : ℕ) (heads : List Open) (from : ℕ) (word digits : List ℕ) → is_deep heads ≡ true → TellsAt binds P bytes at (reading heads (InDigits word digits) from) from
digits_deep binds P [] at heads from word digits deep = record { code = Count; is = cut_deep at heads from deep; least = omega arith }
digits_deep binds P (b ∷ bytes) at heads from word digits deep =
    let longer = reading heads (InDigits word (digits ++ b ∷ [])) from in
    tells_step binds P b bytes at (reading heads (InDigits word digits) from) from
    (tells_either binds P b bytes at (is_ascii_digit b) (Goes longer) (after_digits P at heads from word digits b) from
    (tells_on binds P b bytes at longer from (digits_deep binds P bytes (at + 1) heads from word (digits ++ b ∷ []) deep))
    (after_digits_deep binds P b bytes at heads from word digits deep))

apply_deep : (binds : Bool) (P : Protocol) (b : ℕ) (bytes : List ℕ) (at : ℕ) (heads : List Open) (from : ℕ) (found : Option Named) → is_deep heads ≡ true → Tells binds P b bytes at (apply heads from found) from
apply_deep binds P b bytes at heads from None deep = tells_fault binds P b bytes at from Symbol (omega arith)
apply_deep binds P b bytes at heads from (Some named) deep = tells_deep binds P b bytes at heads from (opened heads named from) deep

name_deep : (binds : Bool) (P : Protocol) (b : ℕ) (bytes : List ℕ) (at : ℕ) (heads : List Open) (from : ℕ) (found : Option Named) → is_deep heads ≡ true → Tells binds P b bytes at (after_name at heads from found b) from
name_deep binds P b bytes at heads from None deep = tells_fault binds P b bytes at from Symbol (omega arith)
name_deep binds P b bytes at heads from (Some named) deep =
    let ended = after_term at (node named.symbol []) heads from b in
    tells_either binds P b bytes at (named.arity == 0) (unless_deep heads from ended) (Fault from Arity) from (tells_deep binds P b bytes at heads from ended deep) (tells_fault binds P b bytes at from Arity (omega arith))

word_deep : (binds : Bool) (P : Protocol) (bytes : List ℕ) (at : ℕ) (heads : List Open) (from : ℕ) (word : List ℕ) → is_deep heads ≡ true → TellsAt binds P bytes at (reading heads (InWord word) from) from
word_deep binds P [] at heads from word deep = record { code = Count; is = cut_deep at heads from deep; least = omega arith }
word_deep binds P (b ∷ bytes) at heads from word deep =
    let longer = reading heads (InWord (word ++ b ∷ [])) from in
    let behind = reading heads (InDigits word []) from in
    let number = after_variable at heads from (drop 1 word) (numeral (drop 1 word)) b in
    let ended = after_word P at heads from word b in
    tells_step binds P b bytes at (reading heads (InWord word) from) from
    (tells_either binds P b bytes at (is_in_word b) (Goes longer) (if b == 40 then apply heads from (symbol_called P word) else (if b == 64 then Goes behind else ended)) from
    (tells_on binds P b bytes at longer from (word_deep binds P bytes (at + 1) heads from (word ++ b ∷ []) deep))
    (tells_either binds P b bytes at (b == 40) (apply heads from (symbol_called P word)) (if b == 64 then Goes behind else ended) from
    (apply_deep binds P b bytes at heads from (symbol_called P word) deep)
    (tells_either binds P b bytes at (b == 64) (Goes behind) ended from
    (tells_on binds P b bytes at behind from (digits_deep binds P bytes (at + 1) heads from word [] deep))
    (tells_either binds P b bytes at (is_variable word) (unless_deep heads from number) (after_name at heads from (symbol_called P word) b) from
    (tells_deep binds P b bytes at heads from number deep) (name_deep binds P b bytes at heads from (symbol_called P word) deep)))))

bound_deep : (binds : Bool) (P : Protocol) (b : ℕ) (bytes : List ℕ) (at : ℕ) (heads : List Open) → is_deep heads ≡ true → Tells binds P b bytes at (begin_bound binds at heads) at
bound_deep true P b bytes at heads deep = tells_deep true P b bytes at heads at (goes heads (InBound []) at) deep
bound_deep false P b bytes at heads deep = tells_fault false P b bytes at at Symbol (omega arith)

-- any byte that begins a term, and another too
first_deep : (binds : Bool) (P : Protocol) (b : ℕ) (bytes : List ℕ) (at : ℕ) (heads : List Open) → is_deep heads ≡ true → Tells binds P b bytes at (begin_term binds at heads b) at
first_deep binds P b bytes at heads deep =
    let in_word = reading heads (InWord (b ∷ [])) at in
    let tuple = opened heads record { symbol = Tuple 0; arity = 0 } at in
    let bracket = goes heads AtBracket at in
    let bound = if b == 63 then begin_bound binds at heads else Fault at Syntax in
    let mark = if b == 64 then unless_deep heads at bracket else bound in
    tells_either binds P b bytes at (begins_word b) (Goes in_word) (if b == 40 then unless_deep heads at tuple else mark) at
    (tells_on binds P b bytes at in_word at (word_deep binds P bytes (at + 1) heads at (b ∷ []) deep))
    (tells_either binds P b bytes at (b == 40) (unless_deep heads at tuple) mark at
    (tells_deep binds P b bytes at heads at tuple deep)
    (tells_either binds P b bytes at (b == 64) (unless_deep heads at bracket) bound at
    (tells_deep binds P b bytes at heads at bracket deep)
    (tells_either binds P b bytes at (b == 63) (begin_bound binds at heads) (Fault at Syntax) at
    (bound_deep binds P b bytes at heads deep) (tells_fault binds P b bytes at at Syntax (omega arith)))))

is_deep_is : (heads : List Open) → most_term_levels < suc (length heads) → is_deep heads ≡ true
is_deep_is heads many = grind (arith, nat_tests)

pub count_told : (binds : Bool) (P : Protocol) (here : List ℕ) (heads : List Open) → IsTooDeep (suc (length heads)) here → (at from : ℕ) → StandsBefore heads at → IsTold binds P here at (reading heads Begins from) here Count
count_told binds P here heads is at from before =
    let bytes = is.first ∷ is.later in
    let start = reading heads Begins from in
    subst (λ bs. IsTold binds P bs at (reading heads Begins from) bs Count) (sym is.text)
    (either (begins_or binds at heads is.first (begins_no_bracket is.first is.begins) before)
    (λ begins.
    let told = first_deep binds P is.first is.later at heads (is_deep_is heads is.deep) in
    record {
      place = at;
      told = told.code;
      is = ap (followed (read_on binds P is.later (at + 1)) at bytes) begins ∙ told.is;
      not_after = inr (refl, told.least);
    })
    (λ deep. told_before binds P is.first is.later at start bytes Count deep.0 Count deep.1 (omega (arith, deep.2))))
