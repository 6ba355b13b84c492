-- What the functions of the rules of scope answer.
use Rattle.std.specs.Prelude.{◌≡◌, Result, Ok, Err}
use Rattle.spec_protocol_scope.specs.Answers as own
use Rattle.scope_declarations.specs.declared.stop.Code.{Code}
use Rattle.scope_declarations.specs.declared.stop.Code.TheVariants as c
use Rattle.scope_declarations.specs.declared.stop.Stop.{Stop}
use Rattle.scope_declarations.specs.declared.stop.Stop.TheVariants as stop

-- the code of a fault
abbrev pub code_of : Code → own.Code
code_of c.Unknown = own.Unknown
code_of c.Twice = own.Twice
code_of c.Arity = own.Arity
code_of c.Kind = own.Kind
code_of c.LooseVariable = own.LooseVariable
code_of c.TooMany = own.TooMany
code_of c.AmbiguousNew = own.AmbiguousNew
code_of c.PhaseOrder = own.PhaseOrder

-- the answer is this fault; want of memory says nothing
abbrev pub Stops : {Y : Type 0} → Stop → own.Answer Y → Type 0
Stops (stop.Fault code token) read = read ≡ own.fault (code_of code) token
Stops (stop.Memory e) read = Unit {0}

-- what was found, seen by view, is the answer, unless memory ran out
abbrev pub Gives : {X Y : Type 0} → (X → Y) → Result X Stop → own.Answer Y → Type 0
Gives view (Ok x) read = read ≡ Ok (view x)
Gives view (Err e) read = Stops e read

-- and with it stands what was collected on the way
abbrev pub GivesWith : {X Y Z : Type 0} → (X → Y) → Result X Stop → Z → own.Answer (Y × Z) → Type 0
GivesWith view (Ok x) collected read = read ≡ Ok (view x, collected)
GivesWith view (Err e) collected read = Stops e read

-- what was changed is the answer, unless memory ran out
abbrev pub Turns : {Y : Type 0} → Y → Result Unit Stop → own.Answer Y → Type 0
Turns changed (Ok x) read = read ≡ Ok changed
Turns changed (Err e) read = Stops e read
