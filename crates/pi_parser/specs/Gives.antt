-- What the parts of the parser give: what reading finds, or its fault.
use Rattle.std.specs.Prelude.{◌≡◌, ℕ, ◌+◌, ◌<◌, ◌≤◌, true, false, List, length, Result, Ok, Err}
use Rattle.spec_protocol_grammar.specs.declared.class.Class.{Class}
use Rattle.spec_protocol_grammar.specs.Classes.{words, fits}
use Rattle.spec_protocol_grammar.specs.Reading.{Read, Found, Unexpected, TooDeep}
use Rattle.pi_parser.specs.declared.error.Fault.{Fault}
use Rattle.pi_parser.specs.declared.error.Fault.TheVariants as fault

-- reading has this fault, unless memory ran out
abbrev pub HasFault : {X : Type 0} → Fault → Read X → Type 0
HasFault (fault.Unexpected i) read = read ≡ Unexpected i
HasFault (fault.TooDeep i) read = read ≡ TooDeep i
HasFault (fault.Memory e) read = Unit {0}

-- reading finds this, and goes on at that word; or it has the fault
abbrev pub Gives : {T X : Type 0} → (T → X) → Result (T × ℕ) Fault → Read X → Type 0
Gives view (Ok x) read = read ≡ Found (view x.0) x.1
Gives view (Err e) read = HasFault e read

-- a word of this class stands there, or it is unexpected
abbrev pub Marks : List Class → ℕ → Class → Result ℕ Fault → Type 0
Marks classes at class (Ok end) = (end ≡ at + 1) × (fits class (words classes at).class ≡ true)
Marks classes at class (Err e) = (e ≡ fault.Unexpected at) × (fits class (words classes at).class ≡ false)

-- what was read has a word at least, and no more than there are
abbrev pub IsBehind : {T : Type 0} → List Class → ℕ → Result (T × ℕ) Fault → Type 0
IsBehind classes at (Ok x) = (at < x.1) × (x.1 ≤ length classes)
IsBehind classes at (Err e) = Unit {0}

-- more parts than any list of this many words has
abbrev pub most_of : List Class → ℕ
most_of classes = length classes + 1
