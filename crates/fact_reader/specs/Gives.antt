-- What the parts of the reader give: what the definition finds, or its fault.
use Rattle.std.specs.Prelude.{◌≡◌, ℕ, ◌≤◌, List, drop, length, Result, Ok, Err}
use Rattle.spec_certificate_text.specs.Terms as terms
use Rattle.spec_certificate_text.specs.Outcomes.{Outcome, Found, Faulty}
use Rattle.fact_reader.specs.declared.error.CertError.{CertError}
use Rattle.fact_reader.specs.declared.error.CertError.TheVariants.{Syntax, Number, Symbol, Arity, Count, NodeOrder, NodeLarge, Memory}

-- reading has this fault, unless memory ran out
abbrev pub HasFault : {X : Type 0} → CertError → Outcome X → Type 0
HasFault (Syntax place) o = o ≡ Faulty place terms.Syntax
HasFault (Number place) o = o ≡ Faulty place terms.Number
HasFault (Symbol place) o = o ≡ Faulty place terms.Symbol
HasFault (Arity place) o = o ≡ Faulty place terms.Arity
HasFault (Count place) o = o ≡ Faulty place terms.Count
HasFault (NodeOrder place) o = o ≡ Faulty place terms.NodeOrder
HasFault (NodeLarge place) o = o ≡ Faulty place terms.NodeLarge
HasFault (Memory e) o = Unit {0}

-- of these bytes reading finds this and goes on at that place; or it has the fault
abbrev pub Gives : {T X : Type 0} → (T → X) → List ℕ → Result (T × ℕ) CertError → Outcome X → Type 0
Gives view bytes (Ok x) o = o ≡ Found (view x.0) x.1 (drop x.1 bytes)
Gives view bytes (Err e) o = HasFault e o

-- the same of what is passed over
abbrev pub GivesPlace : List ℕ → Result ℕ CertError → Outcome (Unit {0}) → Type 0
GivesPlace bytes (Ok place) o = o ≡ Found tt place (drop place bytes)
GivesPlace bytes (Err e) o = HasFault e o

abbrev pub same : {X : Type 0} → X → X
same x = x

-- where something was read, it ends within so many bytes
abbrev pub StopsWithin : {T : Type 0} → List ℕ → Result (T × ℕ) CertError → Type 0
StopsWithin bytes (Ok x) = x.1 ≤ length bytes
StopsWithin bytes (Err e) = Unit {0}

abbrev pub PlaceWithin : List ℕ → Result ℕ CertError → Type 0
PlaceWithin bytes (Ok place) = place ≤ length bytes
PlaceWithin bytes (Err e) = Unit {0}
