-- What is read of bytes from one cursor to another: what the definition finds, or its fault.
use Rattle.std.specs.Prelude.{◌≡◌, ℕ, List, drop, Result, Ok, Err}
use Rattle.spec_certificate_text.specs.Outcomes.{Outcome, Found, Reader}
use Rattle.fact_reader.specs.declared.error.CertError.{CertError}
use Rattle.fact_reader.specs.declared.cursor.Cursor.{Cursor}
use Rattle.fact_reader.specs.Gives.{HasFault}

-- the bytes from the cursor on
abbrev pub left_of : Cursor → List ℕ
left_of c = drop c.at c.bytes.now

-- reading finds this, and goes on at that place with the rest; or it has the fault
abbrev pub Finds : {T X : Type 0} → (T → X) → Result T CertError → ℕ → List ℕ → Outcome X → Type 0
Finds view (Ok x) place rest o = o ≡ Found (view x) place rest
Finds view (Err e) place rest o = HasFault e o

-- what the reader reads from the first cursor on stands before the second
abbrev pub Reads : {T X : Type 0} → (T → X) → Reader X → Cursor → Cursor → Result T CertError → Type 0
Reads view reader old new result = Finds view result new.at (left_of new) (reader (left_of old) old.at)

-- the same of what is passed over
abbrev pub Passes : Reader (Unit {0}) → Cursor → Cursor → Result (Unit {0}) CertError → Type 0
Passes reader old new result = Finds (λ _. tt) result new.at (left_of new) (reader (left_of old) old.at)
