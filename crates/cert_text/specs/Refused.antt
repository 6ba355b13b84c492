-- Why bytes are refused, by the first fault that stands in them.
use Rattle.std.specs.Prelude.{◌≡◌, ◌⊎◌, ℕ, List, Option, Some, None, Result, Ok, Err}
use Rattle.spec_certificate_text.specs.Terms.{Code}
use Rattle.spec_certificate_faults.specs.First.{Kind, IsFirstFault}
use Rattle.fact_reader.specs.declared.error.CertError.{CertError}
use Rattle.fact_reader.specs.Errors.{refusal_of}
use Rattle.cert_text.specs.Spelled.{IsMemory}

-- this refusal is the first fault, unless memory ran out
abbrev pub IsFirstOf : Kind → List ℕ → ℕ → Option (Code × ℕ) → Type 0
IsFirstOf K bytes at (Some refusal) = IsFirstFault K bytes at refusal.1 refusal.0
IsFirstOf K bytes at None = Unit {0}

-- the bytes are refused for this, there, unless memory ran out
abbrev pub GivesRefusal : {T : Type 0} → ℕ → Code → Result T CertError → Type 0
GivesRefusal place code (Ok x) = ⊥
GivesRefusal place code (Err e) = (refusal_of e ≡ Some (code, place)) ⊎ IsMemory e
