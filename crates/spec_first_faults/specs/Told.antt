-- What readers tell of a kind of texts.
use Rattle.std.specs.Prelude.{◌≡◌, ◌↔◌, ℕ, List}
use Rattle.spec_certificate_text.specs.Terms.{Code}
use Rattle.spec_certificate_text.specs.Outcomes.{Faulty, Reader}
use Rattle.spec_certificate_faults.specs.First.{Kind, StandsAt, IsFirstFault}

-- the first fault is told, exactly where there is one
abbrev pub IsToldFirst : {A : Type 0} → Kind → Reader A → Type 0
IsToldFirst K r = (bytes : List ℕ) (at place : ℕ) (code : Code) → (r bytes at ≡ Faulty place code) ↔ IsFirstFault K bytes at place code

-- the bytes are a text of the grammar, and then the rest, and no fault stands in them
pub record IsFaultless (K : Kind) (bytes rest : List ℕ) : Type 0 where
  pub text : K.Text bytes rest
  pub none : (place : ℕ) (code : Code) → StandsAt K bytes 0 place code → ⊥
