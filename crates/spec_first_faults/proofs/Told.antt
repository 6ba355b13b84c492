-- The laws of first faults, of readers that tell them.
use Rattle.std.proofs.Common.{◌≡◌, ℕ, List, inl, inr}
use Rattle.spec_certificate_text.specs.Outcomes.{Found, Reader}
use Rattle.spec_certificate_faults.specs.First.{Kind}
use Rattle.spec_first_faults.specs.Told.{IsToldFirst, IsFaultless}
use Rattle.spec_first_faults.proofs.Tells.{Anything, TextRead, Tells}
use Rattle.spec_first_faults.proofs.Law.{told_stands, told_is_first, first_is_told, found_has_none}

pub first_told : {A : Type 0} {Last : Type 0} (K : Kind) (May : List ℕ → Type 0) (r : Reader A) → Tells Last K Anything May r → IsToldFirst K r
first_told K May r tells = λ bytes at place code. (λ e. told_is_first K May r tells bytes at place code e, λ is. first_is_told K May r tells bytes at place code is)

pub found_faultless : {A : Type 0} {Last : Type 0} (K : Kind) (May : List ℕ → Type 0) (r : Reader A) → Tells Last K Anything May r → (bytes : List ℕ) (place : ℕ) (x : A) (rest : List ℕ) → r bytes 0 ≡ Found x place rest → IsFaultless K bytes rest
found_faultless K May r tells bytes place x rest e = record {
  text = tells.found bytes 0 place x rest tt e;
  none = λ other code stands. found_has_none K May r tells bytes 0 place x rest e other code stands;
}

-- something is read of bytes without a fault
pub faultless_found : {A : Type 0} {Last : Type 0} (K : Kind) (May : List ℕ → Type 0) (r : Reader A) → Tells Last K Anything May r → (bytes rest : List ℕ) → IsFaultless K bytes rest → (x : A) × (place : ℕ) × (r bytes 0 ≡ Found x place rest)
faultless_found {A} {Last} K May r tells bytes rest is = by (tells.texts bytes rest 0 tt is.text)
  where
    by : TextRead Last (r bytes 0) bytes 0 rest → (x : A) × (place : ℕ) × (r bytes 0 ≡ Found x place rest)
    by (inl finds) = (finds.value, finds.place, finds.is)
    by (inr stops) = absurd (is.none stops.place stops.code (told_stands K May r tells bytes 0 stops.place stops.code stops.is))
