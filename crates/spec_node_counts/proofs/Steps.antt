-- The steps of lines.
use Rattle.std.proofs.Common.{◌≡◌, ℕ, suc, ◌==◌, if◌then◌else◌, List, refl}
use Rattle.spec_certificate_text.specs.Terms.{Count}
use Rattle.spec_certificate_text.specs.Outcomes.{Outcome, Found, Faulty, next, front, Reader}
use Rattle.spec_node_reading.specs.Loops.{lines_through}

abbrev pub behind_line : {S : Type 0} → ℕ → (S → Reader S) → ℕ → S → ℕ → List ℕ → Outcome S
behind_line letter one most t place rest = lines_through letter one most t rest place

pub line_more : {S : Type 0} (letter : ℕ) (one : S → Reader S) (most : ℕ) (s : S) (bytes : List ℕ) (at : ℕ)
    → lines_through letter one (suc most) s bytes at ≡ (if front bytes == letter then next (one s bytes at) (behind_line letter one most) else Found s at bytes)
unfolding lines_through
line_more letter one most s bytes at = refl

pub line_full : {S : Type 0} (letter : ℕ) (one : S → Reader S) (s : S) (bytes : List ℕ) (at : ℕ) → lines_through letter one 0 s bytes at ≡ (if front bytes == letter then Faulty at Count else Found s at bytes)
unfolding lines_through
line_full letter one s bytes at = refl
