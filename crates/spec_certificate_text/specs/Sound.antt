-- What was read is the text.
use Rattle.std.specs.Prelude.{◌≡◌, ℕ, List, ◌∷◌}
use Rattle.spec_calculus.specs.Syntax.{Protocol}
use Rattle.spec_certificate_text.specs.Text.{term_text}
use Rattle.spec_certificate_text.specs.Terms.{Step, Goes, Ends, Fault, so_far}

-- of a text, whose byte b was looked at and whose rest was not, this is what was read, where it was not refused
abbrev pub IsSound : Protocol → List ℕ → ℕ → List ℕ → Step → Type 0
IsSound P text b rest (Goes r) = text ≡ so_far P r rest
IsSound P text b rest (Ends t) = text ≡ term_text P t (b ∷ rest)
IsSound P text b rest (Fault place code) = Unit {0}
