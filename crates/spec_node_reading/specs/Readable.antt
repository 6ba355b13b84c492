-- Which bytes spell a certificate.
use Rattle.std.specs.Prelude.{◌≡◌, ℕ, ◌⊎◌, List}
use Rattle.spec_calculus.specs.Syntax.{Protocol}
use Rattle.spec_certificates.specs.Certificate.{Certificate}
use Rattle.spec_certificate_text.specs.Text.{certificate_text}
use Rattle.spec_certificate_text.specs.Readable.{IsReadableCertificate}
use Rattle.spec_node_tables.specs.Text.{text_with_nodes}
use Rattle.spec_node_faults.specs.Grammar.{IsNumberable}

-- the bytes are the text of a certificate by its table, and then the rest
pub record SpellsNumbered (P : Protocol) (bytes : List ℕ) (c : Certificate) (rest : List ℕ) : Type 0 where
  pub may : IsNumberable P c
  pub text : bytes ≡ text_with_nodes P c rest

-- the bytes are the text of a certificate without a table, and then the rest
pub record SpellsPlain (P : Protocol) (bytes : List ℕ) (c : Certificate) (rest : List ℕ) : Type 0 where
  pub may : IsReadableCertificate P c
  pub text : bytes ≡ certificate_text P c rest

-- in the one format or the other
abbrev pub SpellsCertificate : Protocol → List ℕ → Certificate → List ℕ → Type 0
SpellsCertificate P bytes c rest = SpellsPlain P bytes c rest ⊎ SpellsNumbered P bytes c rest
