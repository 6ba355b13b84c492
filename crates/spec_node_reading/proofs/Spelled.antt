-- Bytes begin with the text of one certificate at most, in either format.
use Rattle.std.proofs.Common.{◌≡◌, inl, inr, ℕ, List, sym, ◌∙◌, arith}
use Rattle.spec_calculus.specs.Syntax.{Protocol}
use Rattle.spec_certificates.specs.Certificate.{Certificate}
use Rattle.spec_certificate_text.specs.OfProtocol.{HasNames}
use Rattle.spec_certificate_text.proofs.CertificatesRead.{one_certificate}
use Rattle.spec_node_tables.specs.Nodes.{with_nodes}
use Rattle.spec_node_tables.proofs.Sizes.{few_nodes}
use Rattle.spec_node_tables.proofs.Certificates.{certificates_apart, formats_apart}
use Rattle.spec_node_reading.specs.Readable.{SpellsNumbered, SpellsPlain, SpellsCertificate}

pub formats_differ : (P : Protocol) (bytes : List ℕ) (c d : Certificate) (k l : List ℕ) → SpellsPlain P bytes c k → SpellsNumbered P bytes d l → ⊥
formats_differ P bytes c d k l one two = formats_apart P P c (with_nodes d) k l (sym one.text ∙ two.text)

pub one_spelled : (P : Protocol) → HasNames P → (bytes : List ℕ) (c d : Certificate) (k l : List ℕ) → SpellsCertificate P bytes c k → SpellsCertificate P bytes d l → (c ≡ d) × (k ≡ l)
one_spelled P names bytes c d k l (inl one) (inl two) = one_certificate P names c d k l one.may two.may (sym one.text ∙ two.text)
one_spelled P names bytes c d k l (inl one) (inr two) = absurd (formats_differ P bytes c d k l one two)
one_spelled P names bytes c d k l (inr one) (inl two) = absurd (formats_differ P bytes d c l k two one)
one_spelled P names bytes c d k l (inr one) (inr two) =
    let few = few_nodes c.clauses one.may.fits in
    let also = few_nodes d.clauses two.may.fits in
    let same = certificates_apart P names c d k l one.may.is two.may.is (omega arith) (omega arith) (sym one.text ∙ two.text) in
    (same.thing, same.rest)
