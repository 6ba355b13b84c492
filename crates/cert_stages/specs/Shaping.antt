-- What is answered of the shapes of a certificate's clauses.
use Rattle.std.specs.Prelude.{ℕ, Option, Some, None, List}
use Rattle.spec_certificates.specs.Certificate.{Numbered}
use Rattle.cert_stages.specs.Stages.{AreInShape, FirstMisshapen}

-- none of the clauses is misshapen, or the one of that number is the first
abbrev pub AreShaped : ℕ → List Numbered → Option ℕ → Type 0
AreShaped n cs None = AreInShape n cs
AreShaped n cs (Some number) = FirstMisshapen n cs number
