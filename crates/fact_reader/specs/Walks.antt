-- What is read of bytes on a walk.
use Rattle.std.specs.Prelude.{Result}
use Rattle.spec_certificate_text.specs.Walks.{Walk}
use Rattle.fact_reader.specs.declared.error.CertError.{CertError}
use Rattle.fact_reader.specs.declared.cursor.Cursor.{Cursor}
use Rattle.fact_reader.specs.Reads.{Reads}

-- what the walk reads from the first cursor on stands before the second, and the walk goes from the one state to the other
abbrev pub Walks : {T X S : Type 0} → (T → X) → Walk S X → S → S → Cursor → Cursor → Result T CertError → Type 0
Walks {T} view walk before after old new result = Reads (λ (x : T). (view x, after)) (walk before) old new result
