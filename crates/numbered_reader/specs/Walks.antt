-- What contracts see of walks, and what is read of bytes on a walk.
use Rattle.std.specs.Prelude.{Result}
use Rattle.spec_node_counts.specs.Counts as counts
use Rattle.spec_node_counts.specs.ReadFacts.{Walk}
use Rattle.fact_reader.specs.declared.error.CertError.{CertError}
use Rattle.fact_reader.specs.declared.cursor.Cursor.{Cursor}
use Rattle.fact_reader.specs.Reads.{Reads}
use Rattle.numbered_reader.specs.declared.walked.Walked.{Walked}

abbrev pub walked_of : Walked → counts.Counted
walked_of w = record { reached = w.reached; clause = w.clause; all = w.all }

-- what the walk reads from the first cursor on stands before the second, and the walk goes from the one state to the other
abbrev pub Walks : {T X : Type 0} → (T → X) → Walk X → Walked → Walked → Cursor → Cursor → Result T CertError → Type 0
Walks {T} view walk before after old new result = Reads (λ (x : T). (view x, walked_of after)) (walk (walked_of before)) old new result
