-- Lines that are read alike.
use Rattle.std.proofs.Common.{ℕ, zero, suc, ◌==◌, List}
use Rattle.spec_certificate_text.specs.Terms.{Count}
use Rattle.spec_certificate_text.specs.Outcomes.{front, Reader}
use Rattle.spec_certificate_text.proofs.Alike.{Alike, found, faulty, next_alike, if_alike, both}
use Rattle.spec_node_reading.specs.Loops.{lines_through}
use Rattle.spec_node_counts.proofs.Steps.{behind_line, line_more, line_full}

pub lines_alike : {S T : Type 0} (R : S → T → Type 0) (letter : ℕ) (one : S → Reader S) (other : T → Reader T) → ((s : S) (t : T) (bytes : List ℕ) (at : ℕ) → R s t → Alike R (one s bytes at) (other t bytes at))
    → (most : ℕ) (s : S) (t : T) (bytes : List ℕ) (at : ℕ) → R s t → Alike R (lines_through letter one most s bytes at) (lines_through letter other most t bytes at)
lines_alike R letter one other each zero s t bytes at is =
    both R _ _ _ _ (line_full letter one s bytes at) (line_full letter other t bytes at) (if_alike R (front bytes == letter) _ _ _ _ (faulty at Count) (found s t at bytes is))
lines_alike R letter one other each (suc most) s t bytes at is =
    both R _ _ _ _ (line_more letter one most s bytes at) (line_more letter other most t bytes at) (if_alike R (front bytes == letter) _ _ _ _
    (next_alike R R (one s bytes at) (other t bytes at) (behind_line letter one most) (behind_line letter other most) (each s t bytes at is)
    (λ u v place rest so. lines_alike R letter one other each most u v rest place so))
    (found s t at bytes is))
