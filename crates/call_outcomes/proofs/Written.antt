-- Texts of outcomes that are known.
use Rattle.std.proofs.Common.{◌≡◌, ◌≢◌, ℕ, List, Option, None, Some, sym, ap, subst, ◌∙◌}
use Rattle.spec_calculus.specs.Syntax.{Protocol}
use Rattle.hv_io.specs.Sink.{appended, AppendsPart}
use Rattle.call_outcomes.specs.declared.outcome.Outcome as declared
use Rattle.call_outcomes.specs.Outcome.{Outcome, Memory}
use Rattle.call_outcomes.specs.SeenOutcome.{outcome_of}
use Rattle.call_outcomes.specs.Text.{HasText, prints_clauses, outcome_bytes}
use Rattle.call_outcomes.specs.Writing.{IsWritten}

-- the text of an outcome that is known was written, or a part of it
pub written_of : (format status : ℕ) (old new : Option (List ℕ)) (text : List ℕ) (P : Option Protocol) (found known : declared.Outcome) → found ≡ known
    → (status ≢ 6 → new ≡ appended old text) → (status ≡ 6 → AppendsPart old new text) → outcome_bytes format P (outcome_of known) ≡ text → IsWritten status old new (outcome_bytes format P (outcome_of found))
written_of format status old new text P found known is whole part bytes =
    subst (IsWritten status old new) (sym (ap (λ (o : declared.Outcome). outcome_bytes format P (outcome_of o)) is ∙ bytes)) (whole, part)

-- want of memory prints no clause, and so wants no words
pub memory_has_words : (P : Option Protocol) (outcome : Outcome) → outcome ≡ Memory → HasText P outcome
memory_has_words None outcome is = ap prints_clauses is
memory_has_words (Some P) outcome is = tt
