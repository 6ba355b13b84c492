use Rattle.spec_derivations.specs.Choice.{resting_of}
use Rattle.spec_soundness.proofs.placed_queries_hold.Goals as goal

pub returns : goal.returns
returns c = λ P q all placed proper shown.
    c.resting_queries_hold.ensures P q all (resting_of placed) proper record {
      translation = shown.translation;
      suffice = c.resting_clauses_suffice.ensures.suffice all placed shown.closes;
      satisfied = shown.satisfied;
    }
