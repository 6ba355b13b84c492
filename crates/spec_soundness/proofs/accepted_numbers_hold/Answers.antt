use Rattle.spec_certificates.specs.Certificate.{placed_by}
use Rattle.spec_soundness.proofs.accepted_numbers_hold.Goals as goal

pub returns : goal.returns
returns c = λ P q cert numbers proper accepted.
    let (given, shown) = c.accepted_numbers_show.ensures P q cert numbers accepted in
    c.placed_queries_hold.ensures P q given (placed_by numbers cert.clauses) proper shown
