use Rattle.spec_soundness.proofs.accepted_queries_hold.Goals as goal

pub returns : goal.returns
returns c = λ P q cert proper accepted.
    let (given, shown) = c.accepted_certificates_show.ensures P q cert accepted in
    c.queries_hold.ensures P q given cert.clauses proper shown
