use Rattle.spec_verdicts.proofs.Showing.{verdict_shows}
use Rattle.spec_verdicts.proofs.proved_queries_hold.Goals as goal

pub returns : goal.returns
returns c = λ P q budget cert proper verdict.
    let (given, shown) = verdict_shows P q budget cert verdict in
    c.queries_hold.ensures P q given cert.clauses proper shown
