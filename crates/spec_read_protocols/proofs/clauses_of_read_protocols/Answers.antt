use Rattle.spec_calculus.proofs.Items.{each-contains}
use Rattle.spec_calculus.specs.Plain.{IsPlainQuery}
use Rattle.spec_read_protocols.proofs.clauses_of_read_protocols.Goals as goal

pub returns : goal.returns
returns c = λ bytes P q all d h words asked is has.
    let plain = c.plain_protocols.ensures in
    c.plain_protocols_have_plain_clauses.ensures.clauses P q all d (plain.process bytes P h words) (each-contains IsPlainQuery P.queries q (plain.queries bytes P h words) asked) is has
