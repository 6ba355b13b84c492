use Rattle.std.proofs.Common.{◌∙◌, ◌++◌, List, map, ap, rc_value}
use Rattle.spec_terms.specs.Term.{Term}
use Rattle.spec_clauses.specs.Fact.{Clause}
use Rattle.clause_form.specs.Seen.{clause_at}
use Rattle.cert_form.proofs.reading_out.read_clauses.Goals as goal

pub returns : goal.returns
returns g c =
    c.in_ok-read_behind.ensures
    ∙ ap (λ (cs : List (Clause Term)). cs ++ map (clause_at (g.B.Bank.trees c.args.bank.now)) c.args.clauses.now) (ap (map rc_value) c.new.ensures.items)
