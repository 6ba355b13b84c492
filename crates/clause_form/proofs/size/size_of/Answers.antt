use Rattle.std.proofs.Common.{◌≡◌, rules}
use Rattle.spec_clauses.specs.Diff.{diff_size}
use Rattle.spec_clauses.specs.Fact.{total, fact_size}
use Rattle.term_tree.specs.Bank.{capped}
use Rattle.clause_form.specs.Seen.{clause_at}
use Rattle.clause_form.proofs.size.size_of.Goals as goal

pub returns : goal.returns
returns g c =
    let all = g.B.Bank.trees c.args.bank.now in
    let first : c.size_of_fact-symbols.result ≡ capped (fact_size (clause_at all c.args.clause.now).conclusion) = search rules in
    let others : c.size_of_facts.result ≡ capped (total fact_size (clause_at all c.args.clause.now).hypotheses) = search rules in
    let constraints : c.size_of_diffs.result ≡ capped (total diff_size (clause_at all c.args.clause.now).diffs) = search rules in
    c.add_symbols.ensures _ _ (c.add_symbols-facts.ensures _ _ first others) constraints
