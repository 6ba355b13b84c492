use Rattle.std.proofs.Common.{◌≡◌, ◌∙◌, List, map, sym, subst}
use Rattle.std.specs.Prelude.{IfOk}
use Rattle.clause_form.specs.Seen.{clause_at, AreClausesIn, IdClause}
use Rattle.verifier_cli.proofs.list.read_all.Goals as goal

pub read_clauses-requires : goal.read_clauses-requires
read_clauses-requires g c =
    let same : c.deref.result.now ≡ c.args.clauses.now = c.deref.ensures.value ∙ c.clauses.view_is in
    subst (λ (cs : List IdClause). AreClausesIn (g.B.Bank.trees c.args.bank.now) cs) (sym same) c.requires

pub returns : goal.returns
returns g c =
    let all = g.B.Bank.trees c.args.bank.now in
    let same : c.deref.result.now ≡ c.args.clauses.now = c.deref.ensures.value ∙ c.clauses.view_is in
    subst (λ (cs : List IdClause). IfOk c.read_clauses.result (λ plain. plain ≡ map (clause_at all) cs)) same c.read_clauses.ensures
