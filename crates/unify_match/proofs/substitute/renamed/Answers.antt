use Rattle.std.proofs.Common.{sym, subst}
use Rattle.spec_terms.specs.Term.{Term}
use Rattle.term_tree.specs.Bank.{tree_at, symbol_of}
use Rattle.unify_match.specs.Substitution.{subst_of, CanChange}
use Rattle.unify_match.proofs.Substituting.{variable-fits, constant_stays}
use Rattle.unify_match.proofs.substitute.renamed.Goals as goal

pub number_after-after-requires-clause-fits : goal.number_after-after-requires-clause-fits
number_after-after-requires-clause-fits g c =
    let all = g.B.Bank.trees c.args.bank.now in
    variable-fits all c.args.change c.in-Var.number (subst (λ (t : Term). CanChange all c.args.change t) c.in-Var.ensures c.requires.ready)

pub returns-in-App-clause-names : goal.returns-in-App-clause-names
returns-in-App-clause-names g c =
    let all = g.B.Bank.trees c.args.bank.now in
    record {
      known = c.requires.known;
      is = sym (constant_stays (subst_of all c.args.change) all (tree_at all c.args.id) (symbol_of c.in-App.field-0) c.in-App.field-1.now c.in-App.ensures.0 c.requires.none);
    }
