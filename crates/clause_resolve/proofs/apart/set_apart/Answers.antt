use Rattle.std.proofs.Common.{Option, IfOk, subst}
use Rattle.spec_clauses.specs.Selection.{Selection}
use Rattle.clause_form.specs.Seen.{clause_at}
use Rattle.clause_resolve.specs.Apart.{IsApartOf}
use Rattle.clause_resolve.proofs.Shifting.{place_selected}
use Rattle.clause_resolve.proofs.apart.set_apart.Goals as goal

pub set_apart_at-requires-clause-there : goal.set_apart_at-requires-clause-there
set_apart_at-requires-clause-there g c = (place_selected (clause_at (g.B.Bank.trees c.args.bank.now) c.args.unsolved.now) c.args.at c.requires.selected).0

pub returns-clause-apart : goal.returns-clause-apart
returns-clause-apart g c =
    let unsolved = clause_at (g.B.Bank.trees c.args.bank.now) c.args.unsolved.now in
    subst (λ (chosen : Option Selection). IfOk c.set_apart_at.result (λ made. IsApartOf chosen (g.B.Bank.trees c.set_apart_at.new.bank) unsolved made)) (place_selected unsolved c.args.at c.requires.selected).1 c.set_apart_at.ensures.apart
