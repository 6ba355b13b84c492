use Rattle.std.proofs.Common.{◌∙◌, [], ◌∷◌, ap}
use Rattle.spec_trees.specs.Tree.{node}
use Rattle.spec_terms.specs.Term.{Attacker}
use Rattle.spec_translation.specs.Attacker.{fresh_known}
use Rattle.term_tree.specs.Bank.{tree_at}
use Rattle.term_tree.proofs.BankLaws.{Grows_trans}
use Rattle.attacker_clauses.proofs.Raws.{known_clause}
use Rattle.attacker_clauses.proofs.Adding.{last_added}
use Rattle.attacker_clauses.proofs.names.add_own_names.Goals as goal

pub returns-clause-adds : goal.returns-clause-adds
returns-clause-adds g c =
    let old = g.B.Bank.trees c.args.bank.now in
    let mid = g.B.Bank.trees c.var.new.self in
    let made = g.B.Bank.trees c.app.new.self in
    let is = c.in_ok-name.ensures.names.is ∙ ap (λ t. node Attacker (t ∷ [])) c.in_ok-variable.ensures.names.is in
    last_added old made (g.B.Bank.trees c.add_known.new.bank) c.args.list.now c.add_known.new.list (known_clause 0 [] (tree_at made c.in_ok-name.name) ∷ []) (fresh_known ∷ [])
    c.add_known.result (Grows_trans old mid made c.var.ensures.grows c.app.ensures.grows) (ap (λ t. known_clause 0 [] t ∷ []) is) c.add_known.ensures.adds

pub returns-in_err-name-clause-grows : goal.returns-in_err-name-clause-grows
returns-in_err-name-clause-grows g c = Grows_trans (g.B.Bank.trees c.args.bank.now) (g.B.Bank.trees c.var.new.self) (g.B.Bank.trees c.app.new.self) c.var.ensures.grows c.app.ensures.grows

pub returns-clause-grows : goal.returns-clause-grows
returns-clause-grows g c = Grows_trans (g.B.Bank.trees c.args.bank.now) (g.B.Bank.trees c.app.new.self) (g.B.Bank.trees c.add_known.new.bank) (Grows_trans (g.B.Bank.trees c.args.bank.now) (g.B.Bank.trees c.var.new.self) (g.B.Bank.trees c.app.new.self) c.var.ensures.grows c.app.ensures.grows) c.add_known.ensures.grows
