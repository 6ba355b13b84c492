use Rattle.std.proofs.Common.{◌≡◌, true, [], ◌∷◌, rules}
use Rattle.std.specs.List.{cons_option}
use Rattle.spec_translation.specs.Attacker.{name_known}
use Rattle.term_tree.specs.Bank.{tree_at}
use Rattle.pi_tree.specs.Names.{declared_of}
use Rattle.attacker_clauses.proofs.Raws.{known_clause, name_listed}
use Rattle.attacker_clauses.proofs.Adding.{last_added}
use Rattle.term_tree.proofs.BankLaws.{Grows_trans}
use Rattle.attacker_clauses.proofs.names.add_name.Goals as goal

pub returns-clause-adds : goal.returns-clause-adds
returns-clause-adds g c =
    let old = g.B.Bank.trees c.args.bank.now in
    let made = g.B.Bank.trees c.app.new.self in
    let public : c.args.declared.now.public ≡ true = search rules in
    last_added old made (g.B.Bank.trees c.add_known.new.bank) c.args.list.now c.add_known.new.list (known_clause 0 [] (tree_at made c.in_ok-name.name) ∷ []) (cons_option (name_known (c.args.number, declared_of c.args.declared.now)) [])
    c.add_known.result c.app.ensures.grows (name_listed c.args.number (declared_of c.args.declared.now) (tree_at made c.in_ok-name.name) public c.in_ok-name.ensures.names.is) c.add_known.ensures.adds

pub returns-clause-grows : goal.returns-clause-grows
returns-clause-grows g c = Grows_trans (g.B.Bank.trees c.args.bank.now) (g.B.Bank.trees c.app.new.self) (g.B.Bank.trees c.add_known.new.bank) c.app.ensures.grows c.add_known.ensures.grows
