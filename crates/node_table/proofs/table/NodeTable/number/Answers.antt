use Rattle.std.proofs.Common.{◌∙◌}
use Rattle.clause_form.specs.Plain.{term_of}
use Rattle.node_table.proofs.Entering.{table_on, number_on}
use Rattle.node_table.proofs.table.NodeTable.number.Goals as goal

pub returns-clause-table : goal.returns-clause-table
returns-clause-table c = λ earlier is. table_on c.self.inside.bank c.enter.new.bank earlier (term_of c.args.tree.now) c.in_ok-id.ensures.walked (c.self.view_is ∙ is)

pub returns-clause-number : goal.returns-clause-number
returns-clause-number c = λ earlier later is.
    number_on c.self.inside.bank c.enter.new.bank earlier later (term_of c.args.tree.now) c.in_ok-id.id c.number_of.result c.in_ok-id.ensures.walked (c.self.view_is ∙ is) c.in_ok-id.ensures.names c.number_of.ensures
