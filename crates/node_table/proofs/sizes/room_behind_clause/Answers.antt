use Rattle.clause_form.specs.PlainFacts.{plain_fact_of}
use Rattle.node_table.proofs.Rooms.{behind_clause, none_behind_clause}
use Rattle.node_table.proofs.sizes.room_behind_clause.Goals as goal

pub returns-in-Some : goal.returns-in-Some
returns-in-Some c =
    behind_clause c.args.clause.now c.clause.inside.hyps c.clause.inside.diffs (plain_fact_of c.clause.inside.concl) c.args.room c.in-Some.left c.room_behind_rest.result c.clause.view_is c.in-Some.ensures c.room_behind_rest.ensures

pub returns-in-None : goal.returns-in-None
returns-in-None c = none_behind_clause c.args.clause.now c.clause.inside.hyps c.clause.inside.diffs (plain_fact_of c.clause.inside.concl) c.args.room c.clause.view_is c.in-None.ensures
