use Rattle.std.proofs.Common.{List, ◌∙◌, sym, subst}
use Rattle.pi_tree.specs.Protocols.{protocol_of}
use Rattle.clause_form.specs.Seen.{AreClausesIn, IdClause}
use Rattle.table_calls.proofs.clause_rows.First.{first_there}
use Rattle.table_calls.proofs.clause_rows.goals.goal_within.Goals as goal

pub texts_of-requires : goal.texts_of-requires
texts_of-requires c =
    let P = protocol_of c.args.protocol.now in
    let first = first_there P.queries c.requires.there.1 in
    let named = c.in_ok-goals.ensures.names first.0 first.1 in
    let same = c.deref.ensures.value ∙ c.goals.view_is in
    subst (λ (l : List IdClause). AreClausesIn c.goal_clause.new.bank l) (sym same) named.known
