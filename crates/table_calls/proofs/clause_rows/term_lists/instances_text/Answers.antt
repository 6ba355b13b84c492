use Rattle.std.proofs.Common.{List, length, ap, sym, subst, arith}
use Rattle.spec_terms.specs.Term.{Term}
use Rattle.unify_match.specs.Seen.{IsReady}
use Rattle.clause_form.proofs.Walks.{known_at}
use Rattle.table_calls.proofs.clause_rows.term_lists.instances_text.Goals as goal

pub instance_text-requires-clause-known : goal.instance_text-requires-clause-known
instance_text-requires-clause-known c =
    let known = known_at c.args.bank.now c.args.terms.now c.each.term-index record { index = 0 } c.requires.terms c.each-test.true in
    omega (arith, known, ap length c.each.invariant)

pub instance_text-requires-clause-ready : goal.instance_text-requires-clause-ready
instance_text-requires-clause-ready c = subst (λ (l : List Term). IsReady l c.args.binds.now.pairs) (sym c.each.invariant) c.requires.ready
