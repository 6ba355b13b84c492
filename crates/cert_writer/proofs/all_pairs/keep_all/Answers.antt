use Rattle.std.proofs.Common.{List, sym, subst, arith}
use Rattle.std.proofs.lemmas.Grind.{common_steps}
use Rattle.spec_terms.specs.Term.{Term}
use Rattle.clause_form.specs.Fit.{clauses_at}
use Rattle.cert_writer.specs.Adding.{MustClose}
use Rattle.cert_writer.specs.Unsolved.{AreUnsolved}
use Rattle.cert_writer.proofs.all_pairs.keep_all.Goals as goal

pub keep_one-requires-clause-closed : goal.keep_one-requires-clause-closed
keep_one-requires-clause-closed g c = subst (λ (all : List Term). MustClose (clauses_at all c.args.writer.now.live.now)) (sym c.each.invariant.bank) c.requires.closed

pub keep_one-requires-clause-unsolved : goal.keep_one-requires-clause-unsolved
keep_one-requires-clause-unsolved g c = subst (λ (all : List Term). AreUnsolved all c.args.writer.now.live.now c.args.unsolved.now) (sym c.each.invariant.bank) c.requires.unsolved

pub returns-then-not-branch-clause-known : goal.returns-then-not-branch-clause-known
returns-then-not-branch-clause-known g c = grind (arith, common_steps)

pub each-preserved : goal.each-preserved
each-preserved g c = grind (arith, common_steps)

pub returns-then-not-branch-clause-bank : goal.returns-then-not-branch-clause-bank
returns-then-not-branch-clause-bank g c = grind (arith, common_steps)

pub keep_one-requires-clause-begin : goal.keep_one-requires-clause-begin
keep_one-requires-clause-begin g c = grind (arith, common_steps)

pub keep_one-requires-clause-known : goal.keep_one-requires-clause-known
keep_one-requires-clause-known g c = grind (arith, common_steps)

pub keep_one-requires-clause-ready : goal.keep_one-requires-clause-ready
keep_one-requires-clause-ready g c = grind (arith, common_steps)
