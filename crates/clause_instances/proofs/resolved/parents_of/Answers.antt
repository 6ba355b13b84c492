use Rattle.std.proofs.Common.{◌∙◌, Some, None, List, map, ap, sym, subst, refl, arith}
use Rattle.std.proofs.lemmas.Grind.{common_steps}
use Rattle.spec_terms.specs.Term.{Term}
use Rattle.term_tree.specs.Bank.{tree_at}
use Rattle.spec_attack_runs.specs.Instance.{closing, next_after}
use Rattle.clause_instances.specs.Closing.{AreClosed}
use Rattle.clause_instances.specs.Instances.{pending_at}
use Rattle.clause_instances.proofs.Origins.{normed_at}
use Rattle.clause_instances.proofs.Descending.{no_solved, no_unsolved, no_descent, too_large, parents}
use Rattle.clause_instances.proofs.resolved.parents_of.Goals as goal

pub returns-in_default-clause-parents : goal.returns-in_default-clause-parents
returns-in_default-clause-parents c = λ log tells at. no_solved log c.args.derivation.now.log.now (pending_at c.args.bank.now c.args.pending.now) c.args.expansion.now.next c.args.descends tells at (sym c.in_default.ensures)

pub returns-in_default-entry-clause-parents : goal.returns-in_default-entry-clause-parents
returns-in_default-entry-clause-parents c = λ log tells at. no_unsolved log c.args.derivation.now.log.now (pending_at c.args.bank.now c.args.pending.now) c.args.expansion.now.next c.args.descends tells at (sym c.in_default-entry.ensures)

pub how_descends-requires-clause-solved : goal.how_descends-requires-clause-solved
how_descends-requires-clause-solved c = normed_at c.args.derivation.now.log.now c.args.descends.solved c.in-Some.solved.now c.requires.normed (sym c.in-Some.ensures)

pub how_descends-requires-clause-unsolved : goal.how_descends-requires-clause-unsolved
how_descends-requires-clause-unsolved c = normed_at c.args.derivation.now.log.now c.args.descends.unsolved c.in-Some-entry.unsolved.now c.requires.normed (sym c.in-Some-entry.ensures)

pub returns-in_default-2-clause-parents : goal.returns-in_default-2-clause-parents
returns-in_default-2-clause-parents c = λ log tells at.
    let p = pending_at c.args.bank.now c.args.pending.now in
    let n = c.args.expansion.now.next in
    let entries = c.args.derivation.now.log.now in
    let none = rw c.in_default-2.is at c.in_ok-found.ensures.descends in
    no_descent log entries p n c.args.descends tells at c.in-Some.solved.now c.in-Some-entry.unsolved.now (sym c.in-Some.ensures) (sym c.in-Some-entry.ensures) none

pub returns-in_default-3-clause-parents : goal.returns-in_default-3-clause-parents
returns-in_default-3-clause-parents c = λ log tells at.
    let p = pending_at c.args.bank.now c.args.pending.now in
    let n = c.args.expansion.now.next in
    let entries = c.args.derivation.now.log.now in
    let found = c.in-Some-2.found in
    let comes = rw c.in-Some-2.is at c.in_ok-found.ensures.descends in
    let seen = ap (map (tree_at c.args.bank.now)) (c.deref.ensures.value ∙ c.terms.view_is) in
    let none = rw c.in_default-3.is at c.in_ok-first.ensures.closed in
    let large = subst (λ (ts : List Term). AreClosed c.closed_parents.new.bank (closing ts n found.variables.items) found.lefts found.rights None) seen none in
    too_large log entries p n c.args.descends tells at c.in-Some.solved.now c.in-Some-entry.unsolved.now (sym c.in-Some.ensures) (sym c.in-Some-entry.ensures) found comes large

pub returns-clause-known : goal.returns-clause-known
returns-clause-known c = let both = rw c.in-Some-3.is at c.in_ok-first.ensures.known in (both.0, (both.1, tt))

pub returns-clause-parents : goal.returns-clause-parents
returns-clause-parents c = λ log tells at.
    let p = pending_at c.args.bank.now c.args.pending.now in
    let n = c.args.expansion.now.next in
    let entries = c.args.derivation.now.log.now in
    let found = c.in-Some-2.found in
    let comes = rw c.in-Some-2.is at c.in_ok-found.ensures.descends in
    let seen = ap (map (tree_at c.args.bank.now)) (c.deref.ensures.value ∙ c.terms.view_is) in
    let some = rw c.in-Some-3.is at c.in_ok-first.ensures.closed in
    let both = subst (λ (ts : List Term). AreClosed c.closed_parents.new.bank (closing ts n found.variables.items) found.lefts found.rights (Some (c.in-Some-3.first, c.in-Some-3.second))) seen some in
    parents log entries p n c.args.descends tells at c.in-Some.solved.now c.in-Some-entry.unsolved.now (sym c.in-Some.ensures) (sym c.in-Some-entry.ensures) found comes c.closed_parents.new.bank _ _ c.closed_parents.new.number refl refl both.0.are both.1.are both.2 (c.in_ok-first.ensures.next ∙ ap (λ (ts : List Term). next_after ts n found.variables.items) seen)

pub returns-in_err-found-clause-grows : goal.returns-in_err-found-clause-grows
returns-in_err-found-clause-grows c = grind (arith, common_steps)
