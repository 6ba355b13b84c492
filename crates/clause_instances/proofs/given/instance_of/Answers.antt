use Rattle.std.proofs.Common.{◌≡◌, ◌∙◌, Some, List, length, map, ap, sym, subst, refl, arith}
use Rattle.std.proofs.lemmas.Grind.{common_steps}
use Rattle.std.specs.Prelude.{slice_get}
use Rattle.std.proofs.lemmas.Option.{slice_get_read}
use Rattle.spec_calculus.specs.Points.{numbered}
use Rattle.spec_terms.specs.Term.{Term}
use Rattle.spec_attack_runs.specs.Source.{Source}
use Rattle.spec_attack_runs.specs.Instance.{closing, next_after}
use Rattle.term_tree.specs.Bank.{tree_at}
use Rattle.clause_instances.specs.Closing.{IsClosing}
use Rattle.clause_instances.specs.Instances.{pending_at}
use Rattle.clause_instances.proofs.Keeping.{numbered_at, numbered_none}
use Rattle.clause_instances.proofs.Instancing.{no_source, of_source, known_found, instance_found}
use Rattle.clause_instances.proofs.given.instance_of.Goals as goal

pub returns-in_default-clause-instance : goal.returns-in_default-clause-instance
returns-in_default-clause-instance c = λ log at.
    no_source c.args.derivation.now.sources.now log (pending_at c.args.bank.now c.args.pending.now) c.args.expansion.now.next c.args.number at (numbered_none c.args.derivation.now.sources.now c.args.number (omega arith))

pub returns-clause-known : goal.returns-clause-known
returns-clause-known c =
    let by = closing (map (tree_at c.args.bank.now) c.deref-2.result.now) c.args.expansion.now.next c.in-Some-2.variables.items in
    known_found c.closed_source.new.bank by c.in-Some-get.source.now c.in-Some.index c.closed_source.result (c.closed_source.ensures.closed by c.in_ok-closing.ensures.closing.closes)

pub returns-clause-instance : goal.returns-clause-instance
returns-clause-instance c = λ log at.
    let p = pending_at c.args.bank.now c.args.pending.now in
    let n = c.args.expansion.now.next in
    let sources : List Source = c.args.derivation.now.sources.now in
    let source : Source = c.in-Some-get.source.now in
    let variables = c.in-Some-2.variables.items in
    let listed = c.deref.ensures.value ∙ c.sources.view_is in
    let here : slice_get sources c.in-Some.index ≡ Some source = ap (λ (xs : List Source). slice_get xs c.in-Some.index) (sym listed)
    ∙ slice_get_read c.deref.result.now (length c.deref.result.now) c.in-Some.index source refl c.in-Some-get.ensures.lookup.3.0 c.in-Some-get.ensures.lookup.1 in
    let there : numbered sources c.args.number ≡ Some source = numbered_at sources c.args.number c.in-Some.index (omega arith) ∙ here in
    let of = rw c.in-Some-2.is at c.in_ok-variables.ensures.variables in
    let seen = ap (map (tree_at c.args.bank.now)) (c.deref-2.ensures.value ∙ c.terms.view_is) in
    let made = subst (λ (ts : List Term). IsClosing c.new.new.bank ts n variables c.in_ok-closing.closing) seen c.in_ok-closing.ensures.closing in
    let next = c.in_ok-closing.ensures.next ∙ ap (λ (ts : List Term). next_after ts n variables) seen in
    instance_found c.closed_source.new.bank sources log p n c.args.number c.in-Some.index source variables c.new.new.number c.closed_source.result at there here (of_source source variables of) next
    (c.closed_source.ensures.closed (closing p.terms n variables) made.closes)

pub returns-clause-grows : goal.returns-clause-grows
returns-clause-grows c = grind (arith, common_steps)

pub returns-in_err-variables-clause-grows : goal.returns-in_err-variables-clause-grows
returns-in_err-variables-clause-grows c = grind (arith, common_steps)

pub new-requires : goal.new-requires
new-requires c = grind (arith, common_steps)

pub returns-in_default-2-clause-grows : goal.returns-in_default-2-clause-grows
returns-in_default-2-clause-grows c = grind (arith, common_steps)
