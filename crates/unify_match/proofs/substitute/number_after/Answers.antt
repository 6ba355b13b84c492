use Rattle.std.proofs.Common.{◌∙◌, ap, sym, subst}
use Rattle.spec_trees.specs.Tree.{Leaf}
use Rattle.spec_terms.proofs.Resolve.{resolved-unbound}
use Rattle.unify_match.specs.declared.substitute.Substitution.{Substitution}
use Rattle.unify_match.specs.Seen.{seen}
use Rattle.unify_match.specs.Substitution.{subst_of, IsFinal}
use Rattle.unify_match.proofs.SeenLemmas.{bound_to-seen_none}
use Rattle.unify_match.proofs.substitute.number_after.Goals as goal

pub returns-in-Bindings : goal.returns-in-Bindings
returns-in-Bindings c all =
    let final = subst (λ (ch : Substitution). IsFinal ch c.args.number) c.in-Bindings.is c.requires.last in
    let pairs = c.in-Bindings.field-0.now.pairs in
    sym (resolved-unbound (seen all pairs) c.args.number (bound_to-seen_none all pairs c.args.number final)) ∙ ap (λ (ch : Substitution). subst_of all ch c.args.number) (sym c.in-Bindings.is)

pub returns-in-Numbers : goal.returns-in-Numbers
returns-in-Numbers c all = ap Leaf c.number_at.ensures ∙ ap (λ (ch : Substitution). subst_of all ch c.args.number) (sym c.in-Numbers.is)
