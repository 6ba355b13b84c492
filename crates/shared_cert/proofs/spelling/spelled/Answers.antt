use Rattle.std.proofs.Common.{◌∙◌, ◌<◌, subst, sym}
use Rattle.std.specs.List.{AllByRecursion}
use Rattle.spec_terms.specs.Term.{Term}
use Rattle.spec_clauses.specs.Diff.{diff_variables}
use Rattle.spec_clauses.specs.Fact.{Clause}
use Rattle.clause_form.specs.Seen.{clause_at}
use Rattle.shared_cert.proofs.Behind.{own_below}
use Rattle.shared_cert.proofs.spelling.spelled.Goals as goal

pub all_bound_behind-requires : goal.all_bound_behind-requires
all_bound_behind-requires g c =
    let clause = clause_at (g.B.Bank.trees c.args.bank.now) c.args.clause.now in
    subst (λ (k : Clause Term). AllByRecursion (λ d. AllByRecursion (λ x. x < c.in_ok-next.next) (diff_variables d)) k.diffs) (sym (c.read.view_is ∙ c.in_ok-read.ensures))
    (own_below clause c.in_ok-next.next c.in_ok-next.ensures.below)
