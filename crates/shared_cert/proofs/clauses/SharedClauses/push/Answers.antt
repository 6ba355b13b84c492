use Rattle.std.proofs.Common.{◌≡◌, ◌∙◌, ◌++◌, ◌∷◌, [], ap, rules}
use Rattle.clause_form.specs.Fit.{clauses_at}
use Rattle.shared_cert.specs.declared.clauses.SharedClauses.TheInside.{Inside}
use Rattle.shared_cert.proofs.Growing.{still_named, more_named, still_known}
use Rattle.shared_cert.proofs.clauses.SharedClauses.push.Goals as goal

pub invariant_of-self-2 : goal.invariant_of-self-2
invariant_of-self-2 c =
    still_known c.self.inside.bank _ c.copy_into.new.bank _ c.self.inside.clauses (ap (λ (i : Inside). i.bank) c.self-inside.view_is) (ap (λ (i : Inside). i.clauses) c.self-inside.view_is) c.copy_into.ensures.grows c.self.invariant c.push.new.self.items c.in_ok-made.made c.args.clause.now _ c.in_ok-made.ensures.names c.push.ensures.items

pub returns-in_err-push-clause-err : goal.returns-in_err-push-clause-err
returns-in_err-push-clause-err c =
    let names = still_named c.self.inside.bank _ c.copy_into.new.bank _ c.self.inside.clauses (ap (λ (i : Inside). i.bank) c.self-inside.view_is) (ap (λ (i : Inside). i.clauses) c.self-inside.view_is) c.copy_into.ensures.grows c.self.invariant c.push.new.self.items c.in_err-push.ensures.items in
    let same : clauses_at c.copy_into.new.bank c.push.new.self.items ≡ c.args.self.now = names.are ∙ c.self.view_is in
    search (rules, same)

pub returns-clause-ok : goal.returns-clause-ok
returns-clause-ok c =
    (more_named c.self.inside.bank _ c.copy_into.new.bank _ c.self.inside.clauses (ap (λ (i : Inside). i.bank) c.self-inside.view_is) (ap (λ (i : Inside). i.clauses) c.self-inside.view_is) c.copy_into.ensures.grows c.self.invariant c.push.new.self.items c.in_ok-made.made c.args.clause.now c.in_ok-made.ensures.names c.in_ok-push.ensures.items).are
    ∙ ap (λ l. l ++ c.args.clause.now ∷ []) c.self.view_is
