use Rattle.std.proofs.Common.{◌∙◌, not, filter, map, ap}
use Rattle.spec_clauses.specs.Norm.{is_lonely}
use Rattle.clause_form.specs.Facts.{fact_of}
use Rattle.clause_form.proofs.Keeping.{none_dropped, named_of}
use Rattle.clause_form.proofs.normal.without_lonely.Goals as goal

pub returns-then-none_lonely : goal.returns-then-none_lonely
returns-then-none_lonely g c =
    none_dropped (g.B.Bank.trees c.args.bank.now) c.args.numbers.now c.args.facts (map fact_of c.deref.result.now) c.none_lonely.result c.requires (ap (map fact_of) c.deref.ensures.value ∙ c.facts.view_is) c.none_lonely.ensures c.if-none_lonely.true

pub returns : goal.returns
returns g c =
    named_of (g.B.Bank.trees c.args.bank.now) (filter (λ h. not (is_lonely c.args.numbers.now h))) c.each_shared.result c.args.facts (map fact_of c.deref-2.result.now) (ap (map fact_of) c.deref-2.ensures.value ∙ c.facts.view_is) c.each_shared.ensures
