use Rattle.std.proofs.Common.{◌∙◌, map, ap}
use Rattle.spec_clauses.specs.Fact.{same_fact}
use Rattle.spec_clauses.specs.Norm.{distinct}
use Rattle.clause_form.specs.Facts.{fact_of}
use Rattle.clause_form.proofs.Keeping.{none_repeated, named_of}
use Rattle.clause_form.proofs.repeats.without_repeats.Goals as goal

pub returns-then-are_different : goal.returns-then-are_different
returns-then-are_different g c =
    none_repeated (g.B.Bank.trees c.args.bank.now) c.args.facts (map fact_of c.deref-2.result.now) c.are_different.result c.requires (ap (map fact_of) c.deref-2.ensures.value ∙ c.facts.view_is) c.are_different.ensures c.if-are_different.true

pub returns : goal.returns
returns g c =
    named_of (g.B.Bank.trees c.args.bank.now) (distinct same_fact) c.each_once.result c.args.facts (map fact_of c.deref-3.result.now) (ap (map fact_of) c.deref-3.ensures.value ∙ c.facts.view_is) c.each_once.ensures
