use Rattle.std.proofs.Common.{◌∙◌, map, ap, arith}
use Rattle.std.proofs.lemmas.Grind.{common_steps}
use Rattle.clause_diffs.specs.Diffs.{diffs_at}
use Rattle.clause_form.specs.Facts.{fact_of}
use Rattle.clause_form.proofs.Norming.{own_few, no_norm, norm_named}
use Rattle.term_tree.proofs.BankLaws.{Grows_refl}
use Rattle.clause_form.proofs.normal.norm_of_needed.Goals as goal

pub generalized_clause-requires-clause-own : goal.generalized_clause-requires-clause-own
generalized_clause-requires-clause-own g c =
    own_few (g.B.Bank.trees c.args.bank.now) c.args.hyps c.args.diffs.now c.args.concl.now c.in_ok-kept.kept c.in_ok-few.few (map fact_of c.deref-2.result.now) c.in_ok-kept.ensures (ap (map fact_of) c.deref-2.ensures.value ∙ c.few.view_is) c.in_ok-few.ensures c.requires.own

pub returns-then-is_among-clause-names : goal.returns-then-is_among-clause-names
returns-then-is_among-clause-names g c =
    let old = g.B.Bank.trees c.args.bank.now in
    no_norm old old c.args.hyps (diffs_at old c.args.diffs.now) c.args.concl.now c.in_ok-kept.kept c.deref.result.now c.is_among.result c.in_ok-kept.ensures (ap (map fact_of) c.deref.ensures.value ∙ c.kept.view_is) c.is_among.ensures c.if-is_among.true

pub returns-clause-names : goal.returns-clause-names
returns-clause-names g c =
    let old = g.B.Bank.trees c.args.bank.now in
    norm_named old (g.B.Bank.trees c.generalized_clause.new.bank) c.args.hyps (diffs_at old c.args.diffs.now) c.args.concl.now c.in_ok-kept.kept c.in_ok-few.few (map fact_of c.deref-2.result.now) c.deref.result.now c.is_among.result c.in_ok-made.made
    c.in_ok-kept.ensures (ap (map fact_of) c.deref.ensures.value ∙ c.kept.view_is) (ap (map fact_of) c.deref-2.ensures.value ∙ c.few.view_is) c.is_among.ensures c.if-is_among.false c.in_ok-few.ensures c.in_ok-made.ensures.names

pub returns-clause-first : goal.returns-clause-first
returns-clause-first g c = c.in_ok-made.ensures.first

pub returns-in_err-few-clause-grows : goal.returns-in_err-few-clause-grows
returns-in_err-few-clause-grows g c = Grows_refl (g.B.Bank.trees c.args.bank.now)

pub returns-in_err-kept-clause-grows : goal.returns-in_err-kept-clause-grows
returns-in_err-kept-clause-grows g c = Grows_refl (g.B.Bank.trees c.args.bank.now)

pub generalized_clause-requires-clause-hyps : goal.generalized_clause-requires-clause-hyps
generalized_clause-requires-clause-hyps g c = grind (arith, common_steps)

pub returns-then-is_among-clause-grows : goal.returns-then-is_among-clause-grows
returns-then-is_among-clause-grows g c = grind (arith, common_steps)
