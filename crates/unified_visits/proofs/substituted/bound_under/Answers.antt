use Rattle.std.proofs.Common.{sym, ◌∙◌, arith}
use Rattle.std.proofs.lemmas.Grind.{common_steps}
use Rattle.unified_visits.proofs.Building.{AreBuilt-grows, built_more, applied_names}
use Rattle.unified_visits.proofs.substituted.bound_under.Goals as goal

pub returns-in-Some-clause-under : goal.returns-in-Some-clause-under
returns-in-Some-clause-under g c = (c.requires.built c.args.to c.in-Some.made (sym c.of.ensures ∙ c.in-Some.is)).names

pub returns-in-None-2-clause-built : goal.returns-in-None-2-clause-built
returns-in-None-2-clause-built g c =
    AreBuilt-grows (g.B.Bank.trees c.args.bank.now) (g.B.Bank.trees c.apply_bound.new.bank) c.args.binds.now.pairs c.args.built.now c.apply_bound.ensures.grows c.requires.ready c.requires.built

pub returns-in_ok-put-in-Some-2-clause-built : goal.returns-in_ok-put-in-Some-2-clause-built
returns-in_ok-put-in-Some-2-clause-built g c =
    let old = g.B.Bank.trees c.args.bank.now in
    let new = g.B.Bank.trees c.apply_bound.new.bank in
    let pairs = c.args.binds.now.pairs in
    built_more old old new pairs c.args.built.now c.put.new.self c.args.to c.in-Some-2.made c.apply_bound.ensures.grows c.apply_bound.ensures.grows c.requires.ready c.requires.ready c.requires.known c.requires.built
    (applied_names old new pairs c.args.to c.in-Some-2.made c.in_ok-apply_bound-in-None.field-0 c.in-Some-2.is c.in_ok-apply_bound-in-None.ensures.outcome) c.in_ok-put-in-Some-2.ensures

pub returns-in_ok-put-in-Some-2-clause-under : goal.returns-in_ok-put-in-Some-2-clause-under
returns-in_ok-put-in-Some-2-clause-under g c = grind (arith, common_steps)
