use Rattle.std.proofs.Common.{sym, ◌∙◌}
use Rattle.unify_match.proofs.SeenLemmas.{AreInBank-at}
use Rattle.unified_visits.specs.Built.{IsUnder}
use Rattle.unified_visits.proofs.Named.{if_ok}
use Rattle.unified_visits.proofs.Building.{AreBuilt-grows, bound_is, under_same}
use Rattle.unified_visits.proofs.substituted.variable_under.Goals as goal

pub bound_under-requires-clause-known : goal.bound_under-requires-clause-known
bound_under-requires-clause-known g c = AreInBank-at (g.B.Bank.trees c.args.bank.now) c.args.binds.now.pairs c.args.number c.in-Some.to c.requires.ready.known (sym c.look.ensures ∙ c.in-Some.is)

pub returns-in_ok-found-in-None-clause-built : goal.returns-in_ok-found-in-None-clause-built
returns-in_ok-found-in-None-clause-built g c =
    AreBuilt-grows (g.B.Bank.trees c.args.bank.now) (g.B.Bank.trees c.apply_bound.new.bank) c.args.binds.now.pairs c.args.built.now c.apply_bound.ensures.grows c.requires.ready c.requires.built

pub returns-in-Some-clause-under : goal.returns-in-Some-clause-under
returns-in-Some-clause-under g c =
    let old = g.B.Bank.trees c.args.bank.now in
    let new = g.B.Bank.trees c.bound_under.new.bank in
    let pairs = c.args.binds.now.pairs in
    if_ok c.bound_under.result (λ found. IsUnder old new pairs c.in-Some.to found) (λ found. IsUnder old new pairs c.args.id found)
    (λ found h. under_same old new pairs c.in-Some.to c.args.id found (bound_is old pairs c.args.id c.in-Some.to c.args.number c.requires.ready c.requires.variable (sym c.look.ensures ∙ c.in-Some.is)) h) c.bound_under.ensures.under
