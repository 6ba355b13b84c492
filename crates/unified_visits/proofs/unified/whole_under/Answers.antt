use Rattle.std.proofs.Common.{sym, ◌∙◌}
use Rattle.unified_visits.proofs.unified.whole_under.Goals as goal

pub returns-in-Some-clause-names : goal.returns-in-Some-clause-names
returns-in-Some-clause-names g c = (c.requires.built c.args.id c.in-Some.made (sym c.of.ensures ∙ c.in-Some.is)).names
