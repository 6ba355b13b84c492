use Rattle.std.proofs.Common.{arith}
use Rattle.std.proofs.lemmas.Grind.{common_steps}
use Rattle.pi_tree.specs.Protocols.{protocol_of}
use Rattle.clause_translate.proofs.AllSources.{with_goal_told}
use Rattle.clause_translate.proofs.origins.sources_grown.Goals as goal

pub returns-clause-sources : goal.returns-clause-sources
returns-clause-sources g c = λ q is.
    with_goal_told (protocol_of c.args.protocol.now) q c.in_ok-raw.raw c.in_ok-sources.sources c.add_sources.new.sources c.in_ok-sources.ensures.sources (c.in_ok-raw.ensures q is) c.in_ok-add_sources.ensures.tells

pub returns-clause-grows : goal.returns-clause-grows
returns-clause-grows g c = grind (arith, common_steps)
