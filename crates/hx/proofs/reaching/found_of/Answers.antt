-- What is found of the question is found of the subject.
use Rattle.pi_tree.specs.Protocols.{protocol_of}
use Rattle.hx.proofs.Reachable.{result_found}
use Rattle.hx.proofs.reaching.found_of.Goals as goal

pub returns : goal.returns
returns c = result_found (protocol_of c.args.reaching.now.protocol.now) (protocol_of c.in_ok-asked.asked) c.args.reaching.now.budget c.requires.readable c.proved_queries_hold.ensures c.args.subject c.attack_of-found.result c.in_ok-asked.ensures c.attack_of-found.ensures.told c.attack_of-found.ensures.violates
