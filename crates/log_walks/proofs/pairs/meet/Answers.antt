use Rattle.log_walks.proofs.Partners.{meets_there}
use Rattle.log_walks.proofs.pairs.meet.Goals as goal

pub returns : goal.returns
returns c = meets_there c.args.live.now.prints.items c.args.later c.args.number c.index-left.result.now c.index-right.result.now c.may_meet.result c.index-left.ensures c.index-right.ensures c.requires.some_number c.requires.number_within c.requires.some c.requires.within c.may_meet.ensures.exact
