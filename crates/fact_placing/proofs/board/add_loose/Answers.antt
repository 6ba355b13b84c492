use Rattle.clause_form.specs.Facts.{fact_of}
use Rattle.clause_form.specs.Seen.{fact_at}
use Rattle.fact_placing.proofs.Listing.{loose_added, none_added}
use Rattle.fact_placing.proofs.board.add_loose.Goals as goal

pub returns-in_ok-push-in-Some : goal.returns-in_ok-push-in-Some
returns-in_ok-push-in-Some g c = loose_added (fact_at (g.B.Bank.trees c.args.bank.now) (fact_of c.args.hyp.now)) c.args.found.now.items c.push.new.self.items c.in-Some.loose c.in-Some.ensures c.in_ok-push-in-Some.ensures.items

pub returns-in-None : goal.returns-in-None
returns-in-None g c = none_added (fact_at (g.B.Bank.trees c.args.bank.now) (fact_of c.args.hyp.now)) c.args.found.now.items c.in-None.ensures
