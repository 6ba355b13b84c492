use Rattle.std.proofs.Common.{◌≡◌, ◌++◌, Some, refl, rules}
use Rattle.term_tree.specs.Bank.{AreShared}
use Rattle.clause_form.specs.Seen.{clause_at}
use Rattle.log_entries.specs.Ends.{closed_end_of}
use Rattle.clause_offers.proofs.Covering.{ended_beatable, live_beatable}
use Rattle.clause_offers.proofs.offering.beatable.Goals as goal

pub returns-in_ok-numbers-in-Some : goal.returns-in_ok-numbers-in-Some
returns-in_ok-numbers-in-Some g c =
    let all = g.B.Bank.trees c.args.bank.now in
    let clause = c.args.offer.now.clause.now in
    let end : closed_end_of all clause ≡ Some c.in-Some.id = c.in-Some.ensures.end c.in-Some.id refl in
    let shared : AreShared all = c.in-Some.ensures.shared c.in-Some.id refl in
    ended_beatable all c.args.walk.now.items.items clause c.in-Some.id c.in_ok-numbers-in-Some.numbers.items shared c.requires.entries c.requires.clause.known end c.in_ok-numbers-in-Some.ensures

pub returns-in_ok-extend_from_slice-in-None : goal.returns-in_ok-extend_from_slice-in-None
returns-in_ok-extend_from_slice-in-None g c =
    let all = g.B.Bank.trees c.args.bank.now in
    let walk = c.args.walk.now in
    let is : c.extend_from_slice.new.self.items ≡ walk.live.solved.items ++ walk.live.unsolved.items = search rules in
    live_beatable all walk.items.items walk.live (clause_at all c.args.offer.now.clause.now) c.extend_from_slice.new.self.items c.requires.listed is
