use Rattle.std.proofs.Common.{◌≡◌, map, rules}
use Rattle.unify_match.specs.Seen.{seen}
use Rattle.clause_form.specs.Facts.{fact_of}
use Rattle.fact_placing.specs.Boards.{facts_at, loose_parts}
use Rattle.multiset_subsume.proofs.Along.{may_stand}
use Rattle.multiset_subsume.proofs.loose.loose_may_stand.Goals as goal

pub returns : goal.returns
returns g c =
    let all = g.B.Bank.trees c.args.board.now.bank.now in
    let same : c.deref_mut.result.now ≡ c.args.placing.now.taken.items = search rules in
    may_stand (facts_at all (map fact_of c.args.board.now.hyps.now)) (loose_parts (seen all c.args.placing.now.binds.pairs) c.args.board.now.ending.loose.now) c.args.placing.now.taken.items c.deref_mut.result.now c.take_loose.new.taken c.take_loose.result same c.take_loose.ensures
