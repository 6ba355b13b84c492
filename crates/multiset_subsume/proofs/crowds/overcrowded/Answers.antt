use Rattle.std.proofs.Common.{◌≡◌, ◌∙◌, ap, sym, ◌<◌, map, arith, ltb-true}
use Rattle.clause_form.specs.Facts.{fact_of}
use Rattle.unify_match.specs.Seen.{seen}
use Rattle.spec_placements.specs.Crowds.{room, AreConfined}
use Rattle.spec_placements.proofs.Crowding.{crowded}
use Rattle.fact_placing.specs.Boards.{facts_at, ending_at}
use Rattle.fact_placing.proofs.Putting.{known_ref}
use Rattle.multiset_subsume.proofs.Keeping.{as_back, placing_as, as_before-trans}
use Rattle.fact_placing.proofs.Listing.{unref}
use Rattle.multiset_subsume.proofs.crowds.overcrowded.Goals as goal

pub area_of-requires-clause-fact : goal.area_of-requires-clause-fact
area_of-requires-clause-fact g c = known_ref (g.B.Bank.trees c.args.board.now.bank.now) c.args.unplaced.now c.args.choice.at c.index-unplaced-choice.result c.index-unplaced-choice.is c.requires.facts c.requires.index

pub returns-clause-crowded : goal.returns-clause-crowded
returns-clause-crowded g c e =
    let all = g.B.Bank.trees c.args.board.now.bank.now in
    let hyps = map fact_of c.args.board.now.hyps.now in
    let area = c.deref.result.now in
    let confined = as_back (λ pairs flags. AreConfined (seen all pairs) flags (facts_at all hyps) area (facts_at all (map unref c.args.unplaced.now)) c.in_ok-count.count) c.args.placing.now.binds.pairs c.area_of.new.placing.binds.pairs c.args.placing.now.taken.items c.area_of.new.placing.taken.items c.area_of.ensures.same c.in_ok-count.ensures.confined in
    let less : c.room_of.result < c.in_ok-count.count = ltb-true c.room_of.result c.in_ok-count.count e in
    let room_is : c.room_of.result ≡ room area = c.room_of.ensures ∙ ap room (c.deref-2.ensures.value ∙ sym c.deref.ensures.value) in
    crowded (seen all c.args.placing.now.binds.pairs) c.args.placing.now.taken.items (facts_at all hyps) (facts_at all (map unref c.args.unplaced.now)) (ending_at all c.args.board.now.ending) area c.in_ok-count.count c.requires.placing.flags confined (omega (arith, less, room_is))

pub count_confined-requires-clause-placing : goal.count_confined-requires-clause-placing
count_confined-requires-clause-placing g c = placing_as (g.B.Bank.trees c.args.board.now.bank.now) (map fact_of c.args.board.now.hyps.now) c.args.placing.now.binds.pairs c.area_of.new.placing.binds.pairs c.args.placing.now.taken.items c.area_of.new.placing.taken.items c.area_of.ensures.same c.requires.placing

pub returns-clause-same : goal.returns-clause-same
returns-clause-same g c = as_before-trans c.args.placing.now.binds.pairs c.area_of.new.placing.binds.pairs c.count_confined.new.placing.binds.pairs c.args.placing.now.taken.items c.area_of.new.placing.taken.items c.count_confined.new.placing.taken.items c.area_of.ensures.same c.count_confined.ensures.same
