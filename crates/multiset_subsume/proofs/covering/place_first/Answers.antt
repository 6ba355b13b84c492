use Rattle.std.proofs.Common.{arith, map, ◌∷◌, ℕ, List, ap, get_or}
use Rattle.std.proofs.lemmas.List.{length-map}
use Rattle.clause_form.specs.Facts.{fact_of}
use Rattle.multiset_subsume.proofs.Keeping.{placing_as}
use Rattle.fact_placing.proofs.Listing.{unref}
use Rattle.multiset_subsume.proofs.FirstRows.{first_within, next_told}
use Rattle.multiset_subsume.proofs.covering.place_first.Goals as goal

pub put-requires-clause-placing : goal.put-requires-clause-placing
put-requires-clause-placing g c = placing_as (g.B.Bank.trees c.args.board.now.bank.now) (map fact_of c.args.board.now.hyps.now) c.args.placing.now.binds.pairs c.least_row.new.placing.binds.pairs c.args.placing.now.taken.items c.least_row.new.placing.taken.items c.least_row.ensures.same c.requires.placing

pub put-requires-clause-position : goal.put-requires-clause-position
put-requires-clause-position g c =
    let least = c.in_ok-row.ensures.outcome in
    let inside = first_within (g.B.Bank.trees c.args.board.now.bank.now) (map fact_of c.args.board.now.hyps.now) c.args.board.now.ending (fact_of c.args.fact.now) (map unref c.args.rest.now) c.args.placing.now.binds.pairs c.args.placing.now.taken.items (least.position ∷ least.others) c.index.result.now least.holds in
    omega (arith, inside, length-map c.args.board.now.hyps.now fact_of, c.index.ensures, ap (λ (ps : List ℕ). get_or ps 0 c.index.result.now) least.are)

pub returns-clause-outcome : goal.returns-clause-outcome
returns-clause-outcome g c =
    next_told (g.B.Bank.trees c.args.board.now.bank.now) (map fact_of c.args.board.now.hyps.now) c.args.board.now.ending (fact_of c.args.fact.now) (map unref c.args.rest.now) c.args.placing.now.binds.pairs c.least_row.new.placing.binds.pairs c.put.new.placing.binds.pairs
    c.args.placing.now.taken.items c.least_row.new.placing.taken.items c.put.new.placing.taken.items c.in_ok-row.row.items c.index.result.now c.index.result.now c.in_ok-put.field-0 c.least_row.ensures.same c.in_ok-row.ensures.outcome c.index.ensures c.in_ok-put.ensures.outcome
