use Rattle.std.proofs.Common.{List, sym, subst, map, arith, rules}
use Rattle.std.proofs.lemmas.Grind.{common_steps}
use Rattle.spec_clauses.specs.Fact.{Fact}
use Rattle.spec_terms.specs.Term.{Term}
use Rattle.term_tree.specs.Bank.{symbol_of}
use Rattle.clause_form.specs.Facts.{fact_of}
use Rattle.clause_form.proofs.Walks.{argument_at}
use Rattle.clause_form.proofs.Flattening.{parts_at, data_flat}
use Rattle.spec_placements.specs.LooseParts.{Removes, HasNoRoom}
use Rattle.fact_placing.specs.Boards.{facts_at}
use Rattle.multiset_subsume.proofs.Removal.{removes_all, no_room_at}
use Rattle.multiset_subsume.proofs.loose.+take_parts.Goals as goal

pub take_parts-requires : goal.take_parts-requires
take_parts-requires g t c κs within =
    let at = argument_at (g.B.Bank.trees c.args.bank.now) c.args.term (symbol_of c.in-App.symbol) c.in-App.arguments.now c.each.argument-index record { index = 0 } c.in-App.ensures.0 c.in-App.ensures.1 c.each-test.true in
    (omega (arith, c.decreases, at.1), (within, (c.requires.hyps, (at.0, c.each.invariant.flags))))

pub returns-then-not-take_parts : goal.returns-then-not-take_parts
returns-then-not-take_parts g t c =
    let all = g.B.Bank.trees c.args.bank.now in
    let H = facts_at all (map fact_of c.args.hyps.now) in
    let parted = data_flat all c.args.phase c.args.term (symbol_of c.in-App.symbol) c.in-App.arguments.now c.in-App.ensures.0 (search rules) in
    subst (λ (ys : List (Fact Term)). HasNoRoom H c.args.taken.now ys) (sym parted)
    (no_room_at (parts_at all c.args.phase) H c.in-App.arguments.now c.each.argument-index record { index = 0 } c.args.taken.now c.each.taken c.each-test.true c.each.invariant.removes c.if-not-take_parts.ensures)

pub returns-after-each : goal.returns-after-each
returns-after-each g t c =
    let all = g.B.Bank.trees c.args.bank.now in
    let H = facts_at all (map fact_of c.args.hyps.now) in
    let parted = data_flat all c.args.phase c.args.term (symbol_of c.in-App.symbol) c.in-App.arguments.now c.in-App.ensures.0 (search rules) in
    subst (λ (ys : List (Fact Term)). Removes H c.args.taken.now c.each.taken ys) (sym parted)
    (removes_all (parts_at all c.args.phase) H c.in-App.arguments.now c.each.argument-index c.args.taken.now c.each.taken c.each-test.false c.each.invariant.removes)

pub each-preserved : goal.each-preserved
each-preserved g t c = grind (arith, common_steps)
