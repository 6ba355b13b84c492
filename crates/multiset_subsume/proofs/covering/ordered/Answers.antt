use Rattle.std.proofs.Common.{◌∙◌, ◌+◌, ◌∷◌, List, ap, sym, subst, map, drop, arith, Bor, ℕ, length}
use Rattle.spec_clauses.specs.Fact as horn
use Rattle.term_tree.specs.declared.bank.Id.{Id}
use Rattle.clause_form.specs.declared.facts.Fact.{Fact}
use Rattle.clause_form.specs.Facts.{fact_of}
use Rattle.clause_form.specs.Seen.{AreFactsIn}
use Rattle.clause_form.proofs.Comparing.{map_dropped}
use Rattle.fact_placing.specs.Boards.{HoldsOn, IsNextRow, AreLinkedOn}
use Rattle.fact_placing.proofs.Listing.{unref}
use Rattle.fact_placing.proofs.Putting.{known_ref, linked_on}
use Rattle.multiset_subsume.proofs.FirstRows.{way_on, way_ends, rest_of, known_dropped, front_of, next_within, way_begins}
use Rattle.multiset_subsume.proofs.covering.ordered.Goals as goal

pub place_first-requires-clause-fact : goal.place_first-requires-clause-fact
place_first-requires-clause-fact g c = known_ref (g.B.Bank.trees c.args.board.now.bank.now) c.args.facts.now c.each.k c.index-facts-k.result c.index-facts-k.is c.requires.facts c.each-test.true

pub place_first-requires-clause-rest : goal.place_first-requires-clause-rest
place_first-requires-clause-rest g c =
    let all = g.B.Bank.trees c.args.board.now.bank.now in
    subst (λ (fs : List (Bor Fact)). AreFactsIn all (map unref fs)) (sym (rest_of c.args.facts.now (c.each.k + 1))) (known_dropped all c.args.facts.now (c.each.k + 1) c.requires.facts)

pub place_first-requires-clause-known : goal.place_first-requires-clause-known
place_first-requires-clause-known g c =
    let all = g.B.Bank.trees c.args.board.now.bank.now in
    let facts = c.args.facts.now in
    let k = c.each.k in
    let f = c.index-facts-k.result in
    let front = front_of facts k f c.each-test.true c.index-facts-k.is ∙ ap (λ (fs : List (Bor Fact)). unref f ∷ map unref fs) (sym (rest_of facts (k + 1))) in
    subst (λ (fs : List (horn.Fact Id)). HoldsOn all (map fact_of c.args.board.now.hyps.now) c.args.board.now.ending c.each.placing.binds.pairs c.each.placing.taken.items fs c.each.row.items) front c.each.invariant.way.holds

pub overflow_cast-position : goal.overflow_cast-position
overflow_cast-position g c =
    let within = next_within (g.B.Bank.trees c.args.board.now.bank.now) (map fact_of c.args.board.now.hyps.now) c.args.board.now.ending c.each.placing.binds.pairs c.place_first.new.placing.binds.pairs c.each.placing.taken.items c.place_first.new.placing.taken.items _ _ c.in_ok-row.row.items c.remove-position.result c.in_ok-row.ensures.outcome c.remove-position.ensures.value in
    omega (arith, within, c.requires.board.few)

pub overflow_add-position : goal.overflow_add-position
overflow_add-position g c =
    let within = next_within (g.B.Bank.trees c.args.board.now.bank.now) (map fact_of c.args.board.now.hyps.now) c.args.board.now.ending c.each.placing.binds.pairs c.place_first.new.placing.binds.pairs c.each.placing.taken.items c.place_first.new.placing.taken.items _ _ c.in_ok-row.row.items c.remove-position.result c.in_ok-row.ensures.outcome c.remove-position.ensures.value in
    omega (arith, within, c.requires.board.few)

pub each-preserved : goal.each-preserved
each-preserved g c =
    let all = g.B.Bank.trees c.args.board.now.bank.now in
    let hyps = map fact_of c.args.board.now.hyps.now in
    let ending = c.args.board.now.ending in
    let facts = c.args.facts.now in
    let k = c.each.k in
    let f = c.index-facts-k.result in
    let old = c.each.placing.binds.pairs in
    let new = c.place_first.new.placing.binds.pairs in
    let taken_old = c.each.placing.taken.items in
    let taken_new = c.place_first.new.placing.taken.items in
    let front = front_of facts k f c.each-test.true c.index-facts-k.is in
    let next : IsNextRow all hyps ending old new taken_old taken_new (unref f) (map unref (drop (k + 1) facts)) c.in_ok-row.row.items =
    subst (λ (fs : List (Bor Fact)). IsNextRow all hyps ending old new taken_old taken_new (unref f) (map unref fs) c.in_ok-row.row.items) (rest_of facts (k + 1)) c.in_ok-row.ensures.outcome in
    record {
      way = way_on all hyps ending c.args.placing.binds.pairs c.args.placing.taken.items (map unref facts) old new taken_old taken_new (map unref (drop k facts)) (map unref (drop (k + 1) facts)) (unref f) c.each.items.items c.push.new.self.items c.each.row.items c.in_ok-row.row.items c.remove-position.new.self.items c.remove-position.result
          front c.each.invariant.way c.place_first.ensures.placing next c.remove-position.ensures.value c.remove-position.ensures.items c.in_ok-push.ensures.items;
      linked = linked_on all hyps ending old new taken_old taken_new (map unref (drop k facts)) (map unref (drop (k + 1) facts)) (unref f) next.position front next.put c.each.invariant.linked;
    }

pub returns : goal.returns
returns g c =
    let none = map_dropped unref c.args.facts.now c.each.k c.each-test.false in
    way_ends (g.B.Bank.trees c.args.board.now.bank.now) (map fact_of c.args.board.now.hyps.now) c.args.board.now.ending c.args.placing.binds.pairs c.args.placing.taken.items (map unref c.args.facts.now) c.each.placing.binds.pairs c.each.placing.taken.items (map unref (drop c.each.k c.args.facts.now)) c.each.items.items c.each.row.items none c.each.invariant.way

pub each-init : goal.each-init
each-init g c = record {
  way = way_begins (g.B.Bank.trees c.args.board.now.bank.now) (map fact_of c.args.board.now.hyps.now) c.args.board.now.ending c.args.placing.binds.pairs c.args.placing.taken.items (map unref c.args.facts.now) c.args.known.items c.in_ok-items.items.items c.in_ok-items.ensures.items c.requires.placing c.requires.known;
  linked = c.requires.linked;
}

pub remove-position-requires : goal.remove-position-requires
remove-position-requires g c =
    let next = c.in_ok-row.ensures.outcome in
    omega (arith, ap (λ (ps : List ℕ). length ps) next.are, c.in_ok-row.row.ok.0)

pub place_first-requires-clause-placing : goal.place_first-requires-clause-placing
place_first-requires-clause-placing g c = c.each.invariant.way.placing

pub place_first-requires-clause-board : goal.place_first-requires-clause-board
place_first-requires-clause-board g c = c.requires.board

pub place_first-requires-clause-ending : goal.place_first-requires-clause-ending
place_first-requires-clause-ending g c = c.requires.ending

pub place_first-requires-clause-linked : goal.place_first-requires-clause-linked
place_first-requires-clause-linked g c =
    let all = g.B.Bank.trees c.args.board.now.bank.now in
    let facts = c.args.facts.now in
    let k = c.each.k in
    let f = c.index-facts-k.result in
    let front = front_of facts k f c.each-test.true c.index-facts-k.is ∙ ap (λ (fs : List (Bor Fact)). unref f ∷ map unref fs) (sym (rest_of facts (k + 1))) in
    subst (λ (fs : List (horn.Fact Id)). AreLinkedOn all c.args.board.now.ending c.each.placing.binds.pairs fs) front c.each.invariant.linked
