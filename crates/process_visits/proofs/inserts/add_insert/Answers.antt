use Rattle.std.proofs.Common.{sym, ◌∙◌}
use Rattle.spec_clauses.specs.Fact.{Tab}
use Rattle.spec_translation.specs.Visit.{written_terms}
use Rattle.unified_visits.specs.Places.{protocol_at}
use Rattle.process_visits.specs.Forms.{insert_raw, are_large_in}
use Rattle.unified_visits.specs.Visits.{visit_at}
use Rattle.process_visits.proofs.Adding.{is_added, is_told}
use Rattle.unified_visits.proofs.Named.{visit_later}
use Rattle.process_visits.proofs.Telling.{told_visit}
use Rattle.term_tree.proofs.BankLaws.{Grows_trans, Grows_refl}
use Rattle.process_visits.proofs.inserts.add_insert.Goals as goal

pub returns-clause-large : goal.returns-clause-large
returns-clause-large g c =
    let old = g.B.Bank.trees c.args.bank.now in
    let mid = g.B.Bank.trees c.insert_clause.new.bank in
    let P = protocol_at c.args.place.now in
    let v = visit_at old c.args.visit.now in
    let insert = c.args.insert.now in
    is_told c.add.result mid (g.B.Bank.trees c.add.new.bank) c.args.listing.now c.add.new.self c.in_ok-raw.raw (insert_raw P v insert.table insert.arguments.now) c.in_ok-raw.ensures.names c.add.ensures.adds c.add.ensures.small
    (are_large_in P v.scope insert.arguments.now) (sym c.some_large_term.ensures ∙ c.if-some_large_term.false)

pub returns-clause-adds : goal.returns-clause-adds
returns-clause-adds g c =
    let old = g.B.Bank.trees c.args.bank.now in
    let mid = g.B.Bank.trees c.insert_clause.new.bank in
    let P = protocol_at c.args.place.now in
    let v = visit_at old c.args.visit.now in
    let insert = c.args.insert.now in
    is_added c.add.result mid (g.B.Bank.trees c.add.new.bank) c.args.listing.now c.add.new.self c.in_ok-raw.raw (insert_raw P v insert.table insert.arguments.now) c.in_ok-raw.ensures.names c.add.ensures.adds c.add.ensures.small

pub returns-clause-grows : goal.returns-clause-grows
returns-clause-grows g c = Grows_trans (g.B.Bank.trees c.args.bank.now) (g.B.Bank.trees c.insert_clause.new.bank) (g.B.Bank.trees c.add.new.bank) c.insert_clause.ensures.grows c.add.ensures.grows

pub returns-then-some_large_term-clause-adds : goal.returns-then-some_large_term-clause-adds
returns-then-some_large_term-clause-adds g c = λ same. cc

pub returns-then-some_large_term-clause-grows : goal.returns-then-some_large_term-clause-grows
returns-then-some_large_term-clause-grows g c = Grows_refl (g.B.Bank.trees c.args.bank.now)

pub add-requires-clause-visit : goal.add-requires-clause-visit
add-requires-clause-visit g c =
    (visit_later (g.B.Bank.trees c.args.bank.now) (g.B.Bank.trees c.insert_clause.new.bank) c.args.visit.now c.insert_clause.ensures.grows c.requires.visit).known

pub returns-clause-tells : goal.returns-clause-tells
returns-clause-tells g c =
    let old = g.B.Bank.trees c.args.bank.now in
    let mid = g.B.Bank.trees c.insert_clause.new.bank in
    let P = protocol_at c.args.place.now in
    let w = c.args.visit.now in
    let v = visit_at old w in
    let insert = c.args.insert.now in
    told_visit c.add.result mid c.args.place.now.point w v (Tab insert.table (written_terms P v insert.arguments.now)) c.in_ok-raw.raw c.args.listing.now c.add.new.self
    (visit_later old mid w c.insert_clause.ensures.grows c.requires.visit).is c.in_ok-raw.ensures.names.differ c.add.ensures.tells

pub returns-then-some_large_term-clause-tells : goal.returns-then-some_large_term-clause-tells
returns-then-some_large_term-clause-tells g c = λ same. cc
