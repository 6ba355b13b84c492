use Rattle.std.proofs.Common.{[], ◌∷◌, sym, ◌∙◌}
use Rattle.pi_tree.specs.Terms.{term_of}
use Rattle.spec_translation.specs.Conversion.{term_in}
use Rattle.spec_translation.specs.Visit.{is_large_term, sent}
use Rattle.unified_visits.specs.Places.{protocol_at}
use Rattle.process_visits.specs.Forms.{output_raw, are_large_in}
use Rattle.unified_visits.specs.Visits.{visit_at}
use Rattle.process_visits.proofs.Adding.{is_added, is_told, both_small}
use Rattle.unified_visits.proofs.Named.{visit_later}
use Rattle.process_visits.proofs.Telling.{told_visit}
use Rattle.term_tree.proofs.BankLaws.{Grows_trans, Grows_refl}
use Rattle.process_visits.proofs.outputs.add_output.Goals as goal

pub returns-clause-large : goal.returns-clause-large
returns-clause-large g c =
    let old = g.B.Bank.trees c.args.bank.now in
    let mid = g.B.Bank.trees c.output_clause.new.bank in
    let P = protocol_at c.args.place.now in
    let v = visit_at old c.args.visit.now in
    is_told c.add.result mid (g.B.Bank.trees c.add.new.bank) c.args.listing.now c.add.new.self c.in_ok-raw.raw (output_raw P v (term_of c.args.output.now.channel.now) (term_of c.args.output.now.message.now)) c.in_ok-raw.ensures.names c.add.ensures.adds c.add.ensures.small
    (are_large_in P v.scope (term_of c.args.output.now.channel.now ∷ term_of c.args.output.now.message.now ∷ []))
    (both_small (is_large_term (term_in P v.scope (term_of c.args.output.now.channel.now))) (is_large_term (term_in P v.scope (term_of c.args.output.now.message.now))) (sym c.is_large_term.ensures ∙ c.if-is_large_term.false) (sym c.is_large_term-2.ensures ∙ c.if-is_large_term-2.false))

pub returns-clause-adds : goal.returns-clause-adds
returns-clause-adds g c =
    let old = g.B.Bank.trees c.args.bank.now in
    let mid = g.B.Bank.trees c.output_clause.new.bank in
    let P = protocol_at c.args.place.now in
    let v = visit_at old c.args.visit.now in
    is_added c.add.result mid (g.B.Bank.trees c.add.new.bank) c.args.listing.now c.add.new.self c.in_ok-raw.raw (output_raw P v (term_of c.args.output.now.channel.now) (term_of c.args.output.now.message.now)) c.in_ok-raw.ensures.names c.add.ensures.adds c.add.ensures.small

pub returns-clause-grows : goal.returns-clause-grows
returns-clause-grows g c = Grows_trans (g.B.Bank.trees c.args.bank.now) (g.B.Bank.trees c.output_clause.new.bank) (g.B.Bank.trees c.add.new.bank) c.output_clause.ensures.grows c.add.ensures.grows

pub returns-then-is_large_term-clause-adds : goal.returns-then-is_large_term-clause-adds
returns-then-is_large_term-clause-adds g c = λ same. cc

pub returns-then-is_large_term-clause-grows : goal.returns-then-is_large_term-clause-grows
returns-then-is_large_term-clause-grows g c = Grows_refl (g.B.Bank.trees c.args.bank.now)

pub returns-then-is_large_term-2-clause-adds : goal.returns-then-is_large_term-2-clause-adds
returns-then-is_large_term-2-clause-adds g c = λ same. cc

pub returns-then-is_large_term-2-clause-grows : goal.returns-then-is_large_term-2-clause-grows
returns-then-is_large_term-2-clause-grows g c = Grows_refl (g.B.Bank.trees c.args.bank.now)

pub add-requires-clause-visit : goal.add-requires-clause-visit
add-requires-clause-visit g c =
    (visit_later (g.B.Bank.trees c.args.bank.now) (g.B.Bank.trees c.output_clause.new.bank) c.args.visit.now c.output_clause.ensures.grows c.requires.visit).known

pub returns-clause-tells : goal.returns-clause-tells
returns-clause-tells g c =
    let old = g.B.Bank.trees c.args.bank.now in
    let mid = g.B.Bank.trees c.output_clause.new.bank in
    let P = protocol_at c.args.place.now in
    let w = c.args.visit.now in
    let v = visit_at old w in
    let fact = sent P v.phase (term_in P v.scope (term_of c.args.output.now.channel.now)) (term_in P v.scope (term_of c.args.output.now.message.now)) in
    told_visit c.add.result mid c.args.place.now.point w v fact c.in_ok-raw.raw c.args.listing.now c.add.new.self (visit_later old mid w c.output_clause.ensures.grows c.requires.visit).is c.in_ok-raw.ensures.names.differ c.add.ensures.tells

pub returns-then-is_large_term-clause-tells : goal.returns-then-is_large_term-clause-tells
returns-then-is_large_term-clause-tells g c = λ same. cc

pub returns-then-is_large_term-2-clause-tells : goal.returns-then-is_large_term-2-clause-tells
returns-then-is_large_term-2-clause-tells g c = λ same. cc
