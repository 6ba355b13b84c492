use Rattle.std.proofs.Common.{◌≡◌, ◌++◌, ◌∷◌, [], arith}
use Rattle.pi_tree.specs.Terms.{term_of}
use Rattle.pi_tree.specs.Patterns.{pattern_of}
use Rattle.spec_translation.specs.Conversion.{Fresh}
use Rattle.spec_translation.specs.Visit.{IsFresh, after_input}
use Rattle.clause_form.specs.Facts.{fact_of}
use Rattle.unified_visits.specs.declared.visit.Visit.{Visit}
use Rattle.unified_visits.specs.Places.{protocol_at}
use Rattle.unified_visits.specs.Visits.{visit_at, NamesVisit}
use Rattle.unified_visits.proofs.Named.{if_ok, visit_later}
use Rattle.process_visits.proofs.Receiving.{received_named}
use Rattle.term_tree.proofs.BankLaws.{Grows_trans}
use Rattle.std.proofs.lemmas.Grind.{common_steps}
use Rattle.process_visits.proofs.inputs.received.Goals as goal

pub with_pattern-requires-clause-visit : goal.with_pattern-requires-clause-visit
with_pattern-requires-clause-visit g c = (visit_later (g.B.Bank.trees c.args.bank.now) (g.B.Bank.trees c.term_in.new.bank) c.args.visit.now c.term_in.ensures.grows c.requires.visit).known

pub returns-clause-names : goal.returns-clause-names
returns-clause-names g c =
    let old = g.B.Bank.trees c.args.bank.now in
    let mid = g.B.Bank.trees c.term_in.new.bank in
    let new = g.B.Bank.trees c.with_pattern.new.bank in
    let P = protocol_at c.args.place.now in
    let v = c.args.visit.now in
    let w = c.in_ok-bound.bound in
    let channel = term_of c.args.channel.now in
    let pattern = pattern_of c.args.pattern.now in
    if_ok c.with_message.result (λ (made : Visit). made ≡ record w { hypotheses = w.hypotheses ++ fact_of c.sent-fact.result ∷ []; messages = w.messages ++ c.in_ok-bound.message ∷ [] })
    (λ (made : Visit). (at : Fresh) × IsFresh (visit_at old v) pattern at × NamesVisit new made (after_input P (visit_at old v) channel pattern at))
    (λ made e. received_named P old mid new v w made channel pattern c.in_ok-channel.channel c.in_ok-bound.message (fact_of c.sent-fact.result) c.term_in.ensures.grows c.with_pattern.ensures.grows c.requires.visit c.in_ok-bound.ensures.names c.in_ok-channel.ensures.names c.sent-fact.ensures e)
    c.with_message.ensures

pub returns-in_err-bound-clause-grows : goal.returns-in_err-bound-clause-grows
returns-in_err-bound-clause-grows g c = Grows_trans (g.B.Bank.trees c.args.bank.now) (g.B.Bank.trees c.term_in.new.bank) (g.B.Bank.trees c.with_pattern.new.bank) c.term_in.ensures.grows c.with_pattern.ensures.grows

pub returns-clause-grows : goal.returns-clause-grows
returns-clause-grows g c = Grows_trans (g.B.Bank.trees c.args.bank.now) (g.B.Bank.trees c.term_in.new.bank) (g.B.Bank.trees c.with_pattern.new.bank) c.term_in.ensures.grows c.with_pattern.ensures.grows

pub sent-fact-requires-clause-channel : goal.sent-fact-requires-clause-channel
sent-fact-requires-clause-channel g c = grind (arith, common_steps)
