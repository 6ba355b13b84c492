use Rattle.std.proofs.Common.{◌∙◌, ap, subst, arith}
use Rattle.pi_tree.specs.Terms.{term_of}
use Rattle.term_tree.proofs.BankLaws.{Names-grows, Grows_trans}
use Rattle.spec_translation.specs.Conversion.{term_in}
use Rattle.spec_translation.specs.Visit.{sent}
use Rattle.clause_form.specs.Facts.{fact_of}
use Rattle.clause_form.specs.Seen.{NamesFact}
use Rattle.clause_terms.specs.Scopes.{scope_at}
use Rattle.unified_visits.specs.Places.{protocol_at}
use Rattle.unified_visits.proofs.Scopes.{IsScopeIn-grows, scope_at-grows}
use Rattle.std.proofs.lemmas.Grind.{common_steps}
use Rattle.process_visits.proofs.outputs.sent_in.Goals as goal

pub term_in-requires-2-clause-scope : goal.term_in-requires-2-clause-scope
term_in-requires-2-clause-scope g c = IsScopeIn-grows (g.B.Bank.trees c.args.bank.now) (g.B.Bank.trees c.term_in.new.bank) c.args.visit.now.scope c.term_in.ensures.grows c.requires.scope

pub returns-clause-names : goal.returns-clause-names
returns-clause-names g c =
    let old = g.B.Bank.trees c.args.bank.now in
    let mid = g.B.Bank.trees c.term_in.new.bank in
    let new = g.B.Bank.trees c.term_in-2.new.bank in
    let P = protocol_at c.args.place.now in
    let scope = c.args.visit.now.scope in
    let first = (Names-grows mid new c.in_ok-channel.channel (term_in P (scope_at old scope) (term_of c.args.channel.now)) c.term_in-2.ensures.grows c.in_ok-channel.ensures.names).is in
    let second = c.in_ok-message.ensures.names.is ∙ ap (λ bound. term_in P bound (term_of c.args.message.now)) (scope_at-grows old mid scope c.term_in.ensures.grows c.requires.scope) in
    subst (λ f. NamesFact new (fact_of c.sent.result) f) (λ i. sent P c.args.visit.now.phase (first i) (second i)) c.sent.ensures

pub returns-in_err-message-clause-grows : goal.returns-in_err-message-clause-grows
returns-in_err-message-clause-grows g c = Grows_trans (g.B.Bank.trees c.args.bank.now) (g.B.Bank.trees c.term_in.new.bank) (g.B.Bank.trees c.term_in-2.new.bank) c.term_in.ensures.grows c.term_in-2.ensures.grows

pub returns-clause-grows : goal.returns-clause-grows
returns-clause-grows g c = Grows_trans (g.B.Bank.trees c.args.bank.now) (g.B.Bank.trees c.term_in.new.bank) (g.B.Bank.trees c.term_in-2.new.bank) c.term_in.ensures.grows c.term_in-2.ensures.grows

pub sent-requires-clause-channel : goal.sent-requires-clause-channel
sent-requires-clause-channel g c = grind (arith, common_steps)
