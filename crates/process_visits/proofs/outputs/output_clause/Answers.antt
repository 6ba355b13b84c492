use Rattle.std.proofs.Common.{sym, subst}
use Rattle.pi_tree.specs.Terms.{term_of}
use Rattle.spec_translation.specs.Conversion.{term_in}
use Rattle.spec_translation.specs.Visit.{sent}
use Rattle.clause_form.specs.Facts.{fact_of}
use Rattle.clause_form.specs.Seen.{NameFacts}
use Rattle.unified_visits.specs.Places.{protocol_at}
use Rattle.unified_visits.specs.Visits.{visit_at, ShowDiffs}
use Rattle.unified_visits.proofs.Named.{hypotheses_later, diffs_later}
use Rattle.process_visits.proofs.Adding.{raw_named}
use Rattle.term_tree.proofs.BankLaws.{Grows_refl}
use Rattle.process_visits.proofs.outputs.output_clause.Goals as goal

pub returns-clause-names : goal.returns-clause-names
returns-clause-names g c =
    let old = g.B.Bank.trees c.args.bank.now in
    let new = g.B.Bank.trees c.sent_in.new.bank in
    let P = protocol_at c.args.place.now in
    let v = visit_at old c.args.visit.now in
    raw_named new c.in_ok-hyps.hyps c.in_ok-diffs.diffs (fact_of c.in_ok-concl.concl) v (sent P v.phase (term_in P v.scope (term_of c.args.channel.now)) (term_in P v.scope (term_of c.args.message.now)))
    (subst (λ hs. NameFacts new hs v.hypotheses) (sym c.in_ok-hyps.ensures) (hypotheses_later old new c.args.visit.now c.sent_in.ensures.grows c.requires.visit))
    (subst (λ ds. ShowDiffs new ds v.diffs) (sym c.in_ok-diffs.ensures) (diffs_later old new c.args.visit.now c.sent_in.ensures.grows c.requires.visit)) c.in_ok-concl.ensures.names

pub returns-in_err-hyps-clause-grows : goal.returns-in_err-hyps-clause-grows
returns-in_err-hyps-clause-grows g c = Grows_refl (g.B.Bank.trees c.args.bank.now)

pub returns-in_err-diffs-clause-grows : goal.returns-in_err-diffs-clause-grows
returns-in_err-diffs-clause-grows g c = Grows_refl (g.B.Bank.trees c.args.bank.now)
