use Rattle.std.proofs.Common.{sym, subst}
use Rattle.spec_clauses.specs.Fact.{Tab}
use Rattle.spec_translation.specs.Visit.{written_terms}
use Rattle.clause_form.specs.Seen.{NameFacts}
use Rattle.unified_visits.specs.Places.{protocol_at}
use Rattle.unified_visits.specs.Visits.{visit_at, ShowDiffs}
use Rattle.unified_visits.proofs.Named.{hypotheses_later, diffs_later}
use Rattle.process_visits.proofs.Adding.{raw_named}
use Rattle.term_tree.proofs.BankLaws.{Grows_refl}
use Rattle.process_visits.proofs.inserts.insert_clause.Goals as goal

pub returns-clause-names : goal.returns-clause-names
returns-clause-names g c =
    let old = g.B.Bank.trees c.args.bank.now in
    let new = g.B.Bank.trees c.terms_in.new.bank in
    let P = protocol_at c.args.place.now in
    let v = visit_at old c.args.visit.now in
    let insert = c.args.insert.now in
    let names = c.in_ok-arguments.ensures.names in
    let fact = Tab insert.table (written_terms P v insert.arguments.now) in
    raw_named new c.in_ok-hyps.hyps c.in_ok-diffs.diffs (Tab insert.table c.in_ok-arguments.arguments) v fact
    (subst (λ hs. NameFacts new hs v.hypotheses) (sym c.in_ok-hyps.ensures) (hypotheses_later old new c.args.visit.now c.terms_in.ensures.grows c.requires.visit))
    (subst (λ ds. ShowDiffs new ds v.diffs) (sym c.in_ok-diffs.ensures) (diffs_later old new c.args.visit.now c.terms_in.ensures.grows c.requires.visit))
    record { known = names.known; is = λ i. Tab insert.table (names.are i) }

pub returns-in_err-hyps-clause-grows : goal.returns-in_err-hyps-clause-grows
returns-in_err-hyps-clause-grows g c = Grows_refl (g.B.Bank.trees c.args.bank.now)

pub returns-in_err-diffs-clause-grows : goal.returns-in_err-diffs-clause-grows
returns-in_err-diffs-clause-grows g c = Grows_refl (g.B.Bank.trees c.args.bank.now)
