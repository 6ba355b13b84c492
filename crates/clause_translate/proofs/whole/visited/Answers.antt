use Rattle.std.proofs.Common.{ℕ, Option, None, true, refl, subst, arith}
use Rattle.std.proofs.lemmas.Grind.{common_steps}
use Rattle.spec_calculus.specs.Bounds.{most_visits}
use Rattle.pi_tree.specs.Protocols.{protocol_of}
use Rattle.term_tree.proofs.BankLaws.{Grows_trans}
use Rattle.spec_translation.specs.Visit.{first_visit}
use Rattle.process_visits.specs.declared.listing.Listing.{Listing}
use Rattle.clause_translate.specs.Jobs.{Once, Ends}
use Rattle.clause_translate.proofs.Translating.{visits_added}
use Rattle.clause_translate.proofs.whole.visited.Goals as goal

pub returns-in-None-2-clause-visits : goal.returns-in-None-2-clause-visits
returns-in-None-2-clause-visits g c =
    let P = protocol_of c.args.protocol.now in
    let old = g.B.Bank.trees c.args.bank.now in
    let mid = g.B.Bank.trees c.first_large.new.bank in
    let new = g.B.Bank.trees c.visit_main.new.bank in
    let before : Listing = record { clauses = c.args.clauses; left = most_visits; keeps = true; choices = c.no_choices.result; sources = None } in
    let after = c.visit_main.new.listing in
    visits_added P old new before after refl refl (Grows_trans old mid new c.first_large.ensures.grows c.visit_main.ensures.grows) c.requires.clauses c.requires.low
    (subst (λ (large : Option ℕ). Ends P (Once P.main 1 first_visit) new before after large) c.in-None-2.is c.in_ok-point-2.ensures.ends)

pub returns-in_err-point-2-clause-grows : goal.returns-in_err-point-2-clause-grows
returns-in_err-point-2-clause-grows g c = Grows_trans (g.B.Bank.trees c.args.bank.now) (g.B.Bank.trees c.first_large.new.bank) (g.B.Bank.trees c.visit_main.new.bank) c.first_large.ensures.grows c.visit_main.ensures.grows

pub returns-in-Some-2-clause-grows : goal.returns-in-Some-2-clause-grows
returns-in-Some-2-clause-grows g c = Grows_trans (g.B.Bank.trees c.args.bank.now) (g.B.Bank.trees c.first_large.new.bank) (g.B.Bank.trees c.visit_main.new.bank) c.first_large.ensures.grows c.visit_main.ensures.grows

pub returns-in-None-2-clause-grows : goal.returns-in-None-2-clause-grows
returns-in-None-2-clause-grows g c = Grows_trans (g.B.Bank.trees c.args.bank.now) (g.B.Bank.trees c.first_large.new.bank) (g.B.Bank.trees c.visit_main.new.bank) c.first_large.ensures.grows c.visit_main.ensures.grows

pub returns-in-Some-2-clause-visits : goal.returns-in-Some-2-clause-visits
returns-in-Some-2-clause-visits g c = grind (arith, common_steps)
