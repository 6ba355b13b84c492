use Rattle.spec_clauses.specs.Norm.{norms}
use Rattle.clause_form.specs.Seen.{clause_at}
use Rattle.process_visits.proofs.Listings.{appended, counted_alone}
use Rattle.term_tree.proofs.BankLaws.{Grows_refl}
use Rattle.process_visits.proofs.listing.Listing.add_norms.Goals as goal

pub returns-then-not-self-clause-adds : goal.returns-then-not-self-clause-adds
returns-then-not-self-clause-adds g c =
    let old = g.B.Bank.trees c.args.bank.now in
    counted_alone old c.args.self.now (norms (clause_at old c.args.raw.now)) c.if-not-self.true

pub returns-clause-adds : goal.returns-clause-adds
returns-clause-adds g c =
    let old = g.B.Bank.trees c.args.bank.now in
    let now = g.B.Bank.trees c.norms_of.new.bank in
    appended now c.args.self.now c.append.new.self c.in_ok-norms.norms (norms (clause_at old c.args.raw.now)) c.if-not-self.false c.in_ok-norms.ensures.names c.in_ok-norms.ensures.low c.in_ok-append.ensures.clauses c.append.ensures.left c.append.ensures.keeps

pub returns-in_err-is_large_raw-clause-grows : goal.returns-in_err-is_large_raw-clause-grows
returns-in_err-is_large_raw-clause-grows g c = Grows_refl (g.B.Bank.trees c.args.bank.now)

pub returns-then-not-self-clause-grows : goal.returns-then-not-self-clause-grows
returns-then-not-self-clause-grows g c = Grows_refl (g.B.Bank.trees c.args.bank.now)
