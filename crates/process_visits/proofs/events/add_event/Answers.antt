use Rattle.std.proofs.Common.{◌≡◌, true, false, Option, map, sym, subst, ◌∙◌}
use Rattle.term_tree.specs.Bank.{tree_at}
use Rattle.term_tree.proofs.BankLaws.{Grows_trans, Grows_refl}
use Rattle.spec_clauses.specs.Variables.{AreBelow}
use Rattle.spec_clauses.specs.Limits.{is_large_raw}
use Rattle.spec_clauses.specs.Norm.{norms}
use Rattle.spec_clauses.specs.Fact.{Clause}
use Rattle.spec_clauses.specs.Renaming.{DifferInBound}
use Rattle.spec_clauses.proofs.NormTidied.{same_norms}
use Rattle.spec_terms.specs.Term.{Term}
use Rattle.pi_tree.specs.Events.{event_of}
use Rattle.spec_translation.specs.Visit.{event_terms, after_event}
use Rattle.spec_clauses.specs.Fact.{Ev}
use Rattle.clause_form.specs.Seen.{clause_at}
use Rattle.clause_form.proofs.Copying.{NameTerms-grows}
use Rattle.unified_visits.specs.declared.visit.Visit.{Visit}
use Rattle.process_visits.specs.Forms.{Adds, raw_event, below_event, event_raw, IsSmallVisit, EventAdds}
use Rattle.unified_visits.specs.Places.{protocol_at}
use Rattle.process_visits.specs.Telling.{TellsVisit}
use Rattle.unified_visits.specs.Visits.{visit_at}
use Rattle.unified_visits.proofs.Named.{if_ok, visit_later, below_parts}
use Rattle.process_visits.proofs.Adding.{same_large_raw}
use Rattle.unified_visits.proofs.Below.{terms_in_below}
use Rattle.visit_choices.proofs.Branches.{if_true, if_false}
use Rattle.process_visits.proofs.Happening.{event_named, event_first, event_second, event_last}
use Rattle.process_visits.proofs.Telling.{told_as, all_found}
use Rattle.process_visits.proofs.events.add_event.Goals as goal

pub returns-then-some_large_term-clause-adds : goal.returns-then-some_large_term-clause-adds
returns-then-some_large_term-clause-adds g c =
    let old = g.B.Bank.trees c.args.bank.now in
    event_first (protocol_at c.args.place.now) (visit_at old c.args.visit.now) (event_of c.args.atom.now) (sym c.some_large_term.ensures ∙ c.if-some_large_term.true)

pub add-requires-clause-visit : goal.add-requires-clause-visit
add-requires-clause-visit g c =
    (visit_later (g.B.Bank.trees c.args.bank.now) (g.B.Bank.trees c.terms_in.new.bank) c.args.visit.now c.terms_in.ensures.grows c.requires.visit).known

pub add-requires-clause-raw : goal.add-requires-clause-raw
add-requires-clause-raw g c =
    let old = g.B.Bank.trees c.args.bank.now in
    let mid = g.B.Bank.trees c.terms_in.new.bank in
    let w = c.args.visit.now in
    (event_named mid w c.args.atom.now.event c.in_ok-arguments.arguments c.in_ok-raw.raw (visit_later old mid w c.terms_in.ensures.grows c.requires.visit).known c.in_ok-arguments.ensures.names.known c.in_ok-raw.ensures).known

pub event_below-requires : goal.event_below-requires
event_below-requires g c =
    let old = g.B.Bank.trees c.args.bank.now in
    let mid = g.B.Bank.trees c.terms_in.new.bank in
    let new = g.B.Bank.trees c.add.new.bank in
    let v = c.args.visit.now in
    let P = protocol_at c.args.place.now in
    let e = event_of c.args.atom.now in
    let grows = Grows_trans old mid new c.terms_in.ensures.grows c.add.ensures.grows in
    let names = NameTerms-grows mid new c.in_ok-arguments.arguments (event_terms P (visit_at old v) e) c.add.ensures.grows c.in_ok-arguments.ensures.names in
    record {
      visit = (visit_later old new v grows c.requires.visit).known;
      arguments = names.known;
      below = subst (λ ts. AreBelow v.next ts) (sym names.are) (terms_in_below P v.next (visit_at old v).scope (below_parts old mid v c.terms_in.ensures.grows c.requires.visit).scope e.arguments);
    }

pub returns-then-added-clause-adds : goal.returns-then-added-clause-adds
returns-then-added-clause-adds g c =
    let old = g.B.Bank.trees c.args.bank.now in
    let mid = g.B.Bank.trees c.terms_in.new.bank in
    let new = g.B.Bank.trees c.add.new.bank in
    let w = c.args.visit.now in
    let P = protocol_at c.args.place.now in
    let v = visit_at old w in
    let e = event_of c.args.atom.now in
    let grows = Grows_trans old mid new c.terms_in.ensures.grows c.add.ensures.grows in
    let names = c.in_ok-arguments.ensures.names in
    let later = NameTerms-grows mid new c.in_ok-arguments.arguments (event_terms P v e) c.add.ensures.grows names in
    let at_mid = visit_later old mid w c.terms_in.ensures.grows c.requires.visit in
    let at_new = (visit_later old new w grows c.requires.visit).is in
    let small = sym c.some_large_term.ensures ∙ c.if-some_large_term.false in
    let named = event_named mid w e.event c.in_ok-arguments.arguments c.in_ok-raw.raw at_mid.known names.known c.in_ok-raw.ensures in
    let raw_so : raw_event (visit_at mid w) e.event (map (tree_at mid) c.in_ok-arguments.arguments) ≡ event_raw P v e = λ i. raw_event (at_mid.is i) e.event (names.are i) in
    let differ = subst (λ (d : Clause Term). DifferInBound (clause_at mid c.in_ok-raw.raw) d) raw_so named.differ in
    let raw_is = same_large_raw (clause_at mid c.in_ok-raw.raw) (event_raw P v e) differ in
    let raw : is_large_raw (event_raw P v e) ≡ false = sym raw_is ∙ c.in_ok-added.ensures.small c.if-added.true in
    let adds : Adds new c.args.listing.now c.add.new.self (norms (event_raw P v e)) =
    subst (λ cs. Adds new c.args.listing.now c.add.new.self cs) (same_norms (clause_at mid c.in_ok-raw.raw) (event_raw P v e) differ)
    (if_true c.in_ok-added.added (Adds new c.args.listing.now c.add.new.self (norms (clause_at mid c.in_ok-raw.raw))) (is_large_raw (clause_at mid c.in_ok-raw.raw) ≡ true) c.if-added.true c.in_ok-added.ensures.adds) in
    let below_is : below_event (visit_at new w) e.event (map (tree_at new) c.in_ok-arguments.arguments) ≡ after_event P v e = λ i. below_event (at_new i) e.event (later.are i) in
    if_ok c.event_below.result (λ (found : Option Visit). IsSmallVisit new (below_event (visit_at new w) e.event (map (tree_at new) c.in_ok-arguments.arguments)) found)
    (λ (found : Option Visit). EventAdds P v e new c.args.listing.now c.add.new.self found)
    (λ found h. event_last P v e new c.args.listing.now c.add.new.self found small raw adds (subst (λ x. IsSmallVisit new x found) below_is h)) c.event_below.ensures

pub returns-clause-adds : goal.returns-clause-adds
returns-clause-adds g c =
    let old = g.B.Bank.trees c.args.bank.now in
    let mid = g.B.Bank.trees c.terms_in.new.bank in
    let new = g.B.Bank.trees c.add.new.bank in
    let w = c.args.visit.now in
    let P = protocol_at c.args.place.now in
    let v = visit_at old w in
    let e = event_of c.args.atom.now in
    let names = c.in_ok-arguments.ensures.names in
    let at_mid = visit_later old mid w c.terms_in.ensures.grows c.requires.visit in
    let named = event_named mid w e.event c.in_ok-arguments.arguments c.in_ok-raw.raw at_mid.known names.known c.in_ok-raw.ensures in
    let raw_so : raw_event (visit_at mid w) e.event (map (tree_at mid) c.in_ok-arguments.arguments) ≡ event_raw P v e = λ i. raw_event (at_mid.is i) e.event (names.are i) in
    let differ = subst (λ (d : Clause Term). DifferInBound (clause_at mid c.in_ok-raw.raw) d) raw_so named.differ in
    let raw_is = same_large_raw (clause_at mid c.in_ok-raw.raw) (event_raw P v e) differ in
    event_second P v e
    (sym raw_is ∙ if_false c.in_ok-added.added (Adds new c.args.listing.now c.add.new.self (norms (clause_at mid c.in_ok-raw.raw))) (is_large_raw (clause_at mid c.in_ok-raw.raw) ≡ true) c.if-added.false c.in_ok-added.ensures.adds)

pub returns-in_err-added-clause-grows : goal.returns-in_err-added-clause-grows
returns-in_err-added-clause-grows g c = Grows_trans (g.B.Bank.trees c.args.bank.now) (g.B.Bank.trees c.terms_in.new.bank) (g.B.Bank.trees c.add.new.bank) c.terms_in.ensures.grows c.add.ensures.grows

pub returns-then-added-clause-grows : goal.returns-then-added-clause-grows
returns-then-added-clause-grows g c = Grows_trans (g.B.Bank.trees c.args.bank.now) (g.B.Bank.trees c.terms_in.new.bank) (g.B.Bank.trees c.add.new.bank) c.terms_in.ensures.grows c.add.ensures.grows

pub returns-clause-grows : goal.returns-clause-grows
returns-clause-grows g c = Grows_trans (g.B.Bank.trees c.args.bank.now) (g.B.Bank.trees c.terms_in.new.bank) (g.B.Bank.trees c.add.new.bank) c.terms_in.ensures.grows c.add.ensures.grows

pub returns-then-some_large_term-clause-grows : goal.returns-then-some_large_term-clause-grows
returns-then-some_large_term-clause-grows g c = Grows_refl (g.B.Bank.trees c.args.bank.now)

pub returns-then-added-clause-tells : goal.returns-then-added-clause-tells
returns-then-added-clause-tells g c =
    let old = g.B.Bank.trees c.args.bank.now in
    let mid = g.B.Bank.trees c.terms_in.new.bank in
    let w = c.args.visit.now in
    let P = protocol_at c.args.place.now in
    let v = visit_at old w in
    let e = event_of c.args.atom.now in
    let names = c.in_ok-arguments.ensures.names in
    let at_mid = visit_later old mid w c.terms_in.ensures.grows c.requires.visit in
    let named = event_named mid w e.event c.in_ok-arguments.arguments c.in_ok-raw.raw at_mid.known names.known c.in_ok-raw.ensures in
    let raw_so : raw_event (visit_at mid w) e.event (map (tree_at mid) c.in_ok-arguments.arguments) ≡ event_raw P v e = λ i. raw_event (at_mid.is i) e.event (names.are i) in
    let differ = subst (λ (d : Clause Term). DifferInBound (clause_at mid c.in_ok-raw.raw) d) raw_so named.differ in
    all_found c.event_below.result (TellsVisit c.args.place.now.point v (Ev e.event (event_terms P v e)) c.args.listing.now c.add.new.self)
    (told_as mid c.args.place.now.point w v (Ev e.event (event_terms P v e)) c.in_ok-raw.raw c.args.listing.now c.add.new.self at_mid.is differ (c.in_ok-added.ensures.tells c.if-added.true))
