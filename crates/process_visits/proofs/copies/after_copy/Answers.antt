use Rattle.std.proofs.Common.{◌≡◌, ◌++◌, ◌∷◌, [], ◌+◌, refl, sym, subst, arith}
use Rattle.spec_translation.specs.Visit.{after_copy}
use Rattle.unified_visits.specs.declared.visit.Visit.{Visit}
use Rattle.unified_visits.specs.Visits.{visit_at, NamesVisit}
use Rattle.unified_visits.proofs.Named.{if_ok, copied}
use Rattle.process_visits.proofs.copies.after_copy.Goals as goal

pub returns-clause-names : goal.returns-clause-names
returns-clause-names g c =
    let old = g.B.Bank.trees c.args.bank.now in
    let now = g.B.Bank.trees c.var.new.self in
    let v = c.args.visit.now in
    let session = c.in_ok-session.session in
    let whole : Visit = record v { sessions = v.sessions ++ session ∷ []; next = v.next + 1 } in
    if_ok c.with_session.result (λ (made : Visit). made ≡ whole) (λ (made : Visit). NamesVisit now made (after_copy (visit_at old v) v.next))
    (λ made e. subst (λ (m : Visit). NamesVisit now m (after_copy (visit_at old v) v.next)) (sym e) (copied old now v session (v.next + 1) c.var.ensures.grows c.requires.visit c.in_ok-session.ensures.names refl))
    c.with_session.ensures

pub overflow_add-visit : goal.overflow_add-visit
overflow_add-visit g c = omega (arith, c.requires.visit.room, c.requires.copies)
