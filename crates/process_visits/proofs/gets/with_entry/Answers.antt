use Rattle.std.proofs.Common.{◌≡◌, ◌++◌, [], ◌∷◌}
use Rattle.term_tree.proofs.BankLaws.{Grows_refl, Grows_trans}
use Rattle.unified_visits.specs.Places.{protocol_at}
use Rattle.process_visits.specs.Entries.{WithEntry}
use Rattle.unified_visits.specs.declared.visit.Visit.{Visit}
use Rattle.unified_visits.specs.Visits.{visit_at}
use Rattle.unified_visits.proofs.Named.{if_ok}
use Rattle.process_visits.proofs.Entering.{row_room, entered}
use Rattle.spec_clauses.specs.Fact.{Tab}
use Rattle.process_visits.proofs.gets.with_entry.Goals as goal

pub patterns_grown-requires-clause-room : goal.patterns_grown-requires-clause-room
patterns_grown-requires-clause-room g c = row_room c.args.visit.now.next c.args.get.now.patterns.now c.in_ok-span.span c.in_ok-span.ensures

pub row_scope-requires : goal.row_scope-requires
row_scope-requires g c = record { room = row_room c.args.visit.now.next c.args.get.now.patterns.now c.in_ok-span.span c.in_ok-span.ensures }

pub returns-clause-names : goal.returns-clause-names
returns-clause-names g c =
    let old = g.B.Bank.trees c.args.bank.now in
    let mid = g.B.Bank.trees c.patterns_grown.new.bank in
    let new = g.B.Bank.trees c.row_scope.new.bank in
    let P = protocol_at c.args.place.now in
    let v = c.args.visit.now in
    let get = c.args.get.now in
    let scoped = c.in_ok-made.made in
    let ids = c.in_ok-terms.terms in
    if_ok c.with_entry.result (λ (made : Visit). made ≡ record scoped { hypotheses = scoped.hypotheses ++ Tab get.table ids ∷ []; messages = scoped.messages ++ ids }) (λ (made : Visit). WithEntry P (visit_at old v) get.table get.patterns.now new made)
    (λ made e. entered P old mid new v scoped made c.in_ok-span.span get.table get.patterns.now ids c.in_ok-bound.bound c.patterns_grown.ensures.grows c.row_scope.ensures.grows
    (Grows_trans old mid new c.patterns_grown.ensures.grows c.row_scope.ensures.grows) c.requires.visit c.in_ok-span.ensures c.in_ok-terms.ensures.names c.in_ok-bound.ensures.names c.in_ok-made.ensures e)
    c.with_entry.ensures

pub returns-in_err-span-clause-grows : goal.returns-in_err-span-clause-grows
returns-in_err-span-clause-grows g c = Grows_refl (g.B.Bank.trees c.args.bank.now)

pub returns-in_err-terms-clause-grows : goal.returns-in_err-terms-clause-grows
returns-in_err-terms-clause-grows g c = c.patterns_grown.ensures.grows

pub returns-in_err-bound-clause-grows : goal.returns-in_err-bound-clause-grows
returns-in_err-bound-clause-grows g c = Grows_trans (g.B.Bank.trees c.args.bank.now) (g.B.Bank.trees c.patterns_grown.new.bank) (g.B.Bank.trees c.row_scope.new.bank) c.patterns_grown.ensures.grows c.row_scope.ensures.grows

pub returns-in_err-made-clause-grows : goal.returns-in_err-made-clause-grows
returns-in_err-made-clause-grows g c = Grows_trans (g.B.Bank.trees c.args.bank.now) (g.B.Bank.trees c.patterns_grown.new.bank) (g.B.Bank.trees c.row_scope.new.bank) c.patterns_grown.ensures.grows c.row_scope.ensures.grows

pub returns-clause-grows : goal.returns-clause-grows
returns-clause-grows g c = Grows_trans (g.B.Bank.trees c.args.bank.now) (g.B.Bank.trees c.patterns_grown.new.bank) (g.B.Bank.trees c.row_scope.new.bank) c.patterns_grown.ensures.grows c.row_scope.ensures.grows
