use Rattle.std.proofs.Common.{◌∷◌, refl, subst}
use Rattle.pi_tree.specs.Terms.{term_of}
use Rattle.spec_calculus.specs.Syntax.{Builds, Constructor, Tuple}
use Rattle.term_values.specs.Instructions.{instruction_of}
use Rattle.term_values.specs.declared.instructions.Instruction as code
use Rattle.unified_visits.specs.Places.{protocol_at}
use Rattle.visit_choices.specs.Walks.{IsAlong}
use Rattle.visit_choices.proofs.Walking.{within_row, along_pushed, along_built}
use Rattle.visit_choices.proofs.choices.step.Goals as goal

pub build-requires-clause-within : goal.build-requires-clause-within
build-requires-clause-within g c =
    let old = g.B.Bank.trees c.args.bank.now in
    let P = protocol_at c.args.choosing.now.place.now in
    let w = c.args.choosing.now.visit.now in
    let has = c.requires.stands in
    within_row P w has.0 old c.args.walk.now (Builds (Constructor c.in-App.constructor)) c.in-App.count has.1 has.2 (subst (λ (x : code.Instruction). IsAlong P w has.0 (instruction_of x ∷ has.1) has.2 old c.args.walk.now) c.in-App.is has.3)

pub build-requires-in-Tuple-clause-within : goal.build-requires-in-Tuple-clause-within
build-requires-in-Tuple-clause-within g c =
    let old = g.B.Bank.trees c.args.bank.now in
    let P = protocol_at c.args.choosing.now.place.now in
    let w = c.args.choosing.now.visit.now in
    let has = c.requires.stands in
    within_row P w has.0 old c.args.walk.now (Builds Tuple) c.in-Tuple.count has.1 has.2 (subst (λ (x : code.Instruction). IsAlong P w has.0 (instruction_of x ∷ has.1) has.2 old c.args.walk.now) c.in-Tuple.is has.3)

pub returns-in_ok-push_term-in-Term-clause-along : goal.returns-in_ok-push_term-in-Term-clause-along
returns-in_ok-push_term-in-Term-clause-along g c =
    let old = g.B.Bank.trees c.args.bank.now in
    let new = g.B.Bank.trees c.push_term.new.bank in
    let P = protocol_at c.args.choosing.now.place.now in
    let w = c.args.choosing.now.visit.now in
    λ v later rs before.
    let was = subst (λ (x : code.Instruction). IsAlong P w v (instruction_of x ∷ later) rs old c.args.walk.now) c.in-Term.is before in
    along_pushed P w v old new c.args.walk.now c.push_term.new.row (term_of c.in-Term.term.now) later rs was (c.in_ok-push_term-in-Term.ensures.parts v was.parts was.row)

pub returns-in_ok-build-in-App-clause-along : goal.returns-in_ok-build-in-App-clause-along
returns-in_ok-build-in-App-clause-along g c =
    let old = g.B.Bank.trees c.args.bank.now in
    let new = g.B.Bank.trees c.build.new.bank in
    let P = protocol_at c.args.choosing.now.place.now in
    let w = c.args.choosing.now.visit.now in
    let f = Constructor c.in-App.constructor in
    λ v later rs before.
    let was = subst (λ (x : code.Instruction). IsAlong P w v (instruction_of x ∷ later) rs old c.args.walk.now) c.in-App.is before in
    along_built P w v old new c.args.walk.now c.build.new.row f c.in-App.count later rs was (c.in_ok-build-in-App.ensures.parts v was.parts f (c.constructor_symbol-symbol.ensures c.in-App.count) was.row)

pub returns-in_ok-build-in-Tuple-clause-along : goal.returns-in_ok-build-in-Tuple-clause-along
returns-in_ok-build-in-Tuple-clause-along g c =
    let old = g.B.Bank.trees c.args.bank.now in
    let new = g.B.Bank.trees c.build-in-Tuple.new.bank in
    let P = protocol_at c.args.choosing.now.place.now in
    let w = c.args.choosing.now.visit.now in
    λ v later rs before.
    let was = subst (λ (x : code.Instruction). IsAlong P w v (instruction_of x ∷ later) rs old c.args.walk.now) c.in-Tuple.is before in
    along_built P w v old new c.args.walk.now c.build-in-Tuple.new.row Tuple c.in-Tuple.count later rs was (c.in_ok-build-in-Tuple.ensures.parts v was.parts Tuple refl was.row)
