use Rattle.std.proofs.Common.{◌≡◌, List, [], ◌∷◌, ◌++◌, refl, subst}
use Rattle.pi_tree.specs.Terms.{term_of}
use Rattle.spec_trees.specs.Tree.{Leaf}
use Rattle.spec_calculus.specs.Syntax.{Symbol, Builds, Constructor, Tuple, Ruled}
use Rattle.spec_translation.specs.Conversion.{symbol_over}
use Rattle.spec_translation.specs.Visit.{Visit}
use Rattle.spec_choice_walks.specs.Instructions as walks
use Rattle.spec_choice_walks.specs.Instructions.{joined_last}
use Rattle.term_tree.specs.Bank.{symbol_of}
use Rattle.term_tree.specs.declared.bank.Sym.TheVariants as bank
use Rattle.term_values.specs.Instructions.{instruction_of}
use Rattle.term_values.specs.declared.instructions.Instruction as code
use Rattle.unified_visits.specs.Places.{protocol_at}
use Rattle.else_visits.specs.Sides.{AreSidesOf, IsAlongSides}
use Rattle.else_visits.proofs.SideWalking.{on_ok, within_sides, sides_on_pushed, sides_on_built}
use Rattle.else_visits.proofs.otherwise.step_side.Goals as goal

pub push_side-requires-clause-known : goal.push_side-requires-clause-known
push_side-requires-clause-known g c = let has = c.requires.stands in (has.0, has.3.parts, has.3.sides)

pub build_side-requires-clause-known : goal.build_side-requires-clause-known
build_side-requires-clause-known g c = let has = c.requires.stands in (has.0, has.3.parts, has.3.sides)

pub build_side-requires-in-Tuple-clause-known : goal.build_side-requires-in-Tuple-clause-known
build_side-requires-in-Tuple-clause-known g c = let has = c.requires.stands in (has.0, has.3.parts, has.3.sides)

pub build_side-requires-clause-within : goal.build_side-requires-clause-within
build_side-requires-clause-within g c =
    let old = g.B.Bank.trees c.args.bank.now in
    let P = protocol_at c.args.choosing.now.place.now in
    let w = c.args.choosing.now.visit.now in
    let has = c.requires.stands in
    within_sides P w has.0 old c.args.walk.now (Builds (Constructor c.in-App.constructor)) c.in-App.count has.1 has.2 (subst (λ (x : code.Instruction). IsAlongSides P w has.0 (instruction_of x ∷ has.1) has.2 old c.args.walk.now) c.in-App.is has.3)

pub build_side-requires-in-Tuple-clause-within : goal.build_side-requires-in-Tuple-clause-within
build_side-requires-in-Tuple-clause-within g c =
    let old = g.B.Bank.trees c.args.bank.now in
    let P = protocol_at c.args.choosing.now.place.now in
    let w = c.args.choosing.now.visit.now in
    let has = c.requires.stands in
    within_sides P w has.0 old c.args.walk.now (Builds Tuple) c.in-Tuple.count has.1 has.2 (subst (λ (x : code.Instruction). IsAlongSides P w has.0 (instruction_of x ∷ has.1) has.2 old c.args.walk.now) c.in-Tuple.is has.3)

pub returns-in-Term-clause-along : goal.returns-in-Term-clause-along
returns-in-Term-clause-along g c =
    let old = g.B.Bank.trees c.args.bank.now in
    let new = g.B.Bank.trees c.push_side.new.bank in
    let P = protocol_at c.args.choosing.now.place.now in
    let w = c.args.choosing.now.visit.now in
    let walk = c.args.walk.now in
    let next = c.push_side.new.sides in
    let t = term_of c.in-Term.term.now in
    on_ok c.push_side.result ((v : Visit) → (parts : List Ruled) → AreSidesOf P w v parts old walk.sides → AreSidesOf P w v (parts ++ Leaf t ∷ []) new next)
    ((v : Visit) → (later : List walks.Instruction) → (ruled : Ruled) → IsAlongSides P w v (instruction_of c.args.instruction.now ∷ later) ruled old walk → IsAlongSides P w v later ruled new (record { sides = next; left = walk.left; number = walk.number }))
    (λ told. λ v later ruled before.
    let was = subst (λ (x : code.Instruction). IsAlongSides P w v (instruction_of x ∷ later) ruled old walk) c.in-Term.is before in
    sides_on_pushed P w v old new walk next t later ruled was (told v was.parts was.sides)) c.push_side.ensures.parts

pub returns-in-App-clause-along : goal.returns-in-App-clause-along
returns-in-App-clause-along g c =
    let old = g.B.Bank.trees c.args.bank.now in
    let new = g.B.Bank.trees c.build_side.new.bank in
    let P = protocol_at c.args.choosing.now.place.now in
    let w = c.args.choosing.now.visit.now in
    let walk = c.args.walk.now in
    let next = c.build_side.new.sides in
    let f = Constructor c.in-App.constructor in
    let count = c.in-App.count in
    on_ok c.build_side.result ((v : Visit) → (parts : List Ruled) → (h : Symbol) → symbol_of c.constructor_symbol-symbol.result ≡ symbol_over P count h → AreSidesOf P w v parts old walk.sides → AreSidesOf P w v (joined_last (Builds h) count parts) new next)
    ((v : Visit) → (later : List walks.Instruction) → (ruled : Ruled) → IsAlongSides P w v (instruction_of c.args.instruction.now ∷ later) ruled old walk → IsAlongSides P w v later ruled new (record { sides = next; left = walk.left; number = walk.number }))
    (λ told. λ v later ruled before.
    let was = subst (λ (x : code.Instruction). IsAlongSides P w v (instruction_of x ∷ later) ruled old walk) c.in-App.is before in
    sides_on_built P w v old new walk next f count later ruled was (told v was.parts f (c.constructor_symbol-symbol.ensures count) was.sides)) c.build_side.ensures.parts

pub returns-in-Tuple-clause-along : goal.returns-in-Tuple-clause-along
returns-in-Tuple-clause-along g c =
    let old = g.B.Bank.trees c.args.bank.now in
    let new = g.B.Bank.trees c.build_side-in-Tuple.new.bank in
    let P = protocol_at c.args.choosing.now.place.now in
    let w = c.args.choosing.now.visit.now in
    let walk = c.args.walk.now in
    let next = c.build_side-in-Tuple.new.sides in
    let count = c.in-Tuple.count in
    on_ok c.build_side-in-Tuple.result ((v : Visit) → (parts : List Ruled) → (h : Symbol) → symbol_of (bank.Tuple count) ≡ symbol_over P count h → AreSidesOf P w v parts old walk.sides → AreSidesOf P w v (joined_last (Builds h) count parts) new next)
    ((v : Visit) → (later : List walks.Instruction) → (ruled : Ruled) → IsAlongSides P w v (instruction_of c.args.instruction.now ∷ later) ruled old walk → IsAlongSides P w v later ruled new (record { sides = next; left = walk.left; number = walk.number }))
    (λ told. λ v later ruled before.
    let was = subst (λ (x : code.Instruction). IsAlongSides P w v (instruction_of x ∷ later) ruled old walk) c.in-Tuple.is before in
    sides_on_built P w v old new walk next Tuple count later ruled was (told v was.parts Tuple refl was.sides)) c.build_side-in-Tuple.ensures.parts
