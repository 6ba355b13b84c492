-- The labels of choices, by the instructions of an expression.
use Rattle.std.specs.Prelude.{ℕ, List, [], ◌∷◌, map}
use Rattle.std.specs.List.{flat_map, enumerate_from}
use Rattle.spec_calculus.specs.Syntax.{Builds, Calls, Protocol}
use Rattle.spec_calculus.specs.Matching.{rules_of}
use Rattle.spec_choice_walks.specs.Instructions.{Instruction, Push, Apply}

-- the numbers of the rules of each choice that the instructions leave, in order
abbrev pub labels_by : Protocol → List Instruction → List (List ℕ)
labels_by P [] = [] ∷ []
labels_by P (Push term ∷ parts) = labels_by P parts
labels_by P (Apply (Builds f) count ∷ parts) = labels_by P parts
labels_by P (Apply (Calls d) count ∷ parts) =
    flat_map (λ rule. map (λ numbers. rule.0 ∷ numbers) (labels_by P parts)) (enumerate_from 1 (rules_of P d))
