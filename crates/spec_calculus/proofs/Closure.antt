-- What the attacker can make of what it knows, a step makes known.
use Rattle.std.proofs.Common.{◌≡◌, ℕ, suc, true, List, [], ◌∷◌, length, Some, Contains, refl, ap, ◌∙◌}
use Rattle.std.proofs.lemmas.Option.{slice_get-get_or}
use Rattle.std.specs.List.{AllByRecursion}
use Rattle.spec_trees.specs.Tree.{Trees, Node, items_of}
use Rattle.spec_calculus.specs.Syntax.{Symbol, Rule, Protocol}
use Rattle.spec_calculus.specs.Points.{numbered}
use Rattle.spec_calculus.specs.Values.{Atom, Value}
use Rattle.spec_calculus.specs.Matching.{rule_value, rules_of}
use Rattle.spec_calculus.specs.Runs.{Configuration, Step, Build, Reduce, Part, learns, known_values, can_build, built, is_data, after_step}

-- what is contained has a number
number_of : {A : Type 0} (xs : List A) (x : A) → Contains xs x → (n : ℕ) × (numbered xs n ≡ Some x)
number_of xs x (k, within, at) = (suc k, slice_get-get_or xs k x within ∙ ap Some at)

-- known values have numbers
numbers_of : (c : Configuration) (vs : List Value) → AllByRecursion (Contains c.known) vs → (ks : List ℕ) × (known_values c ks ≡ Some vs) × (length ks ≡ length vs)
numbers_of c [] h = ([], refl, refl)
numbers_of c (v ∷ vs) h =
    let first = number_of c.known v h.0 in
    let others = numbers_of c vs h.1 in
    (first.0 ∷ others.0, rw (first.1, others.1) refl, ap suc others.2)

pub building_is_closed : (P : Protocol) (c : Configuration) (f : ℕ) (vs : List Value) → AllByRecursion (Contains c.known) vs → can_build P f (length vs) ≡ true → (step : Step) × (after_step P c step ≡ Some (learns c (built f vs)))
building_is_closed P c f vs known can =
    let numbers = numbers_of c vs known in
    (Build f numbers.0, rw (numbers.2, can, numbers.1) refl)

pub reducing_is_closed : (P : Protocol) (c : Configuration) (d r : ℕ) (rule : Rule) (vs : List Value) (v : Value) → numbered (rules_of P d) r ≡ Some rule → AllByRecursion (Contains c.known) vs → rule_value rule vs ≡ Some v → (step : Step) × (after_step P c step ≡ Some (learns c v))
reducing_is_closed P c d r rule vs v is_rule known gives =
    let numbers = numbers_of c vs known in
    (Reduce d r numbers.0, rw (is_rule, numbers.1, gives) refl)

pub parting_is_closed : (P : Protocol) (c : Configuration) (f : Symbol) (vs : Trees Atom Symbol) (i : ℕ) (v : Value) → Contains c.known (Node f vs) → is_data P f ≡ true → numbered (items_of vs) i ≡ Some v → (step : Step) × (after_step P c step ≡ Some (learns c v))
parting_is_closed P c f vs i v known data_symbol part =
    let number = number_of c.known (Node f vs) known in
    (Part number.0 i, rw (number.1, data_symbol, part) refl)
