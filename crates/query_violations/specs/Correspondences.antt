-- A decision of queries: the events of an alternative are looked for one after another.
use Rattle.std.specs.Prelude.{◌≡◌, ℕ, Bool, true, false, not, ◌&&◌, ◌||◌, nat_eq, nat_le, List, [], ◌∷◌, ◌++◌}
use Rattle.std.specs.List.{AllByRecursion, list_any}
use Rattle.spec_trees.specs.Tree.{Leaf, Node, trees}
use Rattle.spec_calculus.specs.Syntax.{EventTerm, Query, Secret, SecretNew, Correspondence}
use Rattle.spec_calculus.specs.Values.{FreeName, MadeName, AttackerName, Value, Environment, same_values, value_of_name, value_of, values_of}
use Rattle.spec_calculus.specs.Matching.{places_row}
use Rattle.spec_calculus.specs.Runs.{Performed, Configuration, knows}

-- what stands at the places of the event's arguments is bound after all that is bound already
abbrev pub bound_by : Environment → EventTerm → Performed → Environment
bound_by s e p = s ++ places_row (trees e.arguments) (trees p.arguments)

-- whether the performed event is an instance of the event, under an extension of what is bound
abbrev pub fits : Environment → EventTerm → Performed → Bool
fits s e p = nat_eq e.event p.event && same_values (values_of (bound_by s e p) e.arguments) p.arguments

-- each binding is the one that counts for its name
abbrev pub IsConsistent : Environment → Type 0
IsConsistent s = AllByRecursion (λ b. b.value ≡ value_of_name s b.name) s

-- whether one extension finds all the events among the performed ones
abbrev pub all_found : List EventTerm → Environment → List Performed → Bool
all_found [] s performed = true
all_found (e ∷ es) s performed = list_any (λ p. fits s e p && all_found es (bound_by s e p) performed) performed

-- whether the performed event is an instance of the left side that no alternative precedes
abbrev pub unpreceded : EventTerm → List (List EventTerm) → List Performed → Performed → Bool
unpreceded left alternatives before p = fits [] left p && not (list_any (λ alternative. all_found alternative (bound_by [] left p) before) alternatives)

-- whether the value is a name that the restriction at the point made
abbrev pub is_made_at : ℕ → Value → Bool
is_made_at point (Leaf (MadeName p number)) = nat_eq p point
is_made_at point (Leaf (FreeName number)) = false
is_made_at point (Leaf (AttackerName number)) = false
is_made_at point (Node f vs) = false

-- whether one of the events from that index on is unpreceded
abbrev pub some_unpreceded : EventTerm → List (List EventTerm) → List Performed → List Performed → Bool
some_unpreceded left alternatives before [] = false
some_unpreceded left alternatives before (p ∷ ps) = unpreceded left alternatives before p || some_unpreceded left alternatives (before ++ p ∷ []) ps

abbrev pub is_violated : Query → Configuration → Bool
is_violated (Secret message phase) c = nat_le c.phase phase && knows c (value_of [] message)
is_violated (SecretNew point phase) c = nat_le c.phase phase && list_any (is_made_at point) c.known
is_violated (Correspondence left alternatives) c = some_unpreceded left alternatives [] c.events
