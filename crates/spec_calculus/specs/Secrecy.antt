-- Queries: secrecy and correspondences (Blanchet 2016, sections 2.3 and 3.2), and what it means that they hold.
use Rattle.std.specs.Prelude.{◌≡◌, ℕ, ◌≤◌, List, [], take, Some, slice_get, Contains}
use Rattle.std.specs.List.{AllByRecursion}
use Rattle.spec_trees.specs.Tree.{Leaf}
use Rattle.spec_calculus.specs.Syntax.{EventTerm, Protocol, Query, Secret, SecretNew, Correspondence}
use Rattle.spec_calculus.specs.Values.{MadeName, Environment, value_of, values_of}
use Rattle.spec_calculus.specs.Runs.{Performed, Configuration, Step, run}

-- the event, with the values that the environment gives to its variables
abbrev pub instance : Environment → EventTerm → Performed
instance environment e = record { event = e.event; arguments = values_of environment e.arguments }

-- all events of the alternative are among the performed ones
abbrev pub AllPerformed : Environment → List EventTerm → List Performed → Type 0
AllPerformed environment alternative performed = AllByRecursion (λ e. Contains performed (instance environment e)) alternative

-- the event at the index is an instance of the left side, and no extension of that instance puts all events of an alternative before it
pub record IsUnpreceded (left : EventTerm) (alternatives : List (List EventTerm)) (events : List Performed) (index : ℕ) : Type 0 where
  pub environment : Environment
  pub is_instance : slice_get events index ≡ Some (instance environment left)
  pub unpreceded : (extension : Environment) (alternative : List EventTerm) → instance extension left ≡ instance environment left → Contains alternatives alternative → ¬ AllPerformed extension alternative (take index events)

-- the query is violated in the configuration
abbrev pub IsViolated : Query → Configuration → Type 0
-- the attacker knows the message, up to the phase
IsViolated (Secret message phase) c = Contains c.known (value_of [] message) × (c.phase ≤ phase)
-- the attacker knows a name that the restriction made, up to the phase
IsViolated (SecretNew point phase) c = ((number : ℕ) × Contains c.known (Leaf (MadeName point number))) × (c.phase ≤ phase)
-- an event is not preceded as it should be
IsViolated (Correspondence left alternatives) c = (index : ℕ) × IsUnpreceded left alternatives c.events index

-- the query can still be violated: its phase has not passed
abbrev pub IsOpen : Query → Configuration → Type 0
IsOpen (Secret message phase) c = c.phase ≤ phase
IsOpen (SecretNew point phase) c = c.phase ≤ phase
IsOpen (Correspondence left alternatives) c = Unit {0}

-- no run of the protocol ends in a configuration that violates the query
abbrev pub Holds : Protocol → Query → Type 0
Holds P q = (steps : List Step) (c : Configuration) → run P steps ≡ Some c → ¬ (IsViolated q c)
