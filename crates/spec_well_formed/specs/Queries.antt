-- What queries ask of: free names, variables, and restrictions.
use Rattle.std.specs.Prelude.{◌≡◌, ℕ, ◌<◌, ◌≤◌, true, List, ◌++◌, length, Some}
use Rattle.std.specs.List.{AllByRecursion, flat_map}
use Rattle.spec_calculus.specs.Syntax.{Name, Free, Made, Variable, Process, EventTerm, Query, Secret, SecretNew, Correspondence, Protocol}
use Rattle.spec_calculus.specs.Points.{numbered, nodes, is_restriction, greatest_phase}
use Rattle.spec_well_formed.specs.Signature.{Signature, signature_of}
use Rattle.spec_well_formed.specs.Leaves.{leaves, leaves_of, AreNumbered}

-- a declared free name
abbrev pub IsDeclaredFree : Signature → Name → Type 0
IsDeclaredFree signature (Free n) = (0 < n) × (n ≤ length signature.frees)
IsDeclaredFree signature (Made p) = ⊥
IsDeclaredFree signature (Variable i) = ⊥

-- a declared free name, or a variable
abbrev pub IsFreeOrVariable : Signature → Name → Type 0
IsFreeOrVariable signature (Free n) = IsDeclaredFree signature (Free n)
IsFreeOrVariable signature (Made p) = ⊥
IsFreeOrVariable signature (Variable i) = Unit {0}

-- the leaves of an event, and of all events of a correspondence: the variables of a query are one space
abbrev pub event_leaves : EventTerm → List Name
event_leaves e = leaves_of e.arguments

abbrev pub correspondence_leaves : EventTerm → List (List EventTerm) → List Name
correspondence_leaves left alternatives = event_leaves left ++ flat_map (flat_map event_leaves) alternatives

-- a restriction stands at the point
pub record IsRestrictionAt (main : Process) (point : ℕ) : Type 0 where
  pub node : Process
  pub stands : numbered (nodes main) point ≡ Some node
  pub restricts : is_restriction node ≡ true

-- a secret message holds declared free names and constructors alone; a correspondence declared free names, and variables
-- that are numbered from 1 by first occurrence; at the point of a restriction that is asked for, there is one; and no phase is later
-- than the greatest of the process
abbrev pub HasLeavesFor : Signature → Process → Query → Type 0
HasLeavesFor signature main (Secret message phase) = AllByRecursion (IsDeclaredFree signature) (leaves message) × (phase ≤ greatest_phase main)
HasLeavesFor signature main (SecretNew point phase) = IsRestrictionAt main point × (phase ≤ greatest_phase main)
HasLeavesFor signature main (Correspondence left alternatives) =
    AllByRecursion (IsFreeOrVariable signature) (correspondence_leaves left alternatives)
    × AreNumbered (correspondence_leaves left alternatives)

abbrev pub HasQueryLeaves : Protocol → Query → Type 0
HasQueryLeaves P q = HasLeavesFor (signature_of P) P.main q

-- each of its queries does so
abbrev pub HasProperQueries : Protocol → Type 0
HasProperQueries P = AllByRecursion (HasQueryLeaves P) P.queries
