-- What is asked of a protocol beside its own queries: whether something can happen at all.
use Rattle.std.specs.Prelude.{◌≡◌, ℕ, suc, zero, ◌+◌, Some, List, [], ◌∷◌}
use Rattle.spec_trees.specs.Tree.{Leaf}
use Rattle.spec_calculus.specs.Syntax.{Declared, Protocol, Query, Correspondence, EventTerm, Term, Variable}
use Rattle.spec_calculus.specs.Points.{numbered}
use Rattle.protocol_text.specs.declared.questions.Subject.{Subject}
use Rattle.protocol_text.specs.declared.questions.Subject.TheVariants.{Event, Left}

-- so many variables, the first of which has that number
abbrev pub variables_from : ℕ → ℕ → List Term
variables_from first zero = []
variables_from first (suc count) = Leaf (Variable first) ∷ variables_from (first + 1) count

-- the event of that number, whatever its arguments
abbrev pub any_event : ℕ → ℕ → EventTerm
any_event event arity = record { event = event; arguments = variables_from 1 arity }

-- `event e(..) ==> false`: that the event never happens
abbrev pub never : EventTerm → Query
never event = Correspondence event []

-- the protocol with these queries in place of its own
abbrev pub asking : Protocol → List Query → Protocol
asking P queries = record P { queries = queries }

-- the subject is this event of the protocol: a declared one whatever its arguments, or the left side of a correspondence that has alternatives
abbrev pub IsAbout : Protocol → Subject → EventTerm → Type 0
IsAbout P (Event number) event = (declared : Declared) × (numbered P.events number ≡ Some declared) × (event ≡ any_event number declared.arity)
IsAbout P (Left number) event = (first : List EventTerm) × (others : List (List EventTerm)) × (numbered P.queries number ≡ Some (Correspondence event (first ∷ others)))

-- the subject is there
pub record IsSubject (P : Protocol) (subject : Subject) : Type 0 where
  pub event : EventTerm
  pub about : IsAbout P subject event
