-- That values are told apart by their terms: each made name has its entry, and no two entries are of one restriction with the same
-- copies (Blanchet 2016, section 4: the sessions among the arguments of names).
use Rattle.std.specs.Prelude.{◌≡◌, ℕ, Bool, false, not, ◌&&◌, nat_eq, List}
use Rattle.std.specs.List.{list_any}
use Rattle.spec_calculus.specs.Syntax.{Protocol}
use Rattle.spec_calculus.specs.Values.{Atom, FreeName, MadeName, AttackerName, Value}
use Rattle.spec_calculus.specs.Standing.{Lacks}
use Rattle.spec_clauses.specs.Inclusion.{Has}
use Rattle.spec_abstraction.specs.Trace.{MadeAt}
use Rattle.spec_abstraction.specs.Naming.{Naming, abstracted}

-- whether an entry is that of a name
abbrev pub is_entry : ℕ → ℕ → MadeAt → Bool
is_entry point number e = nat_eq e.point point && nat_eq e.number number

-- whether a name is one that was made, and has no entry
abbrev pub is_foreign : List MadeAt → Atom → Bool
is_foreign made (FreeName n) = false
is_foreign made (MadeName point number) = not (list_any (is_entry point number) made)
is_foreign made (AttackerName n) = false

-- Names that one restriction made for the same copies are one name.
abbrev pub AreOnce : List MadeAt → Type 0
AreOnce made = (e f : MadeAt) → Has made e → Has made f → e.point ≡ f.point → e.past.sessions ≡ f.past.sessions → e ≡ f

-- Values of names that have entries are equal where their terms are.
abbrev pub IsOneToOne : Protocol → Naming → List MadeAt → Type 0
IsOneToOne P names made = (v w : Value) → Lacks (is_foreign made) v → Lacks (is_foreign made) w → abstracted P names v ≡ abstracted P names w → v ≡ w
