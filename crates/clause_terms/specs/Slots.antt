-- What contracts see of what is bound where a process is visited, and of what it stands for.
use Rattle.pi_tree.specs.Slots.{name_of}
use Rattle.clause_terms.specs.declared.scopes.Standing as source
use Rattle.clause_terms.specs.Scopes.{Held}

abbrev pub held_of : source.Standing → Held
held_of s = record { name = name_of s.slot; id = s.term }
