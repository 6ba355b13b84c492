-- What contracts see of an event's term.
use Rattle.spec_calculus.specs.Syntax as calculus
use Rattle.pi_tree.specs.declared.syntax.Atom.{Atom}

abbrev pub event_of : Atom → calculus.EventTerm
event_of a = record { event = a.event; arguments = a.args }
