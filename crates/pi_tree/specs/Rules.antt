-- What contracts see of rules and destructors.
use Rattle.spec_calculus.specs.Syntax as calculus
use Rattle.pi_tree.specs.declared.destructors.Rule.{Rule}
use Rattle.pi_tree.specs.declared.destructors.Dtor.{Dtor}
use Rattle.pi_tree.specs.Terms.{term_of}

abbrev pub rule_of : Rule → calculus.Rule
rule_of r = record { left = r.left; right = term_of r.right }

abbrev pub destructor_of : Dtor → calculus.Destructor
destructor_of d = record { word = d.word; rules = d.rules }
