-- What contracts see of a sketched file.
use Rattle.std.specs.Prelude.{ℕ, List, map}
use Rattle.std.specs.Global.{Vec}
use Rattle.spec_protocol_grammar.specs.Sketch as own
use Rattle.pi_parser.specs.declared.sketch.ProcessSketch.{ProcessSketch}
use Rattle.pi_parser.specs.declared.sketch.AlternativeSketch.{AlternativeSketch}
use Rattle.pi_parser.specs.declared.sketch.QuerySketch.{QuerySketch}
use Rattle.pi_parser.specs.declared.sketch.QuerySketch.TheVariants.{AttackerNew, Attacker, Correspondence}
use Rattle.pi_parser.specs.declared.sketch.RuleSketch.{RuleSketch}
use Rattle.pi_parser.specs.declared.sketch.DeclarationSketch.{DeclarationSketch}
use Rattle.pi_parser.specs.declared.sketch.DeclarationSketch.TheVariants.{Free, Fun, Data, Reduc, Event, Table, Query, Definition}
use Rattle.pi_parser.specs.declared.sketch.Sketch.{Sketch}
use Rattle.pi_parser.specs.Terms.{term_of, atom_of}
use Rattle.pi_parser.specs.Processes.{process_of}

abbrev pub alternative_of : AlternativeSketch → own.AlternativeSketch
alternative_of a = record { atom = atom_of a.atom; others = map atom_of a.others.items }

abbrev pub question_of : QuerySketch → own.QuerySketch
question_of (AttackerNew n x o) = own.AttackerNew n x o
question_of (Attacker n t o) = own.Attacker n (term_of t) o
question_of (Correspondence n a others) = own.Correspondence n (atom_of a) (map alternative_of others.items)

abbrev pub rule_of : RuleSketch → own.RuleSketch
rule_of r = record { first = r.first; arguments = own.terms_sketch r.arguments; result = term_of r.result }

abbrev pub declaration_of : DeclarationSketch → own.DeclarationSketch
declaration_of (Free n public x xs) = own.Free n public x xs.items
declaration_of (Fun n public x a) = own.Fun n public x a
declaration_of (Data n x a) = own.Data n x a
declaration_of (Reduc n r rs) = own.Reduc n (rule_of r) (map rule_of rs.items)
declaration_of (Event n x a) = own.Event n x a
declaration_of (Table n x a) = own.Table n x a
declaration_of (Query n q) = own.Query n (question_of q)
declaration_of (Definition n x p) = own.Definition n x (process_of p)

abbrev pub file_of : Sketch → own.FileSketch
file_of f = record { declarations = map declaration_of f.declarations.items; first = f.first; main = process_of f.main }

-- alternatives, from their list
abbrev pub alternatives_of : Vec AlternativeSketch → List own.AlternativeSketch
alternatives_of xs = map alternative_of xs.items

-- names, as they are read
abbrev pub names_of : ℕ × Vec ℕ → (ℕ × List ℕ) × Unit {0}
names_of x = ((x.0, x.1.items), tt)

-- a name and its arity, as they are read
abbrev pub sized_of : ℕ × ℕ → ℕ × (Unit {0} × (ℕ × (Unit {0} × Unit {0})))
sized_of x = (x.0, (tt, (x.1, (tt, tt))))

-- rules, as they are read
abbrev pub rules_of : RuleSketch × Vec RuleSketch → own.RuleSketch × List own.RuleSketch
rules_of x = (rule_of x.0, map rule_of x.1.items)

-- the main process behind this word, as it is read
abbrev pub main_of : ℕ → ProcessSketch → ℕ × (own.ProcessSketch × Unit {0})
main_of n p = (n, (process_of p, tt))
