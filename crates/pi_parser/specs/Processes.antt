-- What contracts see of a sketched process.
use Rattle.std.specs.Prelude.{List}
use Rattle.std.specs.Global.{Box}
use Rattle.spec_protocol_grammar.specs.Sketch as own
use Rattle.pi_parser.specs.declared.sketch.ProcessSketch.{ProcessSketch}
use Rattle.pi_parser.specs.declared.sketch.ProcessSketch.TheVariants.{Alone', Beside'}
use Rattle.pi_parser.specs.declared.sketch.UnitSketch.{UnitSketch}
use Rattle.pi_parser.specs.declared.sketch.UnitSketch.TheVariants.{Zero, Macro, Inner', Replicated', New, Output, Input, Happens, Let', If', Phase, Insert, Get'}
use Rattle.pi_parser.specs.declared.sketch.ConditionSketch.{ConditionSketch}
use Rattle.pi_parser.specs.declared.sketch.ConditionSketch.TheVariants.{Always, SuchThat}
use Rattle.pi_parser.specs.declared.sketch.NextSketch.{NextSketch}
use Rattle.pi_parser.specs.declared.sketch.NextSketch.TheVariants.{Omitted, Given'}
use Rattle.pi_parser.specs.Terms.{term_of, atom_of}
use Rattle.pi_parser.specs.Patterns.{pattern_of}

abbrev pub condition_of : ConditionSketch → own.ConditionSketch
condition_of Always = own.always
condition_of (SuchThat t v) = own.such_that (term_of t) (term_of v)

abbrev mutual
  pub process_of : ProcessSketch → own.ProcessSketch
  process_of (Alone' q u) = own.Process (unit_of u) own.alone
  process_of (Beside' q u r p) = own.Process (unit_of u) (own.beside (process_of p))

  pub unit_of : UnitSketch → own.UnitSketch
  unit_of (Zero n) = own.Zero n
  unit_of (Macro n) = own.Macro n
  unit_of (Inner' n q p) = own.Inner n (process_of p)
  unit_of (Replicated' n q u) = own.Replicated n (unit_of u)
  unit_of (New n x k) = own.New n x (next_of k)
  unit_of (Output n c m k) = own.Output n (term_of c) (term_of m) (next_of k)
  unit_of (Input n c p k) = own.Input n (term_of c) (pattern_of p) (next_of k)
  unit_of (Happens n a k) = own.Happens n (atom_of a) (next_of k)
  unit_of (Let' n p t q u k) = own.Let n (pattern_of p) (term_of t) (unit_of u) (next_of k)
  unit_of (If' n t v q u k) = own.If n (term_of t) (term_of v) (unit_of u) (next_of k)
  unit_of (Phase n x k) = own.Phase n x (next_of k)
  unit_of (Insert n a k) = own.Insert n (atom_of a) (next_of k)
  unit_of (Get' n t ps c q u k) = own.Get n t (own.patterns_sketch ps) (condition_of c) (unit_of u) (next_of k)

  pub next_of : NextSketch → own.NextSketch
  next_of Omitted = own.omitted
  next_of (Given' q u) = own.given (unit_of u)

-- a unit and its else branch, as they are read
abbrev pub branches_of : Box UnitSketch × NextSketch → own.UnitSketch × own.NextSketch
branches_of x = (unit_of x.0.value, next_of x.1)

-- the patterns of an entry and the condition, as they are read
abbrev pub entry_of : List own.PatternSketch × ConditionSketch → List own.PatternSketch × own.ConditionSketch
entry_of x = (x.0, condition_of x.1)
