-- What contracts see of a process.
use Rattle.std.specs.Prelude.{Option, None, Some}
use Rattle.spec_calculus.specs.Syntax as calculus
use Rattle.pi_tree.specs.declared.syntax.Term.{Term}
use Rattle.pi_tree.specs.declared.syntax.Process.{Process, Nil, Output', Input', Par', Copies', New', Let', Event', Phase', Insert', Get'}
use Rattle.pi_tree.specs.Terms.{term_of}
use Rattle.pi_tree.specs.Patterns.{pattern_of}
use Rattle.pi_tree.specs.Expressions.{expression_of}
use Rattle.pi_tree.specs.Events.{event_of}

abbrev pub condition_of : Option (Term × Term) → calculus.Condition
condition_of None = None
condition_of (Some (left, right)) = Some (term_of left, term_of right)

abbrev pub process_of : Process → calculus.Process
process_of Nil = calculus.Nil
process_of (Output' channel message p next) = calculus.Output (term_of channel) (term_of message) (process_of next)
process_of (Input' channel pattern p next) = calculus.Input (term_of channel) (pattern_of pattern) (process_of next)
process_of (Par' p left q right) = calculus.Parallel (process_of left) (process_of right)
process_of (Copies' p copied) = calculus.Replication (process_of copied)
process_of (New' word p next) = calculus.New word (process_of next)
process_of (Let' pattern expression p next q otherwise) = calculus.Let (pattern_of pattern) (expression_of expression) (process_of next) (process_of otherwise)
process_of (Event' atom p next) = calculus.Event (event_of atom) (process_of next)
process_of (Phase' number p next) = calculus.Phase number (process_of next)
process_of (Insert' table arguments p next) = calculus.Insert table arguments (process_of next)
process_of (Get' table patterns condition p next q otherwise) = calculus.Get table patterns (condition_of condition) (process_of next) (process_of otherwise)
