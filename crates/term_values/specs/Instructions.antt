-- What contracts see of instructions.
use Rattle.spec_calculus.specs.Syntax as calculus
use Rattle.spec_calculus.specs.Syntax.{Builds, Calls, Constructor}
use Rattle.spec_choice_walks.specs.Instructions.{Instruction, Push, Apply}
use Rattle.pi_tree.specs.Terms.{term_of}
use Rattle.term_values.specs.declared.instructions.Instruction as code
use Rattle.term_values.specs.declared.instructions.Instruction.TheVariants.{Term, App, Tuple, Call}

abbrev pub instruction_of : code.Instruction → Instruction
instruction_of (Term term) = Push (term_of term.now)
instruction_of (App f count) = Apply (Builds (Constructor f)) count
instruction_of (Tuple count) = Apply (Builds calculus.Tuple) count
instruction_of (Call d count) = Apply (Calls d) count
