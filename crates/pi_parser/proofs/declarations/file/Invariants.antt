use Rattle.std.proofs.Common.{◌-◌, map, length}
use Rattle.pi_parser.specs.Files.{declaration_of}
use Rattle.pi_parser.proofs.Files.{IsDeclared}
use Rattle.pi_parser.proofs.declarations.file.Given as goal

-- the declarations so far are read, and reading goes on
abbrev pub invariant-declarations : goal.invariant-declarations
invariant-declarations l = IsDeclared l.classes (map declaration_of l.declarations.items) l.at

abbrev pub decreases-declarations : goal.decreases-declarations
decreases-declarations l = length l.classes - l.at
