-- Before the first declaration no name is declared.
use Rattle.std.proofs.Common.{map, ap, arith}
use Rattle.std.proofs.lemmas.Grind.{common_steps}
use Rattle.spec_protocol_scope.specs.Names as own
use Rattle.spec_protocol_scope.specs.Declarations.{declare_all}
use Rattle.scope_declarations.specs.Text.{texts_of}
use Rattle.pi_parser.specs.Files.{declaration_of}
use Rattle.scope_declarations.proofs.declarations.declare_all.Goals as goal

pub loop-declaration-init : goal.loop-declaration-init
loop-declaration-init c =
    let text = texts_of c.args.whole.now in
    record {
      rest = ap (λ (names : own.Names). declare_all text names (map declaration_of c.args.declarations.now)) c.new-names.ensures.none;
      kept = c.new-names.ensures.kept text;
    }

pub loop-declaration-preserved : goal.loop-declaration-preserved
loop-declaration-preserved c = grind (arith, common_steps)

pub returns-in_err-declare-clause-read : goal.returns-in_err-declare-clause-read
returns-in_err-declare-clause-read c = grind (arith, common_steps)

pub returns-clause-read : goal.returns-clause-read
returns-clause-read c = grind (arith, common_steps)
