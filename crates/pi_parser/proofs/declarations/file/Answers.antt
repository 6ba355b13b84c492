-- One more declaration.
use Rattle.std.proofs.Common.{rules, ◌≡◌, false, [], ◌∷◌, ◌++◌, arith}
use Rattle.spec_protocol_grammar.specs.declared.class.Class.TheVariants as w
use Rattle.spec_protocol_grammar.specs.Classes.{words, same}
use Rattle.pi_parser.specs.Files.{declaration_of}
use Rattle.pi_parser.proofs.Files.{declared_continues, declared_begins, declared_ends, declared_faults, main_faults}
use Rattle.pi_parser.proofs.declarations.file.Goals as goal

pub declarations-preserved : goal.declarations-preserved
declarations-preserved c =
    let items : c.push.new.self.items ≡ c.declarations.declarations.items ++ (c.in_ok-next.next ∷ []) = search rules in
    let test : same w.Process (words c.args.classes.now c.declarations.at).class ≡ false = search rules in
    declared_continues declaration_of c.args.classes.now c.declarations.declarations.items c.in_ok-next.next c.push.new.self.items c.declarations.at c.in_ok-next.end
    items c.declarations.invariant test c.in_ok-next.ensures.read c.in_ok-next.ensures.within.0 c.in_ok-next.ensures.within.1

pub declarations-init : goal.declarations-init
declarations-init c = grind (arith, declared_begins)

pub returns-in_err-next : goal.returns-in_err-next
returns-in_err-next c = grind (arith, declared_faults)

pub returns-in_err-main : goal.returns-in_err-main
returns-in_err-main c = grind (arith, main_faults)

pub returns : goal.returns
returns c = grind (arith, declared_ends)
