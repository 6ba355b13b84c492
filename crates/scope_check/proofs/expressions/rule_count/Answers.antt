-- The destructor of that number, if there is one.
use Rattle.std.proofs.Common.{◌≡◌, ◌-◌, length, map, sym, ap, ◌∙◌, arith, rules}
use Rattle.std.specs.Option.{option_map_or}
use Rattle.std.proofs.lemmas.Grind.{common_steps}
use borrow.Author.Tests.{ltb-true, ltb-false}
use Rattle.spec_calculus.specs.Points.{numbered}
use Rattle.pi_tree.specs.Rules.{destructor_of}
use Rattle.scope_declarations.specs.Names.{names_of}
use Rattle.scope_check.proofs.Extents.{rules_found, rules_missing}
use Rattle.scope_check.proofs.expressions.rule_count.Goals as goal

pub returns-in-Some : goal.returns-in-Some
returns-in-Some c =
    let found = c.in-Some.ensures.lookup in
    let are : map destructor_of c.deref.result.now ≡ (names_of c.args.names.now).destructors = search rules in
    let counted : c.len.result ≡ length (destructor_of c.in-Some.destructor.now).rules = grind (arith, common_steps) in
    counted
    ∙ (rules_found c.deref.result.now c.args.number c.in-Some.destructor.now (omega arith) (ltb-true (c.args.number - 1) (length c.deref.result.now) (sym found.0)) found.1
    ∙ ap (λ ds. option_map_or (λ x. length x.rules) (numbered ds c.args.number) 0) are)

pub returns-in-None : goal.returns-in-None
returns-in-None c =
    let past = ltb-false (c.args.number - 1) (length c.deref.result.now) (sym c.in-None.ensures.lookup.0) in
    let are : map destructor_of c.deref.result.now ≡ (names_of c.args.names.now).destructors = search rules in
    rules_missing c.deref.result.now c.args.number past ∙ ap (λ ds. option_map_or (λ x. length x.rules) (numbered ds c.args.number) 0) are
