use Rattle.std.proofs.Common.{◌≡◌, ◌∙◌, map, get_or, sym, arith}
use Rattle.std.proofs.lemmas.Grind.{common_steps}
use Rattle.std.proofs.lemmas.List.{get_or_default}
use Rattle.term_tree.specs.declared.bank.Id.{Id}
use Rattle.pi_tree.specs.Values.{value_of}
use Rattle.clause_diffs.proofs.Walks.{known_at, lower_at}
use Rattle.attack_state.proofs.Valued.{more_added, stop_added, all_added}
use Rattle.attack_state.proofs.values.Names.+add_value.Goals as goal

pub add_values-add_value-requires : goal.add_values-add_value-requires
add_values-add_value-requires t c =
    let all = c.args.bank.now in
    let ids = c.args.terms.now in
    let i = c.each.term-index in
    let lower = lower_at all ids i record { index = 0 } c.each-test.true in
    (omega (arith, c.decreases, lower), known_at all ids i record { index = 0 } c.requires c.each-test.true)

pub add_values-returns-then-not-branch : goal.add_values-returns-then-not-branch
add_values-returns-then-not-branch t c = λ names named listing.
    let all = c.args.bank.now in
    let ids = c.args.terms.now in
    let i = c.each.term-index in
    let id : Id = get_or ids i record { index = 0 } in
    let is : id ≡ get_or ids i id = get_or_default ids i record { index = 0 } id c.each-test.true in
    sym (c.each.invariant names named listing) ∙ stop_added names all ids i id is c.each-test.true (map value_of c.each.made.items) (map value_of c.add_value.new.made.items) c.in_ok-add_value.field-0 (c.in_ok-add_value.ensures names named listing) c.if-not-branch.true

pub add_values-each-preserved : goal.add_values-each-preserved
add_values-each-preserved t c = λ names named listing.
    let all = c.args.bank.now in
    let ids = c.args.terms.now in
    let i = c.each.term-index in
    let id : Id = get_or ids i record { index = 0 } in
    let is : id ≡ get_or ids i id = get_or_default ids i record { index = 0 } id c.each-test.true in
    more_added names all ids i id is c.each-test.true (map value_of c.each.made.items) (map value_of c.add_value.new.made.items) c.in_ok-add_value.field-0 (c.in_ok-add_value.ensures names named listing) c.if-not-branch.false ∙ c.each.invariant names named listing

pub add_values-returns : goal.add_values-returns
add_values-returns t c = λ names named listing.
    sym (c.each.invariant names named listing) ∙ all_added names c.args.bank.now c.args.terms.now c.each.term-index (map value_of c.each.made.items) c.each-test.false

pub add_value-returns-then-not-branch : goal.add_value-returns-then-not-branch
add_value-returns-then-not-branch t c = grind (arith, common_steps)

pub add_value-returns-else-not-branch : goal.add_value-returns-else-not-branch
add_value-returns-else-not-branch t c = grind (arith, common_steps)

pub add_value-add_values-requires : goal.add_value-add_values-requires
add_value-add_values-requires t c = grind (arith, common_steps)

pub add_value-returns-in-Var : goal.add_value-returns-in-Var
add_value-returns-in-Var t c = grind (arith, common_steps)
