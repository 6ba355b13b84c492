use Rattle.std.proofs.Common.{map, sym, ap, arith}
use Rattle.spec_attack_runs.specs.Compiling.{closed_value}
use Rattle.term_tree.specs.Bank.{tree_at}
use Rattle.pi_tree.specs.Values.{value_of}
use Rattle.attack_state.proofs.Valued.{added_none, last_added}
use Rattle.attack_state.proofs.values.Names.value_of.Goals as goal

pub returns-then-not-branch : goal.returns-then-not-branch
returns-then-not-branch c = λ names named listing.
    sym (added_none (map value_of c.new-made.result.items) (map value_of c.add_value.new.made.items) c.in_ok-add_value.field-0 (closed_value names (tree_at c.args.bank.now c.args.term)) (c.in_ok-add_value.ensures names named listing) c.if-not-branch.true)

pub returns : goal.returns
returns c = λ names named listing.
    last_added value_of (map value_of c.new-made.result.items) c.add_value.new.made.items c.pop.new.self.items c.pop.result c.in_ok-add_value.field-0 (closed_value names (tree_at c.args.bank.now c.args.term))
    (ap (map value_of) c.new-made.ensures.items) c.pop.ensures.items (λ some. c.pop.ensures.variant.1 (omega (arith, some, c.add_value.new.made.ok.0))) (c.in_ok-add_value.ensures names named listing) c.if-not-branch.false
