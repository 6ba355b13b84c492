use Rattle.std.proofs.Common.{◌≡◌, ◌∙◌, ap, map, refl, arith}
use Rattle.spec_trees.specs.Tree.{depth}
use Rattle.spec_calculus.specs.Syntax.{Constructor, Variable}
use Rattle.spec_calculus.specs.Syntax as calculus
use Rattle.pi_tree.specs.Patterns.{pattern_of}
use Rattle.clause_terms.specs.Conditions.{HasRoomAt}
use Rattle.clause_terms.specs.Fresh.{fresh_of}
use Rattle.clause_terms.proofs.Rows.{room_pattern_arguments, all_at, lower_at}
use Rattle.clause_terms.proofs.Binding.{bound_on, all_bound, node_bound, hole_bound}
use Rattle.term_tree.proofs.BankLaws.{Grows_trans}
use Rattle.clause_terms.proofs.bound.+bound.Goals as goal

pub add_bound-add_all_bound-requires : goal.add_bound-add_all_bound-requires
add_bound-add_all_bound-requires g t c κs within = (
  omega (arith, c.decreases, ap (λ x. depth (pattern_of x)) c.in-App.is),
  (within, room_pattern_arguments (fresh_of c.args.at) (pattern_of c.args.pattern.now) (Constructor c.in-App.field-0) c.in-App.arguments (ap pattern_of c.in-App.is) c.requires.room),
)

pub add_bound-add_all_bound-requires-in-Tuple : goal.add_bound-add_all_bound-requires-in-Tuple
add_bound-add_all_bound-requires-in-Tuple g t c κs within = (
  omega (arith, c.decreases, ap (λ x. depth (pattern_of x)) c.in-Tuple.is),
  (within, room_pattern_arguments (fresh_of c.args.at) (pattern_of c.args.pattern.now) calculus.Tuple c.in-Tuple.parts (ap pattern_of c.in-Tuple.is) c.requires.room),
)

pub add_bound-returns-in_ok-term-in-Bind-clause-names : goal.add_bound-returns-in_ok-term-in-Bind-clause-names
add_bound-returns-in_ok-term-in-Bind-clause-names g t c =
    hole_bound (fresh_of c.args.at) (g.B.Bank.trees c.args.bank.now) (g.B.Bank.trees c.fresh_variable.new.bank) c.args.scope.now c.push.new.self (pattern_of c.args.pattern.now) c.in-Bind.number
    (record { name = Variable c.in-Bind.number; id = c.in_ok-term-in-Bind.term }) c.push.result (ap pattern_of c.in-Bind.is) c.in_ok-term-in-Bind.ensures.grows c.in_ok-term-in-Bind.ensures.names refl c.push.ensures.ok

pub add_bound-returns-in-App-clause-names : goal.add_bound-returns-in-App-clause-names
add_bound-returns-in-App-clause-names g t c =
    node_bound (fresh_of c.args.at) (g.B.Bank.trees c.args.bank.now) (g.B.Bank.trees c.add_all_bound.new.bank) c.args.scope.now c.add_all_bound.new.scope (pattern_of c.args.pattern.now) (Constructor c.in-App.field-0) c.in-App.arguments
    c.add_all_bound.result (ap pattern_of c.in-App.is) c.add_all_bound.ensures.names

pub add_bound-returns-in-Tuple-clause-names : goal.add_bound-returns-in-Tuple-clause-names
add_bound-returns-in-Tuple-clause-names g t c =
    node_bound (fresh_of c.args.at) (g.B.Bank.trees c.args.bank.now) (g.B.Bank.trees c.add_all_bound-in-Tuple.new.bank) c.args.scope.now c.add_all_bound-in-Tuple.new.scope (pattern_of c.args.pattern.now) calculus.Tuple c.in-Tuple.parts
    c.add_all_bound-in-Tuple.result (ap pattern_of c.in-Tuple.is) c.add_all_bound-in-Tuple.ensures.names

pub add_all_bound-add_bound-requires : goal.add_all_bound-add_bound-requires
add_all_bound-add_bound-requires g t c κs within =
    let seen : map pattern_of c.deref-pattern-items.result.now ≡ c.args.patterns.now = ap (map pattern_of) c.deref-pattern-items.ensures.value ∙ c.patterns.view_is in
    let lower = lower_at pattern_of c.deref-pattern-items.result.now c.args.patterns.now c.loop-pattern.pattern-index c.pattern-item.result seen c.loop-pattern-test.true c.pattern-item.is in (
      omega (arith, c.decreases, lower),
      (within, all_at (HasRoomAt (fresh_of c.args.at)) pattern_of c.deref-pattern-items.result.now c.args.patterns.now c.loop-pattern.pattern-index c.pattern-item.result seen c.requires.room c.loop-pattern-test.true c.pattern-item.is),
    )

pub add_all_bound-loop-pattern-preserved : goal.add_all_bound-loop-pattern-preserved
add_all_bound-loop-pattern-preserved g t c =
    bound_on (fresh_of c.args.at) (g.B.Bank.trees c.args.bank.now) (g.B.Bank.trees c.loop-pattern.bank) (g.B.Bank.trees c.add_bound.new.bank) c.args.scope.now c.loop-pattern.scope c.add_bound.new.scope c.deref-pattern-items.result.now
    c.loop-pattern.pattern-index c.pattern-item.result c.loop-pattern.invariant c.loop-pattern-test.true c.pattern-item.is c.add_bound.ensures.grows c.in_ok-add_bound.ensures.names

pub add_all_bound-returns-clause-names : goal.add_all_bound-returns-clause-names
add_all_bound-returns-clause-names g t c =
    let seen : map pattern_of c.deref-pattern-items.result.now ≡ c.args.patterns.now = ap (map pattern_of) c.deref-pattern-items.ensures.value ∙ c.patterns.view_is in
    all_bound (fresh_of c.args.at) (g.B.Bank.trees c.args.bank.now) (g.B.Bank.trees c.loop-pattern.bank) c.args.scope.now c.loop-pattern.scope c.deref-pattern-items.result.now c.args.patterns.now c.loop-pattern.pattern-index
    c.loop-pattern.invariant c.loop-pattern-test.false seen

pub add_all_bound-returns-in_err-add_bound-clause-grows : goal.add_all_bound-returns-in_err-add_bound-clause-grows
add_all_bound-returns-in_err-add_bound-clause-grows g t c = Grows_trans (g.B.Bank.trees c.args.bank.now) (g.B.Bank.trees c.loop-pattern.bank) (g.B.Bank.trees c.add_bound.new.bank) c.loop-pattern.invariant.grows c.add_bound.ensures.grows
