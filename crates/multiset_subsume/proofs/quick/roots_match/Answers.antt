use Rattle.std.proofs.Common.{◌≡◌, true, ◌∙◌, sym, length, eq-eqb, arith}
use Rattle.std.proofs.lemmas.Bool.{false≢true}
use Rattle.spec_terms.specs.Term.{is_ground}
use Rattle.term_tree.specs.Bank.{symbol_of, tree_at}
use Rattle.multiset_subsume.proofs.Refuting.{roots_apart, ground_apart, larger_apart}
use Rattle.multiset_subsume.proofs.quick.roots_match.Goals as goal

pub returns-then-is_ground : goal.returns-then-is_ground
returns-then-is_ground g c = λ e.
    let all = g.B.Bank.trees c.args.bank.now in
    let ground : is_ground (tree_at all c.args.general) ≡ true = cc in
    ground_apart all c.args.general c.args.special ground (λ same. false≢true (sym e ∙ c.same.ensures.1 same))

pub returns-then-size : goal.returns-then-size
returns-then-size g c = λ _. larger_apart (g.B.Bank.trees c.args.bank.now) c.args.general c.args.special (omega (arith, c.size.ensures, c.size-2.ensures, c.if-size.true))

pub returns-else-not-is_same : goal.returns-else-not-is_same
returns-else-not-is_same g c = λ e s same.
    roots_apart (g.B.Bank.trees c.args.bank.now) c.args.general c.args.special (symbol_of c.in-App.f) (symbol_of c.in-App-node.g) c.in-App.xs.now c.in-App-node.ys.now c.in-App.ensures.0 c.in-App-node.ensures.0
    (λ both. false≢true (sym e ∙ eq-eqb (length c.in-App.xs.now) (length c.in-App-node.ys.now) both.1)) s same
