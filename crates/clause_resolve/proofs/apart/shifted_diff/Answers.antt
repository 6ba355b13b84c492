use Rattle.std.proofs.Common.{◌≡◌, List, sym, subst, rules}
use Rattle.spec_terms.specs.Term.{Term}
use Rattle.spec_calculus.specs.Bounds.{most_symbols}
use Rattle.spec_clauses.specs.Variables.{AreBelow}
use Rattle.term_tree.specs.declared.bank.Id.{Id}
use Rattle.term_tree.proofs.BankLaws.{Grows_trans, AreKnown-grows, trees_at-grow}
use Rattle.clause_resolve.specs.Low.{AreLow}
use Rattle.clause_diffs.proofs.Below.{left_below, right_below}
use Rattle.clause_resolve.proofs.Shifting.{lows}
use Rattle.clause_resolve.proofs.Moving.{diff_of_parts, diff_moved_as}
use Rattle.clause_resolve.proofs.apart.shifted_diff.Goals as goal

pub shifted_terms-requires : goal.shifted_terms-requires
shifted_terms-requires g c =
    let all = g.B.Bank.trees c.args.bank.now in
    let d = c.args.diff.now in
    let lefts : c.deref.result.now ≡ d.left = search rules in
    subst (λ (l : List Id). AreLow all l) (sym lefts) (lows all d.left c.requires.known.left (left_below most_symbols all d c.requires.low))

pub shifted_terms-requires-2 : goal.shifted_terms-requires-2
shifted_terms-requires-2 g c =
    let old = g.B.Bank.trees c.args.bank.now in
    let mid = g.B.Bank.trees c.shifted_terms.new.bank in
    let d = c.args.diff.now in
    let rights : c.deref-2.result.now ≡ d.right = search rules in
    let below = subst (λ (ts : List Term). AreBelow most_symbols ts) (sym (trees_at-grow old mid d.right c.shifted_terms.ensures.grows c.requires.known.right)) (right_below most_symbols old d c.requires.low) in
    subst (λ (l : List Id). AreLow mid l) (sym rights) (lows mid d.right (AreKnown-grows old mid d.right c.shifted_terms.ensures.grows c.requires.known.right) below)

pub returns-clause-names : goal.returns-clause-names
returns-clause-names g c =
    let old = g.B.Bank.trees c.args.bank.now in
    let mid = g.B.Bank.trees c.shifted_terms.new.bank in
    let first : c.diff-inside.inside.0.0 ≡ c.args.diff.now.first = search rules in
    let lefts : c.deref.result.now ≡ c.args.diff.now.left = search rules in
    let rights : c.deref-2.result.now ≡ c.args.diff.now.right = search rules in
    let is : diff_of_parts c.diff-inside.inside.0.0 c.deref.result.now c.deref-2.result.now ≡ c.args.diff.now = λ i. diff_of_parts (first i) (lefts i) (rights i) in
    let made = diff_moved_as old mid (g.B.Bank.trees c.shifted_terms-2.new.bank) c.diff-inside.inside.0.0 c.deref.result.now c.deref-2.result.now c.args.diff.now c.raised.result c.in_ok-left.left c.in_ok-right.right is c.requires.known c.requires.low c.shifted_terms.ensures.grows c.shifted_terms-2.ensures.grows
    record { own = c.raised.ensures.own; bound = c.raised.ensures.bound } c.in_ok-left.ensures.names c.in_ok-right.ensures.names in
    made.names

pub returns-clause-low : goal.returns-clause-low
returns-clause-low g c =
    let old = g.B.Bank.trees c.args.bank.now in
    let mid = g.B.Bank.trees c.shifted_terms.new.bank in
    let first : c.diff-inside.inside.0.0 ≡ c.args.diff.now.first = search rules in
    let lefts : c.deref.result.now ≡ c.args.diff.now.left = search rules in
    let rights : c.deref-2.result.now ≡ c.args.diff.now.right = search rules in
    let is : diff_of_parts c.diff-inside.inside.0.0 c.deref.result.now c.deref-2.result.now ≡ c.args.diff.now = λ i. diff_of_parts (first i) (lefts i) (rights i) in
    let made = diff_moved_as old mid (g.B.Bank.trees c.shifted_terms-2.new.bank) c.diff-inside.inside.0.0 c.deref.result.now c.deref-2.result.now c.args.diff.now c.raised.result c.in_ok-left.left c.in_ok-right.right is c.requires.known c.requires.low c.shifted_terms.ensures.grows c.shifted_terms-2.ensures.grows
    record { own = c.raised.ensures.own; bound = c.raised.ensures.bound } c.in_ok-left.ensures.names c.in_ok-right.ensures.names in
    made.below

pub returns-in_err-right-clause-grows : goal.returns-in_err-right-clause-grows
returns-in_err-right-clause-grows g c = Grows_trans (g.B.Bank.trees c.args.bank.now) (g.B.Bank.trees c.shifted_terms.new.bank) (g.B.Bank.trees c.shifted_terms-2.new.bank) c.shifted_terms.ensures.grows c.shifted_terms-2.ensures.grows

pub returns-clause-grows : goal.returns-clause-grows
returns-clause-grows g c = Grows_trans (g.B.Bank.trees c.args.bank.now) (g.B.Bank.trees c.shifted_terms.new.bank) (g.B.Bank.trees c.shifted_terms-2.new.bank) c.shifted_terms.ensures.grows c.shifted_terms-2.ensures.grows
