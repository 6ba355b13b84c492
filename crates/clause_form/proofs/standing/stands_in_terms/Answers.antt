use Rattle.std.proofs.Common.{◌∙◌, ◌+◌, nat_eq, flat_map, drop, ap, sym}
use Rattle.std.specs.List.{list_any}
use Rattle.std.proofs.lemmas.List.Folds.{flat_map-map}
use Rattle.spec_clauses.specs.Variables.{leaves}
use Rattle.term_tree.specs.Bank.{tree_at}
use Rattle.clause_form.proofs.Walks.{known_at}
use Rattle.clause_diffs.proofs.Counting.{leaves_at}
use Rattle.clause_form.proofs.Noted.{any_on, any_past, any_here, any_later}
use Rattle.clause_form.proofs.standing.stands_in_terms.Goals as goal

pub stands_in_term-requires : goal.stands_in_term-requires
stands_in_term-requires g c = known_at (g.B.Bank.trees c.args.bank.now) c.args.terms.now c.loop-term.term-index record { index = 0 } c.requires c.loop-term-test.true

pub loop-term-init : goal.loop-term-init
loop-term-init g c = ap (list_any (nat_eq c.args.number)) (flat_map-map leaves (tree_at (g.B.Bank.trees c.args.bank.now)) c.args.terms.now)

pub returns-then-stands_in_term : goal.returns-then-stands_in_term
returns-then-stands_in_term g c =
    let all = g.B.Bank.trees c.args.bank.now in
    let test = nat_eq c.args.number in
    let step = any_on test (leaves_at all) c.args.terms.now c.loop-term.term-index record { index = 0 } c.loop-term-test.true in
    any_here _ _ (list_any test (flat_map (leaves_at all) (drop (c.loop-term.term-index + 1) c.args.terms.now))) (c.loop-term.invariant ∙ step) (sym c.stands_in_term.ensures ∙ c.if-stands_in_term.true)

pub loop-term-preserved : goal.loop-term-preserved
loop-term-preserved g c =
    let all = g.B.Bank.trees c.args.bank.now in
    let test = nat_eq c.args.number in
    let step = any_on test (leaves_at all) c.args.terms.now c.loop-term.term-index record { index = 0 } c.loop-term-test.true in
    c.loop-term.invariant ∙ any_later _ _ (list_any test (flat_map (leaves_at all) (drop (c.loop-term.term-index + 1) c.args.terms.now))) step (sym c.stands_in_term.ensures ∙ c.if-stands_in_term.false)

pub returns : goal.returns
returns g c = sym (c.loop-term.invariant ∙ any_past (nat_eq c.args.number) (leaves_at (g.B.Bank.trees c.args.bank.now)) c.args.terms.now c.loop-term.term-index c.loop-term-test.false)
