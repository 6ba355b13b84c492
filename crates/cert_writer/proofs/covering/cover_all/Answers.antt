use Rattle.std.proofs.Common.{◌≡◌, ◌∙◌, ℕ, List, [], ◌∷◌, ◌++◌, map, Vec, Global, ap, sym, subst}
use Rattle.std.proofs.lemmas.List.{map-append}
use Rattle.clause_form.specs.Seen.{clause_at}
use Rattle.clause_form.specs.Fit.{clauses_at}
use Rattle.cert_writer.specs.Adding.{AddsRows}
use Rattle.cert_writer.proofs.Small.{small_at}
use Rattle.cert_writer.proofs.Items.{item_at, item_has, items_past}
use Rattle.cert_writer.proofs.Adding.{adds_none, adds_next, adds_all}
use Rattle.cert_writer.proofs.covering.cover_all.Goals as goal

pub first_cover-requires-clause-known : goal.first_cover-requires-clause-known
first_cover-requires-clause-known g c = (small_at (g.B.Bank.trees c.args.bank.now) c.args.clauses.now c.each.clause-index c.clause-item.result c.clause-item.is c.requires.clauses c.each-test.true).known

pub first_cover-requires-clause-small : goal.first_cover-requires-clause-small
first_cover-requires-clause-small g c = (small_at (g.B.Bank.trees c.args.bank.now) c.args.clauses.now c.each.clause-index c.clause-item.result c.clause-item.is c.requires.clauses c.each-test.true).small

pub first_cover-requires-clause-covered : goal.first_cover-requires-clause-covered
first_cover-requires-clause-covered g c =
    let all = g.B.Bank.trees c.args.bank.now in
    c.requires.covered (clause_at all c.clause-item.result) (item_has all c.args.clauses.now c.each.clause-index c.clause-item.result c.clause-item.is c.each-test.true)

pub each-init : goal.each-init
each-init g c =
    let live = clauses_at (g.B.Bank.trees c.args.bank.now) c.args.writer.now.live.now in
    subst (λ (rows : List (List ℕ)). AddsRows live [] c.args.rows.now rows) (sym c.rows.view_is) (adds_none live c.args.rows.now)

pub each-preserved : goal.each-preserved
each-preserved g c =
    let all = g.B.Bank.trees c.args.bank.now in
    let cs = c.args.clauses.now in
    let rows = λ (row : Vec ℕ Global). row.items in
    let before = c.each.rows-inside.items.items in
    let next : map rows c.push.new.self.items ≡ map rows before ++ c.in_ok-row.row.items ∷ [] = ap (map rows) c.in_ok-push.ensures.items ∙ map-append rows before (c.in_ok-row.row ∷ []) in
    adds_next (clauses_at all c.args.writer.now.live.now) (clauses_at all cs) c.each.clause-index (clause_at all c.clause-item.result) c.in_ok-row.row.items c.args.rows.now (map rows before) (map rows c.push.new.self.items)
    (item_at all cs c.each.clause-index c.clause-item.result c.clause-item.is c.each-test.true) c.in_ok-row.ensures next c.each.invariant

pub returns : goal.returns
returns g c =
    let all = g.B.Bank.trees c.args.bank.now in
    let cs = c.args.clauses.now in
    adds_all (clauses_at all c.args.writer.now.live.now) (clauses_at all cs) c.each.clause-index c.args.rows.now (map (λ (row : Vec ℕ Global). row.items) c.each.rows-inside.items.items) (items_past all cs c.each.clause-index c.each-test.false) c.each.invariant
