use Rattle.std.proofs.Common.{◌≡◌, ◌∙◌, ◌-◌, ℕ, List, length, take, drop, ap, sym, subst, arith, Vec, Global}
use Rattle.std.proofs.lemmas.Grind.{common_steps}
use Rattle.std.proofs.lemmas.List.{length-map, take_rest}
use Rattle.std.proofs.lemmas.Result.{IfOk-weaker}
use Rattle.spec_clauses.specs.Inclusion.{Has}
use Rattle.clause_form.specs.Fit.{clauses_at}
use Rattle.clause_form.specs.Seen.{IdClause}
use Rattle.cert_writer.specs.Adding.{AddsRows}
use Rattle.cert_writer.specs.Given.{AreSmall}
use Rattle.cert_writer.proofs.Small.{small_rest}
use Rattle.cert_writer.proofs.KeptCovers.{has_rest, front_fits, given_rows}
use Rattle.cert_writer.proofs.given.cover_given.Goals as goal

pub slice_bounds-cover_all-count : goal.slice_bounds-cover_all-count
slice_bounds-cover_all-count g c =
    let fits = front_fits (g.B.Bank.trees c.args.bank.now) c.args.given.now c.args.known.now.given c.requires.begin_given in
    let fewer = c.requires.known.fewer in
    let viewed = sym (length-map c.known.inside.0.1.1.1.0.items.items (λ (row : Vec ℕ Global). row.items)) ∙ ap length (λ i. (c.known.view_is i).covers) in
    let counted : c.len-count.result ≡ length c.args.known.now.covers = omega (arith, c.len-count.ensures, viewed) in
    omega (arith, fits, fewer, counted)

pub cover_all-requires-clause-clauses : goal.cover_all-requires-clause-clauses
cover_all-requires-clause-clauses g c =
    let all = g.B.Bank.trees c.args.bank.now in
    let given = c.args.given.now in
    subst (λ (cs : List IdClause). AreSmall all cs) (sym (take_rest given c.len-count.result)) (small_rest all given c.len-count.result c.requires.given)

pub cover_all-requires-clause-covered : goal.cover_all-requires-clause-covered
cover_all-requires-clause-covered g c =
    let all = g.B.Bank.trees c.args.bank.now in
    let given = c.args.given.now in
    λ d h. c.requires.covered d (has_rest all given c.len-count.result d (subst (λ (cs : List IdClause). Has (clauses_at all cs) d) (take_rest given c.len-count.result) h))

pub returns : goal.returns
returns g c =
    let all = g.B.Bank.trees c.args.bank.now in
    let known = c.args.known.now in
    let live = c.args.writer.now.live.now in
    let given = c.args.given.now in
    let count = c.len-count.result in
    let old = c.args.rows.now in
    let put = c.put_rows.new.rows in
    let new = c.cover_all.new.rows in
    let viewed = sym (length-map c.known.inside.0.1.1.1.0.items.items (λ (row : Vec ℕ Global). row.items)) ∙ ap length (λ i. (c.known.view_is i).covers) in
    let counted : count ≡ length known.covers = omega (arith, c.len-count.ensures, viewed) in
    IfOk-weaker c.cover_all.result (λ _. AddsRows (clauses_at all live) (clauses_at all (take (length given - count) (drop count given))) put new) (λ _. AddsRows (clauses_at all live) (clauses_at all given) old new)
    (λ _ adds. given_rows all known live given c.requires.begin c.requires.begin_given c.requires.known count counted old put new c.in_ok-put_rows.ensures
    (subst (λ (cs : List IdClause). AddsRows (clauses_at all live) (clauses_at all cs) put new) (take_rest given count) adds)) c.cover_all.ensures

pub offset_bounds-given-count : goal.offset_bounds-given-count
offset_bounds-given-count g c = grind (arith, common_steps)

pub slice_bounds-cover_all-start : goal.slice_bounds-cover_all-start
slice_bounds-cover_all-start g c = grind (arith, common_steps)
