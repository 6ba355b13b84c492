use Rattle.std.proofs.Common.{◌≡◌, ℕ, List, [], map, take, length, ap, subst, refl, arith, Vec, Global}
use Rattle.std.proofs.lemmas.Grind.{common_steps}
use Rattle.clause_form.specs.Fit.{clauses_at}
use Rattle.cert_writer.specs.Adding.{AddsRows}
use Rattle.cert_writer.proofs.Small.{small_first}
use Rattle.cert_writer.proofs.KeptCovers.{has_first, covers_kept}
use Rattle.cert_writer.proofs.given.keep_covers.Goals as goal

pub cover_all-requires-clause-clauses : goal.cover_all-requires-clause-clauses
cover_all-requires-clause-clauses g c = small_first (g.B.Bank.trees c.args.bank.now) c.args.given.now c.len-count.result c.requires.given

pub cover_all-requires-clause-covered : goal.cover_all-requires-clause-covered
cover_all-requires-clause-covered g c = λ d h. c.requires.covered d (has_first (g.B.Bank.trees c.args.bank.now) c.args.given.now c.len-count.result d h)

pub returns-clause-known : goal.returns-clause-known
returns-clause-known g c =
    let all = g.B.Bank.trees c.args.bank.now in
    let known = c.args.known.now in
    let live = c.args.writer.now.live.now in
    let given = c.args.given.now in
    let count = c.len-count.result in
    let covers = c.cover_all.new.rows in
    let all_given : count ≡ length known.given = omega (arith, c.len-count.ensures, ap length (λ i. (c.known.view_is i).given)) in
    let all_live : c.len-2.result ≡ length known.live = omega (arith, c.len-2.ensures, ap length (λ i. (c.known.view_is i).live)) in
    let empty : map (λ (row : Vec ℕ Global). row.items) c.new.result.items ≡ [] = ap (map (λ (row : Vec ℕ Global). row.items)) c.new.ensures.items in
    let adds = subst (λ (rows : List (List ℕ)). AddsRows (clauses_at all live) (clauses_at all (take count given)) rows covers) empty c.in_ok-cover_all.ensures in
    covers_kept all known live given c.requires.begin c.requires.begin_given c.requires.known count c.len-2.result covers _ all_given all_live adds (c.all_begin_within.ensures c.if-not-all_begin_within.false)
    refl refl refl refl refl

pub slice_bounds-cover_all-end : goal.slice_bounds-cover_all-end
slice_bounds-cover_all-end g c = grind (arith, common_steps)
