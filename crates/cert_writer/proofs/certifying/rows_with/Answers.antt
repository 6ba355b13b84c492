use Rattle.std.proofs.Common.{ℕ, List, map, Vec, Global, ap, subst, arith}
use Rattle.std.proofs.lemmas.Grind.{common_steps}
use Rattle.clause_form.specs.Fit.{clauses_at}
use Rattle.cert_writer.specs.Adding.{AddsRows}
use Rattle.cert_writer.proofs.Adding.{all_rows}
use Rattle.cert_writer.proofs.certifying.rows_with.Goals as goal

pub returns-clause-rows : goal.returns-clause-rows
returns-clause-rows g c =
    let all = g.B.Bank.trees c.args.bank.now in
    let live = clauses_at all c.args.writer.now.live.now in
    let given = clauses_at all c.args.given.now in
    let none = ap (map (λ (row : Vec ℕ Global). row.items)) c.new.ensures.items in
    all_rows live given c.cover_given.new.rows c.cover_closed.new.rows (subst (λ (rows : List (List ℕ)). AddsRows live given rows c.cover_given.new.rows) none c.in_ok-cover_given.ensures) c.in_ok-cover_closed.ensures.rows

pub cover_closed-requires-clause-begin : goal.cover_closed-requires-clause-begin
cover_closed-requires-clause-begin g c = grind (arith, common_steps)

pub cover_given-requires-clause-begin : goal.cover_given-requires-clause-begin
cover_given-requires-clause-begin g c = grind (arith, common_steps)

pub cover_given-requires-clause-begin_given : goal.cover_given-requires-clause-begin_given
cover_given-requires-clause-begin_given g c = grind (arith, common_steps)
