use Rattle.std.proofs.Common.{List, take, sym, subst}
use Rattle.std.specs.Prelude.{OnOk}
use Rattle.spec_terms.specs.Term.{Term}
use Rattle.spec_clauses.specs.Fact.{Clause}
use Rattle.spec_saturation.specs.Live.{MustBeCovered}
use Rattle.log_entries.proofs.Placing.{front_grows}
use Rattle.clause_form.proofs.Fit.{clauses_grow}
use Rattle.clause_form.specs.Fit.{clauses_at}
use Rattle.cert_writer.specs.Adding.{AddsRows}
use Rattle.cert_writer.proofs.Prints.{ready_grows}
use Rattle.cert_writer.proofs.closing.cover_made.Goals as goal

pub cover_all-covered-requires-clause-ready : goal.cover_all-covered-requires-clause-ready
cover_all-covered-requires-clause-ready g c =
    let now = g.B.Bank.trees c.args.bank.now in
    ready_grows (take c.args.mark.len now) now c.args.writer.now (front_grows c.args.mark.len now) c.requires.ready

pub cover_all-covered-requires-clause-covered : goal.cover_all-covered-requires-clause-covered
cover_all-covered-requires-clause-covered g c =
    let now = g.B.Bank.trees c.args.bank.now in
    let same = clauses_grow (take c.args.mark.len now) now c.args.writer.now.live.now (front_grows c.args.mark.len now) c.requires.ready.fit in
    λ d h. subst (λ (cs : List (Clause Term)). MustBeCovered cs d) (sym same) (c.requires.covered d h)

pub returns-clause-rows : goal.returns-clause-rows
returns-clause-rows g c =
    let now = g.B.Bank.trees c.args.bank.now in
    let same = clauses_grow (take c.args.mark.len now) now c.args.writer.now.live.now (front_grows c.args.mark.len now) c.requires.ready.fit in
    subst (λ (cs : List (Clause Term)). OnOk c.cover_all-covered.result (AddsRows cs (clauses_at now c.args.made.now) c.args.rows.now c.cover_all-covered.new.rows)) same c.cover_all-covered.ensures

pub returns-clause-bank : goal.returns-clause-bank
returns-clause-bank g c = c.back.ensures
