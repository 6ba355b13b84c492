use Rattle.std.proofs.Common.{List, sym, subst, ◌∙◌, ap, refl}
use Rattle.spec_terms.specs.Term.{Term}
use Rattle.clause_form.specs.Seen.{IdClause}
use Rattle.clause_form.specs.Fit.{clauses_at}
use Rattle.cert_writer.specs.Known.{IsKnown, BeginWith}
use Rattle.cert_writer.specs.Ready.{IsReady}
use Rattle.cert_writer.proofs.certifying.cert_with.Goals as goal

pub plain_with-requires-clause-ready : goal.plain_with-requires-clause-ready
plain_with-requires-clause-ready g c = subst (λ (all : List Term). IsReady all c.args.writer.now) (sym c.rows_with.ensures.bank) c.requires.ready

pub plain_with-requires-clause-known : goal.plain_with-requires-clause-known
plain_with-requires-clause-known g c = subst (λ (all : List Term). IsKnown all c.rows_with.new.known) (sym c.rows_with.ensures.bank) c.in_ok-rows.ensures.known

pub plain_with-requires-clause-begin : goal.plain_with-requires-clause-begin
plain_with-requires-clause-begin g c =
    let live = c.args.writer.now.live.now in
    subst (λ (all : List Term). BeginWith all live c.rows_with.new.known.live) (sym c.rows_with.ensures.bank)
    (subst (λ (front : List IdClause). BeginWith (g.B.Bank.trees c.args.bank.now) live front) (sym c.rows_with.ensures.live) c.requires.begin)

pub returns-clause-cert : goal.returns-clause-cert
returns-clause-cert g c = record {
  clauses_are = c.in_ok-clauses.ensures.plain ∙ ap (λ all. clauses_at all c.args.writer.now.live.now) c.rows_with.ensures.bank;
  rows = c.in_ok-rows.ensures.rows;
  goals_are = refl;
}

pub returns-clause-known : goal.returns-clause-known
returns-clause-known g c = subst (λ (all : List Term). IsKnown all c.plain_with.new.known) c.rows_with.ensures.bank c.in_ok-clauses.ensures.known
