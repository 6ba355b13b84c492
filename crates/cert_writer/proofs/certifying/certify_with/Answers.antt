use Rattle.std.proofs.Common.{◌≡◌, ◌∙◌, ◌<◌, ◌^◌, List, length, map, ap, sym, subst}
use Rattle.spec_saturation.specs.Live.{MustBeCovered}
use Rattle.spec_verdicts.proofs.Accepting.{proved_accepted}
use Rattle.pi_tree.specs.Protocols.{protocol_of}
use Rattle.clause_form.specs.Fit.{AreFit, clauses_at}
use Rattle.clause_form.specs.Seen.{IdClause}
use Rattle.fact_fingerprint.specs.Seen.{fingerprint_seen}
use Rattle.fact_fingerprint.specs.declared.fingerprints.Fingerprint.{Fingerprint}
use Rattle.cert_writer.specs.Classed.{AreClassed}
use Rattle.cert_writer.specs.Ready.{conclusion_print}
use Rattle.cert_writer.specs.Living.{live_ids}
use Rattle.cert_writer.specs.Adding.{MustClose}
use Rattle.cert_writer.specs.Goals.{AreGoalsOf}
use Rattle.cert_writer.specs.Certifying.{IsWritten}
use Rattle.cert_writer.specs.declared.satisfying.Goals.{Goals}
use Rattle.cert_writer.proofs.Telling.{live_few}
use Rattle.cert_writer.proofs.Verdicts.{live_covers, live_closed, written_proved, unmet_verdict, query_small}
use Rattle.cert_writer.proofs.Fits.{asked, asked_small, entries_fit, lives_fit}
use Rattle.cert_writer.proofs.certifying.certify_with.Goals as goal

pub goal_rows-requires-clause-fit : goal.goal_rows-requires-clause-fit
goal_rows-requires-clause-fit g c =
    entries_fit (g.B.Bank.trees c.args.bank.now) (protocol_of c.args.closed.now.protocol.now) c.args.closed.now.query c.args.closed.now.given.now c.requires.limits c.requires.there c.requires.translation c.args.closed.now.log.now c.requires.closed

pub returns-in-Unsatisfied-clause-verdict : goal.returns-in-Unsatisfied-clause-verdict
returns-in-Unsatisfied-clause-verdict g c =
    let all = g.B.Bank.trees c.args.bank.now in
    let P = protocol_of c.args.closed.now.protocol.now in
    λ q at budget closed. unmet_verdict all P q c.args.closed.now.given.now (c.requires.translation q at) budget c.args.closed.now.log.now c.in-Unsatisfied.number closed
    (subst (λ (goals : Goals). AreGoalsOf P q all c.args.closed.now.log.now goals) c.in-Unsatisfied.is (c.in_ok-number.ensures q at))

pub conclusion_prints-requires : goal.conclusion_prints-requires
conclusion_prints-requires g c =
    let all = g.B.Bank.trees c.args.bank.now in
    let P = protocol_of c.args.closed.now.protocol.now in
    let same : c.deref.result.now ≡ live_ids c.args.closed.now.log.now = c.deref.ensures.value ∙ (c.live.view_is ∙ c.in_ok-live.ensures) in
    subst (λ (cs : List IdClause). AreFit all cs) (sym same) (lives_fit all P c.args.closed.now.query c.args.closed.now.given.now c.requires.limits c.requires.there c.requires.translation c.args.closed.now.log.now c.requires.closed)

pub cert_of-requires-clause-ready : goal.cert_of-requires-clause-ready
cert_of-requires-clause-ready g c =
    let all = g.B.Bank.trees c.args.bank.now in
    let P = protocol_of c.args.closed.now.protocol.now in
    let same : c.deref-3.result.now ≡ live_ids c.args.closed.now.log.now = c.deref-3.ensures.value ∙ (c.live.view_is ∙ c.in_ok-live.ensures) in
    let asked_of : c.deref.result.now ≡ c.deref-3.result.now = c.deref.ensures.value ∙ sym c.deref-3.ensures.value in
    record {
      fit = subst (λ (cs : List IdClause). AreFit all cs) (sym same) (lives_fit all P c.args.closed.now.query c.args.closed.now.given.now c.requires.limits c.requires.there c.requires.translation c.args.closed.now.log.now c.requires.closed);
      few = subst (λ (cs : List IdClause). length cs < 2 ^ 32) (sym same) (live_few c.args.closed.now.log.now (2 ^ 32) c.requires.few);
      prints = ap (map fingerprint_seen) c.deref-4.ensures.value ∙ (c.in_ok-prints.ensures ∙ ap (λ (cs : List IdClause). map conclusion_print (clauses_at all cs)) asked_of);
      classes = subst (λ (ps : List Fingerprint). AreClassed (map fingerprint_seen ps) c.in_ok-classes.classes) (c.deref-2.ensures.value ∙ sym c.deref-4.ensures.value) c.in_ok-classes.ensures;
    }

pub cert_of-requires-clause-given : goal.cert_of-requires-clause-given
cert_of-requires-clause-given g c =
    asked_small (g.B.Bank.trees c.args.bank.now) (protocol_of c.args.closed.now.protocol.now) c.args.closed.now.query c.args.closed.now.given.now c.requires.limits c.requires.there c.requires.translation c.requires.known

pub cert_of-requires-clause-covered : goal.cert_of-requires-clause-covered
cert_of-requires-clause-covered g c =
    let all = g.B.Bank.trees c.args.bank.now in
    let P = protocol_of c.args.closed.now.protocol.now in
    let same : c.deref-3.result.now ≡ live_ids c.args.closed.now.log.now = c.deref-3.ensures.value ∙ (c.live.view_is ∙ c.in_ok-live.ensures) in
    let (q, at) = asked all P c.args.closed.now.query c.args.closed.now.given.now c.requires.limits c.requires.there c.requires.translation in
    λ d h. subst (λ (cs : List IdClause). MustBeCovered (clauses_at all cs) d) (sym same) (live_covers all P q c.args.closed.now.given.now (c.requires.translation q at) c.requires.closed.0 c.args.closed.now.log.now c.requires.closed.1 d h)

pub cert_of-requires-clause-closed : goal.cert_of-requires-clause-closed
cert_of-requires-clause-closed g c =
    let all = g.B.Bank.trees c.args.bank.now in
    let P = protocol_of c.args.closed.now.protocol.now in
    let same : c.deref-3.result.now ≡ live_ids c.args.closed.now.log.now = c.deref-3.ensures.value ∙ (c.live.view_is ∙ c.in_ok-live.ensures) in
    let (q, at) = asked all P c.args.closed.now.query c.args.closed.now.given.now c.requires.limits c.requires.there c.requires.translation in
    subst (λ (cs : List IdClause). MustClose (clauses_at all cs)) (sym same) (live_closed all P q c.args.closed.now.given.now (c.requires.translation q at) c.requires.closed.0 c.args.closed.now.log.now c.requires.closed.1)

pub returns-clause-verdict : goal.returns-clause-verdict
returns-clause-verdict g c =
    let all = g.B.Bank.trees c.args.bank.now in
    let P = protocol_of c.args.closed.now.protocol.now in
    let goals = c.in-Rows.goals in
    let cert = c.in_ok-cert-in-Rows.cert in
    let same : c.deref-3.result.now ≡ live_ids c.args.closed.now.log.now = c.deref-3.ensures.value ∙ (c.live.view_is ∙ c.in_ok-live.ensures) in
    let written = subst (λ (cs : List IdClause). IsWritten (clauses_at all cs) (clauses_at all c.args.closed.now.given.now) goals cert) same c.in_ok-cert-in-Rows.ensures.cert in
    λ q at budget closed. written_proved all P q c.args.closed.now.given.now (c.requires.translation q at) budget c.args.closed.now.log.now goals cert closed
    (subst (λ (found : Goals). AreGoalsOf P q all c.args.closed.now.log.now found) c.in-Rows.is (c.in_ok-number.ensures q at)) written

pub returns-clause-accepted : goal.returns-clause-accepted
returns-clause-accepted g c =
    let all = g.B.Bank.trees c.args.bank.now in
    let P = protocol_of c.args.closed.now.protocol.now in
    let goals = c.in-Rows.goals in
    let cert = c.in_ok-cert-in-Rows.cert in
    let same : c.deref-3.result.now ≡ live_ids c.args.closed.now.log.now = c.deref-3.ensures.value ∙ (c.live.view_is ∙ c.in_ok-live.ensures) in
    let written = subst (λ (cs : List IdClause). IsWritten (clauses_at all cs) (clauses_at all c.args.closed.now.given.now) goals cert) same c.in_ok-cert-in-Rows.ensures.cert in
    λ q at. proved_accepted P q c.requires.closed.0 cert c.requires.limits (query_small P c.args.closed.now.query q c.requires.limits at) (written_proved all P q c.args.closed.now.given.now (c.requires.translation q at) c.requires.closed.0 c.args.closed.now.log.now goals cert c.requires.closed.1
    (subst (λ (found : Goals). AreGoalsOf P q all c.args.closed.now.log.now found) c.in-Rows.is (c.in_ok-number.ensures q at)) written)

pub returns-clause-holds : goal.returns-clause-holds
returns-clause-holds g c =
    let all = g.B.Bank.trees c.args.bank.now in
    let P = protocol_of c.args.closed.now.protocol.now in
    let goals = c.in-Rows.goals in
    let cert = c.in_ok-cert-in-Rows.cert in
    let same : c.deref-3.result.now ≡ live_ids c.args.closed.now.log.now = c.deref-3.ensures.value ∙ (c.live.view_is ∙ c.in_ok-live.ensures) in
    let written = subst (λ (cs : List IdClause). IsWritten (clauses_at all cs) (clauses_at all c.args.closed.now.given.now) goals cert) same c.in_ok-cert-in-Rows.ensures.cert in
    λ q at proper. c.proved_queries_hold.ensures P q c.requires.closed.0 cert proper (written_proved all P q c.args.closed.now.given.now (c.requires.translation q at) c.requires.closed.0 c.args.closed.now.log.now goals cert c.requires.closed.1
    (subst (λ (found : Goals). AreGoalsOf P q all c.args.closed.now.log.now found) c.in-Rows.is (c.in_ok-number.ensures q at)) written)
