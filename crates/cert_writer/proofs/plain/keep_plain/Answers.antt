use Rattle.std.proofs.Common.{◌≡◌, ◌∙◌, List, map, length, ap, refl, sym, subst, arith}
use Rattle.clause_form.specs.Seen.{clause_at, AreClausesIn, IdClause}
use Rattle.clause_form.specs.Fit.{clauses_at}
use Rattle.cert_writer.proofs.KeptRows.{plain_kept, plain_whole}
use Rattle.cert_writer.proofs.plain.keep_plain.Goals as goal

pub returns-then-kept-count-clause-plain : goal.returns-then-kept-count-clause-plain
returns-then-kept-count-clause-plain g c =
    plain_whole (g.B.Bank.trees c.args.bank.now) c.args.known.now c.count_clauses-kept.result c.live_count-count.result c.requires (c.count_clauses-kept.ensures ∙ ap length (λ i. (c.known.view_is i).plain)) c.live_count-count.ensures (omega (arith, c.if-kept-count.true))

pub read_clauses-requires : goal.read_clauses-requires
read_clauses-requires g c =
    let same : c.deref.result.now ≡ c.args.known.now.live = c.deref.ensures.value ∙ (λ i. (c.known.view_is i).live) in
    subst (λ (cs : List IdClause). AreClausesIn (g.B.Bank.trees c.args.bank.now) cs) (sym same) c.requires.names

pub returns-clause-known : goal.returns-clause-known
returns-clause-known g c =
    let all = g.B.Bank.trees c.args.bank.now in
    let same : c.deref.result.now ≡ c.args.known.now.live = c.deref.ensures.value ∙ (λ i. (c.known.view_is i).live) in
    let are : c.in_ok-plain.plain ≡ clauses_at all c.args.known.now.live = c.in_ok-plain.ensures ∙ ap (map (clause_at all)) same in
    plain_kept all c.args.known.now _ c.in_ok-plain.plain c.requires are (λ i. (c.known.view_is i).live) (λ i. (c.known.view_is i).rows.items) (λ i. (c.known.view_is i).given) (λ i. (c.known.view_is i).covers) refl

pub returns-clause-plain : goal.returns-clause-plain
returns-clause-plain g c =
    let all = g.B.Bank.trees c.args.bank.now in
    let same : c.deref.result.now ≡ c.args.known.now.live = c.deref.ensures.value ∙ (λ i. (c.known.view_is i).live) in
    c.in_ok-plain.ensures ∙ ap (map (clause_at all)) same
