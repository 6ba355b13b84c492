use Rattle.std.proofs.Common.{◌≡◌, ◌∙◌, ℕ, List, take, get_or, length, ap, sym, subst, arith}
use Rattle.std.proofs.lemmas.Grind.{common_steps}
use Rattle.spec_terms.specs.Term.{Term}
use Rattle.spec_clauses.specs.Inclusion.{Has}
use Rattle.spec_certificates.specs.Certificate.{Numbered, numbered_from, pairs_of}
use Rattle.spec_verdicts.proofs.Building.{take_past}
use Rattle.clause_form.specs.Seen.{clause_at, IdClause}
use Rattle.clause_form.specs.Fit.{IsFit, clauses_at}
use Rattle.clause_form.proofs.Fit.{clause_fit_at}
use Rattle.cert_writer.specs.Unsolved.{AreUnsolved}
use Rattle.cert_writer.specs.Ready.{conclusion_print, IsReady}
use Rattle.cert_writer.specs.Adding.{AddsPairs, pairs_if_solved, MustClose}
use Rattle.cert_writer.proofs.Prints.{prints_count, print_there}
use Rattle.cert_writer.proofs.Items.{item_at, item_has, numbers_past}
use Rattle.cert_writer.proofs.Adding.{all_next}
use Rattle.cert_writer.proofs.KeptRows.{put_adds, put_short}
use Rattle.cert_writer.proofs.all_pairs.cover_pairs.Goals as goal

pub bounds-writer-place : goal.bounds-writer-place
bounds-writer-place g c = omega (arith, prints_count (g.B.Bank.trees c.args.bank.now) c.args.writer.now.live.now c.args.writer.now.prints.now c.requires.ready.prints, c.each-test.true)

pub cover_one-requires-clause-ready : goal.cover_one-requires-clause-ready
cover_one-requires-clause-ready g c = subst (λ (all : List Term). IsReady all c.args.writer.now) (sym c.each.invariant.bank) c.requires.ready

pub cover_one-requires-clause-fit : goal.cover_one-requires-clause-fit
cover_one-requires-clause-fit g c =
    subst (λ (all : List Term). IsFit all c.clause-item.result) (sym c.each.invariant.bank)
    (clause_fit_at (g.B.Bank.trees c.args.bank.now) c.args.writer.now.live.now c.each.place c.clause-item.result c.clause-item.is c.requires.ready.fit c.each-test.true)

pub cover_one-requires-clause-live : goal.cover_one-requires-clause-live
cover_one-requires-clause-live g c =
    subst (λ (all : List Term). Has (clauses_at all c.args.writer.now.live.now) (clause_at all c.clause-item.result)) (sym c.each.invariant.bank)
    (item_has (g.B.Bank.trees c.args.bank.now) c.args.writer.now.live.now c.each.place c.clause-item.result c.clause-item.is c.each-test.true)

pub cover_one-requires-clause-told : goal.cover_one-requires-clause-told
cover_one-requires-clause-told g c =
    let all = g.B.Bank.trees c.args.bank.now in
    let live = c.args.writer.now.live.now in
    let clause = c.clause-item.result in
    let here : conclusion_print (clause_at all (get_or live c.each.place clause)) ≡ conclusion_print (clause_at (g.B.Bank.trees c.each.bank) clause) =
    ap (λ (k : IdClause). conclusion_print (clause_at all k)) (sym c.clause-item.is) ∙ ap (λ (ts : List Term). conclusion_print (clause_at ts clause)) (sym c.each.invariant.bank) in
    record {
      conclusion = print_there all live c.args.writer.now.prints.now c.each.place clause _ c.requires.ready.prints c.each-test.true ∙ here;
      unsolved = subst (λ (all : List Term). AreUnsolved all live c.args.unsolved.now) (sym c.each.invariant.bank) c.requires.unsolved;
    }

pub cover_one-requires-clause-places : goal.cover_one-requires-clause-places
cover_one-requires-clause-places g c =
    let most = put_short (g.B.Bank.trees c.args.bank.now) c.args.known.now c.args.writer.now.live.now c.requires.begin c.each.place c.in_ok-from.from c.each.rows c.put_known.new.rows c.in_ok-from.ensures in
    omega (arith, most)

pub cover_one-requires-clause-closed : goal.cover_one-requires-clause-closed
cover_one-requires-clause-closed g c = subst (λ (all : List Term). MustClose (clauses_at all c.args.writer.now.live.now)) (sym c.each.invariant.bank) c.requires.closed

pub each-preserved : goal.each-preserved
each-preserved g c =
    let all = g.B.Bank.trees c.args.bank.now in
    let live = c.args.writer.now.live.now in
    let clause = c.clause-item.result in
    let old = c.each.rows in
    let put = c.put_known.new.rows in
    let new = c.cover_one.new.rows in
    let each = numbered_from 1 (clauses_at all live) in
    let at = item_at all live c.each.place clause c.clause-item.is c.each-test.true in
    let front = put_adds all c.args.known.now live c.requires.begin c.requires.known c.each.place c.in_ok-from.from (clause_at all clause) old put at c.in_ok-from.ensures in
    let adds = subst (λ (all : List Term). (i : ℕ) (first : List (List ℕ)) → AddsPairs (clauses_at all live) (pairs_if_solved i (clause_at all clause) (take c.in_ok-from.from (numbered_from 1 (clauses_at all live)))) first put
    → AddsPairs (clauses_at all live) (pairs_if_solved i (clause_at all clause) (take (length live) (numbered_from 1 (clauses_at all live)))) first new) c.each.invariant.bank c.in_ok-cover_one.ensures.rows in
    let pairs = λ (i : ℕ). subst (λ (ns : List Numbered). AddsPairs (clauses_at all live) (pairs_if_solved i (clause_at all clause) ns) old new) (take_past each (length live) (numbers_past all live (length live) (omega arith))) (adds i old (front i)) in
    record {
      bank = c.cover_one.ensures.bank ∙ c.each.invariant.bank;
      rows = all_next (clauses_at all live) each (clauses_at all live) c.each.place (clause_at all clause) c.args.rows.now old new at c.each.invariant.rows pairs;
    }

pub returns-clause-rows : goal.returns-clause-rows
returns-clause-rows g c =
    let all = g.B.Bank.trees c.args.bank.now in
    let clauses = clauses_at all c.args.writer.now.live.now in
    subst (λ (ns : List Numbered). AddsPairs clauses (pairs_of ns (numbered_from 1 clauses)) c.args.rows.now c.each.rows)
    (take_past (numbered_from 1 clauses) c.each.place (numbers_past all c.args.writer.now.live.now c.each.place c.each-test.false)) c.each.invariant.rows

pub returns-clause-bank : goal.returns-clause-bank
returns-clause-bank g c = c.each.invariant.bank

pub returns-in_err-from-clause-bank : goal.returns-in_err-from-clause-bank
returns-in_err-from-clause-bank g c = c.each.invariant.bank

pub returns-in_err-cover_one-clause-bank : goal.returns-in_err-cover_one-clause-bank
returns-in_err-cover_one-clause-bank g c = c.cover_one.ensures.bank ∙ c.each.invariant.bank

pub each-init : goal.each-init
each-init g c = grind (arith, common_steps)
