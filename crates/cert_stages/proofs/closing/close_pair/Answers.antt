use Rattle.std.proofs.Common.{◌≡◌, List, get_or, sym, subst, rules, arith}
use Rattle.spec_certificates.specs.Certificate.{CoverRowHolds, numbered_from}
use Rattle.clause_form.specs.Seen.{clause_at, IdClause}
use Rattle.clause_resolve.specs.Answers.{IsAnswerAt, LeavesBank}
use Rattle.clause_resolve.specs.declared.resolving.Resolved.{Resolved}
use Rattle.clause_form.specs.Fit.{AreFit, clauses_at}
use Rattle.cert_stages.specs.Answers.{numbered_at, chosen_by, pair_at, IsShownSo, IsClosedSo}
use Rattle.cert_stages.specs.declared.shown.Closed as closed
use Rattle.clause_form.proofs.Fit.{AreFit-grow, clauses_grow, fit_in}
use Rattle.cert_stages.proofs.Passing.{hypothesis_at, made_fit, pair_apart, pair_large, pair_shown}
use Rattle.term_tree.proofs.BankLaws.{Grows-length}
use Rattle.clause_resolve.proofs.Answering.{as_before}
use Rattle.cert_stages.proofs.closing.close_pair.Goals as goal

pub resolvents_at-requires-clause-solved : goal.resolvents_at-requires-clause-solved
resolvents_at-requires-clause-solved g c = (fit_in (g.B.Bank.trees c.args.bank.now) c.args.checker.now.clauses.now c.args.pair.solved c.index-checker-pair.result c.requires.fit c.requires.solved).known

pub resolvents_at-requires-clause-solved_low : goal.resolvents_at-requires-clause-solved_low
resolvents_at-requires-clause-solved_low g c =
    let all = g.B.Bank.trees c.args.bank.now in
    (fit_in all c.args.checker.now.clauses.now c.args.pair.solved c.index-checker-pair.result c.requires.fit c.requires.solved).low

pub resolvents_at-requires-clause-unsolved : goal.resolvents_at-requires-clause-unsolved
resolvents_at-requires-clause-unsolved g c = (fit_in (g.B.Bank.trees c.args.bank.now) c.args.checker.now.clauses.now c.args.pair.unsolved c.index-checker-pair-2.result c.requires.fit c.requires.unsolved).known

pub resolvents_at-requires-clause-unsolved_low : goal.resolvents_at-requires-clause-unsolved_low
resolvents_at-requires-clause-unsolved_low g c =
    let all = g.B.Bank.trees c.args.bank.now in
    (fit_in all c.args.checker.now.clauses.now c.args.pair.unsolved c.index-checker-pair-2.result c.requires.fit c.requires.unsolved).low

pub resolvents_at-requires-clause-there : goal.resolvents_at-requires-clause-there
resolvents_at-requires-clause-there g c =
    hypothesis_at (g.B.Bank.trees c.args.bank.now) c.args.checker.now.clauses.now c.args.checker.now.numbers.now c.args.pair.unsolved c.args.at c.index-checker-pair-2.result c.requires.unsolved c.requires.right c.requires.chosen

pub are_covered-covered-requires-clause-fit : goal.are_covered-covered-requires-clause-fit
are_covered-covered-requires-clause-fit g c = AreFit-grow (g.B.Bank.trees c.args.bank.now) (g.B.Bank.trees c.resolvents_at.new.bank) c.args.checker.now.clauses.now c.resolvents_at.ensures.grows c.requires.fit

pub are_covered-covered-requires-clause-clauses : goal.are_covered-covered-requires-clause-clauses
are_covered-covered-requires-clause-clauses g c =
    let new = g.B.Bank.trees c.resolvents_at.new.bank in
    let same : c.deref.result.now ≡ c.in-Clauses.made = search rules in
    subst (λ (cs : List IdClause). AreFit new cs) (sym same) (made_fit new _ _ c.args.at c.in_ok-resolvents_at.field-0 c.in-Clauses.made c.in-Clauses.is c.in_ok-resolvents_at.ensures.answer c.in_ok-resolvents_at.ensures.low)

pub returns-in-NoUnifier-clause-closed : goal.returns-in-NoUnifier-clause-closed
returns-in-NoUnifier-clause-closed g c =
    pair_apart (g.B.Bank.trees c.args.bank.now) c.args.checker.now.clauses.now c.args.checker.now.numbers.now c.args.checker.now.rows.now c.args.from c.args.pair.solved c.args.pair.unsolved c.args.at c.index-checker-pair.result c.index-checker-pair-2.result c.requires.solved c.requires.unsolved c.requires.chosen
    (g.B.Bank.trees c.resolvents_at.new.bank) c.in_ok-resolvents_at.field-0 c.in-NoUnifier.is c.in_ok-resolvents_at.ensures.answer

pub returns-in-Large-clause-closed : goal.returns-in-Large-clause-closed
returns-in-Large-clause-closed g c =
    let all = g.B.Bank.trees c.args.bank.now in
    let cs = c.args.checker.now.clauses.now in
    let numbers = c.args.checker.now.numbers.now in
    let rows = c.args.checker.now.rows.now in
    subst (λ (o : closed.Closed). IsClosedSo (clauses_at all cs) (pair_at (chosen_by numbers) (numbered_at all cs) c.args.pair.solved c.args.pair.unsolved) rows c.args.from o) (sym c.uncovered.ensures)
    (pair_large all cs numbers rows c.args.from c.args.pair.solved c.args.pair.unsolved c.args.at c.index-checker-pair.result c.index-checker-pair-2.result c.requires.solved c.requires.unsolved c.requires.chosen
    (g.B.Bank.trees c.resolvents_at.new.bank) c.in_ok-resolvents_at.field-0 c.in-Large.is c.in_ok-resolvents_at.ensures.answer)

pub returns-in_ok-shown-in-Clauses-clause-closed : goal.returns-in_ok-shown-in-Clauses-clause-closed
returns-in_ok-shown-in-Clauses-clause-closed g c =
    let all = g.B.Bank.trees c.args.bank.now in
    let new = g.B.Bank.trees c.resolvents_at.new.bank in
    let cs = c.args.checker.now.clauses.now in
    let numbers = c.args.checker.now.numbers.now in
    let rows = c.args.checker.now.rows.now in
    let same : c.deref.result.now ≡ c.in-Clauses.made = search rules in
    let first = get_or cs c.args.pair.solved c.index-checker-pair.result in
    let second = get_or cs c.args.pair.unsolved c.index-checker-pair-2.result in
    let answer = subst (λ (r : Resolved). IsAnswerAt c.args.at new (clause_at all first) (clause_at all second) r) c.in-Clauses.is c.in_ok-resolvents_at.ensures.answer in
    let shown = subst (λ (made : List IdClause). IsShownSo (CoverRowHolds (clauses_at new cs)) (numbered_from 1 (clauses_at new made)) rows c.args.from c.in_ok-shown-in-Clauses.shown) same c.in_ok-shown-in-Clauses.ensures in
    subst (λ (o : closed.Closed). IsClosedSo (clauses_at all cs) (pair_at (chosen_by numbers) (numbered_at all cs) c.args.pair.solved c.args.pair.unsolved) rows c.args.from o) (sym c.closed_where.ensures)
    (pair_shown all cs numbers rows c.args.from c.args.pair.solved c.args.pair.unsolved c.args.at c.index-checker-pair.result c.index-checker-pair-2.result c.requires.solved c.requires.unsolved c.requires.chosen
    new c.in-Clauses.made c.in_ok-shown-in-Clauses.shown (clauses_grow all new cs c.resolvents_at.ensures.grows c.requires.fit) answer shown)

pub back-requires : goal.back-requires
back-requires g c = omega (arith, c.mark-mark.ensures, Grows-length (g.B.Bank.trees c.args.bank.now) (g.B.Bank.trees c.resolvents_at.new.bank) c.resolvents_at.ensures.grows)

pub returns-in_ok-shown-in-Clauses-clause-bank : goal.returns-in_ok-shown-in-Clauses-clause-bank
returns-in_ok-shown-in-Clauses-clause-bank g c = as_before (g.B.Bank.trees c.args.bank.now) (g.B.Bank.trees c.resolvents_at.new.bank) (g.B.Bank.trees c.back.new.self) _ c.resolvents_at.ensures.grows c.mark-mark.ensures c.back.ensures

pub returns-in-NoUnifier-clause-bank : goal.returns-in-NoUnifier-clause-bank
returns-in-NoUnifier-clause-bank g c = subst (λ (found : Resolved). LeavesBank (g.B.Bank.trees c.args.bank.now) (g.B.Bank.trees c.resolvents_at.new.bank) found) c.in-NoUnifier.is c.in_ok-resolvents_at.ensures.as_before

pub returns-in-Large-clause-bank : goal.returns-in-Large-clause-bank
returns-in-Large-clause-bank g c = subst (λ (found : Resolved). LeavesBank (g.B.Bank.trees c.args.bank.now) (g.B.Bank.trees c.resolvents_at.new.bank) found) c.in-Large.is c.in_ok-resolvents_at.ensures.as_before

pub returns-in_err-shown-in-Clauses-clause-bank : goal.returns-in_err-shown-in-Clauses-clause-bank
returns-in_err-shown-in-Clauses-clause-bank g c = as_before (g.B.Bank.trees c.args.bank.now) (g.B.Bank.trees c.resolvents_at.new.bank) (g.B.Bank.trees c.back.new.self) _ c.resolvents_at.ensures.grows c.mark-mark.ensures c.back.ensures
