use Rattle.std.proofs.Common.{◌≡◌, ◌∙◌, ℕ, List, take, ap, sym, subst, arith}
use Rattle.std.proofs.lemmas.Grind.{common_steps}
use Rattle.std.proofs.lemmas.Result.{IfOk-weaker}
use Rattle.spec_terms.specs.Term.{Term}
use Rattle.spec_clauses.specs.Inclusion.{Has}
use Rattle.spec_saturation.specs.Live.{MustBeCovered}
use Rattle.term_tree.proofs.BankLaws.{take-grows, Grows-length}
use Rattle.clause_form.specs.Seen.{clause_at, IdClause}
use Rattle.clause_form.specs.Fit.{clauses_at}
use Rattle.cert_writer.specs.Ready.{IsReady}
use Rattle.cert_writer.specs.Adding.{AddsRows, AddsPairs, pairs_of_two}
use Rattle.cert_writer.specs.Given.{AreSmall}
use Rattle.cert_writer.proofs.Small.{fit_small}
use Rattle.cert_writer.proofs.Pairing.{found_apart, found_large, made_fit, made_covered, made_added}
use Rattle.clause_resolve.specs.Answers.{LeavesBank}
use Rattle.clause_resolve.specs.declared.resolving.Resolved.{Resolved}
use Rattle.cert_writer.proofs.closing.cover_pair.Goals as goal

pub resolvents-requires-clause-solved_low : goal.resolvents-requires-clause-solved_low
resolvents-requires-clause-solved_low g c = c.requires.solved_fit.low

pub resolvents-requires-clause-unsolved_low : goal.resolvents-requires-clause-unsolved_low
resolvents-requires-clause-unsolved_low g c = c.requires.unsolved_fit.low

pub cover_made-requires-clause-made : goal.cover_made-requires-clause-made
cover_made-requires-clause-made g c =
    let all = g.B.Bank.trees c.args.bank.now in
    let now = g.B.Bank.trees c.resolvents.new.bank in
    let same : c.deref.result.now ≡ c.in-Clauses.made = c.deref.ensures.value ∙ c.made.view_is in
    subst (λ (cs : List IdClause). AreSmall now cs) (sym same) (fit_small now c.in-Clauses.made
    (made_fit now (clauses_at all c.args.writer.now.live.now) (clause_at all c.args.solved.now) (clause_at all c.args.unsolved.now) c.in_ok-resolvents-in-Some.field-0 c.in_ok-resolvents-in-Some.ensures.answer c.in-Clauses.made c.in_ok-resolvents-in-Some.ensures.low c.in-Clauses.is))

pub cover_made-requires-clause-covered : goal.cover_made-requires-clause-covered
cover_made-requires-clause-covered g c =
    let all = g.B.Bank.trees c.args.bank.now in
    let now = g.B.Bank.trees c.resolvents.new.bank in
    let live = c.args.writer.now.live.now in
    let same : c.deref.result.now ≡ c.in-Clauses.made = c.deref.ensures.value ∙ c.made.view_is in
    let back : take c.mark-mark.result.len now ≡ all = ap (λ n. take n now) c.mark-mark.ensures ∙ take-grows all now c.resolvents.ensures.grows in
    λ d h. subst (λ (before : List Term). MustBeCovered (clauses_at before live) d) (sym back)
    (made_covered now (clauses_at all live) (clause_at all c.args.solved.now) (clause_at all c.args.unsolved.now) c.in_ok-resolvents-in-Some.field-0 c.in_ok-resolvents-in-Some.ensures.answer c.in-Clauses.made
    c.requires.closed c.requires.solved_live c.requires.unsolved_live c.requires.is_solved c.in-Clauses.is d (subst (λ (cs : List IdClause). Has (clauses_at now cs) d) same h))

pub returns-in-NoUnifier-clause-rows : goal.returns-in-NoUnifier-clause-rows
returns-in-NoUnifier-clause-rows g c =
    let all = g.B.Bank.trees c.args.bank.now in
    let now = g.B.Bank.trees c.resolvents.new.bank in
    λ i j. found_apart now (clauses_at all c.args.writer.now.live.now) (clause_at all c.args.solved.now) (clause_at all c.args.unsolved.now) c.in_ok-resolvents-in-Some.field-0 c.in_ok-resolvents-in-Some.ensures.answer i j c.args.rows.now c.in-NoUnifier.is

pub returns-in-Large-clause-rows : goal.returns-in-Large-clause-rows
returns-in-Large-clause-rows g c =
    let all = g.B.Bank.trees c.args.bank.now in
    let now = g.B.Bank.trees c.resolvents.new.bank in
    λ i j. absurd (found_large now (clauses_at all c.args.writer.now.live.now) (clause_at all c.args.solved.now) (clause_at all c.args.unsolved.now) c.in_ok-resolvents-in-Some.field-0 c.in_ok-resolvents-in-Some.ensures.answer
    c.requires.closed c.requires.solved_live c.requires.unsolved_live c.requires.is_solved c.in-Large.is)

pub returns-in-Clauses-clause-rows : goal.returns-in-Clauses-clause-rows
returns-in-Clauses-clause-rows g c =
    let all = g.B.Bank.trees c.args.bank.now in
    let now = g.B.Bank.trees c.resolvents.new.bank in
    let live = c.args.writer.now.live.now in
    let solved = clause_at all c.args.solved.now in
    let unsolved = clause_at all c.args.unsolved.now in
    let made = c.in-Clauses.made in
    let old = c.args.rows.now in
    let new = c.cover_made.new.rows in
    let same : c.deref.result.now ≡ made = c.deref.ensures.value ∙ c.made.view_is in
    let back : take c.mark-mark.result.len now ≡ all = ap (λ n. take n now) c.mark-mark.ensures ∙ take-grows all now c.resolvents.ensures.grows in
    IfOk-weaker c.cover_made.result (λ _. AddsRows (clauses_at (take c.mark-mark.result.len now) live) (clauses_at now c.deref.result.now) old new) (λ _. (i j : ℕ) → AddsPairs (clauses_at all live) (pairs_of_two i solved j unsolved) old new)
    (λ _ adds i j. made_added now (clauses_at all live) solved unsolved c.in_ok-resolvents-in-Some.field-0 c.in_ok-resolvents-in-Some.ensures.answer made i j old new c.in-Clauses.is
    (subst (λ (cs : List IdClause). AddsRows (clauses_at all live) (clauses_at now cs) old new) same (subst (λ (before : List Term). AddsRows (clauses_at before live) (clauses_at now c.deref.result.now) old new) back adds)))
    c.cover_made.ensures.rows

pub returns-in-Clauses-clause-bank : goal.returns-in-Clauses-clause-bank
returns-in-Clauses-clause-bank g c =
    let all = g.B.Bank.trees c.args.bank.now in
    let now = g.B.Bank.trees c.resolvents.new.bank in
    c.cover_made.ensures.bank ∙ (ap (λ n. take n now) c.mark-mark.ensures ∙ take-grows all now c.resolvents.ensures.grows)

pub cover_made-requires-clause-mark : goal.cover_made-requires-clause-mark
cover_made-requires-clause-mark g c = omega (arith, c.mark-mark.ensures, Grows-length (g.B.Bank.trees c.args.bank.now) (g.B.Bank.trees c.resolvents.new.bank) c.resolvents.ensures.grows)

pub cover_made-requires-clause-ready : goal.cover_made-requires-clause-ready
cover_made-requires-clause-ready g c =
    let all = g.B.Bank.trees c.args.bank.now in
    let now = g.B.Bank.trees c.resolvents.new.bank in
    let back : take c.mark-mark.result.len now ≡ all = ap (λ n. take n now) c.mark-mark.ensures ∙ take-grows all now c.resolvents.ensures.grows in
    subst (λ (before : List Term). IsReady before c.args.writer.now) (sym back) c.requires.ready

pub returns-in-NoUnifier-clause-bank : goal.returns-in-NoUnifier-clause-bank
returns-in-NoUnifier-clause-bank g c = subst (λ (found : Resolved). LeavesBank (g.B.Bank.trees c.args.bank.now) (g.B.Bank.trees c.resolvents.new.bank) found) c.in-NoUnifier.is c.in_ok-resolvents-in-Some.ensures.as_before

pub returns-in-Large-clause-bank : goal.returns-in-Large-clause-bank
returns-in-Large-clause-bank g c = subst (λ (found : Resolved). LeavesBank (g.B.Bank.trees c.args.bank.now) (g.B.Bank.trees c.resolvents.new.bank) found) c.in-Large.is c.in_ok-resolvents-in-Some.ensures.as_before

pub returns-in-None-clause-rows : goal.returns-in-None-clause-rows
returns-in-None-clause-rows g c = grind (arith, common_steps)
