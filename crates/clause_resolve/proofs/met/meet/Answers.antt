use Rattle.std.proofs.Common.{ap, sym, subst, inl, inr, refl}
use Rattle.std.proofs.lemmas.Bool.{MatchBool-at_true, MatchBool-at_false}
use Rattle.clause_form.specs.Facts.{fact_of}
use Rattle.clause_form.specs.Seen.{IsClauseIn, IdClause}
use Rattle.clause_resolve.proofs.Answering.{unanswered, together_known, pair_below, pair_keeps}
use Rattle.clause_resolve.proofs.MetPairs.{large_pair, met_pair}
use Rattle.term_tree.proofs.BankLaws.{Grows_refl}
use Rattle.clause_resolve.proofs.met.meet.Goals as goal

pub unify_facts-requires-clause-ready : goal.unify_facts-requires-clause-ready
unify_facts-requires-clause-ready g c = c.in_ok-binds.ensures.ready (g.B.Bank.trees c.args.bank.now)

pub returns-then-not-branch-clause-meets : goal.returns-then-not-branch-clause-meets
returns-then-not-branch-clause-meets g c = λ unsolved apart.
    inl (unanswered (g.B.Bank.trees c.args.bank.now) c.args.solved.now _ unsolved c.args.apart.now (ap (λ (k : IdClause). k.conclusion) c.solved.view_is) apart c.requires.solved_low (MatchBool-at_false _ _ c.if-not-branch.true c.in_ok-unify_facts.ensures.outcome))

pub raw_under-requires-clause-known : goal.raw_under-requires-clause-known
raw_under-requires-clause-known g c =
    let all = g.B.Bank.trees c.args.bank.now in
    subst (λ (k : IdClause). IsClauseIn all k) (sym c.in_ok-clause.ensures) (together_known all c.args.solved.now c.args.apart.now.rest c.requires.solved c.requires.apart.rest)

pub raw_under-requires-clause-low : goal.raw_under-requires-clause-low
raw_under-requires-clause-low g c =
    pair_below (g.B.Bank.trees c.args.bank.now) c.args.solved.now.diffs c.args.apart.now.rest.diffs c.in_ok-clause.clause.diffs c.requires.solved_low.diffs c.requires.apart.low.diffs (ap (λ (k : IdClause). k.diffs) c.in_ok-clause.ensures)

pub raw_under-requires-clause-kept : goal.raw_under-requires-clause-kept
raw_under-requires-clause-kept g c =
    pair_keeps (g.B.Bank.trees c.args.bank.now) c.unify_facts.new.binds.pairs _ (fact_of c.args.apart.now.selected) c.args.solved.now (ap (λ (k : IdClause). k.conclusion) c.solved.view_is) c.unify_facts.ensures.ready c.requires.solved_low c.requires.apart.low.fact
    (MatchBool-at_true _ _ c.if-not-branch.false c.in_ok-unify_facts.ensures.outcome)

pub returns-in_err-binds-clause-grows : goal.returns-in_err-binds-clause-grows
returns-in_err-binds-clause-grows g c = Grows_refl (g.B.Bank.trees c.args.bank.now)

pub returns-in_err-unify_facts-clause-grows : goal.returns-in_err-unify_facts-clause-grows
returns-in_err-unify_facts-clause-grows g c = Grows_refl (g.B.Bank.trees c.args.bank.now)

pub returns-then-not-branch-clause-grows : goal.returns-then-not-branch-clause-grows
returns-then-not-branch-clause-grows g c = Grows_refl (g.B.Bank.trees c.args.bank.now)

pub returns-in_err-clause-clause-grows : goal.returns-in_err-clause-clause-grows
returns-in_err-clause-clause-grows g c = Grows_refl (g.B.Bank.trees c.args.bank.now)

pub returns-in-Err-Large-clause-meets : goal.returns-in-Err-Large-clause-meets
returns-in-Err-Large-clause-meets g c = λ unsolved apart.
    let old = g.B.Bank.trees c.args.bank.now in
    let large = rw c.in-Err-Large.field-0-is at c.in-Err-Large.ensures.outcome in
    inr (large_pair old (g.B.Bank.trees c.raw_under.new.bank) c.args.solved.now c.in_ok-clause.clause _ unsolved c.args.apart.now c.unify_facts.new.binds.pairs (ap (λ (k : IdClause). k.conclusion) c.solved.view_is) c.in_ok-clause.ensures apart c.requires.solved_low
    (MatchBool-at_true _ _ c.if-not-branch.false c.in_ok-unify_facts.ensures.outcome) large)

pub returns-in-Ok-clause-meets : goal.returns-in-Ok-clause-meets
returns-in-Ok-clause-meets g c = λ unsolved apart.
    let old = g.B.Bank.trees c.args.bank.now in
    met_pair old (g.B.Bank.trees c.raw_under.new.bank) c.args.solved.now c.in_ok-clause.clause _ unsolved c.args.apart.now c.unify_facts.new.binds.pairs record { binds = c.unify_facts.new.binds; raw = c.in-Ok.raw } (ap (λ (k : IdClause). k.conclusion) c.solved.view_is) c.in_ok-clause.ensures apart
    c.unify_facts.ensures.ready c.raw_under.ensures.grows (MatchBool-at_true _ _ c.if-not-branch.false c.in_ok-unify_facts.ensures.outcome) c.in-Ok.ensures.outcome.0 c.in-Ok.ensures.outcome.1 refl
