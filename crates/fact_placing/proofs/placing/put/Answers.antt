use Rattle.std.proofs.Common.{refl, map, get_or, subst, arith}
use Rattle.std.proofs.lemmas.Bool.{MatchBool-at_true, MatchBool-at_false}
use Rattle.std.proofs.lemmas.Grind.{common_steps}
use Rattle.clause_form.specs.declared.facts.Fact.{Fact}
use Rattle.clause_form.specs.Facts.{fact_of}
use Rattle.clause_form.specs.Seen.{fact_at, IsFactIn}
use Rattle.clause_form.proofs.Walks.{fact_known_at}
use Rattle.fact_placing.proofs.Putting.{found_at, cannot_match, flag_at}
use Rattle.fact_placing.proofs.placing.put.Goals as goal

pub match_fact-requires-clause-special : goal.match_fact-requires-clause-special
match_fact-requires-clause-special g c =
    let all = g.B.Bank.trees c.args.board.now.bank.now in
    subst (λ (f : Fact). IsFactIn all (fact_of f)) c.index-board-p.is (fact_known_at all c.args.board.now.hyps.now c.args.p c.index-board-p.result c.index-board-p.is c.requires.board.known c.requires.position)

pub returns-then-not-branch-clause-outcome : goal.returns-then-not-branch-clause-outcome
returns-then-not-branch-clause-outcome g c =
    let all = g.B.Bank.trees c.args.board.now.bank.now in
    let stands = found_at all c.args.board.now.hyps.now c.args.p c.index-board-p.result c.requires.position in
    cannot_match all (map fact_of c.args.board.now.hyps.now) c.args.placing.now.binds.pairs c.args.placing.now.taken.items (fact_of c.args.fact.now) c.args.p (fact_at all (fact_of (get_or c.args.board.now.hyps.now c.args.p c.index-board-p.result))) stands
    (MatchBool-at_false _ _ c.if-not-branch.true c.in_ok-match_fact.ensures.outcome)

pub returns-clause-outcome : goal.returns-clause-outcome
returns-clause-outcome g c =
    let all = g.B.Bank.trees c.args.board.now.bank.now in
    record {
      there = fact_at all (fact_of (get_or c.args.board.now.hyps.now c.args.p c.index-board-p.result));
      stands = found_at all c.args.board.now.hyps.now c.args.p c.index-board-p.result c.requires.position;
      free = flag_at c.args.placing.now.taken.items c.args.p c.index.result.now c.index.ensures c.if-index.false;
      matched = MatchBool-at_true _ _ c.if-not-branch.false c.in_ok-match_fact.ensures.outcome;
      flags = refl;
    }

pub index_mut-requires : goal.index_mut-requires
index_mut-requires g c = grind (arith, common_steps)

pub index-requires : goal.index-requires
index-requires g c = grind (arith, common_steps)

pub returns-then-index-clause-outcome : goal.returns-then-index-clause-outcome
returns-then-index-clause-outcome g c = grind (arith, common_steps)
