use Rattle.std.proofs.Common.{map, ap}
use Rattle.clause_diffs.specs.Diffs.{diff_at}
use Rattle.clause_form.specs.Seen.{clause_at}
use Rattle.clause_form.proofs.Anchoring.{empty_of, some_of}
use Rattle.clause_form.proofs.Told.{alone_then, alone_else}
use Rattle.clause_form.proofs.normality.is_everything_known.Goals as goal

pub returns-then-is_unconstrained : goal.returns-then-is_unconstrained
returns-then-is_unconstrained g c =
    let all = g.B.Bank.trees c.args.bank.now in
    let none = ap (map (diff_at all)) (empty_of c.args.clause.now.diffs c.is_unconstrained.result c.is_unconstrained.ensures c.if-is_unconstrained.true) in
    alone_then (clause_at all c.args.clause.now) c.is_known_alone.result none c.is_known_alone.ensures

pub returns-else-is_unconstrained : goal.returns-else-is_unconstrained
returns-else-is_unconstrained g c =
    let all = g.B.Bank.trees c.args.bank.now in
    alone_else (clause_at all c.args.clause.now) c.is_unconstrained.result (some_of (diff_at all) c.args.clause.now.diffs c.is_unconstrained.result c.is_unconstrained.ensures c.if-is_unconstrained.false) c.if-is_unconstrained.false
