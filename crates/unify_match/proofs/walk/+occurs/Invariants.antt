use Rattle.std.proofs.Common.{◌≡◌, ◌<◌, drop}
use Rattle.spec_terms.specs.Binding.{resolved}
use Rattle.spec_terms.specs.Rank.{height, ranks}
use Rattle.term_tree.specs.Bank.{tree_at, AreKnown}
use Rattle.unify_match.specs.Seen.{seen}
use Rattle.unify_match.specs.Memo.{AreClear}
use Rattle.unify_match.proofs.Walking.{some_has, heights_of}
use Rattle.unify_match.proofs.walk.+occurs.Given as goal

abbrev pub decreases-occurs : goal.decreases-occurs
decreases-occurs g l = height (ranks (seen (g.B.Bank.trees l.bank.now) l.binds.now.pairs)) (tree_at (g.B.Bank.trees l.bank.now) l.id)

abbrev pub invariant-args-2 : goal.invariant-args-2
invariant-args-2 g l = record {
  clear : AreClear (g.B.Bank.trees l.bank) l.binds.pairs l.number l.clear;
  known : AreKnown (g.B.Bank.trees l.bank) (drop l.arg-index l.args);
  rest : some_has (resolved (seen (g.B.Bank.trees l.bank) l.binds.pairs)) l.number (g.B.Bank.trees l.bank) (drop l.arg-index l.args)
      ≡ some_has (resolved (seen (g.B.Bank.trees l.bank) l.binds.pairs)) l.number (g.B.Bank.trees l.bank) l.args;
  lower : heights_of (ranks (seen (g.B.Bank.trees l.bank) l.binds.pairs)) (g.B.Bank.trees l.bank) (drop l.arg-index l.args)
      < height (ranks (seen (g.B.Bank.trees l.bank) l.binds.pairs)) (tree_at (g.B.Bank.trees l.bank) l.end);
}
