use Rattle.term_tree.specs.Bank.{Grows}
use Rattle.attack_candidates.specs.Sound.{IsSound}
use Rattle.attack_candidates.proofs.searching.search.Given as goal

abbrev pub invariant-each : goal.invariant-each
invariant-each l = record {
  grows : Grows l.fn.bank l.bank;
  sound : IsSound l.bank l.found;
}
