-- none of the names so far is spelled so
use Rattle.std.proofs.Common.{◌≡◌, ◌+◌, map, drop}
use Rattle.pi_tree.specs.Names.{declared_of}
use Rattle.spec_certificate_text.specs.Names.{find_from}
use Rattle.term_reader.proofs.words.find_declared.Given as goal

abbrev pub invariant-loop-declared : goal.invariant-loop-declared
invariant-loop-declared l = record {
  number : l.number ≡ l.declared-index + 1;
  rest : find_from l.number (map declared_of (drop l.declared-index l.items)) l.word ≡ find_from 1 (map declared_of l.items) l.word;
}
