use Rattle.std.proofs.Common.{◌≡◌, ◌+◌, map, drop, option_map}
use Rattle.std.specs.List.{find, enumerate_from}
use Rattle.pi_tree.specs.Values.{value_of}
use Rattle.held_entries.specs.Entries.{held_of}
use Rattle.spec_attack_runs.specs.Walking.{is_entry}
use Rattle.attack_compiling.proofs.acting.entry_of.Given as goal

abbrev pub invariant-each : goal.invariant-each
invariant-each l =
    option_map (λ p. p.0) (find (λ p. is_entry l.table (map value_of l.values) p.1) (enumerate_from (l.index + 1) (map held_of (drop l.index l.held-items))))
    ≡ option_map (λ p. p.0) (find (λ p. is_entry l.table (map value_of l.values) p.1) (enumerate_from 1 (map held_of l.held-items)))
