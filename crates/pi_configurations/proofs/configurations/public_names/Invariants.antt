use Rattle.std.proofs.Common.{◌≡◌, ◌+◌, ◌++◌, map, drop, filter_map}
use Rattle.std.specs.List.{enumerate_from}
use Rattle.spec_calculus.specs.Runs.{public_name}
use Rattle.pi_tree.specs.Names.{declared_of}
use Rattle.pi_configurations.proofs.configurations.public_names.Given as goal

abbrev pub invariant-loop-index : goal.invariant-loop-index
invariant-loop-index l =
    l.known ++ filter_map public_name (enumerate_from (1 + l.index) (map declared_of (drop l.index l.declared-items))) ≡ filter_map public_name (enumerate_from 1 (map declared_of l.declared-items))
