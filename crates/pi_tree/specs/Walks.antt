-- Where a walk over the nodes of a process in pre-order ends.
use Rattle.std.specs.Prelude.{◌≡◌, ℕ, ◌+◌, Some, length, map, slice_get}
use Rattle.spec_calculus.specs.Syntax as calculus
use Rattle.spec_calculus.specs.Points.{nodes, name_arguments}
use Rattle.pi_tree.specs.Processes.{process_of}
use Rattle.pi_tree.specs.Accessors.{capped}
use Rattle.pi_tree.specs.declared.points.Walk.{Walk}
use Rattle.pi_tree.specs.declared.points.Walk.TheVariants.{At, Past}

-- past that many nodes: it stands at the next one, or has passed them all
abbrev pub Ends : calculus.Process → ℕ → ℕ → Walk → Type 0
Ends process skip above (At node arguments) =
    (slice_get (nodes process) skip ≡ Some (process_of node.now)) × (slice_get (map capped (name_arguments above process)) skip ≡ Some arguments)
Ends process skip above (Past left) = length (nodes process) + left ≡ skip
