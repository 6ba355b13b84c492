-- fewer and fewer levels may be open
use Rattle.protocol_text.proofs.hidden.+processes.Given as goal

abbrev pub decreases-walk_process : goal.decreases-walk_process
decreases-walk_process l = l.left

abbrev pub decreases-walk_next : goal.decreases-walk_next
decreases-walk_next l = l.left

abbrev pub decreases-walk_macro : goal.decreases-walk_macro
decreases-walk_macro l = l.left

abbrev pub decreases-walk_unit : goal.decreases-walk_unit
decreases-walk_unit l = l.left

abbrev pub decreases-walk_branches : goal.decreases-walk_branches
decreases-walk_branches l = l.left

abbrev pub decreases-walk_node : goal.decreases-walk_node
decreases-walk_node l = l.left
