-- fewer and fewer levels may be open
use Rattle.protocol_text.proofs.variables.+processes.Given as goal

abbrev pub decreases-note_process : goal.decreases-note_process
decreases-note_process l = l.left

abbrev pub decreases-note_next : goal.decreases-note_next
decreases-note_next l = l.left

abbrev pub decreases-note_unit : goal.decreases-note_unit
decreases-note_unit l = l.left

abbrev pub decreases-note_macro : goal.decreases-note_macro
decreases-note_macro l = l.left

abbrev pub decreases-note_node : goal.decreases-note_node
decreases-note_node l = l.left
