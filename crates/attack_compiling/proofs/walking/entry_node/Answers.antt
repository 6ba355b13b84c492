use Rattle.std.proofs.Common.{ap, ◌∙◌}
use Rattle.clause_sources.specs.Seen.{choice_of}
use Rattle.attack_compiling.specs.Walks.{walk_of}
use Rattle.attack_compiling.proofs.Nodes.{next_named, else_named, taken_named}
use Rattle.attack_compiling.proofs.walking.entry_node.Goals as goal

pub returns-in-Else : goal.returns-in-Else
returns-in-Else c = λ all known.
    else_named all c.in_ok-node.node c.args.walk.now.point (walk_of all c.args.route.now c.args.walk.now) c.args.taken (choice_of c.args.choice.now) (ap choice_of c.in-Else.is) (c.in_ok-node.ensures all known)

pub returns-in_ok-node-in-Taken : goal.returns-in_ok-node-in-Taken
returns-in_ok-node-in-Taken c = λ all known.
    taken_named all c.in_ok-node.node c.args.walk.now.point (walk_of all c.args.route.now c.args.walk.now) c.args.taken (choice_of c.args.choice.now) c.in-Taken.field-0 c.in_ok-node-in-Taken.field-0
    (ap choice_of c.in-Taken.is) (c.in_ok-node.ensures all known)
    (next_named all c.args.taken c.args.walk.now.messages c.args.route.now.messages.now c.in_ok-node-in-Taken.field-0.items known.messages (c.in_ok-node-in-Taken.ensures.items_if_clones_equal (λ a b e. e) ∙ c.next_messages.ensures))
