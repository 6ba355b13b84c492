use Rattle.attack_compiling.proofs.walking.chosen_node.Goals as goal

pub returns : goal.returns
returns c = λ all known.
    let node = c.in_ok-node.ensures all known in
    record { point = node.point; sessions = node.sessions; messages = node.messages; choice = c.in_ok-node-2.ensures; other = node.other }
