use Rattle.std.proofs.Common.{refl, ap, ◌∙◌}
use Rattle.spec_attack_runs.specs.Source.{Taken}
use Rattle.attack_compiling.proofs.Nodes.{first_named, none_named}
use Rattle.attack_compiling.proofs.walking.plain_node.Goals as goal

pub returns : goal.returns
returns c = λ all known. record {
  point = refl;
  sessions = first_named all c.args.walk.now.sessions c.args.route.now.sessions.now c.in_ok-sessions.sessions.items known.sessions (c.in_ok-sessions.ensures.items_if_clones_equal (λ a b e. e) ∙ c.copied.ensures);
  messages = none_named all c.new-2.result.items c.new-2.ensures.items;
  choice = ap Taken c.new.ensures.items;
  other = refl;
}
