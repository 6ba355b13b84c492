use Rattle.std.proofs.Common.{◌≡◌, ◌∙◌, map, ap}
use Rattle.spec_translation.specs.Conversion.{rule_term}
use Rattle.spec_translation.specs.Attacker.{rule_applied}
use Rattle.term_tree.specs.Bank.{tree_at}
use Rattle.pi_tree.specs.Rules.{rule_of}
use Rattle.pi_tree.specs.Protocols.{protocol_of}
use Rattle.clause_diffs.specs.Plain.{term_of}
use Rattle.attacker_sources.proofs.Known.{known_raw, if_ok_is, rule_told}
use Rattle.attacker_sources.proofs.rules.raw_grown.Goals as goal

pub returns-clause-raw : goal.returns-clause-raw
returns-clause-raw g c =
    let made = g.B.Bank.trees c.rename_rule.new.bank in
    let P = protocol_of c.args.protocol.now in
    let rule = rule_of c.args.rule.now in
    let k = c.args.at.phase in
    let parts : c.in_ok-parts.parts ≡ map (rule_term P 0) rule.left = c.in_ok-parts.ensures ∙ (ap (map (tree_at made)) (c.deref.ensures.value ∙ c.left.view_is) ∙ c.in_ok-left.ensures.left.are) in
    let whole : term_of c.in_ok-whole.whole ≡ rule_term P 0 rule.right = c.in_ok-whole.ensures ∙ c.in_ok-left.ensures.right.is in
    if_ok_is c.known.result (known_raw k c.in_ok-parts.parts k (term_of c.in_ok-whole.whole)) (rule_applied P k rule) (rule_told P k rule c.in_ok-parts.parts (term_of c.in_ok-whole.whole) parts whole) c.known.ensures
