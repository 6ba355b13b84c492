-- all parts are terms where those from here on are
use Rattle.std.proofs.Common.{◌≡◌, map, drop}
use Rattle.std.specs.Option.{is_some}
use Rattle.spec_protocol_scope.specs.Expressions as rules
use Rattle.pi_tree.specs.Expressions.{expression_of}
use Rattle.scope_check.proofs.expressions.are_terms.Given as goal

abbrev pub invariant-loop-part : goal.invariant-loop-part
invariant-loop-part l = is_some (rules.terms_of (map expression_of (drop l.part-index l.part-items))) ≡ is_some (rules.terms_of (map expression_of l.part-items))
