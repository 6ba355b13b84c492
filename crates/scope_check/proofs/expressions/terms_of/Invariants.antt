-- the terms so far and those from here on are all of them
use Rattle.std.proofs.Common.{◌≡◌, ◌++◌, IsTrue, length, map, option_map}
use Rattle.std.specs.Option.{is_some}
use Rattle.spec_protocol_scope.specs.Expressions as rules
use Rattle.pi_tree.specs.Expressions.{expression_of}
use Rattle.pi_tree.specs.Terms.{term_of}
use Rattle.scope_check.proofs.expressions.terms_of.Given as goal

abbrev pub invariant-loop-part : goal.invariant-loop-part
invariant-loop-part l = record {
  found : option_map (λ ts. map term_of l.items.items ++ ts) (rules.terms_of (map expression_of l.part-iterator.rest.items)) ≡ rules.terms_of l.fn.parts;
  some : IsTrue (is_some (rules.terms_of (map expression_of l.part-iterator.rest.items)));
  counted : l.part-iterator.rest.len ≡ length l.part-iterator.rest.items;
}
