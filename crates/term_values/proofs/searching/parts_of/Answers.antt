use Rattle.std.proofs.Common.{sym, ap, ◌∙◌}
use Rattle.spec_trees.proofs.Rows.{node-injective}
use Rattle.pi_tree.specs.Values.{value_of}
use Rattle.term_values.proofs.searching.parts_of.Goals as goal

pub returns-in-App : goal.returns-in-App
returns-in-App c = λ f vs e. (node-injective _ f c.in-App.arguments vs (sym (ap value_of c.in-App.is) ∙ e)).1

pub returns-in-Tuple : goal.returns-in-Tuple
returns-in-Tuple c = λ f vs e. (node-injective _ f c.in-Tuple.parts vs (sym (ap value_of c.in-Tuple.is) ∙ e)).1
