-- The variables of a rule or query, as contracts see them.
use Rattle.std.specs.Prelude.{◌≡◌, ℕ}
use Rattle.std.specs.HashMap.{get_by}
use Rattle.std.specs.Str.{bytes_eq}
use Rattle.spec_protocol_scope.specs.Names as own
use Rattle.scope_declarations.specs.Text.{texts_of, AreFew}
use Rattle.scope_declarations.specs.declared.source.Text.{Text}
use Rattle.scope_declarations.specs.declared.variables.Variables.{Variables}

-- the table tells the number of each variable, and there are few of them
pub record FindsVariables (t : Text) (v : Variables) : Type 0 where
  pub finds : (n : ℕ) → get_by (λ k. bytes_eq (texts_of t n) k.items) v.numbers ≡ own.variable_of (texts_of t) v.items.items n
  pub few : AreFew t v.items.items
