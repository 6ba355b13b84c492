-- What is bound, as contracts see it.
use Rattle.std.specs.Prelude.{◌≡◌, ℕ, List, [], ◌∷◌, ◌++◌, map, option_map}
use Rattle.std.specs.HashMap.{get_by}
use Rattle.std.specs.Str.{bytes_eq}
use Rattle.spec_calculus.specs.Syntax as calculus
use Rattle.spec_protocol_scope.specs.Names as own
use Rattle.scope_declarations.specs.Text.{texts_of, AreFew}
use Rattle.scope_declarations.specs.declared.source.Text.{Text}
use Rattle.scope_declarations.specs.declared.bound.BoundName.{BoundName}
use Rattle.scope_declarations.specs.declared.bound.BoundName.TheVariants.{Variable, Made}
use Rattle.scope_declarations.specs.declared.bound.Binding.{Binding}
use Rattle.scope_declarations.specs.declared.bound.Bindings.{Bindings}
use Rattle.scope_declarations.specs.declared.bound.Bound.{Bound}
use Rattle.scope_declarations.specs.declared.bound.Bound.TheVariants.{Nothing, One', Inside'}

-- what an identifier is bound to
abbrev pub name_of : BoundName → calculus.Name
name_of (Variable number) = calculus.Variable number
name_of (Made point) = calculus.Made point

abbrev pub binding_of : Binding → own.Bound
binding_of b = record { token = b.token; name = name_of b.name }

-- all that is bound, the innermost first
abbrev pub bound_of : Bound → List own.Bound
bound_of Nothing = []
bound_of (One' binding p outer) = binding_of binding ∷ bound_of outer
bound_of (Inside' bindings p outer) = map binding_of bindings.now.items.items ++ bound_of outer

-- the table tells what each identifier is bound to, and there are few of them
pub record FindsBindings (t : Text) (b : Bindings) : Type 0 where
  pub finds : (n : ℕ) → option_map name_of (get_by (λ k. bytes_eq (texts_of t n) k.items) b.names) ≡ own.bound_as (texts_of t) (map binding_of b.items.items) n
  pub few : AreFew t (map (λ b. b.token) b.items.items)

-- so do the tables of all that is bound
abbrev pub FindsBound : Text → Bound → Type 0
FindsBound t Nothing = Unit {0}
FindsBound t (One' binding p outer) = FindsBound t outer
FindsBound t (Inside' bindings p outer) = FindsBindings t bindings.now × FindsBound t outer
