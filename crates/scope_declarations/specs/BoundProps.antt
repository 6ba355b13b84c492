-- That what is bound is found has one proof at most.
use mathlib.Core.HLevel.{Unit-prop}
use Rattle.scope_declarations.specs.declared.bound.Bound.{Bound}
use Rattle.scope_declarations.specs.declared.bound.Bound.TheVariants.{Nothing, One', Inside'}
use Rattle.scope_declarations.specs.declared.source.Text.{Text}
use Rattle.scope_declarations.specs.Bound.{FindsBound}
use Rattle.scope_declarations.specs.Props.{scope_props}

pub FindsBound-prop : (t : Text) (b : Bound) → IsProp (FindsBound t b)
FindsBound-prop t Nothing = Unit-prop
FindsBound-prop t (One' binding p outer) = FindsBound-prop t outer
FindsBound-prop t (Inside' bindings p outer) = let further : IsProp (FindsBound t outer) = FindsBound-prop t outer in Prim.hlevel (further, scope_props)

pub ruleset bound_props = (FindsBound-prop, scope_props)
