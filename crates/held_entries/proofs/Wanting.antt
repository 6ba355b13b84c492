-- What a `get` asks of an entry, from what its patterns bind.
use Rattle.std.proofs.Common.{◌≡◌, Bool, true, false, cond, List, [], ◌++◌, Option, None, Some, option_and_then, option_map, sym, ap, ◌∙◌}
use Rattle.std.specs.List.{list_any}
use Rattle.std.specs.Option.{option_map_or}
use Rattle.spec_calculus.specs.Syntax.{Condition}
use Rattle.spec_calculus.specs.Values.{Value, Environment}
use Rattle.spec_calculus.specs.Limits.{is_large}
use Rattle.spec_calculus.specs.Tables.{if_met, meets}

module _ (s : Environment) (condition : Condition) where
  -- what a thread goes on with, where it takes the entry
  abbrev whole : Option Environment → Option Environment
  whole o = option_map (λ bs. s ++ bs) (option_and_then (if_met s condition) o)

  pub taken-none : (o : Option Environment) → o ≡ None → None ≡ option_map (λ bs. s ++ bs) (option_and_then (if_met s condition) o)
  taken-none o unmatched = ap whole (sym unmatched)

  pub taken-met : (bs : Environment) (o : Option Environment) → o ≡ Some bs → true ≡ meets (s ++ bs) condition → Some (s ++ bs) ≡ option_map (λ found. s ++ found) (option_and_then (if_met s condition) o)
  taken-met bs o found met = ap (λ b. option_map (λ xs. s ++ xs) (cond b (Some bs) None)) met ∙ ap whole (sym found)

  pub taken-unmet : (bs : Environment) (o : Option Environment) → o ≡ Some bs → false ≡ meets (s ++ bs) condition → None ≡ option_map (λ found. s ++ found) (option_and_then (if_met s condition) o)
  taken-unmet bs o found unmet = ap (λ b. option_map (λ xs. s ++ xs) (cond b (Some bs) None)) unmet ∙ ap whole (sym found)

-- whether the value of one of the condition's terms is large with it
pub large-none : (f : Environment → List Value) (o : Option Environment) → o ≡ None → false ≡ list_any is_large (option_map_or f o [])
large-none f o unmatched = ap (λ p. list_any is_large (option_map_or f p [])) (sym unmatched)

pub large-some : (f : Environment → List Value) (bs : Environment) (o : Option Environment) (b : Bool) → o ≡ Some bs → b ≡ list_any is_large (f bs) → b ≡ list_any is_large (option_map_or f o [])
large-some f bs o b found large = large ∙ ap (λ p. list_any is_large (option_map_or f p [])) (sym found)

pub ruleset of_wanting = (taken-none, taken-met, taken-unmet, large-none, large-some)
