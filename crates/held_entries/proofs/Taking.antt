-- What a `get` asks of an entry of its own table or of another.
use Rattle.std.proofs.Common.{◌≡◌, ◌≢◌, ℕ, Bool, false, ◌||◌, cond, List, [], ◌∷◌, ◌++◌, Option, None, Some, is_some, option_and_then, option_map, refl, sym, ap, ◌∙◌}
use Rattle.std.proofs.lemmas.Bool.{eq-eqb, ne_eqb}
use Rattle.std.specs.List.{list_any, flat_map}
use Rattle.std.specs.Option.{option_map_or}
use Rattle.spec_calculus.specs.Syntax.{Pattern, Condition}
use Rattle.spec_calculus.specs.Values.{Value, Environment, values_of}
use Rattle.spec_calculus.specs.Matching.{matched}
use Rattle.spec_calculus.specs.Limits.{is_large, asked}
use Rattle.spec_calculus.specs.Tables.{Held, row_pattern, row_value, sides, if_met, matched_entry}
use Rattle.term_values.proofs.Room.{any-append}

module _ (s : Environment) (table : ℕ) (patterns : List Pattern) (condition : Condition) (held : Held) where
  abbrev row : Option Environment
  row = matched s (row_pattern patterns) (row_value held.arguments)

  abbrev whole : Option Environment → Option Environment
  whole o = option_map (λ bs. s ++ bs) (option_and_then (if_met s condition) o)

  abbrev large : Option Environment → Bool
  large o = list_any is_large (option_map_or (λ bs. values_of (s ++ bs) (sides condition)) o [])

  -- an entry of the table
  pub taken-own : (o : Option Environment) → held.table ≡ table → o ≡ option_map (λ bs. s ++ bs) (option_and_then (if_met s condition) (matched s (row_pattern patterns) (row_value held.arguments))) → o ≡ option_map (λ bs. s ++ bs) (matched_entry s table patterns condition held)
  taken-own o own h = h ∙ sym (ap (λ same. whole (cond same row None)) (eq-eqb held.table table own))

  pub asked-own : (b : Bool) → held.table ≡ table → b ≡ list_any is_large (option_map_or (λ bs. values_of (s ++ bs) (sides condition)) (matched s (row_pattern patterns) (row_value held.arguments)) []) → b ≡ list_any is_large (asked s table patterns condition held)
  asked-own b own h = h ∙ sym (ap (λ same. large (cond same row None)) (eq-eqb held.table table own))

  -- and of another
  pub taken-other : held.table ≢ table → None ≡ option_map (λ bs. s ++ bs) (matched_entry s table patterns condition held)
  taken-other other = sym (ap (λ same. whole (cond same row None)) (ne_eqb held.table table other))

  pub asked-other : held.table ≢ table → false ≡ list_any is_large (asked s table patterns condition held)
  asked-other other = sym (ap (λ same. large (cond same row None)) (ne_eqb held.table table other))

-- a large value with the first entry or with a later one
pub large-first : {A : Type 0} (f : A → List Value) (x : A) (xs : List A) → list_any is_large (flat_map f (x ∷ xs)) ≡ (list_any is_large (f x) || list_any is_large (flat_map f xs))
large-first f x xs = any-append is_large (f x) (flat_map f xs)

-- there is something where it is extended
pub some-extended : (s : Environment) (o : Option Environment) → is_some (option_map (λ bs. s ++ bs) o) ≡ is_some o
some-extended s None = refl
some-extended s (Some bs) = refl

pub ruleset of_taking = (taken-own, asked-own, taken-other, asked-other, large-first, some-extended)
