-- Known values that are listed by their keys.
use Rattle.std.proofs.Common.{◌≡◌, ℕ, ◌+◌, ◌<◌, true, List, [], ◌∷◌, ◌++◌, length, take, get_or, Option, Some, option_map, sym, ap, ◌∙◌, subst, arith}
use Rattle.std.proofs.lemmas.List.{take_more, length-take}
use Rattle.std.specs.List.{find}
use Rattle.spec_calculus.specs.Values.{Value, same_value}
use Rattle.spec_calculus.proofs.Equality.{same_value_is_equality}
use Rattle.held_entries.specs.Keys.{value_key}
use Rattle.fact_classes.specs.Classes.{listed, IsClassListed}
use Rattle.spec_attack_runs.specs.Compiling.{first_number}
use Rattle.attack_state.specs.declared.values.Known.{Known as MadeKnown}
use Rattle.attack_state.specs.Listing.{AreListed, passes_at}
use Rattle.attack_state.specs.States.{KnowsValues, KnowsSome}
use Rattle.attack_state.proofs.Listing.{listed-more, number_listed}

-- one more is listed
pub knows_more : (known : List Value) (old new : MadeKnown) (v : Value) → v ≡ get_or known old.count v → old.count < length known → new.count ≡ old.count + 1
    → IsClassListed (Some (value_key v)) old.count old.classes new.classes → KnowsSome known old → KnowsSome known new
knows_more known old new v is within counted more so_far =
    let at : take (old.count + 1) known ≡ take old.count known ++ v ∷ [] = take_more known old.count v within ∙ ap (λ (x : Value). take old.count known ++ x ∷ []) (sym is) in
    let front : old.count ≡ length (take old.count known) = omega (arith, length-take old.count known, within) in
    let next : AreListed value_key (take old.count known ++ v ∷ []) new.classes = listed-more value_key (take old.count known) v old.count old.classes new.classes front so_far.listed more in
    record {
      within = omega (arith, within, counted);
      listed = subst (λ (vs : List Value). AreListed value_key vs new.classes) (sym at ∙ ap (λ n. take n known) (sym counted)) next;
    }

-- a value is found in the class of its key
key-same : (v x : Value) → same_value v x ≡ true → value_key x ≡ value_key v
key-same v x e = ap value_key (sym ((same_value_is_equality v x).0 e))

value_listed : (known : List Value) (index : MadeKnown) (v : Value) → KnowsValues known index
    → first_number (same_value v) known ≡ option_map (λ (n : ℕ). n + 1) (find (passes_at (same_value v) known) (listed index.classes (Some (value_key v))))
value_listed known index v knows =
    number_listed (same_value v) value_key (value_key v) (key-same v) known ∙ ap (λ ns. option_map (λ (n : ℕ). n + 1) (find (passes_at (same_value v) known) ns)) (sym (knows.listed (value_key v)))

-- the first place of a value, by what is found among the numbers of its class
pub first_known : (known : List Value) (index : MadeKnown) (v : Value) → KnowsValues known index → (ns : List ℕ) → ns ≡ listed index.classes (Some (value_key v)) → (o : Option ℕ) → find (passes_at (same_value v) known) ns ≡ o
    → first_number (same_value v) known ≡ option_map (λ (n : ℕ). n + 1) o
first_known known index v knows ns is o e = value_listed known index v knows ∙ ap (option_map (λ (n : ℕ). n + 1)) (ap (find (passes_at (same_value v) known)) (sym is) ∙ e)
