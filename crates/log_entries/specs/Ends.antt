-- The terms with which conclusions end, and the entries that end with each.
use Rattle.std.specs.Prelude.{◌≡◌, ℕ, suc, ◌-◌, ◌<◌, cond, Option, Some, None, List, length, map, get_or, slice_get}
use Rattle.spec_terms.specs.Term.{Term, is_ground}
use Rattle.spec_calculus.specs.Points.{numbered}
use Rattle.spec_clauses.specs.Fact.{Fact, terms_of}
use Rattle.term_tree.specs.Bank.{tree_at}
use Rattle.term_tree.specs.declared.bank.Id.{Id}
use Rattle.log_entries.specs.declared.log.Entry.{Entry}
use Rattle.log_entries.specs.Beating.{clauses_of}
use Rattle.clause_form.specs.Seen.{IdClause}

-- the last term of a fact, if it has terms
abbrev pub last_term : {X : Type 0} → Fact X → Option X
last_term f = slice_get (terms_of f) (length (terms_of f) - 1)

-- the id, if it names a closed term
abbrev pub if_closed : List Term → Option Id → Option Id
if_closed all None = None
if_closed all (Some id) = cond (is_ground (tree_at all id)) (Some id) None

-- the id with which a clause's conclusion ends, if it names a closed term
abbrev pub closed_end_of : List Term → IdClause → Option Id
closed_end_of all c = if_closed all (last_term c.conclusion)

-- the ids with which the conclusions of entries end
abbrev pub ends_of : List Entry → List (Option Id)
ends_of entries = map (λ c. last_term c.conclusion) (clauses_of entries)

-- the greatest number below a bound of an entry that ends with the id, if there is one
abbrev pub IsLastBefore : List (Option Id) → Id → ℕ → Option ℕ → Type 0
IsLastBefore ends id bound None = (number : ℕ) → number < bound → numbered ends number ≡ Some (Some id) → ⊥
IsLastBefore ends id bound (Some last) = (last < bound) × (numbered ends last ≡ Some (Some id))
    × ((number : ℕ) → last < number → number < bound → numbered ends number ≡ Some (Some id) → ⊥)

-- for each id the last entry that ends with it, and for each entry the last one before it that ends as it does
pub record AreChained (ends : List (Option Id)) (lasts befores : List (Option ℕ)) : Type 0 where
  pub last : (id : Id) → IsLastBefore ends id (suc (length ends)) (get_or lasts id.index None)
  pub before : (number : ℕ) (id : Id) → numbered ends number ≡ Some (Some id) → IsLastBefore ends id number (get_or befores (number - 1) None)
  pub long : length befores ≡ length ends
