-- Tables that tell of which facts one stands among others.
use Rattle.std.specs.Prelude.{◌≡◌, ℕ, false, nat_eq, None, List, map}
use Rattle.std.specs.HashMap.{HashMap, get}
use Rattle.std.specs.declared.hash.BuildHasherDefault.{BuildHasherDefault}
use Rattle.std.specs.declared.hash.FoldHasher.{FoldHasher}
use Rattle.spec_terms.specs.Term.{Term}
use Rattle.spec_clauses.specs.Fact.{Fact, is_among}
use Rattle.term_tree.specs.declared.bank.Id.{Id}
use Rattle.clause_form.specs.Keys.{fact_key}
use Rattle.clause_form.specs.Seen.{fact_at}

-- where the table has nothing for a fact's key, the fact isn't among these
abbrev pub HaveKeys : List Term → List (Fact Id) → HashMap ℕ ℕ (BuildHasherDefault FoldHasher) → Type 0
HaveKeys all facts table = (f : Fact Term) → get nat_eq table (fact_key f) ≡ None → is_among (map (fact_at all) facts) f ≡ false
