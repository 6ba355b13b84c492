-- What is added to a list of sources.
use Rattle.std.specs.Prelude.{◌≡◌, ℕ, List, ◌++◌, cond, Option, Some, None, is_some, flat_map, filter_map}
use Rattle.std.specs.List.{enumerate_from}
use Rattle.spec_terms.specs.Term.{Term}
use Rattle.spec_clauses.specs.Fact.{Clause}
use Rattle.spec_clauses.specs.Norm.{norm}
use Rattle.spec_attack_runs.specs.Source.{Source, sources_of}
use Rattle.spec_attack_runs.specs.Gathered.{Deed}

-- the number of a part that says something
abbrev pub told_number : ℕ × Clause Term → Option ℕ
told_number (number, part) = cond (is_some (norm part)) (Some number) None

abbrev pub told_numbers : List (Clause Term) → List ℕ
told_numbers parts = filter_map told_number (enumerate_from 1 parts)

-- the sources of these raw clauses stand behind the earlier ones
abbrev pub Tells : List Source → List Source → List Deed → Type 0
Tells before after deeds = after ≡ before ++ flat_map (λ deed. sources_of deed.0 deed.1) deeds
