-- Where facts may stand in clauses: `bad` is what a goal concludes, and `mev` what is supposed alone.
use Rattle.std.specs.Prelude.{◌≡◌, Bool, true, false}
use Rattle.std.specs.List.{list_all}
use Rattle.spec_terms.specs.Term.{Term}
use Rattle.spec_clauses.specs.Fact.{Fact, Mev, Bad, Clause}

-- whether a fact may stand among hypotheses
abbrev pub may_be_supposed : Fact Term → Bool
may_be_supposed (Bad ts) = false
may_be_supposed _ = true

-- whether a fact may stand in a conclusion
abbrev pub may_be_concluded : Fact Term → Bool
may_be_concluded (Mev e ts) = false
may_be_concluded _ = true

-- each fact of the clause stands where it may
pub record IsWellPlaced (c : Clause Term) : Type 0 where
  pub hypotheses : list_all may_be_supposed c.hypotheses ≡ true
  pub conclusion : may_be_concluded c.conclusion ≡ true
