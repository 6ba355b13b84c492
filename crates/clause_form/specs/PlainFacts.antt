-- What contracts see of facts over owned trees.
use Rattle.spec_terms.specs.Term.{Term}
use Rattle.spec_clauses.specs.Fact as horn
use Rattle.clause_diffs.specs.Plain.{term_of}
use Rattle.clause_form.specs.declared.plain.PlainFact.{PlainFact}
use Rattle.clause_form.specs.declared.plain.PlainFact.TheVariants.{Att, Mess, Tab, Ev, Mev, Bad}

abbrev pub plain_fact_of : PlainFact → horn.Fact Term
plain_fact_of (Att k t) = horn.Att k (term_of t)
plain_fact_of (Mess k t u) = horn.Mess k (term_of t) (term_of u)
plain_fact_of (Tab n ts) = horn.Tab n ts
plain_fact_of (Ev e ts) = horn.Ev e ts
plain_fact_of (Mev e ts) = horn.Mev e ts
plain_fact_of (Bad ts) = horn.Bad ts
