-- A certificate that is found is one of the query, with what is said of it.
use Rattle.std.proofs.Common.{ℕ, Option, List, sym, subst}
use Rattle.query_derive.specs.GoalRows.{OfQuery}
use Rattle.certificate_search.specs.declared.found.Found.{Found}
use Rattle.certificate_search.specs.Searched.{protocol_at, Certifies, IsProvenFound}
use Rattle.hx.proofs.certifying.found_page.Goals as goal

pub report_page-requires-clause-certifies : goal.report_page-requires-clause-certifies
report_page-requires-clause-certifies c =
    let search = c.args.search.now in
    let proven = subst (λ (found : Found). IsProvenFound search found) c.in-Certificate.is c.requires.proven in
    subst (λ (said : List (Option ℕ)). OfQuery (protocol_at search) search.query (λ q. Certifies (protocol_at search) q c.in-Certificate.chosen.cert said)) (sym c.deref.ensures.value) proven
