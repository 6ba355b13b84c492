use Rattle.spec_certificates.specs.Announcing.{announced, announcing, eight_clauses, nine_clauses}
use Rattle.spec_certificates.specs.Example.{kept_key, encrypting, eight}
use Rattle.spec_certificates.specs.Remembering.{kept_secret, remembering, seven}
use Rattle.spec_soundness.proofs.certified_queries_hold.Goals as goal

pub returns-clause-secret : goal.returns-clause-secret
returns-clause-secret c = let it = c.a_key_is_certified.ensures in c.queries_hold.ensures encrypting kept_key eight eight it.proper it.shown

pub returns-clause-correspondence : goal.returns-clause-correspondence
returns-clause-correspondence c =
    let it = c.names_are_certified.ensures in
    c.queries_hold.ensures announcing announced eight_clauses nine_clauses it.proper it.shown

pub returns-clause-otherwise : goal.returns-clause-otherwise
returns-clause-otherwise c = let it = c.an_else_branch_is_certified.ensures in c.queries_hold.ensures remembering kept_secret seven seven it.proper it.shown
