-- A protocol that is spelled is within the limits, as the rules of scope leave it, and its names are told apart.
use Rattle.hx.proofs.loading.read.Goals as goal

pub returns-in-Ok-clause-readable : goal.returns-in-Ok-clause-readable
returns-in-Ok-clause-readable c =
    let spelled = c.in-Ok.ensures.read in
    record { limits = c.within_limits.ensures _ _ spelled; rules = c.proper_rules.ensures _ _ spelled; scoped = c.well_scoped.ensures _ _ spelled; queries = c.query_leaves.ensures _ _ spelled }

pub returns-in-Ok-clause-names : goal.returns-in-Ok-clause-names
returns-in-Ok-clause-names c = c.spelled_protocols_have_names.ensures _ _ c.in-Ok.ensures.read
