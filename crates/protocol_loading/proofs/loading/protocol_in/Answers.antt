-- A protocol that is spelled is as the rules of scope leave it.
use Rattle.protocol_loading.proofs.loading.protocol_in.Goals as goal

pub returns-in-Ok-clause-loaded : goal.returns-in-Ok-clause-loaded
returns-in-Ok-clause-loaded c =
    let spelled = c.in-Ok.ensures.spelled in
    record { limits = c.within_limits.ensures _ _ spelled; rules = c.proper_rules.ensures _ _ spelled; scoped = c.well_scoped.ensures _ _ spelled; queries = c.query_leaves.ensures _ _ spelled; names = c.spelled_protocols_have_names.ensures _ _ spelled }
