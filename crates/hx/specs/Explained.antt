-- When it can be explained why an entry of a log doesn't satisfy its query.
use Rattle.pi_tree.specs.Protocols.{protocol_of}
use Rattle.pi_tree.specs.Accessors.{IsThere}
use Rattle.pi_tree.specs.declared.accessors.Kind.TheVariants.{Query}
use Rattle.clause_instances.specs.Derivations.{HasNormedLog}
use Rattle.query_verify.specs.Asked.{IsNeverLarge}
use Rattle.hx.specs.declared.reason.Unmet.{Unmet}
use Rattle.hx.specs.Readable.{IsReadable}

-- the query is there, no visit is too large, and the clauses of the log are norms within the limit
pub record CanExplain (unmet : Unmet) : Type 0 where
  pub readable : IsReadable (protocol_of unmet.setting.protocol.now)
  pub there : IsThere (protocol_of unmet.setting.protocol.now) Query unmet.query
  pub small : IsNeverLarge (protocol_of unmet.setting.protocol.now)
  pub normed : HasNormedLog unmet.log.now
