-- What contracts see of a query.
use Rattle.spec_calculus.specs.Syntax as calculus
use Rattle.pi_tree.specs.declared.protocols.Query.{Query}
use Rattle.pi_tree.specs.declared.protocols.Query.TheVariants.{Secret, SecretNew, Corr}
use Rattle.pi_tree.specs.Terms.{term_of}
use Rattle.pi_tree.specs.Events.{event_of}

abbrev pub query_of : Query → calculus.Query
query_of (Secret message phase) = calculus.Secret (term_of message) phase
query_of (SecretNew point phase) = calculus.SecretNew point phase
query_of (Corr left alternatives) = calculus.Correspondence (event_of left) alternatives
