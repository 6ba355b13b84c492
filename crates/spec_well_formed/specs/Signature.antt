-- Signatures: what a protocol declares, apart from its queries and its process.
use Rattle.std.specs.Prelude.{List}
use Rattle.spec_calculus.specs.Syntax.{Declared, Destructor, Protocol}

pub record Signature : Type 0 where
  pub frees : List Declared
  pub constructors : List Declared
  pub destructors : List Destructor
  pub events : List Declared
  pub tables : List Declared

abbrev pub signature_of : Protocol → Signature
signature_of P = record { frees = P.frees; constructors = P.constructors; destructors = P.destructors; events = P.events; tables = P.tables }
