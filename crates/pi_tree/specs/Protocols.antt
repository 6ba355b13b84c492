-- What contracts see of a protocol.
use Rattle.spec_calculus.specs.Syntax as calculus
use Rattle.pi_tree.specs.declared.protocols.Protocol.{Protocol}
use Rattle.pi_tree.specs.Processes.{process_of}

abbrev pub protocol_of : Protocol → calculus.Protocol
protocol_of P = record {
  frees = P.frees;
  constructors = P.ctors;
  destructors = P.dtors;
  events = P.events;
  tables = P.tables;
  queries = P.queries;
  main = process_of P.main;
}
