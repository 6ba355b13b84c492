-- Whose names words stand for.
use Rattle.spec_calculus.specs.Syntax.{Protocol}
use Rattle.pi_tree.specs.Protocols.{protocol_of}
use Rattle.term_reader.specs.declared.words.Names.{Names}

-- the protocol whose names these are
abbrev pub protocol_in : Names → Protocol
protocol_in names = protocol_of names.protocol.now
