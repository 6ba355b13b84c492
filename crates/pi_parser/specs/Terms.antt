-- What contracts see of a sketched term.
use Rattle.std.specs.Prelude.{List}
use Rattle.spec_protocol_grammar.specs.Sketch as own
use Rattle.pi_parser.specs.declared.sketch.TermSketch.{TermSketch}
use Rattle.pi_parser.specs.declared.sketch.TermSketch.TheVariants.{Named, Grouped}
use Rattle.pi_parser.specs.declared.sketch.AtomSketch.{AtomSketch}

abbrev pub term_of : TermSketch → own.TermSketch
term_of (Named n ts) = own.Named n (own.terms_sketch ts)
term_of (Grouped n ts) = own.Grouped n (own.terms_sketch ts)

abbrev pub atom_of : AtomSketch → own.AtomSketch
atom_of a = record { first = a.first; arguments = own.terms_sketch a.arguments }

-- a row of terms is seen as its list
abbrev pub terms_of : List own.TermSketch → List own.TermSketch
terms_of ts = ts
