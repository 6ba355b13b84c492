-- What contracts see of a sketched pattern.
use Rattle.std.specs.Prelude.{List}
use Rattle.spec_protocol_grammar.specs.Sketch as own
use Rattle.pi_parser.specs.declared.sketch.PatternSketch.{PatternSketch}
use Rattle.pi_parser.specs.declared.sketch.PatternSketch.TheVariants.{Named, Equal, Grouped}
use Rattle.pi_parser.specs.Terms.{term_of}

abbrev pub pattern_of : PatternSketch → own.PatternSketch
pattern_of (Named n ps) = own.NamedPattern n (own.patterns_sketch ps)
pattern_of (Equal n t) = own.Equal n (term_of t)
pattern_of (Grouped n ps) = own.GroupedPattern n (own.patterns_sketch ps)

-- a row of patterns is seen as its list
abbrev pub patterns_of : List own.PatternSketch → List own.PatternSketch
patterns_of ps = ps
