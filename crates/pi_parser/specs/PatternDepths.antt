-- Sketched patterns are deeper than their arguments.
use Rattle.std.specs.Prelude.{◌≤◌, max, List, [], ◌∷◌, map}
use Rattle.std.proofs.Common.{arith}
use denote.Param.Weighed.{most}
use Rattle.spec_protocol_grammar.specs.Sketch.{patterns_sketch}
use Rattle.pi_parser.specs.Codes.{pattern_depth, patterns_depth}
use Rattle.pi_parser.specs.declared.sketch.PatternSketch.{PatternSketch}
use Rattle.pi_parser.specs.declared.sketch.PatternSketch.TheVariants.{Named, Equal, Grouped}
use Rattle.pi_parser.specs.declared.sketch.PatternsSketch.TheDeep.{deep-PatternSketch}
use Rattle.pi_parser.specs.Patterns.{pattern_of}

pub deep_le-depth : (p : PatternSketch) → deep-PatternSketch p ≤ pattern_depth (pattern_of p)
deep_le-depth (Named n ps) = omega arith
deep_le-depth (Equal n t) = omega arith
deep_le-depth (Grouped n ps) = omega arith

-- none of a row is deeper than the row
pub patterns_fall : (ps : List PatternSketch) → max (most deep-PatternSketch ps) 0 ≤ patterns_depth (patterns_sketch (map pattern_of ps))
patterns_fall [] = omega arith
patterns_fall (p ∷ ps) = omega (arith, deep_le-depth p, patterns_fall ps)
