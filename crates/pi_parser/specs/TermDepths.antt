-- Sketched terms are deeper than their arguments.
use Rattle.std.specs.Prelude.{◌≤◌, max, List, [], ◌∷◌, map}
use Rattle.std.proofs.Common.{arith}
use denote.Param.Weighed.{most}
use Rattle.spec_protocol_grammar.specs.Sketch.{terms_sketch}
use Rattle.pi_parser.specs.Codes.{term_depth, terms_depth}
use Rattle.pi_parser.specs.declared.sketch.TermSketch.{TermSketch}
use Rattle.pi_parser.specs.declared.sketch.TermSketch.TheVariants.{Named, Grouped}
use Rattle.pi_parser.specs.declared.sketch.TermsSketch.TheDeep.{deep-TermSketch}
use Rattle.pi_parser.specs.Terms.{term_of}

pub deep_le-depth : (t : TermSketch) → deep-TermSketch t ≤ term_depth (term_of t)
deep_le-depth (Named n ts) = omega arith
deep_le-depth (Grouped n ts) = omega arith

-- none of a row is deeper than the row
pub terms_fall : (ts : List TermSketch) → max (most deep-TermSketch ts) 0 ≤ terms_depth (terms_sketch (map term_of ts))
terms_fall [] = omega arith
terms_fall (t ∷ ts) = omega (arith, deep_le-depth t, terms_fall ts)
