-- Rows of patterns and of parts of expressions, of which the first are read already: one more is read.
use Rattle.std.proofs.Common.{◌≡◌, ℕ, ◌+◌, ◌<◌, List, [], ◌∷◌, ◌++◌, length, map, drop, get_or, Ok, Err, refl, sym, ap, ◌∙◌, arith, append_assoc}
use Rattle.spec_calculus.specs.Syntax as calculus
use Rattle.spec_protocol_grammar.specs.Sketch.{terms_sketch, patterns_sketch}
use Rattle.spec_protocol_scope.specs.Answers.{Answer, ◌>>=◌}
use Rattle.spec_protocol_scope.specs.Names.{Scope, Bound}
use Rattle.spec_protocol_scope.specs.Patterns as patterns
use Rattle.spec_protocol_scope.specs.Expressions as expressions
use Rattle.pi_parser.specs.declared.sketch.TermSketch.{TermSketch}
use Rattle.pi_parser.specs.declared.sketch.PatternSketch.{PatternSketch}
use Rattle.pi_parser.specs.Terms.{term_of as term_sketch_of}
use Rattle.pi_parser.specs.Patterns.{pattern_of as pattern_sketch_of}
use Rattle.pi_tree.specs.declared.syntax.Pat.{Pat}
use Rattle.pi_tree.specs.declared.expressions.Expr.{Expr}
use Rattle.pi_tree.specs.Patterns.{pattern_of}
use Rattle.pi_tree.specs.Expressions.{expression_of}
use Rattle.scope_declarations.proofs.Rows.{next_of, moved, seen}
use Rattle.scope_declarations.proofs.Steps.{joined, collected}

-- a row of patterns has as many as its list
pub patterns_seen : (ps : List PatternSketch) → length ps ≡ patterns.count (patterns_sketch (map pattern_sketch_of ps))
patterns_seen [] = refl
patterns_seen (p ∷ ps) = omega (arith, patterns_seen ps)

pub one_pattern_more : (s : Scope) (outer : List Bound) (first : ℕ) (before now : List Bound) (sketches : List PatternSketch) (i : ℕ) (sketch : PatternSketch) (items pushed : List Pat) (item : Pat) (whole : patterns.Binding (List calculus.Pattern))
    → i < length sketches → sketch ≡ get_or sketches i sketch → pushed ≡ items ++ item ∷ []
    → patterns.pattern s outer first before (pattern_sketch_of sketch) ≡ Ok (pattern_of item, now)
    → collected (map pattern_of items) (patterns.patterns s outer first before (patterns_sketch (map pattern_sketch_of (drop i sketches)))) ≡ whole
    → collected (map pattern_of pushed) (patterns.patterns s outer first now (patterns_sketch (map pattern_sketch_of (drop (i + 1) sketches)))) ≡ whole
one_pattern_more s outer first before now sketches i sketch items pushed item whole b is e read h =
    let rest : patterns.Binding (List calculus.Pattern) = patterns.patterns s outer first now (patterns_sketch (map pattern_sketch_of (drop (i + 1) sketches))) in
    ap (λ front. collected front rest) (seen pattern_of items pushed item e)
    ∙ (moved (map pattern_of items) (pattern_of item) rest
    ∙ (sym (ap (λ (a : patterns.Binding calculus.Pattern). collected (map pattern_of items) (a >>= λ one. patterns.patterns s outer first one.1 (patterns_sketch (map pattern_sketch_of (drop (i + 1) sketches))) >>= λ others. Ok (one.0 ∷ others.0, others.1))) read)
    ∙ (sym (ap (λ (us : List PatternSketch). collected (map pattern_of items) (patterns.patterns s outer first before (patterns_sketch (map pattern_sketch_of us)))) (next_of sketches i sketch b is))
    ∙ h)))

-- an item that the front takes over, where nothing else is collected
moved_on : {A : Type 0} (front : List A) (item : A) (rest : Answer (List A)) → joined (front ++ item ∷ []) rest ≡ joined front (rest >>= λ others. Ok (item ∷ others))
moved_on front item (Ok r) = ap (λ zs. Ok zs) (append_assoc front (item ∷ []) r)
moved_on front item (Err e) = refl

pub one_part_more : (s : Scope) (outer : List Bound) (sketches : List TermSketch) (i : ℕ) (sketch : TermSketch) (items pushed : List Expr) (item : Expr) (whole : Answer (List calculus.Expression))
    → i < length sketches → sketch ≡ get_or sketches i sketch → pushed ≡ items ++ item ∷ []
    → expressions.part s outer (term_sketch_of sketch) ≡ Ok (expression_of item)
    → joined (map expression_of items) (expressions.parts s outer (terms_sketch (map term_sketch_of (drop i sketches)))) ≡ whole
    → joined (map expression_of pushed) (expressions.parts s outer (terms_sketch (map term_sketch_of (drop (i + 1) sketches)))) ≡ whole
one_part_more s outer sketches i sketch items pushed item whole b is e read h =
    let rest : Answer (List calculus.Expression) = expressions.parts s outer (terms_sketch (map term_sketch_of (drop (i + 1) sketches))) in
    ap (λ front. joined front rest) (seen expression_of items pushed item e)
    ∙ (moved_on (map expression_of items) (expression_of item) rest
    ∙ (sym (ap (λ (a : Answer calculus.Expression). joined (map expression_of items) (a >>= λ first. rest >>= λ others. Ok (first ∷ others))) read)
    ∙ (sym (ap (λ (us : List TermSketch). joined (map expression_of items) (expressions.parts s outer (terms_sketch (map term_sketch_of us)))) (next_of sketches i sketch b is))
    ∙ h)))
