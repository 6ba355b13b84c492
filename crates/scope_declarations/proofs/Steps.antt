-- What loops come to: lists of which the first items are found already, and counts.
use Rattle.std.proofs.Common.{◌≡◌, ℕ, ◌+◌, ◌*◌, ◌-◌, List, [], ◌∷◌, ◌++◌, length, map, Ok, refl, arith}
use Rattle.std.proofs.lemmas.List.Sums.{fold-append}
use Rattle.spec_trees.specs.Tree.{trees, size, sizes}
use Rattle.spec_protocol_grammar.specs.Sketch.{terms_sketch}
use Rattle.pi_parser.specs.declared.sketch.TermSketch.{TermSketch as Sketched}
use Rattle.pi_parser.specs.Terms.{term_of as sketch_of}
use Rattle.pi_tree.specs.declared.syntax.Term.{Term}
use Rattle.pi_tree.specs.Terms.{term_of}
use Rattle.spec_protocol_scope.specs.Answers.{Answer, ◌>>=◌}
use Rattle.spec_protocol_scope.specs.Names.{decimal}
use Rattle.spec_protocol_scope.specs.Terms as terms

-- these items, and then those of the answer
abbrev pub joined : {A : Type 0} → List A → Answer (List A) → Answer (List A)
joined front rest = rest >>= λ xs. Ok (front ++ xs)

-- these items, and then those of the answer, with what was collected on the way
abbrev pub collected : {A B : Type 0} → List A → Answer (List A × B) → Answer (List A × B)
collected front rest = rest >>= λ r. Ok (front ++ r.0, r.1)

-- one digit more
pub decimal_snoc : (ds : List ℕ) (d : ℕ) → decimal (ds ++ d ∷ []) ≡ 10 * decimal ds + (d - 48)
decimal_snoc ds d = fold-append (λ (number digit : ℕ). 10 * number + (digit - 48)) 0 ds (d ∷ [])

-- a row has as many as its list
pub count_seen : (ts : List Sketched) → length ts ≡ terms.count (terms_sketch (map sketch_of ts))
count_seen [] = refl
count_seen (t ∷ ts) = omega (arith, count_seen ts)

-- the size of a row with one more
pub sizes_seen : (ts : List Term) (t : Term) → sizes (trees (map term_of (ts ++ t ∷ []))) ≡ sizes (trees (map term_of ts)) + size (term_of t)
sizes_seen [] t = omega arith
sizes_seen (u ∷ ts) t = omega (arith, sizes_seen ts t)
