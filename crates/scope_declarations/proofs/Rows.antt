-- Rows of terms, of which the first are read already: one more is read.
use Rattle.std.proofs.Common.{◌≡◌, ℕ, ◌+◌, ◌<◌, List, [], ◌∷◌, ◌++◌, length, map, drop, get_or, Ok, Err, refl, sym, ap, ◌∙◌, arith, append_assoc}
use Rattle.std.proofs.lemmas.List.{map-append, drop_more}
use Rattle.spec_trees.specs.Tree.{size, sizes, trees}
use Rattle.spec_calculus.specs.Syntax as calculus
use Rattle.spec_protocol_grammar.specs.Sketch.{terms_sketch}
use Rattle.spec_protocol_scope.specs.Answers.{Answer, ◌>>=◌}
use Rattle.spec_protocol_scope.specs.Names.{Scope}
use Rattle.spec_protocol_scope.specs.Terms as terms
use Rattle.pi_parser.specs.declared.sketch.TermSketch.{TermSketch}
use Rattle.pi_parser.specs.Terms.{term_of as term_sketch_of}
use Rattle.pi_tree.specs.declared.syntax.Term.{Term}
use Rattle.pi_tree.specs.Terms.{term_of}
use Rattle.scope_declarations.specs.Terms.{capped}
use Rattle.scope_declarations.proofs.Steps.{collected, sizes_seen}

-- from here on, an item and those behind it
pub next_of : {X : Type 0} (xs : List X) (i : ℕ) (x : X) → i < length xs → x ≡ get_or xs i x → drop i xs ≡ x ∷ drop (i + 1) xs
next_of xs i x b is = drop_more xs i x b ∙ ap (λ y. y ∷ drop (i + 1) xs) (sym is)

-- an item that the front takes over
pub moved : {A B : Type 0} (front : List A) (item : A) (rest : Answer (List A × B))
    → collected (front ++ item ∷ []) rest ≡ collected front (rest >>= λ others. Ok (item ∷ others.0, others.1))
moved front item (Ok r) = ap (λ zs. Ok (zs, r.1)) (append_assoc front (item ∷ []) r.0)
moved front item (Err e) = refl

-- the list that was pushed on, as contracts see it
pub seen : {X A : Type 0} (view : X → A) (xs now : List X) (x : X) → now ≡ xs ++ x ∷ [] → map view now ≡ map view xs ++ view x ∷ []
seen view xs now x e = ap (map view) e ∙ map-append view xs (x ∷ [])

pub one_term_more : (s : Scope) (setting : terms.Setting) (before now : List ℕ) (sketches : List TermSketch) (i : ℕ) (sketch : TermSketch) (items pushed : List Term) (item : Term) (whole : terms.Reading (List calculus.Term))
    → i < length sketches → sketch ≡ get_or sketches i sketch → pushed ≡ items ++ item ∷ []
    → terms.term s setting before (term_sketch_of sketch) ≡ Ok (term_of item, now)
    → collected (map term_of items) (terms.terms s setting before (terms_sketch (map term_sketch_of (drop i sketches)))) ≡ whole
    → collected (map term_of pushed) (terms.terms s setting now (terms_sketch (map term_sketch_of (drop (i + 1) sketches)))) ≡ whole
one_term_more s setting before now sketches i sketch items pushed item whole b is e read h =
    let rest : terms.Reading (List calculus.Term) = terms.terms s setting now (terms_sketch (map term_sketch_of (drop (i + 1) sketches))) in
    ap (λ front. collected front rest) (seen term_of items pushed item e)
    ∙ (moved (map term_of items) (term_of item) rest
    ∙ (sym (ap (λ (a : terms.Reading calculus.Term). collected (map term_of items) (a >>= λ first. terms.terms s setting first.1 (terms_sketch (map term_sketch_of (drop (i + 1) sketches))) >>= λ others. Ok (first.0 ∷ others.0, others.1))) read)
    ∙ (sym (ap (λ (us : List TermSketch). collected (map term_of items) (terms.terms s setting before (terms_sketch (map term_sketch_of us)))) (next_of sketches i sketch b is))
    ∙ h)))

-- the symbols of one more
pub counted_more : (items pushed : List Term) (item : Term) (before more now : ℕ) → pushed ≡ items ++ item ∷ [] → before ≡ capped (sizes (trees (map term_of items))) → more ≡ capped (size (term_of item))
    → now ≡ capped (before + more) → now ≡ capped (sizes (trees (map term_of pushed)))
counted_more items pushed item before more now e b m n = let total = ap (λ (ts : List Term). sizes (trees (map term_of ts))) e in omega (arith, total, sizes_seen items item, b, m, n)
