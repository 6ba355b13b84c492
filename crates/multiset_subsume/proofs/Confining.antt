-- Facts that fit nowhere but in an area.
use Rattle.std.proofs.Common.{◌≡◌, ◌∙◌, ℕ, suc, ◌+◌, ◌<◌, ◌≤◌, Bool, true, false, cond, Some, List, [], ◌∷◌, ◌++◌, length, map, take, drop, get_or, refl, ap, sym, subst, arith, add-one, drop-cons, Bor}
use Rattle.std.proofs.lemmas.List.{map-append, take_more}
use Rattle.std.proofs.lemmas.Option.{slice_get_within}
use Rattle.spec_terms.specs.Term.{Term}
use Rattle.spec_terms.specs.Binding.{Binding}
use Rattle.spec_clauses.specs.Fact as horn
use Rattle.term_tree.specs.declared.bank.Id.{Id}
use Rattle.unify_match.specs.declared.bound.Bound.{Bound}
use Rattle.unify_match.specs.Seen.{seen}
use Rattle.clause_form.specs.declared.facts.Fact.{Fact}
use Rattle.clause_form.specs.Seen.{fact_at}
use Rattle.spec_placements.specs.Crowds.{room, IsConfined, AreConfined}
use Rattle.spec_placements.proofs.Crowding.{confined_more, confined_same}
use Rattle.fact_placing.specs.Boards.{facts_at, CannotPut}
use Rattle.fact_placing.proofs.Listing.{unref}

-- a fact that can be put at no position outside of the area
pub confined_by : (all : List Term) (hyps : List (horn.Fact Id)) (pairs : List Bound) (taken area : List Bool) (fact : horn.Fact Id) (n : ℕ) → length (facts_at all hyps) ≤ n
    → ((q : ℕ) → q < n → get_or area q false ≡ false → CannotPut all hyps pairs taken fact q) → IsConfined (seen all pairs) taken (facts_at all hyps) area (fact_at all fact)
confined_by all hyps pairs taken area fact n past never p free outside h stands s agrees same =
    let within = slice_get_within (facts_at all hyps) p h stands in
    never p (omega arith) outside s agrees free (stands ∙ ap Some (sym same))

-- one fact more, which is confined or not
pub confined_next : (bs : List Binding) (taken : List Bool) (hs facts : List (horn.Fact Term)) (area : List Bool) (n : ℕ) (fact : horn.Fact Term) (b : Bool) → (b ≡ true → IsConfined bs taken hs area fact) → AreConfined bs taken hs area facts n → AreConfined bs taken hs area (facts ++ fact ∷ []) (n + cond b 1 0)
confined_next bs taken hs facts area n fact true one so_far = confined_more bs taken hs area facts n fact so_far (one refl)
confined_next bs taken hs facts area n fact false one so_far = subst (λ (k : ℕ). AreConfined bs taken hs area (facts ++ fact ∷ []) k) (omega arith) (confined_same bs taken hs area facts n fact so_far)

-- the room of an area, from the position at i on
pub room_at : (area : List Bool) (i count : ℕ) → i < length area → count + room (drop i area) ≡ room area → (count + cond (get_or area i false) 1 0) + room (drop (i + 1) area) ≡ room area
room_at area i count within so_far =
    let here : room (drop i area) ≡ cond (get_or area i false) 1 0 + room (drop (suc i) area) = ap room (drop-cons area i false within) in
    let same : room (drop (i + 1) area) ≡ room (drop (suc i) area) = ap (λ (n : ℕ). room (drop n area)) (add-one i) in
    omega (arith, so_far, here, same)

-- and one item more
pub confined_on : (all : List Term) (hyps : List (horn.Fact Id)) (pairs : List Bound) (taken area : List Bool) (facts : List (Bor Fact)) (i n m : ℕ) (f : Bor Fact) (b : Bool) → i < length facts → f ≡ get_or facts i f → (b ≡ true → IsConfined (seen all pairs) taken (facts_at all hyps) area (fact_at all (unref f))) → m ≡ cond b 1 0
    → AreConfined (seen all pairs) taken (facts_at all hyps) area (facts_at all (map unref (take i facts))) n → AreConfined (seen all pairs) taken (facts_at all hyps) area (facts_at all (map unref (take (i + 1) facts))) (n + m)
confined_on all hyps pairs taken area facts i n m f b within is one count so_far =
    let more : facts_at all (map unref (take (i + 1) facts)) ≡ facts_at all (map unref (take i facts)) ++ fact_at all (unref f) ∷ [] =
    ap (λ (fs : List (Bor Fact)). facts_at all (map unref fs)) (take_more facts i f within)
    ∙ (ap (facts_at all) (map-append unref (take i facts) (get_or facts i f ∷ []))
    ∙ (map-append (fact_at all) (map unref (take i facts)) (unref (get_or facts i f) ∷ [])
    ∙ ap (λ (h : Bor Fact). facts_at all (map unref (take i facts)) ++ fact_at all (unref h) ∷ []) (sym is))) in
    let next = confined_next (seen all pairs) taken (facts_at all hyps) (facts_at all (map unref (take i facts))) area n (fact_at all (unref f)) b one so_far in
    subst (λ (fs : List (horn.Fact Term)). AreConfined (seen all pairs) taken (facts_at all hyps) area fs (n + m)) (sym more)
    (subst (λ (k : ℕ). AreConfined (seen all pairs) taken (facts_at all hyps) area (facts_at all (map unref (take i facts)) ++ fact_at all (unref f) ∷ []) (n + k)) (sym count) next)
