-- What a loop over hypotheses has found so far.
use Rattle.std.proofs.Common.{◌≡◌, ℕ, ◌+◌, ◌<◌, ◌≤◌, Bool, true, false, not, cond, List, [], ◌∷◌, ◌++◌, length, map, drop, get_or, refl, ap, sym, ◌∙◌, subst, append-nil, append_assoc, Bor, Option, Some, None}
use Rattle.std.specs.Prelude.{filter}
use Rattle.std.specs.List.{cons_option}
use Rattle.std.proofs.lemmas.List.{map-append}
use Rattle.std.proofs.lemmas.Simd.{map-map}
use Rattle.spec_terms.specs.Term.{Term}
use Rattle.spec_clauses.specs.Fact as horn
use Rattle.spec_clauses.specs.Fact.{is_variable_known}
use Rattle.spec_clauses.specs.Subsumption.{firm}
use Rattle.term_tree.specs.declared.bank.Id.{Id}
use Rattle.clause_form.specs.declared.facts.Fact.{Fact}
use Rattle.clause_form.specs.Facts.{fact_of}
use Rattle.clause_form.specs.Seen.{fact_at, IsFactIn, AreFactsIn, NameFacts}
use Rattle.clause_form.proofs.Comparing.{map_drop, map_dropped}
use Rattle.clause_form.proofs.Flattening.{AreFactsIn-append}
use Rattle.spec_placements.specs.Placing as placing
use Rattle.spec_placements.specs.Placing.{known_variable, loose_variables}
use Rattle.fact_placing.specs.declared.board.Loose.{Loose}
use Rattle.fact_placing.specs.Boards.{facts_at, loose_seen}

-- the fact behind a reference
abbrev pub unref : Bor Fact → horn.Fact Id
unref f = fact_of f.now

-- the firm ones of the first i hypotheses
pub record AreFirmUpTo (all : List Term) (hyps : List Fact) (i : ℕ) (found : List (horn.Fact Id)) : Type 0 where
  pub known : AreFactsIn all found
  pub are : facts_at all found ++ firm (map (λ h. fact_at all (fact_of h)) (drop i hyps)) ≡ firm (facts_at all (map fact_of hyps))

pub firm_none : (all : List Term) (hyps : List Fact) → AreFirmUpTo all hyps 0 []
firm_none all hyps = record { known = tt; are = ap firm (sym (map-map (fact_at all) fact_of hyps)) }

-- the list with one item more in front of the rest, if it passes
passed : {X : Type 0} (test : X → Bool) (found rest whole : List X) (x : X) (b : Bool) → test x ≡ b → found ++ filter (λ y. not (test y)) (x ∷ rest) ≡ whole → cond b found (found ++ x ∷ []) ++ filter (λ y. not (test y)) rest ≡ whole
passed test found rest whole x true e are = ap (λ b. found ++ cond (not b) (x ∷ filter (λ y. not (test y)) rest) (filter (λ y. not (test y)) rest)) (sym e) ∙ are
passed test found rest whole x false e are = append_assoc found (x ∷ []) (filter (λ y. not (test y)) rest) ∙ (ap (λ b. found ++ cond (not b) (x ∷ filter (λ y. not (test y)) rest) (filter (λ y. not (test y)) rest)) (sym e) ∙ are)

at_cond : (all : List Term) (found : List (horn.Fact Id)) (f : horn.Fact Id) (b : Bool) → facts_at all (cond b found (found ++ f ∷ [])) ≡ cond b (facts_at all found) (facts_at all found ++ fact_at all f ∷ [])
at_cond all found f true = refl
at_cond all found f false = map-append (fact_at all) found (f ∷ [])

known_cond : (all : List Term) (found : List (horn.Fact Id)) (f : horn.Fact Id) (b : Bool) → AreFactsIn all found → IsFactIn all f → AreFactsIn all (cond b found (found ++ f ∷ []))
known_cond all found f true known one = known
known_cond all found f false known one = AreFactsIn-append all found (f ∷ []) known (one, tt)

pub firm_more : (all : List Term) (hyps : List Fact) (i : ℕ) (h : Fact) (found new : List (horn.Fact Id)) → i < length hyps → h ≡ get_or hyps i h → IsFactIn all (fact_of h)
    → new ≡ cond (is_variable_known (fact_at all (fact_of h))) found (found ++ fact_of h ∷ []) → AreFirmUpTo all hyps i found → AreFirmUpTo all hyps (i + 1) new
firm_more all hyps i h found new within is known e so_far =
    let f = fact_at all (fact_of h) in
    let b = is_variable_known f in
    let seen : Fact → horn.Fact Term = λ k. fact_at all (fact_of k) in
    let rest = map seen (drop (i + 1) hyps) in
    let here : map seen (drop i hyps) ≡ f ∷ rest = map_drop seen hyps i h within ∙ ap (λ k. seen k ∷ rest) (sym is) in
    let are : facts_at all found ++ firm (f ∷ rest) ≡ firm (facts_at all (map fact_of hyps)) = ap (λ l. facts_at all found ++ firm l) (sym here) ∙ so_far.are in
    record {
      known = subst (λ (fs : List (horn.Fact Id)). AreFactsIn all fs) (sym e) (known_cond all found (fact_of h) b so_far.known known);
      are = ap (λ (fs : List (horn.Fact Id)). facts_at all fs ++ firm rest) e ∙ (ap (λ l. l ++ firm rest) (at_cond all found (fact_of h) b) ∙ passed is_variable_known (facts_at all found) rest (firm (facts_at all (map fact_of hyps))) f b refl are);
    }

pub firm_all : (all : List Term) (hyps : List Fact) (i : ℕ) (found : List (horn.Fact Id)) → length hyps ≤ i → AreFirmUpTo all hyps i found → NameFacts all found (firm (facts_at all (map fact_of hyps)))
firm_all all hyps i found past so_far =
    let seen : Fact → horn.Fact Term = λ k. fact_at all (fact_of k) in
    let none : firm (map seen (drop i hyps)) ≡ [] = ap firm (map_dropped seen hyps i past) in
    record {
      known = so_far.known;
      are = sym (append-nil (facts_at all found)) ∙ (ap (λ l. facts_at all found ++ l) (sym none) ∙ so_far.are);
    }

-- The loose ones, by their variables: one hypothesis that is loose, or isn't,
pub loose_added : (f : horn.Fact Term) (found new : List Loose) (x : Loose) → Some (loose_seen x) ≡ known_variable f → new ≡ found ++ x ∷ [] → map loose_seen new ≡ map loose_seen found ++ loose_variables (f ∷ [])
loose_added f found new x known e = ap (map loose_seen) e ∙ (map-append loose_seen found (x ∷ []) ∙ ap (λ o. map loose_seen found ++ cons_option o []) known)

pub none_added : (f : horn.Fact Term) (found : List Loose) → None ≡ known_variable f → map loose_seen found ≡ map loose_seen found ++ loose_variables (f ∷ [])
none_added f found known = sym (append-nil (map loose_seen found)) ∙ ap (λ o. map loose_seen found ++ cons_option o []) known

-- and with it those of the first of the hypotheses.
first_loose : (o : Option placing.Loose) (rest : List placing.Loose) → cons_option o [] ++ rest ≡ cons_option o rest
first_loose None rest = refl
first_loose (Some l) rest = refl

pub loose_on : (all : List Term) (hyps : List Fact) (i : ℕ) (h : Fact) (found new : List Loose) (whole : List placing.Loose) → i < length hyps → h ≡ get_or hyps i h → map loose_seen new ≡ map loose_seen found ++ loose_variables (fact_at all (fact_of h) ∷ [])
    → map loose_seen found ++ loose_variables (map (λ f. fact_at all (fact_of f)) (drop i hyps)) ≡ whole → map loose_seen new ++ loose_variables (map (λ f. fact_at all (fact_of f)) (drop (i + 1) hyps)) ≡ whole
loose_on all hyps i h found new whole within is e are =
    let seen : Fact → horn.Fact Term = λ f. fact_at all (fact_of f) in
    let rest = loose_variables (map seen (drop (i + 1) hyps)) in
    let here : map seen (drop i hyps) ≡ seen h ∷ map seen (drop (i + 1) hyps) = map_drop seen hyps i h within ∙ ap (λ f. seen f ∷ map seen (drop (i + 1) hyps)) (sym is) in
    ap (λ l. l ++ rest) e
    ∙ (append_assoc (map loose_seen found) (loose_variables (seen h ∷ [])) rest
    ∙ (ap (λ l. map loose_seen found ++ l) (first_loose (known_variable (seen h)) rest) ∙ (ap (λ l. map loose_seen found ++ loose_variables l) (sym here) ∙ are)))
