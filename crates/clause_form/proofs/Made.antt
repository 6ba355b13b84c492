-- Facts that are made of a head and of ids that name terms.
use Rattle.std.proofs.Common.{◌≡◌, List, [], ◌∷◌, map, refl, ap, sym, ◌∙◌, subst}
use Rattle.spec_trees.specs.Tree.{bind}
use Rattle.spec_terms.specs.Term.{Term, Subst}
use Rattle.spec_clauses.specs.Fact.{Fact, terms_of, map_fact, fact_under}
use Rattle.spec_clauses.specs.Fact as fact
use Rattle.spec_clauses.specs.Head.{Head, Att, Mess, Tab, Ev, Mev, Bad, head_of, made_of}
use Rattle.spec_clauses.proofs.Parts.{terms_of-map}
use Rattle.term_tree.specs.Bank.{tree_at, AreKnown}
use Rattle.term_tree.specs.declared.bank.Id.{Id}
use Rattle.clause_form.specs.declared.facts.Fact as declared
use Rattle.clause_form.specs.Facts.{fact_of}
use Rattle.clause_form.specs.Seen.{fact_at, NameTerms, NamesFact}

-- the terms of a fact of ids under a substitution are its terms under it
pub terms_under : (all : List Term) (s : Subst) (f : Fact Id) → terms_of (fact_under s (fact_at all f)) ≡ map (bind s) (map (tree_at all) (terms_of f))
terms_under all s f = terms_of-map (bind s) (fact_at all f) ∙ ap (map (bind s)) (terms_of-map (tree_at all) f)

-- where the ids name what is made of each term of a fact, the fact with the same head names what is made of the fact
pub made_names : (old now : List Term) (h : Term → Term) (f : Fact Id) (ids : List Id) → NameTerms now ids (map h (map (tree_at old) (terms_of f)))
    → NamesFact now (made_of (head_of f) ids) (map_fact h (fact_at old f))
made_names old now h (fact.Att k t) [] names = absurd (let e = names.are in cc)
made_names old now h (fact.Att k t) (a ∷ []) names =
    let e : tree_at now a ≡ h (tree_at old t) = (let are = names.are in cc) in
    record { known = names.known; is = ap (fact.Att k) e }
made_names old now h (fact.Att k t) (a ∷ b ∷ ids) names = absurd (let e = names.are in cc)
made_names old now h (fact.Mess k t u) [] names = absurd (let e = names.are in cc)
made_names old now h (fact.Mess k t u) (a ∷ []) names = absurd (let e = names.are in cc)
made_names old now h (fact.Mess k t u) (a ∷ b ∷ []) names =
    let e : tree_at now a ≡ h (tree_at old t) = (let are = names.are in cc) in
    let l : tree_at now b ≡ h (tree_at old u) = (let are = names.are in cc) in
    record { known = names.known; is = λ i. fact.Mess k (e i) (l i) }
made_names old now h (fact.Mess k t u) (a ∷ b ∷ c ∷ ids) names = absurd (let e = names.are in cc)
made_names old now h (fact.Tab n ts) ids names = record { known = names.known; is = ap (fact.Tab n) names.are }
made_names old now h (fact.Ev e ts) ids names = record { known = names.known; is = ap (fact.Ev e) names.are }
made_names old now h (fact.Mev e ts) ids names = record { known = names.known; is = ap (fact.Mev e) names.are }
made_names old now h (fact.Bad ts) ids names = record { known = names.known; is = ap fact.Bad names.are }

-- where the ids name terms, the fact that is made of them names the one that is made of the terms
made_here : (all : List Term) (h : Head) (ids : List Id) → AreKnown all ids → NamesFact all (made_of h ids) (made_of h (map (tree_at all) ids))
made_here all (Att k) [] known = record { known = known; is = refl }
made_here all (Att k) (t ∷ ids) known = record { known = (known.0, tt); is = refl }
made_here all (Mess k) [] known = record { known = known; is = refl }
made_here all (Mess k) (t ∷ []) known = record { known = known; is = refl }
made_here all (Mess k) (t ∷ u ∷ ids) known = record { known = (known.0, (known.1.0, tt)); is = refl }
made_here all (Tab n) ids known = record { known = known; is = refl }
made_here all (Ev e) ids known = record { known = known; is = refl }
made_here all (Mev e) ids known = record { known = known; is = refl }
made_here all Bad ids known = record { known = known; is = refl }

pub made_of-names : (all : List Term) (h : Head) (ids : List Id) (seen terms : List Term) (f : declared.Fact) → NameTerms all ids seen → seen ≡ terms → fact_of f ≡ made_of h ids → NamesFact all (fact_of f) (made_of h terms)
made_of-names all h ids seen terms f names same made =
    let here = made_here all h ids names.known in
    subst (λ (g : Fact Id). NamesFact all g (made_of h terms)) (sym made) record { known = here.known; is = here.is ∙ ap (made_of h) (names.are ∙ same) }
