-- Facts of one outline match where their terms do, item by item.
use Rattle.std.proofs.Common.{◌≡◌, ◌↔◌, ℕ, ◌||◌, List, ◌∷◌, map, length, refl, sym, ap, ◌∙◌, is_some}
use Rattle.std.specs.List.{list_any}
use Rattle.std.proofs.lemmas.List.{length-map}
use Rattle.spec_trees.specs.Tree.{bind}
use Rattle.spec_terms.specs.Term.{Term, Subst, has_var}
use Rattle.spec_terms.specs.Unifier.{MatchesAll}
use Rattle.spec_terms.specs.Binding.{Binding, bound_to, Agrees}
use Rattle.spec_clauses.specs.Fact.{Fact, Att, Mess, Tab, Ev, Mev, Bad, terms_of, outline, fact_under}
use Rattle.spec_clauses.proofs.Facts.{map_fact-map_fact}
use Rattle.spec_placements.specs.Placing.{FactMatched, NoFactMatch}

-- a fact is made again of its outline and its terms
abbrev remade : Fact (Unit {0}) → List Term → Fact Term
remade (Att k u) (t ∷ ts) = Att k t
remade (Mess k u v) (t ∷ w ∷ ts) = Mess k t w
remade (Tab n us) ts = Tab n ts
remade (Ev e us) ts = Ev e ts
remade (Mev e us) ts = Mev e ts
remade _ ts = Bad ts

made_again : (f : Fact Term) → remade (outline f) (terms_of f) ≡ f
made_again (Att k t) = refl
made_again (Mess k t u) = refl
made_again (Tab n ts) = refl
made_again (Ev e ts) = refl
made_again (Mev e ts) = refl
made_again (Bad ts) = refl

terms_under : (s : Subst) (f : Fact Term) → terms_of (fact_under s f) ≡ map (bind s) (terms_of f)
terms_under s (Att k t) = refl
terms_under s (Mess k t u) = refl
terms_under s (Tab n ts) = refl
terms_under s (Ev e ts) = refl
terms_under s (Mev e ts) = refl
terms_under s (Bad ts) = refl

pub outline_under : (s : Subst) (f : Fact Term) → outline (fact_under s f) ≡ outline f
outline_under s f = map_fact-map_fact (λ t. tt) (bind s) f

pub terms_match : (s : Subst) (g h : Fact Term) → fact_under s g ≡ h → MatchesAll s (terms_of g) (terms_of h)
terms_match s g h e = sym (terms_under s g) ∙ ap terms_of e

pub match_outline : (s : Subst) (g h : Fact Term) → fact_under s g ≡ h → outline g ≡ outline h
match_outline s g h e = sym (outline_under s g) ∙ ap outline e

pub facts_match : (s : Subst) (g h : Fact Term) → outline g ≡ outline h → MatchesAll s (terms_of g) (terms_of h) → fact_under s g ≡ h
facts_match s g h same m =
    let outlines = outline_under s g ∙ same in
    let terms = terms_under s g ∙ m in
    sym (made_again (fact_under s g)) ∙ ((λ i. remade (outlines i) (terms i)) ∙ made_again h)

-- facts of one outline have as many terms
outline_long : (f : Fact Term) → length (terms_of (outline f)) ≡ length (terms_of f)
outline_long (Att k t) = refl
outline_long (Mess k t u) = refl
outline_long (Tab n ts) = length-map ts (λ t. tt)
outline_long (Ev e ts) = length-map ts (λ t. tt)
outline_long (Mev e ts) = length-map ts (λ t. tt)
outline_long (Bad ts) = length-map ts (λ t. tt)

pub alike_long : (g h : Fact Term) → outline g ≡ outline h → length (terms_of g) ≡ length (terms_of h)
alike_long g h same = sym (outline_long g) ∙ (ap (λ f. length (terms_of f)) same ∙ outline_long h)

pub fact_matched : (old new : List Binding) (g h : Fact Term) → outline g ≡ outline h → ((x : ℕ) → is_some (bound_to new x) ≡ (is_some (bound_to old x) || list_any (has_var x) (terms_of g))) → ((s : Subst) → Agrees s new ↔ (Agrees s old × MatchesAll s (terms_of g) (terms_of h))) → FactMatched old new g h
fact_matched old new g h same exactly only = record {
  exactly = exactly;
  only = λ s. (
    λ a. let both = (only s).0 a in (both.0, facts_match s g h same both.1),
    λ a. (only s).1 (a.0, terms_match s g h a.1),
  );
}

pub fact_unmatched : (bs : List Binding) (g h : Fact Term) → ((s : Subst) → Agrees s bs → MatchesAll s (terms_of g) (terms_of h) → ⊥) → NoFactMatch bs g h
fact_unmatched bs g h none s agrees e = none s agrees (terms_match s g h e)

pub fact_differs : (bs : List Binding) (g h : Fact Term) → (outline g ≡ outline h → ⊥) → NoFactMatch bs g h
fact_differs bs g h apart s agrees e = apart (match_outline s g h e)
