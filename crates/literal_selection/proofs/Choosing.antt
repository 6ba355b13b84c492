-- A fact in front of others against what is selected of these.
use Rattle.std.proofs.Common.{◌≡◌, ◌↔◌, ℕ, zero, suc, ◌+◌, ◌-◌, ◌<◌, ◌≤◌, ◌^◌, Bool, true, false, cond, nat_le, Option, Some, None, IsNone, List, [], ◌∷◌, length, map, drop, get_or, refl, ap, sym, ◌∙◌, subst, arith}
use Rattle.std.specs.Option.{option_map}
use Rattle.std.proofs.lemmas.Simd.{map-map}
use Rattle.spec_terms.specs.Term.{Term}
use Rattle.spec_clauses.specs.Fact.{Fact, total, fact_size}
use Rattle.spec_clauses.specs.Selection.{Selection, select, is_solved}
use Rattle.spec_clauses.proofs.Selection.{select-none}
use Rattle.clause_form.specs.declared.facts.Fact as declared
use Rattle.clause_form.specs.Facts.{fact_of}
use Rattle.clause_form.specs.Seen.{fact_at}
use Rattle.clause_form.proofs.Comparing.{map_drop}
use Rattle.clause_form.proofs.Norming.{seen_at}
use Rattle.literal_selection.specs.declared.Best.{Best}
use Rattle.literal_selection.specs.Best.{selected_place, remembered}

-- what is remembered of all facts tells the place, and nothing exactly where none can be selected
pub place_told : (o : Option Selection) (best : Option Best) → best ≡ remembered 0 o → option_map (λ b. b.place) best ≡ option_map (λ at. at.index) o
place_told None best e = ap (option_map (λ b. b.place)) e
place_told (Some at) best e = ap (option_map (λ b. b.place)) e ∙ ap Some (omega arith)

some_place : (hs : List (Fact Term)) (o : Option Selection) → select hs ≡ o → IsNone (option_map (λ at. at.index) (select hs)) → select hs ≡ None
some_place hs None e none = e
some_place hs (Some at) e none = absurd (some_none at (subst (λ (p : Option Selection). IsNone (option_map (λ at. at.index) p)) e none)) where
  some_none : (at : Selection) → IsNone (Some at.index) → ⊥
  some_none at h = cc

none_place : (hs : List (Fact Term)) → select hs ≡ None → IsNone (option_map (λ at. at.index) (select hs))
none_place hs e = subst (λ (p : Option Selection). IsNone (option_map (λ at. at.index) p)) (sym e) refl

pub none_where_solved : (hs : List (Fact Term)) (r : Option ℕ) → r ≡ selected_place hs → IsNone r ↔ (is_solved hs ≡ true)
none_where_solved hs r e = (
  λ none. (select-none hs).0 (some_place hs (select hs) refl (subst (λ (p : Option ℕ). IsNone p) e none)),
  λ solved. subst (λ (p : Option ℕ). IsNone p) (sym e) (none_place hs ((select-none hs).1 solved)),
)

-- a fact among facts is no larger than all of them
fact_within : (all : List Term) (fs : List declared.Fact) (i : ℕ) (d : declared.Fact) → i < length fs → fact_size (fact_at all (fact_of (get_or fs i d))) ≤ total fact_size (map (fact_at all) (map fact_of fs))
fact_within all [] i d within = absurd (omega arith)
fact_within all (f ∷ fs) zero d within = omega arith
fact_within all (f ∷ fs) (suc i) d within = omega (arith, fact_within all fs i d (omega arith))

pub fact_small : (all : List Term) (fs : List declared.Fact) (i : ℕ) (f : declared.Fact) → f ≡ get_or fs i f → i < length fs → total fact_size (map (fact_at all) (map fact_of fs)) < 2 ^ 63 → fact_size (fact_at all (fact_of f)) < 2 ^ 63
fact_small all fs i f is within small =
    let largest = fact_within all fs i f within in
    let same = ap (λ g. fact_size (fact_at all (fact_of g))) is in omega arith

-- one fact more, in front of those behind it
pub chosen_on : (all : List Term) (fs : List declared.Fact) (i : ℕ) (f : declared.Fact) (best result : Option Best) → 0 < i → i ≤ length fs → f ≡ get_or fs (i - 1) f → best ≡ remembered i (select (map (seen_at all) (drop i fs)))
    → ((hs : List (Fact Term)) → best ≡ remembered (i - 1 + 1) (select hs) → result ≡ remembered (i - 1) (select (seen_at all f ∷ hs))) → result ≡ remembered (i - 1) (select (map (seen_at all) (drop (i - 1) fs)))
chosen_on all fs i f best result some within is was step =
    let next : i - 1 + 1 ≡ i = omega arith in
    let behind_it : map (seen_at all) (drop (i - 1) fs) ≡ seen_at all f ∷ map (seen_at all) (drop i fs) =
    map_drop (seen_at all) fs (i - 1) f (omega arith) ∙ (ap (λ n. seen_at all (get_or fs (i - 1) f) ∷ map (seen_at all) (drop n fs)) next ∙ ap (λ g. seen_at all g ∷ map (seen_at all) (drop i fs)) (sym is)) in
    step (map (seen_at all) (drop i fs)) (was ∙ ap (λ n. remembered n (select (map (seen_at all) (drop i fs)))) (sym next)) ∙ ap (λ l. remembered (i - 1) (select l)) (sym behind_it)

pub chosen_all : (all : List Term) (fs : List declared.Fact) (i : ℕ) (best : Option Best) → i ≤ 0 → best ≡ remembered i (select (map (seen_at all) (drop i fs))) → best ≡ remembered 0 (select (map (fact_at all) (map fact_of fs)))
chosen_all all fs i best past was =
    let none : i ≡ 0 = omega arith in
    was ∙ (ap (λ n. remembered n (select (map (seen_at all) (drop n fs)))) none ∙ ap (λ l. remembered 0 (select l)) (sym (map-map (fact_at all) fact_of fs)))
