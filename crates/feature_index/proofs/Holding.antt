-- What lists of entries hold, once one was put in or taken out, and what their candidates are.
use Rattle.std.proofs.Common.{◌≡◌, ◌↔◌, ◌⊎◌, ◌∙◌, ℕ, Bool, true, false, not, ◌||◌, cond, List, [], ◌∷◌, map, filter, take, length, ◌≤◌, refl, ap, sym, subst, inl, inr, eq-eqb, eqb-true}
use Rattle.std.specs.Prelude.{nat_lt, nat_eq}
use Rattle.std.proofs.lemmas.Bool.{ne_eqb}
use Rattle.std.specs.List.{list_all}
use Rattle.std.proofs.lemmas.List.{take_all}
use Rattle.spec_terms.specs.Term.{Term}
use Rattle.spec_clauses.specs.Fact.{Clause}
use Rattle.spec_clauses.specs.Flat.{is_flat}
use Rattle.spec_clauses.specs.Subsumption.{Subsumes}
use Rattle.spec_clauses.specs.Inclusion.{Picks, here, there, Has, IsWithin}
use Rattle.spec_clauses.proofs.Inclusion.{within_self, Has-append, Has-one, Has-within, Has-filter, Has-filter_source, Has-map, Has-map_source}
use Rattle.spec_features.specs.Features.{features_of, are_at_most}
use Rattle.spec_features.proofs.Growing.{subsuming_at_most}
use Rattle.feature_index.specs.declared.index.Item.{Item}
use Rattle.feature_index.specs.Items.{listed_of}
use Rattle.feature_index.specs.Listed.{Listed, entries_of, is_listed, with_entry, without_entry, candidates_of, IsCandidate}

-- with one entry more the list is the entry and the list, in some order
with_within : (new : Listed) (ls : List Listed) → IsWithin (with_entry new ls) (new ∷ ls)
with_within new [] = within_self (new ∷ [])
with_within new (l ∷ ls) = go (nat_lt l.entry new.entry) (with_within new ls)
  where
    go : (b : Bool) → IsWithin (with_entry new ls) (new ∷ ls) → IsWithin (cond b (l ∷ with_entry new ls) (new ∷ l ∷ ls)) (new ∷ l ∷ ls)
    go true rest = (new ∷ ls, there here, rest)
    go false rest = within_self (new ∷ l ∷ ls)

within_with : (new : Listed) (ls : List Listed) → IsWithin (new ∷ ls) (with_entry new ls)
within_with new [] = within_self (new ∷ [])
within_with new (l ∷ ls) = go (nat_lt l.entry new.entry) (within_with new ls)
  where
    go : (b : Bool) → IsWithin (new ∷ ls) (with_entry new ls) → IsWithin (new ∷ l ∷ ls) (cond b (l ∷ with_entry new ls) (new ∷ l ∷ ls))
    go true rest = (l ∷ rest.0, there rest.1, (rest.0, here, rest.2))
    go false rest = within_self (new ∷ l ∷ ls)

pub put_holds : (new l : Listed) (ls : List Listed) → Has (with_entry new ls) l ↔ ((l ≡ new) ⊎ Has ls l)
put_holds new l ls = (
  λ h. elim ((Has-append (new ∷ []) ls l).0 (Has-within (with_entry new ls) (new ∷ ls) l (with_within new ls) h)) as (λ _. (l ≡ new) ⊎ Has ls l) [
    | inl first ↦ inl (Has-one first)
    | inr later ↦ inr later
  ],
  λ h. Has-within (new ∷ ls) (with_entry new ls) l (within_with new ls) (elim h as (λ _. Has (new ∷ ls) l) [
    | inl same ↦ subst (Has (new ∷ ls)) (sym same) (ls, here)
    | inr later ↦ (new ∷ later.0, there later.1)
  ]),
)

pub taken_holds : (e : ℕ) (l : Listed) (ls : List Listed) → Has (without_entry e ls) l ↔ (Has ls l × (l.entry ≡ e → ⊥))
taken_holds e l ls = (
  λ h.
      let source = Has-filter_source (λ (k : Listed). not (nat_eq e k.entry)) ls l h in
      (source.0, λ same. differ (nat_eq e l.entry) source.1 (eq-eqb e l.entry (sym same))),
  λ h. Has-filter (λ (k : Listed). not (nat_eq e k.entry)) ls l h.0 (ap not (ne_eqb e l.entry (λ same. h.1 (sym same)))),
)
  where
    differ : (b : Bool) → not b ≡ true → b ≡ true → ⊥
    differ true h k = cc
    differ false h k = cc

pub candidate_holds : (features : List ℕ) (e : ℕ) (ls : List Listed) → Has (candidates_of features ls) e ↔ IsCandidate features ls e
candidate_holds features e ls = (
  λ h.
      let source = Has-map_source (λ (l : Listed). l.entry) (filter (λ (l : Listed). are_at_most l.features features) ls) e h in
      let kept = Has-filter_source (λ (l : Listed). are_at_most l.features features) ls source.0 source.1 in
      record { listed = source.0; there = kept.0; entry = sym source.2; passes = kept.1 },
  λ h. subst (Has (candidates_of features ls)) h.entry
      (Has-map (λ (l : Listed). l.entry) (filter (λ (l : Listed). are_at_most l.features features) ls) h.listed (Has-filter (λ (l : Listed). are_at_most l.features features) ls h.listed h.there h.passes)),
)

listed_there : (e : ℕ) (ls : List Listed) → is_listed e ls ≡ true → Has (entries_of ls) e
listed_there e [] h = cc
listed_there e (l ∷ ls) h = go (nat_eq e l.entry) refl (listed_there e ls)
  where
    go : (b : Bool) → nat_eq e l.entry ≡ b → (is_listed e ls ≡ true → Has (entries_of ls) e) → Has (entries_of (l ∷ ls)) e
    go true same later = subst (Has (entries_of (l ∷ ls))) (sym (eqb-true e l.entry same)) (entries_of ls, here)
    go false other later = let rest = later (sym (ap (λ b. b || is_listed e ls) other) ∙ h) in (l.entry ∷ rest.0, there rest.1)

none_picked : {X : Type 0} {xs rest : List X} {x : X} → Picks xs x rest → xs ≡ [] → ⊥
none_picked (here {xs = xs}) e = cc
none_picked (there p) e = cc

there_listed : (e : ℕ) (ls : List Listed) → Has (entries_of ls) e → is_listed e ls ≡ true
there_listed e [] h = absurd (none_picked h.1 refl)
there_listed e (l ∷ ls) h = elim ((Has-append (l.entry ∷ []) (entries_of ls) e).0 h) as (λ _. is_listed e (l ∷ ls) ≡ true) [
  | inl first ↦ ap (λ b. b || is_listed e ls) (eq-eqb e l.entry (Has-one first))
  | inr later ↦ right (nat_eq e l.entry) (there_listed e ls later)
]
  where
    right : (b : Bool) → is_listed e ls ≡ true → b || is_listed e ls ≡ true
    right true h = refl
    right false h = h

pub listed_holds : (e : ℕ) (ls : List Listed) → (is_listed e ls ≡ true) ↔ Has (entries_of ls) e
listed_holds e ls = (listed_there e ls, there_listed e ls)

-- Among the candidates that are found is each entry whose clause subsumes the clause with these features.
pub subsuming_found : (features : List ℕ) (items seen : List Item) (now : List Listed) (i : ℕ) (found : List ℕ) → length seen ≤ i → seen ≡ items → map listed_of items ≡ now → found ≡ candidates_of features (map listed_of (take i seen))
    → (e : ℕ) (c d : Clause Term) → Has now (record { entry = e; features = features_of c }) → features ≡ features_of d → list_all is_flat c.hypotheses ≡ true → Subsumes c d → Has found e
subsuming_found features items seen now i found past same view is e c d listed same_features flats h =
    let whole : found ≡ candidates_of features now = is ∙ (ap (λ l. candidates_of features (map listed_of l)) (take_all i seen past ∙ same) ∙ ap (candidates_of features) view) in
    let passes : are_at_most (features_of c) features ≡ true = ap (are_at_most (features_of c)) same_features ∙ subsuming_at_most c d flats h in
    subst (λ l. Has l e) (sym whole) ((candidate_holds features e now).1 (record { listed = record { entry = e; features = features_of c }; there = listed; entry = refl; passes = passes }))
