-- Rows of parts whose rules are chosen, and the sides of their constraint, as parts are added and joined.
use Rattle.std.proofs.Common.{◌≡◌, ◌∙◌, ℕ, ◌+◌, ◌-◌, ◌≤◌, List, [], ◌∷◌, ◌++◌, length, map, take, drop, refl, ap, sym, subst, arith}
use Rattle.std.proofs.lemmas.List.{length-map, length-drop, length-take-le, take_at, drop_at, take-append-drop}
use Rattle.spec_trees.specs.Tree.{Leaf, node}
use Rattle.spec_calculus.specs.Syntax.{Symbol, Builds, Calls, Rule, Ruled, Protocol}
use Rattle.spec_calculus.specs.Syntax as calculus
use Rattle.spec_terms.specs.Term.{Term}
use Rattle.spec_translation.specs.Conversion.{symbol_over, term_in, rule_term}
use Rattle.spec_translation.specs.Visit.{Visit}
use Rattle.spec_translation.specs.Applied.{rule_width}
use Rattle.spec_choice_walks.specs.Instructions.{joined_last}
use Rattle.spec_choice_walks.specs.Stage.{terms_of_row, arguments_of_row, sides_of_row, width_of_row}
use Rattle.spec_choice_walks.proofs.Rows.{width-whole, width-built, width-called, terms-append, length-terms, arguments-whole, sides-whole, terms-whole, arguments-built, sides-built, terms-built, arguments-called, sides-called, terms-called}
use Rattle.term_tree.specs.Bank.{tree_at, symbol_of, Names, Grows}
use Rattle.term_tree.specs.declared.bank.Id.{Id}
use Rattle.term_tree.specs.declared.bank.Sym as bank
use Rattle.clause_form.specs.Seen.{NameTerms}
use Rattle.clause_form.proofs.Copying.{NameTerms-grows, NameTerms-push}
use Rattle.unified_visits.specs.declared.visit.Visit as source
use Rattle.else_visits.specs.declared.otherwise.Sides.{Sides}
use Rattle.else_visits.specs.Sides.{AreSidesOf}
use Rattle.unified_visits.specs.Visits.{NamesVisit}
use Rattle.unified_visits.proofs.Named.{NamesVisit-grows}
use Rattle.visit_choices.proofs.Joined.{terms_append}
use Rattle.visit_choices.proofs.RuledRows.{named_first, named_last}

module _ (P : Protocol) (w : source.Visit) (v : Visit) where
  abbrev terms_in : List Ruled → List Term
  terms_in parts = terms_of_row P v.scope w.next parts

  abbrev arguments_in : List Ruled → List Term
  arguments_in parts = arguments_of_row P v.scope w.next parts

  abbrev sides_in : List Ruled → List Term
  sides_in parts = sides_of_row P v.scope w.next parts

  -- sides from what they name
  sides_made : (all : List Term) (parts : List Ruled) (sides : Sides) (ts xs ys : List Term) (ids left right : List Id) → NamesVisit all w v → terms_in parts ≡ ts → arguments_in parts ≡ xs → sides_in parts ≡ ys
      → sides.ids.items ≡ ids → sides.left.items ≡ left → sides.right.items ≡ right → NameTerms all ids ts → NameTerms all left xs → NameTerms all right ys → sides.next ≡ w.next + width_of_row parts → AreSidesOf P w v parts all sides
  sides_made all parts sides ts xs ys ids left right visit e f g e_ids e_left e_right named_ts named_xs named_ys next_is = record {
    visit = visit;
    terms = subst (λ (l : List Id). NameTerms all l (terms_in parts)) (sym e_ids) (subst (λ (l : List Term). NameTerms all ids l) (sym e) named_ts);
    left = subst (λ (l : List Id). NameTerms all l (arguments_in parts)) (sym e_left) (subst (λ (l : List Term). NameTerms all left l) (sym f) named_xs);
    right = subst (λ (l : List Id). NameTerms all l (sides_in parts)) (sym e_right) (subst (λ (l : List Term). NameTerms all right l) (sym g) named_ys);
    next_is = next_is;
  }

  sides_grow : (old new : List Term) (parts : List Ruled) (sides : Sides) → Grows old new → AreSidesOf P w v parts old sides → AreSidesOf P w v parts new sides
  sides_grow old new parts sides grows is = record {
    visit = NamesVisit-grows old new w v grows is.visit;
    terms = NameTerms-grows old new sides.ids.items (terms_in parts) grows is.terms;
    left = NameTerms-grows old new sides.left.items (arguments_in parts) grows is.left;
    right = NameTerms-grows old new sides.right.items (sides_in parts) grows is.right;
    next_is = is.next_is;
  }

  none_named : (all : List Term) → NameTerms all [] []
  none_named all = record { known = tt; are = refl }

  -- those of no part
  pub sides_first : (all : List Term) (sides : Sides) → NamesVisit all w v → sides.ids.items ≡ [] → sides.left.items ≡ [] → sides.right.items ≡ [] → sides.next ≡ w.next → AreSidesOf P w v [] all sides
  sides_first all sides visit no_ids no_left no_right next = sides_made all [] sides [] [] [] [] [] [] visit refl refl refl no_ids no_left no_right (none_named all) (none_named all) (none_named all) (omega (arith, next))

  -- what they have
  module _ (all : List Term) (parts : List Ruled) (sides : Sides) (is : AreSidesOf P w v parts all sides) where
    pub parts_counted : length sides.ids.items ≡ length parts
    parts_counted = sym (length-map sides.ids.items (tree_at all)) ∙ (ap length is.terms.are ∙ length-terms P v.scope w.next parts)

    -- the last parts, from a place on
    module _ (n : ℕ) (low : n ≤ length parts) where
      abbrev first_terms : List Term
      first_terms = terms_in (take n parts)

      abbrev last_terms : List Term
      last_terms = terms_of_row P v.scope (w.next + width_of_row (take n parts)) (drop n parts)

      whole : take n parts ++ drop n parts ≡ parts
      whole = take-append-drop n parts

      two : terms_in parts ≡ first_terms ++ last_terms
      two = ap (terms_of_row P v.scope w.next) (sym whole) ∙ terms-append P v.scope w.next (take n parts) (drop n parts)

      first_long : length first_terms ≡ n
      first_long = length-terms P v.scope w.next (take n parts) ∙ length-take-le n parts low

      first_named : NameTerms all (take n sides.ids.items) first_terms
      first_named = subst (λ (l : List Term). NameTerms all (take n sides.ids.items) l) (ap (take n) two ∙ take_at first_terms last_terms n first_long) (named_first all n sides.ids.items (terms_in parts) is.terms)

      last_named : NameTerms all (drop n sides.ids.items) last_terms
      last_named = subst (λ (l : List Term). NameTerms all (drop n sides.ids.items) l) (ap (drop n) two ∙ drop_at first_terms last_terms n first_long) (named_last all n sides.ids.items (terms_in parts) is.terms)

  -- a term behind the row
  pub sides_pushed : (old new : List Term) (parts : List Ruled) (sides made : Sides) (id : Id) (t : calculus.Term) → Grows old new → AreSidesOf P w v parts old sides → Names new id (term_in P v.scope t) → made.ids.items ≡ sides.ids.items ++ id ∷ [] → made.next ≡ sides.next
      → made.left.items ≡ sides.left.items → made.right.items ≡ sides.right.items → AreSidesOf P w v (parts ++ Leaf t ∷ []) new made
  sides_pushed old new parts sides made id t grows before named ids same lefts rights =
      let is = sides_grow old new parts sides grows before in
      let ts = terms_in parts in
      sides_made new (parts ++ Leaf t ∷ []) made (ts ++ term_in P v.scope t ∷ []) (arguments_in parts) (sides_in parts) (sides.ids.items ++ id ∷ []) sides.left.items sides.right.items is.visit
      (terms-whole P v.scope w.next parts t) (arguments-whole P v.scope w.next parts t) (sides-whole P v.scope w.next parts t) ids lefts rights
      (NameTerms-push new sides.ids.items ts id (term_in P v.scope t) is.terms named) is.left is.right (omega (arith, same, is.next_is, width-whole parts t))

  -- a constructor or a tuple over the last parts
  pub sides_built : (old new : List Term) (parts : List Ruled) (sides made : Sides) (id : Id) (symbol : bank.Sym) (f : Symbol) (count : ℕ) → Grows old new → AreSidesOf P w v parts old sides → count ≤ length sides.ids.items → symbol_of symbol ≡ symbol_over P count f
      → Names new id (node (symbol_of symbol) (map (tree_at old) (drop (length sides.ids.items - count) sides.ids.items))) → made.ids.items ≡ take (length sides.ids.items - count) sides.ids.items ++ id ∷ [] → made.next ≡ sides.next
      → made.left.items ≡ sides.left.items → made.right.items ≡ sides.right.items → AreSidesOf P w v (joined_last (Builds f) count parts) new made
  sides_built old new parts sides made id symbol f count grows before within is_symbol named ids same lefts rights =
      let items = sides.ids.items in
      let is = sides_grow old new parts sides grows before in
      let many = parts_counted old parts sides before in
      let n = length parts - count in
      let low : n ≤ length parts = omega arith in
      let place : length items - count ≡ n = ap (λ k. k - count) many in
      let us = take n parts in
      let vs = drop n parts in
      let firsts = first_terms old parts sides before n low in
      let lasts = last_terms old parts sides before n low in
      let all_parts = whole old parts sides before n low in
      let named_lasts = last_named old parts sides before n low in
      let left : length vs ≡ count = length-drop n parts ∙ omega (arith, within, many) in
      let symbols : symbol_of symbol ≡ symbol_over P (length vs) f = is_symbol ∙ ap (λ k. symbol_over P k f) (sym left) in
      let arguments : map (tree_at old) (drop (length items - count) items) ≡ lasts = ap (λ k. map (tree_at old) (drop k items)) place ∙ named_lasts.are in
      let t = node (symbol_over P (length vs) f) lasts in
      let named_t = subst (λ (u : Term). Names new id u) (λ i. node (symbols i) (arguments i)) named in
      sides_made new (joined_last (Builds f) count parts) made (firsts ++ t ∷ []) (arguments_in parts) (sides_in parts) (take n items ++ id ∷ []) sides.left.items sides.right.items is.visit (terms-built P v.scope w.next us vs f)
      (arguments-built P v.scope w.next us vs f ∙ ap (arguments_of_row P v.scope w.next) all_parts) (sides-built P v.scope w.next us vs f ∙ ap (sides_of_row P v.scope w.next) all_parts)
      (ids ∙ ap (λ k. take k items ++ id ∷ []) place) lefts rights (NameTerms-push new (take n items) firsts id t (first_named new parts sides is n low) named_t) is.left is.right
      (omega (arith, same, is.next_is, width-built us vs f, ap width_of_row all_parts))

  -- a destructor, by a rule, over the last parts: they are arguments, and its left sides are what these have to be
  pub sides_called : (old new : List Term) (parts : List Ruled) (sides made : Sides) (rule : Rule) (count : ℕ) (arguments lefts : List Id) (value : Id) → Grows old new → AreSidesOf P w v parts old sides → arguments ≡ drop (length sides.ids.items - count) sides.ids.items
      → NameTerms new lefts (map (rule_term P sides.next) rule.left) → Names new value (rule_term P sides.next rule.right) → made.ids.items ≡ take (length sides.ids.items - count) sides.ids.items ++ value ∷ []
      → made.left.items ≡ sides.left.items ++ arguments → made.right.items ≡ sides.right.items ++ lefts → made.next ≡ sides.next + rule_width rule → AreSidesOf P w v (joined_last (Calls rule) count parts) new made
  sides_called old new parts sides made rule count arguments lefts value grows before taken named_lefts named ids more_left more_right next_is =
      let items = sides.ids.items in
      let is = sides_grow old new parts sides grows before in
      let many = parts_counted old parts sides before in
      let n = length parts - count in
      let low : n ≤ length parts = omega arith in
      let place : length items - count ≡ n = ap (λ k. k - count) many in
      let us = take n parts in
      let vs = drop n parts in
      let base = w.next + width_of_row parts in
      let firsts = first_terms new parts sides is n low in
      let lasts = last_terms new parts sides is n low in
      let all_parts = whole new parts sides is n low in
      let rights = map (rule_term P base) rule.left in
      let t = rule_term P base rule.right in
      let xs = arguments_in parts in
      let ys = sides_in parts in
      let named_arguments = subst (λ (l : List Id). NameTerms new l lasts) (sym (taken ∙ ap (λ k. drop k items) place)) (last_named new parts sides is n low) in
      let named_rights = subst (λ k. NameTerms new lefts (map (rule_term P k) rule.left)) before.next_is named_lefts in
      let named_t = subst (λ k. Names new value (rule_term P k rule.right)) before.next_is named in
      sides_made new (joined_last (Calls rule) count parts) made (firsts ++ t ∷ []) (xs ++ lasts) (ys ++ rights) (take n items ++ value ∷ []) (sides.left.items ++ arguments) (sides.right.items ++ lefts) is.visit
      (terms-called P v.scope w.next us vs rule ∙ ap (λ l. firsts ++ rule_term P (w.next + width_of_row l) rule.right ∷ []) all_parts)
      (arguments-called P v.scope w.next us vs rule ∙ ap (λ l. arguments_of_row P v.scope w.next l ++ lasts) all_parts)
      (sides-called P v.scope w.next us vs rule ∙ ap (λ l. sides_of_row P v.scope w.next l ++ map (rule_term P (w.next + width_of_row l)) rule.left) all_parts)
      (ids ∙ ap (λ k. take k items ++ value ∷ []) place) more_left more_right (NameTerms-push new (take n items) firsts value t (first_named new parts sides is n low) named_t)
      (terms_append new sides.left.items arguments xs lasts is.left named_arguments) (terms_append new sides.right.items lefts ys rights is.right named_rights)
      (omega (arith, next_is, before.next_is, width-called us vs rule, ap width_of_row all_parts))
