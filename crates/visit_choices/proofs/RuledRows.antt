-- Rows of parts whose rules are chosen, as parts are added and joined.
use Rattle.std.proofs.Common.{◌≡◌, ◌∙◌, ℕ, zero, suc, ◌+◌, ◌-◌, ◌<◌, ◌≤◌, List, [], ◌∷◌, ◌++◌, length, map, take, drop, refl, ap, sym, subst, arith}
use Rattle.std.proofs.lemmas.List.{length-map, length-append, length-drop, length-take-le, take-map, drop-map, take_at, drop_at, take-append-drop}
use Rattle.spec_trees.specs.Tree.{Leaf, node}
use Rattle.spec_calculus.specs.Syntax.{Symbol, Builds, Calls, Rule, Ruled, Protocol}
use Rattle.spec_calculus.specs.Syntax as calculus
use Rattle.spec_terms.specs.Term.{Term}
use Rattle.spec_clauses.specs.Variables.{IsBelow, AreBelow}
use Rattle.spec_clauses.proofs.Lists.{all_append, all_first, all_second}
use Rattle.spec_translation.specs.Conversion.{symbol_over, term_in, rule_term}
use Rattle.spec_translation.specs.Visit.{Visit, visit_terms}
use Rattle.spec_translation.specs.Applied.{rule_width}
use Rattle.spec_choice_walks.specs.Instructions.{joined_last}
use Rattle.spec_choice_walks.specs.Stage.{terms_of_row, arguments_of_row, sides_of_row, width_of_row}
use Rattle.spec_choice_walks.proofs.Rows.{width-whole, width-built, width-called, terms-append, length-terms, arguments-whole, sides-whole, terms-whole, arguments-built, sides-built, terms-built, arguments-called, sides-called, terms-called}
use Rattle.term_tree.specs.Bank.{tree_at, symbol_of, AreKnown, Names, Grows}
use Rattle.term_tree.specs.declared.bank.Id.{Id}
use Rattle.term_tree.specs.declared.bank.Sym as bank
use Rattle.unify_match.specs.declared.bound.Bound.{Bound}
use Rattle.unify_match.specs.Seen.{IsReady}
use Rattle.unify_match.specs.Outcome.{UnifiedAll, NoUnifierOfAll}
use Rattle.clause_form.specs.Seen.{NameTerms}
use Rattle.clause_form.proofs.Copying.{NameTerms-grows, NameTerms-push}
use Rattle.unified_visits.specs.declared.visit.Visit as source
use Rattle.visit_choices.specs.declared.row.Row.{Row}
use Rattle.unified_visits.specs.Solving.{AreRowsApart, AreRowsSolved}
use Rattle.unified_visits.specs.Visits.{NamesVisit}
use Rattle.visit_choices.specs.RuledRows.{IsRowOf, IsApart}
use Rattle.unified_visits.proofs.Below.{term_in_below, sides_below, right_below}
use Rattle.unified_visits.proofs.Named.{NamesVisit-grows, parted, all_below_more, node_below}
use Rattle.visit_choices.proofs.Solving.{rows_solved-grow, none_solved, more_solved, more_apart}

-- the first ids, and those behind them
known_first : (all : List Term) (n : ℕ) (ids : List Id) → AreKnown all ids → AreKnown all (take n ids)
known_first all zero ids known = tt
known_first all (suc n) [] known = tt
known_first all (suc n) (id ∷ ids) known = (known.0, known_first all n ids known.1)

pub known_last : (all : List Term) (n : ℕ) (ids : List Id) → AreKnown all ids → AreKnown all (drop n ids)
known_last all zero ids known = known
known_last all (suc n) [] known = tt
known_last all (suc n) (id ∷ ids) known = known_last all n ids known.1

pub named_first : (all : List Term) (n : ℕ) (ids : List Id) (ts : List Term) → NameTerms all ids ts → NameTerms all (take n ids) (take n ts)
named_first all n ids ts names = record { known = known_first all n ids names.known; are = sym (take-map (tree_at all) n ids) ∙ ap (take n) names.are }

pub named_last : (all : List Term) (n : ℕ) (ids : List Id) (ts : List Term) → NameTerms all ids ts → NameTerms all (drop n ids) (drop n ts)
named_last all n ids ts names = record { known = known_last all n ids names.known; are = sym (drop-map (tree_at all) n ids) ∙ ap (drop n) names.are }

module _ (P : Protocol) (w : source.Visit) (v : Visit) where
  -- a row from what its parts are
  row_made : (all : List Term) (parts : List Ruled) (row : Row) (ts xs ys : List Term) → NamesVisit all w v → terms_of_row P v.scope w.next parts ≡ ts → arguments_of_row P v.scope w.next parts ≡ xs → sides_of_row P v.scope w.next parts ≡ ys
      → NameTerms all row.ids.items ts → row.next ≡ w.next + width_of_row parts → length xs ≡ length ys → AreRowsSolved all row.binds.pairs xs ys → AreBelow (row.next + 1) ts → AreBelow (row.next + 1) xs → AreBelow (row.next + 1) ys → IsRowOf P w v parts all row
  row_made all parts row ts xs ys visit e f g terms next even solved below_ts below_xs below_ys =
      let back_e = sym e in
      let back_f = sym f in
      let back_g = sym g in
      record {
        visit = visit;
        terms = subst (λ (l : List Term). NameTerms all row.ids.items l) back_e terms;
        next_is = next;
        even = ap length f ∙ (even ∙ ap length back_g);
        solved = subst (λ (l : List Term). AreRowsSolved all row.binds.pairs l (sides_of_row P v.scope w.next parts)) back_f (subst (λ (l : List Term). AreRowsSolved all row.binds.pairs xs l) back_g solved);
        below = subst (λ (l : List Term). AreBelow (row.next + 1) l) (λ i. back_e i ++ (back_f i ++ back_g i)) (all_append (IsBelow (row.next + 1)) ts (xs ++ ys) below_ts (all_append (IsBelow (row.next + 1)) xs ys below_xs below_ys));
      }

  pub row_grows : (old new : List Term) (parts : List Ruled) (row : Row) → Grows old new → IsRowOf P w v parts old row → IsRowOf P w v parts new row
  row_grows old new parts row grows is = record {
    visit = NamesVisit-grows old new w v grows is.visit;
    terms = NameTerms-grows old new row.ids.items (terms_of_row P v.scope w.next parts) grows is.terms;
    next_is = is.next_is;
    even = is.even;
    solved = rows_solved-grow old new row.binds.pairs (arguments_of_row P v.scope w.next parts) (sides_of_row P v.scope w.next parts) grows is.solved;
    below = is.below;
  }

  -- an empty row
  pub row_first : (all : List Term) (row : Row) → NamesVisit all w v → row.ids.items ≡ [] → row.next ≡ w.next → row.binds.pairs ≡ [] → IsReady all row.binds.pairs → IsRowOf P w v [] all row
  row_first all row visit empty next unbound ready = record {
    visit = visit;
    terms = subst (λ (ids : List Id). NameTerms all ids []) (sym empty) record { known = tt; are = refl };
    next_is = omega (arith, next);
    even = refl;
    solved = none_solved all row.binds.pairs unbound ready;
    below = tt;
  }

  -- what a row has
  module _ (all : List Term) (parts : List Ruled) (row : Row) (is : IsRowOf P w v parts all row) where
    pub ids_counted : length row.ids.items ≡ length parts
    ids_counted = sym (length-map row.ids.items (tree_at all)) ∙ (ap length is.terms.are ∙ length-terms P v.scope w.next parts)

    below_terms : AreBelow (row.next + 1) (terms_of_row P v.scope w.next parts)
    below_terms = all_first (IsBelow (row.next + 1)) (terms_of_row P v.scope w.next parts) (arguments_of_row P v.scope w.next parts ++ sides_of_row P v.scope w.next parts) is.below

    below_rules : AreBelow (row.next + 1) (arguments_of_row P v.scope w.next parts ++ sides_of_row P v.scope w.next parts)
    below_rules = all_second (IsBelow (row.next + 1)) (terms_of_row P v.scope w.next parts) (arguments_of_row P v.scope w.next parts ++ sides_of_row P v.scope w.next parts) is.below

    pub below_arguments : AreBelow (row.next + 1) (arguments_of_row P v.scope w.next parts)
    below_arguments = all_first (IsBelow (row.next + 1)) (arguments_of_row P v.scope w.next parts) (sides_of_row P v.scope w.next parts) below_rules

    pub below_sides : AreBelow (row.next + 1) (sides_of_row P v.scope w.next parts)
    below_sides = all_second (IsBelow (row.next + 1)) (arguments_of_row P v.scope w.next parts) (sides_of_row P v.scope w.next parts) below_rules

    below_scope : AreBelow (row.next + 1) (map (λ b. b.term) v.scope)
    below_scope =
        let known = subst (λ (x : Visit). AreBelow w.next (visit_terms x)) is.visit.is is.visit.known.below in
        all_below_more w.next (row.next + 1) (omega (arith, is.next_is)) (map (λ b. b.term) v.scope) (parted w.next v known).scope

    -- the last parts, from a place on
    module _ (n : ℕ) (low : n ≤ length parts) where
      abbrev xs : List Ruled
      xs = take n parts

      abbrev ys : List Ruled
      ys = drop n parts

      abbrev first_terms : List Term
      first_terms = terms_of_row P v.scope w.next xs

      abbrev last_terms : List Term
      last_terms = terms_of_row P v.scope (w.next + width_of_row xs) ys

      whole : xs ++ ys ≡ parts
      whole = take-append-drop n parts

      two : terms_of_row P v.scope w.next parts ≡ first_terms ++ last_terms
      two = ap (terms_of_row P v.scope w.next) (sym whole) ∙ terms-append P v.scope w.next xs ys

      first_long : length first_terms ≡ n
      first_long = length-terms P v.scope w.next xs ∙ length-take-le n parts low

      pub first_named : NameTerms all (take n row.ids.items) first_terms
      first_named = subst (λ (l : List Term). NameTerms all (take n row.ids.items) l) (ap (take n) two ∙ take_at first_terms last_terms n first_long) (named_first all n row.ids.items (terms_of_row P v.scope w.next parts) is.terms)

      pub last_named : NameTerms all (drop n row.ids.items) last_terms
      last_named = subst (λ (l : List Term). NameTerms all (drop n row.ids.items) l) (ap (drop n) two ∙ drop_at first_terms last_terms n first_long) (named_last all n row.ids.items (terms_of_row P v.scope w.next parts) is.terms)

      in_two : AreBelow (row.next + 1) (first_terms ++ last_terms)
      in_two = subst (λ (l : List Term). AreBelow (row.next + 1) l) two below_terms

      below_first : AreBelow (row.next + 1) first_terms
      below_first = all_first (IsBelow (row.next + 1)) first_terms last_terms in_two

      below_last : AreBelow (row.next + 1) last_terms
      below_last = all_second (IsBelow (row.next + 1)) first_terms last_terms in_two

      pub last_long : length last_terms ≡ length parts - n
      last_long = length-terms P v.scope (w.next + width_of_row xs) ys ∙ length-drop n parts

  -- a term behind the row
  pub row_pushed : (old new : List Term) (parts : List Ruled) (row next : Row) (id : Id) (t : calculus.Term) → Grows old new → IsRowOf P w v parts old row → Names new id (term_in P v.scope t) → next.ids.items ≡ row.ids.items ++ id ∷ [] → next.next ≡ row.next
      → next.binds.pairs ≡ row.binds.pairs → IsRowOf P w v (parts ++ Leaf t ∷ []) new next
  row_pushed old new parts row next id t grows before named ids same bound =
      let is = row_grows old new parts row grows before in
      let ts = terms_of_row P v.scope w.next parts in
      let xs = arguments_of_row P v.scope w.next parts in
      let ys = sides_of_row P v.scope w.next parts in
      let up : row.next + 1 ≤ next.next + 1 = omega (arith, same) in
      row_made new (parts ++ Leaf t ∷ []) next (ts ++ term_in P v.scope t ∷ []) xs ys is.visit (terms-whole P v.scope w.next parts t) (arguments-whole P v.scope w.next parts t) (sides-whole P v.scope w.next parts t)
      (subst (λ (l : List Id). NameTerms new l (ts ++ term_in P v.scope t ∷ [])) (sym ids) (NameTerms-push new row.ids.items ts id (term_in P v.scope t) is.terms named))
      (omega (arith, same, is.next_is, width-whole parts t)) is.even (subst (λ (p : List Bound). AreRowsSolved new p xs ys) (sym bound) is.solved)
      (all_below_more (row.next + 1) (next.next + 1) up (ts ++ term_in P v.scope t ∷ []) (all_append (IsBelow (row.next + 1)) ts (term_in P v.scope t ∷ []) (below_terms new parts row is) (term_in_below P (row.next + 1) v.scope (below_scope new parts row is) t, tt)))
      (all_below_more (row.next + 1) (next.next + 1) up xs (below_arguments new parts row is)) (all_below_more (row.next + 1) (next.next + 1) up ys (below_sides new parts row is))

  -- a constructor or a tuple over the last parts
  pub row_built : (old new : List Term) (parts : List Ruled) (row next : Row) (id : Id) (symbol : bank.Sym) (f : Symbol) (count : ℕ) → Grows old new → IsRowOf P w v parts old row → count ≤ length row.ids.items → symbol_of symbol ≡ symbol_over P count f
      → Names new id (node (symbol_of symbol) (map (tree_at old) (drop (length row.ids.items - count) row.ids.items))) → next.ids.items ≡ take (length row.ids.items - count) row.ids.items ++ id ∷ [] → next.next ≡ row.next → next.binds.pairs ≡ row.binds.pairs
      → IsRowOf P w v (joined_last (Builds f) count parts) new next
  row_built old new parts row next id symbol f count grows before within is_symbol named ids same bound =
      let is = row_grows old new parts row grows before in
      let many = ids_counted old parts row before in
      let n = length parts - count in
      let low : n ≤ length parts = omega arith in
      let place : length row.ids.items - count ≡ n = ap (λ k. k - count) many in
      let us = take n parts in
      let vs = drop n parts in
      let firsts = first_terms old parts row before n low in
      let lasts = last_terms old parts row before n low in
      let all_parts = whole old parts row before n low in
      let named_lasts = last_named old parts row before n low in
      let left : length vs ≡ count = length-drop n parts ∙ omega (arith, within, many) in
      let symbols : symbol_of symbol ≡ symbol_over P (length vs) f = is_symbol ∙ ap (λ k. symbol_over P k f) (sym left) in
      let arguments : map (tree_at old) (drop (length row.ids.items - count) row.ids.items) ≡ lasts = ap (λ k. map (tree_at old) (drop k row.ids.items)) place ∙ named_lasts.are in
      let t = node (symbol_over P (length vs) f) lasts in
      let named_t = subst (λ (u : Term). Names new id u) (λ i. node (symbols i) (arguments i)) named in
      let xs = arguments_of_row P v.scope w.next parts in
      let ys = sides_of_row P v.scope w.next parts in
      let up : row.next + 1 ≤ next.next + 1 = omega (arith, same) in
      row_made new (joined_last (Builds f) count parts) next (firsts ++ t ∷ []) xs ys is.visit (terms-built P v.scope w.next us vs f)
      (arguments-built P v.scope w.next us vs f ∙ ap (arguments_of_row P v.scope w.next) all_parts) (sides-built P v.scope w.next us vs f ∙ ap (sides_of_row P v.scope w.next) all_parts)
      (subst (λ (l : List Id). NameTerms new l (firsts ++ t ∷ [])) (sym (ids ∙ ap (λ k. take k row.ids.items ++ id ∷ []) place)) (NameTerms-push new (take n row.ids.items) firsts id t (first_named new parts row is n low) named_t))
      (omega (arith, same, is.next_is, width-built us vs f, ap width_of_row all_parts)) is.even (subst (λ (p : List Bound). AreRowsSolved new p xs ys) (sym bound) is.solved)
      (all_below_more (row.next + 1) (next.next + 1) up (firsts ++ t ∷ []) (all_append (IsBelow (row.next + 1)) firsts (t ∷ []) (below_first new parts row is n low) (node_below (row.next + 1) (symbol_over P (length vs) f) lasts (below_last new parts row is n low), tt)))
      (all_below_more (row.next + 1) (next.next + 1) up xs (below_arguments new parts row is)) (all_below_more (row.next + 1) (next.next + 1) up ys (below_sides new parts row is))

  -- a destructor, by a rule, over the last parts
  module _ (old new : List Term) (parts : List Ruled) (row : Row) (rule : Rule) (count : ℕ) (grows : Grows old new) (before : IsRowOf P w v parts old row) (within : count ≤ length row.ids.items) (full : length rule.left ≡ count) (arguments sides : List Id)
      (taken : arguments ≡ drop (length row.ids.items - count) row.ids.items) (named_sides : NameTerms new sides (map (rule_term P row.next) rule.left)) where
    after : IsRowOf P w v parts new row
    after = row_grows old new parts row grows before

    abbrev start : ℕ
    start = length parts - count

    low : start ≤ length parts
    low = omega arith

    many : length row.ids.items ≡ length parts
    many = ids_counted old parts row before

    place : length row.ids.items - count ≡ start
    place = ap (λ k. k - count) many

    abbrev us : List Ruled
    us = take start parts

    abbrev vs : List Ruled
    vs = drop start parts

    abbrev lasts : List Term
    lasts = terms_of_row P v.scope (w.next + width_of_row us) vs

    abbrev lefts : List Term
    lefts = map (rule_term P (w.next + width_of_row parts)) rule.left

    all_parts : us ++ vs ≡ parts
    all_parts = whole old parts row before start low

    arguments_are : map (tree_at new) arguments ≡ lasts
    arguments_are = ap (map (tree_at new)) (taken ∙ ap (λ k. drop k row.ids.items) place) ∙ (last_named new parts row after start low).are

    sides_are : map (tree_at new) sides ≡ lefts
    sides_are = named_sides.are ∙ ap (λ k. map (rule_term P k) rule.left) before.next_is

    abbrev joined : List Ruled
    joined = joined_last (Calls rule) count parts

    more_arguments : arguments_of_row P v.scope w.next joined ≡ arguments_of_row P v.scope w.next parts ++ lasts
    more_arguments = arguments-called P v.scope w.next us vs rule ∙ ap (λ l. arguments_of_row P v.scope w.next l ++ lasts) all_parts

    more_sides : sides_of_row P v.scope w.next joined ≡ sides_of_row P v.scope w.next parts ++ lefts
    more_sides = sides-called P v.scope w.next us vs rule ∙ ap (λ l. sides_of_row P v.scope w.next l ++ map (rule_term P (w.next + width_of_row l)) rule.left) all_parts

    as_many : length lasts ≡ length lefts
    as_many = last_long new parts row after start low ∙ (omega (arith, within, many, full) ∙ sym (length-map rule.left (rule_term P (w.next + width_of_row parts))))

    pub paired : length arguments ≡ length sides
    paired = sym (length-map arguments (tree_at new)) ∙ (ap length arguments_are ∙ (as_many ∙ (sym (ap length sides_are) ∙ length-map sides (tree_at new))))

    pub arguments_known : AreKnown new arguments
    arguments_known = subst (λ (l : List Id). AreKnown new l) (sym (taken ∙ ap (λ k. drop k row.ids.items) place)) (last_named new parts row after start low).known

    both_even : length (arguments_of_row P v.scope w.next parts ++ lasts) ≡ length (sides_of_row P v.scope w.next parts ++ lefts)
    both_even = omega (arith, length-append (arguments_of_row P v.scope w.next parts) lasts, length-append (sides_of_row P v.scope w.next parts) lefts, before.even, as_many)

    pub row_apart : NoUnifierOfAll new row.binds.pairs (map (tree_at new) arguments) (map (tree_at new) sides) → IsApart P w v joined
    row_apart never =
        let back_arguments = sym more_arguments in
        let back_sides = sym more_sides in
        record {
          even = ap length more_arguments ∙ (both_even ∙ ap length back_sides);
          apart = subst (λ (l : List Term). AreRowsApart l (sides_of_row P v.scope w.next joined)) back_arguments (subst (λ (l : List Term). AreRowsApart (arguments_of_row P v.scope w.next parts ++ lasts) l) back_sides
              (more_apart new row.binds.pairs (arguments_of_row P v.scope w.next parts) (sides_of_row P v.scope w.next parts) lasts lefts after.even after.solved
              (subst (λ (l : List Term). NoUnifierOfAll new row.binds.pairs lasts l) sides_are (subst (λ (l : List Term). NoUnifierOfAll new row.binds.pairs l (map (tree_at new) sides)) arguments_are never))));
        }

    pub row_called : (next : Row) (value : Id) → IsReady new next.binds.pairs → UnifiedAll new row.binds.pairs next.binds.pairs (map (tree_at new) arguments) (map (tree_at new) sides) → Names new value (rule_term P row.next rule.right)
        → next.ids.items ≡ take (length row.ids.items - count) row.ids.items ++ value ∷ [] → next.next ≡ row.next + rule_width rule → IsRowOf P w v joined new next
    row_called next value ready unified named ids next_is =
        let base = w.next + width_of_row parts in
        let firsts = first_terms new parts row after start low in
        let t = rule_term P base rule.right in
        let named_t = subst (λ k. Names new value (rule_term P k rule.right)) before.next_is named in
        let up : row.next + 1 ≤ next.next + 1 = omega (arith, next_is) in
        let above : base + rule_width rule < next.next + 1 = omega (arith, next_is, before.next_is) in
        row_made new joined next (firsts ++ t ∷ []) (arguments_of_row P v.scope w.next parts ++ lasts) (sides_of_row P v.scope w.next parts ++ lefts) after.visit
        (terms-called P v.scope w.next us vs rule ∙ ap (λ l. firsts ++ rule_term P (w.next + width_of_row l) rule.right ∷ []) all_parts) more_arguments more_sides
        (subst (λ (l : List Id). NameTerms new l (firsts ++ t ∷ [])) (sym (ids ∙ ap (λ k. take k row.ids.items ++ value ∷ []) place)) (NameTerms-push new (take start row.ids.items) firsts value t (first_named new parts row after start low) named_t))
        (omega (arith, next_is, before.next_is, width-called us vs rule, ap width_of_row all_parts)) both_even
        (more_solved new row.binds.pairs (arguments_of_row P v.scope w.next parts) (sides_of_row P v.scope w.next parts) lasts lefts after.even after.solved next.binds.pairs ready
        (subst (λ (l : List Term). UnifiedAll new row.binds.pairs next.binds.pairs lasts l) sides_are (subst (λ (l : List Term). UnifiedAll new row.binds.pairs next.binds.pairs l (map (tree_at new) sides)) arguments_are unified)))
        (all_append (IsBelow (next.next + 1)) firsts (t ∷ []) (all_below_more (row.next + 1) (next.next + 1) up firsts (below_first new parts row after start low)) (right_below P (next.next + 1) base rule above, tt))
        (all_below_more (row.next + 1) (next.next + 1) up (arguments_of_row P v.scope w.next parts ++ lasts) (all_append (IsBelow (row.next + 1)) (arguments_of_row P v.scope w.next parts) lasts (below_arguments new parts row after) (below_last new parts row after start low)))
        (all_append (IsBelow (next.next + 1)) (sides_of_row P v.scope w.next parts) lefts (all_below_more (row.next + 1) (next.next + 1) up (sides_of_row P v.scope w.next parts) (below_sides new parts row after)) (sides_below P (next.next + 1) base rule above))
