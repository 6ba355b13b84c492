-- The visits that a `let` goes on with are over the protocol, since the terms that are unified are.
use Rattle.std.proofs.Common.{◌∙◌, ℕ, ◌+◌, Bool, Option, Some, None, List, [], ◌∷◌, ◌++◌, length, map, refl, ap, sym, subst, arith, length-append}
use Rattle.std.proofs.lemmas.List.{length-map}
use Rattle.spec_clauses.specs.Fact.{Tab}
use Rattle.spec_clauses.proofs.Lists.{all_append}
use Rattle.std.specs.Option.{IfSome}
use Rattle.std.specs.List.{AllByRecursion}
use Rattle.spec_calculus.specs.Syntax.{Name, Pattern, Expression, Condition, Ruled, Protocol}
use Rattle.spec_calculus.specs.Tables.{row_pattern}
use Rattle.spec_calculus.specs.Choices.{choices}
use Rattle.spec_calculus.proofs.Items.{each-map}
use Rattle.spec_well_formed.specs.Signature.{signature_of}
use Rattle.spec_well_formed.specs.Terms.{IsPatternBelow, IsRowBelow, IsConditionBelow, IsExpressionBelow, HasArity, bound_by, bound_by_row}
use Rattle.spec_well_formed.specs.WellFormed.{IsWellScoped}
use Rattle.spec_terms.specs.Term.{Subst}
use Rattle.spec_translation.specs.Conversion.{term_in, rule_term, Fresh, pattern_term}
use Rattle.spec_translation.specs.Visit.{Visit, after_entry}
use Rattle.spec_translation.specs.Choice.{Choice, choice_under, IsUnified, with_pattern, ruled_choice, GoesOn, EachGoesOn, AllGoOn, left_of, right_of, entry_choice, EntryGoesOn}
use Rattle.spec_certificate_text.specs.OfProtocol.{IsTable, IsSymbolOf}
use Rattle.spec_readable_verdicts.proofs.Over.{cleaned, cleaned_under, cleaned-bind, cleaned-binds, most_general-over}
use Rattle.spec_readable_verdicts.proofs.Symbols.{symbol}
use Rattle.spec_readable_verdicts.proofs.Facts.{IsTermOver, AreTermsOver, IsFactOver}
use Rattle.spec_readable_verdicts.proofs.Applied.{IsRuledBelow, choices_below, rule_term_over, value_over, arguments_over, sides_over}
use Rattle.spec_readable_verdicts.proofs.Scopes.{IsVisitOver, term_in_over, pattern_over, row_over, scope_with, found_with, visit_over-under}

module _ (P : Protocol) (scoped : IsWellScoped P) where
  -- the terms of a choice
  record IsChoiceOver (c : Choice) : Type 0 where
    arguments : AreTermsOver P c.arguments
    sides : AreTermsOver P c.sides
    value : IsTermOver P c.value
    target : IsTermOver P c.target

  abbrev cleaned_of : Subst → Subst
  cleaned_of s = cleaned_under (IsSymbolOf P) (symbol P) s

  -- a unifier of them may be cleaned
  may_be_cleaned : (c : Choice) (s : Subst) → IsChoiceOver c → IsUnified (choice_under s c) → IsUnified (choice_under (cleaned_of s) c)
  may_be_cleaned c s h e = (
    sym (cleaned-binds (IsSymbolOf P) (symbol P) s c.arguments h.arguments) ∙ (ap (map (cleaned (IsSymbolOf P) (symbol P))) e.0 ∙ cleaned-binds (IsSymbolOf P) (symbol P) s c.sides h.sides),
    sym (cleaned-bind (IsSymbolOf P) (symbol P) s c.value h.value) ∙ (ap (cleaned (IsSymbolOf P) (symbol P)) e.1 ∙ cleaned-bind (IsSymbolOf P) (symbol P) s c.target h.target),
  )

  module _ (bound : List Name) (above : ℕ) where
    goes_over : (c : Choice) (out : Option Visit) → IsChoiceOver c → IsVisitOver P bound above c.visit → GoesOn c out → IfSome out (IsVisitOver P bound above)
    goes_over c None h is goes = tt
    goes_over c (Some w) h is (s, most, made) =
        let each = most_general-over (IsSymbolOf P) (symbol P) (λ r. IsUnified (choice_under r c)) s most (may_be_cleaned c s h most.accepted) in
        subst (IsVisitOver P bound above) (sym made) (visit_over-under P bound above c.visit is s each)

  module _ (bound : List Name) (above : ℕ) (v : Visit) (is : IsVisitOver P bound above v) (pattern : Pattern) (fits : IsPatternBelow (signature_of P) bound pattern) where
    -- the visit with what the pattern binds
    with_pattern_over : (at : Fresh) → IsVisitOver P (bound_by pattern ++ bound) above (with_pattern v pattern at)
    with_pattern_over at = record {
      scope = scope_with P bound above v is at pattern;
      found = found_with P bound above v is at pattern;
      hypotheses = is.hypotheses;
      diffs = is.diffs;
      messages = is.messages;
      sessions = is.sessions;
      count = is.count;
      phase = is.phase;
    }

    abbrev GoOver : List (Option Visit) → Type 0
    GoOver outs = AllByRecursion (λ out. IfSome out (IsVisitOver P (bound_by pattern ++ bound) above)) outs

    each_goes_over : (rs : List Ruled) → AllByRecursion (IsRuledBelow P scoped bound) rs → (outs : List (Option Visit)) → EachGoesOn P v pattern rs outs → GoOver outs
    each_goes_over [] below outs a = subst GoOver (sym a) tt
    each_goes_over (ruled ∷ rs) below outs (out, others, r, rest, made) =
        let c = ruled_choice P v pattern ruled r.base r.at in
        let over : IsChoiceOver c = record {
          arguments = arguments_over P scoped bound (term_in P v.scope) (rule_term P) (term_in_over P bound above v is) (rule_term_over P scoped) r.base ruled below.0;
          sides = sides_over P scoped bound (term_in P v.scope) (rule_term P) (term_in_over P bound above v is) (rule_term_over P scoped) r.base ruled below.0;
          value = value_over P scoped bound (term_in P v.scope) (rule_term P) (term_in_over P bound above v is) (rule_term_over P scoped) r.base ruled below.0;
          target = pattern_over P bound above v is r.at pattern fits;
        } in
        let first = goes_over (bound_by pattern ++ bound) above c out over (with_pattern_over r.at) r.goes_on in
        let all : GoOver (out ∷ others) = (first, each_goes_over rs below.1 others rest) in
        subst GoOver (sym made) all

    -- Each visit that goes on is over the protocol.
    pub all_go_over : (expression : Expression) → IsExpressionBelow (signature_of P) bound expression → (outs : List (Option Visit)) → AllGoOn P v pattern expression outs → GoOver outs
    all_go_over expression below outs a =
        each_goes_over (map (λ c. c.ruled) (choices P expression)) (each-map (IsRuledBelow P scoped bound) (λ c. c.ruled) (choices P expression) (choices_below P scoped bound expression below.terms below.heads)) outs a

  -- The entry of a `get`.
  module _ (bound : List Name) (above : ℕ) (v : Visit) (is : IsVisitOver P bound above v) (table : ℕ) (patterns : List Pattern) (declared : HasArity (signature_of P).tables table (length patterns)) (fits : IsRowBelow (signature_of P) bound patterns) where
    entry_over : (at : Fresh) → IsVisitOver P (bound_by_row patterns ++ bound) (above + length patterns) (after_entry P v table patterns at)
    entry_over at =
        let terms = map (pattern_term P v.scope at) patterns in
        let over = row_over P bound above v is at patterns fits in
        let many = length-map patterns (pattern_term P v.scope at) in
        let in_table : IsTable P table (length terms) = record { declared = declared.declared; there = declared.stands; arity = declared.is ∙ sym many } in record {
          scope = scope_with P bound above v is at (row_pattern patterns);
          found = found_with P bound above v is at (row_pattern patterns);
          hypotheses = all_append (IsFactOver P) v.hypotheses (Tab table terms ∷ []) is.hypotheses (record { predicate = in_table; terms = over }, tt);
          diffs = is.diffs;
          messages = all_append (IsTermOver P) v.messages terms is.messages over;
          sessions = is.sessions;
          count = omega (arith, length-append v.messages terms, many, is.count);
          phase = is.phase;
        }

    -- its condition's terms are over the protocol, so what unifies them is
    left_over : (w : Visit) → IsVisitOver P (bound_by_row patterns ++ bound) (above + length patterns) w → (condition : Condition) → IsConditionBelow (signature_of P) (bound_by_row patterns ++ bound) condition → AreTermsOver P (left_of P w.scope condition)
    left_over w over None met = tt
    left_over w over (Some (left, right)) met = (term_in_over P (bound_by_row patterns ++ bound) (above + length patterns) w over left met.0, tt)

    right_over : (w : Visit) → IsVisitOver P (bound_by_row patterns ++ bound) (above + length patterns) w → (condition : Condition) → IsConditionBelow (signature_of P) (bound_by_row patterns ++ bound) condition → AreTermsOver P (right_of P w.scope condition)
    right_over w over None met = tt
    right_over w over (Some (left, right)) met = (term_in_over P (bound_by_row patterns ++ bound) (above + length patterns) w over right met.1.0, tt)

    pub entry_goes_over : (condition : Condition) → IsConditionBelow (signature_of P) (bound_by_row patterns ++ bound) condition → (large : Bool) (out : Option Visit) → EntryGoesOn P v table patterns condition large out
        → IfSome out (IsVisitOver P (bound_by_row patterns ++ bound) (above + length patterns))
    entry_goes_over condition met large None goes = tt
    entry_goes_over condition met large (Some w) goes =
        let c = entry_choice P v table patterns condition goes.at in
        let over = entry_over goes.at in
        let left = left_over c.visit over condition met in
        let right = right_over c.visit over condition met in
        let (s, most, made) = goes.goes_on in
        let cleans : IsUnified (choice_under s c) → IsUnified (choice_under (cleaned_of s) c) =
        λ e. (sym (cleaned-binds (IsSymbolOf P) (symbol P) s c.arguments left) ∙ (ap (map (cleaned (IsSymbolOf P) (symbol P))) e.0 ∙ cleaned-binds (IsSymbolOf P) (symbol P) s c.sides right), refl) in
        let each = most_general-over (IsSymbolOf P) (symbol P) (λ r. IsUnified (choice_under r c)) s most (cleans most.accepted) in
        subst (IsVisitOver P (bound_by_row patterns ++ bound) (above + length patterns)) (sym made) (visit_over-under P (bound_by_row patterns ++ bound) (above + length patterns) c.visit over s each)
