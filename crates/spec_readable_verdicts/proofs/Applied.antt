-- The choices of an expression are over the protocol: the terms that its destructors are applied to, their rules' left sides, and its value.
use Rattle.std.proofs.Common.{◌≡◌, ℕ, ◌+◌, Option, Some, None, List, [], ◌∷◌, map, refl, ap, sym, subst}
use Rattle.std.specs.Option.{IfSome, option_map_or}
use Rattle.std.specs.List.{AllByRecursion, enumerate_from}
use Rattle.spec_trees.specs.Tree.{Tree, Trees, Leaf, Node, none, more, items_of}
use Rattle.spec_trees.specs.Leaves.{leaves, row_leaves}
use Rattle.spec_calculus.specs.Syntax.{Name, Head, Builds, Calls, Expression, Rule, Ruled, Destructor, Protocol}
use Rattle.spec_calculus.specs.Syntax as calculus
use Rattle.spec_calculus.specs.Matching.{rules_of}
use Rattle.spec_calculus.specs.Choices.{Choice, Choices, built_choice, called_choice, joined_choice, choices, row_choices}
use Rattle.spec_calculus.specs.Points.{numbered}
use Rattle.spec_calculus.proofs.Items.{each-first, each-second, each-map, each-flat_map, each-numbered, each-weaker}
use Rattle.spec_well_formed.specs.Signature.{Signature, signature_of}
use Rattle.spec_well_formed.specs.Rules.{IsVariable}
use Rattle.spec_well_formed.specs.Terms as below
use Rattle.spec_well_formed.specs.Terms.{row_length, EachSymbol, EachSymbolInRow, TakesArguments, TakesParts, IsTermBelow}
use Rattle.spec_well_formed.specs.WellFormed.{IsRuleOver, IsWellScoped}
use Rattle.spec_terms.specs.Term.{Sym}
use Rattle.spec_clauses.proofs.Lists.{all_append}
use Rattle.spec_translation.specs.Conversion as conversion
use Rattle.spec_translation.specs.Conversion.{symbol_over, rule_leaf, rule_term}
use Rattle.spec_translation.specs.Applied.{width, row_width, ruled_term, ruled_row, ruled_arguments, row_arguments, ruled_sides, row_sides}
use Rattle.spec_certificate_text.specs.OfProtocol.{IsSymbolOf}
use Rattle.spec_readable_verdicts.proofs.Facts.{IsTreeOver, IsTermOver}
use Rattle.spec_readable_verdicts.proofs.Conversion.{root_over, term_over}
use Rattle.spec_readable_verdicts.proofs.Given.{rule_leaf_over}

-- each tree of a row passes the test where the row does
items_over : {X : Type 0} (Q : Sym → ℕ → Type 0) (ts : Trees X Sym) → EachSymbolInRow Q ts → AllByRecursion (EachSymbol Q) (items_of ts)
items_over Q none h = tt
items_over Q (more t ts) h = (h.0, items_over Q ts h.1)

-- a term of a rule
pub rule_term_over : (P : Protocol) (scoped : IsWellScoped P) (base : ℕ) (t : calculus.Term) → below.IsTermOver (signature_of P) IsVariable t → IsTermOver P (rule_term P base t)
rule_term_over P scoped base t h = term_over P (rule_leaf base) IsVariable (rule_leaf_over P scoped base) t h

module _ (P : Protocol) (scoped : IsWellScoped P) (bound : List Name) where
  abbrev signature : Signature
  signature = signature_of P

  -- the terms of an expression whose rules are chosen are below these binders, its constructors take their arguments, and its rules are over
  -- the protocol
  abbrev mutual
    pub IsRuledBelow : Ruled → Type 0
    IsRuledBelow (Leaf t) = IsTermBelow signature bound t
    IsRuledBelow (Node (Builds f) parts) = TakesArguments signature f (row_length parts) × IsRuledRowBelow parts
    IsRuledBelow (Node (Calls rule) parts) = IsRuleOver signature rule × IsRuledRowBelow parts

    IsRuledRowBelow : Trees calculus.Term (Head Rule) → Type 0
    IsRuledRowBelow none = Unit {0}
    IsRuledRowBelow (more part parts) = IsRuledBelow part × IsRuledRowBelow parts

  -- the rules of a destructor
  destructor_rules : (d : ℕ) → AllByRecursion (IsRuleOver signature) (rules_of P d)
  destructor_rules d = go (numbered P.destructors d) (each-numbered (λ x. AllByRecursion (IsRuleOver signature) x.rules) P.destructors d scoped.rules) where
    go : (o : Option Destructor) → IfSome o (λ x. AllByRecursion (IsRuleOver signature) x.rules) → AllByRecursion (IsRuleOver signature) (option_map_or (λ destructor. destructor.rules) o [])
    go None h = tt
    go (Some x) h = h

  -- a choice for a row has as many parts
  record IsRowOf (parts : Trees calculus.Term (Head ℕ)) (row : Trees calculus.Term (Head Rule)) : Type 0 where
    below : IsRuledRowBelow row
    count : row_length row ≡ row_length parts

  called_below : (row : Choices) → IsRuledRowBelow row.ruled → (n : ℕ) (rules : List Rule) → AllByRecursion (IsRuleOver signature) rules → AllByRecursion (λ c. IsRuledBelow c.ruled) (map (called_choice row) (enumerate_from n rules))
  called_below row below n [] h = tt
  called_below row below n (rule ∷ rules) h = ((h.0, below), called_below row below (n + 1) rules h.1)

  joined_below : (part : calculus.Expression) (parts : Trees calculus.Term (Head ℕ)) (first : Choice) → IsRuledBelow first.ruled → AllByRecursion (λ row. IsRowOf parts row.ruled) (row_choices P parts)
      → AllByRecursion (λ row. IsRowOf (more part parts) row.ruled) (map (joined_choice first) (row_choices P parts))
  joined_below part parts first below rows = each-map (λ row. IsRowOf (more part parts) row.ruled) (joined_choice first) (row_choices P parts)
      (each-weaker (λ row. IsRowOf parts row.ruled) (λ row. IsRowOf (more part parts) (more first.ruled row.ruled))
      (λ row is. record { below = (below, is.below); count = ap (λ n. n + 1) is.count }) (row_choices P parts) rows)

  mutual
    pub choices_below : (e : Expression) → AllByRecursion (IsTermBelow signature bound) (leaves e) → EachSymbol (TakesParts signature) e → AllByRecursion (λ c. IsRuledBelow c.ruled) (choices P e)
    choices_below (Leaf t) terms heads = (terms.0, tt)
    choices_below (Node (Builds f) parts) terms heads = each-map (λ c. IsRuledBelow c.ruled) (built_choice f) (row_choices P parts)
        (each-weaker (λ row. IsRowOf parts row.ruled) (λ row. IsRuledBelow (Node (Builds f) row.ruled))
        (λ row is. (subst (TakesArguments signature f) (sym is.count) heads.0, is.below)) (row_choices P parts) (rows_below parts terms heads.1))
    choices_below (Node (Calls d) parts) terms heads =
        let called = λ (row : Choices). map (called_choice row) (enumerate_from 1 (rules_of P d)) in
        each-flat_map (λ c. IsRuledBelow c.ruled) called (row_choices P parts)
        (each-weaker (λ row. IsRowOf parts row.ruled) (λ row. AllByRecursion (λ c. IsRuledBelow c.ruled) (called row))
        (λ row is. called_below row is.below 1 (rules_of P d) (destructor_rules d)) (row_choices P parts) (rows_below parts terms heads.1))

    rows_below : (parts : Trees calculus.Term (Head ℕ)) → AllByRecursion (IsTermBelow signature bound) (row_leaves parts) → EachSymbolInRow (TakesParts signature) parts → AllByRecursion (λ row. IsRowOf parts row.ruled) (row_choices P parts)
    rows_below none terms heads = (record { below = tt; count = refl }, tt)
    rows_below (more part parts) terms heads =
        let others = rows_below parts (each-second (IsTermBelow signature bound) (leaves part) (row_leaves parts) terms) heads.1 in
        each-flat_map (λ row. IsRowOf (more part parts) row.ruled) (λ first. map (joined_choice first) (row_choices P parts)) (choices P part)
        (each-weaker (λ c. IsRuledBelow c.ruled) (λ c. AllByRecursion (λ row. IsRowOf (more part parts) row.ruled) (map (joined_choice c) (row_choices P parts)))
        (λ c below. joined_below part parts c below others) (choices P part)
        (choices_below part (each-first (IsTermBelow signature bound) (leaves part) (row_leaves parts) terms) heads.0))

  -- two readings, of terms of the process and of rules, as trees over the protocol
  module _ {X : Type 0} (term_of : calculus.Term → Tree X Sym) (rule_term_of : ℕ → calculus.Term → Tree X Sym) (own_over : (t : calculus.Term) → IsTermBelow signature bound t → IsTreeOver P (term_of t))
      (rule_over : (base : ℕ) (t : calculus.Term) → below.IsTermOver signature IsVariable t → IsTreeOver P (rule_term_of base t)) where
    abbrev row_term : ℕ → Trees calculus.Term (Head Rule) → Trees X Sym
    row_term base parts = ruled_row P term_of rule_term_of base parts

    row_count : (base : ℕ) (parts : Trees calculus.Term (Head Rule)) → row_length (row_term base parts) ≡ row_length parts
    row_count base none = refl
    row_count base (more part parts) = ap (λ n. n + 1) (row_count (base + width part) parts)

    rule_terms_over : (base : ℕ) (ts : List calculus.Term) → AllByRecursion (below.IsTermOver signature IsVariable) ts → AllByRecursion (IsTreeOver P) (map (rule_term_of base) ts)
    rule_terms_over base [] h = tt
    rule_terms_over base (t ∷ ts) h = (rule_over base t h.0, rule_terms_over base ts h.1)

    -- the value
    mutual
      pub value_over : (base : ℕ) (ruled : Ruled) → IsRuledBelow ruled → IsTreeOver P (ruled_term P term_of rule_term_of base ruled)
      value_over base (Leaf t) h = own_over t h
      value_over base (Node (Builds f) parts) h = (subst (IsSymbolOf P (symbol_over P (conversion.row_length parts) f)) (sym (row_count base parts)) (root_over P f parts h.0), row_over base parts h.1)
      value_over base (Node (Calls rule) parts) h = rule_over (base + row_width parts) rule.right h.0.right

      row_over : (base : ℕ) (parts : Trees calculus.Term (Head Rule)) → IsRuledRowBelow parts → EachSymbolInRow (IsSymbolOf P) (row_term base parts)
      row_over base none h = tt
      row_over base (more part parts) h = (value_over base part h.0, row_over (base + width part) parts h.1)

    -- the arguments of all destructors
    mutual
      pub arguments_over : (base : ℕ) (ruled : Ruled) → IsRuledBelow ruled → AllByRecursion (IsTreeOver P) (ruled_arguments P term_of rule_term_of base ruled)
      arguments_over base (Leaf t) h = tt
      arguments_over base (Node (Builds f) parts) h = row_arguments_over base parts h.1
      arguments_over base (Node (Calls rule) parts) h =
          all_append (IsTreeOver P) (row_arguments P term_of rule_term_of base parts) (items_of (row_term base parts)) (row_arguments_over base parts h.1) (items_over (IsSymbolOf P) (row_term base parts) (row_over base parts h.1))

      row_arguments_over : (base : ℕ) (parts : Trees calculus.Term (Head Rule)) → IsRuledRowBelow parts → AllByRecursion (IsTreeOver P) (row_arguments P term_of rule_term_of base parts)
      row_arguments_over base none h = tt
      row_arguments_over base (more part parts) h =
          all_append (IsTreeOver P) (ruled_arguments P term_of rule_term_of base part) (row_arguments P term_of rule_term_of (base + width part) parts) (arguments_over base part h.0) (row_arguments_over (base + width part) parts h.1)

    -- and their rules' left sides
    mutual
      pub sides_over : (base : ℕ) (ruled : Ruled) → IsRuledBelow ruled → AllByRecursion (IsTreeOver P) (ruled_sides P term_of rule_term_of base ruled)
      sides_over base (Leaf t) h = tt
      sides_over base (Node (Builds f) parts) h = row_sides_over base parts h.1
      sides_over base (Node (Calls rule) parts) h =
          all_append (IsTreeOver P) (row_sides P term_of rule_term_of base parts) (map (rule_term_of (base + row_width parts)) rule.left) (row_sides_over base parts h.1) (rule_terms_over (base + row_width parts) rule.left h.0.left)

      row_sides_over : (base : ℕ) (parts : Trees calculus.Term (Head Rule)) → IsRuledRowBelow parts → AllByRecursion (IsTreeOver P) (row_sides P term_of rule_term_of base parts)
      row_sides_over base none h = tt
      row_sides_over base (more part parts) h =
          all_append (IsTreeOver P) (ruled_sides P term_of rule_term_of base part) (row_sides P term_of rule_term_of (base + width part) parts) (sides_over base part h.0) (row_sides_over (base + width part) parts h.1)
