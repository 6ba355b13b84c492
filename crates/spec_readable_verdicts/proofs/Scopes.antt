-- Visits over a protocol: each leaf that is bound is found in the scope, and the terms and facts that were gathered are over the protocol. So
-- a term of the process where it is visited is over it, and a visit stays so as it goes on.
use Rattle.std.proofs.Common.{◌≡◌, ◌∙◌, ℕ, ◌+◌, Bool, true, false, cond, Option, Some, None, is_some, List, [], ◌∷◌, ◌++◌, map, length, refl, ap, sym, subst, inl, inr, arith}
use Rattle.std.specs.Prelude.{filter_map, option_map, unwrap_or}
use Rattle.std.specs.List.{AllByRecursion}
use Rattle.std.proofs.lemmas.List.{length-map}
use Rattle.spec_trees.specs.Tree.{trees, bind}
use Rattle.spec_trees.specs.Leaves.{leaves, row_leaves}
use Rattle.spec_calculus.specs.Syntax.{Name, Made, Variable, Hole, Bind, Equal, Pattern, Protocol}
use Rattle.spec_calculus.specs.Syntax as calculus
use Rattle.spec_calculus.specs.Values.{same_name}
use Rattle.spec_calculus.proofs.Rules.{same_name-refl}
use Rattle.spec_well_formed.specs.Signature.{signature_of}
use Rattle.spec_well_formed.specs.Terms.{IsKnown, IsTermBelow, IsPatternBelow, IsRowBelow, IsHoleBelow, EachSymbolInRow, TakesPatterns, bound_by_hole, bound_by}
use Rattle.spec_terms.specs.Term.{Term, Subst}
use Rattle.spec_clauses.specs.Fact.{Att, Mess}
use Rattle.spec_clauses.specs.Inclusion.{Has}
use Rattle.spec_clauses.proofs.Inclusion.{Has-append, Has-one, Has-from_Contains}
use Rattle.spec_clauses.proofs.Lists.{all_append, all_first, all_second, all_weaker}
use Rattle.spec_translation.specs.Conversion.{StandsFor, Scope, free_term, found_in, leaf_term, term_in, Fresh, fresh_leaf, hole_term, pattern_term, hole_standing, pattern_scope}
use Rattle.spec_translation.specs.Visit.{Visit, standing_under, visit_under, is_public_channel, sent}
use Rattle.spec_translation.proofs.Conversions.{found_in-under}
use Rattle.spec_translation.proofs.Goal.{all_filter_map}
use Rattle.spec_readable_verdicts.proofs.Over.{bind-over}
use Rattle.spec_certificate_text.specs.OfProtocol.{IsPhase, IsSymbolOf}
use Rattle.spec_readable_verdicts.proofs.Facts.{IsTermOver, AreTermsOver, IsFactOver, IsDiffOver, terms_over-under, facts_over-under, diffs_over-under}
use Rattle.spec_readable_verdicts.proofs.Conversion.{converted_over, patterns_take, free_over, term_over}

-- something of that name is found in the scope
abbrev pub IsFound : Scope → Name → Type 0
IsFound scope x = is_some (found_in scope x) ≡ true

-- whatever stands in front or behind
found_later : (k : Bool) (t : Term) (o p : Option Term) → (is_some o ≡ true → is_some p ≡ true) → is_some (cond k (Some t) o) ≡ true → is_some (cond k (Some t) p) ≡ true
found_later true t o p more h = refl
found_later false t o p more h = more h

pub found_first : (a b : Scope) (x : Name) → IsFound a x → IsFound (a ++ b) x
found_first [] b x h = cc
found_first (d ∷ a) b x h = found_later (same_name d.name x) d.term (found_in a x) (found_in (a ++ b) x) (found_first a b x) h

found_behind : (d : StandsFor) (later : Scope) (x : Name) → IsFound later x → IsFound (d ∷ later) x
found_behind d later x h = go (same_name d.name x) where
  go : (k : Bool) → is_some (cond k (Some d.term) (found_in later x)) ≡ true
  go true = refl
  go false = h

pub found_last : (a b : Scope) (x : Name) → IsFound b x → IsFound (a ++ b) x
found_last [] b x h = h
found_last (d ∷ a) b x h = found_behind d (a ++ b) x (found_last a b x h)

pub found_at : (d : StandsFor) (later : Scope) → IsFound (d ∷ later) d.name
found_at d later = ap (λ k. is_some (cond k (Some d.term) (found_in later d.name))) (same_name-refl d.name)

-- each variable that a pattern binds
pub found_bound : (at : Fresh) (holes : List Hole) (x : Name) → Has (filter_map bound_by_hole holes) x → IsFound (filter_map (hole_standing at) holes) x
found_bound at [] x h = elim h.1 [ ]
found_bound at (Equal t ∷ holes) x h = found_bound at holes x h
found_bound at (Bind i ∷ holes) x h =
    let d : StandsFor = record { name = Variable i; term = fresh_leaf at i } in
    let later = filter_map (hole_standing at) holes in
    elim ((Has-append (Variable i ∷ []) (filter_map bound_by_hole holes) x).0 h) as (λ _. IsFound (d ∷ later) x) [
      | inl k ↦ subst (IsFound (d ∷ later)) (sym (Has-one k)) (found_at d later)
      | inr k ↦ found_behind d later x (found_bound at holes x k)
    ]

module _ (P : Protocol) where
  abbrev pub IsScopeOver : Scope → Type 0
  IsScopeOver scope = AllByRecursion (λ d. IsTermOver P d.term) scope

  -- what is found
  found_over : (scope : Scope) (x : Name) (t : Term) → IsScopeOver scope → found_in scope x ≡ Some t → IsTermOver P t
  found_over [] x t h e = cc
  found_over (d ∷ later) x t h e = go (same_name d.name x) (found_over later x t h.1) e where
    go : (k : Bool) → (found_in later x ≡ Some t → IsTermOver P t) → cond k (Some d.term) (found_in later x) ≡ Some t → IsTermOver P t
    go true others k = let same : d.term ≡ t = cc in subst (IsTermOver P) same h.0
    go false others k = others k

  unwrapped_over : (scope : Scope) (x : Name) → IsScopeOver scope → IsFound scope x → IsTermOver P (unwrap_or (found_in scope x) (free_term 0))
  unwrapped_over scope x h found = go (found_in scope x) refl found where
    go : (o : Option Term) → found_in scope x ≡ o → is_some o ≡ true → IsTermOver P (unwrap_or o (free_term 0))
    go None e k = cc
    go (Some t) e k = found_over scope x t h e

  -- A visit where these leaves are bound, with so many inputs and replications above it.
  pub record IsVisitOver (bound : List Name) (above : ℕ) (v : Visit) : Type 0 where
    pub scope : IsScopeOver v.scope
    pub found : (x : Name) → Has bound x → IsFound v.scope x
    pub hypotheses : AllByRecursion (IsFactOver P) v.hypotheses
    pub diffs : AllByRecursion (IsDiffOver P) v.diffs
    pub messages : AreTermsOver P v.messages
    pub sessions : AreTermsOver P v.sessions
    pub count : length v.messages + length v.sessions ≡ above
    pub phase : IsPhase P v.phase

  module _ (bound : List Name) (above : ℕ) (v : Visit) (is : IsVisitOver bound above v) where
    -- terms where they stand
    pub leaf_over : (x : Name) → IsKnown (signature_of P) bound x → IsTermOver P (leaf_term v.scope x)
    leaf_over (calculus.Free n) h = free_over P n h
    leaf_over (Made p) h = unwrapped_over v.scope (Made p) is.scope (is.found (Made p) (Has-from_Contains bound (Made p) h))
    leaf_over (Variable i) h = unwrapped_over v.scope (Variable i) is.scope (is.found (Variable i) (Has-from_Contains bound (Variable i) h))

    pub term_in_over : (t : calculus.Term) → IsTermBelow (signature_of P) bound t → IsTermOver P (term_in P v.scope t)
    term_in_over t h = term_over P (leaf_term v.scope) (IsKnown (signature_of P) bound) leaf_over t h

    hole_over : (at : Fresh) (hole : Hole) → IsHoleBelow (signature_of P) bound hole → IsTermOver P (hole_term P v.scope at hole)
    hole_over at (Bind i) h = tt
    hole_over at (Equal t) h = term_in_over t h

    pub pattern_over : (at : Fresh) (pattern : Pattern) → IsPatternBelow (signature_of P) bound pattern → IsTermOver P (pattern_term P v.scope at pattern)
    pattern_over at pattern h =
        converted_over P (TakesPatterns (signature_of P)) (patterns_take P) (hole_term P v.scope at) pattern h.arities
        (all_weaker (IsHoleBelow (signature_of P) bound) (λ hole. IsTermOver P (hole_term P v.scope at hole)) (hole_over at) (leaves pattern) h.holes)

    -- the terms of patterns in a row
    row_terms : (at : Fresh) (patterns : List Pattern) → AllByRecursion (IsHoleBelow (signature_of P) bound) (row_leaves (trees patterns)) → EachSymbolInRow (TakesPatterns (signature_of P)) (trees patterns) → AreTermsOver P (map (pattern_term P v.scope at) patterns)
    row_terms at [] holes arities = tt
    row_terms at (p ∷ ps) holes arities =
        let IsBelow = IsHoleBelow (signature_of P) bound in
        let own = all_weaker IsBelow (λ hole. IsTermOver P (hole_term P v.scope at hole)) (hole_over at) (leaves p) (all_first IsBelow (leaves p) (row_leaves (trees ps)) holes) in
        (converted_over P (TakesPatterns (signature_of P)) (patterns_take P) (hole_term P v.scope at) p arities.0 own, row_terms at ps (all_second IsBelow (leaves p) (row_leaves (trees ps)) holes) arities.1)

    pub row_over : (at : Fresh) (patterns : List Pattern) → IsRowBelow (signature_of P) bound patterns → AreTermsOver P (map (pattern_term P v.scope at) patterns)
    row_over at patterns h = row_terms at patterns h.holes h.arities

    -- under a substitution
    scope_over-under : (s : Subst) → ((x : ℕ) → IsTermOver P (s x)) → (scope : Scope) → IsScopeOver scope → IsScopeOver (map (standing_under s) scope)
    scope_over-under s each [] h = tt
    scope_over-under s each (d ∷ ds) h = (bind-over (IsSymbolOf P) s each d.term h.0, scope_over-under s each ds h.1)

    still_found : (s : Subst) (x : Name) → IsFound v.scope x → IsFound (map (standing_under s) v.scope) x
    still_found s x h = ap is_some (found_in-under s v.scope x) ∙ go (found_in v.scope x) h where
      go : (o : Option Term) → is_some o ≡ true → is_some (option_map (bind s) o) ≡ true
      go None k = k
      go (Some t) k = refl

    pub visit_over-under : (s : Subst) → ((x : ℕ) → IsTermOver P (s x)) → IsVisitOver bound above (visit_under s v)
    visit_over-under s each = record {
      scope = scope_over-under s each v.scope is.scope;
      found = λ x h. still_found s x (is.found x h);
      hypotheses = facts_over-under P s each v.hypotheses is.hypotheses;
      diffs = diffs_over-under P s each v.diffs is.diffs;
      messages = terms_over-under P s each v.messages is.messages;
      sessions = terms_over-under P s each v.sessions is.sessions;
      count = omega (arith, length-map v.messages (bind s), length-map v.sessions (bind s), is.count);
      phase = is.phase;
    }

    -- with what a pattern binds
    pub scope_with : (at : Fresh) (pattern : Pattern) → IsScopeOver (v.scope ++ pattern_scope at pattern)
    scope_with at pattern =
        all_append (λ d. IsTermOver P d.term) v.scope (pattern_scope at pattern) is.scope (all_filter_map (λ d. IsTermOver P d.term) (hole_standing at) standing_over (leaves pattern))
      where
        standing_over : (hole : Hole) (d : StandsFor) → hole_standing at hole ≡ Some d → IsTermOver P d.term
        standing_over (Bind i) d e =
            let made : StandsFor = record { name = Variable i; term = fresh_leaf at i } in
            let same : made ≡ d = cc in subst (λ x. IsTermOver P x.term) same tt
        standing_over (Equal t) d e = cc

    pub found_with : (at : Fresh) (pattern : Pattern) (x : Name) → Has (bound_by pattern ++ bound) x → IsFound (v.scope ++ pattern_scope at pattern) x
    found_with at pattern x h =
        elim ((Has-append (bound_by pattern) bound x).0 h) as (λ _. IsFound (v.scope ++ pattern_scope at pattern) x) [
          | inl k ↦ found_last v.scope (pattern_scope at pattern) x (found_bound at (leaves pattern) x k)
          | inr k ↦ found_first v.scope (pattern_scope at pattern) x (is.found x k)
        ]

  -- what is sent
  pub sent_over : (phase : ℕ) (channel message : Term) → IsPhase P phase → IsTermOver P channel → IsTermOver P message → IsFactOver P (sent P phase channel message)
  sent_over phase channel message is first second = go (is_public_channel P channel) where
    go : (k : Bool) → IsFactOver P (cond k (Att phase message) (Mess phase channel message))
    go true = record { predicate = is; terms = (second, tt) }
    go false = record { predicate = is; terms = (first, (second, tt)) }
