-- Terms of a protocol as terms of clauses are over it: those of its process where each leaf is bound, and those of its rules and queries.
use Rattle.std.proofs.Common.{◌≡◌, ◌∙◌, ℕ, zero, suc, ◌+◌, ◌<◌, ◌≤◌, Bool, true, false, cond, Some, List, [], ◌∷◌, map, length, slice_get, refl, ap, sym, subst, arith}
use Rattle.std.specs.Option.{option_map_or}
use Rattle.std.specs.List.{AllByRecursion}
use Rattle.std.proofs.lemmas.List.{length-map}
use Rattle.spec_trees.specs.Tree.{Tree, Trees, Leaf, Node, none, more}
use Rattle.spec_trees.specs.Leaves.{leaves, row_leaves}
use Rattle.spec_calculus.specs.Syntax.{Name, Symbol, Constructor, Declared, EventTerm, Protocol}
use Rattle.spec_calculus.specs.Syntax as calculus
use Rattle.spec_calculus.specs.Points.{numbered}
use Rattle.spec_well_formed.specs.Signature.{signature_of}
use Rattle.spec_well_formed.specs.Terms as below
use Rattle.spec_well_formed.specs.Terms.{EachSymbol, EachSymbolInRow, TakesArguments, TakesPatterns, IsEventOver}
use Rattle.spec_terms.specs.Term.{Sym, Ctor, Data, Term}
use Rattle.spec_clauses.proofs.Lists.{all_first, all_second, all_weaker}
use Rattle.spec_translation.specs.Conversion.{free_term, row_length, symbol_over, converted, converted_row}
use Rattle.spec_certificate_text.specs.OfProtocol.{IsEvent, IsSymbolOf}
use Rattle.spec_readable_verdicts.proofs.Facts.{IsTreeOver, IsTermOver, AreTermsOver}

-- the two counts of a row are one
rows_alike : {L S : Type 0} (ts : Trees L S) → row_length ts ≡ below.row_length ts
rows_alike none = refl
rows_alike (more t ts) = omega (arith, rows_alike ts)

-- what stands at an index
pub there_at : {X : Type 0} (xs : List X) (k : ℕ) → k < length xs → (x : X) × (slice_get xs k ≡ Some x)
there_at [] k h = absurd (omega (arith, h))
there_at (x ∷ xs) zero h = (x, refl)
there_at (x ∷ xs) (suc k) h = there_at xs k (omega (arith, h))

module _ (P : Protocol) where
  converted_row-length : {L X : Type 0} (leaf : L → Tree X Sym) (ts : Trees L Symbol) → below.row_length (converted_row P leaf ts) ≡ below.row_length ts
  converted_row-length leaf none = refl
  converted_row-length leaf (more t ts) = ap (λ n. n + 1) (converted_row-length leaf ts)

  -- a declared constructor is told apart by whether it is a data constructor
  constructor_over : (f n : ℕ) (d : Declared) → numbered P.constructors f ≡ Some d → d.arity ≡ n → IsSymbolOf P (cond (option_map_or (λ declared. declared.is_data) (numbered P.constructors f) false) (Data f) (Ctor f)) n
  constructor_over f n d e is = subst (λ o. IsSymbolOf P (cond (option_map_or (λ declared. declared.is_data) o false) (Data f) (Ctor f)) n) (sym e) (go d.is_data refl) where
    go : (b : Bool) → d.is_data ≡ b → IsSymbolOf P (cond b (Data f) (Ctor f)) n
    go true kind = record { declared = d; there = e; data_is = kind; arity = is }
    go false kind = record { declared = d; there = e; data_is = kind; arity = is }

  symbol_of : (f : Symbol) (n : ℕ) → TakesArguments (signature_of P) f n → IsSymbolOf P (symbol_over P n f) n
  symbol_of (Constructor f) n h = constructor_over f n h.declared h.stands h.is
  symbol_of calculus.Tuple n h = (refl, h.0, h.1)

  -- a constructor or a tuple over a row of trees of any kind
  pub root_over : {L S : Type 0} (f : Symbol) (ts : Trees L S) → TakesArguments (signature_of P) f (below.row_length ts) → IsSymbolOf P (symbol_over P (row_length ts) f) (below.row_length ts)
  root_over f ts h = subst (IsSymbolOf P (symbol_over P (row_length ts) f)) (rows_alike ts) (symbol_of f (row_length ts) (subst (TakesArguments (signature_of P) f) (sym (rows_alike ts)) h))

  module _ {L X : Type 0} (Q : Symbol → ℕ → Type 0) (takes : (f : Symbol) (n : ℕ) → Q f n → TakesArguments (signature_of P) f n) (leaf : L → Tree X Sym) where
    of_root : (f : Symbol) (ts : Trees L Symbol) → Q f (below.row_length ts) → IsSymbolOf P (symbol_over P (row_length ts) f) (below.row_length (converted_row P leaf ts))
    of_root f ts h = subst (IsSymbolOf P (symbol_over P (row_length ts) f)) (sym (converted_row-length leaf ts)) (root_over f ts (takes f (below.row_length ts) h))

    mutual
      pub converted_over : (t : Tree L Symbol) → EachSymbol Q t → AllByRecursion (λ x. IsTreeOver P (leaf x)) (leaves t) → IsTreeOver P (converted P leaf t)
      converted_over (Leaf x) h each = each.0
      converted_over (Node f ts) h each = (of_root f ts h.0, converted_row_over ts h.1 each)

      converted_row_over : (ts : Trees L Symbol) → EachSymbolInRow Q ts → AllByRecursion (λ x. IsTreeOver P (leaf x)) (row_leaves ts) → EachSymbolInRow (IsSymbolOf P) (converted_row P leaf ts)
      converted_row_over none h each = tt
      converted_row_over (more t ts) h each = (
        converted_over t h.0 (all_first (λ x. IsTreeOver P (leaf x)) (leaves t) (row_leaves ts) each),
        converted_row_over ts h.1 (all_second (λ x. IsTreeOver P (leaf x)) (leaves t) (row_leaves ts) each),
      )

  -- a pattern's constructors take their arguments too
  pub patterns_take : (f : Symbol) (n : ℕ) → TakesPatterns (signature_of P) f n → TakesArguments (signature_of P) f n
  patterns_take (Constructor f) n h = record { declared = h.declared; stands = h.stands; is = h.is }
  patterns_take calculus.Tuple n h = h

  -- a declared free name
  pub free_over : (n : ℕ) → (0 < n) × (n ≤ length P.frees) → IsTermOver P (free_term n)
  free_over zero h = absurd (omega (arith, h.0))
  free_over (suc k) h = let found = there_at P.frees k (omega (arith, h.1)) in ((record { declared = found.0; there = found.1 }, refl), tt)

  -- a term whose leaves stand for trees over the protocol
  pub term_over : {X : Type 0} (leaf : Name → Tree X Sym) (IsLeaf : Name → Type 0) → ((x : Name) → IsLeaf x → IsTreeOver P (leaf x)) → (t : calculus.Term) → below.IsTermOver (signature_of P) IsLeaf t → IsTreeOver P (converted P leaf t)
  term_over leaf IsLeaf each t h =
      converted_over (TakesArguments (signature_of P)) (λ f n k. k) leaf t h.arities (all_weaker IsLeaf (λ x. IsTreeOver P (leaf x)) each (leaves t) h.known)

  pub terms_over : (leaf : Name → Term) (IsLeaf : Name → Type 0) → ((x : Name) → IsLeaf x → IsTermOver P (leaf x)) → (ts : List calculus.Term) → AllByRecursion (below.IsTermOver (signature_of P) IsLeaf) ts → AreTermsOver P (map (converted P leaf) ts)
  terms_over leaf IsLeaf each [] h = tt
  terms_over leaf IsLeaf each (t ∷ ts) h = (term_over leaf IsLeaf each t h.0, terms_over leaf IsLeaf each ts h.1)

  -- the event of these terms
  pub event_over : (leaf : Name → Term) (IsLeaf : Name → Type 0) → ((x : Name) → IsLeaf x → IsTermOver P (leaf x)) → (e : EventTerm) → IsEventOver (signature_of P) IsLeaf e → IsEvent P e.event (length (map (converted P leaf) e.arguments)) × AreTermsOver P (map (converted P leaf) e.arguments)
  event_over leaf IsLeaf each e h = (
    record { declared = h.declared.declared; there = h.declared.stands; arity = h.declared.is ∙ sym (length-map e.arguments (converted P leaf)) },
    terms_over leaf IsLeaf each e.arguments h.arguments,
  )
