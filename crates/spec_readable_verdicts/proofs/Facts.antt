-- Facts, constraints and clauses over a protocol: each symbol and each event is one of the protocol's, with its number of arguments, and so
-- is each table, and phases are the protocol's; a constraint has as many left sides as right sides, one at least. So it stays under
-- substitutions, in flat parts and in norms.
use Rattle.std.proofs.Common.{◌≡◌, ◌∙◌, ℕ, ◌<◌, true, false, cond, List, [], ◌∷◌, map, length, refl, sym, subst, arith}
use Rattle.std.specs.Prelude.{filter, flat_map}
use Rattle.std.specs.List.{AllByRecursion}
use Rattle.std.proofs.lemmas.List.{length-map}
use Rattle.spec_trees.specs.Tree.{Tree, Trees, Leaf, Node, none, more, trees, node, bind}
use Rattle.spec_well_formed.specs.Terms.{row_length, EachSymbol, EachSymbolInRow}
use Rattle.spec_calculus.specs.Syntax.{Protocol}
use Rattle.spec_terms.specs.Term.{Sym, Term, Subst}
use Rattle.spec_clauses.specs.Diff.{Slot, Own, Bound, Side, Diff, diff_bind, slot_under, diff_under, rebound, bound_place, numbered_diff, same_diff}
use Rattle.spec_clauses.specs.Fact.{Fact, Att, Mess, Tab, Ev, Mev, Bad, Clause, terms_of, fact_under, clause_under, phase_of}
use Rattle.spec_clauses.specs.Flat.{is_data, parts, row_parts, flat, flat_parts}
use Rattle.spec_clauses.specs.Variables.{clause_variables}
use Rattle.spec_clauses.specs.Norm.{distinct, norms, numbering, is_needed, everything_known, tidied}
use Rattle.spec_clauses.specs.Inclusion.{Has}
use Rattle.spec_clauses.proofs.Inclusion.{Has-within, Has-map_source}
use Rattle.spec_clauses.proofs.Lists.{all_append, all-flat_map, all_weaker}
use Rattle.spec_clauses.proofs.Norm.{few, simplified, norm_made}
use Rattle.spec_clauses.proofs.NormKeeps.{within-filter, within-distinct, few-within, generalized_or}
use Rattle.spec_clauses.proofs.NormAnswers.{norms-source}
use Rattle.spec_translation.proofs.Goal.{all_at, all_of_each}
use Rattle.spec_certificate_text.specs.OfProtocol.{IsEvent, IsTable, IsPhase, IsSymbolOf}
use Rattle.spec_readable_verdicts.proofs.Over.{bind-over}

-- a tree over the protocol's symbols: a term, or a side of a constraint
abbrev pub IsTreeOver : {X : Type 0} → Protocol → Tree X Sym → Type 0
IsTreeOver P t = EachSymbol (IsSymbolOf P) t

abbrev pub IsTermOver : Protocol → Term → Type 0
IsTermOver P t = EachSymbol (IsSymbolOf P) t

abbrev pub IsSideOver : Protocol → Side → Type 0
IsSideOver P t = EachSymbol (IsSymbolOf P) t

abbrev pub AreTermsOver : Protocol → List Term → Type 0
AreTermsOver P ts = AllByRecursion (IsTermOver P) ts

pub zero_phase : (P : Protocol) → IsPhase P 0
zero_phase P = (omega arith, omega arith)

-- the fact's phase is one of the protocol's, or its event or its table, with as many arguments
abbrev pub HasPredicateOf : Protocol → Fact Term → Type 0
HasPredicateOf P (Att phase t) = IsPhase P phase
HasPredicateOf P (Mess phase t u) = IsPhase P phase
HasPredicateOf P (Tab table ts) = IsTable P table (length ts)
HasPredicateOf P (Ev event ts) = IsEvent P event (length ts)
HasPredicateOf P (Mev event ts) = IsEvent P event (length ts)
HasPredicateOf P (Bad ts) = Unit {0}

pub record IsFactOver (P : Protocol) (f : Fact Term) : Type 0 where
  pub predicate : HasPredicateOf P f
  pub terms : AreTermsOver P (terms_of f)

-- as many left sides as right sides, one at least
pub record IsDiffOver (P : Protocol) (d : Diff) : Type 0 where
  pub left : AllByRecursion (IsSideOver P) d.left
  pub right : AllByRecursion (IsSideOver P) d.right
  pub paired : length d.left ≡ length d.right
  pub some : 0 < length d.left

pub record IsClauseOver (P : Protocol) (c : Clause Term) : Type 0 where
  pub hypotheses : AllByRecursion (IsFactOver P) c.hypotheses
  pub diffs : AllByRecursion (IsDiffOver P) c.diffs
  pub conclusion : IsFactOver P c.conclusion

row_length-trees : (ts : List Term) → row_length (trees ts) ≡ length ts
row_length-trees [] = refl
row_length-trees (t ∷ ts) = omega (arith, row_length-trees ts)

in_row : (P : Protocol) (ts : List Term) → AreTermsOver P ts → EachSymbolInRow (IsSymbolOf P) (trees ts)
in_row P [] h = tt
in_row P (t ∷ ts) h = (h.0, in_row P ts h.1)

-- a symbol of the protocol over as many terms over it
pub node_over : (P : Protocol) (f : Sym) (ts : List Term) → IsSymbolOf P f (length ts) → AreTermsOver P ts → IsTermOver P (node f ts)
node_over P f ts is h = (subst (IsSymbolOf P f) (sym (row_length-trees ts)) is, in_row P ts h)

module _ (P : Protocol) where
  -- under a substitution
  pub terms_over-under : (s : Subst) → ((x : ℕ) → IsTermOver P (s x)) → (ts : List Term) → AreTermsOver P ts → AreTermsOver P (map (bind s) ts)
  terms_over-under s each [] h = tt
  terms_over-under s each (t ∷ ts) h = (bind-over (IsSymbolOf P) s each t h.0, terms_over-under s each ts h.1)

  pub fact_over-under : (s : Subst) → ((x : ℕ) → IsTermOver P (s x)) → (f : Fact Term) → IsFactOver P f → IsFactOver P (fact_under s f)
  fact_over-under s each (Att phase t) h = record { predicate = h.predicate; terms = terms_over-under s each (t ∷ []) h.terms }
  fact_over-under s each (Mess phase t u) h = record { predicate = h.predicate; terms = terms_over-under s each (t ∷ u ∷ []) h.terms }
  fact_over-under s each (Tab table ts) h = record { predicate = subst (IsTable P table) (sym (length-map ts (bind s))) h.predicate; terms = terms_over-under s each ts h.terms }
  fact_over-under s each (Ev event ts) h = record { predicate = subst (IsEvent P event) (sym (length-map ts (bind s))) h.predicate; terms = terms_over-under s each ts h.terms }
  fact_over-under s each (Mev event ts) h = record { predicate = subst (IsEvent P event) (sym (length-map ts (bind s))) h.predicate; terms = terms_over-under s each ts h.terms }
  fact_over-under s each (Bad ts) h = record { predicate = tt; terms = terms_over-under s each ts h.terms }

  pub facts_over-under : (s : Subst) → ((x : ℕ) → IsTermOver P (s x)) → (fs : List (Fact Term)) → AllByRecursion (IsFactOver P) fs → AllByRecursion (IsFactOver P) (map (fact_under s) fs)
  facts_over-under s each [] h = tt
  facts_over-under s each (f ∷ fs) h = (fact_over-under s each f h.0, facts_over-under s each fs h.1)

  sides_over-bind : (f : Slot → Side) → ((k : Slot) → IsSideOver P (f k)) → (ts : List Side) → AllByRecursion (IsSideOver P) ts → AllByRecursion (IsSideOver P) (map (bind f) ts)
  sides_over-bind f each [] h = tt
  sides_over-bind f each (t ∷ ts) h = (bind-over (IsSymbolOf P) f each t h.0, sides_over-bind f each ts h.1)

  diff_over-bind : (f : Slot → Side) → ((k : Slot) → IsSideOver P (f k)) → (d : Diff) → IsDiffOver P d → IsDiffOver P (diff_bind f d)
  diff_over-bind f each d h = record {
    left = sides_over-bind f each d.left h.left;
    right = sides_over-bind f each d.right h.right;
    paired = length-map d.left (bind f) ∙ (h.paired ∙ sym (length-map d.right (bind f)));
    some = omega (arith, length-map d.left (bind f), h.some);
  }

  pub own_over : (t : Term) → IsTermOver P t → IsSideOver P (bind (λ x. Leaf (Own x)) t)
  own_over t h = bind-over (IsSymbolOf P) (λ x. Leaf (Own x)) (λ x. tt) t h

  slot_over-under : (s : Subst) → ((x : ℕ) → IsTermOver P (s x)) → (k : Slot) → IsSideOver P (slot_under s k)
  slot_over-under s each (Own x) = own_over (s x) (each x)
  slot_over-under s each (Bound i) = tt

  pub diffs_over-under : (s : Subst) → ((x : ℕ) → IsTermOver P (s x)) → (ds : List Diff) → AllByRecursion (IsDiffOver P) ds → AllByRecursion (IsDiffOver P) (map (diff_under s) ds)
  diffs_over-under s each [] h = tt
  diffs_over-under s each (d ∷ ds) h = (diff_over-bind (slot_under s) (slot_over-under s each) d h.0, diffs_over-under s each ds h.1)

  pub clause_over-under : (s : Subst) → ((x : ℕ) → IsTermOver P (s x)) → (c : Clause Term) → IsClauseOver P c → IsClauseOver P (clause_under s c)
  clause_over-under s each c h = record {
    hypotheses = facts_over-under s each c.hypotheses h.hypotheses;
    diffs = diffs_over-under s each c.diffs h.diffs;
    conclusion = fact_over-under s each c.conclusion h.conclusion;
  }

  -- and with bound variables numbered
  rebound_over : (r : ℕ → ℕ) (k : Slot) → IsSideOver P (rebound r k)
  rebound_over r (Own x) = tt
  rebound_over r (Bound i) = tt

  pub numbered_over : (d : Diff) → IsDiffOver P d → IsDiffOver P (numbered_diff d)
  numbered_over d h = diff_over-bind (rebound (bound_place d)) (rebound_over (bound_place d)) d h

  all_numbered_over : (ds : List Diff) → AllByRecursion (IsDiffOver P) ds → AllByRecursion (IsDiffOver P) (map numbered_diff ds)
  all_numbered_over [] h = tt
  all_numbered_over (d ∷ ds) h = (numbered_over d h.0, all_numbered_over ds h.1)

  -- flat parts
  mutual
    parts_over : (t : Term) → IsTermOver P t → AreTermsOver P (parts t)
    parts_over (Leaf x) h = (tt, tt)
    parts_over (Node f args) h =
        let row = row_parts_over args h.1 in
        elim (is_data f) as (λ b. AreTermsOver P (cond b (row_parts args) (Node f args ∷ []))) [ true ↦ row | false ↦ (h, tt) ]

    row_parts_over : (ts : Trees ℕ Sym) → EachSymbolInRow (IsSymbolOf P) ts → AreTermsOver P (row_parts ts)
    row_parts_over none h = tt
    row_parts_over (more t ts) h = all_append (IsTermOver P) (parts t) (row_parts ts) (parts_over t h.0) (row_parts_over ts h.1)

  pub known_over : (phase : ℕ) → IsPhase P phase → (ts : List Term) → AreTermsOver P ts → AllByRecursion (IsFactOver P) (map (Att phase) ts)
  known_over phase is [] h = tt
  known_over phase is (t ∷ ts) h = (record { predicate = is; terms = (h.0, tt) }, known_over phase is ts h.1)

  flat_over : (f : Fact Term) → IsFactOver P f → AllByRecursion (IsFactOver P) (flat f)
  flat_over (Att phase t) h = known_over phase h.predicate (parts t) (parts_over t h.terms.0)
  flat_over (Mess phase t u) h = (h, tt)
  flat_over (Tab n ts) h = (h, tt)
  flat_over (Ev event ts) h = (h, tt)
  flat_over (Mev event ts) h = (h, tt)
  flat_over (Bad ts) h = (h, tt)

  part_over : (c part : Clause Term) → IsClauseOver P c → Has (flat_parts c) part → IsClauseOver P part
  part_over c part h listed =
      let (f, there, same) = Has-map_source (λ f. record { hypotheses = flat_map flat c.hypotheses; diffs = c.diffs; conclusion = f }) (flat c.conclusion) part listed in
      subst (IsClauseOver P) (sym same) (record {
        hypotheses = all-flat_map (IsFactOver P) flat c.hypotheses (all_weaker (IsFactOver P) (λ g. AllByRecursion (IsFactOver P) (flat g)) flat_over c.hypotheses h.hypotheses);
        diffs = h.diffs;
        conclusion = all_at (IsFactOver P) there.1 (flat_over c.conclusion h.conclusion);
      })

  -- norms
  own_phase : (f : Fact Term) → HasPredicateOf P f → IsPhase P (phase_of f)
  own_phase (Att phase t) h = h
  own_phase (Mess phase t u) h = h
  own_phase (Tab n ts) h = zero_phase P
  own_phase (Ev event ts) h = zero_phase P
  own_phase (Mev event ts) h = zero_phase P
  own_phase (Bad ts) h = zero_phase P

  everything_over : (k : ℕ) → IsPhase P k → IsClauseOver P (everything_known k)
  everything_over k is = record { hypotheses = tt; diffs = tt; conclusion = record { predicate = is; terms = (tt, tt) } }

  simplified_over : (c : Clause Term) → IsClauseOver P c → IsClauseOver P (simplified c)
  simplified_over c h = generalized_or (few c) (IsClauseOver P) (λ x e. everything_over (phase_of c.conclusion) (own_phase c.conclusion h.conclusion.predicate)) (record {
    hypotheses = all_of_each (IsFactOver P) (few c).hypotheses (λ f there. all_at (IsFactOver P) (Has-within (few c).hypotheses c.hypotheses f (few-within c) there).1 h.hypotheses);
    diffs = all_of_each (IsDiffOver P) (few c).diffs (λ d there. all_at (IsDiffOver P) (Has-within (filter (is_needed c) c.diffs) c.diffs d (within-filter (is_needed c) c.diffs) there).1 h.diffs);
    conclusion = h.conclusion;
  })

  tidied_over : (c : Clause Term) → IsClauseOver P c → IsClauseOver P (tidied c)
  tidied_over c h =
      let numbered = map numbered_diff c.diffs in
      let kept = distinct same_diff numbered in record {
        hypotheses = h.hypotheses;
        diffs = all_of_each (IsDiffOver P) kept (λ d there. all_at (IsDiffOver P) (Has-within kept numbered d (within-distinct same_diff numbered) there).1 (all_numbered_over c.diffs h.diffs));
        conclusion = h.conclusion;
      }

  pub norms_over : (c d : Clause Term) → IsClauseOver P c → Has (norms c) d → IsClauseOver P d
  norms_over c d h listed =
      let (part, there, is) = norms-source c d listed in
      let plain = simplified part in
      let anew = clause_under (numbering (clause_variables plain)) plain in
      let over = clause_over-under (numbering (clause_variables plain)) (λ x. tt) plain (simplified_over part (part_over c part h there)) in
      subst (IsClauseOver P) (sym (norm_made part d is).1) (tidied_over anew over)
