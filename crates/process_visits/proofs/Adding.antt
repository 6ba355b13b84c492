-- Clauses that are added, unless they are too large.
use Rattle.std.proofs.Common.{◌≡◌, ◌+◌, Bool, true, false, not, ◌||◌, nat_le, Ok, Err, Result, List, [], ◌∷◌, map, refl, ap, sym, subst, ◌∙◌}
use Rattle.std.specs.Prelude.{IfOk, MatchBool, flat_map}
use Rattle.std.specs.List.{list_any}
use Rattle.spec_terms.specs.Term.{Term}
use Rattle.spec_calculus.specs.Bounds.{most_symbols}
use Rattle.spec_clauses.specs.Diff.{Diff, numbered_diff, diff_size}
use Rattle.spec_clauses.specs.Fact.{Fact, Clause, total, fact_size, clause_size}
use Rattle.spec_clauses.specs.Flat.{flat}
use Rattle.spec_clauses.specs.Renaming.{DifferInBound}
use Rattle.spec_clauses.proofs.DiffNumbering.{numbered-numbered, size-numbered}
use Rattle.spec_clauses.proofs.NormTidied.{same_norms}
use Rattle.spec_clauses.specs.Limits.{is_large_clause, is_large_raw}
use Rattle.spec_clauses.specs.Norm.{norms}
use Rattle.term_tree.specs.Bank.{Grows}
use Rattle.term_tree.specs.declared.bank.Id.{Id}
use Rattle.spec_translation.specs.Visit.{Visit, raw_clause}
use Rattle.clause_diffs.specs.Diffs.{DiffOf, diffs_at}
use Rattle.clause_form.specs.Seen.{clause_at, NamesFact, NameFacts, AreClausesIn, NameClauses, IdClause}
use Rattle.clause_form.proofs.Copying.{NameClauses-grow}
use Rattle.process_visits.specs.declared.listing.Listing.{Listing}
use Rattle.process_visits.specs.Forms.{Adds, ShowsClause}
use Rattle.unified_visits.specs.Visits.{ShowDiffs}

-- numbering once is numbering twice
pub numbered_twice : (ds es : List Diff) → map numbered_diff ds ≡ es → map numbered_diff ds ≡ map numbered_diff es
numbered_twice ds es e = sym (again ds) ∙ ap (map numbered_diff) e where
  again : (fs : List Diff) → map numbered_diff (map numbered_diff fs) ≡ map numbered_diff fs
  again [] = refl
  again (d ∷ fs) = let first = numbered-numbered d in let others = again fs in λ i. first i ∷ others i

-- clauses of a bank that grew
pub clauses_later : (old now : List Term) (cs : List IdClause) → Grows old now → AreClausesIn old cs → NameClauses now cs (map (clause_at old) cs)
clauses_later old now cs grows known = NameClauses-grow old now cs (map (clause_at old) cs) grows record { known = known; are = refl }

-- a raw clause whose parts are named is, but for the numbers of bound variables
pub raw_named : (all : List Term) (hyps : List (Fact Id)) (ds : List (DiffOf Id)) (concl : Fact Id) (v : Visit) (f : Fact Term) → NameFacts all hyps v.hypotheses → ShowDiffs all ds v.diffs → NamesFact all concl f
    → ShowsClause all (record { hypotheses = hyps; diffs = ds; conclusion = concl }) (raw_clause v f)
raw_named all hyps ds concl v f first middle last = record {
  known = record { hypotheses = first.known; diffs = middle.known; conclusion = last.known };
  differ = record { hypotheses = first.are; diffs = numbered_twice (diffs_at all ds) v.diffs middle.are; conclusion = last.is };
}

-- Clauses that differ in the numbers of bound variables alone have the same sizes.

same_sizes : (ds es : List Diff) → map numbered_diff ds ≡ map numbered_diff es → total diff_size ds ≡ total diff_size es
same_sizes ds es e =
    sym (total_numbered ds) ∙ (ap (total diff_size) e ∙ total_numbered es) where
      total_numbered : (fs : List Diff) → total diff_size (map numbered_diff fs) ≡ total diff_size fs
      total_numbered [] = refl
      total_numbered (d ∷ fs) = let first = size-numbered d in let others = total_numbered fs in λ i. first i + others i

same_size : (c d : Clause Term) → DifferInBound c d → clause_size c ≡ clause_size d
same_size c d differ =
    let diffs = same_sizes c.diffs d.diffs differ.diffs in
    λ i. total fact_size (differ.conclusion i ∷ differ.hypotheses i) + diffs i

same_large : (c d : Clause Term) → DifferInBound c d → is_large_clause c ≡ is_large_clause d
same_large c d differ = ap (λ n. not (nat_le n most_symbols)) (same_size c d differ)

-- a flat part of the one, and of the other
abbrev part_of : Clause Term → Fact Term → Clause Term
part_of c f = record { hypotheses = flat_map flat c.hypotheses; diffs = c.diffs; conclusion = f }

parts_large : (c d : Clause Term) → DifferInBound c d → (fs : List (Fact Term)) → list_any is_large_clause (map (part_of c) fs) ≡ list_any is_large_clause (map (part_of d) fs)
parts_large c d differ [] = refl
parts_large c d differ (f ∷ fs) =
    let first = same_large (part_of c f) (part_of d f) record { hypotheses = ap (flat_map flat) differ.hypotheses; diffs = differ.diffs; conclusion = refl } in
    let others = parts_large c d differ fs in
    λ i. first i || others i

pub same_large_raw : (c d : Clause Term) → DifferInBound c d → is_large_raw c ≡ is_large_raw d
same_large_raw c d differ =
    let whole = same_large c d differ in
    let parts = parts_large c d differ (flat c.conclusion) ∙ ap (λ f. list_any is_large_clause (map (part_of d) (flat f))) differ.conclusion in
    λ i. whole i || parts i

-- what `add` tells of a clause, of the raw clause that it names
module _ {E : Type 0} (r : Result Bool E) (mid new : List Term) (before after : Listing) (raw : IdClause) (c : Clause Term) (names : ShowsClause mid raw c)
    (adds : IfOk r (λ added. MatchBool added (Adds new before after (norms (clause_at mid raw))) (is_large_raw (clause_at mid raw) ≡ true)))
    (small : IfOk r (λ added. added ≡ true → is_large_raw (clause_at mid raw) ≡ false)) where
  pub is_added : IfOk r (λ added. added ≡ true → Adds new before after (norms c))
  is_added = go r adds where
    go : (s : Result Bool E) → IfOk s (λ added. MatchBool added (Adds new before after (norms (clause_at mid raw))) (is_large_raw (clause_at mid raw) ≡ true)) → IfOk s (λ added. added ≡ true → Adds new before after (norms c))
    go (Ok true) h = λ e. subst (λ cs. Adds new before after cs) (same_norms (clause_at mid raw) c names.differ) h
    go (Ok false) h = λ e. absurd (let same = e in cc)
    go (Err x) h = h

  -- whether it is large, beside another test that it passes
  pub is_told : (other : Bool) → other ≡ false → IfOk r (λ added. MatchBool added ((other || is_large_raw c) ≡ false) ((other || is_large_raw c) ≡ true))
  is_told other e = go r adds small where
    go : (s : Result Bool E) → IfOk s (λ added. MatchBool added (Adds new before after (norms (clause_at mid raw))) (is_large_raw (clause_at mid raw) ≡ true)) → IfOk s (λ added. added ≡ true → is_large_raw (clause_at mid raw) ≡ false)
        → IfOk s (λ added. MatchBool added ((other || is_large_raw c) ≡ false) ((other || is_large_raw c) ≡ true))
    go (Ok true) h k = ap (λ b. b || is_large_raw c) e ∙ (sym (same_large_raw (clause_at mid raw) c names.differ) ∙ k refl)
    go (Ok false) h k = ap (λ b. b || is_large_raw c) e ∙ (sym (same_large_raw (clause_at mid raw) c names.differ) ∙ h)
    go (Err x) h k = h

-- two tests that are passed
pub both_small : (a b : Bool) → a ≡ false → b ≡ false → (a || (b || false)) ≡ false
both_small a b e f = rw e (rw f refl)
