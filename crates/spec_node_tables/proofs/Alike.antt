-- Where each term is written as it stands, clauses are written as ever.
use Rattle.std.proofs.Common.{◌≡◌, ℕ, List, [], ◌∷◌, ◌++◌, map, refl, ap, ◌∙◌}
use Rattle.std.specs.Prelude.{codes}
use Rattle.spec_trees.specs.Tree.{trees}
use Rattle.spec_calculus.specs.Syntax.{Protocol}
use Rattle.spec_terms.specs.Term.{Term}
use Rattle.spec_clauses.specs.Diff.{Diff}
use Rattle.spec_clauses.specs.Fact.{Fact, Att, Mess, Tab, Ev, Mev, Bad, Clause}
use Rattle.spec_certificate_text.specs.Loose.{row, behind}
use Rattle.spec_certificate_text.specs.Sides.{spelled_diff, spelled_clause}
use Rattle.spec_certificate_text.specs.Words.{event_word, table_word}
use Rattle.spec_certificate_text.specs.Written.{written_row}
use Rattle.spec_certificate_text.specs.Text.{term_text, fact_text, diff_text, diffs_text, hypotheses_text, clause_text}
use Rattle.spec_certificate_text.specs.Text as plain
use Rattle.spec_node_tables.specs.Text.{later_terms, terms_text, fact_over, sides_over, later_diffs, diffs_over, later_hypotheses, hypotheses_over, clause_over}

module _ (P : Protocol) where
  later_alike : (ts : List Term) (k : List ℕ) → behind (written_row P (trees ts)) k ≡ later_terms (term_text P) P ts k
  later_alike [] k = refl
  later_alike (t ∷ ts) k = ap (λ r. 44 ∷ term_text P t r) (later_alike ts k)

  terms_alike : (ts : List Term) (k : List ℕ) → row (written_row P (trees ts)) k ≡ terms_text (term_text P) P ts k
  terms_alike [] k = refl
  terms_alike (t ∷ ts) k = ap (λ r. term_text P t r) (later_alike ts k)

  pub fact_alike : (f : Fact Term) (k : List ℕ) → fact_text P f k ≡ fact_over (term_text P) P f k
  fact_alike (Att phase t) k = refl
  fact_alike (Mess phase t u) k = refl
  fact_alike (Tab n []) k = refl
  fact_alike (Tab n (t ∷ ts)) k = ap (λ r. codes "tab(" ++ (table_word P n ++ (40 ∷ r))) (terms_alike (t ∷ ts) (41 ∷ 41 ∷ k))
  fact_alike (Ev e []) k = refl
  fact_alike (Ev e (t ∷ ts)) k = ap (λ r. codes "ev(" ++ (event_word P e ++ (40 ∷ r))) (terms_alike (t ∷ ts) (41 ∷ 41 ∷ k))
  fact_alike (Mev e []) k = refl
  fact_alike (Mev e (t ∷ ts)) k = ap (λ r. codes "mev(" ++ (event_word P e ++ (40 ∷ r))) (terms_alike (t ∷ ts) (41 ∷ 41 ∷ k))
  fact_alike (Bad ts) k = ap (λ r. codes "bad(" ++ r) (terms_alike ts (41 ∷ k))

  diff_alike : (d : Diff) (k : List ℕ) → diff_text P d k ≡ sides_over (term_text P) P (spelled_diff d) k
  diff_alike d k =
      let s = spelled_diff d in
      ap (λ r. codes "diff(" ++ row (written_row P (trees s.left)) (59 ∷ r)) (terms_alike s.right (41 ∷ k)) ∙ ap (λ r. codes "diff(" ++ r) (terms_alike s.left (59 ∷ terms_text (term_text P) P s.right (41 ∷ k)))

  later_diffs_alike : (ds : List Diff) (k : List ℕ) → plain.later_diffs P ds k ≡ later_diffs (term_text P) P (map spelled_diff ds) k
  later_diffs_alike [] k = refl
  later_diffs_alike (d ∷ ds) k = ap (λ r. 44 ∷ 32 ∷ diff_text P d r) (later_diffs_alike ds k) ∙ ap (λ r. 44 ∷ 32 ∷ r) (diff_alike d (later_diffs (term_text P) P (map spelled_diff ds) k))

  diffs_alike : (ds : List Diff) (k : List ℕ) → diffs_text P ds k ≡ diffs_over (term_text P) P (map spelled_diff ds) k
  diffs_alike [] k = refl
  diffs_alike (d ∷ ds) k = ap (λ r. diff_text P d r) (later_diffs_alike ds k) ∙ diff_alike d (later_diffs (term_text P) P (map spelled_diff ds) k)

  later_hypotheses_alike : (hs : List (Fact Term)) (ds : List Diff) (k : List ℕ) → plain.later_hypotheses P hs ds k ≡ later_hypotheses (term_text P) P hs (map spelled_diff ds) k
  later_hypotheses_alike [] ds k = later_diffs_alike ds k
  later_hypotheses_alike (h ∷ hs) ds k =
      ap (λ r. 44 ∷ 32 ∷ fact_text P h r) (later_hypotheses_alike hs ds k) ∙ ap (λ r. 44 ∷ 32 ∷ r) (fact_alike h (later_hypotheses (term_text P) P hs (map spelled_diff ds) k))

  hypotheses_alike : (hs : List (Fact Term)) (ds : List Diff) (k : List ℕ) → hypotheses_text P hs ds k ≡ hypotheses_over (term_text P) P hs (map spelled_diff ds) k
  hypotheses_alike [] ds k = diffs_alike ds k
  hypotheses_alike (h ∷ hs) ds k = ap (λ r. fact_text P h r) (later_hypotheses_alike hs ds k) ∙ fact_alike h (later_hypotheses (term_text P) P hs (map spelled_diff ds) k)

  pub clause_alike : (c : Clause Term) (k : List ℕ) → clause_text P c k ≡ clause_over (term_text P) P (spelled_clause c) k
  clause_alike c k =
      ap (λ r. hypotheses_text P c.hypotheses c.diffs (61 ∷ 62 ∷ 32 ∷ r)) (fact_alike c.conclusion k) ∙ hypotheses_alike c.hypotheses c.diffs (61 ∷ 62 ∷ 32 ∷ fact_over (term_text P) P c.conclusion k)
