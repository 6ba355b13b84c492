-- Texts with what follows them: the rest may stand behind.
use Rattle.std.proofs.Common.{◌≡◌, ℕ, zero, suc, List, [], ◌∷◌, ◌++◌, ap, ◌∙◌, refl, append_assoc, codes}
use Rattle.std.specs.Fmt.{decimal}
use Rattle.spec_trees.specs.Tree.{Leaf, Node, none, more, trees}
use Rattle.spec_calculus.specs.Syntax.{Protocol}
use Rattle.spec_terms.specs.Term.{Term}
use Rattle.spec_clauses.specs.Diff.{Diff}
use Rattle.spec_clauses.specs.Fact.{Fact, Clause}
use Rattle.spec_certificates.specs.Certificate.{Certificate}
use Rattle.spec_certificate_text.specs.Loose.{Head, Applied, Tupled, Made, Attackers, Loose, LooseRow, opening, closing, onto, row, behind}
use Rattle.spec_certificate_text.specs.Written.{LooseFact, written_fact, written_row}
use Rattle.spec_certificate_text.specs.Sides.{spelled_diff}
use Rattle.spec_certificate_text.specs.Text.{phase_text, fact_onto, fact_text, diff_text, later_diffs, diffs_text, later_hypotheses, hypotheses_text, clause_text, clause_lines, numbers_text, row_lines, certificate_text}

pub opening_followed : (head : Head) (k rest : List ℕ) → opening head k ++ rest ≡ opening head (k ++ rest)
opening_followed (Applied word) k rest = append_assoc word (40 ∷ k) rest
opening_followed Tupled k rest = refl
opening_followed (Made word digits) k rest = append_assoc word (64 ∷ (digits ++ (91 ∷ k))) rest ∙ ap (λ l. word ++ (64 ∷ l)) (append_assoc digits (91 ∷ k) rest)
opening_followed Attackers k rest = refl

mutual
  pub onto_followed : (t : Loose) (k rest : List ℕ) → onto t k ++ rest ≡ onto t (k ++ rest)
  onto_followed (Leaf word) k rest = append_assoc word k rest
  onto_followed (Node head ts) k rest = opening_followed head (row ts (closing head ∷ k)) rest ∙ ap (opening head) (row_followed ts (closing head ∷ k) rest)

  row_followed : (ts : LooseRow) (k rest : List ℕ) → row ts k ++ rest ≡ row ts (k ++ rest)
  row_followed none k rest = refl
  row_followed (more t ts) k rest = onto_followed t (behind ts k) rest ∙ ap (onto t) (behind_followed ts k rest)

  behind_followed : (ts : LooseRow) (k rest : List ℕ) → behind ts k ++ rest ≡ behind ts (k ++ rest)
  behind_followed none k rest = refl
  behind_followed (more t ts) k rest = ap (λ l. 44 ∷ l) (onto_followed t (behind ts k) rest ∙ ap (onto t) (behind_followed ts k rest))

pub phase_followed : (n : ℕ) (k rest : List ℕ) → phase_text n k ++ rest ≡ phase_text n (k ++ rest)
phase_followed zero k rest = refl
phase_followed (suc n) k rest = ap (λ l. 64 ∷ l) (append_assoc (decimal (suc n)) k rest)

loose_followed : (f : LooseFact) (k rest : List ℕ) → fact_onto f k ++ rest ≡ fact_onto f (k ++ rest)
loose_followed f k rest =
    append_assoc f.predicate (phase_text f.phase (40 ∷ row f.arguments (41 ∷ k))) rest
    ∙ ap (λ l. f.predicate ++ l) (phase_followed f.phase (40 ∷ row f.arguments (41 ∷ k)) rest ∙ ap (λ l. phase_text f.phase (40 ∷ l)) (row_followed f.arguments (41 ∷ k) rest))

fact_followed : (P : Protocol) (f : Fact Term) (k rest : List ℕ) → fact_text P f k ++ rest ≡ fact_text P f (k ++ rest)
fact_followed P f k rest = loose_followed (written_fact P f) k rest

diff_followed : (P : Protocol) (d : Diff) (k rest : List ℕ) → diff_text P d k ++ rest ≡ diff_text P d (k ++ rest)
diff_followed P d k rest =
    let left = written_row P (trees (spelled_diff d).left) in
    let right = written_row P (trees (spelled_diff d).right) in
    append_assoc (codes "diff(") (row left (59 ∷ row right (41 ∷ k))) rest
    ∙ ap (λ l. codes "diff(" ++ l) (row_followed left (59 ∷ row right (41 ∷ k)) rest ∙ ap (λ l. row left (59 ∷ l)) (row_followed right (41 ∷ k) rest))

later_diffs_followed : (P : Protocol) (ds : List Diff) (k rest : List ℕ) → later_diffs P ds k ++ rest ≡ later_diffs P ds (k ++ rest)
later_diffs_followed P [] k rest = refl
later_diffs_followed P (d ∷ ds) k rest = ap (λ l. 44 ∷ 32 ∷ l) (diff_followed P d (later_diffs P ds k) rest ∙ ap (diff_text P d) (later_diffs_followed P ds k rest))

diffs_followed : (P : Protocol) (ds : List Diff) (k rest : List ℕ) → diffs_text P ds k ++ rest ≡ diffs_text P ds (k ++ rest)
diffs_followed P [] k rest = refl
diffs_followed P (d ∷ ds) k rest = diff_followed P d (later_diffs P ds k) rest ∙ ap (diff_text P d) (later_diffs_followed P ds k rest)

later_followed : (P : Protocol) (hs : List (Fact Term)) (ds : List Diff) (k rest : List ℕ) → later_hypotheses P hs ds k ++ rest ≡ later_hypotheses P hs ds (k ++ rest)
later_followed P [] ds k rest = later_diffs_followed P ds k rest
later_followed P (h ∷ hs) ds k rest = ap (λ l. 44 ∷ 32 ∷ l) (fact_followed P h (later_hypotheses P hs ds k) rest ∙ ap (fact_text P h) (later_followed P hs ds k rest))

hypotheses_followed : (P : Protocol) (hs : List (Fact Term)) (ds : List Diff) (k rest : List ℕ) → hypotheses_text P hs ds k ++ rest ≡ hypotheses_text P hs ds (k ++ rest)
hypotheses_followed P [] ds k rest = diffs_followed P ds k rest
hypotheses_followed P (h ∷ hs) ds k rest = fact_followed P h (later_hypotheses P hs ds k) rest ∙ ap (fact_text P h) (later_followed P hs ds k rest)

clause_followed : (P : Protocol) (c : Clause Term) (k rest : List ℕ) → clause_text P c k ++ rest ≡ clause_text P c (k ++ rest)
clause_followed P c k rest =
    hypotheses_followed P c.hypotheses c.diffs (61 ∷ 62 ∷ 32 ∷ fact_text P c.conclusion k) rest
    ∙ ap (λ l. hypotheses_text P c.hypotheses c.diffs (61 ∷ 62 ∷ 32 ∷ l)) (fact_followed P c.conclusion k rest)

clauses_followed : (P : Protocol) (cs : List (Clause Term)) (k rest : List ℕ) → clause_lines P cs k ++ rest ≡ clause_lines P cs (k ++ rest)
clauses_followed P [] k rest = refl
clauses_followed P (c ∷ cs) k rest =
    ap (λ l. 99 ∷ 32 ∷ l) (clause_followed P c (10 ∷ clause_lines P cs k) rest ∙ ap (λ l. clause_text P c (10 ∷ l)) (clauses_followed P cs k rest))

numbers_followed : (ns : List ℕ) (k rest : List ℕ) → numbers_text ns k ++ rest ≡ numbers_text ns (k ++ rest)
numbers_followed [] k rest = refl
numbers_followed (n ∷ ns) k rest = ap (λ l. 32 ∷ l) (append_assoc (decimal n) (numbers_text ns k) rest ∙ ap (λ l. decimal n ++ l) (numbers_followed ns k rest))

rows_followed : (letter : ℕ) (rows : List (List ℕ)) (k rest : List ℕ) → row_lines letter rows k ++ rest ≡ row_lines letter rows (k ++ rest)
rows_followed letter [] k rest = refl
rows_followed letter (ns ∷ rows) k rest =
    ap (λ l. letter ∷ l) (numbers_followed ns (10 ∷ row_lines letter rows k) rest ∙ ap (λ l. numbers_text ns (10 ∷ l)) (rows_followed letter rows k rest))

pub certificate_followed : (P : Protocol) (c : Certificate) (k rest : List ℕ) → certificate_text P c k ++ rest ≡ certificate_text P c (k ++ rest)
certificate_followed P c k rest =
    let end = codes "end\n" ++ k in
    let goals = row_lines 103 c.goals end in
    let rows = row_lines 114 c.rows goals in
    ap (λ l. codes "cert 1\n" ++ l)
    (clauses_followed P c.clauses rows rest
    ∙ ap (clause_lines P c.clauses) (rows_followed 114 c.rows goals rest ∙ ap (row_lines 114 c.rows) (rows_followed 103 c.goals end rest)))
