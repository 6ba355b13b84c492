-- The texts of terms, hypotheses, constraints and clauses are written one by one, whatever the way in which terms are written.
use Rattle.std.proofs.Common.{◌≡◌, ℕ, zero, suc, ◌+◌, ◌<◌, ◌≤◌, Bool, ◌||◌, List, [], ◌∷◌, ◌++◌, length, map, get_or, refl, sym, ◌∙◌, ap, subst}
use Rattle.std.specs.Prelude.{codes, flat_map}
use Rattle.std.proofs.lemmas.List.{append_assoc}
use Rattle.std.proofs.lemmas.Simd.{map-map}
use Rattle.spec_calculus.specs.Syntax.{Protocol}
use Rattle.spec_terms.specs.Term.{Term}
use Rattle.spec_clauses.specs.Diff.{Diff}
use Rattle.spec_clauses.specs.Fact.{Fact, Att, Mess, Tab, Ev, Mev, Bad, Clause, terms_of}
use Rattle.clause_diffs.specs.declared.plain.Tree.{Tree}
use Rattle.clause_form.specs.declared.plain.PlainFact.{PlainFact}
use Rattle.clause_form.specs.Plain.{term_of}
use Rattle.clause_form.specs.PlainFacts.{plain_fact_of}
use Rattle.spec_certificate_text.specs.Sides.{SidesOf, sides_in_order, spelled_diff, spelled_clause}
use Rattle.spec_certificate_text.specs.Text.{phase_text}
use Rattle.spec_node_tables.specs.Table.{spelled_terms, terms_in_order}
use Rattle.spec_node_tables.specs.Text.{terms_text, word_over, event_over, entry_over, fact_over, sides_over, hypotheses_over, clause_over, clause_lines_over}
use Rattle.cert_form.specs.Appends.{Appends}
use Rattle.cert_form.specs.Parts.{is_alone, word_opening, word_closing, comma_at, gap_at}
use Rattle.cert_form.specs.Premises.{gap_behind, space_where, are_any, hypotheses_from, diffs_from, hypotheses_alone, diffs_alone, premise_terms}
use Rattle.cert_form.specs.Remaining.{terms_from, clauses_from}
use Rattle.cert_form.specs.Writing.{Writes}
use Rattle.cert_form.proofs.Premises.{premises_text}
use Rattle.cert_form.proofs.Items.{nothing, GoesOn}
use Rattle.cert_form.proofs.TermTexts.{One, single, flat_map-map, bytes_then, then_bytes, between, and_then, written_as, HasWritten, one_written, all_written}

-- What goes on as it begins.

terms_go_on : (P : Protocol) (o : One) → GoesOn (terms_from o P) (λ n t rest. comma_at n (o t rest))
terms_go_on P o = record { is = λ n t ts rest. cases n t ts rest } where
  cases : (n : ℕ) (t : Term) (ts : List Term) (rest : List ℕ) → terms_from o P n (t ∷ ts) rest ≡ comma_at n (o t (terms_from o P (suc n) ts rest))
  cases zero t ts rest = refl
  cases (suc n) t ts rest = refl

hypotheses_go_on : (P : Protocol) (o : One) → GoesOn (hypotheses_from o P) (λ n f rest. gap_at n (fact_over o P f rest))
hypotheses_go_on P o = record { is = λ n f fs rest. refl }

diffs_go_on : (P : Protocol) (o : One) (b : Bool) → GoesOn (diffs_from o P b) (λ n d rest. gap_behind b n (sides_over o P (spelled_diff d) rest))
diffs_go_on P o b = record { is = λ n d ds rest. refl }

clauses_go_on : (P : Protocol) (o : One) → GoesOn (clauses_from o P) (λ n c rest. 99 ∷ 32 ∷ clause_over o P c (10 ∷ rest))
clauses_go_on P o = record { is = λ n c cs rest. refl }

same_items : {X : Type 0} (xs : List X) → map (λ x. x) xs ≡ xs
same_items [] = refl
same_items (x ∷ xs) = ap (λ l. x ∷ l) (same_items xs)

abbrev pub clause_of : List (Fact Term) → List Diff → Fact Term → Clause Term
clause_of hyps ds concl = record { hypotheses = hyps; diffs = ds; conclusion = concl }

-- the terms of constraints as they are written
abbrev pub sides_of : List Diff → List Term
sides_of ds = flat_map (λ d. sides_in_order (spelled_diff d)) ds

module _ (kept_of : List Term → List Term) (all_one : Protocol → List Term → One) (P : Protocol) where
  abbrev pub one : List Term → One
  one = all_one P

  -- Terms.

  abbrev pub TermsWritten : ℕ → List Term → List Tree → List Term → List Term → List ℕ → List ℕ → Type 0
  TermsWritten = HasWritten kept_of one term_of (λ t. t ∷ []) (λ o. terms_from o P)

  pub term_written : (ts : List Term) (items : List Tree) (n : ℕ) (x : Tree) (kept now next : List Term) (start before middle after : List ℕ) → map term_of items ≡ ts → TermsWritten n ts items kept now start before → n < length items → x ≡ get_or items n x → Appends (comma_at n) before middle
      → Writes kept_of one (term_of x ∷ []) (λ o. o (term_of x)) now next middle after → TermsWritten (n + 1) ts items kept next start after
  term_written ts items n x kept now next start before middle after are has below is comma text =
      one_written kept_of one term_of (λ t. t ∷ []) (λ o. terms_from o P) (λ o m t rest. comma_at m (o t rest)) (terms_go_on P) ts items n x kept now next start before after are has below is
      (bytes_then kept_of one (comma_at n) (term_of x ∷ []) (λ o. o (term_of x)) now next before middle after comma text)

  pub terms_written : (ts : List Term) (items : List Tree) (n : ℕ) (kept now : List Term) (start after : List ℕ) → map term_of items ≡ ts → TermsWritten n ts items kept now start after → length items ≤ n → Writes kept_of one ts (λ o. terms_text o P ts) kept now start after
  terms_written ts items n kept now start after are has past =
      written_as kept_of one (flat_map (λ t. t ∷ []) ts) ts (λ o. terms_text o P ts) (λ o. terms_text o P ts) kept now start after (single ts) (λ o rest. refl)
      (all_written kept_of one term_of (λ t. t ∷ []) (λ o. terms_from o P) (λ m rest. rest) ends ts items n kept now start after after are has past (nothing after))
    where
      ends : (o : One) (m : ℕ) (rest : List ℕ) → terms_from o P m [] rest ≡ rest
      ends o zero rest = refl
      ends o (suc m) rest = refl

  -- a word over terms
  pub word_written : (name : List ℕ) (ts : List Term) (kept now : List Term) (start opened listed after word : List ℕ) (alone : Bool) → word ≡ name → alone ≡ is_alone ts → Appends (word_opening word alone) start opened → Writes kept_of one ts (λ o. terms_text o P ts) kept now opened listed → Appends (word_closing alone) listed after
      → Writes kept_of one ts (λ o. word_over o P name ts) kept now start after
  word_written name ts kept now start opened listed after word alone named is opening terms closing =
      written_as kept_of one ts ts (λ o rest. word_opening name (is_alone ts) (terms_text o P ts (word_closing (is_alone ts) rest))) (λ o. word_over o P name ts) kept now start after refl (parts ts)
      (between kept_of one (word_opening name (is_alone ts)) ts (λ o. terms_text o P ts) (word_closing (is_alone ts)) kept now start opened listed after
      (subst (λ b. Appends (word_opening name b) start opened) is (subst (λ w. Appends (word_opening w alone) start opened) named opening)) terms (subst (λ b. Appends (word_closing b) listed after) is closing))
    where
      parts : (us : List Term) (o : One) (rest : List ℕ) → word_opening name (is_alone us) (terms_text o P us (word_closing (is_alone us) rest)) ≡ word_over o P name us rest
      parts [] o rest = refl
      parts (u ∷ us) o rest = refl

  -- Facts, by what is written before, between and behind their terms.

  pub att_written : (f : Fact Term) (phase : ℕ) (t : Term) (k l : List Term) (a b c d : List ℕ) → f ≡ Att phase t → Appends (λ rest. codes "att" ++ phase_text phase (40 ∷ rest)) a b → Writes kept_of one (t ∷ []) (λ o. o t) k l b c → Appends (λ rest. codes ")" ++ rest) c d → Writes kept_of one (terms_of f) (λ o. fact_over o P f) k l a d
  att_written f phase t k l a b c d is opening text closing = subst (λ g. Writes kept_of one (terms_of g) (λ o. fact_over o P g) k l a d) (sym is)
      (between kept_of one (λ rest. codes "att" ++ phase_text phase (40 ∷ rest)) (t ∷ []) (λ o. o t) (λ rest. codes ")" ++ rest) k l a b c d opening text closing)

  pub mess_written : (f : Fact Term) (phase : ℕ) (t u : Term) (k m l : List Term) (a b c d e g : List ℕ) → f ≡ Mess phase t u → Appends (λ rest. codes "mess" ++ phase_text phase (40 ∷ rest)) a b → Writes kept_of one (t ∷ []) (λ o. o t) k m b c → Appends (λ rest. codes "," ++ rest) c d → Writes kept_of one (u ∷ []) (λ o. o u) m l d e → Appends (λ rest. codes ")" ++ rest) e g
      → Writes kept_of one (terms_of f) (λ o. fact_over o P f) k l a g
  mess_written f phase t u k m l a b c d e g is opening first comma second closing = subst (λ h. Writes kept_of one (terms_of h) (λ o. fact_over o P h) k l a g) (sym is)
      (between kept_of one (λ rest. codes "mess" ++ phase_text phase (40 ∷ rest)) (t ∷ u ∷ []) (λ o rest. o t (codes "," ++ o u rest)) (λ rest. codes ")" ++ rest) k l a b e g opening
      (and_then kept_of one (t ∷ []) (u ∷ []) (λ o. o t) (λ o rest. codes "," ++ o u rest) k m l b c e first
      (bytes_then kept_of one (λ rest. codes "," ++ rest) (u ∷ []) (λ o. o u) m l c d e comma second)) closing)

  pub ev_written : (f : Fact Term) (e : ℕ) (ts : List Term) (k l : List Term) (a b c d : List ℕ) → f ≡ Ev e ts → Appends (λ rest. codes "ev(" ++ rest) a b → Writes kept_of one ts (λ o. event_over o P e ts) k l b c → Appends (λ rest. codes ")" ++ rest) c d → Writes kept_of one (terms_of f) (λ o. fact_over o P f) k l a d
  ev_written f e ts k l a b c d is opening text closing = subst (λ g. Writes kept_of one (terms_of g) (λ o. fact_over o P g) k l a d) (sym is)
      (between kept_of one (λ rest. codes "ev(" ++ rest) ts (λ o. event_over o P e ts) (λ rest. codes ")" ++ rest) k l a b c d opening text closing)

  pub mev_written : (f : Fact Term) (e : ℕ) (ts : List Term) (k l : List Term) (a b c d : List ℕ) → f ≡ Mev e ts → Appends (λ rest. codes "mev(" ++ rest) a b → Writes kept_of one ts (λ o. event_over o P e ts) k l b c → Appends (λ rest. codes ")" ++ rest) c d → Writes kept_of one (terms_of f) (λ o. fact_over o P f) k l a d
  mev_written f e ts k l a b c d is opening text closing = subst (λ g. Writes kept_of one (terms_of g) (λ o. fact_over o P g) k l a d) (sym is)
      (between kept_of one (λ rest. codes "mev(" ++ rest) ts (λ o. event_over o P e ts) (λ rest. codes ")" ++ rest) k l a b c d opening text closing)

  pub tab_written : (f : Fact Term) (n : ℕ) (ts : List Term) (k l : List Term) (a b c d : List ℕ) → f ≡ Tab n ts → Appends (λ rest. codes "tab(" ++ rest) a b → Writes kept_of one ts (λ o. entry_over o P n ts) k l b c → Appends (λ rest. codes ")" ++ rest) c d → Writes kept_of one (terms_of f) (λ o. fact_over o P f) k l a d
  tab_written f n ts k l a b c d is opening text closing = subst (λ g. Writes kept_of one (terms_of g) (λ o. fact_over o P g) k l a d) (sym is)
      (between kept_of one (λ rest. codes "tab(" ++ rest) ts (λ o. entry_over o P n ts) (λ rest. codes ")" ++ rest) k l a b c d opening text closing)

  pub bad_written : (f : Fact Term) (ts : List Term) (k l : List Term) (a b c d : List ℕ) → f ≡ Bad ts → Appends (λ rest. codes "bad(" ++ rest) a b → Writes kept_of one ts (λ o. terms_text o P ts) k l b c → Appends (λ rest. codes ")" ++ rest) c d → Writes kept_of one (terms_of f) (λ o. fact_over o P f) k l a d
  bad_written f ts k l a b c d is opening text closing = subst (λ g. Writes kept_of one (terms_of g) (λ o. fact_over o P g) k l a d) (sym is)
      (between kept_of one (λ rest. codes "bad(" ++ rest) ts (λ o. terms_text o P ts) (λ rest. codes ")" ++ rest) k l a b c d opening text closing)

  -- Hypotheses.

  abbrev pub HypothesesWritten : ℕ → List (Fact Term) → List PlainFact → List Term → List Term → List ℕ → List ℕ → Type 0
  HypothesesWritten = HasWritten kept_of one plain_fact_of terms_of (λ o. hypotheses_from o P)

  pub hypothesis_written : (fs : List (Fact Term)) (items : List PlainFact) (n : ℕ) (x : PlainFact) (kept now next : List Term) (start before middle after : List ℕ) → map plain_fact_of items ≡ fs → HypothesesWritten n fs items kept now start before → n < length items → x ≡ get_or items n x → Appends (gap_at n) before middle
      → Writes kept_of one (terms_of (plain_fact_of x)) (λ o. fact_over o P (plain_fact_of x)) now next middle after → HypothesesWritten (n + 1) fs items kept next start after
  hypothesis_written fs items n x kept now next start before middle after are has below is gap text =
      one_written kept_of one plain_fact_of terms_of (λ o. hypotheses_from o P) (λ o m f rest. gap_at m (fact_over o P f rest)) (hypotheses_go_on P) fs items n x kept now next start before after are has below is
      (bytes_then kept_of one (gap_at n) (terms_of (plain_fact_of x)) (λ o. fact_over o P (plain_fact_of x)) now next before middle after gap text)

  pub hypotheses_written : (fs : List (Fact Term)) (items : List PlainFact) (n : ℕ) (kept now : List Term) (start after : List ℕ) → map plain_fact_of items ≡ fs → HypothesesWritten n fs items kept now start after → length items ≤ n
      → Writes kept_of one (flat_map terms_of fs) (λ o. hypotheses_alone o P fs) kept now start after
  hypotheses_written fs items n kept now start after are has past =
      all_written kept_of one plain_fact_of terms_of (λ o. hypotheses_from o P) (λ m rest. rest) (λ o m rest. refl) fs items n kept now start after after are has past (nothing after)

  -- Constraints.

  -- the sides between what stands round them
  pub sides_written : (left right : List Term) (k m l : List Term) (a b c d e g : List ℕ) → Appends (λ rest. codes "diff(" ++ rest) a b → Writes kept_of one left (λ o. terms_text o P left) k m b c → Appends (λ rest. codes ";" ++ rest) c d → Writes kept_of one right (λ o. terms_text o P right) m l d e → Appends (λ rest. codes ")" ++ rest) e g
      → Writes kept_of one (left ++ right) (λ o. sides_over o P (record { left = left; right = right })) k l a g
  sides_written left right k m l a b c d e g opening first semicolon second closing =
      between kept_of one (λ rest. codes "diff(" ++ rest) (left ++ right) (λ o rest. terms_text o P left (codes ";" ++ terms_text o P right rest)) (λ rest. codes ")" ++ rest) k l a b e g opening
      (and_then kept_of one left right (λ o. terms_text o P left) (λ o rest. codes ";" ++ terms_text o P right rest) k m l b c e first
      (bytes_then kept_of one (λ rest. codes ";" ++ rest) right (λ o. terms_text o P right) m l c d e semicolon second)) closing

  pub diff_spelled : (s : SidesOf Term) (d : Diff) (k l : List Term) (a b : List ℕ) → s ≡ spelled_diff d → Writes kept_of one (sides_in_order s) (λ o. sides_over o P s) k l a b → Writes kept_of one (sides_in_order (spelled_diff d)) (λ o. sides_over o P (spelled_diff d)) k l a b
  diff_spelled s d k l a b is written = subst (λ t. Writes kept_of one (sides_in_order t) (λ o. sides_over o P t) k l a b) is written

  abbrev pub DiffsWritten : Bool → ℕ → List Diff → List Diff → List Term → List Term → List ℕ → List ℕ → Type 0
  DiffsWritten b = HasWritten kept_of one (λ d. d) (λ d. sides_in_order (spelled_diff d)) (λ o. diffs_from o P b)

  pub diff_written : (b : Bool) (ds items : List Diff) (n : ℕ) (x : Diff) (kept now next : List Term) (start before middle after : List ℕ) → items ≡ ds → DiffsWritten b n ds items kept now start before → n < length items → x ≡ get_or items n x → Appends (gap_behind b n) before middle
      → Writes kept_of one (sides_in_order (spelled_diff x)) (λ o. sides_over o P (spelled_diff x)) now next middle after → DiffsWritten b (n + 1) ds items kept next start after
  diff_written b ds items n x kept now next start before middle after are has below is gap text =
      one_written kept_of one (λ d. d) (λ d. sides_in_order (spelled_diff d)) (λ o. diffs_from o P b) (λ o m d rest. gap_behind b m (sides_over o P (spelled_diff d) rest)) (λ o. diffs_go_on P o b) ds items n x kept now next start before after (same_items items ∙ are) has below is
      (bytes_then kept_of one (gap_behind b n) (sides_in_order (spelled_diff x)) (λ o. sides_over o P (spelled_diff x)) now next before middle after gap text)

  pub diffs_written : (b : Bool) (ds items : List Diff) (n : ℕ) (kept now : List Term) (start after : List ℕ) → items ≡ ds → DiffsWritten b n ds items kept now start after → length items ≤ n → Writes kept_of one (sides_of ds) (λ o. diffs_alone o P b ds) kept now start after
  diffs_written b ds items n kept now start after are has past =
      all_written kept_of one (λ d. d) (λ d. sides_in_order (spelled_diff d)) (λ o. diffs_from o P b) (λ m rest. rest) (λ o m rest. refl) ds items n kept now start after after (same_items items ∙ are) has past (nothing after)

  -- Clauses.

  pub premises_written : (c : Clause Term) (hyps : List (Fact Term)) (ds : List Diff) (concl : Fact Term) (b wanted : Bool) (kept middle now : List Term) (start listed told after : List ℕ) → clause_of hyps ds concl ≡ c → b ≡ are_any hyps → wanted ≡ are_any hyps || are_any ds
      → Writes kept_of one (flat_map terms_of hyps) (λ o. hypotheses_alone o P hyps) kept middle start listed → Writes kept_of one (sides_of ds) (λ o. diffs_alone o P b ds) middle now listed told → Appends (space_where wanted) told after
      → Writes kept_of one (premise_terms c) (λ o. hypotheses_over o P c.hypotheses (map spelled_diff c.diffs)) kept now start after
  premises_written c hyps ds concl b wanted kept middle now start listed told after is behind_is wanted_is hypotheses constraints space =
      let ts = flat_map terms_of hyps ++ sides_of ds in
      let told_so = subst (λ x. Writes kept_of one (sides_of ds) (λ o. diffs_alone o P x ds) middle now listed told) behind_is constraints in
      let both = and_then kept_of one (flat_map terms_of hyps) (sides_of ds) (λ o. hypotheses_alone o P hyps) (λ o. diffs_alone o P (are_any hyps) ds) kept middle now start listed told hypotheses told_so in
      let spaced = then_bytes kept_of one ts (λ o rest. hypotheses_alone o P hyps (diffs_alone o P (are_any hyps) ds rest)) (space_where (are_any hyps || are_any ds)) kept now start told after both (subst (λ x. Appends (space_where x) told after) wanted_is space) in
      subst (λ d. Writes kept_of one (premise_terms d) (λ o. hypotheses_over o P d.hypotheses (map spelled_diff d.diffs)) kept now start after) is
      (written_as kept_of one ts ts (λ o rest. hypotheses_alone o P hyps (diffs_alone o P (are_any hyps) ds (space_where (are_any hyps || are_any ds) rest))) (λ o. hypotheses_over o P hyps (map spelled_diff ds)) kept now start after refl (λ o rest. premises_text o P hyps ds rest) spaced)

  pub clause_written : (c : Clause Term) (concl : Fact Term) (kept middle now : List Term) (start listed marked after : List ℕ) → concl ≡ c.conclusion → Writes kept_of one (premise_terms c) (λ o. hypotheses_over o P c.hypotheses (map spelled_diff c.diffs)) kept middle start listed → Appends (λ rest. codes "=> " ++ rest) listed marked
      → Writes kept_of one (terms_of concl) (λ o. fact_over o P concl) middle now marked after → Writes kept_of one (spelled_terms (spelled_clause c)) (λ o. clause_over o P (spelled_clause c)) kept now start after
  clause_written c concl kept middle now start listed marked after is premises arrow conclusion =
      let hyps = flat_map terms_of c.hypotheses in
      let terms : premise_terms c ++ terms_of c.conclusion ≡ spelled_terms (spelled_clause c) =
      append_assoc hyps (sides_of c.diffs) (terms_of c.conclusion) ∙ ap (λ l. hyps ++ (l ++ terms_of c.conclusion)) (flat_map-map spelled_diff sides_in_order c.diffs) in
      let last = subst (λ f. Writes kept_of one (terms_of f) (λ o. fact_over o P f) middle now marked after) is conclusion in
      written_as kept_of one (premise_terms c ++ terms_of c.conclusion) (spelled_terms (spelled_clause c)) (λ o. clause_over o P (spelled_clause c)) (λ o. clause_over o P (spelled_clause c)) kept now start after terms (λ o rest. refl)
      (and_then kept_of one (premise_terms c) (terms_of c.conclusion) (λ o. hypotheses_over o P c.hypotheses (map spelled_diff c.diffs)) (λ o rest. codes "=> " ++ fact_over o P c.conclusion rest) kept middle now start listed after premises
      (bytes_then kept_of one (λ rest. codes "=> " ++ rest) (terms_of c.conclusion) (λ o. fact_over o P c.conclusion) middle now listed marked after arrow last))

  abbrev pub ClausesWritten : {X : Type 0} → (X → Clause Term) → ℕ → List (Clause Term) → List X → List Term → List Term → List ℕ → List ℕ → Type 0
  ClausesWritten held n cs items = HasWritten kept_of one (λ x. spelled_clause (held x)) spelled_terms (λ o. clauses_from o P) n (map spelled_clause cs) items

  all_spelled : {X : Type 0} (held : X → Clause Term) (items : List X) (cs : List (Clause Term)) → map held items ≡ cs → map (λ x. spelled_clause (held x)) items ≡ map spelled_clause cs
  all_spelled held items cs are = sym (map-map spelled_clause held items) ∙ ap (map spelled_clause) are

  pub line_written : {X : Type 0} (held : X → Clause Term) (cs : List (Clause Term)) (items : List X) (n : ℕ) (x : X) (c : Clause Term) (kept now next : List Term) (start before opened listed after : List ℕ) → map held items ≡ cs → ClausesWritten held n cs items kept now start before → n < length items → x ≡ get_or items n x → c ≡ held x
      → Appends (λ rest. codes "c " ++ rest) before opened → Writes kept_of one (spelled_terms (spelled_clause c)) (λ o. clause_over o P (spelled_clause c)) now next opened listed → Appends (λ rest. codes "\n" ++ rest) listed after → ClausesWritten held (n + 1) cs items kept next start after
  line_written held cs items n x c kept now next start before opened listed after are has below is seen opening text closing =
      one_written kept_of one (λ y. spelled_clause (held y)) spelled_terms (λ o. clauses_from o P) (λ o m d rest. 99 ∷ 32 ∷ clause_over o P d (10 ∷ rest)) (clauses_go_on P) (map spelled_clause cs) items n x kept now next start before after (all_spelled held items cs are) has below is
      (between kept_of one (λ rest. codes "c " ++ rest) (spelled_terms (spelled_clause (held x))) (λ o. clause_over o P (spelled_clause (held x))) (λ rest. codes "\n" ++ rest) now next before opened listed after opening
      (subst (λ (d : Clause Term). Writes kept_of one (spelled_terms (spelled_clause d)) (λ o. clause_over o P (spelled_clause d)) now next opened listed) seen text) closing)

  pub lines_written : {X : Type 0} (held : X → Clause Term) (cs : List (Clause Term)) (items : List X) (n : ℕ) (kept now : List Term) (start after : List ℕ) → map held items ≡ cs → ClausesWritten held n cs items kept now start after → length items ≤ n → Writes kept_of one (terms_in_order cs) (λ o. clause_lines_over o P (map spelled_clause cs)) kept now start after
  lines_written held cs items n kept now start after are has past =
      written_as kept_of one (flat_map spelled_terms (map spelled_clause cs)) (terms_in_order cs) (λ o. clause_lines_over o P (map spelled_clause cs)) (λ o. clause_lines_over o P (map spelled_clause cs)) kept now start after (sym (flat_map-map spelled_clause spelled_terms cs)) (λ o rest. refl)
      (all_written kept_of one (λ y. spelled_clause (held y)) spelled_terms (λ o. clauses_from o P) (λ m rest. rest) (λ o m rest. refl) (map spelled_clause cs) items n kept now start after after (all_spelled held items cs are) has past (nothing after))
