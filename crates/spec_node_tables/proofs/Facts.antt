-- Facts, constraints and clauses are told apart by their texts, where their terms are: terms with texts of their own, or numbers.
use Rattle.std.proofs.Common.{◌≡◌, ℕ, ◌==◌, false, List, [], ◌∷◌, ◌++◌, length, get_or, refl, sym, ◌∙◌, ap, arith}
use Rattle.std.specs.Prelude.{codes}
use Rattle.std.specs.List.{AllByRecursion}
use Rattle.std.proofs.lemmas.List.{append_cancel_left}
use Rattle.spec_calculus.specs.Syntax.{Declared, Protocol}
use Rattle.spec_protocol_tokens.specs.Bytes.{is_in_word}
use Rattle.spec_clauses.specs.Fact.{Fact, Att, Mess, Tab, Ev, Mev, Bad}
use Rattle.spec_certificate_text.specs.Sides.{SidesOf, SpelledClause}
use Rattle.spec_certificate_text.specs.Words.{declared_word}
use Rattle.spec_certificate_text.specs.Text.{phase_text}
use Rattle.spec_certificate_text.specs.Spelled.{IsWord, Stops, goes_on}
use Rattle.spec_certificate_text.specs.OfProtocol.{IsDeclaredOver, HasNames}
use Rattle.spec_certificate_text.proofs.Runs.{later_same, run_apart}
use Rattle.spec_certificate_text.proofs.Names.{event_word_is_word, table_word_is_word}
use Rattle.spec_certificate_text.proofs.Called.{HasOwnWords, events_own_words, tables_own_words}
use Rattle.spec_certificate_text.proofs.Clauses.{Same, phases_apart}
use Rattle.spec_node_tables.specs.Text.{later_terms, terms_text, call_over, event_over, entry_over, fact_over, sides_over, later_diffs, diffs_over, later_hypotheses, hypotheses_over, clause_over, clause_lines_over}
use Rattle.spec_node_tables.specs.OfProtocol.{IsFactOver, AreSidesOver, IsClauseOver}
use Rattle.spec_node_tables.proofs.Lines.{differ, is_letter, begins_with}

-- Texts of single terms: each tells its term, where what follows can't go on with it, and begins as nothing else does.
pub record TellsTerms {X : Type 0} (one : X → List ℕ → List ℕ) (Is : X → Type 0) : Type 0 where
  pub apart : (x y : X) (k l : List ℕ) → Is x → Is y → Stops goes_on k → Stops goes_on l → one x k ≡ one y l → Same x y k l
  pub begins : (x : X) (k : List ℕ) (b : ℕ) (rest : List ℕ) → Is x → goes_on b ≡ false → one x k ≡ b ∷ rest → ⊥

-- a fact's predicate by the third byte of its text: `t` of `att`, `s` of `mess`, `b` of `tab`, `(` of `ev`, `v` of `mev`, `d` of `bad`
third : {X : Type 0} → Fact X → ℕ
third (Att phase t) = 116
third (Mess phase t u) = 115
third (Tab n ts) = 98
third (Ev e ts) = 40
third (Mev e ts) = 118
third (Bad ts) = 100

-- a byte that closes a row: a single term can't go on with it, and it is no comma
pub record ClosesRow (closing : ℕ) : Type 0 where
  pub stops : goes_on closing ≡ false
  pub before : (closing == 44) ≡ false
  pub behind : (44 == closing) ≡ false

module _ {X : Type 0} (one : X → List ℕ → List ℕ) (Is : X → Type 0) (tells : TellsTerms one Is) (P : Protocol) (names : HasNames P) where
  -- Rows, up to the byte that closes them.

  module _ (closing : ℕ) (closes : ClosesRow closing) where
    later_stops : (ts : List X) (k : List ℕ) → Stops goes_on (later_terms one P ts (closing ∷ k))
    later_stops [] k = closes.stops
    later_stops (t ∷ ts) k = refl

    later_row_apart : (ts us : List X) (k l : List ℕ) → AllByRecursion Is ts → AllByRecursion Is us → later_terms one P ts (closing ∷ k) ≡ later_terms one P us (closing ∷ l) → Same ts us k l
    later_row_apart [] [] k l are_t are_u e = record { thing = refl; rest = later_same closing closing k l e }
    later_row_apart [] (u ∷ us) k l are_t are_u e = absurd (differ closing 44 k (one u (later_terms one P us (closing ∷ l))) closes.before e)
    later_row_apart (t ∷ ts) [] k l are_t are_u e = absurd (differ 44 closing (one t (later_terms one P ts (closing ∷ k))) l closes.behind e)
    later_row_apart (t ∷ ts) (u ∷ us) k l are_t are_u e =
        let x = later_terms one P ts (closing ∷ k) in
        let y = later_terms one P us (closing ∷ l) in
        let first = tells.apart t u x y are_t.0 are_u.0 (later_stops ts k) (later_stops us l) (later_same 44 44 (one t x) (one u y) e) in
        let later = later_row_apart ts us k l are_t.1 are_u.1 first.rest in
        record { thing = ap (λ v. v ∷ ts) first.thing ∙ ap (λ vs. u ∷ vs) later.thing; rest = later.rest }

    row_apart : (ts us : List X) (k l : List ℕ) → AllByRecursion Is ts → AllByRecursion Is us → terms_text one P ts (closing ∷ k) ≡ terms_text one P us (closing ∷ l) → Same ts us k l
    row_apart [] [] k l are_t are_u e = record { thing = refl; rest = later_same closing closing k l e }
    row_apart [] (u ∷ us) k l are_t are_u e = absurd (tells.begins u (later_terms one P us (closing ∷ l)) closing k are_u.0 closes.stops (sym e))
    row_apart (t ∷ ts) [] k l are_t are_u e = absurd (tells.begins t (later_terms one P ts (closing ∷ k)) closing l are_t.0 closes.stops e)
    row_apart (t ∷ ts) (u ∷ us) k l are_t are_u e =
        let first = tells.apart t u (later_terms one P ts (closing ∷ k)) (later_terms one P us (closing ∷ l)) are_t.0 are_u.0 (later_stops ts k) (later_stops us l) e in
        let later = later_row_apart ts us k l are_t.1 are_u.1 first.rest in
        record { thing = ap (λ v. v ∷ ts) first.thing ∙ ap (λ vs. u ∷ vs) later.thing; rest = later.rest }

  terms_apart : (ts us : List X) (k l : List ℕ) → AllByRecursion Is ts → AllByRecursion Is us → terms_text one P ts (41 ∷ k) ≡ terms_text one P us (41 ∷ l) → Same ts us k l
  terms_apart ts us k l are_t are_u e = row_apart 41 record { stops = refl; before = refl; behind = refl } ts us k l are_t are_u e

  -- Events and entries.

  event_tail : List X → List ℕ → List ℕ
  event_tail [] rest = rest
  event_tail (t ∷ ts) rest = 40 ∷ terms_text one P (t ∷ ts) (41 ∷ rest)

  call_over-parts : (ds : List Declared) (e : ℕ) (ts : List X) (k : List ℕ) → call_over one P ds e ts k ≡ declared_word ds e ++ event_tail ts k
  unfolding event_tail
  call_over-parts ds e [] k = refl
  call_over-parts ds e (t ∷ ts) k = refl

  event_tail_stops : (ts : List X) (k : List ℕ) → Stops is_in_word (event_tail ts (41 ∷ k))
  unfolding event_tail
  event_tail_stops [] k = refl
  event_tail_stops (t ∷ ts) k = refl

  tails_apart : (ts us : List X) (k l : List ℕ) → AllByRecursion Is ts → AllByRecursion Is us → event_tail ts (41 ∷ k) ≡ event_tail us (41 ∷ l) → Same ts us k l
  unfolding event_tail
  tails_apart [] [] k l are_t are_u e = record { thing = refl; rest = later_same 41 41 k l e }
  tails_apart [] (u ∷ us) k l are_t are_u e = absurd (differ 41 40 k (terms_text one P (u ∷ us) (41 ∷ 41 ∷ l)) refl e)
  tails_apart (t ∷ ts) [] k l are_t are_u e = absurd (differ 40 41 (terms_text one P (t ∷ ts) (41 ∷ 41 ∷ k)) l refl e)
  tails_apart (t ∷ ts) (u ∷ us) k l are_t are_u e =
      let x = terms_text one P (t ∷ ts) (41 ∷ 41 ∷ k) in
      let y = terms_text one P (u ∷ us) (41 ∷ 41 ∷ l) in
      let inside = terms_apart (t ∷ ts) (u ∷ us) (41 ∷ k) (41 ∷ l) are_t are_u (later_same 40 40 x y e) in
      record { thing = inside.thing; rest = later_same 41 41 k l inside.rest }

  record CallsApart (e g : ℕ) (ts us : List X) (k l : List ℕ) : Type 0 where
    number : e ≡ g
    arguments : ts ≡ us
    rest : k ≡ l

  calls_apart : (ds : List Declared) → HasOwnWords ds → ((e n : ℕ) → IsDeclaredOver ds e n → IsWord (declared_word ds e)) → (e g : ℕ) (ts us : List X) (k l : List ℕ) → IsDeclaredOver ds e (length ts) → IsDeclaredOver ds g (length us)
      → AllByRecursion Is ts → AllByRecursion Is us → call_over one P ds e ts (41 ∷ k) ≡ call_over one P ds g us (41 ∷ l) → CallsApart e g ts us k l
  calls_apart ds own word e g ts us k l is_e is_g are_t are_u same =
      let parts = run_apart is_in_word (declared_word ds e) (declared_word ds g) (event_tail ts (41 ∷ k)) (event_tail us (41 ∷ l))
      (word e (length ts) is_e).goes_on (word g (length us) is_g).goes_on (event_tail_stops ts k) (event_tail_stops us l)
      (sym (call_over-parts ds e ts (41 ∷ k)) ∙ (same ∙ call_over-parts ds g us (41 ∷ l))) in
      let tails = tails_apart ts us k l are_t are_u parts.rest in
      record { number = own e g (length ts) (length us) is_e is_g parts.run; arguments = tails.thing; rest = tails.rest }

  events_apart : (e g : ℕ) (ts us : List X) (k l : List ℕ) → IsDeclaredOver P.events e (length ts) → IsDeclaredOver P.events g (length us) → AllByRecursion Is ts → AllByRecursion Is us → event_over one P e ts (41 ∷ k) ≡ event_over one P g us (41 ∷ l) → CallsApart e g ts us k l
  events_apart e g ts us k l is_e is_g are_t are_u same = calls_apart P.events (events_own_words P names) (λ m n is. event_word_is_word P m n names is) e g ts us k l is_e is_g are_t are_u same

  -- Facts.

  third_byte : (f : Fact X) (k : List ℕ) → get_or (fact_over one P f k) 2 0 ≡ third f
  unfolding third
  third_byte (Att phase t) k = refl
  third_byte (Mess phase t u) k = refl
  third_byte (Tab n ts) k = refl
  third_byte (Ev e ts) k = refl
  third_byte (Mev e ts) k = refl
  third_byte (Bad ts) k = refl

  facts_apart : (f g : Fact X) (k l : List ℕ) → third f ≡ third g → IsFactOver Is P f → IsFactOver Is P g → fact_over one P f k ≡ fact_over one P g l → Same f g k l
  unfolding third
  facts_apart (Att j t) (Att n u) k l thirds is_f is_g e =
      let x = terms_text one P (t ∷ []) (41 ∷ k) in
      let y = terms_text one P (u ∷ []) (41 ∷ l) in
      let phases = phases_apart j n x y is_f.0.1 is_g.0.1 (append_cancel_left (codes "att") (phase_text j (40 ∷ x)) (phase_text n (40 ∷ y)) e) in
      let inside = terms_apart (t ∷ []) (u ∷ []) k l is_f.1 is_g.1 phases.rest in
      let items : t ∷ [] ≡ u ∷ [] = inside.thing in
      let same : t ≡ u = cc in
      record { thing = ap (λ m. Att m t) phases.thing ∙ ap (Att n) same; rest = inside.rest }
  facts_apart (Mess j t u) (Mess n v w) k l thirds is_f is_g e =
      let x = terms_text one P (t ∷ u ∷ []) (41 ∷ k) in
      let y = terms_text one P (v ∷ w ∷ []) (41 ∷ l) in
      let phases = phases_apart j n x y is_f.0.1 is_g.0.1 (append_cancel_left (codes "mess") (phase_text j (40 ∷ x)) (phase_text n (40 ∷ y)) e) in
      let inside = terms_apart (t ∷ u ∷ []) (v ∷ w ∷ []) k l is_f.1 is_g.1 phases.rest in
      let items : t ∷ u ∷ [] ≡ v ∷ w ∷ [] = inside.thing in
      let channels : t ≡ v = cc in
      let messages : u ≡ w = cc in
      record { thing = ap (λ m. Mess m t u) phases.thing ∙ (ap (λ c. Mess n c u) channels ∙ ap (Mess n v) messages); rest = inside.rest }
  facts_apart (Tab n ts) (Tab m us) k l thirds is_f is_g e =
      let inside = calls_apart P.tables (tables_own_words P names) (λ i j is. table_word_is_word P i j names is) n m ts us k l is_f.0 is_g.0 is_f.1 is_g.1 (append_cancel_left (codes "tab(") (entry_over one P n ts (41 ∷ k)) (entry_over one P m us (41 ∷ l)) e) in
      record { thing = ap (λ i. Tab i ts) inside.number ∙ ap (Tab m) inside.arguments; rest = inside.rest }
  facts_apart (Ev n ts) (Ev m us) k l thirds is_f is_g e =
      let inside = events_apart n m ts us k l is_f.0 is_g.0 is_f.1 is_g.1 (append_cancel_left (codes "ev(") (event_over one P n ts (41 ∷ k)) (event_over one P m us (41 ∷ l)) e) in
      record { thing = ap (λ i. Ev i ts) inside.number ∙ ap (Ev m) inside.arguments; rest = inside.rest }
  facts_apart (Mev n ts) (Mev m us) k l thirds is_f is_g e =
      let inside = events_apart n m ts us k l is_f.0 is_g.0 is_f.1 is_g.1 (append_cancel_left (codes "mev(") (event_over one P n ts (41 ∷ k)) (event_over one P m us (41 ∷ l)) e) in
      record { thing = ap (λ i. Mev i ts) inside.number ∙ ap (Mev m) inside.arguments; rest = inside.rest }
  facts_apart (Bad ts) (Bad us) k l thirds is_f is_g e =
      let inside = terms_apart ts us k l is_f.1 is_g.1 (append_cancel_left (codes "bad(") (terms_text one P ts (41 ∷ k)) (terms_text one P us (41 ∷ l)) e) in
      record { thing = ap Bad inside.thing; rest = inside.rest }
  facts_apart _ _ k l thirds is_f is_g e = absurd (omega (arith, thirds))

  fact_apart : (f g : Fact X) (k l : List ℕ) → IsFactOver Is P f → IsFactOver Is P g → fact_over one P f k ≡ fact_over one P g l → Same f g k l
  fact_apart f g k l is_f is_g e = facts_apart f g k l (sym (third_byte f k) ∙ (ap (λ bytes. get_or bytes 2 0) e ∙ third_byte g l)) is_f is_g e

  no_fact_begins : (f : Fact X) (x y : List ℕ) → fact_over one P f x ≡ 61 ∷ y → ⊥
  no_fact_begins (Att phase t) x y e = differ 97 61 _ y refl e
  no_fact_begins (Mess phase t u) x y e = differ 109 61 _ y refl e
  no_fact_begins (Tab n ts) x y e = differ 116 61 _ y refl e
  no_fact_begins (Ev n ts) x y e = differ 101 61 _ y refl e
  no_fact_begins (Mev n ts) x y e = differ 109 61 _ y refl e
  no_fact_begins (Bad ts) x y e = differ 98 61 _ y refl e

  no_fact_is_diff : (f : Fact X) (x y : List ℕ) → fact_over one P f x ≡ 100 ∷ y → ⊥
  no_fact_is_diff (Att phase t) x y e = differ 97 100 _ y refl e
  no_fact_is_diff (Mess phase t u) x y e = differ 109 100 _ y refl e
  no_fact_is_diff (Tab n ts) x y e = differ 116 100 _ y refl e
  no_fact_is_diff (Ev n ts) x y e = differ 101 100 _ y refl e
  no_fact_is_diff (Mev n ts) x y e = differ 109 100 _ y refl e
  no_fact_is_diff (Bad ts) x y e = differ 98 100 _ y refl e

  -- Constraints.

  sides_apart : (c d : SidesOf X) (k l : List ℕ) → AreSidesOver Is c → AreSidesOver Is d → sides_over one P c k ≡ sides_over one P d l → Same c d k l
  sides_apart c d k l is_c is_d e =
      let x = terms_text one P c.right (41 ∷ k) in
      let y = terms_text one P d.right (41 ∷ l) in
      let lefts = row_apart 59 record { stops = refl; before = refl; behind = refl } c.left d.left x y is_c.left is_d.left (append_cancel_left (codes "diff(") (terms_text one P c.left (59 ∷ x)) (terms_text one P d.left (59 ∷ y)) e) in
      let rights = terms_apart c.right d.right k l is_c.right is_d.right lefts.rest in
      let left = lefts.thing in
      let right = rights.thing in
      record { thing = λ i. record { left = left i; right = right i }; rest = rights.rest }

  later_diffs_apart : (ds es : List (SidesOf X)) (k l : List ℕ) → AllByRecursion (AreSidesOver Is) ds → AllByRecursion (AreSidesOver Is) es → later_diffs one P ds k ≡ later_diffs one P es l → Same ds es k l
  later_diffs_apart [] [] k l are_d are_e e = record { thing = refl; rest = later_same 32 32 k l e }
  later_diffs_apart [] (g ∷ es) k l are_d are_e e = absurd (differ 32 44 k (32 ∷ sides_over one P g (later_diffs one P es l)) refl e)
  later_diffs_apart (d ∷ ds) [] k l are_d are_e e = absurd (differ 44 32 (32 ∷ sides_over one P d (later_diffs one P ds k)) l refl e)
  later_diffs_apart (d ∷ ds) (g ∷ es) k l are_d are_e e =
      let x = sides_over one P d (later_diffs one P ds k) in
      let y = sides_over one P g (later_diffs one P es l) in
      let first = sides_apart d g (later_diffs one P ds k) (later_diffs one P es l) are_d.0 are_e.0 (later_same 32 32 x y (later_same 44 44 (32 ∷ x) (32 ∷ y) e)) in
      let later = later_diffs_apart ds es k l are_d.1 are_e.1 first.rest in
      record { thing = ap (λ f. f ∷ ds) first.thing ∙ ap (λ fs. g ∷ fs) later.thing; rest = later.rest }

  -- before `=`
  diffs_apart : (ds es : List (SidesOf X)) (k l : List ℕ) → AllByRecursion (AreSidesOver Is) ds → AllByRecursion (AreSidesOver Is) es → diffs_over one P ds (61 ∷ k) ≡ diffs_over one P es (61 ∷ l) → Same ds es k l
  diffs_apart [] [] k l are_d are_e e = record { thing = refl; rest = later_same 61 61 k l e }
  diffs_apart [] (g ∷ es) k l are_d are_e e = absurd (differ 61 100 k _ refl e)
  diffs_apart (d ∷ ds) [] k l are_d are_e e = absurd (differ 100 61 _ l refl e)
  diffs_apart (d ∷ ds) (g ∷ es) k l are_d are_e e =
      let first = sides_apart d g (later_diffs one P ds (61 ∷ k)) (later_diffs one P es (61 ∷ l)) are_d.0 are_e.0 e in
      let later = later_diffs_apart ds es (61 ∷ k) (61 ∷ l) are_d.1 are_e.1 first.rest in
      record { thing = ap (λ f. f ∷ ds) first.thing ∙ ap (λ fs. g ∷ fs) later.thing; rest = later_same 61 61 k l later.rest }

  -- Clauses.

  record PremisesApart (hs gs : List (Fact X)) (ds es : List (SidesOf X)) (k l : List ℕ) : Type 0 where
    hypotheses : hs ≡ gs
    diffs : ds ≡ es
    rest : k ≡ l

  -- behind a hypothesis no constraint is another hypothesis
  no_diff_goes_on : (ds : List (SidesOf X)) (g : Fact X) (k x : List ℕ) → later_diffs one P ds k ≡ 44 ∷ 32 ∷ fact_over one P g x → ⊥
  no_diff_goes_on [] g k x e = differ 32 44 k (32 ∷ fact_over one P g x) refl e
  no_diff_goes_on (d ∷ ds) g k x e =
      let behind = later_same 32 32 _ (fact_over one P g x) (later_same 44 44 _ (32 ∷ fact_over one P g x) e) in
      no_fact_is_diff g x _ (sym behind)

  later_apart : (hs gs : List (Fact X)) (ds es : List (SidesOf X)) (k l : List ℕ) → AllByRecursion (IsFactOver Is P) hs → AllByRecursion (IsFactOver Is P) gs → AllByRecursion (AreSidesOver Is) ds → AllByRecursion (AreSidesOver Is) es
      → later_hypotheses one P hs ds k ≡ later_hypotheses one P gs es l → PremisesApart hs gs ds es k l
  later_apart [] [] ds es k l are_h are_g are_d are_e e = let same = later_diffs_apart ds es k l are_d are_e e in record { hypotheses = refl; diffs = same.thing; rest = same.rest }
  later_apart [] (g ∷ gs) ds es k l are_h are_g are_d are_e e = absurd (no_diff_goes_on ds g k (later_hypotheses one P gs es l) e)
  later_apart (h ∷ hs) [] ds es k l are_h are_g are_d are_e e = absurd (no_diff_goes_on es h l (later_hypotheses one P hs ds k) (sym e))
  later_apart (h ∷ hs) (g ∷ gs) ds es k l are_h are_g are_d are_e e =
      let x = fact_over one P h (later_hypotheses one P hs ds k) in
      let y = fact_over one P g (later_hypotheses one P gs es l) in
      let first = fact_apart h g (later_hypotheses one P hs ds k) (later_hypotheses one P gs es l) are_h.0 are_g.0 (later_same 32 32 x y (later_same 44 44 (32 ∷ x) (32 ∷ y) e)) in
      let later = later_apart hs gs ds es k l are_h.1 are_g.1 are_d are_e first.rest in
      record { hypotheses = ap (λ f. f ∷ hs) first.thing ∙ ap (λ fs. g ∷ fs) later.hypotheses; diffs = later.diffs; rest = later.rest }

  -- constraints alone, or nothing, before `=` are no hypothesis
  no_hypothesis : (ds : List (SidesOf X)) (g : Fact X) (k x : List ℕ) → diffs_over one P ds (61 ∷ k) ≡ fact_over one P g x → ⊥
  no_hypothesis [] g k x e = no_fact_begins g x k (sym e)
  no_hypothesis (d ∷ ds) g k x e = no_fact_is_diff g x _ (sym e)

  hypotheses_apart : (hs gs : List (Fact X)) (ds es : List (SidesOf X)) (k l : List ℕ) → AllByRecursion (IsFactOver Is P) hs → AllByRecursion (IsFactOver Is P) gs → AllByRecursion (AreSidesOver Is) ds → AllByRecursion (AreSidesOver Is) es
      → hypotheses_over one P hs ds (61 ∷ k) ≡ hypotheses_over one P gs es (61 ∷ l) → PremisesApart hs gs ds es k l
  hypotheses_apart [] [] ds es k l are_h are_g are_d are_e e = let same = diffs_apart ds es k l are_d are_e e in record { hypotheses = refl; diffs = same.thing; rest = same.rest }
  hypotheses_apart [] (g ∷ gs) ds es k l are_h are_g are_d are_e e = absurd (no_hypothesis ds g k (later_hypotheses one P gs es (61 ∷ l)) e)
  hypotheses_apart (h ∷ hs) [] ds es k l are_h are_g are_d are_e e = absurd (no_hypothesis es h l (later_hypotheses one P hs ds (61 ∷ k)) (sym e))
  hypotheses_apart (h ∷ hs) (g ∷ gs) ds es k l are_h are_g are_d are_e e =
      let first = fact_apart h g (later_hypotheses one P hs ds (61 ∷ k)) (later_hypotheses one P gs es (61 ∷ l)) are_h.0 are_g.0 e in
      let later = later_apart hs gs ds es (61 ∷ k) (61 ∷ l) are_h.1 are_g.1 are_d are_e first.rest in
      record { hypotheses = ap (λ f. f ∷ hs) first.thing ∙ ap (λ fs. g ∷ fs) later.hypotheses; diffs = later.diffs; rest = later_same 61 61 k l later.rest }

  clause_apart : (c d : SpelledClause X) (k l : List ℕ) → IsClauseOver Is P c → IsClauseOver Is P d → clause_over one P c k ≡ clause_over one P d l → Same c d k l
  clause_apart c d k l is_c is_d e =
      let x = fact_over one P c.conclusion k in
      let y = fact_over one P d.conclusion l in
      let premises = hypotheses_apart c.hypotheses d.hypotheses c.diffs d.diffs (62 ∷ 32 ∷ x) (62 ∷ 32 ∷ y) is_c.hypotheses is_d.hypotheses is_c.diffs is_d.diffs e in
      let conclusions = fact_apart c.conclusion d.conclusion k l is_c.conclusion is_d.conclusion (later_same 32 32 x y (later_same 62 62 (32 ∷ x) (32 ∷ y) premises.rest)) in
      let first = premises.hypotheses in
      let middle = premises.diffs in
      let last = conclusions.thing in
      record { thing = λ i. record { hypotheses = first i; diffs = middle i; conclusion = last i }; rest = conclusions.rest }

  pub clause_lines_apart : (cs ds : List (SpelledClause X)) (k l : List ℕ) → AllByRecursion (IsClauseOver Is P) cs → AllByRecursion (IsClauseOver Is P) ds → Stops (is_letter 99) k → Stops (is_letter 99) l → clause_lines_over one P cs k ≡ clause_lines_over one P ds l → Same cs ds k l
  clause_lines_apart [] [] k l are_c are_d stops_k stops_l e = record { thing = refl; rest = e }
  clause_lines_apart [] (d ∷ ds) k l are_c are_d stops_k stops_l e = absurd (begins_with 99 k (32 ∷ clause_over one P d (10 ∷ clause_lines_over one P ds l)) refl stops_k e)
  clause_lines_apart (c ∷ cs) [] k l are_c are_d stops_k stops_l e = absurd (begins_with 99 l (32 ∷ clause_over one P c (10 ∷ clause_lines_over one P cs k)) refl stops_l (sym e))
  clause_lines_apart (c ∷ cs) (d ∷ ds) k l are_c are_d stops_k stops_l e =
      let x = clause_over one P c (10 ∷ clause_lines_over one P cs k) in
      let y = clause_over one P d (10 ∷ clause_lines_over one P ds l) in
      let first = clause_apart c d (10 ∷ clause_lines_over one P cs k) (10 ∷ clause_lines_over one P ds l) are_c.0 are_d.0 (later_same 32 32 x y (later_same 99 99 (32 ∷ x) (32 ∷ y) e)) in
      let later = clause_lines_apart cs ds k l are_c.1 are_d.1 stops_k stops_l (later_same 10 10 (clause_lines_over one P cs k) (clause_lines_over one P ds l) first.rest) in
      record { thing = ap (λ b. b ∷ cs) first.thing ∙ ap (λ bs. d ∷ bs) later.thing; rest = later.rest }
