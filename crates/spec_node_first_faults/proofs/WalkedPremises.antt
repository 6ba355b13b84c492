-- Premises of clauses by numbers: a reader of them goes on with the walk, and tells the first fault.
use Rattle.std.proofs.Common.{◌≡◌, ℕ, zero, suc, ◌+◌, ◌≤◌, ◌==◌, ◌&&◌, not, inl, inr, if◌then◌else◌, Bool, true, false, List, [], ◌∷◌, ◌++◌, length, drop, codes, refl, sym, ◌∙◌, ap, arith}
use Rattle.spec_calculus.specs.Syntax.{Protocol}
use Rattle.spec_terms.specs.Term.{Term}
use Rattle.spec_clauses.specs.Fact.{Fact}
use Rattle.spec_certificate_text.specs.Sides.{SidesOf}
use Rattle.spec_certificate_text.specs.OfProtocol.{HasNames}
use Rattle.spec_certificate_text.specs.Terms.{Code, Syntax}
use Rattle.spec_certificate_text.specs.Outcomes.{Outcome, Found, Faulty, next, front, Reader, read_fixed}
use Rattle.spec_certificate_text.specs.Clauses.{has_next_hypothesis, Premises}
use Rattle.spec_certificate_text.proofs.Parts.{fixed_there}
use Rattle.spec_reading_faults.proofs.Shared.{IsLocal, next_local, choice_local, never_local}
use Rattle.spec_reading_faults.proofs.Parts.{same_local, fixed_local, within_room}
use Rattle.spec_first_faults.specs.Kinds.{fixed, last, further}
use Rattle.spec_first_faults.proofs.Tells.{Anything, mapped, shorter, each_length_tells}
use Rattle.spec_first_faults.proofs.Behind.{then_read}
use Rattle.spec_first_faults.proofs.OneOf.{chosen, IsToldBy, told_by_front, told_alone}
use Rattle.spec_first_faults.proofs.Small.{fixed_forms, fixed_tells}
use Rattle.spec_first_faults.proofs.Closed.{closed_by}
use Rattle.spec_first_faults.proofs.Rows.{none_tells}
use Rattle.spec_node_reading.specs.Kinds.{KindIn, in_state, kept, behind, one_of, many}
use Rattle.spec_node_reading.specs.Kinds as kinds
use Rattle.spec_node_reading.specs.Walked.{Walked, nothing_yet}
use Rattle.spec_node_reading.specs.Loops.{Behind, with}
use Rattle.spec_node_reading.specs.Facts.{hypotheses, diffs}
use Rattle.spec_node_reading.specs.Clauses.{constraints, premises}
use Rattle.spec_node_reading.specs.ReadClauses.{read_hypothesis, hypotheses_from, read_hypotheses, read_diff, read_diffs, read_diffs_behind, with_diffs, read_premises}
use Rattle.spec_node_first_faults.proofs.InState.{FormsIn, TellsIn, IsSameIn, same_tells-in, tells_of-in, kind_tells-in, kept_forms, kept_tells, one_of_forms-in, one_of_tells-in, both_forms-in, both_tell-in}
use Rattle.spec_node_first_faults.proofs.InClosed.{closes_in, closed_thing-forms, behind_fixed-forms, mapped_tells-in, front_tells-in}
use Rattle.spec_node_first_faults.proofs.InMany.{many_forms-in, behind_told-in, later_same}
use Rattle.spec_node_first_faults.proofs.InRows.{walked_of, row_forms-in, row_tells-in}
use Rattle.spec_node_first_faults.proofs.WalkedFacts.{hypotheses_forms, hypotheses_tell, hypothesis_front}
use Rattle.spec_node_first_faults.proofs.WalkedDiffs.{diffs_forms, diffs_tell}

-- what was read of both
abbrev made : List (Fact Term) → Behind (List (SidesOf Term)) → Behind Premises
made hs ds = with (record { hypotheses = hs; diffs = ds.value }) ds.walked

-- another hypothesis behind these
abbrev more : Behind (List (Fact Term)) → Behind (Fact Term) → Behind (List (Fact Term))
more hs h = with (hs.value ++ h.value ∷ []) h.walked

-- what is looked at behind two bytes stands behind `, `
looked_at : (k : List ℕ) (p : ℕ) (u : Unit {0}) (q : ℕ) (j : List ℕ) → read_fixed (codes ", ") k p ≡ Found u q j → front (drop 2 k) ≡ front j
looked_at k p u q j is = ap (λ bytes. front (drop 2 bytes)) (fixed_there (codes ", ") k p u q j is)

module _ (P : Protocol) (names : HasNames P) (table : List Term) where
  -- The kinds.

  abbrev last_one : KindIn Walked
  last_one = one_of (behind (hypotheses P table) (kept (fixed (codes " => ")))) (constraints P table)

  abbrev some_of : KindIn Walked
  some_of = many (behind (hypotheses P table) (kept (fixed (codes ", ")))) last_one

  -- what stands behind a hypothesis
  abbrev behind_one : KindIn Walked
  behind_one = one_of (behind (kept (fixed (codes ", "))) some_of) (kept (fixed (codes " => ")))

  abbrev hypothesis_first : KindIn Walked
  hypothesis_first = behind (hypotheses P table) behind_one

  -- constraints, or a hypothesis and what stands behind it
  abbrev in_order : KindIn Walked
  in_order = one_of (constraints P table) hypothesis_first

  order_text : (bytes rest : List ℕ) → in_order.Text bytes rest → some_of.Text bytes rest
  order_text bytes rest (inl ds) = last (inr ds)
  order_text bytes rest (inr (mid, one, inl (inner, comma, others))) = further inner (mid, one, comma) others
  order_text bytes rest (inr (mid, one, inr arrow)) = last (inl (mid, one, arrow))

  order_text-back : (bytes rest : List ℕ) → some_of.Text bytes rest → in_order.Text bytes rest
  order_text-back bytes rest (last (inl (mid, one, arrow))) = inr (mid, one, inr arrow)
  order_text-back bytes rest (last (inr ds)) = inl ds
  order_text-back bytes rest (further inner (mid, one, comma) others) = inr (mid, one, inl (inner, comma, others))

  order_fault : (w : Walked) (code : Code) (bytes there : List ℕ) → in_order.Fault w code bytes there → some_of.Fault w code bytes there
  order_fault w code bytes there (inl fault) = kinds.in_last (inr fault)
  order_fault w code bytes there (inr (inl fault)) = kinds.in_one (inl fault)
  order_fault w code bytes there (inr (inr (mid, t, leads, inl (inl none)))) = absurd none
  order_fault w code bytes there (inr (inr (mid, t, leads, inl (inr (inner, u, stays, fault))))) = kinds.later inner u (mid, t, leads, stays) fault
  order_fault w code bytes there (inr (inr (mid, t, leads, inr none))) = absurd none

  order_fault-back : (w : Walked) (code : Code) (bytes there : List ℕ) → some_of.Fault w code bytes there → in_order.Fault w code bytes there
  order_fault-back w code bytes there (kinds.in_last (inl (inl fault))) = inr (inl fault)
  order_fault-back w code bytes there (kinds.in_last (inl (inr (mid, t, leads, none)))) = absurd none
  order_fault-back w code bytes there (kinds.in_last (inr fault)) = inl fault
  order_fault-back w code bytes there (kinds.in_one (inl fault)) = inr (inl fault)
  order_fault-back w code bytes there (kinds.in_one (inr (mid, t, leads, none))) = absurd none
  order_fault-back w code bytes there (kinds.later inner u (mid, t, leads, stays) fault) = inr (inr (mid, t, leads, inl (inr (inner, u, stays, fault))))

  order_leads : (w : Walked) (bytes rest : List ℕ) (v : Walked) → in_order.Leads w bytes rest v → some_of.Leads w bytes rest v
  order_leads w bytes rest v (inl ds) = kinds.last (inr ds)
  order_leads w bytes rest v (inr (mid, t, leads, inl (inner, u, stays, others))) = kinds.further inner u (mid, t, leads, stays) others
  order_leads w bytes rest v (inr (mid, t, leads, inr stays)) = kinds.last (inl (mid, t, leads, stays))

  order_leads-back : (w : Walked) (bytes rest : List ℕ) (v : Walked) → some_of.Leads w bytes rest v → in_order.Leads w bytes rest v
  order_leads-back w bytes rest v (kinds.last (inl (mid, t, leads, stays))) = inr (mid, t, leads, inr stays)
  order_leads-back w bytes rest v (kinds.last (inr ds)) = inl ds
  order_leads-back w bytes rest v (kinds.further inner u (mid, t, leads, stays) others) = inr (mid, t, leads, inl (inner, u, stays, others))

  order_is : IsSameIn in_order some_of
  order_is = record {
    same = λ w. record { text = order_text; text_back = order_text-back; fault = order_fault w; fault_back = order_fault-back w };
    to = order_leads;
    back = order_leads-back;
  }

  abbrev one_forms : FormsIn (hypotheses P table) Anything
  one_forms = hypotheses_forms P names table

  constraints_forms : FormsIn (constraints P table) Anything
  constraints_forms = row_forms-in (diffs P table) (codes ", ") (codes " => ") Anything (diffs_forms P names table) (λ rest. tt) (λ rest. tt)

  arrow_forms : FormsIn {S = Walked} (kept (fixed (codes " => "))) Anything
  arrow_forms = kept_forms (fixed (codes " => ")) Anything (fixed_forms (codes " => "))

  comma_forms : FormsIn {S = Walked} (kept (fixed (codes ", "))) Anything
  comma_forms = kept_forms (fixed (codes ", ")) Anything (fixed_forms (codes ", "))

  some_forms : FormsIn some_of Anything
  some_forms =
      many_forms-in (behind (hypotheses P table) (kept (fixed (codes ", ")))) last_one Anything Anything (closed_thing-forms (hypotheses P table) Anything (codes ", ") one_forms (λ rest. tt))
      (one_of_forms-in (behind (hypotheses P table) (kept (fixed (codes " => ")))) (constraints P table) Anything (closed_thing-forms (hypotheses P table) Anything (codes " => ") one_forms (λ rest. tt)) constraints_forms)
      record { one = λ bytes rest text. tt; other = λ bytes rest text. tt }

  behind_one-forms : FormsIn behind_one Anything
  behind_one-forms = one_of_forms-in (behind (kept (fixed (codes ", "))) some_of) (kept (fixed (codes " => "))) Anything (behind_fixed-forms (codes ", ") some_of Anything some_forms) arrow_forms

  first_forms : FormsIn hypothesis_first Anything
  first_forms = both_forms-in (hypotheses P table) behind_one Anything Anything one_forms behind_one-forms (λ bs rest text. tt)

  -- How they begin.

  constraints_front : (test : ℕ → Bool) (is : Bool) → test 100 ≡ is → (bytes rest : List ℕ) → (constraints P table).Text bytes rest → test (front bytes) ≡ is
  constraints_front test is told bytes rest (last (mid, one, text)) = ap (λ bs. test (front bs)) one.1 ∙ told
  constraints_front test is told bytes rest (further inner (mid, one, text) others) = ap (λ bs. test (front bs)) one.1 ∙ told

  some_front : (bytes rest : List ℕ) → some_of.Text bytes rest → (front bytes == 61) ≡ false
  some_front bytes rest (last (inl (mid, one, text))) = (hypothesis_front P names table nothing_yet 61 refl refl refl refl).texts bytes mid one
  some_front bytes rest (last (inr ds)) = constraints_front (λ b. b == 61) false refl bytes rest ds
  some_front bytes rest (further inner (mid, one, text) others) = (hypothesis_front P names table nothing_yet 61 refl refl refl refl).texts bytes mid one

  constraints_told : (w : Walked) → IsToldBy (in_state (constraints P table) w) (λ bs. front bs == 100) true
  constraints_told w = told_by_front (in_state (constraints P table) w) Anything (λ b. b == 100) true (constraints_forms.each w) (constraints_front (λ b. b == 100) true refl)

  hypothesis_told : (w : Walked) → IsToldBy (in_state hypothesis_first w) (λ bs. front bs == 100) false
  hypothesis_told w = behind_told-in (hypotheses P table) behind_one w (λ bs. front bs == 100) false (one_forms.text w) (hypothesis_front P names table w 100 refl refl refl refl)

  -- The readers.

  -- constraints behind hypotheses that were read, and none of them
  abbrev diffs_read : Behind (List (Fact Term)) → Reader (Behind Premises)
  diffs_read hs = mapped (made hs.value) (read_diffs P table hs.walked)

  abbrev none_read : Behind (List (Fact Term)) → Reader (Behind Premises)
  none_read hs = closed_by (codes " => ") (made hs.value (with [] hs.walked))

  -- behind `, `: constraints, or what else is read behind these hypotheses
  abbrev diffs_or : (Behind (List (Fact Term)) → Reader (Behind Premises)) → Behind (List (Fact Term)) → Reader (Behind Premises)
  diffs_or again hs = chosen (λ bs. front bs == 100) (diffs_read hs) (again hs)

  abbrev behind_read : (Behind (List (Fact Term)) → Reader (Behind Premises)) → Behind (List (Fact Term)) → Reader (Behind Premises)
  behind_read again hs = chosen (λ bs. front bs == 44) (then_read (read_fixed (codes ", ")) (λ _ _. diffs_or again hs)) (none_read hs)

  -- behind these hypotheses, at most so many others
  premises_from : ℕ → Behind (List (Fact Term)) → Reader (Behind Premises)
  premises_from zero hs bytes at = Faulty at Syntax
  premises_from (suc most) hs bytes at = next (read_hypothesis P table hs.walked bytes at) (λ h p k. behind_read (premises_from most) (more hs h) k p)

  no_hypothesis : (hs : Behind (List (Fact Term))) (bytes : List ℕ) (at : ℕ) → premises_from 0 hs bytes at ≡ Faulty at Syntax
  unfolding premises_from
  no_hypothesis hs bytes at = refl

  one_hypothesis : (most : ℕ) (hs : Behind (List (Fact Term))) (bytes : List ℕ) (at : ℕ) → premises_from (suc most) hs bytes at ≡ then_read (read_hypothesis P table hs.walked) (λ at h. behind_read (premises_from most) (more hs h)) bytes at
  unfolding premises_from
  one_hypothesis most hs bytes at = refl

  -- Looking ahead reads the same.

  abbrev then_diffs : Behind (List (Fact Term)) → ℕ → List ℕ → Outcome (Behind Premises)
  then_diffs hs p k = with_diffs P table hs.value (read_diffs_behind P table hs.walked k p)

  abbrev IsAhead : ℕ → Behind (List (Fact Term)) → Type 0
  IsAhead most hs = (k : List ℕ) (p : ℕ) → next (hypotheses_from P table most hs k p) then_diffs ≡ premises_from most hs k p

  -- what comes of hypotheses, where another follows or not
  abbrev taken_on : ℕ → Behind (List (Fact Term)) → List ℕ → ℕ → Bool → Outcome (Behind Premises)
  taken_on most all k p another = next (if another then next (read_fixed (codes ", ") k p) (λ _ q j. hypotheses_from P table most all j q) else Found all p k) then_diffs

  -- no hypothesis and no constraint follows
  ahead_none : (most : ℕ) (all : Behind (List (Fact Term))) (k : List ℕ) (p : ℕ) → (front k == 44) ≡ false → taken_on most all k p (has_next_hypothesis k) ≡ behind_read (premises_from most) all k p
  ahead_none most all k p none =
      ap (λ t. taken_on most all k p t) (ap (λ t. t && not (front (drop 2 k) == 100)) none)
      ∙ (ap (λ t. with_diffs P table all.value (if t then next (read_fixed (codes ", ") k p) (λ _ q j. read_diffs P table all.walked j q) else next (read_fixed (codes " => ") k p) (λ _ q j. Found (with [] all.walked) q j))) none
      ∙ (by (read_fixed (codes " => ") k p)
      ∙ sym (ap (λ t. if t then next (read_fixed (codes ", ") k p) (λ _ q j. diffs_or (premises_from most) all j q) else none_read all k p) none)))
    where
      by : (o : Outcome (Unit {0})) → with_diffs P table all.value (next o (λ _ q j. Found (with [] all.walked) q j)) ≡ next o (λ _ q j. Found (made all.value (with [] all.walked)) q j)
      by (Faulty q c) = refl
      by (Found u q j) = refl

  -- a constraint follows
  ahead_diff : (most : ℕ) (all : Behind (List (Fact Term))) (k : List ℕ) (p : ℕ) → (front k == 44) ≡ true → (front (drop 2 k) == 100) ≡ true → taken_on most all k p (has_next_hypothesis k) ≡ behind_read (premises_from most) all k p
  ahead_diff most all k p comma diff =
      ap (λ t. taken_on most all k p t) (ap (λ t. t && not (front (drop 2 k) == 100)) comma ∙ ap not diff)
      ∙ (ap (λ t. with_diffs P table all.value (if t then next (read_fixed (codes ", ") k p) (λ _ q j. read_diffs P table all.walked j q) else next (read_fixed (codes " => ") k p) (λ _ q j. Found (with [] all.walked) q j))) comma
      ∙ (by (read_fixed (codes ", ") k p) refl
      ∙ sym (ap (λ t. if t then next (read_fixed (codes ", ") k p) (λ _ q j. diffs_or (premises_from most) all j q) else none_read all k p) comma)))
    where
      by : (o : Outcome (Unit {0})) → read_fixed (codes ", ") k p ≡ o → with_diffs P table all.value (next o (λ _ q j. read_diffs P table all.walked j q)) ≡ next o (λ _ q j. diffs_or (premises_from most) all j q)
      by (Faulty q c) is = refl
      by (Found u q j) is = sym (ap (λ t. if t then diffs_read all j q else premises_from most all j q) (ap (λ b. b == 100) (sym (looked_at k p u q j is)) ∙ diff))

  -- another hypothesis follows
  ahead_other : (most : ℕ) (all : Behind (List (Fact Term))) (k : List ℕ) (p : ℕ) → IsAhead most all → (front k == 44) ≡ true → (front (drop 2 k) == 100) ≡ false → taken_on most all k p (has_next_hypothesis k) ≡ behind_read (premises_from most) all k p
  ahead_other most all k p again comma other =
      ap (λ t. taken_on most all k p t) (ap (λ t. t && not (front (drop 2 k) == 100)) comma ∙ ap not other)
      ∙ (by (read_fixed (codes ", ") k p) refl
      ∙ sym (ap (λ t. if t then next (read_fixed (codes ", ") k p) (λ _ q j. diffs_or (premises_from most) all j q) else none_read all k p) comma))
    where
      by : (o : Outcome (Unit {0})) → read_fixed (codes ", ") k p ≡ o → next (next o (λ _ q j. hypotheses_from P table most all j q)) then_diffs ≡ next o (λ _ q j. diffs_or (premises_from most) all j q)
      by (Faulty q c) is = refl
      by (Found u q j) is = again j q ∙ sym (ap (λ t. if t then diffs_read all j q else premises_from most all j q) (ap (λ b. b == 100) (sym (looked_at k p u q j is)) ∙ other))

  ahead : (most : ℕ) (all : Behind (List (Fact Term))) (k : List ℕ) (p : ℕ) → IsAhead most all → taken_on most all k p (has_next_hypothesis k) ≡ behind_read (premises_from most) all k p
  ahead most all k p again = by (front k == 44) refl (front (drop 2 k) == 100) refl
    where
      by : (comma : Bool) → (front k == 44) ≡ comma → (diff : Bool) → (front (drop 2 k) == 100) ≡ diff → taken_on most all k p (has_next_hypothesis k) ≡ behind_read (premises_from most) all k p
      by false none diff is = ahead_none most all k p none
      by true comma true diff = ahead_diff most all k p comma diff
      by true comma false other = ahead_other most all k p again comma other

  premises_ahead : (most : ℕ) (hs : Behind (List (Fact Term))) → IsAhead most hs
  unfolding hypotheses_from premises_from
  premises_ahead zero hs k p = refl
  premises_ahead (suc most) hs bytes at = by (read_hypothesis P table hs.walked bytes at) (λ all. premises_ahead most all)
    where
      by : (o : Outcome (Behind (Fact Term))) → ((all : Behind (List (Fact Term))) → IsAhead most all)
          → next (next o (λ h p k. if has_next_hypothesis k then next (read_fixed (codes ", ") k p) (λ _ q j. hypotheses_from P table most (more hs h) j q) else Found (more hs h) p k)) then_diffs
          ≡ next o (λ h p k. behind_read (premises_from most) (more hs h) k p)
      by (Faulty p c) again = refl
      by (Found h p k) again = ahead most (more hs h) k p (again (more hs h))

  -- They tell the first fault.

  constraints_tell : (w : Walked) → TellsIn (constraints P table) w Anything Anything walked_of (read_diffs P table w)
  constraints_tell w =
      row_tells-in (diffs P table) Anything 44 (32 ∷ []) 32 (codes "=> ") (read_diff P table) (λ v. diffs_tell P names table v) (diffs_forms P names table)
      record { apart = refl; comma = λ rest. tt; close = λ rest. tt } (with [] w)

  diffs_read-tell : (hs : Behind (List (Fact Term))) → TellsIn (constraints P table) hs.walked Anything Anything walked_of (diffs_read hs)
  diffs_read-tell hs = mapped_tells-in (constraints P table) hs.walked Anything Anything walked_of walked_of (read_diffs P table hs.walked) (made hs.value) (λ x. refl) (constraints_tell hs.walked)

  or_tells : (most : ℕ) (hs : Behind (List (Fact Term))) (r : Reader (Behind Premises)) → TellsIn hypothesis_first hs.walked (λ bs. (length bs ≤ most) × ((front bs == 100) ≡ false)) Anything walked_of r
      → TellsIn some_of hs.walked (λ bs. length bs ≤ most) Anything walked_of (chosen (λ bs. front bs == 100) (diffs_read hs) r)
  or_tells most hs r second =
      let w = hs.walked in
      let is_d = λ (bs : List ℕ). front bs == 100 in
      let first = diffs_read-tell hs in
      kind_tells-in in_order some_of w (λ bs. length bs ≤ most) Anything walked_of (chosen is_d (diffs_read hs) r) order_is
      (one_of_tells-in (constraints P table) hypothesis_first w (λ bs. length bs ≤ most) Anything is_d walked_of (diffs_read hs) r (constraints_forms.text w) (first_forms.text w)
      (tells_of-in (constraints P table) w Anything (λ bs. (length bs ≤ most) × (is_d bs ≡ true)) Anything walked_of (diffs_read hs) (λ bs of. tt) first) second
      (constraints_told w) (hypothesis_told w) (choice_local (λ b. b == 100) (diffs_read hs) r first.tells.local second.tells.local))

  comma_stays : (w : Walked) → TellsIn (kept (fixed (codes ", "))) w Anything Anything (λ u. w) (read_fixed (codes ", "))
  comma_stays w = kept_tells (fixed (codes ", ")) w Anything Anything (λ u. w) (read_fixed (codes ", ")) (fixed_tells (codes ", ")) (λ bytes at place x rest e. refl)

  behind_read-tells : (most : ℕ) (again : Behind (List (Fact Term)) → Reader (Behind Premises)) (hs : Behind (List (Fact Term))) → TellsIn some_of hs.walked (λ bs. length bs ≤ most) Anything walked_of (diffs_or again hs)
      → TellsIn behind_one hs.walked (λ bs. length bs ≤ suc most) Anything walked_of (behind_read again hs)
  behind_read-tells most again hs tells =
      let w = hs.walked in
      let test = λ (bs : List ℕ). front bs == 44 in
      let goes = then_read (read_fixed (codes ", ")) (λ _ _. diffs_or again hs) in
      let closes = closes_in (codes " => ") w walked_of (made hs.value (with [] w)) refl in
      let goes_tells = both_tell-in (kept (fixed (codes ", "))) some_of w (λ bs. (length bs ≤ suc most) × (test bs ≡ true)) (λ bs. length bs ≤ most) Anything Anything (λ u. w) walked_of (read_fixed (codes ", ")) (λ _ _. diffs_or again hs)
      (tells_of-in (kept (fixed (codes ", "))) w Anything (λ bs. (length bs ≤ suc most) × (test bs ≡ true)) Anything (λ u. w) (read_fixed (codes ", ")) (λ bs of. tt) (comma_stays w)) (λ at u. tells) comma_forms some_forms (λ bs rest text. tt)
      (λ bs mid of text. omega (arith, of.0, ap length text)) in
      one_of_tells-in (behind (kept (fixed (codes ", "))) some_of) (kept (fixed (codes " => "))) w (λ bs. length bs ≤ suc most) Anything test walked_of goes (none_read hs)
      ((both_forms-in (kept (fixed (codes ", "))) some_of Anything Anything comma_forms some_forms (λ bs rest text. tt)).text w) (λ bytes rest t leads. leads.0) goes_tells
      (tells_of-in (kept (fixed (codes " => "))) w Anything (λ bs. (length bs ≤ suc most) × (test bs ≡ false)) Anything walked_of (none_read hs) (λ bs of. tt) closes)
      (behind_told-in (kept (fixed (codes ", "))) some_of w test true (λ bytes rest t leads. leads.0) (told_alone (codes ", ") test true (λ rest. refl))) (told_alone (codes " => ") test false (λ rest. refl))
      (choice_local (λ b. b == 44) goes (none_read hs) goes_tells.tells.local closes.tells.local)

  hypothesis_shorter : (w : Walked) (bytes mid : List ℕ) → (hypotheses P table).Text bytes mid → length mid ≤ length bytes
  hypothesis_shorter w bytes mid one = shorter (in_state (hypotheses P table) w) Anything bytes mid ((one_forms.each w).moved bytes mid one)

  first_long : (w : Walked) (bytes rest : List ℕ) → hypothesis_first.Text bytes rest → length rest + 1 ≤ length bytes
  first_long w bytes rest (mid, one, inl (inner, comma, others)) = omega (arith, hypothesis_shorter w bytes mid one, ap length comma, shorter (in_state some_of w) Anything inner rest ((some_forms.each w).moved inner rest others))
  first_long w bytes rest (mid, one, inr arrow) = omega (arith, hypothesis_shorter w bytes mid one, ap length arrow)

  -- no hypothesis is read of no bytes
  none_tells-in : (w : Walked) → TellsIn hypothesis_first w (λ bs. length bs ≤ 0) Anything (walked_of {X = Premises}) (λ bytes at. Faulty at Syntax)
  none_tells-in w = record {
    tells = none_tells {A = Behind Premises} (in_state hypothesis_first w) (first_forms.each w) (first_long w);
    leads = λ bytes at place x rest of e. absurd (cc);
    read = λ t bytes rest at of leads. absurd (omega (arith, of, first_long w bytes rest (first_forms.text w bytes rest t leads)));
  }

  from_tells : (most : ℕ) (hs : Behind (List (Fact Term))) → TellsIn some_of hs.walked (λ bs. length bs ≤ most) Anything walked_of (diffs_or (premises_from most) hs)
  from_tells zero hs =
      let w = hs.walked in
      or_tells 0 hs (premises_from 0 hs)
      (tells_of-in hypothesis_first w (λ bs. length bs ≤ 0) (λ bs. (length bs ≤ 0) × ((front bs == 100) ≡ false)) Anything walked_of (premises_from 0 hs) (λ bs of. of.0)
      (same_tells-in hypothesis_first w (λ bs. length bs ≤ 0) Anything walked_of (premises_from 0 hs) (λ bytes at. Faulty at Syntax) (no_hypothesis hs) (none_tells-in w)))
  from_tells (suc most) hs =
      let w = hs.walked in
      let on = λ (at : ℕ) (h : Behind (Fact Term)). behind_read (premises_from most) (more hs h) in
      or_tells (suc most) hs (premises_from (suc most) hs)
      (same_tells-in hypothesis_first w (λ bs. (length bs ≤ suc most) × ((front bs == 100) ≡ false)) Anything walked_of (premises_from (suc most) hs) (then_read (read_hypothesis P table w) on) (one_hypothesis most hs)
      (both_tell-in (hypotheses P table) behind_one w (λ bs. (length bs ≤ suc most) × ((front bs == 100) ≡ false)) (λ bs. length bs ≤ suc most) Anything Anything walked_of walked_of (read_hypothesis P table w) on
      (tells_of-in (hypotheses P table) w Anything (λ bs. (length bs ≤ suc most) × ((front bs == 100) ≡ false)) Anything walked_of (read_hypothesis P table w) (λ bs of. tt) (hypotheses_tell P names table w))
      (λ at h. behind_read-tells most (premises_from most) (more hs h) (from_tells most (more hs h)))
      one_forms behind_one-forms (λ bs rest text. tt) (λ bs mid of text. omega (arith, of.0, hypothesis_shorter w bs mid text))))

  -- Which fault of syntax is told, and what is found, is told by the bytes up to there.

  hypothesis_shrinks : (w : Walked) (bytes : List ℕ) (at p : ℕ) (h : Behind (Fact Term)) (k : List ℕ) → read_hypothesis P table w bytes at ≡ Found h p k → length k ≤ length bytes
  hypothesis_shrinks w bytes at p h k e = hypothesis_shorter w bytes k ((hypotheses_tell P names table w).tells.found bytes at p h k tt e)

  comma_shrinks : (k : List ℕ) (p q : ℕ) (u : Unit {0}) (r : List ℕ) → read_fixed (codes ", ") k p ≡ Found u q r → length r + 1 ≤ length k
  comma_shrinks k p q u r e = omega (arith, ap length ((fixed_tells (codes ", ")).found k p q u r tt e))

  premises_room : (most wide : ℕ) (hs : Behind (List (Fact Term))) (bytes : List ℕ) (at : ℕ) → length bytes + 1 ≤ most → length bytes + 1 ≤ wide → premises_from most hs bytes at ≡ premises_from wide hs bytes at
  premises_room zero wide hs bytes at room more_room = absurd (omega (arith, room))
  premises_room (suc most) zero hs bytes at room more_room = absurd (omega (arith, more_room))
  premises_room (suc most) (suc wide) hs bytes at room more_room =
      one_hypothesis most hs bytes at
      ∙ (later_same (read_hypothesis P table hs.walked bytes at) (λ h. behind_read (premises_from most) (more hs h)) (λ h. behind_read (premises_from wide) (more hs h))
      (λ h p k is. let less = hypothesis_shrinks hs.walked bytes at p h k is in
      ap (λ o. if front k == 44 then o else none_read (more hs h) k p)
      (later_same (read_fixed (codes ", ") k p) (λ u. diffs_or (premises_from most) (more hs h)) (λ u. diffs_or (premises_from wide) (more hs h))
      (λ u q r shorter_so. let shrunk = comma_shrinks k p q u r shorter_so in
      ap (λ o. if front r == 100 then diffs_read (more hs h) r q else o) (premises_room most wide (more hs h) r q (omega (arith, shrunk, less, room)) (omega (arith, shrunk, less, more_room))))))
      ∙ sym (one_hypothesis wide hs bytes at))

  or_local : (again : Behind (List (Fact Term)) → Reader (Behind Premises)) (hs : Behind (List (Fact Term))) → IsLocal (again hs) → IsLocal (diffs_or again hs)
  or_local again hs local = choice_local (λ b. b == 100) (diffs_read hs) (again hs) (diffs_read-tell hs).tells.local local

  premises_local : (most : ℕ) (hs : Behind (List (Fact Term))) → IsLocal (premises_from most hs)
  premises_local zero hs = same_local (premises_from 0 hs) (λ bytes at. Faulty at Syntax) (no_hypothesis hs) never_local
  premises_local (suc most) hs =
      same_local (premises_from (suc most) hs) (then_read (read_hypothesis P table hs.walked) (λ at h. behind_read (premises_from most) (more hs h))) (one_hypothesis most hs)
      (next_local (read_hypothesis P table hs.walked) (λ at h. behind_read (premises_from most) (more hs h)) (hypotheses_tell P names table hs.walked).tells.local
      (λ at h. choice_local (λ b. b == 44) (then_read (read_fixed (codes ", ")) (λ _ _. diffs_or (premises_from most) (more hs h))) (none_read (more hs h))
      (next_local (read_fixed (codes ", ")) (λ _ _. diffs_or (premises_from most) (more hs h)) (fixed_local (codes ", ")) (λ _ _. or_local (premises_from most) (more hs h) (premises_local most (more hs h))))
      (closes_in (codes " => ") h.walked walked_of (made (more hs h).value (with [] h.walked)) refl).tells.local))

  -- All of them.

  -- with room for one hypothesis more than there are bytes
  abbrev each_read : Walked → ℕ → Reader (Behind Premises)
  each_read w most = diffs_or (premises_from (suc most)) (with [] w)

  within_more : (most : ℕ) (w : Walked) → TellsIn some_of w (λ bs. length bs ≤ most) Anything walked_of (each_read w most)
  within_more most w = tells_of-in some_of w (λ bs. length bs ≤ suc most) (λ bs. length bs ≤ most) Anything walked_of (each_read w most) (λ bs few. omega (arith, few)) (from_tells (suc most) (with [] w))

  all_local : (w : Walked) → IsLocal (λ bytes at. each_read w (length bytes) bytes at)
  all_local w =
      within_room (each_read w)
      (λ most wide bytes at few few'. ap (λ o. if front bytes == 100 then diffs_read (with [] w) bytes at else o) (premises_room (suc most) (suc wide) (with [] w) bytes at (omega (arith, few)) (omega (arith, few'))))
      (λ most. or_local (premises_from (suc most)) (with [] w) (premises_local (suc most) (with [] w)))

  all_tell : (w : Walked) → TellsIn some_of w Anything Anything walked_of (λ bytes at. each_read w (length bytes) bytes at)
  all_tell w = record {
    tells = each_length_tells (in_state some_of w) Anything (each_read w) (all_local w) (λ most. (within_more most w).tells);
    leads = λ bytes at place y rest of e. (within_more (length bytes) w).leads bytes at place y rest (omega arith) e;
    read = λ t bytes rest at of leads. (within_more (length bytes) w).read t bytes rest at (omega arith) leads;
  }

  abbrev some_read : Walked → Reader (Behind Premises)
  some_read w = chosen (λ bs. front bs == 100) (diffs_read (with [] w)) (λ bytes at. next (read_hypotheses P table w bytes at) then_diffs)

  some_as : (w : Walked) (bytes : List ℕ) (at : ℕ) → some_read w bytes at ≡ each_read w (length bytes) bytes at
  some_as w bytes at = ap (λ o. if front bytes == 100 then diffs_read (with [] w) bytes at else o) (premises_ahead (suc (length bytes)) (with [] w) bytes at)

  some_tell : (w : Walked) → TellsIn some_of w Anything Anything walked_of (some_read w)
  some_tell w = same_tells-in some_of w Anything Anything walked_of (some_read w) (λ bytes at. each_read w (length bytes) bytes at) (some_as w) (all_tell w)

  none_forms : FormsIn {S = Walked} (kept (fixed (codes "=> "))) Anything
  none_forms = kept_forms (fixed (codes "=> ")) Anything (fixed_forms (codes "=> "))

  pub premises_forms : FormsIn (premises P table) Anything
  premises_forms = one_of_forms-in (kept (fixed (codes "=> "))) some_of Anything none_forms some_forms

  pub premises_tell : (w : Walked) → TellsIn (premises P table) w Anything Anything walked_of (read_premises P table w)
  premises_tell w =
      front_tells-in (kept (fixed (codes "=> "))) some_of w Anything 61 walked_of (closed_by (codes "=> ") (made [] (with [] w))) (some_read w) (closes_in (codes "=> ") w walked_of (made [] (with [] w)) refl) (some_tell w)
      none_forms some_forms (told_alone (codes "=> ") (λ bs. front bs == 61) true (λ rest. refl)) (told_by_front (in_state some_of w) Anything (λ b. b == 61) false (some_forms.each w) some_front)
