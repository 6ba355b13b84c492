-- What stands behind the clauses: where some node of the table was never reached, this is told where a row or the last line begins.
use Rattle.std.proofs.Common.{◌≡◌, ◌≢◌, ◌⊎◌, inl, inr, ℕ, ◌+◌, ◌≤◌, ◌==◌, ◌&&◌, ◌||◌, not, if◌then◌else◌, Bool, true, false, List, [], ◌∷◌, length, drop, codes, refl, sym, ◌∙◌, ap, subst, arith}
use Rattle.spec_trees.proofs.Occurrence.{or_true}
use Rattle.spec_calculus.specs.Syntax.{Protocol}
use Rattle.spec_terms.specs.Term.{Term}
use Rattle.spec_clauses.specs.Fact.{Clause}
use Rattle.spec_certificates.specs.Certificate.{Certificate}
use Rattle.spec_certificate_text.specs.Terms.{Code, Syntax, Number, Symbol, Arity, Count, NodeOrder, NodeLarge}
use Rattle.spec_certificate_text.specs.Outcomes.{Found, Faulty, front, Reader}
use Rattle.spec_certificate_text.specs.Certificates.{certificate_end}
use Rattle.spec_certificate_text.proofs.Parts.{equal_byte, front_is}
use Rattle.spec_reading_faults.proofs.Shared.{IsLocal, choice_local}
use Rattle.spec_certificate_faults.proofs.Comes.{either}
use Rattle.spec_first_faults.specs.Kinds.{fixed, marked, last, further, in_last, in_one, later}
use Rattle.spec_first_faults.specs.Clauses.{row_lines, rows_and_end}
use Rattle.spec_first_faults.proofs.Tells.{Anything, GoesPastIt, IsRight, ToldIt, Tells, IsSameKind, right_to, same_tells, kind_tells}
use Rattle.spec_first_faults.proofs.OneOf.{chosen, IsToldBy, told_alone}
use Rattle.spec_first_faults.proofs.Many.{AreLines}
use Rattle.spec_first_faults.proofs.Marked.{marked_forms}
use Rattle.spec_first_faults.proofs.Clauses.{goals_and_end, many_told, told_row, row_lines-are, told_end, end_tells}
use Rattle.spec_node_faults.specs.Clauses.{is_front, completed}
use Rattle.spec_node_reading.specs.Loops.{Behind}
use Rattle.spec_node_reading.specs.Clauses.{ReachedFault}
use Rattle.spec_node_reading.specs.Reading.{ends_clauses, behind_clauses}

-- The rows and the last line.

goal_lines : AreLines (row_lines 103) (fixed (codes "end\n")) 103
goal_lines = row_lines-are 103 (fixed (codes "end\n")) refl refl (told_alone (codes "end\n") (λ bs. front bs == 103) false (λ rest. refl))

cover_lines : AreLines (row_lines 114) goals_and_end 114
cover_lines = row_lines-are 114 goals_and_end refl refl (told_end (λ b. b == 114) false refl refl)

pub rows_told : (test : ℕ → Bool) (is : Bool) → test 114 ≡ is → test 103 ≡ is → test 101 ≡ is → IsToldBy rows_and_end (λ bs. test (front bs)) is
rows_told test is covers goals end = many_told (row_lines 114) goals_and_end (λ bs. test (front bs)) is (told_row 114 test is covers) (told_end test is goals end)

goals_shorter : (bytes rest : List ℕ) → goals_and_end.Text bytes rest → length rest + 1 ≤ length bytes
goals_shorter bytes rest (last text) = omega (arith, ap length text)
goals_shorter bytes rest (further mid one more) = let less = goals_shorter mid rest more in omega (arith, goal_lines.long bytes mid one, less)

rows_shorter : (bytes rest : List ℕ) → rows_and_end.Text bytes rest → length rest + 1 ≤ length bytes
rows_shorter bytes rest (last text) = goals_shorter bytes rest text
rows_shorter bytes rest (further mid one more) = let less = rows_shorter mid rest more in omega (arith, cover_lines.long bytes mid one, less)

goals_within : (code : Code) (bytes there : List ℕ) → goals_and_end.Fault code bytes there → length there + 1 ≤ length bytes
goals_within code bytes there (in_last fault) = absurd fault
goals_within code bytes there (in_one fault) = goal_lines.within code bytes there fault
goals_within code bytes there (later mid one fault) = let less = goals_within code mid there fault in omega (arith, goal_lines.long bytes mid one, less)

rows_within : (code : Code) (bytes there : List ℕ) → rows_and_end.Fault code bytes there → length there + 1 ≤ length bytes
rows_within code bytes there (in_last fault) = goals_within code bytes there fault
rows_within code bytes there (in_one fault) = cover_lines.within code bytes there fault
rows_within code bytes there (later mid one fault) = let less = rows_within code mid there fault in omega (arith, cover_lines.long bytes mid one, less)

-- a row of the number 0
row_text : (letter : ℕ) (rest : List ℕ) → (row_lines letter).Text (letter ∷ 32 ∷ 48 ∷ 10 ∷ rest) rest
row_text letter rest = (48 ∷ 10 ∷ rest, refl, last (10 ∷ rest, record { run = 48 ∷ []; some = omega arith; begin = refl; all = refl; ends = refl; text = refl }, refl))

abbrev end_line : List ℕ
end_line = codes "end\n"

end_text : goals_and_end.Text end_line []
end_text = last refl

-- some text begins with each of the letters
past_letter : (bytes : List ℕ) (letter : ℕ) (more : List ℕ) → 0 ≢ letter → front bytes ≡ letter → rows_and_end.Text (letter ∷ more) [] → GoesPastIt rows_and_end bytes bytes
past_letter bytes letter more some is text = record { before = []; text = refl; first = letter; later = drop 1 bytes; begins = front_is bytes letter is some; extends = record { other = more; rest = []; long = omega arith; is = text } }

begins_past : (bytes : List ℕ) → (front bytes ≡ 114) ⊎ ((front bytes ≡ 103) ⊎ (front bytes ≡ 101)) → GoesPastIt rows_and_end bytes bytes
begins_past bytes (inl covers) = past_letter bytes 114 (32 ∷ 48 ∷ 10 ∷ end_line) (λ never. absurd (cc)) covers (further end_line (row_text 114 end_line) (last end_text))
begins_past bytes (inr (inl goals)) = past_letter bytes 103 (32 ∷ 48 ∷ 10 ∷ end_line) (λ never. absurd (cc)) goals (last (further end_line (row_text 103 end_line) end_text))
begins_past bytes (inr (inr end)) = past_letter bytes 101 (codes "nd\n") (λ never. absurd (cc)) end (last end_text)

letter_of : (b : ℕ) → ends_clauses b ≡ true → (b ≡ 114) ⊎ ((b ≡ 103) ⊎ (b ≡ 101))
letter_of b is =
    either (or_true ((b == 114) || (b == 103)) (b == 101) is)
    (λ rows. either (or_true (b == 114) (b == 103) rows) (λ covers. inl (equal_byte b 114 covers)) (λ goals. inr (inl (equal_byte b 103 goals))))
    (λ end. inr (inr (equal_byte b 101 end)))

of_letter : (b : ℕ) → (b ≡ 114) ⊎ ((b ≡ 103) ⊎ (b ≡ 101)) → ends_clauses b ≡ true
of_letter b (inl is) = ap ends_clauses is
of_letter b (inr (inl is)) = ap ends_clauses is
of_letter b (inr (inr is)) = ap ends_clauses is

module _ (P : Protocol) (table : List Term) (cs : Behind (List (Clause Term))) where
  abbrev Here : Code → List ℕ → Type 0
  Here = ReachedFault P table cs.walked

  abbrev whole : Bool
  whole = is_front table (completed cs.walked.seen)

  -- Where all nodes were reached.

  no_fault : whole ≡ true → (code : Code) (bytes : List ℕ) → Here code bytes → ⊥
  no_fault reached NodeOrder bytes here = let never : false ≡ true = sym here.left ∙ reached in cc
  no_fault reached Syntax bytes here = here
  no_fault reached Number bytes here = here
  no_fault reached Symbol bytes here = here
  no_fault reached Arity bytes here = here
  no_fault reached Count bytes here = here
  no_fault reached NodeLarge bytes here = here

  reached_as : whole ≡ true → (bytes : List ℕ) (at : ℕ) → behind_clauses table cs bytes at ≡ certificate_end cs.value bytes at
  reached_as reached bytes at = ap (λ t. if ends_clauses (front bytes) && not t then Faulty at NodeOrder else certificate_end cs.value bytes at) reached ∙ by (ends_clauses (front bytes))
    where
      by : (t : Bool) → (if t && false then Faulty at NodeOrder else certificate_end cs.value bytes at) ≡ certificate_end cs.value bytes at
      by true = refl
      by false = refl

  unmarked : whole ≡ true → IsSameKind rows_and_end (marked rows_and_end Here)
  unmarked reached = record {
    text = λ bytes rest text. text;
    text_back = λ bytes rest text. text;
    fault = λ code bytes there fault. inl fault;
    fault_back = λ code bytes there fault. either fault (λ k. k) (λ here. absurd (no_fault reached code bytes here.1));
  }

  reached_tell : whole ≡ true → Tells ⊥ (marked rows_and_end Here) Anything Anything (behind_clauses table cs)
  reached_tell reached =
      kind_tells rows_and_end (marked rows_and_end Here) Anything Anything (behind_clauses table cs) (unmarked reached)
      (same_tells rows_and_end Anything Anything (behind_clauses table cs) (certificate_end cs.value) (reached_as reached) (end_tells cs.value))

  -- Where one was not.

  abbrev test : List ℕ → Bool
  test bs = ends_clauses (front bs)

  abbrev refuse : Reader Certificate
  refuse bytes at = Faulty at NodeOrder

  refuse_local : IsLocal refuse
  refuse_local = record {
    fault = λ bytes others at n place shares there e. absurd (cc);
    found = λ bytes others at n place x rest shares there e. absurd (cc);
    passed = λ bytes at place x rest e. absurd (cc);
    later = λ bytes at place e. absurd (cc);
  }

  abbrev either_read : Reader Certificate
  either_read = chosen test refuse (certificate_end cs.value)

  unreached_as : whole ≡ false → (bytes : List ℕ) (at : ℕ) → behind_clauses table cs bytes at ≡ either_read bytes at
  unreached_as left bytes at = ap (λ t. if ends_clauses (front bytes) && not t then Faulty at NodeOrder else certificate_end cs.value bytes at) left ∙ by (ends_clauses (front bytes))
    where
      by : (t : Bool) → (if t && true then Faulty at NodeOrder else certificate_end cs.value bytes at) ≡ (if t then Faulty at NodeOrder else certificate_end cs.value bytes at)
      by true = refl
      by false = refl

  refused : (bytes : List ℕ) (at : ℕ) → test bytes ≡ true → either_read bytes at ≡ Faulty at NodeOrder
  refused bytes at is = ap (λ t. if t then Faulty at NodeOrder else certificate_end cs.value bytes at) is

  rows_test : IsToldBy rows_and_end test true
  rows_test = rows_told ends_clauses true refl refl refl

  here_past : (code : Code) (bytes : List ℕ) → Here code bytes → GoesPastIt rows_and_end bytes bytes
  here_past NodeOrder bytes here = begins_past bytes here.letter
  here_past Syntax bytes here = absurd here
  here_past Number bytes here = absurd here
  here_past Symbol bytes here = absurd here
  here_past Arity bytes here = absurd here
  here_past Count bytes here = absurd here
  here_past NodeLarge bytes here = absurd here

  here_told : (code : Code) (bytes : List ℕ) → Here code bytes → (test bytes ≡ true) × (NodeOrder ≡ code)
  here_told NodeOrder bytes here = (of_letter (front bytes) here.letter, refl)
  here_told Syntax bytes here = absurd here
  here_told Number bytes here = absurd here
  here_told Symbol bytes here = absurd here
  here_told Arity bytes here = absurd here
  here_told Count bytes here = absurd here
  here_told NodeLarge bytes here = absurd here

  either_tell : whole ≡ false → Tells ⊥ (marked rows_and_end Here) Anything Anything either_read
  either_tell left = record {
    forms = marked_forms rows_and_end Anything Here (end_tells cs.value).forms here_past (λ bytes here. here);
    local = choice_local ends_clauses refuse (certificate_end cs.value) refuse_local (end_tells cs.value).local;
    found = λ bytes at place x rest of e. found_by bytes at place x rest (test bytes) e;
    counted = λ bytes at place x rest of e. counted_by bytes at place x rest (test bytes) e;
    right = λ bytes at place code of e. right_by bytes at place code (test bytes) refl e;
    texts = λ bytes rest at of text. inr record { place = at; code = NodeOrder; is = refused bytes at (rows_test.texts bytes rest text); early = inl (rows_early bytes rest at text); other = λ e. cc };
    told = λ code bytes there at of fault. either fault
        (λ k. let less = rows_within code bytes there k in record { place = at; told = NodeOrder; is = refused bytes at (rows_test.faults code bytes there k); not_after = inl (omega (arith, less)) })
        (λ here. let is = here_told code bytes here.1 in subst (λ c. ToldIt (either_read bytes at) bytes at there c) is.1 record { place = at; told = NodeOrder; is = refused bytes at is.0; not_after = inr (omega (arith, ap length here.0), omega arith) });
  }
    where
      rows_early : (bytes rest : List ℕ) (at : ℕ) → rows_and_end.Text bytes rest → at + length rest + 1 ≤ at + length bytes
      rows_early bytes rest at text = let less = rows_shorter bytes rest text in omega (arith, less)

      found_by : (bytes : List ℕ) (at place : ℕ) (x : Certificate) (rest : List ℕ) (t : Bool) → (if t then Faulty at NodeOrder else certificate_end cs.value bytes at) ≡ Found x place rest → rows_and_end.Text bytes rest
      found_by bytes at place x rest true e = absurd (cc)
      found_by bytes at place x rest false e = (end_tells cs.value).found bytes at place x rest tt e

      counted_by : (bytes : List ℕ) (at place : ℕ) (x : Certificate) (rest : List ℕ) (t : Bool) → (if t then Faulty at NodeOrder else certificate_end cs.value bytes at) ≡ Found x place rest → place + length rest ≡ at + length bytes
      counted_by bytes at place x rest true e = absurd (cc)
      counted_by bytes at place x rest false e = (end_tells cs.value).counted bytes at place x rest tt e

      right_by : (bytes : List ℕ) (at place : ℕ) (code : Code) (t : Bool) → test bytes ≡ t → (if t then Faulty at NodeOrder else certificate_end cs.value bytes at) ≡ Faulty place code → IsRight (marked rows_and_end Here) bytes (at + length bytes) place code
      right_by bytes at place code true is e =
          let places : at ≡ place = cc in
          let codes_are : NodeOrder ≡ code = cc in
          inr record { there = bytes; is = inr (refl, subst (λ c. Here c bytes) codes_are record { letter = letter_of (front bytes) is; left = left }); counted = omega (arith, places) }
      right_by bytes at place code false is e = right_to rows_and_end (marked rows_and_end Here) bytes (at + length bytes) place code (λ bs k t. t) (λ there f. inl f) ((end_tells cs.value).right bytes at place code tt e)

  -- no line of a clause begins so
  pub no_clause : IsToldBy (marked rows_and_end Here) (λ bs. front bs == 99) false
  no_clause = record {
    texts = λ bytes rest text. rows.texts bytes rest text;
    faults = λ code bytes there fault. either fault (λ k. rows.faults code bytes there k) (λ here. by (front bytes) (letter_of (front bytes) (here_told code bytes here.1).0));
  }
    where
      rows : IsToldBy rows_and_end (λ bs. front bs == 99) false
      rows = rows_told (λ b. b == 99) false refl refl refl

      by : (b : ℕ) → (b ≡ 114) ⊎ ((b ≡ 103) ⊎ (b ≡ 101)) → (b == 99) ≡ false
      by b (inl is) = ap (λ c. c == 99) is
      by b (inr (inl is)) = ap (λ c. c == 99) is
      by b (inr (inr is)) = ap (λ c. c == 99) is

  -- what stands behind the clauses is read, and its first fault told
  pub rows_tell : Tells ⊥ (marked rows_and_end Here) Anything Anything (behind_clauses table cs)
  rows_tell = by whole refl
    where
      by : (b : Bool) → whole ≡ b → Tells ⊥ (marked rows_and_end Here) Anything Anything (behind_clauses table cs)
      by true is = reached_tell is
      by false is = same_tells (marked rows_and_end Here) Anything Anything (behind_clauses table cs) either_read (unreached_as is) (either_tell is)
