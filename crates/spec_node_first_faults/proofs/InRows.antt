-- Rows in which what stands before counts: readers of them tell the first fault.
use Rattle.std.proofs.Common.{◌≡◌, ℕ, zero, suc, ◌+◌, ◌≤◌, ◌==◌, inl, inr, if◌then◌else◌, true, false, List, [], ◌∷◌, ◌++◌, length, refl, sym, ◌∙◌, ap, subst, arith, length-append}
use Rattle.spec_certificate_text.specs.Terms.{Code, Syntax}
use Rattle.spec_certificate_text.specs.Outcomes.{Found, Faulty, Reader, front, read_fixed}
use Rattle.spec_certificate_text.proofs.Parts.{same_byte}
use Rattle.spec_reading_faults.proofs.Shared.{IsLocal, next_local, choice_local, never_local, found_local}
use Rattle.spec_reading_faults.proofs.Parts.{same_local, fixed_local}
use Rattle.spec_first_faults.specs.Kinds.{fixed, last, further}
use Rattle.spec_first_faults.proofs.Tells.{Anything, GoesPastIt, shorter, goes_past, each_length_tells}
use Rattle.spec_first_faults.proofs.Behind.{then_read}
use Rattle.spec_first_faults.proofs.OneOf.{chosen, told_alone}
use Rattle.spec_first_faults.proofs.Small.{fixed_forms, fixed_tells}
use Rattle.spec_first_faults.proofs.Closed.{closed_by}
use Rattle.spec_first_faults.proofs.Rows.{AreBehind}
use Rattle.spec_node_reading.specs.Kinds.{KindIn, in_state, kept, behind, one_of, row_of}
use Rattle.spec_node_reading.specs.Kinds as kinds
use Rattle.spec_node_reading.specs.Walked.{Walked}
use Rattle.spec_node_reading.specs.Loops.{Behind, with, row_from}
use Rattle.spec_node_first_faults.proofs.InState.{FormsIn, TellsIn, IsSameIn, same_tells-in, tells_of-in, kind_tells-in, kept_forms, kept_tells, one_of_forms-in, one_of_tells-in, both_forms-in, both_tell-in}
use Rattle.spec_node_first_faults.proofs.InClosed.{closes_in}
use Rattle.spec_node_first_faults.proofs.InMany.{many_forms-in, behind_told-in, later_same}

-- how far the walk is behind what was read
abbrev pub walked_of : {X : Type 0} → Behind X → Walked
walked_of x = x.walked

module _ (K : KindIn Walked) (comma close : List ℕ) where
  abbrev rows : KindIn Walked
  rows = row_of K comma close

  -- A thing, and then a comma and a row, or the end.

  abbrev pub ended_or_more : KindIn Walked
  ended_or_more = one_of (behind (kept (fixed comma)) rows) (kept (fixed close))

  abbrev pub one_and_more : KindIn Walked
  one_and_more = behind K ended_or_more

  row_text : (bytes rest : List ℕ) → one_and_more.Text bytes rest → rows.Text bytes rest
  row_text bytes rest (mid, one, inl (inner, text, more)) = further inner (mid, one, text) more
  row_text bytes rest (mid, one, inr text) = last (mid, one, text)

  row_text-back : (bytes rest : List ℕ) → rows.Text bytes rest → one_and_more.Text bytes rest
  row_text-back bytes rest (last (mid, one, text)) = (mid, one, inr text)
  row_text-back bytes rest (further inner (mid, one, text) more) = (mid, one, inl (inner, text, more))

  row_fault : (w : Walked) (code : Code) (bytes there : List ℕ) → one_and_more.Fault w code bytes there → rows.Fault w code bytes there
  row_fault w code bytes there (inl fault) = kinds.in_one (inl fault)
  row_fault w code bytes there (inr (mid, t, leads, inl (inl none))) = absurd none
  row_fault w code bytes there (inr (mid, t, leads, inl (inr (inner, u, stays, fault)))) = kinds.later inner u (mid, t, leads, stays) fault
  row_fault w code bytes there (inr (mid, t, leads, inr none)) = absurd none

  row_fault-back : (w : Walked) (code : Code) (bytes there : List ℕ) → rows.Fault w code bytes there → one_and_more.Fault w code bytes there
  row_fault-back w code bytes there (kinds.in_last (inl fault)) = inl fault
  row_fault-back w code bytes there (kinds.in_last (inr (mid, t, leads, none))) = absurd none
  row_fault-back w code bytes there (kinds.in_one (inl fault)) = inl fault
  row_fault-back w code bytes there (kinds.in_one (inr (mid, t, leads, none))) = absurd none
  row_fault-back w code bytes there (kinds.later inner u (mid, t, leads, stays) fault) = inr (mid, t, leads, inl (inr (inner, u, stays, fault)))

  row_leads : (w : Walked) (bytes rest : List ℕ) (v : Walked) → one_and_more.Leads w bytes rest v → rows.Leads w bytes rest v
  row_leads w bytes rest v (mid, t, leads, inl (inner, u, stays, more)) = kinds.further inner u (mid, t, leads, stays) more
  row_leads w bytes rest v (mid, t, leads, inr stays) = kinds.last (mid, t, leads, stays)

  row_leads-back : (w : Walked) (bytes rest : List ℕ) (v : Walked) → rows.Leads w bytes rest v → one_and_more.Leads w bytes rest v
  row_leads-back w bytes rest v (kinds.further inner u (mid, t, leads, stays) more) = (mid, t, leads, inl (inner, u, stays, more))
  row_leads-back w bytes rest v (kinds.last (mid, t, leads, stays)) = (mid, t, leads, inr stays)

  row_is : IsSameIn one_and_more rows
  row_is = record {
    same = λ w. record { text = row_text; text_back = row_text-back; fault = row_fault w; fault_back = row_fault-back w };
    to = row_leads;
    back = row_leads-back;
  }

  pub row_forms-in : (May : List ℕ → Type 0) → FormsIn K May → ((rest : List ℕ) → May (comma ++ rest)) → ((rest : List ℕ) → May (close ++ rest)) → FormsIn rows Anything
  row_forms-in May forms follows ends =
      many_forms-in (behind K (kept (fixed comma))) (behind K (kept (fixed close))) Anything Anything
      (both_forms-in K (kept (fixed comma)) May Anything forms (kept_forms (fixed comma) Anything (fixed_forms comma)) (λ bs rest text. subst May (sym text) (follows rest)))
      (both_forms-in K (kept (fixed close)) May Anything forms (kept_forms (fixed close) Anything (fixed_forms close)) (λ bs rest text. subst May (sym text) (ends rest)))
      record { one = λ bytes rest text. tt; other = λ bytes rest text. tt }

-- The reader.

module _ {X : Type 0} (K : KindIn Walked) (May : List ℕ → Type 0) (c : ℕ) (cs : List ℕ) (z : ℕ) (zs : List ℕ) (one : Walked → Reader (Behind X)) (first : (w : Walked) → TellsIn K w Anything May walked_of (one w)) (forms : FormsIn K May) (marks : AreBehind May c cs z zs) where
  abbrev R : KindIn Walked
  R = row_of K (c ∷ cs) (z ∷ zs)

  abbrev read : ℕ → Behind (List X) → Reader (Behind (List X))
  read most xs = row_from one c cs (z ∷ zs) most xs

  abbrev more : Behind (List X) → Behind X → Behind (List X)
  more xs x = with (xs.value ++ x.value ∷ []) x.walked

  row : FormsIn R Anything
  row = row_forms-in K (c ∷ cs) (z ∷ zs) May forms marks.comma marks.close

  abbrev behind_thing : ℕ → Behind (List X) → ℕ → Behind X → Reader (Behind (List X))
  behind_thing most xs at x = chosen (λ bs. front bs == c) (then_read (read_fixed (c ∷ cs)) (λ _ _. read most (more xs x))) (closed_by (z ∷ zs) (more xs x))

  one_thing : (most : ℕ) (xs : Behind (List X)) (bytes : List ℕ) (at : ℕ) → read (suc most) xs bytes at ≡ then_read (one xs.walked) (behind_thing most xs) bytes at
  unfolding row_from
  one_thing most xs bytes at = refl

  no_thing : (xs : Behind (List X)) (bytes : List ℕ) (at : ℕ) → read 0 xs bytes at ≡ Faulty at Syntax
  unfolding row_from
  no_thing xs bytes at = refl

  thing_long : (v : ℕ) (vs bytes rest : List ℕ) → (behind K (kept (fixed (v ∷ vs)))).Text bytes rest → Walked → length rest + 1 ≤ length bytes
  thing_long v vs bytes rest (mid, text, same) w = omega (arith, shorter (in_state K w) May bytes mid ((forms.each w).moved bytes mid text), ap length same, length-append vs rest)

  row_long : (w : Walked) (bytes rest : List ℕ) → R.Text bytes rest → length rest + 1 ≤ length bytes
  row_long w bytes rest (last text) = thing_long z zs bytes rest text w
  row_long w bytes rest (further mid text later) = omega (arith, thing_long c cs bytes mid text w, shorter (in_state R w) Anything mid rest ((row.each w).moved mid rest later))

  -- no thing is read of no bytes
  abbrev nothing_read : Reader (Behind (List X))
  nothing_read bytes at = Faulty at Syntax

  none_tells-in : (w : Walked) → TellsIn R w (λ bytes. length bytes ≤ 0) Anything walked_of nothing_read
  none_tells-in w = record {
    tells = record {
      forms = row.each w;
      local = never_local;
      found = λ bytes at place x rest of e. absurd (cc);
      counted = λ bytes at place x rest of e. absurd (cc);
      right = λ bytes at place code of e.
          let places : at ≡ place = cc in
          let codes : Syntax ≡ code = cc in
          let some = (row.each w).some in
          inl (
            sym codes,
            record {
              there = bytes;
              to = record { before = []; text = refl; extends = record { other = some.front ++ some.follows; rest = some.follows; long = omega (arith, length-append some.front some.follows); is = some.each some.follows some.may } };
              counted = omega (arith, places);
            },
          );
      texts = λ bytes rest at of text. absurd (omega (arith, of, row_long w bytes rest text));
      told = λ code bytes there at of fault. absurd (none bytes there of (goes_past (in_state R w) bytes there ((row.each w).past code bytes there fault)));
    };
    leads = λ bytes at place x rest of e. absurd (cc);
    read = λ v bytes rest at of leads. absurd (omega (arith, of, row_long w bytes rest (row.text w bytes rest v leads)));
  }
    where
      none : (bytes there : List ℕ) → length bytes ≤ 0 → GoesPastIt (in_state R w) bytes there → ⊥
      none bytes there few past = omega (arith, few, ap length past.text, length-append past.before there, ap length past.begins)

  may : (bs rest : List ℕ) → (ended_or_more K (c ∷ cs) (z ∷ zs)).Text bs rest → May bs
  may bs rest (inl (mid, text, later)) = subst May (sym text) (marks.comma mid)
  may bs rest (inr text) = subst May (sym text) (marks.close rest)

  fixed_stays : (ws : List ℕ) (w : Walked) → TellsIn (kept (fixed ws)) w Anything Anything (λ u. w) (read_fixed ws)
  fixed_stays ws w = kept_tells (fixed ws) w Anything Anything (λ u. w) (read_fixed ws) (fixed_tells ws) (λ bytes at place x rest e. refl)

  ends_or_goes : (most : ℕ) (ys : Behind (List X)) → TellsIn R ys.walked (λ bytes. length bytes ≤ most) Anything walked_of (read most ys)
      → TellsIn (ended_or_more K (c ∷ cs) (z ∷ zs)) ys.walked (λ bytes. length bytes ≤ suc most) Anything walked_of (chosen (λ bs. front bs == c) (then_read (read_fixed (c ∷ cs)) (λ _ _. read most ys)) (closed_by (z ∷ zs) ys))
  ends_or_goes most ys again =
      let w = ys.walked in
      let test = λ (bs : List ℕ). front bs == c in
      let goes = then_read (read_fixed (c ∷ cs)) (λ _ _. read most ys) in
      let comma : FormsIn {S = Walked} (kept (fixed (c ∷ cs))) Anything = kept_forms (fixed (c ∷ cs)) Anything (fixed_forms (c ∷ cs)) in
      let closes = closes_in (z ∷ zs) w walked_of ys refl in
      let goes_tells = both_tell-in (kept (fixed (c ∷ cs))) R w (λ bytes. (length bytes ≤ suc most) × (test bytes ≡ true)) (λ bytes. length bytes ≤ most) Anything Anything (λ u. w) walked_of (read_fixed (c ∷ cs)) (λ _ _. read most ys)
      (tells_of-in (kept (fixed (c ∷ cs))) w Anything (λ bytes. (length bytes ≤ suc most) × (test bytes ≡ true)) Anything (λ u. w) (read_fixed (c ∷ cs)) (λ bytes of. tt) (fixed_stays (c ∷ cs) w)) (λ at u. again) comma row (λ bs rest text. tt)
      (λ bs mid of text. omega (arith, of.0, ap length text, length-append cs mid)) in
      one_of_tells-in (behind (kept (fixed (c ∷ cs))) R) (kept (fixed (z ∷ zs))) w (λ bytes. length bytes ≤ suc most) Anything test walked_of goes (closed_by (z ∷ zs) ys)
      ((both_forms-in (kept (fixed (c ∷ cs))) R Anything Anything comma row (λ bs rest text. tt)).text w) (λ bytes rest t leads. leads.0) goes_tells
      (tells_of-in (kept (fixed (z ∷ zs))) w Anything (λ bytes. (length bytes ≤ suc most) × (test bytes ≡ false)) Anything walked_of (closed_by (z ∷ zs) ys) (λ bytes of. tt) closes)
      (behind_told-in (kept (fixed (c ∷ cs))) R w test true (λ bytes rest t leads. leads.0) (told_alone (c ∷ cs) test true (λ rest. same_byte c))) (told_alone (z ∷ zs) test false (λ rest. marks.apart))
      (choice_local (λ b. b == c) goes (closed_by (z ∷ zs) ys) goes_tells.tells.local closes.tells.local)

  row_within : (most : ℕ) (xs : Behind (List X)) → TellsIn R xs.walked (λ bytes. length bytes ≤ most) Anything walked_of (read most xs)
  row_within zero xs = same_tells-in R xs.walked (λ bytes. length bytes ≤ 0) Anything walked_of (read 0 xs) nothing_read (no_thing xs) (none_tells-in xs.walked)
  row_within (suc most) xs =
      kind_tells-in (one_and_more K (c ∷ cs) (z ∷ zs)) R xs.walked (λ bytes. length bytes ≤ suc most) Anything walked_of (read (suc most) xs) (row_is K (c ∷ cs) (z ∷ zs))
      (same_tells-in (one_and_more K (c ∷ cs) (z ∷ zs)) xs.walked (λ bytes. length bytes ≤ suc most) Anything walked_of (read (suc most) xs) (then_read (one xs.walked) (behind_thing most xs)) (one_thing most xs)
      (both_tell-in K (ended_or_more K (c ∷ cs) (z ∷ zs)) xs.walked (λ bytes. length bytes ≤ suc most) (λ bytes. length bytes ≤ suc most) May Anything walked_of walked_of (one xs.walked) (behind_thing most xs)
      (tells_of-in K xs.walked Anything (λ bytes. length bytes ≤ suc most) May walked_of (one xs.walked) (λ bytes of. tt) (first xs.walked))
      (λ at x. ends_or_goes most (more xs x) (row_within most (more xs x)))
      forms
      (one_of_forms-in (behind (kept (fixed (c ∷ cs))) R) (kept (fixed (z ∷ zs))) Anything (both_forms-in (kept (fixed (c ∷ cs))) R Anything Anything (kept_forms (fixed (c ∷ cs)) Anything (fixed_forms (c ∷ cs))) row (λ bs rest text. tt)) (kept_forms (fixed (z ∷ zs)) Anything (fixed_forms (z ∷ zs))))
      may (λ bs mid of text. omega (arith, of, shorter (in_state K xs.walked) May bs mid ((forms.each xs.walked).moved bs mid text)))))

  -- Which fault of syntax is told, and what is found, is told by the bytes up to there.

  closed_local : (ys : Behind (List X)) → IsLocal (closed_by (z ∷ zs) ys)
  closed_local ys = next_local (read_fixed (z ∷ zs)) (λ at u bytes p. Found ys p bytes) (fixed_local (z ∷ zs)) (λ at u. found_local ys)

  row_local : (most : ℕ) (xs : Behind (List X)) → IsLocal (read most xs)
  row_local zero xs = same_local (read 0 xs) (λ bytes at. Faulty at Syntax) (no_thing xs) never_local
  row_local (suc most) xs =
      same_local (read (suc most) xs) (then_read (one xs.walked) (behind_thing most xs)) (one_thing most xs)
      (next_local (one xs.walked) (behind_thing most xs) (first xs.walked).tells.local
      (λ at x. choice_local (λ b. b == c) (then_read (read_fixed (c ∷ cs)) (λ _ _. read most (more xs x))) (closed_by (z ∷ zs) (more xs x))
      (next_local (read_fixed (c ∷ cs)) (λ _ _. read most (more xs x)) (fixed_local (c ∷ cs)) (λ _ _. row_local most (more xs x))) (closed_local (more xs x))))

  -- a thing and the comma behind it are one byte at least
  thing_shrinks : (w : Walked) (bytes : List ℕ) (at p : ℕ) (x : Behind X) (k : List ℕ) → one w bytes at ≡ Found x p k → length k ≤ length bytes
  thing_shrinks w bytes at p x k e = shorter (in_state K w) May bytes k ((forms.each w).moved bytes k ((first w).tells.found bytes at p x k tt e))

  comma_shrinks : (k : List ℕ) (p q : ℕ) (u : Unit {0}) (r : List ℕ) → read_fixed (c ∷ cs) k p ≡ Found u q r → length r + 1 ≤ length k
  comma_shrinks k p q u r e = let text = (fixed_tells (c ∷ cs)).found k p q u r tt e in omega (arith, ap length text, length-append cs r)

  row_room : (most wide : ℕ) (xs : Behind (List X)) (bytes : List ℕ) (at : ℕ) → length bytes + 1 ≤ most → length bytes + 1 ≤ wide → read most xs bytes at ≡ read wide xs bytes at
  row_room zero wide xs bytes at room more_room = absurd (omega (arith, room))
  row_room (suc most) zero xs bytes at room more_room = absurd (omega (arith, more_room))
  row_room (suc most) (suc wide) xs bytes at room more_room = one_thing most xs bytes at ∙ (later_same (one xs.walked bytes at) (λ x. behind_thing most xs at x) (λ x. behind_thing wide xs at x)
      (λ x p k is. let less = thing_shrinks xs.walked bytes at p x k is in
      ap (λ o. if front k == c then o else closed_by (z ∷ zs) (more xs x) k p)
      (later_same (read_fixed (c ∷ cs) k p) (λ u. read most (more xs x)) (λ u. read wide (more xs x))
      (λ u q r shorter_so. let shrunk = comma_shrinks k p q u r shorter_so in row_room most wide (more xs x) r q (omega (arith, shrunk, less, room)) (omega (arith, shrunk, less, more_room)))))
      ∙ sym (one_thing wide xs bytes at))

  -- with room for one thing more than there are bytes
  all_local : (xs : Behind (List X)) → IsLocal (λ bytes at. read (suc (length bytes)) xs bytes at)
  all_local xs = record {
    fault = λ bytes others at n place shares there e.
        let most = suc (length bytes + length others) in
        row_room (suc (length others)) most xs others at (omega arith) (omega arith)
        ∙ (row_local most xs).fault bytes others at n place shares there (row_room most (suc (length bytes)) xs bytes at (omega arith) (omega arith) ∙ e);
    found = λ bytes others at n place y rest shares there e.
        let most = suc (length bytes + length others) in
        row_room (suc (length others)) most xs others at (omega arith) (omega arith)
        ∙ (row_local most xs).found bytes others at n place y rest shares there (row_room most (suc (length bytes)) xs bytes at (omega arith) (omega arith) ∙ e);
    passed = λ bytes at place y rest e. (row_local (suc (length bytes)) xs).passed bytes at place y rest e;
    later = λ bytes at place e. (row_local (suc (length bytes)) xs).later bytes at place e;
  }

  within_more : (most : ℕ) (xs : Behind (List X)) → TellsIn R xs.walked (λ bytes. length bytes ≤ most) Anything walked_of (read (suc most) xs)
  within_more most xs = tells_of-in R xs.walked (λ bytes. length bytes ≤ suc most) (λ bytes. length bytes ≤ most) Anything walked_of (read (suc most) xs) (λ bytes few. omega (arith, few)) (row_within (suc most) xs)

  -- a reader of a row tells its first fault
  pub row_tells-in : (xs : Behind (List X)) → TellsIn R xs.walked Anything Anything walked_of (λ bytes at. read (suc (length bytes)) xs bytes at)
  row_tells-in xs = record {
    tells = each_length_tells (in_state R xs.walked) Anything (λ most. read (suc most) xs) (all_local xs) (λ most. (within_more most xs).tells);
    leads = λ bytes at place y rest of e. (within_more (length bytes) xs).leads bytes at place y rest (omega arith) e;
    read = λ t bytes rest at of leads. (within_more (length bytes) xs).read t bytes rest at (omega arith) leads;
  }
