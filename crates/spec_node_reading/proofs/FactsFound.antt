-- The texts of facts and constraints by numbers are read, where the walk may go through their numbers.
use Rattle.std.proofs.Common.{◌≡◌, ℕ, zero, suc, ◌+◌, ◌<◌, ◌≤◌, ◌==◌, ◌||◌, ◌&&◌, not, if◌then◌else◌, Bool, true, false, List, [], ◌∷◌, ◌++◌, map, length, take, drop, Some, codes, refl, sym, ◌∙◌, ap, subst, arith, append_assoc, length-append}
use Rattle.std.specs.Char.{is_ascii_digit}
use Rattle.std.specs.Fmt.{decimal}
use Rattle.std.specs.List.{list_all, prefix_len}
use Rattle.std.proofs.Math.Seq.{drop-append_seam, take-append_seam}
use Rattle.std.proofs.lemmas.Bool.Decides.{nat_tests}
use Rattle.std.proofs.lemmas.Fmt.{decimal_nonempty}
use Rattle.std.proofs.lemmas.List.{length-map}
use Rattle.spec_trees.specs.Tree.{size}
use Rattle.spec_calculus.specs.Bounds.{most_symbols}
use Rattle.spec_calculus.specs.Syntax.{Declared, Protocol}
use Rattle.spec_protocol_tokens.specs.Bytes.{begins_word, is_in_word}
use Rattle.spec_terms.specs.Term.{Term}
use Rattle.spec_clauses.specs.Fact.{Fact, Att, Mess, Tab, Ev, Mev, Bad, map_fact}
use Rattle.spec_certificate_text.specs.Sides.{SidesOf, map_sides, holds_bound}
use Rattle.spec_certificate_text.specs.Words.{declared_word}
use Rattle.spec_certificate_text.specs.Spelled.{IsWord, Stops}
use Rattle.spec_certificate_text.specs.OfProtocol.{IsShort, IsEvent, IsTable, IsPhase, HasNames}
use Rattle.spec_certificate_text.proofs.Names.{decimal_digits, event_word_is_word, table_word_is_word}
use Rattle.spec_certificate_text.proofs.Runs.{both_left}
use Rattle.spec_certificate_text.specs.Names.{CalledEvent, called_in}
use Rattle.spec_certificate_text.specs.Terms.{Syntax, Symbol, Arity, NodeOrder, NodeLarge}
use Rattle.spec_certificate_text.specs.Outcomes.{Outcome, Found, Faulty, next, Reader, front, ended, read_fixed, read_number}
use Rattle.spec_certificate_text.specs.Facts.{Performed, performed, paired}
use Rattle.spec_certificate_text.proofs.Parts.{Finds, joined, when_true, when_false, other_byte, same_byte, fixed_found, run_stops, number_found}
use Rattle.spec_certificate_text.proofs.FactsFound.{phase_first}
use Rattle.spec_certificate_text.proofs.Called.{event_word_called, table_word_called}
use Rattle.spec_node_tables.specs.Nodes.{term_at}
use Rattle.spec_node_tables.specs.Text.{number_text, later_terms, terms_text, call_over, event_over, fact_over, sides_over}
use Rattle.spec_node_tables.specs.OfProtocol.{HasPredicate, AreSidesOver}
use Rattle.spec_node_tables.specs.Large.{most_certificate_symbols, is_over}
use Rattle.spec_node_faults.specs.Clauses.{is_out_of_order}
use Rattle.spec_node_faults.specs.Grammar.{MayBeHypothesis, MayBeConclusion}
use Rattle.spec_node_reading.specs.Walked.{Walked, with_signs, with_term, MayFollow, MayFollowAll}
use Rattle.spec_node_reading.specs.Loops.{Behind, with, row_from}
use Rattle.spec_node_reading.specs.ReadClauses.{judged_number, one_term, read_terms, read_applied, event_named, read_call, read_event, read_entry, read_att, read_mess, read_called, read_performed, read_tab, read_bad, read_hypothesis, read_conclusion, read_sides, read_diff}
use Rattle.spec_node_reading.proofs.Parts.{fact_part, diff_part, past_all, past_part, all_past, PartGoes}

module _ (P : Protocol) (names : HasNames P) (table : List Term) where
  -- a number of a constraint, or of a fact
  abbrev one_tree : Bool → Walked → Reader (Behind Term)
  one_tree binds w bytes at = next (read_number bytes at) (λ n p r. judged_number P table binds w at n p r)

  may_stand : (binds bound : Bool) → (binds ≡ false → bound ≡ false) → (not binds && bound) ≡ false
  may_stand true bound own = refl
  may_stand false bound own = own refl

  -- a number that may follow, before a byte that is no digit
  one_found : (binds : Bool) (w : Walked) (n b : ℕ) (rest : List ℕ) (at : ℕ) → IsShort n → MayFollow binds table w n → is_ascii_digit b ≡ false → Finds (one_tree binds w (decimal n ++ b ∷ rest) at) (with (term_at table n) (with_term (term_at table n) w)) (b ∷ rest)
  one_found binds w n b rest at short may stops =
      let t = term_at table n in
      let small = may.clause in
      let together = may.all in
      let large = is_over most_symbols (w.clause + size t) || is_over most_certificate_symbols (w.all + size t) in
      let one : is_over most_symbols (w.clause + size t) ≡ false = grind (arith, nat_tests, small) in
      let two : is_over most_certificate_symbols (w.all + size t) ≡ false = grind (arith, nat_tests, together) in
      let within : (is_over most_symbols (w.clause + size t) || is_over most_certificate_symbols (w.all + size t)) ≡ false = ap (λ c. c || is_over most_certificate_symbols (w.all + size t)) one ∙ two in
      joined (read_number (decimal n ++ b ∷ rest) at) (λ m p k. judged_number P table binds w at m p k) n (b ∷ rest) (with t (with_term t w)) (b ∷ rest) (number_found n b rest at short stops)
      (λ p. when_false (not binds && holds_bound t) (Faulty at Symbol) (if is_out_of_order table w.seen n then Faulty at NodeOrder else (if large then Faulty at NodeLarge else Found (with t (with_term t w)) p (b ∷ rest))) (with t (with_term t w)) (b ∷ rest) (may_stand binds (holds_bound t) may.own)
      (when_false (is_out_of_order table w.seen n) (Faulty at NodeOrder) (if large then Faulty at NodeLarge else Found (with t (with_term t w)) p (b ∷ rest)) (with t (with_term t w)) (b ∷ rest) may.in_order
      (when_false large (Faulty at NodeLarge) (Found (with t (with_term t w)) p (b ∷ rest)) (with t (with_term t w)) (b ∷ rest) within record { place = p; is = refl })))

  -- Rows of numbers.

  -- the byte that closes a row: no digit and no comma
  pub record ClosesRow (closing : ℕ) : Type 0 where
    pub no_digit : is_ascii_digit closing ≡ false
    pub no_comma : (closing == 44) ≡ false

  abbrev row_read : Bool → ℕ → ℕ → Behind (List Term) → Reader (Behind (List Term))
  row_read binds closing most xs bytes at = row_from (one_tree binds) 44 [] (closing ∷ []) most xs bytes at

  abbrev behind_number : Bool → ℕ → ℕ → List Term → Behind Term → ℕ → List ℕ → Outcome (Behind (List Term))
  behind_number binds closing most ts x p r =
      if front r == 44 then next (read_fixed (44 ∷ []) r p) (λ _ p r. row_read binds closing most (with (ts ++ x.value ∷ []) x.walked) r p)
      else next (read_fixed (closing ∷ []) r p) (λ _ p r. Found (with (ts ++ x.value ∷ []) x.walked) p r)

  row_more : (binds : Bool) (closing most : ℕ) (ts : List Term) (w : Walked) (bytes : List ℕ) (at : ℕ) → row_read binds closing (suc most) (with ts w) bytes at ≡ next (one_tree binds w bytes at) (λ x p r. behind_number binds closing most ts x p r)
  unfolding row_from
  row_more binds closing most ts w bytes at = refl

  row_found : (binds : Bool) (closing : ℕ) → ClosesRow closing → (most : ℕ) (ts : List Term) (w : Walked) (n : ℕ) (ns : List ℕ) (rest : List ℕ) (at : ℕ) → length ns + 1 ≤ most → MayFollowAll binds table w (n ∷ ns)
      → Finds (row_read binds closing most (with ts w) (terms_text number_text P (n ∷ ns) (closing ∷ rest)) at) (with (ts ++ map (term_at table) (n ∷ ns)) (past_all table w (n ∷ ns))) rest
  row_found binds closing closes zero ts w n ns rest at room may = absurd (omega (arith, room))
  row_found binds closing closes (suc most) ts w n [] rest at room may =
      let t = term_at table n in
      let v = with_term t w in
      let bytes = decimal n ++ closing ∷ rest in
      let end = with (ts ++ t ∷ []) v in
      let found = joined (one_tree binds w bytes at) (λ x p r. behind_number binds closing most ts x p r) (with t v) (closing ∷ rest) end rest (one_found binds w n closing rest at may.0 may.1 closes.no_digit)
      (λ p. when_false (closing == 44) (next (read_fixed (44 ∷ []) (closing ∷ rest) p) (λ _ p r. row_read binds closing most end r p)) (next (read_fixed (closing ∷ []) (closing ∷ rest) p) (λ _ p r. Found end p r)) end rest closes.no_comma
      (joined (read_fixed (closing ∷ []) (closing ∷ rest) p) (λ _ p r. Found end p r) tt rest end rest (fixed_found (closing ∷ []) rest p) (λ q. record { place = q; is = refl }))) in
      record { place = found.place; is = row_more binds closing most ts w bytes at ∙ found.is }
  row_found binds closing closes (suc most) ts w n (m ∷ ns) rest at room may =
      let t = term_at table n in
      let v = with_term t w in
      let inner = terms_text number_text P (m ∷ ns) (closing ∷ rest) in
      let bytes = decimal n ++ 44 ∷ inner in
      let end = with (ts ++ map (term_at table) (n ∷ m ∷ ns)) (past_all table v (m ∷ ns)) in
      let same : (ts ++ t ∷ []) ++ map (term_at table) (m ∷ ns) ≡ ts ++ map (term_at table) (n ∷ m ∷ ns) = append_assoc ts (t ∷ []) (map (term_at table) (m ∷ ns)) in
      let found = joined (one_tree binds w bytes at) (λ x p r. behind_number binds closing most ts x p r) (with t v) (44 ∷ inner) end rest (one_found binds w n 44 inner at may.0 may.1 refl)
      (λ p. joined (read_fixed (44 ∷ []) (44 ∷ inner) p) (λ _ p r. row_read binds closing most (with (ts ++ t ∷ []) v) r p) tt inner end rest (fixed_found (44 ∷ []) inner p)
      (λ q. subst (λ us. Finds (row_read binds closing most (with (ts ++ t ∷ []) v) inner q) (with us (past_all table v (m ∷ ns))) rest) same (row_found binds closing closes most (ts ++ t ∷ []) v m ns rest q (omega (arith, room)) may.2))) in
      record { place = found.place; is = row_more binds closing most ts w bytes at ∙ found.is }

  -- a row has as many bytes as numbers
  row_long : (n : ℕ) (ns : List ℕ) (rest : List ℕ) → length ns ≤ length (terms_text number_text P (n ∷ ns) rest)
  row_long n [] rest = omega arith
  row_long n (m ∷ ns) rest = let more = row_long m ns rest in omega (arith, more, length-append (decimal n) (44 ∷ terms_text number_text P (m ∷ ns) rest))

  pub whole_row-found : (binds : Bool) (closing : ℕ) → ClosesRow closing → (w : Walked) (n : ℕ) (ns : List ℕ) (rest : List ℕ) (at : ℕ) → MayFollowAll binds table w (n ∷ ns)
      → Finds (row_read binds closing (suc (length (terms_text number_text P (n ∷ ns) (closing ∷ rest)))) (with [] w) (terms_text number_text P (n ∷ ns) (closing ∷ rest)) at) (with (map (term_at table) (n ∷ ns)) (past_all table w (n ∷ ns))) rest
  whole_row-found binds closing closes w n ns rest at may = let long = row_long n ns (closing ∷ rest) in row_found binds closing closes (suc (length (terms_text number_text P (n ∷ ns) (closing ∷ rest)))) [] w n ns rest at (omega (arith, long)) may

  pub terms_found : (w : Walked) (n : ℕ) (ns : List ℕ) (rest : List ℕ) (at : ℕ) → MayFollowAll false table w (n ∷ ns) → Finds (read_terms P table w (terms_text number_text P (n ∷ ns) (41 ∷ rest)) at) (with (map (term_at table) (n ∷ ns)) (past_all table w (n ∷ ns))) rest
  terms_found w n ns rest at may = whole_row-found false 41 record { no_digit = refl; no_comma = refl } w n ns rest at may

  -- Events and entries.

  word_front : (w rest : List ℕ) → IsWord w → begins_word (front (w ++ rest)) ≡ true
  word_front [] rest is = absurd (let never : false ≡ true = is.begins in cc)
  word_front (b ∷ w) rest is = is.begins

  -- what stands behind the word of an event or a table
  abbrev applied_onto : List ℕ → List ℕ → List ℕ
  applied_onto [] rest = rest
  applied_onto (n ∷ ns) rest = 40 ∷ terms_text number_text P (n ∷ ns) (41 ∷ rest)

  call_parts : (ds : List Declared) (e : ℕ) (ns rest : List ℕ) → call_over number_text P ds e ns rest ≡ declared_word ds e ++ applied_onto ns rest
  call_parts ds e [] rest = refl
  call_parts ds e (n ∷ ns) rest = refl

  applied_found : (w : Walked) (ns rest : List ℕ) (at : ℕ) → MayFollowAll false table w ns → Finds (read_applied P table w (applied_onto ns (41 ∷ rest)) at) (with (map (term_at table) ns) (past_all table w ns)) (41 ∷ rest)
  applied_found w [] rest at may = record { place = at; is = refl }
  applied_found w (n ∷ ns) rest at may =
      let inner = terms_text number_text P (n ∷ ns) (41 ∷ 41 ∷ rest) in
      joined (read_fixed (codes "(") (40 ∷ inner) at) (λ _ p k. read_terms P table w k p) tt inner (with (map (term_at table) (n ∷ ns)) (past_all table w (n ∷ ns))) (41 ∷ rest) (fixed_found (codes "(") inner at)
      (λ p. terms_found w n ns (41 ∷ rest) p may)

  -- no byte of a word stands there
  applied_stops : (ns rest : List ℕ) → Stops is_in_word (applied_onto ns (41 ∷ rest))
  applied_stops [] rest = refl
  applied_stops (n ∷ ns) rest = refl

  applied_goes_on : {A : Type 0} (ns rest : List ℕ) (place : ℕ) (o : Outcome A) → ended place (applied_onto ns (41 ∷ rest)) o ≡ o
  applied_goes_on [] rest place o = refl
  applied_goes_on (n ∷ ns) rest place o = refl

  call_found : (ds : List Declared) (w : Walked) (e : ℕ) (ns : List ℕ) (rest : List ℕ) (at : ℕ) → IsWord (declared_word ds e) → called_in ds (declared_word ds e) ≡ Some (record { number = e; arity = length ns }) → MayFollowAll false table w ns
      → Finds (read_call P table ds w (call_over number_text P ds e ns (41 ∷ rest)) at) (with (record { event = e; arguments = map (term_at table) ns }) (past_all table w ns)) (41 ∷ rest)
  call_found ds w e ns rest at is_word known may =
      let word = declared_word ds e in
      let k = applied_onto ns (41 ∷ rest) in
      let bytes = word ++ k in
      let called : CalledEvent = record { number = e; arity = length ns } in
      let made : Performed = record { event = e; arguments = map (term_at table) ns } in
      let v = past_all table w ns in
      let long = prefix_len is_in_word bytes in
      let so : long ≡ length word = run_stops is_in_word word k is_word.goes_on (applied_stops ns rest) in
      let first : take long bytes ≡ word = ap (λ n. take n bytes) so ∙ take-append_seam word k in
      let later : drop long bytes ≡ k = ap (λ n. drop n bytes) so ∙ drop-append_seam word k in
      let many : (length (map (term_at table) ns) == length ns) ≡ true = ap (λ n. n == length ns) (length-map ns (term_at table)) ∙ same_byte (length ns) in
      let named : Finds (event_named P table (Some called) w at (at + long) k) (with made v) (41 ∷ rest) =
      joined (read_applied P table w k (at + long)) (λ x p r. next (performed at called x.value p r) (λ f p r. Found (with f x.walked) p r)) (with (map (term_at table) ns) v) (41 ∷ rest) (with made v) (41 ∷ rest) (applied_found w ns rest (at + long) may)
      (λ p. joined (performed at called (map (term_at table) ns) p (41 ∷ rest)) (λ f p r. Found (with f v) p r) made (41 ∷ rest) (with made v) (41 ∷ rest)
      (when_true (length (map (term_at table) ns) == length ns) (Found made p (41 ∷ rest)) (Faulty at Arity) made (41 ∷ rest) many record { place = p; is = refl }) (λ q. record { place = q; is = refl })) in
      let read : ended (at + long) (drop long bytes) (event_named P table (called_in ds (take long bytes)) w at (at + long) (drop long bytes)) ≡ event_named P table (Some called) w at (at + long) k =
      ap (λ bs. ended (at + long) bs (event_named P table (called_in ds (take long bytes)) w at (at + long) bs)) later
      ∙ (applied_goes_on ns rest (at + long) (event_named P table (called_in ds (take long bytes)) w at (at + long) k)
      ∙ (ap (λ o. event_named P table (called_in ds o) w at (at + long) k) first ∙ ap (λ o. event_named P table o w at (at + long) k) known)) in
      let whole : Finds (read_call P table ds w bytes at) (with made v) (41 ∷ rest) =
      when_true (begins_word (front bytes)) (ended (at + long) (drop long bytes) (event_named P table (called_in ds (take long bytes)) w at (at + long) (drop long bytes))) (Faulty at Syntax) (with made v) (41 ∷ rest) (word_front word k is_word) record { place = named.place; is = read ∙ named.is } in
      subst (λ bs. Finds (read_call P table ds w bs at) (with made v) (41 ∷ rest)) (sym (call_parts ds e ns (41 ∷ rest))) whole

  event_found : (w : Walked) (e : ℕ) (ns : List ℕ) (rest : List ℕ) (at : ℕ) → IsEvent P e (length ns) → MayFollowAll false table w ns
      → Finds (read_event P table w (event_over number_text P e ns (41 ∷ rest)) at) (with (record { event = e; arguments = map (term_at table) ns }) (past_all table w ns)) (41 ∷ rest)
  event_found w e ns rest at is may = call_found P.events w e ns rest at (event_word_is_word P e (length ns) names is) (event_word_called P names e (length ns) is) may

  entry_found : (w : Walked) (n : ℕ) (ns : List ℕ) (rest : List ℕ) (at : ℕ) → IsTable P n (length ns) → MayFollowAll false table w ns
      → Finds (read_entry P table w (call_over number_text P P.tables n ns (41 ∷ rest)) at) (with (record { event = n; arguments = map (term_at table) ns }) (past_all table w ns)) (41 ∷ rest)
  entry_found w n ns rest at is may = call_found P.tables w n ns rest at (table_word_is_word P n (length ns) names is) (table_word_called P names n (length ns) is) may

  -- Facts.

  -- the walk may go through the fact
  abbrev pub MayGo : Walked → Fact ℕ → Type 0
  MayGo w f = PartGoes table w (fact_part f)

  abbrev pub past_fact : Walked → Fact ℕ → Walked
  past_fact w f = past_part table w (fact_part f)

  abbrev pub read_as : Walked → Fact ℕ → Behind (Fact Term)
  read_as w f = with (map_fact (term_at table) f) (past_fact w f)

  att_found : (w : Walked) (phase n : ℕ) (rest : List ℕ) (at : ℕ) → IsPhase P phase → MayGo w (Att phase n) → Finds (read_att P table w (fact_over number_text P (Att phase n) rest) at) (read_as w (Att phase n)) rest
  att_found w phase n rest at in_phase may =
      let v = with_signs 1 w in
      let t = term_at table n in
      let inner = decimal n ++ 41 ∷ rest in
      phase_first P (codes "att") (λ k p r. next (one_term P table v r p) (λ x p r. next (read_fixed (codes ")") r p) (λ _ p r. Found (with (Att k x.value) x.walked) p r))) phase inner at (read_as w (Att phase n)) rest in_phase
      (λ p. joined (one_term P table v inner p) (λ x p r. next (read_fixed (codes ")") r p) (λ _ p r. Found (with (Att phase x.value) x.walked) p r)) (with t (with_term t v)) (41 ∷ rest) (read_as w (Att phase n)) rest (one_found false v n 41 rest p may.0 may.1 refl)
      (λ q. joined (read_fixed (codes ")") (41 ∷ rest) q) (λ _ p r. Found (with (Att phase t) (with_term t v)) p r) tt rest (read_as w (Att phase n)) rest (fixed_found (codes ")") rest q) (λ s. record { place = s; is = refl })))

  mess_found : (w : Walked) (phase m n : ℕ) (rest : List ℕ) (at : ℕ) → IsPhase P phase → MayGo w (Mess phase m n) → Finds (read_mess P table w (fact_over number_text P (Mess phase m n) rest) at) (read_as w (Mess phase m n)) rest
  mess_found w phase m n rest at in_phase may =
      let v = with_signs 1 w in
      let t = term_at table m in
      let u = term_at table n in
      let x = with_term t v in
      let y = with_term u x in
      let second = decimal n ++ 41 ∷ rest in
      let first = decimal m ++ 44 ∷ second in
      phase_first P (codes "mess") (λ k p r. next (one_term P table v r p) (λ a p r. next (read_fixed (codes ",") r p) (λ _ p r. next (one_term P table a.walked r p) (λ b p r. next (read_fixed (codes ")") r p) (λ _ p r. Found (with (Mess k a.value b.value) b.walked) p r)))))
      phase first at (read_as w (Mess phase m n)) rest in_phase
      (λ p. joined (one_term P table v first p) (λ a p r. next (read_fixed (codes ",") r p) (λ _ p r. next (one_term P table a.walked r p) (λ b p r. next (read_fixed (codes ")") r p) (λ _ p r. Found (with (Mess phase a.value b.value) b.walked) p r))))
      (with t x) (44 ∷ second) (read_as w (Mess phase m n)) rest (one_found false v m 44 second p may.0 may.1 refl)
      (λ q. joined (read_fixed (codes ",") (44 ∷ second) q) (λ _ p r. next (one_term P table x r p) (λ b p r. next (read_fixed (codes ")") r p) (λ _ p r. Found (with (Mess phase t b.value) b.walked) p r)))
      tt second (read_as w (Mess phase m n)) rest (fixed_found (codes ",") second q)
      (λ s. joined (one_term P table x second s) (λ b p r. next (read_fixed (codes ")") r p) (λ _ p r. Found (with (Mess phase t b.value) b.walked) p r)) (with u y) (41 ∷ rest) (read_as w (Mess phase m n)) rest (one_found false x n 41 rest s may.2.0 may.2.1 refl)
      (λ i. joined (read_fixed (codes ")") (41 ∷ rest) i) (λ _ p r. Found (with (Mess phase t u) y) p r) tt rest (read_as w (Mess phase m n)) rest (fixed_found (codes ")") rest i) (λ j. record { place = j; is = refl })))))

  called_found : (ds : List Declared) (word : List ℕ) (fact : ℕ → List Term → Fact Term) (w : Walked) (e : ℕ) (ns rest : List ℕ) (at : ℕ)
      → ((p : ℕ) → Finds (read_call P table ds (with_signs 2 w) (call_over number_text P ds e ns (41 ∷ rest)) p) (with (record { event = e; arguments = map (term_at table) ns }) (past_all table (with_signs 2 w) ns)) (41 ∷ rest))
      → Finds (read_called P table (read_call P table ds) word fact w (word ++ call_over number_text P ds e ns (41 ∷ rest)) at) (with (fact e (map (term_at table) ns)) (past_all table (with_signs 2 w) ns)) rest
  called_found ds word fact w e ns rest at found =
      let v = with_signs 2 w in
      let end = with (fact e (map (term_at table) ns)) (past_all table v ns) in
      let made : Performed = record { event = e; arguments = map (term_at table) ns } in
      let inner = call_over number_text P ds e ns (41 ∷ rest) in
      joined (read_fixed word (word ++ inner) at) (λ _ p r. next (read_call P table ds v r p) (λ f p r. next (read_fixed (codes ")") r p) (λ _ p r. Found (with (fact f.value.event f.value.arguments) f.walked) p r))) tt inner end rest (fixed_found word inner at)
      (λ p. joined (read_call P table ds v inner p) (λ f p r. next (read_fixed (codes ")") r p) (λ _ p r. Found (with (fact f.value.event f.value.arguments) f.walked) p r)) (with made (past_all table v ns)) (41 ∷ rest) end rest (found p)
      (λ q. joined (read_fixed (codes ")") (41 ∷ rest) q) (λ _ p r. Found end p r) tt rest end rest (fixed_found (codes ")") rest q) (λ s. record { place = s; is = refl })))

  performed_found : (word : List ℕ) (fact : ℕ → List Term → Fact Term) (w : Walked) (e : ℕ) (ns rest : List ℕ) (at : ℕ) → IsEvent P e (length ns) → MayFollowAll false table (with_signs 2 w) ns
      → Finds (read_performed P table word fact w (word ++ event_over number_text P e ns (41 ∷ rest)) at) (with (fact e (map (term_at table) ns)) (past_all table (with_signs 2 w) ns)) rest
  performed_found word fact w e ns rest at is may = called_found P.events word fact w e ns rest at (λ p. event_found (with_signs 2 w) e ns rest p is may)

  tab_found : (w : Walked) (n : ℕ) (ns rest : List ℕ) (at : ℕ) → IsTable P n (length ns) → MayGo w (Tab n ns) → Finds (read_tab P table w (fact_over number_text P (Tab n ns) rest) at) (read_as w (Tab n ns)) rest
  tab_found w n ns rest at is may = called_found P.tables (codes "tab(") (λ t ts. Tab t ts) w n ns rest at (λ p. entry_found (with_signs 2 w) n ns rest p is may)

  -- no number begins with `)`
  number_front : (n : ℕ) (k : List ℕ) → IsShort n → (front (decimal n ++ k) == 41) ≡ false
  number_front n k short = by (decimal n) (decimal_digits n short) (decimal_nonempty n (omega arith))
    where
      no_digit : (b : ℕ) → is_ascii_digit b ≡ true → (b == 41) ≡ false
      no_digit b is = other_byte b 41 (λ same. let never : false ≡ true = ap is_ascii_digit (sym same) ∙ is in cc)

      by : (ds : List ℕ) → list_all is_ascii_digit ds ≡ true → 0 < length ds → (front (ds ++ k) == 41) ≡ false
      by [] digits some = absurd (omega (arith, some))
      by (d ∷ ds) digits some = no_digit d (both_left (is_ascii_digit d) (list_all is_ascii_digit ds) digits)

  bad_found : (w : Walked) (ns rest : List ℕ) (at : ℕ) → MayGo w (Bad ns) → Finds (read_bad P table w (fact_over number_text P (Bad ns) rest) at) (read_as w (Bad ns)) rest
  bad_found w [] rest at may =
      let v = with_signs 1 w in
      joined (read_fixed (codes "bad(") (codes "bad(" ++ (41 ∷ rest)) at)
      (λ _ p r. if front r == 41 then next (read_fixed (codes ")") r p) (λ _ p r. Found (with (Bad []) v) p r) else next (read_terms P table v r p) (λ x p r. Found (with (Bad x.value) x.walked) p r)) tt (41 ∷ rest) (read_as w (Bad [])) rest (fixed_found (codes "bad(") (41 ∷ rest) at)
      (λ p. joined (read_fixed (codes ")") (41 ∷ rest) p) (λ _ p r. Found (with (Bad []) v) p r) tt rest (read_as w (Bad [])) rest (fixed_found (codes ")") rest p) (λ q. record { place = q; is = refl }))
  bad_found w (n ∷ ns) rest at may =
      let v = with_signs 1 w in
      let inner = terms_text number_text P (n ∷ ns) (41 ∷ rest) in
      joined (read_fixed (codes "bad(") (codes "bad(" ++ inner) at)
      (λ _ p r. if front r == 41 then next (read_fixed (codes ")") r p) (λ _ p r. Found (with (Bad []) v) p r) else next (read_terms P table v r p) (λ x p r. Found (with (Bad x.value) x.walked) p r)) tt inner (read_as w (Bad (n ∷ ns))) rest (fixed_found (codes "bad(") inner at)
      (λ p. when_false (front inner == 41) (next (read_fixed (codes ")") inner p) (λ _ p r. Found (with (Bad []) v) p r)) (next (read_terms P table v inner p) (λ x p r. Found (with (Bad x.value) x.walked) p r)) (read_as w (Bad (n ∷ ns))) rest (number_front n (later_terms number_text P ns (41 ∷ rest)) may.0)
      (joined (read_terms P table v inner p) (λ x p r. Found (with (Bad x.value) x.walked) p r) (with (map (term_at table) (n ∷ ns)) (past_all table v (n ∷ ns))) rest (read_as w (Bad (n ∷ ns))) rest (terms_found v n ns rest p may) (λ q. record { place = q; is = refl })))

  pub hypothesis_found : (w : Walked) (f : Fact ℕ) (rest : List ℕ) (at : ℕ) → HasPredicate P f → MayBeHypothesis f → MayGo w f → Finds (read_hypothesis P table w (fact_over number_text P f rest) at) (read_as w f) rest
  hypothesis_found w (Att k n) rest at has may go = att_found w k n rest at has go
  hypothesis_found w (Mess k m n) rest at has may go = mess_found w k m n rest at has go
  hypothesis_found w (Tab n ns) rest at has may go = tab_found w n ns rest at has go
  hypothesis_found w (Ev e ns) rest at has may go = performed_found (codes "ev(") (λ e ts. Ev e ts) w e ns rest at has go
  hypothesis_found w (Mev e ns) rest at has may go = performed_found (codes "mev(") (λ e ts. Mev e ts) w e ns rest at has go
  hypothesis_found w (Bad ns) rest at has may go = absurd may

  pub conclusion_found : (w : Walked) (f : Fact ℕ) (rest : List ℕ) (at : ℕ) → HasPredicate P f → MayBeConclusion f → MayGo w f → Finds (read_conclusion P table w (fact_over number_text P f rest) at) (read_as w f) rest
  conclusion_found w (Att k n) rest at has may go = att_found w k n rest at has go
  conclusion_found w (Mess k m n) rest at has may go = mess_found w k m n rest at has go
  conclusion_found w (Tab n ns) rest at has may go = tab_found w n ns rest at has go
  conclusion_found w (Ev e ns) rest at has may go = performed_found (codes "ev(") (λ e ts. Ev e ts) w e ns rest at has go
  conclusion_found w (Mev e ns) rest at has may go = absurd may
  conclusion_found w (Bad ns) rest at has may go = bad_found w ns rest at go

  -- Constraints.

  pub follow_first : (binds : Bool) (w : Walked) (ms ns : List ℕ) → MayFollowAll binds table w (ms ++ ns) → MayFollowAll binds table w ms
  follow_first binds w [] ns may = tt
  follow_first binds w (m ∷ ms) ns may = (may.0, may.1, follow_first binds (with_term (term_at table m) w) ms ns may.2)

  pub follow_second : (binds : Bool) (w : Walked) (ms ns : List ℕ) → MayFollowAll binds table w (ms ++ ns) → MayFollowAll binds table (past_all table w ms) ns
  follow_second binds w [] ns may = may
  follow_second binds w (m ∷ ms) ns may = follow_second binds (with_term (term_at table m) w) ms ns may.2

  abbrev pub diff_read-as : Walked → SidesOf ℕ → Behind (SidesOf Term)
  diff_read-as w s = with (map_sides (term_at table) s) (past_part table w (diff_part s))

  sides_found : (w : Walked) (ms ns : List ℕ) (rest : List ℕ) (at : ℕ) → length ms ≡ length ns → 0 < length ms → MayFollowAll true table (with_signs 1 w) (ms ++ ns)
      → Finds (read_diff P table w (sides_over number_text P (record { left = ms; right = ns }) rest) at) (with (record { left = map (term_at table) ms; right = map (term_at table) ns }) (past_all table (past_all table (with_signs 1 w) ms) ns)) rest
  sides_found w [] ns rest at paired some may = absurd (omega (arith, some))
  sides_found w (m ∷ ms) [] rest at paired some may = absurd (omega (arith, paired))
  sides_found w (m ∷ ms) (n ∷ ns) rest at same some may =
      let v = with_signs 1 w in
      let left = map (term_at table) (m ∷ ms) in
      let right = map (term_at table) (n ∷ ns) in
      let s : SidesOf Term = record { left = left; right = right } in
      let u = past_all table v (m ∷ ms) in
      let end = past_all table u (n ∷ ns) in
      let second = terms_text number_text P (n ∷ ns) (41 ∷ rest) in
      let first = terms_text number_text P (m ∷ ms) (59 ∷ second) in
      let many : (length left == length right) ≡ true =
      ap (λ k. k == length right) (length-map (m ∷ ms) (term_at table) ∙ (same ∙ sym (length-map (n ∷ ns) (term_at table)))) ∙ same_byte (length right) in
      joined (read_fixed (codes "diff(") (codes "diff(" ++ first) at) _ tt first (with s end) rest (fixed_found (codes "diff(") first at)
      (λ p. joined (read_sides P table (codes ";") v first p) _ (with left u) second (with s end) rest (whole_row-found true 59 record { no_digit = refl; no_comma = refl } v m ms second p (follow_first true v (m ∷ ms) (n ∷ ns) may))
      (λ q. joined (read_sides P table (codes ")") u second q) _ (with right end) rest (with s end) rest (whole_row-found true 41 record { no_digit = refl; no_comma = refl } u n ns rest q (follow_second true v (m ∷ ms) (n ∷ ns) may))
      (λ z. joined (paired at left right z rest) (λ t p r. Found (with t end) p r) s rest (with s end) rest (when_true (length left == length right) (Found s z rest) (Faulty at Arity) s rest many record { place = z; is = refl }) (λ i. record { place = i; is = refl }))))

  pub diff_found : (w : Walked) (s : SidesOf ℕ) (rest : List ℕ) (at : ℕ) → AreSidesOver IsShort s → PartGoes table w (diff_part s) → Finds (read_diff P table w (sides_over number_text P s rest) at) (diff_read-as w s) rest
  diff_found w s rest at are go =
      subst (λ v. Finds (read_diff P table w (sides_over number_text P s rest) at) (with (map_sides (term_at table) s) v) rest) (sym (all_past table (with_signs 1 w) s.left s.right)) (sides_found w s.left s.right rest at are.paired are.some go)
