-- Declarations and files are read as they are spelled.
use Rattle.std.proofs.Common.{◌≡◌, ◌≢◌, ℕ, zero, suc, ◌+◌, ◌≤◌, ◌⊎◌, Bool, true, false, List, [], ◌∷◌, ◌++◌, Option, Some, None, refl, sym, ap, subst, inl, inr, arith}
use Rattle.spec_calculus.specs.Bounds.{most_levels}
use Rattle.spec_protocol_grammar.specs.declared.class.Class.{Class}
use Rattle.spec_protocol_grammar.specs.declared.class.Class.TheVariants as w
use Rattle.spec_protocol_grammar.specs.Classes.{Source, same, fits}
use Rattle.spec_protocol_grammar.specs.Sketch.{TermSketch, Named, Grouped, TermsSketch, none, more, AlternativeSketch, QuerySketch, AttackerNew, Attacker, Correspondence, RuleSketch, DeclarationSketch, Free, Fun, Data, Reduc, Event, Table, Query, Definition}
use Rattle.spec_protocol_grammar.specs.Spelling.{Item, word, kept, more_of, term, process, name, happening, alternative, alternatives, asked_phase, question, rule, sized, declaration, declarations, file, Words, IsGreedy}
use Rattle.spec_protocol_grammar.specs.Reading.{Tired, Reader, built, done, with_place, then_marked, both, either, list_at, term_at, atom_at, process_at, name_from, name_at, happening_from, happening_at, alternative_from, alternative_at, alternatives_from, alternatives_at, phase_from, phase_at, attacker_from, correspondence, question_by, question_at, rule_from, rule_at, sized_at, names_at, free, fun, hidden, data_from, event_from, table_from, reduc, query, definition, declaration_by, declaration_at, main_at, Rest, declarations_from, declarations_at, file_from, file_at}
use Rattle.spec_protocol_grammar.proofs.Same.{same-true}
use Rattle.spec_protocol_grammar.proofs.Items.{words-split, words_later, greedy-append, greedy-split}
use Rattle.spec_protocol_grammar.proofs.Good.{Outcome, Sound, Good, tires}
use Rattle.spec_protocol_grammar.proofs.Combine.{All, Plain, numbered_items, then_items, done_items, good_done, good_numbered, good_then, good_ended}
use Rattle.spec_protocol_grammar.proofs.Choose.{good_same, good_low, built_sound, built_complete, good_built, good_optional, choice_sound, refused_sound, optional_items, both_items, either_items, good_either, good_both, Any, Way, way_sound, way_complete}
use Rattle.spec_protocol_grammar.proofs.Lists.{list_items, NotOpen, NotComma, closes, good_list}
use Rattle.spec_protocol_grammar.proofs.Terms.{terms_list, terms_there, terms_spelled, good_term}
use Rattle.spec_protocol_grammar.proofs.Patterns.{good_atom}
use Rattle.spec_protocol_grammar.proofs.Units.{good_process}

-- another class stands there
differs_from : (c a k : Class) → same a k ≡ true → same c a ≡ false → same c k ≡ false
differs_from c a k e h = subst (λ (d : Class). same c d ≡ false) (same-true a k e) h

-- what may follow a list of events, and what a query asks
abbrev EndsAlternative : Class → Type 0
EndsAlternative c = NotOpen c × (w.And ≢ c)

abbrev EndsQuestion : Class → Type 0
EndsQuestion c = EndsAlternative c × (w.Or ≢ c) × (w.Phase ≢ c)

h : 0 ≤ most_levels
h = omega arith

-- behind a word
behind : {most : ℕ} {last : Bool} {Y : Type 0} {sq : Y → List Item} {D : Class → Type 0} {q : Reader Y} (c : Class) → Plain c → fits c w.End ≡ false → Good most All last sq D q → Good most All last (then_items done_items 0 c sq) D (then_marked done c q)
behind {most} c plain n q = good_then {C = Any} 0 h c plain n tt (good_done most) q

good_name : (most : ℕ) → Good most All false name Any name_at
good_name most = good_built name name_from (λ x. refl) (good_numbered 0 h w.Name refl (good_done most)) (λ n. (n, tt)) (λ n. refl)

good_happening : (most : ℕ) → Good most All false happening NotOpen (happening_at most)
good_happening most = good_built happening happening_from (λ x. refl) (behind w.Event (λ k e. e) refl (good_atom most most_levels 1 refl)) (λ a. (tt, a)) (λ a. refl)

good_alternative : (most : ℕ) → Good most All false alternative EndsAlternative (alternative_at most)
unfolding alternative_at
good_alternative most = good_same (built alternative_from (list_at most w.And (happening_at most))) (alternative_at most) (λ s at. refl)
    (good_built alternative alternative_from (λ x. refl) (good_list 0 h w.And (λ k e. e) refl (λ d i. i.0) (λ d i. i.1) (good_happening most)) (λ a. (a.atom, a.others)) (λ a. refl))

alternatives_spelled : (x : (Unit {0} × Unit {0}) ⊎ (AlternativeSketch × List AlternativeSketch)) → alternatives (alternatives_from x) ≡ either_items (then_items done_items 0 w.False done_items) (list_items 0 w.Or alternative) x
alternatives_spelled (inl x) = refl
alternatives_spelled (inr x) = refl

abbrev alternatives_back : List AlternativeSketch → (Unit {0} × Unit {0}) ⊎ (AlternativeSketch × List AlternativeSketch)
alternatives_back [] = inl (tt, tt)
alternatives_back (a ∷ others) = inr (a, others)

alternatives_there : (xs : List AlternativeSketch) → alternatives_from (alternatives_back xs) ≡ xs
alternatives_there [] = refl
alternatives_there (a ∷ others) = refl

good_alternatives : (most : ℕ) → Good most All false alternatives EndsQuestion (alternatives_at most)
unfolding alternatives_at
good_alternatives most = good_same (built alternatives_from (either w.False (then_marked done w.False done) (list_at most w.Or (alternative_at most)))) (alternatives_at most) (λ s at. refl)
    (good_built alternatives alternatives_from alternatives_spelled
    (good_either w.False (λ s at x end z. z.0) (λ s at y end z. differs_from w.False w.Event (s at).class z.0 refl)
    (behind w.False (λ k e. e) refl (good_done most))
    (good_list 0 h w.Or (λ k e. e) refl (λ d i. i.0) (λ d i. i.1) (good_alternative most)))
    alternatives_back alternatives_there)

phase_spelled : (o : Option (ℕ × Unit {0})) → asked_phase (phase_from o) ≡ optional_items 0 w.Phase (numbered_items 0 w.Number done_items) o
phase_spelled None = refl
phase_spelled (Some x) = refl

abbrev phase_back : Option ℕ → Option (ℕ × Unit {0})
phase_back None = None
phase_back (Some x) = Some (x, tt)

phase_there : (o : Option ℕ) → phase_from (phase_back o) ≡ o
phase_there None = refl
phase_there (Some x) = refl

good_phase : (most : ℕ) → Good most All false asked_phase EndsQuestion phase_at
good_phase most = good_built asked_phase phase_from phase_spelled
    (good_optional 0 h w.Phase (λ k e. e) refl (λ d i. i.2) (λ at e low z. tt) (good_numbered 0 h w.Number refl (good_done most))) phase_back phase_there

-- a term does not begin with `new`
not_new : (s : Source) (at end : ℕ) (t : TermSketch) → Words s at (term 1 t) end → same w.New (s at).class ≡ false
not_new s at end (Named n ts) z = differs_from w.New w.Name (s at).class z.0.1 refl
not_new s at end (Grouped n ts) z = differs_from w.New w.Open (s at).class z.0.1 refl

module _ (most : ℕ) where
  one_term : Good most All false (term 1) NotOpen (term_at most most_levels)
  one_term = good_term most most_levels 1 refl

  abbrev attacked : Reader ((Unit {0} × (ℕ × (Unit {0} × Option ℕ))) ⊎ (TermSketch × Option ℕ))
  attacked = either w.New (then_marked done w.New (with_place w.Name (then_marked done w.Close phase_at))) (then_marked (term_at most most_levels) w.Close phase_at)

  abbrev attacked_items : (Unit {0} × (ℕ × (Unit {0} × Option ℕ))) ⊎ (TermSketch × Option ℕ) → List Item
  attacked_items = either_items (then_items done_items 0 w.New (numbered_items 0 w.Name (then_items done_items 0 w.Close asked_phase))) (then_items (term 1) 0 w.Close asked_phase)

  good_attacked : Good most All false attacked_items EndsQuestion attacked
  good_attacked = good_either w.New (λ s at x end z. z.0) (λ s at y end z. let parts = words-split s (term 1 y.0) (word 0 w.Close ∷ asked_phase y.1) at end z in not_new s at parts.0 y.0 parts.1)
      (behind w.New (λ k e. e) refl (good_numbered 0 h w.Name refl (behind w.Close (λ k e. e) refl (good_phase most))))
      (good_then 0 h w.Close (λ k e. e) refl (λ e. cc) one_term (good_phase most))

  attacker_spelled : (x : ℕ × (Unit {0} × ((Unit {0} × (ℕ × (Unit {0} × Option ℕ))) ⊎ (TermSketch × Option ℕ)))) → question (attacker_from x) ≡ numbered_items 0 w.Attacker (then_items done_items 0 w.Open attacked_items) x
  attacker_spelled (n, (o, inl x)) = refl
  attacker_spelled (n, (o, inr x)) = refl

  attacker_way : Way most question EndsQuestion attacker_from (with_place w.Attacker (then_marked done w.Open attacked))
  attacker_way = record { items = _; spelled = attacker_spelled; good = good_numbered 0 h w.Attacker refl (behind w.Open (λ k e. e) refl good_attacked) }

  correspondence_way : Way most question EndsQuestion correspondence (with_place w.Event (then_marked (atom_at most most_levels) w.Implies (alternatives_at most)))
  correspondence_way = record { items = _; spelled = λ x. refl; good = good_numbered 0 h w.Event refl (good_then 0 h w.Implies (λ k e. e) refl (λ e. cc) (good_atom most most_levels 1 refl) (good_alternatives most)) }

  question_sound : (c : Class) → Sound false question EndsQuestion (question_by most c)
  question_sound w.Attacker = way_sound attacker_way
  question_sound w.Event = way_sound correspondence_way
  question_sound _ = refused_sound false question EndsQuestion (AttackerNew 0 0 None) (λ s at. inl refl) (λ c i. (i.2, tt))

  question_complete : (s : Source) (at : ℕ) (q : QuerySketch) (end : ℕ) → All at → Words s at (question q) end → IsGreedy (question q) (s end).class → Outcome most s at (question q) q end (question_by most (s at).class s at)
  question_complete s at (AttackerNew n x o) end low z y = way_complete (question_by most) w.Attacker (λ k e. e) attacker_way (λ s at. refl) s at (n, (tt, inl (tt, (x, (tt, o))))) end z.0.1 z y
  question_complete s at (Attacker n t o) end low z y = way_complete (question_by most) w.Attacker (λ k e. e) attacker_way (λ s at. refl) s at (n, (tt, inr (t, o))) end z.0.1 z y
  question_complete s at (Correspondence n a others) end low z y = way_complete (question_by most) w.Event (λ k e. e) correspondence_way (λ s at. refl) s at (n, (a, others)) end z.0.1 z y

  good_question : Good most All false question EndsQuestion (question_at most)
  unfolding question_at
  good_question = good_same (λ s at. question_by most (s at).class s at) (question_at most) (λ s at. refl)
      (record { some = AttackerNew 0 0 None; some_firm = λ c i. (i.2, tt); sound = choice_sound question_sound; complete = question_complete })

  abbrev rule_reader : Reader (ℕ × (Unit {0} × ((TermSketch × List TermSketch) × (Unit {0} × TermSketch))))
  rule_reader = with_place w.Name (then_marked done w.Open (then_marked (list_at most w.Comma (term_at most most_levels)) w.Close (then_marked done w.Arrow (term_at most most_levels))))

  abbrev rule_items : ℕ × (Unit {0} × ((TermSketch × List TermSketch) × (Unit {0} × TermSketch))) → List Item
  rule_items = numbered_items 0 w.Name (then_items done_items 0 w.Open (then_items (list_items 0 w.Comma (term 1)) 0 w.Close (then_items done_items 0 w.Arrow (term 1))))

  rule_good : Good most All false rule_items NotOpen rule_reader
  rule_good = good_numbered 0 h w.Name refl (behind w.Open (λ k e. e) refl
      (good_then 0 h w.Close (λ k e. e) refl closes (good_list {D = NotComma} 0 h w.Comma (λ k e. e) refl (λ d i. i.0) (λ d i. i.1) one_term)
      (behind w.Arrow (λ k e. e) refl one_term)))

  rule_spelled : (x : ℕ × (Unit {0} × ((TermSketch × List TermSketch) × (Unit {0} × TermSketch)))) → rule (rule_from x) ≡ rule_items x
  rule_spelled x = ap (λ is. kept 0 x.0 w.Name ∷ word 0 w.Open ∷ (is ++ (word 0 w.Close ∷ word 0 w.Arrow ∷ term 1 x.1.1.1.1))) (terms_spelled 0 x.1.1.0)

  rule_complete : (s : Source) (at first : ℕ) (ts : TermsSketch) (result : TermSketch) (end : ℕ) → let r : RuleSketch = record { first = first; arguments = ts; result = result } in
      Words s at (rule r) end → IsGreedy (rule r) (s end).class → Outcome most s at (rule r) r end (built rule_from rule_reader s at)
  rule_complete s at first none result end = λ z y. absurd z.1.1
  rule_complete s at first (more t ts) result end =
      let r : TermsSketch → RuleSketch = λ ts. record { first = first; arguments = more t ts; result = result } in
      let P : TermsSketch → Type 0 = λ ts. Words s at (rule (r ts)) end → IsGreedy (rule (r ts)) (s end).class → Outcome most s at (rule (r ts)) (r ts) end (built rule_from rule_reader s at) in
      subst P (terms_there ts) (λ z y. built_complete rule rule_from rule_spelled rule_good s at (first, (tt, ((t, terms_list ts), (tt, result)))) end tt z y)

  good_rule : Good most All false rule NotOpen (rule_at most)
  unfolding rule_at
  good_rule = good_same (built rule_from rule_reader) (rule_at most) (λ s at. refl) (record {
    some = rule_from rule_good.some;
    some_firm = λ c i. subst (λ (is : List Item). IsGreedy is c) (sym (rule_spelled rule_good.some)) (rule_good.some_firm c i);
    sound = built_sound rule rule_from rule_spelled rule_good;
    complete = λ s at r end low z y. rule_complete s at r.first r.arguments r.result end z y;
  })

  abbrev sized_items : ℕ × (Unit {0} × (ℕ × (Unit {0} × Unit {0}))) → List Item
  sized_items = numbered_items 0 w.Name (then_items done_items 0 w.Slash (numbered_items 0 w.Number (then_items done_items 0 w.Dot done_items)))

  good_sized : Good most All false sized_items Any sized_at
  good_sized = good_numbered 0 h w.Name refl (behind w.Slash (λ k e. e) refl (good_numbered 0 h w.Number refl (behind w.Dot (λ k e. e) refl (good_done most))))

  abbrev names_items : (ℕ × List ℕ) × Unit {0} → List Item
  names_items = then_items (list_items 0 w.Comma name) 0 w.Dot done_items

  good_names : Good most All false names_items Any (names_at most)
  good_names = good_then 0 h w.Dot (λ k e. e) refl (λ e. cc) (good_list {D = λ c. w.Comma ≢ c} 0 h w.Comma (λ k e. e) refl (λ d i. tt) (λ d i. i) (good_name most)) (good_done most)

  abbrev hidden_reader : Reader ((Unit {0} × ((ℕ × List ℕ) × Unit {0})) ⊎ (Unit {0} × (ℕ × (Unit {0} × (ℕ × (Unit {0} × Unit {0}))))))
  hidden_reader = either w.Free (then_marked done w.Free (names_at most)) (then_marked done w.Fun sized_at)

  abbrev hidden_items : (Unit {0} × ((ℕ × List ℕ) × Unit {0})) ⊎ (Unit {0} × (ℕ × (Unit {0} × (ℕ × (Unit {0} × Unit {0}))))) → List Item
  hidden_items = either_items (then_items done_items 0 w.Free names_items) (then_items done_items 0 w.Fun sized_items)

  hidden_spelled : (x : ℕ × ((Unit {0} × ((ℕ × List ℕ) × Unit {0})) ⊎ (Unit {0} × (ℕ × (Unit {0} × (ℕ × (Unit {0} × Unit {0}))))))) → declaration (hidden x) ≡ numbered_items 0 w.Private hidden_items x
  hidden_spelled (n, inl x) = refl
  hidden_spelled (n, inr x) = refl

  hidden_way : Way most declaration Any hidden (with_place w.Private hidden_reader)
  hidden_way = record {
    items = _;
    spelled = hidden_spelled;
    good = good_numbered 0 h w.Private refl
        (good_either w.Free (λ s at x end z. z.0) (λ s at y end z. differs_from w.Free w.Fun (s at).class z.0 refl) (behind w.Free (λ k e. e) refl good_names) (behind w.Fun (λ k e. e) refl good_sized));
  }

  free_way : Way most declaration Any (free true) (with_place w.Free (names_at most))
  free_way = record { items = _; spelled = λ x. refl; good = good_numbered 0 h w.Free refl good_names }

  fun_way : Way most declaration Any (fun true) (with_place w.Fun sized_at)
  fun_way = record { items = _; spelled = λ x. refl; good = good_numbered 0 h w.Fun refl good_sized }

  data_way : Way most declaration Any data_from (with_place w.Data sized_at)
  data_way = record { items = _; spelled = λ x. refl; good = good_numbered 0 h w.Data refl good_sized }

  event_way : Way most declaration Any event_from (with_place w.Event sized_at)
  event_way = record { items = _; spelled = λ x. refl; good = good_numbered 0 h w.Event refl good_sized }

  table_way : Way most declaration Any table_from (with_place w.Table sized_at)
  table_way = record { items = _; spelled = λ x. refl; good = good_numbered 0 h w.Table refl good_sized }

  reduc_way : Way most declaration Any reduc (with_place w.Reduc (then_marked (list_at most w.Semicolon (rule_at most)) w.Dot done))
  reduc_way = record {
    items = _;
    spelled = λ x. refl;
    good = good_numbered 0 h w.Reduc refl
        (good_then 0 h w.Dot (λ k e. e) refl (λ e. cc, λ e. cc) (good_list {D = λ c. NotOpen c × (w.Semicolon ≢ c)} 0 h w.Semicolon (λ k e. e) refl (λ d i. i.0) (λ d i. i.1) good_rule) (good_done most));
  }

  query_way : Way most declaration Any query (with_place w.Query (then_marked (question_at most) w.Dot done))
  query_way = record { items = _; spelled = λ x. refl; good = good_numbered 0 h w.Query refl (good_then 0 h w.Dot (λ k e. e) refl ((λ e. cc, λ e. cc), λ e. cc, λ e. cc) good_question (good_done most)) }

  definition_way : Way most declaration Any definition (with_place w.Let (with_place w.Name (then_marked done w.Equals (then_marked (process_at most most_levels) w.Dot done))))
  definition_way = record {
    items = _;
    spelled = λ x. refl;
    good = good_numbered 0 h w.Let refl (good_numbered 0 h w.Name refl (behind w.Equals (λ k e. e) refl
        (good_then 0 h w.Dot (λ k e. e) refl ((λ e. cc, λ e. cc, λ e. cc), λ e. cc) (good_process most most_levels 1 refl) (good_done most))));
  }

  declaration_sound : (c : Class) → Sound false declaration Any (declaration_by most c)
  declaration_sound w.Private = way_sound hidden_way
  declaration_sound w.Free = way_sound free_way
  declaration_sound w.Fun = way_sound fun_way
  declaration_sound w.Data = way_sound data_way
  declaration_sound w.Reduc = way_sound reduc_way
  declaration_sound w.Event = way_sound event_way
  declaration_sound w.Table = way_sound table_way
  declaration_sound w.Query = way_sound query_way
  declaration_sound w.Let = way_sound definition_way
  declaration_sound _ = refused_sound false declaration Any (Data 0 0 0) (λ s at. inl refl) (λ c i. tt)

  abbrev by : Class → Reader DeclarationSketch
  by = declaration_by most

  declaration_complete : (s : Source) (at : ℕ) (d : DeclarationSketch) (end : ℕ) → All at → Words s at (declaration d) end → IsGreedy (declaration d) (s end).class → Outcome most s at (declaration d) d end (by (s at).class s at)
  declaration_complete s at (Free n true x xs) end low z y = way_complete by w.Free (λ k e. e) free_way (λ s at. refl) s at (n, ((x, xs), tt)) end z.0.1 z y
  declaration_complete s at (Free n false x xs) end low z y = way_complete by w.Private (λ k e. e) hidden_way (λ s at. refl) s at (n, inl (tt, ((x, xs), tt))) end z.0.1 z y
  declaration_complete s at (Fun n true x a) end low z y = way_complete by w.Fun (λ k e. e) fun_way (λ s at. refl) s at (n, (x, (tt, (a, (tt, tt))))) end z.0.1 z y
  declaration_complete s at (Fun n false x a) end low z y = way_complete by w.Private (λ k e. e) hidden_way (λ s at. refl) s at (n, inr (tt, (x, (tt, (a, (tt, tt)))))) end z.0.1 z y
  declaration_complete s at (Data n x a) end low z y = way_complete by w.Data (λ k e. e) data_way (λ s at. refl) s at (n, (x, (tt, (a, (tt, tt))))) end z.0.1 z y
  declaration_complete s at (Reduc n r rs) end low z y = way_complete by w.Reduc (λ k e. e) reduc_way (λ s at. refl) s at (n, ((r, rs), tt)) end z.0.1 z y
  declaration_complete s at (Event n x a) end low z y = way_complete by w.Event (λ k e. e) event_way (λ s at. refl) s at (n, (x, (tt, (a, (tt, tt))))) end z.0.1 z y
  declaration_complete s at (Table n x a) end low z y = way_complete by w.Table (λ k e. e) table_way (λ s at. refl) s at (n, (x, (tt, (a, (tt, tt))))) end z.0.1 z y
  declaration_complete s at (Query n q) end low z y = way_complete by w.Query (λ k e. e) query_way (λ s at. refl) s at (n, (q, tt)) end z.0.1 z y
  declaration_complete s at (Definition n x p) end low z y = way_complete by w.Let (λ k e. e) definition_way (λ s at. refl) s at (n, (x, (tt, (p, tt)))) end z.0.1 z y

  good_declaration : Good most All false declaration Any (declaration_at most)
  unfolding declaration_at
  good_declaration = good_same (λ s at. by (s at).class s at) (declaration_at most) (λ s at. refl)
      (record { some = Data 0 0 0; some_firm = λ c i. tt; sound = choice_sound declaration_sound; complete = declaration_complete })

-- a declaration begins with another word than `process`
declaration_first : (s : Source) (at end : ℕ) (d : DeclarationSketch) → Words s at (declaration d) end → same w.Process (s at).class ≡ false
declaration_first s at end (Free n true x xs) z = differs_from w.Process w.Free (s at).class z.0.1 refl
declaration_first s at end (Free n false x xs) z = differs_from w.Process w.Private (s at).class z.0.1 refl
declaration_first s at end (Fun n true x a) z = differs_from w.Process w.Fun (s at).class z.0.1 refl
declaration_first s at end (Fun n false x a) z = differs_from w.Process w.Private (s at).class z.0.1 refl
declaration_first s at end (Data n x a) z = differs_from w.Process w.Data (s at).class z.0.1 refl
declaration_first s at end (Reduc n r rs) z = differs_from w.Process w.Reduc (s at).class z.0.1 refl
declaration_first s at end (Event n x a) z = differs_from w.Process w.Event (s at).class z.0.1 refl
declaration_first s at end (Table n x a) z = differs_from w.Process w.Table (s at).class z.0.1 refl
declaration_first s at end (Query n q) z = differs_from w.Process w.Query (s at).class z.0.1 refl
declaration_first s at end (Definition n x p) z = differs_from w.Process w.Let (s at).class z.0.1 refl

-- it has a word at least
declaration_longer : (s : Source) (at end : ℕ) (d : DeclarationSketch) → Words s at (declaration d) end → at + 1 ≤ end
declaration_longer s at end (Free n true x xs) z = words_later s (kept 0 x w.Name ∷ (more_of 0 w.Comma name xs ++ (word 0 w.Dot ∷ []))) (at + 1) end z.1
declaration_longer s at end (Free n false x xs) z = words_later s (word 0 w.Free ∷ kept 0 x w.Name ∷ (more_of 0 w.Comma name xs ++ (word 0 w.Dot ∷ []))) (at + 1) end z.1
declaration_longer s at end (Fun n true x a) z = words_later s (sized x a) (at + 1) end z.1
declaration_longer s at end (Fun n false x a) z = words_later s (word 0 w.Fun ∷ sized x a) (at + 1) end z.1
declaration_longer s at end (Data n x a) z = words_later s (sized x a) (at + 1) end z.1
declaration_longer s at end (Reduc n r rs) z = words_later s ((rule r ++ more_of 0 w.Semicolon rule rs) ++ (word 0 w.Dot ∷ [])) (at + 1) end z.1
declaration_longer s at end (Event n x a) z = words_later s (sized x a) (at + 1) end z.1
declaration_longer s at end (Table n x a) z = words_later s (sized x a) (at + 1) end z.1
declaration_longer s at end (Query n q) z = words_later s (question q ++ (word 0 w.Dot ∷ [])) (at + 1) end z.1
declaration_longer s at end (Definition n x p) z = words_later s (kept 0 x w.Name ∷ word 0 w.Equals ∷ (process 1 p ++ (word 0 w.Dot ∷ []))) (at + 1) end z.1

pub closed_by : (a : List Item) (l : ℕ) (k c d : Class) → IsGreedy (a ++ (word l k ∷ [])) c → IsGreedy (a ++ (word l k ∷ [])) d
closed_by a l k c d g = greedy-append a (word l k ∷ []) d (greedy-split a (word l k ∷ []) c g).0 tt

-- and a dot at its end, so that it does not matter what follows
pub declaration_closed : (d : DeclarationSketch) (c e : Class) → IsGreedy (declaration d) c → IsGreedy (declaration d) e
declaration_closed (Free n true x xs) c e g = closed_by (more_of 0 w.Comma name xs) 0 w.Dot c e g
declaration_closed (Free n false x xs) c e g = closed_by (more_of 0 w.Comma name xs) 0 w.Dot c e g
declaration_closed (Fun n true x a) c e g = g
declaration_closed (Fun n false x a) c e g = g
declaration_closed (Data n x a) c e g = g
declaration_closed (Reduc n r rs) c e g = closed_by (rule r ++ more_of 0 w.Semicolon rule rs) 0 w.Dot c e g
declaration_closed (Event n x a) c e g = g
declaration_closed (Table n x a) c e g = g
declaration_closed (Query n q) c e g = closed_by (question q) 0 w.Dot c e g
declaration_closed (Definition n x p) c e g = closed_by (process 1 p) 0 w.Dot c e g

abbrev main_items : Rest → List Item
main_items = numbered_items 0 w.Process (then_items (process 1) 0 w.End done_items)

good_main : (most : ℕ) → Good most All true main_items Any (main_at most)
unfolding main_at
good_main most = good_same (with_place w.Process (then_marked (process_at most most_levels) w.End done)) (main_at most) (λ s at. refl)
    (good_numbered 0 h w.Process refl (good_ended Any 0 h ((λ e. cc, λ e. cc, λ e. cc), λ e. cc) (good_process most most_levels 1 refl)))

abbrev declarations_items : List DeclarationSketch × Rest → List Item
declarations_items x = declarations x.0 (main_items x.1)

declarations_spelled : (x : Rest ⊎ (DeclarationSketch × (List DeclarationSketch × Rest))) → declarations_items (declarations_from x) ≡ either_items main_items (both_items declaration declarations_items) x
declarations_spelled (inl x) = refl
declarations_spelled (inr x) = refl

abbrev declarations_back : List DeclarationSketch × Rest → Rest ⊎ (DeclarationSketch × (List DeclarationSketch × Rest))
declarations_back ([], rest) = inl rest
declarations_back (d ∷ ds, rest) = inr (d, (ds, rest))

declarations_there : (x : List DeclarationSketch × Rest) → declarations_from (declarations_back x) ≡ x
declarations_there ([], rest) = refl
declarations_there (d ∷ ds, rest) = refl

no_declarations : (most : ℕ) → Good most (λ at. most ≤ at + 0) true declarations_items Any (λ s at. Tired at)
no_declarations most = record {
  some = ([], (good_main most).some);
  some_firm = (good_main most).some_firm;
  sound = record { right = λ s at. omega arith; local = λ s t at k a z. refl };
  complete = λ s at x end low z y. tires at refl (omega arith) (words_later s (declarations_items x) at end z);
}

good_declarations : (most rounds : ℕ) → Good most (λ at. most ≤ at + rounds) true declarations_items Any (declarations_at most rounds)
unfolding declarations_at
good_declarations most zero = good_same (λ s at. Tired at) (declarations_at most zero) (λ s at. refl) (no_declarations most)
good_declarations most (suc rounds) =
    good_same (built declarations_from (either w.Process (main_at most) (both (declaration_at most) (declarations_at most rounds)))) (declarations_at most (suc rounds)) (λ s at. refl)
    (good_built declarations_items declarations_from declarations_spelled
    (good_either w.Process (λ s at x end z. z.0.1)
    (λ s at y end z. let parts = words-split s (declaration y.0) (declarations_items y.1) at end z in declaration_first s at parts.0 y.0 parts.1)
    (good_low (λ at z. tt) (good_main most))
    (good_both (λ s at d e low z. omega (arith, declaration_longer s at e d z)) (good_declaration most) (good_declarations most rounds) declaration_closed))
    declarations_back declarations_there)

-- files are read as they are spelled
pub good_file : (most : ℕ) → Good most All true file Any (file_at most)
unfolding file_at
good_file most = good_same (built file_from (declarations_at most most)) (file_at most) (λ s at. refl)
    (good_built file file_from (λ x. refl) (good_low (λ at z. omega arith) (good_declarations most most)) (λ f. (f.declarations, (f.first, (f.main, tt)))) (λ f. refl))
