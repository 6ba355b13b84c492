-- The lists of live entries: as the bank grows, as entries are marked, and with an entry more.
use Rattle.std.proofs.Common.{◌≡◌, ◌⊎◌, ◌∙◌, ℕ, zero, suc, ◌+◌, ◌<◌, ◌≤◌, Bool, true, false, Option, Some, None, List, [], ◌∷◌, ◌++◌, length, map, filter, refl, ap, sym, subst, inl, inr, arith}
use Rattle.std.specs.Prelude.{slice_get}
use Rattle.std.proofs.lemmas.Bool.{false≢true}
use Rattle.std.proofs.lemmas.List.{length-map, length-append, map-append}
use Rattle.spec_terms.specs.Term.{Term}
use Rattle.spec_calculus.specs.Points.{numbered}
use Rattle.spec_clauses.specs.Fact.{Clause}
use Rattle.spec_clauses.specs.Selection.{is_solved}
use Rattle.spec_saturation.proofs.Places.{numbered_within}
use Rattle.term_tree.specs.Bank.{Grows}
use Rattle.term_tree.specs.declared.bank.Id.{Id}
use Rattle.clause_form.specs.Seen.{clause_at, IdClause}
use Rattle.clause_form.proofs.Copying.{NamesClause-grows}
use Rattle.log_entries.specs.declared.log.Entry.{Entry}
use Rattle.log_entries.specs.declared.walk.Live.{Live}
use Rattle.log_entries.specs.declared.walk.Looks.{Looks}
use Rattle.fact_classes.specs.declared.classes.Classes.{Classes}
use Rattle.fact_classes.specs.Classes.{class_of, listed, AreSameClasses}
use Rattle.log_entries.specs.Classes.{AreClassed}
use Rattle.clause_form.specs.Fit.{AreFit}
use Rattle.feature_index.specs.declared.lanes.Features.{Features}
use Rattle.spec_features.specs.Features.{features_of}
use Rattle.spec_fingerprints.specs.Fingerprints as print
use Rattle.spec_fingerprints.specs.Fingerprints.{clause_print}
use Rattle.fact_fingerprint.specs.Seen.{fingerprint_seen}
use Rattle.log_entries.specs.Logs.{is_unbeaten}
use Rattle.log_entries.specs.Beating.{clauses_of, IsMarked, AreMarked}
use Rattle.log_entries.specs.Live.{IsLiveAt, AreNumbersOf, kept_lanes, lanes_of, kept_prints, prints_of, conclusion_prints, HasLooks, AreUnclosed, AreListed, IsEmptyLive, IsSameLive, AreAlive, IsNumberListed, IsListedBy, IsUnclosedListed, IsEndListed}
use Rattle.log_entries.specs.Numbers.{IsAmong, is_live_entry, is_live_at}
use Rattle.log_entries.specs.Ends.{last_term, closed_end_of, ends_of, AreChained}
use Rattle.log_entries.proofs.Numbers.{among_push, among_last, push_among, there_push, last_there, push_there, filter_ascends, among_filter, filter_among, push_ascends, more_within}
use Rattle.log_entries.proofs.Classing.{classed_same, classes_kept, none_classed, put_classed, other_classed}
use Rattle.log_entries.proofs.Marking.{marked_clauses}
use Rattle.log_entries.proofs.EndTerms.{end_grows}
use Rattle.log_entries.proofs.Chaining.{none_chained, chains_same}
use Rattle.log_entries.proofs.Lanes.{fit_numbered}
use Rattle.log_entries.proofs.Beside.{conclusion_seen, told_grow, told_same, told_pushed, told_length}

-- as the bank grows, an entry names what it did
pub same_clause : (a b : List Term) (entries : List Entry) (n : ℕ) (x : Entry) → Grows a b → AreFit a (clauses_of entries) → numbered entries n ≡ Some x → clause_at b x.clause ≡ clause_at a x.clause
same_clause a b entries zero x grows fit at = cc
same_clause a b entries (suc k) x grows fit at = go entries k fit at
  where
    go : (es : List Entry) (k : ℕ) → AreFit a (clauses_of es) → slice_get es k ≡ Some x → clause_at b x.clause ≡ clause_at a x.clause
    go [] k fit at = cc
    go (e ∷ es) zero fit at =
        let same : e ≡ x = cc in
        subst (λ (z : Entry). clause_at b z.clause ≡ clause_at a z.clause) same (NamesClause-grows a b e.clause (clause_at a e.clause) grows (record { known = fit.0.known; is = refl })).is
    go (e ∷ es) (suc k) fit at = go es k fit.1 at

-- lists are of the entries in every bank in which they name the same
abbrev AreSame : List Term → List Term → List Entry → Type 0
AreSame a b es = (n : ℕ) (x : Entry) → numbered es n ≡ Some x → clause_at b x.clause ≡ clause_at a x.clause

live_same : (a b : List Term) (es : List Entry) (solved : Bool) (n : ℕ) → AreSame a b es → IsLiveAt a es solved n → IsLiveAt b es solved n
live_same a b es solved n same h = record { entry = h.entry; at = h.at; live = h.live; kind = ap (λ c. is_solved c.hypotheses) (same n h.entry h.at) ∙ h.kind }

numbers_same : (a b : List Term) (es : List Entry) (solved : Bool) (ns : List ℕ) → AreSame a b es → AreNumbersOf a es solved ns → AreNumbersOf b es solved ns
numbers_same a b es solved ns same h = record {
  ascend = h.ascend;
  live = λ n among. live_same a b es solved n same (h.live n among);
  every = λ n live. h.every n (live_same b a es solved n (λ m x at. sym (same m x at)) live);
}

-- so are those that don't end with closed terms
ends_same : (a b : List Term) (es : List Entry) (n : ℕ) (x : Entry) → Grows a b → AreFit a (clauses_of es) → numbered es n ≡ Some x → closed_end_of b x.clause ≡ closed_end_of a x.clause
ends_same a b es n x grows fit at = end_grows a b x.clause grows (fit_numbered a es n x fit at).known

unclosed_same : (a b : List Term) (es : List Entry) (ns : List ℕ) → ((n : ℕ) (x : Entry) → numbered es n ≡ Some x → closed_end_of b x.clause ≡ closed_end_of a x.clause) → AreUnclosed a es ns → AreUnclosed b es ns
unclosed_same a b es ns same h = record { within = h.within; every = λ n x at live none. h.every n x at live (sym (same n x at) ∙ none) }

pub listed_grows : (a b : List Term) (es : List Entry) (live : Live) → Grows a b → AreFit a (clauses_of es) → AreListed a es live → AreListed b es live
listed_grows a b es live grows fit h =
    let same : AreSame a b es = λ n x at. same_clause a b es n x grows fit at in
    record {
      solved = numbers_same a b es true live.solved.items same h.solved;
      unsolved = numbers_same a b es false live.unsolved.items same h.unsolved;
      features = h.features ∙ sym (told_grow features_of a b es grows fit);
      prints = h.prints ∙ sym (told_grow clause_print a b es grows fit);
      unclosed = unclosed_same a b es live.unclosed.items (λ n x at. ends_same a b es n x grows fit at) h.unclosed;
      chained = h.chained;
      conclusions = h.conclusions ∙ sym (told_grow conclusion_seen a b es grows fit);
      solved_classes = h.solved_classes;
      unsolved_classes = h.unsolved_classes;
    }

pub listed_back : (a b : List Term) (es : List Entry) (live : Live) → Grows a b → AreFit a (clauses_of es) → AreListed b es live → AreListed a es live
listed_back a b es live grows fit h =
    let same : AreSame b a es = λ n x at. sym (same_clause a b es n x grows fit at) in
    record {
      solved = numbers_same b a es true live.solved.items same h.solved;
      unsolved = numbers_same b a es false live.unsolved.items same h.unsolved;
      features = h.features ∙ told_grow features_of a b es grows fit;
      prints = h.prints ∙ told_grow clause_print a b es grows fit;
      unclosed = unclosed_same b a es live.unclosed.items (λ n x at. sym (ends_same a b es n x grows fit at)) h.unclosed;
      chained = h.chained;
      conclusions = h.conclusions ∙ told_grow conclusion_seen a b es grows fit;
      solved_classes = h.solved_classes;
      unsolved_classes = h.unsolved_classes;
    }

-- as what is kept is copied
pub listed_copied : (all : List Term) (es : List Entry) (old new : Live) → IsSameLive old new → AreListed all es old → AreListed all es new
listed_copied all es old new same h = record {
  solved = subst (λ (ns : List ℕ). AreNumbersOf all es true ns) (sym same.solved) h.solved;
  unsolved = subst (λ (ns : List ℕ). AreNumbersOf all es false ns) (sym same.unsolved) h.unsolved;
  features = ap kept_lanes same.features ∙ h.features;
  prints = ap kept_prints same.prints ∙ h.prints;
  unclosed = subst (λ (ns : List ℕ). AreUnclosed all es ns) (sym same.unclosed) h.unclosed;
  chained = chains_same (ends_of es) old.chains new.chains same.last same.previous h.chained;
  conclusions = ap kept_prints same.conclusions ∙ h.conclusions;
  solved_classes = classed_same es old.prints.items new.prints.items old.solved.items new.solved.items old.solved_classes new.solved_classes same.prints same.solved same.solved_classes h.solved_classes;
  unsolved_classes = classed_same es old.prints.items new.prints.items old.unsolved.items new.unsolved.items old.unsolved_classes new.unsolved_classes same.prints same.unsolved same.unsolved_classes h.unsolved_classes;
}

-- no entries have no numbers
pub none_listed : (all : List Term) (es : List Entry) (live : Live) → es ≡ [] → IsEmptyLive live → AreListed all es live
none_listed all es live none empty = record {
  solved = go true live.solved.items empty.solved;
  unsolved = go false live.unsolved.items empty.unsolved;
  features = ap kept_lanes empty.features ∙ ap (lanes_of all) (sym none);
  prints = ap kept_prints empty.prints ∙ ap (prints_of all) (sym none);
  unclosed = record { within = λ n among. absurd (subst (λ (ns : List ℕ). IsAmong ns n) empty.unclosed among); every = λ n x at live closed. absurd (no_entry n x (subst (λ (l : List Entry). numbered l n ≡ Some x) none at)) };
  chained = subst (λ (l : List Entry). AreChained (ends_of l) live.chains.last.items live.chains.previous.items) (sym none) (none_chained live.chains.last.items live.chains.previous.items empty.last empty.previous);
  conclusions = ap kept_prints empty.conclusions ∙ ap (conclusion_prints all) (sym none);
  solved_classes = none_classed es (kept_prints live.prints.items) live.solved.items live.solved_classes empty.solved empty.solved_classes;
  unsolved_classes = none_classed es (kept_prints live.prints.items) live.unsolved.items live.unsolved_classes empty.unsolved empty.unsolved_classes;
}
  where
    no_entry : (n : ℕ) (x : Entry) → numbered [] n ≡ Some x → ⊥
    no_entry zero x at = cc
    no_entry (suc k) x at = cc

    nowhere : (kind : Bool) (n : ℕ) → IsLiveAt all [] kind n → ⊥
    nowhere kind zero h = let at = h.at in cc
    nowhere kind (suc k) h = let at = h.at in cc

    go : (kind : Bool) (ns : List ℕ) → ns ≡ [] → AreNumbersOf all es kind ns
    go kind ns is = subst (λ (l : List ℕ). AreNumbersOf all es kind l) (sym is) (subst (λ (l : List Entry). AreNumbersOf all l kind []) (sym none) (record { ascend = tt; live = λ n among. absurd among; every = λ n h. nowhere kind n h }))

-- the entry before its mark
record IsMarkedAt (all : List Term) (c : Clause Term) (number : ℕ) (from : Option Entry) (to : Entry) : Type 0 where
  before : Entry
  at : from ≡ Some before
  mark : IsMarked all c number before to

marked_from : (all : List Term) (c : Clause Term) (number : ℕ) (olds news : List Entry) (n : ℕ) (x : Entry) → AreMarked all c number olds news → numbered news n ≡ Some x → IsMarkedAt all c number (numbered olds n) x
marked_from all c number olds news zero x marked at = cc
marked_from all c number olds news (suc k) x marked at = go olds news k marked at
  where
    go : (olds news : List Entry) (k : ℕ) → AreMarked all c number olds news → slice_get news k ≡ Some x → IsMarkedAt all c number (slice_get olds k) x
    go olds [] k marked at = cc
    go [] (e ∷ es) k marked at = absurd marked
    go (d ∷ ds) (e ∷ es) zero marked at = let same : e ≡ x = cc in record { before = d; at = refl; mark = subst (λ (y : Entry). IsMarked all c number d y) same marked.0 }
    go (d ∷ ds) (e ∷ es) (suc k) marked at = go ds es k marked.1 at

record IsMarkedTo (all : List Term) (c : Clause Term) (number : ℕ) (from : Entry) (to : Option Entry) : Type 0 where
  after : Entry
  at : to ≡ Some after
  mark : IsMarked all c number from after

marked_to : (all : List Term) (c : Clause Term) (number : ℕ) (olds news : List Entry) (n : ℕ) (x : Entry) → AreMarked all c number olds news → numbered olds n ≡ Some x → IsMarkedTo all c number x (numbered news n)
marked_to all c number olds news zero x marked at = cc
marked_to all c number olds news (suc k) x marked at = go olds news k marked at
  where
    go : (olds news : List Entry) (k : ℕ) → AreMarked all c number olds news → slice_get olds k ≡ Some x → IsMarkedTo all c number x (slice_get news k)
    go [] news k marked at = cc
    go (d ∷ ds) [] k marked at = absurd marked
    go (d ∷ ds) (e ∷ es) zero marked at = let same : d ≡ x = cc in record { after = e; at = refl; mark = subst (λ (y : Entry). IsMarked all c number y e) same marked.0 }
    go (d ∷ ds) (e ∷ es) (suc k) marked at = go ds es k marked.1 at

-- what is live after the marks was live before
was_live : (all : List Term) (c : Clause Term) (number : ℕ) (d e : Entry) → IsMarked all c number d e → e.by ≡ None → d.by ≡ None
was_live all c number d e mark live = elim mark.by as (λ _. d.by ≡ None) [
  | inl h ↦ h.0.0
  | inr h ↦ sym h.1 ∙ live
]

unbeaten_live : (by : Option ℕ) → is_unbeaten by ≡ true → by ≡ None
unbeaten_live None e = refl
unbeaten_live (Some number) e = cc

live_there : (es : List Entry) (n : ℕ) (x : Entry) → numbered es n ≡ Some x → is_live_at es n ≡ true → x.by ≡ None
live_there es n x at told = unbeaten_live x.by (sym (ap is_live_entry at) ∙ told)

there_live : (es : List Entry) (n : ℕ) (x : Entry) → numbered es n ≡ Some x → x.by ≡ None → is_live_at es n ≡ true
there_live es n x at live = ap is_live_entry at ∙ ap is_unbeaten live

-- the numbers without those of entries that are live no more
marked_numbers : (all : List Term) (c : Clause Term) (number : ℕ) (olds news : List Entry) (solved : Bool) (ns : List ℕ) → AreMarked all c number olds news → AreNumbersOf all olds solved ns → AreNumbersOf all news solved (filter (is_live_at news) ns)
marked_numbers all c number olds news solved ns marked h = record {
  ascend = filter_ascends (is_live_at news) 1 ns h.ascend;
  live = λ n among. live n among;
  every = λ n live. every n live;
}
  where
    live : (n : ℕ) → IsAmong (filter (is_live_at news) ns) n → IsLiveAt all news solved n
    live n among =
        let there = filter_among (is_live_at news) ns n among in
        let was = h.live n there.0 in
        let to = marked_to all c number olds news n was.entry marked was.at in
        record {
          entry = to.after;
          at = to.at;
          live = live_there news n to.after to.at there.1;
          kind = ap (λ d. is_solved (clause_at all d).hypotheses) to.mark.clause ∙ was.kind;
        }

    every : (n : ℕ) → IsLiveAt all news solved n → IsAmong (filter (is_live_at news) ns) n
    every n now =
        let from = marked_from all c number olds news n now.entry marked now.at in
        among_filter (is_live_at news) ns n
        (h.every n (record {
          entry = from.before;
          at = from.at;
          live = was_live all c number from.before now.entry from.mark now.live;
          kind = sym (ap (λ d. is_solved (clause_at all d).hypotheses) from.mark.clause) ∙ now.kind;
        }))
        (there_live news n now.entry now.at now.live)

pub marked_count : (all : List Term) (c : Clause Term) (number : ℕ) (olds news : List Entry) → AreMarked all c number olds news → length news ≡ length olds
marked_count all c number olds news m = sym (length-map news (λ e. e.clause)) ∙ (ap length (marked_clauses all c number olds news m) ∙ length-map olds (λ e. e.clause))

-- an entry that is live after the marks was so before
marked_live : (all : List Term) (c : Clause Term) (number : ℕ) (olds news : List Entry) (n : ℕ) → AreMarked all c number olds news → is_live_at news n ≡ true → is_live_at olds n ≡ true
marked_live all c number olds news n marked told = go (numbered news n) refl (ap is_live_entry refl ∙ told)
  where
    go : (o : Option Entry) → numbered news n ≡ o → is_live_entry o ≡ true → is_live_at olds n ≡ true
    go None at live = absurd (false≢true live)
    go (Some x) at live =
        let from = marked_from all c number olds news n x marked at in
        there_live olds n from.before from.at (was_live all c number from.before x from.mark (unbeaten_live x.by live))

-- so classes are of the numbers without those of entries that are live no more
marked_classed : (all : List Term) (c : Clause Term) (number : ℕ) (olds news : List Entry) (prints : List print.Fingerprint) (ns : List ℕ) (classes : Classes) → AreMarked all c number olds news → AreClassed olds prints ns classes → AreClassed news prints (filter (is_live_at news) ns) classes
marked_classed all c number olds news prints ns classes marked h = λ class. record {
  within = more_within (length olds) (length news) (listed classes class) (let count = marked_count all c number olds news marked in omega (arith, count)) (h class).within;
  live = λ n among told. among_filter (is_live_at news) ns n ((h class).live n among (marked_live all c number olds news n marked told)) told;
  every = λ n among is. (h class).every n (filter_among (is_live_at news) ns n among).0 is;
}

-- the numbers with an entry more, of their kind or of the other
pushed_numbers : (all : List Term) (es : List Entry) (e : Entry) (n : ℕ) (solved : Bool) (ns : List ℕ) → n ≡ length es + 1 → e.by ≡ None → is_solved (clause_at all e.clause).hypotheses ≡ solved → AreNumbersOf all es solved ns → AreNumbersOf all (es ++ e ∷ []) solved (ns ++ n ∷ [])
pushed_numbers all es e n solved ns is live kind h = record {
  ascend = push_ascends 1 ns n h.ascend (omega (arith, is)) (λ m among. below m (h.live m among));
  live = λ m among. now m (push_among ns n m among);
  every = λ m there. every m there (push_there es e m there.entry there.at);
}
  where
    below : (m : ℕ) → IsLiveAt all es solved m → m < n
    below m there = let within = (numbered_within es m there.entry there.at).1 in omega (arith, is, within)

    now : (m : ℕ) → IsAmong ns m ⊎ (n ≡ m) → IsLiveAt all (es ++ e ∷ []) solved m
    now m (inl among) = (let was = h.live m among in record { entry = was.entry; at = there_push es e m was.entry was.at; live = was.live; kind = was.kind })
    now m (inr last) = record { entry = e; at = last_there es e m (sym last ∙ is); live = live; kind = kind }

    every : (m : ℕ) (there : IsLiveAt all (es ++ e ∷ []) solved m) → (numbered es m ≡ Some there.entry) ⊎ ((m ≡ length es + 1) × (e ≡ there.entry)) → IsAmong (ns ++ n ∷ []) m
    every m there (inl before) = among_push ns n m (h.every m (record { entry = there.entry; at = before; live = there.live; kind = there.kind }))
    every m there (inr last) = (let same : n ≡ m = is ∙ sym last.0 in subst (λ k. IsAmong (ns ++ n ∷ []) k) same (among_last ns n))

other_numbers : (all : List Term) (es : List Entry) (e : Entry) (solved : Bool) (ns : List ℕ) → (is_solved (clause_at all e.clause).hypotheses ≡ solved → ⊥) → AreNumbersOf all es solved ns → AreNumbersOf all (es ++ e ∷ []) solved ns
other_numbers all es e solved ns other h = record {
  ascend = h.ascend;
  live = λ m among. (let was = h.live m among in record { entry = was.entry; at = there_push es e m was.entry was.at; live = was.live; kind = was.kind });
  every = λ m there. every m there (push_there es e m there.entry there.at);
}
  where
    every : (m : ℕ) (there : IsLiveAt all (es ++ e ∷ []) solved m) → (numbered es m ≡ Some there.entry) ⊎ ((m ≡ length es + 1) × (e ≡ there.entry)) → IsAmong ns m
    every m there (inl before) = h.every m (record { entry = there.entry; at = before; live = there.live; kind = there.kind })
    every m there (inr last) = absurd (other (ap (λ (x : Entry). is_solved (clause_at all x.clause).hypotheses) last.1 ∙ there.kind))

-- those that don't end with closed terms, without those that are live no more
marked_unclosed : (all : List Term) (c : Clause Term) (number : ℕ) (olds news : List Entry) (ns : List ℕ) → AreMarked all c number olds news → AreUnclosed all olds ns → AreUnclosed all news (filter (is_live_at news) ns)
marked_unclosed all c number olds news ns marked h = record {
  within = λ n among. (let w = h.within n (filter_among (is_live_at news) ns n among).0 in let count = marked_count all c number olds news marked in (w.0, omega (arith, w.1, count)));
  every = λ n x at live none. every n x at live none (marked_from all c number olds news n x marked at);
}
  where
    every : (n : ℕ) (x : Entry) → numbered news n ≡ Some x → x.by ≡ None → closed_end_of all x.clause ≡ None → IsMarkedAt all c number (numbered olds n) x → IsAmong (filter (is_live_at news) ns) n
    every n x at live none from =
        among_filter (is_live_at news) ns n
        (h.every n from.before from.at (was_live all c number from.before x from.mark live) (sym (ap (closed_end_of all) from.mark.clause) ∙ none))
        (there_live news n x at live)

-- and with an entry more
pushed_unclosed : (all : List Term) (es : List Entry) (e : Entry) (n : ℕ) (was now : List ℕ) → n ≡ length es + 1 → IsUnclosedListed (closed_end_of all e.clause) n was now → AreUnclosed all es was → AreUnclosed all (es ++ e ∷ []) now
pushed_unclosed all es e n was now is listed h = go (closed_end_of all e.clause) refl listed
  where
    longer : length (es ++ e ∷ []) ≡ length es + 1
    longer = length-append es (e ∷ [])

    later : (ns : List ℕ) → ((m : ℕ) → IsAmong was m → IsAmong ns m) → (closed_end_of all e.clause ≡ None → IsAmong ns n) → (m : ℕ) (x : Entry) → closed_end_of all x.clause ≡ None → x.by ≡ None → (numbered es m ≡ Some x) ⊎ ((m ≡ length es + 1) × (e ≡ x)) → IsAmong ns m
    later ns old new m x none live (inl before) = old m (h.every m x before live none)
    later ns old new m x none live (inr last) = subst (λ k. IsAmong ns k) (is ∙ sym last.0) (new (ap (λ (y : Entry). closed_end_of all y.clause) last.1 ∙ none))

    within_was : (m : ℕ) → IsAmong was m → (0 < m) × (m ≤ length (es ++ e ∷ []))
    within_was m among = (let w = h.within m among in (w.0, omega (arith, w.1, longer)))

    within_more : (m : ℕ) → IsAmong was m ⊎ (n ≡ m) → (0 < m) × (m ≤ length (es ++ e ∷ []))
    within_more m (inl among) = within_was m among
    within_more m (inr last) = (omega (arith, is, last), omega (arith, is, last, longer))

    go : (o : Option Id) → closed_end_of all e.clause ≡ o → IsUnclosedListed o n was now → AreUnclosed all (es ++ e ∷ []) now
    go None end l = subst (λ (ns : List ℕ). AreUnclosed all (es ++ e ∷ []) ns) (sym l) (record {
      within = λ m among. within_more m (push_among was n m among);
      every = λ m x at live none. later (was ++ n ∷ []) (λ k among. among_push was n k among) (λ _. among_last was n) m x none live (push_there es e m x at);
    })
    go (Some id) end l = subst (λ (ns : List ℕ). AreUnclosed all (es ++ e ∷ []) ns) (sym l) (record {
      within = within_was;
      every = λ m x at live none. later was (λ k among. among) (λ closed. let wrong : Some id ≡ None = sym end ∙ closed in absurd (cc)) m x none live (push_there es e m x at);
    })

-- what is kept beside marked entries
pub marked_listed : (all : List Term) (c : Clause Term) (number : ℕ) (olds marked : List Entry) (was now : Live) → AreListed all olds was → AreMarked all c number olds marked
    → AreAlive marked was now → AreListed all marked now
marked_listed all c number olds marked was now h m alive = record {
  solved = subst (λ (ns : List ℕ). AreNumbersOf all marked true ns) (sym alive.solved) (marked_numbers all c number olds marked true was.solved.items m h.solved);
  unsolved = subst (λ (ns : List ℕ). AreNumbersOf all marked false ns) (sym alive.unsolved) (marked_numbers all c number olds marked false was.unsolved.items m h.unsolved);
  features = ap kept_lanes alive.features ∙ (h.features ∙ sym (told_same features_of all olds marked (marked_clauses all c number olds marked m)));
  prints = ap kept_prints alive.prints ∙ (h.prints ∙ sym (told_same clause_print all olds marked (marked_clauses all c number olds marked m)));
  unclosed = subst (λ (ns : List ℕ). AreUnclosed all marked ns) (sym alive.unclosed) (marked_unclosed all c number olds marked was.unclosed.items m h.unclosed);
  conclusions = ap kept_prints alive.conclusions ∙ (h.conclusions ∙ sym (told_same conclusion_seen all olds marked (marked_clauses all c number olds marked m)));
  solved_classes = classed_same marked was.prints.items now.prints.items (filter (is_live_at marked) was.solved.items) now.solved.items was.solved_classes now.solved_classes alive.prints alive.solved alive.solved_classes (marked_classed all c number olds marked (kept_prints was.prints.items) was.solved.items was.solved_classes m h.solved_classes);
  unsolved_classes = classed_same marked was.prints.items now.prints.items (filter (is_live_at marked) was.unsolved.items) now.unsolved.items was.unsolved_classes now.unsolved_classes alive.prints alive.unsolved alive.unsolved_classes (marked_classed all c number olds marked (kept_prints was.prints.items) was.unsolved.items was.unsolved_classes m h.unsolved_classes);
  chained = chains_same (ends_of marked) was.chains now.chains alive.last alive.previous (subst (λ (cs : List IdClause). AreChained (map (λ (d : IdClause). last_term d.conclusion) cs) was.chains.last.items was.chains.previous.items) (sym (marked_clauses all c number olds marked m)) h.chained);
}

-- and with a new entry
ends_pushed : (es : List Entry) (e : Entry) → ends_of (es ++ e ∷ []) ≡ ends_of es ++ last_term e.clause.conclusion ∷ []
ends_pushed [] e = refl
ends_pushed (d ∷ es) e = ap (λ ends. last_term d.clause.conclusion ∷ ends) (ends_pushed es e)

pub pushed_listed : (all : List Term) (number : ℕ) (es news : List Entry) (entry : Entry) (looks : Looks) (was mid now : Live) → AreListed all es was → number ≡ length es + 1 → entry.by ≡ None → news ≡ es ++ entry ∷ []
    → IsListedBy (is_solved (clause_at all entry.clause).hypotheses) number looks (clause_print (clause_at all entry.clause)) was mid → IsEndListed all entry.clause number mid now → HasLooks all entry.clause looks → AreListed all news now
pushed_listed all number es news entry looks was mid now h next_number live is put ended has = subst (λ (l : List Entry). AreListed all l now) (sym is) (record {
  solved = subst (λ (ns : List ℕ). AreNumbersOf all (es ++ entry ∷ []) true ns) (sym ended.solved) (go (is_solved (clause_at all entry.clause).hypotheses) refl put.listed).0;
  unsolved = subst (λ (ns : List ℕ). AreNumbersOf all (es ++ entry ∷ []) false ns) (sym ended.unsolved) (go (is_solved (clause_at all entry.clause).hypotheses) refl put.listed).1;
  features = told_pushed features_of all es entry (kept_lanes was.features.items) (kept_lanes now.features.items) looks.features.lanes h.features (ap kept_lanes (ended.features ∙ put.features) ∙ map-append (λ (k : Features). k.lanes) was.features.items (looks.features ∷ [])) has.features;
  prints = told_pushed clause_print all es entry (kept_prints was.prints.items) (kept_prints now.prints.items) (clause_print (clause_at all entry.clause)) h.prints printed refl;
  unclosed = pushed_unclosed all es entry number was.unclosed.items now.unclosed.items next_number (subst (λ (ns : List ℕ). IsUnclosedListed (closed_end_of all entry.clause) number ns now.unclosed.items) put.unclosed ended.unclosed) h.unclosed;
  chained = subst (λ ends. AreChained ends now.chains.last.items now.chains.previous.items) (sym (ends_pushed es entry)) (ended.chained (ends_of es) (chains_same (ends_of es) was.chains mid.chains put.last put.previous h.chained));
  conclusions = told_pushed conclusion_seen all es entry (kept_prints was.conclusions.items) (kept_prints now.conclusions.items) (fingerprint_seen looks.conclusion) h.conclusions (ap kept_prints (ended.conclusions ∙ put.conclusions) ∙ map-append fingerprint_seen was.conclusions.items (looks.conclusion ∷ [])) has.conclusion;
  solved_classes = classes_on now.solved.items mid.solved.items mid.solved_classes now.solved_classes ended.solved ended.solved_classes (classes (is_solved (clause_at all entry.clause).hypotheses) put.listed).0;
  unsolved_classes = classes_on now.unsolved.items mid.unsolved.items mid.unsolved_classes now.unsolved_classes ended.unsolved ended.unsolved_classes (classes (is_solved (clause_at all entry.clause).hypotheses) put.listed).1;
})
  where
    seen : print.Fingerprint
    seen = clause_print (clause_at all entry.clause)

    printed : kept_prints now.prints.items ≡ kept_prints was.prints.items ++ seen ∷ []
    printed = ap kept_prints ended.prints ∙ put.prints

    many : length (kept_prints was.prints.items) ≡ length es
    many = length-map was.prints.items fingerprint_seen ∙ told_length clause_print fingerprint_seen all es was.prints.items h.prints

    few : (b : Bool) (ns : List ℕ) → AreNumbersOf all es b ns → (n : ℕ) → IsAmong ns n → (0 < n) × (n ≤ length es)
    few b ns numbers n among = let there = numbers.live n among in numbered_within es n there.entry there.at

    classes_on : (numbers before : List ℕ) (old new : Classes) → numbers ≡ before → AreSameClasses old new → AreClassed (es ++ entry ∷ []) (kept_prints was.prints.items ++ seen ∷ []) before old → AreClassed (es ++ entry ∷ []) (kept_prints now.prints.items) numbers new
    classes_on numbers before old new same kept classed =
        subst (λ (ps : List print.Fingerprint). AreClassed (es ++ entry ∷ []) ps numbers new) (sym printed)
        (classes_kept (es ++ entry ∷ []) (kept_prints was.prints.items ++ seen ∷ []) before numbers old new same kept classed)

    classes : (b : Bool) → IsNumberListed b number (class_of seen) was mid
        → AreClassed (es ++ entry ∷ []) (kept_prints was.prints.items ++ seen ∷ []) mid.solved.items mid.solved_classes × AreClassed (es ++ entry ∷ []) (kept_prints was.prints.items ++ seen ∷ []) mid.unsolved.items mid.unsolved_classes
    classes true l = (
      put_classed es entry (kept_prints was.prints.items) seen was.solved.items mid.solved.items was.solved_classes mid.solved_classes number next_number many (few true was.solved.items h.solved) l.numbers l.classes h.solved_classes,
      other_classed es entry (kept_prints was.prints.items) seen was.unsolved.items mid.unsolved.items was.unsolved_classes mid.unsolved_classes many (few false was.unsolved.items h.unsolved) l.others l.other_classes h.unsolved_classes,
    )
    classes false l = (
      other_classed es entry (kept_prints was.prints.items) seen was.solved.items mid.solved.items was.solved_classes mid.solved_classes many (few true was.solved.items h.solved) l.others l.other_classes h.solved_classes,
      put_classed es entry (kept_prints was.prints.items) seen was.unsolved.items mid.unsolved.items was.unsolved_classes mid.unsolved_classes number next_number many (few false was.unsolved.items h.unsolved) l.numbers l.classes h.unsolved_classes,
    )

    go : (b : Bool) → is_solved (clause_at all entry.clause).hypotheses ≡ b → IsNumberListed b number (class_of seen) was mid → AreNumbersOf all (es ++ entry ∷ []) true mid.solved.items × AreNumbersOf all (es ++ entry ∷ []) false mid.unsolved.items
    go true kind l = (
      subst (λ (ns : List ℕ). AreNumbersOf all (es ++ entry ∷ []) true ns) (sym l.numbers) (pushed_numbers all es entry number true was.solved.items next_number live kind h.solved),
      subst (λ (ns : List ℕ). AreNumbersOf all (es ++ entry ∷ []) false ns) (sym l.others) (other_numbers all es entry false was.unsolved.items (λ other. let wrong : true ≡ false = sym kind ∙ other in cc) h.unsolved),
    )
    go false kind l = (
      subst (λ (ns : List ℕ). AreNumbersOf all (es ++ entry ∷ []) true ns) (sym l.others) (other_numbers all es entry true was.solved.items (λ other. let wrong : true ≡ false = sym other ∙ kind in cc) h.solved),
      subst (λ (ns : List ℕ). AreNumbersOf all (es ++ entry ∷ []) false ns) (sym l.numbers) (pushed_numbers all es entry number false was.unsolved.items next_number live kind h.unsolved),
    )
