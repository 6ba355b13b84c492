-- The worked example: its translation, its log, which is closed, and its certificate.
use Rattle.std.proofs.Common.{◌≡◌, ◌∙◌, ℕ, zero, suc, ◌<◌, ◌≤◌, true, false, Some, None, List, [], ◌∷◌, ◌++◌, length, refl, ap, sym, subst, inl, inr, arith}
use Rattle.std.specs.List.{AllByRecursion}
use Rattle.spec_trees.specs.Tree.{Leaf, node}
use Rattle.spec_calculus.specs.Points.{numbered}
use Rattle.spec_terms.specs.Term.{Free, Term, Subst}
use Rattle.spec_terms.proofs.Replace.{some_same, some_none}
use Rattle.spec_clauses.specs.Fact.{Fact, Att, Mess, Clause, fact_under}
use Rattle.spec_clauses.specs.Selection.{Selection, select, is_solved}
use Rattle.spec_clauses.specs.Resolvents.{Answer, NoUnifier, Large, Resolvents, Resolves}
use Rattle.spec_clauses.specs.Inclusion.{Picks, here, there, Has}
use Rattle.spec_clauses.specs.Subsumption.{Subsumes, RowHolds, ComesBefore}
use Rattle.spec_clauses.proofs.Answers.{one_answer}
use Rattle.spec_derivations.proofs.Closing.{heard, heard_most}
use Rattle.spec_translation.specs.Course.{Done}
use Rattle.spec_translation.specs.Translation.{Clauses, IsTranslation}
use Rattle.spec_certificates.specs.Certificate.{CoverRowHolds}
use Rattle.spec_saturation.specs.Key.{Key, key, is_before, Entry, below}
use Rattle.spec_saturation.specs.Log.{IsBeaten, IsLive, IsCoveredBy, Gives, EndsAt, IsOffered, IsNew}
use Rattle.spec_saturation.specs.Live.{AreLive}
use Rattle.spec_saturation.specs.End.{Closed, IsLog}
use Rattle.spec_saturation.proofs.Closing.{below_length}
use Rattle.spec_saturation.proofs.Pairs.{has_numbered}
use Rattle.spec_saturation.proofs.Uniqueness.{same_entry}
use Rattle.spec_clauses.proofs.Inclusion.{all_has, Has-filter_source}
use Rattle.spec_verdicts.specs.FirstRows.{IsFirstCover, AreFirstCovers}
use Rattle.spec_verdicts.specs.First.{resolvents_of, AllGive, all_pairs}
use Rattle.spec_verdicts.specs.Verdict.{Proved, IsVerdict}
use Rattle.spec_verdicts.specs.Example.{kept, quiet, clause, knows, makes, listens, sends, asks, five, five_rows}

quiet_translated : IsTranslation quiet kept (Clauses five)
quiet_translated = (Done [] 65535, refl, refl)

abbrev log : List Entry
log = record { key = key 0 0 1; clause = knows } ∷ record { key = key 0 0 2; clause = makes } ∷ record { key = key 0 0 3; clause = listens }
    ∷ record { key = key 0 0 4; clause = sends } ∷ record { key = key 4 4 5; clause = asks } ∷ []

-- No clause subsumes another: the conclusions differ, or there are too few hypotheses.
abbrev IsApart : Clause Term → Clause Term → Type 0
IsApart general special = (s : Subst) → fact_under s general.conclusion ≡ special.conclusion → ⊥

not_subsumed : (a b : Clause Term) → IsApart a b → Subsumes a b → ⊥
not_subsumed a b apart h = apart h.by h.conclusion

listens_more : (c : Clause Term) → c.hypotheses ≡ [] → Subsumes listens c → ⊥
listens_more c none h = go (subst (λ hs. Picks hs (fact_under h.by (Mess 0 (Leaf 1) (Leaf 0))) h.within.0) none h.within.1)
  where
    go : {x : Fact Term} {rest : List (Fact Term)} → Picks [] x rest → ⊥
    go p = elim p [ ]

none_beats : (es : List Entry) (c : Clause Term) → AllByRecursion (λ e. Subsumes e.clause c → ⊥) es → IsBeaten es c → ⊥
none_beats es c none b = all_has (λ e. Subsumes e.clause c → ⊥) es b.0 none b.1 b.2

none_covers : (es : List Entry) (c : Clause Term) → AllByRecursion (λ e. Subsumes e.clause c → ⊥) es → IsCoveredBy es c → ⊥
none_covers es c none b =
    let (number, general, live, subsumes) = b in
    all_has (λ e. Subsumes e.clause c → ⊥) es live.entry none (has_numbered es number live.entry live.at) (subst (λ g. Subsumes g c) (sym live.clause) subsumes)

knows_makes : IsApart knows makes
knows_makes s e = cc

knows_listens : IsApart knows listens
knows_listens s e = cc

makes_listens : IsApart makes listens
makes_listens s e = cc

knows_sends : IsApart knows sends
knows_sends s e = cc

makes_sends : IsApart makes sends
makes_sends s e = cc

listens_sends : IsApart listens sends
listens_sends s e = cc

knows_asks : IsApart knows asks
knows_asks s e = cc

makes_asks : IsApart makes asks
makes_asks s e = cc

listens_asks : IsApart listens asks
listens_asks s e = cc

sends_asks : IsApart sends asks
sends_asks s e = cc

makes_knows : IsApart makes knows
makes_knows s e = cc

sends_knows : IsApart sends knows
sends_knows s e = cc

asks_knows : IsApart asks knows
asks_knows s e = cc

sends_makes : IsApart sends makes
sends_makes s e = cc

asks_makes : IsApart asks makes
asks_makes s e = cc

sends_listens : IsApart sends listens
sends_listens s e = cc

asks_listens : IsApart asks listens
asks_listens s e = cc

asks_sends : IsApart asks sends
asks_sends s e = cc

log_live : AreLive log five
log_live =
    inr (
      none_beats _ knows (not_subsumed makes knows makes_knows, (listens_more knows refl, (not_subsumed sends knows sends_knows, (not_subsumed asks knows asks_knows, tt)))),
      (
        _,
        refl,
        inr (
          none_beats _ makes (listens_more makes refl, (not_subsumed sends makes sends_makes, (not_subsumed asks makes asks_makes, tt))),
          (
            _,
            refl,
            inr (
              none_beats _ listens (not_subsumed sends listens sends_listens, (not_subsumed asks listens asks_listens, tt)),
              (
                _,
                refl,
                inr (
                  none_beats _ sends (not_subsumed asks sends asks_sends, tt),
                  (
                    _,
                    refl,
                    inr (none_beats [] asks tt, (_, refl, refl)),
                  ),
                ),
              ),
            ),
          ),
        ),
      ),
    )

-- What the pairs give: nothing.
listening : Selection
listening = record { index = 0; fact = Mess 0 (Leaf 1) (Leaf 0); others = Att 0 (Leaf 1) ∷ [] }

asking : Selection
asking = record { index = 0; fact = Att 0 (node (Free 2) []); others = [] }

knows_listening : Resolves knows listens listening NoUnifier
unfolding listening
knows_listening = (None, record { offset = 0; apart = (tt, tt); unified = λ s e. cc }, refl)

makes_listening : Resolves makes listens listening NoUnifier
unfolding listening
makes_listening = (None, record { offset = 1; apart = ((omega arith, tt), tt); unified = λ s e. cc }, refl)

knows_asking : Resolves knows asks asking NoUnifier
unfolding asking
knows_asking = (None, record { offset = 0; apart = (tt, tt); unified = λ s e. cc }, refl)

makes_asking : Resolves makes asks asking NoUnifier
unfolding asking
makes_asking = (None, record { offset = 1; apart = ((omega arith, tt), tt); unified = λ s e. cc }, refl)

sends_asking : Resolves sends asks asking NoUnifier
unfolding asking
sends_asking = (None, record { offset = 2; apart = ((omega arith, tt), ((omega arith, tt), ((omega arith, tt), ((omega arith, tt), tt)))); unified = λ s e. cc }, refl)

-- What is sent and heard is known already: `att(v0), att(v1), att(v0) => att(v1)`.
sends_listening : Resolves sends listens listening (Resolvents [])
unfolding listening
sends_listening = (
  Some (clause (Att 0 (Leaf 0) ∷ Att 0 (Leaf 1) ∷ Att 0 (Leaf 0) ∷ []) (Att 0 (Leaf 1))),
  record {
    offset = 2;
    apart = ((omega arith, tt), ((omega arith, tt), ((omega arith, tt), ((omega arith, tt), tt))));
    unified = (
      heard,
      record {
        accepted = refl;
        most = λ r e. (r, heard_most r (let same = e in cc) (let same = e in cc));
      },
      refl,
    );
  },
  refl,
)

abbrev GivesNothing : Clause Term → Clause Term → Type 0
GivesNothing i j = (at : Selection) (answer : Answer) → is_solved i.hypotheses ≡ true → select j.hypotheses ≡ Some at → Resolves i j at answer → resolvents_of answer ≡ Some []

unsolved_first : (i j : Clause Term) → is_solved i.hypotheses ≡ false → GivesNothing i j
unsolved_first i j e at answer solved selected gives = absurd (let clash = e in let other = solved in cc)

nothing_selected : (i j : Clause Term) → select j.hypotheses ≡ None → GivesNothing i j
nothing_selected i j e at answer solved selected gives = absurd (some_none (sym selected ∙ e))

selected_pair : (i j : Clause Term) (chosen : Selection) (known : Answer) → select j.hypotheses ≡ Some chosen → Resolves i j chosen known → resolvents_of known ≡ Some [] → GivesNothing i j
selected_pair i j chosen known e resolves none at answer solved selected gives =
    let same : chosen ≡ at = some_same (sym e ∙ selected) in
    ap resolvents_of (one_answer i j at answer known gives (subst (λ s. Resolves i j s known) same resolves)) ∙ none

row_unsolved : (i : Clause Term) → is_solved i.hypotheses ≡ false → (js : List (Clause Term)) → AllByRecursion (GivesNothing i) js
row_unsolved i e [] = tt
row_unsolved i e (j ∷ js) = (unsolved_first i j e, row_unsolved i e js)

row_solved : (i : Clause Term) → GivesNothing i listens → GivesNothing i asks → AllByRecursion (GivesNothing i) five
row_solved i p q = (nothing_selected i knows refl, (nothing_selected i makes refl, (p, (nothing_selected i sends refl, (q, tt)))))

nothing_given : AllByRecursion (λ i. AllByRecursion (GivesNothing i) five) five
unfolding listening asking
nothing_given = (
  row_solved knows (selected_pair knows listens listening NoUnifier refl knows_listening refl) (selected_pair knows asks asking NoUnifier refl knows_asking refl),
  (
    row_solved makes (selected_pair makes listens listening NoUnifier refl makes_listening refl) (selected_pair makes asks asking NoUnifier refl makes_asking refl),
    (
      row_unsolved listens refl five,
      (
        row_solved sends (selected_pair sends listens listening (Resolvents []) refl sends_listening refl) (selected_pair sends asks asking NoUnifier refl sends_asking refl),
        (row_unsolved asks refl five, tt),
      ),
    ),
  ),
)

-- the clauses of entries
listed : (e : Entry) → Has log e → Has five e.clause
listed e h = all_has (λ d. Has five d.clause) log e ((_, here), ((_, there here), ((_, there (there here)), ((_, there (there (there here))), ((_, there (there (there (there here)))), tt))))) h

live_listed : (k j : Key) (n : ℕ) (c : Clause Term) → IsLive (below j (below k log)) n c → Has five c
live_listed k j n c live =
    let one = (Has-filter_source (λ x. is_before x.key j) (below k log) live.entry (has_numbered (below j (below k log)) n live.entry live.at)).0 in
    let two = (Has-filter_source (λ x. is_before x.key k) log live.entry one).0 in
    subst (Has five) live.clause (listed live.entry two)

pair_gives_nothing : (k : Key) (m i : ℕ) (answer : Answer) → Gives (below k log) m i answer → resolvents_of answer ≡ Some []
pair_gives_nothing k m i answer g =
    let j = key m i 1 in
    let both : Has five g.solved × Has five g.unsolved = elim g.is_due.live as (λ _. Has five g.solved × Has five g.unsolved) [
      | inl b ↦ (live_listed k j i g.solved b.0, live_listed k j m g.unsolved b.1)
      | inr b ↦ (live_listed k j m g.solved b.0, live_listed k j i g.unsolved b.1)
    ] in
    all_has (GivesNothing g.solved) five g.unsolved (all_has (λ i. AllByRecursion (GivesNothing i) five) five g.solved nothing_given both.0) both.1 g.at answer g.is_due.left_solved g.selected g.gives

-- The log: the given clauses, and the goal at the fourth turn.
turns_before : (n : ℕ) → n < 4 → EndsAt five (below (key 4 4 5) log) n → ⊥
turns_before zero less e = absurd (let h : 4 ≡ 0 = e in omega (arith, h))
turns_before (suc zero) less e = absurd (let h : 4 ≡ 1 = e in omega (arith, h))
turns_before (suc (suc zero)) less e = absurd (let h : 4 ≡ 2 = e in omega (arith, h))
turns_before (suc (suc (suc zero))) less e = absurd (let h : 4 ≡ 3 = e in omega (arith, h))
turns_before (suc (suc (suc (suc n)))) less e = absurd (omega (arith, less))

goal_turn : (n : ℕ) → EndsAt five (below (key n n 5) log) n → ((m : ℕ) → m < n → EndsAt five (below (key n n 5) log) m → ⊥) → n ≡ 4
goal_turn zero e none = absurd (let h : 4 ≡ 0 = e in omega (arith, h))
goal_turn (suc zero) e none = absurd (let h : 4 ≡ 1 = e in omega (arith, h))
goal_turn (suc (suc zero)) e none = absurd (let h : 4 ≡ 2 = e in omega (arith, h))
goal_turn (suc (suc (suc zero))) e none = absurd (let h : 4 ≡ 3 = e in omega (arith, h))
goal_turn (suc (suc (suc (suc zero)))) e none = refl
goal_turn (suc (suc (suc (suc (suc zero))))) e none = absurd (none 4 (omega arith) refl)
goal_turn (suc (suc (suc (suc (suc (suc n)))))) e none =
    let k = key (suc (suc (suc (suc (suc (suc n)))))) (suc (suc (suc (suc (suc (suc n)))))) 5 in
    let few = below_length k (below k log) in
    let all : length (below k log) ≤ 5 = below_length k log in
    absurd (omega (arith, few, all, e))

log_new : AllByRecursion (IsNew five log) log
log_new = (
  record { offered = inl (record { number = 1; no_goal = omega arith; at = refl; clause = refl }); uncovered = none_covers [] knows tt },
  (
    record { offered = inl (record { number = 2; no_goal = omega arith; at = refl; clause = refl }); uncovered = none_covers _ makes (not_subsumed knows makes knows_makes, tt) },
    (
      record { offered = inl (record { number = 3; no_goal = omega arith; at = refl; clause = refl }); uncovered = none_covers _ listens (not_subsumed knows listens knows_listens, (not_subsumed makes listens makes_listens, tt)) },
      (
        record { offered = inl (record { number = 4; no_goal = omega arith; at = refl; clause = refl }); uncovered = none_covers _ sends (not_subsumed knows sends knows_sends, (not_subsumed makes sends makes_sends, (not_subsumed listens sends listens_sends, tt))) },
        (
          record { offered = inr (inr (record { turn = 4; at = refl; ends = refl; first = turns_before; clause = refl })); uncovered = none_covers _ asks (not_subsumed knows asks knows_asks, (not_subsumed makes asks makes_asks, (not_subsumed listens asks listens_asks, (not_subsumed sends asks sends_asks, tt)))) },
          tt,
        ),
      ),
    ),
  ),
)

given_there : (n : ℕ) (e : Entry) → n < 5 → e.key ≡ key 0 0 n → numbered five n ≡ Some e.clause → Has log e
given_there zero e less at is = cc
given_there (suc zero) e less at is = let same : knows ≡ e.clause = cc in subst (Has log) (same_entry (record { key = key 0 0 1; clause = knows }) e (sym at) same) (_, here)
given_there (suc (suc zero)) e less at is = let same : makes ≡ e.clause = cc in subst (Has log) (same_entry (record { key = key 0 0 2; clause = makes }) e (sym at) same) (_, there here)
given_there (suc (suc (suc zero))) e less at is = let same : listens ≡ e.clause = cc in subst (Has log) (same_entry (record { key = key 0 0 3; clause = listens }) e (sym at) same) (_, there (there here))
given_there (suc (suc (suc (suc zero)))) e less at is = let same : sends ≡ e.clause = cc in subst (Has log) (same_entry (record { key = key 0 0 4; clause = sends }) e (sym at) same) (_, there (there (there here)))
given_there (suc (suc (suc (suc (suc n))))) e less at is = absurd (omega (arith, less))

offered_there : (e : Entry) → IsOffered five (below e.key log) e → Has log e
offered_there e (inl x) = given_there x.number e x.no_goal x.at x.clause
offered_there e (inr (inl x)) =
    let nothing = pair_gives_nothing e.key e.key.major e.key.minor (Resolvents x.resolvents) x.gives in
    let none : x.resolvents ≡ [] = cc in
    let wrong : Has [] e.clause = subst (λ cs. Has cs e.clause) none (has_numbered x.resolvents e.key.number e.clause x.clause) in
    elim wrong.1 [ ]
offered_there e (inr (inr x)) =
    let ends = subst (λ k. EndsAt five (below k log) x.turn) x.at x.ends in
    let turn = goal_turn x.turn ends (λ m less h. x.first m less (subst (λ k. EndsAt five (below k log) m) (sym x.at) h)) in
    let at : key 4 4 5 ≡ e.key = sym (x.at ∙ ap (λ n. key n n 5) turn) in
    let is = x.clause in
    let same : asks ≡ e.clause = cc in
    subst (Has log) (same_entry (record { key = key 4 4 5; clause = asks }) e at same) (_, there (there (there (there here))))

log_closed : IsLog five 5 log Closed
log_closed = record {
  up_to = record {
    sorted = ((refl, (refl, (refl, (refl, tt)))), ((refl, (refl, (refl, tt))), ((refl, (refl, tt)), ((refl, tt), (tt, tt)))));
    early = λ e h. tt;
    sound = λ e h. all_has (IsNew five log) log e log_new h;
    complete = λ e early new. offered_there e new.offered;
    no_large = λ m i early large. none m i large;
  };
  within = let h : 5 ≤ 5 = omega arith in h;
  cause = tt;
}
  where
    none : (m i : ℕ) → Gives log m i Large → ⊥
    none m i large =
        let all : below (key 5 0 0) log ≡ log = refl in
        let nothing = pair_gives_nothing (key 5 0 0) m i Large (subst (λ es. Gives es m i Large) (sym all) large) in cc

-- The rows.
earlier_apart : (c : Clause Term) (front rest : List (Clause Term)) → AllByRecursion (λ g. IsApart g c) front → (m : ℕ) (g : Clause Term) → m < suc (length front) → numbered (front ++ rest) m ≡ Some g → IsApart g c
earlier_apart c front rest apart zero g less at = cc
earlier_apart c [] rest apart (suc m) g less at = absurd (omega (arith, less))
earlier_apart c (d ∷ front) rest apart (suc zero) g less at = let same : d ≡ g = cc in subst (λ x. IsApart x c) same apart.0
earlier_apart c (d ∷ front) rest apart (suc (suc m)) g less at = earlier_apart c front rest apart.1 (suc m) g (omega (arith, less)) at

none_before : (qs : List ℕ) → ComesBefore qs [] → ⊥
none_before [] b = b
none_before (q ∷ qs) b = b

-- a row with the number of the clause behind those that are apart, and the first positions
first_row : (c g : Clause Term) (front rest : List (Clause Term)) (ps : List ℕ) → five ≡ front ++ g ∷ rest → AllByRecursion (λ d. IsApart d c) front → numbered five (suc (length front)) ≡ Some g → RowHolds g c ps
    → ((qs : List ℕ) → RowHolds g c qs → ComesBefore qs ps → ⊥) → IsFirstCover five c (suc (length front) ∷ ps)
first_row c g front rest ps is apart at holds least = record { holds = (g, at, holds); first = first }
  where
    first : (other : List ℕ) → CoverRowHolds five other c → ComesBefore other (suc (length front) ∷ ps) → ⊥
    first [] h b = absurd h
    first (m ∷ qs) h (inl less) = earlier_apart c front (g ∷ rest) apart m h.0 less (subst (λ cs. numbered cs m ≡ Some h.0) is h.1) h.2.by h.2.conclusion
    first (m ∷ qs) h (inr same) =
        let both : Some h.0 ≡ Some g = sym h.1 ∙ (ap (numbered five) same.0 ∙ at) in
        let one : h.0 ≡ g = cc in
        least qs (subst (λ d. RowHolds d c qs) one h.2) same.1

least_listens : (qs : List ℕ) → RowHolds listens listens qs → ComesBefore qs (1 ∷ []) → ⊥
least_listens [] h b = b
least_listens (zero ∷ qs) h b = let wrong = h.firmly in cc
least_listens (suc q ∷ qs) h (inl less) = absurd (omega (arith, less))
least_listens (suc q ∷ qs) h (inr same) = none_before qs same.1

least_asks : (qs : List ℕ) → RowHolds asks asks qs → ComesBefore qs (1 ∷ []) → ⊥
least_asks [] h b = b
least_asks (zero ∷ qs) h b = let wrong = h.firmly in cc
least_asks (suc q ∷ qs) h (inl less) = absurd (omega (arith, less))
least_asks (suc q ∷ qs) h (inr same) = none_before qs same.1

five_covered : AreFirstCovers five five five_rows.rows
five_covered = (
  first_row knows knows [] _ [] refl tt refl (record { by = Leaf; distinct = refl; conclusion = refl; firmly = refl; loosely = tt; diffs = tt }) (λ qs h b. none_before qs b),
  (
    first_row makes makes (knows ∷ []) _ [] refl (knows_makes, tt) refl (record { by = Leaf; distinct = refl; conclusion = refl; firmly = refl; loosely = tt; diffs = tt }) (λ qs h b. none_before qs b),
    (
      first_row listens listens (knows ∷ makes ∷ []) _ (1 ∷ []) refl (knows_listens, (makes_listens, tt)) refl (record { by = Leaf; distinct = refl; conclusion = refl; firmly = refl; loosely = (_, here, tt); diffs = tt }) least_listens,
      (
        first_row sends sends (knows ∷ makes ∷ listens ∷ []) _ [] refl (knows_sends, (makes_sends, (listens_sends, tt))) refl (record { by = Leaf; distinct = refl; conclusion = refl; firmly = refl; loosely = (_, here, (_, here, tt)); diffs = tt }) (λ qs h b. none_before qs b),
        (
          first_row asks asks (knows ∷ makes ∷ listens ∷ sends ∷ []) _ (1 ∷ []) refl (knows_asks, (makes_asks, (listens_asks, (sends_asks, tt)))) refl (record { by = Leaf; distinct = refl; conclusion = refl; firmly = refl; loosely = tt; diffs = tt }) least_asks,
          tt,
        ),
      ),
    ),
  ),
)

five_give : AllGive (all_pairs five) []
unfolding listening asking
five_give = (
  [],
  [],
  record { answer = NoUnifier; resolves = knows_listening; has = refl },
  (
    [],
    [],
    record { answer = NoUnifier; resolves = knows_asking; has = refl },
    (
      [],
      [],
      record { answer = NoUnifier; resolves = makes_listening; has = refl },
      (
        [],
        [],
        record { answer = NoUnifier; resolves = makes_asking; has = refl },
        (
          [],
          [],
          record { answer = Resolvents []; resolves = sends_listening; has = refl },
          (
            [],
            [],
            record { answer = NoUnifier; resolves = sends_asking; has = refl },
            refl,
            refl,
          ),
          refl,
        ),
        refl,
      ),
      refl,
    ),
    refl,
  ),
  refl,
)

-- So the query is proved by this certificate.
pub kept_proved : IsVerdict quiet kept 5 (Proved five_rows)
kept_proved = inr (
  five,
  quiet_translated,
  record {
    log = log;
    is_log = log_closed;
    live = log_live;
    certificate = record { made = []; give = five_give; covers = five_covered; goals = tt };
  },
)
