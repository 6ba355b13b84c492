-- From how two clauses meet to the parents of a resolvent.
use Rattle.std.proofs.Common.{◌≡◌, ◌∙◌, ℕ, ◌+◌, Bool, true, false, ◌||◌, nat_eq, List, [], ◌∷◌, ◌++◌, map, flat_map, Option, None, Some, option_map, Result, Ok, Err, IfOk, refl, ap, sym, subst, arith}
use Rattle.std.specs.Prelude.{◌⊎◌}
use Rattle.std.specs.List.{list_any}
use Rattle.std.specs.declared.alloc.AllocError.{AllocError}
use Rattle.std.proofs.lemmas.List.Folds.{list_any-append}
use Rattle.std.proofs.lemmas.List.Concat.{flat_map-append}
use Rattle.spec_trees.specs.Tree.{Leaf, bind}
use Rattle.spec_calculus.specs.Bounds.{most_symbols}
use Rattle.spec_calculus.specs.Points.{numbered}
use Rattle.spec_calculus.proofs.Items.{of_some}
use Rattle.spec_terms.specs.Term.{Term, Subst}
use Rattle.spec_terms.specs.Binding.{resolved}
use Rattle.spec_terms.specs.Unifier.{moved}
use Rattle.spec_clauses.specs.Fact.{Clause}
use Rattle.spec_clauses.specs.Limits.{is_large_raw, IsWithinLimit}
use Rattle.spec_clauses.specs.Norm.{distinct}
use Rattle.spec_clauses.specs.Resolvents.{NoUnifier, Large}
use Rattle.spec_clauses.specs.Selection.{is_solved}
use Rattle.spec_clauses.specs.Variables.{AreBelow, all_terms, leaves, clause_variables}
use Rattle.spec_translation.specs.Visit.{is_large_term}
use Rattle.spec_saturation.specs.Key.{Entry}
use Rattle.term_tree.specs.Bank.{tree_at, Grows}
use Rattle.term_tree.specs.declared.bank.Id.{Id}
use Rattle.term_tree.proofs.BankLaws.{Grows_trans, trees_at-grow}
use Rattle.unify_match.specs.Seen.{seen, IsReady}
use Rattle.unify_match.proofs.SeenLemmas.{seen-grows}
use Rattle.clause_form.specs.Fit.{HasLowVariables, IsLowWithinLimit}
use Rattle.clause_form.specs.Normals.{simplest, kept_numbers}
use Rattle.clause_form.specs.Seen.{clause_at, IsClauseIn, NamesClause, IdClause}
use Rattle.clause_form.proofs.Copying.{NamesClause-grows}
use Rattle.clause_form.proofs.Fit.{HasLowVariables-grows}
use Rattle.clause_resolve.specs.declared.met.Met.{Met}
use Rattle.clause_resolve.specs.Answers.{Gives}
use Rattle.clause_resolve.specs.Met.{IsMet, IsMetBy}
use Rattle.clause_resolve.proofs.Answering.{clause_at-later}
use Rattle.clause_resolve.proofs.Low.{low_terms}
use Rattle.log_entries.specs.declared.log.PlainEntry.{PlainEntry}
use Rattle.log_entries.specs.PlainLogs.{TellsPlain, TellPlainLog}
use Rattle.spec_attack_runs.specs.Instance.{Pending, Meeting, Meets, closing, next_after, telling_parts, own_variables, met_variables, kept_variables, IsResolved}
use Rattle.clause_instances.specs.declared.instance.Pending as held
use Rattle.clause_instances.specs.declared.resolved.Descends.{Descends}
use Rattle.clause_instances.specs.declared.resolved.Descent.{Descent}
use Rattle.clause_instances.specs.Instances.{pending_at}
use Rattle.clause_instances.specs.Parents.{NamesPart, own_terms, AreOwnTerms, meeting_at, TellsDescent, IsDescentOf, IsMeetingOf, IsMeetingBy, ComesBy, DescendsBy}
use Rattle.clause_instances.specs.Descents.{IsResolvedAt, IsNotResolved}
use Rattle.clause_instances.proofs.Closes.{closing_same, next_same}
use Rattle.clause_instances.proofs.Instancing.{of_mapped, none_mapped}
use Rattle.clause_instances.proofs.Keeping.{firsts_before, kept_are}
use Rattle.clause_instances.proofs.Meetings.{part_of_both, small_of_both, none_meet}
use Rattle.clause_instances.proofs.Origins.{told_at, not_there, made_resolved, resolved_of_both, small_before, terms_of_both}

-- What the parents' variables stand for.

map_leaves : (xs : List ℕ) (s : Subst) → map (bind s) (map Leaf xs) ≡ map s xs
map_leaves [] s = refl
map_leaves (x ∷ xs) s = ap (λ l. s x ∷ l) (map_leaves xs s)

moved_leaves : (xs : List ℕ) (s : Subst) (n : ℕ) → map (bind s) (map (bind (moved n)) (map Leaf xs)) ≡ map (λ x. s (x + n)) xs
moved_leaves [] s n = refl
moved_leaves (x ∷ xs) s n = ap (λ l. s (x + n) ∷ l) (moved_leaves xs s n)

kept_leaves : (xs : List ℕ) (s : Subst) → map (λ x. s (x + 0)) xs ≡ map s xs
kept_leaves [] s = refl
kept_leaves (x ∷ xs) s = let same : x + 0 ≡ x = omega arith in λ i. s (same i) ∷ kept_leaves xs s i

pub lefts_are : (all : List Term) (solved unsolved : Clause Term) (met : Met) → own_terms all met solved 0 ≡ (meeting_at all solved unsolved met).lefts
lefts_are all solved unsolved met =
    let s = resolved (seen all met.binds.pairs) in
    let xs = distinct nat_eq (clause_variables solved) in
    kept_leaves xs s ∙ sym (map_leaves xs s)

pub rights_are : (all : List Term) (solved unsolved : Clause Term) (met : Met) → own_terms all met unsolved most_symbols ≡ (meeting_at all solved unsolved met).rights
rights_are all solved unsolved met = sym (moved_leaves (distinct nat_eq (clause_variables unsolved)) (resolved (seen all met.binds.pairs)) most_symbols)

-- How two clauses meet.

module _ (all : List Term) (solved unsolved : Clause Term) (met : Met) where
  is_meeting : is_solved solved.hypotheses ≡ true → AreBelow most_symbols (all_terms solved) → IsMet all solved unsolved met → IsMeetingOf solved unsolved (meeting_at all solved unsolved met)
  is_meeting holds low m =
      let s = resolved (seen all met.binds.pairs) in
      record {
        left_solved = holds;
        meets = record {
          at = m.at;
          offset = most_symbols;
          selected = m.is_selected;
          apart = low;
          unified = (s, m.unifies, λ i. record { raw = m.raw.is i; lefts = map (bind s) (own_variables solved); rights = map (bind s) (map (bind (moved most_symbols)) (own_variables unsolved)) });
        };
        small_raw = ap is_large_raw m.raw.is ∙ m.small;
      }

  descends : (number : ℕ) (found : Option Descent) → is_solved solved.hypotheses ≡ true → AreBelow most_symbols (all_terms solved) → IsMet all solved unsolved met → IsDescentOf (meeting_at all solved unsolved met) number found → DescendsBy solved unsolved number found
  descends number (Some found) holds low m told = record { met = meeting_at all solved unsolved met; of_both = is_meeting holds low m; tells = told }
  descends number None holds low m told = λ other part both at small.
      let ours = is_meeting holds low m in
      let here = part_of_both solved unsolved (meeting_at all solved unsolved met) other number part ours.meets both.meets at in
      told here.0 here.1 (small_of_both solved unsolved (meeting_at all solved unsolved met) other ours.meets both.meets small)

pub met_by : (all : List Term) (here solved unsolved : Clause Term) (r : Result (Option Met) AllocError) → here ≡ solved → is_solved solved.hypotheses ≡ true → IfOk r (λ found. IsMetBy all here unsolved found) → IfOk r (λ found. IsMeetingBy all solved unsolved found)
met_by all here solved unsolved (Ok None) same holds gives = λ met both.
    none_meet solved unsolved met (subst (λ (c : Clause Term). Gives c unsolved NoUnifier ⊎ Gives c unsolved Large) same gives) both.meets both.small_raw
met_by all here solved unsolved (Ok (Some met)) same holds m = (holds, subst (λ (c : Clause Term). IsMet all c unsolved met) same m)
met_by all here solved unsolved (Err x) same holds gives = tt

pub never_met : (all : List Term) (solved unsolved : Clause Term) (number : ℕ) → IsMeetingBy all solved unsolved None → DescendsBy solved unsolved number None
never_met all solved unsolved number none = λ met part both at small. none met both

-- The descent is told whole.
pub tells_whole : (met : Meeting) (number : ℕ) (found : Descent) (part : Clause Term) (kept : List ℕ) → numbered (telling_parts met.raw) number ≡ Some part → list_any is_large_term met.lefts ≡ false → list_any is_large_term met.rights ≡ false → distinct nat_eq kept ≡ kept_variables part
    → found.variables.items ≡ kept ++ (flat_map leaves found.lefts ++ flat_map leaves found.rights) → found.lefts ≡ met.lefts → found.rights ≡ met.rights → TellsDescent met number found
tells_whole met number found part kept at lefts_small rights_small kept_is variables lefts rights = record {
  part = part;
  part_at = at;
  small = list_any-append is_large_term met.lefts met.rights ∙ (λ i. lefts_small i || rights_small i);
  variables_are =
      ap (distinct nat_eq) (variables ∙ (λ i. kept ++ (flat_map leaves (lefts i) ++ flat_map leaves (rights i))))
      ∙ (firsts_before kept (kept_variables part) (flat_map leaves met.lefts ++ flat_map leaves met.rights) kept_is ∙ ap (λ l. distinct nat_eq (kept_variables part ++ l)) (sym (flat_map-append leaves met.lefts met.rights)));
  lefts_are = lefts;
  rights_are = rights;
}

pub left_large : (met : Meeting) (number : ℕ) → list_any is_large_term met.lefts ≡ true → IsDescentOf met number None
left_large met number large = λ part at small.
    let clash : true ≡ false = sym (list_any-append is_large_term met.lefts met.rights ∙ (λ i. large i || list_any is_large_term met.rights)) ∙ small in cc

pub right_large : (met : Meeting) (number : ℕ) → list_any is_large_term met.rights ≡ true → IsDescentOf met number None
right_large met number large = λ part at small. go (list_any is_large_term met.lefts) large (sym (list_any-append is_large_term met.lefts met.rights) ∙ small) where
  go : (b : Bool) {c : Bool} → c ≡ true → (b || c) ≡ false → ⊥
  go true e h = cc
  go false e h = let clash : true ≡ false = sym e ∙ h in cc

pub no_such_part : (met : Meeting) (number : ℕ) → numbered (telling_parts met.raw) number ≡ None → IsDescentOf met number None
no_such_part met number none = λ part at small. let clash : None ≡ Some part = sym none ∙ at in cc

pub no_part_kept : (met : Meeting) (number : ℕ) → None ≡ option_map kept_variables (numbered (telling_parts met.raw) number) → IsDescentOf met number None
no_part_kept met number none = no_such_part met number (none_mapped kept_variables (numbered (telling_parts met.raw) number) none)

-- The variables that are kept of a part.

named_part : (all : List Term) (c : IdClause) (o : Option (Clause Term)) → NamesPart all (Some c) o → (part : Clause Term) × (o ≡ Some part) × NamesClause all c part
named_part all c None names = absurd names
named_part all c (Some part) names = (part, refl, names)

pub part_in : (all : List Term) (c : IdClause) (o : Option (Clause Term)) → NamesPart all (Some c) o → IsClauseIn all c
part_in all c o names = (named_part all c o names).2.known

pub part_kept : (all : List Term) (c : IdClause) (o : Option (Clause Term)) (kept : List ℕ) → NamesPart all (Some c) o → kept ≡ kept_numbers (simplest (clause_at all c)) → Some (distinct nat_eq kept) ≡ option_map kept_variables o
part_kept all c o kept names is =
    let there = named_part all c o names in
    ap Some (kept_are (clause_at all c) kept is ∙ ap kept_variables there.2.is) ∙ sym (ap (option_map kept_variables) there.1)

-- By the ids of a bank that grew.

pub clause_later : (a b : List Term) (c : IdClause) → Grows a b → IsClauseIn a c → IsClauseIn b c
clause_later a b c grows known = (NamesClause-grows a b c (clause_at a c) grows record { known = known; is = refl }).known

own_same : (old now : List Term) (met : Met) (c : IdClause) (raised : ℕ) → Grows old now → IsReady old met.binds.pairs → IsClauseIn old c → own_terms now met (clause_at now c) raised ≡ own_terms old met (clause_at old c) raised
own_same old now met c raised grows ready known =
    let same = seen-grows old now met.binds.pairs grows ready.known in
    let later = clause_at-later old now c grows known in
    λ i. map (λ x. resolved (same i) (x + raised)) (distinct nat_eq (clause_variables (later i)))

module _ (old now : List Term) (solved unsolved : IdClause) (met : Met) (number : ℕ) (grows : Grows old now) (ready : IsReady old met.binds.pairs) where
  abbrev meeting_here : Meeting
  meeting_here = meeting_at old (clause_at old solved) (clause_at old unsolved) met

  pub lefts_stand : IsClauseIn old solved → own_terms now met (clause_at now solved) 0 ≡ meeting_here.lefts
  lefts_stand known = own_same old now met solved 0 grows ready known ∙ lefts_are old (clause_at old solved) (clause_at old unsolved) met

  pub rights_stand : IsClauseIn old unsolved → own_terms now met (clause_at now unsolved) most_symbols ≡ meeting_here.rights
  rights_stand known = own_same old now met unsolved most_symbols grows ready known ∙ rights_are old (clause_at old solved) (clause_at old unsolved) met

  pub no_lefts : (all : List Term) → IsClauseIn old solved → AreOwnTerms all (own_terms now met (clause_at now solved) 0) None → IsDescentOf meeting_here number None
  no_lefts all known large = left_large meeting_here number (sym (ap (list_any is_large_term) (lefts_stand known)) ∙ large)

  pub no_rights : (all : List Term) → IsClauseIn old unsolved → AreOwnTerms all (own_terms now met (clause_at now unsolved) most_symbols) None → IsDescentOf meeting_here number None
  no_rights all known large = right_large meeting_here number (sym (ap (list_any is_large_term) (rights_stand known)) ∙ large)

pub whole_descent : (old first second third : List Term) (solved unsolved : IdClause) (met : Met) (number : ℕ) (kept : List ℕ) (lefts rights : List Id) (found : Descent) → Grows old first → Grows first second → Grows second third → IsClauseIn old solved → IsClauseIn old unsolved → IsReady old met.binds.pairs
    → Some (distinct nat_eq kept) ≡ option_map kept_variables (numbered (telling_parts (clause_at old met.raw)) number) → AreOwnTerms second (own_terms first met (clause_at first solved) 0) (Some lefts)
    → AreOwnTerms third (own_terms second met (clause_at second unsolved) most_symbols) (Some rights) → found.variables.items ≡ kept ++ (flat_map leaves (map (tree_at third) lefts) ++ flat_map leaves (map (tree_at third) rights)) → found.lefts ≡ map (tree_at third) lefts → found.rights ≡ map (tree_at third) rights
    → TellsDescent (meeting_at old (clause_at old solved) (clause_at old unsolved) met) number found
whole_descent old first second third solved unsolved met number kept lefts rights found to_first to_second to_third solved_in unsolved_in ready kept_is own_lefts own_rights variables found_lefts found_rights =
    let there = of_mapped kept_variables (numbered (telling_parts (clause_at old met.raw)) number) (distinct nat_eq kept) kept_is in
    let to_both = Grows_trans old first second to_first to_second in
    let first_terms = lefts_stand old first solved unsolved met number to_first ready solved_in in
    let second_terms = rights_stand old second solved unsolved met number to_both ready unsolved_in in
    let first_named = trees_at-grow second third lefts to_third own_lefts.0.known ∙ own_lefts.0.are in
    tells_whole (meeting_at old (clause_at old solved) (clause_at old unsolved) met) number found there.0 kept there.1 (sym (ap (list_any is_large_term) first_terms) ∙ own_lefts.1) (sym (ap (list_any is_large_term) second_terms) ∙ own_rights.1) there.2
    (variables ∙ (λ i. kept ++ (flat_map leaves (sym found_lefts i) ++ flat_map leaves (sym found_rights i)))) (found_lefts ∙ (first_named ∙ first_terms)) (found_rights ∙ (own_rights.0.are ∙ second_terms))

-- Clauses over ids that name these, with variables of low numbers.
pub record IsCopyOf (all : List Term) (c : IdClause) (plain : Clause Term) : Type 0 where
  pub names : NamesClause all c plain
  pub low : HasLowVariables all c

pub copied_low : (all : List Term) (c : IdClause) (plain : Clause Term) → NamesClause all c plain → IsLowWithinLimit all c → IsWithinLimit plain → IsCopyOf all c plain
copied_low all c plain names low small = record { names = names; low = low (subst IsWithinLimit (sym names.is) small) }

pub copied_later : (a b : List Term) (c : IdClause) (plain : Clause Term) → Grows a b → IsCopyOf a c plain → IsCopyOf b c plain
copied_later a b c plain grows was = record { names = NamesClause-grows a b c plain grows was.names; low = HasLowVariables-grows a b c grows was.names.known was.low }

pub itself : (all : List Term) (c : IdClause) → IsClauseIn all c → HasLowVariables all c → IsCopyOf all c (clause_at all c)
itself all c known low = record { names = record { known = known; is = refl }; low = low }

-- they met before the bank grew, and what they gave is known later
pub met_later : (old now : List Term) (left right : IdClause) (solved unsolved : Clause Term) (met : Met) → IsCopyOf old left solved → IsCopyOf old right unsolved → IsCopyOf now left solved → IsCopyOf now right unsolved → IsMet now (clause_at old left) (clause_at old right) met
    → IsMet now (clause_at now left) (clause_at now right) met
met_later old now left right solved unsolved met left_was right_was left_is right_is m =
    subst (λ (c : Clause Term). IsMet now c (clause_at now right) met) (left_was.names.is ∙ sym left_is.names.is)
    (subst (λ (c : Clause Term). IsMet now (clause_at old left) c met) (right_was.names.is ∙ sym right_is.names.is) m)

pub descends_from : (all : List Term) (left right : IdClause) (solved unsolved : Clause Term) (met : Met) (number : ℕ) (r : Result (Option Descent) AllocError) → IsCopyOf all left solved → IsCopyOf all right unsolved → is_solved solved.hypotheses ≡ true → IsMet all (clause_at all left) (clause_at all right) met
    → IfOk r (λ found. IsDescentOf (meeting_at all (clause_at all left) (clause_at all right) met) number found) → IfOk r (λ found. DescendsBy solved unsolved number found)
descends_from all left right solved unsolved met number (Err x) first second holds m told = tt
descends_from all left right solved unsolved met number (Ok found) first second holds m told =
    let low : AreBelow most_symbols (all_terms solved) = subst (λ (c : Clause Term). AreBelow most_symbols (all_terms c)) first.names.is (low_terms all left first.low) in
    let here : IsMet all solved unsolved met =
    subst (λ (c : Clause Term). IsMet all c unsolved met) first.names.is (subst (λ (c : Clause Term). IsMet all (clause_at all left) c met) second.names.is m) in
    descends all solved unsolved met number found holds low here (subst (λ (m : Meeting). IsDescentOf m number found) (λ i. meeting_at all (first.names.is i) (second.names.is i) met) told)

-- of the same clauses
pub descends_as : (left solved right unsolved : Clause Term) (number : ℕ) (r : Result (Option Descent) AllocError) → left ≡ solved → right ≡ unsolved → IfOk r (λ found. DescendsBy left right number found) → IfOk r (λ found. DescendsBy solved unsolved number found)
descends_as left solved right unsolved number r first second told =
    subst (λ (c : Clause Term). IfOk r (λ found. DescendsBy c unsolved number found)) first (subst (λ (c : Clause Term). IfOk r (λ found. DescendsBy left c number found)) second told)

-- The parents of a resolvent.

module _ (log : List Entry) (entries : List PlainEntry) (p : Pending) (n : ℕ) (descends : Descends) (tells : TellPlainLog entries log) (here : IsResolvedAt log p descends) where
  pub no_solved : numbered entries descends.solved ≡ None → IsNotResolved log p n
  no_solved none left right m x = let both = resolved_of_both log p n descends left right m here x in not_there log entries descends.solved both.solved tells none both.solved_at

  pub no_unsolved : numbered entries descends.unsolved ≡ None → IsNotResolved log p n
  no_unsolved none left right m x = let both = resolved_of_both log p n descends left right m here x in not_there log entries descends.unsolved both.unsolved tells none both.unsolved_at

  module _ (solved unsolved : PlainEntry) (solved_at : numbered entries descends.solved ≡ Some solved) (unsolved_at : numbered entries descends.unsolved ≡ Some unsolved) where
    abbrev first : (e : Entry) × (numbered log descends.solved ≡ Some e) × TellsPlain log solved e
    first = told_at log entries descends.solved solved tells solved_at

    abbrev second : (e : Entry) × (numbered log descends.unsolved ≡ Some e) × TellsPlain log unsolved e
    second = told_at log entries descends.unsolved unsolved tells unsolved_at

    pub no_descent : DescendsBy solved.clause unsolved.clause descends.number None → IsNotResolved log p n
    no_descent none left right m x =
        let both = resolved_of_both log p n descends left right m here x in
        let one = of_some both.solved first.0 (sym both.solved_at ∙ first.1) in
        let other = of_some both.unsolved second.0 (sym both.unsolved_at ∙ second.1) in
        let left_clause : both.solved.clause ≡ solved.clause = ap (λ (e : Entry). e.clause) one ∙ sym first.2.clause in
        let right_clause : both.unsolved.clause ≡ unsolved.clause = ap (λ (e : Entry). e.clause) other ∙ sym second.2.clause in
        let meeting : IsMeetingOf solved.clause unsolved.clause both.met =
        subst (λ (c : Clause Term). IsMeetingOf c unsolved.clause both.met) left_clause (subst (λ (c : Clause Term). IsMeetingOf both.solved.clause c both.met) right_clause both.of_both) in
        none both.met both.part meeting both.part_at (small_before log p n descends left right m both)

    module _ (found : Descent) (comes : ComesBy solved.clause unsolved.clause descends.number found) where
      abbrev by : Subst
      by = closing p.terms n found.variables.items

      closes : by ≡ closing p.terms n (met_variables comes.met comes.tells.part)
      closes = closing_same p.terms n found.variables.items (met_variables comes.met comes.tells.part) comes.tells.variables_are

      meets : Meets first.0.clause second.0.clause comes.met
      meets = subst (λ (c : Clause Term). Meets c second.0.clause comes.met) first.2.clause (subst (λ (c : Clause Term). Meets solved.clause c comes.met) second.2.clause comes.of_both.meets)

      pub too_large : list_any is_large_term (map (bind by) found.lefts ++ map (bind by) found.rights) ≡ true → IsNotResolved log p n
      too_large large left right m x =
          let both = resolved_of_both log p n descends left right m here x in
          let terms = terms_of_both log p n descends left right m first.0 second.0 comes.met comes.tells.part both first.1 second.1 meets comes.tells.part_at in
          let ours : map (bind by) found.lefts ++ map (bind by) found.rights ≡ left.terms ++ right.terms =
          (λ i. map (bind (closes i)) (comes.tells.lefts_are i) ++ map (bind (closes i)) (comes.tells.rights_are i)) ∙ sym terms in
          let clash : true ≡ false = sym large ∙ (ap (list_any is_large_term) ours ∙ both.small) in cc

      pub parents : (all : List Term) (left right : held.Pending) (m : ℕ) → left.number ≡ descends.solved → right.number ≡ descends.unsolved → map (tree_at all) left.terms ≡ map (bind by) found.lefts → map (tree_at all) right.terms ≡ map (bind by) found.rights
          → list_any is_large_term (map (bind by) found.lefts ++ map (bind by) found.rights) ≡ false → m ≡ next_after p.terms n found.variables.items → IsResolved log p n (pending_at all left) (pending_at all right) m
      parents all left right m left_number right_number lefts rights small next =
          let meeting : IsMeetingOf first.0.clause second.0.clause comes.met =
          subst (λ (c : Clause Term). IsMeetingOf c second.0.clause comes.met) first.2.clause (subst (λ (c : Clause Term). IsMeetingOf solved.clause c comes.met) second.2.clause comes.of_both) in
          let lefts_are_closed = lefts ∙ (λ i. map (bind (closes i)) (comes.tells.lefts_are i)) in
          let rights_are_closed = rights ∙ (λ i. map (bind (closes i)) (comes.tells.rights_are i)) in
          made_resolved log p n descends (pending_at all left) (pending_at all right) m here record {
            solved = first.0;
            unsolved = second.0;
            met = comes.met;
            part = comes.tells.part;
            solved_at = first.1;
            unsolved_at = second.1;
            of_both = meeting;
            part_at = comes.tells.part_at;
            is_left = λ i. record { number = left_number i; terms = lefts_are_closed i };
            is_right = λ i. record { number = right_number i; terms = rights_are_closed i };
            small = (λ i. list_any is_large_term (lefts i ++ rights i)) ∙ small;
            next = next ∙ next_same p.terms n found.variables.items (met_variables comes.met comes.tells.part) comes.tells.variables_are;
          }
