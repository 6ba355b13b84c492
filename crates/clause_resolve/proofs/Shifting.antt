-- Terms, facts and clauses of a bank set apart.
use Rattle.std.proofs.Common.{◌≡◌, ℕ, zero, suc, ◌+◌, ◌<◌, inl, inr, true, IsTrue, nat_eq, Option, Some, None, List, [], ◌∷◌, ◌++◌, length, map, flat_map, take, drop, get_or, refl, ap, sym, ◌∙◌, subst, eqb-true, arith}
use Rattle.std.specs.Prelude.{option_map}
use Rattle.std.specs.List.{AllByRecursion}
use Rattle.std.proofs.lemmas.List.{map-append, take-map, drop-map, length-map}
use Rattle.spec_trees.specs.Tree.{Trees, Leaf, Node, none, more, some_leaves}
use Rattle.spec_trees.specs.Leaves.{leaves, row_leaves}
use Rattle.spec_trees.proofs.Occurrence.{or_true}
use Rattle.spec_terms.specs.Term.{Sym, Term, has_var}
use Rattle.spec_terms.specs.Unifier.{moved}
use Rattle.spec_calculus.specs.Bounds.{most_symbols}
use Rattle.spec_clauses.specs.Fact.{Fact, Att, Mess, Tab, Ev, Mev, Bad, terms_of, fact_under, clause_under}
use Rattle.spec_clauses.specs.Fact as horn
use Rattle.spec_clauses.specs.Diff.{Diff, diff_under}
use Rattle.spec_clauses.specs.Variables.{IsBelow, AreBelow}
use Rattle.spec_clauses.specs.Selection.{Selection, behind, select}
use Rattle.spec_clauses.proofs.Lists.{all_first, all_second}
use Rattle.spec_clauses.proofs.Parts.{terms_of-map}
use Rattle.spec_derivations.specs.Choice.{at_place}
use Rattle.spec_derivations.proofs.Choosing.{at_place-within, selected_there}
use Rattle.term_tree.specs.Bank.{tree_at, AreKnown, Grows}
use Rattle.term_tree.specs.declared.bank.Id.{Id}
use Rattle.term_tree.proofs.BankLaws.{Grows_trans, Grows-length, tree_at-grows}
use Rattle.clause_diffs.specs.Diffs.{DiffOf, diffs_at, NameDiffs}
use Rattle.clause_diffs.proofs.Below.{diffs_below-grow}
use Rattle.clause_diffs.proofs.Naming.{diffs_at-grow}
use Rattle.clause_form.specs.declared.facts.Fact as declared
use Rattle.clause_form.specs.Facts.{fact_of}
use Rattle.clause_form.specs.Fit.{HasLowVariables}
use Rattle.clause_form.specs.Seen.{fact_at, clause_at, IsFactIn, AreFactsIn, IsClauseIn, NamesFact, NameFacts, NamesClause, IdClause}
use Rattle.clause_form.proofs.Flattening.{AreFactsIn-append, clause_with}
use Rattle.clause_form.proofs.Copying.{fact_at-grows, facts_at-grow, NamesFact-grows, NameFacts-grows, NamesClause-grows, clause_named}
use Rattle.clause_resolve.specs.Low.{IsLow, AreLow, IsLowFact, AreLowFacts, AreDiffsBelow, bound_from, AreBelowBound}
use Rattle.clause_resolve.specs.Apart.{IsSelectedAt, IsHypothesisAt, IsApartIn, IsApartOf}
use Rattle.clause_resolve.specs.declared.apart.Apart.{Apart}
use Rattle.clause_resolve.proofs.Low.{moved_fact_below}

-- a variable that stands in a term is below what all of its leaves are below
mutual
  below_in : (n x : ℕ) (t : Term) → AllByRecursion (λ y. y < n) (leaves t) → has_var x t ≡ true → x < n
  below_in n x (Leaf y) below h = let same : x ≡ y = eqb-true x y h in let here = below.0 in omega arith
  below_in n x (Node f args) below h = below_in_row n x args below h

  below_in_row : (n x : ℕ) (ts : Trees ℕ Sym) → AllByRecursion (λ y. y < n) (row_leaves ts) → some_leaves (nat_eq x) ts ≡ true → x < n
  below_in_row n x none below h = cc
  below_in_row n x (more t ts) below h =
      elim (or_true (has_var x t) (some_leaves (nat_eq x) ts) h) as (λ _. x < n) [
        | inl here ↦ below_in n x t (all_first (λ y. y < n) (leaves t) (row_leaves ts) below) here
        | inr there ↦ below_in_row n x ts (all_second (λ y. y < n) (leaves t) (row_leaves ts) below) there
      ]

-- so it has a number when it is set apart
pub low_fits : (all : List Term) (id : Id) → IsLow all id → (x : ℕ) → IsTrue (has_var x (tree_at all id)) → x + most_symbols < 4294967296
low_fits all id low x h = let below : x < most_symbols = below_in most_symbols x (tree_at all id) low.below h in omega arith

-- as the bank grows
pub IsLow-grows : (a b : List Term) (id : Id) → Grows a b → IsLow a id → IsLow b id
IsLow-grows a b id grows low =
    let longer = Grows-length a b grows in
    let known = low.known in
    record { known = omega arith; below = subst (λ (t : Term). IsBelow most_symbols t) (sym (tree_at-grows a b id grows low.known)) low.below }

AreLow-grows : (a b : List Term) (ids : List Id) → Grows a b → AreLow a ids → AreLow b ids
AreLow-grows a b [] grows low = tt
AreLow-grows a b (id ∷ ids) grows low = (IsLow-grows a b id grows low.0, AreLow-grows a b ids grows low.1)

pub IsLowFact-grows : (a b : List Term) (f : Fact Id) → Grows a b → IsLowFact a f → IsLowFact b f
IsLowFact-grows a b f grows low = AreLow-grows a b (terms_of f) grows low

pub AreLowFacts-grow : (a b : List Term) (fs : List (Fact Id)) → Grows a b → AreLowFacts a fs → AreLowFacts b fs
AreLowFacts-grow a b [] grows low = tt
AreLowFacts-grow a b (f ∷ fs) grows low = (IsLowFact-grows a b f grows low.0, AreLowFacts-grow a b fs grows low.1)

-- what stands at a place
pub low_at : (all : List Term) (ids : List Id) (i : ℕ) (d : Id) → AreLow all ids → i < length ids → IsLow all (get_or ids i d)
low_at all [] i d low within = absurd (omega arith)
low_at all (id ∷ ids) zero d low within = low.0
low_at all (id ∷ ids) (suc i) d low within = low_at all ids i d low.1 (omega arith)

fact_low : (all : List Term) (fs : List declared.Fact) (i : ℕ) (d : declared.Fact) → AreLowFacts all (map fact_of fs) → i < length fs → IsLowFact all (fact_of (get_or fs i d))
fact_low all [] i d low within = absurd (omega arith)
fact_low all (f ∷ fs) zero d low within = low.0
fact_low all (f ∷ fs) (suc i) d low within = fact_low all fs i d low.1 (omega arith)

pub fact_low_at : (all : List Term) (fs : List declared.Fact) (i : ℕ) (f : declared.Fact) → f ≡ get_or fs i f → AreLowFacts all (map fact_of fs) → i < length fs → IsLowFact all (fact_of f)
fact_low_at all fs i f is low within = subst (λ (x : declared.Fact). IsLowFact all (fact_of x)) (sym is) (fact_low all fs i f low within)

pub low_take : (all : List Term) (n : ℕ) (fs : List declared.Fact) → AreLowFacts all (map fact_of fs) → AreLowFacts all (map fact_of (take n fs))
low_take all zero fs low = tt
low_take all (suc n) [] low = tt
low_take all (suc n) (f ∷ fs) low = (low.0, low_take all n fs low.1)

pub low_drop : (all : List Term) (n : ℕ) (fs : List declared.Fact) → AreLowFacts all (map fact_of fs) → AreLowFacts all (map fact_of (drop n fs))
low_drop all zero fs low = low
low_drop all (suc n) [] low = tt
low_drop all (suc n) (f ∷ fs) low = low_drop all n fs low.1

-- they are known
known_low : (all : List Term) (ids : List Id) → AreLow all ids → AreKnown all ids
known_low all [] low = tt
known_low all (id ∷ ids) low = let first = low.0 in (first.known, known_low all ids low.1)

pub fact_known_low : (all : List Term) (f : Fact Id) → IsLowFact all f → IsFactIn all f
fact_known_low all f low = known_low all (terms_of f) low

pub facts_known_low : (all : List Term) (fs : List (Fact Id)) → AreLowFacts all fs → AreFactsIn all fs
facts_known_low all [] low = tt
facts_known_low all (f ∷ fs) low = (fact_known_low all f low.0, facts_known_low all fs low.1)

-- a known clause with low variables has low facts
pub lows : (all : List Term) (ids : List Id) → AreKnown all ids → AreBelow most_symbols (map (tree_at all) ids) → AreLow all ids
lows all [] known below = tt
lows all (id ∷ ids) known below = (record { known = known.0; below = below.0 }, lows all ids known.1 below.1)

below_lows : (all : List Term) (ids : List Id) → AreLow all ids → AreBelow most_symbols (map (tree_at all) ids)
below_lows all [] low = tt
below_lows all (id ∷ ids) low = let first = low.0 in (first.below, below_lows all ids low.1)

pub fact_below : (all : List Term) (f : Fact Id) → IsLowFact all f → AreBelow most_symbols (terms_of (fact_at all f))
fact_below all f low = subst (λ (ts : List Term). AreBelow most_symbols ts) (sym (terms_of-map (tree_at all) f)) (below_lows all (terms_of f) low)

fact_lows : (all : List Term) (f : Fact Id) → IsFactIn all f → AreBelow most_symbols (terms_of (fact_at all f)) → IsLowFact all f
fact_lows all (Att k t) known below = lows all (t ∷ []) known below
fact_lows all (Mess k t u) known below = lows all (t ∷ u ∷ []) known below
fact_lows all (Tab n ts) known below = lows all ts known below
fact_lows all (Ev e ts) known below = lows all ts known below
fact_lows all (Mev e ts) known below = lows all ts known below
fact_lows all (Bad ts) known below = lows all ts known below

facts_lows : (all : List Term) (fs : List (Fact Id)) → AreFactsIn all fs → AreBelow most_symbols (flat_map terms_of (map (fact_at all) fs)) → AreLowFacts all fs
facts_lows all [] known below = tt
facts_lows all (f ∷ fs) known below = (
  fact_lows all f known.0 (all_first (IsBelow most_symbols) (terms_of (fact_at all f)) (flat_map terms_of (map (fact_at all) fs)) below),
  facts_lows all fs known.1 (all_second (IsBelow most_symbols) (terms_of (fact_at all f)) (flat_map terms_of (map (fact_at all) fs)) below),
)

pub conclusion_low : (all : List Term) (c : IdClause) → IsClauseIn all c → HasLowVariables all c → IsLowFact all c.conclusion
conclusion_low all c known low = fact_lows all c.conclusion known.conclusion (all_first (IsBelow most_symbols) (terms_of (fact_at all c.conclusion)) (flat_map terms_of (map (fact_at all) c.hypotheses)) low.facts)

pub hypotheses_low : (all : List Term) (c : IdClause) → IsClauseIn all c → HasLowVariables all c → AreLowFacts all c.hypotheses
hypotheses_low all c known low = facts_lows all c.hypotheses known.hypotheses (all_second (IsBelow most_symbols) (terms_of (fact_at all c.conclusion)) (flat_map terms_of (map (fact_at all) c.hypotheses)) low.facts)

-- facts one after the other
pub facts_after : (now next : List Term) (fs gs : List (Fact Id)) (ts us : List (Fact Term)) → Grows now next → NameFacts now fs ts → NameFacts next gs us → NameFacts next (fs ++ gs) (ts ++ us)
facts_after now next fs gs ts us grows first second =
    let later = NameFacts-grows now next fs ts grows first in
    record {
      known = AreFactsIn-append next fs gs later.known second.known;
      are = map-append (fact_at next) fs gs ∙ λ i. later.are i ++ second.are i;
    }

-- the facts before a place, and those behind it
pub others_named : (old now next : List Term) (fs rest : List declared.Fact) (at : ℕ) (first later new : List (Fact Id)) → Grows old now → Grows now next → AreLowFacts old (map fact_of fs) → rest ≡ drop (at + 1) fs
    → NameFacts now first (map (fact_under (moved most_symbols)) (map (fact_at old) (map fact_of (take at fs)))) → NameFacts next later (map (fact_under (moved most_symbols)) (map (fact_at now) (map fact_of rest))) → new ≡ first ++ later
    → NameFacts next new (map (fact_under (moved most_symbols)) (take at (map (fact_at old) (map fact_of fs)) ++ drop (at + 1) (map (fact_at old) (map fact_of fs))))
others_named old now next fs rest at first later new grows further low rest_is first_named later_named e =
    let move = map (fact_under (moved most_symbols)) in
    let trees = map (fact_at old) (map fact_of fs) in
    let known = facts_known_low old (map fact_of (drop (at + 1) fs)) (low_drop old (at + 1) fs low) in
    let one : move (map (fact_at old) (map fact_of (take at fs))) ≡ move (take at trees) = ap move (sym (take-map (fact_at old) at (map fact_of fs) ∙ ap (map (fact_at old)) (take-map fact_of at fs))) in
    let two : move (map (fact_at now) (map fact_of rest)) ≡ move (drop (at + 1) trees) =
    ap (λ l. move (map (fact_at now) (map fact_of l))) rest_is ∙ ap move (facts_at-grow old now (map fact_of (drop (at + 1) fs)) grows known ∙ sym (drop-map (fact_at old) (at + 1) (map fact_of fs) ∙ ap (map (fact_at old)) (drop-map fact_of (at + 1) fs))) in
    let both : move (map (fact_at old) (map fact_of (take at fs))) ++ move (map (fact_at now) (map fact_of rest)) ≡ move (take at trees ++ drop (at + 1) trees) =
    (λ i. one i ++ two i) ∙ sym (map-append (fact_under (moved most_symbols)) (take at trees) (drop (at + 1) trees)) in
    subst (λ (l : List (Fact Id)). NameFacts next l (move (take at trees ++ drop (at + 1) trees))) (sym e)
    (subst (λ (l : List (Fact Term)). NameFacts next (first ++ later) l) both (facts_after now next first later (move (map (fact_at old) (map fact_of (take at fs)))) (move (map (fact_at now) (map fact_of rest))) further first_named later_named))

-- the hypothesis at a place, and the others
pub record IsPlaced (c : horn.Clause Term) (at : ℕ) : Type 0 where
  pub selection : Selection
  pub is_selected : at_place c.hypotheses at ≡ Some selection
  pub fact : (d : Fact Term) → get_or c.hypotheses at d ≡ selection.fact
  pub others : take at c.hypotheses ++ drop (at + 1) c.hypotheses ≡ selection.others

-- what is at a place of a list of hypotheses
record IsFound (hs : List (Fact Term)) (at : ℕ) : Type 0 where
  selection : Selection
  is_there : at_place hs at ≡ Some selection
  fact : (d : Fact Term) → get_or hs at d ≡ selection.fact
  others : take at hs ++ drop (suc at) hs ≡ selection.others

found : (hs : List (Fact Term)) (at : ℕ) → at < length hs → IsFound hs at
found [] at within = absurd (omega arith)
found (h ∷ hs) zero within = record { selection = record { index = 0; fact = h; others = hs }; is_there = refl; fact = λ d. refl; others = refl }
found (h ∷ hs) (suc at) within =
    let f = found hs at (omega arith) in
    record { selection = behind h f.selection; is_there = ap (option_map (behind h)) f.is_there; fact = f.fact; others = ap (λ l. h ∷ l) f.others }

pub placed : (c : horn.Clause Term) (at : ℕ) → IsHypothesisAt c at → IsPlaced c at
placed c at within =
    let f = found c.hypotheses at within in
    let next : at + 1 ≡ suc at = omega arith in
    record { selection = f.selection; is_selected = f.is_there; fact = f.fact; others = ap (λ n. take at c.hypotheses ++ drop n c.hypotheses) next ∙ f.others }

-- Where the hypothesis at a place is selected, it is there, and it is what is selected.
pub place_selected : (c : horn.Clause Term) (at : ℕ) → IsSelectedAt c at → IsHypothesisAt c at × (at_place c.hypotheses at ≡ select c.hypotheses)
place_selected c at e = go (select c.hypotheses) refl e where
  there : (s : Selection) → s.index ≡ at → select c.hypotheses ≡ Some s → IsHypothesisAt c at × (at_place c.hypotheses at ≡ Some s)
  there s same is =
      let place : at_place c.hypotheses at ≡ Some s = ap (at_place c.hypotheses) (sym same) ∙ selected_there c.hypotheses s is in
      (at_place-within c.hypotheses at s place, place)

  go : (o : Option Selection) → select c.hypotheses ≡ o → option_map (λ s. s.index) o ≡ Some at → IsHypothesisAt c at × (at_place c.hypotheses at ≡ o)
  go None is absent = cc
  go (Some s) is some = let same : s.index ≡ at = cc in there s same is

-- what a clause is that is raised by the limit of size, with these hypotheses
abbrev raised_clause : List (Fact Term) → horn.Clause Term → horn.Clause Term
raised_clause others c = record { hypotheses = map (fact_under (moved most_symbols)) others; diffs = map (diff_under (moved most_symbols)) c.diffs; conclusion = fact_under (moved most_symbols) c.conclusion }

-- the clause is set apart
clause_apart : (first second third fourth : List Term) (c : horn.Clause Term) (at : ℕ) (selected : declared.Fact) (hyps : List (Fact Id)) (ds : List (DiffOf Id)) (concl : declared.Fact) (fact : Fact Term) (trees : List (Fact Term)) → IsHypothesisAt c at → Grows first second → Grows second third → Grows third fourth
    → NamesFact first (fact_of selected) (fact_under (moved most_symbols) fact) → AreBelow most_symbols (terms_of fact) → fact ≡ get_or c.hypotheses at fact → NameFacts second hyps (map (fact_under (moved most_symbols)) trees) → trees ≡ take at c.hypotheses ++ drop (at + 1) c.hypotheses
    → NameDiffs third ds (map (diff_under (moved most_symbols)) c.diffs) → AreDiffsBelow bound_from third ds → NamesFact fourth (fact_of concl) (fact_under (moved most_symbols) c.conclusion)
    → IsApartOf (at_place c.hypotheses at) fourth c record { selected = selected; rest = record { hypotheses = hyps; diffs = ds; conclusion = fact_of concl } }
clause_apart first second third fourth c at selected hyps ds concl fact trees place one two three fact_named fact_is_below fact_is hyps_named trees_are ds_named ds_below concl_named =
    let p = placed c at place in
    let later = NamesFact-grows first fourth (fact_of selected) (fact_under (moved most_symbols) fact) (Grows_trans first third fourth (Grows_trans first second third one two) three) fact_named in
    let same : fact ≡ p.selection.fact = fact_is ∙ p.fact fact in
    let others : trees ≡ p.selection.others = trees_are ∙ p.others in
    record {
      at = p.selection;
      is_selected = p.is_selected;
      selected = subst (λ (f : Fact Term). NamesFact fourth (fact_of selected) (fact_under (moved most_symbols) f)) same later;
      rest = subst (λ (l : List (Fact Term)). NamesClause fourth record { hypotheses = hyps; diffs = ds; conclusion = fact_of concl } (raised_clause l c)) others
          (clause_named second third fourth hyps ds (fact_of concl) (map (fact_under (moved most_symbols)) trees) (map (diff_under (moved most_symbols)) c.diffs) (raised_clause trees c) two three hyps_named refl ds_named refl concl_named);
      low = record {
        fact = subst (λ (f : Fact Term). AreBelow bound_from (terms_of f)) (sym later.is) (moved_fact_below most_symbols most_symbols fact fact_is_below);
        diffs = diffs_below-grow bound_from third fourth ds three ds_named.known ds_below;
      };
    }

-- and stays so
pub apart_grows : {chosen : Option Selection} (old new : List Term) (unsolved : horn.Clause Term) (apart : Apart) → Grows old new → IsApartOf chosen old unsolved apart → IsApartOf chosen new unsolved apart
apart_grows old new unsolved apart grows was = record {
  at = was.at;
  is_selected = was.is_selected;
  selected = NamesFact-grows old new (fact_of apart.selected) (fact_under (moved most_symbols) was.at.fact) grows was.selected;
  rest = NamesClause-grows old new apart.rest (raised_clause was.at.others unsolved) grows was.rest;
  low = record {
    fact = subst (λ (f : Fact Term). AreBelow bound_from (terms_of f)) (sym (fact_at-grows old new (fact_of apart.selected) grows was.selected.known)) was.low.fact;
    diffs = diffs_below-grow bound_from old new apart.rest.diffs grows was.rest.known.diffs was.low.diffs;
  };
}

pub apart_known : {chosen : Option Selection} (all : List Term) (unsolved : horn.Clause Term) (apart : Apart) → IsApartOf chosen all unsolved apart → IsApartIn all apart
apart_known all unsolved apart was = record { selected = was.selected.known; rest = was.rest.known; low = was.low }

-- a fact of a bank at that place
pub selected_within : (all : List Term) (c : IdClause) (fs : List declared.Fact) (at : ℕ) → map fact_of fs ≡ c.hypotheses → IsHypothesisAt (clause_at all c) at → at < length fs
selected_within all c fs at is place =
    let within : at < length (map (fact_at all) c.hypotheses) = place in
    omega (arith, within, length-map c.hypotheses (fact_at all), ap length is, length-map fs fact_of)

got_map : {X Y : Type 0} (f : X → Y) (xs : List X) (i : ℕ) (d : X) (e : Y) → i < length xs → get_or (map f xs) i e ≡ f (get_or xs i d)
got_map f [] i d e within = absurd (omega arith)
got_map f (x ∷ xs) zero d e within = refl
got_map f (x ∷ xs) (suc i) d e within = got_map f xs i d e (omega arith)

pub selected_fact : (all : List Term) (c : IdClause) (fs : List declared.Fact) (at : ℕ) (f : declared.Fact) (d : Fact Term) → map fact_of fs ≡ c.hypotheses → at < length fs → f ≡ get_or fs at f → fact_at all (fact_of f) ≡ get_or (clause_at all c).hypotheses at d
selected_fact all c fs at f d is within e =
    ap (λ x. fact_at all (fact_of x)) e
    ∙ (sym (got_map (λ x. fact_at all x) (map fact_of fs) at (fact_of (get_or fs at f)) d (omega (arith, length-map fs fact_of)) ∙ ap (fact_at all) (got_map fact_of fs at f (fact_of (get_or fs at f)) within)) ∙ ap (λ l. get_or (map (fact_at all) l) at d) is)

-- The clause is set apart, step by step: the selected hypothesis, the others, the constraints and the conclusion.
clause_set_apart : (old first second third fourth : List Term) (at : ℕ) (fs : List declared.Fact) (es : List (DiffOf Id)) (k : Fact Id) (f : declared.Fact) (selected : declared.Fact) (hyps : List (Fact Id)) (ds : List (DiffOf Id)) (concl : declared.Fact) → IsClauseIn old (clause_with (map fact_of fs) es k)
    → IsHypothesisAt (clause_at old (clause_with (map fact_of fs) es k)) at → f ≡ get_or fs at f → IsLowFact old (fact_of f) → Grows old first → Grows first second → Grows second third → Grows third fourth → NamesFact first (fact_of selected) (fact_under (moved most_symbols) (fact_at old (fact_of f)))
    → NameFacts second hyps (map (fact_under (moved most_symbols)) (take at (map (fact_at first) (map fact_of fs)) ++ drop (at + 1) (map (fact_at first) (map fact_of fs)))) → NameDiffs third ds (map (diff_under (moved most_symbols)) (diffs_at second es)) → AreDiffsBelow bound_from third ds
    → NamesFact fourth (fact_of concl) (fact_under (moved most_symbols) (fact_at third k)) → IsApartOf (at_place (clause_at old (clause_with (map fact_of fs) es k)).hypotheses at) fourth (clause_at old (clause_with (map fact_of fs) es k)) record { selected = selected; rest = record { hypotheses = hyps; diffs = ds; conclusion = fact_of concl } }
clause_set_apart old first second third fourth at fs es k f selected hyps ds concl known place f_is f_low one two three four selected_named hyps_named ds_named ds_below concl_named =
    let c = clause_with (map fact_of fs) es k in
    let within = selected_within old c fs at refl place in
    let to_second = Grows_trans old first second one two in
    let facts : map (fact_at first) (map fact_of fs) ≡ map (fact_at old) (map fact_of fs) = facts_at-grow old first (map fact_of fs) one known.hypotheses in
    let diffs : diffs_at second es ≡ diffs_at old es = diffs_at-grow old second es to_second known.diffs in
    let conclusion : fact_at third k ≡ fact_at old k = fact_at-grows old third k (Grows_trans old second third to_second three) known.conclusion in
    clause_apart first second third fourth (clause_at old c) at selected hyps ds concl (fact_at old (fact_of f)) (take at (map (fact_at first) (map fact_of fs)) ++ drop (at + 1) (map (fact_at first) (map fact_of fs))) place two three four selected_named (fact_below old (fact_of f) f_low)
    (selected_fact old c fs at f (fact_at old (fact_of f)) refl within f_is) hyps_named (ap (λ l. take at l ++ drop (at + 1) l) facts)
    (subst (λ (l : List Diff). NameDiffs third ds (map (diff_under (moved most_symbols)) l)) diffs ds_named) ds_below
    (subst (λ (t : Fact Term). NamesFact fourth (fact_of concl) (fact_under (moved most_symbols) t)) conclusion concl_named)

-- the same where the clause is given
pub clause_set_apart_as : (old first second third fourth : List Term) (c : IdClause) (at : ℕ) (fs : List declared.Fact) (es : List (DiffOf Id)) (k : Fact Id) (f : declared.Fact) (selected : declared.Fact) (hyps : List (Fact Id)) (ds : List (DiffOf Id)) (concl : declared.Fact) → clause_with (map fact_of fs) es k ≡ c → IsClauseIn old c
    → IsHypothesisAt (clause_at old c) at → f ≡ get_or fs at f → IsLowFact old (fact_of f) → Grows old first → Grows first second → Grows second third → Grows third fourth → NamesFact first (fact_of selected) (fact_under (moved most_symbols) (fact_at old (fact_of f)))
    → NameFacts second hyps (map (fact_under (moved most_symbols)) (take at (map (fact_at first) (map fact_of fs)) ++ drop (at + 1) (map (fact_at first) (map fact_of fs)))) → NameDiffs third ds (map (diff_under (moved most_symbols)) (diffs_at second es)) → AreDiffsBelow bound_from third ds
    → NamesFact fourth (fact_of concl) (fact_under (moved most_symbols) (fact_at third k)) → IsApartOf (at_place (clause_at old c).hypotheses at) fourth (clause_at old c) record { selected = selected; rest = record { hypotheses = hyps; diffs = ds; conclusion = fact_of concl } }
clause_set_apart_as old first second third fourth c at fs es k f selected hyps ds concl is known place f_is f_low one two three four selected_named hyps_named ds_named ds_below concl_named =
    subst (λ (x : IdClause). IsApartOf (at_place (clause_at old x).hypotheses at) fourth (clause_at old x) record { selected = selected; rest = record { hypotheses = hyps; diffs = ds; conclusion = fact_of concl } }) is
    (clause_set_apart old first second third fourth at fs es k f selected hyps ds concl (subst (λ (x : IdClause). IsClauseIn old x) (sym is) known) (subst (λ (x : IdClause). IsHypothesisAt (clause_at old x) at) (sym is) place)
    f_is f_low one two three four selected_named hyps_named ds_named ds_below concl_named)

-- A clause set apart as a whole.
pub record IsClauseMoved (old new : List Term) (c made : IdClause) : Type 0 where
  pub names : NamesClause new made (clause_under (moved most_symbols) (clause_at old c))
  pub below : AreBelowBound new made.conclusion made.diffs

clause_moved : (old first second third : List Term) (c : IdClause) (hyps : List (Fact Id)) (ds : List (DiffOf Id)) (concl : Fact Id) → IsClauseIn old c → IsLowFact old c.conclusion → Grows old first → Grows first second → Grows second third → NameFacts first hyps (map (fact_under (moved most_symbols)) (map (fact_at old) c.hypotheses))
    → NameDiffs second ds (map (diff_under (moved most_symbols)) (diffs_at first c.diffs)) → AreDiffsBelow bound_from second ds → NamesFact third concl (fact_under (moved most_symbols) (fact_at second c.conclusion)) → IsClauseMoved old third c (clause_with hyps ds concl)
clause_moved old first second third c hyps ds concl known low one two three hyps_named ds_named ds_below concl_named =
    let diffs : diffs_at first c.diffs ≡ diffs_at old c.diffs = diffs_at-grow old first c.diffs one known.diffs in
    let conclusion : fact_at second c.conclusion ≡ fact_at old c.conclusion = fact_at-grows old second c.conclusion (Grows_trans old first second one two) known.conclusion in
    let named = subst (λ (t : Fact Term). NamesFact third concl (fact_under (moved most_symbols) t)) conclusion concl_named in
    record {
      names = clause_named first second third hyps ds concl (map (fact_under (moved most_symbols)) (map (fact_at old) c.hypotheses)) (map (diff_under (moved most_symbols)) (diffs_at first c.diffs)) (clause_under (moved most_symbols) (clause_at old c)) two three
          hyps_named refl ds_named (ap (map (diff_under (moved most_symbols))) diffs) named;
      below = record {
        fact = subst (λ (t : Fact Term). AreBelow bound_from (terms_of t)) (sym named.is) (moved_fact_below most_symbols most_symbols (fact_at old c.conclusion) (fact_below old c.conclusion low));
        diffs = diffs_below-grow bound_from second third ds three ds_named.known ds_below;
      };
    }

-- the same where the parts of the clause are given
pub clause_moved_as : (old first second third : List Term) (c : IdClause) (h : List (Fact Id)) (es : List (DiffOf Id)) (k : Fact Id) (hyps : List (Fact Id)) (ds : List (DiffOf Id)) (concl : Fact Id) → clause_with h es k ≡ c → IsClauseIn old c → HasLowVariables old c → Grows old first → Grows first second → Grows second third
    → NameFacts first hyps (map (fact_under (moved most_symbols)) (map (fact_at old) h)) → NameDiffs second ds (map (diff_under (moved most_symbols)) (diffs_at first es)) → AreDiffsBelow bound_from second ds → NamesFact third concl (fact_under (moved most_symbols) (fact_at second k)) → IsClauseMoved old third c (clause_with hyps ds concl)
clause_moved_as old first second third c h es k hyps ds concl is known low one two three hyps_named ds_named ds_below concl_named =
    let e = clause_with h es k in
    subst (λ (x : IdClause). IsClauseMoved old third x (clause_with hyps ds concl)) is
    (clause_moved old first second third e hyps ds concl (subst (λ (x : IdClause). IsClauseIn old x) (sym is) known) (subst (λ (x : IdClause). IsLowFact old x.conclusion) (sym is) (conclusion_low old c known low)) one two three hyps_named ds_named ds_below concl_named)
