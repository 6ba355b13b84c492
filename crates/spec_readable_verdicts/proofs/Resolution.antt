-- Resolvents of clauses over a protocol are over it, and so is each entry of a log whose given clauses are.
use Rattle.std.proofs.Common.{◌≡◌, ◌∙◌, ℕ, Bool, true, false, ◌&&◌, cond, Option, Some, None, List, [], ◌∷◌, ◌++◌, map, length, refl, ap, sym, subst, inl, inr, append_assoc}
use Rattle.std.specs.List.{AllByRecursion, list_all}
use Rattle.std.proofs.lemmas.List.Folds.{list_all-append}
use Rattle.spec_trees.proofs.Equality.{and_true}
use Rattle.spec_calculus.specs.Syntax.{Protocol}
use Rattle.spec_terms.specs.Term.{Term, Subst}
use Rattle.spec_terms.specs.Unifier.{moved, IsMostGeneral}
use Rattle.spec_clauses.specs.Fact.{Fact, Att, Mess, Tab, Ev, Mev, Bad, Clause, map_fact, fact_under}
use Rattle.spec_clauses.specs.Diff.{diff_under}
use Rattle.spec_clauses.specs.Selection.{Selection, select}
use Rattle.spec_clauses.specs.Norm.{norms}
use Rattle.spec_clauses.specs.Limits.{is_large_raw}
use Rattle.spec_clauses.specs.Resolvents.{Large, Resolvents, joined, IsRawResolvent, answer_of, Resolves}
use Rattle.spec_clauses.specs.Inclusion.{Picks, here, there, Has}
use Rattle.spec_clauses.proofs.Inclusion.{pick-within, Has-append, Has-append_right, Has-filter_source, Has-one}
use Rattle.spec_clauses.proofs.Lists.{all_append}
use Rattle.spec_clauses.proofs.NormKeeps.{all_pass_within}
use Rattle.spec_clauses.proofs.Selection.{select-picks}
use Rattle.spec_translation.specs.Placement.{may_be_supposed, may_be_concluded, IsWellPlaced}
use Rattle.spec_translation.proofs.Goal.{all_at}
use Rattle.spec_translation.proofs.Placement.{all_told-under, norms-concluded, norms-told, supposed_told}
use Rattle.spec_saturation.specs.Key.{Key, key, is_before, Entry, below}
use Rattle.spec_saturation.specs.Log.{IsLive, IsOffered, IsNew}
use Rattle.spec_saturation.specs.Live.{AreLive}
use Rattle.spec_saturation.specs.End.{AreSorted, IsLog, Closed}
use Rattle.spec_saturation.proofs.Cuts.{below_entry, sorted_front, sorted_rest}
use Rattle.spec_saturation.proofs.Pairs.{has_numbered, live_number}
use Rattle.spec_certificate_text.specs.OfProtocol.{IsSymbolOf}
use Rattle.spec_readable_verdicts.proofs.Over.{cleaned, cleaned_under, cleaned-bind, cleaned-binds, most_general-over}
use Rattle.spec_readable_verdicts.proofs.Symbols.{symbol}
use Rattle.spec_readable_verdicts.proofs.Facts.{IsTermOver, IsFactOver, IsDiffOver, IsClauseOver, fact_over-under, facts_over-under, diffs_over-under, clause_over-under, norms_over}

-- a clause over the protocol whose facts stand where they may
pub record IsKept (P : Protocol) (c : Clause Term) : Type 0 where
  pub over : IsClauseOver P c
  pub placed : IsWellPlaced c

-- resolvents are norms of a raw clause that isn't large
pub record AreNorms (raw : Option (Clause Term)) (cs : List (Clause Term)) : Type 0 where
  pub clause : Clause Term
  pub is : raw ≡ Some clause
  pub small : is_large_raw clause ≡ false
  pub are : cs ≡ norms clause

pub are_norms : (raw : Option (Clause Term)) (cs : List (Clause Term)) → Resolvents cs ≡ answer_of raw → AreNorms raw cs
are_norms None cs e = cc
are_norms (Some clause) cs e = go (is_large_raw clause) refl e where
  go : (b : Bool) → is_large_raw clause ≡ b → Resolvents cs ≡ cond b Large (Resolvents (norms clause)) → AreNorms (Some clause) cs
  go true p e = cc
  go false p e = record { clause = clause; is = refl; small = p; are = cc }

all_rest : {X : Type 0} (Q : X → Type 0) {xs rest : List X} {x : X} → Picks xs x rest → AllByRecursion Q xs → AllByRecursion Q rest
all_rest Q here h = h.1
all_rest Q (there p) h = (h.0, all_rest Q p h.1)

concluded-under : (s : Subst) (f : Fact Term) → may_be_concluded (fact_under s f) ≡ may_be_concluded f
concluded-under s (Att k t) = refl
concluded-under s (Mess k t u) = refl
concluded-under s (Tab n ts) = refl
concluded-under s (Ev e ts) = refl
concluded-under s (Mev e ts) = refl
concluded-under s (Bad ts) = refl

module _ (P : Protocol) where
  abbrev clean : Term → Term
  clean = cleaned (IsSymbolOf P) (symbol P)

  cleaned_fact : (s : Subst) (f : Fact Term) → IsFactOver P f → map_fact clean (fact_under s f) ≡ fact_under (cleaned_under (IsSymbolOf P) (symbol P) s) f
  cleaned_fact s (Att k t) h = ap (Att k) (cleaned-bind (IsSymbolOf P) (symbol P) s t h.terms.0)
  cleaned_fact s (Mess k t u) h =
      let first = cleaned-bind (IsSymbolOf P) (symbol P) s t h.terms.0 in
      let second = cleaned-bind (IsSymbolOf P) (symbol P) s u h.terms.1.0 in λ i. Mess k (first i) (second i)
  cleaned_fact s (Tab n ts) h = ap (Tab n) (cleaned-binds (IsSymbolOf P) (symbol P) s ts h.terms)
  cleaned_fact s (Ev e ts) h = ap (Ev e) (cleaned-binds (IsSymbolOf P) (symbol P) s ts h.terms)
  cleaned_fact s (Mev e ts) h = ap (Mev e) (cleaned-binds (IsSymbolOf P) (symbol P) s ts h.terms)
  cleaned_fact s (Bad ts) h = ap Bad (cleaned-binds (IsSymbolOf P) (symbol P) s ts h.terms)

  -- a most general unifier of facts over the protocol
  unifier_over : (f g : Fact Term) (s : Subst) → IsFactOver P f → IsFactOver P g → IsMostGeneral (λ r. fact_under r f ≡ fact_under r g) s → (x : ℕ) → IsTermOver P (s x)
  unifier_over f g s first second most =
      most_general-over (IsSymbolOf P) (symbol P) (λ r. fact_under r f ≡ fact_under r g) s most
      (sym (cleaned_fact s f first) ∙ (ap (map_fact clean) most.accepted ∙ cleaned_fact s g second))

  module _ (i j : Clause Term) (at : Selection) (selected : select j.hypotheses ≡ Some at) (first : IsKept P i) (second : IsKept P j) where
    picked : Picks j.hypotheses at.fact at.others
    picked = select-picks j.hypotheses at selected

    joined_over : (n : ℕ) → IsClauseOver P (joined n i j at)
    joined_over n = record {
      hypotheses = all_append (IsFactOver P) i.hypotheses (map (fact_under (moved n)) at.others) first.over.hypotheses
          (facts_over-under P (moved n) (λ x. tt) at.others (all_rest (IsFactOver P) picked second.over.hypotheses));
      diffs = all_append (IsDiffOver P) i.diffs (map (diff_under (moved n)) j.diffs) first.over.diffs (diffs_over-under P (moved n) (λ x. tt) j.diffs second.over.diffs);
      conclusion = fact_over-under P (moved n) (λ x. tt) j.conclusion second.over.conclusion;
    }

    joined_supposed : (n : ℕ) → list_all may_be_supposed (joined n i j at).hypotheses ≡ true
    joined_supposed n =
        let all = all_pass_within may_be_supposed (at.fact ∷ at.others) j.hypotheses (pick-within picked) second.placed.hypotheses in
        let others = all_told-under may_be_supposed supposed_told (moved n) at.others ∙ (and_true (may_be_supposed at.fact) (list_all may_be_supposed at.others) all).1 in
        let own = first.placed.hypotheses in
        list_all-append may_be_supposed i.hypotheses (map (fact_under (moved n)) at.others) ∙ (λ k. own k && others k)

    raw_kept : (raw : Clause Term) → IsRawResolvent i j at (Some raw) → IsKept P raw
    raw_kept raw is =
        let (s, most, made) = is.unified in
        let n = is.offset in
        let fact = fact_over-under P (moved n) (λ x. tt) at.fact (all_at (IsFactOver P) picked second.over.hypotheses) in
        let each = unifier_over i.conclusion (fact_under (moved n) at.fact) s first.over.conclusion fact most in
        subst (IsKept P) (sym made) (record {
          over = clause_over-under P s each (joined n i j at) (joined_over n);
          placed = record {
            hypotheses = all_told-under may_be_supposed supposed_told s (joined n i j at).hypotheses ∙ joined_supposed n;
            conclusion = concluded-under s (fact_under (moved n) j.conclusion) ∙ (concluded-under (moved n) j.conclusion ∙ second.placed.conclusion);
          };
        })

    -- each resolvent
    resolvent_kept : (cs : List (Clause Term)) (c : Clause Term) → Resolves i j at (Resolvents cs) → Has cs c → IsKept P c
    resolvent_kept cs c (raw, is, e) listed =
        let n = are_norms raw cs e in
        let kept = raw_kept n.clause (subst (IsRawResolvent i j at) n.is is) in
        let there = subst (λ ds. Has ds c) n.are listed in record {
          over = norms_over P n.clause c kept.over there;
          placed = record { hypotheses = norms-told may_be_supposed supposed_told n.clause c kept.placed.hypotheses there; conclusion = norms-concluded n.clause c there ∙ kept.placed.conclusion };
        }

  module _ (given : List (Clause Term)) (first : (c : Clause Term) → Has given c → IsKept P c) where
    -- a live entry of a front is one of it
    live_entry : (k : Key) (front : List Entry) (n : ℕ) (c : Clause Term) → ((e : Entry) → Has front e → IsKept P e.clause) → IsLive (below k front) n c → IsKept P c
    live_entry k front n c each live =
        let there = (Has-filter_source (λ x. is_before x.key k) front live.entry (has_numbered (below k front) n live.entry live.at)).0 in
        subst (IsKept P) live.clause (each live.entry there)

    -- what is offered over entries
    offered_kept : (front : List Entry) (e : Entry) → ((d : Entry) → Has front d → IsKept P d.clause) → IsOffered given front e → IsKept P e.clause
    offered_kept front e each (inl x) = first e.clause (has_numbered given x.number e.clause x.clause)
    offered_kept front e each (inr (inl x)) =
        let k = key e.key.major e.key.minor 1 in
        let g = x.gives in
        let parents : IsKept P g.solved × IsKept P g.unsolved = elim g.is_due.live as (λ _. IsKept P g.solved × IsKept P g.unsolved) [
          | inl both ↦ (live_entry k front e.key.minor g.solved each both.0, live_entry k front e.key.major g.unsolved each both.1)
          | inr both ↦ (live_entry k front e.key.major g.solved each both.0, live_entry k front e.key.minor g.unsolved each both.1)
        ] in
        resolvent_kept g.solved g.unsolved g.at g.selected parents.0 parents.1 x.resolvents e.clause g.gives (has_numbered x.resolvents e.key.number e.clause x.clause)
    offered_kept front e each (inr (inr x)) = first e.clause (has_numbered given (length given) e.clause x.clause)

    entries_from : (log front rest : List Entry) → log ≡ front ++ rest → AreSorted log → ((e : Entry) → Has log e → IsNew given log e) → ((e : Entry) → Has front e → IsKept P e.clause) → (e : Entry) → Has rest e → IsKept P e.clause
    entries_from log front [] is sorted sound each e h = elim h.1 [ ]
    entries_from log front (d ∷ rest) is sorted sound each e h =
        elim ((Has-append (d ∷ []) rest e).0 h) as (λ _. IsKept P e.clause) [
          | inl k ↦ subst (λ x. IsKept P x.clause) (sym (Has-one k)) new
          | inr k ↦ entries_from log (front ++ d ∷ []) rest (is ∙ sym (append_assoc front (d ∷ []) rest)) sorted sound both e k
        ]
      where
        split : AreSorted (front ++ d ∷ rest)
        split = subst AreSorted is sorted

        listed : Has log d
        listed = subst (λ es. Has es d) (sym is) (Has-append_right front (d ∷ rest) d (rest, here))

        behind : below d.key log ≡ front
        behind = ap (below d.key) is ∙ below_entry front d rest (sorted_front front d rest split) (sorted_rest front d rest split)

        new : IsKept P d.clause
        new = offered_kept front d each (subst (λ es. IsOffered given es d) behind (sound d listed).offered)

        both : (x : Entry) → Has (front ++ d ∷ []) x → IsKept P x.clause
        both x k = elim ((Has-append front (d ∷ []) x).0 k) as (λ _. IsKept P x.clause) [
          | inl l ↦ each x l
          | inr l ↦ subst (λ y. IsKept P y.clause) (sym (Has-one l)) new
        ]

    -- the live clauses of a closed log
    pub live_kept : (budget : ℕ) (log : List Entry) (cs : List (Clause Term)) → IsLog given budget log Closed → AreLive log cs → (c : Clause Term) → Has cs c → IsKept P c
    live_kept budget log cs is live c h =
        let found = live_number log cs live c h in
        let l = found.1 in
        subst (IsKept P) l.clause (entries_from log [] log refl is.up_to.sorted is.up_to.sound (λ d k. elim k.1 [ ]) l.entry (has_numbered log found.0 l.entry l.at))
