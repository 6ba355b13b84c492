-- What holds of the given clauses, and is kept by resolution, holds of all entries of a log; and so the live clauses are in a certificate's
-- shape.
use Rattle.std.proofs.Common.{◌≡◌, ◌∙◌, ℕ, Bool, true, false, cond, Option, Some, None, List, [], ◌∷◌, ◌++◌, map, length, refl, ap, sym, subst, inl, inr, append_assoc}
use Rattle.std.proofs.lemmas.List.{length-map}
use Rattle.spec_calculus.specs.Syntax.{Variable, Query, Secret, SecretNew, Correspondence, Protocol}
use Rattle.spec_well_formed.specs.Limits.{IsSmallQuery, IsWithinLimits}
use Rattle.spec_trees.specs.Tree.{bind}
use Rattle.spec_terms.specs.Term.{Term, Subst}
use Rattle.spec_terms.specs.Unifier.{moved}
use Rattle.spec_clauses.specs.Fact.{Fact, Att, Mess, Tab, Ev, Mev, Bad, Clause, outline, fact_under}
use Rattle.spec_clauses.specs.Selection.{Selection}
use Rattle.spec_clauses.specs.Norm.{norms}
use Rattle.spec_clauses.specs.Limits.{is_large_raw}
use Rattle.spec_clauses.specs.Resolvents.{Large, Resolvents, IsRawResolvent, answer_of, Resolves}
use Rattle.spec_clauses.specs.Inclusion.{here, Has}
use Rattle.spec_clauses.proofs.Inclusion.{Has-append, Has-append_right, Has-filter_source, Has-one}
use Rattle.spec_clauses.proofs.Limits.{norms-within_limit}
use Rattle.spec_clauses.proofs.NormAnswers.{norms-normal}
use Rattle.spec_translation.specs.Goal.{goal_raw, query_leaf, event_variables}
use Rattle.spec_translation.specs.Satisfied.{is_bad}
use Rattle.spec_translation.specs.Translation.{Clauses, goal_clauses, IsTranslation}
use Rattle.spec_translation.proofs.Placement.{norms-outline}
use Rattle.spec_translation.proofs.Goal.{all_at, clauses_normal, last_goal}
use Rattle.spec_translation.proofs.Sizes.{clauses_within}
use Rattle.spec_certificates.specs.Certificate.{bad_arguments, HasArguments, IsInShape}
use Rattle.spec_saturation.specs.Key.{Key, key, is_before, Entry, below}
use Rattle.spec_saturation.specs.Log.{IsLive, IsOffered, IsNew}
use Rattle.spec_saturation.specs.Live.{AreLive}
use Rattle.spec_saturation.specs.End.{AreSorted, IsLog, Closed}
use Rattle.spec_saturation.proofs.Cuts.{below_entry, sorted_front, sorted_rest}
use Rattle.spec_saturation.proofs.Pairs.{has_numbered, live_number}

module _ (Q : Clause Term → Type 0) (given : List (Clause Term)) (first : (c : Clause Term) → Has given c → Q c) (kept : (i j : Clause Term) (at : Selection) (cs : List (Clause Term)) (c : Clause Term) → Resolves i j at (Resolvents cs) → Has cs c → Q j → Q c) where
  -- a live entry of a front is one of it
  live_entry : (k : Key) (front : List Entry) (n : ℕ) (c : Clause Term) → ((e : Entry) → Has front e → Q e.clause) → IsLive (below k front) n c → Q c
  live_entry k front n c each live =
      let there = (Has-filter_source (λ x. is_before x.key k) front live.entry (has_numbered (below k front) n live.entry live.at)).0 in
      subst Q live.clause (each live.entry there)

  -- what is offered over entries
  offered : (front : List Entry) (e : Entry) → ((d : Entry) → Has front d → Q d.clause) → IsOffered given front e → Q e.clause
  offered front e each (inl x) = first e.clause (has_numbered given x.number e.clause x.clause)
  offered front e each (inr (inl x)) =
      let k = key e.key.major e.key.minor 1 in
      let g = x.gives in
      let unsolved : Q g.unsolved = elim g.is_due.live as (λ _. Q g.unsolved) [
        | inl both ↦ live_entry k front e.key.major g.unsolved each both.1
        | inr both ↦ live_entry k front e.key.minor g.unsolved each both.1
      ] in
      kept g.solved g.unsolved g.at x.resolvents e.clause g.gives (has_numbered x.resolvents e.key.number e.clause x.clause) unsolved
  offered front e each (inr (inr x)) = first e.clause (has_numbered given (length given) e.clause x.clause)

  entries_from : (log front rest : List Entry) → log ≡ front ++ rest → AreSorted log → ((e : Entry) → Has log e → IsNew given log e) → ((e : Entry) → Has front e → Q e.clause) → (e : Entry) → Has rest e → Q e.clause
  entries_from log front [] is sorted sound each e h = elim h.1 [ ]
  entries_from log front (d ∷ rest) is sorted sound each e h =
      elim ((Has-append (d ∷ []) rest e).0 h) as (λ _. Q e.clause) [
        | inl k ↦ subst (λ x. Q x.clause) (sym (Has-one k)) new
        | inr k ↦ entries_from log (front ++ d ∷ []) rest (is ∙ sym (append_assoc front (d ∷ []) rest)) sorted sound both e k
      ]
    where
      split : AreSorted (front ++ d ∷ rest)
      split = subst AreSorted is sorted

      listed : Has log d
      listed = subst (λ es. Has es d) (sym is) (Has-append_right front (d ∷ rest) d (rest, here))

      behind : below d.key log ≡ front
      behind = ap (below d.key) is ∙ below_entry front d rest (sorted_front front d rest split) (sorted_rest front d rest split)

      new : Q d.clause
      new = offered front d each (subst (λ es. IsOffered given es d) behind (sound d listed).offered)

      both : (x : Entry) → Has (front ++ d ∷ []) x → Q x.clause
      both x k = elim ((Has-append front (d ∷ []) x).0 k) as (λ _. Q x.clause) [
        | inl l ↦ each x l
        | inr l ↦ subst (λ y. Q y.clause) (sym (Has-one l)) new
      ]

  -- what the entries of a log are
  pub entries_each : (budget : ℕ) (log : List Entry) → IsLog given budget log Closed → (e : Entry) → Has log e → Q e.clause
  entries_each budget log is e h = entries_from log [] log refl is.up_to.sorted is.up_to.sound (λ d k. elim k.1 [ ]) e h

  -- what the live clauses of a closed log are
  pub live_each : (budget : ℕ) (log : List Entry) (cs : List (Clause Term)) → IsLog given budget log Closed → AreLive log cs → (c : Clause Term) → Has cs c → Q c
  live_each budget log cs is live c h =
      let found = live_number log cs live c h in
      let l = found.1 in
      subst Q l.clause (entries_each budget log is l.entry (has_numbered log found.0 l.entry l.at))

-- how many arguments `bad` has
arguments_alike : (n : ℕ) (f g : Fact Term) → outline f ≡ outline g → HasArguments n g → HasArguments n f
arguments_alike n (Att p t) g e h = tt
arguments_alike n (Mess p t u) g e h = tt
arguments_alike n (Tab k ts) g e h = tt
arguments_alike n (Ev k ts) g e h = tt
arguments_alike n (Mev k ts) g e h = tt
arguments_alike n (Bad ts) (Att p t) e h = cc
arguments_alike n (Bad ts) (Mess p t u) e h = cc
arguments_alike n (Bad ts) (Tab k us) e h = cc
arguments_alike n (Bad ts) (Ev k us) e h = cc
arguments_alike n (Bad ts) (Mev k us) e h = cc
arguments_alike n (Bad ts) (Bad us) e h =
    let same : map (λ t. tt {0}) ts ≡ map (λ t. tt {0}) us = let k = e in cc in
    sym (length-map ts (λ t. tt {0})) ∙ (ap length same ∙ (length-map us (λ t. tt {0}) ∙ h))

arguments_under : (n : ℕ) (s : Subst) (f : Fact Term) → HasArguments n f → HasArguments n (fact_under s f)
arguments_under n s (Att p t) h = tt
arguments_under n s (Mess p t u) h = tt
arguments_under n s (Tab k ts) h = tt
arguments_under n s (Ev k ts) h = tt
arguments_under n s (Mev k ts) h = tt
arguments_under n s (Bad ts) h = length-map ts (bind s) ∙ h

not_bad_arguments : (n : ℕ) (f : Fact Term) → is_bad f ≡ false → HasArguments n f
not_bad_arguments n (Att p t) e = tt
not_bad_arguments n (Mess p t u) e = tt
not_bad_arguments n (Tab k ts) e = tt
not_bad_arguments n (Ev k ts) e = tt
not_bad_arguments n (Mev k ts) e = tt
not_bad_arguments n (Bad ts) e = cc

raw_arguments : (P : Protocol) (q : Query) → HasArguments (bad_arguments q) (goal_raw P q).conclusion
raw_arguments P (Secret message phase) = refl
raw_arguments P (SecretNew point phase) = refl
raw_arguments P (Correspondence left alternatives) = length-map (event_variables left) (λ i. query_leaf (Variable i))

-- resolvents are norms of a raw clause that isn't large
record AreNorms (raw : Clause Term) (cs : List (Clause Term)) : Type 0 where
  small : is_large_raw raw ≡ false
  are : cs ≡ norms raw

are_norms : (raw : Clause Term) (cs : List (Clause Term)) → Resolvents cs ≡ answer_of (Some raw) → AreNorms raw cs
are_norms raw cs e = go (is_large_raw raw) refl e
  where
    go : (b : Bool) → is_large_raw raw ≡ b → Resolvents cs ≡ cond b Large (Resolvents (norms raw)) → AreNorms raw cs
    go true p e = cc
    go false p e = record { small = p; are = cc }

module _ (P : Protocol) (q : Query) (given : List (Clause Term)) (translated : IsTranslation P q (Clauses given)) where
  given_arguments : (c : Clause Term) → Has given c → HasArguments (bad_arguments q) c.conclusion
  given_arguments c h =
      let (before, goal, parts, one, bad, others) = last_goal P q given translated in
      elim ((Has-append before (goal ∷ []) c).0 (subst (λ cs. Has cs c) parts h)) as (λ _. HasArguments (bad_arguments q) c.conclusion) [
        | inl k ↦ not_bad_arguments (bad_arguments q) c.conclusion (all_at (λ d. is_bad d.conclusion ≡ false) k.1 others)
        | inr k ↦ (
            let listed : Has (goal_clauses P q) c = subst (λ cs. Has cs c) (sym one) k in
            arguments_alike (bad_arguments q) c.conclusion (goal_raw P q).conclusion (norms-outline (goal_raw P q) c listed) (raw_arguments P q))
      ]

  -- a given clause is in shape where the protocol and the query are within the limits
  pub given_shape : IsWithinLimits P → IsSmallQuery q → (c : Clause Term) → Has given c → IsInShape q c
  given_shape limits small c h = record {
    small = clauses_within P q given c limits small translated h;
    normal = clauses_normal P q given translated c h;
    arguments = given_arguments c h;
  }

  kept_shape : (i j : Clause Term) (at : Selection) (cs : List (Clause Term)) (c : Clause Term) → Resolves i j at (Resolvents cs) → Has cs c → IsInShape q j → IsInShape q c
  kept_shape i j at cs c h listed shape = go h.0 h.1 h.2
    where
      go : (raw : Option (Clause Term)) → IsRawResolvent i j at raw → Resolvents cs ≡ answer_of raw → IsInShape q c
      go None is e = cc
      go (Some raw) is e =
          let n = are_norms raw cs e in
          let there : Has (norms raw) c = subst (λ ds. Has ds c) n.are listed in
          let (s, most, made) = is.unified in
          let conclusion : raw.conclusion ≡ fact_under s (fact_under (moved is.offset) j.conclusion) = ap (λ d. d.conclusion) made in
          let raws = subst (HasArguments (bad_arguments q)) (sym conclusion) (arguments_under (bad_arguments q) s (fact_under (moved is.offset) j.conclusion) (arguments_under (bad_arguments q) (moved is.offset) j.conclusion shape.arguments)) in
          record {
            small = norms-within_limit raw c n.small there;
            normal = norms-normal raw c there;
            arguments = arguments_alike (bad_arguments q) c.conclusion raw.conclusion (norms-outline raw c there) raws;
          }

  -- The live clauses of a closed log are in shape.
  pub live_shape : IsWithinLimits P → IsSmallQuery q → (budget : ℕ) (log : List Entry) (cs : List (Clause Term)) → IsLog given budget log Closed → AreLive log cs → (c : Clause Term) → Has cs c → IsInShape q c
  live_shape limits small budget log cs is live = live_each (IsInShape q) given (given_shape limits small) kept_shape budget log cs is live

  -- And so are all its entries.
  pub entries_shape : IsWithinLimits P → IsSmallQuery q → (budget : ℕ) (log : List Entry) → IsLog given budget log Closed → (e : Entry) → Has log e → IsInShape q e.clause
  entries_shape limits small budget log is = entries_each (IsInShape q) given (given_shape limits small) kept_shape budget log is
