-- The clauses that stand before each goal, as the bank grows and with a goal behind them.
use Rattle.std.proofs.Common.{◌≡◌, ◌∙◌, ℕ, suc, ◌-◌, Some, Result, List, [], ◌∷◌, ◌++◌, length, map, take, get_or, ap, sym, subst, arith}
use Rattle.std.specs.Prelude.{OnOk}
use Rattle.std.proofs.lemmas.List.{length-map, take_all}
use Rattle.std.proofs.lemmas.Result.{IfOk-weaker}
use Rattle.spec_calculus.specs.Syntax.{Query, Protocol, SecretNew}
use Rattle.spec_calculus.specs.Points.{numbered}
use Rattle.spec_well_formed.specs.Limits.{IsSmallQuery, IsWithinLimits}
use Rattle.spec_terms.specs.Term.{Term}
use Rattle.spec_clauses.specs.Fact.{Clause}
use Rattle.spec_clauses.specs.Norm.{IsNormal}
use Rattle.spec_clauses.specs.Limits.{IsWithinLimit}
use Rattle.spec_clauses.specs.Inclusion.{Has}
use Rattle.spec_clauses.proofs.Inclusion.{Has-append_left}
use Rattle.spec_saturation.specs.Key as offered
use Rattle.spec_saturation.specs.Common.{with_goal}
use Rattle.spec_saturation.proofs.Common.{with_goal_length}
use Rattle.spec_translation.specs.Translation.{Clauses, IsTranslation, goal_clauses}
use Rattle.term_tree.specs.Bank.{Grows}
use Rattle.clause_form.specs.Seen.{clause_at, AreClausesIn, NameClauses, IdClause}
use Rattle.clause_form.specs.Fit.{AreFit}
use Rattle.log_entries.specs.declared.log.Entry.{Entry}
use Rattle.log_entries.specs.declared.log.Saturated.{Saturated}
use Rattle.clause_saturate.specs.declared.common.Common.{Common}
use Rattle.log_entries.specs.Logs.{IsLogOf, TellLog}
use Rattle.log_entries.specs.Beating.{clauses_of}
use Rattle.clause_saturate.specs.Common.{Shared, begun_log, begun_size, log_of, IsCommonOf, IsFreshCommon}
use Rattle.log_entries.proofs.Placing.{number_given, numbered_goal}
use Rattle.clause_form.proofs.Copying.{NameClauses-grow}
use Rattle.clause_form.proofs.Fit.{named_fit}
use Rattle.clause_form.proofs.Low.{AreLowWithinLimit-grow}
use Rattle.clause_translate.specs.Whole.{IsCommonTo}
use Rattle.cert_writer.specs.declared.known.KnownRows.{KnownRows}
use Rattle.cert_writer.specs.Known.{IsKnown}
use Rattle.query_verify.specs.Settled.{AreCommonTo, AreGoalBehind, shared_of}
use Rattle.query_verify.proofs.Fitting.{same_later}

-- the clauses keep their trees as the bank grows
pub common_later : (P : Protocol) (old new : List Term) (given : List IdClause) → Grows old new → IsCommonTo P old given → IsCommonTo P new given
common_later P old new given grows h = record {
  list = h.list;
  names = NameClauses-grow old new given h.list grows h.names;
  low = AreLowWithinLimit-grow old new given grows h.names.known h.low;
  translates = h.translates;
}

-- the clauses that they name are what each translation begins with
pub named_common : (P : Protocol) (all : List Term) (given : List IdClause) → IsCommonTo P all given → AreCommonTo P (map (clause_at all) given)
named_common P all given h = subst (AreCommonTo P) (sym h.names.are) h.translates

-- and fit for resolution
pub common_fit : (P : Protocol) (all : List Term) (given : List IdClause) → IsWithinLimits P → IsCommonTo P all given → ((q : Query) (cs : List (Clause Term)) (c : Clause Term) → IsTranslation P q (Clauses cs) → Has cs c → IsNormal c)
    → ((q : Query) (cs : List (Clause Term)) (c : Clause Term) → IsWithinLimits P → IsSmallQuery q → IsTranslation P q (Clauses cs) → Has cs c → IsWithinLimit c) → AreFit all given
common_fit P all given limits h normal small = named_fit all given h.list h.names h.low
    (λ c has. normal any (h.list ++ goal_clauses P any) c (h.translates any) (Has-append_left h.list (goal_clauses P any) c has))
    (λ c has. small any (h.list ++ goal_clauses P any) c limits tt (h.translates any) (Has-append_left h.list (goal_clauses P any) c has))
  where
    any : Query
    any = SecretNew 1 0

-- there is a goal behind the clauses
pub goal_some : (all : List Term) (shared : Shared) (given : List IdClause) → AreGoalBehind all shared given → length given ≡ suc (length shared.clauses)
goal_some all shared given (goal, are) = sym (length-map given (clause_at all)) ∙ (ap length are ∙ with_goal_length shared.clauses goal)

-- and it is the last
pub goal_last : (all : List Term) (shared : Shared) (given : List IdClause) (c : IdClause) → AreGoalBehind all shared given → c ≡ get_or given (length given - 1) c → map (clause_at all) given ≡ with_goal shared.clauses (clause_at all c)
goal_last all shared given c (goal, are) is =
    let count = goal_some all shared given (goal, are) in
    let at : numbered (map (clause_at all) given) (length given) ≡ Some (clause_at all c) = number_given all given (length given) c is (omega (arith, count)) (omega arith) in
    let there : numbered (map (clause_at all) given) (length given) ≡ Some goal = ap (λ cs. numbered cs (length given)) are ∙ numbered_goal shared.clauses goal (length given) count in
    let one : Some goal ≡ Some (clause_at all c) = sym there ∙ at in
    let same : goal ≡ clause_at all c = cc in
    are ∙ ap (with_goal shared.clauses) same

-- the log that goes on with the goal is that of all these clauses
pub finished_log : (all now : List Term) (shared : Shared) (given : List IdClause) (c : IdClause) (budget : ℕ) (s : Saturated) → AreGoalBehind all shared given → c ≡ get_or given (length given - 1) c → shared.budget ≡ budget → AreClausesIn all given → Grows all now
    → IsLogOf now (with_goal shared.clauses (clause_at all c)) shared.budget s → IsLogOf now (map (clause_at now) given) budget s
finished_log all now shared given c budget s behind is budget_is known grows h =
    subst (λ b. IsLogOf now (map (clause_at now) given) b s) budget_is
    (subst (λ (cs : List (Clause Term)). IsLogOf now cs shared.budget s) (sym (same_later all now given grows known ∙ goal_last all shared given c behind is)) h)

-- the clauses with a query's goal behind them
pub goal_behind : (P : Protocol) (old new : List Term) (given all : List IdClause) (budget : ℕ) (q : Query) → ((q : Query) → (goal : Clause Term) × (goal_clauses P q ≡ goal ∷ [])) → NameClauses new all (map (clause_at old) given ++ goal_clauses P q) → AreGoalBehind new (shared_of old given budget) all
goal_behind P old new given all budget q one names =
    let goal = one q in (goal.0, names.are ∙ ap (λ cs. map (clause_at old) given ++ cs) goal.1)

-- what is rewound is fresh
pub rewound : (old new : List Term) (shared : Shared) (common : Common) → new ≡ old → IsCommonOf new shared common → log_of common ≡ begun_log common → begun_size common ≡ length old → IsFreshCommon new shared common
rewound old new shared common same held fresh size = record { held = held; fresh = fresh; size = size ∙ ap length (sym same) }

-- the clauses of a fresh one's log are known
pub fresh_known : (all : List Term) (shared : Shared) (common : Common) → ((trees : List Term) (entries : List Entry) (log : List offered.Entry) → TellLog trees entries log → AreClausesIn trees (clauses_of entries)) → IsFreshCommon all shared common
    → AreClausesIn all (clauses_of (log_of common))
fresh_known all shared common known begun =
    let whole : take (begun_size common) all ≡ all = take_all (begun_size common) all (omega (arith, begun.size)) in
    subst (λ (entries : List Entry). AreClausesIn all (clauses_of entries)) (sym begun.fresh)
    (known all (begun_log common) begun.held.log (subst (λ (trees : List Term). TellLog trees (begun_log common) begun.held.log) whole begun.held.tell))

-- what is kept of clauses that are known in a bank is right there, if it is as that has grown
pub kept_back : {X E : Type 0} (old new : List Term) (was is : KnownRows) (result : Result X E) → ((known : KnownRows) → Grows old new → AreClausesIn old known.live → AreClausesIn old known.given → IsKnown new known → IsKnown old known) → Grows old new → IsKnown old was → is.live ≡ was.live → is.given ≡ was.given
    → OnOk result (IsKnown new is) → OnOk result (IsKnown old is)
kept_back old new was is result back grows kept same also there =
    IfOk-weaker result (λ _. IsKnown new is) (λ _. IsKnown old is) (λ _ h. back is grows (subst (λ (cs : List IdClause). AreClausesIn old cs) (sym same) kept.names) (subst (λ (cs : List IdClause). AreClausesIn old cs) (sym also) kept.given) h) there
