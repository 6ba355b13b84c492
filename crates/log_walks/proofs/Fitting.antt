-- The clauses of a log are normal, within the limit of size and with variables of low numbers, and stay so as the bank grows.
use Rattle.std.proofs.Common.{◌≡◌, ℕ, suc, ◌<◌, ◌≤◌, ◌^◌, Bool, true, false, cond, List, [], ◌∷◌, length, map, sym, subst, inl, inr, arith}
use Rattle.std.proofs.lemmas.List.{length-map}
use Rattle.spec_terms.specs.Term.{Term}
use Rattle.spec_clauses.specs.Fact.{Clause, clause_size}
use Rattle.spec_clauses.specs.Norm.{IsNormal}
use Rattle.spec_clauses.specs.Limits.{IsWithinLimit}
use Rattle.spec_clauses.specs.Inclusion.{here, there, Has}
use Rattle.spec_clauses.proofs.Made.{made_small}
use Rattle.spec_saturation.specs.Key.{Key, below}
use Rattle.spec_saturation.specs.Key as offered
use Rattle.spec_saturation.specs.Log.{IsOffered, goal_key}
use Rattle.spec_saturation.proofs.Pairs.{has_numbered, offers_normal}
use Rattle.term_tree.specs.Bank.{Grows}
use Rattle.clause_form.specs.Seen.{clause_at, IdClause}
use Rattle.log_entries.specs.declared.log.Entry.{Entry}
use Rattle.log_entries.specs.declared.walk.Walk.{Walk}
use Rattle.clause_form.specs.Fit.{IsFit, AreFit}
use Rattle.log_entries.specs.Logs.{TellEntries, TellLog}
use Rattle.log_entries.specs.Beating.{clauses_of}
use Rattle.log_entries.specs.Live.{AreListed}
use Rattle.log_walks.specs.Walked.{Task, IsTask, IsWalked, behind_goal, turn_end}
use Rattle.log_entries.proofs.Listing.{listed_grows, listed_back}
use Rattle.log_entries.proofs.Telling.{TellLog-grows, TellLog-back, log_length}

-- what is offered is within the limit
offers_small : (task : Task) → IsTask task → (log : List offered.Entry) (e : offered.Entry) → IsOffered task.given log e → IsWithinLimit e.clause
offers_small task is_task log e (inl x) = is_task.small e.clause (has_numbered task.given x.number e.clause x.clause)
offers_small task is_task log e (inr (inl x)) = made_small x.gives.gives.0 x.resolvents e.clause x.gives.gives.2 (has_numbered x.resolvents e.key.number e.clause x.clause)
offers_small task is_task log e (inr (inr x)) = is_task.small e.clause (has_numbered task.given (length task.given) e.clause x.clause)

tell_fit : (all : List Term) (log : List offered.Entry) (n : ℕ) (entries : List Entry) (es : List offered.Entry) → TellEntries all log n entries es → ((e : offered.Entry) → Has es e → IsNormal e.clause) → ((e : offered.Entry) → Has es e → IsWithinLimit e.clause) → AreFit all (clauses_of entries)
tell_fit all log n [] es t normal small = tt
tell_fit all log n (x ∷ xs) [] t normal small = absurd t
tell_fit all log n (x ∷ xs) (e ∷ es) t normal small = (
  record { known = t.0.clause.known; normal = subst IsNormal (sym t.0.clause.is) (normal e (es, here)); small = subst IsWithinLimit (sym t.0.clause.is) (small e (es, here)); low = t.0.low },
  tell_fit all log (suc n) xs es t.2 (λ d h. normal d (e ∷ h.0, there h.1)) (λ d h. small d (e ∷ h.0, there h.1)),
)

-- the entries that are walked along are fit
pub walked_fit : (all : List Term) (task : Task) (walk : Walk) (at : Key) → IsWalked all task walk at → AreFit all (clauses_of walk.items.items)
walked_fit all task walk at (log, w) =
    tell_fit all log 1 walk.items.items log w.tell
    (λ e h. offers_normal task.given w.is_task.normal (below e.key log) e (w.up_to.sound e h).offered)
    (λ e h. offers_small task w.is_task (below e.key log) e (w.up_to.sound e h).offered)

pub walked_listed : (all : List Term) (task : Task) (walk : Walk) (at : Key) → IsWalked all task walk at → AreListed all walk.items.items walk.live
walked_listed all task walk at (log, w) = w.listed

-- there are no more than the budget allows, and as many as the turn's number
pub walked_within : (all : List Term) (task : Task) (walk : Walk) (at : Key) → IsWalked all task walk at → length walk.items.items ≤ walk.budget
walked_within all task walk at (log, w) =
    let count = log_length all walk.items.items log w.tell in
    let within = w.within in
    let budget = w.budget in
    omega (arith, count, within, budget)

pub walked_reached : (all : List Term) (task : Task) (walk : Walk) (at : Key) → IsWalked all task walk at → at.major ≤ length walk.items.items
walked_reached all task walk at (log, w) =
    let count = log_length all walk.items.items log w.tell in
    let reached = w.reached in
    omega (arith, count, reached)

pub walked_grows : (a b : List Term) (task : Task) (walk : Walk) (at : Key) → Grows a b → IsWalked a task walk at → IsWalked b task walk at
walked_grows a b task walk at grows (log, w) = (
  log,
  record {
    is_task = w.is_task;
    budget = w.budget;
    tell = TellLog-grows a b walk.items.items log grows w.tell;
    listed = listed_grows a b walk.items.items walk.live grows (walked_fit a task walk at (log, w)) w.listed;
    up_to = w.up_to;
    within = w.within;
    reached = w.reached;
    asked = w.asked;
  },
)

-- a walk over the entries of an earlier bank has come as far in it
pub walked_back : (a b : List Term) (task : Task) (old new : Walk) (from at : Key) → Grows a b → new.items.items ≡ old.items.items → IsWalked a task old from → IsWalked b task new at → IsWalked a task new at
walked_back a b task old new from at grows same (log, was) (after, w) = (
  after,
  record {
    is_task = w.is_task;
    budget = w.budget;
    tell = TellLog-back a b new.items.items log after grows (subst (λ (es : List Entry). TellLog a es log) (sym same) was.tell) w.tell;
    listed = listed_back a b new.items.items new.live grows (subst (λ (es : List Entry). AreFit a (clauses_of es)) (sym same) (walked_fit a task old from (log, was))) w.listed;
    up_to = w.up_to;
    within = w.within;
    reached = w.reached;
    asked = w.asked;
  },
)

-- fit clauses are normal and within the limit
pub fit_normal : (all : List Term) (cs : List IdClause) → AreFit all cs → (c : Clause Term) → Has (map (clause_at all) cs) c → IsNormal c
fit_normal all [] fit c h = elim h.1 [ ]
fit_normal all (d ∷ cs) fit c (rest, here) = fit.0.normal
fit_normal all (d ∷ cs) fit c (rest, there p) = fit_normal all cs fit.1 c (_, p)

pub fit_small : (all : List Term) (cs : List IdClause) → AreFit all cs → (c : Clause Term) → Has (map (clause_at all) cs) c → IsWithinLimit c
fit_small all [] fit c h = elim h.1 [ ]
fit_small all (d ∷ cs) fit c (rest, here) = fit.0.small
fit_small all (d ∷ cs) fit c (rest, there p) = fit_small all cs fit.1 c (_, p)

-- given clauses that are fit make a task
pub fit_task : (all : List Term) (cs : List IdClause) (budget : ℕ) → 0 < length cs → AreFit all cs → IsTask (record { given = map (clause_at all) cs; budget = budget; asked = false })
fit_task all cs budget some fit = record { some = omega (arith, some, length-map cs (clause_at all)); normal = fit_normal all cs fit; small = fit_small all cs fit }

pub fit_size : (all : List Term) (c : IdClause) → IsFit all c → clause_size (clause_at all c) < 2 ^ 63
fit_size all c fit = let small = fit.small in omega (arith, small)

pub turn_within : (all : List Term) (task : Task) (walk : Walk) (at : Key) → IsWalked all task walk at → length walk.items.items ≤ task.budget
turn_within all task walk at (log, w) =
    let count = log_length all walk.items.items log w.tell in let within = w.within in omega (arith, count, within)

-- a turn that the walk has come to is no more than there are entries
pub turn_reached : (all : List Term) (task : Task) (walk : Walk) (turn : ℕ) → IsWalked all task walk (turn_end task turn) → turn ≤ length walk.items.items
turn_reached all task walk turn w = go task.asked w
  where
    go : (b : Bool) → IsWalked all task walk (cond b (behind_goal task.given turn) (goal_key task.given turn)) → turn ≤ length walk.items.items
    go true w = walked_reached all task walk (behind_goal task.given turn) w
    go false w = walked_reached all task walk (goal_key task.given turn) w
