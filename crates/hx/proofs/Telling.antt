-- What a log that is read out tells, by how it ends.
use Rattle.std.proofs.Common.{◌≡◌, ◌∙◌, ℕ, min, max, Option, None, Some, List, length, map, ap, sym, subst, refl}
use Rattle.std.proofs.lemmas.List.{length-map}
use Rattle.spec_calculus.specs.Syntax.{Protocol}
use Rattle.spec_terms.specs.Term.{Term}
use Rattle.spec_clauses.specs.Fact.{Clause}
use Rattle.spec_translation.specs.Translation.{LargeAt, IsTranslation}
use Rattle.spec_saturation.specs.End as ending
use Rattle.clause_form.specs.Seen.{clause_at, NameClauses, IdClause}
use Rattle.log_entries.specs.declared.log.Entry.{Entry}
use Rattle.log_entries.specs.declared.log.PlainEntry.{PlainEntry}
use Rattle.log_entries.specs.Logs.{IsClosedLog, IsSpentLog, IsLargeLog}
use Rattle.log_entries.specs.Plain.{plain_entry}
use Rattle.clause_translate.specs.Whole.{TranslatesTo, EndsAt}
use Rattle.query_derive.specs.GoalRows.{OfQuery}
use Rattle.query_verify.proofs.Answering.{named_translation}
use Rattle.query_verify.proofs.Telling.{plain_tells, due_tells}
use Rattle.clause_instances.specs.Derivations.{HasNormedLog}
use Rattle.log_text.specs.declared.told.LogEnd.{LogEnd}
use Rattle.log_text.specs.declared.told.LogEnd.TheVariants as ends
use Rattle.log_text.specs.declared.told.QueryLog.{QueryLog}
use Rattle.hx.specs.declared.logging.Asked.{Asked}
use Rattle.hx.specs.Logged.{protocol_at, CanBeAsked, TellsLog, FindsUnmet, IsDecided, IsToldFor, CanExplainEntry}

-- as many clauses are named as there are
pub as_many : (all : List Term) (cs : List IdClause) (trees : List (Clause Term)) → NameClauses all cs trees → length cs ≡ length trees
as_many all cs trees names = sym (length-map cs (clause_at all)) ∙ ap length names.are

module _ (asked : Asked) (all : List Term) (given : List IdClause) (can : CanBeAsked asked) (t : TranslatesTo (protocol_at asked) asked.query all given) where
  -- a log that is told of the clauses is one of the translation
  given_told : (log : QueryLog) → TellsLog (map (clause_at all) given) asked.budget log.entries log.end
      → OfQuery (protocol_at asked) asked.query (λ q. IsDecided (protocol_at asked) q asked.budget log.entries log.end log.unmet)
      → log.attackers ≡ asked.attackers → log.given ≡ length given → IsToldFor asked log
  given_told log told decided attackers count = λ q is. record {
    clauses = map (clause_at all) given;
    translates = named_translation (protocol_at asked) asked.query all given t q is;
    tells = told;
    attackers = attackers ∙ can.attackers;
    given = count ∙ sym (length-map given (clause_at all));
    decided = decided q is;
  }

  -- the verdict over the entries that are read out
  decided_of : (entries : List Entry) (found : Option ℕ) (plain : List PlainEntry) → OfQuery (protocol_at asked) asked.query (λ q. FindsUnmet (protocol_at asked) q asked.budget all entries found) → plain ≡ map (plain_entry all) entries
      → OfQuery (protocol_at asked) asked.query (λ q. IsDecided (protocol_at asked) q asked.budget plain ends.Closed found)
  decided_of entries None plain by read = by
  decided_of entries (Some number) plain by read = λ q is. let v = by q is in (v.0, plain_tells all entries v.0 plain v.1 read, v.2)

  -- a closed one
  pub closed_told : (entries : List Entry) (found : Option ℕ) (log : QueryLog) → IsClosedLog all (map (clause_at all) given) asked.budget entries
      → OfQuery (protocol_at asked) asked.query (λ q. FindsUnmet (protocol_at asked) q asked.budget all entries found) → log.entries ≡ map (plain_entry all) entries
      → log.end ≡ ends.Closed → log.unmet ≡ found → log.attackers ≡ asked.attackers → log.given ≡ length given → IsToldFor asked log
  closed_told entries found log closed by read end is_found attackers count =
      given_told log
      (subst (λ (e : LogEnd). TellsLog (map (clause_at all) given) asked.budget log.entries e) (sym end) record {
        log = closed.log;
        ended = ending.Closed;
        is_log = closed.is_log;
        tell = plain_tells all entries closed.log log.entries closed.tell read;
        tell_end = refl;
      })
      (λ q is. subst (λ (e : LogEnd). IsDecided (protocol_at asked) q asked.budget log.entries e log.unmet) (sym end)
      (subst (λ (u : Option ℕ). IsDecided (protocol_at asked) q asked.budget log.entries ends.Closed u) (sym is_found) (decided_of entries found log.entries by read q is))) attackers count

  -- one with the budget spent
  pub spent_told : (entries : List Entry) (entry : Entry) (due : PlainEntry) (log : QueryLog) → IsSpentLog all (map (clause_at all) given) asked.budget entries entry → log.entries ≡ map (plain_entry all) entries
      → due ≡ plain_entry all entry → log.end ≡ ends.Spent due → log.unmet ≡ None → log.attackers ≡ asked.attackers → log.given ≡ length given → IsToldFor asked log
  spent_told entries entry due log spent read due_read end none attackers count =
      given_told log
      (subst (λ (e : LogEnd). TellsLog (map (clause_at all) given) asked.budget log.entries e) (sym end) record {
        log = spent.log;
        ended = ending.Spent spent.due;
        is_log = spent.is_log;
        tell = plain_tells all entries spent.log log.entries spent.tell read;
        tell_end = (spent.due, due_tells all spent.log entry spent.due due spent.tells_due spent.unbeaten due_read, refl);
      })
      (λ q is. subst (λ (e : LogEnd). IsDecided (protocol_at asked) q asked.budget log.entries e log.unmet) (sym end) none) attackers count

  -- one that ends at a pair that is too large
  pub large_told : (entries : List Entry) (solved unsolved : ℕ) (log : QueryLog) → IsLargeLog all (map (clause_at all) given) asked.budget entries solved unsolved → log.entries ≡ map (plain_entry all) entries
      → log.end ≡ ends.Large solved unsolved → log.unmet ≡ None → log.attackers ≡ asked.attackers → log.given ≡ length given → IsToldFor asked log
  large_told entries solved unsolved log large read end none attackers count =
      given_told log
      (subst (λ (e : LogEnd). TellsLog (map (clause_at all) given) asked.budget log.entries e) (sym end) record {
        log = large.log;
        ended = ending.TooLarge (max solved unsolved) (min solved unsolved);
        is_log = large.is_log;
        tell = plain_tells all entries large.log log.entries large.tell read;
        tell_end = (refl, large.is_solved);
      })
      (λ q is. subst (λ (e : LogEnd). IsDecided (protocol_at asked) q asked.budget log.entries e log.unmet) (sym end) none) attackers count

-- the entries can be explained, whether there is one that isn't satisfied or none
pub can_explain : (entries : List PlainEntry) (unmet : Option ℕ) → HasNormedLog entries → CanExplainEntry entries unmet
can_explain entries None normed = tt
can_explain entries (Some number) normed = normed

-- there is none, since the translation is too large
pub point_told : (P : Protocol) (number point : ℕ) → EndsAt P number point → OfQuery P number (λ q. IsTranslation P q (LargeAt point))
point_told P number point e = λ q is.
    let one : Some e.query ≡ Some q = sym e.is ∙ is in
    let same : e.query ≡ q = cc in
    subst (λ x. IsTranslation P x (LargeAt point)) same e.translates
