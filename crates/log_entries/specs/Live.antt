-- What is kept beside entries: the numbers of the live ones, the features of all, and how they are found by the terms with
-- which their conclusions end; and what covers a clause among them.
use Rattle.std.specs.Prelude.{◌≡◌, ℕ, ◌<◌, ◌≤◌, Bool, true, false, ◌&&◌, Option, Some, None, List, [], ◌∷◌, ◌++◌, length, map, filter}
use Rattle.spec_terms.specs.Term.{Term}
use Rattle.spec_calculus.specs.Points.{numbered}
use Rattle.spec_clauses.specs.Fact.{Clause}
use Rattle.spec_clauses.specs.Selection.{is_solved}
use Rattle.spec_features.specs.Features.{features_of}
use Rattle.term_tree.specs.declared.bank.Id.{Id}
use Rattle.clause_form.specs.Seen.{clause_at, IdClause}
use Rattle.spec_fingerprints.specs.Fingerprints as print
use Rattle.spec_fingerprints.specs.Fingerprints.{may_meet, clause_print, fingerprint_of}
use Rattle.feature_index.specs.declared.lanes.Features.{Features}
use Rattle.fact_fingerprint.specs.declared.fingerprints.Fingerprint.{Fingerprint}
use Rattle.fact_fingerprint.specs.Seen.{fingerprint_seen}
use Rattle.log_entries.specs.declared.log.Entry.{Entry}
use Rattle.log_entries.specs.declared.walk.Live.{Live}
use Rattle.log_entries.specs.declared.walk.Looks.{Looks}
use Rattle.log_entries.specs.Beating.{LiveCovers, BeatsLive}
use Rattle.log_entries.specs.Ends.{last_term, closed_end_of, ends_of, AreChained}
use Rattle.log_entries.specs.Numbers.{IsAmong, IsAscending, is_live_at}
use Rattle.fact_classes.specs.declared.classes.Classes.{Classes}
use Rattle.fact_classes.specs.Classes.{class_of, IsEmptyClasses, AreSameClasses, IsClassListed}
use Rattle.log_entries.specs.Classes.{AreClassed}

-- the entry of that number is live, and solved or not as told
pub record IsLiveAt (all : List Term) (entries : List Entry) (solved : Bool) (number : ℕ) : Type 0 where
  pub entry : Entry
  pub at : numbered entries number ≡ Some entry
  pub live : entry.by ≡ None
  pub kind : is_solved (clause_at all entry.clause).hypotheses ≡ solved

-- the numbers are those of the live entries that are solved, or of those that aren't, and ascend
pub record AreNumbersOf (all : List Term) (entries : List Entry) (solved : Bool) (numbers : List ℕ) : Type 0 where
  pub ascend : IsAscending 1 numbers
  pub live : (number : ℕ) → IsAmong numbers number → IsLiveAt all entries solved number
  pub every : (number : ℕ) → IsLiveAt all entries solved number → IsAmong numbers number

-- the features of each entry's clause, and as they are kept
abbrev pub lanes_of : List Term → List Entry → List (List ℕ)
lanes_of all entries = map (λ entry. features_of (clause_at all entry.clause)) entries

abbrev pub kept_lanes : List Features → List (List ℕ)
kept_lanes features = map (λ f. f.lanes) features

-- the fingerprints of each entry's clause, and as they are kept
abbrev pub prints_of : List Term → List Entry → List print.Fingerprint
prints_of all entries = map (λ entry. clause_print (clause_at all entry.clause)) entries

abbrev pub kept_prints : List Fingerprint → List print.Fingerprint
kept_prints prints = map fingerprint_seen prints

-- the fingerprints of the conclusions of entries
abbrev pub conclusion_prints : List Term → List Entry → List print.Fingerprint
conclusion_prints all entries = map (λ entry. fingerprint_of (clause_at all entry.clause).conclusion) entries

-- they are the clause's
abbrev pub HasFeatures : List Term → IdClause → Features → Type 0
HasFeatures all clause features = features.lanes ≡ features_of (clause_at all clause)

-- it is that of the clause's conclusion
abbrev pub HasConclusion : List Term → IdClause → Fingerprint → Type 0
HasConclusion all clause seen = fingerprint_seen seen ≡ fingerprint_of (clause_at all clause).conclusion

pub record HasLooks (all : List Term) (clause : IdClause) (looks : Looks) : Type 0 where
  pub features : HasFeatures all clause looks.features
  pub conclusion : HasConclusion all clause looks.conclusion

-- they are numbers of entries, among them those of the live ones whose conclusions don't end with a closed term
pub record AreUnclosed (all : List Term) (entries : List Entry) (numbers : List ℕ) : Type 0 where
  pub within : (number : ℕ) → IsAmong numbers number → (0 < number) × (number ≤ length entries)
  pub every : (number : ℕ) (entry : Entry) → numbered entries number ≡ Some entry → entry.by ≡ None → closed_end_of all entry.clause ≡ None → IsAmong numbers number

-- they are those of the entries that end with the id
pub record AreThose (ends : List (Option Id)) (id : Id) (numbers : List ℕ) : Type 0 where
  pub those : (number : ℕ) → IsAmong numbers number → numbered ends number ≡ Some (Some id)
  pub every : (number : ℕ) → numbered ends number ≡ Some (Some id) → IsAmong numbers number

-- the lists are those of these entries, and so are the features, the fingerprints, the chains and the classes
pub record AreListed (all : List Term) (entries : List Entry) (live : Live) : Type 0 where
  pub solved : AreNumbersOf all entries true live.solved.items
  pub unsolved : AreNumbersOf all entries false live.unsolved.items
  pub features : kept_lanes live.features.items ≡ lanes_of all entries
  pub prints : kept_prints live.prints.items ≡ prints_of all entries
  pub unclosed : AreUnclosed all entries live.unclosed.items
  pub chained : AreChained (ends_of entries) live.chains.last.items live.chains.previous.items
  pub conclusions : kept_prints live.conclusions.items ≡ conclusion_prints all entries
  pub solved_classes : AreClassed entries (kept_prints live.prints.items) live.solved.items live.solved_classes
  pub unsolved_classes : AreClassed entries (kept_prints live.prints.items) live.unsolved.items live.unsolved_classes

-- nothing is kept, of no entries
pub record IsEmptyLive (live : Live) : Type 0 where
  pub solved : live.solved.items ≡ []
  pub unsolved : live.unsolved.items ≡ []
  pub features : live.features.items ≡ []
  pub prints : live.prints.items ≡ []
  pub unclosed : live.unclosed.items ≡ []
  pub last : live.chains.last.items ≡ []
  pub previous : live.chains.previous.items ≡ []
  pub conclusions : live.conclusions.items ≡ []
  pub solved_classes : IsEmptyClasses live.solved_classes
  pub unsolved_classes : IsEmptyClasses live.unsolved_classes

-- what is kept is the same
pub record IsSameLive (old new : Live) : Type 0 where
  pub solved : new.solved.items ≡ old.solved.items
  pub unsolved : new.unsolved.items ≡ old.unsolved.items
  pub features : new.features.items ≡ old.features.items
  pub prints : new.prints.items ≡ old.prints.items
  pub unclosed : new.unclosed.items ≡ old.unclosed.items
  pub last : new.chains.last.items ≡ old.chains.last.items
  pub previous : new.chains.previous.items ≡ old.chains.previous.items
  pub conclusions : new.conclusions.items ≡ old.conclusions.items
  pub solved_classes : AreSameClasses old.solved_classes new.solved_classes
  pub unsolved_classes : AreSameClasses old.unsolved_classes new.unsolved_classes

-- the numbers of entries that are live no more are gone
pub record AreAlive (entries : List Entry) (old new : Live) : Type 0 where
  pub solved : new.solved.items ≡ filter (is_live_at entries) old.solved.items
  pub unsolved : new.unsolved.items ≡ filter (is_live_at entries) old.unsolved.items
  pub features : new.features.items ≡ old.features.items
  pub prints : new.prints.items ≡ old.prints.items
  pub unclosed : new.unclosed.items ≡ filter (is_live_at entries) old.unclosed.items
  pub last : new.chains.last.items ≡ old.chains.last.items
  pub previous : new.chains.previous.items ≡ old.chains.previous.items
  pub conclusions : new.conclusions.items ≡ old.conclusions.items
  pub solved_classes : AreSameClasses old.solved_classes new.solved_classes
  pub unsolved_classes : AreSameClasses old.unsolved_classes new.unsolved_classes

-- the number stands at the end of the lists of its kind and of its class, and those of the other kind are the same
pub record IsNumberPut (number : ℕ) (class : Option ℕ) (was now other_was other_now : List ℕ) (old new other_old other_new : Classes) : Type 0 where
  pub numbers : now ≡ was ++ number ∷ []
  pub others : other_now ≡ other_was
  pub classes : IsClassListed class number old new
  pub other_classes : AreSameClasses other_old other_new

abbrev pub IsNumberListed : Bool → ℕ → Option ℕ → Live → Live → Type 0
IsNumberListed true number class old new = IsNumberPut number class old.solved.items new.solved.items old.unsolved.items new.unsolved.items old.solved_classes new.solved_classes old.unsolved_classes new.unsolved_classes
IsNumberListed false number class old new = IsNumberPut number class old.unsolved.items new.unsolved.items old.solved.items new.solved.items old.unsolved_classes new.unsolved_classes old.solved_classes new.solved_classes

-- it does, what the clause shows stands at the end of all, and what is kept of ends is the same
pub record IsListedBy (solved : Bool) (number : ℕ) (looks : Looks) (seen : print.Fingerprint) (old new : Live) : Type 0 where
  pub listed : IsNumberListed solved number (class_of seen) old new
  pub features : new.features.items ≡ old.features.items ++ looks.features ∷ []
  pub prints : kept_prints new.prints.items ≡ kept_prints old.prints.items ++ seen ∷ []
  pub conclusions : new.conclusions.items ≡ old.conclusions.items ++ looks.conclusion ∷ []
  pub unclosed : new.unclosed.items ≡ old.unclosed.items
  pub last : new.chains.last.items ≡ old.chains.last.items
  pub previous : new.chains.previous.items ≡ old.chains.previous.items

-- the number of an entry that doesn't end with a closed term stands at the end of those
abbrev pub IsUnclosedListed : Option Id → ℕ → List ℕ → List ℕ → Type 0
IsUnclosedListed None number old new = new ≡ old ++ number ∷ []
IsUnclosedListed (Some id) number old new = new ≡ old

-- so does that of the clause's entry, which the chains lead to, and all else is the same
pub record IsEndListed (all : List Term) (clause : IdClause) (number : ℕ) (old new : Live) : Type 0 where
  pub solved : new.solved.items ≡ old.solved.items
  pub unsolved : new.unsolved.items ≡ old.unsolved.items
  pub features : new.features.items ≡ old.features.items
  pub prints : new.prints.items ≡ old.prints.items
  pub conclusions : new.conclusions.items ≡ old.conclusions.items
  pub solved_classes : AreSameClasses old.solved_classes new.solved_classes
  pub unsolved_classes : AreSameClasses old.unsolved_classes new.unsolved_classes
  pub unclosed : IsUnclosedListed (closed_end_of all clause) number old.unclosed.items new.unclosed.items
  pub chained : (ends : List (Option Id)) → AreChained ends old.chains.last.items old.chains.previous.items → AreChained (ends ++ last_term clause.conclusion ∷ []) new.chains.last.items new.chains.previous.items

-- the entry of that number is live and subsumes the clause
pub record NumberCovers (all : List Term) (entries : List Entry) (c : Clause Term) (number : ℕ) : Type 0 where
  pub entry : Entry
  pub at : numbered entries number ≡ Some entry
  pub covers : LiveCovers all entry c

-- a live entry of these numbers subsumes the clause
pub record CoversAmong (all : List Term) (entries : List Entry) (numbers : List ℕ) (c : Clause Term) : Type 0 where
  pub number : ℕ
  pub among : IsAmong numbers number
  pub covers : NumberCovers all entries c number

-- whether two fingerprints may meet, and whether those of two numbers, that of the second first
abbrev pub may_both : Option print.Fingerprint → Option print.Fingerprint → Bool
may_both (Some p) (Some q) = may_meet p q
may_both _ _ = false

abbrev pub meets_at : List print.Fingerprint → ℕ → ℕ → Bool
meets_at prints later number = may_both (numbered prints number) (numbered prints later)

-- whether the entry of a number is live, and they may
abbrev pub is_met_at : List Entry → List print.Fingerprint → ℕ → ℕ → Bool
is_met_at entries prints later number = is_live_at entries number && meets_at prints later number

-- the first of the numbers from one on and before the later one that passes the test, if there is one
abbrev pub IsPartner : (ℕ → Bool) → List ℕ → ℕ → ℕ → Option ℕ → Type 0
IsPartner passes numbers later from None = (number : ℕ) → IsAmong numbers number → from ≤ number → number < later → passes number ≡ false
IsPartner passes numbers later from (Some first) = IsAmong numbers first × (from ≤ first) × (first < later)
    × ((number : ℕ) → IsAmong numbers number → from ≤ number → number < first → passes number ≡ false)

-- they are numbers of entries, among them those of the live ones that the clause subsumes
pub record AreBeatable (all : List Term) (entries : List Entry) (c : Clause Term) (numbers : List ℕ) : Type 0 where
  pub within : (number : ℕ) → IsAmong numbers number → (0 < number) × (number ≤ length entries)
  pub every : (number : ℕ) (entry : Entry) → numbered entries number ≡ Some entry → BeatsLive all c entry → IsAmong numbers number
