-- Clauses that are added to those of a listing.
use Rattle.std.proofs.Common.{◌≡◌, ◌≤◌, true, false, List, [], ◌∷◌, ◌++◌, length, refl, ap, sym, ◌∙◌, arith, length-append}
use Rattle.std.proofs.lemmas.List.{map-append}
use Rattle.spec_terms.specs.Term.{Term}
use Rattle.spec_clauses.specs.Fact.{Clause}
use Rattle.term_tree.specs.Bank.{Grows}
use Rattle.clause_form.specs.Seen.{clause_at, AreClausesIn, NameClauses, IdClause}
use Rattle.clause_form.specs.Fit.{AreLowWithinLimit}
use Rattle.clause_form.proofs.Copying.{NameClauses-grow}
use Rattle.clause_form.proofs.Low.{AreLowWithinLimit-grow, AreLowWithinLimit-append}
use Rattle.process_visits.specs.declared.listing.Listing.{Listing}
use Rattle.process_visits.specs.Forms.{Lists, Adds}
use Rattle.process_visits.proofs.Courses.{append_none, appended_twice}

known_append : (all : List Term) (cs ds : List IdClause) → AreClausesIn all cs → AreClausesIn all ds → AreClausesIn all (cs ++ ds)
known_append all [] ds known more = more
known_append all (c ∷ cs) ds known more = (known.0, known_append all cs ds known.1 more)

pub NameClauses-append : (all : List Term) (cs ds : List IdClause) (ts us : List (Clause Term)) → NameClauses all cs ts → NameClauses all ds us → NameClauses all (cs ++ ds) (ts ++ us)
NameClauses-append all cs ds ts us names more = record {
  known = known_append all cs ds names.known more.known;
  are = map-append (clause_at all) cs ds ∙ (λ i. names.are i ++ more.are i);
}

-- clauses that are kept behind those that were there
pub appended : (all : List Term) (before after : Listing) (made : List IdClause) (more : List (Clause Term)) → before.keeps ≡ true → NameClauses all made more → AreLowWithinLimit all made → after.clauses ≡ before.clauses ++ made → after.left ≡ before.left → after.keeps ≡ before.keeps
    → Adds all before after more
appended all before after made more keeps names low e left same = record {
  lists = record {
    made = made;
    clauses = e;
    names = λ kept. names;
    low = λ kept. low;
    none = λ gone. absurd (let both : true ≡ false = sym keeps ∙ gone in cc);
    keeps = same;
  };
  left = left;
}

-- clauses that aren't kept
pub counted_alone : (all : List Term) (listing : Listing) (more : List (Clause Term)) → listing.keeps ≡ false → Adds all listing listing more
counted_alone all listing more gone = record {
  lists = record {
    made = [];
    clauses = sym (append_none listing.clauses);
    names = λ keeps. absurd (let both : true ≡ false = sym keeps ∙ gone in cc);
    low = λ keeps. tt;
    none = λ e. refl;
    keeps = refl;
  };
  left = refl;
}

-- nothing is added
pub lists_none : (all : List Term) (listing : Listing) → Lists all listing listing []
lists_none all listing = record {
  made = [];
  clauses = sym (append_none listing.clauses);
  names = λ keeps. record { known = tt; are = refl };
  low = λ keeps. tt;
  none = λ gone. refl;
  keeps = refl;
}

-- more is added behind that, where the bank grew
pub lists_behind : (mid new : List Term) (before midway after : Listing) (first last : List (Clause Term)) → Grows mid new → Lists mid before midway first → Lists new midway after last → Lists new before after (first ++ last)
lists_behind mid new before midway after first last grows h k = record {
  made = h.made ++ k.made;
  clauses = k.clauses ∙ (ap (λ (cs : List IdClause). cs ++ k.made) h.clauses ∙ appended_twice before.clauses h.made k.made);
  names = λ keeps. NameClauses-append new h.made k.made first last (NameClauses-grow mid new h.made first grows (h.names keeps)) (k.names (h.keeps ∙ keeps));
  low = λ keeps. AreLowWithinLimit-append new h.made k.made (AreLowWithinLimit-grow mid new h.made grows (h.names keeps).known (h.low keeps)) (k.low (h.keeps ∙ keeps));
  none = λ gone. λ i. h.none gone i ++ k.none (h.keeps ∙ gone) i;
  keeps = k.keeps ∙ h.keeps;
}

-- where there are no more clauses than before, none was added, and those are of any bank
no_more : (old now : List Term) (made : List IdClause) (more : List (Clause Term)) → length made ≤ 0 → NameClauses now made more → NameClauses old made more
no_more old now [] more few names = record { known = tt; are = names.are }
no_more old now (c ∷ cs) more few names = absurd (omega (arith, few))

none_low : (all : List Term) (made : List IdClause) → length made ≤ 0 → AreLowWithinLimit all made
none_low all [] few = tt
none_low all (c ∷ cs) few = absurd (omega (arith, few))

pub lists_no_more : (old now : List Term) (before after : Listing) (more : List (Clause Term)) → length after.clauses ≤ length before.clauses → Lists now before after more → Lists old before after more
lists_no_more old now before after more few h = record {
  made = h.made;
  clauses = h.clauses;
  names = λ keeps. no_more old now h.made more few_made (h.names keeps);
  low = λ keeps. none_low old h.made few_made;
  none = h.none;
  keeps = h.keeps;
}
  where
    few_made : length h.made ≤ 0
    few_made = omega (arith, few, ap (λ (cs : List IdClause). length cs) h.clauses, length-append before.clauses h.made)
