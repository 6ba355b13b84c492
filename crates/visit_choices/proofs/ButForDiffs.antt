-- Visits that are the same but for their constraints.
use Rattle.std.proofs.Common.{◌≡◌, ◌∙◌, List, [], refl, ap, sym, subst}
use Rattle.spec_terms.specs.Term.{Term}
use Rattle.spec_translation.specs.Visit.{Visit}
use Rattle.term_tree.specs.Bank.{Grows}
use Rattle.unified_visits.specs.declared.visit.Visit as source
use Rattle.unified_visits.specs.Visits.{visit_at, IsVisitIn, IsButForDiffs}
use Rattle.unified_visits.proofs.Named.{Below, parted, joined, visit_later}

-- a visit is so itself
pub like_itself : (all : List Term) (w : source.Visit) → IsVisitIn all w → IsButForDiffs all w w
like_itself all w known = record { known = known; is = refl }

-- in a bank that grew
pub like_later : (old now : List Term) (w x : source.Visit) → Grows old now → IsButForDiffs old w x → IsButForDiffs now w x
like_later old now w x grows like = record { known = (visit_later old now x grows like.known).known; is = like.is }

-- without constraints
pub like_bare : (all : List Term) (w x : source.Visit) → x ≡ record w { diffs = [] } → IsVisitIn all w → IsButForDiffs all w x
like_bare all w x e known = subst (λ (y : source.Visit). IsButForDiffs all w y) (sym e) bare where
  below : Below w.next (visit_at all w)
  below = parted w.next (visit_at all w) known.below

  bare : IsButForDiffs all w (record w { diffs = [] })
  bare = record {
    known = record {
      scope = known.scope;
      hypotheses = known.hypotheses;
      diffs = tt;
      messages = known.messages;
      sessions = known.sessions;
      below = joined w.next (visit_at all (record w { diffs = [] })) (record { scope = below.scope; hypotheses = below.hypotheses; messages = below.messages; sessions = below.sessions; diffs = tt });
      room = known.room;
    };
    is = refl;
  }

-- a visit for a process that does nothing is one over the bank
pub nothing_known : (all : List Term) (w x : source.Visit) → x ≡ record w { scope = []; hypotheses = []; diffs = []; messages = [] } → IsVisitIn all w → IsVisitIn all x
nothing_known all w x e known = subst (λ (y : source.Visit). IsVisitIn all y) (sym e) bare where
  nothing : source.Visit
  nothing = record w { scope = []; hypotheses = []; diffs = []; messages = [] }

  bare : IsVisitIn all nothing
  bare = record {
    scope = tt;
    hypotheses = tt;
    diffs = tt;
    messages = tt;
    sessions = known.sessions;
    below = joined w.next (visit_at all nothing) (record { scope = tt; hypotheses = tt; messages = tt; sessions = (parted w.next (visit_at all w) known.below).sessions; diffs = tt });
    room = known.room;
  }

-- the trees that they name are too
pub like_trees : (all : List Term) (w x : source.Visit) (v : Visit) → x ≡ record w { diffs = x.diffs } → visit_at all w ≡ v → visit_at all x ≡ record v { diffs = (visit_at all x).diffs }
like_trees all w x v is names = ap (visit_at all) is ∙ ap (λ (y : Visit). record y { diffs = (visit_at all x).diffs }) names
