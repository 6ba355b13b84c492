-- What the visits of each form of process tell of sources, by what those below it tell.
use Rattle.std.proofs.Common.{◌≡◌, ◌∙◌, ◌⊎◌, inl, inr, ℕ, ◌+◌, Bool, Option, Some, None, List, [], ◌∷◌, ◌++◌, option_map, refl, ap, sym, subst, append_assoc, append-nil}
use Rattle.spec_calculus.specs.Syntax.{Process, Nil, Output, Input, Parallel, Replication, New, Let, Event, Phase, Insert, Get, EventTerm, Pattern, Expression, Condition, Protocol}
use Rattle.spec_calculus.specs.Syntax as calculus
use Rattle.spec_calculus.specs.Points.{point_after}
use Rattle.spec_terms.specs.Term.{Term}
use Rattle.spec_clauses.specs.Fact.{Tab, Ev}
use Rattle.spec_clauses.specs.Variables.{AreBelow}
use Rattle.spec_translation.specs.Conversion.{term_in, Fresh}
use Rattle.spec_translation.specs.Visit.{Visit, visit_terms, sent, IsFresh, after_input, after_copy, after_new, event_terms, after_event, after_phase, written_terms}
use Rattle.spec_translation.specs.Choice.{EntryGoesOn}
use Rattle.spec_translation.specs.Otherwise.{otherwise_visit}
use Rattle.spec_attack_runs.specs.Source.{Choice, Taken, Else, Source}
use Rattle.spec_attack_runs.specs.Gathered.{EachGathers, Gathers, visit_sources}
use Rattle.process_visits.specs.declared.listing.Listing.{Listing}
use Rattle.unified_visits.specs.declared.place.Place.{Place}
use Rattle.visit_choices.specs.declared.ways.Way.{Way}
use Rattle.visit_choices.specs.declared.ways.Way.TheVariants as ways
use Rattle.unified_visits.specs.Places.{protocol_at, IsAt}
use Rattle.process_visits.specs.Telling.{Told, TellsVisit}
use Rattle.clause_form.specs.Seen.{IdClause}
use Rattle.spec_translation.specs.Course.{Done, TooLarge}
use Rattle.clause_translate.specs.Jobs.{Job, Runs, Ends}
use Rattle.clause_translate.proofs.Visiting.{nil_or}
use Rattle.clause_translate.specs.Gathering.{IsGathered, Tells, IsGatheredBelow, TellsBelow, TellsWay, AreGathered}

-- sources that are told behind others
behind_told : (o : Option (List Source)) (xs ys : List Source) → option_map (λ l. l ++ ys) (option_map (λ l. l ++ xs) o) ≡ option_map (λ l. l ++ (xs ++ ys)) o
behind_told None xs ys = refl
behind_told (Some l) xs ys = ap Some (append_assoc l xs ys)

none_behind : (o : Option (List Source)) → option_map (λ l. l ++ []) o ≡ o
none_behind None = refl
none_behind (Some l) = ap Some (append-nil l)

pub told_twice : (xs ys : List Source) (before midway after : Listing) → Told xs before midway → Told ys midway after → Told (xs ++ ys) before after
told_twice xs ys before midway after first second = record {
  sources = second.sources ∙ (ap (option_map (λ l. l ++ ys)) first.sources ∙ behind_told before.sources xs ys);
  choices = second.choices ∙ first.choices;
}

pub nothing_told : (listing : Listing) → Told [] listing listing
nothing_told listing = record { sources = sym (none_behind listing.sources); choices = refl }

-- what is told where the listing differs by what isn't told
pub told_from : (xs : List Source) (before low after : Listing) → low.sources ≡ before.sources → low.choices ≡ before.choices → Told xs low after → Told xs before after
told_from xs before low after same chosen told = record {
  sources = told.sources ∙ ap (option_map (λ l. l ++ xs)) same;
  choices = told.choices ∙ chosen;
}

-- a job between listings that differ by what isn't told
pub ends_between : (P : Protocol) (job : Job) (all : List Term) (before chosen after left : Listing) (large : Option ℕ) → chosen.left ≡ before.left → chosen.clauses ≡ before.clauses → chosen.keeps ≡ before.keeps
    → left.left ≡ after.left → left.clauses ≡ after.clauses → left.keeps ≡ after.keeps → Ends P job all chosen after large → Ends P job all before left large
ends_between P job all before chosen after left None less same kept less_after same_after kept_after h =
    let lists = h.lists in
    record {
      more = h.more;
      runs = subst (λ n. Runs P job n (Done h.more left.left)) less (subst (λ n. Runs P job chosen.left (Done h.more n)) (sym less_after) h.runs);
      lists = record {
        made = lists.made;
        clauses = same_after ∙ (lists.clauses ∙ ap (λ (cs : List IdClause). cs ++ lists.made) same);
        names = λ keeps. lists.names (kept ∙ keeps);
        low = λ keeps. lists.low (kept ∙ keeps);
        none = λ gone. lists.none (kept ∙ gone);
        keeps = kept_after ∙ (lists.keeps ∙ kept);
      };
    }
ends_between P job all before chosen after left (Some q) less same kept less_after same_after kept_after h = subst (λ n. Runs P job n (TooLarge q)) less h

module _ (P : Protocol) where
  -- what the visit below tells, of the point and the visit as they are named here
  pub tells_moved : (point : ℕ) (v : Visit) (to : Place) (w : Visit) (process : Process) (before after : Listing) (large : Option ℕ) → IsAt P point to → w ≡ v
      → Tells (protocol_at to) process to.point w before after large → Tells P process point v before after large
  tells_moved point v to w process before after large at e h =
      subst (λ (q : Protocol). Tells q process point v before after large) at.protocol
      (subst (λ n. Tells (protocol_at to) process n v before after large) at.point (subst (λ (x : Visit). Tells (protocol_at to) process to.point x before after large) e h))

  -- a job that gathers what the one below it does
  pub gathers_as : (below job : Process) (to point : ℕ) (w v : Visit) (before after : Listing) (large : Option ℕ)
      → ((taken : List Choice) (xs : List Source) → Gathers P below to taken w xs → Gathers P job point taken v xs) → Tells P below to w before after large → Tells P job point v before after large
  gathers_as below job to point w v before after None step h = record { more = h.more; gathers = step before.choices h.more h.gathers; told = h.told }
  gathers_as below job to point w v before after (Some q) step h = tt

  -- a job behind sources that are told
  pub gathers_behind : (below job : Process) (to point : ℕ) (w v : Visit) (xs : List Source) (before midway after : Listing) (large : Option ℕ) → Told xs before midway
      → ((ys : List Source) → Gathers P below to before.choices w ys → Gathers P job point before.choices v (xs ++ ys)) → Tells P below to w midway after large → Tells P job point v before after large
  gathers_behind below job to point w v xs before midway after None told step h = record {
    more = xs ++ h.more;
    gathers = step h.more (subst (λ (cs : List Choice). Gathers P below to cs w h.more) told.choices h.gathers);
    told = told_twice xs h.more before midway after told h.told;
  }
  gathers_behind below job to point w v xs before midway after (Some q) told step h = tt

  -- one visit is counted
  pub counted_tells : (process : Process) (point : ℕ) (v : Visit) (before low after : Listing) (large : Option ℕ) → low.sources ≡ before.sources → low.choices ≡ before.choices
      → Tells P process point v low after large → Tells P process point v before after large
  counted_tells process point v before low after None same chosen h = record {
    more = h.more;
    gathers = subst (λ (cs : List Choice). Gathers P process point cs v h.more) chosen h.gathers;
    told = told_from h.more before low after same chosen h.told;
  }
  counted_tells process point v before low after (Some q) same chosen h = tt

  pub nil_tells : (point : ℕ) (v : Visit) (listing : Listing) → Tells P Nil point v listing listing None
  nil_tells point v listing = record { more = []; gathers = refl; told = nothing_told listing }

  pub output_tells : (v : Visit) (channel message : calculus.Term) (next : Process) (point : ℕ) (before midway after : Listing) (large : Option ℕ)
      → TellsVisit point v (sent P v.phase (term_in P v.scope channel) (term_in P v.scope message)) before midway
      → Tells P next (point + 1) v midway after large → Tells P (Output channel message next) point v before after large
  output_tells v channel message next point before midway after large told h =
      gathers_behind next (Output channel message next) (point + 1) point v v (visit_sources point before.choices v (sent P v.phase (term_in P v.scope channel) (term_in P v.scope message)))
      before midway after large told (λ ys k. (ys, k, refl)) h

  pub event_tells : (v : Visit) (performed : EventTerm) (next : Process) (point : ℕ) (before midway after : Listing) (large : Option ℕ)
      → TellsVisit point v (Ev performed.event (event_terms P v performed)) before midway
      → Tells P next (point + 1) (after_event P v performed) midway after large → Tells P (Event performed next) point v before after large
  event_tells v performed next point before midway after large told h =
      gathers_behind next (Event performed next) (point + 1) point (after_event P v performed) v (visit_sources point before.choices v (Ev performed.event (event_terms P v performed)))
      before midway after large told (λ ys k. (ys, k, refl)) h

  pub insert_tells : (v : Visit) (table : ℕ) (arguments : List calculus.Term) (next : Process) (point : ℕ) (before midway after : Listing) (large : Option ℕ)
      → TellsVisit point v (Tab table (written_terms P v arguments)) before midway
      → Tells P next (point + 1) v midway after large → Tells P (Insert table arguments next) point v before after large
  insert_tells v table arguments next point before midway after large told h =
      gathers_behind next (Insert table arguments next) (point + 1) point v v (visit_sources point before.choices v (Tab table (written_terms P v arguments)))
      before midway after large told (λ ys k. (ys, k, refl)) h

  pub input_tells : (v : Visit) (channel : calculus.Term) (pattern : Pattern) (at : Fresh) (next : Process) (point : ℕ) (before after : Listing) (large : Option ℕ) → IsFresh v pattern at
      → Tells P next (point + 1) (after_input P v channel pattern at) before after large → Tells P (Input channel pattern next) point v before after large
  input_tells v channel pattern at next point before after large fresh h =
      gathers_as next (Input channel pattern next) (point + 1) point (after_input P v channel pattern at) v before after large (λ taken xs k. (at, fresh, k)) h

  pub copies_tell : (v : Visit) (n : ℕ) (copied : Process) (point : ℕ) (before after : Listing) (large : Option ℕ) → AreBelow n (visit_terms v)
      → Tells P copied (point + 1) (after_copy v n) before after large → Tells P (Replication copied) point v before after large
  copies_tell v n copied point before after large below h =
      gathers_as copied (Replication copied) (point + 1) point (after_copy v n) v before after large (λ taken xs k. (n, below, k)) h

  pub new_tells : (v : Visit) (word : List ℕ) (next : Process) (point : ℕ) (before after : Listing) (large : Option ℕ)
      → Tells P next (point + 1) (after_new v point) before after large → Tells P (New word next) point v before after large
  new_tells v word next point before after large h =
      gathers_as next (New word next) (point + 1) point (after_new v point) v before after large (λ taken xs k. k) h

  -- however its name is spelled
  pub spelled_tells : (v : Visit) (word : List ℕ) (next : Process) (point : ℕ) (before after : Listing) (large : Option ℕ) → Tells P (New [] next) point v before after large → Tells P (New word next) point v before after large
  spelled_tells v word next point before after large h = gathers_as (New [] next) (New word next) point point v v before after large (λ taken xs k. k) h

  pub phase_tells : (v : Visit) (number : ℕ) (next : Process) (point : ℕ) (before after : Listing) (large : Option ℕ)
      → Tells P next (point + 1) (after_phase v number) before after large → Tells P (Phase number next) point v before after large
  phase_tells v number next point before after large h =
      gathers_as next (Phase number next) (point + 1) point (after_phase v number) v before after large (λ taken xs k. k) h

  pub parallel_tells : (v : Visit) (left right : Process) (point : ℕ) (before midway after : Listing) (large : Option ℕ) → IsGathered P left (point + 1) v before midway
      → Tells P right (point_after (point + 1) left) v midway after large → Tells P (Parallel left right) point v before after large
  parallel_tells v left right point before midway after large first h =
      gathers_behind right (Parallel left right) (point_after (point + 1) left) point v v first.more before midway after large first.told (λ ys k. (first.more, ys, first.gathers, k, refl)) h

  -- a branch: what is chosen for it is left behind it
  pub below_tells : (process : Process) (point : ℕ) (v : Visit) (choice : Choice) (before chosen after left : Listing) (large : Option ℕ) → chosen.sources ≡ before.sources → chosen.choices ≡ before.choices ++ choice ∷ []
      → left.sources ≡ after.sources → (after.choices ≡ before.choices ++ choice ∷ [] → left.choices ≡ before.choices)
      → Tells P process point v chosen after large → TellsBelow P process point v choice before left large
  below_tells process point v choice before chosen after left None same is kept back h = record {
    more = h.more;
    gathers = subst (λ (cs : List Choice). Gathers P process point cs v h.more) is h.gathers;
    told = record { sources = kept ∙ (h.told.sources ∙ ap (option_map (λ l. l ++ h.more)) same); choices = back (h.told.choices ∙ is) };
  }
  below_tells process point v choice before chosen after left (Some q) same is kept back h = tt

  -- at the visit that an else branch has: one that does nothing tells the same at each
  pub else_told : (process : Process) (point : ℕ) (made v : Visit) (choice : Choice) (before after : Listing) (large : Option ℕ) → ((process ≡ Nil → ⊥) → made ≡ v)
      → TellsBelow P process point made choice before after large → TellsBelow P process point v choice before after large
  else_told process point made v choice before after (Some q) named h = tt
  else_told process point made v choice before after None named h = go (nil_or process) where
    go : (process ≡ Nil) ⊎ (process ≡ Nil → ⊥) → IsGatheredBelow P process point v choice before after
    go (inl e) = record {
      more = h.more;
      gathers = subst (λ (p : Process). Gathers P p point (before.choices ++ choice ∷ []) made h.more → Gathers P p point (before.choices ++ choice ∷ []) v h.more) (sym e) (λ none. none) h.gathers;
      told = h.told;
    }
    go (inr other) = subst (λ (w : Visit). IsGatheredBelow P process point w choice before after) (named other) h

  -- the same of the point as it is named here
  pub below_moved : (point : ℕ) (to : Place) (w : Visit) (choice : Choice) (process : Process) (before after : Listing) (large : Option ℕ) → IsAt P point to
      → TellsBelow (protocol_at to) process to.point w choice before after large → TellsBelow P process point w choice before after large
  below_moved point to w choice process before after large at h =
      subst (λ (q : Protocol). TellsBelow q process point w choice before after large) at.protocol (subst (λ n. TellsBelow (protocol_at to) process n w choice before after large) at.point h)

  pub way_moved : (point : ℕ) (to : Place) (process : Process) (all : List Term) (label : List ℕ) (way : Way) (before after : Listing) → IsAt P point to
      → TellsWay (protocol_at to) process to.point all label way before after None → TellsWay P process point all label way before after None
  way_moved point to process all label way before after at h =
      subst (λ (q : Protocol). TellsWay q process point all label way before after None) at.protocol (subst (λ n. TellsWay (protocol_at to) process n all label way before after None) at.point h)

  -- a way that leads nowhere
  pub nothing_way : (process : Process) (point : ℕ) (all : List Term) (label : List ℕ) (way : Way) (listing : Listing) → (way ≡ ways.Nowhere) ⊎ (way ≡ ways.Large) → TellsWay P process point all label way listing listing None
  nothing_way process point all label way listing (inl e) = subst (λ (x : Way). TellsWay P process point all label x listing listing None) (sym e) (nothing_told listing)
  nothing_way process point all label way listing (inr e) = subst (λ (x : Way). TellsWay P process point all label x listing listing None) (sym e) tt

  -- a `let`, and a `get`, by what is told of the branches
  pub let_tells : (v : Visit) (pattern : Pattern) (expression : Expression) (next otherwise : Process) (point : ℕ) (before midway after : Listing) (large : Option ℕ)
      → AreGathered P v pattern expression next (point + 1) before midway → TellsBelow P otherwise (point_after (point + 1) next) (otherwise_visit P v pattern expression) Else midway after large
      → Tells P (Let pattern expression next otherwise) point v before after large
  let_tells v pattern expression next otherwise point before midway after None first h = record {
    more = first.more ++ h.more;
    gathers = (
      first.outs,
      first.go,
      first.more,
      h.more,
      first.gathers,
      subst (λ (cs : List Choice). Gathers P otherwise (point_after (point + 1) next) (cs ++ Else ∷ []) (otherwise_visit P v pattern expression) h.more) first.told.choices h.gathers,
      refl,
    );
    told = told_twice first.more h.more before midway after first.told h.told;
  }
  let_tells v pattern expression next otherwise point before midway after (Some q) first h = tt

  pub get_tells : (v : Visit) (table : ℕ) (patterns : List Pattern) (condition : Condition) (next otherwise : Process) (point : ℕ) (over : Bool) (went : Option Visit) (xs : List Source) (before midway after : Listing) (large : Option ℕ)
      → EntryGoesOn P v table patterns condition over went → EachGathers (λ choice w. Gathers P next (point + 1) (before.choices ++ choice ∷ []) w) (Taken [] ∷ []) (went ∷ []) xs → Told xs before midway
      → TellsBelow P otherwise (point_after (point + 1) next) v Else midway after large → Tells P (Get table patterns condition next otherwise) point v before after large
  get_tells v table patterns condition next otherwise point over went xs before midway after None go first told h = record {
    more = xs ++ h.more;
    gathers = (
      over,
      went,
      go,
      xs,
      h.more,
      first,
      subst (λ (cs : List Choice). Gathers P otherwise (point_after (point + 1) next) (cs ++ Else ∷ []) v h.more) told.choices h.gathers,
      refl,
    );
    told = told_twice xs h.more before midway after told h.told;
  }
  get_tells v table patterns condition next otherwise point over went xs before midway after (Some q) go first told h = tt
