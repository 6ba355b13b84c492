-- Nodes of a way as they will be when they are done.
use Rattle.std.specs.Global.{Vec}
use Rattle.std.proofs.Common.{◌≡◌, ℕ, ◌<◌, List, [], ◌∷◌, ◌++◌, length, slice_get, take, drop, map, get_or, option_map, Option, None, Some, refl, sym, ap, ◌∙◌, subst}
use Rattle.std.proofs.lemmas.List.{take-map, drop-map, map-append}
use Rattle.std.proofs.lemmas.Option.{slice_get_read}
use Rattle.spec_calculus.specs.Syntax.{Process, Input, Replication, Let, Get, Term as TermOf, Pattern, Expression, Condition}
use Rattle.spec_terms.specs.Term.{Term}
use Rattle.term_tree.specs.Bank.{tree_at, AreKnown}
use Rattle.term_tree.specs.declared.bank.Id.{Id}
use Rattle.term_tree.proofs.BankLaws.{AreKnown-append, AreKnown-at}
use Rattle.clause_form.specs.Seen.{NameTerms}
use Rattle.spec_attack_runs.specs.Source.{Choice, Taken, Else}
use Rattle.spec_attack_runs.specs.Compiling.{Done}
use Rattle.spec_attack_runs.specs.Walking.{Walk, plain_node}
use Rattle.attack_state.specs.declared.done.Done.{Done as MadeDone}
use Rattle.attack_state.specs.States.{NamesDone}
use Rattle.attack_compiling.specs.declared.walking.Route.{Route}
use Rattle.attack_compiling.specs.declared.walking.Walk.{Walk as MadeWalk}
use Rattle.attack_compiling.specs.Walks.{walk_of, IsKnownWay, chosen_node, entry_node, node_at, NamesNode}
use Rattle.attack_compiling.proofs.Ids.{known_taken, known_dropped}
use Rattle.attack_compiling.proofs.Ways.{mapped_ahead, first_ahead}

module _ (all : List Term) where
  -- ids that are the first so many, or some of the next
  pub first_named : (n : ℕ) (ids kept : List Id) → AreKnown all ids → kept ≡ take n ids → NameTerms all kept (take n (map (tree_at all) ids))
  first_named n ids kept known e = record {
    known = subst (λ (l : List Id). AreKnown all l) (sym e) (known_taken all n ids known);
    are = ap (map (tree_at all)) e ∙ sym (take-map (tree_at all) n ids);
  }

  pub next_named : (count n : ℕ) (ids kept : List Id) → AreKnown all ids → kept ≡ take count (drop n ids) → NameTerms all kept (take count (drop n (map (tree_at all) ids)))
  next_named count n ids kept known e =
      let first = first_named count (drop n ids) kept (known_dropped all n ids known) e in
      record { known = first.known; are = first.are ∙ ap (take count) (sym (drop-map (tree_at all) n ids)) }

  pub none_named : (kept : List Id) → kept ≡ [] → NameTerms all kept []
  none_named kept e = record { known = subst (λ (l : List Id). AreKnown all l) (sym e) tt; are = ap (map (tree_at all)) e }

  -- one more id
  pub more_named : (ids more : List Id) (ts : List Term) (x : Id) → NameTerms all ids ts → x.index < length all → more ≡ ids ++ x ∷ [] → NameTerms all more (ts ++ tree_at all x ∷ [])
  more_named ids more ts x h within e = record {
    known = subst (λ (l : List Id). AreKnown all l) (sym e) (AreKnown-append all ids x h.known within);
    are = ap (map (tree_at all)) e ∙ (map-append (tree_at all) ids (x ∷ []) ∙ ap (λ l. l ++ tree_at all x ∷ []) h.are);
  }

  known_at : (ids : List Id) (i : ℕ) (x : Id) → AreKnown all ids → x ≡ get_or ids i x → i < length ids → x.index < length all
  known_at ids i x known is within = AreKnown-at all ids i x known (slice_get_read ids (length ids) i x refl within is)

  module _ (made : MadeDone) (point : ℕ) (walk : Walk) where
    pub else_named : (count : ℕ) (choice : Choice) → choice ≡ Else → NamesDone all made (chosen_node point walk choice) → NamesDone all made (entry_node point walk count choice)
    else_named count (Taken label) e h = cc
    else_named count Else e h = h

    pub taken_named : (count : ℕ) (choice : Choice) (label : List ℕ) (messages : Vec Id) → choice ≡ Taken label → NamesDone all made (chosen_node point walk choice)
        → NameTerms all messages.items (take count walk.ahead.messages) → NamesDone all (record made { messages = messages }) (entry_node point walk count choice)
    taken_named count (Taken own) label messages e h named = record { point = h.point; sessions = h.sessions; messages = named; choice = h.choice; other = h.other }
    taken_named count Else label messages e h named = cc

  module _ (route : Route) (walk : MadeWalk) (other : ℕ) (known : IsKnownWay all route) where
    abbrev w : Walk
    w = walk_of all route walk

    pub input_named : (made : MadeDone) (messages : Vec Id) (process : Process) (channel : TermOf) (pattern : Pattern) (next : Process) (x : Id) → process ≡ Input channel pattern next
        → x ≡ get_or route.messages.now walk.messages x → walk.messages < length route.messages.now → NamesDone all made (plain_node walk.point w) → messages.items ≡ made.messages.items ++ x ∷ []
        → NamesNode all (Some (record made { messages = messages })) (node_at process walk.point w other)
    input_named made messages process channel pattern next x e is within h more =
        let there : node_at process walk.point w other ≡ Some (record (plain_node walk.point w) { messages = tree_at all x ∷ [] }) =
        ap (λ (p : Process). node_at p walk.point w other) e
        ∙ ap (λ (l : List Term). option_map (λ t. record (plain_node walk.point w) { messages = t ∷ [] }) (slice_get l 0)) (mapped_ahead (tree_at all) route.messages.now walk.messages x is within) in
        subst (λ (o : Option Done). NamesNode all (Some (record made { messages = messages })) o) (sym there) (record {
          point = h.point;
          sessions = h.sessions;
          messages = more_named made.messages.items messages.items [] x h.messages (known_at route.messages.now walk.messages x known.messages is within) more;
          choice = h.choice;
          other = h.other;
        })

    pub copy_named : (made : MadeDone) (sessions : Vec Id) (process copied : Process) (x : Id) → process ≡ Replication copied
        → x ≡ get_or route.sessions.now walk.sessions x → walk.sessions < length route.sessions.now → NamesDone all made (plain_node walk.point w) → sessions.items ≡ made.sessions.items ++ x ∷ []
        → NamesNode all (Some (record made { sessions = sessions; other = other })) (node_at process walk.point w other)
    copy_named made sessions process copied x e is within h more =
        let there : node_at process walk.point w other ≡ Some (record (plain_node walk.point w) { sessions = w.copied ++ tree_at all x ∷ []; other = other }) =
        ap (λ (p : Process). node_at p walk.point w other) e
        ∙ ap (λ (l : List Term). option_map (λ t. record (plain_node walk.point w) { sessions = w.copied ++ t ∷ []; other = other }) (slice_get l 0)) (mapped_ahead (tree_at all) route.sessions.now walk.sessions x is within) in
        subst (λ (o : Option Done). NamesNode all (Some (record made { sessions = sessions; other = other })) o) (sym there) (record {
          point = h.point;
          sessions = more_named made.sessions.items sessions.items w.copied x h.sessions (known_at route.sessions.now walk.sessions x known.sessions is within) more;
          messages = h.messages;
          choice = h.choice;
          other = refl;
        })

    -- at a choice, if there is one
    choice_there : (choice : Option Choice) → choice ≡ slice_get route.way.now.choices walk.choices → slice_get w.ahead.choices 0 ≡ choice
    choice_there choice is = first_ahead route.way.now.choices walk.choices ∙ sym is

    pub let_named : (made : MadeDone) (process : Process) (pattern : Pattern) (expression : Expression) (next otherwise : Process) (choice : Choice) → process ≡ Let pattern expression next otherwise
        → Some choice ≡ slice_get route.way.now.choices walk.choices → NamesDone all made (chosen_node walk.point w choice) → NamesNode all (Some made) (node_at process walk.point w other)
    let_named made process pattern expression next otherwise choice e is h =
        subst (λ (o : Option Done). NamesNode all (Some made) o)
        (sym (ap (λ (p : Process). node_at p walk.point w other) e ∙ ap (option_map (chosen_node walk.point w)) (choice_there (Some choice) is))) h

    pub get_named : (made : MadeDone) (process : Process) (table : ℕ) (patterns : List Pattern) (condition : Condition) (next otherwise : Process) (choice : Choice) (count : ℕ) → process ≡ Get table patterns condition next otherwise
        → count ≡ length patterns → Some choice ≡ slice_get route.way.now.choices walk.choices → NamesDone all made (entry_node walk.point w count choice) → NamesNode all (Some made) (node_at process walk.point w other)
    get_named made process table patterns condition next otherwise choice count e counted is h =
        subst (λ (o : Option Done). NamesNode all (Some made) o)
        (sym (ap (λ (p : Process). node_at p walk.point w other) e ∙ ap (option_map (entry_node walk.point w (length patterns))) (choice_there (Some choice) is)))
        (subst (λ (n : ℕ). NamesDone all made (entry_node walk.point w n choice)) counted h)

    pub let_nowhere : (process : Process) (pattern : Pattern) (expression : Expression) (next otherwise : Process) → process ≡ Let pattern expression next otherwise
        → None ≡ slice_get route.way.now.choices walk.choices → node_at process walk.point w other ≡ None
    let_nowhere process pattern expression next otherwise e is =
        ap (λ (p : Process). node_at p walk.point w other) e ∙ ap (option_map (chosen_node walk.point w)) (choice_there None is)

    pub get_nowhere : (process : Process) (table : ℕ) (patterns : List Pattern) (condition : Condition) (next otherwise : Process) → process ≡ Get table patterns condition next otherwise
        → None ≡ slice_get route.way.now.choices walk.choices → node_at process walk.point w other ≡ None
    get_nowhere process table patterns condition next otherwise e is =
        ap (λ (p : Process). node_at p walk.point w other) e ∙ ap (option_map (entry_node walk.point w (length patterns))) (choice_there None is)
