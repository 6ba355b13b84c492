-- What a bank is after a shape came to its set: as it was where the shape is there, and else with one more tree.
use Rattle.std.proofs.Common.{◌≡◌, ℕ, zero, suc, ◌+◌, ◌<◌, ◌≤◌, Bool, true, false, not, ◌||◌, true≢false, if◌then◌else◌, is_some, Option, None, Some, IfSome, IfNone, position, List, [], ◌∷◌, ◌++◌, length, take, map, slice_get, refl, sym, ap, ◌∙◌, subst, arith, get_or}
use Rattle.std.specs.List.{IsDistinct, AllByRecursion, list_any, position_or_len}
use Rattle.std.proofs.lemmas.List.{length-map}
use Rattle.std.proofs.lemmas.List.Quantifiers.{position-Some}
use Rattle.std.proofs.lemmas.Option.{slice_get-get_or, slice_get_within, slice_get_read, unwrap_or-slice_get}
use Rattle.indexmap.specs.IndexSet.{insert_key}
use Rattle.spec_trees.specs.Tree.{Leaf}
use Rattle.spec_terms.specs.Term.{Term}
use Rattle.term_tree.specs.Bank.{tree_at, Names, AreShared}
use Rattle.term_tree.specs.declared.bank.Id.{Id}
use Rattle.term_tree.specs.Roots.{tree_of, HasArgs, HaveArgs, told}
use Rattle.term_tree.proofs.BankLaws.{Names-next, Names-grows, take-grown}
use Rattle.term_tree.proofs.Roots.{IsPlace, IsPlace-tree, place_at, told_at, items-length, built-push, HaveArgs-push, told-push, built-cut, HaveArgs-cut, told-cut}
use Rattle.term_store.specs.Measures.{tells_of}
use Rattle.term_store.specs.Shapes.{root_of, IsPlain, same_shape}
use Rattle.term_store.specs.SharedBank.{trees_of, IsWell, id_at, IsKnown, Finds}
use Rattle.term_store.specs.declared.shape.Shape.{Shape}
use Rattle.term_store.specs.declared.measure.Measure.{Measure}
use Rattle.term_store.proofs.Shapes.{root_of-same}
use Rattle.term_store.proofs.Distinct.{known_root}

-- the place of a shape that equals the wanted one has the wanted tree
pub known_names : (shapes : List Shape) (measures : List Measure) (all : List Term) (shape k : Shape) (id : Id) → trees_of shapes ≡ all → IsWell shapes measures → slice_get shapes id.index ≡ Some k → same_shape shape k ≡ true → Names all id (tree_of all (root_of shape))
known_names shapes measures all shape k id view well found same =
    let place = place_at root_of shapes all id.index k view well.args found in
    record {
      known = omega (arith, items-length root_of shapes all view, slice_get_within shapes id.index k found);
      is = IsPlace-tree all id (root_of k) place ∙ ap (tree_of all) (sym (root_of-same shape k same));
    }

there : (b : Bool) → false ≡ not b → b ≡ true
there true e = refl
there false e = absurd (true≢false (sym e))

absent : (b : Bool) → true ≡ not b → b ≡ false
absent true e = absurd (true≢false e)
absent false e = refl

-- a shape that is there leaves the shapes
pub keys_known : (shapes now : List Shape) (shape : Shape) (is_new : Bool) → is_new ≡ not (list_any (same_shape shape) shapes) → is_new ≡ false → now ≡ insert_key same_shape shapes shape → now ≡ shapes
keys_known shapes now shape is_new told_new old e = e ∙ ap (λ b. if b then shapes else shapes ++ shape ∷ []) (there (list_any (same_shape shape) shapes) (sym old ∙ told_new))

past_all : {X : Type 0} (p : X → Bool) (xs : List X) → list_any p xs ≡ false → position_or_len p xs ≡ length xs
past_all p [] none = refl
past_all {X} p (x ∷ xs) none = by (p x) refl (λ e. past_all p xs (sym (ap (λ c. c || list_any p xs) e) ∙ none))
  where
    by : (b : Bool) → p x ≡ b → (p x ≡ false → position_or_len p xs ≡ length xs) → position_or_len p (x ∷ xs) ≡ suc (length xs)
    by true e rest = absurd (true≢false (sym (ap (λ c. c || list_any p xs) e) ∙ none))
    by false e rest = let more : 1 + position_or_len p xs ≡ suc (length xs) = omega (arith, rest e) in rw e more

-- a shape that is not there comes last
pub record IsLast (shapes now : List Shape) (index : ℕ) (shape : Shape) : Type 0 where
  pub keys : now ≡ shapes ++ shape ∷ []
  pub place : index ≡ length shapes

pub IsLast-new : (shapes now : List Shape) (index : ℕ) (shape : Shape) (is_new : Bool) → is_new ≡ not (list_any (same_shape shape) shapes) → is_new ≡ true → now ≡ insert_key same_shape shapes shape → index ≡ position_or_len (same_shape shape) shapes → IsLast shapes now index shape
IsLast-new shapes now index shape is_new told_new new e at =
    let none = absent (list_any (same_shape shape) shapes) (sym new ∙ told_new) in
    record {
      keys = e ∙ ap (λ b. if b then shapes else shapes ++ shape ∷ []) none;
      place = at ∙ past_all (same_shape shape) shapes none;
    }

all-push : {X : Type 0} (P : X → Type 0) (xs : List X) (x : X) → AllByRecursion P xs → P x → AllByRecursion P (xs ++ x ∷ [])
all-push P [] x all one = (one, tt)
all-push P (y ∷ ys) x all one = (all.0, all-push P ys x all.1 one)

all-cut : {X : Type 0} (P : X → Type 0) (xs : List X) (n : ℕ) → AllByRecursion P xs → AllByRecursion P (take n xs)
all-cut P xs zero all = tt
all-cut P [] (suc n) all = tt
all-cut P (y ∷ ys) (suc n) all = (all.0, all-cut P ys n all.1)

-- a bank with one more shape, and what is told of its tree
pub IsWell-push : (shapes now : List Shape) (measures after : List Measure) (all : List Term) (index : ℕ) (shape : Shape) (measure : Measure) → trees_of shapes ≡ all → IsWell shapes measures → HasArgs all (root_of shape) → IsPlain shape → tells_of measure ≡ told (tree_of all (root_of shape)) → IsLast shapes now index shape → IsDistinct same_shape now → after ≡ measures ++ measure ∷ [] → IsWell now after
IsWell-push shapes now measures after all index shape measure view well args plain tells last distinct pushed =
    let grown = built-push root_of shapes all shape view in
    record {
      args = subst (λ (l : List Shape). HaveArgs [] (map root_of l)) (sym last.keys) (HaveArgs-push root_of shapes all shape view well.args args);
      plain = subst (AllByRecursion IsPlain) (sym last.keys) (all-push IsPlain shapes shape well.plain plain);
      distinct = distinct;
      tells = ap (map tells_of) pushed
          ∙ (told-push tells_of measures measure all (tree_of all (root_of shape)) (well.tells ∙ ap (map told) view) tells
          ∙ (ap (map told) (sym grown) ∙ ap (λ (l : List Shape). map told (trees_of l)) (sym last.keys)));
    }

pub trees-push : (shapes now : List Shape) (all : List Term) (index : ℕ) (shape : Shape) → trees_of shapes ≡ all → IsLast shapes now index shape → trees_of now ≡ all ++ tree_of all (root_of shape) ∷ []
trees-push shapes now all index shape view last = ap trees_of last.keys ∙ built-push root_of shapes all shape view

pub last_id : (shapes now : List Shape) (all : List Term) (id : Id) (shape : Shape) → trees_of shapes ≡ all → IsLast shapes now id.index shape → id.index ≡ length all
last_id shapes now all id shape view last = last.place ∙ items-length root_of shapes all view

-- no tree of the bank is the one that came, where equal trees have equal ids
pub Finds-new : (all now : List Term) (t : Term) (id : Id) → now ≡ all ++ t ∷ [] → AreShared now → id.index ≡ length all → Finds all now t id
Finds-new all now t id grown shared last known names =
    let here = subst (λ (l : List Term). Names l id t) (sym grown) (Names-next all t id last) in
    let there = Names-grows all now known t (t ∷ [], grown) names in
    let same : id ≡ known = shared id known here.known there.known (here.is ∙ sym there.is) in
    let places : id.index ≡ known.index = ap (λ (i : Id). i.index) same in
    absurd (omega (arith, places, last, names.known))

-- a tree that is there has one id
pub Finds-known : (all now : List Term) (t : Term) (id : Id) → now ≡ all → AreShared all → Names all id t → Finds all now t id
Finds-known all now t id kept shared here known there = (shared id known here.known there.known (here.is ∙ sym there.is), kept)

-- what came last is cut off again
pub keys-cut : (shapes now cut : List Shape) (index : ℕ) (shape : Shape) → IsLast shapes now index shape → cut ≡ take index now → cut ≡ shapes
keys-cut shapes now cut index shape last e = e ∙ (ap (λ n. take n now) last.place ∙ (ap (take (length shapes)) last.keys ∙ take-grown shapes (shape ∷ [])))

-- a bank that is cut back
pub IsWell-cut : (shapes now : List Shape) (measures left : List Measure) (all : List Term) (n : ℕ) → trees_of shapes ≡ all → IsWell shapes measures → n ≤ length all → IsDistinct same_shape now → now ≡ take n shapes → left ≡ take n measures → IsWell now left
IsWell-cut shapes now measures left all n view well within distinct cut shortened =
    let trees = built-cut root_of shapes all n view within in
    record {
      args = subst (λ (l : List Shape). HaveArgs [] (map root_of l)) (sym cut) (HaveArgs-cut root_of shapes n well.args);
      plain = subst (AllByRecursion IsPlain) (sym cut) (all-cut IsPlain shapes n well.plain);
      distinct = distinct;
      tells = ap (map tells_of) shortened
          ∙ (told-cut tells_of measures all n (well.tells ∙ ap (map told) view)
          ∙ (ap (map told) (sym trees) ∙ ap (λ (l : List Shape). map told (trees_of l)) (sym cut)));
    }

-- what is told of a place that is read
pub told_of : (shapes : List Shape) (measures : List Measure) (all : List Term) (id : Id) (d : Measure) → trees_of shapes ≡ all → IsWell shapes measures → id.index < length all → tells_of (get_or measures id.index d) ≡ told (tree_at all id)
told_of shapes measures all id d view well within =
    let same : map tells_of measures ≡ map told all = well.tells ∙ ap (map told) view in
    let long : length measures ≡ length all = sym (length-map measures tells_of) ∙ (ap length same ∙ length-map all told) in
    let stands : slice_get all id.index ≡ Some (tree_at all id) = slice_get-get_or all id.index (Leaf 0) within ∙ ap Some (sym (unwrap_or-slice_get all id.index (Leaf 0))) in
    told_at tells_of measures all id.index (get_or measures id.index d) (tree_at all id) same (slice_get-get_or measures id.index d (omega (arith, long, within))) stands

-- the shape that is read at a place
pub shape_at : (shapes : List Shape) (measures : List Measure) (read : List Shape) (all : List Term) (id : Id) (shape : Shape) → trees_of shapes ≡ all → IsWell shapes measures → id.index < length all → read ≡ shapes → shape ≡ get_or read id.index shape → IsPlace all id.index (root_of shape)
shape_at shapes measures read all id shape view well within same found =
    let inside : id.index < length shapes = omega (arith, items-length root_of shapes all view, within) in
    place_at root_of shapes all id.index shape view well.args (slice_get_read shapes (length shapes) id.index shape refl inside (found ∙ ap (λ l. get_or l id.index shape) same))

-- the place that a look-up answers has the wanted tree
pub found_place : (shapes : List Shape) (measures : List Measure) (all : List Term) (shape : Shape) (found : Option ℕ) → trees_of shapes ≡ all → IsWell shapes measures → found ≡ position (same_shape shape) shapes
    → IfSome found (λ k. Names all (id_at k) (tree_of all (root_of shape)))
found_place shapes measures all shape None view well e = tt
found_place shapes measures all shape (Some k) view well e =
    let (within, same, earlier) = position-Some (same_shape shape) shapes k shape (sym e) in
    known_names shapes measures all shape (get_or shapes k shape) (id_at k) view well (slice_get-get_or shapes k shape within) same

-- where a look-up answers no place the wanted tree is not there
pub no_place : (shapes : List Shape) (measures : List Measure) (all : List Term) (shape : Shape) (found : Option ℕ) → trees_of shapes ≡ all → IsWell shapes measures → IsPlain shape → HasArgs all (root_of shape)
    → is_some found ≡ list_any (same_shape shape) shapes → IfNone found (¬ IsKnown all (tree_of all (root_of shape)))
no_place shapes measures all shape (Some k) view well plain args e = tt
no_place shapes measures all shape None view well plain args e = λ known. true≢false (sym (e ∙ known_root shapes measures all shape known.0 view well plain args known.1))
