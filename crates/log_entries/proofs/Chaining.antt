-- Chains of entries that end with the same id: with an entry more, and gone through from the last one.
use Rattle.std.proofs.Common.{◌≡◌, ◌⊎◌, ◌∙◌, ℕ, zero, suc, ◌+◌, ◌-◌, ◌<◌, ◌≤◌, Option, Some, None, List, [], ◌∷◌, ◌++◌, length, get_or, set, refl, ap, sym, subst, inl, inr, arith}
use Rattle.std.specs.Option.{unwrap_or}
use Rattle.std.proofs.lemmas.Bool.{cases_eq, cases_lt}
use Rattle.std.proofs.lemmas.List.{get_or-set_same, get_or-set_other, get_or_append_left, get_or_at}
use Rattle.spec_calculus.specs.Points.{numbered}
use Rattle.spec_saturation.proofs.Places.{numbered_within}
use Rattle.term_tree.specs.declared.bank.Id.{Id}
use Rattle.log_entries.specs.declared.chains.Chains.{Chains}
use Rattle.log_entries.specs.Ends.{IsLastBefore, AreChained}
use Rattle.log_entries.specs.Live.{AreThose}
use Rattle.log_entries.specs.Numbers.{IsAmong}
use Rattle.log_entries.proofs.Numbers.{there_push, last_there, push_there, among_push, among_last, push_among}

abbrev id_at : ℕ → Id
id_at i = record { index = i }

same_id : (a b : Id) → a.index ≡ b.index → a ≡ b
same_id a b e = ap id_at e

long_more : (ends : List (Option Id)) (e : Option Id) → length (ends ++ e ∷ []) ≡ suc (length ends)
long_more [] e = refl
long_more (d ∷ ends) e = ap suc (long_more ends e)

-- what ends so below the bound, before there was an entry more
before_push : (ends : List (Option Id)) (e : Option Id) (id : Id) (bound n : ℕ) → bound ≤ suc (length ends) → n < bound → numbered (ends ++ e ∷ []) n ≡ Some (Some id) → numbered ends n ≡ Some (Some id)
before_push ends e id bound n few less at = elim (push_there ends e n (Some id) at) as (λ _. numbered ends n ≡ Some (Some id)) [
  | inl there ↦ there
  | inr last ↦ (let place = last.0 in absurd (omega (arith, place, few, less)))
]

-- an entry more, behind the bound
last_kept : (ends : List (Option Id)) (e : Option Id) (id : Id) (bound : ℕ) (o : Option ℕ) → bound ≤ suc (length ends) → IsLastBefore ends id bound o → IsLastBefore (ends ++ e ∷ []) id bound o
last_kept ends e id bound None few h = λ n less at. h n less (before_push ends e id bound n few less at)
last_kept ends e id bound (Some m) few h = (h.0, there_push ends e m (Some id) h.1, λ n more less at. h.2 n more less (before_push ends e id bound n few less at))

-- an entry more, which ends otherwise
last_other : (ends : List (Option Id)) (e : Option Id) (id : Id) (o : Option ℕ) → (e ≡ Some id → ⊥) → IsLastBefore ends id (suc (length ends)) o → IsLastBefore (ends ++ e ∷ []) id (suc (suc (length ends))) o
last_other ends e id None other h = λ n less at. elim (push_there ends e n (Some id) at) as (λ _. ⊥) [
  | inl there ↦ (let within = (numbered_within ends n (Some id) there).1 in h n (omega (arith, within)) there)
  | inr last ↦ other last.1
]
last_other ends e id (Some m) other h =
    let first = h.0 in (
      omega (arith, first),
      there_push ends e m (Some id) h.1,
      λ n more less at. elim (push_there ends e n (Some id) at) as (λ _. ⊥) [
        | inl there ↦ (let within = (numbered_within ends n (Some id) there).1 in h.2 n more (omega (arith, within)) there)
        | inr last ↦ other last.1
      ],
    )

-- and one that ends so
last_new : (ends : List (Option Id)) (id : Id) → IsLastBefore (ends ++ Some id ∷ []) id (suc (suc (length ends))) (Some (suc (length ends)))
last_new ends id = (omega arith, last_there ends (Some id) (suc (length ends)) (omega arith), λ n more less at. omega arith)

-- With an entry more: what is last for its id is its number, and what was last stands beside it.
pub chained_more : (ends : List (Option Id)) (e : Option Id) (lasts news befores : List (Option ℕ)) (before : Option ℕ) → ((id : Id) → e ≡ Some id → (get_or news id.index None ≡ Some (suc (length ends))) × (before ≡ get_or lasts id.index None))
    → ((id : Id) → (e ≡ Some id → ⊥) → get_or news id.index None ≡ get_or lasts id.index None) → AreChained ends lasts befores → AreChained (ends ++ e ∷ []) news (befores ++ before ∷ [])
chained_more ends e lasts news befores before one others h = record {
  last = λ id. subst (λ n. IsLastBefore (ends ++ e ∷ []) id (suc n) (get_or news id.index None)) (sym (long_more ends e)) (last id e refl);
  before = λ n id at. back n id at (push_there ends e n (Some id) at);
  long = more befores before ∙ (ap suc h.long ∙ sym (long_more ends e));
}
  where
    more : (bs : List (Option ℕ)) (b : Option ℕ) → length (bs ++ b ∷ []) ≡ suc (length bs)
    more [] b = refl
    more (c ∷ bs) b = ap suc (more bs b)

    here : (id : Id) → e ≡ Some id → IsLastBefore (ends ++ e ∷ []) id (suc (suc (length ends))) (get_or news id.index None)
    here id same = subst (λ o. IsLastBefore (ends ++ e ∷ []) id (suc (suc (length ends))) o) (sym (one id same).0)
        (subst (λ d. IsLastBefore (ends ++ d ∷ []) id (suc (suc (length ends))) (Some (suc (length ends)))) (sym same) (last_new ends id))

    apart : (id : Id) → (e ≡ Some id → ⊥) → IsLastBefore (ends ++ e ∷ []) id (suc (suc (length ends))) (get_or news id.index None)
    apart id other = subst (λ o. IsLastBefore (ends ++ e ∷ []) id (suc (suc (length ends))) o) (sym (others id other)) (last_other ends e id (get_or lasts id.index None) other (h.last id))

    last : (id : Id) (d : Option Id) → e ≡ d → IsLastBefore (ends ++ e ∷ []) id (suc (suc (length ends))) (get_or news id.index None)
    last id None is = apart id (λ same. let wrong : None ≡ Some id = sym is ∙ same in cc)
    last id (Some k) is = elim (cases_eq k.index id.index) as (λ _. IsLastBefore (ends ++ e ∷ []) id (suc (suc (length ends))) (get_or news id.index None)) [
      | inl same ↦ here id (is ∙ ap Some (same_id k id same))
      | inr differ ↦ apart id (λ same. let both : Some k ≡ Some id = sym is ∙ same in let ids : k ≡ id = cc in differ (ap (λ (x : Id). x.index) ids))
    ]

    back : (n : ℕ) (id : Id) → numbered (ends ++ e ∷ []) n ≡ Some (Some id) → (numbered ends n ≡ Some (Some id)) ⊎ ((n ≡ length ends + 1) × (e ≡ Some id)) → IsLastBefore (ends ++ e ∷ []) id n (get_or (befores ++ before ∷ []) (n - 1) None)
    back n id at (inl there) =
        let within = numbered_within ends n (Some id) there in
        let long = h.long in
        subst (λ o. IsLastBefore (ends ++ e ∷ []) id n o) (sym (get_or_append_left befores (before ∷ []) None (n - 1) (omega (arith, within.0, within.1, long))))
        (last_kept ends e id n (get_or befores (n - 1) None) (omega (arith, within.1)) (h.before n id there))
    back n id at (inr last) =
        let place = last.0 in
        let long = h.long in
        let bound : n ≡ suc (length ends) = omega (arith, place) in
        let stands : get_or (befores ++ before ∷ []) (n - 1) None ≡ before = get_or_at befores before [] None (n - 1) (omega (arith, place, long)) in
        subst (λ o. IsLastBefore (ends ++ e ∷ []) id n o) (sym (stands ∙ (one id last.1).1))
        (subst (λ m. IsLastBefore (ends ++ e ∷ []) id m (get_or lasts id.index None)) (sym bound) (last_kept ends e id (suc (length ends)) (get_or lasts id.index None) (omega arith) (h.last id)))

pub chained_none : (ends : List (Option Id)) (lasts befores : List (Option ℕ)) → AreChained ends lasts befores → AreChained (ends ++ None ∷ []) lasts (befores ++ None ∷ [])
chained_none ends lasts befores h = chained_more ends None lasts lasts befores None (λ id same. absurd (cc)) (λ id other. refl) h

pub chained_some : (ends : List (Option Id)) (id : Id) (lasts reached befores : List (Option ℕ)) (number : ℕ) → id.index < length reached → ((i : ℕ) → get_or reached i None ≡ get_or lasts i None) → number ≡ length befores + 1 → AreChained ends lasts befores
    → AreChained (ends ++ Some id ∷ []) (set reached id.index (Some number)) (befores ++ get_or reached id.index None ∷ [])
chained_some ends id lasts reached befores number room same is h = chained_more ends (Some id) lasts (set reached id.index (Some number)) befores (get_or reached id.index None) one others h
  where
    counted : number ≡ suc (length ends)
    counted = (let long = h.long in omega (arith, is, long))

    one : (k : Id) → Some id ≡ Some k → (get_or (set reached id.index (Some number)) k.index None ≡ Some (suc (length ends))) × (get_or reached id.index None ≡ get_or lasts k.index None)
    one k both =
        let ids : id ≡ k = cc in
        (ap (λ (x : Id). get_or (set reached id.index (Some number)) x.index None) (sym ids) ∙ (get_or-set_same reached id.index (Some number) None room ∙ ap Some counted), same id.index ∙ ap (λ (x : Id). get_or lasts x.index None) ids)

    others : (k : Id) → (Some id ≡ Some k → ⊥) → get_or (set reached id.index (Some number)) k.index None ≡ get_or lasts k.index None
    others k other = get_or-set_other reached id.index k.index (Some number) None (λ e. other (ap Some (sym (same_id k id e)))) ∙ same k.index

-- chains that are copied
pub chains_same : (ends : List (Option Id)) (old new : Chains) → new.last.items ≡ old.last.items → new.previous.items ≡ old.previous.items → AreChained ends old.last.items old.previous.items → AreChained ends new.last.items new.previous.items
chains_same ends old new last previous h = subst (λ ls. AreChained ends ls new.previous.items) (sym last) (subst (λ bs. AreChained ends old.last.items bs) (sym previous) h)

-- no entries
pub none_chained : (lasts befores : List (Option ℕ)) → lasts ≡ [] → befores ≡ [] → AreChained [] lasts befores
none_chained lasts befores no_last no_before = subst (λ ls. AreChained [] ls befores) (sym no_last) (subst (λ bs. AreChained [] [] bs) (sym no_before) (record {
  last = λ id. subst (λ o. IsLastBefore [] id 1 o) (sym (nothing id.index)) (λ n less at. nowhere n at);
  before = λ n id at. absurd (nowhere n at);
  long = refl;
}))
  where
    nothing : (i : ℕ) → get_or {A = Option ℕ} [] i None ≡ None
    nothing zero = refl
    nothing (suc i) = refl

    nowhere : {x : Option Id} (n : ℕ) → numbered [] n ≡ Some x → ⊥
    nowhere zero at = cc
    nowhere (suc n) at = cc

-- The entries that end with the id, down to a bound, are among the numbers, and the next one is the last before it.
pub record AreCollected (ends : List (Option Id)) (id : Id) (numbers : List ℕ) (next : Option ℕ) : Type 0 where
  pub bound : ℕ
  pub next_is : IsLastBefore ends id bound next
  pub those : (n : ℕ) → IsAmong numbers n → numbered ends n ≡ Some (Some id)
  pub every : (n : ℕ) → numbered ends n ≡ Some (Some id) → (n < bound) ⊎ IsAmong numbers n

pub none_collected : (ends : List (Option Id)) (lasts befores : List (Option ℕ)) (id : Id) (numbers : List ℕ) (next : Option ℕ) → AreChained ends lasts befores → numbers ≡ [] → next ≡ get_or lasts id.index None → AreCollected ends id numbers next
none_collected ends lasts befores id numbers next h none is = record {
  bound = suc (length ends);
  next_is = subst (λ o. IsLastBefore ends id (suc (length ends)) o) (sym is) (h.last id);
  those = λ n among. absurd (subst (λ (ns : List ℕ). IsAmong ns n) none among);
  every = λ n at. inl (let within = (numbered_within ends n (Some id) at).1 in omega (arith, within));
}

-- the next one stands among the entries
pub next_there : (ends : List (Option Id)) (id : Id) (numbers : List ℕ) (next : Option ℕ) (n : ℕ) → next ≡ Some n → AreCollected ends id numbers next → numbered ends n ≡ Some (Some id)
next_there ends id numbers next n is h =
    let last : IsLastBefore ends id h.bound (Some n) = subst (λ o. IsLastBefore ends id h.bound o) is h.next_is in
    last.1

-- so it is one of theirs
pub next_within : (ends : List (Option Id)) (lasts befores : List (Option ℕ)) (id : Id) (numbers : List ℕ) (next : Option ℕ) (n : ℕ) → AreChained ends lasts befores → next ≡ Some n → AreCollected ends id numbers next → (0 < n) × (n ≤ length befores)
next_within ends lasts befores id numbers next n chained is h =
    let within = numbered_within ends n (Some id) (next_there ends id numbers next n is h) in
    let long = chained.long in
    (within.0, omega (arith, within.1, long))

-- one number more
pub more_collected : (ends : List (Option Id)) (lasts befores : List (Option ℕ)) (id : Id) (numbers : List ℕ) (next : Option ℕ) (n : ℕ) (after : Option ℕ) → AreChained ends lasts befores → next ≡ Some n → after ≡ get_or befores (n - 1) None → AreCollected ends id numbers next → AreCollected ends id (numbers ++ n ∷ []) after
more_collected ends lasts befores id numbers next n after chained is here h =
    let last : IsLastBefore ends id h.bound (Some n) = subst (λ o. IsLastBefore ends id h.bound o) is h.next_is in
    record {
      bound = n;
      next_is = subst (λ o. IsLastBefore ends id n o) (sym here) (chained.before n id last.1);
      those = λ k among. elim (push_among numbers n k among) as (λ _. numbered ends k ≡ Some (Some id)) [
        | inl there ↦ h.those k there
        | inr same ↦ subst (λ j. numbered ends j ≡ Some (Some id)) same last.1
      ];
      every = λ k at. every last k at (h.every k at);
    }
  where
    every : IsLastBefore ends id h.bound (Some n) → (k : ℕ) → numbered ends k ≡ Some (Some id) → (k < h.bound) ⊎ IsAmong numbers k → (k < n) ⊎ IsAmong (numbers ++ n ∷ []) k
    every last k at (inr among) = inr (among_push numbers n k among)
    every last k at (inl below) = elim (cases_lt k n) as (λ _. (k < n) ⊎ IsAmong (numbers ++ n ∷ []) k) [
      | inl less ↦ inl less
      | inr most ↦ inr (elim (cases_lt n k) as (λ _. IsAmong (numbers ++ n ∷ []) k) [
        | inl more ↦ absurd (last.2 k more below at)
        | inr least ↦ (let same : n ≡ k = omega (arith, most, least) in subst (λ j. IsAmong (numbers ++ n ∷ []) j) same (among_last numbers n))
      ])
    ]

-- where none is next, they are all
pub all_collected : (ends : List (Option Id)) (id : Id) (numbers : List ℕ) (next : Option ℕ) → next ≡ None → AreCollected ends id numbers next → AreThose ends id numbers
all_collected ends id numbers next is h =
    let none : IsLastBefore ends id h.bound None = subst (λ o. IsLastBefore ends id h.bound o) is h.next_is in
    record {
      those = h.those;
      every = λ n at. elim (h.every n at) as (λ _. IsAmong numbers n) [
        | inl below ↦ absurd (none n below at)
        | inr among ↦ among
      ];
    }

-- the numbers fall
pub next_falls : (ends : List (Option Id)) (lasts befores : List (Option ℕ)) (id : Id) (n : ℕ) (o : Option ℕ) → AreChained ends lasts befores → numbered ends n ≡ Some (Some id) → o ≡ get_or befores (n - 1) None → unwrap_or o 0 < n
next_falls ends lasts befores id n o chained at is = go o (subst (λ p. IsLastBefore ends id n p) (sym is) (chained.before n id at))
  where
    go : (o : Option ℕ) → IsLastBefore ends id n o → unwrap_or o 0 < n
    go None h = (numbered_within ends n (Some id) at).0
    go (Some m) h = h.0
