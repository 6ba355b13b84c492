-- Texts with terms, one behind the other, and item by item.
use Rattle.std.proofs.Common.{◌≡◌, ℕ, zero, suc, ◌+◌, ◌<◌, ◌≤◌, List, [], ◌∷◌, ◌++◌, length, map, take, drop, get_or, refl, sym, ◌∙◌, ap, subst, arith}
use Rattle.std.specs.Prelude.{flat_map}
use Rattle.std.proofs.lemmas.List.{append_assoc, append-nil}
use Rattle.spec_terms.specs.Term.{Term}
use Rattle.clause_form.proofs.Lists.{flat_map_more, flat_map_all}
use Rattle.cert_form.specs.Appends.{Appends}
use Rattle.cert_form.specs.Remaining.{HasPut}
use Rattle.cert_form.specs.Writing.{Writes}
use Rattle.cert_form.proofs.Items.{then, GoesOn, one_more, all_put}

-- the text of a term, and a text that is told by those of its terms
abbrev pub One : Type 0
One = Term → List ℕ → List ℕ

abbrev pub Text : Type 0
Text = One → List ℕ → List ℕ

-- of a list of items each with terms, those up to an item, of it, and behind it
split_at : {A : Type 0} (g : A → List Term) (items : List A) (n : ℕ) (x : A) → n < length items → x ≡ get_or items n x → flat_map g items ≡ flat_map g (take n items) ++ (g x ++ flat_map g (drop (suc n) items))
split_at g [] n x below is = absurd (omega arith)
split_at g (y ∷ ys) zero x below is = ap (λ z. g z ++ flat_map g ys) (sym is)
split_at g (y ∷ ys) (suc n) x below is =
    ap (λ l. g y ++ l) (split_at g ys n x (omega arith) is) ∙ sym (append_assoc (g y) (flat_map g (take n ys)) (g x ++ flat_map g (drop (suc n) ys)))

pub flat_map-map : {A X : Type 0} (f : A → X) (g : X → List Term) (items : List A) → flat_map (λ x. g (f x)) items ≡ flat_map g (map f items)
flat_map-map f g [] = refl
flat_map-map f g (y ∷ ys) = ap (λ l. g (f y) ++ l) (flat_map-map f g ys)

pub single : (ts : List Term) → flat_map (λ t. t ∷ []) ts ≡ ts
single [] = refl
single (t ∷ ts) = ap (λ us. t ∷ us) (single ts)

module _ (kept_of : List Term → List Term) (one : List Term → One) where
  -- bytes without terms, before a text and behind it
  pub bytes_then : (f : List ℕ → List ℕ) (ts : List Term) (g : Text) (k l : List Term) (a b c : List ℕ) → Appends f a b → Writes kept_of one ts g k l b c → Writes kept_of one ts (λ o rest. f (g o rest)) k l a c
  bytes_then f ts g k l a b c first second = record {
    keeps = second.keeps;
    puts = λ earlier later e. then f (g (one (earlier ++ (ts ++ later)))) a b c first (second.puts earlier later e);
  }

  pub then_bytes : (ts : List Term) (f : Text) (g : List ℕ → List ℕ) (k l : List Term) (a b c : List ℕ) → Writes kept_of one ts f k l a b → Appends g b c → Writes kept_of one ts (λ o rest. f o (g rest)) k l a c
  then_bytes ts f g k l a b c first second = record {
    keeps = first.keeps;
    puts = λ earlier later e. then (f (one (earlier ++ (ts ++ later)))) g a b c (first.puts earlier later e) second;
  }

  pub between : (f : List ℕ → List ℕ) (ts : List Term) (g : Text) (h : List ℕ → List ℕ) (k l : List Term) (a b c d : List ℕ) → Appends f a b → Writes kept_of one ts g k l b c → Appends h c d → Writes kept_of one ts (λ o rest. f (g o (h rest))) k l a d
  between f ts g h k l a b c d first second third = bytes_then f ts (λ o rest. g o (h rest)) k l a b d first (then_bytes ts g h k l b c d second third)

  -- one text behind another
  pub and_then : (ts us : List Term) (f g : Text) (k l m : List Term) (a b c : List ℕ) → Writes kept_of one ts f k l a b → Writes kept_of one us g l m b c → Writes kept_of one (ts ++ us) (λ o rest. f o (g o rest)) k m a c
  and_then ts us f g k l m a b c first second = record {
    keeps = λ earlier e. second.keeps (earlier ++ ts) (first.keeps earlier e) ∙ ap kept_of (append_assoc earlier ts us);
    puts = λ earlier later e.
        let whole = earlier ++ ((ts ++ us) ++ later) in
        let before : earlier ++ (ts ++ (us ++ later)) ≡ whole = ap (λ l. earlier ++ l) (sym (append_assoc ts us later)) in
        let behind : (earlier ++ ts) ++ (us ++ later) ≡ whole = append_assoc earlier ts (us ++ later) ∙ before in
        let first_put = subst (λ all. Appends (f (one all)) a b) before (first.puts earlier (us ++ later) e) in
        let second_put = subst (λ all. Appends (g (one all)) b c) behind (second.puts (earlier ++ ts) later (first.keeps earlier e)) in
        then (f (one whole)) (g (one whole)) a b c first_put second_put;
  }

  -- the same text of the same terms
  pub written_as : (ts us : List Term) (f g : Text) (k l : List Term) (a b : List ℕ) → ts ≡ us → ((o : One) (rest : List ℕ) → f o rest ≡ g o rest) → Writes kept_of one ts f k l a b → Writes kept_of one us g k l a b
  written_as ts us f g k l a b terms same written = subst (λ vs. Writes kept_of one vs g k l a b) terms record {
    keeps = written.keeps;
    puts = λ earlier later e. record {
      is = λ rest. (written.puts earlier later e).is rest ∙ ap (λ bytes. a ++ bytes) (same (one (earlier ++ (ts ++ later))) rest);
    };
  }

-- Of the items, each with terms, whose text from a place on is as told, those before the place were written.
pub record HasWritten {A X : Type 0} (kept_of : List Term → List Term) (one : List Term → One) (f : A → X) (terms : X → List Term) (from : One → ℕ → List X → List ℕ → List ℕ) (n : ℕ) (xs : List X) (items : List A) (kept now : List Term) (before after : List ℕ) : Type 0 where
  pub keeps : (earlier : List Term) → kept ≡ kept_of earlier → now ≡ kept_of (earlier ++ flat_map (λ x. terms (f x)) (take n items))
  pub puts : (earlier later : List Term) → kept ≡ kept_of earlier → HasPut (from (one (earlier ++ (flat_map (λ x. terms (f x)) items ++ later)))) n xs before after

module _ {A X : Type 0} (kept_of : List Term → List Term) (one : List Term → One) (f : A → X) (terms : X → List Term) (from : One → ℕ → List X → List ℕ → List ℕ) where
  pub none_written : (xs : List X) (items : List A) (kept : List Term) (bytes : List ℕ) → HasWritten kept_of one f terms from 0 xs items kept kept bytes bytes
  none_written xs items kept bytes = record {
    keeps = λ earlier e. e ∙ ap kept_of (sym (append-nil earlier));
    puts = λ earlier later e. record { is = λ rest. refl };
  }

  pub one_written : (text : One → ℕ → X → List ℕ → List ℕ) → ((o : One) → GoesOn (from o) (text o)) → (xs : List X) (items : List A) (n : ℕ) (x : A) (kept now next : List Term) (start before after : List ℕ) → map f items ≡ xs → HasWritten kept_of one f terms from n xs items kept now start before
      → n < length items → x ≡ get_or items n x → Writes kept_of one (terms (f x)) (λ o. text o n (f x)) now next before after → HasWritten kept_of one f terms from (n + 1) xs items kept next start after
  one_written text goes_on xs items n x kept now next start before after are has below is written =
      let g : A → List Term = λ y. terms (f y) in
      let done = flat_map g (take n items) in
      let more : flat_map g (take (n + 1) items) ≡ done ++ g x = flat_map_more g items n x below ∙ ap (λ y. done ++ g y) (sym is) in
      record {
        keeps = λ earlier e. written.keeps (earlier ++ done) (has.keeps earlier e) ∙ ap kept_of (append_assoc earlier done (g x) ∙ ap (λ l. earlier ++ l) (sym more));
        puts = λ earlier later e.
            let ahead = flat_map g (drop (suc n) items) ++ later in
            let whole = earlier ++ (flat_map g items ++ later) in
            let split : flat_map g items ++ later ≡ done ++ (g x ++ ahead) =
            ap (λ l. l ++ later) (split_at g items n x below is)
            ∙ (append_assoc done (g x ++ flat_map g (drop (suc n) items)) later ∙ ap (λ l. done ++ l) (append_assoc (g x) (flat_map g (drop (suc n) items)) later)) in
            let around : (earlier ++ done) ++ (g x ++ ahead) ≡ whole = append_assoc earlier done (g x ++ ahead) ∙ ap (λ l. earlier ++ l) (sym split) in
            let put = subst (λ all. Appends (text (one all) n (f x)) before after) around (written.puts (earlier ++ done) ahead (has.keeps earlier e)) in
            one_more f (from (one whole)) (text (one whole)) (goes_on (one whole)) xs items n x start before after are (has.puts earlier later e) below is put;
      }

  pub all_written : (end : ℕ → List ℕ → List ℕ) → ((o : One) (n : ℕ) (rest : List ℕ) → from o n [] rest ≡ end n rest) → (xs : List X) (items : List A) (n : ℕ) (kept now : List Term) (start listed after : List ℕ) → map f items ≡ xs → HasWritten kept_of one f terms from n xs items kept now start listed
      → length items ≤ n → Appends (end n) listed after → Writes kept_of one (flat_map terms xs) (λ o. from o 0 xs) kept now start after
  all_written end ends xs items n kept now start listed after are has past put =
      let g : A → List Term = λ y. terms (f y) in
      let same : flat_map g items ≡ flat_map terms xs = flat_map-map f terms items ∙ ap (flat_map terms) are in
      subst (λ ts. Writes kept_of one ts (λ o. from o 0 xs) kept now start after) same record {
        keeps = λ earlier e. has.keeps earlier e ∙ ap (λ l. kept_of (earlier ++ l)) (flat_map_all g items n past);
        puts = λ earlier later e. let whole = one (earlier ++ (flat_map g items ++ later)) in all_put f (from whole) end (ends whole) xs items n start listed after are (has.puts earlier later e) past put;
      }
