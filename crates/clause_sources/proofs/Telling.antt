-- The sources of a raw clause, part by part.
use Rattle.std.proofs.Common.{◌≡◌, ◌∙◌, ℕ, ◌+◌, ◌<◌, Bool, true, false, List, [], ◌∷◌, ◌++◌, cond, None, Some, is_some, map, flat_map, filter_map, length, take, get_or, refl, ap, sym, append_assoc, append-nil}
use Rattle.std.specs.List.{enumerate_from, cons_option}
use Rattle.std.proofs.lemmas.List.{map-append, take_more}
use Rattle.std.proofs.lemmas.Grind.{flat_map-append}
use Rattle.spec_terms.specs.Term.{Term}
use Rattle.spec_clauses.specs.Fact.{Clause}
use Rattle.spec_clauses.specs.Norm.{norm}
use Rattle.spec_clauses.specs.Flat.{flat_parts}
use Rattle.spec_attack_runs.specs.Source.{Action, Source, numbered_source, part_source, sources_of}
use Rattle.spec_attack_runs.specs.Gathered.{Deed}
use Rattle.clause_sources.specs.Listed.{told_number, told_numbers, Tells}

-- the source of a part of that number
abbrev pub source_at : Action → Clause Term → ℕ → Source
source_at action raw part = numbered_source (record { raw = raw; part = part; action = action })

one_told : (action : Action) (raw : Clause Term) (n : ℕ) (says : Bool) (ns : List ℕ) (xs : List Source) → map (source_at action raw) ns ≡ xs
    → map (source_at action raw) (cons_option (cond says (Some n) None) ns) ≡ cons_option (cond says (Some (source_at action raw n)) None) xs
one_told action raw n true ns xs e = ap (λ l. source_at action raw n ∷ l) e
one_told action raw n false ns xs e = e

told_from : (action : Action) (raw : Clause Term) (n : ℕ) (parts : List (Clause Term))
    → map (source_at action raw) (filter_map told_number (enumerate_from n parts)) ≡ filter_map (part_source action raw) (enumerate_from n parts)
told_from action raw n [] = refl
told_from action raw n (part ∷ parts) = one_told action raw n (is_some (norm part)) (filter_map told_number (enumerate_from (n + 1) parts))
    (filter_map (part_source action raw) (enumerate_from (n + 1) parts)) (told_from action raw (n + 1) parts)

-- the sources of a raw clause are those of its parts that say something
pub sources_are : (action : Action) (raw : Clause Term) → map (source_at action raw) (told_numbers (flat_parts raw)) ≡ sources_of action raw
sources_are action raw = told_from action raw 1 (flat_parts raw)

-- one raw clause in a list
pub one_deed : (action : Action) (raw : Clause Term) → flat_map (λ (deed : Action × Clause Term). sources_of deed.0 deed.1) ((action, raw) ∷ []) ≡ sources_of action raw
one_deed action raw = append-nil (sources_of action raw)

-- one more source is told
pub one_source : (action : Action) (raw : Clause Term) (before now next : List Source) (told : List ℕ) (i : ℕ) (source : Source) → i < length told
    → now ≡ before ++ map (source_at action raw) (take i told) → source ≡ source_at action raw (get_or told i 0) → next ≡ now ++ source ∷ [] → next ≡ before ++ map (source_at action raw) (take (i + 1) told)
one_source action raw before now next told i source within was made e =
    let f = source_at action raw in
    e ∙ ((λ k. was k ++ made k ∷ []) ∙ (append_assoc before (map f (take i told)) (f (get_or told i 0) ∷ [])
    ∙ ap (λ l. before ++ l) (sym (map-append f (take i told) (get_or told i 0 ∷ [])) ∙ ap (map f) (sym (take_more told i 0 within)))))

-- what is told first and then, and nothing
pub told_twice : (a b c : List Source) (xs ys : List Deed) → Tells a b xs → Tells b c ys → Tells a c (xs ++ ys)
told_twice a b c xs ys first second =
    let f : Deed → List Source = λ deed. sources_of deed.0 deed.1 in
    second ∙ (ap (λ l. l ++ flat_map f ys) first ∙ (append_assoc a (flat_map f xs) (flat_map f ys) ∙ ap (λ l. a ++ l) (sym (flat_map-append f xs ys))))

pub none_told : (a : List Source) → Tells a a []
none_told a = sym (append-nil a)
