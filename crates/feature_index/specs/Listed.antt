-- What an index holds: entries with the features of their clauses, in ascending order.
use Rattle.std.specs.Prelude.{◌≡◌, ℕ, ◌+◌, ◌≤◌, Bool, true, not, nat_eq, nat_lt, cond, List, [], ◌∷◌, map, filter, refl}
use Rattle.std.specs.List.{list_any}
use Rattle.std.specs.Coded.{Coded, code_by, coded×, coded_ℕ, coded_list}
use Rattle.spec_clauses.specs.Inclusion.{Has}
use Rattle.spec_features.specs.Features.{are_at_most}

pub record Listed : Type 0 where
  pub entry : ℕ
  pub features : List ℕ

abbrev pub entries_of : List Listed → List ℕ
entries_of ls = map (λ l. l.entry) ls

-- the numbers ascend, from at least this one on
abbrev pub IsAscending : ℕ → List ℕ → Type 0
IsAscending least [] = Unit {0}
IsAscending least (n ∷ ns) = (least ≤ n) × IsAscending (n + 1) ns

-- whether the entry is there
abbrev pub is_listed : ℕ → List Listed → Bool
is_listed e ls = list_any (λ l. nat_eq e l.entry) ls

-- one entry more, before the first greater one
abbrev pub with_entry : Listed → List Listed → List Listed
with_entry new [] = new ∷ []
with_entry new (l ∷ ls) = cond (nat_lt l.entry new.entry) (l ∷ with_entry new ls) (new ∷ l ∷ ls)

-- all but an entry
abbrev pub without_entry : ℕ → List Listed → List Listed
without_entry e ls = filter (λ l. not (nat_eq e l.entry)) ls

-- the entries none of whose features is greater than these
abbrev pub candidates_of : List ℕ → List Listed → List ℕ
candidates_of features ls = entries_of (filter (λ l. are_at_most l.features features) ls)

-- the entry is in the list, with features of which none is greater than these
pub record IsCandidate (features : List ℕ) (ls : List Listed) (e : ℕ) : Type 0 where
  pub listed : Listed
  pub there : Has ls listed
  pub entry : listed.entry ≡ e
  pub passes : are_at_most listed.features features ≡ true

-- how contracts store such lists
abbrev pub coded_listed : Coded (List Listed)
coded_listed = coded_list (code_by (ℕ × List ℕ) (coded× coded_ℕ (coded_list coded_ℕ)) (λ l. (l.entry, l.features)) (λ p. record { entry = p.0; features = p.1 }) (λ _. refl))
