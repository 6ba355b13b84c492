-- Facts: readers of hypotheses and of conclusions tell their first fault.
use Rattle.std.proofs.Common.{◌≡◌, ℕ, ◌+◌, ◌==◌, inl, inr, if◌then◌else◌, Bool, true, false, List, [], ◌∷◌, ◌++◌, drop, codes, refl, sym, ◌∙◌, ap}
use Rattle.spec_trees.specs.Tree.{Leaf, Node}
use Rattle.spec_calculus.specs.Syntax.{Protocol}
use Rattle.spec_protocol_tokens.specs.Bytes.{begins_word}
use Rattle.spec_terms.specs.Term.{Term}
use Rattle.spec_clauses.specs.Fact.{Fact, Tab, Ev, Mev, Bad}
use Rattle.spec_certificate_text.specs.Loose.{Applied, Tupled, Made, Attackers, Loose, onto}
use Rattle.spec_certificate_text.specs.Spelled.{IsWord}
use Rattle.spec_certificate_text.specs.OfProtocol.{HasNames}
use Rattle.spec_certificate_text.specs.Names.{with_tables}
use Rattle.spec_certificate_text.specs.Terms.{Syntax}
use Rattle.spec_certificate_text.specs.Outcomes.{Found, Faulty, next, front, Reader, read_fixed}
use Rattle.spec_certificate_text.specs.Facts.{read_terms, Performed, read_event, read_entry, read_att, read_mess, read_tab, read_ev, read_mev, bad_arguments, read_bad, read_mev_or_mess, read_hypothesis, read_conclusion}
use Rattle.spec_certificate_text.proofs.Parts.{other_byte}
use Rattle.spec_reading_faults.proofs.Shared.{IsLocal, choice_local}
use Rattle.spec_reading_faults.proofs.Facts.{mev_or_mess-local}
use Rattle.spec_certificate_faults.specs.Grammar.{IsInGrammar, EndsAt}
use Rattle.spec_certificate_faults.specs.First.{Kind, IsTermText}
use Rattle.spec_first_faults.specs.Kinds.{fixed, behind, one_of, last, further}
use Rattle.spec_first_faults.specs.Facts.{arguments, event_goes_on, events, entries, known, sent, stored, performed, violated, hypotheses, conclusions}
use Rattle.spec_first_faults.proofs.Tells.{Anything, Tells, mapped, mapped_tells, same_tells, tells_of}
use Rattle.spec_first_faults.proofs.Behind.{then_read}
use Rattle.spec_first_faults.proofs.OneOf.{chosen, IsToldBy, told_by_front, told_by_fixed, told_alone, either_told, one_of_tells}
use Rattle.spec_first_faults.proofs.Closed.{closed_by, closed_tells, behind_fixed, closed_thing}
use Rattle.spec_first_faults.proofs.Messages.{known_tells, sent_tells}
use Rattle.spec_first_faults.proofs.Events.{arguments_tell, events_tell}
use Rattle.spec_first_faults.proofs.Tables.{names_with_tables, entry_as}

-- one of two, of any bytes
pub choice_tells : {A : Type 0} (K L : Kind) (test : List ℕ → Bool) (r s : Reader A) → Tells ⊥ K Anything Anything r → Tells ⊥ L Anything Anything s → IsToldBy K test true → IsToldBy L test false → IsLocal (chosen test r s) → Tells ⊥ (one_of K L) Anything Anything (chosen test r s)
choice_tells K L test r s first second of_first of_second local =
    one_of_tells K L Anything Anything test r s
    (tells_of K Anything (λ bs. Anything bs × (test bs ≡ true)) Anything r (λ bs of. tt) first)
    (tells_of L Anything (λ bs. Anything bs × (test bs ≡ false)) Anything s (λ bs of. tt) second) of_first of_second local

-- by the first byte
pub front_tells : {A : Type 0} (K L : Kind) (b : ℕ) (r s : Reader A) → Tells ⊥ K Anything Anything r → Tells ⊥ L Anything Anything s → IsToldBy K (λ bs. front bs == b) true → IsToldBy L (λ bs. front bs == b) false → Tells ⊥ (one_of K L) Anything Anything (chosen (λ bs. front bs == b) r s)
front_tells K L b r s first second of_first of_second = choice_tells K L (λ bs. front bs == b) r s first second of_first of_second (choice_local (λ c. c == b) r s first.local second.local)

-- Facts that speak of an event or an entry.

called_tells : (K : Kind) (r : Reader Performed) → Tells ⊥ K Anything (EndsAt event_goes_on) r → (word : List ℕ) (f : Performed → Fact Term) → Tells ⊥ (behind (fixed word) (behind K (fixed (codes ")")))) Anything Anything (then_read (read_fixed word) (λ _ _. then_read r (λ at e. closed_by (codes ")") (f e))))
called_tells K r tells word f =
    behind_fixed word (behind K (fixed (codes ")"))) Anything (λ _ _. then_read r (λ at e. closed_by (codes ")") (f e)))
    (λ at u. closed_thing K (EndsAt event_goes_on) (codes ")") r f tells (λ rest. refl))

performed_tells : (P : Protocol) → HasNames P → (word : List ℕ) (f : Performed → Fact Term) → Tells ⊥ (performed word P) Anything Anything (then_read (read_fixed word) (λ _ _. then_read (read_event P) (λ at e. closed_by (codes ")") (f e))))
performed_tells P names word f = called_tells (events P) (read_event P) (events_tell P names) word f

entries_tell : (P : Protocol) → HasNames P → Tells ⊥ (entries P) Anything (EndsAt event_goes_on) (read_entry P)
entries_tell P names = same_tells (entries P) Anything (EndsAt event_goes_on) (read_entry P) (read_event (with_tables P)) (entry_as P) (events_tell (with_tables P) (names_with_tables P names))

stored_tells : (P : Protocol) → HasNames P → Tells ⊥ (stored P) Anything Anything (read_tab P)
stored_tells P names = called_tells (entries P) (read_entry P) (entries_tell P names) (codes "tab(") (λ e. Tab e.event e.arguments)

ev_tells : (P : Protocol) → HasNames P → Tells ⊥ (performed (codes "ev(") P) Anything Anything (read_ev P)
ev_tells P names = performed_tells P names (codes "ev(") (λ e. Ev e.event e.arguments)

mev_tells : (P : Protocol) → HasNames P → Tells ⊥ (performed (codes "mev(") P) Anything Anything (read_mev P)
mev_tells P names = performed_tells P names (codes "mev(") (λ e. Mev e.event e.arguments)

-- What is violated.

word_front : (w k : List ℕ) → IsWord w → (front (w ++ k) == 41) ≡ false
word_front [] k is = absurd (let never : false ≡ true = is.begins in cc)
word_front (b ∷ w) k is = other_byte b 41 (λ same. let never : false ≡ true = ap begins_word (sym same) ∙ is.begins in absurd (cc))

-- no term begins with `)`
term_front : (t : Loose) (k : List ℕ) → IsInGrammar t → (front (onto t k) == 41) ≡ false
term_front (Leaf w) k (inl is) = word_front w k is
term_front (Leaf w) k (inr bound) = ap (λ u. front (u ++ k) == 41) bound.is
term_front (Node (Applied w) ts) k is = word_front w _ is.0
term_front (Node Tupled ts) k is = refl
term_front (Node (Made w ds) ts) k is = word_front w _ is.0.0
term_front (Node Attackers ts) k is = refl

term_text-front : (bytes rest : List ℕ) → IsTermText bytes rest → (front bytes == 41) ≡ false
term_text-front bytes rest is = ap (λ bs. front bs == 41) is.text ∙ term_front is.tree rest is.is

arguments_front : (P : Protocol) (bytes rest : List ℕ) → (arguments P).Text bytes rest → (front bytes == 41) ≡ false
arguments_front P bytes rest (last (mid, one, text)) = term_text-front bytes mid one
arguments_front P bytes rest (further inner (mid, one, text) more) = term_text-front bytes mid one

bad_as : (P : Protocol) (bytes : List ℕ) (at : ℕ) → bad_arguments P bytes at ≡ chosen (λ bs. front bs == 41) (closed_by (codes ")") []) (read_terms P) bytes at
unfolding read_fixed
bad_as P [] at = refl
bad_as P (b ∷ bytes) at = by (b == 41)
  where
    by : (t : Bool) → (if t then Found [] (at + 1) bytes else read_terms P (b ∷ bytes) at) ≡ (if t then next {A = Unit {0}} {B = List Term} (if t then Found tt (at + 1) bytes else Faulty at Syntax) (λ _ q r. Found [] q r) else read_terms P (b ∷ bytes) at)
    by true = refl
    by false = refl

bad_arguments-tell : (P : Protocol) → HasNames P → Tells ⊥ (one_of (fixed (codes ")")) (arguments P)) Anything Anything (bad_arguments P)
bad_arguments-tell P names =
    same_tells (one_of (fixed (codes ")")) (arguments P)) Anything Anything (bad_arguments P) (chosen (λ bs. front bs == 41) (closed_by (codes ")") []) (read_terms P)) (bad_as P)
    (front_tells (fixed (codes ")")) (arguments P) 41 (closed_by (codes ")") []) (read_terms P) (closed_tells (codes ")") []) (arguments_tell P names)
    (told_alone (codes ")") (λ bs. front bs == 41) true (λ rest. refl)) (told_by_front (arguments P) Anything (λ b. b == 41) false (arguments_tell P names).forms (arguments_front P)))

bad_tells : (P : Protocol) → HasNames P → Tells ⊥ (violated P) Anything Anything (read_bad P)
bad_tells P names =
    behind_fixed (codes "bad(") (one_of (fixed (codes ")")) (arguments P)) Anything (λ _ _. mapped (λ ts. Bad ts) (bad_arguments P))
    (λ at u. mapped_tells (one_of (fixed (codes ")")) (arguments P)) Anything Anything (bad_arguments P) (λ ts. Bad ts) (bad_arguments-tell P names))

-- Hypotheses and conclusions.

told_performed : (P : Protocol) (word : List ℕ) (test : List ℕ → Bool) (is : Bool) → ((rest : List ℕ) → test (word ++ rest) ≡ is) → IsToldBy (performed word P) test is
told_performed P word test is told = told_by_fixed word (behind (events P) (fixed (codes ")"))) test is told

told_known : (P : Protocol) (test : List ℕ → Bool) (is : Bool) → ((rest : List ℕ) → test (codes "att" ++ rest) ≡ is) → IsToldBy (known P) test is
told_known P test is told = told_by_fixed (codes "att") _ test is told

told_sent : (P : Protocol) (test : List ℕ → Bool) (is : Bool) → ((rest : List ℕ) → test (codes "mess" ++ rest) ≡ is) → IsToldBy (sent P) test is
told_sent P test is told = told_by_fixed (codes "mess") _ test is told

told_stored : (P : Protocol) (test : List ℕ → Bool) (is : Bool) → ((rest : List ℕ) → test (codes "tab(" ++ rest) ≡ is) → IsToldBy (stored P) test is
told_stored P test is told = told_by_fixed (codes "tab(") _ test is told

told_violated : (P : Protocol) (test : List ℕ → Bool) (is : Bool) → ((rest : List ℕ) → test (codes "bad(" ++ rest) ≡ is) → IsToldBy (violated P) test is
told_violated P test is told = told_by_fixed (codes "bad(") _ test is told

mev_or_mess-tell : (P : Protocol) → HasNames P → Tells ⊥ (one_of (performed (codes "mev(") P) (sent P)) Anything Anything (read_mev_or_mess P)
mev_or_mess-tell P names =
    let test = λ (bs : List ℕ). front (drop 2 bs) == 118 in
    choice_tells (performed (codes "mev(") P) (sent P) test (read_mev P) (read_mess P) (mev_tells P names) (sent_tells P names)
    (told_performed P (codes "mev(") test true (λ rest. refl)) (told_sent P test false (λ rest. refl)) (mev_or_mess-local P)

abbrev tab_or_att : Protocol → Reader (Fact Term)
tab_or_att P = chosen (λ bs. front bs == 116) (read_tab P) (read_att P)

tab_or_att-tell : (P : Protocol) → HasNames P → Tells ⊥ (one_of (stored P) (known P)) Anything Anything (tab_or_att P)
tab_or_att-tell P names =
    let is_t = λ (bs : List ℕ). front bs == 116 in
    front_tells (stored P) (known P) 116 (read_tab P) (read_att P) (stored_tells P names) (known_tells P names) (told_stored P is_t true (λ rest. refl)) (told_known P is_t false (λ rest. refl))

told_either : (P : Protocol) (test : List ℕ → Bool) (is : Bool) → ((rest : List ℕ) → test (codes "tab(" ++ rest) ≡ is) → ((rest : List ℕ) → test (codes "att" ++ rest) ≡ is) → IsToldBy (one_of (stored P) (known P)) test is
told_either P test is tab att = either_told (stored P) (known P) test is (told_stored P test is tab) (told_known P test is att)

pub hypotheses_tell : (P : Protocol) → HasNames P → Tells ⊥ (hypotheses P) Anything Anything (read_hypothesis P)
hypotheses_tell P names =
    let is_m = λ (bs : List ℕ). front bs == 109 in
    let is_e = λ (bs : List ℕ). front bs == 101 in
    let tab_or = one_of (stored P) (known P) in
    front_tells (one_of (performed (codes "mev(") P) (sent P)) (one_of (performed (codes "ev(") P) tab_or) 109 (read_mev_or_mess P) (chosen is_e (read_ev P) (tab_or_att P)) (mev_or_mess-tell P names)
    (front_tells (performed (codes "ev(") P) tab_or 101 (read_ev P) (tab_or_att P) (ev_tells P names) (tab_or_att-tell P names) (told_performed P (codes "ev(") is_e true (λ rest. refl)) (told_either P is_e false (λ rest. refl) (λ rest. refl)))
    (either_told (performed (codes "mev(") P) (sent P) is_m true (told_performed P (codes "mev(") is_m true (λ rest. refl)) (told_sent P is_m true (λ rest. refl)))
    (either_told (performed (codes "ev(") P) tab_or is_m false (told_performed P (codes "ev(") is_m false (λ rest. refl)) (told_either P is_m false (λ rest. refl) (λ rest. refl)))

pub conclusions_tell : (P : Protocol) → HasNames P → Tells ⊥ (conclusions P) Anything Anything (read_conclusion P)
conclusions_tell P names =
    let is_m = λ (bs : List ℕ). front bs == 109 in
    let is_e = λ (bs : List ℕ). front bs == 101 in
    let is_b = λ (bs : List ℕ). front bs == 98 in
    let tab_or = one_of (stored P) (known P) in
    let bad_or = one_of (violated P) tab_or in
    let ev_or = one_of (performed (codes "ev(") P) bad_or in
    front_tells (sent P) ev_or 109 (read_mess P) (chosen is_e (read_ev P) (chosen is_b (read_bad P) (tab_or_att P))) (sent_tells P names)
    (front_tells (performed (codes "ev(") P) bad_or 101 (read_ev P) (chosen is_b (read_bad P) (tab_or_att P)) (ev_tells P names)
    (front_tells (violated P) tab_or 98 (read_bad P) (tab_or_att P) (bad_tells P names) (tab_or_att-tell P names) (told_violated P is_b true (λ rest. refl)) (told_either P is_b false (λ rest. refl) (λ rest. refl)))
    (told_performed P (codes "ev(") is_e true (λ rest. refl))
    (either_told (violated P) tab_or is_e false (told_violated P is_e false (λ rest. refl)) (told_either P is_e false (λ rest. refl) (λ rest. refl))))
    (told_sent P is_m true (λ rest. refl))
    (either_told (performed (codes "ev(") P) bad_or is_m false (told_performed P (codes "ev(") is_m false (λ rest. refl))
    (either_told (violated P) tab_or is_m false (told_violated P is_m false (λ rest. refl)) (told_either P is_m false (λ rest. refl) (λ rest. refl))))

-- the first byte of a hypothesis is none of the others
pub hypothesis_front : (P : Protocol) (b : ℕ) → (109 == b) ≡ false → (101 == b) ≡ false → (116 == b) ≡ false → (97 == b) ≡ false → IsToldBy (hypotheses P) (λ bs. front bs == b) false
hypothesis_front P b no_m no_e no_t no_a =
    let test = λ (bs : List ℕ). front bs == b in
    either_told (one_of (performed (codes "mev(") P) (sent P)) (one_of (performed (codes "ev(") P) (one_of (stored P) (known P))) test false
    (either_told (performed (codes "mev(") P) (sent P) test false (told_performed P (codes "mev(") test false (λ rest. no_m)) (told_sent P test false (λ rest. no_m)))
    (either_told (performed (codes "ev(") P) (one_of (stored P) (known P)) test false (told_performed P (codes "ev(") test false (λ rest. no_e)) (told_either P test false (λ rest. no_t) (λ rest. no_a)))
