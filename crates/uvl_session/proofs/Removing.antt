-- A list of sessions without one of them.
use Rattle.std.proofs.Common.{◌≡◌, ◌+◌, ◌<◌, ℕ, zero, suc, true, false, List, [], ◌∷◌, length, get_or, map, Some, None, option_map, refl, sym, ap, ◌∙◌, subst, arith}
use Rattle.std.specs.Prelude.{if◌then◌else◌, string_bytes}
use Rattle.std.specs.List.{All, Contains, remove}
use Rattle.std.proofs.lemmas.Bool.{false_from_ne_true}
use Rattle.std.proofs.lemmas.List.Elements.{All-nil, All-cons, All-head, All-tail, All-get_or, All-from_get_or, All-weaker}
use Rattle.std.proofs.lemmas.Slice.Eq.{bytes_eq-Decides}
use Rattle.dd_store.specs.declared.row.Var.{Var}
use Rattle.dd_store.specs.Changes.{Keeps}
use Rattle.dd_store.specs.Handles.{LosesHandle, count_on, one_on}
use Rattle.dd_store.specs.Table.{Table, IsLive, handles_on}
use Rattle.dd_store.proofs.CountLemmas.{one_on-itself}
use Rattle.uvl_model.specs.Rows.{Rows}
use Rattle.uvl_model.specs.Sound.{AreDistinct}
use Rattle.uvl_session.specs.declared.sessions.OpenSession.{OpenSession}
use Rattle.uvl_session.specs.Desk.{IsSession, IsKept}
use Rattle.uvl_session.specs.Numbered.{all_of, session_of}
use Rattle.uvl_session.specs.Sessions.{OthersStay, find_session, is_named, session_at}
use Rattle.uvl_session.proofs.Adding.{compiled-still, decided-still}
use Rattle.uvl_session.proofs.Changes.{named_otherwise}

abbrev name_in : OpenSession → List ℕ
name_in it = string_bytes it.name

abbrev handle_of : OpenSession → ℕ
handle_of it = it.agreeing

-- a name that is none of theirs
not-there : (list : List OpenSession) (name : List ℕ) → (Contains (map name_in list) name → ⊥) → find_session list name ≡ None
not-there [] name out = refl
not-there (it ∷ rest) name out =
    ap (λ b. if b then Some it else find_session rest name)
    (false_from_ne_true _ (λ here. out (0, omega arith, (bytes_eq-Decides (string_bytes it.name) name).0 here)))
    ∙ not-there rest name (λ (k, within, at). out (suc k, omega (arith, within), at))

-- the one that is taken out was the only one of its name
pub removed_none : (list : List OpenSession) (name : List ℕ) (i : ℕ) (d : OpenSession) → i < length list → AreDistinct (map name_in list) → is_named name (get_or list i d) ≡ true
    → ((k : ℕ) → k < i → is_named name (get_or list k d) ≡ false) → find_session (remove list i) name ≡ None
removed_none [] name i d within apart here none = absurd (omega arith)
removed_none (it ∷ rest) name zero d within apart here none =
    not-there rest name (λ there. apart.0 (subst (λ (n : List ℕ). Contains (map name_in rest) n) (sym ((bytes_eq-Decides (string_bytes it.name) name).0 here)) there))
removed_none (it ∷ rest) name (suc i) d within apart here none =
    ap (λ b. if b then Some it else find_session (remove rest i) name) (none 0 (omega arith))
    ∙ removed_none rest name i d (omega arith) apart.1 here (λ k less. none (suc k) (omega arith))

-- under other names all is as before
pub removed_others : (list : List OpenSession) (other : List ℕ) (i : ℕ) (d : OpenSession) → i < length list → is_named other (get_or list i d) ≡ false
    → find_session (remove list i) other ≡ find_session list other
removed_others [] other i d within out = absurd (omega arith)
removed_others (it ∷ rest) other zero d within out = sym (ap (λ b. if b then Some it else find_session rest other) out)
removed_others (it ∷ rest) other (suc i) d within out = ap (λ o. if is_named other it then Some it else o) (removed_others rest other i d (omega arith) out)

-- what is left was there
contains-removed : (list : List OpenSession) (i : ℕ) (name : List ℕ) → i < length list → Contains (map name_in (remove list i)) name → Contains (map name_in list) name
contains-removed [] i name less there = absurd (omega arith)
contains-removed (it ∷ rest) zero name less (k, within, at) = (suc k, omega (arith, within), at)
contains-removed (it ∷ rest) (suc i) name less (zero, within, at) = (0, omega arith, at)
contains-removed (it ∷ rest) (suc i) name less (suc k, within, at) =
    let (j, inside, is) = contains-removed rest i name (omega arith) (k, omega (arith, within), at) in
    (suc j, omega (arith, inside), is)

removed_apart : (list : List OpenSession) (i : ℕ) → i < length list → AreDistinct (map name_in list) → AreDistinct (map name_in (remove list i))
removed_apart [] i less apart = absurd (omega arith)
removed_apart (it ∷ rest) zero less apart = apart.1
removed_apart (it ∷ rest) (suc i) less apart = ((λ there. apart.0 (contains-removed rest i (name_in it) (omega arith) there)), removed_apart rest i (omega arith) apart.1)

removed_count : (list : List OpenSession) (i : ℕ) (d : OpenSession) (n : ℕ) → i < length list
    → count_on (map handle_of list) n ≡ count_on (map handle_of (remove list i)) n + one_on (get_or list i d).agreeing n
removed_count [] i d n less = absurd (omega arith)
removed_count (it ∷ rest) zero d n less = omega arith
removed_count (it ∷ rest) (suc i) d n less = let more = removed_count rest i d n (omega arith) in omega arith

removed_length : (list : List OpenSession) (i : ℕ) → i < length list → length (remove list i) + 1 ≡ length list
removed_length [] i less = absurd (omega arith)
removed_length (it ∷ rest) zero less = omega arith
removed_length (it ∷ rest) (suc i) less = let more = removed_length rest i (omega arith) in omega arith

removed_all : (P : OpenSession → Type 0) (list : List OpenSession) (i : ℕ) → i < length list → All P list → All P (remove list i)
removed_all P [] i less all = absurd (omega arith)
removed_all P (it ∷ rest) zero less all = All-tail P it rest all
removed_all P (it ∷ rest) (suc i) less all = All-cons P it (remove rest i) (All-head P it rest all) (removed_all P rest i (omega arith) (All-tail P it rest all))

-- the handle of each is counted
pub counted : (list : List OpenSession) → All (λ it. 0 < count_on (map handle_of list) it.agreeing) list
counted [] = All-nil (λ it. 0 < count_on (map handle_of []) it.agreeing)
counted (it ∷ rest) =
    All-cons (λ (s : OpenSession). 0 < count_on (map handle_of (it ∷ rest)) s.agreeing) it rest
    (let own = one_on-itself it.agreeing in omega arith)
    (All-weaker (λ (s : OpenSession). 0 < count_on (map handle_of rest) s.agreeing) (λ (s : OpenSession). 0 < count_on (map handle_of (it ∷ rest)) s.agreeing)
    (λ s more. omega (arith, more)) rest (counted rest))

-- its handle is given back
pub removed_kept : (rows : Rows) (t u : Table) (vars : List Var) (products : ℕ) (list : List OpenSession) (i : ℕ) (d : OpenSession) → i < length list
    → Keeps t u → LosesHandle t u (get_or list i d).agreeing → IsKept rows t vars products list → IsKept rows u vars products (remove list i)
removed_kept rows t u vars products list i d within keeps lost kept =
    let handles : (n : ℕ) → handles_on u n ≡ one_on products n + count_on (map handle_of (remove list i)) n =
    (λ n. let less = lost.each n in let before = kept.handles n in let parts = removed_count list i d n within in omega arith) in
    let main-live : IsLive u products = (let here = handles products in let own = one_on-itself products in omega arith) in
    let left = remove list i in
    let before = removed_all (IsSession rows t vars) list i within kept.sessions.each in
    record {
      main = compiled-still rows t u vars products keeps main-live kept.main;
      sessions = record {
        each = All-from_get_or (IsSession rows u vars) left d (λ k inside.
            let s = get_or left k d in
            let one = All-get_or (λ (it : OpenSession). 0 < count_on (map handle_of left) it.agreeing) left k d inside (counted left) in
            let live : IsLive u s.agreeing = (let here = handles s.agreeing in omega arith) in
            decided-still rows t u vars (all_of s.stages) s.agreeing keeps live (All-get_or (IsSession rows t vars) left k d inside before));
        apart = removed_apart list i within kept.sessions.apart;
        few = let less = removed_length list i within in let some = kept.sessions.few in omega arith;
      };
      handles = handles;
    }

pub removed_at : (rows : Rows) (list : List OpenSession) (name : List ℕ) (i : ℕ) (d : OpenSession) → i < length list → AreDistinct (map name_in list)
    → is_named name (get_or list i d) ≡ true → ((k : ℕ) → k < i → is_named name (get_or list k d) ≡ false) → session_at rows (remove list i) name ≡ None
removed_at rows list name i d within apart here none =
    ap (option_map (λ it. session_of rows it.stages)) (removed_none list name i d within apart here none)

pub removed_rest : (rows : Rows) (list : List OpenSession) (name : List ℕ) (i : ℕ) (d : OpenSession) → i < length list → is_named name (get_or list i d) ≡ true
    → OthersStay rows list (remove list i) name
removed_rest rows list name i d within here other differ =
    ap (option_map (λ it. session_of rows it.stages)) (removed_others list other i d within (named_otherwise (get_or list i d) name other here differ))
