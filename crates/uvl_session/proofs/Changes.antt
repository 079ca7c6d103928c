-- A list of sessions where one of them is changed.
use Rattle.std.proofs.Common.{◌≡◌, ◌≢◌, ◌<◌, ℕ, zero, suc, true, false, List, [], ◌∷◌, ◌++◌, length, get_or, set, map, Some, option_map, refl, sym, ap, ◌∙◌, subst, arith}
use Rattle.std.specs.Prelude.{if◌then◌else◌, string_bytes}
use Rattle.std.proofs.lemmas.Bool.{false_from_ne_true}
use Rattle.std.proofs.lemmas.List.{map-append}
use Rattle.std.proofs.lemmas.List.Elements.{All-get_or, All-set}
use Rattle.std.proofs.lemmas.Slice.Eq.{bytes_eq-Decides}
use Rattle.dd_store.specs.declared.row.Var.{Var}
use Rattle.dd_store.specs.Table.{Table}
use Rattle.uvl_model.specs.Rows.{Rows}
use Rattle.uvl_decisions.specs.Decisions.{Decision as Named}
use Rattle.uvl_decisions.specs.Session.{Session, close}
use Rattle.uvl_session.specs.declared.decision.Decision.{Decision}
use Rattle.uvl_session.specs.declared.sessions.OpenSession.{OpenSession}
use Rattle.uvl_session.specs.Desk.{AreDecided, IsSession, IsKept}
use Rattle.uvl_session.specs.Numbered.{all_of, decision_of, session_of}
use Rattle.uvl_session.specs.Sessions.{find_session, is_named, closed_session, session_at, OthersStay}

append-nil : {A : Type 0} (xs : List A) → xs ++ [] ≡ xs
append-nil [] = refl
append-nil (x ∷ xs) = ap (λ ys. x ∷ ys) (append-nil xs)

-- the changed one has its name
pub found_changed : (list : List OpenSession) (name : List ℕ) (i : ℕ) (d it' : OpenSession) → i < length list → is_named name it' ≡ true
    → ((k : ℕ) → k < i → is_named name (get_or list k d) ≡ false) → find_session (set list i it') name ≡ Some it'
found_changed [] name i d it' within here none = absurd (omega arith)
found_changed (it ∷ rest) name zero d it' within here none = ap (λ b. if b then Some it' else find_session rest name) here
found_changed (it ∷ rest) name (suc i) d it' within here none =
    ap (λ b. if b then Some it else find_session (set rest i it') name) (none 0 (omega arith))
    ∙ found_changed rest name i d it' (omega arith) here (λ k less. none (suc k) (omega arith))

-- under another name all is as before
pub found_others : (list : List OpenSession) (other : List ℕ) (i : ℕ) (d it' : OpenSession) → i < length list → is_named other it' ≡ false
    → is_named other (get_or list i d) ≡ false → find_session (set list i it') other ≡ find_session list other
found_others [] other i d it' within new old = absurd (omega arith)
found_others (it ∷ rest) other zero d it' within new old =
    ap (λ b. if b then Some it' else find_session rest other) new ∙ sym (ap (λ b. if b then Some it else find_session rest other) old)
found_others (it ∷ rest) other (suc i) d it' within new old =
    ap (λ o. if is_named other it then Some it else o) (found_others rest other i d it' (omega arith) new old)

-- what is named otherwise hasn't the name
pub named_otherwise : (it : OpenSession) (name other : List ℕ) → is_named name it ≡ true → other ≢ name → is_named other it ≡ false
named_otherwise it name other here differ =
    false_from_ne_true _ (λ there. differ (sym ((bytes_eq-Decides (string_bytes it.name) other).0 there) ∙ (bytes_eq-Decides (string_bytes it.name) name).0 here))

-- a part of each that stays, where that of the changed one does
pub same_parts : {A : Type 0} (part : OpenSession → A) (list : List OpenSession) (i : ℕ) (d it' : OpenSession) → i < length list → part it' ≡ part (get_or list i d)
    → map part (set list i it') ≡ map part list
same_parts part [] i d it' within same = refl
same_parts part (it ∷ rest) zero d it' within same = ap (λ x. x ∷ map part rest) same
same_parts part (it ∷ rest) (suc i) d it' within same = ap (λ xs. part it ∷ xs) (same_parts part rest i d it' (omega arith) same)

pub same_length : (list : List OpenSession) (i : ℕ) (it' : OpenSession) → length (set list i it') ≡ length list
same_length [] i it' = refl
same_length (it ∷ rest) zero it' = refl
same_length (it ∷ rest) (suc i) it' = ap suc (same_length rest i it')

-- all decisions of a session are those before where they are closed
pub closed_kept : (rows : Rows) (t : Table) (vars : List Var) (products : ℕ) (list : List OpenSession) (i : ℕ) (d : OpenSession) → i < length list
    → IsKept rows t vars products list → IsKept rows t vars products (set list i (closed_session (get_or list i d)))
closed_kept rows t vars products list i d within kept =
    let it = get_or list i d in
    let same : all_of it.stages ++ [] ≡ all_of it.stages = append-nil (all_of it.stages) in
    record {
      main = kept.main;
      sessions = record {
        each = All-set (IsSession rows t vars) list i (closed_session it)
            (subst (λ (ds : List Decision). AreDecided rows t vars ds it.agreeing) (sym same) (All-get_or (IsSession rows t vars) list i d within kept.sessions.each))
            kept.sessions.each;
        apart = rw (same_parts (λ (s : OpenSession). string_bytes s.name) list i d (closed_session it) within refl) kept.sessions.apart;
        few = let now = same_length list i (closed_session it) in let before = kept.sessions.few in omega arith;
      };
      handles = λ n. rw (same_parts (λ (s : OpenSession). s.agreeing) list i d (closed_session it) within refl) (kept.handles n);
    }

-- closing what is told by numbers
pub told_closed : (rows : Rows) (it : OpenSession) → session_of rows (closed_session it).stages ≡ close (session_of rows it.stages)
told_closed rows it = ap closed_with (map-append (decision_of rows) it.stages.closed it.stages.standing)
  where
    closed_with : List Named → Session
    closed_with ds = record { closed = ds; standing = [] }

-- the session that is closed
pub closed_at : (rows : Rows) (list : List OpenSession) (name : List ℕ) (i : ℕ) (d : OpenSession) → i < length list → is_named name (get_or list i d) ≡ true
    → ((k : ℕ) → k < i → is_named name (get_or list k d) ≡ false)
    → session_at rows (set list i (closed_session (get_or list i d))) name ≡ Some (close (session_of rows (get_or list i d).stages))
closed_at rows list name i d within here none =
    ap (option_map (λ it. session_of rows it.stages)) (found_changed list name i d (closed_session (get_or list i d)) within here none)
    ∙ ap Some (told_closed rows (get_or list i d))

-- and the others
pub closed_others : (rows : Rows) (list : List OpenSession) (name : List ℕ) (i : ℕ) (d : OpenSession) → i < length list → is_named name (get_or list i d) ≡ true
    → OthersStay rows list (set list i (closed_session (get_or list i d))) name
closed_others rows list name i d within here other differ =
    let out = named_otherwise (get_or list i d) name other here differ in
    ap (option_map (λ it. session_of rows it.stages)) (found_others list other i d (closed_session (get_or list i d)) within out out)
