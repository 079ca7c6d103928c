-- The open sessions by their names.
use Rattle.std.specs.Prelude.{◌≢◌, ◌≡◌, ℕ, Bool, List, [], ◌∷◌, ◌++◌, Option, Some, None, option_map, if◌then◌else◌, string_bytes}
use Rattle.std.specs.Str.{bytes_eq}
use Rattle.uvl_model.specs.Rows.{Rows}
use Rattle.uvl_decisions.specs.Session.{Session}
use Rattle.uvl_session.specs.declared.sessions.OpenSession.{OpenSession}
use Rattle.uvl_session.specs.Numbered.{all_of, session_of}

-- the session has the name
abbrev pub is_named : List ℕ → OpenSession → Bool
is_named name it = bytes_eq (string_bytes it.name) name

-- the session with a name
abbrev pub find_session : List OpenSession → List ℕ → Option OpenSession
find_session [] name = None
find_session (it ∷ rest) name = if is_named name it then Some it else find_session rest name

-- the decisions of the session with a name
abbrev pub session_at : Rows → List OpenSession → List ℕ → Option Session
session_at rows list name = option_map (λ it. session_of rows it.stages) (find_session list name)

-- each session but the one with the name is as before
abbrev pub OthersStay : Rows → (before after : List OpenSession) → List ℕ → Type 0
OthersStay rows before after name =
    (other : List ℕ) → other ≢ name → session_at rows after other ≡ session_at rows before other

-- the session with all its decisions closed
abbrev pub closed_session : OpenSession → OpenSession
closed_session it = record {
  name = it.name;
  stages = record { closed = all_of it.stages; standing = [] };
  agreeing = it.agreeing;
}

-- the sessions are those before with a new one, which has the name, no decision and the handle
pub record AddsSession (before after : List OpenSession) (name : List ℕ) (agreed : ℕ) : Type 0 where
  pub it : OpenSession
  pub list : after ≡ before ++ it ∷ []
  pub name_is : string_bytes it.name ≡ name
  pub stages_is : it.stages ≡ record { closed = []; standing = [] }
  pub agreeing_is : it.agreeing ≡ agreed
