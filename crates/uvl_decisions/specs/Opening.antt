-- How the opening of a session is answered: the first of the answers whose case holds. This project's own.
use Rattle.std.specs.Prelude.{ℕ, Bool, if◌then◌else◌, nat_le}
use Rattle.uvl_semantics.specs.Family.{Family, is_void}
use Rattle.uvl_decisions.specs.Session.{Session, fresh}

-- so many sessions may be open at once
abbrev pub most_sessions : ℕ
most_sessions = 16

-- the answers
pub data Opened : Type 0 where
  session_there too_many_sessions void_model : Opened
  opened : (after : Session) → Opened

-- whether a session of this name is open, how many are, and then whether there is a product
abbrev pub open_answer : Family → (is_there : Bool) (count : ℕ) → Opened
open_answer family is_there count =
    if is_there then session_there else
    if nat_le most_sessions count then too_many_sessions else
    if is_void family then void_model else opened fresh
