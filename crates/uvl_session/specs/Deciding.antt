-- How a decision is answered and what it changes.
use Rattle.std.specs.Prelude.{◌≡◌, ◌⊎◌, ℕ, Bool, List, [], ◌∷◌, ◌++◌, Result, Ok, Err, option_map}
use Rattle.std.specs.Str.{chars}
use Rattle.dd_store.specs.declared.row.Var.{Var}
use Rattle.dd_store.specs.Exhausted.{HasHeld}
use Rattle.dd_store.specs.Short.{IsShort}
use Rattle.dd_store.specs.Size.{Function}
use Rattle.dd_store.specs.Table.{Table}
use Rattle.uvl_decisions.specs.Deciding.{Decided, unknown_feature, is_closed, is_decided, conflict, decided, decide_answer}
use Rattle.uvl_decisions.specs.Decisions.{Decision}
use Rattle.uvl_decisions.specs.Session.{Session, decisions_of}
use Rattle.uvl_model.specs.Products.{Products}
use Rattle.uvl_model.specs.Rows.{Rows}
use Rattle.uvl_session.specs.declared.decision.Decision.{Decision as NumberedDecision}
use Rattle.uvl_session.specs.declared.refusal.DeskRefusal.{DeskRefusal}
use Rattle.uvl_session.specs.declared.refusal.DeskRefusal.TheVariants.{UnknownFeature, Closed, Decided as decided_now, Conflict, OverBudget, OutOfMemory}
use Rattle.uvl_session.specs.declared.sessions.OpenSession.{OpenSession}
use Rattle.uvl_session.specs.Numbered.{agreeing_function}
use Rattle.uvl_session.specs.Sessions.{session_at}

-- the decision that is asked for by a feature's text
abbrev pub asked_for : List ℕ → Bool → Decision
asked_for text value = record { feature = chars text; value = value }

-- what is answered to a decision
abbrev pub told_deciding : Decided → Result (Unit {0}) DeskRefusal
told_deciding unknown_feature = Err UnknownFeature
told_deciding is_closed = Err Closed
told_deciding is_decided = Err decided_now
told_deciding (conflict because) = Err Conflict
told_deciding (decided after) = Ok tt

-- Why a table refuses: the budget is too small for one of the groups, beside any list that has the values of the live
-- handles. Want of memory has no cause, and no other refusal is the table's.
abbrev pub IsTablesFor : Table → List (List Function) → DeskRefusal → Type 0
IsTablesFor t groups (OverBudget nodes roots) = (held : List Function) → HasHeld t held → IsShort t.order t.budget held groups
IsTablesFor t groups OutOfMemory = Unit {0}
IsTablesFor t groups _ = ⊥

-- this is answered; or the table refuses where else all is well; or memory is wanting
abbrev pub IsToldUnless : Result (Unit {0}) DeskRefusal → Result (Unit {0}) DeskRefusal → (DeskRefusal → Type 0) → Type 0
IsToldUnless result told refuses =
    (result ≡ told) ⊎ ((result ≡ Err OutOfMemory) ⊎ ((told ≡ Ok tt) × ((r : DeskRefusal) × (result ≡ Err r) × refuses r)))

-- the products that agree with the decisions of a session and with one more
abbrev pub with_one_more : List Var → Rows → Session → Decision → Function
with_one_more vars rows session asked = agreeing_function vars rows (decisions_of session ++ asked ∷ [])

-- the session has the decision behind those before, as the definition says
abbrev pub HasDecided : Rows → (before after : List OpenSession) → List ℕ → Decision → Type 0
HasDecided rows before after name asked =
    option_map (λ session. decide_answer (Products rows) session asked) (session_at rows before name)
    ≡ option_map decided (session_at rows after name)

-- the session with one decision more, and the handle that goes with it
abbrev pub decided_session : OpenSession → NumberedDecision → ℕ → OpenSession
decided_session it decision agreed = record {
  name = it.name;
  stages = record { closed = it.stages.closed; standing = it.stages.standing ++ decision ∷ [] };
  agreeing = agreed;
}
