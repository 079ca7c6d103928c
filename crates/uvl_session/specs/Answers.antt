-- How the calls answer what the definitions say.
use Rattle.std.specs.Prelude.{◌≡◌, ◌⊎◌, Result, Ok, Err}
use Rattle.dd_store.specs.declared.refusal.Refusal.{Refusal}
use Rattle.dd_store.specs.declared.refusal.Refusal.TheVariants.{OverBudget as over_budget, OutOfMemory as out_of_memory}
use Rattle.uvl_decisions.specs.Opening.{Opened, session_there, too_many_sessions, void_model, opened}
use Rattle.uvl_session.specs.declared.refusal.DeskRefusal.{DeskRefusal}
use Rattle.uvl_session.specs.declared.refusal.DeskRefusal.TheVariants.{SessionThere, TooManySessions, VoidModel, OverBudget, OutOfMemory}

-- the refusal of a kernel as one of a desk
abbrev pub refusal_of : Refusal → DeskRefusal
refusal_of (over_budget nodes roots) = OverBudget nodes roots
refusal_of out_of_memory = OutOfMemory

-- what is answered where a session is opened
abbrev pub told_opening : Opened → Result (Unit {0}) DeskRefusal
told_opening session_there = Err SessionThere
told_opening too_many_sessions = Err TooManySessions
told_opening void_model = Err VoidModel
told_opening (opened after) = Ok tt

-- this is answered, or memory is wanting
abbrev pub IsToldAs : Result (Unit {0}) DeskRefusal → Result (Unit {0}) DeskRefusal → Type 0
IsToldAs result told = (result ≡ told) ⊎ (result ≡ Err OutOfMemory)
