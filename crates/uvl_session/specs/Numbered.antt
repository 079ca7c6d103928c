-- Decisions by the numbers of a model's features, and the products that agree with them as a function of variables.
use Rattle.std.specs.Prelude.{List, ◌++◌, map}
use Rattle.dd_store.specs.declared.row.Var.{Var}
use Rattle.dd_store.specs.Size.{Function}
use Rattle.uvl_model.specs.Names.{feature_names, name_of, chosen_names}
use Rattle.uvl_model.specs.Products.{Products}
use Rattle.uvl_model.specs.Rows.{Rows}
use Rattle.uvl_functions.specs.Variables.{marks_under}
use Rattle.uvl_decisions.specs.Decisions.{Decision, agreeing}
use Rattle.uvl_decisions.specs.Session.{Session}
use Rattle.uvl_session.specs.declared.decision.Decision.{Decision as NumberedDecision}

-- the decisions of a session, by the numbers of features, both lists oldest first
pub record Numbered : Type 0 where
  pub closed : List NumberedDecision
  pub standing : List NumberedDecision

-- all of them, oldest first
abbrev pub all_of : Numbered → List NumberedDecision
all_of numbered = numbered.closed ++ numbered.standing

-- the decision on the feature with this number
abbrev pub decision_of : Rows → NumberedDecision → Decision
decision_of rows numbered = record { feature = name_of (feature_names rows) numbered.feature; value = numbered.value }

-- those on the features with these numbers
abbrev pub decisions_in : Rows → List NumberedDecision → List Decision
decisions_in rows decisions = map (decision_of rows) decisions

-- the session with these decisions
abbrev pub session_of : Rows → Numbered → Session
session_of rows numbered = record {
  closed = decisions_in rows numbered.closed;
  standing = decisions_in rows numbered.standing;
}

-- whether the features with a true variable are a product that agrees with decisions
abbrev pub agreeing_function : List Var → Rows → List Decision → Function
agreeing_function vars rows decisions a = (agreeing (Products rows) decisions).contains (chosen_names rows (marks_under vars a))
