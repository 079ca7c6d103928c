-- When a desk is sound.
use Rattle.std.specs.Prelude.{◌≡◌, ◌≤◌, ◌+◌, ◌<◌, ℕ, false, List, length, map, string_bytes}
use Rattle.std.specs.List.{All}
use Rattle.dd_store.specs.declared.row.Var.{Var}
use Rattle.dd_store.specs.Exhausted.{value_at}
use Rattle.dd_store.specs.Handles.{one_on, count_on}
use Rattle.dd_store.specs.Table.{Table, IsLive, handles_on}
use Rattle.uvl_analyses.specs.Compiled.{IsCompiled}
use Rattle.uvl_decisions.specs.Decisions.{agreeing}
use Rattle.uvl_decisions.specs.Opening.{most_sessions}
use Rattle.uvl_functions.specs.Placing.{AreNamed}
use Rattle.uvl_model.specs.Names.{feature_names}
use Rattle.uvl_model.specs.Products.{Products}
use Rattle.uvl_model.specs.Rows.{Rows}
use Rattle.uvl_model.specs.Sound.{AreDistinct}
use Rattle.uvl_semantics.specs.Family.{is_void}
use Rattle.uvl_session.specs.declared.decision.Decision.{Decision}
use Rattle.uvl_session.specs.declared.desk.Desk.{Desk}
use Rattle.uvl_session.specs.declared.sessions.OpenSession.{OpenSession}
use Rattle.uvl_session.specs.Numbered.{agreeing_function, all_of, decisions_in}

-- The decisions are on features of the model, no two of them on one. The handle is live, and its value is whether the
-- features with a true variable are a product that agrees with all of them, as some product does.
pub record AreDecided (rows : Rows) (t : Table) (vars : List Var) (decisions : List Decision) (agreed : ℕ) : Type 0 where
  pub features : All (λ decision. decision.feature.0 < length rows.features) decisions
  pub apart : AreDistinct (map (λ decision. decision.feature) (decisions_in rows decisions))
  pub live : IsLive t agreed
  pub value : value_at t agreed ≡ agreeing_function vars rows (decisions_in rows decisions)
  pub some : is_void (agreeing (Products rows) (decisions_in rows decisions)) ≡ false

-- so are those of a session
abbrev pub IsSession : Rows → Table → List Var → OpenSession → Type 0
IsSession rows t vars it = AreDecided rows t vars (all_of it.stages) it.agreeing

-- how many handles the main model and the sessions have on a number
abbrev pub desk_handles : ℕ → List OpenSession → ℕ → ℕ
desk_handles products list n = one_on products n + count_on (map (λ it. it.agreeing) list) n

-- the sessions of a model in a table: each is one, their names differ, and there are no more than may be
pub record AreSessions (rows : Rows) (t : Table) (vars : List Var) (list : List OpenSession) : Type 0 where
  pub each : All (IsSession rows t vars) list
  pub apart : AreDistinct (map (λ it. string_bytes it.name) list)
  pub few : length list ≤ most_sessions

-- the sessions with the diagram of the model's products, whose handles are the live ones
pub record IsKept (rows : Rows) (t : Table) (vars : List Var) (products : ℕ) (list : List OpenSession) : Type 0 where
  pub main : IsCompiled rows t vars products
  pub sessions : AreSessions rows t vars list
  pub handles : (n : ℕ) → handles_on t n ≡ desk_handles products list n

-- A desk is sound: its handles are live and have their meanings, and no other handle is live; each variable has a name,
-- and each feature of the model has the variable of its name.
pub record IsSound (desk : Desk) : Type 0 where
  pub kept : IsKept desk.main.model desk.kernel desk.main.map desk.main.products desk.sessions
  pub as_many : length desk.names ≡ length desk.kernel.order
  pub named : AreNamed desk.names desk.main.map (feature_names desk.main.model)
