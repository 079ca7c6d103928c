-- What is live where one handle takes the place of another one, step by step.
use Rattle.std.proofs.Common.{◌≡◌, ℕ, List, Some, slice_get, Result, Ok, Err, IfOk, OnErr, sym, subst, arith}
use Rattle.std.specs.List.{All}
use Rattle.std.proofs.lemmas.List.Elements.{All-contains}
use Rattle.std.proofs.lemmas.Option.{slice_get_within, get_or_from_slice_get}
use Rattle.dd_store.specs.declared.refusal.Refusal.{Refusal}
use Rattle.dd_store.specs.declared.row.Var.{Var}
use Rattle.dd_store.specs.Changes.{Keeps}
use Rattle.dd_store.specs.Handles.{GainsHandle, KeepsHandles, LosesHandle}
use Rattle.dd_store.specs.Order.{IsIn}
use Rattle.dd_store.specs.Table.{Table, IsVariable}
use Rattle.dd_store.proofs.ChangeLemmas.{keeps_then}
use Rattle.dd_store.proofs.CountLemmas.{live_gained, one_on-itself}
use Rattle.dd_apply.specs.Held.{LosesBoth, Trades}
use Rattle.uvl_model.specs.Rows.{Rows}
use Rattle.uvl_functions.specs.Trade.{Replaces}
use Rattle.uvl_functions.specs.Variables.{HasVariables}

-- a handle that was gained is replaced, or given back
pub gain-replaced : (s t u : Table) (h k : ℕ) → GainsHandle s t h → Replaces t u h k → GainsHandle s u k
gain-replaced s t u h k gain trade = record {
  gained = let one = gain.each k in let two = trade.each k in let own = one_on-itself k in omega arith;
  each = λ n. let one = gain.each n in let two = trade.each n in omega arith;
  total = let one = gain.total in let two = trade.total in omega arith;
}

pub gain-lost : (s t u : Table) (h : ℕ) → GainsHandle s t h → LosesHandle t u h → KeepsHandles s u
gain-lost s t u h gain lost = record {
  each = λ n. let one = gain.each n in let two = lost.each n in omega arith;
  total = let one = gain.total in let two = lost.total in omega arith;
}

-- and what was live before keeps its value
pub keeps-behind : (s t u : Table) (h : ℕ) → Keeps s t → GainsHandle s t h → Keeps t u → Keeps s u
keeps-behind s t u h one gain two = keeps_then one two (λ n before after. live_gained gain n before)

-- two handles are traded for one, of which one was made
pub traded-replaced : (s t u : Table) (f g : ℕ) (result : Result ℕ Refusal) → GainsHandle s t g → IfOk result (Trades t u f g) → IfOk result (Replaces s u f)
traded-replaced s t u f g (Ok h) gain trade = record {
  each = λ n. let one = gain.each n in let two = trade.each n in omega arith;
  total = let one = gain.total in let two = trade.total in omega arith;
}
traded-replaced s t u f g (Err r) gain trade = tt

pub traded-lost : (s t u : Table) (f g : ℕ) (result : Result ℕ Refusal) → GainsHandle s t g → OnErr result (LosesBoth t u f g) → OnErr result (LosesHandle s u f)
traded-lost s t u f g (Ok h) gain lost = tt
traded-lost s t u f g (Err r) gain lost = record {
  lost = let one = gain.each f in let two = lost.each f in let own = one_on-itself f in omega arith;
  each = λ n. let one = gain.each n in let two = lost.each n in omega arith;
  total = let one = gain.total in let two = lost.total in omega arith;
}

-- variables stay where the order does
pub has-still : (t u : Table) (rows : Rows) (vars : List Var) → Keeps t u → HasVariables t rows vars → HasVariables u rows vars
has-still t u rows vars keeps has = record {
  count = has.count;
  there = subst (λ (order : List Var). All (λ (v : Var). IsIn order v.0) vars) (sym keeps.order) has.there;
  distinct = has.distinct;
}

pub there-still : (t u : Table) (vars : List Var) → Keeps t u → All (λ v. IsVariable t v.0) vars → All (λ v. IsVariable u v.0) vars
there-still t u vars keeps there = subst (λ (order : List Var). All (λ (v : Var). IsIn order v.0) vars) (sym keeps.order) there

-- each of them is there
pub one-there : (t : Table) (vars : List Var) (k : ℕ) (v : Var) → All (λ w. IsVariable t w.0) vars → slice_get vars k ≡ Some v → IsVariable t v.0
one-there t vars k v there at =
    All-contains (λ (w : Var). IsVariable t w.0) vars v there (k, slice_get_within vars k v at, get_or_from_slice_get vars k v v at)
