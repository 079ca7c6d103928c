-- A node between the two values, while these are held.
use Rattle.std.proofs.Common.{◌≡◌, ◌∙◌, not, [], ◌∷◌, IfOk, OnErr, arith}
use Rattle.dd_store.specs.Exhausted.{value_at}
use Rattle.dd_store.specs.Handles.{GainsHandle, KeepsHandles}
use Rattle.dd_store.proofs.ChangeLemmas.{grows_then}
use Rattle.uvl_functions.proofs.ShortLemmas.{told-behind_constant}
use Rattle.uvl_functions.proofs.TableLemmas.{gained-between, refused-between, keeps-between, still-live, value-grown}
use Rattle.uvl_session.proofs.Fixing.{fixed-told, fixed-cause}
use Rattle.uvl_session.proofs.narrowing.fixed.Goals as goal

is-low : (c : goal.After-release-in-Ok) → value_at c.constant.new.self c.in_ok-low.low ≡ (λ a. not c.args.value)
is-low c = λ i a. c.in_ok-low.ensures.value a i

is-low' : (c : goal.After-release-in-Ok) → value_at c.constant-2.new.self c.in_ok-low.low ≡ (λ a. not c.args.value)
is-low' c = value-grown c.constant.new.self c.constant-2.new.self c.in_ok-low.low c.in-Ok.ensures.grows ∙ is-low c

is-high : (c : goal.After-release-in-Ok) → value_at c.constant-2.new.self c.in-Ok.high ≡ (λ a. c.args.value)
is-high c = λ i a. c.in-Ok.ensures.value a i

gained : (c : goal.After-release-in-Ok) → IfOk c.node-made.result (GainsHandle c.constant.new.self c.release.new.self)
gained c =
    gained-between c.constant.new.self c.constant-2.new.self c.node-made.new.self c.release.new.self c.in-Ok.high c.in-Ok.ensures.gained c.release.ensures.lost
    c.node-made.result c.node-made.ensures.gained

refused : (c : goal.After-release-in-Ok) → OnErr c.node-made.result (KeepsHandles c.constant.new.self c.release.new.self)
refused c =
    refused-between c.constant.new.self c.constant-2.new.self c.node-made.new.self c.release.new.self c.in-Ok.high c.in-Ok.ensures.gained c.release.ensures.lost
    c.node-made.result c.node-made.ensures.refused

pub returns-in-Ok-clause-value : goal.returns-in-Ok-clause-value
returns-in-Ok-clause-value c =
    fixed-told c.constant-2.new.self c.node-made.new.self c.release-in-Ok.new.self c.args.var.0 c.in_ok-low.low c.in-Ok.high c.args.value c.node-made.result
    (is-low' c) (is-high c)
    (grows_then c.release.ensures.grows c.release-in-Ok.ensures.grows (λ n before after. let less = c.release-in-Ok.ensures.lost.each n in omega arith))
    c.node-made.ensures.value

pub returns-in-Ok-clause-gained : goal.returns-in-Ok-clause-gained
returns-in-Ok-clause-gained c =
    gained-between c.args.kernel.now c.constant.new.self c.release.new.self c.release-in-Ok.new.self c.in_ok-low.low c.in_ok-low.ensures.gained
    c.release-in-Ok.ensures.lost c.node-made.result (gained c)

pub returns-in-Ok-clause-refused : goal.returns-in-Ok-clause-refused
returns-in-Ok-clause-refused c =
    refused-between c.args.kernel.now c.constant.new.self c.release.new.self c.release-in-Ok.new.self c.in_ok-low.low c.in_ok-low.ensures.gained
    c.release-in-Ok.ensures.lost c.node-made.result (refused c)

pub returns-in-Ok-clause-keeps : goal.returns-in-Ok-clause-keeps
returns-in-Ok-clause-keeps c =
    keeps-between c.args.kernel.now c.constant.new.self c.release.new.self c.release-in-Ok.new.self c.in_ok-low.low c.in_ok-low.ensures.gained
    c.release-in-Ok.ensures.lost c.in_ok-low.ensures.grows.keeps
    (keeps-between c.constant.new.self c.constant-2.new.self c.node-made.new.self c.release.new.self c.in-Ok.high c.in-Ok.ensures.gained c.release.ensures.lost
    c.in-Ok.ensures.grows.keeps c.node-made.ensures.grows.keeps c.release.ensures.grows.keeps
    (still-live c.constant-2.new.self c.node-made.new.self c.node-made.result c.node-made.ensures.gained c.node-made.ensures.refused))
    c.release-in-Ok.ensures.grows.keeps (still-live c.constant.new.self c.release.new.self c.node-made.result (gained c) (refused c))

pub returns-in-Ok-clause-cause : goal.returns-in-Ok-clause-cause
returns-in-Ok-clause-cause c =
    let s = c.args.kernel.now in
    let t = c.constant.new.self in
    let u = c.constant-2.new.self in
    let first = c.in_ok-low.ensures.grows.keeps.order in
    let second = c.in-Ok.ensures.grows.keeps.order in
    told-behind_constant s t c.in_ok-low.low (not c.args.value) ([] ∷ []) c.node-made.result c.in_ok-low.ensures.grows.keeps c.in_ok-low.ensures.gained (is-low c)
    (told-behind_constant t u c.in-Ok.high c.args.value ([] ∷ []) c.node-made.result c.in-Ok.ensures.grows.keeps c.in-Ok.ensures.gained (is-high c)
    (fixed-cause u c.node-made.new.self c.release-in-Ok.new.self c.args.var.0 c.in_ok-low.low c.in-Ok.high c.args.value c.node-made.result (is-low' c) (is-high c)
    (rw (second, first) c.requires) c.node-made.ensures.cause))
