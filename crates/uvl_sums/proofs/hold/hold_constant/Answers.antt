-- One handle more is held, on the constant.
use Rattle.std.proofs.Common.{ℕ, [], ◌∷◌, ◌++◌, List, ap, ◌∙◌}
use Rattle.uvl_sums.proofs.AddsLemmas.{adds-one}
use Rattle.uvl_sums.proofs.hold.hold_constant.Goals as goal

pub returns-clause-adds : goal.returns-clause-adds
returns-clause-adds c =
    adds-one c.args.kernel.now c.constant.new.self c.args.held.now.items c.push_within_capacity.new.handles.items (λ a. c.args.value) c.in_ok-handle.handle
    c.constant.ensures.grows.keeps c.in_ok-handle.ensures.gained
    (c.push_within_capacity.ensures ∙ ap (λ (hs : List ℕ). hs ++ c.in_ok-handle.handle ∷ []) c.reserve.ensures.items)
    (λ j a. c.in_ok-handle.ensures.value a j)
