-- The target is at the number of the line.
use Rattle.std.proofs.Common.{List, ℕ, ap, ◌∙◌, sym, refl}
use Rattle.std.specs.Prelude.{slice_get}
use Rattle.std.specs.Str.{chars}
use Rattle.std.proofs.lemmas.Option.{slice_get_read, slice_get_past}
use Rattle.uvl_resolve.proofs.Targets.{called, called_none, called_past}
use Rattle.uvl_resolve.proofs.walk.target_of.Goals as goal

pub returns : goal.returns
returns c =
    let loaded = c.args.loaded.now in
    let at = sym c.find.ensures.number ∙ c.in_ok-number.was in
    let there = slice_get_read c.as_slice.result.now _ c.in_ok-number.number c.in_ok-target.target.now refl c.in_ok-target.ensures.lookup.3.0 c.in_ok-target.ensures.lookup.1 in
    called (chars c.args.qualifier.now) loaded.file.imports loaded.targets c.args.qualifiers.now c.in_ok-number.number c.in_ok-target.target.now c.requires at
    (ap (λ (ts : List ℕ). slice_get ts c.in_ok-number.number) (sym c.as_slice.ensures) ∙ there)

pub returns-in_err-number : goal.returns-in_err-number
returns-in_err-number c =
    let loaded = c.args.loaded.now in
    c.from_residual.ensures
    ∙ called_none (chars c.args.qualifier.now) loaded.file.imports loaded.targets c.args.qualifiers.now c.requires (sym c.find.ensures.number ∙ c.in_err-number.was)

pub returns-in_err-target : goal.returns-in_err-target
returns-in_err-target c =
    let loaded = c.args.loaded.now in
    c.from_residual-in_err-target.ensures
    ∙ called_past (chars c.args.qualifier.now) loaded.file.imports loaded.targets c.args.qualifiers.now c.in_ok-number.number c.requires (sym c.find.ensures.number ∙ c.in_ok-number.was)
    (ap (λ (ts : List ℕ). slice_get ts c.in_ok-number.number) (sym c.as_slice.ensures) ∙ slice_get_past c.as_slice.result.now c.in_ok-number.number c.in_err-target.ensures.lookup.3)
