-- The group is met with what is held.
use Rattle.uvl_compile.proofs.HandleLemmas.{traded-replaced, traded-lost, keeps-behind}
use Rattle.uvl_compile.proofs.Trades.{refused-lost, refused-keeps}
use Rattle.uvl_compile.proofs.TreeLemmas.{met-value, met-cause, unmet-cause}
use Rattle.uvl_compile.proofs.tree.with_group.Goals as goal

pub returns-in-Ok-clause-value : goal.returns-in-Ok-clause-value
returns-in-Ok-clause-value c =
    met-value c.args.kernel.now c.group_row.new.kernel c.meet.new.kernel c.args.held c.in-Ok.made c.args.map.now c.args.row.now c.group_row.ensures.keeps c.in-Ok.ensures.gained c.requires.live
    c.in-Ok.ensures.value c.meet.result c.meet.ensures.value

pub returns-in-Ok-clause-keeps : goal.returns-in-Ok-clause-keeps
returns-in-Ok-clause-keeps c =
    keeps-behind c.args.kernel.now c.group_row.new.kernel c.meet.new.kernel c.in-Ok.made c.group_row.ensures.keeps c.in-Ok.ensures.gained c.meet.ensures.keeps

pub returns-in-Ok-clause-replaced : goal.returns-in-Ok-clause-replaced
returns-in-Ok-clause-replaced c =
    traded-replaced c.args.kernel.now c.group_row.new.kernel c.meet.new.kernel c.args.held c.in-Ok.made c.meet.result c.in-Ok.ensures.gained c.meet.ensures.traded

pub returns-in-Ok-clause-lost : goal.returns-in-Ok-clause-lost
returns-in-Ok-clause-lost c =
    traded-lost c.args.kernel.now c.group_row.new.kernel c.meet.new.kernel c.args.held c.in-Ok.made c.meet.result c.in-Ok.ensures.gained c.meet.ensures.lost

pub returns-in-Ok-clause-cause : goal.returns-in-Ok-clause-cause
returns-in-Ok-clause-cause c =
    met-cause c.args.kernel.now c.group_row.new.kernel c.meet.new.kernel c.args.held c.in-Ok.made c.args.map.now c.args.row.now c.group_row.ensures.keeps c.in-Ok.ensures.gained c.requires.live
    c.in-Ok.ensures.value c.meet.result c.meet.ensures.cause

pub returns-in-Err-clause-keeps : goal.returns-in-Err-clause-keeps
returns-in-Err-clause-keeps c =
    refused-keeps c.args.kernel.now c.group_row.new.kernel c.release.new.self c.group_row.ensures.keeps c.in-Err.ensures.refused c.release.ensures.grows.keeps

pub returns-in-Err-clause-lost : goal.returns-in-Err-clause-lost
returns-in-Err-clause-lost c =
    refused-lost c.args.kernel.now c.group_row.new.kernel c.release.new.self c.args.held c.in-Err.ensures.refused c.release.ensures.lost

pub returns-in-Err-clause-cause : goal.returns-in-Err-clause-cause
returns-in-Err-clause-cause c = unmet-cause c.args.kernel.now c.args.held c.args.map.now c.args.row.now c.in-Err.refusal c.in-Err.ensures.cause
