-- A qualifier that is known, and one that is new.
use Rattle.std.proofs.Common.{ap, ◌∙◌}
use Rattle.std.specs.Prelude.{chars}
use Rattle.uvl_placing.specs.Names.{qualifier_of}
use Rattle.uvl_scope.proofs.Offering.{add_known, add_new}
use Rattle.uvl_scope.proofs.imports.Imports.add.Goals as goal

pub returns-then-not-branch-clause-offers : goal.returns-then-not-branch-clause-offers
returns-then-not-branch-clause-offers c = λ q.
    add_known q (qualifier_of c.args.line.now) (chars c.deref.result.now) c.args.target c.args.self.now.qualifiers c.add.new.self c.args.self.now.targets
    c.in_ok-add.field-0 c.requires (ap chars c.deref.ensures ∙ c.in_ok-qualifier.ensures) c.in_ok-add.ensures.known c.if-not-branch.true c.in_ok-add.ensures.added

pub returns-clause-offers : goal.returns-clause-offers
returns-clause-offers c = λ q.
    add_new q (qualifier_of c.args.line.now) (chars c.deref.result.now) c.args.target c.args.self.now.qualifiers c.add.new.self c.args.self.now.targets
    c.push.new.self c.in_ok-add.field-0 c.requires (ap chars c.deref.ensures ∙ c.in_ok-qualifier.ensures) c.if-not-branch.false c.in_ok-add.ensures.added
    c.in_ok-push.ensures.ok
