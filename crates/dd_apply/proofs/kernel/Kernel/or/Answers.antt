-- Live handles are held.
use Rattle.std.proofs.Common.{ℕ, sym, subst}
use Rattle.dd_apply.specs.Held.{IsHeld}
use Rattle.dd_apply.proofs.HeldLemmas.{live-held}
use Rattle.dd_apply.proofs.kernel.Kernel.or.Goals as goal

pub operate-requires-clause-a_held : goal.operate-requires-clause-a_held
operate-requires-clause-a_held c =
    subst (λ (n : ℕ). IsHeld c.args.self.now n) (sym c.node_of-a.ensures.place) (live-held c.args.self.now c.args.a.now c.requires.a_live)

pub operate-requires-clause-b_held : goal.operate-requires-clause-b_held
operate-requires-clause-b_held c =
    subst (λ (n : ℕ). IsHeld c.args.self.now n) (sym c.node_of-b.ensures.place) (live-held c.args.self.now c.args.b.now c.requires.b_live)
