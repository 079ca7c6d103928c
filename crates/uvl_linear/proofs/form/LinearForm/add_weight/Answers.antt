-- The weight that is read and what is added fit.
use Rattle.std.proofs.Common.{refl}
use Rattle.uvl_linear.proofs.FormLemmas.{adds_weight, sum_is}
use Rattle.uvl_linear.proofs.form.LinearForm.add_weight.Goals as goal

pub returns : goal.returns
returns c =
    adds_weight c.args.self.now _ c.args.feature.0 c.index_mut.result.now _ c.args.number refl refl c.requires.there c.index_mut.ensures.value
    (sum_is c.args.self.now c.args.feature.0 c.index_mut.result.now c.args.number c.requires.room c.requires.there c.index_mut.ensures.value c.requires.small)
    c.requires.small
