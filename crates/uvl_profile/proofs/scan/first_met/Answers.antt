-- The first token at which something is met is answered; behind the last one nothing was met.
use Rattle.std.specs.Prelude.{length}
use Rattle.std.proofs.Common.{refl, sym, subst, ◌∙◌, arith, below_more}
use Rattle.std.proofs.lemmas.Option.{slice_get_read, slice_get_within}
use Rattle.uvl_profile.specs.First.{NothingMet}
use Rattle.uvl_profile.specs.steps.Scan.{Follows}
use Rattle.uvl_profile.proofs.Fronts.{in_front_more, met_at_one, none_at_one}
use Rattle.uvl_profile.proofs.scan.first_met.Goals as goal

pub returns-in-Some : goal.returns-in-Some
returns-in-Some c =
    let tokens = c.args.tokens.now in
    let k = c.loop-index.index in
    let t = c.index-tokens-index.result in
    let here = slice_get_read tokens (length tokens) k t refl c.loop-index-test.true c.index-tokens-index.is in
    record {
      within = c.loop-index-test.true;
      none_before = c.loop-index.invariant.none_before;
      met = met_at_one tokens k t here c.in-Some.met (sym c.met.ensures ∙ c.in-Some.is);
    }

pub loop-index-preserved : goal.loop-index-preserved
loop-index-preserved c =
    let tokens = c.args.tokens.now in
    let k = c.loop-index.index in
    let t = c.index-tokens-index.result in
    let more = in_front_more tokens k t c.loop-index-test.true c.index-tokens-index.is in
    let here = slice_get_read tokens (length tokens) k t refl c.loop-index-test.true c.index-tokens-index.is in
    record {
      follows = subst (λ front. Follows front c.take.new.self) (sym more) c.in_ok-take.ensures;
      none_before = below_more (λ j. NothingMet tokens j) k c.loop-index.invariant.none_before (none_at_one tokens k t here (sym c.met.ensures ∙ c.in_default.is));
    }

pub returns : goal.returns
returns c k t here =
    let within = slice_get_within c.args.tokens.now k t here in
    c.loop-index.invariant.none_before k (omega (arith, within, c.loop-index-test.false)) t here
