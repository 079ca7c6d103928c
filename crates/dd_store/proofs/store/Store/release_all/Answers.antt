-- The last handle of those that are left is live.
use Rattle.std.proofs.Common.{◌≡◌, ℕ, ◌+◌, length, ap, ◌∙◌, arith}
use Rattle.dd_store.specs.Handles.{one_on, count_on}
use Rattle.dd_store.proofs.ChangeLemmas.{grows_then}
use Rattle.dd_store.proofs.CountLemmas.{one_on-itself, count_on-push, length-push}
use Rattle.dd_store.proofs.store.Store.release_all.Goals as goal

-- the count of what was left, with the last
count_is : (c : goal.After-release-arg-1) (n : ℕ) → count_on c.loop-handle.handles.items n ≡ count_on c.pop.new.self.items n + one_on c.in-Some.handle n
count_is c n = ap (λ hs. count_on hs n) c.in-Some.ensures.items ∙ count_on-push c.pop.new.self.items c.in-Some.handle n

pub release-requires : goal.release-requires
release-requires c =
    let h = c.in-Some.handle in
    let each = c.loop-handle.invariant.each h in
    let enough = c.requires h in
    let count = count_is c h in
    let one = one_on-itself h in
    omega arith

pub loop-handle-preserved : goal.loop-handle-preserved
loop-handle-preserved c =
    let before = c.loop-handle.invariant in
    let gone = c.release.ensures in
    let h = c.in-Some.handle in
    let left = c.pop.new.self.items in
    let count : (n : ℕ) → count_on c.loop-handle.handles.items n ≡ count_on left n + one_on h n
    = λ n. ap (λ hs. count_on hs n) c.in-Some.ensures.items ∙ count_on-push left h n in
    let size = ap length c.in-Some.ensures.items ∙ length-push left h in
    record {
      each = λ n. let one = before.each n in let two = gone.lost.each n in let three = count n in omega arith;
      total = let one = before.total in let two = gone.lost.total in omega arith;
      fewer = λ n. let one = before.fewer n in let three = count n in omega arith;
      grows = grows_then before.grows gone.grows (λ n is now. let lost = gone.lost.each n in omega arith);
    }
