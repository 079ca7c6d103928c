-- Counts of handles over several calls.
use Rattle.std.proofs.Common.{◌≡◌, ℕ, ◌+◌, ◌<◌, Bool, List, [], ◌∷◌, ◌++◌, length, slice_index, zero, suc, refl, ap, ◌∙◌, arith, if◌then◌else◌}
use Rattle.std.proofs.lemmas.Bool.{eq-eqb}
use Rattle.dd_store.specs.Table.{Table, handles_on, IsLive}
use Rattle.dd_store.specs.Handles.{one_on, count_on, GainsHandle, HoldsMore}

-- a handle counts where it stands
pub one_on-itself : (n : ℕ) → one_on n n ≡ 1
one_on-itself n = ap (λ (b : Bool). if b then 1 else 0) (eq-eqb n n refl)

-- one handle more at the end
pub length-push : (hs : List ℕ) (h : ℕ) → length (hs ++ h ∷ []) ≡ length hs + 1
length-push [] h = omega arith
length-push (x ∷ xs) h = let rest = length-push xs h in omega arith

pub count_on-push : (hs : List ℕ) (h n : ℕ) → count_on (hs ++ h ∷ []) n ≡ count_on hs n + one_on h n
count_on-push [] h n = omega arith
count_on-push (x ∷ xs) h n = let rest = count_on-push xs h n in omega arith

-- each handle of a list counts
pub count_on-at : (hs : List ℕ) (d : ℕ) → d < length hs → 0 < count_on hs (slice_index hs d)
count_on-at [] d within = absurd (omega arith)
count_on-at (x ∷ xs) zero within = let here = one_on-itself x in omega arith
count_on-at (x ∷ xs) (suc d) within = let rest = count_on-at xs d (omega arith) in omega arith

-- live handles stay live where there are more
pub live_more : {old new : Table} {hs : List ℕ} → HoldsMore old new hs → (n : ℕ) → IsLive old n → IsLive new n
live_more more n live = let each = more.each n in omega arith

pub live_gained : {old new : Table} {h : ℕ} → GainsHandle old new h → (n : ℕ) → IsLive old n → IsLive new n
live_gained gain n live = let each = gain.each n in omega arith

-- one handle more behind others
pub more_push : {old mid new : Table} {hs : List ℕ} {h : ℕ} → HoldsMore old mid hs → GainsHandle mid new h → HoldsMore old new (hs ++ h ∷ [])
more_push {hs = hs} {h = h} more gain = record {
  each = λ n. let before = more.each n in let now = gain.each n in let counts = count_on-push hs h n in omega arith;
  total = let before = more.total in let now = gain.total in omega (arith, length-push hs h);
}

-- one more handle is the only one more
pub gains_one : {old new : Table} {hs : List ℕ} {h : ℕ} → HoldsMore old new hs → hs ≡ h ∷ [] → GainsHandle old new h
gains_one {old} {new} {hs} {h} more one =
    let each : (n : ℕ) → handles_on new n ≡ handles_on old n + one_on h n = λ n.
    (let counts = more.each n in let here = ap (λ (xs : List ℕ). count_on xs n) one in omega arith) in
    record {
      gained = each h ∙ ap (λ k. handles_on old h + k) (one_on-itself h);
      each = each;
      total = let size = ap length one in let total = more.total in omega arith;
    }
