-- A rule's spine, one node longer and one shorter, and the handle that takes another's place.
use Rattle.std.proofs.Common.{◌≡◌, ℕ, List, [], ◌∷◌, ◌++◌, length, Some, refl, ap, sym, ◌∙◌, subst, arith}
use Rattle.std.proofs.lemmas.List.{map-append}
use Rattle.std.specs.Borrow.{Bor}
use Rattle.dd_store.specs.Handles.{GainsHandle}
use Rattle.dd_store.specs.Table.{Table}
use Rattle.dd_store.proofs.CountLemmas.{one_on-itself}
use Rattle.uvl_functions.specs.Trade.{Replaces}
use Rattle.uvl_model.specs.declared.rule.Rule.{Rule}
use Rattle.uvl_rule.specs.Spine.{IsSpine, left_operand, rules_at}

pub spine-longer : (nodes : List Rule) (part left rule : Rule) → IsSpine nodes part rule → left_operand part ≡ Some left → IsSpine (nodes ++ part ∷ []) left rule
spine-longer [] part left rule is of = (is, (left, of, refl))
spine-longer (node ∷ nodes) part left rule (is, (next, on, rest)) of = (is, (next, on, spine-longer nodes part left next rest of))

pub spine-shorter : (nodes : List Rule) (node part rule : Rule) → IsSpine (nodes ++ node ∷ []) part rule
    → IsSpine nodes node rule × ((left : Rule) × (left_operand node ≡ Some left) × (left ≡ part))
spine-shorter [] node part rule (is, (left, of, rest)) = (is, (left, of, sym rest))
spine-shorter (top ∷ nodes) node part rule (is, (next, on, rest)) =
    let shorter = spine-shorter nodes node part next rest in
    ((is, (next, on, shorter.0)), shorter.1)

pub spine-popped : (items rest : List (Bor Rule)) (node : Bor Rule) (part rule : Rule) → items ≡ rest ++ node ∷ [] → IsSpine (rules_at items) part rule
    → IsSpine (rules_at rest) node.now rule × (left_operand node.now ≡ Some part)
spine-popped items rest node part rule is spine =
    let parts = ap rules_at is ∙ map-append (λ (n : Bor Rule). n.now) rest (node ∷ []) in
    let (below, (left, of, same)) = spine-shorter (rules_at rest) node.now part rule (subst (λ (ns : List Rule). IsSpine ns part rule) parts spine) in
    (below, of ∙ ap Some same)

pub spine-empty : (items : List (Bor Rule)) (part rule : Rule) → length items ≡ 0 → IsSpine (rules_at items) part rule → part ≡ rule
spine-empty [] part rule none spine = spine
spine-empty (node ∷ items) part rule none spine = absurd (omega arith)

-- a handle in place of one that was made
pub gained-replaced : (s t u : Table) (a h : ℕ) → GainsHandle s t a → Replaces t u a h → GainsHandle s u h
gained-replaced s t u a h gain trade = record {
  gained = let one = gain.each h in let two = trade.each h in let own = one_on-itself h in omega arith;
  each = λ n. let one = gain.each n in let two = trade.each n in omega arith;
  total = let one = gain.total in let two = trade.total in omega arith;
}
