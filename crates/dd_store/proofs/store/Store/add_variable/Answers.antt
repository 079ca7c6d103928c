-- The variable stands last.
use Rattle.std.proofs.Common.{rules, ◌≡◌, ◌≢◌, length, ◌∙◌, [], ◌∷◌, ◌++◌, ap}
use Rattle.dd_store.proofs.OrderLemmas.{kept-with_variable, sound-with_variable, value_of-with_variable, level_in-push, level_of-with_variable}
use Rattle.dd_store.proofs.store.Store.add_variable.Goals as goal

order : (c : goal.After-push_within_capacity-2) → c.push_within_capacity.new.items.items ≡ c.self.inside.order.items ++ record { 0 = c.len-count.result } ∷ []
order c = c.push_within_capacity.ensures ∙ ap (λ xs. xs ++ record { 0 = c.len-count.result } ∷ []) c.reserve.ensures.items

next : (c : goal.After-push_within_capacity-2) → c.len-count.result ≡ length c.self.inside.order.items
next c = search rules

room : (c : goal.After-push_within_capacity-2) → length c.self.inside.order.items ≢ 4096
room c = λ full. c.if-count-eq-MAX_VARIABLES.false (next c ∙ full)

levels : (c : goal.After-push_within_capacity-2) → c.push_within_capacity-2.new.items.items ≡ c.self.inside.levels.items ++ c.len-count.result ∷ []
levels c = c.push_within_capacity-2.ensures ∙ ap (λ xs. xs ++ c.len-count.result ∷ []) c.reserve-2.ensures.items

rows : (c : goal.After-push_within_capacity-2) → c.add_variable.new.self.rows ≡ c.self.inside.slots.rows
rows c = c.add_variable.ensures.nodes.rows

marks : (c : goal.After-push_within_capacity-2) → c.add_variable.new.self.marks ≡ c.self.inside.slots.marks
marks c = c.add_variable.ensures.nodes.marks

pub invariant_of-self-2 : goal.invariant_of-self-2
invariant_of-self-2 c =
    rw (rows c, marks c, order c, levels c)
    (kept-with_variable _ _ (record { 0 = c.len-count.result }) c.self.invariant (next c) (room c) _ c.in_ok-add_variable.ensures.known)

pub returns-clause-sound : goal.returns-clause-sound
returns-clause-sound c = rw (rows c, order c) (sound-with_variable _ (record { 0 = c.len-count.result }) c.self.invariant.sound (next c) (room c))

pub returns-clause-values : goal.returns-clause-values
returns-clause-values c = λ n a.
    rw (rows c, order c, ← c.self.view_is) (value_of-with_variable _ (record { 0 = c.len-count.result }) c.self.invariant.sound (next c) n a)

pub returns-clause-levels : goal.returns-clause-levels
returns-clause-levels c = rw (order c, ← c.self.view_is) (level_in-push c.self.inside.order.items (record { 0 = c.len-count.result }))

pub returns-clause-level : goal.returns-clause-level
returns-clause-level c = rw (order c, ← c.self.view_is) (level_of-with_variable _ (record { 0 = c.len-count.result }) c.self.invariant.sound (next c))
