-- The operations on truths, and what they make of functions.
use Rattle.std.specs.Prelude.{Bool, not, ◌&&◌, ◌||◌, if◌then◌else◌}
use Rattle.dd_store.specs.Size.{Function}
use Rattle.dd_apply.specs.declared.operation.Operation.{Operation}
use Rattle.dd_apply.specs.declared.operation.Operation.TheVariants.{And, Or, Xor}

-- what an operation makes of two truths
abbrev pub table : Operation → Bool → Bool → Bool
table And p q = p && q
table Or p q = p || q
table Xor p q = if p then not q else q

-- what it makes of two functions, for each assignment
abbrev pub applied : Operation → Function → Function → Function
applied op f g a = table op (f a) (g a)

-- the function that is g where f is true, and else h
abbrev pub chosen : Function → Function → Function → Function
chosen f g h a = if f a then g a else h a

-- the function that is true where f is not
abbrev pub opposite : Function → Function
opposite f a = not (f a)
