-- A process with other names in the places of its own.
use Rattle.std.specs.Prelude.{ℕ, map}
use Rattle.cqp_syntax.specs.Trees.{Slot, named, valued, Expr, slot, sig, add, apply, measure}
use Rattle.cqp_syntax.specs.Trees.{Binder, Process, nil, par, new, qbit, act, input, output, branch}

-- a slot, whose value stays
abbrev pub rename_slot : (ℕ → ℕ) → Slot → Slot
rename_slot r (named x) = named (r x)
rename_slot r (valued v) = valued v

-- a binder, which keeps its type
abbrev pub rename_binder : (ℕ → ℕ) → Binder → Binder
rename_binder r b = record { name = r b.name; ty = b.ty }

-- an expression
abbrev pub rename_expr : (ℕ → ℕ) → Expr → Expr
rename_expr r (slot s) = slot (rename_slot r s)
rename_expr r (sig e) = sig (rename_expr r e)
rename_expr r (add e f) = add (rename_expr r e) (rename_expr r f)
rename_expr r (apply qs e) = apply (map (rename_slot r) qs) (rename_expr r e)
rename_expr r (measure qs) = measure (map (rename_slot r) qs)

-- each name x, bound or not, becomes r x
abbrev pub rename : (ℕ → ℕ) → Process → Process
rename r nil = nil
rename r (par p q) = par (rename r p) (rename r q)
rename r (new b p) = new (rename_binder r b) (rename r p)
rename r (qbit x p) = qbit (r x) (rename r p)
rename r (act e p) = act (rename_expr r e) (rename r p)
rename r (input c bs p) = input (rename_slot r c) (map (rename_binder r) bs) (rename r p)
rename r (output c es p) = output (rename_slot r c) (map (rename_expr r) es) (rename r p)
rename r (branch e f p q) = branch (rename_expr r e) (rename_expr r f) (rename r p) (rename r q)
