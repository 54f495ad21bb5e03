-- Redexes found by a stack of nodes. No public clause cites this module.
use Rattle.std.specs.Prelude.{◌≡◌, ℕ, ◌+◌, ◌*◌, ◌<◌, if◌then◌else◌, List, [], ◌∷◌, ◌++◌, length}
use Rattle.std.specs.Prelude.{true, false}
use Rattle.cqp_syntax.specs.declared.node.Node.{Node}
use Rattle.cqp_syntax.specs.declared.node.Node.TheVariants as node
use Rattle.cqp_syntax.specs.Terms.{expr}
use Rattle.cqp_syntax.specs.Listing.{Listing, term_at, expr_at}
use Rattle.std.specs.List.{AllByRecursion}
use Rattle.cqp_syntax.specs.Preorder.{expr_size}
use Rattle.cqp_redexes.specs.declared.trail.Open.{Open}
use Rattle.cqp_redexes.specs.Evaluation.{redexes_of}

-- an expression stands at the number
abbrev pub IsExprAt : Listing → ℕ → Type 0
IsExprAt l n = (n < length l.nodes) × (term_at l n ≡ expr (expr_at l n))

-- a node whose operands are still to come, and one whose operands are done
abbrev pub opening : ℕ → Open
opening n = record { node = n; done = false }

abbrev pub closing : ℕ → Open
closing n = record { node = n; done = true }

-- the node behind its operands, of which the first stands last
abbrev pub opened_at : ℕ → Node → List Open
opened_at n (node.Sig e) = closing n ∷ opening e ∷ []
opened_at n (node.Add left right) = closing n ∷ opening right ∷ opening left ∷ []
opened_at n (node.Apply qs e) = closing n ∷ opening e ∷ []
opened_at n (node.Measure qs) = closing n ∷ []
opened_at n x = []

-- what a node of the stack stands for: its redexes, or itself
abbrev pub trail_of : Listing → Open → List ℕ
trail_of l o = if o.done then o.node ∷ [] else redexes_of o.node (expr_at l o.node)

-- what the nodes of a stack stand for, the last first
abbrev pub trail_left : Listing → List Open → List ℕ
trail_left l [] = []
trail_left l (o ∷ os) = trail_left l os ++ trail_of l o

-- how much work they are: a node that is open is opened and put
abbrev pub work_of : Listing → Open → ℕ
work_of l o = if o.done then 1 else 2 * expr_size (expr_at l o.node)

abbrev pub work_left : Listing → List Open → ℕ
work_left l [] = 0
work_left l (o ∷ os) = work_of l o + work_left l os

-- each stands at an expression
abbrev pub AreExprsAt : Listing → List Open → Type 0
AreExprsAt l os = AllByRecursion (λ o. IsExprAt l o.node) os
