-- Which nodes are flat.
use Rattle.std.proofs.Common.{◌≡◌, ℕ, List, refl}
use Rattle.cqp_syntax.specs.declared.node.Node.{Node}
use Rattle.cqp_syntax.specs.declared.node.Node.TheVariants as node
use Rattle.cqp_expand.specs.Flat.{IsFlat}

-- a node that is none of five kinds is flat
pub is_flat : (x : Node) → ((c : ℕ) (xs : List ℕ) (n : ℕ) → x ≡ node.In c xs n → ⊥)
    → ((c : ℕ) (es : List ℕ) (n : ℕ) → x ≡ node.Out c es n → ⊥) → ((qs : List ℕ) (n : ℕ) → x ≡ node.Apply qs n → ⊥)
    → ((qs : List ℕ) → x ≡ node.Measure qs → ⊥) → ((a b c d : ℕ) → x ≡ node.If a b c d → ⊥) → IsFlat x
is_flat (node.In ch xs body) a b c d e = a ch xs body refl
is_flat (node.Out ch es body) a b c d e = b ch es body refl
is_flat (node.Apply qs op) a b c d e = c qs op refl
is_flat (node.Measure qs) a b c d e = d qs refl
is_flat (node.If left right first other) a b c d e = e left right first other refl
is_flat x a b c d e = tt
