-- Nodes that are copied at once. No public clause cites this module.
use Rattle.cqp_syntax.specs.declared.node.Node.{Node}
use Rattle.cqp_syntax.specs.declared.node.Node.TheVariants as node

-- a node without a list of names or nodes, and without branches
abbrev pub IsFlat : Node → Type 0
IsFlat (node.In c xs body) = ⊥
IsFlat (node.Out c es body) = ⊥
IsFlat (node.If left right first other) = ⊥
IsFlat (node.Apply qs e) = ⊥
IsFlat (node.Measure qs) = ⊥
IsFlat x = Unit {0}
