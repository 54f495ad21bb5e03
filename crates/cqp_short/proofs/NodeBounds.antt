-- Measures of a process are within its nodes, and a process has at most 65,536.
use Rattle.std.proofs.Common.{◌≡◌, List, [], ◌∷◌, ◌+◌, ◌≤◌, length, sum_by, ap, arith, ◌∙◌}
use Rattle.std.proofs.lemmas.List.Sums.{sum_by-cons}
use Rattle.cqp_syntax.specs.declared.node.Node.{Node}
use Rattle.cqp_syntax.specs.declared.node.Node.TheVariants as node
use Rattle.cqp_syntax.specs.Trees.{Expr, slot, sig, add, apply, measure, Process, nil, par, new, qbit, act, input, output, branch}
use Rattle.cqp_syntax.specs.Listing.{Listing, IsProc, root, breadth_of}
use Rattle.cqp_syntax.specs.Preorder.{expr_size, exprs_size, process_size}
use Rattle.cqp_syntax.proofs.Sizes.{length-process_nodes}
use Rattle.cqp_syntax.specs.Measures.{expr_steps, exprs_steps, size, need, chans_in}
use Rattle.cqp_short.specs.Bounds.{pars_in}

-- qubits on a way
need_within : (p : Process) → need p ≤ process_size p
need_within nil = omega arith
need_within (par p q) = let a = need_within p in let b = need_within q in omega arith
need_within (new b p) = let a = need_within p in omega arith
need_within (qbit x p) = let a = need_within p in omega arith
need_within (act e p) = let a = need_within p in omega arith
need_within (input c bs p) = let a = need_within p in omega arith
need_within (output c es p) = let a = need_within p in omega arith
need_within (branch e f p q) = let a = need_within p in let b = need_within q in omega arith

-- a process makes no more channels than it has nodes
chans_within : (p : Process) → chans_in p ≤ process_size p
chans_within nil = omega arith
chans_within (par p q) = let a = chans_within p in let b = chans_within q in omega arith
chans_within (new b p) = let a = chans_within p in omega arith
chans_within (qbit x p) = let a = chans_within p in omega arith
chans_within (act e p) = let a = chans_within p in omega arith
chans_within (input c bs p) = let a = chans_within p in omega arith
chans_within (output c es p) = let a = chans_within p in omega arith
chans_within (branch e f p q) = let a = chans_within p in let b = chans_within q in omega arith

-- parallel compositions, and one more
pars_within : (p : Process) → pars_in p + 1 ≤ process_size p
pars_within nil = omega arith
pars_within (par p q) = let a = pars_within p in let b = pars_within q in omega arith
pars_within (new b p) = let a = pars_within p in omega arith
pars_within (qbit x p) = let a = pars_within p in omega arith
pars_within (act e p) = let a = pars_within p in omega arith
pars_within (input c bs p) = let a = pars_within p in omega arith
pars_within (output c es p) = let a = pars_within p in omega arith
pars_within (branch e f p q) = let a = pars_within p in let b = pars_within q in omega arith

-- nodes that are reduced
count_within : (e : Expr) → expr_steps e ≤ expr_size e
count_within (slot s) = omega arith
count_within (sig e) = let a = count_within e in omega arith
count_within (add e f) = let a = count_within e in let b = count_within f in omega arith
count_within (apply qs e) = let a = count_within e in omega arith
count_within (measure qs) = omega arith

-- in a list of expressions
counts_within : (es : List Expr) → exprs_steps es ≤ exprs_size es
counts_within [] = omega arith
counts_within (e ∷ es) = let a = count_within e in let b = counts_within es in omega arith

-- in a process
size_within : (p : Process) → size p ≤ process_size p
size_within nil = omega arith
size_within (par p q) = let a = size_within p in let b = size_within q in omega arith
size_within (new b p) = let a = size_within p in omega arith
size_within (qbit x p) = let a = size_within p in omega arith
size_within (act e p) = let a = count_within e in let b = size_within p in omega arith
size_within (input c bs p) = let a = size_within p in omega arith
size_within (output c es p) = let a = counts_within es in let b = size_within p in omega arith
size_within (branch e f p q) =
    let a = count_within e in
    let b = count_within f in
    let c = size_within p in
    let d = size_within q in
    omega arith

-- a node counts as one at least
one_at_least : (x : Node) → 1 ≤ breadth_of x
one_at_least node.Nil = omega arith
one_at_least (node.Par a b) = omega arith
one_at_least (node.New x a) = omega arith
one_at_least (node.Qbit x a) = omega arith
one_at_least (node.Act e a) = omega arith
one_at_least (node.In c xs a) = omega arith
one_at_least (node.Out c es a) = omega arith
one_at_least (node.If e f a b) = omega arith
one_at_least (node.Name x) = omega arith
one_at_least (node.Num v) = omega arith
one_at_least node.Unit = omega arith
one_at_least (node.Gate o) = omega arith
one_at_least (node.Sig e) = omega arith
one_at_least (node.Add e f) = omega arith
one_at_least (node.Apply qs e) = omega arith
one_at_least (node.Measure qs) = omega arith

-- so nodes are at most what they count as
nodes_within : (xs : List Node) → length xs ≤ sum_by breadth_of xs
nodes_within [] = omega arith
nodes_within (x ∷ xs) = let a = one_at_least x in let b = nodes_within xs in let c = sum_by-cons breadth_of x xs in omega arith

-- what a process has of each
pub record HasFew (l : Listing) : Type 0 where
  pub need : need (root l) ≤ 65536
  pub chans : chans_in (root l) ≤ 65536
  pub pars : pars_in (root l) + 1 ≤ 65536
  pub size : size (root l) ≤ 65536

-- a process has few of each
pub has_few : (l : Listing) → IsProc l → HasFew l
has_few l sound =
    let nodes : length l.nodes ≡ process_size (root l) = ap length sound.listed.nodes ∙ length-process_nodes 0 (root l) in
    let within = nodes_within l.nodes in
    let few = sound.sound.few_nodes in
    let need = need_within (root l) in
    let chans = chans_within (root l) in
    let pars = pars_within (root l) in
    let size = size_within (root l) in
    record { need = omega arith; chans = omega arith; pars = omega arith; size = omega arith }
