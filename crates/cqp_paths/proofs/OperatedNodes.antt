-- The process of lists whose nodes have operands has operands.
use Rattle.std.proofs.Common.{◌≡◌, ℕ, ◌+◌, List, [], ◌∷◌, map, length, Bool, true, false, refl, sym, ap, ◌∙◌}
use Rattle.std.specs.Prelude.{◌&&◌, nat_lt}
use Rattle.std.specs.List.{list_all}
use Rattle.std.proofs.lemmas.List.{length-map}
use Rattle.std.proofs.lemmas.List.Folds.{list_all-append}
use Rattle.cqp_syntax.specs.declared.val.Val.{Val}
use Rattle.cqp_syntax.specs.declared.val.Val.TheVariants as val
use Rattle.cqp_syntax.specs.Listing.{Listing, IsProc, root, has_operands}
use Rattle.cqp_syntax.specs.Preorder.{name_of, value_node, expr_nodes, exprs_nodes, process_nodes, expr_size, exprs_size, process_size}
use Rattle.cqp_syntax.specs.Trees.{named, valued, Expr, slot, sig, add, apply, measure, Process, nil, par, new, qbit, act, input, output, branch}
use Rattle.cqp_cells.specs.Operated.{is_operated_expr, is_operated}

-- two tests that are two others make the same conjunction
pub both : {a b c d : Bool} → a ≡ c → b ≡ d → (a && b) ≡ (c && d)
both p q = cc

-- a conjunction with a test that passes is its other side
and_true : (b : Bool) → (b && true) ≡ b
and_true true = refl
and_true false = refl

-- conjunctions of three tests are one, however they are grouped
and_assoc : (a b c : Bool) → (a && (b && c)) ≡ ((a && b) && c)
and_assoc true b c = refl
and_assoc false b c = refl

-- the node of a value needs no operands
value_nodes : (v : Val) → has_operands (value_node v) ≡ true
value_nodes (val.Num u) = refl
value_nodes val.Unit = refl
value_nodes (val.Gate o) = refl
value_nodes (val.Qubit q) = refl
value_nodes (val.Chan k) = refl

-- the nodes of an expression have operands exactly where the expression has
expr_nodes_operated : (n : ℕ) (e : Expr) → list_all has_operands (expr_nodes n e) ≡ is_operated_expr e
expr_nodes_operated n (slot (named x)) = refl
expr_nodes_operated n (slot (valued v)) = and_true (has_operands (value_node v)) ∙ value_nodes v
expr_nodes_operated n (sig e) = expr_nodes_operated (n + 1) e
expr_nodes_operated n (add e f) =
    list_all-append has_operands (expr_nodes (n + 1) e) (expr_nodes (n + 1 + expr_size e) f)
    ∙ both (expr_nodes_operated (n + 1) e) (expr_nodes_operated (n + 1 + expr_size e) f)
expr_nodes_operated n (apply qs e) = both (ap (λ k. nat_lt 0 k) (length-map qs name_of)) (expr_nodes_operated (n + 1) e)
expr_nodes_operated n (measure qs) = and_true (nat_lt 0 (length (map name_of qs))) ∙ ap (λ k. nat_lt 0 k) (length-map qs name_of)

-- the nodes of expressions have operands exactly where the expressions have
exprs_nodes_operated : (n : ℕ) (es : List Expr) → list_all has_operands (exprs_nodes n es) ≡ list_all is_operated_expr es
exprs_nodes_operated n [] = refl
exprs_nodes_operated n (e ∷ es) =
    list_all-append has_operands (expr_nodes n e) (exprs_nodes (n + expr_size e) es)
    ∙ both (expr_nodes_operated n e) (exprs_nodes_operated (n + expr_size e) es)

-- the nodes of a process have operands exactly where the process has
nodes_operated : (n : ℕ) (p : Process) → list_all has_operands (process_nodes n p) ≡ is_operated p
nodes_operated n nil = refl
nodes_operated n (par p q) =
    list_all-append has_operands (process_nodes (n + 1) p) (process_nodes (n + 1 + process_size p) q)
    ∙ both (nodes_operated (n + 1) p) (nodes_operated (n + 1 + process_size p) q)
nodes_operated n (new b p) = nodes_operated (n + 1) p
nodes_operated n (qbit x p) = nodes_operated (n + 1) p
nodes_operated n (act e p) =
    list_all-append has_operands (expr_nodes (n + 1) e) (process_nodes (n + 1 + expr_size e) p)
    ∙ both (expr_nodes_operated (n + 1) e) (nodes_operated (n + 1 + expr_size e) p)
nodes_operated n (input c bs p) = nodes_operated (n + 1) p
nodes_operated n (output c es p) =
    list_all-append has_operands (exprs_nodes (n + 1) es) (process_nodes (n + 1 + exprs_size es) p)
    ∙ both (exprs_nodes_operated (n + 1) es) (nodes_operated (n + 1 + exprs_size es) p)
nodes_operated n (branch e f p q) =
    list_all-append has_operands (expr_nodes (n + 1) e) _
    ∙ both (expr_nodes_operated (n + 1) e)
    (list_all-append has_operands (expr_nodes (n + 1 + expr_size e) f) _
    ∙ both (expr_nodes_operated (n + 1 + expr_size e) f)
    (list_all-append has_operands (process_nodes (n + 1 + expr_size e + expr_size f) p) _
    ∙ both (nodes_operated (n + 1 + expr_size e + expr_size f) p) (nodes_operated (n + 1 + expr_size e + expr_size f + process_size p) q)))
    ∙ and_assoc (is_operated_expr e) (is_operated_expr f) (is_operated p && is_operated q)
    ∙ and_assoc (is_operated_expr e && is_operated_expr f) (is_operated p) (is_operated q)

-- the process of a `Proc` has operands
pub listed_operated : (l : Listing) → IsProc l → is_operated (root l) ≡ true
listed_operated l is = sym (nodes_operated 0 (root l)) ∙ ap (λ ns. list_all has_operands ns) (sym is.listed.nodes) ∙ is.sound.operands
