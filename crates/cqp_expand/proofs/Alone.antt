-- Law: where no definition stands before a process, its members are its own nodes.
use Rattle.std.proofs.Common.{◌≡◌, ℕ, ◌+◌, List, [], ◌∷◌, ◌++◌, map, length, refl, ap, ap₂, sym, ◌∙◌, arith, Result, Ok, Err, IfOk}
use Rattle.std.proofs.lemmas.List.{map-append, length-map}
use Rattle.std.specs.List.{range_with_len}
use Rattle.cqp_syntax.specs.declared.node.Node.{Node}
use Rattle.cqp_syntax.specs.declared.node.Node.TheVariants as node
use Rattle.cqp_syntax.specs.declared.ty.Ty.{Ty}
use Rattle.cqp_syntax.specs.TypeTrees.{qbit_type}
use Rattle.cqp_syntax.specs.Binders.{binders_of}
use Rattle.cqp_syntax.specs.Preorder as listed
use Rattle.cqp_syntax.specs.Preorder.{expr_nodes, exprs_nodes, process_nodes}
use Rattle.cqp_grammar.specs.Trees as tree
use Rattle.cqp_grammar.specs.Trees.{ExprTrees, Parameter, ProcessTree, DefinitionTree, ProgramTree}
use Rattle.cqp_program.specs.Listing.{expr_size, exprs_size, process_size, numbers_from}
use Rattle.cqp_expand.specs.declared.outline.Outline.{Outline}
use Rattle.cqp_expand.specs.declared.outline.Member.{Member}
use Rattle.cqp_expand.specs.declared.outline.Member.TheVariants.{Own, Call}
use Rattle.cqp_expand.specs.declared.spread.Lists.{Lists}
use Rattle.cqp_expand.specs.Scopes.{Scope, below, below_all}
use Rattle.cqp_expand.specs.Expansion.{Template, binder_count, binders_from, number_in, expr_in, exprs_in, process_in, offsets_in}
use Rattle.cqp_expand.specs.Faults.{process_faults, scope_faults}
use Rattle.cqp_expand.specs.Members.{locals, local_types, members_in}
use Rattle.cqp_expand.specs.Spread.{offsets_from}
use Rattle.cqp_expand.specs.Copies.{IsSmall, IsCopyOf, own_nodes}
use Rattle.cqp_expand.specs.Outlines.{IsOutline, AreBehind}
use Rattle.cqp_expand.proofs.Copied.{copied}
use Rattle.cqp_expand.proofs.Found.{among_self}
use Rattle.cqp_expand.proofs.SpreadExprs.{size_in, sizes_in}
use Rattle.cqp_expand.proofs.TypeTables.{parts_test}

-- the numbers of expressions
numbers_alone : (s : Scope) (n : ℕ) (es : ExprTrees)
    → numbers_from n es ≡ listed.numbers_from n (exprs_in s es)
numbers_alone s n tree.no_exprs = refl
numbers_alone s n (tree.expr_and e es) =
    ap (λ ns. n ∷ ns)
    (numbers_alone s (n + expr_size e) es
    ∙ ap (λ c. listed.numbers_from (n + c) (exprs_in s es)) (sym (size_in s e)))

-- the names of parameters
names_alone : (k : ℕ) (ps : List Parameter)
    → range_with_len k (length ps) ≡ map (λ b. b.name) (binders_from k ps)
names_alone k [] = refl
names_alone k (p ∷ ps) = ap (λ xs. k ∷ xs) (names_alone (k + 1) ps)

-- their types
params_alone : (k : ℕ) (ps : List Parameter)
    → map (λ b. b.ty) (binders_from k ps) ≡ map (λ p. p.ty) ps
params_alone k [] = refl
params_alone k (p ∷ ps) = ap (λ ts. p.ty ∷ ts) (params_alone (k + 1) ps)

-- how many nodes the process has
size_alone : (s : Scope) (k : ℕ) (p : ProcessTree)
    → listed.process_size (process_in [] s k p) ≡ process_size p
size_alone s k (tree.nil at) = refl
size_alone s k (tree.par at p q) =
    omega (arith, size_alone s k p, size_alone s (k + binder_count (process_in [] s k p)) q)
size_alone s k (tree.new at x t p) = omega (arith, size_alone (below s k x.name t) (k + 1) p)
size_alone s k (tree.qbit at x p) = omega (arith, size_alone (below s k x.name qbit_type) (k + 1) p)
size_alone s k (tree.act at e p) = omega (arith, size_in s e, size_alone s k p)
size_alone s k (tree.input at c ps p) =
    omega (arith, size_alone (below_all s k ps) (k + length ps) p)
size_alone s k (tree.output at c es p) = omega (arith, sizes_in s es, size_alone s k p)
size_alone s k (tree.branch at e f p q) =
    omega (
      arith,
      size_in s e,
      size_in s f,
      size_alone s k p,
      size_alone s (k + binder_count (process_in [] s k p)) q,
    )
size_alone s k (tree.call at f xs) = refl

-- the types of its binders
types_alone : (s : Scope) (k : ℕ) (p : ProcessTree)
    → map (λ b. b.ty) (binders_of (process_in [] s k p)) ≡ local_types p
types_alone s k (tree.nil at) = refl
types_alone s k (tree.par at p q) =
    let next = k + binder_count (process_in [] s k p) in
    map-append (λ b. b.ty) (binders_of (process_in [] s k p)) (binders_of (process_in [] s next q))
    ∙ ap₂ (λ ts us. ts ++ us) (types_alone s k p) (types_alone s next q)
types_alone s k (tree.new at x t p) =
    ap (λ ts. t ∷ ts) (types_alone (below s k x.name t) (k + 1) p)
types_alone s k (tree.qbit at x p) =
    ap (λ ts. qbit_type ∷ ts) (types_alone (below s k x.name qbit_type) (k + 1) p)
types_alone s k (tree.act at e p) = types_alone s k p
types_alone s k (tree.input at c ps p) =
    map-append (λ b. b.ty) (binders_from k ps) (binders_of (process_in [] (below_all s k ps) (k + length ps) p))
    ∙ ap₂ (λ ts us. ts ++ us) (params_alone k ps) (types_alone (below_all s k ps) (k + length ps) p)
types_alone s k (tree.output at c es p) = types_alone s k p
types_alone s k (tree.branch at e f p q) =
    let next = k + binder_count (process_in [] s k p) in
    map-append (λ b. b.ty) (binders_of (process_in [] s k p)) (binders_of (process_in [] s next q))
    ∙ ap₂ (λ ts us. ts ++ us) (types_alone s k p) (types_alone s next q)
types_alone s k (tree.call at f xs) = refl

-- how many they are
count_alone : (s : Scope) (k : ℕ) (p : ProcessTree) → binder_count (process_in [] s k p) ≡ locals p
count_alone s k p =
    sym (length-map (binders_of (process_in [] s k p)) (λ b. b.ty)) ∙ ap length (types_alone s k p)

-- the members are the nodes
pub members_alone : (s : Scope) (k n : ℕ) (p : ProcessTree)
    → members_in [] s k n p ≡ map Own (process_nodes n (process_in [] s k p))
members_alone s k n (tree.nil at) = refl
members_alone s k n (tree.par at p q) =
    rw (
      size_alone s k p,
      count_alone s k p,
      map-append Own (process_nodes (n + 1) (process_in [] s k p)) (process_nodes (n + 1 + process_size p) (process_in [] s (k + locals p) q)),
      members_alone s k (n + 1) p,
      members_alone s (k + locals p) (n + 1 + process_size p) q,
    ) refl
members_alone s k n (tree.new at x t p) =
    ap (λ xs. Own (node.New k (n + 1)) ∷ xs) (members_alone (below s k x.name t) (k + 1) (n + 1) p)
members_alone s k n (tree.qbit at x p) =
    ap (λ xs. Own (node.Qbit k (n + 1)) ∷ xs) (members_alone (below s k x.name qbit_type) (k + 1) (n + 1) p)
members_alone s k n (tree.act at e p) =
    rw (
      size_in s e,
      map-append Own (expr_nodes (n + 1) (expr_in s e)) (process_nodes (n + 1 + expr_size e) (process_in [] s k p)),
      members_alone s k (n + 1 + expr_size e) p,
    ) refl
members_alone s k n (tree.input at c ps p) =
    ap₂ (λ ns xs. Own (node.In (number_in s c.name) ns (n + 1)) ∷ xs) (names_alone k ps)
    (members_alone (below_all s k ps) (k + length ps) (n + 1) p)
members_alone s k n (tree.output at c es p) =
    rw (
      sizes_in s es,
      ← numbers_alone s (n + 1) es,
      map-append Own (exprs_nodes (n + 1) (exprs_in s es)) (process_nodes (n + 1 + exprs_size es) (process_in [] s k p)),
      members_alone s k (n + 1 + exprs_size es) p,
    ) refl
members_alone s k n (tree.branch at e f p q) =
    let right = n + 1 + expr_size e in
    let first = right + expr_size f in
    let other = first + process_size p in
    rw (
      size_in s e,
      size_in s f,
      size_alone s k p,
      count_alone s k p,
      map-append Own (expr_nodes (n + 1) (expr_in s e))
          (expr_nodes right (expr_in s f) ++ (process_nodes first (process_in [] s k p) ++ process_nodes other (process_in [] s (k + locals p) q))),
      map-append Own (expr_nodes right (expr_in s f)) (process_nodes first (process_in [] s k p) ++ process_nodes other (process_in [] s (k + locals p) q)),
      map-append Own (process_nodes first (process_in [] s k p)) (process_nodes other (process_in [] s (k + locals p) q)),
      members_alone s k first p,
      members_alone s (k + locals p) other q,
    ) refl
members_alone s k n (tree.call at f xs) = refl

-- members that are own nodes are these nodes
own_alone : (ns : List Node) → own_nodes (map Own ns) ≡ ns
own_alone [] = refl
own_alone (x ∷ ns) = ap (λ xs. x ∷ xs) (own_alone ns)

-- nodes among members behind others
pub own_nodes-append : (xs ys : List Member) → own_nodes (xs ++ ys) ≡ own_nodes xs ++ own_nodes ys
own_nodes-append [] ys = refl
own_nodes-append (Own x ∷ xs) ys = ap (λ ns. x ∷ ns) (own_nodes-append xs ys)
own_nodes-append (Call def args ∷ xs) ys = own_nodes-append xs ys

-- they have their offsets
offsets_alone : (ts : List Template) (ns : List Node) (at : List ℕ) → length at ≡ length ns
    → offsets_from ts (map Own ns) at ≡ at
offsets_alone ts [] [] e = refl
offsets_alone ts [] (a ∷ at) e = absurd (omega (arith, e))
offsets_alone ts (x ∷ ns) [] e = absurd (omega (arith, e))
offsets_alone ts (x ∷ ns) (a ∷ at) e =
    ap (λ xs. a ∷ xs) (offsets_alone ts ns at (omega (arith, e)))

-- no outline stands for definitions
none_behind : (types : List Ty) (front : List Outline) (names : List (List ℕ)) (ds : List DefinitionTree)
    (main : ProcessTree) → AreBehind types front names ds main [] → ⊥
none_behind types front names [] main h = h
none_behind types front names (d ∷ ds) main h = h

-- the outline of a process alone has the lists of its expansion
alone_copied : (types : List Ty) (main : ProcessTree) (d : Outline) → IsOutline types [] [] [] main d
    → process_faults [] [] main ≡ []
    → IsCopyOf (record { defs = []; main = main }) types (own_nodes d.members.items) d.ty_of.items d.at.items
alone_copied types main d i h =
    let nodes = process_nodes 0 (process_in [] [] 0 main) in
    let members = i.members ∙ members_alone [] 0 0 main in
    let t : Template = record { text = []; arity = 0; body = process_in [] [] 0 main; at = offsets_in [] main } in
    let copy = copied [] [] (among_self []) [] types [] [] main d t i (record { arity = refl; body = refl; at = refl }) tt h in
    let count : length d.at.items ≡ length nodes = copy.placed ∙ ap length members ∙ length-map nodes Own in
    record {
      listed = ap own_nodes members ∙ own_alone nodes;
      bound = i.types ∙ sym (types_alone [] 0 main);
      offsets = sym (offsets_alone [] nodes d.at.items count) ∙ ap (λ xs. offsets_from [] xs d.at.items) (sym members) ∙ copy.offsets;
      typed = parts_test (length types) d.ty_of.items i.numbered;
    }

-- where there is one outline, it is that of the process
one_outline : (types : List Ty) (defs : List DefinitionTree) (main : ProcessTree) (d : Outline)
    → AreBehind types [] [] defs main (d ∷ []) → scope_faults (record { defs = defs; main = main }) ≡ []
    → IsCopyOf (record { defs = defs; main = main }) types (own_nodes d.members.items) d.ty_of.items d.at.items
one_outline types [] main d i h = alone_copied types main d i h
one_outline types (x ∷ xs) main d i h =
    absurd (none_behind types (d ∷ []) (x.name ∷ []) xs main i.1)

-- the lists of a small program with one outline are those of the outline
pub alone_is : (t : ProgramTree) (types : List Ty) (d : Outline) → IsSmall t types (d ∷ [])
    → IsCopyOf t types (own_nodes d.members.items) d.ty_of.items d.at.items
alone_is t types d s = one_outline types t.defs t.main d s.scanned s.faultless

-- lists that are those of the outline are those of the program
pub lists_are : {E : Type 0} (r : Result Lists E) (t : ProgramTree) (types : List Ty) (nodes : List Node) (ty_of at : List ℕ)
    → IfOk r (λ l. l.nodes ≡ nodes) → IfOk r (λ l. l.ty_of ≡ ty_of) → IfOk r (λ l. l.at ≡ at)
    → IsCopyOf t types nodes ty_of at → IfOk r (λ l. IsCopyOf t types l.nodes l.ty_of l.at)
lists_are (Ok l) t types nodes ty_of at a b c h = rw (a, b, c) h
lists_are (Err e) t types nodes ty_of at a b c h = a
