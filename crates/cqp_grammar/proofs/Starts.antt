-- The first token of a prefix, an atom, a sum, an item or an expression is a step of the machine.
use Rattle.std.proofs.Common.{ℕ, List, [], ◌∷◌, ◌≡◌, inl, inr, refl, sym, subst, Option, Some, None}
use Rattle.cqp_syntax.specs.declared.op.Op.{Op}
use Rattle.cqp_syntax.specs.declared.op.Op.TheVariants as op
use Rattle.cqp_grammar.specs.declared.token.Token.{Token}
use Rattle.cqp_grammar.specs.declared.token.Token.TheVariants.{Name, Reserved, Symbol, End}
use Rattle.cqp_grammar.specs.declared.token.ReservedWord.TheVariants as word
use Rattle.cqp_grammar.specs.declared.token.SymbolKind.TheVariants as symbol
use Rattle.cqp_grammar.specs.Trees.{ExprTree, number, unit, name, gate, ProcessTree, nil, par}
use Rattle.cqp_grammar.specs.Trees.{ProgramTree}
use Rattle.cqp_grammar.specs.Grammar.{gate_word, one_name, more_names, IsExpr, applied, plain}
use Rattle.cqp_grammar.specs.Grammar.{measured, summed, IsSum, IsAtom, a_number, a_unit, a_name}
use Rattle.cqp_grammar.specs.Grammar.{a_gate}
use Rattle.cqp_grammar.specs.Grammar.{a_sig, a_group, IsPrefix, zero_, group, new_, qbit_, act_}
use Rattle.cqp_grammar.specs.Grammar.{input_none, input_some, output_none, output_some, call_none}
use Rattle.cqp_grammar.specs.Grammar.{call_some, if_}
use Rattle.cqp_grammar.specs.Stacks.{PrefixStack, in_process, ProcessStack, in_group, in_right}
use Rattle.cqp_grammar.specs.Stacks.{in_body, in_main, ExprStack, ItemStack, in_left, in_right_side}
use Rattle.cqp_grammar.specs.Stacks.{in_list, in_expr, SumStack, in_item, AtomStack, in_first}
use Rattle.cqp_grammar.specs.ParserStates.{ParserState, expr_named, after_sum, after_prefix, finished}
use Rattle.cqp_grammar.specs.Moves.{process_read, atom_read, atom_start, item_start, expr_start}
use Rattle.cqp_grammar.specs.Moves.{prefix_start, token_read}
use Rattle.cqp_grammar.specs.Trees.{occurrence}
use Rattle.cqp_grammar.specs.Completes.{PrefixEnds, ProcessEnds, ExprEnds, ItemEnds, SumEnds}
use Rattle.cqp_grammar.specs.Completes.{AtomEnds, ItemReads, Completes}
use Rattle.cqp_grammar.proofs.Ends.{symbol_first, prefix_done, atom_done, process_wants, sum_split}

-- the step is taken, and what follows completes
abbrev pub Goes : Option ParserState → List Token → ProgramTree → Type 0
Goes step ts t = (d : ParserState) × (step ≡ Some d) × Completes d ts t

-- at the first token of a prefix
pub prefix_steps : (t : ProgramTree) (k : PrefixStack) {tok : Token} {ts rest : List Token} {p : ProcessTree} → IsPrefix (tok ∷ ts) p rest
    → PrefixEnds t k p rest → Goes (prefix_start k tok) ts t
prefix_steps t k (zero_ {at}) e = (_, refl, prefix_done t k (nil at) _ e)
prefix_steps t k (group h) e = (_, refl, inl (_, _, h, (_, _, refl, e)))
prefix_steps t k (new_ ty h) e = (_, refl, inr (inl (_, _, refl, (_, _, _, refl, (_, _, refl, (_, _, ty, (_, _, refl, (_, _, h, e))))))))
prefix_steps t k (qbit_ h) e = (_, refl, inr (inr (_, _, refl, (_, _, _, refl, (_, _, refl, (_, _, h, e))))))
prefix_steps t k (act_ x h) e = (_, refl, (_, _, x, (_, _, refl, (_, _, refl, (_, _, h, e)))))
prefix_steps t k (input_none h) e = (_, refl, inl (_, _, refl, (_, _, refl, inl (_, _, refl, (_, _, refl, (_, _, h, e))))))
prefix_steps t k (input_some ps h) e = (_, refl, inl (_, _, refl, (_, _, refl, inr (_, _, ps, (_, _, refl, (_, _, refl, (_, _, h, e)))))))
prefix_steps t k (output_none h) e = (_, refl, inr (inl (_, _, refl, (_, _, refl, inl (_, _, refl, (_, _, refl, (_, _, h, e)))))))
prefix_steps t k (output_some es h) e = (_, refl, inr (inl (_, _, refl, (_, _, refl, inr (_, _, es, (_, _, refl, (_, _, refl, (_, _, h, e))))))))
prefix_steps t k call_none e = (_, refl, inr (inr (_, _, refl, inl (_, _, refl, e))))
prefix_steps t k (call_some xs) e = (_, refl, inr (inr (_, _, refl, inr (_, _, xs, (_, _, refl, e)))))
prefix_steps t k (if_ x y p q) e = (_, refl, (_, _, x, (_, _, refl, (_, _, y, (_, _, refl, (_, _, p, (_, _, refl, (_, _, q, e))))))))

-- after a process
pub process_steps : (t : ProgramTree) (k : ProcessStack) (p : ProcessTree) (tok : Token) (ts : List Token) → ProcessEnds t k p (tok ∷ ts)
    → Goes (process_read k p tok) ts t
process_steps t (in_group k) p tok ts h = let (at, is, e) = symbol_first h in rw is (_, refl, prefix_done t k p _ e)
process_steps t (in_right at q k) p tok ts h = process_steps t k (par at q p) tok ts h
process_steps t (in_body x ps ds) p tok ts h = let (at, is, e) = symbol_first h in rw is (_, refl, e)
process_steps t (in_main ds) p tok ts (at, same, is) =
    let end : tok ≡ End at = cc same in
    let none : ts ≡ [] = cc same in
    rw end (finished (record { defs = ds; main = p }), refl, (none, sym is))

-- a step of the machine where a bar can't come
bar_ends_none : (k : ProcessStack) (p : ProcessTree) (at : ℕ) → process_read k p (Symbol symbol.Bar at) ≡ None
bar_ends_none (in_group k) p at = refl
bar_ends_none (in_right n q k) p at = bar_ends_none k (par n q p) at
bar_ends_none (in_body x ps ds) p at = refl
bar_ends_none (in_main ds) p at = refl

-- a token at which a process ends is a step behind a prefix
other_than_bar : (p : ProcessTree) (k : ProcessStack) (tok : Token) (d : ParserState) → process_read k p tok ≡ Some d → token_read (after_prefix p k) tok
    ≡ Some d
other_than_bar p k (Symbol symbol.Bar at) d same = absurd (cc (bar_ends_none k p at, same))
other_than_bar p k tok d same = same

-- a token that can stand behind a prefix is a step
pub after_prefix_steps : (t : ProgramTree) (k : ProcessStack) (p : ProcessTree) (tok : Token) (ts : List Token) → PrefixEnds t (in_process k) p (tok ∷ ts)
    → Goes (token_read (after_prefix p k) tok) ts t
after_prefix_steps t k p tok ts (inl e) = let (d, is, h) = process_steps t k p tok ts e in (d, other_than_bar p k tok d is, h)
after_prefix_steps t k p tok ts (inr (at, more, same, (q, rest, h, e))) =
    let bar : tok ≡ Symbol symbol.Bar at = cc same in
    let rest_is : ts ≡ more = cc same in
    rw bar (_, refl, rw rest_is (process_wants t (in_right at p k) h e))

-- at the first token of an atom
gate_steps : (k : AtomStack) (u : Op) (at : ℕ) → atom_start k (Reserved (gate_word u) at) ≡ Some (atom_read k (gate at u))
gate_steps k op.I at = refl
gate_steps k op.X at = refl
gate_steps k op.Y at = refl
gate_steps k op.Z at = refl
gate_steps k op.H at = refl
gate_steps k op.S at = refl
gate_steps k op.T at = refl
gate_steps k op.CNot at = refl
gate_steps k op.CZ at = refl
gate_steps k op.Swap at = refl
gate_steps k op.Toffoli at = refl

-- a token with which an atom begins is a step
pub atom_steps : (t : ProgramTree) (k : AtomStack) {tok : Token} {ts rest : List Token} {a : ExprTree} → IsAtom (tok ∷ ts) a rest → AtomEnds t k a rest
    → Goes (atom_start k tok) ts t
atom_steps t k (a_number {v} {at}) e = (_, refl, atom_done t k (number at v) _ e)
atom_steps t k (a_unit {at}) e = (_, refl, atom_done t k (unit at) _ e)
atom_steps t k (a_name {x} {at}) e = (_, refl, atom_done t k (name at x) _ e)
atom_steps t k (a_gate {at = at} {u = u} same) e = rw same (_, gate_steps k u at, atom_done t k (gate at u) _ e)
atom_steps t k (a_sig h) e = (_, refl, (_, _, refl, (_, _, h, (_, _, refl, e))))
atom_steps t k (a_group h) e = (_, refl, (_, _, h, (_, _, refl, e)))

-- a token with which a sum begins is a step
pub sum_steps : (t : ProgramTree) (k : SumStack) {tok : Token} {ts rest : List Token} {e : ExprTree} → IsSum (tok ∷ ts) e rest → SumEnds t k e rest
    → Goes (atom_start (in_first k) tok) ts t
sum_steps t k s e = let (a, mid, h, more) = sum_split s in atom_steps t (in_first k) h (_, _, more, e)

-- at the first token of an item
pub unflagged : (t : ProgramTree) (k : ItemStack) (measured_ : Type 0) (e : ExprTree) (ts : List Token) → ItemEnds t k measured_ e ts → ItemEnds t k ⊥ e ts
unflagged t (in_left at k) m e ts h = h
unflagged t (in_right_side at f k) m e ts h = h
unflagged t (in_list x es k) m e ts (inl h) = inl h
unflagged t (in_list x es k) m e ts (inr (at, more, same, (free, h))) = inr (at, more, same, ((λ no. absurd no), h))
unflagged t (in_expr k) m e ts h = h

-- a token with which an atom begins is a step where an item is due
other_than_measure : (k : ItemStack) (tok : Token) (d : ParserState) → atom_start (in_first (in_item k)) tok ≡ Some d → item_start k tok ≡ Some d
other_than_measure k (Reserved word.Measure at) d same = absurd (cc same)
other_than_measure k tok d same = same

-- a token with which an item begins is a step
pub item_steps : (t : ProgramTree) (k : ItemStack) {tok : Token} {ts : List Token} → ItemReads t k (tok ∷ ts) → Goes (item_start k tok) ts t
item_steps t k (e, rest, measured h, ends) = (_, refl, (_, _, h, ends))
item_steps t k {tok} (e, rest, summed s, ends) =
    let (d, is, h) = sum_steps t (in_item k) s (unflagged t k _ e rest ends) in (d, other_than_measure k tok d is, h)

-- at the first token of an expression
item_as_expr : (t : ProgramTree) (k : ExprStack) (tok : Token) (ts : List Token) → Goes (item_start (in_expr k) tok) ts t → Goes (expr_start k tok) ts t
item_as_expr t k (Name x at) ts (d, is, h) =
    let same : after_sum (name at x) (in_item (in_expr k)) ≡ d = cc is in
    (expr_named (occurrence x at) k, refl, inr (subst (λ c. Completes c ts t) (sym same) h))
item_as_expr t k tok ts h = h

-- a token with which an expression begins is a step
pub expr_steps : (t : ProgramTree) (k : ExprStack) {tok : Token} {ts rest : List Token} {e : ExprTree} → IsExpr (tok ∷ ts) e rest → ExprEnds t k e rest
    → Goes (expr_start k tok) ts t
expr_steps t k (applied one_name s) e = (_, refl, inl (inl (_, _, refl, (_, _, s, e))))
expr_steps t k (applied (more_names h) s) e = (_, refl, inl (inr (_, _, refl, (_, _, h, (_, _, refl, (_, _, s, e))))))
expr_steps t k {tok} {ts} (plain h) e = item_as_expr t k tok ts (item_steps t (in_expr k) (_, _, h, e))
