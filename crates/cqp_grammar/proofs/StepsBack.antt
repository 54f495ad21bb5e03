-- Each step of the machine can be taken: what completes the reading after it completes it before, with the token first.
use Rattle.std.proofs.Common.{ℕ, zero, List, [], ◌∷◌, ◌++◌, ◌≡◌, inl, inr, refl, sym, ◌∙◌, ap}
use Rattle.std.proofs.Common.{subst, Some}
use Rattle.cqp_syntax.specs.declared.op.Op.{Op}
use Rattle.cqp_syntax.specs.declared.op.Op.TheVariants as op
use Rattle.cqp_grammar.specs.declared.token.Token.{Token}
use Rattle.cqp_grammar.specs.declared.token.Token.TheVariants.{Name, Number, Reserved, Symbol, End}
use Rattle.cqp_grammar.specs.declared.token.ReservedWord.TheVariants as word
use Rattle.cqp_grammar.specs.declared.token.SymbolKind.TheVariants as symbol
use Rattle.cqp_grammar.specs.Trees.{ExprTree, number, unit, name, gate, sig, apply}
use Rattle.cqp_grammar.specs.Trees.{measure, no_exprs, ProcessTree, nil, par, new, qbit, act, input}
use Rattle.cqp_grammar.specs.Trees.{output, branch, call, ProgramTree}
use Rattle.cqp_grammar.specs.Grammar.{gate_word, first_at, StartsWithMeasure, IsNames, IsType}
use Rattle.cqp_grammar.specs.Grammar.{IsItems, one_atom}
use Rattle.cqp_grammar.specs.Grammar.{IsParams, IsExpr, applied, plain}
use Rattle.cqp_grammar.specs.Grammar.{IsItem, measured, summed, IsSum, IsAtom, a_number, a_unit}
use Rattle.cqp_grammar.specs.Grammar.{a_name}
use Rattle.cqp_grammar.specs.Grammar.{a_gate, a_sig, a_group, IsProcess, IsPrefix, zero_, group}
use Rattle.cqp_grammar.specs.Grammar.{new_, qbit_, act_, input_none, input_some, output_none}
use Rattle.cqp_grammar.specs.Grammar.{output_some, call_none, call_some, if_}
use Rattle.cqp_grammar.specs.Stacks.{PrefixStack, in_act, in_output, in_then}
use Rattle.cqp_grammar.specs.Stacks.{ProcessStack, in_group, in_right, in_body, in_main, ExprStack}
use Rattle.cqp_grammar.specs.Stacks.{in_braces, in_sig, in_parens, ItemStack, in_left}
use Rattle.cqp_grammar.specs.Stacks.{in_right_side, in_list, in_expr, SumStack, in_item}
use Rattle.cqp_grammar.specs.Stacks.{in_operator, AtomStack}
use Rattle.cqp_grammar.specs.Stacks.{in_first, in_plus}
use Rattle.cqp_grammar.specs.ParserStates.{ParserState, definitions}
use Rattle.cqp_grammar.specs.ParserStates.{prefix_wanted, opened, named}
use Rattle.cqp_grammar.specs.ParserStates.{dot_wanted, expr_wanted, expr_named, item_wanted}
use Rattle.cqp_grammar.specs.ParserStates.{measured_wanted, atom_wanted, sig_open, after_sum, finished}
use Rattle.cqp_grammar.specs.Moves.{expr_last, process_read, atom_read, expr_read}
use Rattle.cqp_grammar.specs.Moves.{item_read, sum_read}
use Rattle.cqp_grammar.specs.Trees.{definition, occurrence}
use Rattle.cqp_grammar.specs.Moves.{atom_start, item_start, expr_start}
use Rattle.cqp_grammar.specs.Moves.{prefix_start, token_read}
use Rattle.cqp_grammar.specs.Completes.{ThenSymbol, Reads, stops, adds, PrefixEnds, ProcessEnds}
use Rattle.cqp_grammar.specs.Completes.{ListEnds, Opened, Named, ExprEnds, ItemEnds, SumEnds}
use Rattle.cqp_grammar.specs.Completes.{AtomEnds}
use Rattle.cqp_grammar.specs.Completes.{AppliedEnds, ItemReads, Completes}
use Rattle.cqp_grammar.proofs.Ends.{prefix_undone, atom_undone, sum_joins, exprs_assoc}
use Rattle.cqp_grammar.proofs.Ends.{wanted_names, wanted_items}

-- what completes the state that a step gives
pub arrives : (t : ProgramTree) (ts : List Token) (c d : ParserState) → Some c ≡ Some d → Completes d ts t → Completes c ts t
arrives t ts c d same h = subst (λ e. Completes e ts t) (sym (cc same)) h

-- at the first token of a prefix
opened_back : (t : ProgramTree) (o : ℕ) (k : PrefixStack) (ts : List Token) → Opened t o k ts → Reads IsPrefix (PrefixEnds t k) (Symbol symbol.Open o ∷ ts)
opened_back t o k ts (inl (p, rest, h, (c, more, close, e))) = (p, more, group (subst (λ r. IsProcess ts p r) close h), e)
opened_back t o k ts (inr (inl (n, m1, is1, (x, at, m2, is2, (d, m3, is3, (ty, r, h, (c, m4, is4, (p, rest, body, e)))))))) =
    rw (is1, is2, is3) (new o (occurrence x at) ty p, rest, new_ (subst (λ r. IsType m3 ty r) is4 h) body, e)
opened_back t o k ts (inr (inr (n, m1, is1, (x, at, m2, is2, (c, m3, is3, (p, rest, body, e)))))) =
    rw (is1, is2, is3) (qbit o (occurrence x at) p, rest, qbit_ body, e)

-- what completes a name that begins a prefix completes the prefix
named_back : (t : ProgramTree) (x : List ℕ) (at : ℕ) (k : PrefixStack) (ts : List Token) → Named t (occurrence x at) k ts
    → Reads IsPrefix (PrefixEnds t k) (Name x at ∷ ts)
named_back t x at k ts (inl (q, m1, is1, (o, m2, is2, inl (c, m3, is3, (d, m4, is4, (p, rest, body, e)))))) =
    rw (is1, is2, is3, is4) (input at (occurrence x at) [] p, rest, input_none body, e)
named_back t x at k ts (inl (q, m1, is1, (o, m2, is2, inr (ps, r, h, (c, m3, is3, (d, m4, is4, (p, rest, body, e))))))) =
    rw (is1, is2) (
      input at (occurrence x at) ps p,
      rest,
      input_some (subst (λ r. IsParams m2 ps r) (is3 ∙ ap (λ l. Symbol symbol.CloseList c
          ∷ l) is4) h) body,
      e,
    )
named_back t x at k ts (inr (inl (q, m1, is1, (o, m2, is2, inl (c, m3, is3, (d, m4, is4, (p, rest, body, e))))))) =
    rw (is1, is2, is3, is4) (output at (occurrence x at) no_exprs p, rest, output_none body, e)
named_back t x at k ts (inr (inl (q, m1, is1, (o, m2, is2, inr (es, r, h, (c, m3, is3, (d, m4, is4, (p, rest, body, e)))))))) =
    rw (is1, is2) (
      output at (occurrence x at) es p,
      rest,
      output_some (subst (λ r. IsItems m2 es r) (is3 ∙ ap (λ l. Symbol symbol.CloseList c
          ∷ l) is4) h) body,
      e,
    )
named_back t x at k ts (inr (inr (o, m1, is1, inl (c, m2, is2, e)))) = rw (is1, is2) (call at x [], m2, call_none, e)
named_back t x at k ts (inr (inr (o, m1, is1, inr (xs, r, h, (c, m2, is2, e))))) =
    rw is1 (call at x xs, m2, call_some (subst (λ r. IsNames m1 xs r) is2 h), e)

-- an expression behind `{` completes a prefix
braces_back : (t : ProgramTree) (o : ℕ) (k : PrefixStack) (ts : List Token) → Reads IsExpr (ExprEnds t (in_braces o k)) ts
    → Reads IsPrefix (PrefixEnds t k) (Symbol symbol.OpenAct o ∷ ts)
braces_back t o k ts (x, r, h, (c, m1, is1, (d, m2, is2, (p, rest, body, e)))) =
    (act o x p, rest, act_ (subst (λ r. IsExpr ts x r) (is1 ∙ ap (λ l. Symbol symbol.CloseAct c ∷ l) is2) h) body, e)

-- a comparison behind `if` completes a prefix
if_back : (t : ProgramTree) (at : ℕ) (k : PrefixStack) (ts : List Token) → ItemReads t (in_left at k) ts
    → Reads IsPrefix (PrefixEnds t k) (Reserved word.If at ∷ ts)
if_back t at k ts (x, r1, h1, (q, m1, is1, (y, r2, h2, (th, m2, is2, (p, r3, h3, (el, m3, is3, (r, rest, h4, e))))))) =
    (branch at x y p r, rest, if_ (subst (λ r. IsItem ts x r) is1 h1) (subst (λ r. IsItem m1 y r) is2 h2) (subst (λ r. IsPrefix m2 p r) is3 h3) h4, e)

-- what completes the first step of a prefix completes the prefix
pub prefix_back : (t : ProgramTree) (k : PrefixStack) (tok : Token) (d : ParserState) (ts : List Token) → prefix_start k tok ≡ Some d → Completes d ts t
    → Reads IsPrefix (PrefixEnds t k) (tok ∷ ts)
prefix_back t k (Number zero at) d ts same h = (nil at, ts, zero_, prefix_undone t k (nil at) ts (arrives t ts _ d same h))
prefix_back t k (Symbol symbol.Open at) d ts same h = opened_back t at k ts (arrives t ts (opened at k) d same h)
prefix_back t k (Symbol symbol.OpenAct at) d ts same h = braces_back t at k ts (arrives t ts (expr_wanted (in_braces at k)) d same h)
prefix_back t k (Name x at) d ts same h = named_back t x at k ts (arrives t ts (named (occurrence x at) k) d same h)
prefix_back t k (Reserved word.If at) d ts same h = if_back t at k ts (arrives t ts (item_wanted (in_left at k)) d same h)
prefix_back t k tok d ts same h = absurd (cc same)

-- after a process
pub process_back : (t : ProgramTree) (k : ProcessStack) (p : ProcessTree) (tok : Token) (d : ParserState) (ts : List Token) → process_read k p tok ≡ Some d
    → Completes d ts t → ProcessEnds t k p (tok ∷ ts)
process_back t (in_group k) p (Symbol symbol.Close at) d ts same h = (at, ts, refl, prefix_undone t k p ts (arrives t ts _ d same h))
process_back t (in_group k) p tok d ts same h = absurd (cc same)
process_back t (in_right n q k) p tok d ts same h = process_back t k (par n q p) tok d ts same h
process_back t (in_body x ps ds) p (Symbol symbol.Semicolon at) d ts same h = (at, ts, refl, arrives t ts (definitions (ds ++ definition x ps p ∷ [])) d same h)
process_back t (in_body x ps ds) p tok d ts same h = absurd (cc same)
process_back t (in_main ds) p (End at) d ts same h =
    let (none, is) = arrives t ts (finished (record { defs = ds; main = p })) d same h in (at, ap (λ l. End at ∷ l) none, sym is)
process_back t (in_main ds) p tok d ts same h = absurd (cc same)

-- at the first token of an atom
sig_back : (t : ProgramTree) (k : AtomStack) (at : ℕ) (ts : List Token) → ThenSymbol symbol.Open (Reads IsExpr (ExprEnds t (in_sig at k))) ts
    → Reads IsAtom (AtomEnds t k) (Reserved word.Sig at ∷ ts)
sig_back t k at ts (o, m1, is1, (e, r, h, (c, m2, is2, more))) = rw is1 (sig at e, m2, a_sig (subst (λ r. IsExpr m1 e r) is2 h), more)

-- an expression behind `(` completes an atom
parens_back : (t : ProgramTree) (k : AtomStack) (o : ℕ) (ts : List Token) → Reads IsExpr (ExprEnds t (in_parens k)) ts
    → Reads IsAtom (AtomEnds t k) (Symbol symbol.Open o ∷ ts)
parens_back t k o ts (e, r, h, (c, m, is, more)) = (e, m, a_group (subst (λ r. IsExpr ts e r) is h), more)

-- what completes a gate completes an atom
gate_back : (t : ProgramTree) (k : AtomStack) (u : Op) (at : ℕ) (d : ParserState) (ts : List Token) → Some (atom_read k (gate at u)) ≡ Some d → Completes d ts t
    → Reads IsAtom (AtomEnds t k) (Reserved (gate_word u) at ∷ ts)
gate_back t k u at d ts same h = (gate at u, ts, a_gate refl, atom_undone t k (gate at u) ts (arrives t ts _ d same h))

-- what completes the first step of an atom completes the atom
pub atom_back : (t : ProgramTree) (k : AtomStack) (tok : Token) (d : ParserState) (ts : List Token) → atom_start k tok ≡ Some d → Completes d ts t
    → Reads IsAtom (AtomEnds t k) (tok ∷ ts)
atom_back t k (Number v at) d ts same h = (number at v, ts, a_number, atom_undone t k (number at v) ts (arrives t ts _ d same h))
atom_back t k (Reserved word.UnitValue at) d ts same h = (unit at, ts, a_unit, atom_undone t k (unit at) ts (arrives t ts _ d same h))
atom_back t k (Name x at) d ts same h = (name at x, ts, a_name, atom_undone t k (name at x) ts (arrives t ts _ d same h))
atom_back t k (Reserved word.I at) d ts same h = gate_back t k op.I at d ts same h
atom_back t k (Reserved word.X at) d ts same h = gate_back t k op.X at d ts same h
atom_back t k (Reserved word.Y at) d ts same h = gate_back t k op.Y at d ts same h
atom_back t k (Reserved word.Z at) d ts same h = gate_back t k op.Z at d ts same h
atom_back t k (Reserved word.H at) d ts same h = gate_back t k op.H at d ts same h
atom_back t k (Reserved word.S at) d ts same h = gate_back t k op.S at d ts same h
atom_back t k (Reserved word.T at) d ts same h = gate_back t k op.T at d ts same h
atom_back t k (Reserved word.CNot at) d ts same h = gate_back t k op.CNot at d ts same h
atom_back t k (Reserved word.CZ at) d ts same h = gate_back t k op.CZ at d ts same h
atom_back t k (Reserved word.Swap at) d ts same h = gate_back t k op.Swap at d ts same h
atom_back t k (Reserved word.Toffoli at) d ts same h = gate_back t k op.Toffoli at d ts same h
atom_back t k (Reserved word.Sig at) d ts same h = sig_back t k at ts (arrives t ts (sig_open at k) d same h)
atom_back t k (Symbol symbol.Open at) d ts same h = parens_back t k at ts (arrives t ts (expr_wanted (in_parens k)) d same h)
atom_back t k tok d ts same h = absurd (cc same)

-- a sum, from its first atom on
pub wanted_sum : (t : ProgramTree) (k : SumStack) (ts : List Token) → Reads IsAtom (AtomEnds t (in_first k)) ts → Reads IsSum (SumEnds t k) ts
wanted_sum t k ts (a, mid, h, (e, rest, more, ends)) = (e, rest, sum_joins (one_atom h) more, ends)

-- at the first token of an item
flagged : (t : ProgramTree) (k : ItemStack) (m : Type 0) (e : ExprTree) (ts : List Token) → (m → ⊥) → ItemEnds t k ⊥ e ts → ItemEnds t k m e ts
flagged t (in_left at k) m e ts other h = h
flagged t (in_right_side at f k) m e ts other h = h
flagged t (in_list x es k) m e ts other (inl h) = inl h
flagged t (in_list x es k) m e ts other (inr (at, more, same, (free, h))) = inr (at, more, same, ((λ yes_. absurd (other yes_)), h))
flagged t (in_expr k) m e ts other h = h

-- an atom and what is added are an item, where it begins with no `measure`
pub sum_item : (t : ProgramTree) (k : ItemStack) (ts : List Token) → (StartsWithMeasure ts → ⊥) → Reads IsAtom (AtomEnds t (in_first (in_item k))) ts
    → ItemReads t k ts
sum_item t k ts other h = let (e, rest, s, ends) = wanted_sum t (in_item k) ts h in (e, rest, summed s, flagged t k _ e rest other ends)

-- what completes the first step of an item completes the item
pub item_back : (t : ProgramTree) (k : ItemStack) (tok : Token) (d : ParserState) (ts : List Token) → item_start k tok ≡ Some d → Completes d ts t
    → ItemReads t k (tok ∷ ts)
item_back t k (Reserved word.Measure at) d ts same h =
    let (xs, rest, names, ends) = arrives t ts (measured_wanted at [] k) d same h in (measure at xs, rest, measured names, ends)
item_back t k tok d ts same h = sum_item t k (tok ∷ ts) (λ m. m) (atom_back t (in_first (in_item k)) tok d ts same h)

-- at the first token of an expression
expr_named_back : (t : ProgramTree) (x : List ℕ) (at : ℕ) (k : ExprStack) (ts : List Token) → Completes (expr_named (occurrence x at) k) ts t
    → Reads IsExpr (ExprEnds t k) (Name x at ∷ ts)
expr_named_back t x at k ts (inl h) =
    let (xs, rest, names, (c, more, is, (e, after, s, ends))) = wanted_names (AppliedEnds t k) [] x at ts h in
    (apply (first_at xs) xs e, after, applied (subst (λ r. IsNames (Name x at ∷ ts) xs r) is names) s, ends)
expr_named_back t x at k ts (inr h) =
    let (e, rest, i, ends) = sum_item t (in_expr k) (Name x at ∷ ts) (λ m. m) (name at x, ts, a_name, h) in (e, rest, plain i, ends)

-- what completes the first step of an expression completes the expression
pub expr_back : (t : ProgramTree) (k : ExprStack) (tok : Token) (d : ParserState) (ts : List Token) → expr_start k tok ≡ Some d → Completes d ts t
    → Reads IsExpr (ExprEnds t k) (tok ∷ ts)
expr_back t k (Name x at) d ts same h = expr_named_back t x at k ts (arrives t ts (expr_named (occurrence x at) k) d same h)
expr_back t k tok d ts same h = let (e, rest, i, ends) = item_back t (in_expr k) tok d ts same h in (e, rest, plain i, ends)

-- after an expression
pub expr_read_back : (t : ProgramTree) (k : ExprStack) (e : ExprTree) (tok : Token) (d : ParserState) (ts : List Token) → expr_read k e tok ≡ Some d
    → Completes d ts t → ExprEnds t k e (tok ∷ ts)
expr_read_back t (in_braces n k) e (Symbol symbol.CloseAct at) d ts same h = (at, ts, refl, arrives t ts (dot_wanted (in_act n e k)) d same h)
expr_read_back t (in_braces n k) e tok d ts same h = absurd (cc same)
expr_read_back t (in_sig n k) e (Symbol symbol.Close at) d ts same h = (at, ts, refl, atom_undone t k (sig n e) ts (arrives t ts _ d same h))
expr_read_back t (in_sig n k) e tok d ts same h = absurd (cc same)
expr_read_back t (in_parens k) e (Symbol symbol.Close at) d ts same h = (at, ts, refl, atom_undone t k e ts (arrives t ts _ d same h))
expr_read_back t (in_parens k) e tok d ts same h = absurd (cc same)

-- after an item, where a comma ends it only if it isn't measured
pub item_read_back : (t : ProgramTree) (k : ItemStack) (m : Type 0) (e : ExprTree) (tok : Token) (d : ParserState) (ts : List Token)
    → ((at : ℕ) → tok ≡ Symbol symbol.Comma at → m → ⊥)
    → item_read k e tok ≡ Some d → Completes d ts t → ItemEnds t k m e (tok ∷ ts)
item_read_back t (in_left n k) m e (Symbol symbol.Equals at) d ts free same h =
    let (f, rest, i, ends) = arrives t ts (item_wanted (in_right_side n e k)) d same h in (at, ts, refl, (f, rest, i, ends))
item_read_back t (in_left n k) m e tok d ts free same h = absurd (cc same)
item_read_back t (in_right_side n f k) m e (Reserved word.Then at) d ts free same h = (at, ts, refl, arrives t ts (prefix_wanted (in_then n f e k)) d same h)
item_read_back t (in_right_side n f k) m e tok d ts free same h = absurd (cc same)
item_read_back t (in_list x es k) m e (Symbol symbol.Comma at) d ts free same h =
    let (fs, rest, items, ends) = wanted_items t x (expr_last es e) k (arrives t ts (item_wanted (in_list x (expr_last es e) k)) d same h) in
    inr (at, ts, refl, ((λ yes_. absurd (free at refl yes_)), (fs, rest, items, subst (λ l. ListEnds t x k l rest) (exprs_assoc es e fs) ends)))
item_read_back t (in_list x es k) m e (Symbol symbol.CloseList at) d ts free same h =
    inl (at, ts, refl, arrives t ts (dot_wanted (in_output x (expr_last es e) k)) d same h)
item_read_back t (in_list x es k) m e tok d ts free same h = absurd (cc same)
item_read_back t (in_expr k) m e tok d ts free same h = expr_read_back t k e tok d ts same h

-- what completes a step at which a sum ends completes the sum
pub sum_read_back : (t : ProgramTree) (k : SumStack) (e : ExprTree) (tok : Token) (d : ParserState) (ts : List Token) → sum_read k e tok ≡ Some d
    → Completes d ts t
    → SumEnds t k e (tok ∷ ts)
sum_read_back t (in_item k) e tok d ts same h = item_read_back t k ⊥ e tok d ts (λ at is m. m) same h
sum_read_back t (in_operator xs k) e tok d ts same h = expr_read_back t k (apply (first_at xs) xs e) tok d ts same h

-- what completes a step behind a sum completes it
pub after_sum_back : (t : ProgramTree) (k : SumStack) (e : ExprTree) (tok : Token) (d : ParserState) (ts : List Token) → token_read (after_sum e k) tok ≡ Some d
    → Completes d ts t → Completes (after_sum e k) (tok ∷ ts) t
after_sum_back t k e (Symbol symbol.Plus at) d ts same h =
    let (a, mid, atom, (f, rest, more, ends)) = arrives t ts (atom_wanted (in_plus e at k)) d same h in (f, rest, adds atom more, ends)
after_sum_back t k e tok d ts same h = (e, tok ∷ ts, stops, sum_read_back t k e tok d ts same h)
