-- Each token that can come next is a step of the machine.
use Rattle.std.proofs.Common.{ℕ, List, [], ◌∷◌, ◌++◌, ◌≡◌, inl, inr, refl, sym, ◌∙◌, ap, subst}
use Rattle.std.proofs.Common.{append_assoc, append-nil, Some}
use Rattle.cqp_syntax.specs.TypeTrees.{no_types}
use Rattle.cqp_grammar.specs.declared.token.Token.{Token}
use Rattle.cqp_grammar.specs.declared.token.Token.TheVariants.{Name, Number, Reserved, Symbol}
use Rattle.cqp_grammar.specs.declared.token.ReservedWord.TheVariants as word
use Rattle.cqp_grammar.specs.declared.token.SymbolKind.TheVariants as symbol
use Rattle.cqp_grammar.specs.Trees.{Occurrence, name, sig, measure, ExprTrees, no_exprs, call}
use Rattle.cqp_grammar.specs.Trees.{DefinitionTree, ProgramTree}
use Rattle.cqp_grammar.specs.Grammar.{StartsWithName, IsNames, IsDefs, IsProcess, no_defs, def_none}
use Rattle.cqp_grammar.specs.Grammar.{def_some}
use Rattle.cqp_grammar.specs.Stacks.{PrefixStack, in_process, in_group, in_body, in_main, ExprStack}
use Rattle.cqp_grammar.specs.Stacks.{in_braces, in_sig, in_parens, ItemStack, in_left}
use Rattle.cqp_grammar.specs.Stacks.{in_right_side, in_list, in_expr, in_item, in_heading}
use Rattle.cqp_grammar.specs.Stacks.{TypeStack}
use Rattle.cqp_grammar.specs.Stacks.{in_types}
use Rattle.cqp_grammar.specs.ParserStates.{ParserState, definitions, def_name, def_open, def_equals}
use Rattle.cqp_grammar.specs.ParserStates.{params_first, param_wanted, param_colon, type_wanted, op_open}
use Rattle.cqp_grammar.specs.ParserStates.{op_number, op_close, chan_open, chan_first, after_type}
use Rattle.cqp_grammar.specs.ParserStates.{prefix_wanted, opened, new_name, new_colon, qbit_name}
use Rattle.cqp_grammar.specs.ParserStates.{qbit_close}
use Rattle.cqp_grammar.specs.ParserStates.{named, input_open, output_open, output_first, call_first}
use Rattle.cqp_grammar.specs.ParserStates.{call_wanted, call_after, dot_wanted, else_wanted, expr_wanted}
use Rattle.cqp_grammar.specs.ParserStates.{expr_named, applied_wanted, applied_after, item_wanted}
use Rattle.cqp_grammar.specs.ParserStates.{measured_wanted, measured_after, measured_comma, atom_wanted}
use Rattle.cqp_grammar.specs.ParserStates.{sig_open, after_sum, after_prefix, finished}
use Rattle.cqp_grammar.specs.Moves.{expr_last, type_start}
use Rattle.cqp_grammar.specs.Trees.{definition, occurrence}
use Rattle.cqp_grammar.specs.Moves.{item_start, prefix_start, measure_goes_on, token_read}
use Rattle.cqp_grammar.specs.Completes.{ThenSymbol, Reads, ProgramEnds, ListEnds, NamesEnd}
use Rattle.cqp_grammar.specs.Completes.{ProgramEnd, AppliedEnds, CallEnds, ParamsFirst, NewColon}
use Rattle.cqp_grammar.specs.Completes.{QbitClose, MeasuredEnds, Completes}
use Rattle.cqp_grammar.proofs.Ends.{symbol_first, reserved_first, name_first, prefix_done, atom_done}
use Rattle.cqp_grammar.proofs.Ends.{process_wants, sum_split, exprs_assoc, names_wants}
use Rattle.cqp_grammar.proofs.Ends.{params_wants, types_wants, items_wants}
use Rattle.cqp_grammar.proofs.Starts.{Goes, prefix_steps, after_prefix_steps, atom_steps}
use Rattle.cqp_grammar.proofs.Starts.{item_steps, expr_steps}
use Rattle.cqp_grammar.proofs.Rests.{after_sum_steps, params_read_steps, other_than_name}
use Rattle.cqp_grammar.proofs.Rests.{type_steps, type_read_steps}

-- at the start of a definition or of the main process
other_than_def : (ds : List DefinitionTree) (tok : Token) (d : ParserState) → prefix_start (in_process (in_main ds)) tok ≡ Some d
    → token_read (definitions ds) tok ≡ Some d
other_than_def ds (Reserved word.Def at) d same = absurd (cc same)
other_than_def ds tok d same = same

-- definitions behind one definition more complete a program
one_more : (t : ProgramTree) (ds : List DefinitionTree) (d : DefinitionTree) (ts : List Token)
    → Reads IsDefs (λ es. Reads IsProcess (ProgramEnd t (ds ++ d ∷ es))) ts
    → ProgramEnds t (ds ++ d ∷ []) ts
one_more t ds d ts (es, more, h, (p, rest, main, (e, end, is))) =
    (es, more, h, (p, rest, main, (e, end, is ∙ ap (λ l. record { defs = l; main = p }) (sym (append_assoc ds (d ∷ []) es)))))

-- a token that can stand where definitions do is a step
definitions_steps : (t : ProgramTree) (ds : List DefinitionTree) (tok : Token) (ts : List Token)
    → ProgramEnds t ds (tok ∷ ts) → Goes (token_read (definitions ds) tok) ts t
definitions_steps t ds tok ts (es, more, no_defs, (p, rest, h, (at, end, is))) =
    let (q, after, main, ends) = process_wants t (in_main ds) h (at, end, rw append-nil at is) in
    let (d, step, c) = prefix_steps t (in_process (in_main ds)) main ends in
    (d, other_than_def ds tok d step, c)
definitions_steps t ds tok ts (es, more, def_none {x = x} {at = at} {p = p} {ds = fs} h hs, main) =
    let rest = one_more t ds (definition (occurrence x at) [] p) _ (fs, more, hs, main) in
    (_, refl, (x, at, _, refl, (_, _, refl, inl (_, _, refl, (_, _, refl, (_, _, h, (_, _, refl, rest)))))))
definitions_steps t ds tok ts (es, more, def_some {x = x} {at = at} {ps = ps} {p = p} {ds = fs} params h hs, main) =
    let rest = one_more t ds (definition (occurrence x at) ps p) _ (fs, more, hs, main) in
    (_, refl, (x, at, _, refl, (_, _, refl, inr (ps, _, params, (_, _, refl, (_, _, refl, (_, _, h, (_, _, refl, rest))))))))

-- at the start of a type or of the end of a list of types
other_than_close : (k : TypeStack) (tok : Token) (d : ParserState) → type_start (in_types no_types k) tok ≡ Some d → token_read (chan_first k) tok ≡ Some d
other_than_close k (Symbol symbol.CloseList at) d same = absurd (cc same)
other_than_close k tok d same = same

-- behind a `(` where a prefix begins
other_than_binder : (o : ℕ) (k : PrefixStack) (tok : Token) (d : ParserState) → prefix_start (in_process (in_group k)) tok ≡ Some d
    → token_read (opened o k) tok ≡ Some d
other_than_binder o k (Reserved word.New at) d same = absurd (cc same)
other_than_binder o k (Reserved word.MakeQbit at) d same = absurd (cc same)
other_than_binder o k tok d same = same

-- at the start of a list
other_than_closed : (x : Occurrence) (k : PrefixStack) (tok : Token) (d : ParserState) → item_start (in_list x no_exprs k) tok ≡ Some d
    → token_read (output_first x k) tok ≡ Some d
other_than_closed x k (Symbol symbol.CloseList at) d same = absurd (cc same)
other_than_closed x k tok d same = same

-- behind a name where an expression begins
named_sum : (t : ProgramTree) (x : Occurrence) (k : ExprStack) (tok : Token) (ts : List Token)
    → Completes (after_sum (name x.at x.name) (in_item (in_expr k))) (tok ∷ ts) t → Goes (token_read (expr_named x k) tok) ts t
named_sum t x k tok ts h =
    let (d, is, c) = after_sum_steps t (in_item (in_expr k)) (name x.at x.name) tok ts h in (d, other x k tok d is, c)
  where
    other : (x : Occurrence) (k : ExprStack) (tok : Token) (d : ParserState) → token_read (after_sum (name x.at x.name) (in_item (in_expr k))) tok ≡ Some d
        → token_read (expr_named x k) tok ≡ Some d
    other x (in_braces n k) (Symbol symbol.Comma at) d same = absurd (cc same)
    other x (in_sig n k) (Symbol symbol.Comma at) d same = absurd (cc same)
    other x (in_parens k) (Symbol symbol.Comma at) d same = absurd (cc same)
    other x (in_braces n k) (Symbol symbol.Applies at) d same = absurd (cc same)
    other x (in_sig n k) (Symbol symbol.Applies at) d same = absurd (cc same)
    other x (in_parens k) (Symbol symbol.Applies at) d same = absurd (cc same)
    other x k tok d same = same

-- behind measured qubits
measured_names : (t : ProgramTree) (k : ItemStack) (at : ℕ) (xs : List Occurrence) (tok : Token) (ts : List Token)
    → Reads IsNames (λ ys rest. MeasuredEnds t k at (xs ++ ys) rest) (tok ∷ ts)
    → (x : List ℕ) × (n : ℕ) × (tok ≡ Name x n) × NamesEnd (MeasuredEnds t k at) (xs ++ occurrence x n ∷ []) ts
measured_names t k at xs tok ts h = names_wants (MeasuredEnds t k at) xs h

-- what follows a comma behind measured names completes the step
comma_goes_on : (t : ProgramTree) (k : ItemStack) (at : ℕ) (xs : List Occurrence) (ts : List Token)
    → Reads IsNames (λ ys rest. MeasuredEnds t k at (xs ++ ys) rest) ts → Completes (measure_goes_on at xs k) ts t
comma_goes_on t (in_left n k) at xs ts h = h
comma_goes_on t (in_right_side n e k) at xs ts h = h
comma_goes_on t (in_list x es k) at xs ts h = inl h
comma_goes_on t (in_expr k) at xs ts h = h

-- a token that can stand behind measured names is a step
measured_ends : (t : ProgramTree) (k : ItemStack) (at : ℕ) (xs : List Occurrence) (tok : Token) (ts : List Token) → MeasuredEnds t k at xs (tok ∷ ts)
    → Goes (token_read (measured_after at xs k) tok) ts t
measured_ends t (in_left n k) at xs tok ts h = let (c, is, more) = symbol_first h in rw is (_, refl, more)
measured_ends t (in_right_side n e k) at xs tok ts h = let (c, is, more) = reserved_first h in rw is (_, refl, more)
measured_ends t (in_list x es k) at xs tok ts (inl h) = let (c, is, more) = symbol_first h in rw is (_, refl, more)
measured_ends t (in_list x es k) at xs tok ts (inr h) = let (c, is, (free, items)) = symbol_first h in rw is (_, refl, inr (free tt, items))
measured_ends t (in_expr (in_braces n k)) at xs tok ts h = let (c, is, more) = symbol_first h in rw is (_, refl, more)
measured_ends t (in_expr (in_sig n k)) at xs tok ts h = let (c, is, more) = symbol_first h in rw is (_, refl, atom_done t k (sig n (measure at xs)) _ more)
measured_ends t (in_expr (in_parens k)) at xs tok ts h = let (c, is, more) = symbol_first h in rw is (_, refl, atom_done t k (measure at xs) _ more)

-- a new item behind measured qubits
no_name_starts : (t : ProgramTree) (at : ℕ) (xs : List Occurrence) (x : Occurrence) (es : ExprTrees) (k : PrefixStack) (tok : Token) (ts : List Token)
    → (StartsWithName (tok ∷ ts) → ⊥)
    → Goes (item_start (in_list x (expr_last es (measure at xs)) k) tok) ts t → Goes (token_read (measured_comma at xs x es k) tok) ts t
no_name_starts t at xs x es k (Name y n) ts free h = absurd (free tt)
no_name_starts t at xs x es k tok ts free h = h

-- what completes the tokens goes on by a step
pub steps : (t : ProgramTree) (c : ParserState) (tok : Token) (ts : List Token) → Completes c (tok ∷ ts) t → Goes (token_read c tok) ts t
steps t (definitions ds) tok ts h = definitions_steps t ds tok ts h
steps t (def_name ds) tok ts h = let (x, at, is, more) = name_first (λ x. ThenSymbol symbol.Open (ParamsFirst t (in_heading x ds))) h in rw is (_, refl, more)
steps t (def_open x ds) tok ts h = let (at, is, more) = symbol_first h in rw is (_, refl, more)
steps t (def_equals x ps ds) tok ts h = let (at, is, (p, rest, proc, e)) = symbol_first h in rw is (_, refl, process_wants t (in_body x ps ds) proc e)
steps t (params_first k) tok ts (inl h) = let (d, is, c) = params_read_steps t k [] tok ts h in (d, other_than_name k tok d is, c)
steps t (params_first k) tok ts (inr h) = let (x, at, is, more) = params_wants t [] k h in rw is (_, refl, more)
steps t (param_wanted ps k) tok ts h = let (x, at, is, more) = params_wants t ps k h in rw is (_, refl, more)
steps t (param_colon ps x k) tok ts h = let (at, is, more) = symbol_first h in rw is (_, refl, more)
steps t (type_wanted k) tok ts (ty, rest, h, e) = type_steps t k h e
steps t (op_open k) tok ts h = let (at, is, more) = symbol_first h in rw is (_, refl, more)
steps t (op_number k) tok ts (v, at, more, same, inl one, e) =
    let is : tok ≡ Number 1 at = cc (same, one) in
    let rest : ts ≡ more = cc same in
    rw is (op_close 1 k, refl, rw rest (rw one at e))
steps t (op_number k) tok ts (v, at, more, same, inr (inl two), e) =
    let is : tok ≡ Number 2 at = cc (same, two) in
    let rest : ts ≡ more = cc same in
    rw is (op_close 2 k, refl, rw rest (rw two at e))
steps t (op_number k) tok ts (v, at, more, same, inr (inr three), e) =
    let is : tok ≡ Number 3 at = cc (same, three) in
    let rest : ts ≡ more = cc same in
    rw is (op_close 3 k, refl, rw rest (rw three at e))
steps t (op_close v k) tok ts h = let (at, is, more) = symbol_first h in rw is (_, refl, more)
steps t (chan_open k) tok ts h = let (at, is, more) = symbol_first h in rw is (_, refl, more)
steps t (chan_first k) tok ts (inl h) = let (at, is, more) = symbol_first h in rw is (_, refl, more)
steps t (chan_first k) tok ts (inr h) =
    let (ty, rest, is_type, e) = types_wants t no_types k h in
    let (d, is, c) = type_steps t (in_types no_types k) is_type e in
    (d, other_than_close k tok d is, c)
steps t (after_type ty k) tok ts h = type_read_steps t k ty tok ts h
steps t (prefix_wanted k) tok ts (p, rest, h, e) = prefix_steps t k h e
steps t (opened o k) tok ts (inl (p, rest, h, e)) =
    let (q, after, prefix, ends) = process_wants t (in_group k) h e in
    let (d, is, c) = prefix_steps t (in_process (in_group k)) prefix ends in
    (d, other_than_binder o k tok d is, c)
steps t (opened o k) tok ts (inr (inl h)) = let (at, is, more) = reserved_first h in rw is (_, refl, more)
steps t (opened o k) tok ts (inr (inr h)) = let (at, is, more) = reserved_first h in rw is (_, refl, more)
steps t (new_name o k) tok ts h = let (x, at, is, more) = name_first (NewColon t o k) h in rw is (_, refl, more)
steps t (new_colon o x k) tok ts h = let (at, is, more) = symbol_first h in rw is (_, refl, more)
steps t (qbit_name o k) tok ts h = let (x, at, is, more) = name_first (QbitClose t o k) h in rw is (_, refl, more)
steps t (qbit_close o x k) tok ts h = let (at, is, more) = symbol_first h in rw is (_, refl, more)
steps t (named x k) tok ts (inl h) = let (at, is, more) = symbol_first h in rw is (_, refl, more)
steps t (named x k) tok ts (inr (inl h)) = let (at, is, more) = symbol_first h in rw is (_, refl, more)
steps t (named x k) tok ts (inr (inr h)) = let (at, is, more) = symbol_first h in rw is (_, refl, more)
steps t (input_open x k) tok ts h = let (at, is, more) = symbol_first h in rw is (_, refl, more)
steps t (output_open x k) tok ts h = let (at, is, more) = symbol_first h in rw is (_, refl, more)
steps t (output_first x k) tok ts (inl h) = let (at, is, more) = symbol_first h in rw is (_, refl, more)
steps t (output_first x k) tok ts (inr h) =
    let (d, is, c) = item_steps t (in_list x no_exprs k) (items_wants t x no_exprs k h) in (d, other_than_closed x k tok d is, c)
steps t (call_first x k) tok ts (inl h) = let (at, is, more) = symbol_first h in rw is (_, refl, prefix_done t k (call x.at x.name []) _ more)
steps t (call_first x k) tok ts (inr h) = let (y, at, is, more) = names_wants (CallEnds t x k) [] h in rw is (_, refl, more)
steps t (call_wanted x ys k) tok ts h = let (y, at, is, more) = names_wants (CallEnds t x k) ys h in rw is (_, refl, more)
steps t (call_after x ys k) tok ts (inl h) = let (at, is, more) = symbol_first h in rw is (_, refl, prefix_done t k (call x.at x.name ys) _ more)
steps t (call_after x ys k) tok ts (inr h) = let (at, is, more) = symbol_first h in rw is (_, refl, more)
steps t (dot_wanted k) tok ts h = let (at, is, more) = symbol_first h in rw is (_, refl, more)
steps t (else_wanted at e f p k) tok ts h = let (c, is, more) = reserved_first h in rw is (_, refl, more)
steps t (expr_wanted k) tok ts (e, rest, h, ends) = expr_steps t k h ends
steps t (expr_named x k) tok ts (inl (inl h)) = let (at, is, (e, rest, s, ends)) = symbol_first h in
    let (a, mid, atom, more) = sum_split s in rw is (_, refl, (a, mid, atom, (e, rest, more, ends)))
steps t (expr_named x k) tok ts (inl (inr h)) = let (at, is, more) = symbol_first h in rw is (_, refl, more)
steps t (expr_named x k) tok ts (inr h) = named_sum t x k tok ts h
steps t (applied_wanted xs k) tok ts h = let (y, at, is, more) = names_wants (AppliedEnds t k) xs h in rw is (_, refl, more)
steps t (applied_after xs k) tok ts (inl h) = let (at, is, (e, rest, s, ends)) = symbol_first h in
    let (a, mid, atom, more) = sum_split s in rw is (_, refl, (a, mid, atom, (e, rest, more, ends)))
steps t (applied_after xs k) tok ts (inr h) = let (at, is, more) = symbol_first h in rw is (_, refl, more)
steps t (item_wanted k) tok ts h = item_steps t k h
steps t (measured_wanted at xs k) tok ts h = let (x, n, is, more) = measured_names t k at xs tok ts h in rw is (_, refl, more)
steps t (measured_after at xs k) tok ts (inl h) = measured_ends t k at xs tok ts h
steps t (measured_after at xs k) tok ts (inr h) = let (c, is, more) = symbol_first h in rw is (_, refl, comma_goes_on t k at xs ts more)
steps t (measured_comma at xs x es k) tok ts (inl h) = let (y, n, is, more) = measured_names t (in_list x es k) at xs tok ts h in rw is (_, refl, more)
steps t (measured_comma at xs x es k) tok ts (inr (free, (fs, rest, items, ends))) =
    let item = items_wants t x (expr_last es (measure at xs)) k (
      fs,
      rest,
      items,
      subst (λ l. ListEnds t x k l rest) (sym (exprs_assoc es
          (measure at xs) fs)) ends,
    ) in
    no_name_starts t at xs x es k tok ts free (item_steps t (in_list x (expr_last es (measure at xs)) k) item)
steps t (atom_wanted k) tok ts (a, rest, h, e) = atom_steps t k h e
steps t (sig_open at k) tok ts h = let (c, is, more) = symbol_first h in rw is (_, refl, more)
steps t (after_sum e k) tok ts h = after_sum_steps t k e tok ts h
steps t (after_prefix p k) tok ts h = after_prefix_steps t k p tok ts h
steps t (finished p) tok ts (same, is) = absurd (cc same)
