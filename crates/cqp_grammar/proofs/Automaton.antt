-- The machine reads what the grammar reads.
use Rattle.std.proofs.Common.{ℕ, zero, suc, List, [], ◌∷◌, ◌++◌, ◌≡◌, inl, inr, refl, ◌∙◌, ap}
use Rattle.std.proofs.Common.{subst, append_assoc, append-nil, Some}
use Rattle.cqp_syntax.specs.TypeTrees.{no_types, op_type, chan_type}
use Rattle.cqp_grammar.specs.declared.token.Token.{Token}
use Rattle.cqp_grammar.specs.declared.token.Token.TheVariants.{Name, Number, Reserved, Symbol}
use Rattle.cqp_grammar.specs.declared.token.ReservedWord.TheVariants as word
use Rattle.cqp_grammar.specs.declared.token.SymbolKind.TheVariants as symbol
use Rattle.cqp_grammar.specs.Trees.{Occurrence, name, measure, ExprTrees, no_exprs, expr_and, call}
use Rattle.cqp_grammar.specs.Trees.{DefinitionTree, ProgramTree}
use Rattle.cqp_grammar.specs.Grammar.{IsItems, IsParams, IsProcess, IsPrefix, no_defs, def_none}
use Rattle.cqp_grammar.specs.Grammar.{def_some}
use Rattle.cqp_grammar.specs.Stacks.{PrefixStack, in_process, in_qbit, in_output, in_else, in_group}
use Rattle.cqp_grammar.specs.Stacks.{in_right, in_body, in_main, in_sig, ItemStack, in_left}
use Rattle.cqp_grammar.specs.Stacks.{in_right_side, in_list, in_expr, in_item, in_operator}
use Rattle.cqp_grammar.specs.Stacks.{in_first, in_heading, in_params, in_annotation, in_param}
use Rattle.cqp_grammar.specs.Stacks.{in_types}
use Rattle.cqp_grammar.specs.ParserStates.{ParserState, definitions, def_name, def_open, def_equals}
use Rattle.cqp_grammar.specs.ParserStates.{params_first, param_wanted, param_colon, type_wanted, op_open}
use Rattle.cqp_grammar.specs.ParserStates.{op_number, op_close, chan_open, chan_first, after_type}
use Rattle.cqp_grammar.specs.ParserStates.{prefix_wanted, opened, new_name, new_colon, qbit_name}
use Rattle.cqp_grammar.specs.ParserStates.{qbit_close}
use Rattle.cqp_grammar.specs.ParserStates.{named, input_open, output_open, output_first, call_first}
use Rattle.cqp_grammar.specs.ParserStates.{call_wanted, call_after, dot_wanted, else_wanted, expr_wanted}
use Rattle.cqp_grammar.specs.ParserStates.{expr_named, applied_wanted, applied_after, item_wanted}
use Rattle.cqp_grammar.specs.ParserStates.{measured_wanted, measured_after, measured_comma, atom_wanted}
use Rattle.cqp_grammar.specs.ParserStates.{sig_open, after_sum, after_prefix}
use Rattle.cqp_grammar.specs.Moves.{exprs_append, expr_last, measure_goes_on, token_read}
use Rattle.cqp_grammar.specs.Trees.{definition, occurrence}
use Rattle.cqp_grammar.specs.Completes.{Reads, ProgramEnds, PrefixEnds, ListEnds, NamesEnd}
use Rattle.cqp_grammar.specs.Completes.{AppliedEnds, CallEnds, Headed, MeasuredComma, MeasuredEnds}
use Rattle.cqp_grammar.specs.Completes.{ItemReads}
use Rattle.cqp_grammar.specs.Completes.{Completes}
use Rattle.cqp_grammar.proofs.Ends.{prefix_undone, wanted_process, wanted_names, wanted_params}
use Rattle.cqp_grammar.proofs.Ends.{wanted_types, wanted_items, exprs_assoc}
use Rattle.cqp_grammar.proofs.StepsBack.{arrives, prefix_back, process_back, atom_back, wanted_sum}
use Rattle.cqp_grammar.proofs.StepsBack.{item_back, expr_back, item_read_back, after_sum_back}
use Rattle.cqp_grammar.proofs.TypeStepsBack.{params_read_back, type_back, type_read_back}

-- a definition, or the main process
def_back : (t : ProgramTree) (ds : List DefinitionTree) (f : ℕ) (ts : List Token) → Headed t ds ts → ProgramEnds t ds (Reserved word.Def f ∷ ts)
def_back t ds f ts (x, at, m1, is1, (o, m2, is2, inl (c, m3, is3, (q, m4, is4, (p, r, h, (s, m5, is5, (es, more, hs, (main, rest, hm, (e, end, is))))))))) =
    rw (is1, is2, is3, is4) (
      definition (occurrence x at) [] p ∷ es,
      more,
      def_none (subst (λ r. IsProcess m4 p r) is5 h) hs,
      (main, rest, hm, (e, end, is ∙ ap (λ l. record { defs = l; main = main }) (append_assoc ds (definition (occurrence x at) [] p ∷ []) es))),
    )
def_back t ds f ts (
  x,
  at,
  m1,
  is1,
  (
    o,
    m2,
    is2,
    inr (
      ps,
      r1,
      params,
      (
        c,
        m3,
        is3,
        (
          q,
          m4,
          is4,
          (
            p,
            r,
            h,
            (
              s,
              m5,
              is5,
              (
                es,
                more,
                hs,
                (
                  main,
                  rest,
                  hm,
                  (e, end, is),
                ),
              ),
            ),
          ),
        ),
      ),
    ),
  ),
) =
    rw (is1, is2) (
      definition (occurrence x at) ps p ∷ es,
      more,
      def_some (subst (λ r. IsParams m2 ps r) (is3 ∙ ap (λ l. Symbol symbol.Close c ∷ l) is4) params) (subst (λ r. IsProcess m4 p r) is5 h) hs,
      (main, rest, hm, (e, end, is ∙ ap (λ l. record { defs = l; main = main }) (append_assoc ds (definition (occurrence x at) ps p ∷ []) es))),
    )

-- a prefix that ends the main process is the rest of a program
main_back : (t : ProgramTree) (ds : List DefinitionTree) (ts : List Token) → Reads IsPrefix (PrefixEnds t (in_process (in_main ds))) ts → ProgramEnds t ds ts
main_back t ds ts h =
    let (p, rest, proc, (at, end, is)) = wanted_process t (in_main ds) h in
    ([], ts, no_defs, (p, rest, proc, (at, end, rw append-nil is)))

-- behind measured qubits
measured_comma_back : (t : ProgramTree) (k : ItemStack) (n : ℕ) (xs : List Occurrence) (at : ℕ) (ts : List Token) → Completes (measure_goes_on n xs k) ts t
    → NamesEnd (MeasuredEnds t k n) xs (Symbol symbol.Comma at ∷ ts)
measured_comma_back t (in_left o k) n xs at ts h = inr (at, ts, refl, h)
measured_comma_back t (in_right_side o e k) n xs at ts h = inr (at, ts, refl, h)
measured_comma_back t (in_list x es k) n xs at ts (inl h) = inr (at, ts, refl, h)
measured_comma_back t (in_list x es k) n xs at ts (inr (free, h)) = inl (inr (at, ts, refl, ((λ m. free), h)))
measured_comma_back t (in_expr k) n xs at ts h = inr (at, ts, refl, h)

-- what completes a step behind measured names completes the names before it
measured_back : (t : ProgramTree) (k : ItemStack) (n : ℕ) (xs : List Occurrence) (tok : Token) (d : ParserState) (ts : List Token)
    → token_read (measured_after n xs k) tok ≡ Some d → Completes d ts t
    → NamesEnd (MeasuredEnds t k n) xs (tok ∷ ts)
measured_back t k n xs (Symbol symbol.Comma at) d ts same h = measured_comma_back t k n xs at ts (arrives t ts (measure_goes_on n xs k) d same h)
measured_back t k n xs tok d ts same h = inl (item_read_back t k (Unit {0}) (measure n xs) tok d ts (λ at is m. cc is) same h)

-- an item behind a measured one is a further item of the same list
measured_item_back : (t : ProgramTree) (n : ℕ) (xs : List Occurrence) (x : Occurrence) (es : ExprTrees) (k : PrefixStack) (ts : List Token)
    → ItemReads t (in_list x (expr_last es (measure n xs)) k) ts
    → Reads IsItems (λ fs rest. ListEnds t x k (exprs_append es (expr_and (measure n xs) fs)) rest) ts
measured_item_back t n xs x es k ts h =
    let (fs, rest, items, ends) = wanted_items t x (expr_last es (measure n xs)) k h in
    (fs, rest, items, subst (λ l. ListEnds t x k l rest) (exprs_assoc es (measure n xs) fs) ends)

-- what completes a step behind a comma in a list completes the comma
measured_list_back : (t : ProgramTree) (n : ℕ) (xs : List Occurrence) (x : Occurrence) (es : ExprTrees) (k : PrefixStack) (tok : Token) (d : ParserState)
    (ts : List Token)
    → token_read (measured_comma n xs x es k) tok ≡ Some d → Completes d ts t → MeasuredComma t n xs x es k (tok ∷ ts)
measured_list_back t n xs x es k (Name y at) d ts same h =
    inl (wanted_names (MeasuredEnds t (in_list x es k) n) xs y at ts (arrives t ts (measured_after n (xs ++ occurrence y at ∷ []) (in_list x es k)) d same h))
measured_list_back t n xs x es k tok d ts same h =
    inr ((λ s. s), measured_item_back t n xs x es k (tok ∷ ts) (item_back t (in_list x (expr_last es (measure n xs)) k) tok d ts same h))

-- each step can be taken
pub steps_back : (t : ProgramTree) (c : ParserState) (tok : Token) (d : ParserState) (ts : List Token) → token_read c tok ≡ Some d → Completes d ts t
    → Completes c (tok ∷ ts) t
steps_back t (definitions ds) (Reserved word.Def at) d ts same h = def_back t ds at ts (arrives t ts (def_name ds) d same h)
steps_back t (definitions ds) tok d ts same h = main_back t ds (tok ∷ ts) (prefix_back t (in_process (in_main ds)) tok d ts same h)
steps_back t (def_name ds) (Name x at) d ts same h = (x, at, ts, refl, arrives t ts (def_open (occurrence x at) ds) d same h)
steps_back t (def_open x ds) (Symbol symbol.Open at) d ts same h = (at, ts, refl, arrives t ts (params_first (in_heading x ds)) d same h)
steps_back t (def_equals x ps ds) (Symbol symbol.Equals at) d ts same h =
    (at, ts, refl, wanted_process t (in_body x ps ds) (arrives t ts (prefix_wanted (in_process (in_body x ps ds))) d same h))
steps_back t (params_first k) (Name x at) d ts same h = inr (wanted_params t [] k x at ts (arrives t ts (param_colon [] (occurrence x at) k) d same h))
steps_back t (params_first k) tok d ts same h = inl (params_read_back t k [] tok d ts same h)
steps_back t (param_wanted ps k) (Name x at) d ts same h = wanted_params t ps k x at ts (arrives t ts (param_colon ps (occurrence x at) k) d same h)
steps_back t (param_colon ps x k) (Symbol symbol.Colon at) d ts same h = (at, ts, refl, arrives t ts (type_wanted (in_param ps x k)) d same h)
steps_back t (type_wanted k) tok d ts same h = type_back t k tok d ts same h
steps_back t (op_open k) (Symbol symbol.Open at) d ts same h = (at, ts, refl, arrives t ts (op_number k) d same h)
steps_back t (op_number k) (Number (suc zero) at) d ts same h = (1, at, ts, refl, inl refl, arrives t ts (op_close 1 k) d same h)
steps_back t (op_number k) (Number (suc (suc zero)) at) d ts same h = (2, at, ts, refl, inr (inl refl), arrives t ts (op_close 2 k) d same h)
steps_back t (op_number k) (Number (suc (suc (suc zero))) at) d ts same h = (3, at, ts, refl, inr (inr refl), arrives t ts (op_close 3 k) d same h)
steps_back t (op_close v k) (Symbol symbol.Close at) d ts same h = (at, ts, refl, arrives t ts (after_type (op_type v) k) d same h)
steps_back t (chan_open k) (Symbol symbol.OpenList at) d ts same h = (at, ts, refl, arrives t ts (chan_first k) d same h)
steps_back t (chan_first k) (Symbol symbol.CloseList at) d ts same h = inl (at, ts, refl, arrives t ts (after_type (chan_type no_types) k) d same h)
steps_back t (chan_first k) tok d ts same h = inr (wanted_types t no_types k (type_back t (in_types no_types k) tok d ts same h))
steps_back t (after_type ty k) tok d ts same h = type_read_back t k ty tok d ts same h
steps_back t (prefix_wanted k) tok d ts same h = prefix_back t k tok d ts same h
steps_back t (opened o k) (Reserved word.New at) d ts same h = inr (inl (at, ts, refl, arrives t ts (new_name o k) d same h))
steps_back t (opened o k) (Reserved word.MakeQbit at) d ts same h = inr (inr (at, ts, refl, arrives t ts (qbit_name o k) d same h))
steps_back t (opened o k) tok d ts same h = inl (wanted_process t (in_group k) (prefix_back t (in_process (in_group k)) tok d ts same h))
steps_back t (new_name o k) (Name x at) d ts same h = (x, at, ts, refl, arrives t ts (new_colon o (occurrence x at) k) d same h)
steps_back t (new_colon o x k) (Symbol symbol.Colon at) d ts same h = (at, ts, refl, arrives t ts (type_wanted (in_annotation o x k)) d same h)
steps_back t (qbit_name o k) (Name x at) d ts same h = (x, at, ts, refl, arrives t ts (qbit_close o (occurrence x at) k) d same h)
steps_back t (qbit_close o x k) (Symbol symbol.Close at) d ts same h = (at, ts, refl, arrives t ts (prefix_wanted (in_qbit o x k)) d same h)
steps_back t (named x k) (Symbol symbol.Question at) d ts same h = inl (at, ts, refl, arrives t ts (input_open x k) d same h)
steps_back t (named x k) (Symbol symbol.Bang at) d ts same h = inr (inl (at, ts, refl, arrives t ts (output_open x k) d same h))
steps_back t (named x k) (Symbol symbol.Open at) d ts same h = inr (inr (at, ts, refl, arrives t ts (call_first x k) d same h))
steps_back t (input_open x k) (Symbol symbol.OpenList at) d ts same h = (at, ts, refl, arrives t ts (params_first (in_params x k)) d same h)
steps_back t (output_open x k) (Symbol symbol.OpenList at) d ts same h = (at, ts, refl, arrives t ts (output_first x k) d same h)
steps_back t (output_first x k) (Symbol symbol.CloseList at) d ts same h = inl (at, ts, refl, arrives t ts (dot_wanted (in_output x no_exprs k)) d same h)
steps_back t (output_first x k) tok d ts same h = inr (wanted_items t x no_exprs k (item_back t (in_list x no_exprs k) tok d ts same h))
steps_back t (call_first x k) (Name y at) d ts same h =
    inr (wanted_names (CallEnds t x k) [] y at ts (arrives t ts (call_after x (occurrence y at ∷ []) k) d same h))
steps_back t (call_first x k) (Symbol symbol.Close at) d ts same h = inl (at, ts, refl, prefix_undone t k (call x.at x.name []) ts (arrives t ts _ d same h))
steps_back t (call_wanted x ys k) (Name y at) d ts same h =
    wanted_names (CallEnds t x k) ys y at ts (arrives t ts (call_after x (ys ++ occurrence y at ∷ []) k) d same h)
steps_back t (call_after x ys k) (Symbol symbol.Comma at) d ts same h = inr (at, ts, refl, arrives t ts (call_wanted x ys k) d same h)
steps_back t (call_after x ys k) (Symbol symbol.Close at) d ts same h = inl (at, ts, refl, prefix_undone t k (call x.at x.name ys) ts (arrives t ts _ d same h))
steps_back t (dot_wanted k) (Symbol symbol.Dot at) d ts same h = (at, ts, refl, arrives t ts (prefix_wanted k) d same h)
steps_back t (else_wanted at e f p k) (Reserved word.Else c) d ts same h = (c, ts, refl, arrives t ts (prefix_wanted (in_else at e f p k)) d same h)
steps_back t (expr_wanted k) tok d ts same h = expr_back t k tok d ts same h
steps_back t (expr_named x k) (Symbol symbol.Comma at) d ts same h = inl (inr (at, ts, refl, arrives t ts (applied_wanted (x ∷ []) k) d same h))
steps_back t (expr_named x k) (Symbol symbol.Applies at) d ts same h =
    inl (inl (at, ts, refl, wanted_sum t (in_operator (x ∷ []) k) ts (arrives t ts (atom_wanted (in_first (in_operator (x ∷ []) k))) d same h)))
steps_back t (expr_named x k) (Symbol symbol.Plus at) d ts same h =
    inr (after_sum_back t (in_item (in_expr k)) (name x.at x.name) (Symbol symbol.Plus at) d ts same h)
steps_back t (expr_named x k) tok d ts same h = inr (after_sum_back t (in_item (in_expr k)) (name x.at x.name) tok d ts same h)
steps_back t (applied_wanted xs k) (Name y at) d ts same h =
    wanted_names (AppliedEnds t k) xs y at ts (arrives t ts (applied_after (xs ++ occurrence y at ∷ []) k) d same h)
steps_back t (applied_after xs k) (Symbol symbol.Comma at) d ts same h = inr (at, ts, refl, arrives t ts (applied_wanted xs k) d same h)
steps_back t (applied_after xs k) (Symbol symbol.Applies at) d ts same h =
    inl (at, ts, refl, wanted_sum t (in_operator xs k) ts (arrives t ts (atom_wanted (in_first (in_operator xs k))) d same h))
steps_back t (item_wanted k) tok d ts same h = item_back t k tok d ts same h
steps_back t (measured_wanted n xs k) (Name y at) d ts same h =
    wanted_names (MeasuredEnds t k n) xs y at ts (arrives t ts (measured_after n (xs ++ occurrence y at ∷ []) k) d same h)
steps_back t (measured_after n xs k) tok d ts same h = measured_back t k n xs tok d ts same h
steps_back t (measured_comma n xs x es k) tok d ts same h = measured_list_back t n xs x es k tok d ts same h
steps_back t (atom_wanted k) tok d ts same h = atom_back t k tok d ts same h
steps_back t (sig_open at k) (Symbol symbol.Open c) d ts same h = (c, ts, refl, arrives t ts (expr_wanted (in_sig at k)) d same h)
steps_back t (after_sum e k) tok d ts same h = after_sum_back t k e tok d ts same h
steps_back t (after_prefix p k) (Symbol symbol.Bar at) d ts same h =
    let (q, rest, proc, ends) = wanted_process t (in_right at p k) (arrives t ts (prefix_wanted (in_process (in_right at p k))) d same h) in
    inr (at, ts, refl, (q, rest, proc, ends))
steps_back t (after_prefix p k) tok d ts same h = inl (process_back t k p tok d ts same h)
steps_back t c tok d ts same h = absurd (cc same)
