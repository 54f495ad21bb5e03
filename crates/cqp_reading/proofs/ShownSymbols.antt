-- A symbol moves a draft as it moves the grammar's machine.
use Rattle.std.proofs.Common.{ℕ, ◌≡◌, refl, sym, ap, List, [], ◌∷◌, ◌++◌, length, append-nil, Some}
use Rattle.cqp_syntax.specs.declared.ty.Ty.TheVariants as ty
use Rattle.cqp_grammar.specs.declared.token.Token.TheVariants.{Symbol}
use Rattle.cqp_grammar.specs.declared.token.SymbolKind.{SymbolKind}
use Rattle.cqp_grammar.specs.declared.token.SymbolKind.TheVariants as symbol
use Rattle.cqp_grammar.specs.Trees.{Occurrence, name, measure, call}
use Rattle.cqp_grammar.specs.Stacks.{PrefixStack, in_left, in_right_side, in_list, in_expr}
use Rattle.cqp_grammar.specs.Stacks.{TypeStack}
use Rattle.cqp_grammar.specs.Stacks.{ItemStack, in_braces, in_sig, in_parens}
use Rattle.cqp_grammar.specs.ParserStates as at
use Rattle.cqp_grammar.specs.ParserStates.{ParserState}
use Rattle.cqp_grammar.specs.Moves as moves
use Rattle.cqp_program.specs.Listing.{occ}
use Rattle.cqp_reading.specs.declared.frame.Frame.TheVariants as frame
use Rattle.cqp_reading.specs.declared.awaits.Awaits.TheVariants as awaits
use Rattle.cqp_reading.specs.DraftLists.{stand, opened}
use Rattle.cqp_reading.specs.Symbols.{parens_read, list_read, act_read, left_read}
use Rattle.cqp_reading.specs.Symbols.{item_read}
use Rattle.cqp_reading.specs.Tokens.{at_symbol}
use Rattle.cqp_reading.specs.Shown.{prefixes, types, shown, shown_at}
use Rattle.cqp_reading.proofs.ShownQuiet.{is_unread}
use Rattle.cqp_reading.proofs.ShownStarts.{comma_measured, first_noted}
use Rattle.cqp_reading.proofs.ShownEnds.{prefix_shown, group_shown, body_shown}
use Rattle.cqp_reading.proofs.ShownItems.{item_of, whole, sum_ends, close_item, marked_item}
use Rattle.cqp_reading.proofs.ShownItems.{listed_item}
use Rattle.cqp_reading.proofs.ShownTypes.{type_closed_shown, type_bracketed_shown}
use Rattle.cqp_reading.proofs.ShownTypes.{type_followed_shown}
use Rattle.cqp_reading.proofs.ShownTypes.{heading_shown, input_shown, chan_closed}

-- what follows a symbol, as lists and as a state of the grammar's machine
abbrev pub Agrees : ParserState → SymbolKind → Type 0
Agrees c m =
    (at : ℕ) → at_symbol (shown c).awaits (shown c).draft m at ≡ shown_at (moves.token_read c (Symbol m at))

-- the brackets of a channel type, and those of an output
chan_opens : (k : TypeStack) → Agrees (at.chan_open k) symbol.OpenList
chan_opens k n =
    ap (λ us. Some (stand awaits.ChanFirst (record (types k) {
      frames = frame.Types (length (types k).types) [] ∷ (types k).frames;
      types = us;
    }))) (sym (append-nil ((types k).types ++ ty.Int ∷ [])))

-- `[` opens the list of an output with no item
output_opens : (x : Occurrence) (k : PrefixStack) → Agrees (at.output_open x k) symbol.OpenList
output_opens x k n =
    ap (λ fs. Some (stand awaits.OutputFirst (record (prefixes k) {
      frames = frame.List (occ x) 0 ∷ (prefixes k).frames;
      fragments = fs;
    }))) (sym (append-nil (prefixes k).fragments))

-- a comma behind measured qubits
measured_goes_on : (m : ℕ) (xs : List Occurrence) (k : ItemStack)
    → Agrees (at.measured_after m xs k) symbol.Comma
measured_goes_on m xs (in_left a k) n = refl
measured_goes_on m xs (in_right_side a f k) n = refl
measured_goes_on m xs (in_list x es k) n = refl
measured_goes_on m xs (in_expr (in_braces a k)) n = refl
measured_goes_on m xs (in_expr (in_sig a k)) n = refl
measured_goes_on m xs (in_expr (in_parens k)) n = refl

-- each symbol
pub symbol_agrees : (c : ParserState) (m : SymbolKind) → Agrees c m
symbol_agrees (at.measured_comma m xs x es k) symbol.Open n =
    ap (λ s. Some (stand awaits.ExprWanted (opened frame.Parens s))) (comma_measured m xs x es k)
symbol_agrees (at.params_first k) symbol.Close n = heading_shown k n
symbol_agrees (at.after_type t k) symbol.Close n = type_closed_shown k t n
symbol_agrees (at.call_first x k) symbol.Close n = ap Some (prefix_shown k (call x.at x.name []))
symbol_agrees (at.call_after x ys k) symbol.Close n = ap Some (prefix_shown k (call x.at x.name ys))
symbol_agrees (at.expr_named x k) symbol.Close n = close_item (in_expr k) (name x.at x.name) n
symbol_agrees (at.measured_after m xs k) symbol.Close n = close_item k (measure m xs) n
symbol_agrees (at.after_sum e k) symbol.Close n =
    sum_ends parens_read k e (Symbol symbol.Close n) (close_item (item_of k) (whole k e) n)
symbol_agrees (at.after_prefix p k) symbol.Close n = group_shown k p n
symbol_agrees (at.chan_open k) symbol.OpenList n = chan_opens k n
symbol_agrees (at.output_open x k) symbol.OpenList n = output_opens x k n
symbol_agrees (at.params_first k) symbol.CloseList n = input_shown k n
symbol_agrees (at.chan_first k) symbol.CloseList n =
    rw (chan_closed (types k).types [] (ty.Chan [])) refl
symbol_agrees (at.after_type t k) symbol.CloseList n = type_bracketed_shown k t n
symbol_agrees (at.expr_named x k) symbol.CloseList n = (listed_item (in_expr k) (name x.at x.name) n).0
symbol_agrees (at.measured_after m xs k) symbol.CloseList n = (listed_item k (measure m xs) n).0
symbol_agrees (at.after_sum e k) symbol.CloseList n =
    sum_ends list_read k e (Symbol symbol.CloseList n) (listed_item (item_of k) (whole k e) n).0
symbol_agrees (at.expr_named x k) symbol.CloseAct n = (marked_item (in_expr k) (name x.at x.name) n).0
symbol_agrees (at.measured_after m xs k) symbol.CloseAct n = (marked_item k (measure m xs) n).0
symbol_agrees (at.after_sum e k) symbol.CloseAct n =
    sum_ends act_read k e (Symbol symbol.CloseAct n) (marked_item (item_of k) (whole k e) n).0
symbol_agrees (at.after_type t k) symbol.Comma n = type_followed_shown k t n
symbol_agrees (at.expr_named x k) symbol.Comma n = refl
symbol_agrees (at.measured_after m xs k) symbol.Comma n = measured_goes_on m xs k n
symbol_agrees (at.after_sum e k) symbol.Comma n =
    sum_ends item_read k e (Symbol symbol.Comma n) (listed_item (item_of k) (whole k e) n).1
symbol_agrees (at.after_prefix p k) symbol.Semicolon n = body_shown k p n
symbol_agrees (at.expr_named x k) symbol.Equals n = (marked_item (in_expr k) (name x.at x.name) n).1
symbol_agrees (at.measured_after m xs k) symbol.Equals n = (marked_item k (measure m xs) n).1
symbol_agrees (at.after_sum e k) symbol.Equals n =
    sum_ends left_read k e (Symbol symbol.Equals n) (marked_item (item_of k) (whole k e) n).1
symbol_agrees (at.expr_named x k) symbol.Applies n = refl
symbol_agrees (at.after_prefix p k) symbol.Bar n = refl
symbol_agrees (at.chan_first k) symbol.Caret n = ap (λ s. Some (stand awaits.ChanOpen s)) (first_noted k)
symbol_agrees (at.expr_named x k) symbol.Plus n = refl
symbol_agrees (at.after_sum e k) symbol.Plus n = refl
symbol_agrees c symbol.Dot n = is_unread c (Symbol symbol.Dot n) refl
symbol_agrees c m n = is_unread c (Symbol m n) refl
