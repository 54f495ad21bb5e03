-- A token moves a draft as it moves the grammar's machine.
use Rattle.std.proofs.Common.{ℕ, zero, suc, ◌≡◌, refl, sym, ◌∙◌, ap, List, [], ◌∷◌, ◌++◌, map, Some}
use Rattle.std.proofs.lemmas.List.{map-append}
use Rattle.cqp_grammar.specs.declared.token.Token.{Token}
use Rattle.cqp_grammar.specs.declared.token.Token.TheVariants.{Name, Number, Reserved, Symbol, Bad, End}
use Rattle.cqp_grammar.specs.Trees.{Occurrence, occurrence, number, name, measure, no_exprs, nil}
use Rattle.cqp_grammar.specs.Stacks.{in_process, in_group, in_main, in_list, in_expr, in_item}
use Rattle.cqp_grammar.specs.Stacks.{in_first}
use Rattle.cqp_grammar.specs.ParserStates as at
use Rattle.cqp_grammar.specs.ParserStates.{ParserState}
use Rattle.cqp_grammar.specs.Moves as moves
use Rattle.cqp_grammar.proofs.Endings.{next_bad}
use Rattle.cqp_program.specs.Listing.{occ}
use Rattle.cqp_program.specs.declared.fragment.Kind.TheVariants as kind
use Rattle.cqp_reading.specs.declared.awaits.Awaits.TheVariants as awaits
use Rattle.cqp_reading.specs.DraftLists.{stand}
use Rattle.cqp_reading.specs.Closing.{atom}
use Rattle.cqp_reading.specs.Tokens.{at_name, at_number, at_end, token_read}
use Rattle.cqp_reading.specs.Shown.{prefixes, exprs, items, shown, shown_at}
use Rattle.cqp_reading.proofs.ShownEnds.{prefix_shown, main_shown, atom_shown}
use Rattle.cqp_reading.proofs.ShownQuiet.{is_unread}
use Rattle.cqp_reading.proofs.ShownStarts.{comma_measured}
use Rattle.cqp_reading.proofs.ShownSymbols.{symbol_agrees}
use Rattle.cqp_reading.proofs.ShownWords.{reserved_agrees}

-- a name behind others
name_last : (xs : List Occurrence) (x : List ℕ) (n : ℕ)
    → map occ xs ++ occ (occurrence x n) ∷ [] ≡ map occ (xs ++ occurrence x n ∷ [])
name_last xs x n = sym (map-append occ xs (occurrence x n ∷ []))

-- a name
name_agrees : (c : ParserState) (y : List ℕ) (n : ℕ)
    → at_name (shown c).awaits (shown c).draft (record { name = y; at = n })
    ≡ shown_at (moves.token_read c (Name y n))
name_agrees (at.call_wanted x ys k) y n =
    ap (λ zs. Some (stand (awaits.CallAfter (occ x) zs) (prefixes k))) (name_last ys y n)
name_agrees (at.applied_wanted xs k) y n =
    ap (λ zs. Some (stand (awaits.AppliedAfter zs) (exprs k))) (name_last xs y n)
name_agrees (at.measured_wanted m xs k) y n =
    ap (λ zs. Some (stand (awaits.MeasuredAfter m zs) (items k))) (name_last xs y n)
name_agrees (at.measured_comma m xs x es k) y n =
    ap (λ zs. Some (stand (awaits.MeasuredAfter m zs) (items (in_list x es k)))) (name_last xs y n)
name_agrees (at.atom_wanted k) y n = ap Some (atom_shown k (name n y))
name_agrees (at.item_wanted k) y n = ap Some (atom_shown (in_first (in_item k)) (name n y))
name_agrees (at.output_first x k) y n =
    ap Some (atom_shown (in_first (in_item (in_list x no_exprs k))) (name n y))
name_agrees (at.params_first k) y n = refl
name_agrees c y n = is_unread c (Name y n) refl

-- a number
number_agrees : (c : ParserState) (v n : ℕ)
    → at_number (shown c).awaits (shown c).draft v n ≡ shown_at (moves.token_read c (Number v n))
number_agrees (at.op_number k) zero n = refl
number_agrees (at.op_number k) (suc zero) n = refl
number_agrees (at.op_number k) (suc (suc zero)) n = refl
number_agrees (at.op_number k) (suc (suc (suc zero))) n = refl
number_agrees (at.op_number k) (suc (suc (suc (suc v)))) n = refl
number_agrees (at.definitions ds) zero n = ap Some (prefix_shown (in_process (in_main ds)) (nil n))
number_agrees (at.definitions ds) (suc v) n = refl
number_agrees (at.prefix_wanted k) zero n = ap Some (prefix_shown k (nil n))
number_agrees (at.prefix_wanted k) (suc v) n = refl
number_agrees (at.opened m k) zero n = ap Some (prefix_shown (in_process (in_group k)) (nil n))
number_agrees (at.opened m k) (suc v) n = refl
number_agrees (at.atom_wanted k) v n = ap Some (atom_shown k (number n v))
number_agrees (at.item_wanted k) v n = ap Some (atom_shown (in_first (in_item k)) (number n v))
number_agrees (at.expr_wanted k) v n =
    ap Some (atom_shown (in_first (in_item (in_expr k))) (number n v))
number_agrees (at.output_first x k) v n =
    ap Some (atom_shown (in_first (in_item (in_list x no_exprs k))) (number n v))
number_agrees (at.measured_comma m xs x es k) v n =
    ap (λ s. atom n (kind.Num v) (Some s)) (comma_measured m xs x es k)
    ∙ ap Some (atom_shown (in_first (in_item (in_list x (moves.expr_last es (measure m xs)) k)))
    (number n v))
number_agrees c v n = is_unread c (Number v n) refl

-- the end of the text
end_agrees : (c : ParserState) (n : ℕ)
    → at_end (shown c).awaits (shown c).draft ≡ shown_at (moves.token_read c (End n))
end_agrees (at.after_prefix p k) n = main_shown k p n
end_agrees c n = is_unread c (End n) refl

-- any token
pub token_agrees : (c : ParserState) (t : Token)
    → token_read (shown c).awaits (shown c).draft t ≡ shown_at (moves.token_read c t)
token_agrees c (Name y n) = name_agrees c y n
token_agrees c (Number v n) = number_agrees c v n
token_agrees c (Reserved k n) = reserved_agrees c k n
token_agrees c (Symbol m n) = symbol_agrees c m n
token_agrees c (Bad n) = ap shown_at (sym (next_bad c n))
token_agrees c (End n) = end_agrees c n
