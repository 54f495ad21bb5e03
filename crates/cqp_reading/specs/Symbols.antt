-- What a symbol does, by what is awaited: where a reading stands behind it, or none: it is refused.
-- No public clause cites this module.
use Rattle.std.specs.Prelude.{ℕ, ◌+◌, List, [], ◌∷◌, Bool, true, false, Option, Some}
use Rattle.std.specs.Prelude.{None}
use Rattle.std.specs.Option.{option_map}
use Rattle.cqp_grammar.specs.declared.token.SymbolKind.{SymbolKind}
use Rattle.cqp_grammar.specs.declared.token.SymbolKind.TheVariants as symbol
use Rattle.cqp_syntax.specs.declared.ty.Ty.TheVariants as ty
use Rattle.cqp_program.specs.declared.program.Occ.{Occ}
use Rattle.cqp_program.specs.declared.fragment.Kind.TheVariants as kind
use Rattle.cqp_reading.specs.declared.frame.Frame.{Frame}
use Rattle.cqp_reading.specs.declared.frame.Frame.TheVariants as frame
use Rattle.cqp_reading.specs.declared.awaits.Awaits.{Awaits}
use Rattle.cqp_reading.specs.declared.awaits.Awaits.TheVariants as awaits
use Rattle.cqp_reading.specs.DraftLists.{DraftLists, opened, top, popped, emitted, typed, defined}
use Rattle.cqp_reading.specs.DraftLists.{is_list, Stand, stand}
use Rattle.cqp_reading.specs.Closing.{prefix_read, process_read, atom_place, atom_read}
use Rattle.cqp_reading.specs.Closing.{expr_read, chan_open, heading_read}
use Rattle.cqp_reading.specs.Closing.{input_read, type_closed, type_bracketed, type_followed}

-- `(`
abbrev pub at_open : Awaits → DraftLists → ℕ → Option Stand
at_open (awaits.DefOpen x) s at = Some (stand awaits.ParamsFirst (opened (frame.Heading x) s))
at_open awaits.OpOpen s at = Some (stand awaits.OpNumber s)
at_open (awaits.Named x) s at = Some (stand (awaits.CallFirst x) s)
at_open (awaits.SigOpen n) s at = Some (stand awaits.ExprWanted (opened (frame.Sig n) s))
at_open awaits.Definitions s at = Some (stand (awaits.Opened at) s)
at_open awaits.PrefixWanted s at = Some (stand (awaits.Opened at) s)
at_open (awaits.Opened n) s at = Some (stand (awaits.Opened at) (opened frame.Group s))
at_open p s at =
    option_map (λ t. stand awaits.ExprWanted (opened frame.Parens t)) (atom_place p s)

-- a call ends
abbrev pub called : Occ → List Occ → DraftLists → Option Stand
called f xs s = Some (prefix_read (emitted f.at (kind.Call f.name xs) s))

-- a process in parentheses ends
abbrev pub group_end : Option Frame → DraftLists → Option Stand
group_end (Some frame.Group) s = Some (prefix_read s)
group_end f s = None

-- a process in parentheses that was read
abbrev pub group_read : DraftLists → Option Stand
group_read s = group_end (top s) (popped s)

-- an expression in parentheses ends
abbrev pub parens_read : Option (Frame × DraftLists) → Option Stand
parens_read (Some (frame.Sig at, s)) = Some (atom_read (emitted at kind.Sig s))
parens_read (Some (frame.Parens, s)) = Some (atom_read s)
parens_read f = None

-- `)`
abbrev pub at_close : Awaits → DraftLists → Option Stand
at_close awaits.ParamsFirst s = heading_read [] s
at_close (awaits.OpClose n) s = Some (stand awaits.AfterType (typed (ty.Op n) s))
at_close awaits.AfterType s = type_closed (top s) (popped s)
at_close (awaits.QbitClose at x) s = Some (stand awaits.PrefixWanted (opened (frame.Qbit at x) s))
at_close (awaits.CallFirst f) s = called f [] s
at_close (awaits.CallAfter f xs) s = called f xs s
at_close awaits.AfterPrefix s = group_read (process_read s)
at_close p s = parens_read (expr_read p s)

-- `[`
abbrev pub at_open_list : Awaits → DraftLists → Option Stand
at_open_list awaits.ChanOpen s = Some (chan_open s)
at_open_list (awaits.InputOpen c) s = Some (stand awaits.ParamsFirst (opened (frame.Params c) s))
at_open_list (awaits.OutputOpen c) s = Some (stand awaits.OutputFirst (opened (frame.List c 0) s))
at_open_list p s = None

-- a list of no item ends, and one whose last item ends
abbrev pub empty_read : Option Frame → DraftLists → Option Stand
empty_read (Some (frame.List c n)) s = Some (stand awaits.DotWanted (opened (frame.Out c n) s))
empty_read f s = None

-- a list whose last item ends
abbrev pub list_read : Option (Frame × DraftLists) → Option Stand
list_read (Some (frame.List c n, s)) =
    Some (stand awaits.DotWanted (opened (frame.Out c (n + 1)) s))
list_read f = None

-- `]`
abbrev pub at_close_list : Awaits → DraftLists → Option Stand
at_close_list awaits.ParamsFirst s = input_read [] s
at_close_list awaits.ChanFirst s = type_bracketed (top s) (popped s)
at_close_list awaits.AfterType s = type_bracketed (top s) (popped s)
at_close_list awaits.OutputFirst s = empty_read (top s) (popped s)
at_close_list p s = list_read (expr_read p s)

-- `}`
abbrev pub act_read : Option (Frame × DraftLists) → Option Stand
act_read (Some (frame.Braces at, s)) = Some (stand awaits.DotWanted (opened (frame.Act at) s))
act_read f = None

-- `=`
abbrev pub left_read : Option (Frame × DraftLists) → Option Stand
left_read (Some (frame.Left at, s)) = Some (stand awaits.ItemWanted (opened (frame.RightSide at) s))
left_read f = None

-- `=`
abbrev pub at_equals : Awaits → DraftLists → Option Stand
at_equals (awaits.DefEquals x ps) s = Some (stand awaits.PrefixWanted (opened (frame.Body x ps) s))
at_equals p s = left_read (expr_read p s)

-- another measured qubit may follow a comma, or in a list another item
abbrev pub measured_more : Bool → ℕ → List Occ → Awaits
measured_more true at xs = awaits.MeasuredComma at xs
measured_more false at xs = awaits.MeasuredWanted at xs

-- an item of a list ends at a comma
abbrev pub item_read : Option (Frame × DraftLists) → Option Stand
item_read (Some (frame.List c n, s)) =
    Some (stand awaits.ItemWanted (opened (frame.List c (n + 1)) s))
item_read f = None

-- `,`
abbrev pub at_comma : Awaits → DraftLists → Option Stand
at_comma awaits.AfterType s = type_followed (top s) (popped s)
at_comma (awaits.CallAfter f xs) s = Some (stand (awaits.CallWanted f xs) s)
at_comma (awaits.ExprNamed x) s = Some (stand (awaits.AppliedWanted (x ∷ [])) s)
at_comma (awaits.AppliedAfter xs) s = Some (stand (awaits.AppliedWanted xs) s)
at_comma (awaits.MeasuredAfter at xs) s = Some (stand (measured_more (is_list (top s)) at xs) s)
at_comma awaits.AfterSum s = item_read (expr_read awaits.AfterSum s)
at_comma p s = None

-- `:`
abbrev pub at_colon : Awaits → DraftLists → Option Stand
at_colon (awaits.ParamColon ps x) s = Some (stand awaits.TypeWanted (opened (frame.Param ps x) s))
at_colon (awaits.NewColon at x) s =
    Some (stand awaits.TypeWanted (opened (frame.Annotation at x) s))
at_colon p s = None

-- `;`
abbrev pub body_end : Option Frame → DraftLists → Option Stand
body_end (Some (frame.Body x ps)) s = Some (stand awaits.Definitions (defined x ps s))
body_end f s = None

-- a definition that was read
abbrev pub body_read : DraftLists → Option Stand
body_read s = body_end (top s) (popped s)

-- `;`
abbrev pub at_semicolon : Awaits → DraftLists → Option Stand
at_semicolon awaits.AfterPrefix s = body_read (process_read s)
at_semicolon p s = None

-- `*=`
abbrev pub at_applies : Awaits → DraftLists → Option Stand
at_applies (awaits.ExprNamed x) s =
    Some (stand awaits.AtomWanted (opened (frame.Operator (x ∷ [])) s))
at_applies (awaits.AppliedAfter xs) s =
    Some (stand awaits.AtomWanted (opened (frame.Operator xs) s))
at_applies p s = None

-- `|`
abbrev pub at_bar : Awaits → DraftLists → ℕ → Option Stand
at_bar awaits.AfterPrefix s at = Some (stand awaits.PrefixWanted (opened (frame.Right at) s))
at_bar p s at = None

-- `+`
abbrev pub at_plus : Awaits → DraftLists → ℕ → Option Stand
at_plus (awaits.ExprNamed x) s at =
    Some (stand awaits.AtomWanted (opened (frame.Plus at) (emitted x.at (kind.Name x.name) s)))
at_plus awaits.AfterSum s at = Some (stand awaits.AtomWanted (opened (frame.Plus at) s))
at_plus p s at = None

-- `.`, `?` and `!`
abbrev pub mark_place : Awaits → SymbolKind → Option Awaits
mark_place awaits.DotWanted symbol.Dot = Some awaits.PrefixWanted
mark_place (awaits.Named x) symbol.Question = Some (awaits.InputOpen x)
mark_place (awaits.Named x) symbol.Bang = Some (awaits.OutputOpen x)
mark_place p m = None
