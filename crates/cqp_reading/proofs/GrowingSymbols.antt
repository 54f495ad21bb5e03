-- A symbol raises the counts by one at most.
use Rattle.std.proofs.Common.{◌≡◌, ℕ, ◌+◌, ◌≤◌, List, [], ◌∷◌, Option, Some, None, refl, arith}
use Rattle.std.specs.Option.{option_map}
use Rattle.cqp_syntax.specs.declared.ty.Ty.TheVariants as ty
use Rattle.cqp_program.specs.declared.program.Occ.{Occ}
use Rattle.cqp_program.specs.declared.fragment.Kind.TheVariants as kind
use Rattle.cqp_reading.specs.declared.frame.Frame.{Frame}
use Rattle.cqp_reading.specs.declared.frame.Frame.TheVariants as frame
use Rattle.cqp_reading.specs.declared.awaits.Awaits.{Awaits}
use Rattle.cqp_reading.specs.declared.awaits.Awaits.TheVariants as awaits
use Rattle.cqp_reading.specs.DraftLists.{DraftLists, top, popped, emitted, items_open, weight}
use Rattle.cqp_reading.specs.DraftLists.{opened}
use Rattle.cqp_reading.specs.DraftLists.{stand}
use Rattle.cqp_reading.specs.Closing.{process_read, atom_place, expr_read}
use Rattle.cqp_reading.specs.Symbols.{at_open, called, group_end, group_read, parens_read}
use Rattle.cqp_reading.specs.Symbols.{at_close}
use Rattle.cqp_reading.specs.Symbols.{at_open_list, empty_read, list_read, at_close_list, act_read}
use Rattle.cqp_reading.specs.Symbols.{left_read, at_equals, item_read, at_comma, at_colon, body_end}
use Rattle.cqp_reading.specs.Symbols.{body_read}
use Rattle.cqp_reading.specs.Symbols.{at_semicolon, at_applies, at_bar, at_plus}
use Rattle.cqp_reading.proofs.GrowingEnds.{Held, Grown, Taken, popped_weight, prefix_weight}
use Rattle.cqp_reading.proofs.GrowingEnds.{process_weight}
use Rattle.cqp_reading.proofs.GrowingEnds.{atom_place_held, atom_weight, expr_taken}
use Rattle.cqp_reading.proofs.GrowingEnds.{typed_weight, chan_open_weight, heading_grown}
use Rattle.cqp_reading.proofs.GrowingEnds.{input_grown}
use Rattle.cqp_reading.proofs.GrowingEnds.{type_closed_grown, type_bracketed_grown}
use Rattle.cqp_reading.proofs.GrowingEnds.{type_followed_grown}

-- a frame that is no list weighs nothing
abbrev pub IsLight : Frame → Type 0
IsLight f = (fs : List Frame) → items_open (f ∷ fs) ≡ items_open fs

-- a light frame that is opened keeps the weight
pub opened_grown : (n : ℕ) (f : Frame) (p : Awaits) (o : Option DraftLists) → IsLight f → Held n o
    → Grown n (option_map (λ s. stand p (opened f s)) o)
opened_grown n f p None light h = tt
opened_grown n f p (Some s) light h = let same = light s.frames in omega arith

-- what a reading awaits weighs nothing
pub held_grown : (n : ℕ) (p : Awaits) (o : Option DraftLists) → Held n o → Grown n (option_map (stand p) o)
held_grown n p None h = tt
held_grown n p (Some s) h = h

-- `(`
pub at_open_grown : (p : Awaits) (s : DraftLists) (at : ℕ) → Grown (weight s + 1) (at_open p s at)
at_open_grown (awaits.DefOpen x) s at = omega arith
at_open_grown awaits.OpOpen s at = omega arith
at_open_grown (awaits.Named x) s at = omega arith
at_open_grown (awaits.SigOpen n) s at = omega arith
at_open_grown awaits.Definitions s at = omega arith
at_open_grown awaits.PrefixWanted s at = omega arith
at_open_grown (awaits.Opened n) s at = omega arith
at_open_grown p s at =
    opened_grown (weight s + 1) frame.Parens awaits.ExprWanted (atom_place p s) (λ fs. refl)
    (atom_place_held p s)

-- `)`
called_grown : (f : Occ) (xs : List Occ) (s : DraftLists) → Grown (weight s + 1) (called f xs s)
called_grown f xs s = let same = prefix_weight (emitted f.at (kind.Call f.name xs) s) in omega arith

-- the end of a process in parentheses keeps the weight
group_end_grown : (n : ℕ) (f : Option Frame) (s : DraftLists) → weight s ≤ n → Grown n (group_end f s)
group_end_grown n (Some frame.Group) s h = let same = prefix_weight s in omega arith
group_end_grown n f s h = tt

-- a process in parentheses that ends keeps the weight
group_grown : (n : ℕ) (s : DraftLists) → weight s ≤ n → Grown n (group_read s)
group_grown n s h = let less = popped_weight s in group_end_grown n (top s) (popped s) (omega arith)

-- an expression in parentheses that ends raises the weight by one at most
parens_grown : (n : ℕ) (o : Option (Frame × DraftLists)) → Taken n o → Grown (n + 1) (parens_read o)
parens_grown n (Some (frame.Sig at, s)) h =
    let same = atom_weight (emitted at kind.Sig s) in omega arith
parens_grown n (Some (frame.Parens, s)) h = let same = atom_weight s in omega arith
parens_grown n o h = tt

-- `)` raises the weight by one at most
pub at_close_grown : (p : Awaits) (s : DraftLists) → Grown (weight s + 1) (at_close p s)
at_close_grown awaits.ParamsFirst s = heading_grown (weight s + 1) [] s (omega arith)
at_close_grown (awaits.OpClose n) s = let more = typed_weight (ty.Op n) s in omega arith
at_close_grown awaits.AfterType s =
    let less = popped_weight s in type_closed_grown (weight s + 1) (top s) (popped s) (omega arith)
at_close_grown (awaits.QbitClose at x) s = omega arith
at_close_grown (awaits.CallFirst f) s = called_grown f [] s
at_close_grown (awaits.CallAfter f xs) s = called_grown f xs s
at_close_grown awaits.AfterPrefix s =
    let same = process_weight s in group_grown (weight s + 1) (process_read s) (omega arith)
at_close_grown p s = parens_grown (weight s) (expr_read p s) (expr_taken p s)

-- `[`
pub at_open_list_grown : (p : Awaits) (s : DraftLists) → Grown (weight s + 1) (at_open_list p s)
at_open_list_grown awaits.ChanOpen s = let more = chan_open_weight s in omega arith
at_open_list_grown (awaits.InputOpen c) s = omega arith
at_open_list_grown (awaits.OutputOpen c) s = omega arith
at_open_list_grown p s = tt

-- `]`
empty_grown : (n : ℕ) (f : Option Frame) (s : DraftLists) → weight s ≤ n → Grown n (empty_read f s)
empty_grown n (Some (frame.List c m)) s h = h
empty_grown n f s h = tt

-- a list that ends raises it by one at most
list_grown : (n : ℕ) (o : Option (Frame × DraftLists)) → Taken n o → Grown (n + 1) (list_read o)
list_grown n (Some (frame.List c m, s)) h = omega arith
list_grown n o h = tt

-- `]` raises it by one at most
pub at_close_list_grown : (p : Awaits) (s : DraftLists) → Grown (weight s + 1) (at_close_list p s)
at_close_list_grown awaits.ParamsFirst s = input_grown (weight s + 1) [] s (omega arith)
at_close_list_grown awaits.ChanFirst s =
    let less = popped_weight s in
    type_bracketed_grown (weight s + 1) (top s) (popped s) (omega arith)
at_close_list_grown awaits.AfterType s =
    let less = popped_weight s in
    type_bracketed_grown (weight s + 1) (top s) (popped s) (omega arith)
at_close_list_grown awaits.OutputFirst s =
    let less = popped_weight s in empty_grown (weight s + 1) (top s) (popped s) (omega arith)
at_close_list_grown p s = list_grown (weight s) (expr_read p s) (expr_taken p s)

-- `}`
pub act_grown : (n : ℕ) (o : Option (Frame × DraftLists)) → Taken n o → Grown (n + 1) (act_read o)
act_grown n (Some (frame.Braces at, s)) h = omega arith
act_grown n o h = tt

-- `=`
left_grown : (n : ℕ) (o : Option (Frame × DraftLists)) → Taken n o → Grown (n + 1) (left_read o)
left_grown n (Some (frame.Left at, s)) h = omega arith
left_grown n o h = tt

-- `=` raises it by one at most
pub at_equals_grown : (p : Awaits) (s : DraftLists) → Grown (weight s + 1) (at_equals p s)
at_equals_grown (awaits.DefEquals x ps) s = omega arith
at_equals_grown p s = left_grown (weight s) (expr_read p s) (expr_taken p s)

-- `,`
item_grown : (n : ℕ) (o : Option (Frame × DraftLists)) → Taken n o → Grown (n + 1) (item_read o)
item_grown n (Some (frame.List c m, s)) h = omega arith
item_grown n o h = tt

-- `,` raises it by one at most
pub at_comma_grown : (p : Awaits) (s : DraftLists) → Grown (weight s + 1) (at_comma p s)
at_comma_grown awaits.AfterType s =
    let less = popped_weight s in
    type_followed_grown (weight s + 1) (top s) (popped s) (omega arith)
at_comma_grown (awaits.CallAfter f xs) s = omega arith
at_comma_grown (awaits.ExprNamed x) s = omega arith
at_comma_grown (awaits.AppliedAfter xs) s = omega arith
at_comma_grown (awaits.MeasuredAfter at xs) s = omega arith
at_comma_grown awaits.AfterSum s =
    item_grown (weight s) (expr_read awaits.AfterSum s) (expr_taken awaits.AfterSum s)
at_comma_grown p s = tt

-- `:`
pub at_colon_grown : (p : Awaits) (s : DraftLists) → Grown (weight s + 1) (at_colon p s)
at_colon_grown (awaits.ParamColon ps x) s = omega arith
at_colon_grown (awaits.NewColon at x) s = omega arith
at_colon_grown p s = tt

-- `;`
body_end_grown : (n : ℕ) (f : Option Frame) (s : DraftLists) → weight s ≤ n → Grown n (body_end f s)
body_end_grown n (Some (frame.Body x ps)) s h = h
body_end_grown n f s h = tt

-- a definition that ends keeps the weight
body_grown : (n : ℕ) (s : DraftLists) → weight s ≤ n → Grown n (body_read s)
body_grown n s h = let less = popped_weight s in body_end_grown n (top s) (popped s) (omega arith)

-- `;` raises it by one at most
pub at_semicolon_grown : (p : Awaits) (s : DraftLists) → Grown (weight s + 1) (at_semicolon p s)
at_semicolon_grown awaits.AfterPrefix s =
    let same = process_weight s in body_grown (weight s + 1) (process_read s) (omega arith)
at_semicolon_grown p s = tt

-- `*=`, `|` and `+`
pub at_applies_grown : (p : Awaits) (s : DraftLists) → Grown (weight s + 1) (at_applies p s)
at_applies_grown (awaits.ExprNamed x) s = omega arith
at_applies_grown (awaits.AppliedAfter xs) s = omega arith
at_applies_grown p s = tt

-- `|` raises it by one at most
pub at_bar_grown : (p : Awaits) (s : DraftLists) (at : ℕ) → Grown (weight s + 1) (at_bar p s at)
at_bar_grown awaits.AfterPrefix s at = omega arith
at_bar_grown p s at = tt

-- `+` raises it by one at most
pub at_plus_grown : (p : Awaits) (s : DraftLists) (at : ℕ) → Grown (weight s + 1) (at_plus p s at)
at_plus_grown (awaits.ExprNamed x) s at = omega arith
at_plus_grown awaits.AfterSum s at = omega arith
at_plus_grown p s at = tt
