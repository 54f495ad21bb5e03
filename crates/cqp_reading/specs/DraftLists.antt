-- What was read of a program so far, as contracts see a draft, and how a token changes it. But for
-- the record, no public clause cites anything of this module.
use Rattle.std.specs.Prelude.{ℕ, ◌+◌, List, [], ◌∷◌, ◌++◌, length, slice_set, Bool, true}
use Rattle.std.specs.Prelude.{false, Option, Some, None}
use Rattle.cqp_syntax.specs.declared.ty.Ty.{Ty}
use Rattle.cqp_program.specs.declared.program.Occ.{Occ}
use Rattle.cqp_program.specs.declared.program.Param.{Param}
use Rattle.cqp_program.specs.declared.program.TyTree.{TyTree}
use Rattle.cqp_reading.specs.declared.definition.Definition.{Definition}
use Rattle.cqp_program.specs.declared.fragment.Fragment.{Fragment}
use Rattle.cqp_program.specs.declared.fragment.Kind.{Kind}
use Rattle.cqp_reading.specs.declared.frame.Frame.{Frame}
use Rattle.cqp_reading.specs.declared.frame.Frame.TheVariants as frame
use Rattle.cqp_reading.specs.declared.awaits.Awaits.{Awaits}
use Rattle.cqp_program.specs.Postorder.{ends}

-- the definitions that ended, what is open with the innermost first, the types and the nodes so far
pub record DraftLists : Type 0 where
  pub definitions : List Definition
  pub frames : List Frame
  pub types : List Ty
  pub fragments : List Fragment

-- nothing yet
abbrev pub blank : DraftLists
blank = record { definitions = []; frames = []; types = []; fragments = [] }

-- what is open innermost
abbrev pub first_frame : List Frame → Option Frame
first_frame [] = None
first_frame (f ∷ fs) = Some f

-- what is open around it
abbrev pub other_frames : List Frame → List Frame
other_frames [] = []
other_frames (f ∷ fs) = fs

-- these frames are open
abbrev pub with_frames : List Frame → DraftLists → DraftLists
with_frames fs s = record s { frames = fs }

-- a frame more
abbrev pub opened : Frame → DraftLists → DraftLists
opened f s = with_frames (f ∷ s.frames) s

-- the innermost frame, and what is left without it
abbrev pub top : DraftLists → Option Frame
top s = first_frame s.frames

-- what is left without the innermost frame
abbrev pub popped : DraftLists → DraftLists
popped s = with_frames (other_frames s.frames) s

-- the branch behind `then` is open
abbrev pub is_then : Option Frame → Bool
is_then (Some (frame.Then at)) = true
is_then f = false

-- a list of items is open
abbrev pub is_list : Option Frame → Bool
is_list (Some (frame.List c n)) = true
is_list f = false

-- a node is open that ends with a prefix
abbrev pub is_body : Option Frame → Bool
is_body (Some (frame.New at x t)) = true
is_body (Some (frame.Qbit at x)) = true
is_body (Some (frame.Act at)) = true
is_body (Some (frame.In c ps)) = true
is_body (Some (frame.Out c n)) = true
is_body (Some (frame.Else at)) = true
is_body f = false

-- an operator is open
abbrev pub is_operator : Option Frame → Bool
is_operator (Some (frame.Operator xs)) = true
is_operator f = false

-- where a `+` stands whose right side is open
abbrev pub plus_of : Option Frame → Option ℕ
plus_of (Some (frame.Plus at)) = Some at
plus_of f = None

-- where a `|` stands whose right side is open
abbrev pub bar_of : Option Frame → Option ℕ
bar_of (Some (frame.Right at)) = Some at
bar_of f = None

-- a node more
abbrev pub emitted : ℕ → Kind → DraftLists → DraftLists
emitted at k s = record s { fragments = s.fragments ++ ends at k }

-- a part of a type more
abbrev pub typed : Ty → DraftLists → DraftLists
typed t s = record s { types = s.types ++ t ∷ [] }

-- another part in the place of one
abbrev pub retyped : ℕ → Ty → DraftLists → DraftLists
retyped n t s = record s { types = slice_set s.types n t }

-- the type that was read, and what is left without it
abbrev pub type_read : DraftLists → TyTree
type_read s = record { nodes = s.types }

-- what is left without the type
abbrev pub untyped : DraftLists → DraftLists
untyped s = record s { types = [] }

-- a definition more, whose nodes are those that were read
abbrev pub defined : Occ → List Param → DraftLists → DraftLists
defined x ps s = record s {
  definitions = s.definitions ++ (record { name = x; params = ps; body = s.fragments }) ∷ [];
  fragments = [];
}

-- how many items there are in the lists that are open
abbrev pub items_open : List Frame → ℕ
items_open [] = 0
items_open (frame.List c n ∷ fs) = n + items_open fs
items_open (f ∷ fs) = items_open fs

-- the counts that a token may raise, by one at most
abbrev pub weight : DraftLists → ℕ
weight s = length s.types + items_open s.frames

-- where a reading stands, with what was read
pub record Stand : Type 0 where
  pub awaits : Awaits
  pub draft : DraftLists

-- a reading awaits this, with this draft
abbrev pub stand : Awaits → DraftLists → Stand
stand p s = record { awaits = p; draft = s }
