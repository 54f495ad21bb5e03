-- How a text is accepted or refused, stage by stage. No public clause cites this module.
use Rattle.std.specs.Prelude.{◌≡◌, ◌⊎◌, List, ℕ, Result, Ok, Err}
use Rattle.cqp_syntax.specs.Listing.{Listing}
use Rattle.cqp_grammar.specs.Trees.{ProgramTree}
use Rattle.cqp_reading.specs.declared.end.ParseEnd.{ParseEnd}
use Rattle.cqp_reading.specs.declared.end.ParseEnd.TheVariants as parse
use Rattle.cqp_expand.specs.Outcomes.{IsExpanded}
use Rattle.cqp_types.specs.Checked.{IsChecked}
use Rattle.cqp_tool.specs.declared.reply.Refusal.{Refusal}
use Rattle.cqp_tool.specs.declared.reply.Refusal.TheVariants as refusal
use Rattle.cqp_tool.specs.declared.reply.Reply.{Reply}
use Rattle.cqp_tool.specs.Replies.{bytes_in}
use Rattle.cqp_tool.specs.declared.status.Status.TheVariants.{TextRefused, TypeRefused}
use Rattle.cqp_tool.specs.declared.status.Status.TheVariants.{LimitRefused}
use Rattle.cqp_tool.specs.Lines.{refusal_line, depth_line}
use Rattle.cqp_tool.specs.Output.{IsRefusal}
use Rattle.cqp_tool.specs.Tells.{TellsFault, TellsLarge, TellsNeed, TellsNode}

-- the refusal that a reply tells, or want of memory
abbrev pub refusal_of : {E : Type 0} → Result Reply E → Refusal
refusal_of (Ok r) = refusal.Told r
refusal_of (Err e) = refusal.NoMemory

-- the reply tells why a text gives no program
abbrev pub TellsEnd : ParseEnd → Reply → Type 0
TellsEnd (parse.Refused at) r = (r.status ≡ TextRefused) × (bytes_in r.text ≡ refusal_line at)
TellsEnd (parse.Deep at) r = (r.status ≡ LimitRefused) × (bytes_in r.text ≡ depth_line at)
TellsEnd parse.NoMemory r = ⊥

-- the reply tells why a program expands to no process
abbrev pub TellsScope : ProgramTree → Reply → Type 0
TellsScope t r =
    ((r.status ≡ TextRefused) × TellsFault t (bytes_in r.text))
    ⊎ ((r.status ≡ LimitRefused) × TellsLarge t (bytes_in r.text))

-- the reply tells why a process isn't taken
abbrev pub TellsUntyped : Listing → Reply → Type 0
TellsUntyped l r =
    ((r.status ≡ TypeRefused) × TellsNode l (bytes_in r.text))
    ⊎ ((r.status ≡ LimitRefused) × TellsNeed l (bytes_in r.text))

-- a process is refused for a reason that a reply tells
abbrev pub RefusesProcess : Listing → Refusal → Type 0
RefusesProcess l (refusal.Told r) = TellsUntyped l r
RefusesProcess l refusal.NoMemory = Unit {0}

-- so is a program
abbrev pub RefusesProgram : ProgramTree → Refusal → Type 0
RefusesProgram t (refusal.Told r) =
    TellsScope t r ⊎ ((l : Listing) × IsExpanded t l × TellsUntyped l r)
RefusesProgram t refusal.NoMemory = Unit {0}

-- and a text
abbrev pub RefusesText : List ℕ → Refusal → Type 0
RefusesText text (refusal.Told r) = IsRefusal text r.status (bytes_in r.text)
RefusesText text refusal.NoMemory = Unit {0}

-- the program's process is this one, and it is accepted
abbrev pub Accepts : ProgramTree → Listing → Type 0
Accepts t l = IsExpanded t l × IsChecked l
