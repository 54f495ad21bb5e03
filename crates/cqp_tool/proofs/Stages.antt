-- A text is accepted or refused by what is known of its program and its process.
use Rattle.std.proofs.Common.{◌≡◌, ℕ, ◌≤◌, List, length, sym, subst, inl, inr}
use Rattle.std.specs.Prelude.{Result, Ok, Err, IfOk}
use Rattle.cqp_syntax.specs.Listing.{Listing}
use Rattle.cqp_grammar.specs.Trees.{ProgramTree}
use Rattle.cqp_reading.specs.declared.end.ParseEnd.{ParseEnd}
use Rattle.cqp_reading.specs.declared.end.ParseEnd.TheVariants as parse
use Rattle.cqp_reading.specs.Ends.{IsEnd}
use Rattle.cqp_expand.specs.Outcomes.{IsExpanded}
use Rattle.cqp_tool.specs.declared.reply.Refusal.{Refusal}
use Rattle.cqp_tool.specs.declared.reply.Refusal.TheVariants as refusal
use Rattle.cqp_tool.specs.declared.reply.Reply.{Reply}
use Rattle.cqp_tool.specs.Replies.{bytes_in}
use Rattle.cqp_tool.specs.declared.status.Status.{Status}
use Rattle.cqp_tool.specs.declared.status.Status.TheVariants.{TextRefused, TypeRefused, LimitRefused}
use Rattle.cqp_tool.specs.Accepting.{Accepts, RefusesProgram, RefusesProcess, RefusesText, TellsEnd, TellsScope, TellsUntyped, refusal_of}
use Rattle.cqp_tool.specs.Output.{IsRefusal}
use Rattle.cqp_tool.specs.Texts as texts

-- a refusal with a status that is known
with_status : (text : List ℕ) (r : Reply) (s : Status) → r.status ≡ s → IsRefusal text s (bytes_in r.text) → IsRefusal text r.status (bytes_in r.text)
with_status text r s same h = subst (λ t. IsRefusal text t (bytes_in r.text)) (sym same) h

-- the end of a reading refuses the text
pub end_refuses : {E : Type 0} (text : List ℕ) (end : ParseEnd) (r : Result Reply E) → length text ≤ 65536 → IsEnd text end
    → IfOk r (TellsEnd end) → RefusesText text (refusal_of r)
end_refuses text (parse.Refused at) (Ok r) short is h =
    with_status text r TextRefused h.0 (inl (short, record { at = at; refused = is; told = h.1 }))
end_refuses text (parse.Deep at) (Ok r) short is h =
    with_status text r LimitRefused h.0 (inr (inl (short, record { at = at; deep = is; told = h.1 })))
end_refuses text parse.NoMemory (Ok r) short is h = absurd h
end_refuses text end (Err e) short is h = tt

-- a fault of scope refuses the program
pub scope_refuses : {E : Type 0} (t : ProgramTree) (r : Result Reply E) → IfOk r (TellsScope t) → RefusesProgram t (refusal_of r)
scope_refuses t (Ok r) h = inl h
scope_refuses t (Err e) h = tt

-- a process that isn't taken refuses its program
pub process_refuses : (t : ProgramTree) (l : Listing) (e : Refusal) → IsExpanded t l → RefusesProcess l e → RefusesProgram t e
process_refuses t l (refusal.Told r) is h = inr (l, is, h)
process_refuses t l refusal.NoMemory is h = tt

-- what a reply tells of a program with a fault of scope refuses the text
scope_text : (text : List ℕ) (t : ProgramTree) (r : Reply) → texts.IsProgramText text t → TellsScope t r → IsRefusal text r.status (bytes_in r.text)
scope_text text t r is (inl h) = with_status text r TextRefused h.0 (inr (t, is, h.1))
scope_text text t r is (inr h) = with_status text r LimitRefused h.0 (inr (inr (inl (t, is, h.1))))

-- and so what it tells of a process that isn't taken
untyped_text : (text : List ℕ) (l : Listing) (r : Reply) → texts.StandsFor text l → TellsUntyped l r → IsRefusal text r.status (bytes_in r.text)
untyped_text text l r s (inl h) = with_status text r TypeRefused h.0 (l, s, h.1)
untyped_text text l r s (inr h) = with_status text r LimitRefused h.0 (inr (inr (inr (l, s, h.1))))

-- a program that is refused refuses its text
pub program_refuses : (text : List ℕ) (t : ProgramTree) (e : Refusal) → texts.IsProgramText text t → RefusesProgram t e → RefusesText text e
program_refuses text t (refusal.Told r) is (inl h) = scope_text text t r is h
program_refuses text t (refusal.Told r) is (inr h) = untyped_text text h.0 r (record { program = t; is_text = is; expanded = h.1 }) h.2
program_refuses text t refusal.NoMemory is h = tt

-- a text whose program's process is accepted is accepted
pub program_accepts : (text : List ℕ) (t : ProgramTree) (l : Listing) → texts.IsProgramText text t → Accepts t l → texts.IsAccepted text l
program_accepts text t l is h = record { stands = record { program = t; is_text = is; expanded = h.0 }; checked = h.1 }
