-- What is sent is the output of the words, and the source has lost what its status says.
use Rattle.std.proofs.Common.{◌≢◌, ℕ, List, sym, subst, inl, inr}
use Rattle.std.specs.Prelude.{Option}
use Rattle.std.specs.Io.KnownBytes.{Appends}
use Rattle.cqp_tool.specs.declared.reply.Reply.{Reply}
use Rattle.cqp_tool.specs.Replies.{bytes_in}
use Rattle.cqp_tool.specs.declared.status.Status.{Status}
use Rattle.cqp_tool.specs.declared.status.Status.TheVariants.{Done, Usage, TextRefused, TypeRefused, LimitRefused, ReadFault, WriteFault, NoMemory}
use Rattle.cqp_tool.specs.declared.status.Status.TheVariants.{Stopped, TraceRefused, Unbuilt}
use Rattle.cqp_tool.specs.Losses.{Loses}
use Rattle.cqp_tool.specs.Output.{IsAnswered, IsOutput}
use Rattle.cqp_tool.specs.Serving.{IsSent, Serves, Stops}

-- no reply has the status of a fault of a write
pub no_write_fault : (words : List (List ℕ)) (old new : Option (List ℕ)) (r : Reply) → Serves words old new r → r.status ≢ WriteFault
no_write_fault words old new r h same = let never = subst (λ s. IsOutput words old s (bytes_in r.text)) same h.output in absurd never.2

-- all of an output that was written
all_written : (words : List (List ℕ)) (left : Option (List ℕ)) (s : Status) (bytes : List ℕ) (old new : Option (List ℕ))
    → IsOutput words left s bytes → Appends old new bytes → IsAnswered words left s old new
all_written words left Done bytes old new h w = record { bytes = bytes; output = h; written = w }
all_written words left Usage bytes old new h w = record { bytes = bytes; output = h; written = w }
all_written words left TextRefused bytes old new h w = record { bytes = bytes; output = h; written = w }
all_written words left TypeRefused bytes old new h w = record { bytes = bytes; output = h; written = w }
all_written words left LimitRefused bytes old new h w = record { bytes = bytes; output = h; written = w }
all_written words left ReadFault bytes old new h w = absurd h.2
all_written words left WriteFault bytes old new h w = absurd h.2
all_written words left NoMemory bytes old new h w = absurd h.2
all_written words left Stopped bytes old new h w = record { bytes = bytes; output = h; written = w }
all_written words left TraceRefused bytes old new h w = record { bytes = bytes; output = h; written = w }
all_written words left Unbuilt bytes old new h w = record { bytes = bytes; output = h; written = w }

-- what was lost before a write that failed
lost_unwritten : (words : List (List ℕ)) (s : Status) (bytes : List ℕ) (old new : Option (List ℕ)) → IsOutput words old s bytes
    → Loses words s old new → Loses words WriteFault old new
lost_unwritten words Done bytes old new h l = inr (l.0, l.1, inl l.2)
lost_unwritten words Usage bytes old new h l = inl l
lost_unwritten words TextRefused bytes old new h l = inr (l.0, l.1, inl l.2)
lost_unwritten words TypeRefused bytes old new h l = inr (l.0, l.1, inl l.2)
lost_unwritten words LimitRefused bytes old new h l = inr l
lost_unwritten words ReadFault bytes old new h l = absurd h.2
lost_unwritten words WriteFault bytes old new h l = l
lost_unwritten words NoMemory bytes old new h l = absurd h.2
lost_unwritten words Stopped bytes old new h l = inr (l.0, l.1, inl l.2)
lost_unwritten words TraceRefused bytes old new h l = inr (l.0, l.1, inl l.2)
lost_unwritten words Unbuilt bytes old new h l = inl l

-- a status that is sent is that of the reply, with all written, or a fault of the write
sent_status : (r : Reply) (s : Status) (old new : Option (List ℕ)) (P : Status → Type 0) → IsSent r s old new
    → (Appends old new (bytes_in r.text) → P r.status) → (IsSent r WriteFault old new → P WriteFault) → P s
sent_status r Done old new P sent h k = subst P (sym sent.0) (h sent.1)
sent_status r Usage old new P sent h k = subst P (sym sent.0) (h sent.1)
sent_status r TextRefused old new P sent h k = subst P (sym sent.0) (h sent.1)
sent_status r TypeRefused old new P sent h k = subst P (sym sent.0) (h sent.1)
sent_status r LimitRefused old new P sent h k = subst P (sym sent.0) (h sent.1)
sent_status r ReadFault old new P sent h k = subst P (sym sent.0) (h sent.1)
sent_status r WriteFault old new P sent h k = k sent
sent_status r NoMemory old new P sent h k = subst P (sym sent.0) (h sent.1)
sent_status r Stopped old new P sent h k = subst P (sym sent.0) (h sent.1)
sent_status r TraceRefused old new P sent h k = subst P (sym sent.0) (h sent.1)
sent_status r Unbuilt old new P sent h k = subst P (sym sent.0) (h sent.1)

-- what is sent answers the words
pub sent_answers : (words : List (List ℕ)) (r : Reply) (s : Status) (left now old new : Option (List ℕ)) → Serves words left now r
    → IsSent r s old new → IsAnswered words left s old new
sent_answers words r s left now old new h sent =
    sent_status r s old new (λ t. IsAnswered words left t old new) sent (λ w. all_written words left r.status (bytes_in r.text) old new h.output w)
    (λ w. record { status = r.status; bytes = (bytes_in r.text); output = h.output; written = w })

-- and the source has lost what its status says
pub sent_loses : (words : List (List ℕ)) (r : Reply) (s : Status) (left now old new : Option (List ℕ)) → Serves words left now r
    → IsSent r s old new → Loses words s left now
sent_loses words r s left now old new h sent =
    sent_status r s old new (λ t. Loses words t left now) sent (λ w. h.loses) (λ w. lost_unwritten words r.status (bytes_in r.text) left now h.output h.loses)

-- where a call stops with nothing written, the source has lost what its status says
pub stop_loses : (words : List (List ℕ)) (left now : Option (List ℕ)) (s : Status) → Stops words left now s → Loses words s left now
stop_loses words left now Done h = absurd h
stop_loses words left now Usage h = absurd h
stop_loses words left now TextRefused h = absurd h
stop_loses words left now TypeRefused h = absurd h
stop_loses words left now LimitRefused h = absurd h
stop_loses words left now ReadFault h = h
stop_loses words left now WriteFault h = absurd h
stop_loses words left now NoMemory h = h
stop_loses words left now Stopped h = absurd h
stop_loses words left now TraceRefused h = absurd h
stop_loses words left now Unbuilt h = absurd h
