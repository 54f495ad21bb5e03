-- Replies that serve a task serve the words, and what is sent answers them.
use Rattle.std.proofs.Common.{◌≡◌, ◌≤◌, ℕ, List, [], ◌++◌, length, refl, sym, ◌∙◌, ap, subst, inl, inr, codes, true, arith}
use Rattle.std.proofs.lemmas.List.{append-nil}
use Rattle.std.specs.Prelude.{Option, Some, None, IfSome, Result, Ok, Err, IfOk}
use Rattle.cqp_outside.specs.Taken.{TakesAll}
use Rattle.cqp_tool.specs.declared.reply.Reply.{Reply}
use Rattle.cqp_tool.specs.Replies.{bytes_in}
use Rattle.cqp_tool.specs.declared.status.Status.{Status}
use Rattle.cqp_tool.specs.declared.status.Status.TheVariants.{Done, Usage, TextRefused, TypeRefused, LimitRefused, ReadFault, WriteFault, NoMemory}
use Rattle.cqp_tool.specs.declared.status.Status.TheVariants.{Stopped, TraceRefused, Unbuilt}
use Rattle.cqp_tool.specs.declared.task.Task.{Task}
use Rattle.cqp_tool.specs.declared.task.Task.TheVariants as task
use Rattle.cqp_tool.specs.Inputs.{input_of, limit_of, text_of}
use Rattle.cqp_tool.specs.Losses.{Loses, LosesInput}
use Rattle.cqp_tool.specs.Output.{Answers, CanEnd, IsOutput}
use Rattle.cqp_tool.specs.Serving.{AnswersInput, IsReply, LosesFor, Serves, ServesTask, Stops, StopsTask}
use Rattle.cqp_tool.specs.Words.{AskNothing, AskTask, reads}
use Rattle.cqp_tool.proofs.Ends.{refusal_ends, writes_ends}

-- a reply to an input can come for the task
can_answer : (t : Task) (input : List ℕ) (r : Reply) → AnswersInput t input r → CanEnd t r.status
can_answer t input r (inl h) = refusal_ends t (text_of t input) r.status (bytes_in r.text) h
can_answer t input r (inr h) = writes_ends t _ _ r.status (bytes_in r.text) h.written

-- a task that reads has lost its input where it was read to its end
loses_input : (t : Task) (old new : Option (List ℕ)) (input : List ℕ) → reads t ≡ true → TakesAll old new input → length input ≤ limit_of t
    → LosesInput t old new
loses_input task.Check old new input is all within = (input, all, within)
loses_input (task.Run choice) old new input is all within = (input, all, within)
loses_input task.Replay old new input is all within = (input, all, within)
loses_input task.Upgrade old new input is all within = (input, all, within)
loses_input (task.Gen rounds) old new input is all within = cc

-- of a task that reads the input is what is left
input_left : (t : Task) (old : Option (List ℕ)) → reads t ≡ true → input_of t old ≡ old
input_left task.Check old is = refl
input_left (task.Run choice) old is = refl
input_left task.Replay old is = refl
input_left task.Upgrade old is = refl
input_left (task.Gen rounds) old is = cc

-- what was lost serves each status
loses_for : (t : Task) (s : Status) (old new : Option (List ℕ)) → LosesInput t old new → LosesFor t s old new
loses_for t Done old new h = h
loses_for t Usage old new h = h
loses_for t TextRefused old new h = h
loses_for t TypeRefused old new h = h
loses_for t LimitRefused old new h = inl h
loses_for t ReadFault old new h = h
loses_for t WriteFault old new h = h
loses_for t NoMemory old new h = h
loses_for t Stopped old new h = h
loses_for t TraceRefused old new h = h
loses_for t Unbuilt old new h = h

-- what is known of all that was taken is known of what was left, where that is known
known_input : (P : List ℕ → Type 0) (old new : Option (List ℕ)) (input : List ℕ) → TakesAll old new input → P input → IfSome old P
known_input P None new input all h = tt
known_input P (Some xs) None input all h = absurd all.taken
known_input P (Some xs) (Some ys) input all h =
    let same : xs ≡ input = all.taken ∙ ap (λ zs. input ++ zs) all.ended ∙ append-nil input in
    subst P (sym same) h

-- a reply to the input of a task that reads serves it
pub input_served : (t : Task) (old new : Option (List ℕ)) (input : List ℕ) (r : Reply) → reads t ≡ true → TakesAll old new input
    → length input ≤ limit_of t → AnswersInput t input r → ServesTask t old new r
input_served t old new input r is all within h = record {
  can = can_answer t input r h;
  answers =
      subst (λ o. IfSome o (λ xs. Answers t xs r.status (bytes_in r.text))) (sym (input_left t old is))
      (known_input (λ xs. Answers t xs r.status (bytes_in r.text)) old new input all (inr (within, h)));
  loses = loses_for t r.status old new (loses_input t old new input is all within);
}

-- a reply to the generator's task serves it
pub generated_served : (rounds : ℕ) (old : Option (List ℕ)) (r : Reply) → AnswersInput (task.Gen rounds) [] r → ServesTask (task.Gen rounds) old old r
generated_served rounds old r h = record {
  can = can_answer (task.Gen rounds) [] r h;
  answers = inr (omega arith, h);
  loses = loses_for (task.Gen rounds) r.status old old refl;
}

-- a reply that serves the task that words ask for serves the words
words_output : (words : List (List ℕ)) (t : Task) (old new : Option (List ℕ)) (s : Status) (bytes : List ℕ) → AskTask words t
    → IsReply t old new s bytes → IsOutput words old s bytes
words_output words t old new Done bytes ask h = (t, ask, h.can, h.answers)
words_output words t old new Usage bytes ask h = absurd h.can
words_output words t old new TextRefused bytes ask h = (t, ask, h.can, h.answers)
words_output words t old new TypeRefused bytes ask h = (t, ask, h.can, h.answers)
words_output words t old new LimitRefused bytes ask h = (t, ask, h.can, h.answers)
words_output words t old new ReadFault bytes ask h = absurd h.can
words_output words t old new WriteFault bytes ask h = absurd h.can
words_output words t old new NoMemory bytes ask h = absurd h.can
words_output words t old new Stopped bytes ask h = (t, ask, h.can, h.answers)
words_output words t old new TraceRefused bytes ask h = (t, ask, h.can, h.answers)
words_output words t old new Unbuilt bytes ask h = absurd h.can

-- and so of what is lost
words_lose : (words : List (List ℕ)) (t : Task) (old new : Option (List ℕ)) (s : Status) (bytes : List ℕ) → AskTask words t
    → IsReply t old new s bytes → Loses words s old new
words_lose words t old new Done bytes ask h = (t, ask, h.loses)
words_lose words t old new Usage bytes ask h = absurd h.can
words_lose words t old new TextRefused bytes ask h = (t, ask, h.loses)
words_lose words t old new TypeRefused bytes ask h = (t, ask, h.loses)
words_lose words t old new LimitRefused bytes ask h = (t, ask, h.loses)
words_lose words t old new ReadFault bytes ask h = absurd h.can
words_lose words t old new WriteFault bytes ask h = absurd h.can
words_lose words t old new NoMemory bytes ask h = absurd h.can
words_lose words t old new Stopped bytes ask h = (t, ask, h.loses)
words_lose words t old new TraceRefused bytes ask h = (t, ask, h.loses)
words_lose words t old new Unbuilt bytes ask h = absurd h.can

-- a reply that serves the task that words ask for serves the words
pub words_served : (words : List (List ℕ)) (t : Task) (old new : Option (List ℕ)) (r : Reply) → AskTask words t → ServesTask t old new r
    → Serves words old new r
words_served words t old new r ask h = record {
  output = words_output words t old new r.status (bytes_in r.text) ask h;
  loses = words_lose words t old new r.status (bytes_in r.text) ask h;
}

-- so do replies where memory isn't wanting
pub words_all_served : {E : Type 0} (words : List (List ℕ)) (t : Task) (old new : Option (List ℕ)) (x : Result Reply E) → AskTask words t
    → IfOk x (ServesTask t old new) → IfOk x (Serves words old new)
words_all_served words t old new (Ok r) ask h = words_served words t old new r ask h
words_all_served words t old new (Err e) ask h = h

-- a reply that refuses the words serves words that ask for nothing
pub refused_served : (words : List (List ℕ)) (old : Option (List ℕ)) (r : Reply) → AskNothing words → r.status ≡ Usage
    → bytes_in r.text ≡ codes "words refused\n" → Serves words old old r
refused_served words old r nothing status told = record {
  output = subst (λ s. IsOutput words old s (bytes_in r.text)) (sym status) (nothing, told);
  loses = subst (λ s. Loses words s old old) (sym status) refl;
}

-- where a task stops, the call with its words stops
pub words_stopped : (words : List (List ℕ)) (t : Task) (old new : Option (List ℕ)) (s : Status) → AskTask words t → StopsTask t old new s
    → Stops words old new s
words_stopped words t old new Done ask h = h
words_stopped words t old new Usage ask h = h
words_stopped words t old new TextRefused ask h = h
words_stopped words t old new TypeRefused ask h = h
words_stopped words t old new LimitRefused ask h = h
words_stopped words t old new ReadFault ask h = (t, ask, h)
words_stopped words t old new WriteFault ask h = h
words_stopped words t old new NoMemory ask h = inr (t, ask, h)
words_stopped words t old new Stopped ask h = h
words_stopped words t old new TraceRefused ask h = h
words_stopped words t old new Unbuilt ask h = h
