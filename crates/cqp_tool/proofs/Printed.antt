-- What `run` prints for a text `replay` accepts behind that text.
use Rattle.std.proofs.Common.{◌≡◌, ◌≢◌, ◌+◌, ◌≤◌, ℕ, List, [], ◌∷◌, length, refl, sym, ◌∙◌, ap, subst, inl, inr, sum_by, codes, Bool, true, false}
use Rattle.std.proofs.Common.{◌||◌, cond, arith}
use Rattle.std.specs.Prelude.{Some, option_map}
use Rattle.std.specs.List.{concat, list_all}
use Rattle.std.specs.Str.{bytes_eq}
use Rattle.std.proofs.lemmas.Bool.{and_from}
use Rattle.std.proofs.lemmas.List.{length-append}
use Rattle.std.proofs.lemmas.Slice.Eq.{bytes_eq-Decides}
use Rattle.cqp_syntax.specs.Trees.{Process}
use Rattle.cqp_syntax.specs.Listing.{Listing, breadth_of, root}
use Rattle.cqp_syntax.specs.Measures.{need, size}
use Rattle.cqp_syntax.proofs.Sizes.{length-process_nodes, length_within_breadths}
use Rattle.cqp_syntax.proofs.Unfolding.{root_reads}
use Rattle.cqp_grammar.specs.Trees.{ProgramTree}
use Rattle.cqp_grammar.specs.Prefixes as grammar
use Rattle.cqp_grammar.specs.Refusals as refusals
use Rattle.cqp_expand.specs.declared.fault.ScopeFault.{ScopeFault}
use Rattle.cqp_expand.specs.Expansion.{expansion}
use Rattle.cqp_expand.specs.Faults.{scope_faults}
use Rattle.cqp_expand.specs.Least.{IsLeast}
use Rattle.cqp_expand.specs.Outcomes.{IsExpanded, IsLarge}
use Rattle.cqp_types.specs.Derivations.{IsDerivable}
use Rattle.cqp_trace.specs.declared.deed.Deed.{Deed}
use Rattle.cqp_trace.specs.declared.deed.Deed.TheVariants as deed
use Rattle.cqp_trace.specs.declared.entry.Entry.{Entry}
use Rattle.cqp_trace.specs.declared.form.Form.{Form}
use Rattle.cqp_trace.specs.declared.form.Form.TheVariants.{Current}
use Rattle.cqp_trace.specs.declared.trace.Trace.{Trace}
use Rattle.cqp_trace.specs.Lines as lines
use Rattle.cqp_trace.specs.Text.{text_in, trace_text}
use Rattle.cqp_trace.specs.Writable.{IsWritable, IsWritableIn, is_deed_in, is_entry_in}
use Rattle.cqp_cells.specs.Lawful.{IsLawful}
use Rattle.cqp_engine.specs.declared.replaying.ReplayEnd.{ReplayEnd}
use Rattle.cqp_engine.specs.declared.replaying.ReplayEnd.TheVariants as replayed
use Rattle.cqp_engine.specs.Replays as replays
use Rattle.cqp_plain.proofs.Sizes.{size_within}
use Rattle.cqp_tool.specs.declared.status.Status.{Status}
use Rattle.cqp_tool.specs.declared.status.Status.TheVariants.{Done, Usage, TextRefused, TypeRefused, LimitRefused, ReadFault, WriteFault, NoMemory}
use Rattle.cqp_tool.specs.declared.status.Status.TheVariants.{Stopped, TraceRefused, Unbuilt}
use Rattle.cqp_tool.specs.declared.task.Task.TheVariants as task
use Rattle.cqp_tool.specs.Cut.{before_marker, behind_marker, is_marker, text_part, trace_part}
use Rattle.cqp_tool.specs.Output.{IsRefusal, IsServed}
use Rattle.cqp_tool.specs.Printed.{IsAcceptedWith, PrintedLaw}
use Rattle.cqp_tool.proofs.Cutting.{joined_lines}
use Rattle.cqp_tool.specs.Texts.{IsAccepted, IsProgramText}
use Rattle.cqp_tool.specs.Traces.{TellsPart, TellsTrace, entries_line}
use Rattle.cqp_tool.proofs.LineLengths.{trace_short}

-- a text stands for one program
abbrev pub OneProgram : Type 0
OneProgram = (text : List ℕ) (t u : ProgramTree) → grammar.StandsFor text t → grammar.StandsFor text u → t ≡ u

-- and is refused at no token then
abbrev pub NotRefused : Type 0
NotRefused =
    (text : List ℕ) (t : ProgramTree) (at : ℕ) → grammar.StandsFor text t → (refusals.IsRefused text at → ⊥) × (refusals.IsDeep text at → ⊥)

-- a program without faults has no least one
abbrev pub NoFault : Type 0
NoFault = (t : ProgramTree) (f : ScopeFault) → scope_faults t ≡ [] → IsLeast (scope_faults t) f → ⊥

-- a text is that of one trace
abbrev pub OneTrace : Type 0
OneTrace = (t u : Trace) → IsWritable t → IsWritable u → trace_text t ≡ trace_text u → t ≡ u

-- and then no line of it is wrong
abbrev pub NoLine : Type 0
NoLine = (form : Form) (bytes : List ℕ) (n : ℕ) (t : Trace) → lines.IsRefused form bytes n → IsWritableIn form t → bytes ≡ text_in form t → ⊥

-- a lawful trace is refused for want of memory alone
abbrev pub NotUnlawful : Type 0
NotUnlawful = (p : Process) (t : Trace) (e : ReplayEnd) → e ≢ replayed.NoMemory → replays.IsRefused p t e → IsLawful p t → ⊥

-- a marker has at most eight bytes
marker_short : (l : List ℕ) → is_marker l ≡ true → length l ≤ 8
marker_short l h = by_cases (bytes_eq l (codes "%trace\n")) refl
  where
    by_cases : (b : Bool) → bytes_eq l (codes "%trace\n") ≡ b → length l ≤ 8
    by_cases true e = omega (arith, ap length ((bytes_eq-Decides l (codes "%trace\n")).0 e))
    by_cases false e =
        let other : bytes_eq l (codes "%trace") ≡ true = sym (ap (λ b. b || bytes_eq l (codes "%trace")) e) ∙ h in
        omega (arith, ap length ((bytes_eq-Decides l (codes "%trace")).0 other))

-- lines are as long as what stands before the marker, the marker, and what stands behind it
parts_length : (ls : List (List ℕ)) (more : List ℕ) → option_map concat (behind_marker ls) ≡ Some more
    → length (concat ls) ≤ length (concat (before_marker ls)) + 8 + length more
parts_length [] more h = cc
parts_length (l ∷ ls) more h = by_cases (is_marker l) refl (parts_length ls more) h
  where
    Before : List (List ℕ) → Type 0
    Before xs = length (concat ls) ≤ length (concat xs) + 8 + length more

    by_cases : (b : Bool) → is_marker l ≡ b → (option_map concat (behind_marker ls) ≡ Some more → Before (before_marker ls))
        → option_map concat (cond b (Some ls) (behind_marker ls)) ≡ Some more
        → length (concat (l ∷ ls)) ≤ length (concat (cond b [] (l ∷ before_marker ls))) + 8 + length more
    by_cases true e more_of found =
        let same : concat ls ≡ more = cc in
        omega (arith, length-append l (concat ls), marker_short l e, ap length same)
    by_cases false e more_of found =
        omega (arith, length-append l (concat ls), length-append l (concat (before_marker ls)), more_of found)

-- so is an input
input_length : (input more : List ℕ) → trace_part input ≡ Some more → length input ≤ length (text_part input) + 8 + length more
input_length input more h =
    let whole = ap length (joined_lines input) in
    omega (arith, whole, parts_length (lines.lines input) more h)

-- each gate stands in texts of today's form
all_current : (es : List Entry) → list_all (is_entry_in Current) es ≡ true
all_current [] = refl
all_current (e ∷ es) = and_from (is_entry_in Current e) (list_all (is_entry_in Current) es) (one_current e.deed) (all_current es)
  where
    one_current : (d : Deed) → is_deed_in Current d ≡ true
    one_current (deed.Qbit q) = refl
    one_current (deed.New c) = refl
    one_current deed.Act = refl
    one_current (deed.Add v) = refl
    one_current (deed.Pick o) = refl
    one_current (deed.Gate o qs) = refl
    one_current (deed.Measure qs m) = refl
    one_current (deed.Com to chan) = refl
    one_current (deed.If b) = refl

-- two listings of one program have one process
same_root : (t : ProgramTree) (k l : Listing) → IsExpanded t k → IsExpanded t l → root k ≡ root l
same_root t k l one other = root_reads k (expansion t) one.process ∙ sym (root_reads l (expansion t) other.process)

module _ (one : OneProgram) (read : NotRefused) (fault : NoFault) where
  -- the programs of a text that is accepted are one
  same_program : (text : List ℕ) (l : Listing) (t : ProgramTree) → (a : IsAccepted text l) → IsProgramText text t → a.stands.program ≡ t
  same_program text l t a is = one text a.stands.program t a.stands.is_text.read is.read

  -- so are its processes
  same_process : (text : List ℕ) (k l : Listing) (t : ProgramTree) → (a : IsAccepted text k) → IsProgramText text t → IsExpanded t l → root k ≡ root l
  same_process text k l t a is expanded =
      same_root t k l (subst (λ u. IsExpanded u k) (same_program text k t a is) a.stands.expanded) expanded

  -- a text that is accepted isn't too large
  not_large : (text : List ℕ) (l : Listing) (t : ProgramTree) → IsAccepted text l → IsProgramText text t → IsLarge t → ⊥
  not_large text l t a is large =
      let same = subst (λ u. IsExpanded u l) (same_program text l t a is) a.stands.expanded in
      let counts = ap (sum_by breadth_of) same.process.nodes in
      omega (arith, counts, same.small, large.large)

  -- a text that is accepted isn't refused
  not_refused : (text : List ℕ) (l : Listing) (s : Status) (bytes : List ℕ) → IsAccepted text l → IsRefusal text s bytes → ⊥
  not_refused text l Done bytes a h = h
  not_refused text l Usage bytes a h = h
  not_refused text l TextRefused bytes a (inl h) = (read text a.stands.program h.1.at a.stands.is_text.read).0 h.1.refused
  not_refused text l TextRefused bytes a (inr h) =
      let same = same_program text l h.0 a h.1 in
      fault h.0 h.2.fault (subst (λ u. scope_faults u ≡ []) same a.stands.expanded.faultless) h.2.least
  not_refused text l TypeRefused bytes a h =
      let same = same_process text l h.0 h.1.program a h.1.is_text h.1.expanded in
      h.2.refused (subst IsDerivable same a.checked.derivable)
  not_refused text l LimitRefused bytes a (inl h) = omega (arith, h.0, a.stands.is_text.short)
  not_refused text l LimitRefused bytes a (inr (inl h)) = (read text a.stands.program h.1.at a.stands.is_text.read).1 h.1.deep
  not_refused text l LimitRefused bytes a (inr (inr (inl h))) = not_large text l h.0 a h.1 h.2.0
  not_refused text l LimitRefused bytes a (inr (inr (inr h))) =
      let same = ap need (same_process text l h.0 h.1.program a h.1.is_text h.1.expanded) in
      omega (arith, same, a.checked.few, h.2.many)
  not_refused text l ReadFault bytes a h = h
  not_refused text l WriteFault bytes a h = h
  not_refused text l NoMemory bytes a h = h
  not_refused text l Stopped bytes a h = h
  not_refused text l TraceRefused bytes a h = h
  not_refused text l Unbuilt bytes a h = h

  -- the process of a text that is accepted is reduced at most 20,000 times
  small_process : (text : List ℕ) (l : Listing) → IsAccepted text l → size (root l) ≤ 20000
  small_process text l a =
      let p = expansion a.stands.program in
      let listed = a.stands.expanded in
      let whole = ap size (root_reads l p listed.process) in
      let nodes = ap length listed.process.nodes ∙ length-process_nodes 0 p in
      omega (arith, whole, size_within p, nodes, length_within_breadths l.nodes, listed.small)

  -- an input with an accepted text and the text of a trace of its process is within its limit
  not_long : (input : List ℕ) (l : Listing) (t : Trace) → IsAccepted (text_part input) l → trace_part input ≡ Some (trace_text t) → IsWritable t
      → length t.entries ≤ size (root l) → length input ≤ 2097152
  not_long input l t a part writable short =
      let all = input_length input (trace_text t) part in
      let text = a.stands.is_text.short in
      omega (arith, all, text, short, small_process (text_part input) l a, trace_short t writable)

  module _ (single : OneTrace) (clean : NoLine) (lawful : NotUnlawful) where
    -- the text of a lawful trace is refused for no reason
    none_told : (p : Process) (t : Trace) (bytes : List ℕ) → IsWritable t → IsLawful p t
        → TellsTrace Current entries_line p (trace_text t) TraceRefused bytes → ⊥
    none_told p t bytes writable is (inl h) =
        clean Current (trace_text t) h.at t h.refused (record { writable = writable; gates = all_current t.entries }) refl
    none_told p t bytes writable is (inr h) =
        let same : t ≡ h.0 = single t h.0 writable h.1.0 h.1.1 in
        lawful p h.0 h.2.why h.2.memory h.2.refused (subst (IsLawful p) same is)

    -- so only its number of entries is told
    done_told : (p : Process) (t : Trace) (s : Status) (bytes : List ℕ) → IsWritable t → IsLawful p t → TellsTrace Current entries_line p (trace_text t) s bytes
        → IsAcceptedWith t s bytes
    done_told p t Done bytes writable is h =
        let same : h.0 ≡ t = single h.0 t h.1.0 writable (sym h.1.1) in
        (refl, h.3 ∙ ap entries_line same)
    done_told p t Usage bytes writable is h = absurd h
    done_told p t TextRefused bytes writable is h = absurd h
    done_told p t TypeRefused bytes writable is h = absurd h
    done_told p t LimitRefused bytes writable is h = absurd h
    done_told p t ReadFault bytes writable is h = absurd h
    done_told p t WriteFault bytes writable is h = absurd h
    done_told p t NoMemory bytes writable is h = absurd h
    done_told p t Stopped bytes writable is h = absurd h
    done_told p t TraceRefused bytes writable is h = absurd (none_told p t bytes writable is h)
    done_told p t Unbuilt bytes writable is h = absurd h

    -- what is served of it too
    served_told : (input : List ℕ) (l : Listing) (t : Trace) (s : Status) (bytes : List ℕ) → IsAccepted (text_part input) l
        → trace_part input ≡ Some (trace_text t) → IsWritable t → IsLawful (root l) t
        → IsServed task.Replay (text_part input) (trace_part input) s bytes → IsAcceptedWith t s bytes
    served_told input l t s bytes a part writable is h =
        let again = h.accepted.stands in
        let same = same_process (text_part input) l h.process again.program a again.is_text again.expanded in
        let told = subst (λ o. TellsPart Current entries_line (root h.process) o s bytes) part h.written in
        done_told (root h.process) t s bytes writable (subst (λ p. IsLawful p t) same is) told

    -- what `run` prints for a text `replay` accepts
    pub printed_accepted : PrintedLaw
    printed_accepted choice input printed status run part again bytes (inl h) =
        let t = run.written.trace in
        let behind : trace_part input ≡ Some (trace_text t) = part ∙ ap Some run.written.told in
        absurd (omega (arith, h.0, not_long input run.process t run.accepted behind run.written.writable run.written.run.run.short))
    printed_accepted choice input printed status run part again bytes (inr (within, inl h)) =
        absurd (not_refused (text_part input) run.process again bytes run.accepted h)
    printed_accepted choice input printed status run part again bytes (inr (within, inr h)) =
        let t = run.written.trace in
        let behind : trace_part input ≡ Some (trace_text t) = part ∙ ap Some run.written.told in
        let told = served_told input run.process t again bytes run.accepted behind run.written.writable run.written.run.run.lawful h in
        (t, told)
