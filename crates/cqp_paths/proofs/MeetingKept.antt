-- A communication keeps what is kept.
use Rattle.std.proofs.Common.{◌≡◌, ℕ, ◌+◌, ◌≤◌, List, [], ◌∷◌, ◌++◌, map, Bool, true, false, not, refl, sym, ap, ◌∙◌, subst, ◌⊎◌, inl, inr, arith}
use Rattle.std.specs.Prelude.{Some, if◌then◌else◌, ◌==◌}
use Rattle.cqp_syntax.specs.declared.val.Val.TheVariants as val
use Rattle.cqp_syntax.specs.TypeTrees.{TypeTrees, qbit_type, chan_type}
use Rattle.cqp_syntax.specs.Trees.{Slot, named, valued, Expr, Binder, Process, input, output, value}
use Rattle.cqp_syntax.specs.Binders.{binders_of, HasDistinctBinders}
use Rattle.cqp_syntax.specs.Free.{is_among, except, exprs_slots, free_slots, bound_slots}
use Rattle.cqp_syntax.specs.Substitution.{with_values}
use Rattle.cqp_types.specs.Types.{types_of}
use Rattle.cqp_types.specs.Contexts.{Context, Has, is_twice, binding, leaving}
use Rattle.cqp_types.specs.Derivations.{Derives, Fits, sent_under, input_, output_}
use Rattle.cqp_syntax.proofs.Bools.{fails, decide}
use Rattle.cqp_syntax.proofs.Slots.{among_self, among_left, among_right, stays_among}
use Rattle.cqp_types.proofs.ContextLaws.{kept_in, kept_passes}
use Rattle.cqp_types.proofs.Known.{free_known}
use Rattle.cqp_types.proofs.Puts.{value_free}
use Rattle.cqp_types.proofs.Sent.{false_unless, sent_is, sent_among}
use Rattle.cqp_types.proofs.Relevance.{weakened}
use Rattle.cqp_trace.specs.declared.entry.Entry.{Entry}
use Rattle.cqp_cells.specs.Config.{Config, Part, part_at, continued}
use Rattle.cqp_syntax.specs.Lists.{is_distinct}
use Rattle.cqp_paths.specs.Invariant.{IsKept, held}
use Rattle.cqp_paths.specs.Made.{made, qubit_slot}
use Rattle.cqp_cells.specs.Owners.{holds}
use Rattle.cqp_cells.specs.Rows.{IsMeeting}
use Rattle.cqp_cells.specs.Size.{total}
use Rattle.cqp_paths.proofs.Made.{made_qubit, made_carries, made_name}
use Rattle.cqp_paths.proofs.Flattening.{flat_held, binders-append}
use Rattle.cqp_paths.proofs.Parts.{total-continued, all-part_at}
use Rattle.cqp_paths.proofs.PutValues.{AreTypedAs, sent_values, binders_of-with_values, put_values}
use Rattle.cqp_paths.proofs.SentValues.{are_values, fits_values, values_hold, typed_sent}
use Rattle.cqp_paths.proofs.Smaller.{receiver_stays}
use Rattle.cqp_paths.proofs.Continued.{held_less, held_no, held_yes, qubits_typed, well_continued}
use Rattle.cqp_paths.proofs.PrefixRowsKept.{body_kept}
use Rattle.cqp_cells.proofs.Options.{none_is_some, same_some}

-- what a derivation of an output says
pub record SendsUnder (g : Context) (c : Slot) (es : List Expr) (p : Process) : Type 0 where
  pub carried : TypeTrees
  pub channel : Has g c (chan_type carried)
  pub once : is_twice (sent_under g es) ≡ false
  pub fits : Fits g (leaving (sent_under g es) g) es carried
  pub body : Derives (leaving (sent_under g es) g) p

-- a derivation of an output gives what it says
pub sends_under : {g : Context} {c : Slot} {es : List Expr} {p : Process} → Derives g (output c es p) → SendsUnder g c es p
sends_under (output_ {ts = ts} is once fits d) = record { carried = ts; channel = is; once = once; fits = fits; body = d }

-- a derivation of an input types its channel and, below its binders, its body
pub receives_under : {g : Context} {c : Slot} {bs : List Binder} {p : Process} → Derives g (input c bs p)
    → Has g c (chan_type (types_of bs)) × Derives (binding bs g) p
receives_under (input_ is d) = (is, d)

-- channels of one type carry the same types
pub same_carried : {ts us : TypeTrees} → chan_type ts ≡ chan_type us → ts ≡ us
same_carried e = cc

-- a part that is there holds a qubit at most as often as all parts
pub held_within : (f : Process → ℕ) (i : ℕ) (parts : List Part) (p : Process) → part_at i parts ≡ Some p → f p ≤ total f parts
held_within f i [] p at = absurd (none_is_some at)
held_within f i (part ∷ parts) p at = by_test (part.number == i) at (λ g. held_within f i parts p g)
  where
    by_test : (b : Bool) → (if b then Some part.process else part_at i parts) ≡ Some p → (part_at i parts ≡ Some p → f p ≤ total f parts)
        → f p ≤ f part.process + total f parts
    by_test true g more = let same : f part.process ≡ f p = ap f (same_some g) in omega (arith, same)
    by_test false g more = omega (arith, more g)

-- what has type Qbit is a qubit that was made
qubit_of : (n : ℕ) (carried : List TypeTrees) (s : Slot) → Has (made n carried) s qbit_type → (q : ℕ) × (s ≡ qubit_slot q)
qubit_of n carried (named x) h = absurd (made_name n carried x qbit_type h)
qubit_of n carried (valued (val.Qubit q)) h = (q, refl)
qubit_of n carried (valued (val.Chan k)) h = let c = made_carries n carried k qbit_type h in absurd (wrong c.0 c.1)
  where
    wrong : (us : TypeTrees) → qbit_type ≡ chan_type us → ⊥
    wrong us e = cc
qubit_of n carried (valued v) h = absurd (cc h)

module _ (carried : List TypeTrees) (c : Config) (e : Entry) (d : Config) (inv : IsKept carried c) (met : IsMeeting c e d) where
  -- all channels and qubits that were made
  abbrev g : Context
  g = made c.state.qubits carried

  -- the derivation of the output gives what it says
  sender : SendsUnder g (valued (val.Chan met.chan)) met.exprs met.left
  sender = sends_under (all-part_at (Derives g) e.part c.parts _ inv.typed met.sends)

  -- the derivation of the input types its channel and its body
  receiver : Has g (valued (val.Chan met.chan)) (chan_type (types_of met.binders)) × Derives (binding met.binders g) met.right
  receiver = receives_under (all-part_at (Derives g) met.to c.parts _ inv.typed met.receives)

  -- the names that the receiver binds are distinct
  names : is_distinct (map (λ b. b.name) (met.binders ++ binders_of met.right)) ≡ true
  names = all-part_at HasDistinctBinders met.to c.parts _ inv.binders met.receives

  -- the sender's continuation is typed
  left_typed : Derives g met.left
  left_typed = weakened (leaving (sent_under g met.exprs) g) g (λ s t h. kept_in _ g s t h) sender.body

  -- the configuration in which the sender alone has gone on
  abbrev sent : Config
  sent = continued e.part met.left c

  -- what is kept is kept where the sender goes on
  sent_kept : IsKept carried sent
  sent_kept =
      body_kept carried c inv e.part _ met.left met.sends left_typed (all-part_at HasDistinctBinders e.part c.parts _ inv.binders met.sends)
      (λ q h. among_right (qubit_slot q) (valued (val.Chan met.chan) ∷ exprs_slots met.exprs) (free_slots met.left) h)

  -- the qubits among the values are the arguments that are sent
  same_sent : sent_values g met.values ≡ sent_under g met.exprs
  same_sent = ap (λ es. sent_under g es) (sym (are_values met.exprs met.values met.are_values))

  -- a qubit that is sent is held by nobody any more
  nobody : (q : ℕ) → is_among (qubit_slot q) (sent_values g met.values) ≡ true → total (held q) sent.parts ≡ 0
  nobody q i = omega (
    arith,
    total-continued (held q) e.part met.left c _ met.sends,
    flat_held q
        (qubits_typed c.state.qubits carried) left_typed,
    inv.owned q,
    was_held,
    not_held,
  )
    where
      among : is_among (qubit_slot q) (sent_under g met.exprs) ≡ true
      among = subst (λ ss. is_among (qubit_slot q) ss ≡ true) same_sent i

      was_held : held q (output (valued (val.Chan met.chan)) met.exprs met.left) ≡ 1
      was_held = held_yes q (output (valued (val.Chan met.chan)) met.exprs met.left)
          (among_right (qubit_slot q) (valued (val.Chan met.chan) ∷ []) (exprs_slots met.exprs ++ free_slots met.left)
          (among_left (qubit_slot q) (exprs_slots met.exprs) (free_slots met.left) (sent_among g met.exprs (qubit_slot q) among)))

      not_held : held q met.left ≡ 0
      not_held = held_no q met.left (λ h.
          let known = free_known (leaving (sent_under g met.exprs) g) (qubit_slot q) sender.body h in
          fails (sym (ap not among) ∙ kept_passes _ g (qubit_slot q) known.0 (among_self (qubit_slot q) (free_slots met.left) h) known.1))

  -- the receiver stands where it stood
  at_receiver : part_at met.to sent.parts ≡ Some (input (valued (val.Chan met.chan)) met.binders met.right)
  at_receiver = receiver_stays inv.numbers met

  -- a qubit that is free below the input is held by it
  above : (q : ℕ) → is_among (qubit_slot q) (free_slots met.right) ≡ true → holds q (input (valued (val.Chan met.chan)) met.binders met.right) ≡ true
  above q h = among_right (qubit_slot q) (valued (val.Chan met.chan) ∷ []) (except (bound_slots met.binders) (free_slots met.right))
      (stays_among (qubit_slot q) (bound_slots met.binders) (free_slots met.right) (value_free (val.Qubit q) met.binders) h)

  -- what is sent isn't free in the receiver
  fresh : (s : Slot) → is_among s (sent_values g met.values) ≡ true → is_among s (free_slots met.right) ≡ false
  fresh s i = false_unless (is_among s (free_slots met.right))
      (λ j. never (qubit_of c.state.qubits carried s (sent_is g (map (λ v. value v) met.values) s i)) j)
    where
      never : (q : ℕ) × (s ≡ qubit_slot q) → is_among s (free_slots met.right) ≡ true → ⊥
      never (q, is) j =
          let none : total (held q) sent.parts ≡ 0 = nobody q (subst (λ r. is_among r (sent_values g met.values) ≡ true) is i) in
          let one : held q (input (valued (val.Chan met.chan)) met.binders met.right) ≡ 1 =
          held_yes q (input (valued (val.Chan met.chan)) met.binders met.right) (above q (subst (λ r. is_among r (free_slots met.right) ≡ true) is j)) in
          omega (arith, none, one, held_within (held q) met.to sent.parts _ at_receiver)

  -- the values have the types of the binders
  typed : AreTypedAs g met.binders met.values
  typed =
      let one : chan_type sender.carried ≡ chan_type (types_of met.binders) = same_some (sym sender.channel ∙ receiver.0) in
      fits_values met.binders met.values sender.fits met.are_values (same_carried one) (λ s t h. kept_in _ g s t h)

  -- the receiver stays typed with the values
  right_typed : Derives g (with_values met.binders met.values met.right)
  right_typed = put_values g met.binders met.values names typed (subst (λ ss. is_twice ss ≡ false) (sym same_sent) sender.once) fresh receiver.1

  -- the receiver holds no further qubit, but for one that nobody held any more
  holds_less : (q : ℕ) → (held q (with_values met.binders met.values met.right) ≤ held q (input (valued (val.Chan met.chan)) met.binders met.right)) ⊎
      (total (held q) sent.parts ≡ 0)
  holds_less q =
      decide (is_among (qubit_slot q) (sent_values g met.values))
      (λ i. inr (nobody q i))
      (λ i. inl (held_less q (with_values met.binders met.values met.right) (input (valued (val.Chan met.chan)) met.binders met.right)
      (λ h. of_either i (values_hold q met.binders met.values met.right names h))))
    where
      of_either : is_among (qubit_slot q) (sent_values g met.values) ≡ false
          → (holds q met.right ≡ true) ⊎ (is_among (qubit_slot q) (map (λ v. valued v) met.values) ≡ true)
          → holds q (input (valued (val.Chan met.chan)) met.binders met.right) ≡ true
      of_either i (inl h) = above q h
      of_either i (inr j) = absurd (fails (sym i ∙ typed_sent g q (λ t h. (made_qubit c.state.qubits carried q t h).1) met.binders met.values typed j))

  -- the receiver binds each name once
  right_names : HasDistinctBinders (with_values met.binders met.values met.right)
  right_names =
      subst (λ bs. is_distinct (map (λ b. b.name) bs) ≡ true) (sym (binders_of-with_values met.binders met.values met.right))
      (binders-append met.binders (binders_of met.right) names).1

  -- a communication keeps what is kept
  pub met_kept : IsKept carried (continued met.to (with_values met.binders met.values met.right) sent)
  met_kept = well_continued carried sent sent_kept met.to _ (with_values met.binders met.values met.right) at_receiver right_typed right_names holds_less
