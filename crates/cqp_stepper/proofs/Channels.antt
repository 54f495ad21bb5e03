-- A channel on which a part of a safe configuration receives was made.
use Rattle.std.proofs.Common.{◌≡◌, ℕ, ◌<◌, List, [], ◌∷◌, ◌++◌, length, true, false, Bool, ◌==◌, Some, filter, map, sym, arith, ◌∙◌, ⊎_elim, refl, subst, ◌&&◌}
use Rattle.std.specs.List.{AllByRecursion}
use Rattle.std.proofs.lemmas.Bool.{cases_Bool}
use Rattle.cqp_syntax.specs.declared.val.Val.{Val}
use Rattle.cqp_syntax.specs.declared.val.Val.TheVariants as val
use Rattle.cqp_syntax.specs.Trees.{Process, Slot, input, named, valued}
use Rattle.cqp_syntax.specs.Free.{free_slots}
use Rattle.cqp_syntax.specs.TypeTrees.{TypeTree, TypeTrees, qbit_type}
use Rattle.cqp_syntax.proofs.Same.{same_number}
use Rattle.cqp_types.specs.Contexts.{Context, entry_type}
use Rattle.cqp_types.specs.Derivations.{Derives, input_}
use Rattle.cqp_cells.specs.Config.{Config, Part, part_at}
use Rattle.cqp_cells.specs.Moves.{provided, receives_on}
use Rattle.cqp_cells.proofs.Options.{none_is_some, same_some}
use Rattle.cqp_paths.specs.Safe.{IsSafe, channels, is_qubit, owned}

-- the channel as a slot
abbrev chan_slot : ℕ → Slot
chan_slot k = valued (val.Chan k)

-- a slot that is tested is no channel, or isn't a qubit
by_slot : (s : Slot) (k : ℕ) (ss : List Slot) (g : Context)
    → entry_type (map (λ z. record { slot = z; ty = qbit_type }) (filter is_qubit ss) ++ g) (chan_slot k) ≡ entry_type g (chan_slot k)
    → entry_type (map (λ z. record { slot = z; ty = qbit_type }) (filter is_qubit (s ∷ ss)) ++ g) (chan_slot k) ≡ entry_type g (chan_slot k)
by_slot (named x) k ss g h = h
by_slot (valued (val.Num v)) k ss g h = h
by_slot (valued val.Unit) k ss g h = h
by_slot (valued (val.Gate o)) k ss g h = h
by_slot (valued (val.Qubit q)) k ss g h = h
by_slot (valued (val.Chan c)) k ss g h = h

-- qubits say nothing of a channel
past_qubits : (ss : List Slot) (k : ℕ) (g : Context)
    → entry_type (map (λ z. record { slot = z; ty = qbit_type }) (filter is_qubit ss) ++ g) (chan_slot k) ≡ entry_type g (chan_slot k)
past_qubits [] k g = refl
past_qubits (s ∷ ss) k g = by_slot s k ss g (past_qubits ss k g)

-- a channel that has a type was made
made_chan : (carried : List TypeTrees) (k : ℕ) (t : TypeTree) → entry_type (channels carried) (chan_slot k) ≡ Some t → k < length carried
made_chan [] k t h = absurd (none_is_some h)
made_chan (ts ∷ more) k t h = ⊎_elim
    (λ (e : (length more == k) ≡ true). let same = same_number (length more) k e in omega arith)
    (λ (e : (length more == k) ≡ false). let below = made_chan more k t (rw e at h) in omega arith)
    (cases_Bool (length more == k))

-- the process of a part is typed
part_typed : (carried : List TypeTrees) (parts : List Part) (n : ℕ) (q : Process)
    → AllByRecursion (λ part. Derives (owned part.process ++ channels carried) part.process) parts → part_at n parts ≡ Some q
    → Derives (owned q ++ channels carried) q
part_typed carried [] n q all h = absurd (none_is_some h)
part_typed carried (part ∷ parts) n q all h = ⊎_elim
    (λ (e : (part.number == n) ≡ true).
    let same : part.process ≡ q = same_some {x = part.process} {y = q} (rw e at h) in
    subst (λ z. Derives (owned z ++ channels carried) z) same all.0)
    (λ (e : (part.number == n) ≡ false). part_typed carried parts n q all.1 (rw e at h))
    (cases_Bool (part.number == n))

-- a receiver's channel was made
receiver_chan : (carried : List TypeTrees) (chan : ℕ) (vs : List Val) (q r : Process) → Derives (owned q ++ channels carried) q
    → receives_on chan vs q ≡ Some r → chan < length carried
receiver_chan carried chan vs (input (valued (val.Chan k)) bs p) r (input_ is d) h =
    let here : (k == chan) ≡ true = first_true (k == chan) _ _ h in
    let same = same_number k chan here in
    let below = made_chan carried k _ (sym (past_qubits (free_slots (input (valued (val.Chan k)) bs p)) k (channels carried)) ∙ is) in
    omega arith
  where
    first_true : (a b : Bool) (x : Process) → provided (a && b) x ≡ Some r → a ≡ true
    first_true true b x g = refl
    first_true false b x g = absurd (none_is_some g)
receiver_chan carried chan vs q r derives h = absurd (none_is_some h)

-- so it is in a safe configuration
pub chan_made : (c : Config) (n chan : ℕ) (vs : List Val) (q r : Process) → IsSafe c → part_at n c.parts ≡ Some q → receives_on chan vs q ≡ Some r
    → chan < c.chans
chan_made c n chan vs q r safe at h =
    let below = receiver_chan safe.typed.carried chan vs q r (part_typed safe.typed.carried c.parts n q safe.typed.parts at) h in
    let count = safe.typed.count in
    omega arith
