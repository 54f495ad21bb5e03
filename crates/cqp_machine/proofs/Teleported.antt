-- Teleportation is a run of the machine, by computation.
use Rattle.std.proofs.Common.{◌≡◌, ◌≢◌, ℕ, zero, suc, ◌+◌, List, false, true, [], ◌<◌, Some, refl, arith, lit≤, inl}
use Rattle.std.specs.List.{list_all}
use Rattle.cqp_book.specs.Keys.{has}
use Rattle.cqp_book.specs.Run.{IsRun}
use Rattle.cqp_syntax.specs.TypeTrees.{type_at}
use Rattle.cqp_syntax.specs.Trees.{Process}
use Rattle.cqp_syntax.specs.Listing.{IsProc}
use Rattle.cqp_trace.specs.declared.entry.Entry.{Entry}
use Rattle.cqp_cells.specs.Moves.{moved}
use Rattle.cqp_parts.specs.declared.part.Part.{Part}
use Rattle.cqp_parts.specs.Parts.{process_of_part, parts_after, more_than_one, one_if_none}
use Rattle.cqp_machine.specs.declared.front.Front.{Front}
use Rattle.cqp_machine.specs.declared.front.Stop.TheVariants as stop
use Rattle.cqp_machine.specs.declared.event.Event.{Event}
use Rattle.cqp_machine.specs.Cells.{Channel, Cells}
use Rattle.cqp_machine.specs.Enabled.{IsEnabled, FitsEvent, Moves, ActsOn, MayJoin, MayPark, waits_for}
use Rattle.cqp_machine.specs.Factors.{Held, level_of}
use Rattle.cqp_machine.specs.Fronts.{counts_of}
use Rattle.cqp_machine.specs.Machine.{factored}
use Rattle.cqp_machine.specs.Teleported.{teleportation_listing, teleportation_events}

-- the three types differ
one_number : (m n : ℕ) → m < 3 → n < 3 → type_at teleportation_listing.types m ≡ type_at teleportation_listing.types n → m ≡ n
one_number zero zero h k e = refl
one_number zero (suc zero) h k e = cc
one_number zero (suc (suc zero)) h k e = cc
one_number (suc zero) zero h k e = cc
one_number (suc zero) (suc zero) h k e = refl
one_number (suc zero) (suc (suc zero)) h k e = cc
one_number (suc (suc zero)) zero h k e = cc
one_number (suc (suc zero)) (suc zero) h k e = cc
one_number (suc (suc zero)) (suc (suc zero)) h k e = refl
one_number (suc (suc (suc m))) n h k e = absurd (omega arith)
one_number m (suc (suc (suc n))) h k e = absurd (omega arith)

-- the lists are those of a process
teleportation_proc : IsProc teleportation_listing
teleportation_proc = record {
  listed = record { nodes = refl; names = refl; types = refl; scoped = refl; placed = refl };
  sound = record {
    operands = refl;
    parts_first = refl;
    typed = refl;
    one_number = one_number;
    few_types = omega arith;
    few_nodes = lit≤ tt;
  };
}

-- an event that fits is enabled while the run isn't stopped
on : (f : Front) (c : Cells) (e : Event) → f.stopped ≡ stop.No → FitsEvent teleportation_listing f c e → IsEnabled teleportation_listing f c e
on f c e going fits = record { process = teleportation_proc; going = going; fits = fits }

-- a part that is there moves by the deed
moves : (f : Front) (c : Cells) (e : Entry) (made gone : ℕ) (part : Part) (p : Process) → c.parts e.part ≡ Some part
    → moved (counts_of f) (process_of_part teleportation_listing part) e.deed ≡ Some p
    → made ≡ more_than_one (parts_after teleportation_listing part e.deed)
    → gone ≡ one_if_none (parts_after teleportation_listing part e.deed) → Moves teleportation_listing f c e made gone
moves f c e made gone part p there is makes ends = record { part = part; there = there; process = p; moves = is; makes = makes; ends = ends }

-- a group that is there is acted on
acts : (f : Front) (c : Cells) (group : ℕ) (qs : List ℕ) (becomes : Held → Held) (level : ℕ) (before : Held) → c.groups group ≡ Some before
    → list_all (λ q. has q before.qubits) qs ≡ true → before.due ≡ [] → level + level_of before ≡ f.level + level_of (becomes before)
    → ActsOn f c group qs becomes level
acts f c group qs becomes level before there all due is = record { before = before; there = there; has = all; nothing_due = due; level_is = is }

-- two groups with nothing due may be joined
joins : (c : Cells) (left right : ℕ) → left ≢ right → (G H : Held) → c.groups left ≡ Some G → G.due ≡ [] → c.groups right ≡ Some H → H.due ≡ []
    → MayJoin c left right
joins c left right apart G H first none second none_too = record {
  apart = apart;
  first = G;
  first_there = first;
  first_due = none;
  second = H;
  second_there = second;
  second_due = none_too;
}

-- a part that is ready at an input where nobody waits may park
parks : (c : Cells) (i chan : ℕ) (part : Part) (channel : Channel) → c.parts i ≡ Some part → c.chans chan ≡ Some channel
    → waits_for chan (process_of_part teleportation_listing part) ≡ Some false → has i channel.waiting ≡ false → channel.waiting ≡ []
    → MayPark teleportation_listing c i chan
parks c i chan part channel there channel_there ready not_yet nobody = record {
  part = part;
  there = there;
  channel = channel;
  channel_there = channel_there;
  outward = false;
  ready = ready;
  not_yet = not_yet;
  none_other = inl nobody;
}

-- each event is enabled after those before it
pub teleportation_run : IsRun factored teleportation_listing teleportation_events
teleportation_run = (
  on _ _ _ refl (moves _ _ _ _ _ _ _ refl refl refl refl, refl, (refl, refl)),
  (
    on _ _ _ refl (moves _ _ _ _ _ _ _ refl refl refl refl, refl, (refl, refl)),
    (
      on _ _ _ refl (moves _ _ _ _ _ _ _ refl refl refl refl, refl, (refl, refl)),
      (
        on _ _ _ refl (moves _ _ _ _ _ _ _ refl refl refl refl, refl, (refl, refl)),
        (
          on _ _ _ refl (moves _ _ _ _ _ _ _ refl refl refl refl, refl, (acts _ _ _ _ _ _ _ refl refl refl refl, lit≤ tt)),
          (
            on _ _ _ refl (moves _ _ _ _ _ _ _ refl refl refl refl, refl, (refl, refl)),
            (
              on _ _ _ refl (joins _ _ _ (λ e. cc) _ _ refl refl refl refl),
              (
                on _ _ _ refl (moves _ _ _ _ _ _ _ refl refl refl refl, refl, (acts _ _ _ _ _ _ _ refl refl refl refl, tt)),
                (
                  on _ _ _ refl (moves _ _ _ _ _ _ _ refl refl refl refl, refl, (refl, refl)),
                  (
                    on _ _ _ refl (parks _ _ _ _ _ refl refl refl refl refl),
                    (
                      on _ _ _ refl (joins _ _ _ (λ e. cc) _ _ refl refl refl refl),
                      (
                        on _ _ _ refl (moves _ _ _ _ _ _ _ refl refl refl refl, refl, (acts _ _ _ _ _ _ _ refl refl refl refl, tt)),
                        (
                          on _ _ _ refl (moves _ _ _ _ _ _ _ refl refl refl refl, refl, (refl, refl)),
                          (
                            on _ _ _ refl (moves _ _ _ _ _ _ _ refl refl refl refl, refl, (acts _ _ _ _ _ _ _ refl refl refl refl, lit≤ tt)),
                            (
                              on _ _ _ refl (moves _ _ _ _ _ _ _ refl refl refl refl, refl, (refl, refl)),
                              (
                                on _ _ _ refl (moves _ _ _ _ _ _ _ refl refl refl refl, refl, (acts _ _ _ _ _ _ _ refl refl refl refl, refl)),
                                (
                                  on _ _ _ refl (record { before = _; there = refl; some = λ e. cc; are_due = refl; rest_is = refl }),
                                  (
                                    on _ _ _ refl (
                                      record {
                                        sender = _;
                                        sender_there = refl;
                                        receiver = _;
                                        receiver_there = refl;
                                        channel = _;
                                        channel_there = refl;
                                        one_waits = refl;
                                        sending = _;
                                        sends = refl;
                                        process = _;
                                        receives = refl;
                                        makes = refl;
                                        ends = refl;
                                      },
                                      refl,
                                      refl,
                                      refl,
                                    ),
                                    (
                                      on _ _ _ refl (moves _ _ _ _ _ _ _ refl refl refl refl, refl, (refl, refl)),
                                      (
                                        on _ _ _ refl (moves _ _ _ _ _ _ _ refl refl refl refl, refl, (acts _ _ _ _ _ _ _ refl refl refl refl, tt)),
                                        (
                                          on _ _ _ refl (moves _ _ _ _ _ _ _ refl refl refl refl, refl, (refl, refl)),
                                          tt,
                                        ),
                                      ),
                                    ),
                                  ),
                                ),
                              ),
                            ),
                          ),
                        ),
                      ),
                    ),
                  ),
                ),
              ),
            ),
          ),
        ),
      ),
    ),
  ),
)
