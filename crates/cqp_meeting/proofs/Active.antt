-- Who is active by a table, and who meets whom by it.
use Rattle.std.proofs.Common.{◌≡◌, ◌⊎◌, ℕ, false, sym, ap, ◌∙◌, inl, inr}
use Rattle.std.specs.Prelude.{Some, Option}
use Rattle.std.specs.Option.{option_map}
use Rattle.cqp_syntax.specs.Trees.{Process}
use Rattle.cqp_cells.specs.Config.{Config, part_at}
use Rattle.cqp_cells.specs.Waiting.{IsActive, MeetEither, MeetsSome, is_waiting}
use Rattle.cqp_order.specs.declared.stand.Stand.{Stand}
use Rattle.cqp_order.specs.declared.stand.Stand.TheVariants.{Alone, Sends, Receives}
use Rattle.cqp_order.specs.Stands.{Meets, MeetsOn, IsActive as IsActiveBy}
use Rattle.cqp_meeting.specs.Laws.{AloneLaw, ActiveLaw}
use Rattle.cqp_meeting.specs.Tables.{IsTable, stand_in}
use Rattle.cqp_meeting.proofs.Right.{part_right}
use Rattle.cqp_meeting.proofs.Told.{stand_there, alone_goes, goes_alone, sends_is, receives_is, sender_stands, receiver_stands}
use Rattle.cqp_meeting.proofs.Told.{both_meet, meet_both}

-- a part that is there has the stand of its process
pub stands_so : {at : ℕ → Option Stand} {c : Config} → IsTable at c → (i : ℕ) (p : Process) (s : Stand) → part_at i c.parts ≡ Some p → stand_in p ≡ s
    → at i ≡ Some s
stands_so t i p s there is = t.stands i ∙ ap (option_map stand_in) there ∙ ap Some is

-- a stand is that of a part that is there
pub there_so : {at : ℕ → Option Stand} {c : Config} → IsTable at c → (i : ℕ) (s : Stand) → at i ≡ Some s
    → (p : Process) × (part_at i c.parts ≡ Some p) × (stand_in p ≡ s)
there_so {at} {c} t i s h = stand_there (part_at i c.parts) s (sym (t.stands i) ∙ h)

-- a part stands alone exactly where it doesn't wait
pub alone_law : AloneLaw
alone_law at c t i p there = (stands, λ h. stands_so t i p Alone there (goes_alone p h))
  where
    stands : at i ≡ Some Alone → is_waiting p ≡ false
    stands h =
        let same : stand_in p ≡ Alone = cc (sym (ap (option_map stand_in) there) ∙ sym (t.stands i) ∙ h) in
        alone_goes c.state.qubits p (part_right c t.operands i p there) same

-- two parts that meet by the table
record IsPair (c : Config) (i j k : ℕ) : Type 0 where
  pub process : Process
  pub there : part_at i c.parts ≡ Some process
  pub other : Process
  pub too : part_at j c.parts ≡ Some other
  pub meets : MeetEither k process other

-- those that wait on the two sides of a channel meet
pair_of : {at : ℕ → Option Stand} {c : Config} → IsTable at c → (i j k : ℕ) → MeetsOn at k i j → IsPair c i j k
pair_of t i j k (inl (sends, receives)) =
    let (p, there, is) = there_so t i (Sends k) sends in
    let (q, too, so) = there_so t j (Receives k) receives in
    record { process = p; there = there; other = q; too = too; meets = inl (both_meet (sends_is k p is) (receives_is k q so)) }
pair_of t i j k (inr (receives, sends)) =
    let (p, there, is) = there_so t i (Receives k) receives in
    let (q, too, so) = there_so t j (Sends k) sends in
    record { process = p; there = there; other = q; too = too; meets = inr (both_meet (sends_is k q so) (receives_is k p is)) }

-- those that meet wait on the two sides of the channel
pub meets_by : {at : ℕ → Option Stand} {c : Config} → IsTable at c → (i j k : ℕ) (p q : Process) → part_at i c.parts ≡ Some p → part_at j c.parts ≡ Some q
    → MeetEither k p q
    → Meets at i j
meets_by t i j k p q there too (inl h) =
    let (sender, receiver) = meet_both k p q h in
    (k, inl (stands_so t i p (Sends k) there (sender_stands sender), stands_so t j q (Receives k) too (receiver_stands receiver)))
meets_by t i j k p q there too (inr h) =
    let (sender, receiver) = meet_both k q p h in
    (k, inr (stands_so t i p (Receives k) there (receiver_stands receiver), stands_so t j q (Sends k) too (sender_stands sender)))

-- active by the table, so in the configuration
active_there : {at : ℕ → Option Stand} {c : Config} → IsTable at c → (i : ℕ) → IsActiveBy at i → IsActive c i
active_there {at} {c} t i (inl alone) =
    let (p, there, is) = there_so t i Alone alone in
    record { process = p; there = there; goes = inl (alone_goes c.state.qubits p (part_right c t.operands i p there) is) }
active_there t i (inr (j, meets)) =
    let pair = pair_of t i j meets.0 meets.1 in
    record {
      process = pair.process;
      there = pair.there;
      goes = inr (record { other = j; process = pair.other; there = pair.too; chan = meets.0; meets = pair.meets });
    }

-- and the other way
active_here : {at : ℕ → Option Stand} {c : Config} → IsTable at c → (i : ℕ) → IsActive c i → IsActiveBy at i
active_here {at} {c} t i active = by_kind active.goes
  where
    by_kind : (is_waiting active.process ≡ false) ⊎ MeetsSome c active.process → IsActiveBy at i
    by_kind (inl h) = inl (stands_so t i active.process Alone active.there (goes_alone active.process h))
    by_kind (inr some) = inr (some.other, meets_by t i some.other some.chan active.process some.process active.there some.there some.meets)

-- a part is active by its table exactly where it takes part in some reduction
pub active_law : ActiveLaw
active_law at c t i = (active_there t i, active_here t i)
