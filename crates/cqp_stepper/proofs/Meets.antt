-- Two parts that are noted as ready on the two sides of a channel may meet.
use Rattle.std.proofs.Common.{◌≡◌, ℕ, Option, Some, None, refl, ap, sym, subst, ◌∙◌, IsSome, List}
use Rattle.std.specs.Option.{option_and_then, option_map}
use Rattle.cqp_syntax.specs.Listing.{Listing}
use Rattle.cqp_syntax.specs.Trees.{Process}
use Rattle.cqp_trace.specs.declared.deed.Deed.TheVariants as deed
use Rattle.cqp_trace.specs.declared.entry.Entry.{Entry}
use Rattle.cqp_cells.specs.Config.{Config, continued, part_at}
use Rattle.cqp_cells.specs.Moves.{Sending, receives_on, sends_on}
use Rattle.cqp_cells.specs.Step.{met, row_of}
use Rattle.cqp_machine.specs.Shown.{process_in}
use Rattle.cqp_meeting.specs.Laws.{FitLaw}
use Rattle.cqp_parts.specs.Parts.{process_of_part}
use Rattle.cqp_stepper.specs.declared.cells.Cells.{Cells}
use Rattle.cqp_stepper.specs.Here.{HereLaw}
use Rattle.cqp_stepper.specs.Kept.{IsAllSeen, IsKept}
use Rattle.cqp_stepper.specs.Steps.{MayMeet, StandsMeet}
use Rattle.cqp_stepper.proofs.Noted.{noted_part, noted_table}

-- what leads on was there
was_there : {X Y : Type 0} (f : X → Y) (o : Option X) → IsSome (option_map f o) → (x : X) × (o ≡ Some x)
was_there f None h = cc
was_there f (Some x) h = (x, refl)

-- a communication that fits is one of a sender
sender_there : (c : Config) (i j chan : ℕ) (o : Option Sending) (q : Process) → IsSome (met c i j chan o (Some q)) → (s : Sending) × (o ≡ Some s)
sender_there c i j chan None q h = cc
sender_there c i j chan (Some s) q h = (s, refl)

module _ (l : Listing) (here_law : HereLaw) (fit : FitLaw) (entries : List Entry) (s : Cells) (k : IsKept l entries s) (seen : IsAllSeen s) where
  -- so they may meet
  pub may_meet : (i j chan : ℕ) → StandsMeet s i j chan → MayMeet l s i j chan
  may_meet i j chan stands =
      let told = here_law l k.events k.settled.process k.checked k.settled.run in
      let c = told.0 in
      let table = noted_table l entries s k c told.1 seen in
      let fits = (fit _ c table i j chan).1 stands in
      let first = noted_part l entries s k seen i _ stands.0 in
      let second = noted_part l entries s k seen j _ stands.1 in
      let p = process_of_part l first.0 in
      let q = process_of_part l second.0 in
      let at_first : part_at i c.parts ≡ Some p = told.1.shows.stands.parts i ∙ ap (process_in l) (sym (k.parts i) ∙ first.1) in
      let at_second : part_at j c.parts ≡ Some q = told.1.shows.stands.parts j ∙ ap (process_in l) (sym (k.parts j) ∙ second.1) in
      let row : IsSome (met c i j chan (sends_on chan p) (part_at j c.parts)) =
      subst (λ o. IsSome (option_and_then (λ z. row_of c i z (deed.Com j chan)) o)) at_first fits in
      let meets : IsSome (met c i j chan (sends_on chan p) (Some q)) = subst (λ o. IsSome (met c i j chan (sends_on chan p) o)) at_second row in
      let sending = sender_there c i j chan (sends_on chan p) q meets in
      let becomes : IsSome (option_map (λ r. continued j r (continued i sending.0.rest c)) (receives_on chan sending.0.values q)) =
      subst (λ o. IsSome (met c i j chan o (Some q))) sending.1 meets in
      let received = was_there _ (receives_on chan sending.0.values q) becomes in
      record {
        sender = first.0;
        sender_there = first.1;
        receiver = second.0;
        receiver_there = second.1;
        sending = sending.0;
        sends = sending.1;
        process = received.0;
        receives = received.1;
      }
