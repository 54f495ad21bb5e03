-- A reduction is one of a row: what `next` gives, taken apart.
use Rattle.std.proofs.Common.{◌≡◌, ◌⊎◌, ℕ, List, length, Bool, true, false, refl, ap, ◌∙◌, sym, inl, inr}
use Rattle.std.specs.Prelude.{Some, None, Option, ◌==◌, ◌&&◌, if◌then◌else◌}
use Rattle.std.specs.Option.{option_and_then, option_map}
use Rattle.cqp_syntax.specs.declared.val.Val.{Val}
use Rattle.cqp_syntax.specs.declared.val.Val.TheVariants as val
use Rattle.cqp_syntax.specs.Substitution.{with_values}
use Rattle.cqp_syntax.specs.Trees.{valued, Expr, Binder, Process, input, output}
use Rattle.cqp_trace.specs.declared.deed.Deed.{Deed}
use Rattle.cqp_trace.specs.declared.deed.Deed.TheVariants as deed
use Rattle.cqp_trace.specs.declared.entry.Entry.{Entry}
use Rattle.cqp_cells.specs.Config.{Config, part_at, continued}
use Rattle.cqp_cells.specs.Moves.{moved, Sending, sends_with, sends_on, receives_on, provided}
use Rattle.cqp_cells.specs.Redex.{values_of}
use Rattle.cqp_cells.specs.Step.{next, row_of, own_row, met, with_deed, has_outcome, counts_of}
use Rattle.cqp_cells.specs.Rows.{Fits, alone_after, IsAlone, IsMeeting}
use Rattle.cqp_cells.proofs.MoveInversion.{moved_inv}
use Rattle.cqp_cells.proofs.RowTests.{provided_some}
use Rattle.cqp_syntax.proofs.Same.{same_number}
use Rattle.cqp_cells.proofs.Options.{none_is_some, both_true}

-- two things that are there are equal
some_same : {X : Type 0} {x y : X} → Some x ≡ Some y → y ≡ x
some_same e = cc

-- what is said of a part's row: it fits, and this is what comes of it
abbrev Row : Config → ℕ → Process → Deed → Config → Type 0
Row c i p d e = Fits c.state c.chans p d × (e ≡ alone_after c i p d)

-- or it is a communication
abbrev RowOrMet : Config → ℕ → Process → Deed → Config → Type 0
RowOrMet c i p d e = Row c i p d e ⊎ ((to chan : ℕ) × (d ≡ deed.Com to chan) × (met c i to chan (sends_on chan p) (part_at to c.parts) ≡ Some e))

-- a row of one part
own_inv : (c : Config) (i : ℕ) (p : Process) (d : Deed) (e : Config) → own_row c i p d ≡ Some e → Row c i p d e
own_inv c i p d e h = by_test (has_outcome c.state d) refl h
  where
    by_move : (o : Option Process) → has_outcome c.state d ≡ true → moved (counts_of c.state c.chans) p d ≡ o
        → option_map (λ r. continued i r (with_deed d c)) o ≡ Some e → Row c i p d e
    by_move None outcome at g = absurd (none_is_some g)
    by_move (Some r) outcome at g =
        let move = moved_inv c.state c.chans p d r outcome at in
        (move.0, some_same g ∙ ap (λ t. continued i t (with_deed d c)) move.1)

    by_test : (b : Bool) → has_outcome c.state d ≡ b
        → (if b then option_map (λ r. continued i r (with_deed d c)) (moved (counts_of c.state c.chans) p d) else None) ≡ Some e
        → Row c i p d e
    by_test true outcome g = by_move (moved (counts_of c.state c.chans) p d) outcome refl g
    by_test false outcome g = absurd (none_is_some g)

-- where a row leads on, it is one of these
row_inv : (c : Config) (i : ℕ) (p : Process) (d : Deed) (e : Config) → row_of c i p d ≡ Some e → RowOrMet c i p d e
row_inv c i p (deed.Com to chan) e h = inr (to, chan, refl, h)
row_inv c i p d e h = inl (own_inv c i p d e h)

-- the process is a ready output on the channel
record IsSender (chan : ℕ) (p : Process) (s : Sending) : Type 0 where
  exprs : List Expr
  is : p ≡ output (valued (val.Chan chan)) exprs s.rest
  are : values_of exprs ≡ Some s.values

-- the process is an input on the channel, of as many values
record IsReceiver (chan : ℕ) (vs : List Val) (q r : Process) : Type 0 where
  binders : List Binder
  rest : Process
  is : q ≡ input (valued (val.Chan chan)) binders rest
  count : length binders ≡ length vs
  becomes : r ≡ with_values binders vs rest

-- a ready output on the channel is what sends
sent_inv : (k chan : ℕ) (p : Process) (es : List Expr) (o : Option (List Val)) (s : Sending) → values_of es ≡ o
    → option_and_then (λ t. provided (k == chan) t) (sends_with p o) ≡ Some s → IsSender chan (output (valued (val.Chan k)) es p) s
sent_inv k chan p es None s at h = absurd (none_is_some h)
sent_inv k chan p es (Some vs) s at h =
    let both = provided_some (k == chan) _ s h in
    let same : k ≡ chan = same_number k chan both.0 in
    record {
      exprs = es;
      is = ap (λ n. output (valued (val.Chan n)) es p) same ∙ ap (λ (t : Sending). output (valued (val.Chan chan)) es t.rest) (sym both.1);
      are = at ∙ ap (λ (t : Sending). Some t.values) (sym both.1);
    }

-- a part that sends is a ready output on the channel
sender : (chan : ℕ) (p : Process) (s : Sending) → sends_on chan p ≡ Some s → IsSender chan p s
sender chan (output (valued (val.Chan k)) es p) s h = sent_inv k chan p es (values_of es) s refl h
sender chan p s h = absurd (none_is_some h)

-- a part that receives is an input on the channel with as many names
receiver : (chan : ℕ) (vs : List Val) (q r : Process) → receives_on chan vs q ≡ Some r → IsReceiver chan vs q r
receiver chan vs (input (valued (val.Chan l)) bs q) r h =
    let both = provided_some ((l == chan) && (length bs == length vs)) _ r h in
    let tests = both_true (l == chan) (length bs == length vs) both.0 in
    record {
      binders = bs;
      rest = q;
      is = ap (λ n. input (valued (val.Chan n)) bs q) (same_number l chan tests.0);
      count = same_number (length bs) (length vs) tests.1;
      becomes = both.1;
    }
receiver chan vs q r h = absurd (none_is_some h)

-- a communication is of a part that sends and one that receives
met_inv : (c : Config) (e : Entry) (d : Config) (to chan : ℕ) (p : Process) (o : Option Sending) (there : Option Process) → e.deed ≡ deed.Com to chan
    → part_at e.part c.parts ≡ Some p → sends_on chan p ≡ o → part_at to c.parts ≡ there → met c e.part to chan o there ≡ Some d → IsMeeting c e d
met_inv c e d to chan p (Some s) (Some q) is at sends there h = by_receiver (receives_on chan s.values q) refl h
  where
    by_receiver : (o : Option Process) → receives_on chan s.values q ≡ o → option_map (λ r. continued to r (continued e.part s.rest c)) o ≡ Some d
        → IsMeeting c e d
    by_receiver None have g = absurd (none_is_some g)
    by_receiver (Some r) have g =
        let from = sender chan p s sends in
        let into = receiver chan s.values q r have in
        record {
          to = to;
          chan = chan;
          deed_is = is;
          exprs = from.exprs;
          left = s.rest;
          sends = at ∙ ap Some from.is;
          binders = into.binders;
          right = into.rest;
          receives = there ∙ ap Some into.is;
          values = s.values;
          are_values = from.are;
          count = into.count;
          becomes = some_same g ∙ ap (λ t. continued to t (continued e.part s.rest c)) into.becomes;
        }
met_inv c e d to chan p o there is at sends where_ h = absurd (none_is_some h)

-- each reduction is one of a part alone, or a communication
pub inverted : (c : Config) (e : Entry) (d : Config) → next c e ≡ Some d → IsAlone c e d ⊎ IsMeeting c e d
inverted c e d h = at_part (part_at e.part c.parts) refl h
  where
    at_part : (o : Option Process) → part_at e.part c.parts ≡ o → option_and_then (λ p. row_of c e.part p e.deed) o ≡ Some d → IsAlone c e d ⊎ IsMeeting c e d
    at_part None at g = absurd (none_is_some g)
    at_part (Some p) at g = of_row (row_inv c e.part p e.deed d g)
      where
        of_row : RowOrMet c e.part p e.deed d → IsAlone c e d ⊎ IsMeeting c e d
        of_row (inl row) = inl (record { process = p; there = at; fits = row.0; becomes = row.1 })
        of_row (inr met_) = inr (met_inv c e d met_.0 met_.1 p (sends_on met_.1 p) (part_at met_.0 c.parts) met_.2 at refl refl met_.3)
