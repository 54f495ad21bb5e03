-- What a stand says of the process that has it.
use Rattle.std.proofs.Common.{◌≡◌, ℕ, List, Bool, true, false, not, ◌==◌, ◌&&◌, refl, sym, ap, ◌∙◌, arith}
use Rattle.std.specs.Prelude.{Some, None, Option, is_none}
use Rattle.std.specs.Option.{option_map}
use Rattle.std.proofs.lemmas.Bool.Decides.{nat_tests}
use Rattle.cqp_syntax.specs.declared.val.Val.TheVariants as val
use Rattle.cqp_syntax.specs.Trees.{valued, Slot, Expr, Binder, Process, nil, par, new, qbit, act, input, output, branch}
use Rattle.cqp_syntax.proofs.Same.{same_number}
use Rattle.cqp_cells.specs.Operands.{is_channel, is_wrong, has_no_channel, asked}
use Rattle.cqp_cells.specs.Redex.{Redex, next_redex_of}
use Rattle.cqp_cells.specs.Waiting.{is_waiting, meets_on}
use Rattle.cqp_cells.proofs.Options.{none_is_some, yes_is_no, both_true}
use Rattle.cqp_order.specs.declared.stand.Stand.{Stand}
use Rattle.cqp_order.specs.declared.stand.Stand.TheVariants.{Alone, Sends, Receives}
use Rattle.cqp_meeting.specs.Tables.{output_stand, stand_in}
use Rattle.cqp_meeting.proofs.Right.{channel_right}

-- a ready output on the channel
pub record IsSender (k : ℕ) (p : Process) : Type 0 where
  pub exprs : List Expr
  pub rest : Process
  pub is : p ≡ output (valued (val.Chan k)) exprs rest
  pub ready : next_redex_of exprs ≡ None

-- an input on the channel
pub record IsReceiver (k : ℕ) (p : Process) : Type 0 where
  pub binders : List Binder
  pub rest : Process
  pub is : p ≡ input (valued (val.Chan k)) binders rest

-- a part that is there with a stand
pub stand_there : (o : Option Process) (s : Stand) → option_map stand_in o ≡ Some s → (p : Process) × (o ≡ Some p) × (stand_in p ≡ s)
stand_there None s h = absurd (none_is_some h)
stand_there (Some p) s h = (p, refl, cc h)

-- stands differ
no_receiver : {k : ℕ} → Receives k ≡ Alone → ⊥
no_receiver e = cc

no_sender : {k : ℕ} → Sends k ≡ Alone → ⊥
no_sender e = cc

-- an output that stands alone has a redex
output_goes : (k : ℕ) (b : Bool) → output_stand k b ≡ Alone → b ≡ false
output_goes k true h = absurd (no_sender h)
output_goes k false h = refl

-- an output with no channel has one too
other_goes : (c : Slot) (o : Option Redex) → is_channel c ≡ false → asked o (λ r. false) (not (is_channel c)) ≡ false → is_none o ≡ false
other_goes c (Some r) none h = refl
other_goes c None none h = absurd (yes_is_no (sym (ap not none) ∙ h))

-- a part that stands alone with right operands doesn't wait
alone_channel : (p : Process) → has_no_channel p ≡ false → stand_in p ≡ Alone → is_waiting p ≡ false
alone_channel nil w h = refl
alone_channel (par p q) w h = refl
alone_channel (new b p) w h = refl
alone_channel (qbit x p) w h = refl
alone_channel (act e p) w h = refl
alone_channel (branch e f p q) w h = refl
alone_channel (input (valued (val.Chan k)) bs p) w h = absurd (no_receiver h)
alone_channel (input c bs p) w h = absurd (yes_is_no w)
alone_channel (output (valued (val.Chan k)) es p) w h = output_goes k (is_none (next_redex_of es)) h
alone_channel (output c es p) w h = other_goes c (next_redex_of es) refl w

pub alone_goes : (n : ℕ) (p : Process) → is_wrong n p ≡ false → stand_in p ≡ Alone → is_waiting p ≡ false
alone_goes n p w h = alone_channel p (channel_right n p w) h

-- a part that doesn't wait stands alone
pub goes_alone : (p : Process) → is_waiting p ≡ false → stand_in p ≡ Alone
goes_alone (input c bs p) h = absurd (yes_is_no h)
goes_alone (output (valued (val.Chan k)) es p) h = ap (output_stand k) h
goes_alone p h = refl

-- a part that stands as a sender is one
sender_is : (k m : ℕ) (es : List Expr) (p : Process) (o : Option Redex) → next_redex_of es ≡ o → output_stand m (is_none o) ≡ Sends k
    → IsSender k (output (valued (val.Chan m)) es p)
sender_is k m es p (Some r) at h = absurd (cc h)
sender_is k m es p None at h =
    let same : m ≡ k = cc h in
    record { exprs = es; rest = p; is = ap (λ n. output (valued (val.Chan n)) es p) same; ready = at }

pub sends_is : (k : ℕ) (p : Process) → stand_in p ≡ Sends k → IsSender k p
sends_is k (output (valued (val.Chan m)) es p) h = sender_is k m es p (next_redex_of es) refl h
sends_is k (input (valued (val.Chan m)) bs p) h = absurd (cc h)
sends_is k p h = absurd (cc h)

-- and a part that stands as a receiver
pub receives_is : (k : ℕ) (p : Process) → stand_in p ≡ Receives k → IsReceiver k p
receives_is k (input (valued (val.Chan m)) bs p) h =
    let same : m ≡ k = cc h in
    record { binders = bs; rest = p; is = ap (λ n. input (valued (val.Chan n)) bs p) same }
receives_is k (output (valued (val.Chan m)) es p) h = by_ready (is_none (next_redex_of es)) h
  where
    by_ready : (b : Bool) → output_stand m b ≡ Receives k → IsReceiver k (output (valued (val.Chan m)) es p)
    by_ready true g = absurd (cc g)
    by_ready false g = absurd (cc g)
receives_is k p h = absurd (cc h)

-- a sender stands so, and a receiver
pub sender_stands : {k : ℕ} {p : Process} → IsSender k p → stand_in p ≡ Sends k
sender_stands {k} s = ap stand_in s.is ∙ ap (λ o. output_stand k (is_none o)) s.ready

pub receiver_stands : {k : ℕ} {p : Process} → IsReceiver k p → stand_in p ≡ Receives k
receiver_stands r = ap stand_in r.is

-- a sender and a receiver on one channel meet
pub both_meet : {k : ℕ} {p q : Process} → IsSender k p → IsReceiver k q → meets_on k p q ≡ true
both_meet {k} {p} {q} s r =
    let same : (k == k) ≡ true = grind (arith, nat_tests) in
    ap (λ x. meets_on k x q) s.is ∙ ap (λ x. meets_on k (output (valued (val.Chan k)) s.exprs s.rest) x) r.is
    ∙ ap (λ o. is_none o && (k == k) && (k == k)) s.ready ∙ ap (λ b. true && b && b) same

-- nothing is there
none_of : {X : Type 0} (o : Option X) → is_none o ≡ true → o ≡ None
none_of None h = refl
none_of (Some x) h = absurd (yes_is_no (sym h))

-- those that meet are a sender and a receiver
pub meet_both : (n : ℕ) (p q : Process) → meets_on n p q ≡ true → IsSender n p × IsReceiver n q
meet_both n (output (valued (val.Chan k)) es p) (input (valued (val.Chan l)) bs q) h =
    let tests = both_true (is_none (next_redex_of es) && (k == n)) (l == n) h in
    let first = both_true (is_none (next_redex_of es)) (k == n) tests.0 in (
      record {
        exprs = es;
        rest = p;
        is = ap (λ j. output (valued (val.Chan j)) es p) (same_number k n first.1);
        ready = none_of (next_redex_of es) first.0;
      },
      record { binders = bs; rest = q; is = ap (λ j. input (valued (val.Chan j)) bs q) (same_number l n tests.1) },
    )
meet_both n p q h = absurd (yes_is_no (sym h))
