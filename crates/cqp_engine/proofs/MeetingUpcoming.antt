-- Of a part that waits and meets another its communication with the least partner is upcoming.
use Rattle.std.proofs.Common.{◌≡◌, ◌⊎◌, ℕ, zero, suc, ◌≤◌, Bool, true, false, refl, sym, subst, inl, inr, ◌∙◌, arith}
use Rattle.std.specs.Prelude.{Some, None, Option, ◌&&◌, ◌||◌, ◌==◌, is_none, min, max}
use Rattle.cqp_syntax.specs.declared.val.Val.TheVariants as val
use Rattle.cqp_syntax.specs.Trees.{valued, Process, input, output}
use Rattle.cqp_trace.specs.declared.deed.Deed.TheVariants as deed
use Rattle.cqp_cells.specs.Config.{Config, part_at}
use Rattle.cqp_cells.specs.Examples.{by}
use Rattle.cqp_cells.specs.Path.{some_passes}
use Rattle.cqp_cells.specs.Redex.{next_redex_of}
use Rattle.cqp_cells.specs.Waiting.{CanGoOn, MeetEither, MeetsSome, is_waiting, meets_on}
use Rattle.cqp_cells.proofs.Options.{both_true, yes_is_no}
use Rattle.cqp_syntax.proofs.Same.{same_number}
use Rattle.cqp_engine.specs.declared.engine.Upcoming.{Upcoming}
use Rattle.cqp_engine.specs.declared.engine.Upcoming.TheVariants.{Entry}
use Rattle.cqp_engine.specs.Upcoming.{IsLeastPart, IsUpcoming}

-- the least number that passes
record IsLeastOf (f : ℕ → Bool) : Type 0 where
  number : ℕ
  passes : f number ≡ true
  least : (m : ℕ) → f m ≡ true → number ≤ m

-- where some number passes, a least one does
least_of : (f : ℕ → Bool) (n : ℕ) → f n ≡ true → IsLeastOf f
least_of f zero passes = record { number = 0; passes = passes; least = λ m g. omega arith }
least_of f (suc n) passes = by_zero (f 0) refl (least_of (λ k. f (suc k)) n passes)
  where
    above : (rest : IsLeastOf (λ k. f (suc k))) → f 0 ≡ false → (m : ℕ) → f m ≡ true → suc rest.number ≤ m
    above rest here zero g = absurd (yes_is_no (sym g ∙ here))
    above rest here (suc m) g = let low = rest.least m g in omega (arith, low)

    by_zero : (b : Bool) → f 0 ≡ b → IsLeastOf (λ k. f (suc k)) → IsLeastOf f
    by_zero true here rest = record { number = 0; passes = here; least = λ m g. omega arith }
    by_zero false here rest = record { number = suc rest.number; passes = rest.passes; least = above rest here }

-- the channel at which a part waits
abbrev chan_of : Process → ℕ
chan_of (output (valued (val.Chan k)) es p) = k
chan_of (input (valued (val.Chan k)) bs p) = k
chan_of p = 0

-- a part that sends meets another at its own channel
sends_at : (k : ℕ) (p q : Process) → meets_on k p q ≡ true → k ≡ chan_of p
sends_at k (output (valued (val.Chan m)) es p) (input (valued (val.Chan l)) bs q) h =
    let tests = both_true (is_none (next_redex_of es) && (m == k)) (l == k) h in
    sym (same_number m k (both_true (is_none (next_redex_of es)) (m == k) tests.0).1)
sends_at k p q h = absurd (yes_is_no (sym h))

-- a part that receives meets another at its own channel
receives_at : (k : ℕ) (q p : Process) → meets_on k q p ≡ true → k ≡ chan_of p
receives_at k (output (valued (val.Chan m)) es q) (input (valued (val.Chan l)) bs p) h =
    sym (same_number l k (both_true (is_none (next_redex_of es) && (m == k)) (l == k) h).1)
receives_at k q p h = absurd (yes_is_no (sym h))

-- either of both
meets_at : (k : ℕ) (p q : Process) → MeetEither k p q → k ≡ chan_of p
meets_at k p q (inl h) = sends_at k p q h
meets_at k p q (inr h) = receives_at k q p h

-- whether they meet, as a test
abbrev do_meet : Process → Process → Bool
do_meet p q = meets_on (chan_of p) p q || meets_on (chan_of p) q p

-- one of two tests passes
either : (a b : Bool) → (a || b) ≡ true → (a ≡ true) ⊎ (b ≡ true)
either true b h = inl refl
either false b h = inr h

-- where one of two tests passes, either does
one_of : (a b : Bool) → (a ≡ true) ⊎ (b ≡ true) → (a || b) ≡ true
one_of true b h = refl
one_of false b (inl h) = absurd (yes_is_no (sym h))
one_of false b (inr h) = h

-- parts that meet pass the test
do_meet_is : (k : ℕ) (p q : Process) → MeetEither k p q → do_meet p q ≡ true
do_meet_is k p q h =
    one_of (meets_on (chan_of p) p q) (meets_on (chan_of p) q p) (subst (λ n. MeetEither n p q) (meets_at k p q h) h)

-- whether the part at a number meets the process
abbrev meets_there : Config → Process → ℕ → Bool
meets_there c p j = some_passes (do_meet p) (part_at j c.parts)

-- a part that passes is there
some_there : (o : Option Process) (p : Process) → some_passes (do_meet p) o ≡ true → (q : Process) × (o ≡ Some q) × (do_meet p q ≡ true)
some_there None p h = absurd (yes_is_no (sym h))
some_there (Some q) p h = (q, refl, h)

-- a part that is there passes
there_passes : (o : Option Process) (p q : Process) → o ≡ Some q → do_meet p q ≡ true → some_passes (do_meet p) o ≡ true
there_passes o p q at h = subst (λ r. some_passes (do_meet p) r ≡ true) (sym at) h

-- two that meet meet either way
swapped : (k : ℕ) (p q : Process) → MeetEither k p q → MeetEither k q p
swapped k p q (inl h) = inr h
swapped k p q (inr h) = inl h

-- the lesser of two
min_is : (i j : ℕ) → i ≤ j → min i j ≡ i
min_is i j h = grind arith

-- the lesser of two, the other way round
min_other : (i j : ℕ) → i ≤ j → min j i ≡ i
min_other i j h = grind arith

-- the greater of two, the other way round
max_other : (i j : ℕ) → max j i ≡ max i j
max_other i j = grind arith

-- of a part that waits and meets another the communication with the least partner is upcoming
pub meeting_upcoming : (c : Config) (i : ℕ) (p : Process) → CanGoOn c → IsLeastPart c i → part_at i c.parts ≡ Some p → is_waiting p ≡ true → MeetsSome c p
    → (it : Upcoming) × IsUpcoming c i it
meeting_upcoming c i p goes is there waits some = by_least (least_of (meets_there c p) some.other
    (there_passes (part_at some.other c.parts) p some.process some.there (do_meet_is some.chan p some.process some.meets)))
  where
    first : (least : IsLeastOf (meets_there c p)) (n k : ℕ) (q : Process) → part_at n c.parts ≡ Some q → MeetEither k p q → least.number ≤ n
    first least n k q at meets = least.least n (there_passes (part_at n c.parts) p q at (do_meet_is k p q meets))

    above : (j : ℕ) (q : Process) → part_at j c.parts ≡ Some q → MeetEither (chan_of p) p q → i ≤ j
    above j q at meets = is.least j (record {
      process = q;
      there = at;
      goes = inr (record { other = i; process = p; there = there; chan = chan_of p; meets = swapped (chan_of p) p q meets });
    })

    of_side : (least : IsLeastOf (meets_there c p)) (q : Process) → part_at least.number c.parts ≡ Some q → i ≤ least.number
        → MeetEither (chan_of p) p q → (it : Upcoming) × IsUpcoming c i it
    of_side least q at low (inl sends) = (
      Entry (by i (deed.Com least.number (chan_of p))),
      (
        refl,
        inr (record {
          process = p;
          there = there;
          waits = waits;
          fits = goes.meeting i least.number (chan_of p) p q there at sends;
          partner = least.number;
          between = record { least = min_is i least.number low; greatest = refl };
          first = first least;
        }),
      ),
    )
    of_side least q at low (inr receives) = (
      Entry (by least.number (deed.Com i (chan_of p))),
      (
        refl,
        inr (record {
          process = p;
          there = there;
          waits = waits;
          fits = goes.meeting least.number i (chan_of p) q p at there receives;
          partner = least.number;
          between = record { least = min_other i least.number low; greatest = max_other i least.number };
          first = first least;
        }),
      ),
    )

    by_least : IsLeastOf (meets_there c p) → (it : Upcoming) × IsUpcoming c i it
    by_least least =
        let have = some_there (part_at least.number c.parts) p least.passes in
        let meets : MeetEither (chan_of p) p have.0 = either (meets_on (chan_of p) p have.0) (meets_on (chan_of p) have.0 p) have.2 in
        of_side least have.0 have.1 (above least.number have.0 have.1 meets) meets
