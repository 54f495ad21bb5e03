-- The trace of teleportation with the outcome 3: what picks it, and its plain order.
use Rattle.std.proofs.Common.{◌≡◌, ℕ, zero, suc, ◌≤◌, ◌%◌, List, [], ◌∷◌, ◌++◌, true, refl, sym, ap, ◌∙◌, arith, inl, inr, lit<, lit≤}
use Rattle.std.specs.Prelude.{Some, nat_abs, slice_get, slice_index}
use Rattle.std.proofs.lemmas.Int.{ints}
use Rattle.std.proofs.lemmas.List.Elements.{All-from_recursion}
use Rattle.cqp_syntax.specs.declared.val.Val.TheVariants as val
use Rattle.cqp_syntax.specs.Trees.{valued, Process, nil, output, value}
use Rattle.cqp_ring.specs.declared.root.Root.{Root}
use Rattle.cqp_ring.specs.Root.{IsProportional, one_root, root_at, zero_root}
use Rattle.cqp_ring.proofs.OrderProducts.{root_product_comm}
use Rattle.cqp_choose.specs.Odds.{IsLawfulOdd, IsLawful}
use Rattle.cqp_trace.specs.declared.entry.Entry.{Entry}
use Rattle.cqp_cells.specs.Config.{Config, part_at, start_of}
use Rattle.cqp_cells.specs.Examples.{one_over}
use Rattle.cqp_cells.specs.Lawful.{IsLawful as IsLawfulTrace}
use Rattle.cqp_cells.specs.Order.{IsPlainFrom, IsPlainNext}
use Rattle.cqp_cells.specs.Repeated.{last_of}
use Rattle.cqp_cells.specs.Step.{next}
use Rattle.cqp_cells.specs.Teleportation.{teleportation, teleportation_entries, teleported, to_the_measurement, measures, tells, mends}
use Rattle.cqp_cells.specs.Waiting.{MeetEither, meets_on}
use Rattle.cqp_cells.proofs.Options.{none_is_some, same_some, yes_is_no}
use Rattle.cqp_paths.specs.Examples.{teleportation_trace}
use Rattle.cqp_paths.specs.Follows.{Follows, FollowsFrom, IsPicked}
use Rattle.cqp_paths.specs.Script.{script_answers}
use Rattle.cqp_paths.proofs.Following.{follows_then, follows_rest, of_some, plain_then, unmeasured_follow}
use Rattle.cqp_paths.proofs.InTurn.{are_in_turn, in_turn}
use Rattle.cqp_paths.proofs.Plain.{plain_meeting}
use Rattle.cqp_paths.proofs.Runs.{ended_lawful}

-- the trace of teleportation is lawful
pub teleportation_lawful : IsLawfulTrace teleportation teleportation_trace
teleportation_lawful = ended_lawful teleportation teleportation_entries teleported (one_over 2) refl refl refl (inr (inl refl)) refl

-- before the measurement
abbrev measuring : Config
measuring = last_of teleportation to_the_measurement

-- the entries from the measurement on
abbrev measured_entries : List Entry
measured_entries = measures 3 ∷ tells ∷ mends

-- 1 is a lawful odd
one_lawful : IsLawfulOdd one_root
one_lawful = record {
  above = inl (omega (arith, ints), omega (arith, ints));
  turned_above = inl (omega (arith, ints), omega (arith, ints));
  other = λ e. differ e;
}
  where
    differ : one_root ≡ zero_root → ⊥
    differ e = let same : nat_abs one_root.p ≡ nat_abs zero_root.p = ap (λ (r : Root). nat_abs r.p) e in omega (arith, same)

-- the norms of the four outcomes
abbrev four_ones : List Root
four_ones = one_root ∷ one_root ∷ one_root ∷ one_root ∷ []

-- four ones are lawful odds
four_lawful : IsLawful four_ones
four_lawful = record {
  fair = record {
    some = lit< tt;
    each = All-from_recursion IsLawfulOdd four_ones (one_lawful, (one_lawful, (one_lawful, (one_lawful, tt))));
  };
  few = lit≤ tt;
  total = omega (arith, ints);
}

-- norms are proportional to themselves
proportional_self : (xs : List Root) → IsProportional xs xs
proportional_self xs = record { same_length = refl; crossed = λ i j low high. root_product_comm (root_at xs i) (root_at xs j) }

-- a script whose first number is 3 modulo 4 picks the outcome 3
three_picked : (script : List ℕ) → slice_index script 0 % 4 ≡ 3 → IsPicked (script_answers script) 0 measuring.state (0 ∷ 1 ∷ []) 3
three_picked script is = record {
  odds = four_ones;
  lawful = four_lawful;
  proportional = proportional_self four_ones;
  index = 3;
  answered = sym is;
  stands = refl;
}

-- the trace of teleportation follows a script whose first number is 3 modulo 4
pub teleportation_follows : (script : List ℕ) → slice_index script 0 % 4 ≡ 3 → Follows (script_answers script) teleportation teleportation_entries
teleportation_follows script is =
    follows_then (script_answers script) 0 (start_of teleportation) measuring to_the_measurement measured_entries
    (unmeasured_follow (script_answers script) 0 (start_of teleportation) to_the_measurement refl) refl (
      three_picked script is,
      of_some (next measuring (measures 3)) (λ d. FollowsFrom (script_answers script) 1 d (tells ∷ mends))
          (λ d h. unmeasured_follow (script_answers script) 1 d (tells ∷ mends) refl),
    )

-- of the four outcomes the one that is 3 stands at 3
stands_at_three : (i : ℕ) → slice_get {X = ℕ} (0 ∷ 1 ∷ 2 ∷ 3 ∷ []) i ≡ Some 3 → i ≡ 3
stands_at_three zero h = absurd (cc h)
stands_at_three (suc zero) h = absurd (cc h)
stands_at_three (suc (suc zero)) h = absurd (cc h)
stands_at_three (suc (suc (suc zero))) h = refl
stands_at_three (suc (suc (suc (suc i)))) h = absurd (none_is_some h)

-- a script that picks the outcome 3 has a first number that is 3 modulo 4
picked_three : (script : List ℕ) → IsPicked (script_answers script) 0 measuring.state (0 ∷ 1 ∷ []) 3 → slice_index script 0 % 4 ≡ 3
picked_three script picked =
    ap (λ n. slice_index script 0 % n) (sym picked.proportional.same_length) ∙ sym picked.answered ∙ stands_at_three picked.index picked.stands

-- a script that the trace of teleportation follows has a first number that is 3 modulo 4
pub followed_first : (script : List ℕ) → Follows (script_answers script) teleportation teleportation_entries → slice_index script 0 % 4 ≡ 3
followed_first script follows = picked_three script
    (follows_rest (script_answers script) 0 (start_of teleportation) measuring to_the_measurement measured_entries follows refl).0

-- before the communication
abbrev telling : Config
telling = last_of teleportation (to_the_measurement ++ measures 3 ∷ [])

-- `c![3].0`, which part 0 is then
abbrev sends_three : Process
sends_three = output (valued (val.Chan 0)) (value (val.Num 3) ∷ []) nil

-- the communication of teleportation is the next in plain order
tells_next : IsPlainNext telling tells
tells_next = plain_meeting telling 0 1 sends_three tells refl refl refl refl refl (λ n active. omega arith) partner
  where
    self : (q : Process) → part_at 0 telling.parts ≡ Some q → sends_three ≡ q
    self q at = same_some at

    partner : (n k : ℕ) (q : Process) → part_at n telling.parts ≡ Some q → MeetEither k sends_three q → 1 ≤ n
    partner zero k q at (inl meets) = absurd (yes_is_no (sym meets ∙ ap (λ r. meets_on k sends_three r) (sym (self q at))))
    partner zero k q at (inr meets) = absurd (yes_is_no (sym meets ∙ ap (λ r. meets_on k r sends_three) (sym (self q at))))
    partner (suc n) k q at meets = omega arith

-- the entries of teleportation are in plain order
pub teleportation_plain : IsPlainFrom (start_of teleportation) teleportation_entries
teleportation_plain = plain_then (start_of teleportation) telling (to_the_measurement ++ measures 3 ∷ []) (tells ∷ mends)
    (in_turn (start_of teleportation) (to_the_measurement ++ measures 3 ∷ []) refl) refl
    (tells_next, of_some (next telling tells) (λ d. IsPlainFrom d mends) (λ d h. in_turn d mends (mended d h)))
  where
    mended : (d : Config) → next telling tells ≡ Some d → are_in_turn d mends ≡ true
    mended d h = ap (λ (b : Config). are_in_turn b mends) (sym (same_some h))
