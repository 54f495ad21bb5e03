-- Entries of one part each, while no part has a lesser number, are in plain order.
use Rattle.std.proofs.Common.{◌≡◌, ℕ, ◌≤◌, List, [], ◌∷◌, Bool, true, false, ◌&&◌, ◌==◌, refl, ap, arith}
use Rattle.std.specs.Prelude.{Some, None, Option, IsSome, is_some, nat_le, if◌then◌else◌}
use Rattle.std.specs.List.{list_all}
use Rattle.std.proofs.lemmas.Bool.Decides.{nat_tests}
use Rattle.cqp_syntax.specs.Trees.{Process}
use Rattle.cqp_trace.specs.declared.entry.Entry.{Entry}
use Rattle.cqp_cells.specs.Config.{Config, Part, part_at}
use Rattle.cqp_cells.specs.Order.{least_part, greatest_part, IsPlainNext, OfSome, IsPlainFrom}
use Rattle.cqp_cells.specs.Path.{some_passes}
use Rattle.cqp_cells.specs.Step.{next}
use Rattle.cqp_cells.proofs.Options.{none_is_some, yes_is_no, both_true}
use Rattle.cqp_paths.proofs.Plain.{least_greatest, least_is_active, some_of}

-- no part has a lesser number
abbrev pub is_least : ℕ → List Part → Bool
is_least n parts = list_all (λ part. nat_le n part.number) parts

-- the entry is of one part, and no part has a lesser number
abbrev pub is_in_turn : Config → Entry → Bool
is_in_turn c e = (greatest_part e == least_part e) && is_least (least_part e) c.parts

-- the entries fit one after another from c on, each in turn
abbrev pub are_in_turn : Config → List Entry → Bool
are_in_turn c [] = true
are_in_turn c (e ∷ es) = is_in_turn c e && some_passes (λ d. are_in_turn d es) (next c e)

-- a part that is there has no lesser number than no part has
not_less : (n : ℕ) (parts : List Part) (i : ℕ) (p : Process) → is_least n parts ≡ true → part_at i parts ≡ Some p → n ≤ i
not_less n [] i p least at = absurd (none_is_some at)
not_less n (part ∷ parts) i p least at = by_test (part.number == i) refl at (λ g. not_less n parts i p tests.1 g)
  where
    tests : (nat_le n part.number ≡ true) × (is_least n parts ≡ true)
    tests = both_true (nat_le n part.number) (is_least n parts) least

    by_test : (b : Bool) → (part.number == i) ≡ b → (if b then Some part.process else part_at i parts) ≡ Some p → (part_at i parts ≡ Some p → n ≤ i) → n ≤ i
    by_test true test g more =
        let here : nat_le n part.number ≡ true = tests.0 in
        let low : n ≤ part.number = grind (arith, nat_tests) in
        let same : part.number ≡ i = grind (arith, nat_tests) in
        omega arith
    by_test false test g more = more g

-- an entry in turn that fits is the next in plain order
pub in_turn_next : (c : Config) (e : Entry) (d : Config) → is_in_turn c e ≡ true → next c e ≡ Some d → IsPlainNext c e
in_turn_next c e d turn is = record {
  fits = fits;
  active = record { entry = e; fits = fits; takes_part = refl; least = low };
  partner = λ other g same. omega (arith, alone, low other g, least_greatest other.part other.deed);
}
  where
    tests : ((greatest_part e == least_part e) ≡ true) × (is_least (least_part e) c.parts ≡ true)
    tests = both_true (greatest_part e == least_part e) (is_least (least_part e) c.parts) turn

    fits : IsSome (next c e)
    fits = ap is_some is

    alone : greatest_part e ≡ least_part e
    alone = let test : (greatest_part e == least_part e) ≡ true = tests.0 in grind (arith, nat_tests)

    low : (other : Entry) → IsSome (next c other) → least_part e ≤ least_part other
    low other g =
        let (b, there) = some_of (next c other) g in
        let active = least_is_active c other b there in
        not_less (least_part e) c.parts (least_part other) active.process tests.1 active.there

-- entries in turn are in plain order
pub in_turn : (c : Config) (es : List Entry) → are_in_turn c es ≡ true → IsPlainFrom c es
in_turn c [] h = tt
in_turn c (e ∷ es) h =
    let tests = both_true (is_in_turn c e) (some_passes (λ d. are_in_turn d es) (next c e)) h in
    by_next (next c e) refl tests.0 tests.1 (λ d g. in_turn d es g)
  where
    by_next : (o : Option Config) → next c e ≡ o → is_in_turn c e ≡ true → some_passes (λ d. are_in_turn d es) o ≡ true
        → ((d : Config) → are_in_turn d es ≡ true → IsPlainFrom d es) → IsPlainNext c e × OfSome o (λ d. IsPlainFrom d es)
    by_next None at turn rest more = absurd (yes_is_no (no_rest rest))
      where
        no_rest : false ≡ true → true ≡ false
        no_rest f = cc
    by_next (Some d) at turn rest more = (in_turn_next c e d turn at, more d rest)
