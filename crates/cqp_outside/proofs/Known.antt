-- Steps of a loop over bytes that may be known.
use Rattle.std.proofs.Common.{◌≡◌, ℕ, ◌+◌, ◌≤◌, List, ◌++◌, take, drop, length, sym, ap, ◌∙◌}
use Rattle.std.proofs.Common.{append_assoc, arith, length-append}
use Rattle.std.specs.Prelude.{Some, None, Option}
use Rattle.std.specs.Io.KnownBytes.{Appends, Consumes}
use Rattle.std.proofs.KnownBytes.{Consumes-trans}
use Rattle.std.proofs.Math.Seq.{take-add}
use Rattle.cqp_outside.specs.Taken.{TakesCount, TakesAtMost}

-- What was added up to i, and then n more of the rest, is what was added up to i + n.
pub appends_more : (a b c : Option (List ℕ)) (bs : List ℕ) (i n : ℕ)
    → Appends a b (take i bs) → Appends b c (take n (drop i bs)) → Appends a c (take (i + n) bs)
appends_more None b c bs i n old new = tt
appends_more (Some x) None c bs i n old new = absurd old
appends_more (Some x) (Some y) None bs i n old new = absurd new
appends_more (Some x) (Some y) (Some z) bs i n old new =
    new ∙ ap (λ t. t ++ take n (drop i bs)) old ∙ append_assoc x (take i bs) (take n (drop i bs)) ∙ ap (λ t. x ++ t) (sym (take-add i n bs))

-- Two pieces were taken, one after the other, which have as many bytes together.
pub takes_count : (a b c : Option (List ℕ)) (first second : List ℕ) (n : ℕ)
    → Consumes a b first → Consumes b c second → length first + length second ≡ n
    → TakesCount a c n
takes_count a b c first second n one two size = record {
  bytes = first ++ second;
  taken = Consumes-trans a b c first second one two;
  count = length-append first second ∙ size;
}

-- Two pieces were taken, one after the other, which have at most so many bytes together.
pub takes_at_most : (a b c : Option (List ℕ)) (first second : List ℕ) (n : ℕ)
    → Consumes a b first → Consumes b c second → length first + length second ≤ n
    → TakesAtMost a c n
takes_at_most a b c first second n one two size = record {
  bytes = first ++ second;
  taken = Consumes-trans a b c first second one two;
  within = omega (arith, length-append first second);
}
