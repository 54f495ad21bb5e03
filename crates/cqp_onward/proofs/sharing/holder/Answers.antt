use Rattle.std.proofs.Common.{rules, ◌≡◌, ◌+◌, ◌-◌, ◌≤◌, ℕ, true, false, nat_le, List, length, take, drop, length-drop, sym, subst, arith}
use Rattle.std.specs.List.Sorted.{IsPartitionedBy, IsPartitionPoint}
use Rattle.std.proofs.lemmas.List.Sorted.{IsPartitionPoint-from_clause}
use Rattle.cqp_syntax.specs.Listing.{Listing}
use Rattle.cqp_parts.proofs.Lists.{take_all}
use Rattle.cqp_onward.specs.Sharing.{StandApart}
use Rattle.cqp_onward.proofs.Shares.{high_at, low_at, places_parted}
use Rattle.cqp_onward.proofs.sharing.holder.Goals as goal

-- as many are taken as are left
all_left : (i : ℕ) (ns : List ℕ) → take (length ns - i) (drop i ns) ≡ drop i ns
all_left i ns = take_all (drop i ns) (length ns - i) (omega (arith, length-drop i ns))

-- the numbers behind place i are parted
point : (c : goal.After-partition_point) (l : Listing) (a z : ℕ) → StandApart l a z c.args.numbers.now
    → IsPartitionPoint (λ m. nat_le m c.args.user ≡ true) (λ m. nat_le m c.args.user ≡ false) (drop (c.args.i + 1) c.args.numbers.now) c.partition_point.result
point c l a z apart =
    let ns = c.args.numbers.now in
    let i = c.args.i in
    let user = c.args.user in
    let later = take (length ns - (i + 1)) (drop (i + 1) ns) in
    let same : later ≡ drop (i + 1) ns = all_left (i + 1) ns in
    subst (λ xs. IsPartitionPoint (λ m. nat_le m user ≡ true) (λ m. nat_le m user ≡ false) xs c.partition_point.result) same
    (IsPartitionPoint-from_clause (λ (m : ℕ). nat_le m user) later c.partition_point.result c.partition_point.ensures.partitioned
    (subst (λ xs. IsPartitionedBy (λ m. nat_le m user) xs) (sym same) (places_parted l a z ns (i + 1) user apart)) (λ x r f k. search rules))

pub returns-clause-low : goal.returns-clause-low
returns-clause-low c l a z apart first =
    let bound = subst (λ xs. c.partition_point.result ≤ length xs) (all_left (c.args.i + 1) c.args.numbers.now) c.partition_point.ensures.bound in
    low_at c.args.numbers.now c.args.i c.partition_point.result c.args.user first bound
    (λ j h w. (point c l a z apart).0 j 0 (omega arith) h)

pub returns-clause-last : goal.returns-clause-last
returns-clause-last c l a z j apart h w =
    high_at c.args.numbers.now c.args.i c.partition_point.result c.args.user j h w (λ m k v. (point c l a z apart).1 m 0 k v)
