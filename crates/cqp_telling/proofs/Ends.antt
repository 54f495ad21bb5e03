-- The parts that are left, the limit of the exponent and the weight, as a run tells them.
use Rattle.std.proofs.Common.{◌≡◌, ◌↔◌, ℕ, List, ◌+◌, ◌/◌, ◌≤◌, length, sym, ap, subst, arith, ◌∙◌}
use Rattle.cqp_ring.specs.declared.weight.Weight.{Weight}
use Rattle.cqp_ring.specs.declared.root.Root.{Root}
use Rattle.cqp_ring.specs.Root.{root_product}
use Rattle.cqp_ring.specs.Weight.{IsSameNumber, power_root}
use Rattle.cqp_ring.proofs.OrderProducts.{root_product_comm, root_product_assoc, cancelled}
use Rattle.cqp_syntax.specs.Trees.{Process}
use Rattle.cqp_syntax.specs.Listing.{root}
use Rattle.cqp_trace.specs.declared.entry.Entry.{Entry}
use Rattle.cqp_cells.specs.Config.{Config, start_of}
use Rattle.cqp_cells.specs.Lawful.{exponent_after}
use Rattle.cqp_cells.specs.Probability.{IsProbability, norms_before, norms_after}
use Rattle.cqp_cells.proofs.Options.{same_some}
use Rattle.cqp_machine.specs.Shown.{shown, front_of, cells_of}
use Rattle.cqp_machine.specs.Sums.{weight_of_groups}
use Rattle.cqp_factored.specs.GroupLaws.{LevelLaw}
use Rattle.cqp_factored.proofs.RunStands.{run_stands}
use Rattle.cqp_factored.proofs.ShownPaths.{well}
use Rattle.cqp_norms.proofs.Probability.{power_some}
use Rattle.cqp_telling.specs.Laws.{GroupLimitLaw, LeftLaw, LimitLaw, WeightLaw}
use Rattle.cqp_telling.specs.Told.{parts_there}
use Rattle.cqp_telling.proofs.PartCounts.{parts_counted}

-- as many parts are there as the last configuration has
pub left_law : LeftLaw
left_law l es last sound run shows =
    let leads = run_stands l sound es run in
    let same : leads.last ≡ last = same_some {x = leads.last} {y = last} (sym leads.leads ∙ shows.path.leads) in
    let counted = parts_counted l (front_of l es).parts (cells_of l es).parts (leads.last).parts (well l sound es leads).stands.half.parts in
    sym (subst (λ (d : Config). length d.parts ≡ parts_there (front_of l es) (cells_of l es)) same counted)

-- half of a level, rounded up, is 90 exactly from 179 on
half_full : (e level : ℕ) → e ≡ (level + 1) / 2 → level ≤ 180 → e ≡ 90 ↔ 179 ≤ level
half_full e level is within = (λ full. omega arith, λ full. omega arith)

-- so the exponent is at its limit exactly where the front's level is
pub limit_law : LevelLaw → LimitLaw
limit_law within l es last sound run shows = half_full _ (front_of l es).level shows.stands.exponent (within l es sound run)

-- and where the groups' levels are
pub group_limit_law : LevelLaw → GroupLimitLaw
group_limit_law within l es last sound run shows =
    subst (λ (n : ℕ). exponent_after (shown es) last ≡ 90 ↔ 179 ≤ n) shows.stands.level (limit_law within l es last sound run shows)

-- the first two factors exchanged
pub swapped : (a b c : Root) → root_product a (root_product b c) ≡ root_product b (root_product a c)
swapped a b c = sym (root_product_assoc a b c) ∙ (ap (λ t. root_product t c) (root_product_comm a b) ∙ root_product_assoc b a c)

-- the same number is the same probability
same_probability : (p : Process) (es : List Entry) (v w : Weight) → IsProbability p es v → IsSameNumber w v → IsProbability p es w
same_probability p es v w is same =
    let before = norms_before (start_of p) es in
    let later = norms_after (start_of p) es in
    cancelled (power_root v.below) (root_product w.top before) (root_product (power_root w.below) later) (power_some v.below) (
    sym (root_product_assoc (power_root v.below) w.top before)
    ∙ ap (λ t. root_product t before) same
    ∙ root_product_assoc (power_root w.below) v.top before
    ∙ ap (λ t. root_product (power_root w.below) t) is
    ∙ swapped (power_root w.below) (power_root v.below) later)

-- so it is for the groups' weight
pub weight_law : WeightLaw
weight_law l es last shows w same =
    same_probability (root l) _ (weight_of_groups (front_of l es).qubits (cells_of l es)) w shows.probability same
