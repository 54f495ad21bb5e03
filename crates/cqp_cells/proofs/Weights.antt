-- The weight of a path is its last norm over 2 to the number of H, and there is one in least form.
use Rattle.std.proofs.Common.{◌≡◌, List, refl, sym, ap, ◌∙◌}
use Rattle.std.specs.Prelude.{Some}
use Rattle.cqp_ring.specs.declared.root.Root.{Root}
use Rattle.cqp_ring.specs.declared.weight.Weight.{Weight}
use Rattle.cqp_ring.specs.Root.{root_product}
use Rattle.cqp_ring.specs.Weight.{power_root, IsLeast, IsSameNumber}
use Rattle.cqp_ring.proofs.OrderProducts.{root_product_comm, root_product_assoc, cancelled}
use Rattle.cqp_ring.proofs.WeightLemmas.{least_is_one}
use Rattle.cqp_syntax.specs.Trees.{Process}
use Rattle.cqp_trace.specs.declared.entry.Entry.{Entry}
use Rattle.cqp_vector.specs.State.{start_state}
use Rattle.cqp_cells.specs.Config.{Config, start_of}
use Rattle.cqp_cells.specs.Probability.{norms_after, norms_before, IsProbability}
use Rattle.cqp_cells.specs.Norms.{IsState, weight_of_path}
use Rattle.cqp_cells.specs.Path.{after, h_total}
use Rattle.cqp_cells.proofs.States.{power_nonzero}
use Rattle.cqp_cells.proofs.Telescope.{norm_at, one_times, swapped, telescopes, before_nonzero}

-- the start has all its numerators and isn't 0
pub start_is_state : IsState start_state
start_is_state = record { whole = refl; nonzero = power_nonzero 0 }

module _ (p : Process) (es : List Entry) (c : Config) (leads : after (start_of p) es ≡ Some c) where
  -- the norms before the measurements
  abbrev before : Root
  before = norms_before (start_of p) es

  -- the norms after them
  abbrev later : Root
  later = norms_after (start_of p) es

  -- the last norm times the norms before is a power of 2 times the norms after
  whole : root_product (norm_at c) before ≡ root_product (power_root (h_total es)) later
  whole = telescopes es (start_of p) c start_is_state leads ∙ ap (λ t. root_product (power_root (h_total es)) t) (one_times later)

  -- what equals the weight of the path is its probability
  pub weight_is : (w : Weight) → IsSameNumber w (weight_of_path es c) → IsProbability p es w
  weight_is w same = cancelled (power_root (h_total es)) (root_product w.top before) (root_product (power_root w.below) later) (power_nonzero (h_total es)) (
      sym (root_product_assoc (power_root (h_total es)) w.top before)
      ∙ ap (λ t. root_product t before) same
      ∙ root_product_assoc (power_root w.below) (norm_at c) before
      ∙ ap (λ t. root_product (power_root w.below) t) whole
      ∙ swapped (power_root w.below) (power_root (h_total es)) later)

  -- and nothing else is
  pub weight_only : (w : Weight) → IsProbability p es w → IsSameNumber w (weight_of_path es c)
  weight_only w is = cancelled before (root_product (power_root (h_total es)) w.top) (root_product (power_root w.below) (norm_at c))
      (before_nonzero es (start_of p) c start_is_state leads) (
      swapped before (power_root (h_total es)) w.top
      ∙ ap (λ t. root_product (power_root (h_total es)) t) (root_product_comm before w.top ∙ is)
      ∙ swapped (power_root (h_total es)) (power_root w.below) later
      ∙ ap (λ t. root_product (power_root w.below) t) (sym whole)
      ∙ ap (λ t. root_product (power_root w.below) t) (root_product_comm (norm_at c) before)
      ∙ swapped (power_root w.below) before (norm_at c))

  -- two least weights of one path are equal
  pub one_weight : (w v : Weight) → IsLeast w → IsLeast v → IsProbability p es w → IsProbability p es v → w ≡ v
  one_weight w v least also is same = least_is_one w v least also
      (cancelled (power_root (h_total es)) (root_product (power_root v.below) w.top) (root_product (power_root w.below) v.top) (power_nonzero (h_total es)) (
      swapped (power_root (h_total es)) (power_root v.below) w.top
      ∙ ap (λ t. root_product (power_root v.below) t) (weight_only w is)
      ∙ swapped (power_root v.below) (power_root w.below) (norm_at c)
      ∙ ap (λ t. root_product (power_root w.below) t) (sym (weight_only v same))
      ∙ swapped (power_root w.below) (power_root (h_total es)) v.top))
