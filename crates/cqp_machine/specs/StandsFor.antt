-- What a factored configuration stands for.
use Rattle.std.specs.Prelude.{◌≡◌, ℕ, ◌+◌, ◌-◌, ◌/◌, ◌^◌, ◌<◌, ◌≤◌, List}
use Rattle.cqp_ring.specs.Amp.{amp_product}
use Rattle.cqp_syntax.specs.Listing.{Listing}
use Rattle.cqp_trace.specs.declared.entry.Entry.{Entry}
use Rattle.cqp_vector.specs.State.{amp_at}
use Rattle.cqp_vector.specs.Least.{root2_power}
use Rattle.cqp_cells.specs.Config.{Config, part_at}
use Rattle.cqp_cells.specs.Exponent.{exponent_of}
use Rattle.cqp_cells.specs.Path.{h_total}
use Rattle.cqp_machine.specs.declared.front.Front.{Front}
use Rattle.cqp_machine.specs.Cells.{Cells}
use Rattle.cqp_machine.specs.Shown.{process_in}
use Rattle.cqp_machine.specs.Sums.{exponents, levels, whole_amp}

-- The front and the cells stand for a configuration after these entries: the parts are its parts
-- once bindings and values are put in, the counts are its counts, and its numerators are the
-- products of the groups' own, with the powers of root 2 that the groups were divided by.
pub record StandsFor (l : Listing) (f : Front) (c : Cells) (es : List Entry)
    (d : Config) : Type 0 where
  pub parts : (i : ℕ) → part_at i d.parts ≡ process_in l (c.parts i)
  pub made : d.made ≡ f.parts
  pub chans : d.chans ≡ f.chans
  pub qubits : d.state.qubits ≡ f.qubits
  pub within : exponents f.qubits c ≤ h_total es
  pub numerators : (k : ℕ) → k < 2 ^ f.qubits
      → amp_at d.state.nums k
      ≡ amp_product (root2_power (h_total es - exponents f.qubits c)) (whole_amp f.qubits c k)
  pub level : f.level ≡ levels f.qubits c
  pub exponent : exponent_of (h_total es) d.state ≡ (f.level + 1) / 2
