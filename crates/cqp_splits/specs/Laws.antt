-- The law of splits: they change nothing of the whole.
use Rattle.std.specs.Prelude.{◌≡◌, ℕ, List, ◌∷◌, Some}
use Rattle.cqp_vector.specs.State.{State}
use Rattle.cqp_machine.specs.After.{split_in}
use Rattle.cqp_machine.specs.Cells.{Cells}
use Rattle.cqp_machine.specs.Enabled.{name_of_rest}
use Rattle.cqp_machine.specs.Factors.{Held, rest_of}
use Rattle.cqp_norms.specs.StateStands.{StateStands}

-- the law: a group whose due qubits leave it stands for what it stood for
abbrev pub SplitLaw : Type 0
SplitLaw =
    (c : Cells) (h : ℕ) (s : State) → StateStands c h s → (k : ℕ) (G : Held)
    → c.groups k ≡ Some G → (q : ℕ) (qs : List ℕ) → G.due ≡ q ∷ qs → (rest : ℕ)
    → rest ≡ name_of_rest k (rest_of G.qubits (q ∷ qs))
    → StateStands (record c { groups = split_in k (q ∷ qs) rest (Some G) c.groups }) h s
