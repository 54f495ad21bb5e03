-- What a factor's split says of the machine's group.
use Rattle.std.proofs.Common.{◌≡◌, ℕ, List, length, ap, ◌∙◌}
use Rattle.cqp_vector.specs.Group.{Group}
use Rattle.cqp_vector.specs.Measurement.{outcome_at}
use Rattle.cqp_vector.specs.Pieces.{pieces_of}
use Rattle.cqp_machine.specs.Factors.{Held, factor_of, first_place, places_in, split_pieces}
use Rattle.cqp_pieces.specs.Splitting.{SplitsRightly}

-- the pieces at the due qubits' places, with the outcome that they have
pub pieces_told : (list : List Group) (places ps rs : List ℕ) (m : ℕ) (F : Group) (G : Held) → list ≡ pieces_of rs m F → F ≡ factor_of G
    → ps ≡ places → rs ≡ places → places ≡ places_in G.qubits G.due → m ≡ outcome_at (length F.qubits) ps (first_place F.nums)
    → SplitsRightly G.due G → list ≡ split_pieces G.due G
pieces_told list places ps rs m F G is whole one two at out right =
    is
    ∙ (ap (λ z. pieces_of z m F) (two ∙ at)
    ∙ (ap (λ z. pieces_of (places_in G.qubits G.due) z F) (out ∙ ap (λ z. outcome_at (length F.qubits) z (first_place F.nums)) (one ∙ at))
    ∙ (ap (λ z. pieces_of (places_in G.qubits G.due) (outcome_at (length z.qubits) (places_in G.qubits G.due) (first_place z.nums)) z) whole
    ∙ right.pieces)))
