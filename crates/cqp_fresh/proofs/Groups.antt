-- After a run no two groups share a qubit.
use Rattle.std.proofs.Common.{◌≡◌, ℕ, List, Some, sym, ◌∙◌}
use Rattle.cqp_book.specs.Keys.{find}
use Rattle.cqp_book.specs.Run.{IsRun}
use Rattle.cqp_syntax.specs.Listing.{Listing}
use Rattle.cqp_machine.specs.declared.event.Event.{Event}
use Rattle.cqp_parts.specs.Parts.{opening_parts}
use Rattle.cqp_machine.specs.Factors.{Held}
use Rattle.cqp_machine.specs.Fronts.{opening_front}
use Rattle.cqp_machine.specs.Machine.{factored, part_pairs}
use Rattle.cqp_machine.specs.Shown.{cells_of}
use Rattle.cqp_fresh.specs.Apart.{StandsApart}
use Rattle.cqp_fresh.proofs.SoundStores.{sound_opening, sound_run}

-- each group has its own qubits, by their owners
pub stands_apart : (l : Listing) (es : List Event) → IsRun factored l es → (name : ℕ) (group : Held) → (cells_of l es).groups name ≡ Some group
    → StandsApart l es name group
stands_apart l es run name group there =
    let k = sound_run l (opening_front l) (find (part_pairs 0 (opening_parts l))) es run (sound_opening l) in
    let own = k.keeps.kept.groups.each name group there in
    record {
      named = own.named;
      made = own.made;
      only = λ q other_name other h other_there also. sym ((k.keeps.kept.groups.each other_name other other_there).owned q also) ∙ own.owned q h;
    }
