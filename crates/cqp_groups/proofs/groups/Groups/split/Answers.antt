use Rattle.std.proofs.Common.{◌≡◌, ◌<◌, ℕ, Some, true, length, sym, ap, refl, subst, ◌∙◌}
use Rattle.std.proofs.lemmas.List.{length-set}
use Rattle.cqp_book.specs.Keys.{has}
use Rattle.cqp_machine.specs.Factors.{Held}
use Rattle.cqp_pieces.specs.Splitting.{SplitsRightly}
use Rattle.cqp_cells.proofs.Options.{same_some}
use Rattle.cqp_groups.specs.Groups.{groups_in}
use Rattle.cqp_groups.proofs.Entering.{all_made, split_is}
use Rattle.cqp_groups.proofs.SlotLemmas.{err_too, kept_as, ok_too}
use Rattle.cqp_groups.proofs.StateLemmas.{split_state}
use Rattle.cqp_groups.proofs.groups.Groups.split.Goals as goal

pub put_split-requires-clause-rightly : goal.put_split-requires-clause-rightly
put_split-requires-clause-rightly c =
    let there : groups_in c.args.self.now c.args.group ≡ Some c.in-Some.held = sym c.take.ensures.value ∙ c.in-Some.is in
    let same : c.requires.before ≡ c.in-Some.held = same_some {x = c.requires.before} {y = c.in-Some.held} (sym c.requires.there ∙ there) in
    subst (λ (G : Held). SplitsRightly G.due G) same c.requires.rightly

pub put_split-requires-clause-made : goal.put_split-requires-clause-made
put_split-requires-clause-made c =
    let there : groups_in c.args.self.now c.args.group ≡ Some c.in-Some.held = sym c.take.ensures.value ∙ c.in-Some.is in
    let same : c.requires.before ≡ c.in-Some.held = same_some {x = c.requires.before} {y = c.in-Some.held} (sym c.requires.there ∙ there) in
    let size : length c.args.self.now ≡ length c.take.new.self = sym (ap length c.take.ensures.left ∙ length-set c.args.self.now c.args.group _) in
    all_made c.in-Some.held (length c.take.new.self)
    (subst (λ n. (q : ℕ) → has q c.in-Some.held.qubits ≡ true → q < n) size
    (subst (λ (G : Held). (q : ℕ) → has q G.qubits ≡ true → q < length c.args.self.now) same c.requires.made))
    (subst (λ (G : Held). (q : ℕ) → has q G.due ≡ true → has q G.qubits ≡ true) same c.requires.due_in)

pub returns-in-Some-clause-ok : goal.returns-in-Some-clause-ok
returns-in-Some-clause-ok c =
    let there : groups_in c.args.self.now c.args.group ≡ Some c.in-Some.held = sym c.take.ensures.value ∙ c.in-Some.is in
    ok_too c.put_split.result _ _
    (split_is c.args.self.now c.take.new.self c.put_split.new.self c.args.group c.in-Some.held there c.take.ensures.left)
    c.put_split.ensures.ok

pub returns-in-Some-clause-err : goal.returns-in-Some-clause-err
returns-in-Some-clause-err c =
    let there : groups_in c.args.self.now c.args.group ≡ Some c.in-Some.held = sym c.take.ensures.value ∙ c.in-Some.is in
    err_too c.put_split.result _ _
    (λ back. kept_as c.args.self.now c.take.new.self c.put_split.new.self c.args.group c.in-Some.held c.in-Some.held there c.take.ensures.left back refl)
    c.put_split.ensures.err

pub returns-in-Some-clause-state : goal.returns-in-Some-clause-state
returns-in-Some-clause-state c =
    let there : groups_in c.args.self.now c.args.group ≡ Some c.in-Some.held = sym c.take.ensures.value ∙ c.in-Some.is in
    let size : length c.put_split.new.self ≡ length c.args.self.now =
    c.put_split.ensures.made ∙ (ap length c.take.ensures.left ∙ length-set c.args.self.now c.args.group _) in
    ok_too c.put_split.result _ _
    (λ is. split_state c.args.self.now c.put_split.new.self c.args.group c.requires
    (split_is c.args.self.now c.take.new.self c.put_split.new.self c.args.group c.in-Some.held there c.take.ensures.left is) size)
    c.put_split.ensures.ok
