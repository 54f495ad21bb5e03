-- Stores that keep to the front, along runs from the opening.
use Rattle.std.proofs.Common.{◌≡◌, ◌≢◌, ℕ, true, false, Bool, List, [], ◌∷◌, ◌++◌, ◌+◌, ◌≤◌, if◌then◌else◌, length, Option, None, refl, sym, arith, eq-eqb}
use Rattle.std.proofs.Common.{ne_eqb, ◌∙◌, length-append}
use Rattle.std.proofs.lemmas.List.{length-map}
use mathlib.Core.Logic.{dite}
use native.Mathlib.Decide.{ℕ_discrete}
use Rattle.cqp_book.specs.Keys.{has, Store, find}
use Rattle.cqp_book.specs.Run.{front_from, store_from, RunsFrom}
use Rattle.cqp_syntax.specs.Trees.{Process, nil, par, new, qbit, act, input, output, branch}
use Rattle.cqp_syntax.specs.Listing.{Listing, root}
use Rattle.cqp_cells.specs.Config.{flattened}
use Rattle.cqp_parts.specs.declared.part.Part.{Part}
use Rattle.cqp_machine.specs.declared.front.Front.{Front}
use Rattle.cqp_machine.specs.declared.event.Event.{Event}
use Rattle.cqp_machine.specs.declared.cell.Cell.{Cell}
use Rattle.cqp_machine.specs.Keys.{part_key, chan_key, group_key}
use Rattle.cqp_parts.specs.Parts.{prefixes_of, prefixes_at, opening_parts, begins_at, left_of, right_of, node_at}
use Rattle.cqp_machine.specs.Cells.{cells_in, store_of, as_part, as_chan, as_group, part_cell, chan_cell, group_cell}
use Rattle.cqp_machine.specs.Touched.{needs_of, makes_of}
use Rattle.cqp_machine.specs.Fronts.{front_after, opening_front}
use Rattle.cqp_machine.specs.Enabled.{IsEnabled}
use Rattle.cqp_machine.specs.After.{cells_after}
use Rattle.cqp_machine.specs.Machine.{factored, seen_by, part_pairs}
use Rattle.cqp_local.proofs.StoreLemmas.{stored_part_cell, stored_chan_cell, stored_group_cell, part_of_cell, chan_of_cell, group_of_cell}
use Rattle.cqp_local.proofs.WholeFits.{whole_enabled, whole_after}
use Rattle.cqp_fresh.proofs.Partition.{nothing_owned}
use Rattle.cqp_fresh.proofs.Fresh.{Keeps, keeps_after}

-- each key has a cell of its kind
pub record HasKinds (s : Store Cell) : Type 0 where
  pub parts : (n : ℕ) → s (part_key n) ≡ part_cell ((cells_in s).parts n)
  pub chans : (n : ℕ) → s (chan_key n) ≡ chan_cell ((cells_in s).chans n)
  pub groups : (n : ℕ) → s (group_key n) ≡ group_cell ((cells_in s).groups n)

-- a choice of two cells of a kind is of that kind
kind_of : {X : Type 0} (as_kind : Option Cell → Option X) (to_cell : Option X → Option Cell) (b : Bool) (x y : Option Cell)
    → x ≡ to_cell (as_kind x) → y ≡ to_cell (as_kind y) → (if b then x else y) ≡ to_cell (as_kind (if b then x else y))
kind_of as_kind to_cell true x y h k = h
kind_of as_kind to_cell false x y h k = k

-- an event leaves each key a cell of its kind
kinds_after : (l : Listing) (f : Front) (s : Store Cell) (e : Event) → HasKinds s → HasKinds (factored.after l f s e)
kinds_after l f s e k = record {
  parts = λ n.
      kind_of as_part part_cell (has (part_key n) (needs_of e ++ makes_of f e)) (store_of (cells_after l f (seen_by e s) e) (part_key n)) (s (part_key n))
      (rw (stored_part_cell (cells_after l f (seen_by e s) e) n, part_of_cell ((cells_after l f (seen_by e s) e).parts n)) refl) (k.parts n);
  chans = λ n.
      kind_of as_chan chan_cell (has (chan_key n) (needs_of e ++ makes_of f e)) (store_of (cells_after l f (seen_by e s) e) (chan_key n)) (s (chan_key n))
      (rw (stored_chan_cell (cells_after l f (seen_by e s) e) n, chan_of_cell ((cells_after l f (seen_by e s) e).chans n)) refl) (k.chans n);
  groups = λ n.
      kind_of as_group group_cell (has (group_key n) (needs_of e ++ makes_of f e)) (store_of (cells_after l f (seen_by e s) e) (group_key n)) (s (group_key n))
      (rw (stored_group_cell (cells_after l f (seen_by e s) e) n, group_of_cell ((cells_after l f (seen_by e s) e).groups n)) refl) (k.groups n);
}

-- a store with cells of their kinds that keeps to the front
pub record IsSoundStore (f : Front) (s : Store Cell) : Type 0 where
  pub kinds : HasKinds s
  pub keeps : Keeps f (cells_in s)

-- an event keeps a store sound
pub sound_after : (l : Listing) (f : Front) (s : Store Cell) (e : Event) → IsEnabled l f (seen_by e s) e → IsSoundStore f s
    → IsSoundStore (front_after f e) (factored.after l f s e)
sound_after l f s e on k = record {
  kinds = kinds_after l f s e k.kinds;
  keeps = rw (whole_after l f s e on) (keeps_after l f (cells_in s) e (whole_enabled l f s e on).fits k.keeps);
}

-- so do the events of a run
pub sound_run : (l : Listing) (f : Front) (s : Store Cell) (es : List Event) → RunsFrom factored l f s es → IsSoundStore f s
    → IsSoundStore (front_from factored l f es) (store_from factored l f s es)
sound_run l f s [] run k = k
sound_run l f s (e ∷ es) run k = sound_run l (front_after f e) (factored.after l f s e) es run.1 (sound_after l f s e run.0 k)

-- there are as many prefixes side by side as processes
length-prefixes : (l : Listing) (n : ℕ) (p : Process) → length (prefixes_of l n p) ≡ length (flattened p)
length-prefixes l n nil = refl
length-prefixes l n (par p q) =
    length-append (prefixes_of l (left_of (node_at l n)) p) (prefixes_of l (right_of (node_at l n)) q)
    ∙ (rw (length-prefixes l (left_of (node_at l n)) p, length-prefixes l (right_of (node_at l n)) q) (sym (length-append (flattened p) (flattened q))))
length-prefixes l n (new b p) = refl
length-prefixes l n (qbit x p) = refl
length-prefixes l n (act e p) = refl
length-prefixes l n (input c bs p) = refl
length-prefixes l n (output c es p) = refl
length-prefixes l n (branch e f p q) = refl

-- the opening has as many parts as there are processes side by side
pub length-opening : (l : Listing) → length (opening_parts l) ≡ length (flattened (root l))
length-opening l = length-map (prefixes_at l 0) (begins_at l []) ∙ length-prefixes l 0 (root l)

-- a pair with a part's key has a part
found_part : (n : ℕ) (ps : List Part) (j : ℕ) → find (part_pairs n ps) (part_key j) ≡ part_cell (as_part (find (part_pairs n ps) (part_key j)))
found_part n [] j = refl
found_part n (p ∷ ps) j = dite (ℕ_discrete (part_key j) (part_key n))
    (λ (e : part_key j ≡ part_key n). rw (eq-eqb (part_key j) (part_key n) e) refl)
    (λ (e : part_key j ≢ part_key n). rw (ne_eqb (part_key j) (part_key n) e) (found_part (n + 1) ps j))

-- no pair has the key of a part beyond them
none_beyond : (n : ℕ) (ps : List Part) (j : ℕ) → n + length ps ≤ j → find (part_pairs n ps) (part_key j) ≡ None
none_beyond n [] j h = refl
none_beyond n (p ∷ ps) j h = rw (ne_eqb (part_key j) (part_key n) (λ e. omega arith)) (none_beyond (n + 1) ps j (omega arith))

-- no pair has a key of another kind
none_other : (n : ℕ) (ps : List Part) (k : ℕ) → ((j : ℕ) → k ≡ part_key j → ⊥) → find (part_pairs n ps) k ≡ None
none_other n [] k h = refl
none_other n (p ∷ ps) k h = rw (ne_eqb k (part_key n) (h n)) (none_other (n + 1) ps k h)

-- the opening has no channel
no_chan : (ps : List Part) (c : ℕ) → find (part_pairs 0 ps) (chan_key c) ≡ None
no_chan ps c = none_other 0 ps (chan_key c) (λ j e. omega arith)

-- it has no group
pub no_group_pair : (ps : List Part) (g : ℕ) → find (part_pairs 0 ps) (group_key g) ≡ None
no_group_pair ps g = none_other 0 ps (group_key g) (λ j e. omega arith)

-- the opening's store is sound
pub sound_opening : (l : Listing) → IsSoundStore (opening_front l) (find (part_pairs 0 (opening_parts l)))
sound_opening l = let ps = opening_parts l in record {
  kinds = record {
    parts = λ n. found_part 0 ps n;
    chans = λ n. rw (no_chan ps n) refl;
    groups = λ n. rw (no_group_pair ps n) refl;
  };
  keeps = record {
    own = λ q. q;
    kept = record {
      new_parts = λ j h. rw (none_beyond 0 (opening_parts l) j (omega (arith, length-opening l))) refl;
      new_chans = λ j h. rw (no_chan (opening_parts l) j) refl;
      groups = nothing_owned _ (λ g. rw (no_group_pair (opening_parts l) g) refl);
    };
  };
}
