-- What an event sees of a store, and what its cells leave in one.
use Rattle.std.proofs.Common.{◌≡◌, ℕ, true, false, Bool, ◌++◌, ◌==◌, ◌||◌, ◌/◌, ◌%◌, if◌then◌else◌, Option, Some, None, refl, sym, arith, eq-eqb, ne_eqb, ◌∙◌}
use Rattle.cqp_book.specs.Keys.{has, Store}
use Rattle.cqp_syntax.specs.Listing.{Listing}
use Rattle.cqp_parts.specs.declared.part.Part.{Part}
use Rattle.cqp_machine.specs.declared.front.Front.{Front}
use Rattle.cqp_machine.specs.declared.event.Event.{Event}
use Rattle.cqp_machine.specs.declared.cell.Cell.{Cell}
use Rattle.cqp_machine.specs.Keys.{part_key, chan_key, group_key}
use Rattle.cqp_machine.specs.Factors.{Held}
use Rattle.cqp_machine.specs.Cells.{Channel, Cells, cells_in, store_of, as_part, as_chan, as_group, part_cell, chan_cell, group_cell}
use Rattle.cqp_machine.specs.Touched.{needs_of, makes_of, parts_needed, chans_needed, groups_needed, parts_made, chans_made, groups_made}
use Rattle.cqp_machine.specs.After.{cells_after}
use Rattle.cqp_machine.specs.Machine.{seen_by, factored}
use Rattle.cqp_local.proofs.KeyLemmas.{has-append, has_part, has_chan, has_group}

-- a cell has what was put there
pub part_of_cell : (x : Option Part) → as_part (part_cell x) ≡ x
part_of_cell None = refl
part_of_cell (Some p) = refl

-- so has a channel's cell
pub chan_of_cell : (x : Option Channel) → as_chan (chan_cell x) ≡ x
chan_of_cell None = refl
chan_of_cell (Some c) = refl

-- so has a group's
pub group_of_cell : (x : Option Held) → as_group (group_cell x) ≡ x
group_of_cell None = refl
group_of_cell (Some g) = refl

-- the number of a key, and its kind
part_number : (n : ℕ) → part_key n / 3 ≡ n
part_number n = omega arith

-- a part's key leaves 0
part_kind : (n : ℕ) → (part_key n % 3 == 0) ≡ true
part_kind n = eq-eqb (part_key n % 3) 0 (omega arith)

-- the number of a channel's key
chan_number : (n : ℕ) → chan_key n / 3 ≡ n
chan_number n = omega arith

-- a channel's key doesn't leave 0
chan_kind : (n : ℕ) → (chan_key n % 3 == 0) ≡ false
chan_kind n = ne_eqb (chan_key n % 3) 0 (λ e. omega arith)

-- it leaves 1
chan_kind_too : (n : ℕ) → (chan_key n % 3 == 1) ≡ true
chan_kind_too n = eq-eqb (chan_key n % 3) 1 (omega arith)

-- the number of a group's key
group_number : (n : ℕ) → group_key n / 3 ≡ n
group_number n = omega arith

-- a group's key doesn't leave 0
group_kind : (n : ℕ) → (group_key n % 3 == 0) ≡ false
group_kind n = ne_eqb (group_key n % 3) 0 (λ e. omega arith)

-- nor 1
group_kind_too : (n : ℕ) → (group_key n % 3 == 1) ≡ false
group_kind_too n = ne_eqb (group_key n % 3) 1 (λ e. omega arith)

-- the store of cells has them
pub stored_part_cell : (c : Cells) (n : ℕ) → store_of c (part_key n) ≡ part_cell (c.parts n)
stored_part_cell c n = rw (part_kind n, part_number n) refl

-- so has it the channels
pub stored_chan_cell : (c : Cells) (n : ℕ) → store_of c (chan_key n) ≡ chan_cell (c.chans n)
stored_chan_cell c n = rw (chan_kind n, chan_kind_too n, chan_number n) refl

-- so has it the groups
pub stored_group_cell : (c : Cells) (n : ℕ) → store_of c (group_key n) ≡ group_cell (c.groups n)
stored_group_cell c n = rw (group_kind n, group_kind_too n, group_number n) refl

-- what it has at a part's key is the part
stored_part : (c : Cells) (n : ℕ) → as_part (store_of c (part_key n)) ≡ c.parts n
stored_part c n = rw (part_kind n, part_number n) (part_of_cell (c.parts n))

-- what it has at a channel's key is the channel
stored_chan : (c : Cells) (n : ℕ) → as_chan (store_of c (chan_key n)) ≡ c.chans n
stored_chan c n = rw (chan_kind n, chan_kind_too n, chan_number n) (chan_of_cell (c.chans n))

-- what it has at a group's key is the group
stored_group : (c : Cells) (n : ℕ) → as_group (store_of c (group_key n)) ≡ c.groups n
stored_group c n = rw (group_kind n, group_kind_too n, group_number n) (group_of_cell (c.groups n))

-- the numbers that an event touches
abbrev pub part_touched : Front → Event → ℕ → Bool
part_touched f e n = has n (parts_needed e) || has n (parts_made f e)

-- the channels that it touches
abbrev pub chan_touched : Event → ℕ → Bool
chan_touched e n = has n (chans_needed e) || has n (chans_made e)

-- the groups that it touches
abbrev pub group_touched : Event → ℕ → Bool
group_touched e n = has n (groups_needed e) || has n (groups_made e)

-- equal tests give equal choices
both_or : (a b c d : Bool) → a ≡ c → b ≡ d → (a || b) ≡ (c || d)
both_or a b c d p q = rw (p, q) refl

-- an event touches a part's key where it touches the part
part_key_touched : (f : Front) (e : Event) (n : ℕ) → has (part_key n) (needs_of e ++ makes_of f e) ≡ part_touched f e n
part_key_touched f e n =
    has-append (part_key n) (needs_of e) (makes_of f e)
    ∙ both_or _ _ _ _ (has_part n (parts_needed e) (chans_needed e) (groups_needed e)) (has_part n (parts_made f e) (chans_made e) (groups_made e))

-- it touches a channel's key where it touches the channel
chan_key_touched : (f : Front) (e : Event) (n : ℕ) → has (chan_key n) (needs_of e ++ makes_of f e) ≡ chan_touched e n
chan_key_touched f e n =
    has-append (chan_key n) (needs_of e) (makes_of f e)
    ∙ both_or _ _ _ _ (has_chan n (parts_needed e) (chans_needed e) (groups_needed e)) (has_chan n (parts_made f e) (chans_made e) (groups_made e))

-- it touches a group's key where it touches the group
group_key_touched : (f : Front) (e : Event) (n : ℕ) → has (group_key n) (needs_of e ++ makes_of f e) ≡ group_touched e n
group_key_touched f e n =
    has-append (group_key n) (needs_of e) (makes_of f e)
    ∙ both_or _ _ _ _ (has_group n (parts_needed e) (chans_needed e) (groups_needed e)) (has_group n (parts_made f e) (chans_made e) (groups_made e))

module _ (l : Listing) (f : Front) (s : Store Cell) (e : Event) where
  -- a choice between cells, by what is in them
  by_part : (b t : Bool) (x y : Option Cell) (p : Option Part) → b ≡ t → as_part x ≡ p → as_part (if b then x else y) ≡ (if t then p else as_part y)
  by_part true t x y p h k = rw (sym h) k
  by_part false t x y p h k = rw (sym h) refl

  -- the same by the channels in them
  by_chan : (b t : Bool) (x y : Option Cell) (p : Option Channel) → b ≡ t → as_chan x ≡ p → as_chan (if b then x else y) ≡ (if t then p else as_chan y)
  by_chan true t x y p h k = rw (sym h) k
  by_chan false t x y p h k = rw (sym h) refl

  -- the same by the groups in them
  by_group : (b t : Bool) (x y : Option Cell) (p : Option Held) → b ≡ t → as_group x ≡ p → as_group (if b then x else y) ≡ (if t then p else as_group y)
  by_group true t x y p h k = rw (sym h) k
  by_group false t x y p h k = rw (sym h) refl

  -- what an event leaves at each number
  pub after_part : (n : ℕ)
      → (cells_in (factored.after l f s e)).parts n ≡ (if part_touched f e n then (cells_after l f (seen_by e s) e).parts n else (cells_in s).parts n)
  after_part n = by_part _ _ _ _ _ (part_key_touched f e n) (stored_part (cells_after l f (seen_by e s) e) n)

  -- the channel that it leaves at each number
  pub after_chan : (n : ℕ)
      → (cells_in (factored.after l f s e)).chans n ≡ (if chan_touched e n then (cells_after l f (seen_by e s) e).chans n else (cells_in s).chans n)
  after_chan n = by_chan _ _ _ _ _ (chan_key_touched f e n) (stored_chan (cells_after l f (seen_by e s) e) n)

  -- the group that it leaves at each number
  pub after_group : (n : ℕ)
      → (cells_in (factored.after l f s e)).groups n ≡ (if group_touched e n then (cells_after l f (seen_by e s) e).groups n else (cells_in s).groups n)
  after_group n = by_group _ _ _ _ _ (group_key_touched f e n) (stored_group (cells_after l f (seen_by e s) e) n)

-- what an event sees at a number
module _ (s : Store Cell) (e : Event) where
  -- an event sees the parts that it needs, and no other
  pub seen_part : (n : ℕ) → (seen_by e s).parts n ≡ (if has n (parts_needed e) then (cells_in s).parts n else None)
  seen_part n = at_part (has (part_key n) (needs_of e)) _ (has_part n (parts_needed e) (chans_needed e) (groups_needed e)) (s (part_key n))
    where
      at_part : (b t : Bool) → b ≡ t → (x : Option Cell) → as_part (if b then x else None) ≡ (if t then as_part x else None)
      at_part true t h x = rw (sym h) refl
      at_part false t h x = rw (sym h) refl

  -- it sees the channels that it needs
  pub seen_chan : (n : ℕ) → (seen_by e s).chans n ≡ (if has n (chans_needed e) then (cells_in s).chans n else None)
  seen_chan n = at_chan (has (chan_key n) (needs_of e)) _ (has_chan n (parts_needed e) (chans_needed e) (groups_needed e)) (s (chan_key n))
    where
      at_chan : (b t : Bool) → b ≡ t → (x : Option Cell) → as_chan (if b then x else None) ≡ (if t then as_chan x else None)
      at_chan true t h x = rw (sym h) refl
      at_chan false t h x = rw (sym h) refl

  -- it sees the groups that it needs
  pub seen_group : (n : ℕ) → (seen_by e s).groups n ≡ (if has n (groups_needed e) then (cells_in s).groups n else None)
  seen_group n = at_group (has (group_key n) (needs_of e)) _ (has_group n (parts_needed e) (chans_needed e) (groups_needed e)) (s (group_key n))
    where
      at_group : (b t : Bool) → b ≡ t → (x : Option Cell) → as_group (if b then x else None) ≡ (if t then as_group x else None)
      at_group true t h x = rw (sym h) refl
      at_group false t h x = rw (sym h) refl

-- what is seen is there
pub is_there : {X : Type 0} (b : Bool) (x : Option X) (y : Option X) (a : X) → y ≡ (if b then x else None) → y ≡ Some a → x ≡ Some a
is_there true x y a h k = sym h ∙ k
is_there false x y a h k = let e : None ≡ Some a = sym h ∙ k in cc
