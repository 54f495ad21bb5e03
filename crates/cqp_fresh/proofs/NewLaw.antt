-- What an event makes is new, so the factored machine meets the laws of the book.
use Rattle.std.proofs.Common.{◌≡◌, ◌≢◌, ℕ, true, false, Bool, List, [], ◌∷◌, ◌++◌, map, ◌==◌, ◌||◌, ◌≤◌, filter, not, Option, Some, None, refl, sym, ap}
use Rattle.std.proofs.Common.{subst, arith, eq-eqb, ◌∙◌, ⊎_elim}
use Rattle.std.proofs.lemmas.Bool.{cases_Bool, or_cases, or_left, or_right, eqb-true, eqb-false}
use Rattle.cqp_book.specs.Keys.{has, Store, find}
use Rattle.cqp_book.specs.Run.{front_from, store_from}
use Rattle.cqp_book.specs.Laws.{MakesNew, IsLawful}
use Rattle.cqp_syntax.specs.Listing.{Listing}
use Rattle.cqp_trace.specs.declared.deed.Deed.{Deed}
use Rattle.cqp_trace.specs.declared.deed.Deed.TheVariants as deed
use Rattle.cqp_machine.specs.declared.front.Front.{Front}
use Rattle.cqp_machine.specs.declared.event.Event.{Event}
use Rattle.cqp_machine.specs.declared.event.Event.TheVariants as event
use Rattle.cqp_machine.specs.declared.cell.Cell.{Cell}
use Rattle.cqp_machine.specs.Keys.{part_key, chan_key, group_key}
use Rattle.cqp_parts.specs.Parts.{process_of_part, opening_parts}
use Rattle.cqp_machine.specs.Factors.{Held, rest_of}
use Rattle.cqp_machine.specs.Cells.{cells_in, part_cell, chan_cell, group_cell}
use Rattle.cqp_machine.specs.Touched.{makes_of, parts_made, chans_made, groups_made}
use Rattle.cqp_machine.specs.Fronts.{counts_of, opening_front}
use Rattle.cqp_machine.specs.Enabled.{FitsEvent, FitsStep, name_of_rest}
use Rattle.cqp_machine.specs.Machine.{factored, part_pairs}
use Rattle.cqp_local.proofs.KeyLemmas.{has-append}
use Rattle.cqp_local.proofs.PlacedLemmas.{range_bounds}
use Rattle.cqp_local.proofs.LocalLaws.{factored_local, factored_leaves_others}
use Rattle.cqp_local.proofs.WholeFits.{whole_enabled}
use Rattle.cqp_fresh.specs.Partition.{IsOwn}
use Rattle.cqp_fresh.proofs.Splits.{stays_in, least_in}
use Rattle.cqp_fresh.proofs.SoundStores.{IsSoundStore, sound_run, sound_opening}
use Rattle.cqp_fresh.proofs.Fresh.{next_qubit, next_chan}

-- a key of one kind is that of one of the numbers
key_of_one : (key : ℕ → ℕ) (k : ℕ) (xs : List ℕ) → has k (map key xs) ≡ true → (n : ℕ) × (k ≡ key n) × (has n xs ≡ true)
key_of_one key k [] h = cc
key_of_one key k (x ∷ xs) h = ⊎_elim
    (λ (t : (k == key x) ≡ true). (x, eqb-true k (key x) t, rw (eq-eqb x x refl) refl))
    (λ (t : has k (map key xs) ≡ true). let later = key_of_one key k xs t in (later.0, later.1, or_later (later.0 == x) (has later.0 xs) later.2))
    (or_cases (k == key x) (has k (map key xs)) h)
  where
    or_later : (a b : Bool) → b ≡ true → (a || b) ≡ true
    or_later true b h = refl
    or_later false b h = h

-- what passes the filter is in the list and is another number
in_filter : (q k : ℕ) (xs : List ℕ) → has q (filter (λ x. not (x == k)) xs) ≡ true → (has q xs ≡ true) × (q ≢ k)
in_filter q k [] h = cc
in_filter q k (x ∷ xs) h = ⊎_elim
    (λ (t : (x == k) ≡ true). let later = in_filter q k xs (rw t at h) in (or_right (q == x) (has q xs) later.0, later.1))
    (λ (t : (x == k) ≡ false). ⊎_elim
    (λ (u : (q == x) ≡ true). (or_left (q == x) (has q xs) u, λ e. eqb-false x k t (sym (eqb-true q x u) ∙ e)))
    (λ (u : has q (filter (λ y. not (y == k)) xs) ≡ true). let later = in_filter q k xs u in (or_right (q == x) (has q xs) later.0, later.1))
    (or_cases (q == x) (has q (filter (λ y. not (y == k)) xs)) (rw t at h)))
    (cases_Bool (x == k))

-- the name of the rest is in it, where it isn't the old one
name_in : (k : ℕ) (xs : List ℕ) → name_of_rest k xs ≢ k → has (name_of_rest k xs) xs ≡ true
name_in k [] h = absurd (h refl)
name_in k (x ∷ xs) h = least_in x xs

-- where no group is found none is there
pub no_group : (x : Option Held) → ((H : Held) → x ≡ Some H → ⊥) → x ≡ None
no_group None h = refl
no_group (Some H) h = absurd (h H refl)

module _ (l : Listing) (f : Front) (s : Store Cell) (k : IsSoundStore f s) where
  -- a number that the front hasn't reached has no part's cell
  no_part_at : (n : ℕ) → f.parts ≤ n → s (part_key n) ≡ None
  no_part_at n h = k.kinds.parts n ∙ ap part_cell (k.keeps.kept.new_parts n h)

  -- nor a channel's
  no_chan_at : (n : ℕ) → f.chans ≤ n → s (chan_key n) ≡ None
  no_chan_at n h = k.kinds.chans n ∙ ap chan_cell (k.keeps.kept.new_chans n h)

  -- a name with no group has no group's cell
  no_group_at : (n : ℕ) → (cells_in s).groups n ≡ None → s (group_key n) ≡ None
  no_group_at n h = k.kinds.groups n ∙ ap group_cell h

  -- a part that is made is new
  new_part : (e : Event) → (n : ℕ) → has n (parts_made f e) ≡ true → s (part_key n) ≡ None
  new_part (event.Step e group made gone woke level) n h = no_part_at n (range_bounds n f.parts made h).0
  new_part (event.Join left right) n h = cc
  new_part (event.Split group qs rest) n h = cc
  new_part (event.Park i chan) n h = cc
  new_part (event.Halt i) n h = cc

  -- what is in a list of one is that one
  just : (q g : ℕ) → has q (g ∷ []) ≡ true → q ≡ g
  just q g h = eqb-true q g (⊎_elim (λ z. z) (λ z. cc) (or_cases (q == g) false h))

  -- a channel that is made is new
  new_chan : (e : Event) → FitsEvent l f (cells_in s) e → (n : ℕ) → has n (chans_made e) ≡ true → s (chan_key n) ≡ None
  new_chan (event.Step e group made gone woke level) on n h = by_deed e.deed on h
    where
      by_deed : (d : Deed) → FitsStep l f (cells_in s) e.part d group made gone woke level
          → has n (chans_made (event.Step (record e { deed = d }) group made gone woke level)) ≡ true
          → s (chan_key n) ≡ None
      by_deed (deed.New x) on h =
          let next : x ≡ f.chans = next_chan (counts_of f) (process_of_part l on.0.part) x on.0.process on.0.moves in
          let same = just n x h in
          no_chan_at n (omega arith)
      by_deed (deed.Qbit q) on h = cc
      by_deed deed.Act on h = cc
      by_deed (deed.Add v) on h = cc
      by_deed (deed.Pick o) on h = cc
      by_deed (deed.Gate o qs) on h = cc
      by_deed (deed.Measure qs m) on h = cc
      by_deed (deed.If b) on h = cc
      by_deed (deed.Com to chan) on h = cc
  new_chan (event.Join left right) on n h = cc
  new_chan (event.Split group qs rest) on n h = cc
  new_chan (event.Park i chan) on n h = cc
  new_chan (event.Halt i) on n h = cc

  module _ (group : ℕ) (G : Held) (there : (cells_in s).groups group ≡ Some G) where
    -- the group has what the partition says
    o : IsOwn f.qubits k.keeps.own group G
    o = k.keeps.kept.groups.each group G there

    -- a split's new names are qubits of the group
    in_group : (qs : List ℕ) (rest : ℕ) → G.due ≡ qs → rest ≡ name_of_rest group (rest_of G.qubits qs) → (q : ℕ) → has q (rest ∷ qs) ≡ true → q ≢ group
        → has q G.qubits ≡ true
    in_group qs rest due rest_is q h x = ⊎_elim
        (λ (t : (q == rest) ≡ true).
        let same : q ≡ name_of_rest group (rest_of G.qubits qs) = eqb-true q rest t ∙ rest_is in
        rw same (stays_in (name_of_rest group (rest_of G.qubits qs)) G.qubits qs (name_in group (rest_of G.qubits qs) (λ e. x (same ∙ e)))).0)
        (λ (t : has q qs ≡ true). o.due_in q (subst (λ xs. has q xs ≡ true) (sym due) t))
        (or_cases (q == rest) (has q qs) h)

    -- no other group is named by one of its qubits
    other_none : (q : ℕ) → has q G.qubits ≡ true → q ≢ group → (cells_in s).groups q ≡ None
    other_none q h x = no_group ((cells_in s).groups q)
        (λ H t. let other = k.keeps.kept.groups.each q H t in x (sym (other.owned q other.named) ∙ o.owned q h))

  -- a group that is made is new
  new_group_at : (e : Event) → FitsEvent l f (cells_in s) e → (n : ℕ) → has n (groups_made e) ≡ true → s (group_key n) ≡ None
  new_group_at (event.Step e group made gone woke level) on n h = by_deed e.deed on h
    where
      by_deed : (d : Deed) → FitsStep l f (cells_in s) e.part d group made gone woke level
          → has n (groups_made (event.Step (record e { deed = d }) group made gone woke level)) ≡ true
          → s (group_key n) ≡ None
      by_deed (deed.Qbit q) on h =
          let next : q ≡ f.qubits = next_qubit (counts_of f) (process_of_part l on.0.part) q on.0.process on.0.moves in
          let same = just n q h in
          no_group_at n (k.keeps.kept.groups.fresh n (omega arith))
      by_deed (deed.New x) on h = cc
      by_deed deed.Act on h = cc
      by_deed (deed.Add v) on h = cc
      by_deed (deed.Pick o) on h = cc
      by_deed (deed.Gate o qs) on h = cc
      by_deed (deed.Measure qs m) on h = cc
      by_deed (deed.If b) on h = cc
      by_deed (deed.Com to chan) on h = cc
  new_group_at (event.Split group qs rest) on n h =
      let among = in_filter n group (rest ∷ qs) h in
      no_group_at n (other_none group on.before on.there n (in_group group on.before on.there qs rest on.are_due on.rest_is n among.0 among.1) among.1)
  new_group_at (event.Join left right) on n h = cc
  new_group_at (event.Park i chan) on n h = cc
  new_group_at (event.Halt i) on n h = cc

  -- a key that an event makes has no cell
  makes_none : (e : Event) → FitsEvent l f (cells_in s) e → (key : ℕ) → has key (makes_of f e) ≡ true → s key ≡ None
  makes_none e on key h = ⊎_elim
      (λ (t : has key (map part_key (parts_made f e)) ≡ true).
      let one = key_of_one part_key key (parts_made f e) t in
      ap s one.1 ∙ new_part e one.0 one.2)
      (λ (t : has key (map chan_key (chans_made e) ++ map group_key (groups_made e)) ≡ true). ⊎_elim
      (λ (u : has key (map chan_key (chans_made e)) ≡ true).
      let one = key_of_one chan_key key (chans_made e) u in
      ap s one.1 ∙ new_chan e on one.0 one.2)
      (λ (u : has key (map group_key (groups_made e)) ≡ true).
      let one = key_of_one group_key key (groups_made e) u in
      ap s one.1 ∙ new_group_at e on one.0 one.2)
      (or_cases _ _ (sym (has-append key (map chan_key (chans_made e)) (map group_key (groups_made e))) ∙ t)))
      (or_cases _ _ (sym (has-append key (map part_key (parts_made f e)) (map chan_key (chans_made e) ++ map group_key (groups_made e))) ∙ h))

-- so what is made is new
factored_makes_new : MakesNew factored
factored_makes_new l es e key run on h =
    let s = store_from factored l (opening_front l) (find (part_pairs 0 (opening_parts l))) es in
    let f = front_from factored l (opening_front l) es in
    let k = sound_run l (opening_front l) (find (part_pairs 0 (opening_parts l))) es run (sound_opening l) in
    makes_none l f s k e (whole_enabled l f s e on).fits key h

-- the factored machine meets the laws
pub factored_lawful : IsLawful factored
factored_lawful = record { local = factored_local; leaves_others = factored_leaves_others; makes_new = factored_makes_new }
