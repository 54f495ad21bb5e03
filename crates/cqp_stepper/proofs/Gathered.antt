-- Groups that are split and joined are kept.
use Rattle.std.proofs.Common.{◌≡◌, ◌≢◌, ℕ, List, [], ◌∷◌, ◌++◌, true, false, Bool, if◌then◌else◌, nat_lt, length, Option, Some, None, refl, sym, ap, subst, ◌∙◌}
use Rattle.std.proofs.Common.{eq-eqb, ne_eqb}
use Rattle.std.specs.List.{AllByRecursion, list_all}
use Rattle.std.proofs.lemmas.Bool.{and_from, or_left, or_right}
use Rattle.cqp_book.specs.Keys.{has}
use Rattle.cqp_local.proofs.KeyLemmas.{has-append}
use mathlib.Core.Logic.{dite}
use native.Mathlib.Decide.{ℕ_discrete}
use Rattle.cqp_syntax.specs.Listing.{Listing}
use Rattle.cqp_trace.specs.declared.entry.Entry.{Entry}
use Rattle.cqp_cells.proofs.Options.{none_is_some, same_some}
use Rattle.cqp_machine.specs.declared.event.Event.{Event}
use Rattle.cqp_machine.specs.After.{groups_joined, lesser, split_in, with_pieces}
use Rattle.cqp_machine.specs.Cells.{Cells as MachineCells, with_at}
use Rattle.cqp_machine.specs.Enabled.{MayJoin, MaySplit, name_of_rest}
use Rattle.cqp_machine.specs.Factors.{Held, joined, piece_of, rest_group, rest_of}
use Rattle.cqp_machine.specs.Shown.{cells_of}
use Rattle.cqp_groups.specs.Groups.{groups_in, holds}
use Rattle.cqp_events.specs.Settled.{Regroups}
use Rattle.cqp_stepper.specs.declared.cells.Cells.{Cells}
use Rattle.cqp_stepper.specs.Gathering.{HasOneMore, IsGroup, IsJoined}
use Rattle.cqp_stepper.specs.Kept.{AreDueIn, IsKept, is_that}

-- no qubit of any group is due
abbrev pub IsNoneDue : (ℕ → Option Held) → Type 0
IsNoneDue f = (n : ℕ) (g : Held) → f n ≡ Some g → g.due ≡ []

-- so it is with one more group, of which none is due
one_more : (f : ℕ → Option Held) (m : ℕ) (x : Held) → x.due ≡ [] → IsNoneDue f → IsNoneDue (with_at m (Some x) f)
one_more f m x none each n g at = dite (ℕ_discrete n m)
    (λ (e : n ≡ m).
    let here : with_at m (Some x) f n ≡ Some x = rw (eq-eqb n m e) refl in
    ap (λ (h : Held). h.due) (same_some {x = g} {y = x} (sym at ∙ here)) ∙ none)
    (λ (e : n ≢ m).
    let here : with_at m (Some x) f n ≡ f n = rw (ne_eqb n m e) refl in
    each n g (sym here ∙ at))

-- and where the one whose qubits are due is gone
one_less : (f : ℕ → Option Held) (m : ℕ) → ((n : ℕ) (g : Held) → n ≢ m → f n ≡ Some g → g.due ≡ []) → IsNoneDue (with_at m None f)
one_less f m others n g at = dite (ℕ_discrete n m)
    (λ (e : n ≡ m).
    let here : with_at m None f n ≡ None = rw (eq-eqb n m e) refl in
    absurd (none_is_some {x = g} (sym here ∙ at)))
    (λ (e : n ≢ m).
    let here : with_at m None f n ≡ f n = rw (ne_eqb n m e) refl in
    others n g e (sym here ∙ at))

-- a piece has nothing due, whichever it is
either_piece : (b : Bool) (x y : Held) → x.due ≡ [] → y.due ≡ [] → (if b then x else y).due ≡ []
either_piece true x y h k = h
either_piece false x y h k = k

-- so have all
pieces_none : (qs : List ℕ) (G : Held) (rs : List ℕ) (f : ℕ → Option Held) → IsNoneDue f → IsNoneDue (with_pieces qs G rs f)
pieces_none qs G [] f each = each
pieces_none qs G (q ∷ rs) f each =
    one_more (with_pieces qs G rs f) q (piece_of qs G q) (either_piece _ _ _ refl refl) (pieces_none qs G rs f each)

-- and the rest
rest_none : (b : Bool) (m : ℕ) (x : Held) (f : ℕ → Option Held) → x.due ≡ [] → IsNoneDue f → IsNoneDue (if b then with_at m (Some x) f else f)
rest_none true m x f none each = one_more f m x none each
rest_none false m x f none each = each

-- after a split of the only group of which qubits are due, none is
pub split_none : (f : ℕ → Option Held) (group rest : ℕ) (qs : List ℕ) (G : Held)
    → ((n : ℕ) (g : Held) → n ≢ group → f n ≡ Some g → g.due ≡ []) → IsNoneDue (split_in group qs rest (Some G) f)
split_none f group rest qs G others =
    rest_none (nat_lt 0 (length (rest_of G.qubits qs))) rest (rest_group qs G) (with_pieces qs G qs (with_at group None f)) refl
    (pieces_none qs G qs (with_at group None f) (one_less f group others))

-- after a join of two groups none is due where none was
pub join_none : (c : MachineCells) (left right : ℕ) (g h : Held) → c.groups left ≡ Some g → c.groups right ≡ Some h → IsNoneDue c.groups
    → IsNoneDue (groups_joined c left right)
join_none c left right g h first second none =
    let fewer = one_less (with_at right None c.groups) left (λ n x apart at. one_less c.groups right (λ m y other there. none m y there) n x at) in
    rw (first, second) (one_more (with_at left None (with_at right None c.groups)) (lesser left right) (joined g h) refl fewer)

-- the product has the lesser number
pub product_there : (c : MachineCells) (left right : ℕ) (g h : Held) → c.groups left ≡ Some g → c.groups right ≡ Some h
    → groups_joined c left right (lesser left right) ≡ Some (joined g h)
product_there c left right g h first second = rw (first, second, eq-eqb (lesser left right) (lesser left right) refl) refl

-- a join depends on the groups alone
pub joined_alike : (c e : MachineCells) (left right : ℕ) → c.groups ≡ e.groups → groups_joined c left right ≡ groups_joined e left right
joined_alike c e left right same = rw same refl

-- a group that has due qubits is there
pub due_there : (o : Option Held) (b : Bool) → ((g : Held) → o ≡ Some g → b ≡ nat_lt 0 (length g.due)) → (o ≡ None → b ≡ false) → b ≡ true
    → (g : Held) × (o ≡ Some g) × (g.due ≢ [])
due_there None b some none is = let not = none refl in cc
due_there (Some g) b some none is =
    (g, refl, λ e. let few : nat_lt 0 (length g.due) ≡ false = rw e refl in let told = some g refl in cc)

-- where no qubit of any group is due, none is in a list
pub none_due_in : (slots : List (Option Held)) (f : ℕ → Option Held) → groups_in slots ≡ f → IsNoneDue f → AreDueIn slots None
none_due_in slots f are none n g at other = none n g (sym (ap (λ m. m n) are) ∙ at)

module _ (l : Listing) (entries : List Entry) (s : Cells) (k : IsKept l entries s) where
  -- an event that regroups is kept
  pub regrouped_kept : (e : Event) (f : ℕ → Option Held) (groups : List (Option Held)) (due : Option ℕ) → Regroups l k.events e f
      → groups_in groups ≡ f → length groups ≡ length s.groups → AreDueIn groups due
      → IsKept l entries (record s { groups = groups; due = due })
  regrouped_kept e f groups due r are places none = record {
    events = k.events ++ e ∷ [];
    settled = r.settled;
    checked = k.checked;
    shows = r.shows ∙ k.shows;
    parts = λ n. k.parts n ∙ sym (ap (λ m. m n) r.parts);
    groups = record {
      sound = k.settled.process;
      run = r.settled.run;
      groups = are ∙ sym r.groups;
      places = places ∙ (k.groups.places ∙ sym (ap (λ z. z.qubits) r.front));
    };
    due = none;
    part_count = k.part_count ∙ sym (ap (λ z. z.parts) r.front);
    chan_count = k.chan_count ∙ sym (ap (λ z. z.chans) r.front);
    measured = k.measured;
    turn_count = k.turn_count ∙ sym (ap (λ z. z.turns) r.front);
    room = k.room;
    order_room = k.order_room;
    noted = record { right = k.noted.right; made = k.noted.made };
  }

  -- a number may be forgotten whose group has nothing due
  pub due_forgotten : (group : ℕ) → s.due ≡ Some group → ((g : Held) → groups_in s.groups group ≡ Some g → g.due ≡ [])
      → IsKept l entries (record s { due = None })
  due_forgotten group is none = record {
    events = k.events;
    settled = k.settled;
    checked = k.checked;
    shows = k.shows;
    parts = k.parts;
    groups = k.groups;
    due = λ n g at no. dite (ℕ_discrete n group)
        (λ (e : n ≡ group). none g (ap (groups_in s.groups) (sym e) ∙ at))
        (λ (e : n ≢ group). k.due n g at (ap (λ z. is_that z n) is ∙ ne_eqb group n (λ z. e (sym z))));
    part_count = k.part_count;
    chan_count = k.chan_count;
    measured = k.measured;
    turn_count = k.turn_count;
    room = k.room;
    order_room = k.order_room;
    noted = record { right = k.noted.right; made = k.noted.made };
  }

  -- a group whose qubits are due may be split
  pub may_split : (group : ℕ) (g : Held) → groups_in s.groups group ≡ Some g → g.due ≢ []
      → MaySplit (cells_of l k.events) group g.due (name_of_rest group (rest_of g.qubits g.due))
  may_split group g at some = record {
    before = g;
    there = sym (ap (λ m. m group) k.groups.groups) ∙ at;
    some = some;
    are_due = refl;
    rest_is = refl;
  }

  -- two groups may be joined where none is due
  pub may_join : (left right : ℕ) (g h : Held) → s.due ≡ None → left ≢ right → groups_in s.groups left ≡ Some g → groups_in s.groups right ≡ Some h
      → MayJoin (cells_of l k.events) left right
  may_join left right g h none apart first second = record {
    apart = apart;
    first = g;
    first_there = sym (ap (λ m. m left) k.groups.groups) ∙ first;
    first_due = k.due left g first (ap (λ z. is_that z left) none);
    second = h;
    second_there = sym (ap (λ m. m right) k.groups.groups) ∙ second;
    second_due = k.due right h second (ap (λ z. is_that z right) none);
  }

  -- after the split of the one that has due qubits, none has
  pub none_behind : (group rest : ℕ) (g : Held) → s.due ≡ Some group → groups_in s.groups group ≡ Some g
      → IsNoneDue (split_in group g.due rest ((cells_of l k.events).groups group) (cells_of l k.events).groups)
  none_behind group rest g is at =
      let same : groups_in s.groups ≡ (cells_of l k.events).groups = k.groups.groups in
      let here : (cells_of l k.events).groups group ≡ Some g = sym (ap (λ m. m group) same) ∙ at in
      subst (λ o. IsNoneDue (split_in group g.due rest o (cells_of l k.events).groups)) (sym here)
      (split_none (cells_of l k.events).groups group rest g.due g
      (λ n h apart there. k.due n h (ap (λ m. m n) same ∙ there) (ap (λ z. is_that z n) is ∙ ne_eqb group n (λ z. apart (sym z)))))

-- a group that has a qubit is there
pub group_there : (q : ℕ) (o : Option Held) → holds q o ≡ true → (g : Held) × (o ≡ Some g)
group_there q None h = cc
group_there q (Some g) h = (g, refl)

-- the product of two groups has the qubits of the first, and those of the other
pub joined_has : (s t : Cells) (group other more q : ℕ) → IsJoined s t group other more → IsGroup s group
    → holds q (groups_in s.groups other) ≡ true → HasOneMore s t group more q
joined_has s t group other more q x first has_q =
    let second = group_there q (groups_in s.groups other) has_q in
    let g = first.0 in
    let h = second.0 in
    let at : groups_in t.groups more ≡ Some (joined g h) = x.product g h first.1 second.1 in
    record {
      there = (joined g h, at);
      kept = λ p has_p.
          ap (holds p) at
          ∙ (has-append p g.qubits h.qubits ∙ or_left (has p g.qubits) (has p h.qubits) (sym (ap (holds p) first.1) ∙ has_p));
      has = ap (holds q) at
          ∙ (has-append q g.qubits h.qubits ∙ or_right (has q g.qubits) (has q h.qubits) (sym (ap (holds q) second.1) ∙ has_q));
      none = x.none;
    }

-- a group that has each of these qubits has all
pub has_all : (g : Held) (qs : List ℕ) → AllByRecursion (λ p. holds p (Some g) ≡ true) qs → list_all (λ q. has q g.qubits) qs ≡ true
has_all g [] each = refl
has_all g (q ∷ qs) each = and_from (has q g.qubits) (list_all (λ p. has p g.qubits) qs) each.0 (has_all g qs each.1)

-- what holds of each of a list, and of one more behind it
pub all_more : (P : ℕ → Type 0) (xs : List ℕ) (x : ℕ) → AllByRecursion P xs → P x → AllByRecursion P (xs ++ x ∷ [])
all_more P [] x each one = (one, tt)
all_more P (y ∷ ys) x each one = (each.0, all_more P ys x each.1 one)

-- what follows of each
pub all_follow : (P Q : ℕ → Type 0) → ((x : ℕ) → P x → Q x) → (xs : List ℕ) → AllByRecursion P xs → AllByRecursion Q xs
all_follow P Q follows [] each = tt
all_follow P Q follows (x ∷ xs) each = (follows x each.0, all_follow P Q follows xs each.1)
