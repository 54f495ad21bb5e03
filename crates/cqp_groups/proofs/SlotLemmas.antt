-- Groups in a list, at the places of their numbers.
use Rattle.std.proofs.Common.{◌≡◌, ◌≢◌, ℕ, ◌<◌, List, length, Option, Some, None, sym, ap, ◌∙◌}
use Rattle.std.proofs.Common.{arith, eq-eqb, ne_eqb, ⊎_elim, true, false, nat_lt, Result, Ok, Err, OnOk, OnErr, IfOk, [], ◌∷◌, ◌++◌, zero, suc, refl}
use Rattle.std.proofs.lemmas.Bool.{cases_Bool, ltb-true, ltb-false}
use Rattle.std.proofs.lemmas.List.{get_or-set_same, get_or-set_other, get_or_past, set-set, set-get_or, length-set}
use Rattle.std.specs.Prelude.{slice_set}
use mathlib.Core.Logic.{dite}
use native.Mathlib.Decide.{ℕ_discrete}
use Rattle.cqp_machine.specs.Factors.{Held, joined}
use Rattle.cqp_machine.specs.Cells.{with_at}
use Rattle.cqp_machine.specs.After.{becomes, groups_joined, lesser, product_of}
use Rattle.cqp_local.proofs.PlacedLemmas.{with_at_in, with_at_out}
use Rattle.cqp_groups.specs.Groups.{as_cells, groups_in}

-- what stands at each number after a change
put_at : (s : List (Option Held)) (n : ℕ) (x : Option Held) → n < length s → (m : ℕ) → groups_in (slice_set s n x) m ≡ with_at n x (groups_in s) m
put_at s n x h m = dite (ℕ_discrete m n)
    (λ (e : m ≡ n). ap (groups_in (slice_set s n x)) e ∙ (get_or-set_same s n x None h ∙ sym (with_at_in n m x (groups_in s) (eq-eqb m n e))))
    (λ (e : m ≢ n). get_or-set_other s n m x None e ∙ sym (with_at_out n m x (groups_in s) (ne_eqb m n e)))

-- a change in the list is one of the numbers
pub put_is : (s : List (Option Held)) (n : ℕ) (x : Option Held) → n < length s → groups_in (slice_set s n x) ≡ with_at n x (groups_in s)
put_is s n x h i m = put_at s n x h m i

-- what was taken out and put back is there again
pub put_back : (s : List (Option Held)) (n : ℕ) (x : Option Held) → groups_in s n ≡ x → slice_set (slice_set s n None) n x ≡ s
put_back s n x h = set-set s n None x ∙ (ap (slice_set s n) (sym h) ∙ set-get_or s n None)

-- what was taken out, and put back changed
pub put_changed : (s : List (Option Held)) (n : ℕ) (x : Option Held) → n < length s → groups_in (slice_set (slice_set s n None) n x) ≡ with_at n x (groups_in s)
put_changed s n x h = ap groups_in (set-set s n None x) ∙ put_is s n x h

-- nothing is no value
pub none_some : {X : Type 0} (x : X) → None ≡ Some x → ⊥
none_some x h = cc

-- a group that is there stands at a place of the list
pub held_below : (s : List (Option Held)) (n : ℕ) (G : Held) → groups_in s n ≡ Some G → n < length s
held_below s n G h = ⊎_elim
    (λ (t : nat_lt n (length s) ≡ true). ltb-true n (length s) t)
    (λ (t : nat_lt n (length s) ≡ false). absurd (none_some G (sym (get_or_past s n None (ltb-false n (length s) t)) ∙ h)))
    (cases_Bool (nat_lt n (length s)))

-- a group that was taken out, changed and put back
pub changed_to : (s t u : List (Option Held)) (n : ℕ) (f : Held → Held) (G H : Held) → groups_in s n ≡ Some G → t ≡ slice_set s n None
    → u ≡ slice_set t n (Some H) → H ≡ f G → groups_in u ≡ with_at n (becomes f (groups_in s n)) (groups_in s)
changed_to s t u n f G H there out back is =
    ap groups_in (back ∙ (ap (λ z. slice_set z n (Some H)) out ∙ ap (λ z. slice_set (slice_set s n None) n (Some z)) is))
    ∙ (put_changed s n (Some (f G)) (held_below s n G there)
    ∙ ap (λ z. with_at n (becomes f z) (groups_in s)) (sym there))

-- and put back as it was
pub kept_as : (s t u : List (Option Held)) (n : ℕ) (G H : Held) → groups_in s n ≡ Some G → t ≡ slice_set s n None
    → u ≡ slice_set t n (Some H) → H ≡ G → u ≡ s
kept_as s t u n G H there out back is =
    back ∙ (ap (λ z. slice_set z n (Some H)) out ∙ (ap (λ z. slice_set (slice_set s n None) n (Some z)) is ∙ put_back s n (Some G) there))

-- another number's group is as it was
pub others_kept : (s : List (Option Held)) (n m : ℕ) (x : Option Held) → m ≢ n → groups_in (slice_set s n x) m ≡ groups_in s m
others_kept s n m x h = get_or-set_other s n m x None h

-- two groups that were taken out, and their product put in
module _ (s t u v : List (Option Held)) (left right : ℕ) (a b : Held) (apart : left ≢ right) (first : groups_in s left ≡ Some a)
    (second : groups_in s right ≡ Some b) (out : t ≡ slice_set s right None) (also : u ≡ slice_set t left None) where
  lesser_below : lesser left right < length u
  lesser_below =
      let one : left < length s = held_below s left a first in
      let two : right < length s = held_below s right b second in
      let size : length u ≡ length s = ap length also ∙ (length-set t left None ∙ (ap length out ∙ length-set s right None)) in
      ⊎_elim
      (λ (e : nat_lt left right ≡ true). rw e (omega arith))
      (λ (e : nat_lt left right ≡ false). rw e (omega arith))
      (cases_Bool (nat_lt left right))

  -- both numbers are empty once the groups are taken out
  taken : groups_in u ≡ with_at left None (with_at right None (groups_in s))
  taken =
      let one : left < length s = held_below s left a first in
      let size : length t ≡ length s = ap length out ∙ length-set s right None in
      ap groups_in also
      ∙ (put_is t left None (omega arith)
      ∙ ap (with_at left None) (ap groups_in out ∙ put_is s right None (held_below s right b second)))

  -- with the product put in the list has the groups after the join
  pub joined_in : v ≡ slice_set u (lesser left right) (Some (joined a b)) → groups_in v ≡ groups_joined (as_cells s) left right
  joined_in put =
      ap groups_in put
      ∙ (put_is u (lesser left right) (Some (joined a b)) lesser_below
      ∙ (ap (with_at (lesser left right) (Some (joined a b))) taken
      ∙ sym (ap (λ x. with_at (lesser left right) (product_of x (groups_in s right)) (with_at left None (with_at right None (groups_in s)))) first
      ∙ ap (λ x. with_at (lesser left right) (product_of (Some a) x) (with_at left None (with_at right None (groups_in s)))) second)))

  -- as many places as before
  pub joined_size : v ≡ slice_set u (lesser left right) (Some (joined a b)) → length v ≡ length s
  joined_size put =
      ap length put
      ∙ (length-set u (lesser left right) (Some (joined a b))
      ∙ (ap length also ∙ (length-set t left None ∙ (ap length out ∙ length-set s right None))))

  -- both put back
  pub both_back : v ≡ slice_set (slice_set u left (Some a)) right (Some b) → v ≡ s
  both_back put =
      let still : groups_in t left ≡ Some a = ap (λ z. groups_in z left) out ∙ (others_kept s right left None apart ∙ first) in
      put
      ∙ (ap (λ z. slice_set z right (Some b)) (ap (λ z. slice_set z left (Some a)) also ∙ put_back t left (Some a) still)
      ∙ (ap (λ z. slice_set z right (Some b)) out ∙ put_back s right (Some b) second))

-- what holds where there is a value, or an error
pub ok_too : {T E : Type 0} (r : Result T E) (P Q : Type 0) → (P → Q) → OnOk r P → OnOk r Q
ok_too (Ok x) P Q f h = f h
ok_too (Err e) P Q f h = h

-- or where there is an error
pub err_too : {T E : Type 0} (r : Result T E) (P Q : Type 0) → (P → Q) → OnErr r P → OnErr r Q
err_too (Ok x) P Q f h = h
err_too (Err e) P Q f h = f h

-- taken out and put back, there are as many places
pub set_twice : (s t u : List (Option Held)) (n : ℕ) (x y : Option Held) → t ≡ slice_set s n x → u ≡ slice_set t n y → length u ≡ length s
set_twice s t u n x y out back = ap length back ∙ (length-set t n y ∙ (ap length out ∙ length-set s n x))

-- what holds of a value gives what follows of it
pub if_ok_too : {T E : Type 0} (r : Result T E) (P Q : T → Type 0) → ((x : T) → P x → Q x) → IfOk r P → IfOk r Q
if_ok_too (Ok x) P Q f h = f x h
if_ok_too (Err e) P Q f h = h

-- what is put at the end stands there
last_there : (s : List (Option Held)) (x : Option Held) → groups_in (s ++ x ∷ []) (length s) ≡ x
last_there [] x = refl
last_there (y ∷ s) x = last_there s x

-- and elsewhere nothing changes
elsewhere : (s : List (Option Held)) (x : Option Held) (m : ℕ) → m ≢ length s → groups_in (s ++ x ∷ []) m ≡ groups_in s m
elsewhere [] x zero e = absurd (e refl)
elsewhere [] x (suc m) e = refl
elsewhere (y ∷ s) x zero e = refl
elsewhere (y ∷ s) x (suc m) e = elsewhere s x m (λ z. e (omega arith))

-- a group more at the end
pushed_at : (s : List (Option Held)) (x : Option Held) (m : ℕ) → groups_in (s ++ x ∷ []) m ≡ with_at (length s) x (groups_in s) m
pushed_at s x m = dite (ℕ_discrete m (length s))
    (λ (e : m ≡ length s). ap (groups_in (s ++ x ∷ [])) e ∙ (last_there s x ∙ sym (with_at_in (length s) m x (groups_in s) (eq-eqb m (length s) e))))
    (λ (e : m ≢ length s). elsewhere s x m e ∙ sym (with_at_out (length s) m x (groups_in s) (ne_eqb m (length s) e)))

-- so a group at the end is a change at its number
pub pushed_is : (s : List (Option Held)) (x : Option Held) → groups_in (s ++ x ∷ []) ≡ with_at (length s) x (groups_in s)
pushed_is s x i m = pushed_at s x m i
