-- Who waits on a side of all channels, before and after a change.
use Rattle.std.proofs.Common.{◌≡◌, ◌⊎◌, IsTrue, true, false, ℕ, zero, suc, List, [], ◌∷◌, ◌++◌, sym, ◌∙◌, subst, Bool, refl, ap, ◌==◌, ◌&&◌, ◌||◌, Some, None, Option, arith}
use mathlib.Core.Logic.{inl, inr}
use Rattle.std.proofs.lemmas.Bool.Decides.{eqb_tells}
use Rattle.std.proofs.lemmas.Option.{same_Some, none-some}
use Rattle.cqp_order.specs.declared.stand.Stand.{Stand}
use Rattle.cqp_order.specs.declared.stand.Stand.TheVariants.{Alone, Sends, Receives}
use Rattle.cqp_order.specs.Least.{IsLeast}
use Rattle.cqp_order.specs.Places.{IsSettled, Waiting, stands_in, waits}
use Rattle.cqp_order.specs.Sides.{AreWaiting, Goes, StillWaits, is_receiving, is_sending}
use Rattle.cqp_order.specs.Stands.{change, stand_at}
use Rattle.cqp_order.proofs.KeptLemmas.{changed_at, changed_not}
use Rattle.cqp_order.proofs.NumberLemmas.{eq_yes}
use Rattle.cqp_order.proofs.SplitLemmas.{least_of}

-- the test of senders passes a sender on the channel, and no other
pub sending : (c : ℕ) → is_sending c (Sends c) ≡ true
sending c = grind arith

pub sends : (c : ℕ) (s : Stand) → is_sending c s ≡ true → s ≡ Sends c
sends c Alone e = let f : false ≡ true = e in cc
sends c (Sends d) e = ap Sends (eq_yes d c e)
sends c (Receives d) e = let f : false ≡ true = e in cc

-- that of receivers a receiver
pub receiving : (c : ℕ) → is_receiving c (Receives c) ≡ true
receiving c = grind arith

pub receives : (c : ℕ) (s : Stand) → is_receiving c s ≡ true → s ≡ Receives c
receives c Alone e = let f : false ≡ true = e in cc
receives c (Sends d) e = let f : false ≡ true = e in cc
receives c (Receives d) e = ap Receives (eq_yes d c e)

-- a stand is one on the channel or not
pub sends_or_not : (s : Stand) (c : ℕ) → (s ≡ Sends c) ⊎ (s ≡ Sends c → ⊥)
sends_or_not Alone c = inr (λ f. cc)
sends_or_not (Sends d) c = elim (eqb_tells d c) [ inl e ↦ inl (ap Sends e.1) | inr e ↦ inr (λ f. let g : d ≡ c = cc in e.1 g) ]
sends_or_not (Receives d) c = inr (λ f. cc)

pub receives_or_not : (s : Stand) (c : ℕ) → (s ≡ Receives c) ⊎ (s ≡ Receives c → ⊥)
receives_or_not Alone c = inr (λ f. cc)
receives_or_not (Sends d) c = inr (λ f. cc)
receives_or_not (Receives d) c = elim (eqb_tells d c) [ inl e ↦ inl (ap Receives e.1) | inr e ↦ inr (λ f. let g : d ≡ c = cc in e.1 g) ]

-- where nobody is nobody waits
pub nobody_waits : (on : ℕ → Stand) → AreWaiting on (stand_at []) []
nobody_waits on = record {
  all = λ c k there. elim (none-some (on c) there) [ ];
  least = λ c m l. let never : false ≡ true = l.0 in cc;
}

-- a queue that is empty has nobody
pub waits_more : (side : Waiting) (c k : ℕ) → waits (side ++ [] ∷ []) c k ≡ waits side c k
waits_more [] zero k = refl
waits_more [] (suc c) k = refl
waits_more (q ∷ side) zero k = refl
waits_more (q ∷ side) (suc c) k = waits_more side c k

-- the least that waits on a channel is the least that stands so
pub waiting_least : (on : ℕ → Stand) (at : ℕ → Option Stand) (side : Waiting) → AreWaiting on at side → (c : ℕ) (m : Option ℕ)
    → IsLeast (λ k. IsTrue (waits side c k)) m → IsLeast (λ k. at k ≡ Some (on c)) m
waiting_least on at side w c None none = λ k there. none k (w.all c k there)
waiting_least on at side w c (Some m) l = (w.least c m l, λ k there. l.1 k (w.all c k there))

module _ (on : ℕ → Stand) (at to : ℕ → Option Stand) (part : ℕ) (s : Stand) (old new : Waiting) (w : AreWaiting on at old) where
  -- a part that was not there waits besides
  pub waiting_put : (f : ℕ → Stand → Bool) → ((c : ℕ) → f c (on c) ≡ true) → ((c : ℕ) (t : Stand) → f c t ≡ true → t ≡ on c) → at part ≡ None
      → ((i : ℕ) → to i ≡ change part (Some s) at i) → StillWaits f old new part s → AreWaiting on to new
  waiting_put f is passes gone changes still = record { all = λ c k there. all (part == k) c k refl there; least = least }
    where
      here : to part ≡ Some s
      here = changes part ∙ changed_at at part (Some s)

      others : (k : ℕ) → (part ≡ k → ⊥) → to k ≡ at k
      others k apart = changes k ∙ changed_not at part k (Some s) apart

      different : (k : ℕ) → (part == k) ≡ false → part ≡ k → ⊥
      different k e same = let f : (part == k) ≡ true = grind arith in cc

      all : (b : Bool) (c k : ℕ) → (part == k) ≡ b → to k ≡ Some (on c) → IsTrue (waits new c k)
      all true c k e there =
          let same : s ≡ on c = same_Some _ _ (sym here ∙ (ap to (eq_yes part k e) ∙ there)) in
          still c k ∙ (ap (λ b. (b && f c s) || waits old c k) e ∙ ap (λ b. b || waits old c k) (ap (f c) same ∙ is c))
      all false c k e there =
          still c k ∙ (ap (λ b. (b && f c s) || waits old c k) e ∙ w.all c k (sym (others k (different k e)) ∙ there))

      -- where the part isn't meant, who waits is as before
      stays : (c : ℕ) → f c s ≡ false → (b : Bool) (k : ℕ) → (part == k) ≡ b → waits new c k ≡ waits old c k
      stays c other true k e = still c k ∙ (ap (λ b. (b && f c s) || waits old c k) e ∙ ap (λ b. b || waits old c k) other)
      stays c other false k e = still c k ∙ ap (λ b. (b && f c s) || waits old c k) e

      -- who waited waits still
      more : (b : Bool) (c k : ℕ) → (part == k && f c s) ≡ b → IsTrue (waits old c k) → IsTrue (waits new c k)
      more true c k e there = still c k ∙ ap (λ b. b || waits old c k) e
      more false c k e there = still c k ∙ (ap (λ b. b || waits old c k) e ∙ there)

      by_test : (b : Bool) (c m : ℕ) → f c s ≡ b → part ≡ m → IsLeast (λ k. IsTrue (waits new c k)) (Some m) → to m ≡ Some (on c)
      by_test true c m e same l = ap to (sym same) ∙ (here ∙ ap Some (passes c s e))
      by_test false c m e same l =
          let was = w.least c m (least_of _ _ (Some m) (λ k h. sym (stays c e (part == k) k refl) ∙ h) (λ k h. stays c e (part == k) k refl ∙ h) l) in
          elim (none-some (on c) (sym gone ∙ (ap at same ∙ was))) [ ]

      by_number : (b : Bool) (c m : ℕ) → (part == m) ≡ b → IsLeast (λ k. IsTrue (waits new c k)) (Some m) → to m ≡ Some (on c)
      by_number true c m e l = by_test (f c s) c m refl (eq_yes part m e) l
      by_number false c m e l =
          let there : IsTrue (waits old c m) = sym (still c m ∙ ap (λ b. (b && f c s) || waits old c m) e) ∙ l.0 in
          others m (different m e) ∙ w.least c m (there, λ k h. l.1 k (more (part == k && f c s) c k refl h))

      least : (c m : ℕ) → IsLeast (λ k. IsTrue (waits new c k)) (Some m) → to m ≡ Some (on c)
      least c m l = by_number (part == m) c m refl l

  -- a part that stood so is gone
  pub waiting_take : ((c : ℕ) → (s ≡ on c) ⊎ (s ≡ on c → ⊥)) → at part ≡ Some s → ((i : ℕ) → to i ≡ change part None at i)
      → (parts : List (Option Stand)) → ((k : ℕ) → to k ≡ stands_in parts k) → Goes on old new s parts → AreWaiting on to new
  waiting_take or_not there changes parts are goes = record { all = all; least = least }
    where
      gone : to part ≡ None
      gone = changes part ∙ changed_at at part None

      others : (k : ℕ) → (part ≡ k → ⊥) → to k ≡ at k
      others k apart = changes k ∙ changed_not at part k None apart

      all : (c k : ℕ) → to k ≡ Some (on c) → IsTrue (waits new c k)
      all c k stands =
          let apart : part ≡ k → ⊥ = λ e. none-some (on c) (sym gone ∙ (ap to e ∙ stands)) in
          goes.kept c k (sym (are k) ∙ stands) (w.all c k (sym (others k apart) ∙ stands))

      least : (c m : ℕ) → IsLeast (λ k. IsTrue (waits new c k)) (Some m) → to m ≡ Some (on c)
      least c m l = elim (or_not c) [
        | inl e ↦ are m ∙ goes.least c m e l
        | inr n ↦ (
            let was = w.least c m (least_of _ _ (Some m) (λ k h. sym (goes.others c k n) ∙ h) (λ k h. goes.others c k n ∙ h) l) in
            let apart : part ≡ m → ⊥ = λ e. n (same_Some _ _ (sym there ∙ (ap at e ∙ was))) in
            others m apart ∙ was)
      ]

-- the side on which the part waited is settled
pub goes_settled : (on : ℕ → Stand) → ((c d : ℕ) → on c ≡ on d → c ≡ d) → (old new : Waiting) (c : ℕ) (parts : List (Option Stand))
    → IsSettled old new c parts (on c) → Goes on old new (on c) parts
goes_settled on one old new c parts settled = record { kept = kept; least = least; others = others }
  where
    kept : (d k : ℕ) → stands_in parts k ≡ Some (on d) → IsTrue (waits old d k) → IsTrue (waits new d k)
    kept d k stands there = elim (eqb_tells d c) [
      | inl e ↦ subst (λ x. IsTrue (waits new x k)) (sym e.1)
          (settled.kept k (stands ∙ ap (λ x. Some (on x)) e.1) (subst (λ x. IsTrue (waits old x k)) e.1 there))
      | inr e ↦ settled.others d k e.1 ∙ there
    ]

    least : (d m : ℕ) → on c ≡ on d → IsLeast (λ k. IsTrue (waits new d k)) (Some m) → stands_in parts m ≡ Some (on d)
    least d m e l =
        let same : c ≡ d = one c d e in
        subst (λ x. stands_in parts m ≡ Some (on x)) same (settled.least m (subst (λ x. IsLeast (λ k. IsTrue (waits new x k)) (Some m)) (sym same) l))

    others : (d k : ℕ) → (on c ≡ on d → ⊥) → waits new d k ≡ waits old d k
    others d k apart = settled.others d k (λ e. apart (ap on (sym e)))

-- a side on which it didn't wait stays
pub goes_nowhere : (on : ℕ → Stand) (side : Waiting) (s : Stand) (parts : List (Option Stand)) → ((c : ℕ) → s ≡ on c → ⊥) → Goes on side side s parts
goes_nowhere on side s parts apart = record {
  kept = λ c k stands there. there;
  least = λ c m e l. elim (apart c e) [ ];
  others = λ c k n. refl;
}
