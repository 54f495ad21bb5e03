-- The sides of all channels after a part came or left, and the least active part of a channel.
use Rattle.std.proofs.Common.{arith, ◌≡◌, ◌≤◌, ◌⊎◌, true, false, ℕ, sym, ◌∙◌, subst, Bool, refl, cond, Some, None, Option, nat_le}
use mathlib.Core.Logic.{inl, inr}
use Rattle.cqp_order.specs.declared.stand.Stand.{Stand}
use Rattle.cqp_order.specs.declared.stand.Stand.TheVariants.{Sends, Receives}
use Rattle.cqp_order.specs.Groups.{InGroup, chan_group}
use Rattle.cqp_order.specs.Least.{IsLeast}
use Rattle.cqp_order.specs.Sides.{lesser_of_both}
use Rattle.cqp_order.specs.Stands.{Meets}

module _ (at : ℕ → Option Stand) (c : ℕ) where
  -- the lesser of a sender and a receiver is the least, where each is the least of its side
  pub lesser_is : (a b : ℕ) → IsLeast (λ k. at k ≡ Some (Sends c)) (Some a) → IsLeast (λ k. at k ≡ Some (Receives c)) (Some b)
      → (t : Bool) → nat_le a b ≡ t → IsLeast (InGroup at (chan_group c)) (Some (cond t a b))
  lesser_is a b h g = by_case where
    at_least : (k : ℕ) → InGroup at (chan_group c) k → (a ≤ k) ⊎ (b ≤ k)
    at_least k (j, inl (s, r)) = inl (h.1 k s)
    at_least k (j, inr (r, s)) = inr (g.1 k r)

    by_case : (t : Bool) → nat_le a b ≡ t → IsLeast (InGroup at (chan_group c)) (Some (cond t a b))
    by_case true e = ((b, inl (h.0, g.0)), λ k x. elim (at_least k x) [ inl y ↦ y | inr y ↦ grind arith ])
    by_case false e = ((a, inr (g.0, h.0)), λ k x. elim (at_least k x) [ inl y ↦ grind arith | inr y ↦ y ])

  -- of the least sender and the least receiver, where both are there, the lesser is the least active part of the channel
  pub lesser_leads : (a b : Option ℕ) → IsLeast (λ k. at k ≡ Some (Sends c)) a → IsLeast (λ k. at k ≡ Some (Receives c)) b
      → IsLeast (InGroup at (chan_group c)) (lesser_of_both a b)
  lesser_leads None b none h = λ k x. elim x.1 [ inl y ↦ none k y.0 | inr y ↦ none x.0 y.1 ]
  lesser_leads (Some a) None h none = λ k x. elim x.1 [ inl y ↦ none x.0 y.1 | inr y ↦ none k y.0 ]
  lesser_leads (Some a) (Some b) h g = lesser_is a b h g (nat_le a b) refl

-- the least of a kind is the least of the same kind in other words
pub least_of : (P Q : ℕ → Type 0) (m : Option ℕ) → ((k : ℕ) → P k → Q k) → ((k : ℕ) → Q k → P k) → IsLeast P m → IsLeast Q m
least_of P Q None f g l = λ k q. l k (g k q)
least_of P Q (Some m) f g l = (f m l.0, λ k q. l.1 k (g k q))

-- a stand as a sender is none as a receiver, and names one channel
pub one_stand : (o : Option Stand) (c d : ℕ) → o ≡ Some (Sends c) → o ≡ Some (Receives d) → ⊥
one_stand o c d e f = let g : Some (Sends c) ≡ Some (Receives d) = sym e ∙ f in cc

-- a part sends on one channel
pub one_sending : (o : Option Stand) (c d : ℕ) → o ≡ Some (Sends c) → o ≡ Some (Sends d) → d ≡ c
one_sending o c d e f = let g : Some (Sends c) ≡ Some (Sends d) = sym e ∙ f in cc

-- a part receives on one channel
pub one_receiving : (o : Option Stand) (c d : ℕ) → o ≡ Some (Receives c) → o ≡ Some (Receives d) → d ≡ c
one_receiving o c d e f = let g : Some (Receives c) ≡ Some (Receives d) = sym e ∙ f in cc

module _ (at : ℕ → Option Stand) (part c : ℕ) where
  -- a sender meets exactly the receivers of its channel
  pub sender_meets : (m : Option ℕ) → at part ≡ Some (Sends c) → IsLeast (λ k. at k ≡ Some (Receives c)) m → IsLeast (Meets at part) m
  sender_meets m e = least_of _ _ m (λ k r. (c, inl (e, r)))
      (λ k x. elim x.1 [ inl y ↦ subst (λ d. at k ≡ Some (Receives d)) (one_sending _ c x.0 e y.0) y.1 | inr y ↦ elim (one_stand _ c x.0 e y.0) [ ] ])

  -- and a receiver the senders
  pub receiver_meets : (m : Option ℕ) → at part ≡ Some (Receives c) → IsLeast (λ k. at k ≡ Some (Sends c)) m → IsLeast (Meets at part) m
  receiver_meets m e = least_of _ _ m (λ k s. (c, inr (e, s)))
      (λ k x. elim x.1 [ inl y ↦ elim (one_stand _ x.0 c y.0 e) [ ] | inr y ↦ subst (λ d. at k ≡ Some (Sends d)) (one_receiving _ c x.0 e y.0) y.1 ])
