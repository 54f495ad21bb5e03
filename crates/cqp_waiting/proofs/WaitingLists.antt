-- Channels' lists: what an event must keep of cells so that those who wait stand ready, each once.
use Rattle.std.proofs.Common.{◌≡◌, ◌≢◌, ℕ, true, false, [], ◌≤◌, ◌<◌, ◌⊎◌, inl, inr, Option, Some, None, sym, ap, subst, arith, ◌∙◌, ⊎_elim}
use Rattle.std.proofs.lemmas.Bool.{cases_lt}
use mathlib.Core.Logic.{dite}
use native.Mathlib.Decide.{ℕ_discrete}
use Rattle.cqp_book.specs.Keys.{has}
use Rattle.cqp_syntax.specs.Listing.{Listing}
use Rattle.cqp_syntax.specs.Lists.{is_distinct}
use Rattle.cqp_parts.specs.declared.part.Part.{Part}
use Rattle.cqp_parts.specs.Parts.{process_of_part}
use Rattle.cqp_machine.specs.Cells.{Channel, Cells}
use Rattle.cqp_machine.specs.After.{channel_of}
use Rattle.cqp_waiting.specs.Waiting.{is_parked, StandsReady}
use Rattle.cqp_cells.proofs.Options.{none_is_some, same_some}
use Rattle.cqp_waiting.proofs.Waits.{chan_at, waits_at, one_chan}
use Rattle.cqp_waiting.proofs.ParkedLemmas.{Parked, parked_there, there_parked, same_test}

-- those who wait stand ready, each once in a list, and a channel where none waits has no direction
pub record Lists (l : Listing) (c : Cells) : Type 0 where
  pub stand : (chan : ℕ) (channel : Channel) (i : ℕ) → c.chans chan ≡ Some channel → has i channel.waiting ≡ true → StandsReady l c chan channel i
  pub once : (chan : ℕ) (channel : Channel) → c.chans chan ≡ Some channel → is_distinct channel.waiting ≡ true
  pub idle : (chan : ℕ) (channel : Channel) → c.chans chan ≡ Some channel → channel.waiting ≡ [] → channel.outward ≡ false

-- a part that waits stands ready
pub parked_ready : (l : Listing) (c : Cells) → Lists l c → (i : ℕ) (x : Parked c.chans i) → StandsReady l c x.chan x.channel i
parked_ready l c h i x = h.stand x.chan x.channel i x.there x.waits

-- and so its process is at that channel
pub parked_at : (l : Listing) (c : Cells) → Lists l c → (i : ℕ) (p : Part) → c.parts i ≡ Some p → (x : Parked c.chans i)
    → chan_at (process_of_part l p) ≡ Some x.chan
parked_at l c h i p there x =
    let s = parked_ready l c h i x in
    let same : p ≡ s.part = same_some {x = p} {y = s.part} (sym there ∙ s.there) in
    ap (λ z. chan_at (process_of_part l z)) same ∙ waits_at x.chan (process_of_part l s.part) x.channel.outward s.ready

-- a part stands in one list at most
pub one_list : (l : Listing) (c : Cells) → Lists l c → (i : ℕ) (x y : Parked c.chans i) → x.chan ≡ y.chan
one_list l c h i x y =
    let s = parked_ready l c h i x in
    one_chan (process_of_part l s.part) x.chan y.chan (parked_at l c h i s.part s.there x) (parked_at l c h i s.part s.there y)

-- a channel that is there has a number below those that weren't reached
pub chan_below : (n : ℕ) (chans : ℕ → Option Channel) → ((j : ℕ) → n ≤ j → chans j ≡ None) → (k : ℕ) (x : Channel) → chans k ≡ Some x → k < n
chan_below n chans h k x t = ⊎_elim (λ (z : k < n). z) (λ (z : n ≤ k). absurd (none_is_some {x = x} (sym (h k z) ∙ t))) (cases_lt k n)

-- a part at a channel waits exactly where it stands in that channel's list
pub parked_here : (l : Listing) (c : Cells) → Lists l c → (n : ℕ) → ((j : ℕ) → n ≤ j → c.chans j ≡ None) → (i : ℕ) (p : Part) → c.parts i ≡ Some p
    → (chan : ℕ) (channel : Channel) → c.chans chan ≡ Some channel → chan_at (process_of_part l p) ≡ Some chan
    → is_parked n c i ≡ has i channel.waiting
parked_here l c h n below i p there chan channel chan_there at = same_test (is_parked n c i) (has i channel.waiting)
    (λ t. let x = parked_there n c i t in
    let number : x.chan ≡ chan = one_chan (process_of_part l p) x.chan chan (parked_at l c h i p there x) at in
    let same : x.channel ≡ channel = same_some {x = x.channel} {y = channel} (sym x.there ∙ (ap c.chans number ∙ chan_there)) in
    sym (ap (λ z. has i z.waiting) same) ∙ x.waits)
    (λ t. there_parked n c i (record { chan = chan; channel = channel; there = chan_there; waits = t }) (chan_below n c.chans below chan channel chan_there))

-- each channel was there, or is new
abbrev pub OldOrNew : (ℕ → Option Channel) → (ℕ → Option Channel) → Type 0
OldOrNew old new = (k : ℕ) (x : Channel) → new k ≡ Some x → (old k ≡ Some x) ⊎ (x ≡ channel_of false [])

-- in a new channel none waits
none_waits : (j : ℕ) (x : Channel) → x ≡ channel_of false [] → has j x.waiting ≡ true → ⊥
none_waits j x e h = let none : false ≡ true = sym (ap (λ z. has j z.waiting) e) ∙ h in cc

module _ (l : Listing) (c e : Cells) (h : Lists l c) (old : OldOrNew c.chans e.chans) where
  -- channels that are new have none who waits
  pub was_parked : (j : ℕ) → Parked e.chans j → Parked c.chans j
  was_parked j x = ⊎_elim
      (λ (t : c.chans x.chan ≡ Some x.channel). record { chan = x.chan; channel = x.channel; there = t; waits = x.waits })
      (λ (t : x.channel ≡ channel_of false []). absurd (none_waits j x.channel t x.waits))
      (old x.chan x.channel x.there)

  -- so the lists stay right where those who wait stay
  pub lists_kept : ((j : ℕ) → Parked c.chans j → e.parts j ≡ c.parts j) → Lists l e
  lists_kept kept = record {
    stand = λ k x j t w. ⊎_elim
        (λ (u : c.chans k ≡ Some x).
        let s = h.stand k x j u w in
        record {
          part = s.part;
          there = kept j (record { chan = k; channel = x; there = u; waits = w }) ∙ s.there;
          ready = s.ready;
        })
        (λ (u : x ≡ channel_of false []). absurd (none_waits j x u w))
        (old k x t);
    once = λ k x t. ⊎_elim (λ (u : c.chans k ≡ Some x). h.once k x u) (λ (u : x ≡ channel_of false []). ap (λ z. is_distinct z.waiting) u) (old k x t);
    idle = λ k x t w. ⊎_elim (λ (u : c.chans k ≡ Some x). h.idle k x u w) (λ (u : x ≡ channel_of false []). ap (λ z. z.outward) u) (old k x t);
  }

  -- and the same parts wait
  pub same_parked : (m n : ℕ) → n ≤ m → ((j : ℕ) → n ≤ j → c.chans j ≡ None) → ((k : ℕ) (x : Channel) → c.chans k ≡ Some x → e.chans k ≡ Some x)
      → (j : ℕ) → is_parked m e j ≡ is_parked n c j
  same_parked m n more below stays j = same_test (is_parked m e j) (is_parked n c j)
      (λ t. let x = was_parked j (parked_there m e j t) in there_parked n c j x (chan_below n c.chans below x.chan x.channel x.there))
      (λ t. let x = parked_there n c j t in
      let low = chan_below n c.chans below x.chan x.channel x.there in
      there_parked m e j (record { chan = x.chan; channel = x.channel; there = stays x.chan x.channel x.there; waits = x.waits }) (omega arith))

-- one channel changed
pub record ChangedAt (c e : Cells) (chan : ℕ) (before now : Channel) : Type 0 where
  pub was : c.chans chan ≡ Some before
  pub is : e.chans chan ≡ Some now
  pub others : (k : ℕ) → k ≢ chan → e.chans k ≡ c.chans k

module _ (l : Listing) (c e : Cells) (h : Lists l c) (chan : ℕ) (before now : Channel) (x : ChangedAt c e chan before now) where
  -- the lists stay right where the new one is
  pub lists_changed : ((j : ℕ) → has j now.waiting ≡ true → StandsReady l e chan now j) → is_distinct now.waiting ≡ true
      → (now.waiting ≡ [] → now.outward ≡ false) → ((j : ℕ) (y : Parked c.chans j) → y.chan ≢ chan → e.parts j ≡ c.parts j) → Lists l e
  lists_changed stand once idle kept = record {
    stand = λ k z j t w. dite (ℕ_discrete k chan)
        (λ (u : k ≡ chan).
        let same : z ≡ now = same_some {x = z} {y = now} (sym t ∙ (ap e.chans u ∙ x.is)) in
        let here = stand j (sym (ap (λ y. has j y.waiting) same) ∙ w) in
        subst (λ n. StandsReady l e n z j) (sym u) (subst (λ y. StandsReady l e chan y j) (sym same) here))
        (λ (u : k ≢ chan).
        let old : c.chans k ≡ Some z = sym (x.others k u) ∙ t in
        let s = h.stand k z j old w in
        record {
          part = s.part;
          there = kept j (record { chan = k; channel = z; there = old; waits = w }) u ∙ s.there;
          ready = s.ready;
        });
    once = λ k z t. dite (ℕ_discrete k chan)
        (λ (u : k ≡ chan). ap (λ y. is_distinct y.waiting) (same_some {x = z} {y = now} (sym t ∙ (ap e.chans u ∙ x.is))) ∙ once)
        (λ (u : k ≢ chan). h.once k z (sym (x.others k u) ∙ t));
    idle = λ k z t w. dite (ℕ_discrete k chan)
        (λ (u : k ≡ chan).
        let same : z ≡ now = same_some {x = z} {y = now} (sym t ∙ (ap e.chans u ∙ x.is)) in
        ap (λ y. y.outward) same ∙ idle (sym (ap (λ y. y.waiting) same) ∙ w))
        (λ (u : k ≢ chan). h.idle k z (sym (x.others k u) ∙ t) w);
  }

  -- who waits: there by the new list, elsewhere as before
  pub changed_parked : (j : ℕ) → Parked e.chans j → (has j now.waiting ≡ true) ⊎ ((y : Parked c.chans j) × (y.chan ≢ chan))
  changed_parked j y = dite (ℕ_discrete y.chan chan)
      (λ (u : y.chan ≡ chan).
      let same : y.channel ≡ now = same_some {x = y.channel} {y = now} (sym y.there ∙ (ap e.chans u ∙ x.is)) in
      inl (sym (ap (λ z. has j z.waiting) same) ∙ y.waits))
      (λ (u : y.chan ≢ chan).
      inr (record { chan = y.chan; channel = y.channel; there = sym (x.others y.chan u) ∙ y.there; waits = y.waits }, u))

  -- one who stands in both lists or in none waits as before
  pub same_waits : (n : ℕ) → ((j : ℕ) → n ≤ j → c.chans j ≡ None) → (j : ℕ) → has j now.waiting ≡ has j before.waiting → is_parked n e j ≡ is_parked n c j
  same_waits n below j same =
      let low = chan_below n c.chans below chan before x.was in
      same_test (is_parked n e j) (is_parked n c j)
      (λ t. ⊎_elim
      (λ (u : has j now.waiting ≡ true). there_parked n c j (record { chan = chan; channel = before; there = x.was; waits = sym same ∙ u }) low)
      (λ (u : (y : Parked c.chans j) × (y.chan ≢ chan)). there_parked n c j u.0 (chan_below n c.chans below u.0.chan u.0.channel u.0.there))
      (changed_parked j (parked_there n e j t)))
      (λ t. let y = parked_there n c j t in dite (ℕ_discrete y.chan chan)
      (λ (u : y.chan ≡ chan).
      let one : y.channel ≡ before = same_some {x = y.channel} {y = before} (sym y.there ∙ (ap c.chans u ∙ x.was)) in
      there_parked n e j (record { chan = chan; channel = now; there = x.is; waits = same ∙ (sym (ap (λ z. has j z.waiting) one) ∙ y.waits) }) low)
      (λ (u : y.chan ≢ chan).
      there_parked n e j (record { chan = y.chan; channel = y.channel; there = x.others y.chan u ∙ y.there; waits = y.waits })
      (chan_below n c.chans below y.chan y.channel y.there)))
