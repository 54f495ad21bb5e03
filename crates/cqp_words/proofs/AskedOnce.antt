-- Words ask for one request at most.
use Rattle.std.proofs.Common.{◌≡◌, ℕ, List, [], ◌∷◌, false, refl, sym, ◌∙◌, ap₂, subst, arith, codes, bytes_eq}
use Rattle.std.specs.List.{slice_split}
use Rattle.cqp_words.specs.Items.{Flag, for_workers, for_script, for_seed, for_born, for_rules, Text, words_of, values_of}
use Rattle.cqp_words.specs.declared.choice.Choice.{Choice}
use Rattle.cqp_words.specs.declared.choice.Choice.TheVariants as by
use Rattle.cqp_words.specs.declared.request.Request.{Request}
use Rattle.cqp_words.specs.declared.request.Request.TheVariants as ask
use Rattle.cqp_words.specs.Requests.{IsNumber, IsPick, IsWatched, IsWorkers, IsChoice, IsRules, AreSaid, IsList, Asks, AskFor, is_comma}
use Rattle.cqp_words.specs.Same.{SameChoice, SameRequest}
use Rattle.cqp_words.proofs.Requesting.{items_once}
use Rattle.cqp_words.proofs.WatchedOnce.{one_text_only, number_once, watched_once}

-- texts that say one thing each say one list
said_once : {X : Type 0} (says : Text → X → Type 0) → ((t : Text) (x y : X) → says t x → says t y → x ≡ y)
    → (ts : List Text) (xs ys : List X) → AreSaid says ts xs → AreSaid says ts ys → xs ≡ ys
said_once says once [] xs ys a b = a ∙ sym b
said_once says once (t ∷ ts) [] ys a b = absurd a
said_once says once (t ∷ ts) (x ∷ xs) [] a b = absurd b
said_once says once (t ∷ ts) (x ∷ xs) (y ∷ ys) a b = ap₂ (λ z zs. z ∷ zs) (once t x y a.0 b.0) (said_once says once ts xs ys a.1 b.1)

-- a text is one script at most
script_once : (t : Text) (ms ns : List ℕ) → IsList IsPick t ms → IsList IsPick t ns → ms ≡ ns
script_once t ms ns a b = said_once IsPick (λ u m n c d. number_once u 0 4294967295 m n (omega arith) c d) (slice_split is_comma t) ms ns a b

-- values of the option name one count of workers at most
workers_once : (ts : List Text) (m n : ℕ) → IsWorkers ts m → IsWorkers ts n → m ≡ n
workers_once [] m n a b = a ∙ sym b
workers_once (t ∷ []) m n a b = number_once t 0 16 m n (omega arith) a b
workers_once (t ∷ u ∷ ts) m n a b = absurd a

-- values of options choose in one way at most
choice_once : (ss es bs : List Text) (c d : Choice) → IsChoice ss es bs c → IsChoice ss es bs d → SameChoice c d
choice_once [] [] [] (by.Script m) (by.Script n) a b = a ∙ sym b
choice_once [] [] [] (by.Script m) (by.Seed n) a b = absurd b
choice_once [] [] [] (by.Script m) (by.Born n) a b = absurd b
choice_once [] [] [] (by.Seed m) d a b = absurd a
choice_once [] [] [] (by.Born m) d a b = absurd a
choice_once (t ∷ []) [] [] (by.Script m) (by.Script n) a b = script_once t m.items n.items a b
choice_once (t ∷ []) [] [] (by.Script m) (by.Seed n) a b = absurd b
choice_once (t ∷ []) [] [] (by.Script m) (by.Born n) a b = absurd b
choice_once (t ∷ []) [] [] (by.Seed m) d a b = absurd a
choice_once (t ∷ []) [] [] (by.Born m) d a b = absurd a
choice_once [] (t ∷ []) [] (by.Script m) d a b = absurd a
choice_once [] (t ∷ []) [] (by.Seed m) (by.Script n) a b = absurd b
choice_once [] (t ∷ []) [] (by.Seed m) (by.Seed n) a b = number_once t 0 18446744073709551615 m n (omega arith) a b
choice_once [] (t ∷ []) [] (by.Seed m) (by.Born n) a b = absurd b
choice_once [] (t ∷ []) [] (by.Born m) d a b = absurd a
choice_once [] [] (t ∷ []) (by.Script m) d a b = absurd a
choice_once [] [] (t ∷ []) (by.Seed m) d a b = absurd a
choice_once [] [] (t ∷ []) (by.Born m) (by.Script n) a b = absurd b
choice_once [] [] (t ∷ []) (by.Born m) (by.Seed n) a b = absurd b
choice_once [] [] (t ∷ []) (by.Born m) (by.Born n) a b = number_once t 0 18446744073709551615 m n (omega arith) a b
choice_once ss es bs c d a b = absurd a

-- words do not begin with two different commands
other : (s u : Text) (ss us ws : List Text) → bytes_eq s u ≡ false → ws ≡ s ∷ ss → ws ≡ u ∷ us → ⊥
other s u ss us ws e a b = one_text_only s u s e refl (first s u ss us ws a b)
  where
    first : (s u : Text) (ss us ws : List Text) → ws ≡ s ∷ ss → ws ≡ u ∷ us → s ≡ u
    first s u ss us ws a b = cc

-- one text stands behind the command
one_behind : (c d t u : Text) (ws : List Text) → ws ≡ c ∷ t ∷ [] → ws ≡ d ∷ u ∷ [] → t ≡ u
one_behind c d t u ws a b = cc

-- one text is the option's value
one_value : (t u : Text) (ws : List Text) → ws ≡ t ∷ [] → ws ≡ u ∷ [] → t ≡ u
one_value t u ws a b = cc

module _ (ws : List Text) (v : Flag → List Text) where
  -- requests that the same words and values ask for are the same, command by command
  same_asked : (r s : Request) → Asks ws v r → Asks ws v s → SameRequest r s
  same_asked ask.Check ask.Check a b = tt
  same_asked ask.Check (ask.Run w2 c2) a b = absurd (other (codes "check") (codes "run") _ _ ws refl a.0 b.0)
  same_asked ask.Check ask.Replay a b = absurd (other (codes "check") (codes "replay") _ _ ws refl a.0 b.0)
  same_asked ask.Check ask.Upgrade a b = absurd (other (codes "check") (codes "upgrade") _ _ ws refl a.0 b.0)
  same_asked ask.Check (ask.Gen n2 w2) a b = absurd (other (codes "check") (codes "gen") _ _ ws refl a.0 b.1)
  same_asked ask.Check (ask.State c2) a b = absurd (other (codes "check") (codes "state") _ _ ws refl a.0 b.0)
  same_asked ask.Check ask.Bundle a b = absurd (other (codes "check") (codes "bundle") _ _ ws refl a.0 b.0)
  same_asked ask.Check (ask.Watch ws2 w2 c2) a b = absurd (other (codes "check") (codes "watch") _ _ ws refl a.0 b.1)
  same_asked (ask.Run w1 c1) ask.Check a b = absurd (other (codes "run") (codes "check") _ _ ws refl a.0 b.0)
  same_asked (ask.Run w1 c1) (ask.Run w2 c2) a b =
      (workers_once (v for_workers) w1 w2 a.1 b.1, choice_once (v for_script) (v for_seed) (v for_born) c1 c2 a.2 b.2)
  same_asked (ask.Run w1 c1) ask.Replay a b = absurd (other (codes "run") (codes "replay") _ _ ws refl a.0 b.0)
  same_asked (ask.Run w1 c1) ask.Upgrade a b = absurd (other (codes "run") (codes "upgrade") _ _ ws refl a.0 b.0)
  same_asked (ask.Run w1 c1) (ask.Gen n2 w2) a b = absurd (other (codes "run") (codes "gen") _ _ ws refl a.0 b.1)
  same_asked (ask.Run w1 c1) (ask.State c2) a b = absurd (other (codes "run") (codes "state") _ _ ws refl a.0 b.0)
  same_asked (ask.Run w1 c1) ask.Bundle a b = absurd (other (codes "run") (codes "bundle") _ _ ws refl a.0 b.0)
  same_asked (ask.Run w1 c1) (ask.Watch ws2 w2 c2) a b = absurd (other (codes "run") (codes "watch") _ _ ws refl a.0 b.1)
  same_asked ask.Replay ask.Check a b = absurd (other (codes "replay") (codes "check") _ _ ws refl a.0 b.0)
  same_asked ask.Replay (ask.Run w2 c2) a b = absurd (other (codes "replay") (codes "run") _ _ ws refl a.0 b.0)
  same_asked ask.Replay ask.Replay a b = tt
  same_asked ask.Replay ask.Upgrade a b = absurd (other (codes "replay") (codes "upgrade") _ _ ws refl a.0 b.0)
  same_asked ask.Replay (ask.Gen n2 w2) a b = absurd (other (codes "replay") (codes "gen") _ _ ws refl a.0 b.1)
  same_asked ask.Replay (ask.State c2) a b = absurd (other (codes "replay") (codes "state") _ _ ws refl a.0 b.0)
  same_asked ask.Replay ask.Bundle a b = absurd (other (codes "replay") (codes "bundle") _ _ ws refl a.0 b.0)
  same_asked ask.Replay (ask.Watch ws2 w2 c2) a b = absurd (other (codes "replay") (codes "watch") _ _ ws refl a.0 b.1)
  same_asked ask.Upgrade ask.Check a b = absurd (other (codes "upgrade") (codes "check") _ _ ws refl a.0 b.0)
  same_asked ask.Upgrade (ask.Run w2 c2) a b = absurd (other (codes "upgrade") (codes "run") _ _ ws refl a.0 b.0)
  same_asked ask.Upgrade ask.Replay a b = absurd (other (codes "upgrade") (codes "replay") _ _ ws refl a.0 b.0)
  same_asked ask.Upgrade ask.Upgrade a b = tt
  same_asked ask.Upgrade (ask.Gen n2 w2) a b = absurd (other (codes "upgrade") (codes "gen") _ _ ws refl a.0 b.1)
  same_asked ask.Upgrade (ask.State c2) a b = absurd (other (codes "upgrade") (codes "state") _ _ ws refl a.0 b.0)
  same_asked ask.Upgrade ask.Bundle a b = absurd (other (codes "upgrade") (codes "bundle") _ _ ws refl a.0 b.0)
  same_asked ask.Upgrade (ask.Watch ws2 w2 c2) a b = absurd (other (codes "upgrade") (codes "watch") _ _ ws refl a.0 b.1)
  same_asked (ask.Gen n1 w1) ask.Check a b = absurd (other (codes "gen") (codes "check") _ _ ws refl a.1 b.0)
  same_asked (ask.Gen n1 w1) (ask.Run w2 c2) a b = absurd (other (codes "gen") (codes "run") _ _ ws refl a.1 b.0)
  same_asked (ask.Gen n1 w1) ask.Replay a b = absurd (other (codes "gen") (codes "replay") _ _ ws refl a.1 b.0)
  same_asked (ask.Gen n1 w1) ask.Upgrade a b = absurd (other (codes "gen") (codes "upgrade") _ _ ws refl a.1 b.0)
  same_asked (ask.Gen n1 w1) (ask.Gen n2 w2) a b =
      let same = one_behind (codes "gen") (codes "gen") a.0 b.0 ws a.1 b.1 in
      (number_once b.0 1 100 n1 n2 (omega arith) (subst (λ t. IsNumber t 1 100 n1) same a.2) b.2, workers_once (v for_workers) w1 w2 a.3 b.3)
  same_asked (ask.Gen n1 w1) (ask.State c2) a b = absurd (other (codes "gen") (codes "state") _ _ ws refl a.1 b.0)
  same_asked (ask.Gen n1 w1) ask.Bundle a b = absurd (other (codes "gen") (codes "bundle") _ _ ws refl a.1 b.0)
  same_asked (ask.Gen n1 w1) (ask.Watch ws2 w2 c2) a b = absurd (other (codes "gen") (codes "watch") _ _ ws refl a.1 b.1)
  same_asked (ask.State c1) ask.Check a b = absurd (other (codes "state") (codes "check") _ _ ws refl a.0 b.0)
  same_asked (ask.State c1) (ask.Run w2 c2) a b = absurd (other (codes "state") (codes "run") _ _ ws refl a.0 b.0)
  same_asked (ask.State c1) ask.Replay a b = absurd (other (codes "state") (codes "replay") _ _ ws refl a.0 b.0)
  same_asked (ask.State c1) ask.Upgrade a b = absurd (other (codes "state") (codes "upgrade") _ _ ws refl a.0 b.0)
  same_asked (ask.State c1) (ask.Gen n2 w2) a b = absurd (other (codes "state") (codes "gen") _ _ ws refl a.0 b.1)
  same_asked (ask.State c1) (ask.State c2) a b = choice_once (v for_script) (v for_seed) (v for_born) c1 c2 a.2 b.2
  same_asked (ask.State c1) ask.Bundle a b = absurd (other (codes "state") (codes "bundle") _ _ ws refl a.0 b.0)
  same_asked (ask.State c1) (ask.Watch ws2 w2 c2) a b = absurd (other (codes "state") (codes "watch") _ _ ws refl a.0 b.1)
  same_asked ask.Bundle ask.Check a b = absurd (other (codes "bundle") (codes "check") _ _ ws refl a.0 b.0)
  same_asked ask.Bundle (ask.Run w2 c2) a b = absurd (other (codes "bundle") (codes "run") _ _ ws refl a.0 b.0)
  same_asked ask.Bundle ask.Replay a b = absurd (other (codes "bundle") (codes "replay") _ _ ws refl a.0 b.0)
  same_asked ask.Bundle ask.Upgrade a b = absurd (other (codes "bundle") (codes "upgrade") _ _ ws refl a.0 b.0)
  same_asked ask.Bundle (ask.Gen n2 w2) a b = absurd (other (codes "bundle") (codes "gen") _ _ ws refl a.0 b.1)
  same_asked ask.Bundle (ask.State c2) a b = absurd (other (codes "bundle") (codes "state") _ _ ws refl a.0 b.0)
  same_asked ask.Bundle ask.Bundle a b = tt
  same_asked ask.Bundle (ask.Watch ws2 w2 c2) a b = absurd (other (codes "bundle") (codes "watch") _ _ ws refl a.0 b.1)
  same_asked (ask.Watch ws1 w1 c1) ask.Check a b = absurd (other (codes "watch") (codes "check") _ _ ws refl a.1 b.0)
  same_asked (ask.Watch ws1 w1 c1) (ask.Run w2 c2) a b = absurd (other (codes "watch") (codes "run") _ _ ws refl a.1 b.0)
  same_asked (ask.Watch ws1 w1 c1) ask.Replay a b = absurd (other (codes "watch") (codes "replay") _ _ ws refl a.1 b.0)
  same_asked (ask.Watch ws1 w1 c1) ask.Upgrade a b = absurd (other (codes "watch") (codes "upgrade") _ _ ws refl a.1 b.0)
  same_asked (ask.Watch ws1 w1 c1) (ask.Gen n2 w2) a b = absurd (other (codes "watch") (codes "gen") _ _ ws refl a.1 b.1)
  same_asked (ask.Watch ws1 w1 c1) (ask.State c2) a b = absurd (other (codes "watch") (codes "state") _ _ ws refl a.1 b.0)
  same_asked (ask.Watch ws1 w1 c1) ask.Bundle a b = absurd (other (codes "watch") (codes "bundle") _ _ ws refl a.1 b.0)
  same_asked (ask.Watch ws1 w1 c1) (ask.Watch ws2 w2 c2) a b =
      let same = one_value a.0 b.0 (v for_rules) a.2 b.2 in
      let rules = said_once IsWatched watched_once (slice_split is_comma b.0) ws1.items ws2.items (subst (λ t. IsRules t ws1.items) same a.3).0 b.3.0 in
      (rules, workers_once (v for_workers) w1 w2 a.4 b.4, choice_once (v for_script) (v for_seed) (v for_born) c1 c2 a.5 b.5)

-- requests that the same words ask for are the same
pub asked_once : (words : List Text) (r s : Request) → AskFor words r → AskFor words s → SameRequest r s
asked_once words r s a b =
    let (is, are, first, asks) = a in
    let (js, be, begins, also) = b in
    let same = items_once words is js are be in
    same_asked (words_of js) (λ f. values_of f js) r s (subst (λ ks. Asks (words_of ks) (λ f. values_of f ks) r) same asks) also
