-- A binding shared out among parts side by side, one after another.
use Rattle.std.proofs.Common.{◌≡◌, ◌≢◌, ℕ, zero, suc, true, false, Bool, List, [], ◌∷◌, ◌++◌, map, ◌+◌, ◌-◌, ◌≤◌, ◌<◌, nat_lt, nat_le, length, length-drop, drop, slice_index_or, Some, None}
use Rattle.std.proofs.Common.{if◌then◌else◌, refl, sym, ap, subst, arith, ◌∙◌, ⊎_elim}
use Rattle.std.proofs.lemmas.Bool.{cases_lt, lt-ltb, le-ltb, le-leb, leb-true, leb-false}
use Rattle.std.proofs.lemmas.List.{get_or-map, ext_get_or, length-map, get_or-drop}
use Rattle.std.specs.List.{AllByRecursion}
use Rattle.cqp_syntax.specs.Ends.{end_at}
use Rattle.cqp_syntax.specs.Listing.{Listing, process_at}
use Rattle.cqp_parts.specs.declared.bind.Bind.{Bind}
use Rattle.cqp_parts.specs.declared.part.Part.{Part}
use Rattle.cqp_parts.specs.Free.{is_free}
use Rattle.cqp_parts.specs.Parts.{begins_at, IsProcessAt}
use Rattle.cqp_parts.proofs.Lists.{any_default, filter_yes, filter_no, all_at_place}
use Rattle.cqp_uses.specs.Users.{UseTables, IsUses, first_from, users_below}
use Rattle.cqp_uses.proofs.FreeAnswers.{free_first, free_none}
use Rattle.cqp_onward.specs.Sharing.{with_binding, StandApart}

-- the part at a number that has these bindings and no results
abbrev part_at : ℕ → List Bind → Part
part_at m env = record { node = m; env = env; vals = [] }

-- the part at place j, where those before place i have the binding besides
abbrev pub begun : Listing → Bind → List Bind → ℕ → List ℕ → ℕ → Part
begun l b before i ns j = begins_at l (if nat_lt j i then before ++ b ∷ [] else before) (slice_index_or ns j 0)

-- numbers that stand apart are no less than the first
least_at : (l : Listing) (a z : ℕ) (ns : List ℕ) (j : ℕ) → StandApart l a z ns → j < length ns → a ≤ slice_index_or ns j 0
least_at l a z [] j s w = absurd (omega arith)
least_at l a z (n ∷ ns) zero s w = s.0
least_at l a z (n ∷ ns) (suc j) s w = omega (arith, s.0, least_at l (end_at l n) z ns j s.1 (omega arith))

-- each ends before the next
ends_at : (l : Listing) (a z : ℕ) (ns : List ℕ) (i j : ℕ) → StandApart l a z ns → i < j → j < length ns
    → end_at l (slice_index_or ns i 0) ≤ slice_index_or ns j 0
ends_at l a z [] i j s h w = absurd (omega arith)
ends_at l a z (n ∷ ns) zero zero s h w = absurd (omega arith)
ends_at l a z (n ∷ ns) (suc i) zero s h w = absurd (omega arith)
ends_at l a z (n ∷ ns) zero (suc j) s h w = least_at l (end_at l n) z ns j s.1 (omega arith)
ends_at l a z (n ∷ ns) (suc i) (suc j) s h w = ends_at l (end_at l n) z ns i j s.1 (omega arith) (omega arith)

-- so numbers rise
rise_at : (l : Listing) (a z : ℕ) (ns : List ℕ) (i j : ℕ) → StandApart l a z ns → i ≤ j → j < length ns → slice_index_or ns i 0 ≤ slice_index_or ns j 0
rise_at l a z ns i j s h w = ⊎_elim
    (λ (t : i < j). omega (arith, ends_at l a z ns i j s t w))
    (λ (t : j ≤ i). let same : j ≡ i = omega arith in subst (λ k. slice_index_or ns k 0 ≤ slice_index_or ns j 0) same (omega arith))
    (cases_lt i j)

-- those behind place i are parted by a test against a number
pub places_parted : (l : Listing) (a z : ℕ) (ns : List ℕ) (i user : ℕ) → StandApart l a z ns → (j k d : ℕ) → j ≤ k → k < length (drop i ns)
    → nat_le (slice_index_or (drop i ns) k d) user ≡ true → nat_le (slice_index_or (drop i ns) j d) user ≡ true
places_parted l a z ns i user s j k d low w h =
    let place : (m : ℕ) → m < length (drop i ns) → slice_index_or (drop i ns) m d ≡ slice_index_or ns (i + m) 0 =
    λ m v. get_or-drop i ns m d ∙ any_default ns (i + m) d 0 (omega (arith, length-drop i ns)) in
    let less = rise_at l a z ns (i + j) (i + k) s (omega arith) (omega (arith, length-drop i ns)) in
    le-leb (slice_index_or (drop i ns) j d) user (omega (arith, place j (omega arith), place k w, less, leb-true (slice_index_or (drop i ns) k d) user h))

-- the place behind i that is found by that test isn't behind the number
pub low_at : (ns : List ℕ) (i r user : ℕ) → slice_index_or ns i 0 ≤ user → r ≤ length (drop (i + 1) ns)
    → ((j : ℕ) → j < r → j < length (drop (i + 1) ns) → nat_le (slice_index_or (drop (i + 1) ns) j 0) user ≡ true) → slice_index_or ns (i + r) 0 ≤ user
low_at ns i zero user h w low = let same : i ≡ i + 0 = omega arith in subst (λ k. slice_index_or ns k 0 ≤ user) same h
low_at ns i (suc r) user h w low =
    let same : i + 1 + r ≡ i + suc r = omega arith in
    let place = get_or-drop (i + 1) ns r 0 in
    subst (λ k. slice_index_or ns k 0 ≤ user) same
    (omega (arith, place, leb-true (slice_index_or (drop (i + 1) ns) r 0) user (low r (omega arith) (omega arith))))

-- and those behind that place are
pub high_at : (ns : List ℕ) (i r user j : ℕ) → i + r < j → j < length ns
    → ((m : ℕ) → r ≤ m → m < length (drop (i + 1) ns) → nat_le (slice_index_or (drop (i + 1) ns) m 0) user ≡ false) → user < slice_index_or ns j 0
high_at ns i r user j h w high =
    let m = j - (i + 1) in
    let same : i + 1 + (j - (i + 1)) ≡ j = omega arith in
    let place = get_or-drop (i + 1) ns m 0 in
    let told = leb-false (slice_index_or (drop (i + 1) ns) m 0) user (high m (omega arith) (omega (arith, length-drop (i + 1) ns))) in
    subst (λ k. user < slice_index_or ns k 0) same (omega (arith, place, told))

module _ (l : Listing) (b : Bind) (before : List Bind) where
  -- a part where the name isn't free goes without the binding
  not_given : (m : ℕ) → is_free b.name (process_at l m) ≡ false → begins_at l before m ≡ begins_at l (before ++ b ∷ []) m
  not_given m h =
      ap (part_at m) (sym (filter_no (λ c. is_free c.name (process_at l m)) before b h))

  -- another has it last
  given : (m : ℕ) → is_free b.name (process_at l m) ≡ true → with_binding b (begins_at l before m) ≡ begins_at l (before ++ b ∷ []) m
  given m h =
      ap (part_at m) (sym (filter_yes (λ c. is_free c.name (process_at l m)) before b h))

  -- what is given to a part, by a test
  by_test : (m : ℕ) (has : Bool) (old new : Part) → has ≡ is_free b.name (process_at l m) → old ≡ begins_at l before m
      → new ≡ (if has then with_binding b old else old) → new ≡ begins_at l (before ++ b ∷ []) m
  by_test m true old new h o n = n ∙ (ap (with_binding b) o ∙ given m (sym h))
  by_test m false old new h o n = n ∙ (o ∙ not_given m (sym h))

  module _ (ns : List ℕ) where
    -- behind place i no part has the binding yet
    begun_not : (i j : ℕ) → i ≤ j → begun l b before i ns j ≡ begins_at l before (slice_index_or ns j 0)
    begun_not i j h = rw (le-ltb j i h) refl

    -- before it all have it that are to
    begun_all : (i j : ℕ) → j < i → begun l b before i ns j ≡ begins_at l (before ++ b ∷ []) (slice_index_or ns j 0)
    begun_all i j h = rw (lt-ltb j i h) refl

    -- in the end all have it that are to
    pub begun_last : (parts : List Part) (i : ℕ) → length parts ≡ length ns → length ns ≤ i
        → ((d : Part) (j : ℕ) → j < length ns → slice_index_or parts j d ≡ begun l b before i ns j) → parts ≡ map (begins_at l (before ++ b ∷ [])) ns
    begun_last parts i count past told =
        let d : Part = record { node = 0; env = []; vals = [] } in
        ext_get_or d parts (map (begins_at l (before ++ b ∷ [])) ns) (omega (arith, count, length-map ns (begins_at l (before ++ b ∷ [])))) (λ j w.
        let here : j < length ns = omega arith in
        told d j here ∙ (begun_all i j (omega arith) ∙ sym (get_or-map (begins_at l (before ++ b ∷ [])) ns j 0 d here)))

    -- from place i on to place m nothing changes where the name is free at none of them
    skipped : (i m : ℕ) → ((j : ℕ) → i ≤ j → j < m → is_free b.name (process_at l (slice_index_or ns j 0)) ≡ false) → (j : ℕ) → j < m
        → begun l b before i ns j ≡ begun l b before m ns j
    skipped i m none j w = ⊎_elim
        (λ (t : j < i). begun_all i j t)
        (λ (t : i ≤ j). begun_not i j t ∙ not_given (slice_index_or ns j 0) (none j t w))
        (cases_lt j i) ∙ sym (begun_all m j w)

    module _ (u : UseTables) (is : IsUses l u) (a z : ℕ) (there : AllByRecursion (IsProcessAt l) ns) (apart : StandApart l a z ns) (i : ℕ)
        (within : i < length ns) where
      -- the part at place i is the first that is looked at
      abbrev from : ℕ
      from = slice_index_or ns i 0

      -- where no user is left, those left go without the binding
      pub none_left : (parts : List Part) → first_from from (users_below l (length l.nodes) b.name) ≡ None
          → ((d : Part) (j : ℕ) → j < length ns → slice_index_or parts j d ≡ begun l b before i ns j)
          → (d : Part) (j : ℕ) → j < length ns → slice_index_or parts j d ≡ begun l b before (length ns) ns j
      none_left parts none told d j w =
          let free : (k : ℕ) → i ≤ k → k < length ns → is_free b.name (process_at l (slice_index_or ns k 0)) ≡ false =
          λ k h v. free_none l u is b.name from (slice_index_or ns k 0) none (all_at_place (IsProcessAt l) ns k 0 there v) (rise_at l a z ns i k apart h v) in
          told d j w ∙ skipped i (length ns) free j w

      module _ (user k : ℕ) (first : first_from from (users_below l (length l.nodes) b.name) ≡ Some user) (on : i ≤ k) (last : k < length ns)
          (low : slice_index_or ns k 0 ≤ user) where
        -- from place i on to place k the name is free where the user is within
        free_at : (j : ℕ) → i ≤ j → j ≤ k → is_free b.name (process_at l (slice_index_or ns j 0)) ≡ nat_lt user (end_at l (slice_index_or ns j 0))
        free_at j h w =
            free_first l u is b.name from user (slice_index_or ns j 0) first (all_at_place (IsProcessAt l) ns j 0 there (omega arith))
            (rise_at l a z ns i j apart h (omega arith)) (omega (arith, low, rise_at l a z ns j k apart w last))

        -- so it isn't free at one before place k
        free_before : (j : ℕ) → i ≤ j → j < k → is_free b.name (process_at l (slice_index_or ns j 0)) ≡ false
        free_before j h w =
            free_at j h (omega arith) ∙ le-ltb user (end_at l (slice_index_or ns j 0)) (omega (arith, low, ends_at l a z ns j k apart w last))

        -- and the binding is given to the part at place k alone, or to none
        pub next_begun : (old new : List Part) (has : Bool) → has ≡ nat_lt user (end_at l (slice_index_or ns k 0))
            → ((d : Part) (j : ℕ) → j < length ns → slice_index_or old j d ≡ begun l b before i ns j)
            → ((j : ℕ) (d : Part) → j ≢ k → slice_index_or new j d ≡ slice_index_or old j d)
            → ((d : Part) → slice_index_or new k d ≡ (if has then with_binding b (slice_index_or old k d) else slice_index_or old k d))
            → (d : Part) (j : ℕ) → j < length ns → slice_index_or new j d ≡ begun l b before (k + 1) ns j
        next_begun old new has test told others here d j w = ⊎_elim
            (λ (t : j < k).
            others j d (omega arith) ∙ (told d j w ∙ (skipped i k free_before j t ∙ (begun_all k j t ∙ sym (begun_all (k + 1) j (omega arith))))))
            (λ (t : k ≤ j). ⊎_elim
            (λ (s : k < j). others j d (omega arith) ∙ (told d j w ∙ (begun_not i j (omega arith) ∙ sym (begun_not (k + 1) j (omega arith)))))
            (λ (s : j ≤ k).
            let same : k ≡ j = omega arith in
            subst (λ m. slice_index_or new m d ≡ begun l b before (k + 1) ns m) same
            (by_test (slice_index_or ns k 0) has (slice_index_or old k d) (slice_index_or new k d) (test ∙ sym (free_at k on (omega arith)))
            (told d k last ∙ begun_not i k on) (here d) ∙ sym (begun_all (k + 1) k (omega arith))))
            (cases_lt k j))
            (cases_lt j k)
