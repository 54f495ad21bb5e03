-- What the counters mean, and that they meet the laws of a machine.
use Rattle.std.specs.Prelude.{◌≡◌, ℕ, ◌+◌, ◌^◌, ◌<◌, ◌≤◌, ◌==◌, List, [], ◌∷◌, Option, Some, None}
use Rattle.std.specs.Prelude.{IsSome, if◌then◌else◌, refl}
use Rattle.std.proofs.Common.{ap, ◌∙◌, sym, subst, eq-eqb, ne_eqb, arith}
use Rattle.std.proofs.lemmas.Bool.{false≢true, true≢false}
use mathlib.Core.Logic.{dite}
use native.Mathlib.Decide.{ℕ_discrete}
use Rattle.cqp_book.specs.Keys.{Store, find}
use Rattle.cqp_book.specs.Meaning.{Meaning}
use Rattle.cqp_book.specs.Run.{front_from, store_from}
use Rattle.cqp_book.specs.Laws.{IsLocal, LeavesOthers, MakesNew, IsLawful}
use Rattle.cqp_book_uses.specs.declared.machine.Move.{Move}
use Rattle.cqp_book_uses.specs.declared.machine.Move.TheVariants.{Add, Make}

-- the counter, if it is there, is greater by n
abbrev pub more : ℕ → Option ℕ → Option ℕ
more n None = None
more n (Some c) = Some (c + n)

-- an addition needs its counter
abbrev pub needed : Move → List ℕ
needed (Add k n) = k ∷ []
needed Make = []

-- the next counter has the number that the front says
abbrev pub made : ℕ → Move → List ℕ
made f (Add k n) = []
made f Make = f ∷ []

-- there is the counter that is added to, or room for one more
abbrev pub MayMove : ℕ → Store ℕ → Move → Type 0
MayMove f s (Add k n) = IsSome (s k)
MayMove f s Make = f + 1 < 2 ^ 64

-- how many counters there are afterwards
abbrev pub front_next : ℕ → Move → ℕ
front_next f (Add k n) = f
front_next f Make = f + 1

-- the counters afterwards
abbrev pub moved : ℕ → Store ℕ → Move → Store ℕ
moved f s (Add k n) j = if j == k then more n (s k) else s j
moved f s Make j = if j == f then Some 0 else s j

-- one counter at first, which has the opening's value
abbrev pub counters : Meaning ℕ ℕ ℕ Move
counters = record {
  front = λ o. 1;
  cells = λ o. (0, o) ∷ [];
  needs = λ o f e. needed e;
  makes = λ o f e. made f e;
  Enabled = λ o f s e. MayMove f s e;
  next = front_next;
  after = λ o f s e. moved f s e;
}

-- a move depends on the counter that it adds to alone
counters_local : IsLocal counters
counters_local o f (Add k n) s t agree on =
    let same : s k ≡ t k = agree k (rw (eq-eqb k k refl) refl) in (
      subst (λ (x : Option ℕ). IsSome x) same on,
      λ j h. dite (ℕ_discrete j k)
          (λ z. rw (eq-eqb j k z) (ap (more n) same))
          (λ z. absurd (false≢true (rw (ne_eqb j k z) at h))),
    )
counters_local o f Make s t agree on = (
  on,
  λ j h. dite (ℕ_discrete j f)
      (λ z. rw (eq-eqb j f z) refl)
      (λ z. absurd (false≢true (rw (ne_eqb j f z) at h))),
)

-- it changes no other
counters_leaves_others : LeavesOthers counters
counters_leaves_others o f (Add k n) s j on h = dite (ℕ_discrete j k)
    (λ z. absurd (true≢false (rw (eq-eqb j k z) at h)))
    (λ z. rw (ne_eqb j k z) refl)
counters_leaves_others o f Make s j on h = dite (ℕ_discrete j f)
    (λ z. absurd (true≢false (rw (eq-eqb j f z) at h)))
    (λ z. rw (ne_eqb j f z) refl)

-- no cell at a key that the front hasn't reached
abbrev Fresh : ℕ → Store ℕ → Type 0
Fresh f s = (j : ℕ) → f ≤ j → s j ≡ None

-- it keeps to keys that the front has reached
fresh_more : (f : ℕ) (s : Store ℕ) (e : Move) → Fresh f s → Fresh (front_next f e) (moved f s e)
fresh_more f s (Add k n) fresh j up = dite (ℕ_discrete j k)
    (λ z. rw (eq-eqb j k z) (ap (more n) (ap s (sym z) ∙ fresh j up)))
    (λ z. rw (ne_eqb j k z) (fresh j up))
fresh_more f s Make fresh j up = rw (ne_eqb j f (λ z. omega arith)) (fresh j (omega arith))

-- so does a run
fresh_run : (o f : ℕ) (s : Store ℕ) (es : List Move) → Fresh f s
    → Fresh (front_from counters o f es) (store_from counters o f s es)
fresh_run o f s [] fresh = fresh
fresh_run o f s (e ∷ es) fresh =
    fresh_run o (front_next f e) (moved f s e) es (fresh_more f s e fresh)

-- and the opening
fresh_start : (o : ℕ) → Fresh 1 (find ((0, o) ∷ []))
fresh_start o j up = rw (ne_eqb j 0 (λ z. omega arith)) refl

-- so a counter that is made is new
counters_makes_new : MakesNew counters
counters_makes_new o es (Add k n) j run on h = absurd (false≢true h)
counters_makes_new o es Make j run on h = dite (ℕ_discrete j (front_from counters o 1 es))
    (λ z. fresh_run o 1 (find ((0, o) ∷ [])) es (fresh_start o) j (omega (arith, z)))
    (λ z. absurd (false≢true (rw (ne_eqb j (front_from counters o 1 es) z) at h)))

-- so they are a machine
pub counters_lawful : IsLawful counters
counters_lawful = record {
  local = counters_local;
  leaves_others = counters_leaves_others;
  makes_new = counters_makes_new;
}
