-- Replay's answers, once all entries are made.
use Rattle.std.proofs.Common.{◌≡◌, ℕ, ◌+◌, ◌<◌, ◌≤◌, ◌^◌, List, length, refl, sym, ap, subst, arith}
use Rattle.std.specs.Prelude.{◌≢◌, Ok, Err}
use Rattle.cqp_ring.specs.declared.weight.Weight.{Weight}
use Rattle.cqp_ring.specs.Weight.{IsLeast}
use Rattle.cqp_syntax.specs.Measures.{size}
use Rattle.cqp_syntax.specs.Trees.{Process}
use Rattle.cqp_trace.specs.declared.entry.Entry.{Entry}
use Rattle.cqp_trace.specs.declared.trace.Trace.{Trace}
use Rattle.cqp_cells.specs.Lawful.{IsLawful, IsRightEnd, exponent_after}
use Rattle.cqp_cells.specs.Path.{IsPath}
use Rattle.cqp_cells.specs.Probability.{IsProbability}
use Rattle.cqp_engine.specs.declared.replaying.ReplayEnd.{ReplayEnd}
use Rattle.cqp_engine.specs.declared.replaying.ReplayEnd.TheVariants as replayed
use Rattle.cqp_engine.specs.Progress.{Progress}
use Rattle.cqp_engine.specs.Replays.{IsRefused, IsRemade}
use Rattle.cqp_engine.proofs.Going.{EntriesAreWithin, path_short}

-- the count of all entries has room for one more
pub all_room : EntriesAreWithin → (p : Process) (es : List Entry) (n : ℕ) (s : Progress) → size p + 1 < 2 ^ 32 → IsRemade p es (Ok n) s → n + 1 < 2 ^ 32
all_room within p es n s short made =
    let path : length s.entries ≤ size s.opening = path_short within s made.0.path in
    let sizes : size s.opening ≡ size p = ap size made.0.opening in
    let many : length s.entries ≡ length es = ap length made.0.entries in
    let count : n ≡ length es = made.1 in
    omega (arith, path, sizes, many, count, short)

-- what stopped the making of entries refuses the trace
pub refused : (p : Process) (t : Trace) (e : ReplayEnd) (s : Progress) → IsRemade p t.entries (Err e) s → IsRefused p t e
refused p t (replayed.NotStep line) s h = h
refused p t (replayed.NotEnd line) s h = absurd h
refused p t (replayed.WrongWeight given right) s h = absurd h
refused p t replayed.NoMemory s h = tt

-- the path of all entries, in the trace's words
made_path : (p : Process) (es : List Entry) (n : ℕ) (s : Progress) → IsRemade p es (Ok n) s → IsPath p es s.last
made_path p es n s made = subst (λ q. IsPath q es s.last) made.0.opening (subst (λ xs. IsPath s.opening xs s.last) made.0.entries made.0.path)

-- all entries are made, and the end is wrong
pub not_end : (p : Process) (t : Trace) (n : ℕ) (s : Progress) → IsRemade p t.entries (Ok n) s
    → (IsRightEnd s.last (exponent_after s.entries s.last) t.end → ⊥) → IsRefused p t (replayed.NotEnd (n + 1))
not_end p t n s made wrong = (
  ap (λ k. k + 1) made.1,
  record {
    last = s.last;
    path = made_path p t.entries n s made;
    wrong = subst (λ es. IsRightEnd s.last (exponent_after es s.last) t.end → ⊥) made.0.entries wrong;
  },
)

-- the end is right, in the trace's words
right_end : (p : Process) (t : Trace) (n : ℕ) (s : Progress) → IsRemade p t.entries (Ok n) s
    → IsRightEnd s.last (exponent_after s.entries s.last) t.end → IsRightEnd s.last (exponent_after t.entries s.last) t.end
right_end p t n s made right = subst (λ es. IsRightEnd s.last (exponent_after es s.last) t.end) made.0.entries right

-- the probability, in the trace's words
probable : (p : Process) (t : Trace) (n : ℕ) (s : Progress) (w : Weight) → IsRemade p t.entries (Ok n) s
    → IsProbability s.opening s.entries w → IsProbability p t.entries w
probable p t n s w made is = subst (λ q. IsProbability q t.entries w) made.0.opening (subst (λ es. IsProbability s.opening es w) made.0.entries is)

-- all else is right, and the weight is another
pub wrong_weight : (p : Process) (t : Trace) (n : ℕ) (s : Progress) (w : Weight) → IsRemade p t.entries (Ok n) s
    → IsRightEnd s.last (exponent_after s.entries s.last) t.end → IsLeast w → IsProbability s.opening s.entries w → t.weight ≢ w
    → IsRefused p t (replayed.WrongWeight t.weight w)
wrong_weight p t n s w made right least is other = (
  refl,
  record {
    last = s.last;
    path = made_path p t.entries n s made;
    end = right_end p t n s made right;
    least = least;
    is = probable p t n s w made is;
    other = other;
  },
)

-- all is right
pub lawful : (p : Process) (t : Trace) (n : ℕ) (s : Progress) (w : Weight) → IsRemade p t.entries (Ok n) s
    → IsRightEnd s.last (exponent_after s.entries s.last) t.end → IsLeast w → IsProbability s.opening s.entries w → t.weight ≡ w
    → IsLawful p t × (n ≡ length t.entries)
lawful p t n s w made right least is same = (
  record {
    last = s.last;
    path = made_path p t.entries n s made;
    end = right_end p t n s made right;
    least = subst IsLeast (sym same) least;
    weight = subst (λ v. IsProbability p t.entries v) (sym same) (probable p t n s w made is);
  },
  made.1,
)
