-- One argument more of an output.
use Rattle.std.proofs.Common.{◌≡◌, ℕ, ◌<◌, ◌==◌, ◌||◌, Bool, nat_lt, List, ◌∷◌, map, length, set, slice_index, sym, ap, subst}
use Rattle.std.specs.List.{AllByRecursion}
use Rattle.cqp_syntax.specs.Trees.{Slot, named}
use Rattle.cqp_syntax.specs.Preorder.{name_of}
use Rattle.cqp_types.specs.Marks.{IsMarkedBy}
use Rattle.cqp_types.specs.Sending.{is_used_again}
use Rattle.cqp_types.proofs.MarkLaws.{HasMarked, one_more, mark_more}

-- what the loop over arguments keeps, of the slots that those so far send
pub record HasSent (count n end : ℕ) (second before by : List ℕ) (ss : List Slot) (twice used : Bool) : Type 0 where
  pub names : map named (map name_of ss) ≡ ss
  pub marked : HasMarked n by (map name_of ss) twice
  pub marks : IsMarkedBy n before by
  pub used_is : used ≡ is_used_again second end ss
  pub known : AllByRecursion (λ s. name_of s < count) ss

-- an argument that sends a name
pub sends_one : (count n end : ℕ) (second before by now : List ℕ) (ss more : List Slot) (twice used t u : Bool) (x : ℕ)
    → HasSent count n end second before by ss twice used → more ≡ named x ∷ ss → x < count → x < length by → now ≡ set by x n
    → t ≡ ((slice_index by x == n) || twice) → u ≡ (nat_lt (slice_index second x) end || used) → HasSent count n end second before now more t u
sends_one count n end second before by now ss more twice used t u x h is below within marks t_is u_is =
    let all : HasSent count n end second before (set by x n) (named x ∷ ss) ((slice_index by x == n) || twice)
    (nat_lt (slice_index second x) end || used) = record {
      names = ap (λ zs. named x ∷ zs) h.names;
      marked = one_more n by (map name_of ss) twice x h.marked within;
      marks = mark_more n before by x h.marks within;
      used_is = ap (λ b. nat_lt (slice_index second x) end || b) h.used_is;
      known = (below, h.known);
    } in
    subst (λ zs. HasSent count n end second before now zs t u) (sym is)
    (subst (λ b. HasSent count n end second before b (named x ∷ ss) t u) (sym marks)
    (subst (λ b. HasSent count n end second before (set by x n) (named x ∷ ss) b u) (sym t_is)
    (subst (λ b. HasSent count n end second before (set by x n) (named x ∷ ss) ((slice_index by x == n) || twice) b) (sym u_is) all)))

-- an argument that sends none
pub sends_none : (count n end : ℕ) (second before by now : List ℕ) (ss more : List Slot) (twice used t u : Bool)
    → HasSent count n end second before by ss twice used → more ≡ ss → now ≡ by → t ≡ twice → u ≡ used → HasSent count n end second before now more t u
sends_none count n end second before by now ss more twice used t u h is marks t_is u_is =
    subst (λ zs. HasSent count n end second before now zs t u) (sym is)
    (subst (λ b. HasSent count n end second before b ss t u) (sym marks)
    (subst (λ b. HasSent count n end second before by ss b u) (sym t_is)
    (subst (λ b. HasSent count n end second before by ss twice b) (sym u_is) h)))
