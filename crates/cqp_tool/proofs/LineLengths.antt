-- A trace's text has at most 80 bytes for each entry and 160 more.
use Rattle.std.proofs.Common.{◌≡◌, ◌+◌, ◌-◌, ◌*◌, ◌≤◌, ◌<◌, ◌^◌, ℕ, ℤ, pos, negsuc, nat_abs, suc, List, [], ◌∷◌, ◌++◌, length, codes, true, false}
use Rattle.std.proofs.Common.{◌&&◌, eqb, leb, ltb, flat_map, arith}
use Rattle.std.specs.Fmt.{decimal}
use Rattle.std.specs.List.{list_all}
use Rattle.std.proofs.lemmas.Bool.{and_parts, eqb-true, leb-true, ltb-true}
use Rattle.std.proofs.lemmas.Fmt.{length-decimal-le, length-decimal-le_wide}
use Rattle.std.proofs.lemmas.List.{length-append}
use Rattle.std.proofs.Math.Pow.{pow_mono}
use Rattle.cqp_ring.specs.Weight.{signed_text, weight_text}
use Rattle.cqp_ring.specs.declared.weight.Weight.{Weight}
use Rattle.cqp_syntax.specs.declared.op.Op.{Op}
use Rattle.cqp_syntax.specs.declared.op.Op.TheVariants as op
use Rattle.cqp_syntax.specs.Gates.{op_text, places_of}
use Rattle.cqp_trace.specs.declared.deed.Deed.{Deed}
use Rattle.cqp_trace.specs.declared.deed.Deed.TheVariants as deed
use Rattle.cqp_trace.specs.declared.end.End.{End}
use Rattle.cqp_trace.specs.declared.end.End.TheVariants as end
use Rattle.cqp_trace.specs.declared.entry.Entry.{Entry}
use Rattle.cqp_trace.specs.declared.trace.Trace.{Trace}
use Rattle.cqp_trace.specs.Text.{deed_text, end_line, end_text, entry_line, entry_text, spaced, trace_text, weight_line}
use Rattle.cqp_trace.specs.Writable.{IsWritable, IsWritableWeight, has_line, is_number, is_qubit, is_writable, is_writable_end}

-- two pieces
both : (x y : List ℕ) (m n : ℕ) → length x ≤ m → length y ≤ n → length (x ++ y) ≤ m + n
both x y m n first second = omega (arith, length-append x y, first, second)

-- a number of 32 bits
number_short : (n : ℕ) → is_number n ≡ true → length (decimal n) ≤ 10
number_short n h = let small = leb-true n (2 ^ 32 - 1) h in length-decimal-le 10 n (omega arith) (omega (arith, small)) (omega (arith, small))

-- qubits, each behind a space
spaced_short : (qs : List ℕ) → list_all is_qubit qs ≡ true → length (spaced qs) ≤ 3 * length qs
spaced_short [] h = omega arith
spaced_short (q ∷ qs) h =
    let parts = and_parts (is_qubit q) (list_all is_qubit qs) h in
    let small = leb-true q 11 parts.0 in
    let digits = length-decimal-le 2 q (omega arith) (omega (arith, small)) (omega (arith, small)) in
    let here = both (codes " ") (decimal q) 1 2 (omega arith) digits in
    let all = length-append (codes " " ++ decimal q) (spaced qs) in
    omega (arith, here, all, spaced_short qs parts.1)

-- the name of a gate
op_short : (o : Op) → length (op_text o) ≤ 7
op_short op.I = omega arith
op_short op.X = omega arith
op_short op.Y = omega arith
op_short op.Z = omega arith
op_short op.H = omega arith
op_short op.S = omega arith
op_short op.T = omega arith
op_short op.CNot = omega arith
op_short op.CZ = omega arith
op_short op.Swap = omega arith
op_short op.Toffoli = omega arith

-- a gate has at most three places
places_few : (o : Op) → places_of o ≤ 3
places_few op.I = omega arith
places_few op.X = omega arith
places_few op.Y = omega arith
places_few op.Z = omega arith
places_few op.H = omega arith
places_few op.S = omega arith
places_few op.T = omega arith
places_few op.CNot = omega arith
places_few op.CZ = omega arith
places_few op.Swap = omega arith
places_few op.Toffoli = omega arith

-- the outcome of at most twelve qubits
outcome_short : (k m : ℕ) → k ≤ 12 → m < 2 ^ k → length (decimal m) ≤ 4
outcome_short k m few small =
    let most : 2 ^ k ≤ 2 ^ 12 = pow_mono few in
    length-decimal-le 4 m (omega arith) (omega (arith, small, most)) (omega (arith, small, most))

-- what a deed is told by
deed_short : (d : Deed) → is_writable d ≡ true → length (deed_text d) ≤ 60
deed_short (deed.Qbit q) h =
    let small = leb-true q 11 h in
    let digits = length-decimal-le 2 q (omega arith) (omega (arith, small)) (omega (arith, small)) in
    omega (arith, both (codes "qbit ") (decimal q) 5 2 (omega arith) digits)
deed_short (deed.New c) h = omega (arith, both (codes "new ") (decimal c) 4 10 (omega arith) (number_short c h))
deed_short deed.Act h = omega arith
deed_short (deed.Add v) h = omega (arith, both (codes "add ") (decimal v) 4 10 (omega arith) (number_short v h))
deed_short (deed.Pick o) h = omega (arith, both (codes "pick ") (op_text o) 5 7 (omega arith) (op_short o))
deed_short (deed.Gate o qs) h =
    let parts = and_parts (eqb (length qs) (places_of o)) (list_all is_qubit qs) h in
    let many = eqb-true (length qs) (places_of o) parts.0 in
    let named = both (codes "gate ") (op_text o) 5 7 (omega arith) (op_short o) in
    let all = length-append (codes "gate " ++ op_text o) (spaced qs) in
    omega (arith, named, all, spaced_short qs parts.1, many, places_few o)
deed_short (deed.Measure qs m) h =
    let outer = and_parts ((leb 1 (length qs) && leb (length qs) 12) && list_all is_qubit qs) (ltb m (2 ^ length qs)) h in
    let inner = and_parts (leb 1 (length qs) && leb (length qs) 12) (list_all is_qubit qs) outer.0 in
    let counts = and_parts (leb 1 (length qs)) (leb (length qs) 12) inner.0 in
    let few = leb-true (length qs) 12 counts.1 in
    let first = length-append (codes "measure") (spaced qs) in
    let second = length-append (codes "measure" ++ spaced qs) (codes " = ") in
    let third = length-append (codes "measure" ++ spaced qs ++ codes " = ") (decimal m) in
    let digits = outcome_short (length qs) m few (ltb-true m (2 ^ length qs) outer.1) in
    omega (arith, first, second, third, digits, few, spaced_short qs inner.1)
deed_short (deed.Com to chan) h =
    let parts = and_parts (is_number to) (is_number chan) h in
    let first = both (codes "com ") (decimal to) 4 10 (omega arith) (number_short to parts.0) in
    let second = both (codes "com " ++ decimal to) (codes " on ") 14 4 first (omega arith) in
    omega (arith, both (codes "com " ++ decimal to ++ codes " on ") (decimal chan) 18 10 second (number_short chan parts.1))
deed_short (deed.If true) h = omega arith
deed_short (deed.If false) h = omega arith

-- the line of an entry
entry_short : (e : Entry) → has_line e ≡ true → length (entry_line e) ≤ 80
entry_short e h =
    let parts = and_parts (is_number e.part) (is_writable e.deed) h in
    let first = both (decimal e.part) (codes " ") 10 1 (number_short e.part parts.0) (omega arith) in
    let told = both (decimal e.part ++ codes " ") (deed_text e.deed) 11 60 first (deed_short e.deed parts.1) in
    omega (arith, both (entry_text e) (10 ∷ []) 71 1 told (omega arith))

-- the lines of entries
entries_short : (es : List Entry) → list_all has_line es ≡ true → length (flat_map entry_line es) ≤ 80 * length es
entries_short [] h = omega arith
entries_short (e ∷ es) h =
    let parts = and_parts (has_line e) (list_all has_line es) h in
    let all = length-append (entry_line e) (flat_map entry_line es) in
    omega (arith, all, entry_short e parts.0, entries_short es parts.1)

-- the line of an end
end_short : (e : End) → is_writable_end e ≡ true → length (end_line e) ≤ 23
end_short (end.Done left) h =
    let told = both (codes "end done ") (decimal left) 9 10 (omega arith) (number_short left h) in
    omega (arith, both (end_text (end.Done left)) (10 ∷ []) 19 1 told (omega arith))
end_short (end.Stopped part) h =
    let told = both (codes "end stopped ") (decimal part) 12 10 (omega arith) (number_short part h) in
    omega (arith, both (end_text (end.Stopped part)) (10 ∷ []) 22 1 told (omega arith))

-- a part of a weight
wide_short : (n : ℕ) → n ≤ 2 ^ 126 → length (decimal n) ≤ 38
wide_short n small = length-decimal-le_wide 38 n (omega arith) (omega (arith, small)) (omega (arith, small))

-- and with its sign
signed_short : (z : ℤ) → nat_abs z ≤ 2 ^ 126 → length (signed_text z) ≤ 39
signed_short (pos n) small = both (codes "+") (decimal n) 1 38 (omega arith) (wide_short n small)
signed_short (negsuc n) small = both (codes "-") (decimal (suc n)) 1 38 (omega arith) (wide_short (suc n) small)

-- the line of a weight
weight_short : (w : Weight) → IsWritableWeight w → length (weight_line w) ≤ 100
weight_short w h =
    let below = h.below_small in
    let digits = length-decimal-le 2 w.below (omega arith) (omega (arith, below)) (omega (arith, below)) in
    let p = codes "(" ++ decimal (nat_abs w.top.p) in
    let q = p ++ signed_text w.top.q in
    let r = q ++ codes "r)/2^" in
    let first = both (codes "(") (decimal (nat_abs w.top.p)) 1 38 (omega arith) (wide_short (nat_abs w.top.p) h.whole_small) in
    let second = both p (signed_text w.top.q) 39 39 first (signed_short w.top.q h.root_small) in
    let third = both q (codes "r)/2^") 78 5 second (omega arith) in
    let whole = both r (decimal w.below) 83 2 third digits in
    let told = both (codes "weight ") (weight_text w) 7 85 (omega arith) whole in
    omega (arith, both (codes "weight " ++ weight_text w) (10 ∷ []) 92 1 told (omega arith))

-- the text of a trace
pub trace_short : (t : Trace) → IsWritable t → length (trace_text t) ≤ 80 * length t.entries + 160
trace_short t h =
    let a = length-append (flat_map entry_line t.entries) (end_line t.end) in
    let b = length-append (flat_map entry_line t.entries ++ end_line t.end) (weight_line t.weight) in
    let c = length-append (codes "trace 2" ++ 10 ∷ []) (flat_map entry_line t.entries ++ end_line t.end ++ weight_line t.weight) in
    omega (arith, a, b, c, entries_short t.entries h.entries, end_short t.end h.end, weight_short t.weight h.weight)
