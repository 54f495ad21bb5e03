-- A prefix that is ready is right, and so is each typed part.
use Rattle.std.proofs.Common.{◌≡◌, ℕ, suc, List, [], ◌∷◌, length, Bool, true, false, not, ◌||◌, ◌&&◌, ◌==◌, refl, sym, ap, ◌∙◌, subst, arith}
use Rattle.std.specs.Prelude.{Some, None, Option, is_none}
use Rattle.std.proofs.lemmas.Bool.Decides.{nat_tests}
use Rattle.cqp_syntax.specs.declared.val.Val.TheVariants as val
use Rattle.cqp_syntax.specs.TypeTrees.{TypeTrees, qbit_type, chan_type}
use Rattle.cqp_syntax.specs.Trees.{Slot, named, valued, Expr, Binder, Process, input, output, branch}
use Rattle.cqp_types.specs.Types.{types_of, count_of}
use Rattle.cqp_types.specs.Contexts.{Context, Has}
use Rattle.cqp_types.specs.Derivations.{Fits, no_argument, sent_name, other_argument}
use Rattle.cqp_types.specs.Derivations.{Derives, nil_, par_, new_, qbit_, act_, input_, output_, branch_}
use Rattle.cqp_cells.specs.Redex.{Redex, or_else, next_redex, next_redex_of, redex_of}
use Rattle.cqp_paths.specs.Made.{made}
use Rattle.cqp_cells.specs.Operands.{is_name, is_channel, is_number, asked, name_left_in, name_left_at, no_number_in, no_number_at}
use Rattle.cqp_cells.specs.Operands.{no_qubit_in, no_gate_in, no_channel_at, differ_in_count, is_wrong}
use Rattle.cqp_paths.proofs.Made.{made_qubit, made_carries, made_name}
use Rattle.cqp_paths.proofs.MeetingKept.{sends_under, receives_under, same_carried}
use Rattle.cqp_paths.proofs.Values.{IsUnder, int_done}
use Rattle.cqp_paths.proofs.RightOperands.{prefix_right}
use Rattle.cqp_cells.proofs.Options.{none_is_some, same_some}
use Rattle.cqp_syntax.proofs.Bools.{fails}

-- the prefix that is ready is right
pub record IsReady (p : Process) : Type 0 where
  pub no_name : name_left_at p ≡ false
  pub numbers : no_number_at p ≡ false
  pub channel : no_channel_at p ≡ false

-- a slot with a channel's type is a channel
chan_in : {n : ℕ} {g : Context} {ts : TypeTrees} → IsUnder n g → (s : Slot) → Has g s (chan_type ts) → (is_name s ≡ false) × (not (is_channel s) ≡ false)
chan_in under (named x) h = absurd (under.no_name x _ h)
chan_in {ts = ts} under (valued (val.Qubit q)) h = absurd (wrong (under.only q (chan_type ts) h))
  where
    wrong : chan_type ts ≡ qbit_type → ⊥
    wrong e = cc
chan_in under (valued (val.Chan k)) h = (refl, refl)
chan_in under (valued v) h = absurd (cc h)

-- a typed prefix without a redex is right
pub prefix_ready : {n : ℕ} {g : Context} {p : Process} → IsUnder n g → Derives g p → redex_of p ≡ None → IsReady p
prefix_ready under nil_ h = record { no_name = refl; numbers = refl; channel = refl }
prefix_ready under (par_ splits a b) h = record { no_name = refl; numbers = refl; channel = refl }
prefix_ready under (new_ d) h = record { no_name = refl; numbers = refl; channel = refl }
prefix_ready under (qbit_ d) h = record { no_name = refl; numbers = refl; channel = refl }
prefix_ready under (act_ t d) h = record { no_name = refl; numbers = refl; channel = refl }
prefix_ready under (input_ {c = c} is d) h = let right = chan_in under c is in record { no_name = right.0; numbers = refl; channel = right.1 }
prefix_ready under (output_ {c = c} is once fits d) h = let right = chan_in under c is in record { no_name = right.0; numbers = refl; channel = right.1 }
prefix_ready {n} under (branch_ {e = e} {f = f} {p = p} {q = q} a b c d) h = by_left (next_redex e) (next_redex f) refl refl h
  where
    by_left : (o u : Option Redex) → next_redex e ≡ o → next_redex f ≡ u → or_else o (or_else u None) ≡ None → IsReady (branch e f p q)
    by_left None None at there k =
        let one : is_number e ≡ true = int_done under a at in
        let two : is_number f ≡ true = int_done under b there in
        record { no_name = refl; numbers = rw one (rw two refl); channel = refl }
    by_left None (Some s) at there k = absurd (none_is_some (sym k))
    by_left (Some s) u at there k = absurd (none_is_some (sym k))

-- a disjunction of five tests that fail fails
all_false : (a b c d e : Bool) → a ≡ false → b ≡ false → c ≡ false → d ≡ false → e ≡ false → (a || b || c || d || e) ≡ false
all_false a b c d e p q r s t = rw p (rw q (rw r (rw s t)))

-- a typed process has no wrong operand
pub none_wrong : {n : ℕ} {g : Context} (p : Process) → IsUnder n g → Derives g p → is_wrong n p ≡ false
none_wrong {n} p under d = by_redex (redex_of p) refl
  where
    by_redex : (o : Option Redex) → redex_of p ≡ o
        → (asked o name_left_in (name_left_at p) || asked o no_number_in (no_number_at p) || asked o
        (no_qubit_in n) false || asked o no_gate_in false || asked o (λ r. false) (no_channel_at p)) ≡ false
    by_redex (Some r) at = let right = prefix_right r under d at in all_false _ _ _ _ _ right.no_name right.numbers right.qubits right.operator refl
    by_redex None at = let ready = prefix_ready under d at in all_false _ _ _ _ _ ready.no_name ready.numbers refl refl ready.channel

-- the context of all that was made types no name, and its qubits were made
pub made_under : (n : ℕ) (carried : List TypeTrees) → IsUnder n (made n carried)
made_under n carried = record {
  no_name = made_name n carried;
  below = λ q t h. (made_qubit n carried q t h).0;
  only = λ q t h. (made_qubit n carried q t h).1;
  chan = made_carries n carried;
}

-- arguments that fit types are as many as these
fits_count : {g rest : Context} {es : List Expr} {ts : TypeTrees} → Fits g rest es ts → length es ≡ count_of ts
fits_count no_argument = refl
fits_count (sent_name is more) = ap suc (fits_count more)
fits_count (other_argument unsent d more) = ap suc (fits_count more)

-- binders have as many types as there are
binders_count : (bs : List Binder) → count_of (types_of bs) ≡ length bs
binders_count [] = refl
binders_count (b ∷ bs) = ap suc (binders_count bs)

-- if one test implies another, the first and not the other fails
and_last : (a b c : Bool) → (b ≡ true → c ≡ true) → (a && b && not c) ≡ false
and_last true true true f = refl
and_last true true false f = absurd (fails (f refl))
and_last true false c f = refl
and_last false b c f = refl

-- an output and an input on one channel have as many arguments as binders
pub counts_agree : {g : Context} (k : ℕ) (es : List Expr) (p : Process) (bs : List Binder) (q : Process) → Derives g (output (valued (val.Chan k)) es p)
    → Derives g (input (valued (val.Chan k)) bs q)
    → length es ≡ length bs
counts_agree {g} k es p bs q a b =
    let sends = sends_under a in
    let receives = receives_under b in
    let one : chan_type sends.carried ≡ chan_type (types_of bs) = same_some (sym sends.channel ∙ receives.0) in
    fits_count sends.fits ∙ ap count_of (same_carried one) ∙ binders_count bs

-- typed processes do not differ in the count on one channel
pub no_difference : {g : Context} (p q : Process) → Derives g p → Derives g q → differ_in_count p q ≡ false
no_difference {g} (output (valued (val.Chan k)) es p) (input (valued (val.Chan l)) bs q) a b =
    and_last (is_none (next_redex_of es)) (k == l) (length es == length bs) same_count
  where
    same_count : (k == l) ≡ true → (length es == length bs) ≡ true
    same_count e =
        let is : k ≡ l = grind (arith, nat_tests) in
        let there : Derives g (output (valued (val.Chan l)) es p) = subst (λ j. Derives g (output (valued (val.Chan j)) es p)) is a in
        let count : length es ≡ length bs = counts_agree l es p bs q there b in
        grind (arith, nat_tests)
no_difference p q a b = refl
