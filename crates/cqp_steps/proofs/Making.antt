-- What was made and what is left to make are together at most the process's own.
use Rattle.std.proofs.Common.{◌≡◌, ℕ, false, refl, arith}
use Rattle.cqp_syntax.specs.Trees.{Process}
use Rattle.cqp_syntax.specs.Listing.{Listing, IsProc, root}
use Rattle.cqp_trace.specs.declared.deed.Deed.{Deed}
use Rattle.cqp_trace.specs.declared.deed.Deed.TheVariants as deed
use Rattle.cqp_machine.specs.Fronts.{qubits_by, chans_by as new_chans_by}
use Rattle.cqp_syntax.specs.Measures.{need, chans_in}
use Rattle.cqp_steps.specs.Making.{MakingLaw}
use Rattle.cqp_steps.proofs.Potentials.{AddsUp, IsMeasure, made_by, moved_less, sends_less, receives_less, total-flattened, need_measures, chans_measure}
use Rattle.cqp_steps.proofs.Potentials.{need_adds, chans_add}
use Rattle.cqp_steps.proofs.Falls.{Falls, CountsAlong, within_after}

-- each deed lowers a measure by what it makes of it
pub measure_falls : (m : Process → ℕ) (qubit chan : ℕ) (a : AddsUp m) (h : IsMeasure m qubit chan) → Falls m false (made_by m qubit chan h) 0
measure_falls m qubit chan a h = record {
  moves = λ n p d r e. let less = moved_less m qubit chan h n p d r e in let same = total-flattened m a r in omega arith;
  sends = λ k p s e. let less = sends_less m qubit chan h k p s e in let same = total-flattened m a s.rest in omega arith;
  receives = λ k vs p r e. let less = receives_less m qubit chan h k vs p r e in let same = total-flattened m a r in omega arith;
  meets = λ to k. refl;
}

-- what a deed makes of qubits and of channels
qubits_rise : (d : Deed) → qubits_by d ≡ made_by need 1 0 need_measures d
qubits_rise (deed.Qbit q) = refl
qubits_rise (deed.New k) = refl
qubits_rise deed.Act = refl
qubits_rise (deed.Add v) = refl
qubits_rise (deed.Pick o) = refl
qubits_rise (deed.Gate o qs) = refl
qubits_rise (deed.Measure qs m) = refl
qubits_rise (deed.If b) = refl
qubits_rise (deed.Com to k) = refl

-- channels made by a deed are those its count rises by
chans_rise : (d : Deed) → new_chans_by d ≡ made_by chans_in 0 1 chans_measure d
chans_rise (deed.Qbit q) = refl
chans_rise (deed.New k) = refl
chans_rise deed.Act = refl
chans_rise (deed.Add v) = refl
chans_rise (deed.Pick o) = refl
chans_rise (deed.Gate o qs) = refl
chans_rise (deed.Measure qs m) = refl
chans_rise (deed.If b) = refl
chans_rise (deed.Com to k) = refl

-- each deed lowers what is left to make of qubits
pub need_falls : Falls need false (made_by need 1 0 need_measures) 0
need_falls = measure_falls need 1 0 need_adds need_measures

-- and of channels
pub chans_fall : Falls chans_in false (made_by chans_in 0 1 chans_measure) 0
chans_fall = measure_falls chans_in 0 1 chans_add chans_measure

-- the front counts what is made
pub need_counts : (l : Listing) (sound : IsProc l) → CountsAlong l sound need false (made_by need 1 0 need_measures) 0 need_falls (λ f. f.qubits)
need_counts l sound = record {
  steps = λ f e group made gone woke level. let rise = qubits_rise e.deed in omega arith;
  parks = λ f i k. refl;
  halts = λ f i. refl;
}

-- channels are counted along the run
pub chans_count : (l : Listing) (sound : IsProc l) → CountsAlong l sound chans_in false (made_by chans_in 0 1 chans_measure) 0 chans_fall (λ f. f.chans)
chans_count l sound = record {
  steps = λ f e group made gone woke level. let rise = chans_rise e.deed in omega arith;
  parks = λ f i k. refl;
  halts = λ f i. refl;
}

-- the law of what is left to make
pub making : MakingLaw
making l es sound run =
    let needed = within_after l sound need false (made_by need 1 0 need_measures) 0 need_falls (λ f. f.qubits) (need_counts l sound) es run in
    let chans = within_after l sound chans_in false (made_by chans_in 0 1 chans_measure) 0 chans_fall (λ f. f.chans) (chans_count l sound) es run in
    let all = total-flattened need need_adds (root l) in
    let all_too = total-flattened chans_in chans_add (root l) in
    record { qubits = omega arith; chans = omega arith }
